-- What a run says clause by clause, whatever it promises, and how one promise gives another.
use Rattle.std.proofs.Common.{◌≡◌, ◌≢◌, ℕ, ◌+◌, ◌≤◌, ◌⊎◌, inl, inr, Bool, List, length, take, Result, Ok, Err, IfOk}
use Rattle.std.proofs.Common.{OnErr, IfErr, IsOk, refl, ap, subst, arith}
use Rattle.aes3_refusals.specs.declared.run_error.RunError.{RunError}
use Rattle.aes3_refusals.specs.declared.run_error.RunError.TheVariants.{Read, Write}
use Rattle.aes3_cell.specs.Ends.{Grew, GrewFront, Told}
use Rattle.aes3_cell.proofs.Growing.{grew-is, front-is, told-is}
use Rattle.aes3_input.specs.Running.{Ends, Quiet, Failed, Promise, Complete, InputRan, InputRun}

-- what one promise says of an input, another says in other words
pub record Gives {A B : Type 0} (p : Promise A) (q : Promise B) : Type 0 where
  pub input : (b : List ℕ) → p.input b → q.input b
  pub whole : (b : List ℕ) → p.input b → p.whole b ≡ q.whole b
  pub begun : (b : List ℕ) → p.begun b ≡ q.begun b
  pub cause : (max : ℕ) (b : List ℕ) (ended : Bool) (e : RunError) → p.cause max b ended e → q.cause max b ended e

complete : {A B : Type 0} {p : Promise A} {q : Promise B} {max : ℕ} {b : List ℕ} {ended : Bool} → Gives p q
    → Complete p.input max b ended → Complete q.input max b ended
complete {b = b} g c = record { input = g.input b c.input; short = c.short; end = c.end }

gives-ok : {A B : Type 0} (p : Promise A) (q : Promise B) (max : ℕ) (b : List ℕ) (ends : Ends) (m : A) (n : B)
    → Gives p q → (p.input b → p.answer b m → q.answer b n) → InputRan p max b ends (Ok m)
    → InputRan q max b ends (Ok n)
gives-ok p q max b ends m n g k r
    = (complete g r.0, k r.0.input r.1, r.2, r.3, grew-is (g.whole b r.0.input) r.4, r.5)

pub gives-err : {A B : Type 0} (p : Promise A) (q : Promise B) (max : ℕ) (b : List ℕ) (ends : Ends) (e : RunError)
    → Gives p q → InputRan p max b ends (Err e) → InputRan q max b ends (Err e)
gives-err p q max b ends Write g r = (
  r.0,
  r.1,
  elim r.2 [
    | inl f ↦ inl (front-is (g.begun (take max b)) f)
    | inr f ↦ inr (complete g f.0, front-is (g.whole b f.0.input) f.1)
  ],
)
gives-err p q max b ends Read g r
    = (g.cause max b ends.ended Read r.0, r.1, r.2, grew-is (g.begun (take max b)) r.3)
gives-err p q max b ends e g r = (g.cause max b ends.ended e r.0, r.1, r.2, grew-is (g.begun (take max b)) r.3)

pub run-ok : {A B : Type 0} {p : Promise A} {q : Promise B} {max : ℕ} {ends : Ends} {m : A}
    {n : B} → Gives p q
    → ((b : List ℕ) → p.input b → p.answer b m → q.answer b n) → InputRun p max ends (Ok m)
    → InputRun q max ends (Ok n)
run-ok {p = p} {q = q} {max} {ends} {m} {n} g k run =
    record {
      bytes = run.bytes;
      given = run.given;
      few = run.few;
      ran
          = gives-ok p q max run.bytes ends m n g (k run.bytes) run.ran;
    }

abbrev pub run-err : {A B : Type 0} {p : Promise A} {q : Promise B} {max : ℕ} {ends : Ends}
    {e : RunError} → Gives p q
    → InputRun p max ends (Err e) → InputRun q max ends (Err e)
run-err {p = p} {q = q} {max} {ends} {e} g run =
    record {
      bytes = run.bytes;
      given = run.given;
      few = run.few;
      ran
          = gives-err p q max run.bytes ends e g run.ran;
    }

pub run-is : {A : Type 0} {p q : Promise A} {max : ℕ} {ends : Ends} {r : Result A RunError}
    → Gives p q
    → ((b : List ℕ) (n : A) → p.answer b n → q.answer b n) → InputRun p max ends r
    → InputRun q max ends r
run-is {r = Ok n} g k run = run-ok g (λ b i. k b n) run
run-is {r = Err e} g k run = run-err g run

-- of a source that tells its bytes
pub run-told : {A : Type 0} {p : Promise A} {max : ℕ} {ends : Ends} {r : Result A RunError}
    → InputRun p max ends r → (b : List ℕ) → Told ends.source.old ends.source.new b
    → InputRan p max b ends r
run-told {p = p} {max} {ends} {r} run b t
    = subst (λ (v : List ℕ). InputRan p max v ends r) (told-is run.given t) run.ran

pub run-few : {A : Type 0} {p : Promise A} {max : ℕ} {ends : Ends} {r : Result A RunError}
    → InputRun p max ends r → (b : List ℕ) → Told ends.source.old ends.source.new b → length b ≤ max + 1
run-few {max = max} run b t = subst (λ (v : List ℕ). length v ≤ max + 1) (told-is run.given t) run.few

-- its clauses where it was not refused
pub run-wrote : {A : Type 0} {p : Promise A} {max : ℕ} {ends : Ends} (r : Result A RunError)
    → InputRun p max ends r
    → IfOk r (λ (n : A). (b : List ℕ) → Told ends.source.old ends.source.new b
    → Grew ends.sink.old ends.sink.new (p.whole b))
run-wrote (Ok n) run = λ b t. (run-told run b t).4
run-wrote (Err e) run = tt

pub run-input : {A : Type 0} {p : Promise A} {max : ℕ} {ends : Ends} (r : Result A RunError)
    → InputRun p max ends r → IfOk r (λ (n : A). (b : List ℕ) → Told ends.source.old ends.source.new b → p.input b)
run-input (Ok n) run = λ b t. (run-told run b t).0.input
run-input (Err e) run = tt

pub run-answer : {A : Type 0} {p : Promise A} {max : ℕ} {ends : Ends} (r : Result A RunError)
    → InputRun p max ends r
    → IfOk r (λ (n : A). (b : List ℕ) → Told ends.source.old ends.source.new b → p.answer b n)
run-answer (Ok n) run = λ b t. (run-told run b t).1
run-answer (Err e) run = tt

pub run-fits : {A : Type 0} {p : Promise A} {max : ℕ} {ends : Ends} (r : Result A RunError)
    → InputRun p max ends r
    → IfOk r (λ (n : A). (b : List ℕ) → Told ends.source.old ends.source.new b → length b ≤ max)
run-fits (Ok n) run = λ b t. (run-told run b t).0.short
run-fits (Err e) run = tt

pub run-passed : {A : Type 0} {p : Promise A} {max : ℕ} {ends : Ends} (r : Result A RunError)
    → InputRun p max ends r → IfOk r (λ (n : A). ends.passed ≡ ends.sink.new)
run-passed (Ok n) run = run.ran.5
run-passed (Err e) run = tt

-- and where it was
cause : {A : Type 0} (p : Promise A) (max : ℕ) (b : List ℕ) (ends : Ends) (e : RunError)
    → (length b ≤ max + 1 → p.cause max b ends.ended Write) → length b ≤ max + 1 → InputRan p max b ends (Err e)
    → p.cause max b ends.ended e
cause p max b ends Write w l r = w l
cause p max b ends Read w l r = r.0
cause p max b ends e w l r = r.0

pub run-cause : {A : Type 0} {p : Promise A} {max : ℕ} {ends : Ends} (r : Result A RunError)
    → ((b : List ℕ) → length b ≤ max + 1 → p.cause max b ends.ended Write) → InputRun p max ends r
    → IfErr r (λ (e : RunError). (b : List ℕ) → Told ends.source.old ends.source.new b → p.cause max b ends.ended e)
run-cause (Ok n) w run = tt
run-cause {p = p} {max} {ends} (Err e) w run
    = λ b t. cause p max b ends e (w b) (run-few run b t) (run-told run b t)

refused : {A : Type 0} (p : Promise A) (max : ℕ) (b : List ℕ) (ends : Ends) (e : RunError)
    → InputRan p max b ends (Err e)
    → e ≢ Write → Grew ends.sink.old ends.sink.new (p.begun (take max b))
refused p max b ends Write r n = absurd (n refl)
refused p max b ends Read r n = r.3
refused p max b ends e r n = r.3

pub run-refused : {A : Type 0} {p : Promise A} {max : ℕ} {ends : Ends} (r : Result A RunError)
    → InputRun p max ends r
    → OnErr r (r ≢ Err Write → (b : List ℕ) → Told ends.source.old ends.source.new b
    → Grew ends.sink.old ends.sink.new (p.begun (take max b)))
run-refused (Ok n) run = tt
run-refused {p = p} {max} {ends} (Err e) run
    = λ n b t. refused p max b ends e (run-told run b t) (λ q. n (ap (λ v. Err v) q))

pub run-front : {A : Type 0} {p : Promise A} {max : ℕ} {ends : Ends} (r : Result A RunError)
    → InputRun p max ends r
    → r ≡ Err Write → (b : List ℕ) → Told ends.source.old ends.source.new b
    → GrewFront ends.sink.old ends.sink.new (p.begun (take max b))
    ⊎ (Complete p.input max b ends.ended × GrewFront ends.sink.old ends.sink.new (p.whole b))
run-front {p = p} {max} {ends} r run w b t
    = (subst (λ v. InputRan p max b ends v) w (run-told run b t)).2

pub run-write : {A : Type 0} {p : Promise A} {max : ℕ} {ends : Ends} {r : Result A RunError}
    → InputRun p max ends r → r ≡ Err Write → Failed ends.sink
run-write {p = p} {max} {ends} run q
    = (subst (λ v. InputRan p max run.bytes ends v) q run.ran).1

pub quiet-sink : {A : Type 0} (p : Promise A) (max : ℕ) (b : List ℕ) (ends : Ends) (e : RunError)
    → InputRan p max b ends (Err e)
    → e ≢ Write → Quiet ends.sink
quiet-sink p max b ends Write r n = absurd (n refl)
quiet-sink p max b ends Read r n = r.2
quiet-sink p max b ends e r n = r.2

pub run-sink_quiet : {A : Type 0} {p : Promise A} {max : ℕ} {ends : Ends}
    (r : Result A RunError) → InputRun p max ends r
    → r ≢ Err Write → Quiet ends.sink
run-sink_quiet (Ok n) run p = run.ran.3
run-sink_quiet {p = p} {max} {ends} (Err e) run n
    = quiet-sink p max run.bytes ends e run.ran (λ q. n (ap (λ v. Err v) q))

-- Ok is owed where no cause can be told of an input that fits, and neither end failed
owed : {A : Type 0} (p : Promise A) (max : ℕ) (b : List ℕ) (ends : Ends)
    (r : Result A RunError) → InputRan p max b ends r
    → ((e : RunError) → e ≢ Read → e ≢ Write → p.cause max b ends.ended e → ⊥)
    → Quiet ends.source → Quiet ends.sink → IsOk r
owed p max b ends (Ok n) r none q k = refl
owed p max b ends (Err Write) r none q k = absurd (let v = r.1 in omega arith)
owed p max b ends (Err Read) r none q k = absurd (let v = r.1 in omega arith)
owed p max b ends (Err e) r none q k = absurd (none e (λ w. cc) (λ w. cc) r.0)

pub run-owed : {A : Type 0} {p : Promise A} {max : ℕ} {ends : Ends} {r : Result A RunError}
    → InputRun p max ends r
    → (b : List ℕ) → Told ends.source.old ends.source.new b
    → ((e : RunError) → e ≢ Read → e ≢ Write → p.cause max b ends.ended e → ⊥)
    → Quiet ends.source → Quiet ends.sink → IsOk r
run-owed {p = p} {max} {ends} {r} run b t none q k
    = owed p max b ends r (run-told run b t) none q k
