-- The loop over pieces, and each way out of it.
use Rattle.std.proofs.Common.{◌≡◌, ℕ, ◌+◌, ◌-◌, ◌<◌, ◌≤◌, inl, inr, Bool, IsTrue, List, [], ◌++◌, length, take, Option}
use Rattle.std.proofs.Common.{None, Ok, Err, sym, ap, ◌∙◌, subst, append-nil, arith, length-append}
use Rattle.std.proofs.lemmas.Bool.{cases_lt}
use Rattle.std.proofs.lemmas.List.{take_all, take-take, length-take-le}
use Rattle.std.proofs.Math.Seq.{take-append-add}
use Rattle.aes3_refusals.specs.declared.run_error.RunError.{RunError}
use Rattle.aes3_refusals.specs.declared.run_error.RunError.TheVariants.{Read, Write, TooLong}
use Rattle.aes3_cell.specs.Ends.{Grew}
use Rattle.aes3_cell.proofs.Growing.{grew-join, grew-is, front-join, front-is}
use Rattle.aes3_input.specs.Converting.{Reading, before_fault, first_fault, out, whole}
use Rattle.aes3_input.specs.Running.{Ends, Fed, PieceRan, EndRan, InputRan, Left, Run, Movement, Quiet, Clean, CleanEnd}
use Rattle.aes3_input.specs.Running.{InputState, converted}
use Rattle.aes3_input.proofs.Outputs.{before-all}
use Rattle.aes3_input.proofs.Feeding.{fed-is, fed-join, ran-join}

-- the run so far: the bytes that came are fed
pub record Upto (r₀ r : Reading) (f₀ f : List ℕ → Type 0) (g₀ g t₀ t : Option (List ℕ)) (seen : ℕ) : Type 0 where
  pub bytes : List ℕ
  pub given : Grew g₀ g bytes
  pub count : seen ≡ length bytes
  pub fed : Fed r₀ r f₀ f t₀ t bytes

-- the change of an end
abbrev pub changed : Option (List ℕ) → Option (List ℕ) → ℕ → ℕ → Movement
changed old new failed_old failed_new
    = record { old = old; new = new; failed_old = failed_old; failed_new = failed_new }

-- both ends by these changes
abbrev pub ends_by : Bool → Movement → Movement → Option (List ℕ) → Ends
ends_by ended source sink passed = record { ended = ended; source = source; sink = sink; passed = passed }

-- which of the bytes may be taken, with the last piece
allowed-is : (max : ℕ) (a buf : List ℕ) (n j room : ℕ) → length a ≤ max → room ≡ max + 1 - length a → n ≤ room
    → n ≤ length buf
    → (n ≡ room → j + 1 ≡ n) → (n < room → j ≡ n) → take max (a ++ take n buf) ≡ a ++ take j buf
allowed-is max a buf n j room h r le lb last all =
    let k = max - length a in
    let e : length a + k ≡ max = omega arith in
    let t : take max (a ++ take n buf) ≡ a ++ take k (take n buf)
    = ap (λ z. take z (a ++ take n buf)) (sym e) ∙ take-append-add a (take n buf) k in
    let l : length (take n buf) ≡ n = length-take-le n buf lb in
    t ∙ ap (λ z. a ++ z) (elim (cases_lt n room) [
      | inl q ↦ take_all k (take n buf) (omega arith) ∙ ap (λ z. take z buf) (sym (all q))
      | inr q ↦ take-take k n buf (omega arith) ∙ ap (λ z. take z buf) (let i = last (omega arith) in omega arith)
    ])

pub allowed-within : (n j room : ℕ) → n ≤ room → (n ≡ room → j + 1 ≡ n) → (n < room → j ≡ n) → (j ≤ n) × (j + 1 ≤ room)
allowed-within n j room r last all = elim (cases_lt n room) [
  | inl q ↦ let e = all q in (omega arith, omega arith)
  | inr q ↦ let e = last (omega arith) in (omega arith, omega arith)
]

-- a piece that was fed
pub upto-more : {r₀ r r' : Reading} {f₀ f f' : List ℕ
    → Type 0} {g₀ g g' t₀ t t' : Option (List ℕ)} {seen : ℕ} {p : List ℕ}
    → Upto r₀ r f₀ f g₀ g t₀ t seen → Grew g g' p → Fed r r' f f' t t' p
    → Upto r₀ r' f₀ f' g₀ g' t₀ t' (seen + length p)
upto-more {p = p} u h d = record {
  bytes = u.bytes ++ p;
  given = grew-join u.given h;
  count
      = ap (λ z. z + length p) u.count ∙ sym (length-append u.bytes p);
  fed = fed-join u.fed d;
}

-- what was written, and no fault, from the start
written : {r₀ r : Reading} {f₀ f : List ℕ → Type 0} {t₀ t : Option (List ℕ)} {a : List ℕ} → Fed r₀ r f₀ f t₀ t a → f₀ []
    → Grew t₀ t (out r₀ a)
unfolding out
written d h = d.grew [] h

faultless : {r₀ r : Reading} {f₀ f : List ℕ → Type 0} {t₀ t : Option (List ℕ)} {a : List ℕ} → Fed r₀ r f₀ f t₀ t a
    → f₀ [] → first_fault r₀ a ≡ None
unfolding first_fault
faultless d h = d.clean [] h

-- the source fails
pub ran-read : (max : ℕ) (old new : InputState) {g₀ g : Option (List ℕ)}
    (g' : Option (List ℕ)) {t₀ t p : Option (List ℕ)} {seen : ℕ} (ended : Bool) (n₀ n n' k₀ k : ℕ)
    → Upto old.reads new.reads old.follows new.follows g₀ g t₀ t seen → old.follows [] → seen ≤ max → n ≡ n₀ → k ≡ k₀
    → n' ≡ n + 1 → g' ≡ g
    → Run max old new (ends_by ended (changed g₀ g' n₀ n') (changed t₀ t k₀ k) p) (Err Read)
ran-read max old new {g₀ = g₀} g' ended n₀ n n' k₀ k u h le es ek e eg =
    let l = u.count in
    let all : take max u.bytes ≡ u.bytes = take_all max u.bytes (omega arith) in
    record {
      run = record {
        bytes = u.bytes;
        given = subst (λ (v : Option (List ℕ)). Grew g₀ v u.bytes) (sym eg) u.given;
        few = omega arith;
        ran = (
          record { short = omega arith; clean = faultless u.fed h },
          e ∙ ap (λ v. v + 1) es,
          ek,
          grew-is (ap (out old.reads) (sym all)) (written u.fed h),
        );
      };
      left = subst new.follows (sym all) (u.fed.follows [] h);
    }

-- the source has ended
pub ran-end : (max : ℕ) (old mid new : InputState)
    {g₀ g g' t₀ t p : Option (List ℕ)} (t' : Option (List ℕ)) {seen : ℕ} (ended : Bool) (n₀ n k₀ k k' : ℕ)
    → Upto old.reads mid.reads old.follows mid.follows g₀ g t₀ t seen → old.follows [] → seen ≤ max → n ≡ n₀ → k ≡ k₀
    → Grew g g' [] → IsTrue ended
    → EndRan mid new (changed t t' k k') (Ok tt) → p ≡ t'
    → Run max old new (ends_by ended (changed g₀ g' n₀ n) (changed t₀ t' k₀ k') p) (Ok seen)
unfolding whole
ran-end max old mid new t' ended n₀ n k₀ k k' u h le es ek eg en e passed =
    let l = u.count in
    let b = u.bytes in
    let q = e.0 b (u.fed.follows [] h) in
    record {
      run = record {
        bytes = b;
        given = grew-is (append-nil b) (grew-join u.given eg);
        few = omega arith;
        ran = (
          record {
            input = record { clean = faultless u.fed h; end_clean = ap (λ v. v.end_fault b) (sym u.fed.same) ∙ q.0 };
            short = omega arith;
            end = en;
          },
          (q.1, u.count),
          es,
          e.1 ∙ ek,
          grew-join (written u.fed h) (grew-is (ap (λ v. v.ends b) u.fed.same) q.2),
          passed,
        );
      };
      left = tt;
    }

ended-as : (max : ℕ) (old mid new : InputState) (b : List ℕ) (ended : Bool) (source : Movement)
    (t₀ t t' p : Option (List ℕ)) (k₀ k k' : ℕ) (e : RunError)
    → CleanEnd max old.reads b ended → mid.reads ≡ old.reads → mid.follows b → Quiet source → k ≡ k₀
    → Grew t₀ t (out old.reads b)
    → EndRan mid new (changed t t' k k') (Err e)
    → InputRan (converted old.reads new.finished) max b (ends_by ended source (changed t₀ t' k₀ k') p) (Err e)
unfolding whole
ended-as max old mid new b ended source t₀ t t' p k₀ k k' Write c same h q ek g w =
    let v = w.0 b h in
    let n : old.reads.end_fault b ≡ None = ap (λ v. v.end_fault b) (sym same) ∙ v.0 in (
      q,
      w.1 ∙ ap (λ n. n + 1) ek,
      inr (
        record { input = record { clean = c.clean.clean; end_clean = n }; short = c.clean.short; end = c.end },
        front-join g (front-is (ap (λ v. v.ends b) same) v.1),
      ),
    )
ended-as max old mid new b ended source t₀ t t' p k₀ k k' Read c same h q ek g w = absurd w
ended-as max old mid new b ended source t₀ t t' p k₀ k k' TooLong c same h q ek g w = absurd w
ended-as max old mid new b ended source t₀ t t' p k₀ k k' e c same h q ek g w =
    let v = w.0 b h in (
      inr (c, ap (λ v. v.end_fault b) (sym same) ∙ v.0),
      q,
      w.1 ∙ ek,
      grew-is (append-nil (out old.reads b) ∙ ap (out old.reads) (sym (take_all max b c.clean.short)))
          (grew-join g v.2),
    )

ended-left : (max : ℕ) (r : Reading) (mid new : InputState) (b : List ℕ) (sink : Movement) (e : RunError)
    → Clean max r b → mid.follows b → EndRan mid new sink (Err e)
    → Left max r new.follows new.stopped b (Err e)
unfolding first_fault
ended-left max r mid new b sink Write c h w = tt
ended-left max r mid new b sink Read c h w = absurd w
ended-left max r mid new b sink TooLong c h w = absurd w
ended-left max r mid new b sink e c h w =
    subst new.stopped (sym (ap (before_fault r []) (take_all max b c.short) ∙ before-all r [] b c.clean)) (w.0 b h).1

pub ran-end_err : (max : ℕ) (old mid new : InputState)
    {g₀ g g' t₀ t p : Option (List ℕ)} (t' : Option (List ℕ))
    {seen : ℕ} (ended : Bool) (n₀ n k₀ k k' : ℕ) (e : RunError)
    → Upto old.reads mid.reads old.follows mid.follows g₀ g t₀ t seen → old.follows [] → seen ≤ max → n ≡ n₀ → k ≡ k₀
    → Grew g g' [] → IsTrue ended
    → EndRan mid new (changed t t' k k') (Err e)
    → Run max old new (ends_by ended (changed g₀ g' n₀ n) (changed t₀ t' k₀ k') p) (Err e)
ran-end_err max old mid new {g₀} {g} {g'} {t₀} {t} {p} t' {seen} ended n₀ n k₀ k k' e u h le es ek eg en w =
    let l = u.count in
    let b = u.bytes in
    record {
      run = record {
        bytes = b;
        given = grew-is (append-nil b) (grew-join u.given eg);
        few = omega arith;
        ran = ended-as max old mid new b ended (changed g₀ g' n₀ n) t₀ t t' p k₀ k k' e
            (record { clean = record { short = omega arith; clean = faultless u.fed h }; end = en }) u.fed.same
            (u.fed.follows [] h) es ek (written u.fed h) w;
      };
      left = ended-left max old.reads mid new b (changed t t' k k') e
          (record { short = omega arith; clean = faultless u.fed h }) (u.fed.follows [] h) w;
    }

-- a piece stops the run
piece-as : (max : ℕ) (old new : InputState) (b : List ℕ) (ends : Ends) (e : RunError)
    → PieceRan old new (take max b) ends.sink (Err e) → old.follows [] → Quiet ends.source
    → InputRan (converted old.reads new.finished) max b ends (Err e)
unfolding out first_fault
piece-as max old new b ends Write w h q = (q, w.0, inl (w.1 [] h))
piece-as max old new b ends Read w h q = absurd w
piece-as max old new b ends TooLong w h q = absurd w
piece-as max old new b ends e w h q = (inl (w.0.fault [] h), q, w.1, w.0.grew [] h)

piece-left : (max : ℕ) (old new : InputState) (b : List ℕ) (sink : Movement) (e : RunError)
    → PieceRan old new (take max b) sink (Err e) → old.follows []
    → Left max old.reads new.follows new.stopped b (Err e)
piece-left max old new b sink Write w h = tt
piece-left max old new b sink Read w h = absurd w
piece-left max old new b sink TooLong w h = absurd w
piece-left max old new b sink e w h = w.0.left [] h

pub ran-piece : (max : ℕ) (old mid new : InputState)
    {g₀ g g' t₀ t p : Option (List ℕ)} (t' : Option (List ℕ)) {seen : ℕ} (ended : Bool) (n₀ n k₀ k k' : ℕ)
    (m j room : ℕ) (buf : List ℕ) (e : RunError)
    → Upto old.reads mid.reads old.follows mid.follows g₀ g t₀ t seen → old.follows [] → seen ≤ max → n ≡ n₀ → k ≡ k₀
    → Grew g g' (take m buf) → room ≡ max + 1 - seen → m ≤ room → m ≤ length buf → (m ≡ room → j + 1 ≡ m)
    → (m < room → j ≡ m)
    → PieceRan mid new (take j buf) (changed t t' k k') (Err e)
    → Run max old new (ends_by ended (changed g₀ g' n₀ n) (changed t₀ t' k₀ k') p) (Err e)
ran-piece max old mid new {g₀} {g} {g'} {t₀} {t} {p} t' {seen} ended n₀ n k₀ k k' m j room buf e u h le es
    ek eg er mr mb last all w =
    let l = u.count in
    let a = u.bytes in
    let q = length-append a (take m buf) in
    let q' : length (take m buf) ≡ m = length-take-le m buf mb in
    let x : take max (a ++ take m buf) ≡ a ++ take j buf
    = allowed-is max a buf m j room (omega arith) (omega arith) mr mb last all in
    let w' : PieceRan old new (take max (a ++ take m buf)) (changed t₀ t' k₀ k') (Err e) =
    ran-join old mid new t' k' (take j buf) [] (take max (a ++ take m buf)) e u.fed ek
    (ap (λ v. a ++ v) (append-nil (take j buf)) ∙ sym x) w in
    record {
      run = record {
        bytes = a ++ take m buf;
        given = grew-join u.given eg;
        few = omega arith;
        ran = piece-as max old new (a ++ take m buf)
            (ends_by ended (changed g₀ g' n₀ n) (changed t₀ t' k₀ k') p) e w' h es;
      };
      left = piece-left max old new (a ++ take m buf) (changed t₀ t' k₀ k') e w' h;
    }

-- one byte too many
pub ran-long : (max : ℕ) (old mid new : InputState)
    {g₀ g g' t₀ t t' p : Option (List ℕ)} {seen : ℕ} (ended : Bool) (n₀ n k₀ k k' : ℕ)
    (m j room : ℕ) (buf : List ℕ)
    → Upto old.reads mid.reads old.follows mid.follows g₀ g t₀ t seen → old.follows [] → seen ≤ max → n ≡ n₀ → k ≡ k₀
    → k' ≡ k → Grew g g' (take m buf) → room ≡ max + 1 - seen → m ≤ room → m ≤ length buf → (m ≡ room → j + 1 ≡ m)
    → (m < room → j ≡ m) → max < seen + m
    → Fed mid.reads new.reads mid.follows new.follows t t' (take j buf)
    → Run max old new (ends_by ended (changed g₀ g' n₀ n) (changed t₀ t' k₀ k') p) (Err TooLong)
ran-long max old mid new ended n₀ n k₀ k k' m j room buf u h le es ek e eg er mr mb last all long d =
    let l = u.count in
    let a = u.bytes in
    let q = length-append a (take m buf) in
    let q' : length (take m buf) ≡ m = length-take-le m buf mb in
    let x : take max (a ++ take m buf) ≡ a ++ take j buf
    = allowed-is max a buf m j room (omega arith) (omega arith) mr mb last all in
    let v : length (take max (a ++ take m buf)) ≡ max = length-take-le max (a ++ take m buf) (omega arith) in
    let y = fed-is (sym x) (fed-join u.fed d) in
    record {
      run = record {
        bytes = a ++ take m buf;
        given = grew-join u.given eg;
        few = omega arith;
        ran = ((record { short = omega arith; clean = faultless y h }, omega arith), es, e ∙ ek, written y h);
      };
      left = y.follows [] h;
    }
