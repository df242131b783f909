-- What a run answers, and what it has written then.
use Rattle.std.specs.Prelude.{ℕ, List, [], ◌++◌, Option, Some, None, Result, Ok, Err, ◌≡◌, ◌<◌, ◌≤◌, ◌+◌, ◌⊎◌, Bool}
use Rattle.std.specs.Prelude.{IsTrue, length, take}
use Rattle.aes3_refusals.specs.declared.run_error.RunError.{RunError}
use Rattle.aes3_refusals.specs.declared.run_error.RunError.TheVariants.{Read, Write, TooLong}
use Rattle.aes3_cell.specs.Ends.{Grew, GrewFront}
use Rattle.aes3_cell.specs.declared.ends.Source.{Ghosts as SourceMembers}
use Rattle.aes3_cell.specs.declared.ends.Sink.{Ghosts as SinkMembers}
use Rattle.aes3_input.specs.Converting.{Reading, fault_behind, out_behind, before_fault, first_fault, out, whole}

-- an end's bytes and its count of failures, before a call and after it
pub record Movement : Type 0 where
  pub old : Option (List ℕ)
  pub new : Option (List ℕ)
  pub failed_old : ℕ
  pub failed_new : ℕ

-- of an end of which `bytes` tells its bytes and `failed` its count of failures
abbrev pub movement_of : {A : Type 0} → (A → Option (List ℕ)) → (A → ℕ) → A → A → Movement
movement_of bytes failed before after =
    record { old = bytes before; new = bytes after; failed_old = failed before; failed_new = failed after }

-- both ends of a run, before it and after it; whether the source has ended then, and what the sink has passed on
pub record Ends : Type 0 where
  pub ended : Bool
  pub source : Movement
  pub sink : Movement
  pub passed : Option (List ℕ)

-- a source and a sink, by the members that their traits have for contracts
abbrev pub ends_of : {S T : Type 0} → SourceMembers S → S → S → SinkMembers T → T → T → Ends
ends_of s source source' t sink sink' = record {
  ended = s.has_ended source';
  source = movement_of s.given s.failed source source';
  sink = movement_of t.taken t.failed sink sink';
  passed = t.passed sink';
}

-- no failure, one failure
abbrev pub Quiet : Movement → Type 0
Quiet e = e.failed_new ≡ e.failed_old

abbrev pub Failed : Movement → Type 0
Failed e = e.failed_new ≡ e.failed_old + 1

-- What an input and its taker are at one moment.
-- reads: which bytes are faults that come, and what they write
-- follows: what holds of the bytes that both have taken
-- stopped: what holds of the bytes before a fault, once that was refused
-- finished: what holds of all bytes, once both have taken their end
pub record InputState : Type 1 where
  pub reads : Reading
  pub follows : List ℕ → Type 0
  pub stopped : List ℕ → Type 0
  pub finished : List ℕ → Type 0

-- a conversion that followed f₀ was fed the bytes a, which are no fault
pub record Fed (r₀ r : Reading) (f₀ f : List ℕ → Type 0) (t₀ t : Option (List ℕ)) (a : List ℕ) : Type 0 where
  pub same : r ≡ r₀
  pub clean : (b : List ℕ) → f₀ b → fault_behind r₀ b a ≡ None
  pub follows : (b : List ℕ) → f₀ b → f (b ++ a)
  pub grew : (b : List ℕ) → f₀ b → Grew t₀ t (out_behind r₀ b a)

-- it was stopped at the first fault of the bytes a; of the bytes before that s holds then
pub record Stopped (r₀ : Reading) (f₀ s : List ℕ → Type 0) (t₀ t : Option (List ℕ)) (a : List ℕ) (e : RunError)
    : Type 0 where
  pub fault : (b : List ℕ) → f₀ b → fault_behind r₀ b a ≡ Some e
  pub left : (b : List ℕ) → f₀ b → s (b ++ before_fault r₀ b a)
  pub grew : (b : List ℕ) → f₀ b → Grew t₀ t (out_behind r₀ b a)

-- what feeding a piece answers; only the loop tells Read and TooLong
abbrev pub PieceRan : InputState → InputState → List ℕ → Movement → Result (Unit {0}) RunError → Type 0
PieceRan old new piece sink (Ok u) =
    Fed old.reads new.reads old.follows new.follows sink.old sink.new piece × Quiet sink
PieceRan old new piece sink (Err Write) =
    Failed sink × ((b : List ℕ) → old.follows b → GrewFront sink.old sink.new (out_behind old.reads b piece))
PieceRan old new piece sink (Err Read) = ⊥
PieceRan old new piece sink (Err TooLong) = ⊥
PieceRan old new piece sink (Err e) =
    Stopped old.reads old.follows new.stopped sink.old sink.new piece e × Quiet sink

-- what taking a front of a piece answers: how many of its bytes these were
abbrev pub FrontRan : InputState → InputState → List ℕ → Movement → Result ℕ RunError → Type 0
FrontRan old new piece sink (Ok n) =
    (0 < n) × (n ≤ length piece)
    × Fed old.reads new.reads old.follows new.follows sink.old sink.new (take n piece) × Quiet sink
FrontRan old new piece sink (Err e) = PieceRan old new piece sink (Err e)

-- what the end answers
abbrev pub EndRan : InputState → InputState → Movement → Result (Unit {0}) RunError → Type 0
EndRan old new sink (Ok u) =
    ((b : List ℕ) → old.follows b
    → (old.reads.end_fault b ≡ None) × new.finished b × Grew sink.old sink.new (old.reads.ends b)) × Quiet sink
EndRan old new sink (Err Write) =
    ((b : List ℕ) → old.follows b
    → (old.reads.end_fault b ≡ None) × GrewFront sink.old sink.new (old.reads.ends b)) × Failed sink
EndRan old new sink (Err Read) = ⊥
EndRan old new sink (Err TooLong) = ⊥
EndRan old new sink (Err e) =
    ((b : List ℕ) → old.follows b
    → (old.reads.end_fault b ≡ Some e) × new.stopped b × Grew sink.old sink.new []) × Quiet sink

-- What a run promises: which bytes are an input of it, what it writes of one and of bytes behind which more may come,
-- what it answers to one, and why it refuses the bytes of a run of at most max bytes, where the truth value says
-- whether the source has ended behind them.
pub record Promise (A : Type 0) : Type 1 where
  pub input : List ℕ → Type 0
  pub whole : List ℕ → List ℕ
  pub begun : List ℕ → List ℕ
  pub answer : List ℕ → A → Type 0
  pub cause : ℕ → List ℕ → Bool → RunError → Type 0

-- the source has ended behind an input of at most max bytes
pub record Complete (is_input : List ℕ → Type 0) (max : ℕ) (b : List ℕ) (ended : Bool) : Type 0 where
  pub input : is_input b
  pub short : length b ≤ max
  pub end : IsTrue ended

-- What a run answers to the bytes b:
-- Ok: they are an input of at most `max` bytes, and the source has ended; the answer; neither end failed; what the
--   input writes is written, and the sink has passed on all that it took
-- Write: the sink failed, once, and the source did not; a front is written of what the bytes up to the limit write
--   behind which more may come, or, where the input is whole, of what it writes
-- Read: its cause; the source failed, once, and the sink did not; what the bytes up to the limit write is written
-- any other refusal: its cause; neither end failed; what the bytes up to the limit write is written
-- So Ok is owed where the input is in its form and fits and neither end failed: each refusal has a failure or a cause
-- that says otherwise.
abbrev pub InputRan : {A : Type 0} → Promise A → ℕ → List ℕ → Ends → Result A RunError → Type 0
InputRan p max b ends (Ok n) =
    Complete p.input max b ends.ended × p.answer b n × Quiet ends.source × Quiet ends.sink
    × Grew ends.sink.old ends.sink.new (p.whole b) × (ends.passed ≡ ends.sink.new)
InputRan p max b ends (Err Write) =
    Quiet ends.source × Failed ends.sink × (GrewFront ends.sink.old ends.sink.new (p.begun (take max b))
    ⊎ (Complete p.input max b ends.ended × GrewFront ends.sink.old ends.sink.new (p.whole b)))
InputRan p max b ends (Err Read) =
    p.cause max b ends.ended Read × Failed ends.source × Quiet ends.sink
    × Grew ends.sink.old ends.sink.new (p.begun (take max b))
InputRan p max b ends (Err e) =
    p.cause max b ends.ended e × Quiet ends.source × Quiet ends.sink
    × Grew ends.sink.old ends.sink.new (p.begun (take max b))

-- A run over an input of at most max bytes: the bytes that the source gave in it, which are those that it tells where
-- it tells them, at most one more than max; and what it answered to them.
pub record InputRun {A : Type 0} (p : Promise A) (max : ℕ) (ends : Ends) (result : Result A RunError) : Type 0 where
  pub bytes : List ℕ
  pub given : Grew ends.source.old ends.source.new bytes
  pub few : length bytes ≤ max + 1
  pub ran : InputRan p max bytes ends result

-- the bytes b are an input of at most max bytes, none of which is a fault
pub record Clean (max : ℕ) (r : Reading) (b : List ℕ) : Type 0 where
  pub short : length b ≤ max
  pub clean : first_fault r b ≡ None

-- the source has ended behind the bytes b, which are clean
pub record CleanEnd (max : ℕ) (r : Reading) (b : List ℕ) (ended : Bool) : Type 0 where
  pub clean : Clean max r b
  pub end : IsTrue ended

-- bytes without a fault, and without one at their end
pub record IsFaultless (r : Reading) (b : List ℕ) : Type 0 where
  pub clean : first_fault r b ≡ None
  pub end_clean : r.end_fault b ≡ None

-- why a conversion refuses
abbrev pub IsFault : Reading → ℕ → List ℕ → Bool → RunError → Type 0
IsFault r max b ended Read = Clean max r b
IsFault r max b ended Write = length b ≤ max + 1
IsFault r max b ended TooLong = Clean max r (take max b) × (length b ≡ max + 1)
IsFault r max b ended e = (first_fault r (take max b) ≡ Some e) ⊎ (CleanEnd max r b ended × (r.end_fault b ≡ Some e))

-- what a conversion promises, behind which z holds of the bytes: it answers how many there are
abbrev pub converted : Reading → (List ℕ → Type 0) → Promise ℕ
converted r z = record {
  input = IsFaultless r;
  whole = whole r;
  begun = out r;
  answer = λ b n. z b × (n ≡ length b);
  cause = IsFault r;
}

-- what holds where a run over the bytes b was refused, and not by the sink: f of those up to max, or s of those before
-- a fault
abbrev pub Left : ℕ → Reading → (List ℕ → Type 0) → (List ℕ → Type 0) → List ℕ → Result ℕ RunError → Type 0
Left max r f s b (Ok n) = Unit {0}
Left max r f s b (Err Write) = Unit {0}
Left max r f s b (Err Read) = f (take max b)
Left max r f s b (Err TooLong) = f (take max b)
Left max r f s b (Err e) = s (before_fault r [] (take max b))

-- a conversion's run
pub record Run (max : ℕ) (old new : InputState) (ends : Ends) (result : Result ℕ RunError) : Type 0 where
  pub run : InputRun (converted old.reads new.finished) max ends result
  pub left : Left max old.reads new.follows new.stopped run.bytes result
