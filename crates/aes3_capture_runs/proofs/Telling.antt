-- A run over samples that pauses, and goes on.
use Rattle.std.proofs.Common.{◌≡◌, ◌∙◌, ℕ, ◌-◌, ◌≤◌, ◌^◌, ◌⊎◌, inl, inr, arith, ap, sym, subst, append_assoc}
use Rattle.std.proofs.Common.{Bool, IsTrue, true, false, List, [], ◌∷◌, ◌++◌, Option, None, Result, Ok, Err, append-nil}
use Rattle.std.proofs.Common.{length, length-append}
use Rattle.std.proofs.Common.{refl}
use Rattle.std.specs.List.{concat}
use Rattle.std.proofs.lemmas.List.Elements.{All-append, All-cons, All-nil}
use Rattle.std.proofs.lemmas.List.Folds.{concat-append}
use Rattle.aes3_level.specs.declared.level.Level.{Level}
use Rattle.aes3_cell.specs.Ends.{Grew}
use Rattle.aes3_cell.proofs.Growing.{grew-is, grew-join, grew-none}
use Rattle.aes3_capture_recovery.specs.Beginning.{IsLastingBehind, IsLineBehind}
use Rattle.aes3_capture_recovery.specs.Levels.{AreWhole, levels_of_samples}
use Rattle.aes3_capture_recovery.specs.Reading.{ReadSamples, SamplesRan}
use Rattle.aes3_capture_recovery.specs.Taking.{RecoveredAll, Took, TookAll, WritesLine}
use Rattle.aes3_capture_recovery.specs.declared.edges.Unit.{Unit}
use Rattle.aes3_capture_recovery.specs.declared.edges.Unit.TheVariants.{Octets, Pairs}
use Rattle.aes3_capture_recovery.specs.declared.figures.Figures.{Figures}
use Rattle.aes3_capture_recovery.specs.declared.recovery.Recovery.{Recovery}
use Rattle.aes3_capture_recovery.specs.declared.recovery_run.Progress.{Progress}
use Rattle.aes3_capture_recovery.specs.declared.recovery_run.Progress.TheVariants.{Ended, Paused}
use Rattle.aes3_capture_recovery.specs.declared.recovery_run.Refusal.{Refusal}
use Rattle.aes3_capture_recovery.specs.declared.recovery_run.Refusal.TheVariants.{Read, Write}
use Rattle.aes3_capture_recovery.proofs.SampleLevels.{levels-join, levels-nothing}
use Rattle.aes3_capture_recovery.proofs.Taking.{took-is, took-join, took-none}
use Rattle.aes3_capture_runs.specs.Lines.{IsFiguresLine}
use Rattle.aes3_capture_runs.specs.Runs.{IsToldLine, LinesTold}
use Rattle.aes3_capture_recovery.proofs.Reading.{sum-whole}

-- samples, and then others up to the end
took-then-all : {A : Type 0} {taken : A → Option (List ℕ)} {old mid new : Recovery} {before between after : A}
    (first second : List Level) → Took taken old mid before between first → TookAll taken mid new between after second
    → TookAll taken old new before after (first ++ second)
took-then-all {taken = taken} {new = new} {after = after} first second p q = record {
  recovered = λ setting seen w. subst (λ (l : List Level). RecoveredAll (taken after) setting l new)
      (append_assoc seen first second) (q.recovered setting (seen ++ first) (p.recovered setting seen w));
  joined = λ is one setting seen first_run counts a l.
      subst (λ (k : List Level). WritesLine (taken after) setting k first_run counts) (append_assoc seen first second)
      (q.joined is one setting (seen ++ first) first_run counts (p.awaits setting seen a)
      (subst (λ (k : List Level). IsLineBehind setting.known k first_run counts)
      (sym (append_assoc seen first second)) l));
  lasts = λ setting seen first_run counts a l.
      let end = q.lasts setting (seen ++ first) first_run counts (p.awaits setting seen a)
      (subst (λ (k : List Level). IsLastingBehind setting.known k first_run counts) (sym (append_assoc seen first second))
      l) in (
        end.0,
        subst (λ (k : List Level). WritesLine (taken after) setting k first_run counts)
            (append_assoc seen first second) end.1,
      );
}

pub paused-apart : Paused ≡ Ended → ⊥
paused-apart is = cc

-- what is due is not what was not asked for
pub due-apart : {due : Bool} → due ≡ true → due ≡ false → ⊥
due-apart is isnt = cc

none-whole : (unit : Unit) → AreWhole unit 0
none-whole (Octets bit) = omega arith
none-whole (Pairs bit) = omega arith

-- nothing was read
pub ran-none : {A : Type 0} (unit : Unit) (told : Option (List ℕ)) (ended : Bool) (taken : A → Option (List ℕ))
    (now : Recovery) (sink : A) → ReadSamples unit told told ended taken now now sink sink (Ok Paused)
ran-none unit told ended taken now sink = record {
  octets = [];
  given = grew-none refl;
  ran = (none-whole unit, λ bit. took-is (sym (levels-nothing unit)) (took-none taken now sink));
}

-- a run that pauses, and one behind it
pub ran-joined : {A : Type 0} {unit : Unit} {told told_now told_next : Option (List ℕ)} {taken : A → Option (List ℕ)}
    {old now new : Recovery} {before sink after : A} {paused ended : Bool} (result : Result Progress Refusal)
    → ReadSamples unit told told_now paused taken old now before sink (Ok Paused)
    → ReadSamples unit told_now told_next ended taken now new sink after result
    → ReadSamples unit told told_next ended taken old new before after result
ran-joined {unit = unit} {taken = taken} {old = old} {now = now} {new = new} {before = before} {sink = sink}
    {after = after} {ended = ended} result a b = record {
      octets = a.octets ++ b.octets;
      given = grew-join a.given b.given;
      ran = joined result b.ran;
    }
  where
    levels : levels_of_samples unit a.octets ++ levels_of_samples unit b.octets
        ≡ levels_of_samples unit (a.octets ++ b.octets)
    levels = sym (levels-join unit a.octets b.octets a.ran.0)

    far : IsTrue ended ⊎ (2 ^ 64 - 1 ≤ length b.octets) → IsTrue ended ⊎ (2 ^ 64 - 1 ≤ length (a.octets ++ b.octets))
    far (inl is) = inl is
    far (inr many) = let all = length-append a.octets b.octets in inr (omega (arith, many, all))

    joined : (result : Result Progress Refusal) → SamplesRan unit b.octets ended taken now new sink after result
        → SamplesRan unit (a.octets ++ b.octets) ended taken old new before after result
    joined (Ok Ended) ran = (
      far ran.0,
      λ bit. subst (λ (l : List Level). TookAll taken old new before after l) levels
          (took-then-all (levels_of_samples unit a.octets) (levels_of_samples unit b.octets) (a.ran.1 bit) (ran.1 bit)),
    )
    joined (Ok Paused) ran = (
      subst (AreWhole unit) (sym (length-append a.octets b.octets))
          (sum-whole unit (length a.octets) (length b.octets) a.ran.0 ran.0),
      λ bit. took-join levels (a.ran.1 bit) (ran.1 bit),
    )
    joined (Err Read) ran = λ bit. took-join levels (a.ran.1 bit) (ran bit)
    joined (Err Write) ran = tt

-- what was told on the way: nothing, and a line more
pub told-none : {rate each : Option ℕ} {old new : Option (List ℕ)} → new ≡ old → LinesTold rate each old new
told-none {rate = rate} same = record {
  lines = [];
  are = All-nil (IsToldLine rate);
  none = λ e. refl;
  grew = grew-none same;
}

pub told-more : {rate each : Option ℕ} {old now new : Option (List ℕ)} (figures : Figures) (line : List ℕ)
    → (each ≡ None → ⊥) → IsFiguresLine figures rate line → LinesTold rate each old now → Grew now new line
    → LinesTold rate each old new
told-more {rate = rate} figures line some is a grew = record {
  lines = a.lines ++ line ∷ [];
  are = All-append (IsToldLine rate) a.lines (line ∷ []) a.are
      (All-cons (IsToldLine rate) line [] (record { figures = figures; is = is }) (All-nil (IsToldLine rate)));
  none = λ e. absurd (some e);
  grew = grew-is (sym (concat-append a.lines (line ∷ []) ∙ ap (λ t. concat a.lines ++ t) (append-nil line)))
      (grew-join a.grew grew);
}

-- the same where nothing was told, as memory was refused
pub told-same : {rate each : Option ℕ} {old now new : Option (List ℕ)} → new ≡ now → LinesTold rate each old now
    → LinesTold rate each old new
told-same {old = old} same a = record {
  lines = a.lines;
  are = a.are;
  none = a.none;
  grew = subst (λ (o : Option (List ℕ)). Grew old o (concat a.lines)) (sym same) a.grew;
}

pub told-or-same : {rate each : Option ℕ} {old now new : Option (List ℕ)} (figures : Figures) → (each ≡ None → ⊥)
    → LinesTold rate each old now
    → (new ≡ now) ⊎ ((line : List ℕ) × IsFiguresLine figures rate line × Grew now new line)
    → LinesTold rate each old new
told-or-same figures some a (inl same) = told-same same a
told-or-same figures some a (inr line) = told-more figures line.0 some line.1 a line.2
