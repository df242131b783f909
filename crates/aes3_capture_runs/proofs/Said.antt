-- What a run answered, and what is said of it.
use Rattle.std.proofs.Common.{◌≡◌, inl, inr, ℕ, ◌<◌, ◌≤◌, ap, sym, subst, refl, arith}
use Rattle.std.proofs.Common.{Bool, List, [], ◌++◌, Option, Some, None, Ok, Err}
use Rattle.std.specs.List.{concat}
use Rattle.aes3_cell.specs.Ends.{Grew}
use Rattle.aes3_cell.proofs.Growing.{grew-is, grew-join}
use Rattle.aes3_input.specs.Running.{Movement, Quiet}
use Rattle.aes3_capture_recovery.specs.Beginning.{Awaits, IsLastingBehind}
use Rattle.aes3_capture_recovery.specs.Levels.{bit_of_line, bits_of_sample, levels_of_samples}
use Rattle.aes3_capture_recovery.specs.Reading.{FailedAt, SamplesRan}
use Rattle.aes3_capture_recovery.specs.Recovering.{Recovered}
use Rattle.aes3_capture_recovery.specs.declared.edges.Unit.{Unit}
use Rattle.aes3_capture_recovery.specs.declared.recovery.Recovery.{Recovery}
use Rattle.aes3_capture_recovery.specs.declared.recovery_run.Progress.{Progress}
use Rattle.aes3_capture_recovery.specs.declared.recovery_run.Progress.TheVariants.{Ended, Paused}
use Rattle.aes3_capture_recovery.specs.declared.recovery_run.Refusal.{Refusal}
use Rattle.aes3_capture_recovery.specs.declared.recovery_run.Refusal.TheVariants.{Read, Write}
use Rattle.aes3_capture_runs.specs.Runs.{AnswerRan, AreCellsOf, EndSaid, IsNothing, IsSaid, IsSaidBefore}
use Rattle.aes3_capture_runs.specs.Runs.{LinesTold, memory_text, refusal_text, setting_of}
use Rattle.aes3_capture_runs.specs.Lines.{bit_line, no_line_text}
use Rattle.aes3_capture_runs.specs.declared.capture_job.Job.{Job}
use Rattle.aes3_capture_runs.proofs.Telling.{paused-apart}

-- what a recovery of which nothing came takes
pub record IsNew (job : Job) (fresh : Recovery) : Type 0 where
  pub recovered : (begun : List ℕ) → Recovered (Some begun) (setting_of job begun) [] [] fresh
  pub awaits : job.period ≡ None → (begun : List ℕ) → Awaits (Some begun) (setting_of job begun) [] [] fresh

module _ {A : Type 0} (job : Job) (found : Option ℕ) (unit : Unit) (octets : List ℕ) (ended : Bool)
    (taken : A → Option (List ℕ)) (fresh now : Recovery) (before after : A)
    (bit : bit_of_line unit < bits_of_sample unit) (new : IsNew job fresh) where
  -- the cells of samples that were read to their end
  pub cells-of : SamplesRan unit octets ended taken fresh now before after (Ok Ended) → (begun : List ℕ)
      → taken before ≡ Some begun → AreCellsOf job begun (taken after) (levels_of_samples unit octets) now
  cells-of ran begun told =
      let all = ran.1 bit in
      record {
        recovered = all.recovered (setting_of job begun) []
            (subst (λ (o : Option (List ℕ)). Recovered o (setting_of job begun) [] [] fresh) (sym told)
            (new.recovered begun));
        lasts = λ none first counts l. all.lasts (setting_of job begun) [] first counts
            (subst (λ (o : Option (List ℕ)). Awaits o (setting_of job begun) [] [] fresh) (sym told)
            (new.awaits none begun))
            (subst (λ (k : Option ℕ). IsLastingBehind k (levels_of_samples unit octets) first counts) (sym none) l);
      }

  -- what was told of those before the source failed
  pub recovered-of : SamplesRan unit octets ended taken fresh now before after (Err Read) → (begun : List ℕ)
      → taken before ≡ Some begun → Recovered (taken after) (setting_of job begun) (levels_of_samples unit octets) [] now
  recovered-of ran begun told =
      (ran bit).recovered (setting_of job begun) []
      (subst (λ (o : Option (List ℕ)). Recovered o (setting_of job begun) [] [] fresh) (sym told) (new.recovered begun))

  -- the answer of a run in which an end failed
  pub refused : (source messages : Movement) (failed failed_now status : ℕ) (refusal : Refusal)
      → SamplesRan unit octets ended taken fresh now before after (Err refusal)
      → FailedAt refusal source.failed_old source.failed_new failed failed_now → status ≡ 3
      → IsSaid (IsSaidBefore job found) messages (refusal_text refusal)
      → AnswerRan job found unit octets ended now source
      (record { old = taken before; new = taken after; failed_old = failed; failed_new = failed_now }) messages status
      (Err refusal)
  refused source messages failed failed_now status Read ran at three said =
      (three, at.0, at.1, said, recovered-of ran)
  refused source messages failed failed_now status Write ran at three said = (three, at.0, at.1, said)

  -- and of one that came to the end
  pub done : (source messages : Movement) (failed failed_now status : ℕ) (progress : Progress)
      → SamplesRan unit octets ended taken fresh now before after (Ok progress) → progress ≡ Ended → Quiet source
      → failed_now ≡ failed → EndSaid (IsSaidBefore job found) job now messages status
      → AnswerRan job found unit octets ended now source
      (record { old = taken before; new = taken after; failed_old = failed; failed_new = failed_now }) messages status
      (Ok progress)
  done source messages failed failed_now status Ended ran is read wrote said = (ran.0, read, wrote, said, cells-of ran)
  done source messages failed failed_now status Paused ran is read wrote said = absurd (paused-apart is)

-- what was said before the last lines
pub record SaidUpTo (job : Job) (found : Option ℕ) (told told_now : Option (List ℕ)) : Type 0 where
  pub text : List ℕ
  pub is_before : IsSaidBefore job found text
  pub grew : Grew told told_now text

-- the line of the bit and those of the lines, if nothing failed up to the last messages
pub bit-and-lines : (job : Job) (found : Option ℕ) {told told_now told_next : Option (List ℕ)} {failed f1 f2 f3 : ℕ}
    → failed ≤ f1 → f1 ≤ f2 → f2 ≤ f3 → (f1 ≡ failed → Grew told told_now (bit_line found))
    → (f2 ≡ f1 → LinesTold job.rate job.tell_each told_now told_next)
    → f3 ≡ failed → (f3 ≡ f2) × SaidUpTo job found told told_next
bit-and-lines job found up1 up2 up3 bit lines quiet =
    let told = lines (omega arith) in (
      omega arith,
      record {
        text = bit_line found ++ concat told.lines;
        is_before = record { lines = told.lines; are = told.are; none = told.none; is = refl };
        grew = grew-join (bit (omega arith)) told.grew;
      },
    )

-- messages behind these
module _ (job : Job) (found : Option ℕ) (told told_now told_next : Option (List ℕ)) (failed failed_now failed_next : ℕ)
    (said : failed_next ≡ failed → (failed_next ≡ failed_now) × SaidUpTo job found told told_now) where
  abbrev pub whole : Movement
  whole = record { old = told; new = told_next; failed_old = failed; failed_new = failed_next }

  abbrev pub last : Movement
  last = record { old = told_now; new = told_next; failed_old = failed_now; failed_new = failed_next }

  pub grew-said : (text : List ℕ) → (failed_next ≡ failed_now → Grew told_now told_next text)
      → IsSaid (IsSaidBefore job found) whole text
  grew-said text grew = λ quiet.
      let before = said quiet in
      record {
        front = before.1.text;
        is_before = before.1.is_before;
        grew = grew-join before.1.grew (grew before.0);
      }

  pub said-joined : (text : List ℕ) → IsSaid IsNothing last text → IsSaid (IsSaidBefore job found) whole text
  said-joined text alone =
      grew-said text (λ quiet. let end = alone quiet in grew-is (ap (λ t. t ++ text) end.is_before) end.grew)

  pub end-joined : (now : Recovery) (status : ℕ) → EndSaid IsNothing job now last status
      → EndSaid (IsSaidBefore job found) job now whole status
  end-joined now status end = record {
    figures = end.figures;
    are = end.are;
    said = elim end.said [
      | inl none ↦ inl (none.0, none.1, (none.2.0, said-joined (no_line_text end.figures job.period none.2.0) none.2.1))
      | inr some ↦ inr (elim some [
        | inl line ↦ inl (line.0, line.1, (line.2.0, line.2.1, said-joined line.2.0 line.2.2))
        | inr memory ↦ inr (memory.0, said-joined memory_text memory.1)
      ])
    ];
  }
