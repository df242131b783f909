-- What a run over samples answers, and what it took then.
use Rattle.std.specs.Prelude.{ℕ, List, Option, Result, Ok, Err, Bool, IsTrue, ◌≡◌, ◌<◌, ◌≤◌, ◌+◌, ◌-◌, ◌^◌, ◌⊎◌, length}
use Rattle.aes3_cell.specs.Ends.{Grew}
use Rattle.aes3_capture_recovery.specs.Levels.{AreWhole, bit_of_line, bits_of_sample, levels_of_samples}
use Rattle.aes3_capture_recovery.specs.Taking.{Took, TookAll}
use Rattle.aes3_capture_recovery.specs.declared.edges.Unit.{Unit}
use Rattle.aes3_capture_recovery.specs.declared.recovery.Recovery.{Recovery}
use Rattle.aes3_capture_recovery.specs.declared.recovery_run.Progress.{Progress}
use Rattle.aes3_capture_recovery.specs.declared.recovery_run.Progress.TheVariants.{Ended, Paused}
use Rattle.aes3_capture_recovery.specs.declared.recovery_run.Refusal.{Refusal}
use Rattle.aes3_capture_recovery.specs.declared.recovery_run.Refusal.TheVariants.{Read, Write}

-- which end failed, once, by how often each had failed before and has failed now
abbrev pub FailedAt : Refusal → ℕ → ℕ → ℕ → ℕ → Type 0
FailedAt Read source source_now sink sink_now = (source_now ≡ source + 1) × (sink_now ≡ sink)
FailedAt Write source source_now sink sink_now = (source_now ≡ source) × (sink_now ≡ sink + 1)

-- What a recovery took, where these octets were read:
-- Ended: the samples of all, and the end. The source has ended, or gave 2^64 - 1 octets at least
-- Paused: the samples of all, which are whole
-- Read: the samples of all
abbrev pub SamplesRan : {A : Type 0} → Unit → List ℕ → Bool → (A → Option (List ℕ)) → Recovery → Recovery → A → A
    → Result Progress Refusal → Type 0
SamplesRan unit octets ended taken old new before after (Ok Ended) =
    (IsTrue ended ⊎ (2 ^ 64 - 1 ≤ length octets))
    × (bit_of_line unit < bits_of_sample unit → TookAll taken old new before after (levels_of_samples unit octets))
SamplesRan unit octets ended taken old new before after (Ok Paused) =
    AreWhole unit (length octets)
    × (bit_of_line unit < bits_of_sample unit → Took taken old new before after (levels_of_samples unit octets))
SamplesRan unit octets ended taken old new before after (Err Read) =
    bit_of_line unit < bits_of_sample unit → Took taken old new before after (levels_of_samples unit octets)
SamplesRan unit octets ended taken old new before after (Err Write) = Prim.Unit {0}

-- A run over samples: the octets that the source gave in it, which are those that it tells where it tells them, and what
-- a recovery took of them.
pub record ReadSamples {A : Type 0} (unit : Unit) (told told_now : Option (List ℕ)) (ended : Bool)
    (taken : A → Option (List ℕ)) (old new : Recovery) (before after : A) (result : Result Progress Refusal)
    : Type 0 where
  pub octets : List ℕ
  pub given : Grew told told_now octets
  pub ran : SamplesRan unit octets ended taken old new before after result
