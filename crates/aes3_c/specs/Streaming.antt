-- A capture that comes in pieces, and its cells in pieces of memory.
use Rattle.std.specs.Prelude.{ℕ, List, [], ◌++◌, ◌≡◌, ◌<◌, Option, None, Some}
use Rattle.aes3_level.specs.declared.level.Level.{Level}
use Rattle.aes3_cell.specs.declared.form.Form.TheVariants.{Packed}
use Rattle.aes3_capture_recovery.specs.Beginning.{Awaits}
use Rattle.aes3_capture_recovery.specs.Parts.{recovery_parts}
use Rattle.aes3_capture_recovery.specs.Recovering.{Recovered, Setting}
use Rattle.aes3_capture_recovery.specs.Taking.{Took}
use Rattle.aes3_capture_recovery.specs.declared.recovery.Recovery.{Recovery}
use Rattle.aes3_capture_recovery.specs.declared.recovery.parts.RecoveryParts.{RecoveryParts}
use Rattle.aes3_c.specs.Capturing.{AreCellsOf, RanOver, period_of}
use Rattle.aes3_c.specs.Owed.{owed_in, stretched}
use Rattle.aes3_c.specs.declared.owed.Aes3Owed.{Aes3Owed}
use Rattle.aes3_c.specs.declared.streaming.Aes3Recovery.{Aes3Recovery}

-- what a sink tells, where that itself is spoken of
abbrev pub told_itself : Option (List ℕ) → Option (List ℕ)
told_itself told = told

-- A recovery took samples with these levels: behind the octets `before` it wrote more, and all are `after`.
abbrev pub TookOctets : Recovery → Recovery → List ℕ → List ℕ → List Level → Type 0
TookOctets old new before after levels = Took told_itself old new (Some before) (Some after) levels

-- The same of the end, behind samples with these levels.
abbrev pub EndedOctets : Recovery → Recovery → List ℕ → List ℕ → List Level → Type 0
EndedOctets old new before after levels = RanOver told_itself old new (Some before) (Some after) levels

-- The recovery that these numbers are took samples with these levels, and the numbers are then those of the recovery that it
-- became: behind the octets `told` it wrote those that are owed.
pub record TookSome (told : List ℕ) (old new : RecoveryParts) (owed : Aes3Owed) (levels : List Level) : Type 0 where
  pub each : (first : Recovery) → recovery_parts first ≡ old → (now : Recovery) × (recovery_parts now ≡ new)
      × TookOctets first now told (told ++ owed_in owed) levels

-- The same with more than 1,024 stretches of equal octets behind those `told`: more than are kept.
pub record TookTooMuch (told : List ℕ) (old : RecoveryParts) (levels : List Level) : Type 0 where
  pub each : (first : Recovery) → recovery_parts first ≡ old → (now : Recovery) × (octets : List ℕ)
      × TookOctets first now told (told ++ octets) levels × (1024 < (stretched octets).many)

-- the same of the end of the samples
pub record EndedSome (told : List ℕ) (old new : RecoveryParts) (owed : Aes3Owed) : Type 0 where
  pub each : (first : Recovery) → recovery_parts first ≡ old → (now : Recovery) × (recovery_parts now ≡ new)
      × EndedOctets first now told (told ++ owed_in owed) []

-- the same with more than 1,024 stretches
pub record EndedTooMuch (told : List ℕ) (old : RecoveryParts) : Type 0 where
  pub each : (first : Recovery) → recovery_parts first ≡ old → (now : Recovery) × (octets : List ℕ)
      × EndedOctets first now told (told ++ octets) [] × (1024 < (stretched octets).many)

-- What keeps a recovery put octets that it owed, and nothing else was done.
pub record Drained (old new : Aes3Recovery) (octets : List ℕ) : Type 0 where
  pub ended_is : new.ended ≡ old.ended
  pub same : new.recovery ≡ old.recovery
  pub owes : owed_in old.owed ≡ octets ++ owed_in new.owed

-- It put all that it owed, and its recovery took samples with these levels: what it owes then stands behind what was put. `told` is what was put
-- before, and what was owed.
pub record TookMore (told : List ℕ) (old new : Aes3Recovery) (octets : List ℕ) (levels : List Level) : Type 0 where
  pub was : old.ended ≡ 0
  pub is : new.ended ≡ 0
  pub each : (before : List ℕ) → before ++ owed_in old.owed ≡ told
      → (first : Recovery) → recovery_parts first ≡ old.recovery → (now : Recovery) × (recovery_parts now ≡ new.recovery)
      × TookOctets first now told (before ++ (octets ++ owed_in new.owed)) levels

-- the same of the end of the samples
pub record EndedMore (told : List ℕ) (old new : Aes3Recovery) (octets : List ℕ) : Type 0 where
  pub was : old.ended ≡ 0
  pub is : new.ended ≡ 1
  pub each : (before : List ℕ) → before ++ owed_in old.owed ≡ told
      → (first : Recovery) → recovery_parts first ≡ old.recovery → (now : Recovery) × (recovery_parts now ≡ new.recovery)
      × EndedOctets first now told (before ++ (octets ++ owed_in new.owed)) []

-- a recovery of which nothing came, as that of `aes3_capture_cells`
pub record IsNew (period : ℕ) (first : Recovery) : Type 0 where
  pub recovered : (setting : Setting) → setting.form ≡ Packed → setting.known ≡ period_of period
      → Recovered (Some setting.begun) setting [] [] first
  pub awaits : (setting : Setting) → setting.form ≡ Packed → setting.known ≡ period_of period → period_of period ≡ None
      → Awaits (Some setting.begun) setting [] [] first

-- These numbers keep a recovery that took samples with these levels, all of them and nothing else. Of the octets that it wrote these were
-- put, and those behind them are owed.
pub record IsTaking (period : ℕ) (levels : List Level) (octets : List ℕ) (kept : Aes3Recovery) : Type 0 where
  pub first : Recovery
  pub fresh : IsNew period first
  pub now : Recovery
  pub kept_is : recovery_parts now ≡ kept.recovery
  pub took : TookOctets first now [] (octets ++ owed_in kept.owed) levels
  pub goes_on : kept.ended ≡ 0

-- The same behind the end of the samples: the octets that were put and those that are owed are the packed cells of samples with these
-- levels, as `aes3_capture_cells` puts them.
pub record IsEnded (period : ℕ) (levels : List Level) (octets : List ℕ) (kept : Aes3Recovery) : Type 0 where
  pub now : Recovery
  pub kept_is : recovery_parts now ≡ kept.recovery
  pub cells : AreCellsOf period levels (octets ++ owed_in kept.owed) now
  pub ended : kept.ended ≡ 1
