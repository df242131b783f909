-- Facts of each member of a list, by its parts.
use Rattle.std.proofs.Common.{ℕ, zero, suc, ◌<◌, List, [], ◌∷◌, Bool, arith}
use Rattle.std.specs.List.{All}
use Rattle.aes3_slot.specs.Slots.{IsPayload}
use Rattle.aes3_frame.proofs.Runs.{Each27}

pub all-nil : {A : Type 0} (P : A → Type 0) → All P []
all-nil P k d lt = absurd (omega arith)

pub all-cons : {A : Type 0} (P : A → Type 0) (x : A) (xs : List A) → P x → All P xs → All P (x ∷ xs)
all-cons P x xs h rest zero d lt = h
all-cons P x xs h rest (suc k) d lt = rest k d (omega arith)

-- 27 bits each
pub each-payload : (b : List (List Bool)) → All IsPayload b → Each27 b
each-payload [] h = tt
each-payload (p ∷ ps) h = (h 0 [] (omega arith), each-payload ps (λ k d lt. h (suc k) d (omega arith)))

pub all-payloads : (b : List (List Bool)) → Each27 b → All IsPayload b
all-payloads [] h = all-nil IsPayload
all-payloads (p ∷ ps) h = all-cons IsPayload p ps h.0 (all-payloads ps h.1)

-- one byte each
abbrev pub EachByte : List ℕ → Type 0
EachByte [] = Unit {0}
EachByte (x ∷ bytes) = (x < 256) × EachByte bytes

pub each-byte : (bytes : List ℕ) → All (λ x. x < 256) bytes → EachByte bytes
each-byte [] h = tt
each-byte (x ∷ bytes) h = (h 0 0 (omega arith), each-byte bytes (λ k d lt. h (suc k) d (omega arith)))
