-- Fields of four bytes, set in a status.
use Rattle.std.proofs.Common.{◌≡◌, ℕ, ◌+◌, ◌≤◌, ◌⊎◌, inl, inr, Bool, true, false, List, Option, Some, None, if◌then◌else◌}
use Rattle.std.proofs.Common.{length, take, drop, refl, ap, ◌∙◌, sym, arith, subst}
use Rattle.std.specs.Option.{unwrap_or}
use Rattle.aes3_status.specs.declared.wide_field.WideField.{WideField}
use Rattle.aes3_status.specs.declared.wide_field.WideField.TheVariants.{Origin, Destination, Local, Time}
use Rattle.aes3_status.specs.declared.wide_field.WideSettings.{WideSettings}
use Rattle.aes3_status.specs.Bits.{bytes_field}
use Rattle.aes3_status.specs.Statuses.{is_professional}
use Rattle.aes3_status.specs.Wide.{AreFours, OtherBytesStay, WideIsReadBack, set_four, set_wide, wide_bytes, wide_given}
use Rattle.aes3_status.proofs.SetFields.{before-stays, behind-stays, length-with_part, new-back}

-- what is given has four bytes
abbrev IsFour : Option (List ℕ) → Type 0
IsFour given = (four : List ℕ) → given ≡ Some four → length four ≡ 4

length-four : (at : ℕ) (given : Option (List ℕ)) (bytes : List ℕ) → IsFour given → at + 4 ≤ length bytes
    → length (set_four at given bytes) ≡ length bytes
length-four at None bytes f h = refl
length-four at (Some four) bytes f h = length-with_part at four bytes (omega (arith, f four refl))

four-back : (at : ℕ) (given : Option (List ℕ)) (bytes : List ℕ) → IsFour given → at + 4 ≤ length bytes
    → bytes_field at 4 (set_four at given bytes) ≡ unwrap_or given (bytes_field at 4 bytes)
unfolding bytes_field
four-back at None bytes f h = refl
four-back at (Some four) bytes f h =
    ap (λ k. take k (drop at (set_four at (Some four) bytes))) (sym (f four refl))
    ∙ new-back at four bytes (omega (arith, f four refl))

drop-stays : (at from : ℕ) (given : Option (List ℕ)) (bytes : List ℕ) → IsFour given → at + 4 ≤ length bytes
    → at + 4 ≤ from → drop from (set_four at given bytes) ≡ drop from bytes
drop-stays at from None bytes f h g = refl
drop-stays at from (Some four) bytes f h g =
    behind-stays at from four bytes (omega (arith, f four refl)) (omega (arith, f four refl))

field-stays : (at from count : ℕ) (given : Option (List ℕ)) (bytes : List ℕ) → IsFour given → at + 4 ≤ length bytes
    → (from + count ≤ at) ⊎ (at + 4 ≤ from)
    → take count (drop from (set_four at given bytes)) ≡ take count (drop from bytes)
field-stays at from count None bytes f h g = refl
field-stays at from count (Some four) bytes f h (inl g) =
    before-stays at from count four bytes (omega (arith, f four refl)) g
field-stays at from count (Some four) bytes f h (inr g) =
    ap (take count) (drop-stays at from (Some four) bytes f h g)

-- ---- all four of them, one behind the other
abbrev one : WideSettings → List ℕ → List ℕ
one wide bytes = set_four 6 wide.origin bytes

abbrev two : WideSettings → List ℕ → List ℕ
two wide bytes = set_four 10 wide.destination (one wide bytes)

abbrev three : WideSettings → List ℕ → List ℕ
three wide bytes = set_four 14 wide.local (two wide bytes)

abbrev four : WideSettings → List ℕ → List ℕ
four wide bytes = set_four 18 wide.time (three wide bytes)

record Lengths (wide : WideSettings) (bytes : List ℕ) : Type 0 where
  first : length (one wide bytes) ≡ 24
  second : length (two wide bytes) ≡ 24
  third : length (three wide bytes) ≡ 24
  last : length (four wide bytes) ≡ 24

lengths : (wide : WideSettings) (bytes : List ℕ) → length bytes ≡ 24 → AreFours wide → Lengths wide bytes
lengths wide bytes e fours =
    let a : length (one wide bytes) ≡ 24 = length-four 6 wide.origin bytes (fours Origin) (omega arith) ∙ e in
    let b : length (two wide bytes) ≡ 24 =
    length-four 10 wide.destination (one wide bytes) (fours Destination) (omega arith) ∙ a in
    let c : length (three wide bytes) ≡ 24 =
    length-four 14 wide.local (two wide bytes) (fours Local) (omega arith) ∙ b in
    let d : length (four wide bytes) ≡ 24 =
    length-four 18 wide.time (three wide bytes) (fours Time) (omega arith) ∙ c in
    record { first = a; second = b; third = c; last = d }

-- what ends before the first of them stays
before-one : (wide : WideSettings) (from count : ℕ) (bytes : List ℕ) → length bytes ≡ 24 → AreFours wide
    → from + count ≤ 6 → take count (drop from (four wide bytes)) ≡ take count (drop from bytes)
before-one wide from count bytes e fours h =
    let l = lengths wide bytes e fours in
    field-stays 18 from count wide.time (three wide bytes) (fours Time) (omega (arith, l.third)) (inl (omega arith))
    ∙ field-stays 14 from count wide.local (two wide bytes) (fours Local) (omega (arith, l.second)) (inl (omega arith))
    ∙ field-stays 10 from count wide.destination (one wide bytes) (fours Destination) (omega (arith, l.first))
    (inl (omega arith))
    ∙ field-stays 6 from count wide.origin bytes (fours Origin) (omega arith) (inl (omega arith))

behind-all : (wide : WideSettings) (bytes : List ℕ) → length bytes ≡ 24 → AreFours wide
    → drop 22 (four wide bytes) ≡ drop 22 bytes
behind-all wide bytes e fours =
    let l = lengths wide bytes e fours in
    drop-stays 18 22 wide.time (three wide bytes) (fours Time) (omega (arith, l.third)) (omega arith)
    ∙ drop-stays 14 22 wide.local (two wide bytes) (fours Local) (omega (arith, l.second)) (omega arith)
    ∙ drop-stays 10 22 wide.destination (one wide bytes) (fours Destination) (omega (arith, l.first)) (omega arith)
    ∙ drop-stays 6 22 wide.origin bytes (fours Origin) (omega arith) (omega arith)

each-back : (wide : WideSettings) (f : WideField) (bytes : List ℕ) → length bytes ≡ 24 → AreFours wide
    → wide_bytes f (four wide bytes) ≡ unwrap_or (wide_given wide f) (wide_bytes f bytes)
unfolding bytes_field
each-back wide Origin bytes e fours =
    let l = lengths wide bytes e fours in
    field-stays 18 6 4 wide.time (three wide bytes) (fours Time) (omega (arith, l.third)) (inl (omega arith))
    ∙ field-stays 14 6 4 wide.local (two wide bytes) (fours Local) (omega (arith, l.second)) (inl (omega arith))
    ∙ field-stays 10 6 4 wide.destination (one wide bytes) (fours Destination) (omega (arith, l.first))
    (inl (omega arith))
    ∙ four-back 6 wide.origin bytes (fours Origin) (omega arith)
each-back wide Destination bytes e fours =
    let l = lengths wide bytes e fours in
    field-stays 18 10 4 wide.time (three wide bytes) (fours Time) (omega (arith, l.third)) (inl (omega arith))
    ∙ field-stays 14 10 4 wide.local (two wide bytes) (fours Local) (omega (arith, l.second)) (inl (omega arith))
    ∙ four-back 10 wide.destination (one wide bytes) (fours Destination) (omega (arith, l.first))
    ∙ ap (unwrap_or wide.destination)
    (field-stays 6 10 4 wide.origin bytes (fours Origin) (omega arith) (inr (omega arith)))
each-back wide Local bytes e fours =
    let l = lengths wide bytes e fours in
    field-stays 18 14 4 wide.time (three wide bytes) (fours Time) (omega (arith, l.third)) (inl (omega arith))
    ∙ four-back 14 wide.local (two wide bytes) (fours Local) (omega (arith, l.second))
    ∙ ap (unwrap_or wide.local)
    (field-stays 10 14 4 wide.destination (one wide bytes) (fours Destination) (omega (arith, l.first))
    (inr (omega arith))
    ∙ field-stays 6 14 4 wide.origin bytes (fours Origin) (omega arith) (inr (omega arith)))
each-back wide Time bytes e fours =
    let l = lengths wide bytes e fours in
    four-back 18 wide.time (three wide bytes) (fours Time) (omega (arith, l.third))
    ∙ ap (unwrap_or wide.time)
    (field-stays 14 18 4 wide.local (two wide bytes) (fours Local) (omega (arith, l.second)) (inr (omega arith))
    ∙ field-stays 10 18 4 wide.destination (one wide bytes) (fours Destination) (omega (arith, l.first))
    (inr (omega arith))
    ∙ field-stays 6 18 4 wide.origin bytes (fours Origin) (omega arith) (inr (omega arith)))

pub wide-back : WideIsReadBack
unfolding set_wide
wide-back wide f bytes e fours professional =
    subst (λ b. wide_bytes f (if b then four wide bytes else bytes)
    ≡ unwrap_or (wide_given wide f) (wide_bytes f bytes)) (sym professional) (each-back wide f bytes e fours)

abbrev Stays : List ℕ → List ℕ → Type 0
Stays bytes new = (length new ≡ 24) × (take 6 new ≡ take 6 bytes) × (drop 22 new ≡ drop 22 bytes)

stay-either : (wide : WideSettings) (bytes : List ℕ) (b : Bool) → length bytes ≡ 24 → AreFours wide
    → Stays bytes (if b then four wide bytes else bytes)
stay-either wide bytes true e fours =
    ((lengths wide bytes e fours).last, before-one wide 0 6 bytes e fours (omega arith), behind-all wide bytes e fours)
stay-either wide bytes false e fours = (e, refl, refl)

pub others-stay : OtherBytesStay
unfolding set_wide
others-stay wide bytes e fours = stay-either wide bytes (is_professional bytes) e fours
