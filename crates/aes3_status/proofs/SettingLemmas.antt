-- The laws of a code in a field.
use Rattle.std.proofs.Common.{◌≡◌, ◌≢◌, ℕ, ◌+◌, ◌*◌, ◌<◌, ◌≤◌, inl, inr, eqb, List, Option, Some, None, length}
use Rattle.std.proofs.Common.{take, drop, refl, ap, ◌∙◌, sym, arith}
use Rattle.std.proofs.lemmas.List.{length-set}
use Rattle.aes3_status.specs.declared.field.Place.{Place}
use Rattle.aes3_status.specs.declared.field.ProField.{ProField}
use Rattle.aes3_status.specs.declared.field.ProField.TheVariants as pro
use Rattle.aes3_status.specs.declared.field.ConField.{ConField}
use Rattle.aes3_status.specs.declared.field.ConField.TheVariants as con
use Rattle.aes3_status.specs.declared.field.Field.{Field}
use Rattle.aes3_status.specs.declared.field.Field.TheVariants.{Use, Professional, Consumer}
use Rattle.aes3_bits.specs.Bits.{low_bits, number}
use Rattle.aes3_status.specs.Bits.{status_bits, field, number_at, place}
use Rattle.aes3_status.specs.Consumer.{con_place}
use Rattle.aes3_status.specs.Professional.{pro_place}
use Rattle.aes3_status.specs.Statuses.{is_professional}
use Rattle.aes3_status.specs.Settings.{with_bits, with_field, place_of, under, code_for, with_code}
use Rattle.aes3_status.specs.SettingLaws.{IsPlace, first_bit, OnlyItsBitsChange, CodeIsReadBack, OtherFieldsStay}
use Rattle.aes3_status.specs.SettingLaws.{MeaningStays, SettingIsReadBack, UseStays}
use Rattle.aes3_bits.proofs.Bits.{length-low_bits}
use Rattle.aes3_status.proofs.BitFields.{field-fits}
use Rattle.aes3_status.proofs.Weights.{length-status_bits}
use Rattle.aes3_bits.proofs.Bits.{number-low}
use Rattle.aes3_status.proofs.SetFields.{status-set, new-back, before-stays, behind-stays}

pub only-its-bits : OnlyItsBitsChange
unfolding with_field
only-its-bits place code bytes h e =
    let w = h.within in
    let i = h.inside in
    status-set bytes place.byte place.first (low_bits place.count code) (omega arith)
    (omega (arith, length-low_bits place.count code))

fits-in : (place : Place) (code : ℕ) (bytes : List ℕ) → IsPlace place → length bytes ≡ 24
    → first_bit place + length (low_bits place.count code) ≤ length (status_bits bytes)
fits-in place code bytes h e =
    let w = h.within in
    let i = h.inside in
    omega (arith, length-low_bits place.count code, length-status_bits bytes)

pub code-back : CodeIsReadBack
unfolding field
code-back place code bytes h e =
    ap (λ b. number (take place.count (drop (first_bit place) b))) (only-its-bits place code bytes h e)
    ∙ ap (λ k. number
    (take k (drop (first_bit place) (with_bits (first_bit place) (low_bits place.count code) (status_bits bytes)))))
    (sym (length-low_bits place.count code))
    ∙ ap number (new-back (first_bit place) (low_bits place.count code) (status_bits bytes)
    (fits-in place code bytes h e))
    ∙ number-low place.count code

pub others-stay : OtherFieldsStay
unfolding field
others-stay place code bytes byte bit count h e (inl g) =
    ap (λ b. number (take count (drop (8 * byte + bit) b))) (only-its-bits place code bytes h e)
    ∙ ap number (before-stays (first_bit place) (8 * byte + bit) count (low_bits place.count code) (status_bits bytes)
    (fits-in place code bytes h e) g)
others-stay place code bytes byte bit count h e (inr g) =
    ap (λ b. number (take count (drop (8 * byte + bit) b))) (only-its-bits place code bytes h e)
    ∙ ap (λ b. number (take count b))
    (behind-stays (first_bit place) (8 * byte + bit) (low_bits place.count code) (status_bits bytes)
    (fits-in place code bytes h e)
    (omega (arith, length-low_bits place.count code)))

-- each field lies within one byte, behind the bit that tells the use
record Lies (place : Place) : Type 0 where
  is : IsPlace place
  behind : 1 ≤ first_bit place

lies : (place : Place) → place.byte < 24 → place.first + place.count ≤ 8 → 1 ≤ first_bit place → Lies place
lies place h i b = record { is = record { within = h; inside = i }; behind = b }

pro-lies : (f : ProField) → Lies (pro_place f)
pro-lies pro.Payload = lies _ (omega arith) (omega arith) (omega arith)
pro-lies pro.Emphasis = lies _ (omega arith) (omega arith) (omega arith)
pro-lies pro.Unlocked = lies _ (omega arith) (omega arith) (omega arith)
pro-lies pro.Rate = lies _ (omega arith) (omega arith) (omega arith)
pro-lies pro.Mode = lies _ (omega arith) (omega arith) (omega arith)
pro-lies pro.User = lies _ (omega arith) (omega arith) (omega arith)
pro-lies pro.Aux = lies _ (omega arith) (omega arith) (omega arith)
pro-lies pro.Word = lies _ (omega arith) (omega arith) (omega arith)
pro-lies pro.B2high = lies _ (omega arith) (omega arith) (omega arith)
pro-lies pro.B3 = lies _ (omega arith) (omega arith) (omega arith)
pro-lies pro.B4 = lies _ (omega arith) (omega arith) (omega arith)
pro-lies pro.B5 = lies _ (omega arith) (omega arith) (omega arith)
pro-lies pro.Unreliable = lies _ (omega arith) (omega arith) (omega arith)
pro-lies pro.B22low = lies _ (omega arith) (omega arith) (omega arith)
pro-lies pro.Frequency = lies _ (omega arith) (omega arith) (omega arith)

con-lies : (f : ConField) → Lies (con_place f)
con-lies con.Payload = lies _ (omega arith) (omega arith) (omega arith)
con-lies con.Copyright = lies _ (omega arith) (omega arith) (omega arith)
con-lies con.Emphasis = lies _ (omega arith) (omega arith) (omega arith)
con-lies con.Mode = lies _ (omega arith) (omega arith) (omega arith)
con-lies con.Category = lies _ (omega arith) (omega arith) (omega arith)
con-lies con.Generation = lies _ (omega arith) (omega arith) (omega arith)
con-lies con.Source = lies _ (omega arith) (omega arith) (omega arith)
con-lies con.Number = lies _ (omega arith) (omega arith) (omega arith)
con-lies con.Rate = lies _ (omega arith) (omega arith) (omega arith)
con-lies con.Accuracy = lies _ (omega arith) (omega arith) (omega arith)
con-lies con.B3high = lies _ (omega arith) (omega arith) (omega arith)
con-lies con.Greatest = lies _ (omega arith) (omega arith) (omega arith)
con-lies con.Word = lies _ (omega arith) (omega arith) (omega arith)
con-lies con.Original = lies _ (omega arith) (omega arith) (omega arith)

use-is : IsPlace (place 0 0 1)
use-is = record { within = omega arith; inside = omega arith }

pub field-is : (f : Field) → IsPlace (place_of f)
field-is Use = use-is
field-is (Professional f) = (pro-lies f).is
field-is (Consumer f) = (con-lies f).is

pub behind-use : (f : Field) → f ≢ Use → 1 ≤ first_bit (place_of f)
behind-use Use other = absurd (other refl)
behind-use (Professional f) other = (pro-lies f).behind
behind-use (Consumer f) other = (con-lies f).behind

use-stays : (f : Field) (code : ℕ) (bytes : List ℕ) → length bytes ≡ 24 → f ≢ Use
    → is_professional (with_field (place_of f) code bytes) ≡ is_professional bytes
use-stays f code bytes e other =
    let b = behind-use f other in
    ap (λ n. eqb n 1) (others-stay (place_of f) code bytes 0 0 1 (field-is f) e (inl (omega arith)))

under-stays : (f : Field) (code : ℕ) (bytes : List ℕ) → length bytes ≡ 24
    → under f (with_field (place_of f) code bytes) ≡ under f bytes
under-stays Use code bytes e = refl
under-stays (Professional pro.Payload) code bytes e = refl
under-stays (Professional pro.Emphasis) code bytes e = refl
under-stays (Professional pro.Unlocked) code bytes e = refl
under-stays (Professional pro.Rate) code bytes e = refl
under-stays (Professional pro.Mode) code bytes e = refl
under-stays (Professional pro.User) code bytes e = refl
under-stays (Professional pro.Aux) code bytes e = refl
under-stays (Professional pro.Word) code bytes e =
    others-stay (pro_place pro.Word) code bytes 2 0 3 (pro-lies pro.Word).is e (inl (omega arith))
under-stays (Professional pro.B2high) code bytes e = refl
under-stays (Professional pro.B3) code bytes e = refl
under-stays (Professional pro.B4) code bytes e = refl
under-stays (Professional pro.B5) code bytes e = refl
under-stays (Professional pro.Unreliable) code bytes e = refl
under-stays (Professional pro.B22low) code bytes e = refl
under-stays (Professional pro.Frequency) code bytes e = refl
under-stays (Consumer con.Payload) code bytes e = refl
under-stays (Consumer con.Copyright) code bytes e = refl
under-stays (Consumer con.Emphasis) code bytes e = others-stay (con_place con.Emphasis) code bytes 0 1 1
    (con-lies con.Emphasis).is e (inl (omega arith))
under-stays (Consumer con.Mode) code bytes e = refl
under-stays (Consumer con.Category) code bytes e = refl
under-stays (Consumer con.Generation) code bytes e = refl
under-stays (Consumer con.Source) code bytes e = refl
under-stays (Consumer con.Number) code bytes e = refl
under-stays (Consumer con.Rate) code bytes e = refl
under-stays (Consumer con.Accuracy) code bytes e = refl
under-stays (Consumer con.B3high) code bytes e = refl
under-stays (Consumer con.Greatest) code bytes e = refl
under-stays (Consumer con.Word) code bytes e =
    others-stay (con_place con.Word) code bytes 4 0 1 (con-lies con.Word).is e (inl (omega arith))
under-stays (Consumer con.Original) code bytes e = refl

length-with_field : (place : Place) (code : ℕ) (bytes : List ℕ) → length (with_field place code bytes) ≡ length bytes
unfolding with_field
length-with_field place code bytes = length-set bytes place.byte _

code-stays : (f : Field) (o : Option ℕ) (bytes : List ℕ) → length bytes ≡ 24
    → (length (with_code (place_of f) o bytes) ≡ 24) × (under f (with_code (place_of f) o bytes) ≡ under f bytes)
code-stays f None bytes e = (e, refl)
code-stays f (Some code) bytes e =
    (length-with_field (place_of f) code bytes ∙ e, under-stays f code bytes e)

pub meaning-stays : MeaningStays
meaning-stays setting bytes e = code-stays setting.field (code_for setting bytes) bytes e

use-stays-with : (f : Field) (o : Option ℕ) (bytes : List ℕ) → length bytes ≡ 24 → f ≢ Use
    → is_professional (with_code (place_of f) o bytes) ≡ is_professional bytes
use-stays-with f None bytes e other = refl
use-stays-with f (Some code) bytes e other = use-stays f code bytes e other

pub use-kept : UseStays
use-kept setting bytes e other = use-stays-with setting.field (code_for setting bytes) bytes e other

pub setting-back : SettingIsReadBack
setting-back setting bytes code e h =
    ap (λ o. number_at (place_of setting.field) (with_code (place_of setting.field) o bytes)) h
    ∙ code-back (place_of setting.field) code bytes (field-is setting.field) e

-- the number that tells what the codes mean has three bits at most
pub under-few : (f : Field) (bytes : List ℕ) → under f bytes < 8
under-few Use bytes = omega arith
under-few (Professional pro.Payload) bytes = omega arith
under-few (Professional pro.Emphasis) bytes = omega arith
under-few (Professional pro.Unlocked) bytes = omega arith
under-few (Professional pro.Rate) bytes = omega arith
under-few (Professional pro.Mode) bytes = omega arith
under-few (Professional pro.User) bytes = omega arith
under-few (Professional pro.Aux) bytes = omega arith
under-few (Professional pro.Word) bytes = omega (arith, field-fits 2 0 3 bytes)
under-few (Professional pro.B2high) bytes = omega arith
under-few (Professional pro.B3) bytes = omega arith
under-few (Professional pro.B4) bytes = omega arith
under-few (Professional pro.B5) bytes = omega arith
under-few (Professional pro.Unreliable) bytes = omega arith
under-few (Professional pro.B22low) bytes = omega arith
under-few (Professional pro.Frequency) bytes = omega arith
under-few (Consumer con.Payload) bytes = omega arith
under-few (Consumer con.Copyright) bytes = omega arith
under-few (Consumer con.Emphasis) bytes = omega (arith, field-fits 0 1 1 bytes)
under-few (Consumer con.Mode) bytes = omega arith
under-few (Consumer con.Category) bytes = omega arith
under-few (Consumer con.Generation) bytes = omega arith
under-few (Consumer con.Source) bytes = omega arith
under-few (Consumer con.Number) bytes = omega arith
under-few (Consumer con.Rate) bytes = omega arith
under-few (Consumer con.Accuracy) bytes = omega arith
under-few (Consumer con.B3high) bytes = omega arith
under-few (Consumer con.Greatest) bytes = omega arith
under-few (Consumer con.Word) bytes = omega (arith, field-fits 4 0 1 bytes)
under-few (Consumer con.Original) bytes = omega arith
