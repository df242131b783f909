-- Statuses of one kind take the same settings.
use Rattle.std.proofs.Common.{◌≡◌, ℕ, ◌+◌, ◌-◌, ◌*◌, ◌<◌, ◌≤◌, ◌⊎◌, inl, inr, Bool}
use Rattle.std.proofs.Common.{false, eqb, List, [], ◌∷◌, ◌++◌, Option, Some, None, length, take, drop, get_or, refl}
use Rattle.std.proofs.Common.{ap, ◌∙◌, sym, arith}
use Rattle.std.specs.Prelude.{not, option_and_then, slice_get}
use Rattle.std.specs.Option.{is_some}
use Rattle.std.proofs.Math.Seq.{drop-cons}
use Rattle.std.proofs.lemmas.Bool.{cases_lt}
use Rattle.std.proofs.lemmas.List.{get_or-append_right, get_or_append_left, get_or-drop, get_or-take}
use Rattle.std.proofs.lemmas.List.{length-take-le}
use Rattle.aes3_bits.specs.Bits.{low_bits, number}
use Rattle.aes3_bits.proofs.Bits.{length-low_bits, low_bits-number}
use Rattle.aes3_status.specs.declared.field.Place.{Place}
use Rattle.aes3_status.specs.declared.field.ProField.TheVariants as pro
use Rattle.aes3_status.specs.declared.field.ConField.TheVariants as con
use Rattle.aes3_status.specs.declared.field.Field.{Field}
use Rattle.aes3_status.specs.declared.field.Field.TheVariants.{Use, Professional, Consumer}
use Rattle.aes3_status.specs.declared.setting.Setting.{Setting}
use Rattle.aes3_status.specs.declared.setting.Settings.{Settings}
use Rattle.aes3_status.specs.Bits.{field, status_bits, with_part}
use Rattle.aes3_status.specs.Settings.{code_for, is_for, place_of, set_by, set_in_turn, under, with_code, with_field}
use Rattle.aes3_status.specs.SettingLaws.{IsPlace, first_bit}
use Rattle.aes3_status.specs.Statuses.{is_professional}
use Rattle.aes3_status.specs.Taken.{kind_of, takes, takes_wide, telling_bits}
use Rattle.aes3_status.proofs.SettingLemmas.{field-is, meaning-stays, only-its-bits}
use Rattle.aes3_status.proofs.Weights.{length-status_bits}

-- ---- a bit of a list with a part replaced
part-low : {T : Type 0} (at j : ℕ) (new items : List T) (d : T) → at + length new ≤ length items → j < at
    → get_or (with_part at new items) j d ≡ get_or items j d
part-low at j new items d h l =
    let k : length (take at items) ≡ at = length-take-le at items (omega arith) in
    get_or_append_left (take at items) (new ++ drop (at + length new) items) d j (omega arith)
    ∙ get_or-take at items j d l

part-behind : {T : Type 0} (at j : ℕ) (new items : List T) (d : T) → at + length new ≤ length items → at ≤ j
    → get_or (with_part at new items) j d ≡ get_or (new ++ drop (at + length new) items) (j - at) d
part-behind at j new items d h l =
    get_or-append_right (take at items) (new ++ drop (at + length new) items) at j d
    (length-take-le at items (omega arith)) l

part-high : {T : Type 0} (at j : ℕ) (new items : List T) (d : T) → at + length new ≤ length items
    → at + length new ≤ j → get_or (with_part at new items) j d ≡ get_or items j d
part-high at j new items d h l =
    let e : at + length new + (j - at - length new) ≡ j = omega arith in
    part-behind at j new items d h (omega arith)
    ∙ get_or-append_right new (drop (at + length new) items) (length new) (j - at) d refl (omega arith)
    ∙ get_or-drop (at + length new) items (j - at - length new) d
    ∙ ap (λ k. get_or items k d) e

part-same : {T : Type 0} (at j : ℕ) (new xs ys : List T) (d : T) → length xs ≡ length ys
    → at + length new ≤ length xs → get_or xs j d ≡ get_or ys j d
    → get_or (with_part at new xs) j d ≡ get_or (with_part at new ys) j d
part-same at j new xs ys d e h g = go (cases_lt j at) (cases_lt j (at + length new))
  where
    go : (j < at) ⊎ (at ≤ j) → (j < at + length new) ⊎ (at + length new ≤ j)
        → get_or (with_part at new xs) j d ≡ get_or (with_part at new ys) j d
    go (inl l) m = part-low at j new xs d h l ∙ g ∙ sym (part-low at j new ys d (omega arith) l)
    go (inr l) (inr m) = part-high at j new xs d h m ∙ g ∙ sym (part-high at j new ys d (omega arith) m)
    go (inr l) (inl m) =
        part-behind at j new xs d h l
        ∙ get_or_append_left new (drop (at + length new) xs) d (j - at) (omega arith)
        ∙ sym (get_or_append_left new (drop (at + length new) ys) d (j - at) (omega arith))
        ∙ sym (part-behind at j new ys d (omega arith) l)

-- ---- statuses with the same telling bits
abbrev bit : ℕ → List ℕ → Bool
bit j s = get_or (status_bits s) j false

record Alike (s t : List ℕ) : Type 0 where
  long : length s ≡ 24
  also : length t ≡ 24
  use_bit : bit 0 s ≡ bit 0 t
  payload_bit : bit 1 s ≡ bit 1 t
  aux_first : bit 16 s ≡ bit 16 t
  aux_second : bit 17 s ≡ bit 17 t
  aux_third : bit 18 s ≡ bit 18 t
  greatest_bit : bit 32 s ≡ bit 32 t

same-telling : (s t : List ℕ) → kind_of s ≡ kind_of t → telling_bits s ≡ telling_bits t
unfolding kind_of telling_bits
same-telling s t e =
    sym (low_bits-number (telling_bits s)) ∙ ap (low_bits 6) e ∙ low_bits-number (telling_bits t)

alike : (s t : List ℕ) → length s ≡ 24 → length t ≡ 24 → kind_of s ≡ kind_of t → Alike s t
unfolding telling_bits
alike s t l m e =
    let h = same-telling s t e in
    record {
      long = l;
      also = m;
      use_bit = ap (λ bits. get_or bits 0 false) h;
      payload_bit = ap (λ bits. get_or bits 1 false) h;
      aux_first = ap (λ bits. get_or bits 2 false) h;
      aux_second = ap (λ bits. get_or bits 3 false) h;
      aux_third = ap (λ bits. get_or bits 4 false) h;
      greatest_bit = ap (λ bits. get_or bits 5 false) h;
    }

-- a code in a field keeps them so
bit-same : (place : Place) (code : ℕ) (s t : List ℕ) (j : ℕ) → IsPlace place → length s ≡ 24 → length t ≡ 24
    → bit j s ≡ bit j t → bit j (with_field place code s) ≡ bit j (with_field place code t)
bit-same place code s t j h l m e =
    let w = h.within in
    let i = h.inside in
    let x = length-status_bits s in
    let y = length-status_bits t in
    ap (λ bits. get_or bits j false) (only-its-bits place code s h l)
    ∙ part-same (first_bit place) j (low_bits place.count code) (status_bits s) (status_bits t) false (omega arith)
    (omega (arith, length-low_bits place.count code)) e
    ∙ sym (ap (λ bits. get_or bits j false) (only-its-bits place code t h m))

abbrev coded : Field → Option ℕ → List ℕ → List ℕ
coded f o s = with_code (place_of f) o s

coded-bit : (f : Field) (o : Option ℕ) (s t : List ℕ) (j : ℕ) → length s ≡ 24 → length t ≡ 24
    → bit j s ≡ bit j t → bit j (coded f o s) ≡ bit j (coded f o t)
coded-bit f None s t j l m e = e
coded-bit f (Some code) s t j l m e = bit-same (place_of f) code s t j (field-is f) l m e

-- ---- the fields that these bits make
one-bit : (s : List ℕ) (byte first : ℕ) → length s ≡ 24 → 8 * byte + first < 192
    → field byte first 1 s ≡ number (bit (8 * byte + first) s ∷ [])
unfolding field
one-bit s byte first l h =
    ap (λ bits. number (take 1 bits))
    (drop-cons (status_bits s) (8 * byte + first) false (omega (arith, length-status_bits s)))

three-bits : (s : List ℕ) → length s ≡ 24 → field 2 0 3 s ≡ number (bit 16 s ∷ bit 17 s ∷ bit 18 s ∷ [])
unfolding field
three-bits s l =
    let n = length-status_bits s in
    ap (λ bits. number (take 3 bits))
    (drop-cons (status_bits s) 16 false (omega arith)
    ∙ ap (λ bits. bit 16 s ∷ bits) (drop-cons (status_bits s) 17 false (omega arith)
    ∙ ap (λ bits. bit 17 s ∷ bits) (drop-cons (status_bits s) 18 false (omega arith))))

one-same : (s t : List ℕ) (byte first : ℕ) → length s ≡ 24 → length t ≡ 24 → 8 * byte + first < 192
    → bit (8 * byte + first) s ≡ bit (8 * byte + first) t → field byte first 1 s ≡ field byte first 1 t
one-same s t byte first l m h e =
    one-bit s byte first l h ∙ ap (λ b. number (b ∷ [])) e ∙ sym (one-bit t byte first m h)

aux-same : (s t : List ℕ) → Alike s t → field 2 0 3 s ≡ field 2 0 3 t
aux-same s t a =
    three-bits s a.long
    ∙ ap (λ b. number (b ∷ bit 17 s ∷ bit 18 s ∷ [])) a.aux_first
    ∙ ap (λ b. number (bit 16 t ∷ b ∷ bit 18 s ∷ [])) a.aux_second
    ∙ ap (λ b. number (bit 16 t ∷ bit 17 t ∷ b ∷ [])) a.aux_third
    ∙ sym (three-bits t a.also)

use-same : (s t : List ℕ) → Alike s t → is_professional s ≡ is_professional t
use-same s t a = ap (λ n. eqb n 1) (one-same s t 0 0 a.long a.also (omega arith) a.use_bit)

for-same : (f : Field) (s t : List ℕ) → Alike s t → is_for f s ≡ is_for f t
for-same Use s t a = refl
for-same (Professional f) s t a = use-same s t a
for-same (Consumer f) s t a = ap not (use-same s t a)

under-same : (f : Field) (s t : List ℕ) → Alike s t → under f s ≡ under f t
under-same Use s t a = refl
under-same (Professional pro.Payload) s t a = refl
under-same (Professional pro.Emphasis) s t a = refl
under-same (Professional pro.Unlocked) s t a = refl
under-same (Professional pro.Rate) s t a = refl
under-same (Professional pro.Mode) s t a = refl
under-same (Professional pro.User) s t a = refl
under-same (Professional pro.Aux) s t a = refl
under-same (Professional pro.Word) s t a = aux-same s t a
under-same (Professional pro.B2high) s t a = refl
under-same (Professional pro.B3) s t a = refl
under-same (Professional pro.B4) s t a = refl
under-same (Professional pro.B5) s t a = refl
under-same (Professional pro.Unreliable) s t a = refl
under-same (Professional pro.B22low) s t a = refl
under-same (Professional pro.Frequency) s t a = refl
under-same (Consumer con.Payload) s t a = refl
under-same (Consumer con.Copyright) s t a = refl
under-same (Consumer con.Emphasis) s t a = one-same s t 0 1 a.long a.also (omega arith) a.payload_bit
under-same (Consumer con.Mode) s t a = refl
under-same (Consumer con.Category) s t a = refl
under-same (Consumer con.Generation) s t a = refl
under-same (Consumer con.Source) s t a = refl
under-same (Consumer con.Number) s t a = refl
under-same (Consumer con.Rate) s t a = refl
under-same (Consumer con.Accuracy) s t a = refl
under-same (Consumer con.B3high) s t a = refl
under-same (Consumer con.Greatest) s t a = refl
under-same (Consumer con.Word) s t a = one-same s t 4 0 a.long a.also (omega arith) a.greatest_bit
under-same (Consumer con.Original) s t a = refl

-- ---- what they take
code-same : (setting : Setting) (s t : List ℕ) → Alike s t → code_for setting s ≡ code_for setting t
code-same setting s t a =
    let f = for-same setting.field s t a in
    let u = under-same setting.field s t a in
    rw (f, u) refl

alike-set : (setting : Setting) (s t : List ℕ) → Alike s t → Alike (set_by setting s) (set_by setting t)
alike-set setting s t a =
    let f = setting.field in
    let o = code_for setting t in
    let e : coded f (code_for setting s) s ≡ coded f o s = ap (λ c. coded f c s) (code-same setting s t a) in
    let same : (j : ℕ) → bit j s ≡ bit j t → bit j (set_by setting s) ≡ bit j (set_by setting t) =
    λ j h. ap (bit j) e ∙ coded-bit f o s t j a.long a.also h in
    record {
      long = (meaning-stays setting s a.long).0;
      also = (meaning-stays setting t a.also).0;
      use_bit = same 0 a.use_bit;
      payload_bit = same 1 a.payload_bit;
      aux_first = same 16 a.aux_first;
      aux_second = same 17 a.aux_second;
      aux_third = same 18 a.aux_third;
      greatest_bit = same 32 a.greatest_bit;
    }

alike-turn : (settings : List Setting) (s t : List ℕ) → Alike s t
    → Alike (set_in_turn settings s) (set_in_turn settings t)
unfolding set_in_turn
alike-turn [] s t a = a
alike-turn (setting ∷ settings) s t a =
    alike-turn settings (set_by setting s) (set_by setting t) (alike-set setting s t a)

some-same : (o : Option Setting) (s t : List ℕ) → Alike s t
    → is_some (option_and_then (λ setting. code_for setting s) o)
    ≡ is_some (option_and_then (λ setting. code_for setting t) o)
some-same None s t a = refl
some-same (Some setting) s t a = ap is_some (code-same setting s t a)

pub takes-same : (settings : List Setting) (i : ℕ) (s t : List ℕ) → length s ≡ 24 → length t ≡ 24
    → kind_of s ≡ kind_of t → takes settings s i ≡ takes settings t i
takes-same settings i s t l m e =
    some-same (slice_get settings i) (set_in_turn (take i settings) s) (set_in_turn (take i settings) t)
    (alike-turn (take i settings) s t (alike s t l m e))

pub wide-same : (settings : Settings) (s t : List ℕ) → length s ≡ 24 → length t ≡ 24 → kind_of s ≡ kind_of t
    → takes_wide settings s ≡ takes_wide settings t
wide-same settings s t l m e =
    use-same (set_in_turn settings.codes s) (set_in_turn settings.codes t)
    (alike-turn settings.codes s t (alike s t l m e))
