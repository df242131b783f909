-- Addresses of 32 bits that words write.
use Rattle.std.proofs.Common.{◌≡◌, ◌∙◌, ◌<◌, ◌^◌, ◌&&◌, ℕ, Bool, List, [], ◌∷◌, Some, None, true, false, cond, refl, ap}
use Rattle.std.proofs.Common.{sym, length, nat_lt}
use Rattle.std.proofs.lemmas.Bool.{and_parts, lt-ltb, ltb-true}
use Rattle.std.specs.Char.{digit_value}
use Rattle.std.specs.Int.{to_le_bytes, w32}
use Rattle.std.specs.List.{list_all}
use Rattle.std.specs.Str.Parse.{AllDigits, IsNumeral, without_leading_plus}
use Rattle.aes3_status.specs.WideTexts.{address_in, is_numeral, written}

-- the word writes a number of 32 bits
abbrev Writes : List ℕ → Type 0
Writes word = IsNumeral 10 (without_leading_plus word) × (written word < 2 ^ 32)

digits-pass : (digits : List ℕ) → AllDigits 10 digits → list_all (λ digit. nat_lt (digit_value digit) 10) digits ≡ true
digits-pass [] h = refl
digits-pass (digit ∷ digits) h = rw (lt-ltb (digit_value digit) 10 h.0) (digits-pass digits h.1)

passing-digits : (digits : List ℕ) → list_all (λ digit. nat_lt (digit_value digit) 10) digits ≡ true
    → AllDigits 10 digits
passing-digits [] h = tt
passing-digits (digit ∷ digits) h =
    let e = and_parts (nat_lt (digit_value digit) 10) (list_all (λ d. nat_lt (digit_value d) 10) digits) h in
    (ltb-true (digit_value digit) 10 e.0, passing-digits digits e.1)

pub addressed : (word : List ℕ) (n : ℕ) → Writes word × (n ≡ written word)
    → Some (to_le_bytes w32 n) ≡ address_in word
addressed word n is =
    let digits = without_leading_plus word in
    let test : (is_numeral digits && nat_lt (written word) (2 ^ 32)) ≡ true =
    rw (lt-ltb 0 (length digits) is.0.0.0, digits-pass digits is.0.0.1, lt-ltb (written word) (2 ^ 32) is.0.1) refl in
    ap (λ m. Some (to_le_bytes w32 m)) is.1
    ∙ sym (ap (λ (b : Bool). cond b (Some (to_le_bytes w32 (written word))) None) test)

pub unaddressed : (word : List ℕ) → ¬ (Writes word) → None ≡ address_in word
unaddressed word never = go (is_numeral digits && nat_lt (written word) (2 ^ 32)) refl
  where
    digits : List ℕ
    digits = without_leading_plus word

    go : (b : Bool) → (is_numeral digits && nat_lt (written word) (2 ^ 32)) ≡ b
        → None ≡ cond b (Some (to_le_bytes w32 (written word))) None
    go true passed =
        let parts = and_parts (is_numeral digits) (nat_lt (written word) (2 ^ 32)) passed in
        let numeral = and_parts (nat_lt 0 (length digits)) (list_all (λ d. nat_lt (digit_value d) 10) digits) parts.0 in
        absurd (never (
          (ltb-true 0 (length digits) numeral.0, passing-digits digits numeral.1),
          ltb-true (written word) (2 ^ 32) parts.1,
        ))
    go false passed = refl
