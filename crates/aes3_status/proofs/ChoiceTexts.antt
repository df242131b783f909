-- What is told of codes and fields one after the other, and that it is ASCII.
use Rattle.std.proofs.Common.{◌≡◌, ◌∙◌, ℕ, zero, suc, ◌+◌, ◌<◌, List, [], ◌∷◌, ◌++◌, Bool, true, false, cond, Some}
use Rattle.std.proofs.Common.{refl, ap, sym, arith}
use Rattle.std.proofs.lemmas.Bool.{ltb-true}
use Rattle.std.proofs.lemmas.Fmt.{IsAscii-decimal}
use Rattle.std.proofs.lemmas.List.{flat_map_more}
use Rattle.std.proofs.lemmas.List.Folds.{list_any-append, list_any_at}
use Rattle.std.proofs.lemmas.List.FromFn.{length-range_with_len, get_or-range_with_len}
use Rattle.std.proofs.lemmas.Nat.Bits.{bit_at-lt}
use Rattle.std.proofs.lemmas.Str.{IsAscii-append, IsUtf8-from_ascii}
use Rattle.std.proofs.lemmas.Str.Ascii.{IsAscii-cons, IsAscii-nil}
use Rattle.std.specs.Int.{bit_at}
use Rattle.std.specs.List.{flat_map, list_all, list_any, range_with_len}
use Rattle.std.specs.Prelude.{codes, decimal, nat_lt, unwrap_or, ◌==◌, ◌&&◌, ◌||◌}
use Rattle.std.specs.Str.{IsAscii, IsUtf8}
use Rattle.aes3_status.specs.declared.field.ProField.{ProField}
use Rattle.aes3_status.specs.declared.field.ProField.TheVariants as pro
use Rattle.aes3_status.specs.declared.field.ConField.{ConField}
use Rattle.aes3_status.specs.declared.field.ConField.TheVariants as con
use Rattle.aes3_status.specs.declared.field.Field.{Field}
use Rattle.aes3_status.specs.declared.field.Field.TheVariants.{Use, Professional, Consumer}
use Rattle.aes3_status.specs.Choices.{below}
use Rattle.aes3_status.specs.FieldTexts.{field_text, four_bits, specified}
use Rattle.aes3_status.specs.Words.{Words, payload_words, use_words, word_for, word_of, words_up_to_20}
use Rattle.aes3_status.specs.Words.{words_up_to_24, words_up_to_any}
use Rattle.aes3_status.specs.ProfessionalText as professional
use Rattle.aes3_status.specs.ConsumerText as consumer
use Rattle.aes3_status.specs.NamedSettings.{code_text}

-- ---- one more number, one more field
range-more : (a n : ℕ) → range_with_len a (suc n) ≡ range_with_len a n ++ (a + n) ∷ []
range-more a zero = let e : a ≡ a + 0 = omega arith in ap (λ j. j ∷ []) e
range-more a (suc n) =
    let e : a + 1 + n ≡ a + suc n = omega arith in
    ap (λ r. a ∷ r) (range-more (a + 1) n ∙ ap (λ j. range_with_len (a + 1) n ++ j ∷ []) e)

pub below-more : (n : ℕ) → below (n + 1) ≡ below n ++ n ∷ []
below-more n =
    let e : n + 1 ≡ suc n = omega arith in
    let z : 0 + n ≡ n = omega arith in
    ap below e ∙ range-more 0 n ∙ ap (λ j. below n ++ j ∷ []) z

pub told-more : (f : ℕ → List ℕ) (old now : List ℕ) (n : ℕ) → now ≡ old ++ flat_map f (below n)
    → now ++ f n ≡ old ++ flat_map f (below (n + 1))
told-more f old now n h =
    ap (λ t. t ++ f n) h ∙ flat_map_more f old (below n) n ∙ ap (λ r. old ++ flat_map f r) (sym (below-more n))

-- ---- a test of numbers
or-false : (a b : Bool) → a ≡ false → b ≡ false → (a || (b || false)) ≡ false
or-false true b h g = cc
or-false false true h g = cc
or-false false false h g = refl

pub none-more : (p : ℕ → Bool) (n : ℕ) → list_any p (below n) ≡ false → p n ≡ false → list_any p (below (n + 1)) ≡ false
none-more p n h g =
    ap (list_any p) (below-more n) ∙ list_any-append p (below n) (n ∷ []) ∙ or-false (list_any p (below n)) (p n) h g

pub one-found : (p : ℕ → Bool) (k n : ℕ) → k < n → p k ≡ true → list_any p (below n) ≡ true
one-found p k n l h =
    list_any_at p (below n) k 0 (omega (arith, length-range_with_len 0 n)) (let z : 0 + k ≡ k = omega arith in
    ap p (get_or-range_with_len 0 n k 0 l ∙ z) ∙ h)

-- ---- ASCII
abbrev ascii : List ℕ → Bool
ascii bytes = list_all (λ byte. nat_lt byte 128) bytes

both : (a b : Bool) → (a && b) ≡ true → (a ≡ true) × (b ≡ true)
both true true h = (refl, refl)
both true false h = cc
both false b h = cc

tested : (bytes : List ℕ) → ascii bytes ≡ true → IsAscii bytes
tested [] h = IsAscii-nil
tested (byte ∷ bytes) h =
    let e = both (nat_lt byte 128) (ascii bytes) h in IsAscii-cons byte bytes (ltb-true byte 128 e.0) (tested bytes e.1)

chosen : (b : Bool) (x y : List ℕ) → IsAscii x → IsAscii y → IsAscii (cond b x y)
chosen true x y h g = h
chosen false x y h g = g

found : (words : Words) (code : ℕ) (other : List ℕ) → list_all (λ row. ascii row.1) words ≡ true → IsAscii other
    → IsAscii (unwrap_or (word_of words code) other)
found [] code other h g = g
found (row ∷ rows) code other h g =
    let e = both (ascii row.1) (list_all (λ r. ascii r.1) rows) h in
    go (row.0 == code) (tested row.1 e.0) (found rows code other e.1 g)
  where
    go : (b : Bool) → IsAscii row.1 → IsAscii (unwrap_or (word_of rows code) other)
        → IsAscii (unwrap_or (cond b (Some row.1) (word_of rows code)) other)
    go true x y = x
    go false x y = y

ascii-number : (code : ℕ) → code < 256 → IsAscii (decimal code)
ascii-number code h = IsAscii-decimal code (omega arith)

ascii-word : (words : Words) (code : ℕ) → list_all (λ row. ascii row.1) words ≡ true → code < 256
    → IsAscii (word_for words code)
unfolding word_for
ascii-word words code h l =
    found words code (codes "code" ++ decimal code) h
    (IsAscii-append (codes "code") (decimal code) (tested (codes "code") refl) (ascii-number code l))

ascii-specified : (code : ℕ) → code < 256 → IsAscii (specified code)
unfolding specified
ascii-specified code l = chosen (code == 0) (codes "not-specified") (decimal code) (tested (codes "not-specified") refl)
    (ascii-number code l)

ascii-bits : (n : ℕ) → IsAscii (four_bits n)
unfolding four_bits
ascii-bits n =
    IsAscii-cons (48 + bit_at n 0) ((48 + bit_at n 1) ∷ (48 + bit_at n 2) ∷ (48 + bit_at n 3) ∷ []) (digit 0)
    (IsAscii-cons (48 + bit_at n 1) ((48 + bit_at n 2) ∷ (48 + bit_at n 3) ∷ []) (digit 1)
    (IsAscii-cons (48 + bit_at n 2) ((48 + bit_at n 3) ∷ []) (digit 2)
    (IsAscii-cons (48 + bit_at n 3) [] (digit 3) IsAscii-nil)))
  where
    digit : (i : ℕ) → 48 + bit_at n i < 128
    digit i = omega (arith, bit_at-lt n i)

ascii-field : (name value : List ℕ) → ascii name ≡ true → IsAscii value → IsAscii (field_text name value)
unfolding field_text
ascii-field name value h g =
    IsAscii-append (codes " " ++ name ++ codes "=") value
    (IsAscii-append (codes " " ++ name) (codes "=")
    (IsAscii-append (codes " ") name (tested (codes " ") refl) (tested name h)) (tested (codes "=") refl)) g

ascii-pro : (f : ProField) (under code : ℕ) → code < 256 → IsAscii (professional.pro_text f under code)
ascii-pro pro.Payload under code l = ascii-field (codes "payload") _ refl (ascii-word payload_words code refl l)
ascii-pro pro.Emphasis under code l =
    ascii-field (codes "emphasis") _ refl (ascii-word professional.emphasis_words code refl l)
ascii-pro pro.Unlocked under code l =
    ascii-field (codes "unlocked") _ refl (ascii-word professional.unlocked_words code refl l)
ascii-pro pro.Rate under code l = ascii-field (codes "rate") _ refl (ascii-word professional.rate_words code refl l)
ascii-pro pro.Mode under code l = ascii-field (codes "mode") _ refl (ascii-word professional.mode_words code refl l)
ascii-pro pro.User under code l = ascii-field (codes "user") _ refl (ascii-word professional.user_words code refl l)
ascii-pro pro.Aux under code l = ascii-field (codes "aux") _ refl (ascii-word professional.aux_words code refl l)
ascii-pro pro.Word under code l = ascii-field (codes "word") _ refl (lengths (under == 4) (under == 0 || under == 2))
  where
    lengths : (b c : Bool) → IsAscii (word_for (cond b words_up_to_24 (cond c words_up_to_20 words_up_to_any)) code)
    lengths true c = ascii-word words_up_to_24 code refl l
    lengths false true = ascii-word words_up_to_20 code refl l
    lengths false false = ascii-word words_up_to_any code refl l
ascii-pro pro.B2high under code l = ascii-field (codes "b2high") _ refl (ascii-number code l)
ascii-pro pro.B3 under code l = ascii-field (codes "b3") _ refl (ascii-number code l)
ascii-pro pro.B4 under code l = ascii-field (codes "b4") _ refl (ascii-number code l)
ascii-pro pro.B5 under code l = ascii-field (codes "b5") _ refl (ascii-number code l)
ascii-pro pro.Unreliable under code l = ascii-field (codes "unreliable") _ refl (ascii-bits code)
ascii-pro pro.B22low under code l = ascii-field (codes "b22low") _ refl (ascii-number code l)
ascii-pro pro.Frequency under code l = IsAscii-nil

ascii-con : (f : ConField) (under code : ℕ) → code < 256 → IsAscii (consumer.con_text f under code)
ascii-con con.Payload under code l = ascii-field (codes "payload") _ refl (ascii-word payload_words code refl l)
ascii-con con.Copyright under code l =
    ascii-field (codes "copyright") _ refl (ascii-word consumer.copyright_words code refl l)
ascii-con con.Emphasis under code l = ascii-field (codes "emphasis") _ refl (words (under == 0))
  where
    words : (b : Bool) → IsAscii (word_for (cond b consumer.emphasis_words_of_pcm []) code)
    words true = ascii-word consumer.emphasis_words_of_pcm code refl l
    words false = ascii-word [] code refl l
ascii-con con.Mode under code l = ascii-field (codes "mode") _ refl (ascii-number code l)
ascii-con con.Category under code l =
    ascii-field (codes "category") _ refl (ascii-word consumer.category_words code refl l)
ascii-con con.Generation under code l = ascii-field (codes "generation") _ refl (ascii-number code l)
ascii-con con.Source under code l = ascii-field (codes "source") _ refl (ascii-specified code l)
ascii-con con.Number under code l = ascii-field (codes "number") _ refl (ascii-specified code l)
ascii-con con.Rate under code l = ascii-field (codes "rate") _ refl (ascii-word consumer.rate_words code refl l)
ascii-con con.Accuracy under code l =
    ascii-field (codes "accuracy") _ refl (ascii-word consumer.accuracy_words code refl l)
ascii-con con.B3high under code l = ascii-field (codes "b3high") _ refl (ascii-number code l)
ascii-con con.Greatest under code l =
    ascii-field (codes "greatest") _ refl (ascii-word consumer.greatest_words code refl l)
ascii-con con.Word under code l = ascii-field (codes "word") _ refl (lengths (under == 0))
  where
    lengths : (b : Bool) → IsAscii (word_for (cond b words_up_to_20 words_up_to_24) code)
    lengths true = ascii-word words_up_to_20 code refl l
    lengths false = ascii-word words_up_to_24 code refl l
ascii-con con.Original under code l = ascii-field (codes "original") _ refl (ascii-number code l)

pub code-is-text : (f : Field) (under code : ℕ) → code < 256 → IsUtf8 (code_text f under code)
code-is-text Use under code l =
    IsUtf8-from_ascii (field_text (codes "use") (word_for use_words code))
    (ascii-field (codes "use") _ refl (ascii-word use_words code refl l))
code-is-text (Professional f) under code l = IsUtf8-from_ascii (professional.pro_text f under code)
    (ascii-pro f under code l)
code-is-text (Consumer f) under code l = IsUtf8-from_ascii (consumer.con_text f under code) (ascii-con f under code l)
