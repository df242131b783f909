-- Fields of four bytes, from the texts that set them to what is printed of them.
use Rattle.std.proofs.Common.{◌≡◌, ◌∙◌, ◌<◌, ◌≤◌, ◌+◌, ◌^◌, ℕ, zero, suc, Bool, true, false, cond, List, []}
use Rattle.std.proofs.Common.{◌∷◌, ◌++◌, Option, Some, None, length, take, drop, get_or, map, refl, ap, ap₂}
use Rattle.std.proofs.Common.{◌≢◌, append_assoc, subst, sym, arith, nat_le, nat_lt, eqb-true, length-append, replicate}
use Rattle.std.proofs.Math.Seq.{drop-cons}
use Rattle.std.proofs.lemmas.Bool.{and_parts, leb-true, ltb-true}
use Rattle.std.proofs.lemmas.List.{append-nil, length-drop, take-append-drop}
use Rattle.std.proofs.lemmas.List.Sums.{fold-append, passes_at_first}
use Rattle.std.proofs.lemmas.Slice.Eq.{bytes_eq-Decides}
use Rattle.std.specs.Int.{to_le_bytes, w32}
use Rattle.std.specs.List.{after_first, before_first, Contains, list_all, position_or_len}
use Rattle.std.specs.Prelude.{codes, decimal, fold, option_and_then, option_map, ◌&&◌}
use Rattle.std.specs.Option.{unwrap_or}
use Rattle.std.specs.Str.{bytes_eq}
use Rattle.std.specs.Str.Parse.{without_leading_plus}
use Rattle.aes3_status.specs.declared.wide_field.WideField.{WideField}
use Rattle.aes3_status.specs.declared.wide_field.WideField.TheVariants.{Origin, Destination, Local, Time}
use Rattle.aes3_status.specs.declared.wide_field.WideSettings.{WideSettings}
use Rattle.aes3_status.specs.Bits.{byte_bits, bytes_field, field, status_bits}
use Rattle.aes3_bits.specs.Bits.{number}
use Rattle.aes3_status.specs.Wide.{AreFours, set_wide, wide_bytes, wide_given}
use Rattle.aes3_status.proofs.BitFields.{drop-bytes, four-bytes, take-four}
use Rattle.aes3_status.proofs.WideFields.{others-stay, wide-back}
use Rattle.aes3_status.specs.FieldTexts.{field_text, shown}
use Rattle.aes3_status.specs.WideShown.{FullLabelsStay, LastTextCounts, WideIsShown, WideTextsAreFours, has_characters}
use Rattle.aes3_status.specs.WideShown.{wide_shown, wide_text}
use Rattle.aes3_status.specs.WideTexts.{address_in, characters_in, four_in, is_character, is_equals, is_label, is_numeral, is_printable}
use Rattle.aes3_status.specs.WideTexts.{padded}
use Rattle.aes3_status.specs.WideTexts.{no_wide, wide_in, wide_name, wide_named, wide_of_parts}
use Rattle.aes3_status.specs.WideTexts.{wide_of_texts, with_four, with_wide}
use Rattle.aes3_status.specs.WideTexts.{written}

-- ---- a number of four bytes
-- the bits from a byte on
bits-from : (bytes : List ℕ) (k : ℕ) → k < length bytes
    → status_bits (drop k bytes) ≡ byte_bits (get_or bytes k 0) ++ status_bits (drop (suc k) bytes)
bits-from [] k h = absurd (omega arith)
bits-from (x ∷ bytes) zero h = refl
bits-from (x ∷ bytes) (suc k) h = bits-from bytes k (omega arith)

-- the first 32 bits are those of four bytes
first-bits : (a b c d : ℕ) (bits : List Bool)
    → take 32 (byte_bits a ++ (byte_bits b ++ (byte_bits c ++ (byte_bits d ++ bits))))
    ≡ take 32 (status_bits (a ∷ b ∷ c ∷ d ∷ []))
unfolding byte_bits
first-bits a b c d bits = refl

-- a number of 32 bits is that of its own four bytes
own-bytes : (bytes : List ℕ) (at : ℕ) → at + 4 ≤ length bytes
    → field at 0 32 bytes ≡ field 0 0 32 (bytes_field at 4 bytes)
unfolding field
own-bytes bytes at h =
    let one : suc at ≡ at + 1 = omega arith in
    let two : suc (at + 1) ≡ at + 2 = omega arith in
    let three : suc (at + 2) ≡ at + 3 = omega arith in
    let a = get_or bytes at 0 in
    let b = get_or bytes (at + 1) 0 in
    let c = get_or bytes (at + 2) 0 in
    let d = get_or bytes (at + 3) 0 in
    let rest = status_bits (drop (suc (at + 3)) bytes) in
    let fourth : status_bits (drop (suc (at + 2)) bytes) ≡ byte_bits d ++ rest =
    ap (λ k. status_bits (drop k bytes)) three ∙ bits-from bytes (at + 3) (omega arith) in
    let third : status_bits (drop (suc (at + 1)) bytes) ≡ byte_bits c ++ (byte_bits d ++ rest) =
    ap (λ k. status_bits (drop k bytes)) two ∙ bits-from bytes (at + 2) (omega arith)
    ∙ ap (λ bits. byte_bits c ++ bits) fourth in
    let second : status_bits (drop (suc at) bytes) ≡ byte_bits b ++ (byte_bits c ++ (byte_bits d ++ rest)) =
    ap (λ k. status_bits (drop k bytes)) one ∙ bits-from bytes (at + 1) (omega arith)
    ∙ ap (λ bits. byte_bits b ++ bits) third in
    ap (λ bits. number (take 32 bits)) (drop-bytes bytes at 0 (omega arith) (omega arith)
    ∙ ap (λ bits. byte_bits a ++ bits) second)
    ∙ ap number (first-bits a b c d rest) ∙ ap (field 0 0 32) (take-four bytes at h)

small : (n i : ℕ) → get_or (to_le_bytes w32 n) i 0 < 256
small n zero = omega arith
small n (suc zero) = omega arith
small n (suc (suc zero)) = omega arith
small n (suc (suc (suc zero))) = omega arith
small n (suc (suc (suc (suc i)))) = omega arith

number-back : (n : ℕ) → n < 2 ^ 32 → field 0 0 32 (to_le_bytes w32 n) ≡ n
number-back n h = four-bytes (to_le_bytes w32 n) 0 (omega arith) (small n) ∙ omega (arith, h)

-- ---- what a text sets
-- its name and its word
pub record Sets (text : List ℕ) (f : WideField) (four : List ℕ) : Type 0 where
  pub whole : text ≡ wide_name f ++ 61 ∷ after_first is_equals text
  pub word : four_in f (after_first is_equals text) ≡ Some four

step : (name : List ℕ) (f g : WideField) (b : Bool) (rest : Option WideField) → (b ≡ true → name ≡ wide_name f)
    → (rest ≡ Some g → name ≡ wide_name g) → cond b (Some f) rest ≡ Some g → name ≡ wide_name g
step name f g true rest here else e = here refl ∙ ap (λ o. wide_name (unwrap_or o f)) e
step name f g false rest here else e = else e

name-is : (name : List ℕ) (f : WideField) → wide_named name ≡ Some f → name ≡ wide_name f
name-is name f =
    step name Origin f (bytes_eq name (codes "origin")) _ ((bytes_eq-Decides name (codes "origin")).0)
    (step name Destination f (bytes_eq name (codes "destination")) _ ((bytes_eq-Decides name (codes "destination")).0)
    (step name Local f (bytes_eq name (codes "local")) _ ((bytes_eq-Decides name (codes "local")).0)
    (step name Time f (bytes_eq name (codes "time")) None ((bytes_eq-Decides name (codes "time")).0) (λ e. cc))))

parts-are : (text : List ℕ) → position_or_len is_equals text < length text
    → text ≡ before_first is_equals text ++ 61 ∷ after_first is_equals text
parts-are text h =
    let k = position_or_len is_equals text in
    let next : suc k ≡ k + 1 = omega arith in
    sym (take-append-drop k text) ∙ ap (λ t. take k text ++ t) (drop-cons text k 0 h
    ∙ ap₂ (λ x xs. x ∷ xs) (eqb-true (get_or text k 0) 61 (passes_at_first is_equals text 0 h))
    (ap (λ n. drop n text) next))

worded : (f g : WideField) (four : List ℕ) (o : Option (List ℕ))
    → option_map {U = WideField × List ℕ} (λ x. (g, x)) o ≡ Some (f, four) → (g ≡ f) × (o ≡ Some four)
worded f g four None e = cc
worded f g four (Some x) e = (
  ap (λ (p : Option (WideField × List ℕ)). (unwrap_or p (g, x)).0) e,
  ap (λ (p : Option (WideField × List ℕ)). Some (unwrap_or p (g, x)).1) e,
)

named : (word : List ℕ) (f : WideField) (four : List ℕ) (o : Option WideField)
    → option_and_then {U = WideField × List ℕ} (λ g. option_map (λ x. (g, x)) (four_in g word)) o ≡ Some (f, four)
    → (o ≡ Some f) × (four_in f word ≡ Some four)
named word f four None e = cc
named word f four (Some g) e =
    let is = worded f g four (four_in g word) e in
    (ap Some is.0, subst (λ (h : WideField). four_in h word ≡ Some four) is.0 is.1)

pub sets : (text : List ℕ) (f : WideField) (four : List ℕ) → wide_in text ≡ Some (f, four) → Sets text f four
sets text f four = go (nat_lt (position_or_len is_equals text) (length text)) refl
  where
    name : List ℕ
    name = before_first is_equals text

    word : List ℕ
    word = after_first is_equals text

    go : (b : Bool) → nat_lt (position_or_len is_equals text) (length text) ≡ b
        → option_and_then wide_of_parts (cond b (Some (name, word)) None) ≡ Some (f, four) → Sets text f four
    go false h e = cc
    go true h e =
        let is = named word f four (wide_named name) e in
        record {
          whole = parts-are text (ltb-true (position_or_len is_equals text) (length text) h)
              ∙ ap (λ n. n ++ 61 ∷ word) (name-is name f is.0);
          word = is.1;
        }

-- ---- the four bytes of a word
pub record AreCharacters (word four : List ℕ) : Type 0 where
  pub is : four ≡ padded word
  pub len : length four ≡ 4

as-shown : (word : List ℕ) → list_all is_character word ≡ true → map shown word ≡ word
as-shown [] h = refl
as-shown (byte ∷ word) h =
    let e = and_parts (is_character byte) (list_all is_character word) h in
    ap₂ (λ x xs. x ∷ xs) (ap (λ (b : Bool). cond b byte 46) e.0) (as-shown word e.1)

padded-len : (word : List ℕ) → length word ≤ 4 → length (padded word) ≡ 4
padded-len word h =
    let spaces : List ℕ = replicate 4 32 in
    omega (arith, h, length-append word (drop (length word) spaces), length-drop (length word) spaces)

pub characters : (word four : List ℕ) → characters_in word ≡ Some four → AreCharacters word four
characters word four = go (is_label word) refl
  where
    go : (b : Bool) → is_label word ≡ b → cond b (Some (padded word)) None ≡ Some four → AreCharacters word four
    go false h e = cc
    go true h e =
        let parts = and_parts (nat_le (length word) 4 && is_character (get_or word 0 32)) (list_all is_printable word) h in
        let few = and_parts (nat_le (length word) 4) (is_character (get_or word 0 32)) parts.0 in
        let is : padded word ≡ four = ap (λ o. unwrap_or o (padded word)) e in
        record { is = sym is; len = ap length (sym is) ∙ padded-len word (leb-true (length word) 4 few.0) }

pub address : (word four : List ℕ) → address_in word ≡ Some four
    → (to_le_bytes w32 (written word) ≡ four) × (written word < 2 ^ 32)
address word four = go (is_numeral (without_leading_plus word) && nat_lt (written word) (2 ^ 32)) refl
  where
    go : (b : Bool) → (is_numeral (without_leading_plus word) && nat_lt (written word) (2 ^ 32)) ≡ b
        → cond b (Some (to_le_bytes w32 (written word))) None ≡ Some four
        → (to_le_bytes w32 (written word) ≡ four) × (written word < 2 ^ 32)
    go false h e = cc
    go true h e = (
      ap (λ o. unwrap_or o (to_le_bytes w32 (written word))) e,
      ltb-true (written word) (2 ^ 32)
          (and_parts (is_numeral (without_leading_plus word)) (nat_lt (written word) (2 ^ 32)) h).1,
    )

four-long : (f : WideField) (word four : List ℕ) → four_in f word ≡ Some four → length four ≡ 4
four-long Origin word four e = (characters word four e).len
four-long Destination word four e = (characters word four e).len
four-long Local word four e = ap length (sym (address word four e).0)
four-long Time word four e = ap length (sym (address word four e).0)

-- ---- what texts set
with-fours : (f g : WideField) (four x : List ℕ) (wide : WideSettings) → length four ≡ 4 → AreFours wide
    → wide_given (with_four f four wide) g ≡ Some x → length x ≡ 4
with-fours Origin Origin four x wide l h e = ap (λ o. length (unwrap_or o x)) (sym e) ∙ l
with-fours Origin Destination four x wide l h e = h Destination x e
with-fours Origin Local four x wide l h e = h Local x e
with-fours Origin Time four x wide l h e = h Time x e
with-fours Destination Destination four x wide l h e = ap (λ o. length (unwrap_or o x)) (sym e) ∙ l
with-fours Destination Origin four x wide l h e = h Origin x e
with-fours Destination Local four x wide l h e = h Local x e
with-fours Destination Time four x wide l h e = h Time x e
with-fours Local Local four x wide l h e = ap (λ o. length (unwrap_or o x)) (sym e) ∙ l
with-fours Local Origin four x wide l h e = h Origin x e
with-fours Local Destination four x wide l h e = h Destination x e
with-fours Local Time four x wide l h e = h Time x e
with-fours Time Time four x wide l h e = ap (λ o. length (unwrap_or o x)) (sym e) ∙ l
with-fours Time Origin four x wide l h e = h Origin x e
with-fours Time Destination four x wide l h e = h Destination x e
with-fours Time Local four x wide l h e = h Local x e

one-more : (text : List ℕ) (o : Option (WideField × List ℕ)) (wide : WideSettings) → wide_in text ≡ o → AreFours wide
    → AreFours (with_wide o wide)
one-more text None wide e h = h
one-more text (Some set) wide e h = λ g x is.
    with-fours set.0 g set.1 x wide
    (four-long set.0 (after_first is_equals text) set.1 (sets text set.0 set.1 e).word) h is

more : (texts : List (List ℕ)) (wide : WideSettings) → AreFours wide
    → AreFours (fold (λ old text. with_wide (wide_in text) old) wide texts)
more [] wide h = h
more (text ∷ texts) wide h =
    more texts (with_wide (wide_in text) wide) (one-more text (wide_in text) wide refl h)

none : AreFours no_wide
none Origin x e = cc
none Destination x e = cc
none Local x e = cc
none Time x e = cc

pub texts-are-fours : WideTextsAreFours
texts-are-fours texts = more texts no_wide none

-- the field then has the bytes
given-four : (f : WideField) (four : List ℕ) (wide : WideSettings) → wide_given (with_four f four wide) f ≡ Some four
given-four Origin four wide = refl
given-four Destination four wide = refl
given-four Local four wide = refl
given-four Time four wide = refl

-- what is set of another field leaves it
other-four : (f g : WideField) (four : List ℕ) (wide : WideSettings) → (g ≡ f → ⊥)
    → wide_given (with_four g four wide) f ≡ wide_given wide f
other-four Origin Origin four wide n = absurd (n refl)
other-four Origin Destination four wide n = refl
other-four Origin Local four wide n = refl
other-four Origin Time four wide n = refl
other-four Destination Destination four wide n = absurd (n refl)
other-four Destination Origin four wide n = refl
other-four Destination Local four wide n = refl
other-four Destination Time four wide n = refl
other-four Local Local four wide n = absurd (n refl)
other-four Local Origin four wide n = refl
other-four Local Destination four wide n = refl
other-four Local Time four wide n = refl
other-four Time Time four wide n = absurd (n refl)
other-four Time Origin four wide n = refl
other-four Time Destination four wide n = refl
other-four Time Local four wide n = refl

one-stays : (text : List ℕ) (f : WideField) (o : Option (WideField × List ℕ)) (wide : WideSettings)
    → ((four : List ℕ) → o ≢ Some (f, four)) → wide_given (with_wide o wide) f ≡ wide_given wide f
one-stays text f None wide n = refl
one-stays text f (Some set) wide n =
    other-four f set.0 set.1 wide (λ e. n set.1 (ap (λ (g : WideField). Some (g, set.1)) e))

all-stay : (texts : List (List ℕ)) (f : WideField) (wide : WideSettings)
    → ((other four : List ℕ) → Contains texts other → wide_in other ≢ Some (f, four))
    → wide_given (fold (λ old text. with_wide (wide_in text) old) wide texts) f ≡ wide_given wide f
all-stay [] f wide n = refl
all-stay (text ∷ texts) f wide n =
    all-stay texts f (with_wide (wide_in text) wide)
    (λ other four among. n other four (suc among.0, omega (arith, among.1), among.2))
    ∙ one-stays text f (wide_in text) wide (λ four. n text four (0, omega arith, refl))

pub last-counts : LastTextCounts
last-counts before behind text f four e n =
    let old = wide_of_texts before in
    ap (λ w. wide_given w f) (fold-append (λ wide t. with_wide (wide_in t) wide) no_wide before (text ∷ behind))
    ∙ all-stay behind f (with_wide (wide_in text) old) n
    ∙ ap (λ o. wide_given (with_wide o old) f) e ∙ given-four f four old

-- ---- what is printed
characters-shown : (name word four bytes : List ℕ) → AreCharacters word four → bytes ≡ four
    → field_text name (map shown bytes) ≡ field_text name (map shown (padded word))
characters-shown name word four bytes are is = ap (λ v. field_text name (map shown v)) (is ∙ are.is)

-- four characters that are no spaces
full-shown : (name text word : List ℕ) → text ≡ name ++ 61 ∷ word → length word ≡ 4
    → list_all is_character word ≡ true
    → field_text name (map shown (padded word)) ≡ codes " " ++ text
unfolding field_text
full-shown name text word whole len all =
    let none : padded word ≡ word = ap (λ n. word ++ drop n (replicate 4 32)) len ∙ append-nil word in
    ap (λ v. codes " " ++ name ++ codes "=" ++ v) (ap (map shown) none ∙ as-shown word all)
    ∙ append_assoc (codes " " ++ name) (codes "=") word ∙ append_assoc (codes " ") name (61 ∷ word)
    ∙ ap (λ t. codes " " ++ t) (sym whole)

pub full-stays : FullLabelsStay
full-stays text f four e has len all = go f (sets text f four e) has
  where
    go : (g : WideField) → Sets text g four → has_characters g ≡ true → wide_text g text ≡ codes " " ++ text
    go Origin set has = full-shown (codes "origin") text (after_first is_equals text) set.whole len all
    go Destination set has = full-shown (codes "destination") text (after_first is_equals text) set.whole len all
    go Local set has = cc
    go Time set has = cc

number-shown : (at n : ℕ) (four bytes : List ℕ) → at + 4 ≤ length bytes
    → (to_le_bytes w32 n ≡ four) × (n < 2 ^ 32) → bytes_field at 4 bytes ≡ four → field at 0 32 bytes ≡ n
number-shown at n four bytes h is back =
    own-bytes bytes at h ∙ ap (field 0 0 32) (back ∙ sym is.0) ∙ number-back n is.1

pub is-shown : WideIsShown
is-shown text f four bytes wide len professional fours e given =
    go f (sets text f four e) (wide-back wide f bytes len fours professional
    ∙ ap (λ o. unwrap_or o (wide_bytes f bytes)) given)
  where
    new : List ℕ
    new = set_wide wide bytes

    word : List ℕ
    word = after_first is_equals text

    long : length new ≡ 24
    long = (others-stay wide bytes len fours).0

    go : (g : WideField) → Sets text g four → wide_bytes g new ≡ four → wide_shown g new ≡ wide_text g text
    go Origin set back =
        characters-shown (codes "origin") word four (wide_bytes Origin new) (characters word four set.word) back
    go Destination set back =
        characters-shown (codes "destination") word four (wide_bytes Destination new) (characters word four set.word) back
    go Local set back =
        ap (λ n. field_text (codes "local") (decimal n))
        (number-shown 14 (written word) four new (omega (arith, long)) (address word four set.word) back)
    go Time set back =
        ap (λ n. field_text (codes "time") (decimal n))
        (number-shown 18 (written word) four new (omega (arith, long)) (address word four set.word) back)
