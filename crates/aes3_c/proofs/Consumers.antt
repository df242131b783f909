-- Fields of consumer channel status and the bytes that have them.
use Rattle.std.proofs.Common.{◌≡◌, ℕ, ◌+◌, ◌*◌, ◌/◌, ◌%◌, ◌<◌, ◌≤◌, List, [], ◌∷◌, false}
use Rattle.std.proofs.Common.{length, drop, get_or, refl, sym, ap, ◌∙◌, arith, eqb}
use Rattle.std.proofs.lemmas.List.{length-drop, take_all}
use Rattle.aes3_status.specs.Bits.{bytes_field}
use Rattle.aes3_status.specs.Consumer.{payload, copyright, emphasis, mode, category, generation, source, number, rate}
use Rattle.aes3_status.specs.Consumer.{accuracy, b3high, greatest, word, original, rest}
use Rattle.aes3_status.specs.Statuses.{is_professional}
use Rattle.aes3_status.proofs.BitFields.{field-in_byte}
use Rattle.aes3_c.specs.Consumer.{ConsumerFits, consumer_bytes, consumer_fields}
use Rattle.aes3_c.specs.declared.consumer_calls.Aes3Consumer.{Aes3Consumer}
use Rattle.aes3_c.proofs.StatusBytes.{cons}

pub bytes-consumer : (f : Aes3Consumer) → is_professional (consumer_bytes f) ≡ false
bytes-consumer f =
    let bytes = consumer_bytes f in
    let byte0 : get_or bytes 0 0 ≡ 2 * f.payload + 4 * f.copyright + 8 * f.emphasis + 64 * f.mode = refl in
    let none : get_or bytes 0 0 / 1 % 2 ≡ 0 = omega (arith, byte0) in
    ap (λ n. eqb n 1) (field-in_byte bytes 0 0 1 (omega arith) (omega arith) ∙ none)

-- the fields of the bytes are those
pub fields-back : (f : Aes3Consumer) → ConsumerFits f → length f.rest ≡ 19 → consumer_fields (consumer_bytes f) ≡ f
unfolding bytes_field
fields-back f fits len =
    let bytes = consumer_bytes f in
    let byte0 : get_or bytes 0 0 ≡ 2 * f.payload + 4 * f.copyright + 8 * f.emphasis + 64 * f.mode = refl in
    let payload-is : payload bytes ≡ f.payload = field-in_byte bytes 0 1 1 (omega arith) (omega arith)
    ∙ omega (arith, byte0, fits) in
    let copyright-is : copyright bytes ≡ f.copyright = field-in_byte bytes 0 2 1 (omega arith) (omega arith)
    ∙ omega (arith, byte0, fits) in
    let emphasis-is : emphasis bytes ≡ f.emphasis = field-in_byte bytes 0 3 3 (omega arith) (omega arith)
    ∙ omega (arith, byte0, fits) in
    let mode-is : mode bytes ≡ f.mode = field-in_byte bytes 0 6 2 (omega arith) (omega arith)
    ∙ omega (arith, byte0, fits) in
    let byte1 : get_or bytes 1 0 ≡ 1 * f.category + 128 * f.generation = refl in
    let category-is : category bytes ≡ f.category = field-in_byte bytes 1 0 7 (omega arith) (omega arith)
    ∙ omega (arith, byte1, fits) in
    let generation-is : generation bytes ≡ f.generation = field-in_byte bytes 1 7 1 (omega arith) (omega arith)
    ∙ omega (arith, byte1, fits) in
    let byte2 : get_or bytes 2 0 ≡ 1 * f.source + 16 * f.number = refl in
    let source-is : source bytes ≡ f.source = field-in_byte bytes 2 0 4 (omega arith) (omega arith)
    ∙ omega (arith, byte2, fits) in
    let number-is : number bytes ≡ f.number = field-in_byte bytes 2 4 4 (omega arith) (omega arith)
    ∙ omega (arith, byte2, fits) in
    let byte3 : get_or bytes 3 0 ≡ 1 * f.rate + 16 * f.accuracy + 64 * f.b3high = refl in
    let rate-is : rate bytes ≡ f.rate = field-in_byte bytes 3 0 4 (omega arith) (omega arith)
    ∙ omega (arith, byte3, fits) in
    let accuracy-is : accuracy bytes ≡ f.accuracy = field-in_byte bytes 3 4 2 (omega arith) (omega arith)
    ∙ omega (arith, byte3, fits) in
    let b3high-is : b3high bytes ≡ f.b3high = field-in_byte bytes 3 6 2 (omega arith) (omega arith)
    ∙ omega (arith, byte3, fits) in
    let byte4 : get_or bytes 4 0 ≡ 1 * f.greatest + 2 * f.word + 16 * f.original = refl in
    let greatest-is : greatest bytes ≡ f.greatest = field-in_byte bytes 4 0 1 (omega arith) (omega arith)
    ∙ omega (arith, byte4, fits) in
    let word-is : word bytes ≡ f.word = field-in_byte bytes 4 1 3 (omega arith) (omega arith)
    ∙ omega (arith, byte4, fits) in
    let original-is : original bytes ≡ f.original = field-in_byte bytes 4 4 4 (omega arith) (omega arith)
    ∙ omega (arith, byte4, fits) in
    let rest-is : rest bytes ≡ f.rest = take_all 19 f.rest (omega (arith, len)) in
    rw (
      payload-is,
      copyright-is,
      emphasis-is,
      mode-is,
      category-is,
      generation-is,
      source-is,
      number-is,
      rate-is,
      accuracy-is,
      b3high-is,
      greatest-is,
      word-is,
      original-is,
      rest-is,
    ) refl

-- the first five of some items
five : (xs : List ℕ) → 5 ≤ length xs
    → xs ≡ get_or xs 0 0 ∷ get_or xs 1 0 ∷ get_or xs 2 0 ∷ get_or xs 3 0 ∷ get_or xs 4 0 ∷ drop 5 xs
five [] h = absurd (omega arith)
five (a ∷ []) h = absurd (omega arith)
five (a ∷ b ∷ []) h = absurd (omega arith)
five (a ∷ b ∷ c ∷ []) h = absurd (omega arith)
five (a ∷ b ∷ c ∷ d ∷ []) h = absurd (omega arith)
five (a ∷ b ∷ c ∷ d ∷ e ∷ xs) h = refl

even : (n : ℕ) → eqb (n % 2) 1 ≡ false → n % 2 ≡ 0
even n h = grind arith

-- the bytes of the fields are those
pub bytes-back : (bytes : List ℕ) → length bytes ≡ 24 → ((i : ℕ) → get_or bytes i 0 < 256)
    → is_professional bytes ≡ false → bytes ≡ consumer_bytes (consumer_fields bytes)
unfolding bytes_field
bytes-back bytes h small kind =
    let none : get_or bytes 0 0 / 1 % 2 ≡ 0 = even (get_or bytes 0 0 / 1)
    (ap (λ n. eqb n 1) (sym (field-in_byte bytes 0 0 1 (omega arith) (omega arith))) ∙ kind) in
    let payload-is : payload bytes ≡ get_or bytes 0 0 / 2 % 2 = field-in_byte bytes 0 1 1 (omega arith) (omega arith) in
    let copyright-is : copyright bytes ≡ get_or bytes 0 0 / 4 % 2
    = field-in_byte bytes 0 2 1 (omega arith) (omega arith) in
    let emphasis-is : emphasis bytes ≡ get_or bytes 0 0 / 8 % 8
    = field-in_byte bytes 0 3 3 (omega arith) (omega arith) in
    let mode-is : mode bytes ≡ get_or bytes 0 0 / 64 % 4 = field-in_byte bytes 0 6 2 (omega arith) (omega arith) in
    let e0 : get_or bytes 0 0 ≡ 2 * payload bytes + 4 * copyright bytes + 8 * emphasis bytes + 64 * mode bytes
    = omega (arith, none, payload-is, copyright-is, emphasis-is, mode-is, small 0) in
    let category-is : category bytes ≡ get_or bytes 1 0 / 1 % 128
    = field-in_byte bytes 1 0 7 (omega arith) (omega arith) in
    let generation-is : generation bytes ≡ get_or bytes 1 0 / 128 % 2
    = field-in_byte bytes 1 7 1 (omega arith) (omega arith) in
    let e1 : get_or bytes 1 0 ≡ 1 * category bytes + 128 * generation bytes
    = omega (arith, category-is, generation-is, small 1) in
    let source-is : source bytes ≡ get_or bytes 2 0 / 1 % 16 = field-in_byte bytes 2 0 4 (omega arith) (omega arith) in
    let number-is : number bytes ≡ get_or bytes 2 0 / 16 % 16 = field-in_byte bytes 2 4 4 (omega arith) (omega arith) in
    let e2 : get_or bytes 2 0 ≡ 1 * source bytes + 16 * number bytes = omega (arith, source-is, number-is, small 2) in
    let rate-is : rate bytes ≡ get_or bytes 3 0 / 1 % 16 = field-in_byte bytes 3 0 4 (omega arith) (omega arith) in
    let accuracy-is : accuracy bytes ≡ get_or bytes 3 0 / 16 % 4
    = field-in_byte bytes 3 4 2 (omega arith) (omega arith) in
    let b3high-is : b3high bytes ≡ get_or bytes 3 0 / 64 % 4 = field-in_byte bytes 3 6 2 (omega arith) (omega arith) in
    let e3 : get_or bytes 3 0 ≡ 1 * rate bytes + 16 * accuracy bytes + 64 * b3high bytes
    = omega (arith, rate-is, accuracy-is, b3high-is, small 3) in
    let greatest-is : greatest bytes ≡ get_or bytes 4 0 / 1 % 2
    = field-in_byte bytes 4 0 1 (omega arith) (omega arith) in
    let word-is : word bytes ≡ get_or bytes 4 0 / 2 % 8 = field-in_byte bytes 4 1 3 (omega arith) (omega arith) in
    let original-is : original bytes ≡ get_or bytes 4 0 / 16 % 16
    = field-in_byte bytes 4 4 4 (omega arith) (omega arith) in
    let e4 : get_or bytes 4 0 ≡ 1 * greatest bytes + 2 * word bytes + 16 * original bytes
    = omega (arith, greatest-is, word-is, original-is, small 4) in
    let rest-is : drop 5 bytes ≡ rest bytes = sym (take_all 19 (drop 5 bytes) (let l = length-drop 5 bytes in
    omega (arith, l, h))) in
    five bytes (omega arith) ∙ cons e0 (cons e1 (cons e2 (cons e3 (cons e4 rest-is))))
