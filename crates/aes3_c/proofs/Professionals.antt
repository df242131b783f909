-- Fields of professional channel status and the bytes that have them.
use Rattle.std.proofs.Common.{◌≡◌, ℕ, ◌+◌, ◌*◌, ◌/◌, ◌%◌, ◌^◌, ◌<◌, List, true}
use Rattle.std.proofs.Common.{length, drop, get_or, refl, sym, ap, ◌∙◌, arith, eqb, eqb-true}
use Rattle.aes3_status.specs.Bits.{bytes_field, field}
use Rattle.aes3_status.specs.Professional.{payload, emphasis, unlocked, rate, mode, user, aux, word, b2high, b3, b4, b5}
use Rattle.aes3_status.specs.Professional.{origin, destination, local, time, unreliable, b22low}
use Rattle.aes3_status.specs.Statuses.{is_professional}
use Rattle.aes3_status.proofs.BitFields.{field-in_byte, four-bytes, take-four}
use Rattle.aes3_c.specs.Professional.{ProfessionalFits, professional_bytes, professional_fields}
use Rattle.aes3_c.specs.declared.professional_calls.Aes3Professional.{Aes3Professional}
use Rattle.aes3_c.proofs.StatusBytes.{EachSmall, all-items, cons, each-small, from-byte, number-is}

-- what is known of fields by their types
pub record AreBytes (f : Aes3Professional) : Type 0 where
  pub b3 : f.b3 < 256
  pub b4 : f.b4 < 256
  pub b5 : f.b5 < 256
  pub origin : length f.origin ≡ 4
  pub destination : length f.destination ≡ 4
  pub local : f.local < 2 ^ 32
  pub time : f.time < 2 ^ 32

low : (n : ℕ) → n % 256 < 256
low n = omega arith

-- each byte behind the local sample address is one
behind-small : (f : Aes3Professional) (check : ℕ) → ProfessionalFits f → check < 256
    → EachSmall (drop 18 (professional_bytes f check))
behind-small f check fits c =
    let byte22 : 1 * f.b22low + 16 * f.unreliable < 256 = omega (arith, fits) in
    (low f.time, (low (f.time / 256), (low (f.time / 256 / 256), (low (f.time / 256 / 256 / 256), (byte22, (c, tt))))))

pub bytes-professional : (f : Aes3Professional) (check : ℕ) → is_professional (professional_bytes f check) ≡ true
bytes-professional f check =
    let bytes = professional_bytes f check in
    let byte0 : get_or bytes 0 0 ≡ 1 + 2 * f.payload + 4 * f.emphasis + 32 * f.unlocked + 64 * f.rate = refl in
    let one : get_or bytes 0 0 / 1 % 2 ≡ 1 = omega (arith, byte0) in
    ap (λ n. eqb n 1) (field-in_byte bytes 0 0 1 (omega arith) (omega arith) ∙ one)

-- the fields of the bytes are those
pub fields-back : (f : Aes3Professional) (check : ℕ) → ProfessionalFits f → AreBytes f → check < 256
    → professional_fields (professional_bytes f check) ≡ f
unfolding bytes_field
fields-back f check fits are small =
    let bytes = professional_bytes f check in
    let byte0 : get_or bytes 0 0 ≡ 1 + 2 * f.payload + 4 * f.emphasis + 32 * f.unlocked + 64 * f.rate = refl in
    let payload-is : payload bytes ≡ f.payload = field-in_byte bytes 0 1 1 (omega arith) (omega arith)
    ∙ omega (arith, byte0, fits) in
    let emphasis-is : emphasis bytes ≡ f.emphasis = field-in_byte bytes 0 2 3 (omega arith) (omega arith)
    ∙ omega (arith, byte0, fits) in
    let unlocked-is : unlocked bytes ≡ f.unlocked = field-in_byte bytes 0 5 1 (omega arith) (omega arith)
    ∙ omega (arith, byte0, fits) in
    let rate-is : rate bytes ≡ f.rate = field-in_byte bytes 0 6 2 (omega arith) (omega arith)
    ∙ omega (arith, byte0, fits) in
    let byte1 : get_or bytes 1 0 ≡ 1 * f.mode + 16 * f.user = refl in
    let mode-is : mode bytes ≡ f.mode = field-in_byte bytes 1 0 4 (omega arith) (omega arith)
    ∙ omega (arith, byte1, fits) in
    let user-is : user bytes ≡ f.user = field-in_byte bytes 1 4 4 (omega arith) (omega arith)
    ∙ omega (arith, byte1, fits) in
    let byte2 : get_or bytes 2 0 ≡ 1 * f.aux + 8 * f.word + 64 * f.b2high = refl in
    let aux-is : aux bytes ≡ f.aux = field-in_byte bytes 2 0 3 (omega arith) (omega arith)
    ∙ omega (arith, byte2, fits) in
    let word-is : word bytes ≡ f.word = field-in_byte bytes 2 3 3 (omega arith) (omega arith)
    ∙ omega (arith, byte2, fits) in
    let b2high-is : b2high bytes ≡ f.b2high = field-in_byte bytes 2 6 2 (omega arith) (omega arith)
    ∙ omega (arith, byte2, fits) in
    let b3-is : b3 bytes ≡ f.b3 = field-in_byte bytes 3 0 8 (omega arith) (omega arith)
    ∙ (let n : f.b3 < 256 = are.b3 in let e : f.b3 / 1 % 256 ≡ f.b3 = omega (arith, n) in e) in
    let b4-is : b4 bytes ≡ f.b4 = field-in_byte bytes 4 0 8 (omega arith) (omega arith)
    ∙ (let n : f.b4 < 256 = are.b4 in let e : f.b4 / 1 % 256 ≡ f.b4 = omega (arith, n) in e) in
    let b5-is : b5 bytes ≡ f.b5 = field-in_byte bytes 5 0 8 (omega arith) (omega arith)
    ∙ (let n : f.b5 < 256 = are.b5 in let e : f.b5 / 1 % 256 ≡ f.b5 = omega (arith, n) in e) in
    let byte22 : get_or bytes 22 0 ≡ 1 * f.b22low + 16 * f.unreliable = refl in
    let b22low-is : b22low bytes ≡ f.b22low = field-in_byte bytes 22 0 4 (omega arith) (omega arith)
    ∙ omega (arith, byte22, fits) in
    let unreliable-is : unreliable bytes ≡ f.unreliable = field-in_byte bytes 22 4 4 (omega arith) (omega arith)
    ∙ omega (arith, byte22, fits) in
    let origin-is : origin bytes ≡ f.origin = sym (all-items 4 f.origin are.origin) in
    let destination-is : destination bytes ≡ f.destination = sym (all-items 4 f.destination are.destination) in
    let tail = behind-small f check fits small in
    let local-is : local bytes ≡ f.local = from-byte bytes 14 (omega arith)
    ∙ number-is (drop 14 bytes) 0 f.local (omega arith) (each-small (drop 14 bytes) (
      low f.local,
      (
        low (f.local / 256),
        (low (f.local / 256 / 256), (low (f.local / 256 / 256 / 256), tail)),
      ),
    )) are.local refl refl refl refl in
    let time-is : time bytes ≡ f.time = from-byte bytes 18 (omega arith)
    ∙ number-is (drop 18 bytes) 0 f.time (omega arith) (each-small (drop 18 bytes) tail) are.time refl refl refl refl in
    rw (
      payload-is,
      emphasis-is,
      unlocked-is,
      rate-is,
      mode-is,
      user-is,
      aux-is,
      word-is,
      b2high-is,
      b3-is,
      b4-is,
      b5-is,
      origin-is,
      destination-is,
      local-is,
      time-is,
      unreliable-is,
      b22low-is,
    ) refl

-- the bytes of the fields are those
pub bytes-back : (bytes : List ℕ) → length bytes ≡ 24 → ((i : ℕ) → get_or bytes i 0 < 256)
    → is_professional bytes ≡ true
    → bytes ≡ professional_bytes (professional_fields bytes) (get_or bytes 23 0)
bytes-back bytes h small kind =
    let one : 1 ≡ get_or bytes 0 0 / 1 % 2
    = sym (eqb-true (field 0 0 1 bytes) 1 kind) ∙ field-in_byte bytes 0 0 1 (omega arith) (omega arith) in
    let payload-is : payload bytes ≡ get_or bytes 0 0 / 2 % 2 = field-in_byte bytes 0 1 1 (omega arith) (omega arith) in
    let emphasis-is : emphasis bytes ≡ get_or bytes 0 0 / 4 % 8
    = field-in_byte bytes 0 2 3 (omega arith) (omega arith) in
    let unlocked-is : unlocked bytes ≡ get_or bytes 0 0 / 32 % 2
    = field-in_byte bytes 0 5 1 (omega arith) (omega arith) in
    let rate-is : rate bytes ≡ get_or bytes 0 0 / 64 % 4 = field-in_byte bytes 0 6 2 (omega arith) (omega arith) in
    let e0 : get_or bytes 0 0 ≡ 1 + 2 * payload bytes + 4 * emphasis bytes + 32 * unlocked bytes + 64 * rate bytes
    = omega (arith, one, payload-is, emphasis-is, unlocked-is, rate-is, small 0) in
    let mode-is : mode bytes ≡ get_or bytes 1 0 / 1 % 16 = field-in_byte bytes 1 0 4 (omega arith) (omega arith) in
    let user-is : user bytes ≡ get_or bytes 1 0 / 16 % 16 = field-in_byte bytes 1 4 4 (omega arith) (omega arith) in
    let e1 : get_or bytes 1 0 ≡ 1 * mode bytes + 16 * user bytes = omega (arith, mode-is, user-is, small 1) in
    let aux-is : aux bytes ≡ get_or bytes 2 0 / 1 % 8 = field-in_byte bytes 2 0 3 (omega arith) (omega arith) in
    let word-is : word bytes ≡ get_or bytes 2 0 / 8 % 8 = field-in_byte bytes 2 3 3 (omega arith) (omega arith) in
    let b2high-is : b2high bytes ≡ get_or bytes 2 0 / 64 % 4 = field-in_byte bytes 2 6 2 (omega arith) (omega arith) in
    let e2 : get_or bytes 2 0 ≡ 1 * aux bytes + 8 * word bytes + 64 * b2high bytes
    = omega (arith, aux-is, word-is, b2high-is, small 2) in
    let b3-is : b3 bytes ≡ get_or bytes 3 0 / 1 % 256 = field-in_byte bytes 3 0 8 (omega arith) (omega arith) in
    let e3 : get_or bytes 3 0 ≡ b3 bytes = omega (arith, b3-is, small 3) in
    let b4-is : b4 bytes ≡ get_or bytes 4 0 / 1 % 256 = field-in_byte bytes 4 0 8 (omega arith) (omega arith) in
    let e4 : get_or bytes 4 0 ≡ b4 bytes = omega (arith, b4-is, small 4) in
    let b5-is : b5 bytes ≡ get_or bytes 5 0 / 1 % 256 = field-in_byte bytes 5 0 8 (omega arith) (omega arith) in
    let e5 : get_or bytes 5 0 ≡ b5 bytes = omega (arith, b5-is, small 5) in
    let b22low-is : b22low bytes ≡ get_or bytes 22 0 / 1 % 16
    = field-in_byte bytes 22 0 4 (omega arith) (omega arith) in
    let unreliable-is : unreliable bytes ≡ get_or bytes 22 0 / 16 % 16
    = field-in_byte bytes 22 4 4 (omega arith) (omega arith) in
    let e22 : get_or bytes 22 0 ≡ 1 * b22low bytes + 16 * unreliable bytes
    = omega (arith, b22low-is, unreliable-is, small 22) in
    let origin-is = take-four bytes 6 (omega arith) in
    let e6 : get_or bytes 6 0 ≡ get_or (origin bytes) 0 0 = ap (λ four. get_or four 0 0) origin-is in
    let e7 : get_or bytes 7 0 ≡ get_or (origin bytes) 1 0 = ap (λ four. get_or four 1 0) origin-is in
    let e8 : get_or bytes 8 0 ≡ get_or (origin bytes) 2 0 = ap (λ four. get_or four 2 0) origin-is in
    let e9 : get_or bytes 9 0 ≡ get_or (origin bytes) 3 0 = ap (λ four. get_or four 3 0) origin-is in
    let destination-is = take-four bytes 10 (omega arith) in
    let e10 : get_or bytes 10 0 ≡ get_or (destination bytes) 0 0 = ap (λ four. get_or four 0 0) destination-is in
    let e11 : get_or bytes 11 0 ≡ get_or (destination bytes) 1 0 = ap (λ four. get_or four 1 0) destination-is in
    let e12 : get_or bytes 12 0 ≡ get_or (destination bytes) 2 0 = ap (λ four. get_or four 2 0) destination-is in
    let e13 : get_or bytes 13 0 ≡ get_or (destination bytes) 3 0 = ap (λ four. get_or four 3 0) destination-is in
    let local-is : local bytes ≡ get_or bytes 14 0 + get_or bytes 15 0 * 256 + get_or bytes 16 0 * 65536
    + get_or bytes 17 0 * 16777216 = four-bytes bytes 14 (omega arith) small in
    let e14 : get_or bytes 14 0 ≡ local bytes % 256 = omega (arith, local-is, small 14, small 15, small 16, small 17) in
    let e15 : get_or bytes 15 0 ≡ local bytes / 256 % 256
    = omega (arith, local-is, small 14, small 15, small 16, small 17) in
    let e16 : get_or bytes 16 0 ≡ local bytes / 256 / 256 % 256
    = omega (arith, local-is, small 14, small 15, small 16, small 17) in
    let e17 : get_or bytes 17 0 ≡ local bytes / 256 / 256 / 256 % 256
    = omega (arith, local-is, small 14, small 15, small 16, small 17) in
    let time-is : time bytes ≡ get_or bytes 18 0 + get_or bytes 19 0 * 256 + get_or bytes 20 0 * 65536
    + get_or bytes 21 0 * 16777216 = four-bytes bytes 18 (omega arith) small in
    let e18 : get_or bytes 18 0 ≡ time bytes % 256 = omega (arith, time-is, small 18, small 19, small 20, small 21) in
    let e19 : get_or bytes 19 0 ≡ time bytes / 256 % 256 = omega (arith, time-is, small 18, small 19, small 20, small 21) in
    let e20 : get_or bytes 20 0 ≡ time bytes / 256 / 256 % 256
    = omega (arith, time-is, small 18, small 19, small 20, small 21) in
    let e21 : get_or bytes 21 0 ≡ time bytes / 256 / 256 / 256 % 256
    = omega (arith, time-is, small 18, small 19, small 20, small 21) in
    all-items 24 bytes h
    ∙ cons e0 (cons e1 (cons e2 (cons e3 (cons e4 (cons e5 (cons e6 (cons e7 (cons e8 (cons e9 (cons e10 (cons e11
    (cons e12 (cons e13 (cons e14 (cons e15 (cons e16 (cons e17 (cons e18 (cons e19 (cons e20 (cons e21 (cons e22
    (refl)))))))))))))))))))))))
