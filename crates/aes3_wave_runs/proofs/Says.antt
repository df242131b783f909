-- What the channel status of a format says.
use Rattle.std.proofs.Common.{inl, inr, ◌≡◌, ℕ, ◌+◌, ◌*◌, ◌/◌, ◌%◌, ◌^◌, ◌<◌, ◌≤◌, Bool, false, ◌&&◌, eqb, List, [], ◌∷◌}
use Rattle.std.proofs.Common.{Some, refl, sym, ap, ap₂, ◌∙◌, subst, arith, eq-eqb}
use Rattle.std.specs.Option.{option_or}
use Rattle.std.specs.Prelude.{if◌then◌else◌}
use Rattle.std.proofs.lemmas.Bool.{cases_eq, eqb-false}
use Rattle.aes3_status.specs.Bits.{field, status_bits}
use Rattle.aes3_status.specs.Check.{CheckHolds}
use Rattle.aes3_status.specs.Consumer as con
use Rattle.aes3_status.specs.Professional as pro
use Rattle.aes3_status.proofs.BitFields.{field-in_byte}
use Rattle.aes3_wave.specs.declared.wave_format.WaveFormat.{WaveFormat}
use Rattle.aes3_wave.specs.declared.wave_format.Width.{Width}
use Rattle.aes3_wave.specs.declared.wave_format.Width.TheVariants.{Bits8, Bits16, Bits20, Bits24, Bits32}
use Rattle.aes3_wave_runs.specs.declared.status_use.StatusUse.TheVariants.{Consumer, Professional}
use Rattle.aes3_wave_runs.specs.Status.{RateIsNamed, SaysConsumer, SaysProfessional, consumer_rate}
use Rattle.aes3_wave_runs.specs.Status.{consumer_rates, consumer_status, greatest_code}
use Rattle.aes3_wave_runs.specs.Status.{professional_frequencies, professional_frequency, professional_rate}
use Rattle.aes3_wave_runs.specs.Status.{professional_rates, professional_status, rate_in, rate_of_consumer}
use Rattle.aes3_wave_runs.specs.Status.{rate_of_frequency, rate_of_professional, word_code}
use Rattle.aes3_wave_runs.proofs.Rates.{code-below, rate-back}

-- the codes are few
consumer-few : (rate : ℕ) → consumer_rate rate < 16
consumer-few rate = code-below consumer_rates 1 rate 16 refl (omega arith)

professional-few : (rate : ℕ) → professional_rate rate < 4
professional-few rate = code-below professional_rates 0 rate 4 refl (omega arith)

frequency-few : (rate : ℕ) → professional_frequency rate < 16
frequency-few rate = code-below professional_frequencies 0 rate 16 refl (omega arith)

greatest-few : (w : Width) → greatest_code w < 2
greatest-few Bits8 = omega arith
greatest-few Bits16 = omega arith
greatest-few Bits20 = omega arith
greatest-few Bits24 = omega arith
greatest-few Bits32 = omega arith

word-few : (w : Width) → word_code w < 8
word-few Bits8 = omega arith
word-few Bits16 = omega arith
word-few Bits20 = omega arith
word-few Bits24 = omega arith
word-few Bits32 = omega arith

-- a status whose first five bytes are these, and whose others but the last are 0
abbrev of_five : ℕ → ℕ → ℕ → ℕ → ℕ → ℕ → List ℕ
of_five a b c d e last =
    a ∷ b ∷ c ∷ d ∷ e ∷ 0 ∷ 0 ∷ 0 ∷ 0 ∷ 0 ∷ 0 ∷ 0 ∷ 0 ∷ 0 ∷ 0 ∷ 0 ∷ 0 ∷ 0 ∷ 0 ∷ 0 ∷ 0 ∷ 0 ∷ 0 ∷ last ∷ []

first-field : (a b c d e last bit count : ℕ) → bit + count ≤ 8
    → field 0 bit count (of_five a b c d e last) ≡ a / 2 ^ bit % 2 ^ count
first-field a b c d e last bit count h = field-in_byte (of_five a b c d e last) 0 bit count (omega arith) h

second-field : (a b c d e last bit count : ℕ) → bit + count ≤ 8
    → field 1 bit count (of_five a b c d e last) ≡ b / 2 ^ bit % 2 ^ count
second-field a b c d e last bit count h = field-in_byte (of_five a b c d e last) 1 bit count (omega arith) h

third-field : (a b c d e last bit count : ℕ) → bit + count ≤ 8
    → field 2 bit count (of_five a b c d e last) ≡ c / 2 ^ bit % 2 ^ count
third-field a b c d e last bit count h = field-in_byte (of_five a b c d e last) 2 bit count (omega arith) h

fourth-field : (a b c d e last bit count : ℕ) → bit + count ≤ 8
    → field 3 bit count (of_five a b c d e last) ≡ d / 2 ^ bit % 2 ^ count
fourth-field a b c d e last bit count h = field-in_byte (of_five a b c d e last) 3 bit count (omega arith) h

fifth-field : (a b c d e last bit count : ℕ) → bit + count ≤ 8
    → field 4 bit count (of_five a b c d e last) ≡ e / 2 ^ bit % 2 ^ count
fifth-field a b c d e last bit count h = field-in_byte (of_five a b c d e last) 4 bit count (omega arith) h

-- the fields for consumer use, by their codes
record ConsumerFields (c g w : ℕ) (s : List ℕ) : Type 0 where
  pub kind : field 0 0 1 s ≡ 0
  pub payload : field 0 1 1 s ≡ 0
  pub copyright : field 0 2 1 s ≡ 1
  pub emphasis : field 0 3 3 s ≡ 0
  pub rate : field 3 0 4 s ≡ c
  pub greatest : field 4 0 1 s ≡ g
  pub word : field 4 1 3 s ≡ w

consumer-fields : (c g w : ℕ) → c < 16 → g < 2 → w < 8 → ConsumerFields c g w (of_five 4 0 0 c (g + 2 * w) 0)
consumer-fields c g w r q p = record {
  kind = first-field 4 0 0 c (g + 2 * w) 0 0 1 (omega arith);
  payload = first-field 4 0 0 c (g + 2 * w) 0 1 1 (omega arith);
  copyright = first-field 4 0 0 c (g + 2 * w) 0 2 1 (omega arith);
  emphasis = first-field 4 0 0 c (g + 2 * w) 0 3 3 (omega arith);
  rate = fourth-field 4 0 0 c (g + 2 * w) 0 0 4 (omega arith) ∙ (let e : c / 1 % 16 ≡ c = omega arith in e);
  greatest = fifth-field 4 0 0 c (g + 2 * w) 0 0 1 (omega arith)
      ∙ (let e : (g + 2 * w) / 1 % 2 ≡ g = omega arith in e);
  word = fifth-field 4 0 0 c (g + 2 * w) 0 1 3 (omega arith) ∙ (let e : (g + 2 * w) / 2 % 8 ≡ w = omega arith in e);
}

pub says-consumer : (f : WaveFormat) (status : List ℕ) → status ≡ consumer_status f → SaysConsumer f status
says-consumer f status is =
    let t = consumer-fields (consumer_rate f.rate) (greatest_code f.width) (word_code f.width) (consumer-few f.rate)
    (greatest-few f.width) (word-few f.width) in
    subst (SaysConsumer f) (sym is) (record {
      kind = ap (λ n. eqb n 1) t.kind;
      payload = t.payload;
      copyright = t.copyright;
      emphasis = t.emphasis;
      rate = t.rate;
      greatest = t.greatest;
      word = t.word;
    })

-- those for professional use
record ProfessionalFields (r q g w : ℕ) (s : List ℕ) : Type 0 where
  pub kind : field 0 0 1 s ≡ 1
  pub payload : field 0 1 1 s ≡ 0
  pub emphasis : field 0 2 3 s ≡ 1
  pub rate : field 0 6 2 s ≡ r
  pub mode : field 1 0 4 s ≡ 8
  pub aux : field 2 0 3 s ≡ 4 * g
  pub word : field 2 3 3 s ≡ w
  pub frequency : field 4 3 4 s ≡ q

professional-fields : (r q g w last : ℕ) → r < 4 → q < 16 → g < 2 → w < 8
    → ProfessionalFields r q g w (of_five (5 + 64 * r) 8 (4 * g + 8 * w) 0 (8 * q) last)
professional-fields r q g w last hr hq hg hw = record {
  kind = first-field (5 + 64 * r) 8 (4 * g + 8 * w) 0 (8 * q) last 0 1 (omega arith)
      ∙ (let e : (5 + 64 * r) / 1 % 2 ≡ 1 = omega arith in e);
  payload = first-field (5 + 64 * r) 8 (4 * g + 8 * w) 0 (8 * q) last 1 1 (omega arith)
      ∙ (let e : (5 + 64 * r) / 2 % 2 ≡ 0 = omega arith in e);
  emphasis = first-field (5 + 64 * r) 8 (4 * g + 8 * w) 0 (8 * q) last 2 3 (omega arith)
      ∙ (let e : (5 + 64 * r) / 4 % 8 ≡ 1 = omega arith in e);
  rate = first-field (5 + 64 * r) 8 (4 * g + 8 * w) 0 (8 * q) last 6 2 (omega arith)
      ∙ (let e : (5 + 64 * r) / 64 % 4 ≡ r = omega arith in e);
  mode = second-field (5 + 64 * r) 8 (4 * g + 8 * w) 0 (8 * q) last 0 4 (omega arith);
  aux = third-field (5 + 64 * r) 8 (4 * g + 8 * w) 0 (8 * q) last 0 3 (omega arith)
      ∙ (let e : (4 * g + 8 * w) / 1 % 8 ≡ 4 * g = omega arith in e);
  word = third-field (5 + 64 * r) 8 (4 * g + 8 * w) 0 (8 * q) last 3 3 (omega arith)
      ∙ (let e : (4 * g + 8 * w) / 8 % 8 ≡ w = omega arith in e);
  frequency = fifth-field (5 + 64 * r) 8 (4 * g + 8 * w) 0 (8 * q) last 3 4 (omega arith)
      ∙ (let e : 8 * q / 8 % 16 ≡ q = omega arith in e);
}

fields-of : (f : WaveFormat) → ProfessionalFields (professional_rate f.rate) (professional_frequency f.rate)
    (greatest_code f.width) (word_code f.width) (professional_status f)
fields-of f =
    professional-fields (professional_rate f.rate) (professional_frequency f.rate) (greatest_code f.width)
    (word_code f.width) _ (professional-few f.rate) (frequency-few f.rate) (greatest-few f.width) (word-few f.width)

pub says-professional : (f : WaveFormat) (status : List ℕ) → status ≡ professional_status f
    → CheckHolds (status_bits status) → SaysProfessional f status
says-professional f status is check =
    let t = subst (ProfessionalFields (professional_rate f.rate) (professional_frequency f.rate)
    (greatest_code f.width) (word_code f.width)) (sym is) (fields-of f) in
    record {
      kind = ap (λ n. eqb n 1) t.kind;
      payload = t.payload;
      emphasis = t.emphasis;
      mode = t.mode;
      rate = t.rate;
      frequency = t.frequency;
      aux = t.aux;
      word = t.word;
      check = check;
    }

-- ---- the sampling frequency read back

professional-back : (rate : ℕ) → (eqb (professional_rate rate) 0 && eqb (professional_frequency rate) 0) ≡ false
    → rate_of_professional (professional_rate rate) (professional_frequency rate) ≡ Some rate
professional-back rate h = elim (cases_eq (professional_rate rate) 0) [
  | inl e ↦
      ap (λ k. option_or (rate_in professional_rates k) (rate_of_frequency (professional_frequency rate))) e
      ∙ rate-back professional_frequencies 0 rate refl
      (eqb-false (professional_frequency rate) 0
      (sym (ap (λ t. t && eqb (professional_frequency rate) 0) (eq-eqb (professional_rate rate) 0 e)) ∙ h))
  | inr e ↦
      ap (λ o. option_or o (rate_of_frequency (professional_frequency rate))) (rate-back professional_rates 0 rate refl e)
]

pub rate-is-named : RateIsNamed
rate-is-named f Consumer h =
    let s = consumer_status f in
    let t = says-consumer f s refl in
    ap (λ (b : Bool). if b then rate_of_professional (pro.rate s) (pro.frequency s) else rate_of_consumer (con.rate s))
    t.kind
    ∙ ap rate_of_consumer t.rate
    ∙ rate-back consumer_rates 1 f.rate refl (eqb-false (consumer_rate f.rate) 1 h)
rate-is-named f Professional h =
    let s = professional_status f in
    let t = fields-of f in
    ap (λ n. if eqb n 1 then rate_of_professional (pro.rate s) (pro.frequency s) else rate_of_consumer (con.rate s))
    t.kind
    ∙ ap₂ rate_of_professional t.rate t.frequency
    ∙ professional-back f.rate h
