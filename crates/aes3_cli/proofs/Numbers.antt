-- Numbers that texts write.
use Rattle.std.proofs.Common.{◌≡◌, ◌∙◌, ◌<◌, ◌≤◌, ◌^◌, arith, ℕ, Bool, List, Some, None, true, false, cond, refl, sym}
use Rattle.std.proofs.Common.{ap}
use Rattle.std.specs.Str.Parse.{IsNumeral, digits_value, without_leading_plus}
use Rattle.clap.specs.ValueTests.{is_unsigned_in}
use Rattle.clap.specs.declared.builder.value_parser.ValueParser.TheVariants as vp
use Rattle.clap.proofs.ValueTestLemmas.{Accepts-accepts, accepts-Accepts}
use Rattle.aes3_cli.specs.Numbers.{number_in}

-- the text writes a number of 64 bits
abbrev Writes : List ℕ → Type 0
Writes text = IsNumeral 10 (without_leading_plus text) × (digits_value 10 (without_leading_plus text) < 2 ^ 64)

pub parsed : (least most : ℕ) (text : List ℕ) (n : ℕ) → Writes text × (n ≡ digits_value 10 (without_leading_plus text))
    → least ≤ n → n ≤ most → Some n ≡ number_in least most text
parsed least most text n is low high =
    let wide = Accepts-accepts false (vp.Unsigned least most) text
    (is.0.0, is.0.1, omega (arith, low, is.1), omega (arith, high, is.1)) in
    ap Some is.1 ∙ sym (ap (λ (b : Bool). cond b (Some (digits_value 10 (without_leading_plus text))) None) wide)

pub unparsed : (least most : ℕ) (text : List ℕ) → ¬ (Writes text) → None ≡ number_in least most text
unparsed least most text never = go (is_unsigned_in least most text) refl
  where
    go : (b : Bool) → is_unsigned_in least most text ≡ b
        → None ≡ cond b (Some (digits_value 10 (without_leading_plus text))) None
    go true passed =
        let bounds = accepts-Accepts false (vp.Unsigned least most) text passed in
        absurd (never (bounds.0, bounds.1))
    go false passed = refl
