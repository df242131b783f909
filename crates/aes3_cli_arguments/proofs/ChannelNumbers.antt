-- The numbers of channels in a text.
use Rattle.std.proofs.Common.{◌≡◌, ◌∙◌, ◌≤◌, ◌-◌, ℕ, Bool, List, Bor, Option, Some, None, Result, Ok, Err, true, false}
use Rattle.std.proofs.Common.{refl, sym, ap, cond, subst, arith}
use Rattle.std.specs.Option.{SomeIff}
use Rattle.std.specs.List.{after_first, before_first}
use Rattle.std.specs.Str.Parse.{ParsesUnsigned, digits_value, without_leading_plus}
use Rattle.std.proofs.lemmas.Str.Pattern.{IsSplitOnceResult, split_once_first}
use Rattle.clap.specs.ValueTests.{is_unsigned_in}
use Rattle.clap.specs.Walk.{Text}
use Rattle.clap.specs.declared.builder.value_parser.ValueParser.TheVariants as vp
use Rattle.clap.proofs.ValueTestLemmas.{Accepts-accepts, accepts-Accepts}
use Rattle.aes3_cli_arguments.specs.Jobs.{channel_in, is_comma}

-- the number that the digits of a text write
abbrev value : Text → ℕ
value text = digits_value 10 (without_leading_plus text)

in_range : (text : Text) (b : Bool) → is_unsigned_in 1 65535 text ≡ b
    → channel_in text ≡ cond b (Some (value text - 1)) None
in_range text b is = ap (λ (x : Bool). cond x (Some (value text - 1)) None) is

-- a number of 16 bits that was read is that of the channel before it
pub number_is : {E : Type 0} (text : Text) (r : Result ℕ E) (n : ℕ) (answer : Option ℕ) → ParsesUnsigned 16 10 text r
    → r ≡ Ok n → SomeIff answer (1 ≤ n) (n - 1) → answer ≡ channel_in text
number_is {E} text r n answer parses is minus =
    go (subst (λ (x : Result ℕ E). ParsesUnsigned 16 10 text x) is parses) answer minus
  where
    go : ParsesUnsigned {E = E} 16 10 text (Ok n) → (o : Option ℕ) → SomeIff o (1 ≤ n) (n - 1) → o ≡ channel_in text
    go read (Some m) has =
        let passed = Accepts-accepts false (vp.Unsigned 1 65535) text
        (read.0.0, omega (arith, read), omega (arith, read, has), omega (arith, read)) in
        ap Some (has.1 ∙ ap (λ k. k - 1) read.1) ∙ sym (in_range text true passed)
    go read None lacks = sym (at (is_unsigned_in 1 65535 text) refl)
      where
        at : (b : Bool) → is_unsigned_in 1 65535 text ≡ b → channel_in text ≡ None
        at true passed =
            let bounds = accepts-Accepts false (vp.Unsigned 1 65535) text passed in
            absurd (lacks (omega (arith, bounds.2, read)))
        at false passed = in_range text false passed

-- what is no number of 16 bits is none of a channel
pub none_is_read : {E : Type 0} (text : Text) (r : Result ℕ E) (e : E) → ParsesUnsigned 16 10 text r → r ≡ Err e
    → None ≡ channel_in text
none_is_read {E} text r e parses is =
    go (subst (λ (x : Result ℕ E). ParsesUnsigned 16 10 text x) is parses) (is_unsigned_in 1 65535 text) refl
  where
    go : ParsesUnsigned {E = E} 16 10 text (Err e) → (b : Bool) → is_unsigned_in 1 65535 text ≡ b → None ≡ channel_in text
    go refused true passed =
        let bounds = accepts-Accepts false (vp.Unsigned 1 65535) text passed in
        absurd (refused (bounds.0, omega (arith, bounds.3)))
    go refused false passed = sym (in_range text false passed)

-- a text is parted at its first comma
pub parted : (text : Text) (r : Option (Bor (List ℕ) × Bor (List ℕ))) (x : Bor (List ℕ) × Bor (List ℕ))
    → IsSplitOnceResult 44 text r → r ≡ Some x
    → (x.0.now ≡ before_first is_comma text) × (x.1.now ≡ after_first is_comma text)
parted text r x split is =
    let found = rw is at (split_once_first 44 text r split (omega arith)) in (found.1, found.2)
