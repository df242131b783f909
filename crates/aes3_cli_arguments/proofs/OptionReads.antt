-- What the getters of a parse's matches read, by the options that the matches have.
use Rattle.std.proofs.Common.{◌≡◌, ◌∙◌, ◌<◌, ◌≤◌, ◌^◌, arith, ℕ, Bool, List, [], map, Bor, Option, Some, None, Result, Ok}
use Rattle.std.proofs.Common.{Err, inl, inr, true, false, codes, refl, sym, ap, cond, subst, is_some, true≢false}
use Rattle.std.specs.Prelude.{option_and_then}
use Rattle.std.specs.Option.{option_map, option_map_or, unwrap_or}
use Rattle.std.specs.Str.{bytes_eq}
use Rattle.std.specs.Str.Parse.{ParsesUnsigned, digits_value, without_leading_plus}
use Rattle.clap.specs.Matches.{ReadsOne, first_value, found_of, matched_of, one_text, raw_values}
use Rattle.clap.specs.Walk.{Text, first_of, one_of}
use Rattle.clap.specs.ValueTests.{is_unsigned_in}
use Rattle.clap.specs.declared.builder.value_parser.ValueParser.TheVariants as vp
use Rattle.clap.specs.declared.parser.matches.ArgMatches.{ArgMatches}
use Rattle.clap.proofs.ValueTestLemmas.{Accepts-accepts, accepts-Accepts}
use Rattle.clap.proofs.WalkLemmas.{first_value-rows, one_text-rows}
use Rattle.aes3_cli.specs.CommandLine.{greatest, most_frames}
use Rattle.aes3_cli_arguments.specs.Jobs.{IsNumber, MayBeFlag, MayBeWithin, Options, is_set, number_by, number_in}
use Rattle.aes3_cli_arguments.specs.Jobs.{options_of, texts_by}
use Rattle.aes3_cli_arguments.proofs.OptionRows.{some_inj}
use Rattle.aes3_cli.proofs.OptionReads.{texts_are, texts_in}

-- `get_flag` tells whether the flag stands
pub flag_is : (m : ArgMatches) (name : Text) (answer : Bool) → MayBeFlag (options_of m) name
    → (one_text (found_of m) name ≡ None → answer ≡ false)
    → (one_text (found_of m) name ≡ Some (codes "true") → answer ≡ true)
    → (one_text (found_of m) name ≡ Some (codes "false") → answer ≡ false)
    → answer ≡ is_set (options_of m) name
flag_is m name answer flag none given not_given = elim flag [
  | inl e ↦ none (one_text-rows (found_of m) name ∙ e) ∙ sym (ap test e)
  | inr (inl e) ↦ given (one_text-rows (found_of m) name ∙ e) ∙ sym (ap test e)
  | inr (inr e) ↦ not_given (one_text-rows (found_of m) name ∙ e) ∙ sym (ap test e)
]
  where
    test : Option Text → Bool
    test o = option_map_or (λ text. bytes_eq text (codes "true")) o false

-- a number's text is read as that number
number_parses : (E : Type 0) (G : Text → Result ℕ E → Type 0) (text : Text) (n : ℕ) (answer : Option ℕ)
    → ((t : Text) (x : Result ℕ E) → G t x → ParsesUnsigned 64 10 t x)
    → number_in text ≡ Some n → ReadsOne G text answer → answer ≡ Some n
number_parses E G text n answer only is read =
    go (is_unsigned_in 0 18446744073709551615 text) refl is answer read
  where
    value : ℕ
    value = digits_value 10 (without_leading_plus text)

    go : (b : Bool) → is_unsigned_in 0 18446744073709551615 text ≡ b
        → cond b (Some (digits_value 10 (without_leading_plus text))) None ≡ Some n
        → (o : Option ℕ) → ReadsOne G text o → o ≡ Some n
    go true passed same (Some v) h = ap Some (only text (Ok v) h).1 ∙ same
    go true passed same None h =
        let numeral = accepts-Accepts false (vp.Unsigned 0 18446744073709551615) text passed in
        absurd (only text (Err h.0) h.1 (numeral.0, numeral.1))
    go false passed same o h = cc

-- `get_one` reads the number
pub number_is : (E : Type 0) (G : Text → Result ℕ E → Type 0) (m : ArgMatches) (name : Text) (n : ℕ) (answer : Option ℕ)
    → ((t : Text) (x : Result ℕ E) → G t x → ParsesUnsigned 64 10 t x)
    → IsNumber (options_of m) name n
    → ((t : Text) → one_text (found_of m) name ≡ Some t → ReadsOne G t answer)
    → answer ≡ Some n
number_is E G m name n answer only is value = go (one_of name (options_of m)) refl is
  where
    go : (o : Option Text) → one_of name (options_of m) ≡ o → option_and_then number_in o ≡ Some n → answer ≡ Some n
    go None at same = cc
    go (Some text) at same =
        number_parses E G text n answer only same (value text (one_text-rows (found_of m) name ∙ at))

-- `get_str` reads the first text
abbrev pub text_in : Option (Bor Text) → Option Text
text_in = option_map (λ (s : Bor Text). s.now)

pub text_is : (m : ArgMatches) (name : Text) (answer is : Option (Bor Text))
    → text_in answer ≡ first_value (found_of m) name
    → answer ≡ is → first_of name (options_of m) ≡ text_in is
text_is m name answer is read same = sym (first_value-rows (found_of m) name) ∙ (sym read ∙ ap text_in same)

-- where none are given, nothing stands in their place
or_nothing : (o : Option (Bor (List (Bor Text)))) (none : Bor (List (Bor Text))) → none.now ≡ []
    → map (λ (v : Bor Text). v.now) (unwrap_or o none).now ≡ unwrap_or (texts_in o) []
or_nothing None none e = ap (map (λ (v : Bor Text). v.now)) e
or_nothing (Some texts) none e = refl

pub texts_given : (m : ArgMatches) (name : Text) (answer : Option (Bor (List (Bor Text))))
    (none is : Bor (List (Bor Text)))
    → texts_in answer ≡ option_map raw_values (matched_of (found_of m) name)
    → none.now ≡ [] → is ≡ unwrap_or answer none
    → map (λ (v : Bor Text). v.now) is.now ≡ texts_by (options_of m) name
texts_given m name answer none is read e same =
    ap (λ (s : Bor (List (Bor Text))). map (λ (v : Bor Text). v.now) s.now) same ∙ or_nothing answer none e
    ∙ sym (ap (λ (o : Option (List Text)). unwrap_or o []) (texts_are m name answer answer read refl))

-- a text within bounds writes a number, which is within them
pub bounded_in : (least most : ℕ) (text : Text) → is_unsigned_in least most text ≡ true
    → (n : ℕ) × (number_in text ≡ Some n) × (least ≤ n) × (n ≤ most)
bounded_in least most text passed =
    let bounds = accepts-Accepts false (vp.Unsigned least most) text passed in
    let wide = Accepts-accepts false (vp.Unsigned 0 greatest) text
    (bounds.0, bounds.1, omega arith, omega (arith, bounds.1)) in (
      digits_value 10 (without_leading_plus text),
      ap (λ (b : Bool). cond b (Some (digits_value 10 (without_leading_plus text))) None) wide,
      bounds.2,
      bounds.3,
    )

-- a number that an option gives is within its bounds
pub within : (least most : ℕ) (options : Options) (name : Text) (n : ℕ) → MayBeWithin least most options name
    → number_by options name ≡ Some n → n ≤ most
within least most options name n bounds is = elim bounds [
  | inl none ↦ absurd (true≢false (ap is_some (sym is ∙ ap (option_and_then number_in) none)))
  | inr given ↦
      let found = bounded_in least most given.0 given.2 in
      subst (λ (x : ℕ). x ≤ most)
      (some_inj _ _ (sym found.1 ∙ (sym (ap (option_and_then number_in) given.1) ∙ is))) found.3
]

-- a number within bounds is read as that number, by a type that holds it
bounded_parses : (w : ℕ) (E : Type 0) (G : Text → Result ℕ E → Type 0) (least most : ℕ) (text : Text)
    (answer : Option ℕ)
    → ((t : Text) (x : Result ℕ E) → G t x → ParsesUnsigned w 10 t x)
    → is_unsigned_in least most text ≡ true → digits_value 10 (without_leading_plus text) < 2 ^ w
    → ReadsOne G text answer → answer ≡ number_in text
unfolding bounded_in
bounded_parses w E G least most text answer only passed few read =
    go answer read ∙ sym (bounded_in least most text passed).1
  where
    go : (o : Option ℕ) → ReadsOne G text o → o ≡ Some (bounded_in least most text passed).0
    go (Some v) h = ap Some (only text (Ok v) h).1
    go None h =
        let bounds = accepts-Accepts false (vp.Unsigned least most) text passed in
        absurd (only text (Err h.0) h.1 (bounds.0, few))

-- `get_one` reads the number of an option, where it is given
pub bounded_is : (w : ℕ) (E : Type 0) (G : Text → Result ℕ E → Type 0) (m : ArgMatches) (name : Text) (least most : ℕ)
    (answer : Option ℕ)
    → ((t : Text) (x : Result ℕ E) → G t x → ParsesUnsigned w 10 t x)
    → ((text : Text) → is_unsigned_in least most text ≡ true → digits_value 10 (without_leading_plus text) < 2 ^ w)
    → MayBeWithin least most (options_of m) name
    → (one_text (found_of m) name ≡ None → answer ≡ None)
    → ((t : Text) → one_text (found_of m) name ≡ Some t → ReadsOne G t answer)
    → answer ≡ number_by (options_of m) name
bounded_is w E G m name least most answer only few bounds none value = elim bounds [
  | inl e ↦ none (one_text-rows (found_of m) name ∙ e) ∙ sym (ap (option_and_then number_in) e)
  | inr given ↦
      bounded_parses w E G least most given.0 answer only given.2 (few given.0 given.2)
      (value given.0 (one_text-rows (found_of m) name ∙ given.1))
      ∙ sym (ap (option_and_then number_in) given.1)
]

-- 32 bits hold a number of frames a second
pub few_frames : (text : Text) → is_unsigned_in 1 most_frames text ≡ true
    → digits_value 10 (without_leading_plus text) < 2 ^ 32
few_frames text passed =
    let bounds = accepts-Accepts false (vp.Unsigned 1 most_frames) text passed in omega (arith, bounds.3)

-- 64 bits hold each number of an option
pub few : (least most : ℕ) (text : Text) → is_unsigned_in least most text ≡ true
    → digits_value 10 (without_leading_plus text) < 2 ^ 64
few least most text passed = (accepts-Accepts false (vp.Unsigned least most) text passed).1
