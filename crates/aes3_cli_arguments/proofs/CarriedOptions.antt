-- The words of `to-bits`, of the command that stands in words that the definitions take.
use Rattle.std.proofs.Common.{◌≡◌, ◌∙◌, ◌<◌, ◌≤◌, ℕ, Bool, List, [], ◌∷◌, length, Option, Some, None, true, false, not}
use Rattle.std.proofs.Common.{zero, suc, codes, refl, sym, ap, subst, cond, arith, is_some, true≢false}
use Rattle.std.specs.Prelude.{option_and_then, slice_get}
use Rattle.std.specs.List.{find}
use Rattle.std.specs.Option.{option_map_or}
use Rattle.std.specs.Str.{bytes_eq}
use Rattle.clap.specs.Facts.{explicit_source}
use Rattle.clap.specs.Faults.{check_fault}
use Rattle.clap.specs.Takes.{is_given}
use Rattle.clap.specs.Simple.{Shape, built}
use Rattle.clap.specs.Walk.{Row, Rule, Text, first_of}
use Rattle.aes3_cli.specs.CommandLine.{check, command_line, cut, decode, encode, from_pcm, normal, reader, rewrite}
use Rattle.aes3_cli.specs.CommandLine.{from_wav, info, show, to_bits, to_pcm, to_wav, watch}
use Rattle.aes3_frame.specs.declared.block.Channel.{Channel}
use Rattle.aes3_frame.specs.declared.block.Channel.TheVariants.{First, Second}
use Rattle.aes3_frame.specs.declared.block.CarriedBits.{CarriedBits}
use Rattle.aes3_cli_arguments.specs.Jobs.{IsNumber, Options, StandsIn, bits_by, bits_in, has_unknown_bits, number_of}
use Rattle.aes3_cli_arguments.proofs.LineWalks.{level_checked, level_fits}
use Rattle.aes3_cli_arguments.proofs.OptionRows.{FitAll}
use Rattle.aes3_cli_arguments.proofs.TakenLines.{EachShape, all_known, entered_command, found_shape, leaf, nothing_wanted}
use Rattle.aes3_cli_arguments.proofs.TakenLines.{also, both_given, number_reads, IsKnown}

-- an option that was given has a text
text_reads : (c : List Rule) (rows : List Row) (id : Text) → FitAll c rows → is_given id rows ≡ true
    → is_some (first_of id rows) ≡ true
text_reads c [] id fit given = absurd (true≢false (sym given))
text_reads c (r ∷ rs) id fit given = go (bytes_eq r.id id) (λ rest. text_reads c rs id fit.1 rest) given
  where
    one : (values : List Text) → 0 < length values → is_some (slice_get values 0) ≡ true
    one [] some = absurd (omega arith)
    one (v ∷ vs) some = refl

    go : (b : Bool) → (is_given id rs ≡ true → is_some (first_of id rs) ≡ true)
        → option_map_or (λ (x : Row). explicit_source x.source)
        (cond b (Some r) (find (λ x. bytes_eq x.id id) rs)) false
        ≡ true
        → is_some (option_and_then (λ (x : Row). slice_get x.values 0)
        (cond b (Some r) (find (λ x. bytes_eq x.id id) rs))) ≡ true
    go true later some = one r.values fit.0.given
    go false later some = later some

-- a number from 1 to 2 is that of a channel
channel_of : (options : Options) (n : ℕ) → IsNumber options (codes "CHANNEL") n → 1 ≤ n → n ≤ 2
    → (channel : Channel) × IsNumber options (codes "CHANNEL") (number_of channel)
channel_of options zero is least most = absurd (omega (arith, least))
channel_of options (suc zero) is least most = (First, is)
channel_of options (suc (suc zero)) is least most = (Second, is)
channel_of options (suc (suc (suc n))) is least most = absurd (omega (arith, most))

-- what a command called `to-bits` has
abbrev Words : Options → Type 0
Words options = (is_some (first_of (codes "BITS") options) ≡ true)
    × ((channel : Channel) × IsNumber options (codes "CHANNEL") (number_of channel))

abbrev HasWords : Shape → Type 0
HasWords s = s.name ≡ codes "to-bits" → (rows : List Row) → FitAll s.rules rows → check_fault s rows false ≡ []
    → Words rows

no_words : (s : Shape) → bytes_eq s.name (codes "to-bits") ≡ false → HasWords s
no_words s differs same rows fit passed =
    absurd (true≢false (sym (ap (λ t. bytes_eq t (codes "to-bits")) same) ∙ differs))

has_words : HasWords (leaf to_bits)
has_words same rows fit passed =
    let given = both_given (is_given (codes "BITS") rows) (is_given (codes "CHANNEL") rows)
    (nothing_wanted false false _ passed) in
    let number = number_reads (leaf to_bits).rules rows (codes "CHANNEL") _ 1 2 fit refl refl given.1 in (
      text_reads (leaf to_bits).rules rows (codes "BITS") fit given.0,
      channel_of rows number.0 number.1 number.2 number.3,
    )

all_words : EachShape HasWords (built command_line).subs
all_words =
    also (no_words (leaf encode) refl) (also (no_words (leaf decode) refl)
    (also (no_words (leaf normal) refl) (also (no_words (leaf check) refl) (also (no_words (leaf watch) refl)
    (also (no_words (leaf info) refl) (also (no_words (leaf show) refl) (also (no_words (leaf (reader (codes "scan"))) refl)
    (also (no_words (leaf cut) refl) (also (no_words (leaf rewrite) refl) (also (no_words (leaf to_pcm) refl)
    (also (no_words (leaf from_pcm) refl) (also (no_words (leaf to_wav) refl) (also (no_words (leaf from_wav) refl)
    (also (has_words) tt))))))))))))))

words_stand : (words : List Text) (name : Text) (options : Options) → StandsIn words name options
    → name ≡ codes "to-bits" → Words options
words_stand words name options stands is =
    let e = entered_command command_line words name options stands.0 stands.1 in
    let known = found_shape IsKnown (built command_line).subs e.by e.found all_known e.is_found in
    let own = found_shape HasWords (built command_line).subs e.by e.found all_words e.is_found in
    let fit = level_fits e.found [] e.words false [] known.sound e.faultless in
    let checked = level_checked e.found [] e.words false [] e.faultless in
    subst Words e.rows (own (e.named ∙ is) _ fit checked)

-- bits that are named are known, where that is not wrong
known_bits : (o : Option Text) → is_some o ≡ true
    → option_map_or (λ text. not (is_some (bits_in text))) o false ≡ false
    → (bits : CarriedBits) × (option_and_then bits_in o ≡ Some bits)
known_bits None given known = absurd (true≢false (sym given))
known_bits (Some text) given known = go (bits_in text) refl known
  where
    go : (b : Option CarriedBits) → bits_in text ≡ b → not (is_some b) ≡ false
        → (bits : CarriedBits) × (bits_in text ≡ Some bits)
    go (Some bits) is known = (bits, is)
    go None is known = absurd (true≢false known)

pub bits_stand : (words : List Text) (name : Text) (options : Options) → StandsIn words name options
    → name ≡ codes "to-bits" → has_unknown_bits options ≡ false
    → (bits : CarriedBits) × (bits_by options ≡ Some bits)
bits_stand words name options stands is known =
    known_bits (first_of (codes "BITS") options) (words_stand words name options stands is).0 known

pub channel_stands : (words : List Text) (name : Text) (options : Options) → StandsIn words name options
    → name ≡ codes "to-bits"
    → (channel : Channel) × IsNumber options (codes "CHANNEL") (number_of channel)
channel_stands words name options stands is = (words_stand words name options stands is).1
