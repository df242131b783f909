-- What the getters of a parse's matches read, by the options that the matches have.
use Rattle.std.proofs.Common.{◌≡◌, ◌∙◌, Bor, List, Option, ap, map, sym}
use Rattle.std.specs.Option.{option_map}
use Rattle.clap.specs.Matches.{first_value, found_of, matched_of, raw_values}
use Rattle.clap.specs.Walk.{Text, all_of, first_of}
use Rattle.clap.specs.declared.parser.matches.ArgMatches.{ArgMatches}
use Rattle.clap.proofs.WalkLemmas.{first_value-rows, raw_values-rows}
use Rattle.aes3_cli.specs.Options.{options_of}

-- `get_str` reads the first text
pub text_is : (m : ArgMatches) (name : Text) (answer is : Option (Bor Text))
    → option_map (λ (s : Bor Text). s.now) answer ≡ first_value (found_of m) name → answer ≡ is
    → first_of name (options_of m) ≡ option_map (λ (s : Bor Text). s.now) is
text_is m name answer is read same =
    sym (first_value-rows (found_of m) name) ∙ (sym read ∙ ap (option_map (λ (s : Bor Text). s.now)) same)

-- `get_strs` reads all the texts
abbrev pub texts_in : Option (Bor (List (Bor Text))) → Option (List Text)
texts_in = option_map (λ (s : Bor (List (Bor Text))). map (λ (v : Bor Text). v.now) s.now)

pub texts_are : (m : ArgMatches) (name : Text) (answer is : Option (Bor (List (Bor Text))))
    → texts_in answer ≡ option_map raw_values (matched_of (found_of m) name)
    → answer ≡ is → all_of name (options_of m) ≡ texts_in is
texts_are m name answer is read same = sym (raw_values-rows (found_of m) name) ∙ (sym read ∙ ap texts_in same)
