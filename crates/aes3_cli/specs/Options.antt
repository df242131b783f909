-- What options say that `clap` found among words.
use Rattle.std.specs.Prelude.{List, [], ◌≡◌, Option, Some, None, codes, if◌then◌else◌, option_and_then}
use Rattle.std.specs.Str.{bytes_eq}
use Rattle.clap.specs.Faults.{fault_of}
use Rattle.clap.specs.Simple.{App, matches_of}
use Rattle.clap.specs.Walk.{Row, Text, first_of, rows_of}
use Rattle.clap.specs.Matches.{found_of}
use Rattle.clap.specs.declared.parser.matches.ArgMatches.{ArgMatches}

-- the options that stand in the words, by their names, with their values
abbrev pub Options : Type 0
Options = List Row

abbrev pub options_of : ArgMatches → Options
options_of matches = rows_of (found_of matches)

-- the definitions of a program take the words, and these are the options that stand in them
pub record AreOptionsIn (app : App) (words : List Text) (matches : ArgMatches) : Type 0 where
  pub taken : fault_of app words ≡ []
  pub options : options_of matches ≡ matches_of app words

-- the file of this name; a minus sign alone is a standard stream
abbrev pub named_file : Text → Option Text
named_file text = if bytes_eq text (codes "-") then None else Some text

-- the file that is read in place of standard input: its name stands among the words, or after `-i`
abbrev pub either : Option Text → Option Text → Option Text
either (Some name) other = Some name
either None other = other

abbrev pub name_by : Options → Option Text
name_by options = either (first_of (codes "FILE") options) (first_of (codes "input") options)

abbrev pub file_by : Options → Option Text
file_by options = option_and_then named_file (name_by options)

-- the file that is written in place of standard output
abbrev pub output_by : Options → Option Text
output_by options = option_and_then named_file (first_of (codes "output") options)
