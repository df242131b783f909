-- What the options have of the command that stands in words that the definitions take.
use Rattle.std.proofs.Common.{◌≡◌, ◌∙◌, ℕ, List, Option, Some, None, codes, inl, inr, refl, ap}
use Rattle.std.specs.Prelude.{⊤, option_and_then}
use Rattle.clap.specs.Simple.{Shape, built}
use Rattle.clap.specs.Walk.{Row, Rule, Text, arg_by_id, row_text}
use Rattle.clap.specs.declared.builder.value_parser.ValueParser.TheVariants as vp
use Rattle.aes3_cli.specs.CommandLine.{command_line, most_cells, most_frames, most_seconds}
use Rattle.aes3_cli_arguments.specs.Jobs.{AreTaken, MayBeFlag, MayBeWithin, Options, StandsIn}
use Rattle.aes3_cli_arguments.proofs.OptionRows.{FitAll}
use Rattle.aes3_cli_arguments.proofs.TakenLines.{EachShape, FlagOrNone, as_written, command_entered, flag_reads}
use Rattle.aes3_cli_arguments.proofs.TakenLines.{found_shape, no_row, option_reads}

-- the definition of a number within these bounds
abbrev BoundedOrNone : ℕ → ℕ → Option Rule → Type 0
BoundedOrNone least most None = ⊤
BoundedOrNone least most (Some a) = a.parser ≡ Some (vp.Unsigned least most)

bounded_reads : (least most : ℕ) (c : List Rule) (rows : List Row) (id : Text) (o : Option Rule) → FitAll c rows
    → arg_by_id c id ≡ o → BoundedOrNone least most o → MayBeWithin least most rows id
bounded_reads least most c rows id None fit own bounds = inl (no_row c rows id fit own)
bounded_reads least most c rows id (Some a) fit own bounds =
    elim (option_reads c rows id a (vp.Unsigned least most) fit own bounds) [
      | inl none ↦ inl (ap (option_and_then row_text) none)
      | inr given ↦
          inr (given.0, given.1 ∙ ap Some (as_written a (vp.Unsigned least most) given.0 bounds refl), given.2)
    ]

-- a name that is a flag, or such a number, where a command takes it
abbrev HasFlag : Text → Shape → Type 0
HasFlag id s = FlagOrNone (arg_by_id s.rules id)

abbrev HasBounded : ℕ → ℕ → Text → Shape → Type 0
HasBounded least most id s = BoundedOrNone least most (arg_by_id s.rules id)

flag_stands : (words : List Text) (name : Text) (options : Options) (id : Text)
    → EachShape (HasFlag id) (built command_line).subs → StandsIn words name options → MayBeFlag options id
flag_stands words name options id flags stands =
    let (e, fit) = command_entered words name options stands in
    flag_reads e.found.rules options id _ fit refl
    (found_shape (HasFlag id) (built command_line).subs e.by e.found flags e.is_found)

number_stands : (words : List Text) (name : Text) (options : Options) (id : Text) (least most : ℕ)
    → EachShape (HasBounded least most id) (built command_line).subs → StandsIn words name options
    → MayBeWithin least most options id
number_stands words name options id least most numbers stands =
    let (e, fit) = command_entered words name options stands in
    bounded_reads least most e.found.rules options id _ fit refl
    (found_shape (HasBounded least most id) (built command_line).subs e.by e.found numbers e.is_found)

-- each option, of the commands in their order: `refl` where it is one of the command's, `tt` where it is none
packed_in_flags : EachShape (HasFlag (codes "packed-in")) (built command_line).subs
packed_in_flags = (tt, (refl, (refl, (refl, (refl, (refl, (refl, (refl, (refl, (refl, (refl, (tt, (refl, (tt, (refl, tt)))))))))))))))

raw_in_flags : EachShape (HasFlag (codes "raw-in")) (built command_line).subs
raw_in_flags = (tt, (refl, (refl, (refl, (refl, (refl, (refl, (refl, (refl, (refl, (refl, (tt, (refl, (tt, (refl, tt)))))))))))))))

packed_out_flags : EachShape (HasFlag (codes "packed-out")) (built command_line).subs
packed_out_flags = (refl, (tt, (refl, (tt, (tt, (tt, (tt, (tt, (refl, (refl, (tt, (tt, (tt, (tt, (tt, tt)))))))))))))))

lsb_first_flags : EachShape (HasFlag (codes "lsb-first")) (built command_line).subs
lsb_first_flags = (refl, (refl, (refl, (refl, (refl, (refl, (refl, (refl, (refl, (refl, (refl, (tt, (refl, (tt, (refl, tt)))))))))))))))

faults_flags : EachShape (HasFlag (codes "faults")) (built command_line).subs
faults_flags = (tt, (tt, (tt, (refl, (tt, (tt, (tt, (tt, (tt, (tt, (tt, (tt, (tt, (tt, (tt, tt)))))))))))))))

gaps_flags : EachShape (HasFlag (codes "gaps")) (built command_line).subs
gaps_flags = (tt, (tt, (tt, (refl, (tt, (tt, (tt, (tt, (tt, (tt, (tt, (tt, (tt, (tt, (tt, tt)))))))))))))))

json_flags : EachShape (HasFlag (codes "json")) (built command_line).subs
json_flags = (tt, (tt, (tt, (tt, (refl, (refl, (tt, (tt, (tt, (tt, (tt, (tt, (tt, (tt, (tt, tt)))))))))))))))

changes_flags : EachShape (HasFlag (codes "changes")) (built command_line).subs
changes_flags = (tt, (tt, (tt, (tt, (tt, (tt, (refl, (tt, (tt, (tt, (tt, (tt, (tt, (tt, (tt, tt)))))))))))))))

at_flags : EachShape (HasFlag (codes "at")) (built command_line).subs
at_flags = (tt, (tt, (tt, (tt, (tt, (tt, (refl, (tt, (tt, (tt, (tt, (tt, (tt, (tt, (tt, tt)))))))))))))))

more_flags : EachShape (HasFlag (codes "more")) (built command_line).subs
more_flags = (tt, (tt, (tt, (tt, (tt, (tt, (refl, (tt, (tt, (tt, (tt, (tt, (tt, (tt, (tt, tt)))))))))))))))

names_flags : EachShape (HasFlag (codes "names")) (built command_line).subs
names_flags = (tt, (tt, (tt, (tt, (tt, (tt, (refl, (tt, (tt, (tt, (tt, (tt, (tt, (tt, (tt, tt)))))))))))))))

valid_flags : EachShape (HasFlag (codes "valid")) (built command_line).subs
valid_flags = (tt, (tt, (tt, (tt, (tt, (tt, (tt, (tt, (tt, (tt, (refl, (tt, (refl, (tt, (tt, tt)))))))))))))))

marked_flags : EachShape (HasFlag (codes "marked")) (built command_line).subs
marked_flags = (tt, (tt, (tt, (tt, (tt, (tt, (tt, (tt, (tt, (tt, (refl, (tt, (refl, (tt, (tt, tt)))))))))))))))

exact_flags : EachShape (HasFlag (codes "exact")) (built command_line).subs
exact_flags = (tt, (tt, (tt, (tt, (tt, (tt, (tt, (tt, (tt, (refl, (refl, (refl, (refl, (refl, (tt, tt)))))))))))))))

mend_check_flags : EachShape (HasFlag (codes "mend-check")) (built command_line).subs
mend_check_flags = (tt, (tt, (tt, (tt, (tt, (tt, (tt, (tt, (tt, (refl, (tt, (refl, (tt, (refl, (tt, tt)))))))))))))))

clear_user1_flags : EachShape (HasFlag (codes "clear-user1")) (built command_line).subs
clear_user1_flags = (tt, (tt, (tt, (tt, (tt, (tt, (tt, (tt, (tt, (refl, (tt, (tt, (tt, (tt, (tt, tt)))))))))))))))

clear_user2_flags : EachShape (HasFlag (codes "clear-user2")) (built command_line).subs
clear_user2_flags = (tt, (tt, (tt, (tt, (tt, (tt, (tt, (tt, (tt, (refl, (tt, (tt, (tt, (tt, (tt, tt)))))))))))))))

rate_numbers : EachShape (HasBounded 1 most_frames (codes "rate")) (built command_line).subs
rate_numbers = (tt, (tt, (tt, (tt, (refl, (tt, (tt, (tt, (tt, (tt, (tt, (tt, (refl, (tt, (tt, tt)))))))))))))))

every_numbers : EachShape (HasBounded 1 most_cells (codes "every")) (built command_line).subs
every_numbers = (tt, (tt, (tt, (tt, (refl, (tt, (tt, (tt, (tt, (tt, (tt, (tt, (tt, (tt, (tt, tt)))))))))))))))

every_seconds_numbers : EachShape (HasBounded 1 most_seconds (codes "every-seconds")) (built command_line).subs
every_seconds_numbers = (tt, (tt, (tt, (tt, (refl, (tt, (tt, (tt, (tt, (tt, (tt, (tt, (tt, (tt, (tt, tt)))))))))))))))

valid1_numbers : EachShape (HasBounded 0 1 (codes "valid1")) (built command_line).subs
valid1_numbers = (tt, (tt, (tt, (tt, (tt, (tt, (tt, (tt, (tt, (refl, (tt, (tt, (tt, (tt, (tt, tt)))))))))))))))

valid2_numbers : EachShape (HasBounded 0 1 (codes "valid2")) (built command_line).subs
valid2_numbers = (tt, (tt, (tt, (tt, (tt, (tt, (tt, (tt, (tt, (refl, (tt, (tt, (tt, (tt, (tt, tt)))))))))))))))

pub options_taken : (words : List Text) (name : Text) (options : Options) → StandsIn words name options
    → AreTaken options
options_taken words name options stands = record {
  packed_in = flag_stands words name options (codes "packed-in") packed_in_flags stands;
  raw_in = flag_stands words name options (codes "raw-in") raw_in_flags stands;
  packed_out = flag_stands words name options (codes "packed-out") packed_out_flags stands;
  lsb_first = flag_stands words name options (codes "lsb-first") lsb_first_flags stands;
  faults = flag_stands words name options (codes "faults") faults_flags stands;
  gaps = flag_stands words name options (codes "gaps") gaps_flags stands;
  json = flag_stands words name options (codes "json") json_flags stands;
  rate = number_stands words name options (codes "rate") 1 most_frames rate_numbers stands;
  every = number_stands words name options (codes "every") 1 most_cells every_numbers stands;
  every_seconds = number_stands words name options (codes "every-seconds") 1 most_seconds every_seconds_numbers stands;
  changes = flag_stands words name options (codes "changes") changes_flags stands;
  at = flag_stands words name options (codes "at") at_flags stands;
  more = flag_stands words name options (codes "more") more_flags stands;
  names = flag_stands words name options (codes "names") names_flags stands;
  valid = flag_stands words name options (codes "valid") valid_flags stands;
  marked = flag_stands words name options (codes "marked") marked_flags stands;
  exact = flag_stands words name options (codes "exact") exact_flags stands;
  mend_check = flag_stands words name options (codes "mend-check") mend_check_flags stands;
  valid1 = number_stands words name options (codes "valid1") 0 1 valid1_numbers stands;
  valid2 = number_stands words name options (codes "valid2") 0 1 valid2_numbers stands;
  clear_user1 = flag_stands words name options (codes "clear-user1") clear_user1_flags stands;
  clear_user2 = flag_stands words name options (codes "clear-user2") clear_user2_flags stands;
}
