-- The command line, as definitions of `clap`: the commands, and the options and values of each.
use Rattle.std.specs.Prelude.{ℕ, List, [], ◌∷◌, ◌++◌, ◌≡◌, Some, true, false, codes}
use Rattle.clap.specs.Walk.{Rule, Text, rule_of}
use Rattle.clap.specs.Simple.{App, Shape, app_of, new_rule, new_shape, on_top}
use Rattle.clap.specs.declared.builder.arg.Arg.{Arg}
use Rattle.clap.specs.declared.builder.action.ArgAction.TheVariants.{Append, SetTrue}
use Rattle.clap.specs.declared.builder.command.Command.{Command}
use Rattle.clap.specs.declared.builder.command.Command.TheViews.{out-Command as fields_of}
use Rattle.clap.specs.declared.builder.value_parser.ValueParser.TheVariants as vp
use Rattle.aes3_cli.specs.declared.argument.Argument.{Argument}
use Rattle.aes3_cli.specs.declared.argument.Argument.TheVariants.{PackedIn, RawIn, PackedOut, Faults, Gaps}
use Rattle.aes3_cli.specs.declared.argument.Argument.TheVariants.{LsbFirst, Changes, At, More, Names, From, Count}
use Rattle.aes3_cli.specs.declared.argument.Argument.TheVariants.{Json, Rate, Every, EverySeconds}
use Rattle.aes3_cli.specs.declared.argument.Argument.TheVariants.{Status1, Status2, Set1, Set2, MendCheck, Exact}
use Rattle.aes3_cli.specs.declared.argument.Argument.TheVariants.{Preset, SampleRate, Set}
use Rattle.aes3_cli.specs.declared.argument.Argument.TheVariants.{ExactSamples, ExactSettings, Marked}
use Rattle.aes3_cli.specs.declared.argument.Argument.TheVariants.{Valid1, Valid2, ClearUser1, ClearUser2, Valid}
use Rattle.aes3_cli.specs.declared.argument.Argument.TheVariants.{Fill, Bits, Channel, Pcm, Words, Input, Output, File}
use Rattle.aes3_cli.specs.declared.argument.Argument.TheVariants.{ExactWave, Channels, Mono, Use, SampleBits, WaveRate}
use Rattle.aes3_cli.specs.declared.definitions.Name.{Name}
use Rattle.aes3_cli.specs.declared.definitions.Name.TheVariants.{Encode, Decode, Normal, Check, Watch, Show, Scan}
use Rattle.aes3_cli.specs.declared.definitions.Name.TheVariants.{Info}
use Rattle.aes3_cli.specs.declared.definitions.Name.TheVariants.{Cut, Rewrite, ToPcm, FromPcm, ToWav, FromWav, ToBits}

-- the program of this name with these options and values and no command, which takes words without its name, and has a
-- version
abbrev pub program_with : Text → List Rule → App
program_with name rules = record {
  top = record (new_shape name) {
    rules = rules;
    no_binary_name = true;
    has_version = true;
  };
  subs = [];
}

-- a program or a command with these options and values after its own
abbrev pub with_rules : App → List Rule → App
with_rules app rules = on_top (λ s. record s { rules = s.rules ++ rules }) app

-- `--name`, which stands or does not
abbrev pub flag : Text → Rule
flag name = record (new_rule name) { long = Some name; action = Some SetTrue }

-- `--name TEXT`, which may be left out
abbrev pub text_option : Text → Rule
text_option name = record (new_rule name) { long = Some name; value_names = 1 }

-- the same whose values are found by `id`
abbrev pub named_option : Text → Text → Rule
named_option id name = record (new_rule id) { long = Some name; value_names = 1 }

-- `--name TEXT`, which may be left out or stand more than once
abbrev pub settings_option : Text → Rule
settings_option name = record (new_rule name) { long = Some name; action = Some Append; value_names = 1 }

-- a whole number within these bounds, at its place among the words
abbrev pub number : Text → ℕ → ℕ → Rule
number name least most = record (new_rule name) { required = true; parser = Some (vp.Unsigned least most) }

-- a word at its place among the words
abbrev pub word : Text → Rule
word name = record (new_rule name) { required = true }

-- `--name N` with a whole number within these bounds, which may be left out
abbrev pub number_option : Text → ℕ → ℕ → Rule
number_option name least most =
    record (new_rule name) { long = Some name; value_names = 1; parser = Some (vp.Unsigned least most) }

-- the greatest number of 64 bits
abbrev pub greatest : ℕ
greatest = 18446744073709551615

-- how many frames a second a line has at most
abbrev pub most_frames : ℕ
most_frames = 1000000

-- after how many cells sums are told at most: 2^40
abbrev pub most_cells : ℕ
most_cells = 1099511627776

-- after how many seconds they are told at most
abbrev pub most_seconds : ℕ
most_seconds = 3600

-- `--name FILE` or the same with one letter, which may be left out
abbrev pub file_option : Text → ℕ → Rule
file_option name letter = record (new_rule name) { long = Some name; short = Some letter; value_names = 1 }

-- a file name at its place among the words, which may be left out
abbrev pub file_name : Text → Rule
file_name name = new_rule name

-- `-i FILE`: the file that is read in place of standard input
abbrev pub input : Rule
input = file_option (codes "input") 105

-- `-o FILE`: the file that is written in place of standard output
abbrev pub output : Rule
output = file_option (codes "output") 111

-- the name of the file that is read, at its place
abbrev pub file : Rule
file = file_name (codes "FILE")

-- a command's input has packed cells
abbrev pub packed_in : Rule
packed_in = flag (codes "packed-in")

-- it has raw octets of cells
abbrev pub raw_in : Rule
raw_in = flag (codes "raw-in")

-- a command's output has packed cells
abbrev pub packed_out : Rule
packed_out = flag (codes "packed-out")

-- its packed cells have the first of eight in the lowest bit
abbrev pub lsb_first : Rule
lsb_first = flag (codes "lsb-first")

-- the form of the words of the block file that a command reads or writes
abbrev pub words : Rule
words = text_option (codes "words")

-- the form of the samples that it reads or writes
abbrev pub pcm : Rule
pcm = text_option (codes "pcm")

-- the options and values by their names
abbrev pub rule : Argument → Rule
rule PackedIn = packed_in
rule RawIn = raw_in
rule PackedOut = packed_out
rule Faults = flag (codes "faults")
rule Gaps = flag (codes "gaps")
rule LsbFirst = lsb_first
rule Changes = flag (codes "changes")
rule At = flag (codes "at")
rule More = flag (codes "more")
rule Names = flag (codes "names")
rule Json = flag (codes "json")
rule Rate = number_option (codes "rate") 1 most_frames
rule Every = number_option (codes "every") 1 most_cells
rule EverySeconds = number_option (codes "every-seconds") 1 most_seconds
rule From = number (codes "FROM") 0 greatest
rule Count = number (codes "COUNT") 0 greatest
rule Status1 = text_option (codes "status1")
rule Status2 = text_option (codes "status2")
rule Preset = text_option (codes "preset")
rule SampleRate = named_option (codes "hz") (codes "rate")
rule Set = settings_option (codes "set")
rule Set1 = settings_option (codes "set1")
rule Set2 = settings_option (codes "set2")
rule MendCheck = flag (codes "mend-check")
rule Valid1 = number_option (codes "valid1") 0 1
rule Valid2 = number_option (codes "valid2") 0 1
rule ClearUser1 = flag (codes "clear-user1")
rule ClearUser2 = flag (codes "clear-user2")
rule Valid = flag (codes "valid")
rule Fill = text_option (codes "fill")
rule Marked = flag (codes "marked")
rule Exact = flag (codes "exact")
rule ExactSamples = flag (codes "exact")
rule ExactSettings = flag (codes "exact")
rule ExactWave = flag (codes "exact")
rule Channels = text_option (codes "channels")
rule Mono = text_option (codes "mono")
rule Use = text_option (codes "use")
rule SampleBits = text_option (codes "bits")
rule WaveRate = number_option (codes "rate") 1 most_frames
rule Pcm = pcm
rule Words = words
rule Bits = word (codes "BITS")
rule Channel = number (codes "CHANNEL") 1 2
rule Input = input
rule Output = output
rule File = file

abbrev pub command : Text → List Rule → Shape
command name options = record (new_shape name) { rules = options }

abbrev pub encode : Shape
encode = command (codes "encode") (packed_out ∷ lsb_first ∷ words ∷ input ∷ output ∷ [])

-- a command that reads cells and writes none, with more options
abbrev pub reader_with : Text → List Rule → Shape
reader_with name options = command name (packed_in ∷ raw_in ∷ lsb_first ∷ options)

-- one without more options
abbrev pub reader : Text → Shape
reader name = reader_with name (input ∷ output ∷ file ∷ [])

abbrev pub decode : Shape
decode = reader_with (codes "decode") (words ∷ input ∷ output ∷ file ∷ [])

abbrev pub check : Shape
check = reader_with (codes "check") (flag (codes "faults") ∷ flag (codes "gaps") ∷ input ∷ output ∷ file ∷ [])

abbrev pub watch : Shape
watch = reader_with (codes "watch")
    (flag (codes "json") ∷ number_option (codes "rate") 1 most_frames
    ∷ number_option (codes "every") 1 most_cells ∷ number_option (codes "every-seconds") 1 most_seconds ∷ input ∷ output ∷ file ∷ [])

abbrev pub info : Shape
info = reader_with (codes "info") (flag (codes "json") ∷ input ∷ output ∷ file ∷ [])

abbrev pub show : Shape
show = reader_with (codes "show")
    (flag (codes "changes") ∷ flag (codes "at") ∷ flag (codes "more") ∷ flag (codes "names") ∷ input ∷ output ∷ file ∷ [])

abbrev pub normal : Shape
normal = command (codes "normal") (packed_in ∷ raw_in ∷ packed_out ∷ lsb_first ∷ input ∷ output ∷ file ∷ [])

abbrev pub cut : Shape
cut = command (codes "cut")
    (packed_in ∷ raw_in ∷ packed_out ∷ lsb_first ∷ input ∷ output
    ∷ number (codes "FROM") 0 greatest ∷ number (codes "COUNT") 0 greatest ∷ [])

abbrev pub rewrite : Shape
rewrite = command (codes "rewrite")
    (packed_in ∷ raw_in ∷ packed_out ∷ lsb_first
    ∷ text_option (codes "status1") ∷ text_option (codes "status2") ∷ text_option (codes "preset")
    ∷ settings_option (codes "set") ∷ settings_option (codes "set1") ∷ settings_option (codes "set2") ∷ flag (codes "mend-check")
    ∷ number_option (codes "valid1") 0 1 ∷ number_option (codes "valid2") 0 1
    ∷ flag (codes "clear-user1") ∷ flag (codes "clear-user2") ∷ flag (codes "exact") ∷ input ∷ output ∷ file ∷ [])

abbrev pub to_pcm : Shape
to_pcm = reader_with (codes "to-pcm")
    (pcm ∷ flag (codes "valid") ∷ text_option (codes "fill") ∷ flag (codes "marked") ∷ flag (codes "exact") ∷ input ∷ output ∷ file ∷ [])

abbrev pub from_pcm : Shape
from_pcm = command (codes "from-pcm")
    (text_option (codes "status1") ∷ text_option (codes "status2") ∷ text_option (codes "preset")
    ∷ named_option (codes "hz") (codes "rate")
    ∷ settings_option (codes "set") ∷ settings_option (codes "set1") ∷ settings_option (codes "set2")
    ∷ flag (codes "mend-check") ∷ flag (codes "exact") ∷ pcm ∷ words ∷ input ∷ output ∷ file ∷ [])

abbrev pub to_wav : Shape
to_wav = reader_with (codes "to-wav")
    (text_option (codes "bits") ∷ number_option (codes "rate") 1 most_frames
    ∷ flag (codes "valid") ∷ text_option (codes "fill") ∷ flag (codes "marked") ∷ flag (codes "exact") ∷ input ∷ output ∷ file ∷ [])

abbrev pub from_wav : Shape
from_wav = command (codes "from-wav")
    (text_option (codes "channels") ∷ text_option (codes "mono") ∷ text_option (codes "use")
    ∷ text_option (codes "status1") ∷ text_option (codes "status2") ∷ text_option (codes "preset")
    ∷ named_option (codes "hz") (codes "rate")
    ∷ settings_option (codes "set") ∷ settings_option (codes "set1") ∷ settings_option (codes "set2")
    ∷ flag (codes "mend-check") ∷ flag (codes "exact") ∷ words ∷ input ∷ output ∷ file ∷ [])

abbrev pub to_bits : Shape
to_bits = reader_with (codes "to-bits") (word (codes "BITS") ∷ number (codes "CHANNEL") 1 2 ∷ input ∷ output ∷ file ∷ [])

-- the commands by their names
abbrev pub shape : Name → Shape
shape Encode = encode
shape Decode = decode
shape Normal = normal
shape Check = check
shape Watch = watch
shape Info = info
shape Show = show
shape Scan = reader (codes "scan")
shape Cut = cut
shape Rewrite = rewrite
shape ToPcm = to_pcm
shape FromPcm = from_pcm
shape ToWav = to_wav
shape FromWav = from_wav
shape ToBits = to_bits

-- the program with no command yet
abbrev pub program : App
program = record {
  top = record (new_shape (codes "aes3")) {
    no_binary_name = true;
    disable_help_subcommand = true;
    subcommand_required = true;
    has_version = true;
  };
  subs = [];
}

-- the program: one of the commands has to stand, and none of them is called `help`
abbrev pub command_line : App
command_line = record {
  top = record (new_shape (codes "aes3")) {
    is_leaf = false;
    no_binary_name = true;
    disable_help_subcommand = true;
    subcommand_required = true;
    has_version = true;
  };
  subs = encode ∷ decode ∷ normal ∷ check
      ∷ watch ∷ info ∷ show ∷ reader (codes "scan") ∷ cut ∷ rewrite
      ∷ to_pcm ∷ from_pcm ∷ to_wav ∷ from_wav ∷ to_bits ∷ [];
}

-- a command by itself
abbrev pub app_with : Shape → App
app_with s = record { top = s; subs = [] }

-- the argument is the one defined here
abbrev pub IsOption : Rule → Arg → Type 0
IsOption rule argument = (rule_of argument ≡ rule) × (argument.global ≡ false)

-- the command is the one defined here
abbrev pub IsDefinedAs : App → Command → Type 0
IsDefinedAs app command =
    (app_of command ≡ app) × ((fields_of command).has_globals ≡ false)
