-- Steps from a builder of `clap` to the definitions of the command line.
use Rattle.std.proofs.Common.{◌≡◌, ◌∙◌, ◌||◌, ◌<◌, ◌+◌, ◌++◌, ◌∷◌, ℕ, List, [], ap, ap₂, false, get_or, length, map}
use Rattle.std.proofs.Common.{refl, subst, sym, take}
use Rattle.std.proofs.lemmas.List.{append_assoc, map-append, take_more}
use Rattle.clap.specs.Built.{AddsArg, AddsSubcommand}
use Rattle.clap.specs.Walk.{Rule}
use Rattle.clap.specs.Simple.{App, Shape, on_top, with_rule, with_subcommand}
use Rattle.clap.specs.declared.builder.arg.Arg.{Arg}
use Rattle.clap.specs.declared.builder.command.Command.{Command}
use Rattle.aes3_cli.specs.CommandLine.{IsDefinedAs, IsOption, app_with, command, program, shape, with_rules}
use Rattle.aes3_cli.specs.declared.definitions.Name.{Name}
use Rattle.aes3_cli.specs.declared.definitions.Name.TheVariants.{Encode, Decode, Normal, Check, Watch, Show, Scan}
use Rattle.aes3_cli.specs.declared.definitions.Name.TheVariants.{Cut, Info, Rewrite, ToPcm, FromPcm, ToWav, FromWav, ToBits}

-- one more argument
with_option : (app : App) (r : Rule) (old new : Command) (argument : Arg) → AddsArg old argument new
    → IsDefinedAs app old → IsOption r argument → IsDefinedAs (with_rule app r) new
with_option app r old new argument added defined option = (
  added.shape option.1 ∙ ap₂ with_rule defined.0 option.0,
  added.globals ∙ ap₂ ◌||◌ defined.1 option.1,
)

-- a program or a command with the first of these arguments, and one more
pub with_argument : {D : Type 0} (rule : D → Rule) (app : App) (arguments : List D) (i : ℕ) (d : D) (old new : Command)
    (argument : Arg)
    → i < length arguments → AddsArg old argument new
    → IsDefinedAs (with_rules app (map rule (take i arguments))) old → IsOption (rule (get_or arguments i d)) argument
    → IsDefinedAs (with_rules app (map rule (take (i + 1) arguments))) new
with_argument rule app arguments i d old new argument below added defined is =
    let last = rule (get_or arguments i d) in
    let more : map rule (take (i + 1) arguments) ≡ map rule (take i arguments) ++ last ∷ [] =
    ap (map rule) (take_more arguments i d below) ∙ map-append rule (take i arguments) (get_or arguments i d ∷ []) in
    let joined : app.top.rules ++ map rule (take (i + 1) arguments)
    ≡ (app.top.rules ++ map rule (take i arguments)) ++ last ∷ [] =
    ap (λ rules. app.top.rules ++ rules) more ∙ sym (append_assoc app.top.rules (map rule (take i arguments)) (last ∷ [])) in
    subst (λ rules. IsDefinedAs (on_top (λ s. record s { rules = rules }) app) new) (sym joined)
    (with_option (with_rules app (map rule (take i arguments))) last old new argument added defined is)

-- one more command
with_command : (app : App) (s : Shape) (old sub new : Command) → AddsSubcommand old sub new
    → IsDefinedAs app old → IsDefinedAs (app_with s) sub → IsDefinedAs (with_subcommand app s) new
with_command app s old sub new added defined is = (
  added.shape is.1 ∙ ap₂ with_subcommand defined.0 (ap (λ (a : App). a.top) is.0),
  added.globals ∙ ap₂ ◌||◌ defined.1 is.1,
)

-- the program with these commands
abbrev pub with_commands : List Name → App
with_commands [] = program
with_commands (n ∷ names) = record { top = record program.top { is_leaf = false }; subs = map shape (n ∷ names) }

one_more : (names : List Name) (n : Name)
    → with_subcommand (with_commands names) (shape n) ≡ with_commands (names ++ n ∷ [])
one_more [] n = refl
one_more (m ∷ names) n =
    ap (λ shapes. record { top = record program.top { is_leaf = false }; subs = shapes })
    (sym (map-append shape (m ∷ names) (n ∷ [])))

-- the first commands of the program, and one more
pub with_name : (names : List Name) (i : ℕ) (d : Name) (old sub new : Command)
    → i < length names → AddsSubcommand old sub new → IsDefinedAs (with_commands (take i names)) old
    → IsDefinedAs (app_with (shape (get_or names i d))) sub
    → IsDefinedAs (with_commands (take (i + 1) names)) new
with_name names i d old sub new below added defined is =
    let more : with_subcommand (with_commands (take i names)) (shape (get_or names i d))
    ≡ with_commands (take (i + 1) names) =
    one_more (take i names) (get_or names i d) ∙ ap with_commands (sym (take_more names i d below)) in
    subst (λ app. IsDefinedAs app new) more
    (with_command (with_commands (take i names)) (shape (get_or names i d)) old sub new added defined is)

-- each command is told by its name and its rules
pub shape-is : (n : Name) → command (shape n).name (shape n).rules ≡ shape n
shape-is Encode = refl
shape-is Decode = refl
shape-is Normal = refl
shape-is Check = refl
shape-is Watch = refl
shape-is Info = refl
shape-is Show = refl
shape-is Scan = refl
shape-is Cut = refl
shape-is Rewrite = refl
shape-is ToPcm = refl
shape-is FromPcm = refl
shape-is ToWav = refl
shape-is FromWav = refl
shape-is ToBits = refl
