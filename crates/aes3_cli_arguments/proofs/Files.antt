-- Which files a command line reads and writes.
use Rattle.std.proofs.Common.{◌≡◌, ◌∙◌, List, Bor, Option, Some, None, sym, ap, true≢false, is_some}
use Rattle.std.specs.Prelude.{IfSome}
use Rattle.std.specs.Option.{option_map}
use Rattle.clap.specs.Walk.{Text}
use Rattle.aes3_cli.specs.Options.{file_by, output_by}
use Rattle.aes3_cli_arguments.specs.Jobs.{Options, ReadsFile, StandsIn, WritesFile}
use Rattle.aes3_cli_arguments.proofs.OptionRows.{some_inj}

-- the options' file is the one that the words read
pub some_read : (words : List Text) (name : Text) (options : Options) (file : Option (Bor Text))
    → StandsIn words name options
    → option_map (λ f. f.now) file ≡ file_by options → IfSome file (λ f. ReadsFile words f.now)
some_read words name options None stands is = tt
some_read words name options (Some f) stands is = (name, options, stands, sym is)

-- where the options name none, neither do the words
pub none_read : (words : List Text) (name : Text) (options : Options) (file : Option (Bor Text))
    → StandsIn words name options
    → option_map (λ f. f.now) file ≡ file_by options → file ≡ None → (f : Text) → ¬ ReadsFile words f
none_read words name options file stands is none f reads =
    let by : file_by options ≡ None = sym is ∙ ap (option_map (λ g. g.now)) none in
    let same : options ≡ reads.1 = ap (λ (p : Text × Options). p.1) (some_inj _ _ (sym stands.1 ∙ reads.2.1)) in
    true≢false (ap is_some (sym (ap file_by same ∙ reads.3) ∙ by))

-- and the file that they write
pub some_written : (words : List Text) (name : Text) (options : Options) (file : Option (Bor Text))
    → StandsIn words name options
    → option_map (λ f. f.now) file ≡ output_by options → IfSome file (λ f. WritesFile words f.now)
some_written words name options None stands is = tt
some_written words name options (Some f) stands is = (name, options, stands, sym is)

pub none_written : (words : List Text) (name : Text) (options : Options) (file : Option (Bor Text))
    → StandsIn words name options
    → option_map (λ f. f.now) file ≡ output_by options → file ≡ None → (f : Text) → ¬ WritesFile words f
none_written words name options file stands is none f writes =
    let by : output_by options ≡ None = sym is ∙ ap (option_map (λ g. g.now)) none in
    let same : options ≡ writes.1 = ap (λ (p : Text × Options). p.1) (some_inj _ _ (sym stands.1 ∙ writes.2.1)) in
    true≢false (ap is_some (sym (ap output_by same ∙ writes.3) ∙ by))
