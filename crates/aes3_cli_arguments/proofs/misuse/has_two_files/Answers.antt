use Rattle.std.proofs.Common.{◌∙◌, ◌&&◌, codes, is_some, refl, sym, ap, ap₂}
use Rattle.clap.specs.Walk.{first_of}
use Rattle.aes3_cli_arguments.specs.Jobs.{options_of}
use Rattle.aes3_cli_arguments.proofs.Misuses.{some_map}
use Rattle.aes3_cli_arguments.proofs.OptionReads.{text_is}
use Rattle.aes3_cli_arguments.proofs.misuse.has_two_files.Goals as goal

pub returns-then-is_some : goal.returns-then-is_some
returns-then-is_some c =
    let m = c.args.options.now in
    let file = text_is m (codes "FILE") c.get_str.result c.get_str.result c.get_str.ensures refl in
    let first = ap is_some file ∙ some_map _ c.get_str.result ∙ sym c.is_some.ensures ∙ c.if-is_some.true in
    let input = text_is m (codes "input") c.get_str-then-is_some.result c.get_str-then-is_some.result
    c.get_str-then-is_some.ensures refl in
    let second = ap is_some input ∙ some_map _ c.get_str-then-is_some.result ∙ sym c.is_some-then-is_some.ensures in
    sym (ap₂ ◌&&◌ first second)

pub returns-else-is_some : goal.returns-else-is_some
returns-else-is_some c =
    let m = c.args.options.now in
    let file = text_is m (codes "FILE") c.get_str.result c.get_str.result c.get_str.ensures refl in
    let first = ap is_some file ∙ some_map _ c.get_str.result ∙ sym c.is_some.ensures ∙ c.if-is_some.false in
    c.if-is_some.false ∙ sym (ap (λ a. a && is_some (first_of (codes "input") (options_of m))) first)
