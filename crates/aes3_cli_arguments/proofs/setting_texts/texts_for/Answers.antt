use Rattle.std.proofs.Common.{◌∙◌, codes, refl, sym, ap, Bor, List, ℕ, Vec, Global, rules}
use Rattle.aes3_cli_arguments.specs.Jobs.{options_of}
use Rattle.aes3_cli_arguments.proofs.OptionReads.{texts_given}
use Rattle.aes3_cli_arguments.proofs.SettingTexts.{joined, read, with_rate, without_rate}
use Rattle.aes3_cli_arguments.proofs.setting_texts.texts_for.Goals.{in-Some+in_ok-extend_from_slice-in-Some, in-None}
use Rattle.aes3_cli_arguments.proofs.setting_texts.texts_for.Goals as goal

pub returns : goal.returns
returns c =
    let options = options_of c.args.options.now in
    let first = texts_given c.args.options.now (codes "set") c.get_strs.result _ c.unwrap_or-both.result
    c.get_strs.ensures refl c.unwrap_or-both.ensures in
    let second = texts_given c.args.options.now c.args.name.now c.get_strs-2.result _ c.unwrap_or-own.result
    c.get_strs-2.ensures refl c.unwrap_or-own.ensures in
    let both = joined c.new-texts.result.items c.extend_from_slice.new.self.items
    c.extend_from_slice-2.new.self.items c.unwrap_or-both.result.now c.unwrap_or-own.result.now
    c.new-texts.ensures.items (search (rules, c.in_ok-extend_from_slice.ensures.items))
    (search (rules, c.in_ok-extend_from_slice-2.ensures.items)) in
    elim c.match-rate_setting.branch [
      | in-Some+in_ok-extend_from_slice-in-Some w ↦
          with_rate options c.args.name.now c.extend_from_slice-2.new.self.items c.unwrap_or-both.result.now
          c.unwrap_or-own.result.now c.match-rate_setting.texts.items _ w.in-Some.rate both first second (search)
          (sym w.in-Some.ensures)
          (ap (λ (v : Vec (Bor (List ℕ)) Global). v.items) w.texts-is ∙ w.in_ok-extend_from_slice-in-Some.ensures.items)
      | in-None w ↦
          ap (λ (v : Vec (Bor (List ℕ)) Global). read v.items) w.texts-is
          ∙ without_rate options c.args.name.now c.extend_from_slice-2.new.self.items c.unwrap_or-both.result.now
          c.unwrap_or-own.result.now both first second (sym w.in-None.ensures)
    ]
