use Rattle.std.proofs.Common.{List, [], ap, arith, refl, ◌∙◌, ◌≡◌, take, rules}
use Rattle.std.proofs.lemmas.List.{length-set, take_all}
use Rattle.aes3_status.specs.declared.field.Field.TheVariants.{Use}
use Rattle.aes3_status.specs.declared.setting.Setting.{Setting}
use Rattle.aes3_status.specs.Settings.{set_in_turn}
use Rattle.aes3_status.specs.Statuses.{is_professional}
use Rattle.aes3_status.proofs.TakenKinds.{taken-before, taken-behind, taken-more, turned}
use Rattle.aes3_status.proofs.taken.Taken.add.Goals as goal

pub loop-i-init : goal.loop-i-init
unfolding set_in_turn
loop-i-init c = record { long = omega arith; left = refl; before = λ k l. absurd (omega arith); behind = λ k l. refl; wide = refl }

pub loop-i-preserved : goal.loop-i-preserved
loop-i-preserved c =
    let none : Setting = record { field = Use; codes = [] } in
    let v = c.loop-i.invariant in
    let s = c.args.settings.now.codes in
    record {
      long = length-set c.loop-i.self.codes c.loop-i.i _ ∙ v.long;
      left = turned s c.args.status.now c.loop-i.left c.set_field.new.bytes c.loop-i.i none (omega arith) v.left
          c.set_field.ensures;
      before = search (
        rules,
        taken-before s c.args.status.now c.loop-i.left c.args.self.now.codes c.loop-i.self.codes
            c.loop-i.i none c.has_code.result (omega arith) (omega arith) v.left (search (rules, c.has_code.ensures))
            v.before v.behind,
      );
      behind = taken-behind c.args.self.now.codes c.loop-i.self.codes c.loop-i.i _ v.behind;
      wide = v.wide;
    }

pub returns : goal.returns
returns c = λ statuses e.
    let v = c.loop-i.invariant in
    let i : c.loop-i.i ≡ 64 = omega arith in
    let s = c.args.settings.now.codes in
    let all : take c.loop-i.i s ≡ s = take_all c.loop-i.i s (omega arith) in
    let told : c.is_for_professional_use.result ≡ is_professional (set_in_turn s c.args.status.now) =
    search (
      rules,
      c.is_for_professional_use.ensures,
      ap is_professional (v.left
          ∙ ap (λ (codes : List Setting). set_in_turn codes c.args.status.now) all),
    ) in
    taken-more c.args.settings.now statuses c.args.status.now c.args.self.now _ v.long (λ k l. v.before k (omega arith))
    (search (rules, v.wide, told)) e
