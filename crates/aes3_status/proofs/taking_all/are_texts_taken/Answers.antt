use Rattle.std.proofs.Common.{ap, ap₂, sym, arith, Bool, ◌&&◌, ◌≡◌, ◌∙◌}
use Rattle.std.specs.List.{list_all, range_with_len}
use Rattle.aes3_status.specs.TakingAll.{text_taken, texts_taken}
use Rattle.aes3_status.proofs.TakingAll.{all-more}
use Rattle.aes3_status.proofs.taking_all.are_texts_taken.Goals as goal

pub loop-text-preserved : goal.loop-text-preserved
loop-text-preserved c =
    ap₂ (λ (a b : Bool). a && b) c.loop-text.invariant c.is_text_taken-all.ensures
    ∙ sym (all-more (text_taken c.args.settings.now c.args.taken.now) c.loop-text.text)

pub returns : goal.returns
unfolding texts_taken
returns c =
    let e : c.loop-text.text ≡ 32 = omega arith in
    c.loop-text.invariant
    ∙ ap (λ k. list_all (text_taken c.args.settings.now c.args.taken.now) (range_with_len 0 k)) e
