use Rattle.std.proofs.Common.{ap, ap₂, Bool, ◌&&◌, ◌||◌, not, ◌≡◌, ◌∙◌, [], ◌∷◌, rules}
use Rattle.aes3_status.specs.declared.taken.Taken.{Taken}
use Rattle.aes3_status.specs.Taken.{taken_by}
use Rattle.aes3_status.specs.TakingAll.{takes_all, texts_taken}
use Rattle.aes3_status.proofs.TakenKinds.{nothing-taken}
use Rattle.aes3_status.proofs.taking_all.takes_all.Goals as goal

pub returns : goal.returns
unfolding takes_all
returns c =
    let s = c.args.settings.now in
    let t : c.add.new.self ≡ taken_by s (c.args.status.now ∷ []) = c.add.ensures [] (nothing-taken s) in
    ap₂ (λ (a b : Bool). a && b) (c.are_texts_taken.ensures ∙ ap (texts_taken s) t)
    (ap₂ (λ (a b : Bool). a || not b) (ap (λ (k : Taken). k.wide) t) (search (rules, c.asks_wide.ensures)))
