use Rattle.std.proofs.Common.{[], ◌∷◌, Bor, List, ℕ, map, inr, refl}
use Rattle.std.proofs.lemmas.Result.{IfErr-weaker, IfOk-weaker}
use Rattle.aes3_cli_arguments.proofs.Explains.{behind_word, told_of, unasked}
use Rattle.aes3_cli_arguments.proofs.command_line.line_of_words.Goals as goal

pub returns-then-asks_to_explain-clause-fault : goal.returns-then-asks_to_explain-clause-fault
returns-then-asks_to_explain-clause-fault c =
    let words = map (λ (word : Bor (List ℕ)). word.now) c.args.words.now in
    told_of words _ c.explain.result (behind_word c.args.words.now c.if-asks_to_explain.ensures) c.explain.ensures

pub returns-in-Some-clause-fault : goal.returns-in-Some-clause-fault
returns-in-Some-clause-fault c =
    let words = map (λ (word : Bor (List ℕ)). word.now) c.args.words.now in
    told_of words (c.in-Some.number.now ∷ []) c.explain-in-Some.result
    (inr (c.in-Some.number.now, c.in-Some.ensures.some, refl)) c.explain-in-Some.ensures

pub returns-in-None-clause-job : goal.returns-in-None-clause-job
returns-in-None-clause-job c =
    let words = map (λ (word : Bor (List ℕ)). word.now) c.args.words.now in
    let nothing = unasked words c.if-asks_to_explain.ensures (c.in-None.ensures.none refl) in
    IfOk-weaker c.plain_line.result _ _ (λ line asks. (nothing, asks)) c.plain_line.ensures.job

pub returns-in-None-clause-fault : goal.returns-in-None-clause-fault
returns-in-None-clause-fault c =
    let words = map (λ (word : Bor (List ℕ)). word.now) c.args.words.now in
    let nothing = unasked words c.if-asks_to_explain.ensures (c.in-None.ensures.none refl) in
    IfErr-weaker c.plain_line.result _ _ (λ told fault. inr (nothing, fault)) c.plain_line.ensures.fault
