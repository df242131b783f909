use Rattle.std.proofs.Common.{◌∙◌, codes}
use Rattle.std.proofs.lemmas.Result.{IfOk-weaker}
use Rattle.aes3_spoil_runs.proofs.Wrongs.{eight_joined}
use Rattle.aes3_spoil_runs.proofs.wrong.value_line.Goals as goal

pub returns : goal.returns
returns c =
    IfOk-weaker c.format.result _ _
    (λ line e. e ∙ eight_joined (codes "error: invalid value '") c.args.text.now (codes "' for '--") c.args.name.now
    (codes " <") c.args.value.now (codes ">': ") c.args.needed.now)
    c.format.ensures.ok
