use Rattle.aes3_cli.proofs.Numbers.{parsed, unparsed}
use Rattle.aes3_cli.proofs.number.number_of_text.Goals as goal

pub returns-in-Ok : goal.returns-in-Ok
returns-in-Ok c =
    parsed c.args.least c.args.most c.args.text.now c.in-Ok.number c.in-Ok.ensures.value.0 c.if-least-number.true
    c.if-number-most.true

pub returns-in_default-3 : goal.returns-in_default-3
returns-in_default-3 c = unparsed c.args.least c.args.most c.args.text.now c.in_default.ensures.value.0
