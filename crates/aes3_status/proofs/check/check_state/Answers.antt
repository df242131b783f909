use Rattle.std.proofs.Common.{sym, rules}
use Rattle.aes3_status.proofs.CheckBytes.{state-good, state-absent, state-bad}
use Rattle.aes3_status.proofs.Flips.{one-flip-state, two-flips-state}
use Rattle.aes3_status.proofs.check.check_state.Goals as goal

pub returns-then-sent-check_byte-clause-state : goal.returns-then-sent-check_byte-clause-state
returns-then-sent-check_byte-clause-state c =
    sym (state-good c.args.bytes.now c.check_byte.result c.told-bytes c.check_byte.ensures.holds
    c.if-sent-check_byte.true)

pub returns-then-sent-check_byte-clause-one_flip : goal.returns-then-sent-check_byte-clause-one_flip
returns-then-sent-check_byte-clause-one_flip c = λ before was flipped same.
    one-flip-state before c.args.bytes.now c.told-bytes was flipped
    (state-good c.args.bytes.now c.check_byte.result c.told-bytes c.check_byte.ensures.holds c.if-sent-check_byte.true)

pub returns-then-sent-check_byte-clause-two_flips : goal.returns-then-sent-check_byte-clause-two_flips
returns-then-sent-check_byte-clause-two_flips c = λ before was flipped same.
    two-flips-state before c.args.bytes.now c.told-bytes was flipped
    (state-good c.args.bytes.now c.check_byte.result c.told-bytes c.check_byte.ensures.holds c.if-sent-check_byte.true)

pub returns-then-sent-eq0-clause-state : goal.returns-then-sent-eq0-clause-state
returns-then-sent-eq0-clause-state c =
    search (
      rules,
      sym (state-absent c.args.bytes.now c.check_byte.result c.told-bytes c.check_byte.ensures.only
          (c.fits-bytes 23) c.if-sent-check_byte.false c.if-sent-eq0.true),
    )

pub returns-else-sent-eq0-clause-state : goal.returns-else-sent-eq0-clause-state
returns-else-sent-eq0-clause-state c =
    sym (state-bad c.args.bytes.now c.check_byte.result c.told-bytes c.check_byte.ensures.only
    (c.fits-bytes 23) c.if-sent-check_byte.false c.if-sent-eq0.false)
