use Rattle.std.proofs.Common.{drop, sym, ◌∙◌, arith}
use Rattle.aes3_cell.specs.Packed.{cells_of_octets}
use Rattle.aes3_c.proofs.TakenFronts.{quiet-more, quiet-none, quiet-took, took-more, took-quiet}
use Rattle.aes3_c.proofs.octet_calls.take_cells.Goals as goal

pub loop-taken-init : goal.loop-taken-init
loop-taken-init c = record {
  within = omega arith;
  quiet = quiet-none c.args.state.now (drop c.args.first (cells_of_octets c.args.octets.now));
}

-- some more cells tell nothing
pub loop-taken-preserved : goal.loop-taken-preserved
loop-taken-preserved c =
    let i = c.loop-taken.invariant in
    let more = c.take_some-more in
    let w = more.ensures.within in
    record {
      within = omega (arith, w);
      quiet = quiet-more c.args.state.now c.loop-taken.state more.new.state (cells_of_octets c.args.octets.now)
          c.args.first c.loop-taken.taken more.result.cells i.quiet
          (took-quiet c.loop-taken.state more.new.state _ _ more.result more.ensures.took
          (sym c.is_some.ensures ∙ c.if-is_some.false));
    }

-- or an ending
pub returns-then-is_some : goal.returns-then-is_some
returns-then-is_some c =
    let more = c.take_some-more in
    let w = more.ensures.within in
    took-more c.args.state.now c.loop-taken.state more.new.state (cells_of_octets c.args.octets.now) c.args.first
    c.loop-taken.taken _ c.args.len more.result c.loop-taken.invariant.quiet more.ensures.took more.ensures.some
    (omega (arith, w)) (sym c.is_some.ensures ∙ c.if-is_some.true)

pub returns : goal.returns
returns c =
    quiet-took c.args.state.now c.loop-taken.state _ c.loop-taken.taken c.args.len c.loop-taken.invariant.quiet
    (let w = c.loop-taken.invariant.within in omega (arith, w))
