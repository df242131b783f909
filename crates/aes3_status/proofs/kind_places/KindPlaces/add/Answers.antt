use Rattle.std.proofs.Common.{arith, rules}
use Rattle.aes3_status.proofs.FirstPlaces.{met-before, met-now}
use Rattle.aes3_status.proofs.kind_places.KindPlaces.add.Goals as goal

pub returns-in-Some : goal.returns-in-Some
returns-in-Some c = λ met status e h.
    search (
      rules,
      met-before c.args.self.now.first met c.args.bits status c.number_of-kind.result c.args.at (omega arith) e
          c.number_of-kind.ensures.value h c.in-Some.field-0 c.in-Some.is,
    )

pub returns-in-None : goal.returns-in-None
returns-in-None c = λ met status e h.
    met-now c.args.self.now.first met c.args.bits status c.number_of-kind.result c.args.at (omega arith) e
    c.number_of-kind.ensures.value h c.in-None.is
