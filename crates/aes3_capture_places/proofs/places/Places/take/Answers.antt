use Rattle.std.proofs.Common.{◌∙◌, ◌++◌, ap, IfSome, Option, arith, get_or, subst, sym}
use Rattle.std.proofs.lemmas.List.{get_or-set_same}
use Rattle.aes3_capture_recovery.specs.Levels.{levels_of_samples}
use Rattle.aes3_capture_recovery.proofs.Unfailing.{ok-unless}
use Rattle.aes3_capture_places.specs.Marks.{no_mark}
use Rattle.aes3_capture_places.specs.Placing.{IsMark}
use Rattle.aes3_capture_places.specs.declared.marks.Mark.{Mark}
use Rattle.aes3_capture_places.proofs.Marking.{counting, marks-set, marks-stay}
use Rattle.aes3_capture_places.proofs.places.Places.take.Goals as goal

pub returns-then-mark-saturating_add-clause-placed : goal.returns-then-mark-saturating_add-clause-placed
returns-then-mark-saturating_add-clause-placed c = λ bit known levels room placed.
    let more = levels_of_samples c.args.unit c.args.piece.now in
    let took = ok-unless c.feed.result c.feed.ensures.one_failure (c.feed.ensures.took bit) in
    let recovered = took.recovered (counting known) levels placed.recovered in
    let stay = marks-stay known levels more c.args.self.now.marks.kept placed.marks in
    let is = subst (λ (o : Option Mark). IfSome o (IsMark known (levels ++ more))) c.in-Some.is
    (c.mark.ensures.mark known (levels ++ more) room (record { recovered = recovered; marks = stay })) in
    record {
      recovered = recovered;
      marks = λ i few. subst (λ kept. IsMark known (levels ++ more) (get_or kept i no_mark)) (sym c.add.ensures.kept)
          (marks-set known (levels ++ more) c.args.self.now.marks.kept c.args.self.now.marks.next c.in-Some.mark
          (let at = c.args.self.now.marks.within in omega (arith, at)) is stay i few);
    }

pub returns-in_default-clause-placed : goal.returns-in_default-clause-placed
returns-in_default-clause-placed c = λ bit known levels room placed.
    let more = levels_of_samples c.args.unit c.args.piece.now in
    let took = ok-unless c.feed.result c.feed.ensures.one_failure (c.feed.ensures.took bit) in
    record {
      recovered = took.recovered (counting known) levels placed.recovered;
      marks = marks-stay known levels more c.args.self.now.marks.kept placed.marks;
    }

pub returns-else-mark-saturating_add-clause-placed : goal.returns-else-mark-saturating_add-clause-placed
returns-else-mark-saturating_add-clause-placed c = λ bit known levels room placed.
    let more = levels_of_samples c.args.unit c.args.piece.now in
    let took = ok-unless c.feed.result c.feed.ensures.one_failure (c.feed.ensures.took bit) in
    record {
      recovered = took.recovered (counting known) levels placed.recovered;
      marks = marks-stay known levels more c.args.self.now.marks.kept placed.marks;
    }

pub returns-in_default-clause-close : goal.returns-in_default-clause-close
returns-in_default-clause-close c = λ bit known levels placed kept.
    let took = ok-unless c.feed.result c.feed.ensures.one_failure (c.feed.ensures.took bit) in
    let seen = (took.recovered (counting known) levels placed.recovered).samples in
    record {
      kept = kept;
      close = λ found some few. let none = c.in_default.ensures.none found few in absurd (omega (arith, none, seen, some));
    }

pub returns-then-mark-saturating_add-clause-close : goal.returns-then-mark-saturating_add-clause-close
returns-then-mark-saturating_add-clause-close c = λ bit known levels placed kept.
    let was = c.args.self.now.marks in
    let within = was.within in
    record {
      kept = (
        was.next,
        within,
        ap (λ l. get_or l was.next no_mark) c.add.ensures.kept
            ∙ get_or-set_same was.kept was.next c.in-Some.mark no_mark (omega (arith, within)),
      );
      close = λ found some few. let e = c.in-Some.ensures.cells few in omega (arith, e);
    }
