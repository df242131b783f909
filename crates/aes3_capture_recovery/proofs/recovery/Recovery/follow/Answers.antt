use Rattle.std.proofs.Common.{◌∙◌, refl, rules, subst, sym}
use Rattle.aes3_capture.specs.Following.{Counted}
use Rattle.aes3_capture_recovery.specs.declared.line_follower.LineFollower.{LineFollower}
use Rattle.aes3_capture_recovery.proofs.OnLine.{stays-noted}
use Rattle.aes3_capture_recovery.proofs.recovery.Recovery.follow.Goals as goal

pub returns-clause-told : goal.returns-clause-told
returns-clause-told g c = rw c.note.ensures.line (search (rules, c.in_ok-tell.ensures.told))

pub returns-clause-keeps : goal.returns-clause-keeps
returns-clause-keeps g c =
    let k = c.note.ensures.noted.keeps in
    record {
      found_is = k.found_is;
      known_is = k.known_is;
      count_is = k.count_is;
      runs_are = k.runs_are;
      samples_are = k.samples_are;
      measured_is = k.measured_is;
      edges_are = k.edges_are ∙ c.in_ok-tell.ensures.told.edges;
    }

pub returns-clause-stays : goal.returns-clause-stays
returns-clause-stays g c = λ is narrow spread ahead k.
    let old = c.args.self.now in
    let told = c.in_ok-tell.ensures.told in
    let kept = stays-noted old _ c.note.new.self c.args.run told.cells narrow spread ahead is
    (subst (λ (l : LineFollower). Counted old.line.follower c.args.run told.cells l.follower) (sym c.note.ensures.line) told.counted)
    c.note.ensures.noted refl refl refl k in
    search kept

pub returns-in_err-tell-clause-told : goal.returns-in_err-tell-clause-told
returns-in_err-tell-clause-told g c = search (rules, c.in_err-tell.ensures.told)

pub returns-in_err-tell-clause-keeps : goal.returns-in_err-tell-clause-keeps
returns-in_err-tell-clause-keeps g c = record {
  found_is = refl;
  known_is = refl;
  count_is = refl;
  runs_are = refl;
  samples_are = refl;
  measured_is = refl;
  edges_are = c.in_err-tell.ensures.told.edges;
}
