use Rattle.std.proofs.Common.{refl, sym, ap, ◌∙◌, ◌≡◌, ◌≤◌, arith, take, length, subst, List, ℕ, Option, replicate, min}
use Rattle.std.proofs.Common.{◌*◌, ◌/◌, ◌-◌, ◌^◌}
use Rattle.aes3_capture.specs.declared.follower.Follower.{Follower}
use Rattle.aes3_capture_recovery.specs.Beginning.{IsFoundIn}
use Rattle.aes3_capture_recovery.specs.Measuring.{IsMeasured}
use Rattle.std.proofs.lemmas.List.{length-take-le}
use Rattle.aes3_level.specs.Cells.{after, other}
use Rattle.aes3_level.proofs.Runs.{after-append}
use Rattle.aes3_capture_recovery.specs.Endings.{level_if}
use Rattle.aes3_capture_recovery.specs.RecoverySteps.{Gave, RunsTold}
use Rattle.aes3_capture_recovery.proofs.Beginning.{told-begun}
use Rattle.aes3_capture_recovery.proofs.States.{measuring-apart}
use Rattle.aes3_capture_recovery.proofs.Telling.{ok-map, told-all, told-keeps, told-measured}
use Rattle.aes3_capture_recovery.proofs.recovery.Recovery.decide.Goals as goal

pub returns-in-None-clause-told : goal.returns-in-None-clause-told
returns-in-None-clause-told g c = λ setting level done many w turns.
    let old = c.args.self.now in
    let runs = take c.args.count old.runs in
    let new = c.release.new.self in
    let k = c.release.ensures.keeps in
    ok-map c.release.result _ _
    (λ t. told-all _ new c.args.sink.now c.release.new.sink setting level done 0 runs
    (told-keeps (g.T.Sink.taken c.args.sink.now) setting level done 0 old _ w refl refl refl refl refl refl)
    (λ some. refl) t k.found_is k.known_is k.measured_is)
    (c.release.ensures.told (after level done) (turns ∙ ap other (after-append level done runs)))

pub returns-in_ok-begin-in-Some-clause-told : goal.returns-in_ok-begin-in-Some-clause-told
returns-in_ok-begin-in-Some-clause-told g c = λ setting level done many w turns.
    let old = c.args.self.now in
    let runs = take c.args.count old.runs in
    let mid = c.begin.new.self in
    let new = c.release-in-Some.new.self in
    let k = c.release-in-Some.ensures.keeps in
    let begun = c.begin.ensures in
    let u = after level done in
    let within = c.requires.within in
    let turned : level_if old.line.edges.high ≡ other (after u runs) =
    turns ∙ ap other (after-append level done runs) in
    let long : 128 ≤ length runs
    = let all = length-take-le c.args.count old.runs (omega (arith, within)) in omega (arith, all, many) in
    ok-map c.release-in-Some.result _ _
    (λ t. told-measured old mid new c.args.sink.now c.begin.new.sink c.release-in-Some.new.sink setting level done runs
    w long c.in_ok-begin-in-Some.ensures.again
    (λ f. subst (λ (x : Follower). Gave g.T.Sink.taken old.line mid.line c.args.sink.now c.begin.new.sink
    (replicate (min (65536 * old.held) (2 ^ 64 - 1) / x.period) u)) (sym begun.follower)
    (c.in_ok-begin-in-Some.ensures.first u f turned))
    begun.found (subst (λ (l : List ℕ). RunsTold g.T.Sink.taken mid new c.begin.new.sink c.release-in-Some.new.sink u
    (take c.args.count l)) begun.runs t) k.found_is (k.known_is ∙ begun.known)
    (subst (λ (x : Follower). IsMeasured setting.known runs x) (sym begun.follower)
    (subst (λ (k : Option ℕ). IsMeasured k runs c.in-Some.follower) w.known_is c.in-Some.ensures.measured)))
    (c.release-in-Some.ensures.told u
    (subst (λ (l : List ℕ). level_if mid.line.edges.high ≡ other (after u (take c.args.count l)))
    (sym begun.runs) (ap (λ e. level_if e.high) begun.edges ∙ turned)))

pub returns-in-None-clause-begins : goal.returns-in-None-clause-begins
returns-in-None-clause-begins g c = λ none was is many setting level done w turns.
    absurd (measuring-apart c.args.self.now.state was (sym c.release.ensures.state ∙ is))

pub returns-in_ok-begin-in-Some-clause-begins : goal.returns-in_ok-begin-in-Some-clause-begins
returns-in_ok-begin-in-Some-clause-begins g c = λ none was is many setting level done w turns.
    let old = c.args.self.now in
    let runs = take c.args.count old.runs in
    let mid = c.begin.new.self in
    let new = c.release-in-Some.new.self in
    let begun = c.begin.ensures in
    let u = after level done in
    let within = c.requires.within in
    let long : length runs ≡ 256
    = let all = length-take-le c.args.count old.runs (omega (arith, within)) in omega (arith, all, many) in
    let turned : level_if old.line.edges.high ≡ other (after u runs) =
    turns ∙ ap other (after-append level done runs) in
    ok-map c.release-in-Some.result _ _
    (λ t. told-begun old mid new c.args.sink.now c.begin.new.sink c.release-in-Some.new.sink setting level done runs
    w none
    (subst (λ (x : Follower). Gave g.T.Sink.taken old.line mid.line c.args.sink.now c.begin.new.sink
    (replicate (min (65536 * old.held) (2 ^ 64 - 1) / x.period) u)) (sym begun.follower)
    (c.in_ok-begin-in-Some.ensures.first u none turned))
    begun.found (subst (λ (l : List ℕ). RunsTold g.T.Sink.taken mid new c.begin.new.sink c.release-in-Some.new.sink u
    (take c.args.count l)) begun.runs t)
    (subst (λ (x : Follower). IsFoundIn setting.known runs x) (sym begun.follower)
    (subst (λ (k : Option ℕ). IsFoundIn k runs c.in-Some.follower) w.known_is (record {
      many = long;
      measured = c.in-Some.ensures.measured;
      found = λ narrow spread late later place side places cells a allows.
          c.in-Some.ensures.found narrow spread late later place side places cells a allows;
    }))) (c.release-in-Some.ensures.distance ∙ begun.fresh))
    (c.release-in-Some.ensures.told u
    (subst (λ (l : List ℕ). level_if mid.line.edges.high ≡ other (after u (take c.args.count l)))
    (sym begun.runs) (ap (λ e. level_if e.high) begun.edges ∙ turned)))

pub returns-in-None-clause-starts : goal.returns-in-None-clause-starts
returns-in-None-clause-starts g c = λ none f.
    absurd (c.in-None.ensures.found f.narrow f.spread f.late f.later f.place f.side f.places f.cells f.captured f.allows)
