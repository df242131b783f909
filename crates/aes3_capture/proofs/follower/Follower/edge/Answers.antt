use Rattle.std.proofs.Common.{arith, inl, inr, refl, ◌+◌, ◌-◌, ◌*◌, ◌≡◌, min}
use Rattle.aes3_capture.proofs.Edges.{decided, goes-on, one-told, none-told}
use Rattle.aes3_capture.proofs.follower.Follower.edge.Goals as goal
use Rattle.aes3_capture.proofs.follower.Follower.edge.Goals.{then-more, else-more}

pub returns-clause-line : goal.returns-clause-line
returns-clause-line c = λ same other before run given cells displaced follows is_run.
    let f = c.args.self.now in
    let left : c.min-self.result ≡ min (f.elapsed + f.same - c.if-more.told) (3 * f.bounds.low) =
    rw (← c.saturating_sub-other.ensures) c.min-self.ensures in
    elim c.if-more.branch [
      | then-more w ↦ elim (decided f same other before run given cells displaced f.shortest f.longest f.told follows
          is_run) [
            | inl t ↦ let no : ⊥ = omega (arith, t.early, w.if-more.true) in absurd no
            | inr t ↦ (
              one-told given (f.elapsed + f.other) (f.period + f.bounds.low) cells w.if-more.true t.number,
              goes-on f _ same other before run given cells displaced c.if-more.told f.shortest f.longest follows is_run
                  (omega (arith, t.since, w.told-is)) refl refl c.place_nearer-self.ensures.nearer left,
            )
          ]
      | else-more w ↦ elim (decided f same other before run given cells displaced f.shortest f.longest f.told follows
          is_run) [
            | inl t ↦ (
              none-told given (f.elapsed + f.other) (f.period + f.bounds.low) cells t.early t.number,
              goes-on f _ same other before run given cells displaced c.if-more.told f.shortest f.longest follows is_run
                  (omega (arith, t.since, w.told-is)) refl refl c.place_nearer-self.ensures.nearer left,
            )
            | inr t ↦ let no : ⊥ = omega (arith, t.late, w.if-more.false) in absurd no
          ]
    ]
