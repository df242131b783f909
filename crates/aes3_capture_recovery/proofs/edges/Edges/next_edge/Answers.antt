use Rattle.std.proofs.Common.{refl, ◌≡◌, ◌/◌, ◌-◌, ◌^◌, ◌∷◌, ◌++◌, replicate, subst, sym}
use Rattle.aes3_level.specs.declared.level.Level.{Level}
use Rattle.aes3_level.specs.Words.{low_cells}
use Rattle.aes3_capture_recovery.specs.Endings.{level_if}
use Rattle.aes3_capture_recovery.proofs.SameLevels.{split-levels, split-count, level-not}
use Rattle.aes3_capture_recovery.proofs.edges.Edges.next_edge.Goals as goal

pub returns-clause-edge : goal.returns-clause-edge
returns-clause-edge c =
    let p = c.args.piece.now in
    let e = c.args.self.now in
    let n = c.min-same.result in
    record {
      samples = n;
      run_is = c.saturating_add-run.ensures;
      count = split-count p.len n c.equal_levels.result c.min-same.ensures c.if-same-piece.false;
      levels = subst (λ (s : Level). low_cells p.len p.levels
          ≡ replicate n (level_if e.high) ++ s ∷ low_cells (p.len - n - 1) (p.levels / 2 ^ n / 2))
          (sym (level-not e.high))
          (split-levels p.levels p.len n c.equal_levels.result (level_if e.high) c.min-same.ensures
          c.if-same-piece.false c.equal_levels.ensures.most p.few c.equal_levels.ensures.equal
          c.equal_levels.ensures.next);
      turned = level-not e.high;
      next = refl;
    }
