-- What a listener heard of cells, told of the taker that let it hear of them.
use Rattle.std.proofs.Common.{◌≡◌, ℕ, ◌+◌, ◌≤◌, ◌^◌, List, [], ◌∷◌, ◌++◌, Option, Some, None, Ok, Err, length}
use Rattle.std.proofs.Common.{length-append, append-nil, sym, ap, ◌∙◌, subst, arith}
use Rattle.aes3_level.specs.declared.level.Level.{Level}
use Rattle.aes3_cell.specs.declared.ends.Fault.{Fault}
use Rattle.aes3_cell.specs.Ends.{Grew, GrewFront}
use Rattle.aes3_lock.specs.declared.report.Ending.{Ending}
use Rattle.aes3_lock.specs.declared.report.Report.{Report}
use Rattle.aes3_lock.specs.declared.tally.Tally.{Tally}
use Rattle.aes3_lock.specs.Following.{Follows, HeldBlock, LockState, report_in}
use Rattle.aes3_lock.specs.Reports.{decided, reports}
use Rattle.aes3_lock.specs.Taking.{TookCells}
use Rattle.aes3_lock.specs.Tallies.{IsTallyOf}
use Rattle.aes3_input.specs.Forms.{CellsRan}
use Rattle.aes3_input.specs.Running.{Failed, Movement, Quiet}
use Rattle.aes3_input.specs.Taking.{TakerState, Writing, behind}
use Rattle.aes3_lock_runs.specs.Listening.{Heard, HeardEnd, reports_in}

-- a taker with a lock and a tally, whose listener follows the cells by g
abbrev pub state_by : LockState → Tally → Writing Level → (List Level → Type 0) → (List Level → Type 0)
    → TakerState Level
state_by k t w g z = record {
  writes = w;
  follows = λ c. Follows k c × IsTallyOf t (decided c) × g c;
  finished = λ c. IsTallyOf t (reports c) × z c;
}

-- the report that these cells decide, or that their end decides
pub told-one : {k : LockState} {n : ℕ} {ending : Option Ending} {e : Ending} {c d : List Level} → ending ≡ Some e
    → Heard k n ending c d → decided (c ++ d) ≡ decided c ++ report_in k e ∷ []
told-one {k} {c = c} is h = h.told ∙ ap (λ o. decided c ++ reports_in k o) is

pub told-none : {k : LockState} {n : ℕ} {ending : Option Ending} {c d : List Level} → ending ≡ None
    → Heard k n ending c d → decided (c ++ d) ≡ decided c
told-none {k} {c = c} is h = h.told ∙ ap (λ o. decided c ++ reports_in k o) is ∙ append-nil (decided c)

pub end-one : {k : LockState} {n : ℕ} {ending : Option Ending} {e : Ending} {c : List Level} → ending ≡ Some e
    → HeardEnd k n ending c → reports c ≡ decided c ++ report_in k e ∷ []
end-one {k} {c = c} is h = h.told ∙ ap (λ o. decided c ++ reports_in k o) is

pub end-none : {k : LockState} {n : ℕ} {ending : Option Ending} {c : List Level} → ending ≡ None
    → HeardEnd k n ending c → reports c ≡ decided c ++ []
end-none {k} {c = c} is h = h.told ∙ ap (λ o. decided c ++ reports_in k o) is

-- the end of the cells that a lock follows
pub heard-end : {k : LockState} {ending : Option Ending} (t : Tally)
    → ((c : List Level) → Follows k c → reports c ≡ decided c ++ reports_in k ending)
    → ((c : List Level) → Follows k c → HeldBlock k.words c ending)
    → (c : List Level) → Follows k c → IsTallyOf t (decided c) → HeardEnd k t.blocks ending c
heard-end t told held c f n = record { follows = f; told = told c f; held = held c f; blocks = n.blocks_is }

-- more cells that it took
module _ {k k' : LockState} {line rest : List Level} {ending : Option Ending} (took : TookCells k k' line rest ending)
  where
    pub heard : (t : Tally) (c : List Level) → Follows k c → IsTallyOf t (decided c)
        → Heard k' t.blocks ending c took.front
    heard t c f n = record {
      follows = took.follows c f;
      told = took.report c f;
      held = took.held c f;
      blocks = n.blocks_is;
    }

    pub few-seen : (c : List Level) → Follows k c → length c + length line ≤ 2 ^ 43 → k'.seen ≤ 2 ^ 43
    few-seen c f l =
        let s = f.seen in
        let n = took.seen in
        let p = ap length took.parts in
        let a = length-append took.front rest in
        omega (arith, s, n, p, a, l)

    pub heard-ok : (t t' : Tally) (w w' : Writing Level) (g g' z z' : List Level → Type 0) (sink : Movement)
        → ((r : List Report) → IsTallyOf t r → IsTallyOf t' (r ++ reports_in k' ending)) → w' ≡ w
        → ((c d : List Level) → Heard k' t.blocks ending c d → g c → g' (c ++ d))
        → ((c d : List Level) → Heard k' t.blocks ending c d → g c → Grew sink.old sink.new (behind w c d)) → Quiet sink
        → CellsRan (state_by k t w g z) (state_by k' t' w' g' z') took.front sink (Ok tt)
    heard-ok t t' w w' g g' z z' sink count same next grew quiet = (
      same,
      (λ c h. (
        took.follows c h.0,
        subst (IsTallyOf t') (sym (took.report c h.0)) (count (decided c) h.1),
        next c took.front (heard t c h.0 h.1) h.2,
      )),
      (λ c h. grew c took.front (heard t c h.0 h.1) h.2),
      quiet,
    )

    pub heard-err : (t : Tally) (w : Writing Level) (g z : List Level → Type 0) (new : TakerState Level) (sink : Movement)
        (x : Fault)
        → ((c d : List Level) → Heard k' t.blocks ending c d → g c → GrewFront sink.old sink.new (behind w c d))
        → Failed sink → CellsRan (state_by k t w g z) new took.front sink (Err x)
    heard-err t w g z new sink x front failed = (failed, (λ c h. front c took.front (heard t c h.0 h.1) h.2))
