-- What a recovery tells of samples, through their edges and to their end.
use Rattle.std.proofs.Common.{ℕ, zero, suc, List, [], ◌∷◌, ◌++◌, ◌≡◌, ◌≤◌, ◌<◌, ◌+◌, ◌/◌, ◌^◌, ◌-◌, ◌%◌, inl, inr}
use Rattle.std.proofs.Common.{Option, Some, Result, Ok, Err, Bool, true, false, IfOk, not, refl, sym, ap, ap₂, ◌∙◌}
use Rattle.std.proofs.Common.{subst, arith, append_assoc, append-nil, length, length-append, replicate, min, take}
use Rattle.std.proofs.lemmas.List.{length-replicate}
use Rattle.aes3_level.specs.declared.level.Level.{Level}
use Rattle.aes3_level.specs.declared.level.Level.TheVariants.{High}
use Rattle.aes3_level.specs.Cells.{line, other, after}
use Rattle.aes3_level.specs.Words.{level_of, low_cells}
use Rattle.aes3_level.proofs.Runs.{other-other}
use Rattle.aes3_capture.specs.declared.follower.Follower.{Follower}
use Rattle.aes3_capture.specs.Following.{Passed}
use Rattle.aes3_capture_recovery.specs.Endings.{finished, level_if}
use Rattle.aes3_capture_recovery.specs.Queues.{Finishes, Queued, waiting}
use Rattle.aes3_capture_recovery.specs.Runs.{EdgeCame, NoEdgeCame, levels_in}
use Rattle.aes3_capture_recovery.specs.Recovering.{AreEnded, AreRecovered, AreTold, Holds, IsFound}
use Rattle.aes3_capture_recovery.specs.Recovering.{Recounted, Recovered, Setting, StandsOn, Starts, first_cells, first_level}
use Rattle.aes3_capture_recovery.specs.Recovering.{runs_to_end, runs_waiting}
use Rattle.aes3_capture_recovery.specs.RecoverySteps.{Gave, KeepsTold}
use Rattle.aes3_capture_recovery.specs.Measuring.{IsAskedFor}
use Rattle.aes3_capture_recovery.specs.declared.edges.Piece.{Piece}
use Rattle.aes3_capture_recovery.specs.declared.recovery.Recovery.{Recovery}
use Rattle.aes3_capture_recovery.specs.declared.recovery.State.TheVariants.{Following, Measuring, Still}
use Rattle.aes3_capture_recovery.proofs.RunsToEnd.{end-same, end-edge, end-none}
use Rattle.aes3_capture_recovery.proofs.Telling.{none-given, told-gave, told-keeps}
use Rattle.aes3_capture_recovery.proofs.Followed.{queued-none}
use Rattle.aes3_capture_recovery.proofs.SameLevels.{level-not}
use Rattle.aes3_level.proofs.WordCells.{length-low_cells}
use Rattle.aes3_capture_recovery.specs.declared.edges.Edges.{Edges}
use Rattle.aes3_capture.proofs.Whole.{passed-none}

-- all that was told is as it was, and so is what it was told by
pub keeps-told : (old new : Recovery) → new.found ≡ old.found → new.known ≡ old.known → new.held ≡ old.held
    → new.count ≡ old.count → new.runs ≡ old.runs → new.figures.measured ≡ old.figures.measured
    → new.line.queue ≡ old.line.queue → new.line.follower ≡ old.line.follower → KeepsTold old new
keeps-told old new found known held count runs measured queue follower = record {
  found_is = found;
  known_is = known;
  held_is = held;
  count_is = count;
  runs_are = runs;
  measured_is = measured;
  queue_is = queue;
  follower_is = follower;
}

-- the same holds, whatever changed besides
pub holds-keeps : (told : Option (List ℕ)) (setting : Setting) (level : Level) (done : List ℕ) (past : ℕ)
    (old new : Recovery) → KeepsTold old new → new.state ≡ old.state → Holds told setting level done past old
    → Holds told setting level done past new
holds-keeps told setting level done past old new k state h = record {
  order = record {
    none_wait = λ other. k.count_is ∙ h.order.none_wait (λ m. other (state ∙ m));
    none_past = λ m. h.order.none_past (sym state ∙ m);
    followed = λ f. k.found_is ∙ h.order.followed (sym state ∙ f);
    none_followed = λ f. h.order.none_followed (sym state ∙ f);
  };
  told_is = told-keeps told setting level done past old new h.told_is k.found_is k.known_is k.held_is k.measured_is
      k.queue_is k.follower_is;
}

pub waits-keep : (old new : Recovery) → KeepsTold old new → runs_waiting new ≡ runs_waiting old
waits-keep old new k = rw (k.count_is, k.runs_are) refl

-- more samples to be taken
unfoldable pub recovered-more : (told : Option (List ℕ)) (setting : Setting) (sample : Level) (seen levels : List Level)
    (old new : Recovery) → KeepsTold old new → new.state ≡ old.state → new.line.edges ≡ old.line.edges
    → new.figures.samples ≡ min (old.figures.samples + length levels) (2 ^ 64 - 1)
    → Recovered told setting (sample ∷ seen) [] old
    → Recovered told setting ((sample ∷ seen) ++ levels) levels new
recovered-more told setting sample seen levels old new k state edges samples w =
    let s = w.stands in
    let was = w.samples in
    record {
      level = w.level;
      runs = w.runs;
      behind = w.behind;
      split = λ more.
          ap (runs_to_end (other w.level) 0) (append_assoc (sample ∷ seen) levels more) ∙ w.split (levels ++ more)
          ∙ ap (λ e. w.runs ++ runs_to_end (level_if e.high) w.behind (levels ++ more)) (sym edges);
      first = w.first;
      samples = let both = length-append (sample ∷ seen) levels in omega (arith, samples, was, both);
      short = rw edges w.short;
      stands = record {
        done = s.done;
        past = s.past;
        runs_are = ap (λ x. s.done ++ x) (waits-keep old new k) ∙ s.runs_are;
        samples_are = ap (λ e. s.past + e.run) edges ∙ s.samples_are;
        turns = ap (λ e. level_if e.high) edges ∙ s.turns;
        holds = holds-keeps told setting w.level s.done s.past old new k state s.holds;
      };
    }

-- two lists that are nothing joined
pub nothing : (xs ys : List ℕ) → xs ++ ys ≡ [] → (xs ≡ []) × (ys ≡ [])
nothing [] ys e = (refl, e)
nothing (x ∷ xs) ys e = cc

pub no-cells : (level : Level) (start : Follower) → first_cells level [] start ≡ []
no-cells level start =
    let most : start.bounds.low ≤ start.period = start.shortest in
    let least : 131072 ≤ start.bounds.low = start.bounds.least in
    ap (λ n. replicate n level) (let z : 0 / start.period ≡ 0 = grind arith in z)

-- where nothing came, the level before it is any
found-from : (told : Option (List ℕ)) (setting : Setting) (level u : Level) (now : Recovery)
    → (w : IsFound told setting level [] 0 now) → (counts : List ℕ) → w.before ≡ [] → w.behind ≡ []
    → w.counts ≡ counts → Recounted setting.known w.start [] counts w.at
    → Starts setting.known [] [] w.start → IsFound told setting u [] 0 now
found-from told setting level u now w (n ∷ counts) none none' is r st = absurd r
found-from told setting level u now w [] none none' is r st =
    let given = none-given w.at now.line.follower w.given w.passed in
    record {
      found_is = w.found_is;
      before = [];
      behind = [];
      runs_are = refl;
      start = w.start;
      at = w.at;
      starts = st;
      counts = [];
      counted = r;
      given = 0;
      passed = subst (λ n. Passed w.at 0 n now.line.follower) given w.passed;
      cells = subst (λ (x : List Level). Queued told setting.begun now.line.queue.form (waiting now.line.queue) x)
          (ap₂ (λ b c. first_cells level b w.start ++ (line (after level b) c ++ replicate w.given (other level)))
          none is
          ∙ ap (λ n. first_cells level [] w.start ++ replicate n (other level)) given
          ∙ ap (λ x. x ++ []) (no-cells level w.start) ∙ ap (λ x. x ++ []) (sym (no-cells u w.start)))
          w.cells;
    }

found-none : (told : Option (List ℕ)) (setting : Setting) (level u : Level) (now : Recovery)
    → IsFound told setting level [] 0 now → IsFound told setting u [] 0 now
found-none told setting level u now w =
    let none = nothing w.before w.behind w.runs_are in
    found-from told setting level u now w w.counts none.0 none.1 refl
    (subst (λ b. Recounted setting.known w.start b w.counts w.at) none.1 w.counted)
    (subst (λ b. Starts setting.known [] b w.start) none.1
    (subst (λ b. Starts setting.known b w.behind w.start) none.0 w.starts))

pub told-none : (told : Option (List ℕ)) (setting : Setting) (level u : Level) (now : Recovery)
    → AreTold told setting level [] 0 now → AreTold told setting u [] 0 now
told-none told setting level u now w = record {
  form_is = w.form_is;
  known_is = w.known_is;
  either = elim w.either [
    | inl x ↦ inl x
    | inr f ↦ inr (found-none told setting level u now f)
  ];
}

-- no run is behind nothing
pub only-one : (runs : List ℕ) (behind : ℕ) → 0 ∷ [] ≡ runs ++ behind ∷ [] → (runs ≡ []) × (behind ≡ 0)
only-one [] behind e = (refl, cc)
only-one (x ∷ []) behind e = cc
only-one (x ∷ y ∷ runs) behind e = cc

-- the first samples
unfoldable pub recovered-first : (told : Option (List ℕ)) (setting : Setting) (levels : List Level) (sample : Level)
    (old new : Recovery) → KeepsTold old new → new.state ≡ old.state
    → level_if new.line.edges.high ≡ sample → new.line.edges.run ≡ 0
    → new.figures.samples ≡ min (old.figures.samples + length levels) (2 ^ 64 - 1)
    → first_level levels ≡ sample → Recovered told setting [] [] old
    → Recovered told setting levels levels new
recovered-first told setting levels sample old new k state high run samples is w =
    let s = w.stands in
    let was = w.samples in
    let begun = w.split [] in
    let none = only-one w.runs w.behind
    (sym (end-none (other w.level) 0) ∙ begun
    ∙ ap (λ x. w.runs ++ x) (end-none (level_if old.line.edges.high) w.behind)) in
    let parts = nothing s.done (runs_waiting old) (s.runs_are ∙ none.0) in
    let sum = s.samples_are in
    let zero_behind : w.behind ≡ 0 = none.1 in
    let past : s.past ≡ 0 = omega (arith, sum, zero_behind) in
    let same : level_if new.line.edges.high ≡ other (other sample) = high ∙ sym (other-other sample) in
    let held : Holds told setting w.level [] 0 old
    = subst (λ p. Holds told setting w.level [] p old) past
    (subst (λ d. Holds told setting w.level d s.past old) parts.0 s.holds) in
    let kept = holds-keeps told setting w.level [] 0 old new k state held in
    record {
      level = other sample;
      runs = [];
      behind = 0;
      split = λ more. ap (λ x. runs_to_end x 0 (levels ++ more)) (sym same);
      first = other-other sample ∙ sym is;
      samples = omega (arith, samples, was);
      short = omega (arith, run);
      stands = record {
        done = [];
        past = 0;
        runs_are = waits-keep old new k ∙ parts.1;
        samples_are = omega (arith, run);
        turns = same;
        holds = record {
          order = kept.order;
          told_is = told-none told setting w.level (other sample) new kept.told_is;
        };
      };
    }

-- samples that come
unfoldable pub recovered-begins : (told : Option (List ℕ)) (setting : Setting) (seen levels : List Level) (old new : Recovery)
    → KeepsTold old new → new.state ≡ old.state
    → new.figures.samples ≡ min (old.figures.samples + length levels) (2 ^ 64 - 1)
    → (1 ≤ old.figures.samples → new.line ≡ old.line) → (length levels ≡ 0 → new.line ≡ old.line)
    → (old.figures.samples ≡ 0 → 1 ≤ length levels
    → (level_if new.line.edges.high ≡ first_level levels) × (new.line.edges.run ≡ 0))
    → Recovered told setting seen [] old → Recovered told setting (seen ++ levels) levels new
recovered-begins told setting [] [] old new k state samples same none begins w =
    let was = w.samples in
    let line = none refl in
    record {
      level = w.level;
      runs = w.runs;
      behind = w.behind;
      split = λ more. w.split more
          ∙ ap (λ f. w.runs ++ runs_to_end (level_if f.edges.high) w.behind more) (sym line);
      first = w.first;
      samples = omega (arith, samples, was);
      short = rw line w.short;
      stands = let s = w.stands in record {
        done = s.done;
        past = s.past;
        runs_are = ap (λ x. s.done ++ x) (waits-keep old new k) ∙ s.runs_are;
        samples_are = ap (λ f. s.past + f.edges.run) line ∙ s.samples_are;
        turns = ap (λ f. level_if f.edges.high) line ∙ s.turns;
        holds = holds-keeps told setting w.level s.done s.past old new k state s.holds;
      };
    }
recovered-begins told setting [] (l ∷ levels) old new k state samples same none begins w =
    let was = w.samples in
    let b = begins (omega (arith, was)) (omega arith) in
    recovered-first told setting (l ∷ levels) l old new k state b.0 b.1 samples refl w
recovered-begins told setting (l ∷ seen) levels old new k state samples same none begins w =
    let was = w.samples in
    recovered-more told setting l seen levels old new k state
    (ap (λ f. f.edges) (same (omega (arith, was)))) samples w

-- an edge that comes
unfoldable pub recovered-edge : (told told' : Option (List ℕ)) (setting : Setting) (seen : List Level) (piece left : Piece)
    (run : ℕ) (old mid new : Recovery) → piece.len ≤ 64 → EdgeCame old.line.edges piece run mid.line.edges left
    → KeepsTold old mid → mid.state ≡ old.state → new.line.edges ≡ mid.line.edges
    → new.figures.samples ≡ old.figures.samples
    → ((level : Level) (done : List ℕ) (past : ℕ) → Holds told setting level done past mid
    → level_if old.line.edges.high ≡ other (after level (done ++ runs_waiting mid))
    → StandsOn told' setting level ((done ++ runs_waiting mid) ++ (past + run) ∷ []) new.line.edges.run new)
    → Recovered told setting seen (levels_in piece) old → Recovered told' setting seen (levels_in left) new
recovered-edge told told' setting seen piece left run old mid new few e k state edges same edge w =
    let s = w.stands in
    let short = w.short in
    let sum = s.samples_are in
    let u = level_if old.line.edges.high in
    let t = level_if mid.line.edges.high in
    let waits : runs_waiting mid ≡ runs_waiting old = waits-keep old mid k in
    let runs : s.done ++ runs_waiting mid ≡ w.runs = ap (λ x. s.done ++ x) waits ∙ s.runs_are in
    let all : s.past + run ≡ w.behind + e.samples = omega (arith, few, short, e, sum) in
    let stood = edge w.level s.done s.past (holds-keeps told setting w.level s.done s.past old mid k state s.holds)
    (s.turns ∙ ap (λ x. other (after w.level x)) (sym runs)) in
    let one : new.line.edges.run ≡ 1 = ap (λ x. x.run) edges ∙ e.next in
    let is : (s.done ++ runs_waiting mid) ++ (s.past + run) ∷ [] ≡ w.runs ++ (w.behind + e.samples) ∷ []
    = ap₂ (λ x n. x ++ n ∷ []) runs all in
    record {
      level = w.level;
      runs = w.runs ++ (w.behind + e.samples) ∷ [];
      behind = 1;
      split = λ more.
          w.split more
          ∙ ap (λ x. w.runs ++ x)
          (ap (λ x. runs_to_end u w.behind (x ++ more))
          (e.levels ∙ ap (λ x. replicate e.samples u ++ x ∷ levels_in left) e.turned)
          ∙ ap (runs_to_end u w.behind) (append_assoc (replicate e.samples u) (other u ∷ levels_in left) more)
          ∙ end-same u w.behind e.samples (other u ∷ (levels_in left ++ more))
          ∙ end-edge u (w.behind + e.samples) (levels_in left ++ more))
          ∙ sym (append_assoc w.runs ((w.behind + e.samples) ∷ []) (runs_to_end (other u) 1 (levels_in left ++ more)))
          ∙ ap (λ x. (w.runs ++ (w.behind + e.samples) ∷ []) ++ runs_to_end x 1 (levels_in left ++ more))
          (sym e.turned ∙ ap (λ x. level_if x.high) (sym edges));
      first = w.first;
      samples = same ∙ w.samples;
      short = omega (arith, one);
      stands = subst (λ n. StandsOn told' setting w.level (w.runs ++ (w.behind + e.samples) ∷ []) n new) one
          (subst (λ x. StandsOn told' setting w.level x new.line.edges.run new) is stood);
    }

-- the end of a piece
unfoldable pub recovered-rest : (told told' : Option (List ℕ)) (setting : Setting) (seen : List Level) (piece : Piece)
    (old mid new : Recovery) → piece.len ≤ 64 → NoEdgeCame old.line.edges piece mid.line.edges
    → KeepsTold old mid → mid.state ≡ old.state → new.line.edges.high ≡ mid.line.edges.high
    → new.figures.samples ≡ old.figures.samples → new.line.edges.run < 2 ^ 31
    → ((level : Level) (runs : List ℕ) (behind : ℕ) → StandsOn told setting level runs behind mid
    → StandsOn told' setting level runs behind new)
    → Recovered told setting seen (levels_in piece) old → Recovered told' setting seen [] new
recovered-rest told told' setting seen piece old mid new few e k state high same few' rest w =
    let s = w.stands in
    let run_is = e.run_is in
    let short = w.short in
    let sum = s.samples_are in
    let u = level_if old.line.edges.high in
    let stood : StandsOn told setting w.level w.runs (w.behind + piece.len) mid = record {
      done = s.done;
      past = s.past;
      runs_are = ap (λ x. s.done ++ x) (waits-keep old mid k) ∙ s.runs_are;
      samples_are = omega (arith, few, short, run_is, sum);
      turns = ap level_if e.same ∙ s.turns;
      holds = holds-keeps told setting w.level s.done s.past old mid k state s.holds;
    } in
    record {
      level = w.level;
      runs = w.runs;
      behind = w.behind + piece.len;
      split = λ more.
          w.split more
          ∙ ap (λ x. w.runs ++ x)
          (ap (λ x. runs_to_end u w.behind (x ++ more)) e.levels ∙ end-same u w.behind piece.len more
          ∙ ap (λ x. runs_to_end x (w.behind + piece.len) more) (sym (ap level_if (high ∙ e.same))));
      first = w.first;
      samples = same ∙ w.samples;
      short = few';
      stands = rest w.level w.runs (w.behind + piece.len) stood;
    }

-- samples of the level that the line has, behind others
unfoldable pub recovered-level : (told told' : Option (List ℕ)) (setting : Setting) (seen : List Level) (n : ℕ)
    (old mid new : Recovery) → 1 ≤ old.figures.samples → n ≤ 4096
    → mid.line.edges.high ≡ old.line.edges.high → mid.line.edges.run ≡ min (old.line.edges.run + n) (2 ^ 32 - 1)
    → KeepsTold old mid → mid.state ≡ old.state → new.line.edges.high ≡ mid.line.edges.high
    → new.figures.samples ≡ min (old.figures.samples + n) (2 ^ 64 - 1) → new.line.edges.run < 2 ^ 31
    → ((level : Level) (runs : List ℕ) (behind : ℕ) → StandsOn told setting level runs behind mid
    → StandsOn told' setting level runs behind new)
    → Recovered told setting seen [] old
    → Recovered told' setting (seen ++ replicate n (level_if old.line.edges.high)) [] new
recovered-level told told' setting [] n old mid new some few same run k state high samples short rest w =
    let was = w.samples in
    absurd (omega (arith, some, was))
recovered-level told told' setting (x ∷ seen) n old mid new some few same run k state high samples short rest w =
    let s = w.stands in
    let sum = s.samples_are in
    let u : Level = level_if old.line.edges.high in
    let stood : StandsOn told setting w.level w.runs (w.behind + n) mid = record {
      done = s.done;
      past = s.past;
      runs_are = ap (λ x. s.done ++ x) (waits-keep old mid k) ∙ s.runs_are;
      samples_are = omega (arith, few, w, run, sum);
      turns = ap level_if same ∙ s.turns;
      holds = holds-keeps told setting w.level s.done s.past old mid k state s.holds;
    } in
    record {
      level = w.level;
      runs = w.runs;
      behind = w.behind + n;
      split = λ more.
          ap (runs_to_end (other w.level) 0) (append_assoc (x ∷ seen) (replicate n u) more)
          ∙ w.split (replicate n u ++ more)
          ∙ ap (λ l. w.runs ++ l)
          (end-same u w.behind n more ∙ ap (λ l. runs_to_end l (w.behind + n) more) (sym (ap level_if (high ∙ same))));
      first = w.first;
      samples = let both = length-append (x ∷ seen) (replicate n u) in
          let many = length-replicate n u in omega (arith, samples, w, both, many);
      short = short;
      stands = rest w.level w.runs (w.behind + n) stood;
    }

pub recovered-level-ok : {R E : Type 0} (told told' : Option (List ℕ)) (setting : Setting) (seen : List Level) (n : ℕ)
    (old mid new : Recovery) (r : Result R E) → 1 ≤ old.figures.samples → n ≤ 4096
    → mid.line.edges.high ≡ old.line.edges.high → mid.line.edges.run ≡ min (old.line.edges.run + n) (2 ^ 32 - 1)
    → KeepsTold old mid → mid.state ≡ old.state → new.line.edges.high ≡ mid.line.edges.high
    → new.figures.samples ≡ min (old.figures.samples + n) (2 ^ 64 - 1) → IfOk r (λ x. new.line.edges.run < 2 ^ 31)
    → ((level : Level) (runs : List ℕ) (behind : ℕ) → StandsOn told setting level runs behind mid
    → IfOk r (λ x. StandsOn told' setting level runs behind new))
    → Recovered told setting seen [] old
    → IfOk r (λ x. Recovered told' setting (seen ++ replicate n (level_if old.line.edges.high)) [] new)
recovered-level-ok told told' setting seen n old mid new (Err e) some few same run k state high samples short rest w = tt
recovered-level-ok told told' setting seen n old mid new (Ok v) some few same run k state high samples short rest w =
    recovered-level told told' setting seen n old mid new some few same run k state high samples short rest w

-- what was told at the end
pub ended-told : (told : Option (List ℕ)) (setting : Setting) (level : Level) (done : List ℕ) (now : Recovery)
    → AreTold told setting level done 0 now
    → (cells : List Level) × AreEnded setting.known level done cells now
    × Queued told setting.begun now.line.queue.form (waiting now.line.queue) cells
ended-told told setting level done now w = elim w.either [
  | inl u ↦ ([], inl (refl, u.found_is, u.none), u.cells)
  | inr f ↦
      let front = first_cells level f.before f.start in
      let cells = line (after level f.before) f.counts in
      let given = none-given f.at now.line.follower f.given f.passed in (
        front ++ cells,
        inr (record {
          before = f.before;
          behind = f.behind;
          runs_are = f.runs_are;
          start = f.start;
          last = f.at;
          starts = f.starts;
          counts = f.counts;
          counted = f.counted;
          cells_are = refl;
        }),
        subst (λ (x : List Level). Queued told setting.begun now.line.queue.form (waiting now.line.queue) x)
            (ap (λ n. front ++ (cells ++ replicate n (other (after level done)))) given
            ∙ ap (λ x. front ++ x) (append-nil cells)) f.cells,
      )
]

-- the runs of all samples, and what is recovered of them
pub ended-recovered : (told : Option (List ℕ)) (setting : Setting) (seen : List Level) (old new : Recovery)
    (cells : List Level) → (w : Recovered told setting seen [] old)
    → AreEnded setting.known w.level (w.runs ++ w.behind ∷ []) cells new → AreRecovered setting.known seen cells new
ended-recovered told setting seen old new cells w e =
    let first : w.level ≡ other (first_level seen) = sym (other-other w.level) ∙ ap other w.first in
    let runs : w.runs ++ w.behind ∷ [] ≡ runs_to_end (first_level seen) 0 seen
    = ap (λ x. w.runs ++ x) (sym (end-none (level_if old.line.edges.high) w.behind)) ∙ sym (w.split [])
    ∙ ap₂ (λ x y. runs_to_end x 0 y) w.first (append-nil seen) in
    subst (λ x. AreEnded setting.known (other (first_level seen)) x cells new) runs
    (subst (λ x. AreEnded setting.known x (w.runs ++ w.behind ∷ []) cells new) first e)

-- words passed on
unfoldable pub recovered-gave : {A : Type 0} {taken : A → Option (List ℕ)} (setting : Setting) (seen : List Level)
    (old new : Recovery) (a b : A) → Gave taken old.line new.line a b [] → new.line.edges ≡ old.line.edges
    → new.line.follower ≡ old.line.follower → new.found ≡ old.found → new.known ≡ old.known → new.held ≡ old.held
    → new.figures ≡ old.figures → new.runs ≡ old.runs → new.count ≡ old.count → new.state ≡ old.state
    → Recovered (taken a) setting seen [] old → Recovered (taken b) setting seen [] new
recovered-gave {taken = taken} setting seen old new a b gave edges follower found known held figures runs count
    state w =
    let s = w.stands in
    let waits : runs_waiting new ≡ runs_waiting old = ap₂ take count runs in
    record {
      level = w.level;
      runs = w.runs;
      behind = w.behind;
      split = λ more. w.split more ∙ ap (λ e. w.runs ++ runs_to_end (level_if e.high) w.behind more) (sym edges);
      first = w.first;
      samples = ap (λ f. f.samples) figures ∙ w.samples;
      short = rw edges w.short;
      stands = record {
        done = s.done;
        past = s.past;
        runs_are = ap (λ x. s.done ++ x) waits ∙ s.runs_are;
        samples_are = ap (λ e. s.past + e.run) edges ∙ s.samples_are;
        turns = ap (λ e. level_if e.high) edges ∙ s.turns;
        holds = record {
          order = record {
            none_wait = λ other. count ∙ s.holds.order.none_wait (λ m. other (state ∙ m));
            none_past = λ m. s.holds.order.none_past (sym state ∙ m);
            followed = λ f. found ∙ s.holds.order.followed (sym state ∙ f);
            none_followed = λ f. s.holds.order.none_followed (sym state ∙ f);
          };
          told_is = told-gave old new a b setting w.level s.done s.past gave s.holds.told_is found known held
              (ap (λ f. f.measured) figures) follower;
        };
      };
    }

pub told-new : (setting : Setting) (found : Bool) (now : Recovery) → now.found ≡ found
    → waiting now.line.queue ≡ [] → now.line.queue.form ≡ setting.form → now.known ≡ setting.known
    → now.held ≡ 0 → now.figures.measured ≡ 0 → (found ≡ true → IsAskedFor setting.known now.line.follower)
    → AreTold (Some setting.begun) setting High [] 0 now
told-new setting false now is none form known held measured asked = record {
  form_is = form;
  known_is = known;
  either = inl (record {
    found_is = is;
    none = measured;
    held = omega (arith, held);
    cells = queued-none setting.begun now.line none;
  });
}
told-new setting true now is none form known held measured asked = record {
  form_is = form;
  known_is = known;
  either = inr (record {
    found_is = is;
    before = [];
    behind = [];
    runs_are = refl;
    start = now.line.follower;
    at = now.line.follower;
    starts = inl (refl, asked refl);
    counts = [];
    counted = refl;
    given = 0;
    passed = passed-none now.line.follower;
    cells = subst (λ (x : List Level).
        Queued (Some setting.begun) setting.begun now.line.queue.form (waiting now.line.queue) x)
        (ap (λ x. x ++ []) (sym (no-cells High now.line.follower))) (queued-none setting.begun now.line none);
  });
}

-- where nothing came
unfoldable pub recovered-new : (setting : Setting) (now : Recovery) → now.line.edges.high ≡ false → now.line.edges.run ≡ 0
    → waiting now.line.queue ≡ [] → now.line.queue.form ≡ setting.form → now.known ≡ setting.known
    → now.held ≡ 0 → now.figures.samples ≡ 0 → now.figures.measured ≡ 0 → now.count ≡ 0 → now.state ≡ Still
    → (now.found ≡ true → IsAskedFor setting.known now.line.follower)
    → Recovered (Some setting.begun) setting [] [] now
recovered-new setting now high run none form known held samples measured count state asked = record {
  level = High;
  runs = [];
  behind = 0;
  split = λ more. ap (λ b. runs_to_end (level_if b) 0 more) (sym high);
  first = refl;
  samples = omega (arith, samples);
  short = omega (arith, run);
  stands = record {
    done = [];
    past = 0;
    runs_are = let nothing : runs_waiting now ≡ [] = rw count refl in nothing;
    samples_are = omega (arith, run);
    turns = ap level_if high;
    holds = record {
      order = record {
        none_wait = λ other. count;
        none_past = λ m. absurd (differ (sym state ∙ m));
        followed = λ f. absurd (unlike (sym state ∙ f));
        none_followed = λ f. absurd (unlike (sym state ∙ f));
      };
      told_is = told-new setting now.found now refl none form known held measured asked;
    };
  };
}
  where
    differ : Still ≡ Measuring → ⊥
    differ e = cc

    unlike : Still ≡ Following → ⊥
    unlike e = cc

-- the end of what was told
pub ended-ok : {A R E S F : Type 0} {taken : A → Option (List ℕ)} (setting : Setting) (level : Level) (done : List ℕ)
    (now : Recovery) (b d : A) (v : R) (told : Option (List ℕ)) (r : Result S F)
    → AreTold (taken b) setting level done 0 now → Finishes {R = R} {E = E} taken now.line.queue b d (Ok v)
    → told ≡ taken d
    → IfOk r (λ x. (cells : List Level) × AreEnded setting.known level done cells now
    × (told ≡ Some (setting.begun ++ finished setting.form cells)))
ended-ok {taken = taken} setting level done now b d v told (Err e) w f same = tt
ended-ok {taken = taken} setting level done now b d v told (Ok x) w f same =
    let end = ended-told (taken b) setting level done now w in (
      end.0,
      end.1,
      same ∙ f.cells setting.begun end.0 end.2
          ∙ ap (λ form. Some (setting.begun ++ finished form end.0)) w.form_is,
    )

pub ended-recovered-ok : {R E : Type 0} (told : Option (List ℕ)) (setting : Setting) (seen : List Level)
    (old new : Recovery) (told' : Option (List ℕ)) (r : Result R E) (w : Recovered told setting seen [] old) (n : ℕ)
    → n ≡ w.behind
    → IfOk r (λ x. (cells : List Level) × AreEnded setting.known w.level (w.runs ++ n ∷ []) cells new
    × (told' ≡ Some (setting.begun ++ finished setting.form cells)))
    → IfOk r (λ x. (cells : List Level) × AreRecovered setting.known seen cells new
    × (told' ≡ Some (setting.begun ++ finished setting.form cells)))
ended-recovered-ok told setting seen old new told' (Err e) w n is p = tt
ended-recovered-ok told setting seen old new told' (Ok v) w n is p = (
  p.0,
  ended-recovered told setting seen old new p.0 w
      (subst (λ m. AreEnded setting.known w.level (w.runs ++ m ∷ []) p.0 new) is p.1),
  p.2,
)

-- the first level of samples that come in a word
pub first-of-word : (len levels : ℕ) → 1 ≤ len → first_level (low_cells len levels) ≡ level_of (levels % 2)
first-of-word zero levels some = absurd (omega (arith, some))
first-of-word (suc len) levels some = refl

unfoldable pub recovered-word : (told : Option (List ℕ)) (setting : Setting) (seen : List Level) (len levels : ℕ)
    (old new : Recovery) → KeepsTold old new → new.state ≡ old.state
    → new.figures.samples ≡ min (old.figures.samples + len) (2 ^ 64 - 1)
    → (1 ≤ old.figures.samples → new.line ≡ old.line) → (len ≡ 0 → new.line ≡ old.line)
    → (old.figures.samples ≡ 0 → 1 ≤ len
    → (level_if new.line.edges.high ≡ level_of (levels % 2)) × (new.line.edges.run ≡ 0))
    → Recovered told setting seen [] old
    → Recovered told setting (seen ++ low_cells len levels) (low_cells len levels) new
recovered-word told setting seen len levels old new k state samples same none begins w =
    let many : length (low_cells len levels) ≡ len = length-low_cells len levels in
    recovered-begins told setting seen (low_cells len levels) old new k state (omega (arith, many, samples)) same
    (λ e. none (sym many ∙ e))
    (λ zero_seen some.
    let some_len : 1 ≤ len = omega (arith, many, some) in
    let b = begins zero_seen some_len in
    (b.0 ∙ sym (first-of-word len levels some_len), b.1))
    w

pub recovered-rest-ok : {R E : Type 0} (told told' : Option (List ℕ)) (setting : Setting) (seen : List Level)
    (piece : Piece) (old mid new : Recovery) (r : Result R E) → piece.len ≤ 64
    → NoEdgeCame old.line.edges piece mid.line.edges → KeepsTold old mid → mid.state ≡ old.state
    → new.line.edges.high ≡ mid.line.edges.high → new.figures.samples ≡ old.figures.samples
    → IfOk r (λ x. new.line.edges.run < 2 ^ 31)
    → ((level : Level) (runs : List ℕ) (behind : ℕ) → StandsOn told setting level runs behind mid
    → IfOk r (λ x. StandsOn told' setting level runs behind new))
    → Recovered told setting seen (levels_in piece) old → IfOk r (λ x. Recovered told' setting seen [] new)
recovered-rest-ok told told' setting seen piece old mid new (Err e) few none k state high same short rest w = tt
recovered-rest-ok told told' setting seen piece old mid new (Ok v) few none k state high same short rest w =
    recovered-rest told told' setting seen piece old mid new few none k state high same short rest w

-- an edge turns the level, and the run that it ended had the level that was
pub turned-ended : (old mid : Edges) (piece left : Piece) (run : ℕ) (high : Bool) → EdgeCame old piece run mid left
    → high ≡ not mid.high → (level_if high ≡ level_if old.high) × (level_if mid.high ≡ other (level_if high))
turned-ended old mid piece left run high e is =
    let ended : level_if high ≡ level_if old.high
    = ap level_if is ∙ level-not mid.high ∙ ap other e.turned ∙ other-other (level_if old.high) in
    (ended, e.turned ∙ ap other (sym ended))
