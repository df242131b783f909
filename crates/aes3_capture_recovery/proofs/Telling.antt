-- Runs told one behind the other, whichever follower counts them.
use Rattle.std.proofs.Common.{ℕ, zero, suc, List, [], ◌∷◌, ◌++◌, ◌≡◌, ◌≤◌, ◌<◌, ◌+◌, ◌*◌, ◌/◌, ◌^◌, ◌-◌, ◌%◌, ◌⊎◌, inl}
use Rattle.std.proofs.Common.{inr, Option, Result, Ok, Err, Bool, true, false, IfOk, refl, sym, ap, ap₂, ◌∙◌, subst}
use Rattle.std.proofs.Common.{arith, append_assoc, append-nil, length, replicate, min, take, get_or}
use Rattle.std.proofs.lemmas.List.{replicate-append-replicate, take_more}
use Rattle.aes3_level.specs.declared.level.Level.{Level}
use Rattle.aes3_level.specs.Cells.{line, other, after}
use Rattle.aes3_level.proofs.Runs.{after-append, line-append, other-other}
use Rattle.aes3_capture.specs.declared.follower.Follower.{Follower}
use Rattle.aes3_capture.specs.Following.{Passed, CountedAll}
use Rattle.aes3_capture.proofs.Whole.{passed-more, counted-rest, passed-none}
use Rattle.aes3_capture_recovery.specs.Endings.{level_if}
use Rattle.aes3_capture_recovery.specs.Queues.{Queued, Puts, waiting}
use Rattle.aes3_capture_recovery.specs.LineFollowing.{SomeTold, RunTold as LineTold}
use Rattle.aes3_capture_recovery.specs.Recovering.{AreTold, IsFound, IsMeasuredFrom, IsUnfound, Recounted, Setting, Starts}
use Rattle.aes3_capture_recovery.specs.Recovering.{IsInOrder, StandsOn, first_cells, runs_waiting, samples_of}
use Rattle.aes3_capture_recovery.specs.declared.recovery.State.{State}
use Rattle.aes3_capture_recovery.specs.declared.recovery.State.TheVariants.{Still, Measuring, Following}
use Rattle.aes3_capture_recovery.specs.RecoverySteps.{Gave, KeepsRuns, RunsTold, SamplesHeld}
use Rattle.aes3_capture_recovery.specs.declared.line_follower.LineFollower.{LineFollower}
use Rattle.aes3_capture_recovery.specs.declared.recovery.Recovery.{Recovery}
use Rattle.aes3_capture_recovery.proofs.RunsBehind.{cells-told}
use Rattle.aes3_capture_recovery.proofs.Followed.{queued-more}
use Rattle.aes3_capture_recovery.specs.Measuring.{IsMeasured}
use Rattle.aes3_capture_recovery.proofs.Steady.{counted-append}
use Rattle.aes3_capture_recovery.proofs.RunsToEnd.{after-as-many, after-more}

pub samples-append : (xs ys : List ℕ) → samples_of (xs ++ ys) ≡ samples_of xs + samples_of ys
samples-append [] ys = omega arith
samples-append (x ∷ xs) ys = let e = samples-append xs ys in omega (arith, e)

-- what is measured from runs is so with others behind them
measured-more : (known : Option ℕ) (runs more : List ℕ) (f : Follower) → IsMeasuredFrom known runs f
    → IsMeasuredFrom known (runs ++ more) f
measured-more known runs more f m = record {
  next = m.next;
  others = m.others ++ more;
  runs_are = sym (append_assoc m.next m.others more) ∙ ap (λ r. r ++ more) m.runs_are;
  many = m.many;
  measured = m.measured;
}

either-more : (known : Option ℕ) (runs more : List ℕ) (old at : Follower)
    → ((at ≡ old) ⊎ IsMeasuredFrom known runs at) → ((at ≡ old) ⊎ IsMeasuredFrom known (runs ++ more) at)
either-more known runs more old at (inl e) = inl e
either-more known runs more old at (inr m) = inr (measured-more known runs more at m)

starts-more : (known : Option ℕ) (before runs more : List ℕ) (f : Follower) → Starts known before runs f
    → Starts known before (runs ++ more) f
starts-more known before runs more f (inl a) = inl a
starts-more known before runs more f (inr m) = inr (measured-more known runs more f m)

recounted-append : (known : Option ℕ) (f g h : Follower) (xs cs ys ds : List ℕ) → Recounted known f xs cs g
    → Recounted known g ys ds h → Recounted known f (xs ++ ys) (cs ++ ds) h
recounted-append known f g h [] [] ys ds a b = subst (λ x. Recounted known x ys ds h) a b
recounted-append known f g h [] (c ∷ cs) ys ds a b = absurd a
recounted-append known f g h (x ∷ xs) [] ys ds a b = absurd a
recounted-append known f g h (x ∷ xs) (c ∷ cs) ys ds a b =
    (a.0, a.1, either-more known (x ∷ xs) ys f a.0 a.2, a.3, recounted-append known a.1 g h xs cs ys ds a.4 b)

recounted-same : (known : Option ℕ) (f g : Follower) (xs cs : List ℕ) → CountedAll f xs cs g → Recounted known f xs cs g
recounted-same known f g [] [] a = a
recounted-same known f g [] (c ∷ cs) a = absurd a
recounted-same known f g (x ∷ xs) [] a = absurd a
recounted-same known f g (x ∷ xs) (c ∷ cs) a = (f, a.0, inl refl, a.1, recounted-same known a.0 g xs cs a.2)

recounted-anew : (known : Option ℕ) (f g h : Follower) (x : ℕ) (xs cs : List ℕ) → CountedAll g (x ∷ xs) cs h
    → IsMeasuredFrom known (x ∷ xs) g → Recounted known f (x ∷ xs) cs h
recounted-anew known f g h x xs [] a m = absurd a
recounted-anew known f g h x xs (c ∷ cs) a m = (g, a.0, inr m, a.1, recounted-same known a.0 h xs cs a.2)

recounted-many : (known : Option ℕ) (f g : Follower) (xs cs : List ℕ) → Recounted known f xs cs g
    → length cs ≡ length xs
recounted-many known f g [] [] a = refl
recounted-many known f g [] (c ∷ cs) a = absurd a
recounted-many known f g (x ∷ xs) [] a = absurd a
recounted-many known f g (x ∷ xs) (c ∷ cs) a = ap suc (recounted-many known a.1 g xs cs a.4)

pub none-given : (at f : Follower) (given : ℕ) → Passed at 0 given f → given ≡ 0
none-given at f zero p = refl
none-given at f (suc k) p =
    let product : suc k * at.period ≡ at.period + k * at.period = grind arith in
    let time = p.time in
    let told = at.told in
    absurd (omega (arith, product, time, told))

-- the cells of runs behind a run of which some were given
pub cells-runs : (v : Level) (front cells : List Level) (g n : ℕ) (ns : List ℕ)
    → (front ++ (cells ++ replicate g (other v))) ++ line v (n ∷ ns) ≡ front ++ (cells ++ line v ((g + n) ∷ ns))
cells-runs v front cells g n ns =
    append_assoc front (cells ++ replicate g (other v)) (line v (n ∷ ns))
    ∙ ap (λ c. front ++ c)
    (append_assoc cells (replicate g (other v)) (line v (n ∷ ns))
    ∙ ap (λ c. cells ++ c)
    (sym (append_assoc (replicate g (other v)) (replicate n (other v)) (line (other v) ns))
    ∙ ap (λ c. c ++ line (other v) ns) (replicate-append-replicate g n (other v))))

-- the same as one line
pub line-runs : (u v t : Level) (front : List Level) (cs ns : List ℕ) → after u cs ≡ v
    → front ++ (line u cs ++ line v ns) ≡ front ++ (line u (cs ++ ns) ++ replicate 0 t)
line-runs u v t front cs ns is =
    ap (λ c. front ++ c)
    (ap (λ x. line u cs ++ line x ns) (sym is) ∙ sym (line-append u cs ns) ∙ sym (append-nil (line u (cs ++ ns))))

-- the level behind the runs that were counted
after-counted : (known : Option ℕ) (level : Level) (before behind done counts : List ℕ) (f g : Follower)
    → before ++ behind ≡ done → Recounted known f behind counts g → after (after level before) counts ≡ after level done
after-counted known level before behind done counts f g are r =
    after-as-many (after level before) counts behind (recounted-many known f g behind counts r)
    ∙ sym (after-append level before behind) ∙ ap (after level) are

-- runs that the follower counts, behind those that were told
told-counts : {A : Type 0} {taken : A → Option (List ℕ)} (old new : Recovery) (a b : A) (setting : Setting)
    (level : Level) (done : List ℕ) (past r : ℕ) (rs counts : List ℕ)
    → IsFound (taken a) setting level done past old → new.found ≡ true
    → CountedAll old.line.follower (r ∷ rs) counts new.line.follower
    → Gave taken old.line new.line a b (line (after level done) counts)
    → IsFound (taken b) setting level (done ++ (past + r) ∷ rs) 0 new
told-counts old new a b setting level done past r rs [] w found c gave = absurd c
told-counts {taken = taken} old new a b setting level done past r rs (n ∷ ns) w found c gave =
    let v = after level done in
    let u = after level w.before in
    let front = first_cells level w.before w.start in
    record {
      found_is = found;
      before = w.before;
      behind = w.behind ++ (past + r) ∷ rs;
      runs_are = sym (append_assoc w.before w.behind ((past + r) ∷ rs))
          ∙ ap (λ x. x ++ (past + r) ∷ rs) w.runs_are;
      start = w.start;
      at = new.line.follower;
      starts = starts-more setting.known w.before w.behind ((past + r) ∷ rs) w.start w.starts;
      counts = w.counts ++ (w.given + n) ∷ ns;
      counted = recounted-append setting.known w.start w.at new.line.follower w.behind w.counts ((past + r) ∷ rs)
          ((w.given + n) ∷ ns) w.counted (
            w.at,
            c.0,
            inl refl,
            counted-rest w.at old.line.follower c.0 past w.given r n w.passed c.1,
            recounted-same setting.known c.0 new.line.follower rs ns c.2,
          );
      given = 0;
      passed = passed-none new.line.follower;
      cells = subst (λ (x : List Level). Queued (taken b) setting.begun new.line.queue.form (waiting new.line.queue) x)
          (cells-runs v front (line u w.counts) w.given n ns
          ∙ line-runs u v (other (after level (done ++ (past + r) ∷ rs))) front w.counts ((w.given + n) ∷ ns)
          (after-counted setting.known level w.before w.behind done w.counts w.start w.at w.runs_are w.counted))
          (gave.each setting.begun (front ++ (line u w.counts ++ replicate w.given (other v))) w.cells);
    }

held-more : (held done past r rest new all : ℕ) → held ≡ min (done + past) (2 ^ 64 - 1)
    → new ≡ min (held + (r + rest)) (2 ^ 64 - 1) → all ≡ done + ((past + r) + rest)
    → new ≡ min (all + 0) (2 ^ 64 - 1)
held-more held done past r rest new all was is e = omega (arith, was, is, e)

told-held : {A : Type 0} {taken : A → Option (List ℕ)} (old new : Recovery) (a b : A) (begun done : List ℕ)
    (past r : ℕ) (rs : List ℕ) → IsUnfound (taken a) begun done past old → new.found ≡ false
    → new.figures.measured ≡ old.figures.measured → SamplesHeld taken old new a b (samples_of (r ∷ rs))
    → IsUnfound (taken b) begun (done ++ (past + r) ∷ rs) 0 new
told-held old new a b begun done past r rs w found measured h = record {
  found_is = found;
  none = measured ∙ w.none;
  held = held-more old.held (samples_of done) past r (samples_of rs) new.held
      (samples_of (done ++ (past + r) ∷ rs)) w.held h.held (samples-append done ((past + r) ∷ rs));
  cells = h.gave.each begun [] w.cells;
}

-- runs told behind others, by the follower that there is
pub told-more : {A : Type 0} {taken : A → Option (List ℕ)} (old new : Recovery) (a b : A) (setting : Setting)
    (level : Level) (done : List ℕ) (past r : ℕ) (rs : List ℕ)
    → AreTold (taken a) setting level done past old → RunsTold taken old new a b (after level done) (r ∷ rs)
    → new.found ≡ old.found → new.known ≡ old.known → new.figures.measured ≡ old.figures.measured
    → AreTold (taken b) setting level (done ++ (past + r) ∷ rs) 0 new
told-more old new a b setting level done past r rs w t found known measured = elim w.either [
  | inl u ↦ let h = t.unfound u.found_is in record {
    form_is = h.gave.form_is ∙ w.form_is;
    known_is = known ∙ w.known_is;
    either = inl (told-held old new a b setting.begun done past r rs u (found ∙ u.found_is) measured h);
  }
  | inr f ↦ let c = t.found f.found_is in record {
    form_is = c.gave.form_is ∙ w.form_is;
    known_is = known ∙ w.known_is;
    either = inr
        (told-counts old new a b setting level done past r rs c.counts f (found ∙ f.found_is) c.counted c.gave);
  }
]

-- runs that a follower measured from them counts, behind those that others counted
told-anew : {A : Type 0} {taken : A → Option (List ℕ)} (old mid new : Recovery) (a b d : A) (setting : Setting)
    (level : Level) (done : List ℕ) (r : ℕ) (rs counts : List ℕ)
    → IsFound (taken a) setting level done 0 old → new.found ≡ true → Gave taken old.line mid.line a b []
    → CountedAll mid.line.follower (r ∷ rs) counts new.line.follower
    → Gave taken mid.line new.line b d (line (after level done) counts)
    → IsMeasuredFrom setting.known (r ∷ rs) mid.line.follower
    → IsFound (taken d) setting level (done ++ r ∷ rs) 0 new
told-anew {taken = taken} old mid new a b d setting level done r rs counts w found begun c gave m =
    let v = after level done in
    let u = after level w.before in
    let front = first_cells level w.before w.start in
    let cells : List Level = front ++ (line u w.counts ++ replicate w.given (other v)) in
    let none : w.given ≡ 0 = none-given w.at old.line.follower w.given w.passed in
    record {
      found_is = found;
      before = w.before;
      behind = w.behind ++ r ∷ rs;
      runs_are = sym (append_assoc w.before w.behind (r ∷ rs)) ∙ ap (λ x. x ++ r ∷ rs) w.runs_are;
      start = w.start;
      at = new.line.follower;
      starts = starts-more setting.known w.before w.behind (r ∷ rs) w.start w.starts;
      counts = w.counts ++ counts;
      counted = recounted-append setting.known w.start w.at new.line.follower w.behind w.counts (r ∷ rs) counts
          w.counted (recounted-anew setting.known w.at mid.line.follower new.line.follower r rs counts c m);
      given = 0;
      passed = passed-none new.line.follower;
      cells = subst (λ (x : List Level). Queued (taken d) setting.begun new.line.queue.form (waiting new.line.queue) x)
          (ap (λ x. x ++ line v counts) (append-nil cells)
          ∙ ap (λ n. (front ++ (line u w.counts ++ replicate n (other v))) ++ line v counts) none
          ∙ ap (λ x. (front ++ x) ++ line v counts) (append-nil (line u w.counts))
          ∙ append_assoc front (line u w.counts) (line v counts)
          ∙ line-runs u v (other (after level (done ++ r ∷ rs))) front w.counts counts
          (after-counted setting.known level w.before w.behind done w.counts w.start w.at w.runs_are w.counted))
          (gave.each setting.begun (cells ++ []) (begun.each setting.begun cells w.cells));
    }

-- runs that the first follower counts, behind those that were held
told-first : {A : Type 0} {taken : A → Option (List ℕ)} (old mid new : Recovery) (a b d : A) (setting : Setting)
    (level : Level) (done : List ℕ) (r : ℕ) (rs counts : List ℕ)
    → IsUnfound (taken a) setting.begun done 0 old → new.found ≡ true
    → Gave taken old.line mid.line a b
    (replicate (min (65536 * old.held) (2 ^ 64 - 1) / mid.line.follower.period) (after level done))
    → CountedAll mid.line.follower (r ∷ rs) counts new.line.follower
    → Gave taken mid.line new.line b d (line (after level done) counts)
    → IsMeasuredFrom setting.known (r ∷ rs) mid.line.follower
    → IsFound (taken d) setting level (done ++ r ∷ rs) 0 new
told-first {taken = taken} old mid new a b d setting level done r rs counts w found begun c gave m =
    let v = after level done in
    let was = w.held in
    let held : old.held ≡ min (samples_of done) (2 ^ 64 - 1) = omega (arith, was) in
    let front : List Level = replicate (min (65536 * old.held) (2 ^ 64 - 1) / mid.line.follower.period) v in
    record {
      found_is = found;
      before = done;
      behind = r ∷ rs;
      runs_are = refl;
      start = mid.line.follower;
      at = new.line.follower;
      starts = inr m;
      counts = counts;
      counted = recounted-same setting.known mid.line.follower new.line.follower (r ∷ rs) counts c;
      given = 0;
      passed = passed-none new.line.follower;
      cells = subst (λ (x : List Level). Queued (taken d) setting.begun new.line.queue.form (waiting new.line.queue) x)
          (ap (λ h. replicate (min (65536 * h) (2 ^ 64 - 1) / mid.line.follower.period) v ++ line v counts) held
          ∙ ap (λ x. first_cells level done mid.line.follower ++ x) (sym (append-nil (line v counts))))
          (gave.each setting.begun front (begun.each setting.begun [] w.cells));
    }

-- runs that a follower measured from them counts
pub told-measured : {A : Type 0} {taken : A → Option (List ℕ)} (old mid new : Recovery) (a b d : A)
    (setting : Setting) (level : Level) (done runs : List ℕ)
    → AreTold (taken a) setting level done 0 old → 128 ≤ length runs
    → (old.found ≡ true → Gave taken old.line mid.line a b [])
    → (old.found ≡ false → Gave taken old.line mid.line a b
    (replicate (min (65536 * old.held) (2 ^ 64 - 1) / mid.line.follower.period) (after level done)))
    → mid.found ≡ true → RunsTold taken mid new b d (after level done) runs → new.found ≡ mid.found
    → new.known ≡ old.known → IsMeasured setting.known runs mid.line.follower
    → AreTold (taken d) setting level (done ++ runs) 0 new
told-measured old mid new a b d setting level done [] w many again first begun t found known m =
    absurd (omega (arith, many))
told-measured old mid new a b d setting level done (r ∷ rs) w many again first begun t found known m =
    let c = t.found begun in
    let from : IsMeasuredFrom setting.known (r ∷ rs) mid.line.follower = record {
      next = r ∷ rs;
      others = [];
      runs_are = append-nil (r ∷ rs);
      many = many;
      measured = m;
    } in
    elim w.either [
      | inl u ↦ let gave = first u.found_is in record {
        form_is = c.gave.form_is ∙ gave.form_is ∙ w.form_is;
        known_is = known ∙ w.known_is;
        either = inr (told-first old mid new a b d setting level done r rs c.counts u (found ∙ begun) gave c.counted
            c.gave from);
      }
      | inr f ↦ let gave = again f.found_is in record {
        form_is = c.gave.form_is ∙ gave.form_is ∙ w.form_is;
        known_is = known ∙ w.known_is;
        either = inr (told-anew old mid new a b d setting level done r rs c.counts f (found ∙ begun) gave c.counted
            c.gave from);
      }
    ]

-- samples that pass behind the runs
pub found-passes : {A R E : Type 0} {taken : A → Option (List ℕ)} (old new : Recovery) (a b : A) (r : R)
    (setting : Setting) (level : Level) (done : List ℕ) (past : ℕ)
    → IsFound (taken a) setting level done past old
    → SomeTold {R = R} {E = E} taken old.line new.line a b (Ok r) → new.line.edges.run ≡ 0
    → level_if old.line.edges.high ≡ other (after level done) → new.found ≡ true
    → IsFound (taken b) setting level done (past + old.line.edges.run) new
found-passes {taken = taken} old new a b r setting level done past w t none turns found =
    let s = other (after level done) in
    let waits = t.waits in
    let all : t.samples ≡ old.line.edges.run = omega (arith, waits, none) in
    let front = first_cells level w.before w.start in
    let cells = line (after level w.before) w.counts in
    record {
      found_is = found;
      before = w.before;
      behind = w.behind;
      runs_are = w.runs_are;
      start = w.start;
      at = w.at;
      starts = w.starts;
      counts = w.counts;
      counted = w.counted;
      given = w.given + t.cells;
      passed = rw all at
          (passed-more w.at old.line.follower new.line.follower past w.given t.samples t.cells w.passed t.passed);
      cells = queued-more old.line new.line a b r setting.begun (replicate t.cells (level_if old.line.edges.high))
          (front ++ (cells ++ replicate w.given s)) (front ++ (cells ++ replicate (w.given + t.cells) s)) t.puts w.cells
          (ap (λ x. (front ++ (cells ++ replicate w.given s)) ++ replicate t.cells x) turns
          ∙ cells-told s front cells w.given t.cells);
    }

-- what one level says of that before runs: they take turns
pub after-even : (s : Level) (runs : List ℕ) → length runs % 2 ≡ 0 → after s runs ≡ s
after-even s [] e = refl
after-even s (x ∷ []) e = absurd (omega (arith, e))
after-even s (x ∷ y ∷ runs) e = after-even (other (other s)) runs (omega (arith, e)) ∙ other-other s

pub after-odd : (s : Level) (runs : List ℕ) → length runs % 2 ≡ 1 → after s runs ≡ other s
after-odd s [] e = absurd (omega (arith, e))
after-odd s (x ∷ runs) e = after-even (other s) runs (omega (arith, e))

-- cells given behind others
pub gave-chain : {A : Type 0} {taken : A → Option (List ℕ)} (old mid new : LineFollower) (a b d : A) (xs ys : List Level)
    → Gave taken old mid a b xs → Gave taken mid new b d ys → Gave taken old new a d (xs ++ ys)
gave-chain {taken = taken} old mid new a b d xs ys p q = record {
  form_is = q.form_is ∙ p.form_is;
  each = λ begun all w. subst (λ (c : List Level). Queued (taken d) begun new.queue.form (waiting new.queue) c)
      (append_assoc all xs ys) (q.each begun (all ++ xs) (p.each begun all w));
}

pub gave-none : {A : Type 0} {taken : A → Option (List ℕ)} (old new : LineFollower) (a b : A)
    → new.queue ≡ old.queue → taken b ≡ taken a → Gave taken old new a b []
gave-none {taken = taken} old new a b queue same = record {
  form_is = ap (λ q. q.form) queue;
  each = λ begun all w.
      subst (λ (c : List Level). Queued (taken b) begun new.queue.form (waiting new.queue) c) (sym (append-nil all))
      (rw (same, queue) w);
}

pub gave-puts : {A R E : Type 0} {taken : A → Option (List ℕ)} (old new : LineFollower) (a b : A) (v : R)
    (added : List Level) → Puts {R = R} {E = E} taken old.queue new.queue a b (Ok v) added
    → Gave taken old new a b added
gave-puts old new a b v added p = record {
  form_is = p.form;
  each = λ begun all w. queued-more old new a b v begun added all (all ++ added) p w refl;
}

pub counted-many : (f g : Follower) (xs cs : List ℕ) → CountedAll f xs cs g → length cs ≡ length xs
counted-many f g [] [] a = refl
counted-many f g [] (c ∷ cs) a = absurd a
counted-many f g (x ∷ xs) [] a = absurd a
counted-many f g (x ∷ xs) (c ∷ cs) a = ap suc (counted-many a.0 g xs cs a.2)

-- nothing told
pub told-nothing : {A : Type 0} {taken : A → Option (List ℕ)} (x : Recovery) (a : A) (level : Level)
    → x.held < 2 ^ 64 → RunsTold taken x x a a level []
told-nothing x a level few = record {
  found = λ found. record {
    counts = [];
    counted = refl;
    gave = gave-none x.line x.line a a refl refl;
  };
  unfound = λ found. record {
    held = omega (arith, few);
    gave = gave-none x.line x.line a a refl refl;
  };
}

-- runs told behind others
pub told-chain : {A : Type 0} {taken : A → Option (List ℕ)} (x y z : Recovery) (a b d : A) (level : Level)
    (xs ys : List ℕ) → y.found ≡ x.found → RunsTold taken x y a b level xs
    → RunsTold taken y z b d (after level xs) ys → RunsTold taken x z a d level (xs ++ ys)
told-chain {taken = taken} x y z a b d level xs ys same p q = record {
  found = λ found.
      let c = p.found found in
      let e = q.found (same ∙ found) in
      record {
        counts = c.counts ++ e.counts;
        counted = counted-append x.line.follower y.line.follower z.line.follower xs c.counts ys e.counts c.counted
            e.counted;
        gave = subst (λ (l : List Level). Gave taken x.line z.line a d l)
            (ap (λ l. line level c.counts ++ line l e.counts)
            (sym (after-as-many level c.counts xs (counted-many x.line.follower y.line.follower xs c.counts c.counted)))
            ∙ sym (line-append level c.counts e.counts))
            (gave-chain x.line y.line z.line a b d (line level c.counts) (line (after level xs) e.counts)
            c.gave e.gave);
      };
  unfound = λ found.
      let c = p.unfound found in
      let e = q.unfound (same ∙ found) in
      let first = c.held in
      let second = e.held in
      let all = samples-append xs ys in
      record {
        held = omega (arith, first, second, all);
        gave = gave-chain x.line y.line z.line a b d [] [] c.gave e.gave;
      };
}

-- one run told by the follower, or held
pub told-run : {A R E : Type 0} {taken : A → Option (List ℕ)} (old new : Recovery) (a b : A) (v : R)
    (level told : Level) (run : ℕ) → old.found ≡ true → told ≡ other level
    → LineTold {R = R} {E = E} taken old.line new.line a b (Ok v) run told
    → RunsTold taken old new a b level (run ∷ [])
told-run {R = R} {E = E} {taken = taken} old new a b v level told run found is t = record {
  found = λ f. record {
    counts = t.cells ∷ [];
    counted = (new.line.follower, t.counted, refl);
    gave = gave-puts old.line new.line a b v (replicate t.cells (other level) ++ [])
        (subst (λ (c : List Level). Puts {R = R} {E = E} taken old.line.queue new.line.queue a b (Ok v) c)
        (ap (replicate t.cells) is ∙ sym (append-nil (replicate t.cells (other level)))) t.puts);
  };
  unfound = λ f. absurd (differ (sym found ∙ f));
}
  where
    differ : true ≡ false → ⊥
    differ e = cc

-- what holds of all runs told holds of what is answered
pub ok-map : {R E : Type 0} (r : Result R E) (P Q : Type 0) → (P → Q) → IfOk r (λ x. P) → IfOk r (λ x. Q)
ok-map (Ok v) P Q f p = f p
ok-map (Err e) P Q f p = tt

pub tell-ok : {A R E : Type 0} {taken : A → Option (List ℕ)} (old new : Recovery) (a b : A) (r : Result R E)
    (level told : Level) (run : ℕ) → old.found ≡ true → told ≡ other level
    → LineTold taken old.line new.line a b r run told → IfOk r (λ x. RunsTold taken old new a b level (run ∷ []))
tell-ok old new a b (Ok v) level told run found is t = told-run old new a b v level told run found is t
tell-ok old new a b (Err e) level told run found is t = tt

pub passes-ok : {A R E : Type 0} {taken : A → Option (List ℕ)} (old new : Recovery) (a b : A) (r : Result R E)
    (setting : Setting) (level : Level) (done : List ℕ) (past : ℕ) → old.found ≡ true
    → AreTold (taken a) setting level done past old → SomeTold taken old.line new.line a b r
    → new.line.edges.run ≡ 0 → level_if old.line.edges.high ≡ other (after level done) → new.found ≡ old.found
    → new.known ≡ old.known
    → IfOk r (λ x. AreTold (taken b) setting level done (past + old.line.edges.run) new)
passes-ok old new a b (Err e) setting level done past found w t none turns same known = tt
passes-ok old new a b (Ok v) setting level done past found w t none turns same known = record {
  form_is = t.puts.form ∙ w.form_is;
  known_is = known ∙ w.known_is;
  either = elim w.either [
    | inl u ↦ absurd (differ (sym found ∙ u.found_is))
    | inr f ↦ inr (found-passes old new a b v setting level done past f t none turns (same ∙ found))
  ];
}
  where
    differ : true ≡ false → ⊥
    differ e = cc

-- no run told
found-same : {A : Type 0} {taken : A → Option (List ℕ)} (old new : Recovery) (a b : A) (setting : Setting)
    (level : Level) (done : List ℕ) (past : ℕ) (counts : List ℕ)
    → IsFound (taken a) setting level done past old → new.found ≡ true
    → CountedAll old.line.follower [] counts new.line.follower
    → Gave taken old.line new.line a b (line (after level done) counts)
    → IsFound (taken b) setting level done past new
found-same old new a b setting level done past (n ∷ counts) w found c gave = absurd c
found-same {taken = taken} old new a b setting level done past [] w found c gave =
    let cells : List Level = first_cells level w.before w.start
    ++ (line (after level w.before) w.counts ++ replicate w.given (other (after level done))) in
    record {
      found_is = found;
      before = w.before;
      behind = w.behind;
      runs_are = w.runs_are;
      start = w.start;
      at = w.at;
      starts = w.starts;
      counts = w.counts;
      counted = w.counted;
      given = w.given;
      passed = subst (λ f. Passed w.at past w.given f) (sym c) w.passed;
      cells = subst (λ (x : List Level). Queued (taken b) setting.begun new.line.queue.form (waiting new.line.queue) x)
          (append-nil cells) (gave.each setting.begun cells w.cells);
    }

-- the same told, of which words were passed on
pub told-gave : {A : Type 0} {taken : A → Option (List ℕ)} (old new : Recovery) (a b : A) (setting : Setting)
    (level : Level) (done : List ℕ) (past : ℕ) → Gave taken old.line new.line a b []
    → AreTold (taken a) setting level done past old → new.found ≡ old.found → new.known ≡ old.known
    → new.held ≡ old.held → new.figures.measured ≡ old.figures.measured → new.line.follower ≡ old.line.follower
    → AreTold (taken b) setting level done past new
told-gave old new a b setting level done past gave w found known held measured follower = record {
  form_is = gave.form_is ∙ w.form_is;
  known_is = known ∙ w.known_is;
  either = elim w.either [
    | inl u ↦ inl (record {
      found_is = found ∙ u.found_is;
      none = measured ∙ u.none;
      held = held ∙ u.held;
      cells = gave.each setting.begun [] u.cells;
    })
    | inr f ↦ inr (found-same old new a b setting level done past [] f (found ∙ f.found_is) follower gave)
  ];
}

-- the same told, whatever changed besides
pub told-keeps : (told : Option (List ℕ)) (setting : Setting) (level : Level) (done : List ℕ) (past : ℕ)
    (old new : Recovery) → AreTold told setting level done past old → new.found ≡ old.found → new.known ≡ old.known
    → new.held ≡ old.held → new.figures.measured ≡ old.figures.measured → new.line.queue ≡ old.line.queue
    → new.line.follower ≡ old.line.follower → AreTold told setting level done past new
told-keeps told setting level done past old new w found known held measured queue follower =
    told-gave {taken = λ t. t} old new told told setting level done past (gave-none old.line new.line told told queue refl) w
    found known held measured follower

-- all runs that waited told, where no sample of the one behind them was
pub told-all : {A : Type 0} {taken : A → Option (List ℕ)} (old new : Recovery) (a b : A) (setting : Setting)
    (level : Level) (done : List ℕ) (past : ℕ) (runs : List ℕ)
    → AreTold (taken a) setting level done past old → (1 ≤ length runs → past ≡ 0)
    → RunsTold taken old new a b (after level done) runs
    → new.found ≡ old.found → new.known ≡ old.known → new.figures.measured ≡ old.figures.measured
    → AreTold (taken b) setting level (done ++ runs) past new
told-all {taken = taken} old new a b setting level done past [] w none t found known measured =
    subst (λ d. AreTold (taken b) setting level d past new) (sym (append-nil done))
    (elim w.either [
      | inl u ↦ let h = t.unfound u.found_is in
          let was = u.held in
          let held = h.held in record {
            form_is = h.gave.form_is ∙ w.form_is;
            known_is = known ∙ w.known_is;
            either = inl (record {
              found_is = found ∙ u.found_is;
              none = measured ∙ u.none;
              held = omega (arith, was, held);
              cells = h.gave.each setting.begun [] u.cells;
            });
          }
      | inr f ↦ let c = t.found f.found_is in record {
        form_is = c.gave.form_is ∙ w.form_is;
        known_is = known ∙ w.known_is;
        either = inr (found-same old new a b setting level done past c.counts f (found ∙ f.found_is) c.counted c.gave);
      }
    ])
told-all {taken = taken} old new a b setting level done past (r ∷ rs) w none t found known measured =
    let zero_past : past ≡ 0 = none (omega arith) in
    let more = told-more old new a b setting level done past r rs w t found known measured in
    let only : past + r ≡ r = omega (arith, zero_past) in
    subst (λ n. AreTold (taken b) setting level (done ++ n ∷ rs) past new) only
    (subst (λ n. AreTold (taken b) setting level (done ++ (past + r) ∷ rs) n new) (sym zero_past) more)

-- the same through the edges of a line that is measured
pub measuring-or : (s : State) → (s ≡ Measuring) ⊎ (s ≡ Measuring → ⊥)
measuring-or Still = inr (λ e. cc)
measuring-or Measuring = inl refl
measuring-or Following = inr (λ e. cc)

-- where runs wait, no sample of the run behind them was told
pub none-past : (past : ℕ) (now : Recovery) → IsInOrder past now → 1 ≤ length (runs_waiting now) → past ≡ 0
none-past past now o some = elim (measuring-or now.state) [
  | inl m ↦ o.none_past m
  | inr n ↦
      let none = o.none_wait n in
      let nothing : runs_waiting now ≡ [] = rw none refl in
      let few : length (runs_waiting now) ≡ 0 = ap length nothing in
      absurd (omega (arith, some, few))
]

-- where the latest run is told, what stands of a recovery behind it
pub stands-told : (told : Option (List ℕ)) (setting : Setting) (level : Level) (done : List ℕ) (now : Recovery)
    → now.count ≡ 0 → level_if now.line.edges.high ≡ other (after level done) → AreTold told setting level done 0 now
    → (now.state ≡ Following → now.found ≡ true) → StandsOn told setting level done now.line.edges.run now
stands-told told setting level done now none turns w follows = record {
  done = done;
  past = 0;
  runs_are = ap (λ x. done ++ x) (let nothing : runs_waiting now ≡ [] = rw none refl in nothing) ∙ append-nil done;
  samples_are = omega arith;
  turns = turns;
  holds = record {
    order = record {
      none_wait = λ other. none;
      none_past = λ m. refl;
      followed = follows;
      none_followed = λ f. refl;
    };
    told_is = w;
  };
}

-- a run told at once
pub stands-run : {A R E : Type 0} (taken : A → Option (List ℕ)) (old new : Recovery) (a b : A) (r : Result R E)
    (setting : Setting) (level : Level) (done : List ℕ) (past run : ℕ) (high : Bool) → old.count ≡ 0
    → AreTold (taken a) setting level done past old
    → level_if high ≡ other (after level (done ++ runs_waiting old))
    → level_if old.line.edges.high ≡ other (level_if high)
    → (level_if high ≡ other (after level done)
    → IfOk r (λ x. RunsTold taken old new a b (after level done) (run ∷ [])))
    → KeepsRuns old new → (new.state ≡ Following → new.found ≡ true)
    → IfOk r (λ x. StandsOn (taken b) setting level ((done ++ runs_waiting old) ++ (past + run) ∷ [])
    new.line.edges.run new)
stands-run taken old new a b r setting level done past run high none w turns flips t k follows =
    let nothing : runs_waiting old ≡ [] = rw none refl in
    let all : done ++ runs_waiting old ≡ done = ap (λ x. done ++ x) nothing ∙ append-nil done in
    let before : level_if high ≡ other (after level done) = turns ∙ ap (λ x. other (after level x)) all in
    ok-map r (RunsTold taken old new a b (after level done) (run ∷ []))
    (StandsOn (taken b) setting level ((done ++ runs_waiting old) ++ (past + run) ∷ []) new.line.edges.run new)
    (λ told. subst (λ x. StandsOn (taken b) setting level (x ++ (past + run) ∷ []) new.line.edges.run new) (sym all)
    (stands-told (taken b) setting level (done ++ (past + run) ∷ []) new (k.count_is ∙ none)
    (ap (λ e. level_if e.high) k.edges_are ∙ flips ∙ ap other before
    ∙ ap other (sym (after-more level done (past + run))))
    (told-more old new a b setting level done past run [] w told k.found_is k.known_is k.measured_is) follows))
    (t before)

pub keeps-same : (x : Recovery) → KeepsRuns x x
keeps-same x = record {
  found_is = refl;
  known_is = refl;
  count_is = refl;
  runs_are = refl;
  samples_are = refl;
  measured_is = refl;
  edges_are = refl;
}

pub keeps-chain : (x y z : Recovery) → KeepsRuns x y → KeepsRuns y z → KeepsRuns x z
keeps-chain x y z a b = record {
  found_is = b.found_is ∙ a.found_is;
  known_is = b.known_is ∙ a.known_is;
  count_is = b.count_is ∙ a.count_is;
  runs_are = b.runs_are ∙ a.runs_are;
  samples_are = b.samples_are ∙ a.samples_are;
  measured_is = b.measured_is ∙ a.measured_is;
  edges_are = b.edges_are ∙ a.edges_are;
}

pub take-next : (xs ys : List ℕ) (i : ℕ) → ys ≡ xs → i < length xs
    → take (i + 1) xs ≡ take i xs ++ get_or ys i 0 ∷ []
take-next xs ys i same below =
    take_more xs i 0 below ∙ ap (λ l. take i xs ++ get_or l i 0 ∷ []) (sym same)

-- a line that is dead: the runs that waited told, and the samples that wait
pub stands-still : {A R E : Type 0} (taken : A → Option (List ℕ)) (old mid told new : Recovery) (a b d : A)
    (r : Result R E) (setting : Setting) (level : Level) (runs : List ℕ) (behind count : ℕ)
    → StandsOn (taken a) setting level runs behind old → mid.found ≡ old.found → mid.known ≡ old.known
    → mid.held ≡ old.held → mid.figures.measured ≡ old.figures.measured → mid.line ≡ old.line → mid.runs ≡ old.runs
    → count ≡ old.count
    → ((u : Level) → level_if mid.line.edges.high ≡ other (after u (take count mid.runs))
    → RunsTold taken mid told a b u (take count mid.runs))
    → KeepsRuns mid told
    → ((done : List ℕ) (past : ℕ) → AreTold (taken b) setting level done past told
    → level_if told.line.edges.high ≡ other (after level done)
    → IfOk r (λ x. AreTold (taken d) setting level done (past + told.line.edges.run) new))
    → new.line.edges.run ≡ 0 → new.line.edges.high ≡ told.line.edges.high → new.count ≡ 0 → new.state ≡ Still
    → IfOk r (λ x. StandsOn (taken d) setting level runs behind new)
stands-still taken old mid told new a b d r setting level runs behind count s found known held measured line
    same many t k wait none high empty still =
    let u = after level s.done in
    let waits : take count mid.runs ≡ runs_waiting old = ap₂ take many same in
    let all : s.done ++ take count mid.runs ≡ runs = ap (λ x. s.done ++ x) waits ∙ s.runs_are in
    let turns : level_if mid.line.edges.high ≡ other (after level (s.done ++ take count mid.runs))
    = ap (λ l. level_if l.edges.high) line ∙ s.turns ∙ ap (λ x. other (after level x)) (sym all) in
    let as_told : AreTold (taken a) setting level s.done s.past mid
    = told-keeps (taken a) setting level s.done s.past old mid s.holds.told_is found known held measured
    (ap (λ l. l.queue) line) (ap (λ l. l.follower) line) in
    let released : AreTold (taken b) setting level (s.done ++ take count mid.runs) s.past told
    = told-all mid told a b setting level s.done s.past (take count mid.runs) as_told
    (λ some. none-past s.past old s.holds.order (subst (λ x. 1 ≤ length x) waits some))
    (t u (turns ∙ ap other (after-append level s.done (take count mid.runs))))
    k.found_is k.known_is k.measured_is in
    let same_high : level_if told.line.edges.high ≡ other (after level runs)
    = ap (λ e. level_if e.high) k.edges_are ∙ turns ∙ ap (λ x. other (after level x)) all in
    let sum = s.samples_are in
    let run : told.line.edges.run ≡ old.line.edges.run
    = ap (λ e. e.run) k.edges_are ∙ ap (λ l. l.edges.run) line in
    ok-map r (AreTold (taken d) setting level runs (s.past + told.line.edges.run) new)
    (StandsOn (taken d) setting level runs behind new)
    (λ w. record {
      done = runs;
      past = s.past + told.line.edges.run;
      runs_are = ap (λ x. runs ++ x) (let nothing : runs_waiting new ≡ [] = rw empty refl in nothing) ∙ append-nil runs;
      samples_are = omega (arith, sum, run, none);
      turns = ap level_if high ∙ same_high;
      holds = record {
        order = record {
          none_wait = λ other. empty;
          none_past = λ m. absurd (differ (sym still ∙ m));
          followed = λ f. absurd (unlike (sym still ∙ f));
          none_followed = λ f. absurd (unlike (sym still ∙ f));
        };
        told_is = w;
      };
    })
    (wait runs s.past (subst (λ x. AreTold (taken b) setting level x s.past told) all released) same_high)
  where
    differ : Still ≡ Measuring → ⊥
    differ e = cc

    unlike : Still ≡ Following → ⊥
    unlike e = cc

-- one more run that waits
pub stands-waiting : (told : Option (List ℕ)) (setting : Setting) (level : Level) (old new : Recovery) (done : List ℕ)
    (run : ℕ) → AreTold told setting level done 0 old → old.count < 256
    → level_if old.line.edges.high ≡ after level (done ++ runs_waiting old)
    → new.found ≡ old.found → new.known ≡ old.known → new.held ≡ old.held
    → new.figures.measured ≡ old.figures.measured → new.line ≡ old.line → new.state ≡ Measuring
    → runs_waiting new ≡ runs_waiting old ++ run ∷ []
    → StandsOn told setting level ((done ++ runs_waiting old) ++ run ∷ []) new.line.edges.run new
stands-waiting told setting level old new done run w few turns found known held measured line measuring waits = record {
  done = done;
  past = 0;
  runs_are = ap (λ x. done ++ x) waits ∙ sym (append_assoc done (runs_waiting old) (run ∷ []));
  samples_are = omega arith;
  turns = ap (λ l. level_if l.edges.high) line ∙ turns ∙ sym (other-other (after level (done ++ runs_waiting old)))
      ∙ ap other (sym (after-more level (done ++ runs_waiting old) run));
  holds = record {
    order = record {
      none_wait = λ other. absurd (other measuring);
      none_past = λ m. refl;
      followed = λ f. absurd (unlike (sym measuring ∙ f));
      none_followed = λ f. refl;
    };
    told_is = told-keeps told setting level done 0 old new w found known held measured (ap (λ l. l.queue) line)
        (ap (λ l. l.follower) line);
  };
}
  where
    unlike : Measuring ≡ Following → ⊥
    unlike e = cc

pub ok-const : {R E : Type 0} (r : Result R E) (P : Type 0) → P → IfOk r (λ x. P)
ok-const (Ok v) P p = p
ok-const (Err e) P p = tt
