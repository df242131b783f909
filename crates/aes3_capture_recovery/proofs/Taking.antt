-- Samples taken one piece behind the other.
use Rattle.std.proofs.Common.{◌≡◌, ◌≤◌, ◌<◌, ◌+◌, ◌^◌, ℕ, inl, inr, List, [], ◌++◌, Bool, true, false, Option, Some, Result}
use Rattle.std.proofs.Common.{Ok, Err, IfOk, ◌∷◌, ap, ap₂, sym, subst, refl, arith, append_assoc, append-nil, if◌then◌else◌, ◌∙◌}
use Rattle.aes3_level.specs.declared.level.Level.{Level}
use Rattle.aes3_level.specs.Cells.{line, other}
use Rattle.aes3_capture.specs.declared.follower.Bounds.{Bounds}
use Rattle.aes3_capture.specs.declared.follower.Follower.{Follower}
use Rattle.aes3_capture_recovery.specs.Beginning.{Awaits, GivesLine, IsLastingBehind, IsLineBehind}
use Rattle.aes3_capture_recovery.specs.Endings.{finished}
use Rattle.aes3_capture_recovery.specs.Keeping.{IsOnLine, StaysOnLine}
use Rattle.aes3_capture_recovery.specs.LineFollowing.{Followed}
use Rattle.aes3_capture_recovery.specs.Queues.{Queued, Writes, waiting}
use Rattle.aes3_capture_recovery.specs.Recovering.{AreRecovered, Recovered, Setting, first_cells, first_level}
use Rattle.aes3_capture_recovery.specs.Taking.{RecoveredAll, Took, TookAll, WritesLine}
use Rattle.aes3_capture_recovery.specs.declared.recovery.Recovery.{Recovery}
use Rattle.aes3_capture_recovery.specs.declared.recovery.State.TheVariants.{Following}
use Rattle.aes3_capture_recovery.proofs.States.{begun-more, following-or, measuring-apart}
use Rattle.aes3_capture_recovery.proofs.Awaiting.{awaits-finds}
use Rattle.aes3_capture_recovery.proofs.Joining.{begins-line, joined-gives, lasting-kept}
use Rattle.aes3_capture_recovery.proofs.OnLineAhead.{on-line-none}

pub took-none : {A : Type 0} (taken : A → Option (List ℕ)) (now : Recovery) (sink : A) → Took taken now now sink sink []
took-none taken now sink = record {
  recovered = λ setting seen w. subst (λ (l : List Level). Recovered (taken sink) setting l [] now) (sym (append-nil seen)) w;
  awaits = λ setting seen w. subst (λ (l : List Level). Awaits (taken sink) setting l [] now) (sym (append-nil seen)) w;
  up = omega arith;
  some = λ was. was;
  begun = λ none is room. absurd (none is);
  follows = λ was is same room some written front first cell seen w.
      subst (λ (l : List Level). Followed (taken sink) written front now.line first cell l []) (sym (append-nil seen)) w;
  stays = λ narrow spread more w. on-line-none now narrow spread more w;
}

pub took-is : {A : Type 0} {taken : A → Option (List ℕ)} {old new : Recovery} {before after : A} {levels all : List Level}
    → levels ≡ all → Took taken old new before after levels → Took taken old new before after all
took-is {A} {taken} {old} {new} {before} {after} is t =
    subst (λ (l : List Level). Took taken old new before after l) is t

pub took-join : {A : Type 0} {taken : A → Option (List ℕ)} {old mid new : Recovery} {before between after : A}
    {first second all : List Level} → first ++ second ≡ all
    → Took taken old mid before between first → Took taken mid new between after second
    → Took taken old new before after all
took-join {A} {taken} {old} {mid} {new} {before} {between} {after} {first} {second} {all} is p q =
    let up1 = p.up in
    let up2 = q.up in
    took-is is (record {
      recovered = λ setting seen w. subst (λ (l : List Level). Recovered (taken after) setting l [] new)
          (append_assoc seen first second) (q.recovered setting (seen ++ first) (p.recovered setting seen w));
      awaits = λ setting seen w. subst (λ (l : List Level). Awaits (taken after) setting l [] new)
          (append_assoc seen first second) (q.awaits setting (seen ++ first) (p.awaits setting seen w));
      up = omega (arith, up1, up2);
      some = λ was. q.some (p.some was);
      begun = λ none now room. elim (following-or mid.state) [
        | inl was ↦ let more = p.begun none was room in omega (arith, more, up2)
        | inr n ↦ begun-more old.figures.measured mid.figures.measured new.figures.measured up1 up2 room (q.begun n now)
      ];
      follows = λ was now same room some written front start cell seen w.
          let kept : mid.figures.measured ≡ old.figures.measured = omega (arith, up1, up2, same) in
          let later : mid.figures.measured + 1 < 2 ^ 64 = omega (arith, kept, room) in
          let follows : mid.state ≡ Following = elim (following-or mid.state) [
            | inl e ↦ e
            | inr n ↦ let more = q.begun n now later in absurd (omega (arith, more, same, kept))
          ] in
          subst (λ (l : List Level). Followed (taken after) written front new.line start cell l [])
          (append_assoc seen first second)
          (q.follows follows now (same ∙ sym kept) later (p.some some) written front start cell (seen ++ first)
          (p.follows was follows kept room some written front start cell seen w));
      stays = λ narrow spread more w.
          let one = p.stays narrow spread (second ++ more)
          (subst (λ (l : List Level). IsOnLine narrow spread l old) (append_assoc first second more) w) in
          let two = q.stays narrow spread more one.on in
          record { on = two.on; measured = two.measured ∙ one.measured };
    })

-- the same of a recovery and a sink that are what these are
pub took-at : {A : Type 0} {taken : A → Option (List ℕ)} {old new now : Recovery} {before after last : A}
    {levels : List Level} → now ≡ new → last ≡ after → Took taken old new before after levels
    → Took taken old now before last levels
took-at {A} {taken} {old} {new} {now} {before} {after} {last} {levels} is same t =
    subst (λ (r : Recovery). Took taken old r before last levels) (sym is)
    (subst (λ (s : A). Took taken old new before s levels) (sym same) t)

-- a call that says whether it took samples
abbrev pub some_levels : Bool → List Level → List Level
some_levels true levels = levels
some_levels false levels = []

pub some-joined : (took : Bool) (seen levels : List Level)
    → (if took then seen ++ levels else seen) ≡ seen ++ some_levels took levels
some-joined true seen levels = refl
some-joined false seen levels = sym (append-nil seen)

-- samples and then the end
pub took-all : {A : Type 0} {taken : A → Option (List ℕ)} {old mid new : Recovery} {before between after : A}
    {levels : List Level} → Took taken old mid before between levels → TookAll taken mid new between after []
    → TookAll taken old new before after levels
took-all {A} {taken} {old} {mid} {new} {before} {between} {after} {levels} p q = record {
  recovered = λ setting seen w. subst (λ (l : List Level). RecoveredAll (taken after) setting l new)
      (append-nil (seen ++ levels)) (q.recovered setting (seen ++ levels) (p.recovered setting seen w));
  joined = λ is one setting seen first counts a l.
      subst (λ (k : List Level). WritesLine (taken after) setting k first counts) (append-nil (seen ++ levels))
      (q.joined is one setting (seen ++ levels) first counts (p.awaits setting seen a)
      (subst (λ (k : List Level). IsLineBehind setting.known k first counts) (sym (append-nil (seen ++ levels))) l));
  lasts = λ setting seen first counts a l.
      let end = q.lasts setting (seen ++ levels) first counts (p.awaits setting seen a)
      (subst (λ (k : List Level). IsLastingBehind setting.known k first counts) (sym (append-nil (seen ++ levels))) l) in
      (end.0, subst (λ (k : List Level). WritesLine (taken after) setting k first counts) (append-nil (seen ++ levels)) end.1);
}

-- what a line gave that is followed is written at the end
given-written : (told told_now : Option (List ℕ)) (setting : Setting) (levels : List Level) (old : Recovery) (first : ℕ)
    (counts : List ℕ)
    → (old.found ≡ true → old.count ≡ 0 → (begun : List ℕ) (all : List Level)
    → Queued told begun old.line.queue.form (waiting old.line.queue) all → Writes told_now begun old.line.queue.form all)
    → old.state ≡ Following → GivesLine told setting levels first counts old → Awaits told setting levels [] old
    → WritesLine told_now setting levels first counts
given-written told told_now setting levels old first counts writes follows g a =
    let order = a.recovered.stands.holds.order in
    let none = order.none_wait (λ m. measuring-apart old.state m follows) in
    let front = first_cells (other (first_level levels)) (first ∷ []) g.start in
    let cells = line (first_level levels) counts in
    let w = writes (order.followed follows) none setting.begun (front ++ (cells ++ g.gives.more)) g.gives.queued in
    record {
      start = g.start;
      writes = record {
        more = g.gives.more ++ w.more;
        tells = w.tells ∙ ap₂ (λ form x. Some (setting.begun ++ finished form x)) a.recovered.stands.holds.told_is.form_is
            (ap (λ x. x ++ w.more) (sym (append_assoc front cells g.gives.more))
            ∙ append_assoc (front ++ cells) g.gives.more w.more);
      };
    }

-- a line that was found once, in the first runs, and is followed at the end, was followed before it
line-written : (told told_now : Option (List ℕ)) (setting : Setting) (levels : List Level) (old new : Recovery) (first : ℕ)
    (counts : List ℕ) → old.figures.measured ≤ new.figures.measured
    → ((old.state ≡ Following → ⊥) → new.state ≡ Following → old.figures.measured + 1 < 2 ^ 64
    → old.figures.measured < new.figures.measured)
    → (old.found ≡ true → old.count ≡ 0 → (begun : List ℕ) (all : List Level)
    → Queued told begun old.line.queue.form (waiting old.line.queue) all → Writes told_now begun old.line.queue.form all)
    → new.state ≡ Following → new.figures.measured ≡ 1 → Awaits told setting levels [] old
    → IsLineBehind setting.known levels first counts → WritesLine told_now setting levels first counts
line-written told told_now setting levels old new first counts up begun writes is one a l =
    let found = awaits-finds told setting levels old first l.window (begins-line setting.known levels first counts l) a in
    let once : old.figures.measured ≡ 1 = omega (arith, found, up, one) in
    let follows : old.state ≡ Following = elim (following-or old.state) [
      | inl e ↦ e
      | inr n ↦ let more = begun n is (omega (arith, once)) in absurd (omega (arith, more, once, one))
    ] in
    given-written told told_now setting levels old first counts writes follows
    (joined-gives told setting levels old first counts follows once l a) a

pub took-end : {A : Type 0} (taken : A → Option (List ℕ)) (old new : Recovery) (before after : A)
    → new.figures.samples ≡ old.figures.samples
    → ((setting : Setting) (seen : List Level) → Recovered (taken before) setting seen [] old
    → (cells : List Level) × AreRecovered setting.known seen cells new
    × (taken after ≡ Some (setting.begun ++ finished setting.form cells)))
    → old.figures.measured ≤ new.figures.measured
    → ((old.state ≡ Following → ⊥) → new.state ≡ Following → old.figures.measured + 1 < 2 ^ 64
    → old.figures.measured < new.figures.measured)
    → (old.found ≡ true → old.count ≡ 0 → (begun : List ℕ) (all : List Level)
    → Queued (taken before) begun old.line.queue.form (waiting old.line.queue) all
    → Writes (taken after) begun old.line.queue.form all)
    → (old.count ≡ 0 → new.figures.measured ≡ old.figures.measured)
    → TookAll taken old new before after []
took-end taken old new before after same ended up begun writes kept = record {
  recovered = λ setting seen w. subst (λ (l : List Level). RecoveredAll (taken after) setting l new)
      (sym (append-nil seen))
      (let e = ended setting seen w in
      record { cells = e.0; recovered = e.1; samples = same ∙ w.samples; tells = e.2 });
  joined = λ is one setting seen first counts a l.
      subst (λ (k : List Level). WritesLine (taken after) setting k first counts) (sym (append-nil seen))
      (line-written (taken before) (taken after) setting seen old new first counts up begun writes is one a
      (subst (λ (k : List Level). IsLineBehind setting.known k first counts) (append-nil seen) l));
  lasts = λ setting seen first counts a l.
      let k = lasting-kept (taken before) setting seen old first counts
      (subst (λ (k : List Level). IsLastingBehind setting.known k first counts) (append-nil seen) l) a in
      let none = a.recovered.stands.holds.order.none_wait (λ m. measuring-apart old.state m k.state) in (
        kept none ∙ k.once,
        subst (λ (k : List Level). WritesLine (taken after) setting k first counts) (sym (append-nil seen))
            (given-written (taken before) (taken after) setting seen old first counts writes k.state k.gives a),
      );
}

-- a last call that takes samples, where others were taken
pub took-rest : {A R E : Type 0} {taken : A → Option (List ℕ)} {first : Recovery} {start : A} {done own rest all : List Level}
    (result : Result R E) (old new : Recovery) (before after : A) → own ≡ rest → done ++ rest ≡ all
    → Took taken first old start before done
    → ((setting : Setting) (seen : List Level) → Recovered (taken before) setting seen [] old
    → IfOk result (λ x. Recovered (taken after) setting (seen ++ own) [] new))
    → ((setting : Setting) (seen : List Level) → Awaits (taken before) setting seen [] old
    → IfOk result (λ x. Awaits (taken after) setting (seen ++ own) [] new))
    → IfOk result (λ x. old.figures.measured ≤ new.figures.measured)
    → (1 ≤ old.figures.samples → IfOk result (λ x. 1 ≤ new.figures.samples))
    → ((old.state ≡ Following → ⊥) → new.state ≡ Following → old.figures.measured + 1 < 2 ^ 64
    → IfOk result (λ x. old.figures.measured < new.figures.measured))
    → (old.state ≡ Following → new.state ≡ Following → new.figures.measured ≡ old.figures.measured
    → old.figures.measured + 1 < 2 ^ 64 → 1 ≤ old.figures.samples
    → (written : List ℕ) (front : List Level) (start : Follower) (cell : Level) (seen : List Level)
    → Followed (taken before) written front old.line start cell seen []
    → IfOk result (λ x. Followed (taken after) written front new.line start cell (seen ++ own) []))
    → ((narrow : Bounds) (spread : ℕ) (more : List Level) → IsOnLine narrow spread (own ++ more) old
    → IfOk result (λ x. StaysOnLine narrow spread more old new))
    → IfOk result (λ x. Took taken first new start after all)
took-rest (Ok v) old new before after is sum p recovered awaits up some begun follows stays =
    took-join sum p (took-is is (record {
      recovered = recovered;
      awaits = awaits;
      up = up;
      some = some;
      begun = begun;
      follows = follows;
      stays = stays;
    }))
took-rest (Err e) old new before after is sum p recovered awaits up some begun follows stays = tt

-- a call that says whether it took samples, of a line that is followed before or not behind
pub took-some : {A : Type 0} (taken : A → Option (List ℕ)) (old new : Recovery) (before after : A) (levels : List Level)
    (took : Bool)
    → ((setting : Setting) (seen : List Level) → Recovered (taken before) setting seen [] old
    → Recovered (taken after) setting (if took then seen ++ levels else seen) [] new)
    → ((setting : Setting) (seen : List Level) → Awaits (taken before) setting seen [] old
    → Awaits (taken after) setting (if took then seen ++ levels else seen) [] new)
    → old.figures.measured ≤ new.figures.measured → (1 ≤ old.figures.samples → 1 ≤ new.figures.samples)
    → ((old.state ≡ Following → ⊥) → new.state ≡ Following → ⊥)
    → (old.state ≡ Following → new.state ≡ Following → new.figures.measured ≡ old.figures.measured
    → old.figures.measured + 1 < 2 ^ 64
    → (written : List ℕ) (front : List Level) (first : Follower) (cell : Level) (seen : List Level)
    → Followed (taken before) written front old.line first cell seen []
    → Followed (taken after) written front new.line first cell (if took then seen ++ levels else seen) [])
    → ((narrow : Bounds) (spread : ℕ) (more : List Level) → IsOnLine narrow spread (levels ++ more) old → took ≡ true
    → StaysOnLine narrow spread more old new)
    → ((narrow : Bounds) (spread : ℕ) (more : List Level) → IsOnLine narrow spread more old → took ≡ false
    → StaysOnLine narrow spread more old new)
    → Took taken old new before after (some_levels took levels)
took-some taken old new before after levels took recovered awaits up some begun follows stays waits = record {
  recovered = λ setting seen w. subst (λ (l : List Level). Recovered (taken after) setting l [] new)
      (some-joined took seen levels) (recovered setting seen w);
  awaits = λ setting seen w. subst (λ (l : List Level). Awaits (taken after) setting l [] new)
      (some-joined took seen levels) (awaits setting seen w);
  up = up;
  some = some;
  begun = λ none is room. absurd (begun none is);
  follows = λ was is same room first-sample written front first cell seen w.
      subst (λ (l : List Level). Followed (taken after) written front new.line first cell l [])
      (some-joined took seen levels) (follows was is same room written front first cell seen w);
  stays = λ narrow spread more w. by took refl narrow spread more w;
}
  where
    by : (b : Bool) → took ≡ b → (narrow : Bounds) (spread : ℕ) (more : List Level)
        → IsOnLine narrow spread (some_levels b levels ++ more) old → StaysOnLine narrow spread more old new
    by true is narrow spread more w = stays narrow spread more w is
    by false is narrow spread more w = waits narrow spread more w is

-- a call that takes no samples, and keeps how often a line was measured and whether it is followed
pub took-nothing : {A : Type 0} (taken : A → Option (List ℕ)) (old new : Recovery) (before after : A)
    → ((setting : Setting) (seen : List Level) → Recovered (taken before) setting seen [] old
    → Recovered (taken after) setting seen [] new)
    → ((setting : Setting) (seen : List Level) → Awaits (taken before) setting seen [] old
    → Awaits (taken after) setting seen [] new)
    → new.figures.measured ≡ old.figures.measured → new.figures.samples ≡ old.figures.samples → new.state ≡ old.state
    → ((written : List ℕ) (front : List Level) (first : Follower) (cell : Level) (seen : List Level)
    → Followed (taken before) written front old.line first cell seen []
    → Followed (taken after) written front new.line first cell seen [])
    → ((narrow : Bounds) (spread : ℕ) (more : List Level) → IsOnLine narrow spread more old
    → StaysOnLine narrow spread more old new)
    → Took taken old new before after []
took-nothing taken old new before after recovered awaits measured samples state follows stays =
    took-some taken old new before after [] false recovered awaits (omega (arith, measured))
    (λ was. omega (arith, was, samples)) (λ none is. none (sym state ∙ is)) (λ was is same room. follows)
    (λ narrow spread more w is. stays narrow spread more w) (λ narrow spread more w is. stays narrow spread more w)
