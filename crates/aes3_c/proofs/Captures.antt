-- Samples of a capture, all taken, and their cells in memory that is lent.
use Rattle.std.proofs.Common.{◌≡◌, ◌≤◌, ◌<◌, ◌+◌, ◌%◌, ◌^◌, ◌==◌, ℕ, List, [], ◌++◌, Bool, true, false, IsTrue}
use Rattle.std.proofs.Common.{Option, Some, None, Result, Ok, Err, IfOk, OnErr, cond, drop, get_or, length, min, take}
use Rattle.std.proofs.Common.{refl, sym, ap, ap₂, subst, ◌∙◌, arith, append-nil}
use Rattle.std.specs.Prelude.{unwrap_or}
use Rattle.std.proofs.lemmas.List.{drop_at, take_at}
use Rattle.aes3_level.specs.declared.level.Level.{Level}
use Rattle.aes3_cell.specs.declared.form.Form.TheVariants.{Packed}
use Rattle.aes3_capture_recovery.specs.Beginning.{Awaits, BeginsWith, IsLastingBehind, IsLineBehind}
use Rattle.aes3_capture_recovery.specs.Endings.{finished}
use Rattle.aes3_capture_recovery.specs.Levels.{bit_of_line, bits_of_sample, levels_of_samples}
use Rattle.aes3_capture_recovery.specs.Queues.{Queued, Writes, waiting}
use Rattle.aes3_capture_recovery.specs.Recovering.{AreRecovered, Recovered, Setting}
use Rattle.aes3_capture_recovery.specs.Taking.{Took}
use Rattle.aes3_capture_recovery.specs.declared.edges.Unit.TheVariants.{Octets, Pairs}
use Rattle.aes3_capture_recovery.specs.declared.recovery.Recovery.{Recovery}
use Rattle.aes3_capture_recovery.specs.declared.recovery.State.TheVariants.{Following}
use Rattle.aes3_capture_recovery.proofs.Awaiting.{awaits-finds}
use Rattle.aes3_capture_recovery.proofs.Taking.{took-all, took-end}
use Rattle.aes3_c.specs.Capturing.{AreCellsOf, AreFigures, IsCaptured, RanOver, period_of, unit_of}
use Rattle.aes3_c.specs.Putting.{put_into}
use Rattle.aes3_c.specs.Room.{lent_to, taken_in}
use Rattle.aes3_c.specs.declared.capture.Aes3Capture.{Aes3Capture}
use Rattle.aes3_c.specs.declared.room.RoomSink.{RoomSink}
use Rattle.aes3_capture_recovery.proofs.Unfailing.{ok-unless}

-- the bit is one that a sample has
has-bit : (b : Bool) (bit : ℕ) → bit_of_line (cond b (Pairs (bit % 16)) (Octets (bit % 8)))
    < bits_of_sample (cond b (Pairs (bit % 16)) (Octets (bit % 8)))
has-bit true bit = omega arith
has-bit false bit = omega arith

pub unit-has-bit : (octets bit : ℕ) → bit_of_line (unit_of octets bit) < bits_of_sample (unit_of octets bit)
unit-has-bit octets bit = has-bit (octets == 2) bit

-- the end, behind all samples
pub ran-over : {A R E : Type 0} {taken : A → Option (List ℕ)} {first : Recovery} {start : A} {levels : List Level}
    (result : Result R E) (old new : Recovery) (before after : A) → Took taken first old start before levels
    → new.figures.samples ≡ old.figures.samples
    → ((setting : Setting) (seen : List Level) → Recovered (taken before) setting seen [] old
    → IfOk result (λ x. (cells : List Level) × AreRecovered setting.known seen cells new
    × (taken after ≡ Some (setting.begun ++ finished setting.form cells))))
    → IfOk result (λ x. old.figures.measured ≤ new.figures.measured)
    → ((old.state ≡ Following → ⊥) → new.state ≡ Following → old.figures.measured + 1 < 2 ^ 64
    → IfOk result (λ x. old.figures.measured < new.figures.measured))
    → (old.found ≡ true → old.count ≡ 0 → (begun : List ℕ) (all : List Level)
    → Queued (taken before) begun old.line.queue.form (waiting old.line.queue) all
    → IfOk result (λ x. Writes (taken after) begun old.line.queue.form all))
    → (old.count ≡ 0 → new.figures.measured ≡ old.figures.measured)
    → IfOk result (λ x. RanOver taken first new start after levels)
ran-over {A} {R} {E} {taken} {first} {start} {levels} (Ok v) old new before after p samples recovered up begun writes kept =
    record {
      took = took-all p (took-end taken old new before after samples recovered up begun writes kept);
      finds = λ setting seen first window a b.
          let some = awaits-finds (taken before) setting (seen ++ levels) old first window b (p.awaits setting seen a) in
          omega (arith, some, up);
    }
ran-over (Err e) old new before after p samples recovered up begun writes kept = tt

-- what stands behind the same front is the same
same-behind : (front xs ys : List ℕ) → front ++ xs ≡ front ++ ys → xs ≡ ys
same-behind front xs ys e =
    sym (drop_at front xs (length front) refl) ∙ ap (drop (length front)) e ∙ drop_at front ys (length front) refl

same-some : (xs ys : List ℕ) → Some xs ≡ Some ys → xs ≡ ys
same-some xs ys e = ap (λ o. unwrap_or o []) e

-- by what sinks tell they know whether they have the same memory
pub record AreSame (old new : RoomSink) (octets : List ℕ) : Type 0 where
  pub reference : new.memory.ghost_name ≡ old.memory.ghost_name
  pub was : new.was.octets ≡ old.was.octets
  pub given : new.given.octets ≡ octets

pub same-sink : (old new : RoomSink) (octets : List ℕ) → taken_in new ≡ lent_to old ++ octets → AreSame old new octets
same-sink old new octets e =
    let long : length new.was.octets ≡ length old.was.octets = ap (λ l. get_or l 1 0) e in
    let rest : new.was.octets ++ new.given.octets ≡ old.was.octets ++ octets = ap (drop 2) e in
    let was : new.was.octets ≡ old.was.octets
    = sym (take_at new.was.octets new.given.octets (length old.was.octets) long)
    ∙ ap (take (length old.was.octets)) rest
    ∙ take_at old.was.octets octets (length old.was.octets) refl in
    record {
      reference = ap (λ l. get_or l 0 0) e;
      was = was;
      given = same-behind old.was.octets new.given.octets octets
          (ap (λ x. x ++ new.given.octets) (sym was) ∙ rest);
    }

-- what a recovery from the first sample on gives a sink
pub record Gave (period : ℕ) (levels : List Level) (now : Recovery) (old new : RoomSink) : Type 0 where
  pub octets : List ℕ
  pub cells : AreCellsOf period levels octets now
  pub same : AreSame old new octets

module _ (period : ℕ) (levels : List Level) (old now : Recovery) (s t : RoomSink) (empty : s.given.octets ≡ []) where
  abbrev setting : Setting
  setting = record { begun = lent_to s; form = Packed; known = period_of period }

  start : Some (lent_to s) ≡ Some (taken_in s)
  start = ap Some (sym (append-nil (lent_to s)) ∙ ap (λ x. lent_to s ++ x) (sym empty))

  none : period ≡ 0 → period_of period ≡ None
  none is = ap period_of is

  pub gave :
      ((w : Setting) → w.form ≡ Packed → w.known ≡ period_of period → Recovered (Some w.begun) w [] [] old)
      → ((w : Setting) → w.form ≡ Packed → w.known ≡ period_of period → period_of period ≡ None
      → Awaits (Some w.begun) w [] [] old)
      → RanOver (λ (x : RoomSink). Some (taken_in x)) old now s t levels → Gave period levels now s t
  gave fresh awaits ran =
      let r = ran.took.recovered setting []
      (subst (λ (x : Option (List ℕ)). Recovered x setting [] [] old) start (fresh setting refl refl)) in
      let octets = finished Packed r.cells in
      let await : period ≡ 0 → Awaits (Some (taken_in s)) setting [] [] old
      = λ is. subst (λ (x : Option (List ℕ)). Awaits x setting [] [] old) start (awaits setting refl refl (none is)) in
      record {
        octets = octets;
        cells = record {
          recovered = record { cells = r.cells; recovered = r.recovered; samples = r.samples; tells = refl };
          finds = λ is first window b. ran.finds setting [] first window (await is)
              (subst (λ (k : Option ℕ). BeginsWith k levels first window) (sym (none is)) b);
          joined = λ is follows one first counts l.
              let w = ran.took.joined follows one setting [] first counts (await is)
              (subst (λ (k : Option ℕ). IsLineBehind k levels first counts) (sym (none is)) l) in
              record {
                start = w.start;
                writes = record {
                  more = w.writes.more;
                  tells = ap Some (same-behind (lent_to s) octets _
                      (sym (same-some _ _ r.tells) ∙ same-some _ _ w.writes.tells));
                };
              };
          lasts = λ is first counts l.
              let w = ran.took.lasts setting [] first counts (await is)
              (subst (λ (k : Option ℕ). IsLastingBehind k levels first counts) (sym (none is)) l) in (
                w.0,
                record {
                  start = w.1.start;
                  writes = record {
                    more = w.1.writes.more;
                    tells = ap Some (same-behind (lent_to s) octets _
                        (sym (same-some _ _ r.tells) ∙ same-some _ _ w.1.writes.tells));
                  };
                },
              );
        };
        same = same-sink s t octets (same-some _ _ r.tells);
      }

-- octets that are no more than there is room for, by what a sink says
has-room : (fits : Bool) (octets room : ℕ) → (fits ≡ false → room < octets) → octets ≤ room → IsTrue fits
has-room true octets room none within = refl
has-room false octets room none within = let more = none refl in absurd (omega (arith, more, within))

-- what the caller has at the end
pub is-captured : (unit bit period : ℕ) (samples old new : List ℕ) (found : Aes3Capture) (now : Recovery) (s t : RoomSink)
    → s.was.octets ≡ old → Gave period (levels_of_samples (unit_of unit bit) samples) now s t → new ≡ t.memory.now
    → found.octets ≡ t.count → AreFigures found now → IsCaptured unit bit period samples old new found t.fits
is-captured unit bit period samples old new found now s t was gave stands count figures =
    let memory : t.was.octets ≡ old = gave.same.was ∙ was in
    let long : length t.was.octets ≡ length old = ap length memory in
    let all : length t.given.octets ≡ length gave.octets = ap length gave.same.given in
    record {
      octets = gave.octets;
      now = now;
      cells = gave.cells;
      put = stands ∙ t.put.0 ∙ ap₂ put_into memory gave.same.given;
      count = count ∙ t.put.1 ∙ ap₂ min all long;
      all_fit = (
        λ is. let within = t.put.2 is in omega (arith, within, all, long),
        λ within. has-room t.fits (length t.given.octets) (length t.was.octets) t.put.3 (omega (arith, within, all, long)),
      );
      figures = figures;
    }
