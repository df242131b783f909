-- A capture that comes in pieces: what its recovery wrote so far, and what is owed of that.
use Rattle.std.proofs.Common.{◌≡◌, ◌≤◌, ℕ, List, [], ◌++◌, Option, Some, None}
use Rattle.std.proofs.Common.{refl, sym, ap, ap₂, subst, ◌∙◌, arith, append-nil, append_assoc, inl, inr, length, min, take}
use Rattle.std.proofs.lemmas.Bool.{cases_lt}
use Rattle.std.proofs.lemmas.List.{length-take, take_all, take-take}
use Rattle.aes3_level.specs.declared.level.Level.{Level}
use Rattle.aes3_capture_recovery.specs.Beginning.{Awaits, BeginsWith, IsLastingBehind, IsLineBehind}
use Rattle.aes3_capture_recovery.specs.Levels.{levels_of_samples}
use Rattle.aes3_capture_recovery.specs.Taking.{Took}
use Rattle.aes3_capture_recovery.specs.declared.recovery.Recovery.{Recovery}
use Rattle.aes3_capture_recovery.specs.declared.recovery.parts.RecoveryParts.{RecoveryParts}
use Rattle.aes3_capture_recovery.specs.declared.edges.Unit.{Unit}
use Rattle.aes3_capture_recovery.proofs.Taking.{took-all, took-join}
use Rattle.aes3_c.specs.Capturing.{AreCellsOf, RanOver, packed_by, period_of}
use Rattle.aes3_c.specs.Owed.{owed_in}
use Rattle.aes3_c.specs.Streaming.{Drained, EndedMore, EndedOctets, IsEnded, IsNew, IsTaking, TookMore, TookOctets, TookTooMuch, told_itself}
use Rattle.aes3_c.specs.declared.streaming.Aes3Recovery.{Aes3Recovery}

-- a sink tells these octets before and behind
pub took-octets : {A : Type 0} (taken : A → Option (List ℕ)) (old new : Recovery) (before after : A) (x y : List ℕ)
    (levels : List Level) → taken before ≡ Some x → taken after ≡ Some y → Took taken old new before after levels
    → TookOctets old new x y levels
took-octets {A} taken old new before after x y levels b a t =
    subst (λ (o : Option (List ℕ)). Took told_itself old new o (Some y) levels) b
    (subst (λ (o : Option (List ℕ)). Took told_itself old new (taken before) o levels) a
    (record {
      recovered = t.recovered;
      awaits = t.awaits;
      up = t.up;
      some = t.some;
      begun = t.begun;
      follows = t.follows;
      stays = t.stays;
    }))

pub ended-octets : {A : Type 0} (taken : A → Option (List ℕ)) (old new : Recovery) (before after : A) (x y : List ℕ)
    (levels : List Level) → taken before ≡ Some x → taken after ≡ Some y → RanOver taken old new before after levels
    → EndedOctets old new x y levels
ended-octets {A} taken old new before after x y levels b a t =
    subst (λ (o : Option (List ℕ)). RanOver told_itself old new o (Some y) levels) b
    (subst (λ (o : Option (List ℕ)). RanOver told_itself old new (taken before) o levels) a
    (record {
      took = record { recovered = t.took.recovered; joined = t.took.joined; lasts = t.took.lasts };
      finds = t.finds;
    }))

-- samples, and then the end
pub ended-behind : (old mid new : Recovery) (x y z : List ℕ) (levels : List Level) → TookOctets old mid x y levels
    → EndedOctets mid new y z [] → EndedOctets old new x z levels
ended-behind old mid new x y z levels p q = record {
  took = took-all p q.took;
  finds = λ setting seen first window a b.
      q.finds setting (seen ++ levels) first window (p.awaits setting seen a)
      (subst (λ (l : List Level). BeginsWith setting.known l first window) (sym (append-nil (seen ++ levels))) b);
}

-- what a recovery writes from the first sample on
pub cells-of : (period : ℕ) (levels : List Level) (octets : List ℕ) (first now : Recovery) → IsNew period first
    → EndedOctets first now [] octets levels → AreCellsOf period levels octets now
cells-of period levels octets first now fresh ran =
    let none : period ≡ 0 → period_of period ≡ None = λ is. ap period_of is in
    let await : period ≡ 0 → Awaits (Some []) (packed_by period) [] [] first
    = λ is. fresh.awaits (packed_by period) refl refl (none is) in
    record {
      recovered = ran.took.recovered (packed_by period) [] (fresh.recovered (packed_by period) refl refl);
      finds = λ is start window b. ran.finds (packed_by period) [] start window (await is)
          (subst (λ (k : Option ℕ). BeginsWith k levels start window) (sym (none is)) b);
      joined = λ is follows one start counts l.
          ran.took.joined follows one (packed_by period) [] start counts (await is)
          (subst (λ (k : Option ℕ). IsLineBehind k levels start counts) (sym (none is)) l);
      lasts = λ is start counts l.
          ran.took.lasts (packed_by period) [] start counts (await is)
          (subst (λ (k : Option ℕ). IsLastingBehind k levels start counts) (sym (none is)) l);
    }

-- what was put, behind what was put before
put-behind : (octets more owed was : List ℕ) → was ≡ more ++ owed → octets ++ was ≡ (octets ++ more) ++ owed
put-behind octets more owed was is = ap (λ l. octets ++ l) is ∙ sym (append_assoc octets more owed)

-- samples were taken
pub takes-more : (period : ℕ) (levels taken : List Level) (octets more : List ℕ) (old new : Aes3Recovery)
    → IsTaking period levels octets old → TookMore (octets ++ owed_in old.owed) old new more taken
    → IsTaking period (levels ++ taken) (octets ++ more) new
takes-more period levels taken octets more old new k t =
    let e = t.each octets refl k.now k.kept_is in
    record {
      first = k.first;
      fresh = k.fresh;
      now = e.0;
      kept_is = e.1;
      took = took-join refl k.took
          (subst (λ (l : List ℕ). TookOctets k.now e.0 (octets ++ owed_in old.owed) l taken)
          (sym (append_assoc octets more (owed_in new.owed))) e.2);
      goes_on = t.is;
    }

-- the end was taken
pub ends-more : (period : ℕ) (levels : List Level) (octets more : List ℕ) (old new : Aes3Recovery)
    → IsTaking period levels octets old → EndedMore (octets ++ owed_in old.owed) old new more
    → IsEnded period levels (octets ++ more) new
ends-more period levels octets more old new k t =
    let e = t.each octets refl k.now k.kept_is in
    record {
      now = e.0;
      kept_is = e.1;
      cells = cells-of period levels ((octets ++ more) ++ owed_in new.owed) k.first e.0 k.fresh
          (ended-behind k.first k.now e.0 [] (octets ++ owed_in old.owed) ((octets ++ more) ++ owed_in new.owed) levels k.took
          (subst (λ (l : List ℕ). EndedOctets k.now e.0 (octets ++ owed_in old.owed) l [])
          (sym (append_assoc octets more (owed_in new.owed))) e.2));
      ended = t.is;
    }

-- only what was owed was put
pub takes-drained : (period : ℕ) (levels none : List Level) (octets more : List ℕ) (old new : Aes3Recovery) → none ≡ []
    → IsTaking period levels octets old → Drained old new more → IsTaking period (levels ++ none) (octets ++ more) new
takes-drained period levels none octets more old new none_is k d =
    let levels_are : levels ≡ levels ++ none = sym (append-nil levels) ∙ ap (λ l. levels ++ l) (sym none_is) in
    let octets_are = put-behind octets more (owed_in new.owed) (owed_in old.owed) d.owes in
    record {
      first = k.first;
      fresh = k.fresh;
      now = k.now;
      kept_is = k.kept_is ∙ sym d.same;
      took = subst (λ (l : List Level). TookOctets k.first k.now [] ((octets ++ more) ++ owed_in new.owed) l) levels_are
          (subst (λ (l : List ℕ). TookOctets k.first k.now [] l levels) octets_are k.took);
      goes_on = d.ended_is ∙ k.goes_on;
    }

pub waits-drained : (period : ℕ) (levels : List Level) (octets more : List ℕ) (old new : Aes3Recovery)
    → IsTaking period levels octets old → Drained old new more → IsTaking period levels (octets ++ more) new
waits-drained period levels octets more old new k d =
    subst (λ (l : List Level). IsTaking period l (octets ++ more) new) (append-nil levels)
    (takes-drained period levels [] octets more old new refl k d)

pub ended-drained : (period : ℕ) (levels : List Level) (octets more : List ℕ) (old new : Aes3Recovery)
    → IsEnded period levels octets old → Drained old new more → IsEnded period levels (octets ++ more) new
ended-drained period levels octets more old new k d = record {
  now = k.now;
  kept_is = k.kept_is ∙ sym d.same;
  cells = subst (λ (l : List ℕ). AreCellsOf period levels l k.now)
      (put-behind octets more (owed_in new.owed) (owed_in old.owed) d.owes) k.cells;
  ended = d.ended_is ∙ k.ended;
}

-- What was owed was put, more was owed, and of that some was put: `told` is what was put before with what was owed.
pub told-more : (told before first mid old more all now : List ℕ) → before ++ old ≡ told → first ++ mid ≡ old → mid ≡ []
    → all ++ now ≡ first ++ more → told ++ more ≡ before ++ (all ++ now)
told-more told before first mid old more all now is put none both =
    ap (λ l. l ++ more) (sym is ∙ ap (λ l. before ++ l) (sym put ∙ ap (λ l. first ++ l) none ∙ append-nil first))
    ∙ append_assoc before first more
    ∙ ap (λ l. before ++ l) (sym both)

-- the first two octets of a front of samples are a front of all
pub few-front : (unit other : Unit) (whole : ℕ) (samples told : List ℕ) (old : RecoveryParts) → unit ≡ other
    → TookTooMuch told old (levels_of_samples unit (take 2 (take whole samples)))
    → (few : ℕ) × (few ≤ 2) × TookTooMuch told old (levels_of_samples other (take few samples))
few-front unit other whole samples told old same t = elim (cases_lt whole 2) [
  | inl one ↦
      let len = length-take whole samples in (
        whole,
        omega (arith, one),
        subst (TookTooMuch told old) (ap₂ levels_of_samples same (take_all 2 (take whole samples) (omega (arith, one, len)))) t,
      )
  | inr more ↦ (
    2,
    omega arith,
    subst (TookTooMuch told old) (ap₂ levels_of_samples same (take-take 2 whole samples more)) t,
  )
]

-- the first two octets of the first ones
pub two-of-front : (most : ℕ) (samples : List ℕ) → most ≡ min (length samples) 4032 → take 2 (take most samples) ≡ take 2 samples
two-of-front most samples is = elim (cases_lt most 2) [
  | inl one ↦ ap (take 2) (take_all most samples (omega (arith, is, one)))
  | inr more ↦ take-take 2 most samples more
]
