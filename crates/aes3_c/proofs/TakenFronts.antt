-- Many cells that a lock takes part by part.
use Rattle.std.proofs.Common.{◌≡◌, ◌≢◌, ℕ, ◌+◌, ◌-◌, ◌<◌, ◌≤◌, false, true, List, ◌++◌, take, drop, refl, ap, ◌∙◌, sym, subst}
use Rattle.std.proofs.Common.{None, Some, Option, [], append-nil, append_assoc, arith, length, length-append}
use Rattle.std.specs.Prelude.{option_map, option_to_list}
use Rattle.std.specs.Option.{is_some}
use Rattle.std.proofs.lemmas.List.{drop-drop, length-take-le, take-take, take_at}
use Rattle.std.proofs.Math.Seq.{take-add}
use Rattle.aes3_level.specs.declared.level.Level.{Level}
use Rattle.aes3_lock.specs.declared.report.Ending.{Ending}
use Rattle.aes3_c.specs.declared.taking.Took.{Took}
use Rattle.aes3_lock.specs.Reports.{decided}
use Rattle.aes3_lock.specs.Following.{Follows, HeldBlock, LockState, report_in}
use Rattle.aes3_lock.specs.Taking.{TookCells}
use Rattle.aes3_c.specs.Taking.{TookFirst, TookQuiet}
use Rattle.aes3_lock.proofs.PushedWords.{no-ending}

-- some cells from one on, and some more behind them
pub joined : (line c : List Level) (first a b : ℕ)
    → (c ++ take a (drop first line)) ++ take b (drop (first + a) line) ≡ c ++ take (a + b) (drop first line)
joined line c first a b =
    append_assoc c (take a (drop first line)) (take b (drop (first + a) line))
    ∙ ap (λ x. c ++ x) (sym (take-add a b (drop first line)
    ∙ ap (λ x. take a (drop first line) ++ take b x) (drop-drop a first line)))

-- no cells
pub quiet-none : (k : LockState) (line : List Level) → TookQuiet k k line 0
quiet-none k line = record {
  seen = omega arith;
  follows = λ c f. subst (Follows k) (sym (append-nil c)) f;
  none = λ c f. ap decided (append-nil c);
}

-- cells that decide nothing
pub took-quiet : (j k : LockState) (line : List Level) (len : ℕ) (took : Took) → TookFirst j k line len took
    → is_some took.ending ≡ false → TookQuiet j k line took.cells
took-quiet j k line len took t e = record {
  seen = t.seen;
  follows = t.follows;
  none = λ c f. t.report c f ∙ ap (λ r. decided c ++ r) (no-ending (report_in k) took.ending e)
      ∙ append-nil (decided c);
}

pub quiet-more : (i j k : LockState) (line : List Level) (first a b : ℕ) → TookQuiet i j (drop first line) a
    → TookQuiet j k (drop (first + a) line) b → TookQuiet i k (drop first line) (a + b)
quiet-more i j k line first a b s t = record {
  seen = let p = s.seen in let q = t.seen in omega (arith, p, q);
  follows = λ c f. subst (Follows k) (joined line c first a b) (t.follows (c ++ take a (drop first line)) (s.follows c f));
  none = λ c f. ap decided (sym (joined line c first a b)) ∙ t.none (c ++ take a (drop first line)) (s.follows c f)
      ∙ s.none c f;
}

pub quiet-took : (j k : LockState) (line : List Level) (n len : ℕ) → TookQuiet j k line n → n ≡ len
    → TookFirst j k line len (record { cells = n; ending = None })
quiet-took j k line n len t e = record {
  within = omega (arith, e);
  all = λ _. e;
  some = λ h. omega (arith, e, h);
  seen = t.seen;
  follows = t.follows;
  report = λ c f. t.none c f ∙ sym (append-nil (decided c));
  last = λ some. absurd (some refl);
  held = λ c f. tt;
}

-- behind them some of which the last decides a report
some-ending : (o : Option Ending) → is_some o ≡ true → o ≢ None
some-ending None e z = cc
some-ending (Some x) e z = cc

pub took-more : (i j k : LockState) (line : List Level) (first a n len : ℕ) (took : Took)
    → TookQuiet i j (drop first line) a → TookFirst j k (drop (first + a) line) n took → 0 < n → a + n ≤ len
    → is_some took.ending ≡ true
    → TookFirst i k (drop first line) len (record { cells = a + took.cells; ending = took.ending })
took-more i j k line first a n len took s t some few ended = record {
  within = let w = t.within in omega (arith, w, few);
  all = λ none. absurd (some-ending took.ending ended none);
  some = λ _. let w = t.some some in omega (arith, w);
  seen = let p = s.seen in let q = t.seen in omega (arith, p, q);
  follows = λ c f. subst (Follows k) (joined line c first a took.cells) (t.follows (c ++ take a (drop first line)) (s.follows c f));
  report = λ c f. ap decided (sym (joined line c first a took.cells))
      ∙ t.report (c ++ take a (drop first line)) (s.follows c f)
      ∙ ap (λ x. x ++ option_to_list (option_map (report_in k) took.ending)) (s.none c f);
  last = λ e c f.
      let w = t.some some in
      ap (λ m. decided (c ++ take m (drop first line))) (let m : a + took.cells - 1 ≡ a + (took.cells - 1) = omega (arith, w) in m)
      ∙ ap decided (sym (joined line c first a (took.cells - 1)))
      ∙ t.last e (c ++ take a (drop first line)) (s.follows c f) ∙ s.none c f;
  held = λ c f. subst (λ v. HeldBlock k.words v took.ending) (joined line c first a took.cells)
      (t.held (c ++ take a (drop first line)) (s.follows c f));
}

-- the same of other cells that begin with these
pub took-same : (j k : LockState) (a b : List Level) (len : ℕ) (took : Took) → TookFirst j k a len took
    → ((n : ℕ) → n ≤ len → take n a ≡ take n b) → TookFirst j k b took.cells took
took-same j k a b len took t e =
    let w = t.within in
    let same = e took.cells w in
    record {
      within = omega arith;
      all = λ _. refl;
      some = λ h. h;
      seen = t.seen;
      follows = λ c f. subst (λ v. Follows k (c ++ v)) same (t.follows c f);
      report = λ c f. ap (λ v. decided (c ++ v)) (sym same) ∙ t.report c f;
      last = λ ended c f. ap (λ v. decided (c ++ v)) (sym (e (took.cells - 1) (omega (arith, w)))) ∙ t.last ended c f;
      held = λ c f. subst (λ v. HeldBlock k.words (c ++ v) took.ending) same (t.held c f);
    }

-- the first of some cells, and how many they are
pub front-taken : {j k : LockState} {rest : List Level} {ending : Option Ending} (line some : List Level) (len n : ℕ)
    (t : TookCells j k some rest ending) → some ≡ take len line → len ≤ length line → (ending ≡ None → rest ≡ [])
    → (0 < length some → length rest < length some) → n ≡ length t.front
    → TookFirst j k line len (record { cells = n; ending = ending })
front-taken {j} {k} {rest} {ending} line some len n t e fits all less count =
    let l : length some ≡ len = ap length e ∙ length-take-le len line fits in
    let p = ap length t.parts ∙ length-append t.front rest in
    let within : n ≤ len = omega (arith, l, p, count) in
    let front : t.front ≡ take n line =
    sym (ap (λ m. take m line) count
    ∙ sym (take-take (length t.front) len line (omega (arith, within, count)))
    ∙ ap (take (length t.front)) (sym e ∙ t.parts)
    ∙ take_at t.front rest (length t.front) refl) in
    record {
      within = within;
      all = λ none. let z = ap length (all none) in omega (arith, l, p, count, z);
      some = λ h. let s = less (omega (arith, l, h)) in omega (arith, p, count, s);
      seen = let s = t.seen in omega (arith, s, count);
      follows = λ c f. subst (λ d. Follows k (c ++ d)) front (t.follows c f);
      report = λ c f. ap (λ d. decided (c ++ d)) (sym front) ∙ t.report c f;
      last = λ q c f.
          ap (λ d. decided (c ++ d))
          (sym (take-take (n - 1) n line (omega arith)) ∙ ap (take (n - 1)) (sym front) ∙ ap (λ m. take (m - 1) t.front) count)
          ∙ t.last q c f;
      held = λ c f. subst (λ d. HeldBlock k.words (c ++ d) ending) front (t.held c f);
    }
