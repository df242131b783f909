-- What lies before a place and from it on, and what entries and events come to.
use Rattle.std.proofs.Common.{◌≡◌, ℕ, zero, suc, ◌+◌, ◌<◌, ◌≤◌, Bool, true, false, cond, ltb, List, [], ◌∷◌}
use Rattle.std.proofs.Common.{◌++◌, refl, sym, ap, ap₂, ◌∙◌, arith, append_assoc, not}
use Rattle.std.specs.Prelude.{◌&&◌, min}
use Rattle.std.specs.List.{filter, sum_by}
use Rattle.std.proofs.lemmas.Bool.{ltb-true, lt-ltb, le-ltb}
use Rattle.std.proofs.lemmas.List.{map-append}
use Rattle.std.proofs.lemmas.List.Elements.{filter-append}
use Rattle.std.proofs.lemmas.List.Sums.{sum_by-append}
use Rattle.aes3_frame.specs.Statuses.{validity_of}
use Rattle.aes3_frame.specs.declared.block.Channel.TheVariants.{First, Second}
use Rattle.aes3_text_lines.specs.declared.event.Event.{Event}
use Rattle.aes3_text_lines.specs.declared.sum.Figures.{Figures}
use Rattle.aes3_frame.specs.Ones.{ones_in}
use Rattle.aes3_lock_gaps.specs.Gaps.{Entry}
use Rattle.aes3_watch.specs.Sums.{Notice, event, sum, events, change_of, is_biphase, is_preamble, is_unclosed, more}
use Rattle.aes3_watch.specs.Sums.{no_figures}
use Rattle.aes3_watch_laws.specs.PeriodLaws.{by_block, by_fault, by_mark, counts_at, figures_of, fitted, in_64_bits}
use Rattle.aes3_watch_laws.specs.PeriodLaws.{lost_cells, told_at, within}

-- what lies before a place, and from it on
abbrev pub before : {X : Type 0} → (X → ℕ) → ℕ → List X → List X
before place q xs = filter (λ x. ltb (place x) q) xs

abbrev pub from_on : {X : Type 0} → (X → ℕ) → ℕ → List X → List X
from_on place p xs = filter (λ x. not (ltb (place x) p)) xs

abbrev pub AllBefore : {X : Type 0} → (X → ℕ) → ℕ → List X → Type 0
AllBefore place q [] = Unit {0}
AllBefore place q (x ∷ xs) = (place x < q) × AllBefore place q xs

abbrev pub AllFrom : {X : Type 0} → (X → ℕ) → ℕ → List X → Type 0
AllFrom place p [] = Unit {0}
AllFrom place p (x ∷ xs) = (p ≤ place x) × AllFrom place p xs

pub all-before-join : {X : Type 0} (place : X → ℕ) (q : ℕ) (a b : List X) → AllBefore place q a → AllBefore place q b
    → AllBefore place q (a ++ b)
all-before-join place q [] b h g = g
all-before-join place q (x ∷ a) b h g = (h.0, all-before-join place q a b h.1 g)

pub all-from-join : {X : Type 0} (place : X → ℕ) (p : ℕ) (a b : List X) → AllFrom place p a → AllFrom place p b
    → AllFrom place p (a ++ b)
all-from-join place p [] b h g = g
all-from-join place p (x ∷ a) b h g = (h.0, all-from-join place p a b h.1 g)

pub all-before-more : {X : Type 0} (place : X → ℕ) (p q : ℕ) (a : List X) → p ≤ q → AllBefore place p a
    → AllBefore place q a
all-before-more place p q [] l h = tt
all-before-more place p q (x ∷ a) l h = (let g = h.0 in omega arith, all-before-more place p q a l h.1)

pub all-from-less : {X : Type 0} (place : X → ℕ) (p q : ℕ) (a : List X) → p ≤ q → AllFrom place q a
    → AllFrom place p a
all-from-less place p q [] l h = tt
all-from-less place p q (x ∷ a) l h = (let g = h.0 in omega arith, all-from-less place p q a l h.1)

kept-if : {X : Type 0} (b c : Bool) (x : X) (xs : List X) → b ≡ c → cond b (x ∷ xs) xs ≡ cond c (x ∷ xs) xs
kept-if b c x xs e = ap (λ (v : Bool). cond {A = List _} v (x ∷ xs) xs) e

before-all : {X : Type 0} (place : X → ℕ) (q : ℕ) (a : List X) → AllBefore place q a → before place q a ≡ a
before-all place q [] h = refl
before-all place q (x ∷ a) h =
    kept-if (ltb (place x) q) true x (before place q a) (lt-ltb (place x) q h.0)
    ∙ ap (λ z. x ∷ z) (before-all place q a h.1)

before-none : {X : Type 0} (place : X → ℕ) (q : ℕ) (a : List X) → AllFrom place q a → before place q a ≡ []
before-none place q [] h = refl
before-none place q (x ∷ a) h =
    kept-if (ltb (place x) q) false x (before place q a) (le-ltb (place x) q h.0) ∙ before-none place q a h.1

pub from-all : {X : Type 0} (place : X → ℕ) (p : ℕ) (a : List X) → AllFrom place p a → from_on place p a ≡ a
from-all place p [] h = refl
from-all place p (x ∷ a) h =
    kept-if (not (ltb (place x) p)) true x (from_on place p a) (ap not (le-ltb (place x) p h.0))
    ∙ ap (λ z. x ∷ z) (from-all place p a h.1)

from-none : {X : Type 0} (place : X → ℕ) (p : ℕ) (a : List X) → AllBefore place p a → from_on place p a ≡ []
from-none place p [] h = refl
from-none place p (x ∷ a) h =
    kept-if (not (ltb (place x) p)) false x (from_on place p a) (ap not (lt-ltb (place x) p h.0))
    ∙ from-none place p a h.1

pub before-pass : {X : Type 0} (place : X → ℕ) (q : ℕ) (a b : List X) → AllBefore place q a
    → before place q (a ++ b) ≡ a ++ before place q b
before-pass place q a b h =
    filter-append (λ x. ltb (place x) q) a b ∙ ap (λ z. z ++ before place q b) (before-all place q a h)

pub from-pass : {X : Type 0} (place : X → ℕ) (p : ℕ) (a b : List X) → AllBefore place p a
    → from_on place p (a ++ b) ≡ from_on place p b
from-pass place p a b h =
    filter-append (λ x. not (ltb (place x) p)) a b ∙ ap (λ z. z ++ from_on place p b) (from-none place p a h)

-- from one place on, and from another; and what lies between them
pub twice-from : {X : Type 0} (place : X → ℕ) (a b : ℕ) (xs : List X) → a ≤ b
    → from_on place b (from_on place a xs) ≡ from_on place b xs
twice-from place a b [] l = refl
twice-from place a b (x ∷ xs) l = go (ltb (place x) a) refl (twice-from place a b xs l)
  where
    go : (t : Bool) → ltb (place x) a ≡ t → from_on place b (from_on place a xs) ≡ from_on place b xs
        → from_on place b (cond (not t) (x ∷ from_on place a xs) (from_on place a xs)) ≡ from_on place b (x ∷ xs)
    go true e h =
        h ∙ sym (kept-if (not (ltb (place x) b)) false x (from_on place b xs)
        (ap not (lt-ltb (place x) b (let m = ltb-true (place x) a e in omega arith))))
    go false e h = ap (λ z. cond (not (ltb (place x) b)) (x ∷ z) z) h

pub between : {X : Type 0} (place : X → ℕ) (p q : ℕ) (xs : List X)
    → before place q (from_on place p xs) ≡ within place p q xs
between place p q [] = refl
between place p q (x ∷ xs) = go (ltb (place x) p) (between place p q xs)
  where
    go : (t : Bool) → before place q (from_on place p xs) ≡ within place p q xs
        → before place q (cond (not t) (x ∷ from_on place p xs) (from_on place p xs))
        ≡ cond (not t && ltb (place x) q) (x ∷ within place p q xs) (within place p q xs)
    go true h = h
    go false h = ap (λ z. cond (ltb (place x) q) (x ∷ z) z) h

-- figures
abbrev pub made : ℕ → ℕ → ℕ → ℕ → ℕ → ℕ → ℕ → ℕ → ℕ → ℕ → Figures
made a b c d e f g h i j = record {
  whole = a;
  marked = b;
  fault = c;
  preamble = d;
  biphase = e;
  unclosed = f;
  lost = g;
  invalid_first = h;
  invalid_second = i;
  changes = j;
}

pub same-figures : {a b c d e f g h i j a' b' c' d' e' f' g' h' i' j' : ℕ}
    → a ≡ a' → b ≡ b' → c ≡ c' → d ≡ d' → e ≡ e' → f ≡ f' → g ≡ g' → h ≡ h' → i ≡ i' → j ≡ j'
    → made a b c d e f g h i j ≡ made a' b' c' d' e' f' g' h' i' j'
same-figures {a} {b} {c} {d} {e} {f} {g} {h} {i} {j} {a'} {b'} {c'} {d'} {e'} {f'} {g'} {h'} {i'} {j'}
    p q r s t u v w x y =
    ap₂ (λ m n. made m n c d e f g h i j) p q
    ∙ ap₂ (λ m n. made a' b' m n e f g h i j) r s
    ∙ ap₂ (λ m n. made a' b' c' d' m n g h i j) t u
    ∙ ap₂ (λ m n. made a' b' c' d' e' f' m n i j) v w
    ∙ ap₂ (λ m n. made a' b' c' d' e' f' g' h' m n) x y

abbrev pub plus : Figures → Figures → Figures
plus f g = record {
  whole = f.whole + g.whole;
  marked = f.marked + g.marked;
  fault = f.fault + g.fault;
  preamble = f.preamble + g.preamble;
  biphase = f.biphase + g.biphase;
  unclosed = f.unclosed + g.unclosed;
  lost = f.lost + g.lost;
  invalid_first = f.invalid_first + g.invalid_first;
  invalid_second = f.invalid_second + g.invalid_second;
  changes = f.changes + g.changes;
}

one-more : {X : Type 0} (n : ℕ) (f : X → ℕ) (a b : List X) → n + sum_by f (a ++ b) ≡ n + sum_by f a + sum_by f b
one-more n f a b = let e = sum_by-append f a b in omega arith

pub plus-pass : (g : Figures) (a e : List Entry) (b v : List Event)
    → plus g (figures_of (a ++ e) (b ++ v)) ≡ plus (plus g (figures_of a b)) (figures_of e v)
plus-pass g a e b v =
    same-figures (one-more g.whole (by_block (λ b. 1)) a e) (one-more g.marked by_mark a e)
    (one-more g.fault (by_fault (λ why. 1)) a e) (one-more g.preamble (by_fault is_preamble) a e)
    (one-more g.biphase (by_fault is_biphase) a e) (one-more g.unclosed (by_fault is_unclosed) a e)
    (one-more g.lost lost_cells a e) (one-more g.invalid_first (by_block (λ b. ones_in (validity_of b First))) a e)
    (one-more g.invalid_second (by_block (λ b. ones_in (validity_of b Second))) a e)
    (one-more g.changes change_of b v)

nothing : (n : ℕ) → fitted (n + 0) ≡ fitted n
nothing n = ap fitted (let e : n + 0 ≡ n = omega arith in e)

pub plus-none : (g : Figures) → in_64_bits (plus g (figures_of [] [])) ≡ in_64_bits g
plus-none g =
    same-figures (nothing g.whole) (nothing g.marked) (nothing g.fault) (nothing g.preamble) (nothing g.biphase)
    (nothing g.unclosed) (nothing g.lost) (nothing g.invalid_first) (nothing g.invalid_second) (nothing g.changes)

none-more : (n : ℕ) → fitted (0 + n) ≡ fitted n
none-more n = ap fitted (let e : 0 + n ≡ n = omega arith in e)

pub none-plus : (g : Figures) → in_64_bits (plus no_figures g) ≡ in_64_bits g
none-plus g =
    same-figures (none-more g.whole) (none-more g.marked) (none-more g.fault) (none-more g.preamble)
    (none-more g.biphase)
    (none-more g.unclosed) (none-more g.lost) (none-more g.invalid_first) (none-more g.invalid_second)
    (none-more g.changes)

pub fitted-none : in_64_bits no_figures ≡ no_figures
unfolding fitted
fitted-none = refl

pub fit-more : (n x y : ℕ) → y ≡ x → more (fitted n) x ≡ fitted (n + y)
unfolding more fitted
fit-more n x y e = omega arith

pub fit-same : (n y : ℕ) → y ≡ 0 → fitted n ≡ fitted (n + y)
fit-same n y e = ap fitted (let f : n ≡ n + y = omega arith in f)

-- what is told of the periods that are left, k of them: the first begins at a place and has these figures already
abbrev pub left_told : ℕ → ℕ → ℕ → ℕ → Figures → List Entry → List Event → List Notice
left_told every n zero from g e v = []
left_told every n (suc k) from g e v =
    events (before told_at (min (from + every) n) v)
    ++ sum (record {
      from = from;
      to = min (from + every) n;
      figures = in_64_bits (plus g (figures_of (before counts_at (min (from + every) n) e)
          (before told_at (min (from + every) n) v)));
    }) ∷ left_told every n k (from + every) no_figures (from_on counts_at (from + every) e)
    (from_on told_at (from + every) v)

abbrev the_sum : ℕ → ℕ → Figures → Notice
the_sum from q f = sum (record { from = from; to = q; figures = in_64_bits f })

-- past what lies in the open period
pub left-pass : (every n k from : ℕ) (g : Figures) (a e : List Entry) (b v : List Event)
    → AllBefore counts_at (min (from + every) n) a → AllBefore told_at (min (from + every) n) b
    → left_told every n (suc k) from g (a ++ e) (b ++ v)
    ≡ events b ++ left_told every n (suc k) from (plus g (figures_of a b)) e v
left-pass every n k from g a e b v h l =
    let q = min (from + every) n in
    let r = from + every in
    let m : q ≤ r = omega arith in
    let x = before-pass counts_at q a e h in
    let y = before-pass told_at q b v l in
    let s = from-pass counts_at r a e (all-before-more counts_at q r a m h) in
    let t = from-pass told_at r b v (all-before-more told_at q r b m l) in
    ap₂ (λ i j. events j ++ the_sum from q (plus g (figures_of i j))
    ∷ left_told every n k r no_figures (from_on counts_at r (a ++ e)) (from_on told_at r (b ++ v))) x y
    ∙ ap₂ (λ i j. events (b ++ before told_at q v)
    ++ the_sum from q (plus g (figures_of (a ++ before counts_at q e) (b ++ before told_at q v)))
    ∷ left_told every n k r no_figures i j) s t
    ∙ ap₂ (λ i f. i ++ the_sum from q f
    ∷ left_told every n k r no_figures (from_on counts_at r e) (from_on told_at r v))
    (map-append event b (before told_at q v)) (plus-pass g a (before counts_at q e) b (before told_at q v))
    ∙ append_assoc (events b) (events (before told_at q v))
    (the_sum from q (plus (plus g (figures_of a b)) (figures_of (before counts_at q e) (before told_at q v)))
    ∷ left_told every n k r no_figures (from_on counts_at r e) (from_on told_at r v))

-- to the end of the open period, in which nothing more lies
pub left-end : (every n k from q : ℕ) (g : Figures) (e : List Entry) (v : List Event) → q ≡ min (from + every) n
    → AllFrom counts_at q e → AllFrom told_at q v
    → left_told every n (suc k) from g e v
    ≡ the_sum from q g
    ∷ left_told every n k (from + every) no_figures (from_on counts_at (from + every) e)
    (from_on told_at (from + every) v)
left-end every n k from q g e v i h l =
    let r = from + every in
    let rest = left_told every n k r no_figures (from_on counts_at r e) (from_on told_at r v) in
    ap (λ z. events (before told_at z v)
    ++ the_sum from z (plus g (figures_of (before counts_at z e) (before told_at z v))) ∷ rest) (sym i)
    ∙ ap₂ (λ x y. events y ++ the_sum from q (plus g (figures_of x y)) ∷ rest)
    (before-none counts_at q e h) (before-none told_at q v l)
    ∙ ap (λ f. sum (record { from = from; to = q; figures = f }) ∷ rest) (plus-none g)

pub left-next : (every n k from : ℕ) (g : Figures) (e : List Entry) (v : List Event) → from + every ≤ n
    → AllFrom counts_at (from + every) e → AllFrom told_at (from + every) v
    → left_told every n (suc k) from g e v
    ≡ the_sum from (from + every) g ∷ left_told every n k (from + every) no_figures e v
left-next every n k from g e v m h l =
    left-end every n k from (from + every) g e v (omega arith) h l
    ∙ ap₂ (λ x y. the_sum from (from + every) g ∷ left_told every n k (from + every) no_figures x y)
    (from-all counts_at (from + every) e h) (from-all told_at (from + every) v l)
