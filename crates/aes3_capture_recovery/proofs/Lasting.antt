-- A line that was found is kept, from the last edge of the runs in which it was found on.
use Rattle.std.proofs.Common.{ℕ, zero, suc, List, [], ◌∷◌, ◌++◌, ◌≡◌, ◌<◌, ◌≤◌, ◌+◌, ◌-◌, ◌*◌, ◌/◌, ◌^◌, Option, Some, None, arith}
use Rattle.std.proofs.Common.{refl, sym, ap, ◌∙◌, subst, append_assoc, take, length, get_or}
use Rattle.std.proofs.Math.Nat.{mul-le-mul_left, mul-le-mul_right, pow-succ'}
use Rattle.std.proofs.lemmas.List.{take_at}
use Rattle.aes3_level.specs.declared.level.Level.{Level}
use Rattle.aes3_capture.specs.declared.follower.Bounds.{Bounds}
use Rattle.aes3_capture.specs.declared.follower.Follower.{Follower}
use Rattle.aes3_capture.specs.Captures.{IsAbout, IsBetween, SpreadsLate, mean_with, wander}
use Rattle.aes3_capture.specs.Directions.{IsBorne, IsWider}
use Rattle.aes3_capture.specs.Following.{Counted, CountedAll, Follows}
use Rattle.aes3_capture.proofs.Mirror.{Displaced, displaced-by-numbers}
use Rattle.aes3_capture_recovery.specs.Beginning.{AreFindable, Begun, IsLastingLine}
use Rattle.aes3_capture_recovery.specs.Finding.{AllowsCells, AreCapturedRuns, FollowsLine, IsLasting, IsPeriodOf}
use Rattle.aes3_capture_recovery.specs.Keeping.{AreNear, IsKeepable, IsKept, drift}
use Rattle.aes3_capture_recovery.specs.Recovering.{Setting}
use Rattle.aes3_capture_recovery.specs.declared.recovery.Recovery.{Recovery}
use Rattle.aes3_capture_recovery.proofs.Found.{spreads-first, spreads-take}
use Rattle.aes3_capture_recovery.proofs.Keeping.{edge-next, off-most, run-ahead}

-- A follower of a line, and how much further from it than its cells carry them the grids lie.
record IsAlong (f : Follower) (narrow : Bounds) (spread near far : ℕ) (ahead : List ℕ) : Type 0 where
  pub late : ℕ
  pub later : ℕ
  pub lasting : IsLasting narrow spread late later
  pub displaced : ℕ
  pub first : ℕ
  pub second : ℕ
  pub wide : IsWider f.bounds narrow
  pub borne : IsBorne f.bounds spread late later
  pub follows : Follows f first second displaced 0 0
  pub first_side : IsBetween late first spread
  pub second_side : IsBetween later second spread
  pub places : AreNear f (drift f.bounds narrow) first second displaced near far
  pub counts : List ℕ
  pub captured : SpreadsLate narrow spread late later displaced counts ahead

along-next : (f g : Follower) (narrow : Bounds) (spread near far run n : ℕ) (ahead : List ℕ) → Counted f run n g
    → IsAlong f narrow spread near far (run ∷ ahead) → IsAlong g narrow spread (far - far / 16) near ahead × (g.bounds ≡ f.bounds)
along-next f g narrow spread near far run n ahead counted a = go a.counts a.captured
  where
    go : (counts : List ℕ) → SpreadsLate narrow spread a.late a.later a.displaced counts (run ∷ ahead)
        → IsAlong g narrow spread (far - far / 16) near ahead × (g.bounds ≡ f.bounds)
    go [] captured = absurd captured
    go (m ∷ counts) captured =
        let bounds : g.bounds ≡ f.bounds = counted.turned.bounds_is ∙ counted.passed.bounds_is in
        let is_run = run-ahead f narrow spread a.late a.later a.second a.displaced m (65536 * run) captured.0 a.borne a.wide
        a.second_side captured.1 captured.2 captured.3 in
        let edge = edge-next f g narrow spread a.later a.first a.second a.displaced run n m captured.0 near far counted a.follows
        a.second_side captured.2 captured.3 is_run a.places in (
          record {
            late = a.later;
            later = a.late;
            lasting = record {
              near = a.lasting.near;
              above = a.lasting.below;
              below = a.lasting.above;
            };
            displaced = captured.0;
            first = mean_with a.second captured.0;
            second = a.first;
            wide = rw bounds a.wide;
            borne = rw bounds (record { narrow = a.borne.narrow; above = a.borne.below; below = a.borne.above });
            follows = edge.follows;
            first_side = edge.side;
            second_side = a.first_side;
            places = subst (λ (b : Bounds). AreNear g (drift b narrow) (mean_with a.second captured.0) a.first captured.0
                (far - far / 16) near) (sym bounds) edge.places;
            counts = counts;
            captured = captured.4;
          },
          bounds,
        )

-- How far, behind so many edges of each direction.
shrunk : ℕ → ℕ → ℕ
shrunk n zero = n
shrunk n (suc k) = shrunk n k - shrunk n k / 16

shrunk-none : (n : ℕ) → n ≡ shrunk n 0
unfolding shrunk
shrunk-none n = refl

shrunk-most : (n k : ℕ) → 16 ^ k * shrunk n k ≤ 15 ^ k * n + 15 * 16 ^ k
unfolding shrunk
shrunk-most n zero = let a : 1 * n ≤ 1 * n + 15 * 1 = omega arith in a
shrunk-most n (suc k) =
    step (16 ^ k) (15 ^ k) (shrunk n k) (16 ^ suc k) (15 ^ suc k) (pow-succ' 16 k) (pow-succ' 15 k) (shrunk-most n k)
  where
    step : (p q s p' q' : ℕ) → p' ≡ 16 * p → q' ≡ 15 * q → p * s ≤ q * n + 15 * p
        → p' * (s - s / 16) ≤ q' * n + 15 * p'
    step p q s p' q' is is' h =
        let a : p * (16 * (s - s / 16)) ≤ p * (15 * s + 15) = mul-le-mul_left p (omega arith) in
        let e : (16 * p) * (s - s / 16) ≡ p * (16 * (s - s / 16)) = grind arith in
        let f : p * (15 * s + 15) ≡ 15 * (p * s) + 15 * p = grind arith in
        let g : (15 * q) * n ≡ 15 * (q * n) = grind arith in
        rw (is, is') (omega (arith, a, e, f, g, h))

shrunk-128 : (n : ℕ) → shrunk n 128 ≤ n / 2048 + 16
shrunk-128 n = let h = shrunk-most n 128 in omega (arith, h)

along-all : (k j : ℕ) (f g : Follower) (narrow : Bounds) (spread n : ℕ) (runs cells ahead : List ℕ) → length runs ≡ 2 * k
    → CountedAll f runs cells g → IsAlong f narrow spread (shrunk n j) (shrunk n j) (runs ++ ahead)
    → IsAlong g narrow spread (shrunk n (k + j)) (shrunk n (k + j)) ahead × (g.bounds ≡ f.bounds)
unfolding shrunk
along-all zero j f g narrow spread n [] [] ahead long counted a = (
  subst (λ (x : Follower). IsAlong x narrow spread (shrunk n (zero + j)) (shrunk n (zero + j)) ahead) (sym counted)
      (subst (λ i. IsAlong f narrow spread (shrunk n i) (shrunk n i) ahead) (let e : j ≡ zero + j = omega arith in e) a),
  ap (λ x. x.bounds) counted,
)
along-all zero j f g narrow spread n [] (c ∷ cells) ahead long counted a = absurd counted
along-all zero j f g narrow spread n (r ∷ runs) cells ahead long counted a = absurd (omega (arith, long))
along-all (suc k) j f g narrow spread n [] cells ahead long counted a = absurd (omega (arith, long))
along-all (suc k) j f g narrow spread n (r ∷ []) cells ahead long counted a = absurd (omega (arith, long))
along-all (suc k) j f g narrow spread n (r ∷ s ∷ runs) [] ahead long counted a = absurd counted
along-all (suc k) j f g narrow spread n (r ∷ s ∷ runs) (c ∷ []) ahead long counted a = absurd counted.2
along-all (suc k) j f g narrow spread n (r ∷ s ∷ runs) (c ∷ d ∷ cells) ahead long counted a =
    let one = along-next f counted.0 narrow spread (shrunk n j) (shrunk n j) r c (s ∷ (runs ++ ahead)) counted.1 a in
    let two = along-next counted.0 counted.2.0 narrow spread (shrunk n (suc j)) (shrunk n j) s d (runs ++ ahead) counted.2.1 one.0 in
    let rest = along-all k (suc j) counted.2.0 g narrow spread n runs cells ahead (omega (arith, long)) counted.2.2 two.0 in (
      subst (λ i. IsAlong g narrow spread (shrunk n i) (shrunk n i) ahead)
          (let e : k + suc j ≡ suc k + j = omega arith in e) rest.0,
      rest.1 ∙ two.1 ∙ one.1,
    )

-- The bounds of the period that was measured have the line's cells so far in them that it is kept.
lasting-keepable : (bounds narrow : Bounds) (spread late later period most : ℕ) → IsLasting narrow spread late later
    → IsPeriodOf narrow spread 253 period → IsAbout bounds period 1024 → IsWider bounds narrow
    → most ≤ 31 * wander bounds / 2048 + 16 → IsKeepable bounds narrow spread late later most
lasting-keepable bounds narrow spread late later period most lasting measured about wide few =
    let ordered = narrow.ordered in
    record {
      wide = wide;
      near = omega (arith, lasting, measured, about, few, ordered);
      above = omega (arith, lasting, measured, about, few, ordered);
      below = omega (arith, lasting, measured, about, few, ordered);
    }

-- no edge was noted yet
along-kept : (f : Follower) (narrow : Bounds) (spread period most : ℕ) (ahead : List ℕ) → IsAlong f narrow spread most most ahead
    → IsPeriodOf narrow spread 253 period → IsAbout f.bounds period 1024 → most ≤ 31 * wander f.bounds / 2048 + 16
    → IsKept f 0 narrow spread ahead
along-kept f narrow spread period most ahead a measured about few =
    let keepable = lasting-keepable f.bounds narrow spread a.late a.later period most a.lasting measured about a.wide few in
    let near = keepable.near in
    let first = off-most a.late spread a.first a.first_side in
    let second = off-most a.later spread a.second a.second_side in
    record {
      late = a.late;
      later = a.later;
      most = most;
      displaced = a.displaced;
      calm = record {
        keepable = keepable;
        first = a.first;
        second = a.second;
        follows = a.follows;
        first_side = a.first_side;
        second_side = a.second_side;
        near = most;
        far = most;
        near_most = omega arith;
        far_most = omega arith;
        places = a.places;
        small = omega (arith, near, first, second);
      };
      counts = a.counts;
      captured = a.captured;
    }

-- at the first edge
found-along : (f : Follower) (known : Option ℕ) (narrow : Bounds) (spread late later displaced : ℕ) (places counts ahead : List ℕ)
    → FollowsLine known narrow spread late later places f → get_or places 0 0 ≡ displaced → IsLasting narrow spread late later
    → SpreadsLate narrow spread late later displaced counts ahead
    → IsAlong f narrow spread (31 * wander f.bounds) (31 * wander f.bounds) ahead
found-along f known narrow spread late later displaced places counts ahead found is lasting captured =
    let at = found.starts.at in
    let follows : Follows f at.first at.second displaced 0 0
    = subst (λ n. Follows f at.first at.second n 0 0) is at.follows in
    record {
      late = late;
      later = later;
      lasting = lasting;
      displaced = displaced;
      first = at.first;
      second = at.second;
      wide = found.starts.wide;
      borne = found.starts.borne;
      follows = follows;
      first_side = at.first_side;
      second_side = at.second_side;
      places = record {
        same_place = record { below = omega (arith, follows.same_place); above = omega (arith, follows.same_place) };
        other_place = record { below = omega (arith, follows.other_place); above = omega (arith, follows.other_place) };
      };
      counts = counts;
      captured = captured;
    }

pub lasting-displaced : (known : Option ℕ) (narrow : Bounds) (spread : ℕ) (counts window ahead : List ℕ)
    → (l : IsLastingLine known narrow spread counts window ahead)
    → Displaced narrow spread l.late l.later l.displaced (take 256 counts) window
lasting-displaced known narrow spread counts window ahead l =
    let long = l.long in
    let same : take 256 (window ++ ahead) ≡ window
    = take_at window ahead 256 long in
    let front : SpreadsLate narrow spread l.late l.later l.displaced (take 256 counts) window
    = subst (λ (r : List ℕ). SpreadsLate narrow spread l.late l.later l.displaced (take 256 counts) r) same
    (spreads-take narrow spread l.late l.later l.displaced 256 counts (window ++ ahead) l.captured) in
    displaced-by-numbers narrow spread l.late l.later l.displaced (take 256 counts) window
    (spreads-first narrow spread l.late l.later l.displaced (take 256 counts) window (omega (arith, long)) front) front

pub lasting-captured : (known : Option ℕ) (narrow : Bounds) (spread : ℕ) (counts window ahead : List ℕ)
    → (l : IsLastingLine known narrow spread counts window ahead)
    → AreCapturedRuns narrow spread l.late l.later l.place l.side
    (lasting-displaced known narrow spread counts window ahead l).places (take 256 counts) window
lasting-captured known narrow spread counts window ahead l = record {
  displaced = (lasting-displaced known narrow spread counts window ahead l).are;
  many = l.many;
  findable = l.findable;
}

-- where no period is asked for, any cells are allowed
pub unasked-allows : (known : Option ℕ) (narrow : Bounds) → known ≡ None → AllowsCells known narrow
unasked-allows None narrow e = tt
unasked-allows (Some period) narrow e = cc

-- in its first runs it can be found
pub lasting-findable : (known : Option ℕ) (narrow : Bounds) (spread : ℕ) (counts window ahead : List ℕ)
    → IsLastingLine known narrow spread counts window ahead → AreFindable known window
lasting-findable known narrow spread counts window ahead l = record {
  narrow = narrow;
  spread = spread;
  late = l.late;
  later = l.later;
  place = l.place;
  side = l.side;
  places = (lasting-displaced known narrow spread counts window ahead l).places;
  cells = take 256 counts;
  captured = lasting-captured known narrow spread counts window ahead l;
  allows = unasked-allows known narrow l.unasked;
  short = l.short;
}

-- A line that begins to be followed.
pub begun-kept : (told : Option (List ℕ)) (setting : Setting) (level : Level) (narrow : Bounds) (spread : ℕ)
    (before window counts ahead : List ℕ) (now : Recovery)
    → Begun told setting level before window now → IsLastingLine setting.known narrow spread counts window ahead
    → IsKept now.line.follower now.spread narrow spread ahead
begun-kept told setting level narrow spread before window counts ahead now b l =
    let d = lasting-displaced setting.known narrow spread counts window ahead l in
    let found = b.found.found narrow spread l.late l.later l.place l.side d.places (take 256 counts)
    (lasting-captured setting.known narrow spread counts window ahead l) (unasked-allows setting.known narrow l.unasked) in
    let n : ℕ = 31 * wander b.start.bounds in
    let long : length window ≡ 2 * 128 = let e = l.long in omega (arith, e) in
    let along = found-along b.start setting.known narrow spread l.late l.later l.displaced d.places counts (window ++ ahead) found
    d.first l.lasting l.captured in
    let end = along-all 128 0 b.start now.line.follower narrow spread n window b.counts ahead long b.counted
    (subst (λ m. IsAlong b.start narrow spread m m (window ++ ahead)) (shrunk-none n) along) in
    let bounds : now.line.follower.bounds ≡ b.start.bounds = end.1 in
    let few = shrunk-128 n in
    let kept = along-kept now.line.follower narrow spread found.period (shrunk n (128 + 0)) ahead end.0
    (found.measured l.unasked) (rw bounds found.about) (rw bounds few) in
    subst (λ m. IsKept now.line.follower m narrow spread ahead) (sym b.fresh) kept

-- A run of it is short.
spreads-short : (narrow : Bounds) (spread late later before apart run : ℕ) (counts runs ahead : List ℕ)
    → SpreadsLate narrow spread late later before counts (runs ++ run ∷ ahead) → later ≤ late + apart → late ≤ later + apart
    → 65536 * run ≤ 3 * narrow.high + spread + apart
spreads-short narrow spread late later before apart run [] [] ahead s a b = absurd s
spreads-short narrow spread late later before apart run (m ∷ counts) [] ahead s a b =
    let least = s.1.least in
    let most = s.2.most in
    let few : m * narrow.high ≤ 3 * narrow.high = mul-le-mul_right narrow.high s.3.few in
    omega (arith, least, most, s.3, few, a)
spreads-short narrow spread late later before apart run [] (r ∷ runs) ahead s a b = absurd s
spreads-short narrow spread late later before apart run (m ∷ counts) (r ∷ runs) ahead s a b =
    spreads-short narrow spread later late s.0 apart run counts runs ahead s.4 b a

pub lasting-short : (known : Option ℕ) (narrow : Bounds) (spread : ℕ) (counts window others ahead : List ℕ) (run : ℕ)
    → IsLastingLine known narrow spread counts window (others ++ run ∷ ahead) → 65536 * run < 63 * narrow.low
lasting-short known narrow spread counts window others ahead run l =
    let least = narrow.least in
    let apart : ℕ = (l.late - l.later) + (l.later - l.late) in
    let short = spreads-short narrow spread l.late l.later l.displaced apart run counts (window ++ others) ahead
    (subst (λ (x : List ℕ). SpreadsLate narrow spread l.late l.later l.displaced counts x)
    (sym (append_assoc window others (run ∷ ahead))) l.captured) (omega arith) (omega arith) in
    omega (arith, l.lasting, least, short)

-- so few samples that a line which is kept does not count as dead
pub kept-awake : (f : Follower) (distance : ℕ) (narrow : Bounds) (spread behind : ℕ) (ahead : List ℕ)
    → IsKept f distance narrow spread ahead → 65536 * behind < 63 * narrow.low → 1024 * behind < f.bounds.low
kept-awake f distance narrow spread behind ahead k few =
    let near = k.calm.keepable.near in
    let ordered = narrow.ordered in
    omega (arith, near, ordered, few)
