-- A line followed in the other direction, from an edge back to the first.
use Rattle.std.specs.Prelude.{min}
use Rattle.std.proofs.Common.{zero, suc, List, [], ◌∷◌, length, get_or, refl, ap}
use Rattle.std.proofs.Common.{ℕ, ◌≡◌, ◌<◌, ◌≤◌, ◌+◌, ◌-◌, ◌*◌, ◌/◌, arith}
use Rattle.aes3_capture.specs.declared.follower.Bounds.{Bounds}
use Rattle.aes3_capture.specs.declared.follower.Follower.{Follower}
use Rattle.aes3_capture.specs.Captures.{AreDisplaced, IsBetween, SpreadsLate, lateness, IsPlaced, IsRun, margin, mean_with, wander}
use Rattle.aes3_capture.specs.Directions.{IsAt, IsBehind, IsBorne, IsWider}
use Rattle.aes3_capture.specs.Following.{Begins, Counts, Follows, middle_of}

-- A follower that is turned follows the line in the other direction: what was displaced by so much less than `most` is
-- displaced by so much more.
pub turned-follows : (f g : Follower) (period same other displaced most : ℕ)
    → Begins g f.bounds period (2 * middle_of f.bounds - f.same) (2 * middle_of f.bounds - f.other)
    → f.same ≤ 2 * middle_of f.bounds → f.other ≤ 2 * middle_of f.bounds
    → same ≤ most → other ≤ most → displaced ≤ most → Follows f same other displaced 0 0
    → Follows g (most - same) (most - other) (most - displaced) 0 0
turned-follows f g period same other displaced most b s o m n d follows =
    let none : 0 * g.period ≡ 0 = grind arith in
    record {
      passed = omega (arith, none, b);
      same_place = rw b.bounds_is record { below = omega (arith, follows.same_place, b, s, m, d); above = omega (arith, follows.same_place, b, s, m, d) };
      other_place = rw b.bounds_is record { below = omega (arith, follows.other_place, b, o, n, d); above = omega (arith, follows.other_place, b, o, n, d) };
      mean_near = rw b.bounds_is record { below = omega (arith, follows.mean_near, m, d); above = omega (arith, follows.mean_near, m, d) };
    }

-- A run between two edges is one of the line in the other direction.
pub run-back : (bounds : Bounds) (spread late later mean before cells run displaced most : ℕ)
    → IsPlaced bounds displaced cells run before → IsBetween late displaced spread → IsBetween later before spread
    → IsBetween (most - (late + spread)) mean spread → late + spread ≤ most → later + spread ≤ most
    → spread < bounds.low / 2 - margin bounds → late + spread < later + (bounds.low - wander bounds)
    → later + spread < late + (bounds.low - wander bounds)
    → IsRun bounds mean (most - before) cells run (most - displaced)
run-back bounds spread late later mean before cells run displaced most placed d b m far farther narrow above below =
    let between = placed.between in
    record {
      placed = record {
        some = placed.some;
        few = placed.few;
        step = placed.step;
        longest = placed.longest;
        shortest = placed.shortest;
        between = omega (arith, between, d, b, far, farther);
      };
      mean_near = record { below = omega (arith, d, m, narrow); above = omega (arith, d, m, narrow, far) };
      before_near = record { below = omega (arith, d, b, below); above = omega (arith, d, b, above, far) };
    }

-- Longer and shorter cells are borne by wider bounds.
more-cells : (cells high most : ℕ) → high ≤ most → cells * high ≤ cells * most
more-cells cells high most h = grind (arith, h)

pub placed-wider : (narrow wide : Bounds) (before cells run displaced : ℕ) → wide.low ≤ narrow.low → narrow.high ≤ wide.high
    → IsPlaced narrow before cells run displaced → IsPlaced wide before cells run displaced
placed-wider narrow wide before cells run displaced low high placed =
    let more = more-cells cells narrow.high wide.high high in
    let less = more-cells cells wide.low narrow.low low in
    record {
      some = placed.some;
      few = placed.few;
      step = placed.step;
      longest = omega (arith, placed, more);
      shortest = omega (arith, placed, less);
      between = placed.between;
    }

-- A follower at the end of a run of three cells, whose other place is that of its beginning if a cell has its period, follows
-- the line in the other direction from there on.
three-cells : (cells n low : ℕ) → cells ≡ n → cells * low ≡ n * low
three-cells cells n low e = grind (arith, e)

pub anchored-follows : (f : Follower) (bounds : Bounds) (spread late later before cells run displaced most period : ℕ)
    → cells ≡ 3 → bounds.low ≤ period → period ≤ bounds.high
    → Begins f bounds period (middle_of bounds) (min (middle_of bounds + 3 * period - run) (3 * bounds.low))
    → IsPlaced bounds before cells run displaced → IsBetween late before spread → IsBetween later displaced spread
    → late + spread ≤ most → later + spread ≤ most → late + spread < later + (bounds.low - wander bounds)
    → later + spread < late + (bounds.low - wander bounds)
    → Follows f (most - displaced) (most - before) (most - displaced) 0 0
anchored-follows f bounds spread late later before cells run displaced most period three low high b placed l r far farther above below =
    let none : 0 * f.period ≡ 0 = grind arith in
    let least = three-cells cells 3 bounds.low three in
    let most_cells = three-cells cells 3 bounds.high three in
    let whole : f.other ≡ middle_of bounds + 3 * period - run =
    omega (arith, b, placed, least, most_cells, l, r, above, below, low, high) in
    record {
      passed = omega (arith, none, b);
      same_place = rw b.bounds_is record { below = omega (arith, b); above = omega (arith, b) };
      other_place = rw b.bounds_is record {
        below = omega (arith, whole, placed, least, most_cells, l, r, above, below, low, high, far, farther);
        above = omega (arith, whole, placed, least, most_cells, l, r, above, below, low, high, far, farther);
      };
      mean_near = rw b.bounds_is record { below = omega arith; above = omega arith };
    }

-- the edge behind an edge is of the other direction
pub lateness-next : (late later i : ℕ) → lateness late later (suc i) ≡ lateness later late i
lateness-next late later i = grind arith

pub lateness-again : (late later i : ℕ) → lateness late later (i + 2) ≡ lateness late later i
lateness-again late later i = grind arith

-- The displacements of a capture by numbers.
first-between : (bounds : Bounds) (spread late later before : ℕ) (cells runs : List ℕ)
    → SpreadsLate bounds spread late later before cells runs → IsBetween late before spread → AreDisplaced bounds spread late later
    (before ∷ []) [] []
first-between bounds spread late later before cells runs s b = record {
  places_count = refl;
  cells_count = refl;
  placed = λ i h. absurd (omega (arith, h));
  side = λ i h. let e : i ≡ 0 = omega (arith, h) in rw e b;
}

pub record Displaced (bounds : Bounds) (spread late later before : ℕ) (cells runs : List ℕ) : Type 0 where
  pub places : List ℕ
  pub first : get_or places 0 0 ≡ before
  pub are : AreDisplaced bounds spread late later places cells runs

pub displaced-by-numbers : (bounds : Bounds) (spread late later before : ℕ) (cells runs : List ℕ)
    → IsBetween late before spread → SpreadsLate bounds spread late later before cells runs
    → Displaced bounds spread late later before cells runs
displaced-by-numbers bounds spread late later before [] [] b s =
    record { places = before ∷ []; first = refl; are = first-between bounds spread late later before [] [] s b }
displaced-by-numbers bounds spread late later before [] (run ∷ runs) b s = absurd s
displaced-by-numbers bounds spread late later before (n ∷ cells) [] b s = absurd s
displaced-by-numbers bounds spread late later before (n ∷ cells) (run ∷ runs) b s =
    let rest = displaced-by-numbers bounds spread later late s.0 cells runs s.2 s.4 in
    record {
      places = before ∷ rest.places;
      first = refl;
      are = record {
        places_count = let c = rest.are.places_count in omega (arith, c);
        cells_count = ap suc rest.are.cells_count;
        placed = placed-next rest;
        side = side-next rest;
      };
    }
  where
    placed-next : (rest : Displaced bounds spread later late s.0 cells runs) (i : ℕ) → i < suc (length runs)
        → IsPlaced bounds (get_or (before ∷ rest.places) i 0) (get_or (n ∷ cells) i 0) (65536 * get_or (run ∷ runs) i 0)
        (get_or (before ∷ rest.places) (i + 1) 0)
    placed-next rest zero h = rw rest.first s.3
    placed-next rest (suc i) h = let e : suc i + 1 ≡ suc (i + 1) = omega arith in rw e (rest.are.placed i (omega (arith, h)))

    side-next : (rest : Displaced bounds spread later late s.0 cells runs) (i : ℕ) → i ≤ suc (length runs)
        → IsBetween (lateness late later i) (get_or (before ∷ rest.places) i 0) spread
    side-next rest zero h = b
    side-next rest (suc i) h = rw (lateness-next late later i) (rest.are.side i (omega (arith, h)))

-- a mean that goes a sixteenth of the way to a displacement within its spread stays there
pub mean-between : (mean displaced late spread : ℕ) → IsBetween late mean spread → IsBetween late displaced spread
    → IsBetween late (mean_with mean displaced) spread
mean-between mean displaced late spread m d =
    record { least = omega (arith, m, d); most = omega (arith, m, d) }

turned-between : (place late spread most : ℕ) → late + spread ≤ most → IsBetween late place spread
    → IsBetween (most - (late + spread)) (most - place) spread
turned-between place late spread most far b =
    record { least = omega (arith, b, far); most = omega (arith, b, far) }

-- both directions: what holds of the two sides of an edge
pub record HasSides (late later spread most here next : ℕ) : Type 0 where
  pub far : here + spread ≤ most
  pub farther : next + spread ≤ most

sides : (late later spread most i : ℕ) → late + spread ≤ most → later + spread ≤ most
    → HasSides late later spread most (lateness late later i) (lateness late later (i + 1))
sides late later spread most i far farther = record { far = grind (arith, far, farther); farther = grind (arith, far, farther) }

borne-sides : (bounds : Bounds) (spread late later i : ℕ) → IsBorne bounds spread late later
    → IsBorne bounds spread (lateness late later i) (lateness late later (i + 1))
borne-sides bounds spread late later i b =
    let above = b.above in
    let below = b.below in
    record { narrow = b.narrow; above = grind (arith, above, below); below = grind (arith, above, below) }

-- One run back: its cells are those of the line.
pub back-next : (f g : Follower) (narrow : Bounds) (spread late later most : ℕ) (places cells runs : List ℕ) (e result : ℕ)
    → AreDisplaced narrow spread late later places cells runs → IsWider f.bounds narrow
    → IsBorne f.bounds spread late later → late + spread ≤ most → later + spread ≤ most → e < length runs
    → Counts f (get_or runs e 0) result g → IsBehind f spread late later most places (e + 1)
    → (result ≡ get_or cells e 0) × IsBehind g spread late later most places e
back-next f g narrow spread late later most places cells runs e result line wide borne far farther h counts at =
    let here = line.side e (omega (arith, h)) in
    let there = line.side (e + 1) (omega (arith, h)) in
    let s = sides late later spread most e far farther in
    let b = borne-sides f.bounds spread late later e borne in
    let same : (e + 1) + 1 ≡ e + 2 = omega arith in
    let second : IsBetween (most - (lateness late later e + spread)) at.second spread =
    rw (same, lateness-again late later e) at at.second_side in
    let placed = placed-wider narrow f.bounds (get_or places e 0) (get_or cells e 0) (65536 * get_or runs e 0)
    (get_or places (e + 1) 0) wide.low wide.high (line.placed e h) in
    let run = run-back f.bounds spread (lateness late later e) (lateness late later (e + 1)) at.second (get_or places (e + 1) 0)
    (get_or cells e 0) (65536 * get_or runs e 0) (get_or places e 0) most placed here there second s.far s.farther
    b.narrow b.above b.below in
    let next = counts at.first at.second (most - get_or places (e + 1) 0) (get_or cells e 0) (most - get_or places e 0) at.follows run in (
      next.0,
      record {
        first = mean_with at.second (most - get_or places e 0);
        second = at.first;
        follows = next.1;
        first_side = mean-between at.second (most - get_or places e 0) (most - (lateness late later e + spread)) spread second
            (turned-between (get_or places e 0) (lateness late later e) spread most s.far here);
        second_side = at.first_side;
      },
    )

-- At the first edge it is turned.
pub turned-at : (f g : Follower) (period spread late later most : ℕ) (places : List ℕ) (e : ℕ)
    → IsBorne f.bounds spread late later → late + spread ≤ most → later + spread ≤ most
    → IsBetween (lateness late later e) (get_or places e 0) spread
    → Begins g f.bounds period (2 * middle_of f.bounds - f.same) (2 * middle_of f.bounds - f.other)
    → IsBehind f spread late later most places e → IsAt g spread late later places e
turned-at f g period spread late later most places e borne far farther here begins at =
    let s = sides late later spread most e far farther in
    let b = borne-sides f.bounds spread late later e borne in
    let same : f.same ≤ 2 * middle_of f.bounds = omega (arith, at.first_side, here, s, b, at.follows.same_place) in
    let other : f.other ≤ 2 * middle_of f.bounds = omega (arith, at.second_side, here, s, b, at.follows.other_place) in
    let turned = turned-follows f g period at.first at.second (most - get_or places e 0) most begins same other
    (omega (arith, at.first_side, s)) (omega (arith, at.second_side, s)) (omega arith) at.follows in
    let whole : most - (most - get_or places e 0) ≡ get_or places e 0 = omega (arith, here, s) in
    record {
      first = most - at.first;
      second = most - at.second;
      follows = rw whole at turned;
      first_side = record { least = omega (arith, at.first_side, s); most = omega (arith, at.first_side, s) };
      second_side = record { least = omega (arith, at.second_side, s); most = omega (arith, at.second_side, s) };
    }

-- It begins at the end of a run of three cells.
pub anchored-at : (f : Follower) (bounds narrow : Bounds) (spread late later most period : ℕ) (places cells runs : List ℕ) (a : ℕ)
    → AreDisplaced narrow spread late later places cells runs → IsWider bounds narrow
    → IsBorne bounds spread late later → late + spread ≤ most → later + spread ≤ most → a < length runs
    → get_or cells a 0 ≡ 3 → bounds.low ≤ period → period ≤ bounds.high
    → Begins f bounds period (middle_of bounds)
    (min (middle_of bounds + 3 * period - 65536 * get_or runs a 0) (3 * bounds.low))
    → IsBehind f spread late later most places (a + 1)
anchored-at f bounds narrow spread late later most period places cells runs a line wide borne far farther h three low high begins =
    let here = line.side a (omega (arith, h)) in
    let there = line.side (a + 1) (omega (arith, h)) in
    let s = sides late later spread most a far farther in
    let b = borne-sides bounds spread late later a borne in
    let same : (a + 1) + 1 ≡ a + 2 = omega arith in
    let placed = placed-wider narrow bounds (get_or places a 0) (get_or cells a 0) (65536 * get_or runs a 0)
    (get_or places (a + 1) 0) wide.low wide.high (line.placed a h) in
    record {
      first = most - get_or places (a + 1) 0;
      second = most - get_or places a 0;
      follows = anchored-follows f bounds spread (lateness late later a) (lateness late later (a + 1)) (get_or places a 0)
          (get_or cells a 0) (65536 * get_or runs a 0) (get_or places (a + 1) 0) most period three low high begins placed here there
          s.far s.farther b.above b.below;
      first_side = turned-between (get_or places (a + 1) 0) (lateness late later (a + 1)) spread most s.farther there;
      second_side = rw (same, lateness-again late later a)
          (turned-between (get_or places a 0) (lateness late later a) spread most s.far here);
    }

-- One run on: its cells are those of the line.
pub at-next : (f g : Follower) (narrow : Bounds) (spread late later : ℕ) (places cells runs : List ℕ) (e result : ℕ)
    → AreDisplaced narrow spread late later places cells runs → IsWider f.bounds narrow
    → IsBorne f.bounds spread late later → e < length runs
    → Counts f (get_or runs e 0) result g → IsAt f spread late later places e
    → (result ≡ get_or cells e 0) × IsAt g spread late later places (e + 1)
at-next f g narrow spread late later places cells runs e result line wide borne h counts at =
    let here = line.side e (omega (arith, h)) in
    let there = line.side (e + 1) (omega (arith, h)) in
    let b = borne-sides f.bounds spread late later e borne in
    let same : (e + 1) + 1 ≡ e + 2 = omega arith in
    let placed = placed-wider narrow f.bounds (get_or places e 0) (get_or cells e 0) (65536 * get_or runs e 0)
    (get_or places (e + 1) 0) wide.low wide.high (line.placed e h) in
    let narrow_is = b.narrow in
    let above = b.above in
    let below = b.below in
    let run : IsRun f.bounds at.second (get_or places e 0) (get_or cells e 0) (65536 * get_or runs e 0) (get_or places (e + 1) 0) = record {
      placed = placed;
      mean_near = record { below = omega (arith, there, at.second_side, narrow_is); above = omega (arith, there, at.second_side, narrow_is) };
      before_near = record { below = omega (arith, there, here, below); above = omega (arith, there, here, above) };
    } in
    let next = counts at.first at.second (get_or places e 0) (get_or cells e 0) (get_or places (e + 1) 0) at.follows run in (
      next.0,
      record {
        first = mean_with at.second (get_or places (e + 1) 0);
        second = at.first;
        follows = next.1;
        first_side = mean-between at.second (get_or places (e + 1) 0) (lateness late later (e + 1)) spread at.second_side there;
        second_side = rw (same, lateness-again late later e) at.first_side;
      },
    )
