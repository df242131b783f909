-- What was found in the first runs of a capture counts the cells of all.
use Rattle.std.proofs.Common.{ℕ, zero, suc, List, [], ◌∷◌, ◌≡◌, ◌≤◌, ◌*◌, Option, Some, None, get_or, length, take, arith}
use Rattle.std.specs.Prelude.{IsSomeAnd}
use Rattle.aes3_capture.specs.declared.follower.Bounds.{Bounds}
use Rattle.aes3_capture.specs.declared.follower.Follower.{Follower}
use Rattle.aes3_capture.specs.Captures.{IsBetween, SpreadsLate}
use Rattle.aes3_capture.specs.Directions.{IsWider}
use Rattle.aes3_capture.specs.Following.{Follows}
use Rattle.aes3_capture.proofs.Counts.{captures-late}
use Rattle.aes3_capture.proofs.Mirror.{Displaced, displaced-by-numbers, placed-wider}
use Rattle.aes3_capture.proofs.Whole.{counted-line}
use Rattle.aes3_capture_recovery.specs.Finding.{AreCapturedRuns, CountsLine, FollowsLine, IsACapture, IsFound}

-- a capture's first runs are a capture
pub spreads-take : (bounds : Bounds) (spread late later before n : ℕ) (cells runs : List ℕ)
    → SpreadsLate bounds spread late later before cells runs
    → SpreadsLate bounds spread late later before (take n cells) (take n runs)
spreads-take bounds spread late later before zero cells runs s = tt
spreads-take bounds spread late later before (suc n) [] [] s = tt
spreads-take bounds spread late later before (suc n) [] (run ∷ runs) s = absurd s
spreads-take bounds spread late later before (suc n) (m ∷ cells) [] s = absurd s
spreads-take bounds spread late later before (suc n) (m ∷ cells) (run ∷ runs) s =
    (s.0, s.1, s.2, s.3, spreads-take bounds spread later late s.0 n cells runs s.4)

-- and a capture of cells as long and as short as wider bounds allow
pub spreads-wider : (narrow wide : Bounds) (spread late later before : ℕ) (cells runs : List ℕ) → IsWider wide narrow
    → SpreadsLate narrow spread late later before cells runs → SpreadsLate wide spread late later before cells runs
spreads-wider narrow wide spread late later before [] [] w s = tt
spreads-wider narrow wide spread late later before [] (run ∷ runs) w s = absurd s
spreads-wider narrow wide spread late later before (m ∷ cells) [] w s = absurd s
spreads-wider narrow wide spread late later before (m ∷ cells) (run ∷ runs) w s = (
  s.0,
  s.1,
  s.2,
  placed-wider narrow wide before m (65536 * run) s.0 w.low w.high s.3,
  spreads-wider narrow wide spread later late s.0 cells runs w s.4,
)

-- its first edge is displaced by no more than the others
pub spreads-first : (bounds : Bounds) (spread late later displaced : ℕ) (counts runs : List ℕ) → 1 ≤ length runs
    → SpreadsLate bounds spread late later displaced counts runs → IsBetween late displaced spread
spreads-first bounds spread late later displaced [] [] some s = absurd (omega (arith, some))
spreads-first bounds spread late later displaced (n ∷ counts) [] some s = absurd s
spreads-first bounds spread late later displaced [] (x ∷ xs) some s = absurd s
spreads-first bounds spread late later displaced (n ∷ counts) (x ∷ xs) some s = s.1

pub numbered : (narrow : Bounds) (spread late later place side displaced : ℕ) (line all : List ℕ)
    → IsACapture narrow spread late later place side displaced line all
    → Displaced narrow spread late later displaced (take 256 line) (take 256 all)
numbered narrow spread late later place side displaced line all capture =
    displaced-by-numbers narrow spread late later displaced (take 256 line) (take 256 all) capture.first
    (spreads-take narrow spread late later displaced 256 line all capture.spreads)

pub captured-of : (narrow : Bounds) (spread late later place side displaced : ℕ) (line all : List ℕ)
    → (capture : IsACapture narrow spread late later place side displaced line all)
    → AreCapturedRuns narrow spread late later place side
    (numbered narrow spread late later place side displaced line all capture).places (take 256 line) (take 256 all)
captured-of narrow spread late later place side displaced line all capture = record {
  displaced = (numbered narrow spread late later place side displaced line all capture).are;
  many = capture.many;
  findable = capture.findable;
}

counts-line : (known : Option ℕ) (narrow : Bounds) (spread late later displaced : ℕ) (places line all : List ℕ) (follower : Follower)
    → FollowsLine known narrow spread late later places follower → get_or places 0 0 ≡ displaced
    → SpreadsLate narrow spread late later displaced line all → CountsLine line all follower
counts-line known narrow spread late later displaced places line all follower f first spreads = λ cells behind counted.
    let at = f.starts.at in
    let borne = f.starts.borne in
    let follows : Follows follower at.first at.second displaced 0 0 = rw first at at.follows in
    let captures = captures-late follower.bounds spread late later at.first at.second displaced line all borne.narrow borne.above borne.below
    at.first_side at.second_side (spreads-wider narrow follower.bounds spread late later displaced line all f.starts.wide spreads) in
    counted-line follower behind all cells line at.first at.second displaced counted follows captures

pub found-counts : (known : Option ℕ) (narrow : Bounds) (spread late later displaced : ℕ) (places line all : List ℕ) (result : Option Follower)
    → IsFound known narrow spread late later places result → get_or places 0 0 ≡ displaced
    → SpreadsLate narrow spread late later displaced line all → IsSomeAnd result (CountsLine line all)
found-counts known narrow spread late later displaced places line all None found first spreads = found
found-counts known narrow spread late later displaced places line all (Some follower) found first spreads =
    counts-line known narrow spread late later displaced places line all follower found first spreads
