-- Distances that are summed up in 32 bits.
use Rattle.std.proofs.Common.{ℕ, List, ◌≡◌, ◌≤◌, ◌<◌, ◌+◌, ◌-◌, ◌*◌, ◌/◌, ◌%◌, ◌^◌, get_or, length, max, set, subst, take, arith}
use Rattle.std.proofs.Math.Nat.{mul-le-mul_left}
use Rattle.aes3_capture_recovery.specs.Distances.{AreDistances, distance_at}
use Rattle.aes3_capture_recovery.proofs.DistanceSums.{all-more, each-more}

-- some distances, and the sum of their squares is small
pub record AreSmall (middle : ℕ) (places each : List ℕ) (count most sum sum_of_squares : ℕ) : Type 0 where
  pub are : AreDistances middle places each most sum sum_of_squares
  pub slim : sum_of_squares ≤ count * 2 ^ 26

-- a fifteenth of a small number, by a product
pub fifteenth : (n : ℕ) → n ≤ 8191 → n * 34953 % 2 ^ 32 / 2 ^ 19 ≡ n / 15
fifteenth n few = omega (arith, few)

small-square : (n : ℕ) → n ≤ 8191 → n * n ≤ 2 ^ 26
small-square n few = let a : n * n ≤ n * 8191 = mul-le-mul_left n few in omega (arith, a, few)

-- and one more
pub small-more : (middle : ℕ) (places each : List ℕ) (i left n most sum sum_of_squares most' sum' squares' : ℕ)
    → i < 32 → length places ≡ 32 → length each ≡ 32
    → left ≡ ((get_or places i 0 - middle) + (middle - get_or places i 0)) / 256
    → n ≡ left + left * 34953 % 2 ^ 32 / 2 ^ 19 → n ≤ 8191
    → AreSmall middle (take i places) (take i each) i most sum sum_of_squares
    → most' ≡ max n most → sum' ≡ sum + n → squares' ≡ (sum_of_squares + n * n % 2 ^ 32) % 2 ^ 32
    → AreSmall middle (take (i + 1) places) (take (i + 1) (set each i n)) (i + 1) most' sum' squares'
small-more middle places each i left n most sum sum_of_squares most' sum' squares' below long room left_is n_is few small most_is sum_is squares_is =
    let e = fifteenth left (omega (arith, n_is, few)) in
    let is : n ≡ distance_at middle (get_or places i 0) = omega (arith, e, left_is, n_is) in
    let all = all-more middle places i n (omega (arith, below, long)) is in
    let square = small-square n few in
    let slim = small.slim in
    let g = all.0 in
    let s = all.1 in
    let q = all.2 in
    record {
      are = record {
        each_is = each-more middle places each i n (omega (arith, below, long)) (omega (arith, below, room)) is small.are.each_is;
        most_is = omega (arith, g, small.are, most_is);
        sum_is = omega (arith, s, small.are, sum_is);
        squares_is = omega (arith, q, small.are, squares_is, square, slim, below);
      };
      slim = omega (arith, squares_is, square, slim, below);
    }

-- all of them
pub all-small : (middle : ℕ) (places each : List ℕ) (i most sum sum_of_squares squares' : ℕ) → i ≡ 32
    → squares' ≡ sum_of_squares → AreSmall middle (take i places) (take i each) i most sum sum_of_squares
    → AreDistances middle (take 32 places) (take 32 each) most sum squares'
all-small middle places each i most sum sum_of_squares squares' all same small =
    subst (λ k. AreDistances middle (take k places) (take k each) most sum squares') all (rw same small.are)
