-- How many pairs are too short for a line, or longer than most of its pairs.
use Rattle.std.proofs.Common.{ℕ, suc, List, ◌≡◌, ◌<◌, ◌≤◌, ◌+◌, ◌-◌, ◌/◌, ◌⊎◌, inl, inr, get_or, refl, arith}
use Rattle.std.specs.Prelude.{if◌then◌else◌, nat_le, nat_lt}
use mir.Val.{bool_byte}
use Rattle.std.proofs.lemmas.Bool.{cases_lt}
use Rattle.aes3_capture_recovery.specs.Finding.{long_pairs}

pub none-long : (line : List ℕ) → long_pairs line 0 ≡ 0
unfolding long_pairs
none-long line = refl

pub long-next : (line : List ℕ) (i n : ℕ) → n ≡ suc i
    → long_pairs line n ≡ long_pairs line i + (if nat_le 5 (get_or line i 0 + get_or line (i + 1) 0) then 1 else 0)
unfolding long_pairs
long-next line i n e = rw e refl

pub one-at-most : (a b n : ℕ) → n ≡ bool_byte (nat_lt a b) → n ≤ 1
one-at-most a b n e = grind (arith, e)

pub none-if : (a b n : ℕ) → n ≡ bool_byte (nat_lt a b) → b ≤ a → n ≡ 0
none-if a b n e h = grind (arith, e, h)

one-if : (a : ℕ) → 5 ≤ a → ◌≡◌ {A = ℕ} (if nat_le 5 a then 1 else 0) 1
one-if a h = grind (arith, h)

pub long-more : (line : List ℕ) (i j pair most n : ℕ) → i ≡ suc j → n ≡ bool_byte (nat_lt most pair)
    → (get_or line j 0 + get_or line (j + 1) 0 ≤ 4 → pair ≤ most) → long_pairs line j + n ≤ long_pairs line i
long-more line i j pair most n next e h = by (cases_lt (get_or line j 0 + get_or line (j + 1) 0) 5)
  where
    by : (get_or line j 0 + get_or line (j + 1) 0 < 5) ⊎ (5 ≤ get_or line j 0 + get_or line (j + 1) 0)
        → long_pairs line j + n ≤ long_pairs line i
    by (inl few) =
        let more = long-next line j i next in
        let none = none-if most pair n e (h (omega (arith, few))) in
        omega (arith, more, none)
    by (inr many) =
        let more = long-next line j i next in
        let one = one-if _ many in
        let most_one = one-at-most most pair n e in
        omega (arith, more, one, most_one)

-- with all pairs seen
pub all-seen : (line : List ℕ) (i count long : ℕ) → 1 ≤ i → (1 < i → i ≤ count) → count ≤ i → long ≤ long_pairs line (i - 1)
    → long_pairs line (count - 1) ≤ count / 8 → long ≤ count / 8
all-seen line i count long some within past before few = by (cases_lt 1 i)
  where
    by : (1 < i) ⊎ (i ≤ 1) → long ≤ count / 8
    by (inl more) =
        let most = within more in
        let e : i - 1 ≡ count - 1 = omega (arith, most, past) in
        let all : long ≤ long_pairs line (count - 1) = rw e at before in
        omega (arith, all, few)
    by (inr one) =
        let e : i - 1 ≡ 0 = omega (arith, one) in
        let all : long ≤ long_pairs line 0 = rw e at before in
        let none = none-long line in
        omega (arith, all, none)
