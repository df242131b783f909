-- Runs counted one after the other.
use Rattle.std.proofs.Common.{ℕ, List, [], ◌∷◌, ◌++◌, ◌≡◌, ◌<◌, ◌≤◌, ◌+◌, refl, subst, arith}
use Rattle.std.specs.Prelude.{◌&&◌, nat_le, if◌then◌else◌}
use Rattle.aes3_capture.specs.declared.follower.Follower.{Follower}
use Rattle.aes3_capture.specs.Following.{Counted, CountedAll}
use Rattle.aes3_capture_recovery.specs.Measuring.{runs_of_a_line}

pub counted-append : (f g h : Follower) (runs cells more few : List ℕ) → CountedAll f runs cells g
    → CountedAll g more few h → CountedAll f (runs ++ more) (cells ++ few) h
counted-append f g h [] [] more few a b = subst (λ x. CountedAll x more few h) a b
counted-append f g h [] (n ∷ cells) more few a b = absurd a
counted-append f g h (run ∷ runs) [] more few a b = absurd a
counted-append f g h (run ∷ runs) (n ∷ cells) more few a b
    = (a.0, a.1, counted-append a.0 g h runs cells more few a.2 b)

pub counted-more : (f g h : Follower) (runs cells : List ℕ) (run n : ℕ) → CountedAll f runs cells g → Counted g run n h
    → CountedAll f (runs ++ run ∷ []) (cells ++ n ∷ []) h
counted-more f g h runs cells run n a b = counted-append f g h runs cells (run ∷ []) (n ∷ []) a (h, b, refl)

-- how many of one more run are those of a line
pub of-a-line-more : (cells : List ℕ) (n : ℕ)
    → runs_of_a_line (cells ++ n ∷ []) ≡ runs_of_a_line cells + (if nat_le 1 n && nat_le n 3 then 1 else 0)
of-a-line-more [] n = omega arith
of-a-line-more (m ∷ cells) n =
    let e = of-a-line-more cells n in
    omega (arith, e)

pub of-a-line : (n : ℕ) → 1 ≤ n → n ≤ 3 → ◌≡◌ {A = ℕ} (if nat_le 1 n && nat_le n 3 then 1 else 0) 1
of-a-line n least most = grind (arith, least, most)

pub of-none-below : (n : ℕ) → n < 1 → ◌≡◌ {A = ℕ} (if nat_le 1 n && nat_le n 3 then 1 else 0) 0
of-none-below n few = grind (arith, few)

pub of-none-above : (n : ℕ) → 3 < n → ◌≡◌ {A = ℕ} (if nat_le 1 n && nat_le n 3 then 1 else 0) 0
of-none-above n many = grind (arith, many)
