use Rattle.std.proofs.Common.{◌≡◌, ℕ, ◌+◌, ◌-◌, ◌*◌, ◌/◌, ◌%◌, ◌^◌, ◌<◌, ◌≤◌, ◌⊎◌, inl, inr, ap, ◌∙◌, sym, arith}
use Rattle.std.proofs.Common.{le-leb}
use Rattle.std.specs.Prelude.{nat_le, if◌then◌else◌}
use Rattle.std.specs.Int.{bit_at}
use Rattle.std.proofs.lemmas.Bool.{cases_lt, lt-leb}
use Rattle.aes3_level.proofs.Moves.{bit_at-shr, shl-above, shl-below}
use Rattle.aes3_lock.proofs.word_marks.behind_start.Goals as goal

pub returns : goal.returns
returns c = λ k h. go k h (cases_lt (c.args.seen + k) 7)
  where
    go : (k : ℕ) → k < 64 → (c.args.seen + k < 7) ⊎ (7 ≤ c.args.seen + k)
        → bit_at (c.args.places / 2 ^ (7 - c.args.seen) * 2 ^ (7 - c.args.seen) % 2 ^ 64) k
        ≡ (if nat_le 7 (c.args.seen + k) then bit_at c.args.places k else 0)
    go k h (inl g) =
        shl-below (c.args.places / 2 ^ (7 - c.args.seen)) (7 - c.args.seen) k h (omega (arith, g))
        ∙ ap (λ b. if b then bit_at c.args.places k else 0) (sym (lt-leb 7 (c.args.seen + k) g))
    go k h (inr g) =
        shl-above (c.args.places / 2 ^ (7 - c.args.seen)) (7 - c.args.seen) k h (omega (arith, g))
        ∙ bit_at-shr c.args.places (7 - c.args.seen) (k - (7 - c.args.seen))
        ∙ ap (bit_at c.args.places) (let q : 7 - c.args.seen + (k - (7 - c.args.seen)) ≡ k = omega (arith, g) in q)
        ∙ ap (λ b. if b then bit_at c.args.places k else 0) (sym (le-leb 7 (c.args.seen + k) g))
