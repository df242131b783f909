-- What reports write.
use Rattle.std.proofs.Common.{◌≡◌, ℕ, ◌+◌, List, [], ◌∷◌, ◌++◌, Bool, length, refl, sym}
use Rattle.std.proofs.Common.{ap, ◌∙◌, arith, append-nil, append_assoc, length-append, add-one}
use Rattle.aes3_lock.specs.declared.report.Report.{Report}
use Rattle.aes3_lock.specs.declared.report.Report.TheVariants.{Whole, Marked, Fault, Unfinished}
use Rattle.aes3_lock.specs.Reports.{wholes}
use Rattle.aes3_lock.proofs.AllStanding.{wholes-append}
use Rattle.aes3_input.specs.Taking.{before_end, with_end}
use Rattle.aes3_input.proofs.Items.{before-is}
use Rattle.aes3_lock_runs.specs.ReportRuns.{output_from, output, report_writing}
use Rattle.aes3_lock_runs.specs.BlockRuns.{numbered, report_bytes}

none : {n : ℕ} → n ≡ n + 0
none = omega arith

-- what one report writes, and the end
pub adds-is : (f : ℕ → Report → List ℕ) (e : List ℕ) (n : ℕ) (r : List Report) (x : Report) → n ≡ length (wholes r)
    → f n x ≡ (report_writing f e).adds r x
unfolding report_writing
adds-is f e n r x k = ap (λ m. f m x) k

pub ends-is : (f : ℕ → Report → List ℕ) (e : List ℕ) (r : List Report) → e ≡ (report_writing f e).ends r
unfolding report_writing
ends-is f e r = refl

-- what reports write, joined
output-push : (f : ℕ → Report → List ℕ) (n : ℕ) (r : List Report) (x : Report)
    → output_from f n (r ++ x ∷ []) ≡ output_from f n r ++ f (n + length (wholes r)) x
output-push f n [] x = append-nil (f n x) ∙ ap (λ k. f k x) none
output-push f n (y ∷ r) x =
    ap (λ z. f n y ++ z) (output-push f (n + length (wholes (y ∷ []))) r x
    ∙ ap (λ k. output_from f (n + length (wholes (y ∷ []))) r ++ f k x) next)
    ∙ sym (append_assoc (f n y) (output_from f (n + length (wholes (y ∷ []))) r) (f (n + length (wholes (y ∷ r))) x))
  where
    next : n + length (wholes (y ∷ [])) + length (wholes r) ≡ n + length (wholes (y ∷ r))
    next = let k = ap length (wholes-append (y ∷ []) r) in
        let l = length-append (wholes (y ∷ [])) (wholes r) in omega arith

zero-plus : {n : ℕ} → 0 + n ≡ n
zero-plus = omega arith

pub before-output : (f : ℕ → Report → List ℕ) (e : List ℕ) (r : List Report)
    → before_end (report_writing f e) r ≡ output f r
unfolding report_writing
before-output f e r =
    before-is (report_writing f e) (output f) refl
    (λ r x. output-push f 0 r x ∙ ap (λ k. output f r ++ f k x) zero-plus) r

pub with-output : (f : ℕ → Report → List ℕ) (e : List ℕ) (r : List Report)
    → with_end (report_writing f e) r ≡ output f r ++ e
unfolding with_end report_writing
with-output f e r = ap (λ o. o ++ e) (before-output f e r)

-- what reports write that give their blocks' bytes
pub blocks-output : (f : ℕ → List (List Bool) → List ℕ) (n : ℕ) (r : List Report)
    → output_from (report_bytes f) n r ≡ numbered f n (wholes r)
blocks-output f n [] = refl
blocks-output f n (Whole at s b ∷ r) =
    ap (λ z. f n b ++ z) (blocks-output f (n + 1) r ∙ ap (λ k. numbered f k (wholes r)) (add-one n))
blocks-output f n (Marked at s wrong ∷ r) = blocks-output f (n + 0) r ∙ ap (λ k. numbered f k (wholes r)) (sym none)
blocks-output f n (Fault at cell why ∷ r) = blocks-output f (n + 0) r ∙ ap (λ k. numbered f k (wholes r)) (sym none)
blocks-output f n (Unfinished at cells ∷ r) = blocks-output f (n + 0) r ∙ ap (λ k. numbered f k (wholes r)) (sym none)
