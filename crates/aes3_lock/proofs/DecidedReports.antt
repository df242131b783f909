-- The reports that stand whatever follows are all but those that only the end gives.
use Rattle.std.proofs.Common.{◌≡◌, ℕ, suc, ◌+◌, ◌<◌, ◌≤◌, ◌⊎◌, inl, inr, List, [], ◌∷◌, ◌++◌, Bool, true, false, not}
use Rattle.std.proofs.Common.{cond, eqb, Some, refl, length, ap, ap₂, ◌∙◌, sym, arith, eq-eqb, ne_eqb}
use Rattle.std.specs.List.{filter}
use Rattle.std.proofs.lemmas.Bool.{cases_lt, cases_Bool}
use Rattle.std.proofs.lemmas.List.Elements.{filter-append}
use Rattle.aes3_level.specs.declared.level.Level.{Level}
use Rattle.aes3_slot.specs.Reading.{read_slots}
use Rattle.aes3_frame.specs.Blocks.{block_subframes, block_len}
use Rattle.aes3_slot.specs.Preambles.{entry}
use Rattle.aes3_lock.specs.Candidates.{begins_block, front}
use Rattle.aes3_lock.specs.Outcomes.{Outcome, whole, marked, outcome, block_outcome, wrong_parities, payloads_of}
use Rattle.aes3_lock.specs.Reports.{told, report_of, outcome_at, reports_from, reports, decided_at, decided_from}
use Rattle.aes3_lock.specs.Reports.{decided, is_decided}
use Rattle.aes3_lock.proofs.Fronts.{front-is}
use Rattle.aes3_lock.proofs.Deciding.{decided-from, none-from-front, none-from-begins}
use Rattle.aes3_lock.proofs.Endings.{Ending, refuted, ended, unclosed, closed, ending}
use Rattle.aes3_lock.proofs.Ends.{outcome_at-none, outcome_at-some}

-- the report of a block is decided where cells lie behind it
block-passes : (p n : ℕ) (s : Level) (slots : List (List Bool)) (b : Bool) → eqb (p + block_len) n ≡ b
    → is_decided n (report_of p (block_outcome s slots)) ≡ not b
block-passes p n s slots b e = go (eqb (wrong_parities slots) 0)
  where
    go : (w : Bool)
        → is_decided n (report_of p (cond w (whole s (payloads_of slots)) (marked s (wrong_parities slots)))) ≡ not b
    go true = ap not e
    go false = ap not e

module _ (p n : ℕ) (c : List Level) (l : n ≡ p + length c) where
  kept-passes : (o : Outcome) → is_decided n (report_of p o) ≡ true
      → told p (Some o) ≡ filter (is_decided n) (told p (Some o))
  kept-passes o e = rw e refl

  dropped-fails : (o : Outcome) → is_decided n (report_of p o) ≡ false → [] ≡ filter (is_decided n) (told p (Some o))
  dropped-fails o e = rw e refl

  passes : begins_block c ≡ true → front (entry c) c < length c → is_decided n (report_of p (outcome c)) ≡ true
  passes b h = go (ending c)
    where
      go : Ending c → is_decided n (report_of p (outcome c)) ≡ true
      go (refuted x y e) = ap (λ o. is_decided n (report_of p o)) e
      go (ended x y e) = absurd (omega arith)
      go (unclosed x y z e) = ap (λ o. is_decided n (report_of p o)) e
      go (closed x z e) =
          ap (λ o. is_decided n (report_of p o)) e
          ∙ block-passes p n (entry c) (read_slots block_subframes c) false
          (ne_eqb (p + block_len) n (λ q. omega (arith, l, x, h)))

  fails : begins_block c ≡ true → length c ≤ front (entry c) c → is_decided n (report_of p (outcome c)) ≡ false
  fails b h = go (ending c)
    where
      w : front (entry c) c ≤ length c
      w = let i = (front-is (entry c) c).within in omega arith

      go : Ending c → is_decided n (report_of p (outcome c)) ≡ false
      go (refuted x y e) = absurd (omega arith)
      go (ended x y e) = ap (λ o. is_decided n (report_of p o)) e
      go (unclosed x y z e) = absurd (omega arith)
      go (closed x z e) =
          ap (λ o. is_decided n (report_of p o)) e
          ∙ block-passes p n (entry c) (read_slots block_subframes c) true
          (eq-eqb (p + block_len) n (let v = w in omega (arith, l, x, h, v)))

  -- at one place
  told-filtered : told p (decided_at c) ≡ filter (is_decided n) (told p (outcome_at c))
  told-filtered = go (cases_Bool (begins_block c)) (cases_lt (front (entry c) c) (length c))
    where
      go : (begins_block c ≡ true) ⊎ (begins_block c ≡ false) → (front (entry c) c < length c)
          ⊎ (length c ≤ front (entry c) c)
          → told p (decided_at c) ≡ filter (is_decided n) (told p (outcome_at c))
      go (inr b) x = let d = none-from-begins c b in let o = outcome_at-none c b in rw (d, o) refl
      go (inl b) (inl h) =
          let d = decided-from c b h in
          let o = outcome_at-some c b in
          rw (d, o) (kept-passes (outcome c) (passes b h))
      go (inl b) (inr h) =
          let d = none-from-front c h in
          let o = outcome_at-some c b in
          rw (d, o) (dropped-fails (outcome c) (fails b h))

filtered-from : (p n : ℕ) (c : List Level) → n ≡ p + length c
    → decided_from p c ≡ filter (is_decided n) (reports_from p c)
filtered-from p n [] l = refl
filtered-from p n (x ∷ c) l =
    ap₂ (λ a b. a ++ b) (told-filtered p n (x ∷ c) l) (filtered-from (suc p) n c (omega arith))
    ∙ sym (filter-append (is_decided n) (told p (outcome_at (x ∷ c))) (reports_from (suc p) c))

pub filtered : (c : List Level) → decided c ≡ filter (is_decided (length c)) (reports c)
unfolding decided reports
filtered c = filtered-from 0 (length c) c (omega arith)
