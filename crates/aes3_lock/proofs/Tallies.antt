-- Reports counted.
use Rattle.std.proofs.Common.{◌≡◌, ℕ, suc, ◌+◌, ◌≤◌, List, [], ◌∷◌, ◌++◌, Bool, true, false, cond, length, refl, sym}
use Rattle.std.proofs.Common.{ap, ◌∙◌, subst, arith, length-append, Option, Some, None}
use Rattle.std.specs.List.{filter}
use Rattle.std.proofs.lemmas.List.Elements.{filter-append}
use Rattle.aes3_level.specs.declared.level.Level.{Level}
use Rattle.aes3_lock.specs.declared.report.Why.{Why}
use Rattle.aes3_lock.specs.declared.report.Report.{Report}
use Rattle.aes3_lock.specs.declared.report.Report.TheVariants.{Whole, Marked, Fault, Unfinished}
use Rattle.aes3_lock.specs.Outcomes.{Outcome}
use Rattle.aes3_lock.specs.Reports.{told, decided_at, decided_from, decided, wholes}
use Rattle.aes3_lock.specs.Tallies.{is_faulty, is_unfinished, Tallies}
use Rattle.aes3_lock.proofs.AllStanding.{wholes-append}

-- a cell begins one report at most
told-few : (p : ℕ) (o : Option Outcome) → length (told p o) ≤ 1
told-few p None = omega arith
told-few p (Some o) = omega arith

decided-few : (p : ℕ) (c : List Level) → length (decided_from p c) ≤ length c
decided-few p [] = omega arith
decided-few p (x ∷ c) =
    let t = told-few p (decided_at (x ∷ c)) in let n = decided-few (suc p) c in
    let a = length-append (told p (decided_at (x ∷ c))) (decided_from (suc p) c) in omega arith

pub few-decided : (c : List Level) → length (decided c) ≤ length c
unfolding decided
few-decided c = decided-few 0 c

-- how many reports of a kind there are
kind-push : (p : Report → Bool) (r : List Report) (x : Report)
    → length (filter p (r ++ x ∷ [])) ≡ length (filter p r) + length (filter p (x ∷ []))
kind-push p r x = ap length (filter-append p r (x ∷ [])) ∙ length-append (filter p r) (filter p (x ∷ []))

kind-few : (p : Report → Bool) (r : List Report) → length (filter p r) ≤ length r
kind-few p [] = omega arith
kind-few p (y ∷ r) = go (p y) (kind-few p r)
  where
    go : (b : Bool) → length (filter p r) ≤ length r → length (cond b (y ∷ filter p r) (filter p r)) ≤ suc (length r)
    go true e = omega arith
    go false e = omega arith

wholes-few : (r : List Report) → length (wholes r) ≤ length r
wholes-few [] = omega arith
wholes-few (Whole at s b ∷ r) = let n = wholes-few r in omega arith
wholes-few (Marked at s wrong ∷ r) = let n = wholes-few r in omega arith
wholes-few (Fault at cell why ∷ r) = let n = wholes-few r in omega arith
wholes-few (Unfinished at cells ∷ r) = let n = wholes-few r in omega arith

pub record Few (blocks faults unfinished n : ℕ) : Type 0 where
  pub few_blocks : blocks ≤ n
  pub few_faults : faults ≤ n
  pub few_unfinished : unfinished ≤ n

pub tallies-few : {n f u : ℕ} {r : List Report} → Tallies n f u r → Few n f u (length r)
tallies-few {r = r} t = record {
  few_blocks = (let e = t.blocks_is in let k = wholes-few r in omega arith);
  few_faults = (let e = t.faults_is in let k = kind-few is_faulty r in omega arith);
  few_unfinished = (let e = t.unfinished_is in let k = kind-few is_unfinished r in omega arith);
}

push : {n f u : ℕ} (n' f' u' : ℕ) {r : List Report} (x : Report) → Tallies n f u r
    → n' ≡ n + length (wholes (x ∷ [])) → f' ≡ f + length (filter is_faulty (x ∷ []))
    → u' ≡ u + length (filter is_unfinished (x ∷ [])) → Tallies n' f' u' (r ++ x ∷ [])
push n' f' u' {r} x t a b c = record {
  blocks_is = (let e = t.blocks_is in let k = ap length (wholes-append r (x ∷ [])) in
      let l = length-append (wholes r) (wholes (x ∷ [])) in omega arith);
  faults_is = (let e = t.faults_is in let k = kind-push is_faulty r x in omega arith);
  unfinished_is = (let e = t.unfinished_is in let k = kind-push is_unfinished r x in omega arith);
}

none : {n : ℕ} → n ≡ n + 0
none = omega arith

pub push-whole : {n f u : ℕ} {r : List Report} (x : Report) {at : ℕ} {s : Level} {b : List (List Bool)}
    → x ≡ Whole at s b → Tallies n f u r → Tallies (n + 1) f u (r ++ x ∷ [])
push-whole {n} {f} {u} {r} x {at} {s} {b} e t = subst (λ (v : Report). Tallies (n + 1) f u (r ++ v ∷ [])) (sym e)
    (push (n + 1) f u (Whole at s b) t refl none none)

pub push-marked : {n f u : ℕ} {r : List Report} (x : Report) {at : ℕ} {s : Level} {w : ℕ} → x ≡ Marked at s w
    → Tallies n f u r → Tallies n (f + 1) u (r ++ x ∷ [])
push-marked {n} {f} {u} {r} x {at} {s} {w} e t = subst (λ (v : Report). Tallies n (f + 1) u (r ++ v ∷ [])) (sym e)
    (push n (f + 1) u (Marked at s w) t none refl none)

pub push-fault : {n f u : ℕ} {r : List Report} (x : Report) {at cell : ℕ} {why : Why} → x ≡ Fault at cell why
    → Tallies n f u r → Tallies n (f + 1) u (r ++ x ∷ [])
push-fault {n} {f} {u} {r} x {at} {cell} {why} e t = subst (λ (v : Report). Tallies n (f + 1) u (r ++ v ∷ [])) (sym e)
    (push n (f + 1) u (Fault at cell why) t none refl none)

pub push-unfinished : {n f u : ℕ} {r : List Report} (x : Report) {at cells : ℕ} → x ≡ Unfinished at cells
    → Tallies n f u r → Tallies n f (u + 1) (r ++ x ∷ [])
push-unfinished {n} {f} {u} {r} x {at} {cells} e t = subst (λ (v : Report). Tallies n f (u + 1) (r ++ v ∷ [])) (sym e)
    (push n f (u + 1) (Unfinished at cells) t none none refl)
