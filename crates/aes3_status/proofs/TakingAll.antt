-- Statuses that take all settings.
use Rattle.std.proofs.Common.{◌≡◌, ℕ, ◌+◌, Bool, true, false, ◌&&◌, List, [], ◌∷◌, length, refl, ap}
use Rattle.std.proofs.Common.{◌∙◌, sym, arith, map}
use Rattle.std.specs.List.{list_all, range_with_len}
use Rattle.std.proofs.lemmas.List.Folds.{list_all-append, list_all-map}
use Rattle.std.proofs.lemmas.List.FromFn.{map-range_with_len_more}
use Rattle.aes3_status.specs.declared.setting.Settings.{Settings}
use Rattle.aes3_status.specs.Taken.{kind_of}
use Rattle.aes3_status.specs.TakingAll.{is_all, takes_all}
use Rattle.aes3_status.proofs.TakenKinds.{kind-taken}

-- one more number that passes a test
and-last : (a b : Bool) → (a && (b && true)) ≡ (a && b)
and-last true true = refl
and-last true false = refl
and-last false b = refl

pub all-more : (p : ℕ → Bool) (n : ℕ) → list_all p (range_with_len 0 (n + 1)) ≡ (list_all p (range_with_len 0 n) && p n)
all-more p n =
    sym (list_all-map (λ b. b) p (range_with_len 0 (n + 1)))
    ∙ ap (list_all (λ b. b)) (map-range_with_len_more p 0 n n (omega arith))
    ∙ list_all-append (λ b. b) (map p (range_with_len 0 n)) (p n ∷ [])
    ∙ and-last (list_all (λ b. b) (map p (range_with_len 0 n))) (p n)
    ∙ ap (λ b. b && p n) (list_all-map (λ b. b) p (range_with_len 0 n))

-- statuses of a kind take all or do not
pub kind-takes-all : (settings : Settings) (s t : List ℕ) → length s ≡ 24 → length t ≡ 24 → kind_of s ≡ kind_of t
    → takes_all settings s ≡ takes_all settings t
unfolding takes_all
kind-takes-all settings s t l m e = ap (is_all settings) (kind-taken settings s t l m e)
