-- Octets as stretches of equal ones.
use Rattle.std.proofs.Common.{◌≡◌, ◌≤◌, ◌<◌, ◌+◌, ◌-◌, ℕ, suc, zero, List, [], ◌++◌, ◌∷◌, drop, get_or, length, replicate, set, take}
use Rattle.std.proofs.Common.{refl, sym, ap, ap₂, ◌∙◌, arith, append-nil, append_assoc, length-append}
use Rattle.std.proofs.Common.{inl, inr}
use Rattle.std.proofs.lemmas.Bool.{cases_lt}
use Rattle.std.proofs.lemmas.List.{drop_all, drop_more, drop-drop, drop-set, length-replicate, length-take, take_more, take_more_set}
use Rattle.aes3_c.specs.Owed.{owed_in, stretches}
use Rattle.aes3_c.specs.declared.owed.Aes3Owed.{Aes3Owed}

-- one stretch more behind others
stretches-more : (octets counts : List ℕ) (octet count : ℕ) → length octets ≡ length counts
    → stretches (octets ++ octet ∷ []) (counts ++ count ∷ []) ≡ stretches octets counts ++ replicate count octet
stretches-more [] [] octet count same = append-nil (replicate count octet)
stretches-more [] (n ∷ counts) octet count same = absurd (omega (arith, same))
stretches-more (x ∷ octets) [] octet count same = absurd (omega (arith, same))
stretches-more (x ∷ octets) (n ∷ counts) octet count same =
    ap (λ l. replicate n x ++ l) (stretches-more octets counts octet count (omega (arith, same)))
    ∙ sym (append_assoc (replicate n x) (stretches octets counts) (replicate count octet))

replicate-more : (count octet : ℕ) → replicate (suc count) octet ≡ replicate count octet ++ octet ∷ []
replicate-more zero octet = refl
replicate-more (suc count) octet = ap (λ l. octet ∷ l) (replicate-more count octet)

fronts-long : (len : ℕ) (octets counts : List ℕ) → length counts ≡ length octets
    → length (take len octets) ≡ length (take len counts)
fronts-long len octets counts same =
    let one = length-take len octets in let two = length-take len counts in omega (arith, one, two, same)

-- what is owed while nothing of it was put
pub owed-all : (o : Aes3Owed) → o.first ≡ 0 → owed_in o ≡ stretches (take o.len o.octets) (take o.len o.counts)
owed-all o none =
    let all : o.len - o.first ≡ o.len = omega (arith, none) in
    ap₂ (λ n k. stretches (take n (drop k o.octets)) (take n (drop k o.counts))) all none

-- a new stretch of one octet
pub owes-new : (octets counts : List ℕ) (len n octet : ℕ) → len < length octets → length counts ≡ length octets → n ≡ len + 1
    → stretches (take n (set octets len octet)) (take n (set counts len 1))
    ≡ stretches (take len octets) (take len counts) ++ octet ∷ []
owes-new octets counts len n octet within same is =
    ap₂ stretches
    (ap (λ k. take k (set octets len octet)) is ∙ take_more_set octets len octet within)
    (ap (λ k. take k (set counts len 1)) is ∙ take_more_set counts len 1 (omega (arith, within, same)))
    ∙ stretches-more (take len octets) (take len counts) octet 1 (fronts-long len octets counts same)

-- one octet more in the last stretch
pub owes-longer : (octets counts : List ℕ) (len k count more octet : ℕ) → len ≡ k + 1 → k < length octets
    → length counts ≡ length octets → get_or octets k 0 ≡ octet → get_or counts k 0 ≡ count → more ≡ suc count
    → stretches (take len octets) (take len (set counts k more))
    ≡ stretches (take len octets) (take len counts) ++ octet ∷ []
owes-longer octets counts len k count more octet is within same here long longer =
    let front : take len octets ≡ take k octets ++ octet ∷ []
    = ap (λ n. take n octets) is ∙ take_more octets k 0 within ∙ ap (λ x. take k octets ++ x ∷ []) here in
    let old : take len counts ≡ take k counts ++ count ∷ []
    = ap (λ n. take n counts) is ∙ take_more counts k 0 (omega (arith, within, same)) ∙ ap (λ x. take k counts ++ x ∷ []) long in
    let new : take len (set counts k more) ≡ take k counts ++ suc count ∷ []
    = ap (λ n. take n (set counts k more)) is ∙ take_more_set counts k more (omega (arith, within, same))
    ∙ ap (λ x. take k counts ++ x ∷ []) longer in
    let fronts = fronts-long k octets counts same in
    ap₂ stretches front new
    ∙ stretches-more (take k octets) (take k counts) octet (suc count) fronts
    ∙ ap (λ l. stretches (take k octets) (take k counts) ++ l) (replicate-more count octet)
    ∙ sym (append_assoc (stretches (take k octets) (take k counts)) (replicate count octet) (octet ∷ []))
    ∙ ap (λ l. l ++ octet ∷ []) (sym (ap₂ stretches front old ∙ stretches-more (take k octets) (take k counts) octet count fronts))

-- the stretches from one on
abbrev pub from_stretch : ℕ → ℕ → List ℕ → List ℕ → List ℕ
from_stretch first len octets counts =
    stretches (take (len - first) (drop first octets)) (take (len - first) (drop first counts))

next-stretch : (octets counts rest_octets rest_counts : List ℕ) (len first octet count : ℕ) → first < len
    → drop first octets ≡ octet ∷ rest_octets → drop first counts ≡ count ∷ rest_counts
    → from_stretch first len octets counts
    ≡ replicate count octet ++ stretches (take (len - (first + 1)) rest_octets) (take (len - (first + 1)) rest_counts)
next-stretch octets counts rest_octets rest_counts len first octet count within one two =
    let left : len - first ≡ suc (len - (first + 1)) = omega (arith, within) in
    ap₂ (λ x y. stretches (take (len - first) x) (take (len - first) y)) one two
    ∙ ap (λ n. stretches (take n (octet ∷ rest_octets)) (take n (count ∷ rest_counts))) left

-- an octet of the first stretch is put
pub owed-next : (octets counts : List ℕ) (len first count less octet : ℕ) → first < len → first < length octets
    → length counts ≡ length octets → get_or octets first 0 ≡ octet → get_or counts first 0 ≡ count → count ≡ suc less
    → from_stretch first len octets counts ≡ octet ∷ from_stretch first len octets (set counts first less)
owed-next octets counts len first count less octet within inside same here long some =
    let octets_are = drop_more octets first 0 inside ∙ ap (λ x. x ∷ drop (first + 1) octets) here in
    next-stretch octets counts (drop (first + 1) octets) (drop (first + 1) counts) len first octet (suc less) within octets_are
    (drop_more counts first 0 (omega (arith, inside, same)) ∙ ap (λ x. x ∷ drop (first + 1) counts) (long ∙ some))
    ∙ ap (λ l. octet ∷ l) (sym (next-stretch octets (set counts first less) (drop (first + 1) octets) (drop (first + 1) counts)
    len first octet less within octets_are (drop-set counts first less (omega (arith, inside, same)))))

-- the first stretch has no octet
pub owed-none : (octets counts : List ℕ) (len first next : ℕ) → first < len → first < length octets
    → length counts ≡ length octets → get_or counts first 0 ≡ 0 → next ≡ first + 1
    → from_stretch first len octets counts ≡ from_stretch next len octets counts
owed-none octets counts len first next within inside same none is =
    next-stretch octets counts (drop (first + 1) octets) (drop (first + 1) counts) len first (get_or octets first 0) 0 within
    (drop_more octets first 0 inside)
    (drop_more counts first 0 (omega (arith, inside, same)) ∙ ap (λ x. x ∷ drop (first + 1) counts) none)
    ∙ ap (λ k. from_stretch k len octets counts) (sym is)

-- no stretch is left
nothing-left : (n m : ℕ) (octets counts : List ℕ) → n ≡ 0 → stretches (take n octets) (take m counts) ≡ []
nothing-left n m octets counts none = ap (λ k. stretches (take k octets) (take m counts)) none

nothing-there : (n : ℕ) (octets counts : List ℕ) → octets ≡ [] → stretches (take n octets) counts ≡ []
nothing-there zero octets counts none = refl
nothing-there (suc n) octets counts none = ap (λ l. stretches (take (suc n) l) counts) none

pub owed-last : (octets counts : List ℕ) (len first : ℕ) → (first < len → length octets ≤ first)
    → from_stretch first len octets counts ≡ []
owed-last octets counts len first over = elim (cases_lt first len) [
  | inl within ↦ nothing-there (len - first) (drop first octets) (take (len - first) (drop first counts))
      (drop_all first octets (over within))
  | inr past ↦ nothing-left (len - first) (len - first) (drop first octets) (drop first counts) (omega (arith, past))
]

-- what is the same from one octet on is so from a later one on
pub drop-further : (n m : ℕ) (xs ys : List ℕ) → n ≤ m → drop n xs ≡ drop n ys → drop m xs ≡ drop m ys
drop-further n m xs ys least same =
    let sum : n + (m - n) ≡ m = omega (arith, least) in
    ap (λ k. drop k xs) (sym sum) ∙ sym (drop-drop (m - n) n xs) ∙ ap (drop (m - n)) same ∙ drop-drop (m - n) n ys
    ∙ ap (λ k. drop k ys) sum

-- how many octets the first stretch has, and those behind it
pub owed-count : (octets counts : List ℕ) (len first next count : ℕ) → first < len → first < length octets
    → length counts ≡ length octets → get_or counts first 0 ≡ count → next ≡ first + 1
    → length (from_stretch first len octets counts) ≡ count + length (from_stretch next len octets counts)
owed-count octets counts len first next count within inside same long is =
    let rest : List ℕ = from_stretch (first + 1) len octets counts in
    ap length (next-stretch octets counts (drop (first + 1) octets) (drop (first + 1) counts) len first (get_or octets first 0) count
    within (drop_more octets first 0 inside)
    (drop_more counts first 0 (omega (arith, inside, same)) ∙ ap (λ x. x ∷ drop (first + 1) counts) long))
    ∙ length-append (replicate count (get_or octets first 0)) rest
    ∙ ap₂ ◌+◌ (length-replicate count (get_or octets first 0)) (ap (λ k. length (from_stretch k len octets counts)) (sym is))
