-- Octets whose bits are reversed, one after the other.
use Rattle.std.proofs.Common.{◌≡◌, ◌<◌, ◌+◌, ◌++◌, ◌∙◌, ℕ, suc, zero, List, [], ◌∷◌, ap, ap₂, append-nil, arith, drop, eqb, get_or, length, map}
use Rattle.std.proofs.Common.{refl, set, take, true, w8}
use Rattle.std.specs.Int.{reverse_bits, reverse_bits_onto}
use Rattle.std.proofs.lemmas.Bool.{agree_below_at, eqb-true}
use Rattle.std.proofs.lemmas.List.{drop_all, take_all}
use Rattle.aes3_cell_octets.specs.Octets.{reversed}

-- the bits of an octet in reversed order are those of its cells in reversed order
octet-reversed : (x : ℕ) → x < 256 → reverse_bits w8 x ≡ reversed x
unfolding reverse_bits_onto
octet-reversed x few =
    eqb-true (reverse_bits w8 x) (reversed x) (agree_below_at (λ n. eqb (reverse_bits w8 n) (reversed n)) (λ _. true) 256 x refl few)

-- the first n are reversed
abbrev pub front_reversed : ℕ → List ℕ → List ℕ
front_reversed n octets = map reversed (take n octets) ++ drop n octets

-- the next one is not
next-is : (n : ℕ) (octets : List ℕ) → get_or (front_reversed n octets) n 0 ≡ get_or octets n 0
next-is zero octets = refl
next-is (suc n) [] = refl
next-is (suc n) (x ∷ octets) = next-is n octets

put-next : (n : ℕ) (octets : List ℕ) → n < length octets
    → set (front_reversed n octets) n (reversed (get_or octets n 0)) ≡ front_reversed (suc n) octets
put-next n [] within = absurd (omega (arith, within))
put-next zero (x ∷ octets) within = refl
put-next (suc n) (x ∷ octets) within = ap (λ l. reversed x ∷ l) (put-next n octets (omega (arith, within)))

-- it is reversed too
pub more-reversed : (n k octet : ℕ) (octets now : List ℕ) → now ≡ front_reversed n octets → n < length octets
    → get_or octets n 0 < 256 → octet ≡ reverse_bits w8 (get_or now n 0) → k ≡ n + 1
    → set now n octet ≡ front_reversed k octets
more-reversed n k octet octets now now_is within few octet_is next =
    let next_is : suc n ≡ k = omega (arith, next) in
    ap₂ (λ l x. set l n x) now_is
    (octet_is ∙ ap (reverse_bits w8) (ap (λ l. get_or l n 0) now_is ∙ next-is n octets) ∙ octet-reversed (get_or octets n 0) few)
    ∙ put-next n octets within
    ∙ ap (λ m. front_reversed m octets) next_is

-- all are
pub all-reversed : (n : ℕ) (octets now : List ℕ) → now ≡ front_reversed n octets → n ≡ length octets → now ≡ map reversed octets
all-reversed n octets now now_is end =
    now_is
    ∙ ap₂ (λ a b. map reversed a ++ b) (take_all n octets (omega (arith, end))) (drop_all n octets (omega (arith, end)))
    ∙ append-nil (map reversed octets)
