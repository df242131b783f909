-- How many stretches of equal octets there are, as octets are owed one by one.
use Rattle.std.proofs.Common.{◌≡◌, ◌≤◌, ◌<◌, ◌+◌, ◌-◌, ◌==◌, ◌&&◌, ℕ, List, [], ◌∷◌, ◌++◌, Bool, true, false, nat_lt, get_or, length, set}
use Rattle.std.proofs.Common.{if◌then◌else◌, refl, sym, ap, ap₂, subst, ◌∙◌, arith, inl, inr}
use Rattle.std.proofs.lemmas.Bool.{and_from, and_left, and_right, cases_eq, eq-eqb, le-ltb, lt-ltb, ne_eqb}
use Rattle.std.proofs.lemmas.List.{get_or-set_same}
use Rattle.aes3_c.specs.Owed.{HasFewest, Stretched, owed_in, stretched, with_octet, with_octets}
use Rattle.aes3_c.specs.declared.owed.Aes3Owed.{Aes3Owed}

abbrev in_last : Stretched → Stretched
in_last s = record { many = s.many; last = s.last; long = s.long + 1 }

abbrev in_new : Stretched → ℕ → Stretched
in_new s octet = record { many = s.many + 1; last = octet; long = 1 }

-- an octet goes on with the last stretch, or begins one
goes-on : (s : Stretched) (octet : ℕ) → octet ≡ s.last → s.long < 4294967295 → with_octet s octet ≡ in_last s
goes-on s octet same short =
    ap (λ b. if b then in_last s else in_new s octet) (and_from _ _ (eq-eqb octet s.last same) (lt-ltb s.long 4294967295 short))

begins : (s : Stretched) (octet : ℕ) → (octet ≡ s.last → 4294967295 ≤ s.long) → with_octet s octet ≡ in_new s octet
begins s octet other = elim (cases_eq octet s.last) [
  | inl same ↦ ap (λ b. if b then in_last s else in_new s octet)
      (and_right (octet == s.last) (nat_lt s.long 4294967295) (le-ltb s.long 4294967295 (other same)))
  | inr differs ↦ ap (λ b. if b then in_last s else in_new s octet)
      (and_left (octet == s.last) (nat_lt s.long 4294967295) (ne_eqb octet s.last differs))
]

-- octets one after the other
with-both : (s : Stretched) (xs ys : List ℕ) → with_octets s (xs ++ ys) ≡ with_octets (with_octets s xs) ys
with-both s [] ys = refl
with-both s (x ∷ xs) ys = with-both (with_octet s x) xs ys

one-no-fewer : (s : Stretched) (b : Bool) (octet : ℕ) → s.many ≤ (if b then in_last s else in_new s octet).many
one-no-fewer s true octet = omega arith
one-no-fewer s false octet = omega arith

no-fewer : (s : Stretched) (xs : List ℕ) → s.many ≤ (with_octets s xs).many
no-fewer s [] = omega arith
no-fewer s (x ∷ xs) =
    let one = one-no-fewer s (x == s.last && nat_lt s.long 4294967295) x in
    let more = no-fewer (with_octet s x) xs in
    omega (arith, one, more)

-- octets that come later make no fewer stretches
pub still-many : (n : ℕ) (xs ys : List ℕ) → n < (stretched xs).many → n < (stretched (xs ++ ys)).many
still-many n xs ys h =
    let more = no-fewer (stretched xs) ys in
    let both = ap (λ (s : Stretched). s.many) (with-both (record { many = 0; last = 0; long = 4294967295 }) xs ys) in
    omega (arith, h, more, both)

-- with one octet more
one-more : (xs ys : List ℕ) (octet : ℕ) → ys ≡ xs ++ octet ∷ [] → stretched ys ≡ with_octet (stretched xs) octet
one-more xs ys octet is =
    ap stretched is ∙ with-both (record { many = 0; last = 0; long = 4294967295 }) xs (octet ∷ [])

-- one octet more in the last stretch
pub fewest-longer : (o new : Aes3Owed) (octet count more : ℕ) → HasFewest o → 0 < o.len → o.len ≤ length o.counts
    → get_or o.octets (o.len - 1) 0 ≡ octet → get_or o.counts (o.len - 1) 0 ≡ count → count < 4294967295 → more ≡ count + 1
    → new.len ≡ o.len → new.octets ≡ o.octets → new.counts ≡ set o.counts (o.len - 1) more
    → owed_in new ≡ owed_in o ++ octet ∷ [] → HasFewest new
fewest-longer o new octet count more h some within here long short is len_is octets_are counts_are owes =
    let s = stretched (owed_in o) in
    let same : stretched (owed_in new) ≡ in_last s
    = one-more (owed_in o) (owed_in new) octet owes
    ∙ goes-on s octet (sym here ∙ h.last some) (subst (λ n. n < 4294967295) (sym long ∙ h.long some) short) in
    let at : new.len - 1 ≡ o.len - 1 = ap (λ n. n - 1) len_is in
    record {
      many = len_is ∙ h.many ∙ sym (ap (λ (t : Stretched). t.many) same);
      last = λ _. ap₂ (λ l n. get_or l n 0) octets_are at ∙ h.last some ∙ sym (ap (λ (t : Stretched). t.last) same);
      long = λ _. ap₂ (λ l n. get_or l n 0) counts_are at ∙ get_or-set_same o.counts (o.len - 1) more 0 (omega (arith, some, within))
          ∙ is ∙ ap (λ n. n + 1) (sym long ∙ h.long some) ∙ sym (ap (λ (t : Stretched). t.long) same);
      none = λ none. absurd (omega (arith, none, len_is, some));
    }

-- an octet that does not go on with the last stretch
pub begins-one : (o : Aes3Owed) (octet : ℕ) → HasFewest o
    → (0 < o.len → get_or o.octets (o.len - 1) 0 ≡ octet → 4294967295 ≤ get_or o.counts (o.len - 1) 0)
    → with_octet (stretched (owed_in o)) octet ≡ in_new (stretched (owed_in o)) octet
begins-one o octet h other = begins (stretched (owed_in o)) octet (elim (cases_eq o.len 0) [
  | inl none ↦ λ _. let long = ap (λ l. (stretched l).long) (h.none none) in omega (arith, long)
  | inr some ↦ λ same.
      let there : 0 < o.len = omega (arith, some) in
      let most = other there (h.last there ∙ sym same) in
      let long = h.long there in
      omega (arith, most, long)
])

-- a new stretch of one octet
pub fewest-new : (o new : Aes3Owed) (octet : ℕ) → HasFewest o
    → (0 < o.len → get_or o.octets (o.len - 1) 0 ≡ octet → 4294967295 ≤ get_or o.counts (o.len - 1) 0)
    → o.len < length o.octets → length o.counts ≡ length o.octets → new.len ≡ o.len + 1
    → new.octets ≡ set o.octets o.len octet → new.counts ≡ set o.counts o.len 1
    → owed_in new ≡ owed_in o ++ octet ∷ [] → HasFewest new
fewest-new o new octet h other within long len_is octets_are counts_are owes =
    let same : stretched (owed_in new) ≡ in_new (stretched (owed_in o)) octet
    = one-more (owed_in o) (owed_in new) octet owes ∙ begins-one o octet h other in
    let at : new.len - 1 ≡ o.len = omega (arith, len_is) in
    record {
      many = len_is ∙ ap (λ n. n + 1) h.many ∙ sym (ap (λ (t : Stretched). t.many) same);
      last = λ _. ap₂ (λ l n. get_or l n 0) octets_are at ∙ get_or-set_same o.octets o.len octet 0 within
          ∙ sym (ap (λ (t : Stretched). t.last) same);
      long = λ _. ap₂ (λ l n. get_or l n 0) counts_are at ∙ get_or-set_same o.counts o.len 1 0 (omega (arith, within, long))
          ∙ sym (ap (λ (t : Stretched). t.long) same);
      none = λ none. absurd (omega (arith, none, len_is));
    }

-- there is no stretch for an octet
pub too-many-begun : (o : Aes3Owed) (octet : ℕ) → HasFewest o
    → (0 < o.len → get_or o.octets (o.len - 1) 0 ≡ octet → 4294967295 ≤ get_or o.counts (o.len - 1) 0)
    → o.len ≡ 1024 → 1024 < (stretched (owed_in o ++ octet ∷ [])).many
too-many-begun o octet h other full =
    let many = h.many in
    let same = ap (λ (s : Stretched). s.many) (one-more (owed_in o) (owed_in o ++ octet ∷ []) octet refl ∙ begins-one o octet h other) in
    omega (arith, many, same, full)

pub too-many-there : (o : Aes3Owed) (octet : ℕ) → HasFewest o → 1024 < o.len
    → 1024 < (stretched (owed_in o ++ octet ∷ [])).many
too-many-there o octet h over =
    let many = h.many in still-many 1024 (owed_in o) (octet ∷ []) (omega (arith, many, over))
