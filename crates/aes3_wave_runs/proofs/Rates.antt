-- The codes of sampling frequencies.
use Rattle.std.proofs.Common.{inl, inr, ◌≡◌, ℕ, ◌<◌, Bool, true, false, not, ◌&&◌, ◌||◌, eqb, ltb, List, [], ◌∷◌}
use Rattle.std.proofs.Common.{Some, refl, sym, ap, ◌∙◌, subst, eq-eqb, ne_eqb}
use Rattle.std.specs.Prelude.{if◌then◌else◌}
use Rattle.std.proofs.lemmas.Bool.{and_parts, cases_eq, ltb-true, not-true, or_left, or_right}
use Rattle.aes3_wave_runs.specs.Status.{code_in, rate_in}

-- a row has this code
abbrev has_code : List (ℕ × ℕ) → ℕ → Bool
has_code [] code = false
has_code (row ∷ rows) code = eqb code row.1 || has_code rows code

-- no two rows have one code, and none has the other one
abbrev pub are_apart : List (ℕ × ℕ) → ℕ → Bool
are_apart [] other = true
are_apart (row ∷ rows) other = not (eqb row.1 other) && (not (has_code rows row.1) && are_apart rows other)

-- all codes are below this number
abbrev pub are_below : List (ℕ × ℕ) → ℕ → Bool
are_below [] most = true
are_below (row ∷ rows) most = ltb row.1 most && are_below rows most

code-first : (row : ℕ × ℕ) (rows : List (ℕ × ℕ)) (other n : ℕ) → n ≡ row.0 → code_in (row ∷ rows) other n ≡ row.1
code-first row rows other n e =
    ap (λ (t : Bool). if t then row.1 else code_in rows other n) (eq-eqb n row.0 e)

code-next : (row : ℕ × ℕ) (rows : List (ℕ × ℕ)) (other n : ℕ) → (n ≡ row.0 → ⊥)
    → code_in (row ∷ rows) other n ≡ code_in rows other n
code-next row rows other n e =
    ap (λ (t : Bool). if t then row.1 else code_in rows other n) (ne_eqb n row.0 e)

pub code-below : (rows : List (ℕ × ℕ)) (other n most : ℕ) → are_below rows most ≡ true → other < most
    → code_in rows other n < most
code-below [] other n most h o = o
code-below (row ∷ rows) other n most h o =
    let p = and_parts (ltb row.1 most) (are_below rows most) h in
    elim (cases_eq n row.0) [
      | inl e ↦ subst (λ v. v < most) (sym (code-first row rows other n e)) (ltb-true row.1 most p.0)
      | inr e ↦ subst (λ v. v < most) (sym (code-next row rows other n e)) (code-below rows other n most p.1 o)
    ]

-- the code that a frequency has is one of a row
code-is : (rows : List (ℕ × ℕ)) (other n : ℕ) → (code_in rows other n ≡ other → ⊥)
    → has_code rows (code_in rows other n) ≡ true
code-is [] other n h = absurd (h refl)
code-is (row ∷ rows) other n h = elim (cases_eq n row.0) [
  | inl e ↦
      (let c = code-first row rows other n e in
      or_left (eqb (code_in (row ∷ rows) other n) row.1) (has_code rows (code_in (row ∷ rows) other n))
      (eq-eqb (code_in (row ∷ rows) other n) row.1 c))
  | inr e ↦
      (let c = code-next row rows other n e in
      or_right (eqb (code_in (row ∷ rows) other n) row.1) (has_code rows (code_in (row ∷ rows) other n))
      (ap (has_code rows) c ∙ code-is rows other n (λ q. h (c ∙ q))))
]

pub rate-back : (rows : List (ℕ × ℕ)) (other n : ℕ) → are_apart rows other ≡ true
    → (code_in rows other n ≡ other → ⊥) → rate_in rows (code_in rows other n) ≡ Some n
rate-back [] other n h some = absurd (some refl)
rate-back (row ∷ rows) other n h some =
    let p = and_parts (not (eqb row.1 other)) (not (has_code rows row.1) && are_apart rows other) h in
    let q = and_parts (not (has_code rows row.1)) (are_apart rows other) p.1 in
    elim (cases_eq n row.0) [
      | inl e ↦
          (let c = code-first row rows other n e in
          ap (λ (t : Bool). if t then Some row.0 else rate_in rows (code_in (row ∷ rows) other n))
          (eq-eqb (code_in (row ∷ rows) other n) row.1 c)
          ∙ ap (λ k. Some k) (sym e))
      | inr e ↦
          (let c = code-next row rows other n e in
          let here : code_in rows other n ≡ other → ⊥ = λ z. some (c ∙ z) in
          let apart : code_in (row ∷ rows) other n ≡ row.1 → ⊥
          = λ z. clash (has_code rows row.1) (not-true (has_code rows row.1) q.0)
          (ap (has_code rows) (sym z ∙ c) ∙ code-is rows other n here) in
          ap (λ (t : Bool). if t then Some row.0 else rate_in rows (code_in (row ∷ rows) other n))
          (ne_eqb (code_in (row ∷ rows) other n) row.1 apart)
          ∙ ap (rate_in rows) c ∙ rate-back rows other n q.1 here)
    ]
  where
    clash : (t : Bool) → t ≡ false → t ≡ true → ⊥
    clash t a b = cc
