-- Lines of preambles that are gathered before they are handed on.
use Rattle.std.proofs.Common.{◌≡◌, ℕ, ◌+◌, ◌≤◌, List, [], ◌∷◌, ◌++◌, Option, length, ap, ◌∙◌, sym, refl, arith}
use Rattle.std.proofs.Common.{append_assoc, append-nil, length-append}
use Rattle.std.proofs.lemmas.Grind.{flat_map-append}
use Rattle.aes3_level.specs.declared.level.Level.{Level}
use Rattle.aes3_slot.specs.declared.mark.Mark.{Mark}
use Rattle.aes3_cell.specs.Ends.{Grew, GrewFront}
use Rattle.aes3_cell.proofs.Growing.{grew-none, grew-is, grew-join, front-is, front-join, front-more}
use Rattle.aes3_text_lines.specs.Gathering.{AllButHeld}
use Rattle.aes3_text_lines.specs.MarkLines.{line_of, mark_line, mark_lines}

pub held-none : {t : Option (List ℕ)} {h : List ℕ} → AllButHeld t t h h []
held-none {h = h} = record { part = []; is = sym (append-nil h); grew = grew-none refl }

pub held-is : {t t' : Option (List ℕ)} {h h' b d : List ℕ} → b ≡ d → AllButHeld t t' h h' b → AllButHeld t t' h h' d
held-is {h = h} e x = record { part = x.part; is = x.is ∙ ap (λ z. h ++ z) e; grew = x.grew }

joined : {t t' : Option (List ℕ)} {h h' a : List ℕ} (b : List ℕ) (x : AllButHeld t t' h h' a)
    → x.part ++ (h' ++ b) ≡ h ++ (a ++ b)
joined {h = h} {h' = h'} {a = a} b x = sym (append_assoc x.part h' b) ∙ ap (λ z. z ++ b) x.is ∙ append_assoc h a b

pub held-join : {t t' u : Option (List ℕ)} {h h' k a b : List ℕ} → AllButHeld t t' h h' a → AllButHeld t' u h' k b
    → AllButHeld t u h k (a ++ b)
held-join {k = k} {b = b} x y = record {
  part = x.part ++ y.part;
  is = append_assoc x.part y.part k ∙ ap (λ z. x.part ++ z) y.is ∙ joined b x;
  grew = grew-join x.grew y.grew;
}

pub held-front : {t t' u : Option (List ℕ)} {h h' a : List ℕ} (b : List ℕ) → AllButHeld t t' h h' a
    → GrewFront t' u (h' ++ b) → GrewFront t u (h ++ (a ++ b))
held-front b x g = front-is (joined b x) (front-join x.grew g)

-- the lines held are handed on at last
pub all-handed : {t t' u : Option (List ℕ)} {h b : List ℕ} → AllButHeld t t' [] h b → Grew t' u h → Grew t u b
all-handed x g = grew-is x.is (grew-join x.grew g)

pub front-handed : {t t' u : Option (List ℕ)} {h b : List ℕ} → AllButHeld t t' [] h b → GrewFront t' u h
    → GrewFront t u b
front-handed x g = front-is x.is (front-join x.grew g)

-- of all preambles those are told and counted behind which some are left
pub record Telling (t t' : Option (List ℕ)) (h h' : List ℕ) (n n' : ℕ)
    (all left : List (ℕ × Mark × Level)) : Type 0 where
  pub told : List (ℕ × Mark × Level)
  pub is : told ++ left ≡ all
  pub count : n' ≡ n + length told
  pub held : AllButHeld t t' h h' (mark_lines told)

pub telling-starts : {t : Option (List ℕ)} {h : List ℕ} {n : ℕ} (all : List (ℕ × Mark × Level))
    → Telling t t h h n n all all
telling-starts all = record { told = []; is = refl; count = omega arith; held = held-none }

line-of : (m : ℕ × Mark × Level) → mark_lines (m ∷ []) ≡ mark_line m.0 m.1 m.2
unfolding line_of
line-of m = append-nil (mark_line m.0 m.1 m.2)

pub telling-next : {t t' u : Option (List ℕ)} {h h' k : List ℕ} {n n' i : ℕ} {all left : List (ℕ × Mark × Level)} (m : ℕ
    × Mark × Level) (rest : List (ℕ × Mark × Level))
    → Telling t t' h h' n n' all left → left ≡ m ∷ rest → i ≡ n' + 1 → AllButHeld t' u h' k (mark_line m.0 m.1 m.2)
    → Telling t u h k n i all rest
telling-next m rest x e s g = record {
  told = x.told ++ m ∷ [];
  is = append_assoc x.told (m ∷ []) rest ∙ ap (λ z. x.told ++ z) (sym e) ∙ x.is;
  count = (let a = length-append x.told (m ∷ []) in let b = x.count in omega (arith, a, b, s));
  held = held-is (ap (λ z. mark_lines x.told ++ z) (sym (line-of m)) ∙ sym (flat_map-append line_of x.told (m ∷ [])))
      (held-join x.held g);
}

pub telling-ends : {t t' : Option (List ℕ)} {h h' : List ℕ} {n n' : ℕ} {all left : List (ℕ × Mark × Level)}
    → Telling t t' h h' n n' all left → left ≡ []
    → AllButHeld t t' h h' (mark_lines all) × (n' ≡ n + length all)
telling-ends {n = n} x e =
    let q = sym (append-nil x.told) ∙ ap (λ z. x.told ++ z) (sym e) ∙ x.is in
    (held-is (ap mark_lines q) x.held, x.count ∙ ap (λ z. n + length z) q)

pub telling-few : {t t' : Option (List ℕ)} {h h' : List ℕ} {n n' : ℕ} {all left : List (ℕ × Mark × Level)} (m : ℕ × Mark
    × Level) (rest : List (ℕ × Mark × Level))
    → Telling t t' h h' n n' all left → left ≡ m ∷ rest → n' + 1 ≤ n + length all
telling-few {left = left} m rest x e =
    let a = ap length x.is in
    let b = length-append x.told left in
    let d = ap length e in
    let k = x.count in
    omega (arith, a, b, d, k)

pub telling-fails : {t t' u : Option (List ℕ)} {h h' : List ℕ} {n n' : ℕ} {all left : List (ℕ × Mark × Level)} (m : ℕ
    × Mark × Level) (rest : List (ℕ × Mark × Level))
    → Telling t t' h h' n n' all left → left ≡ m ∷ rest → GrewFront t' u (h' ++ mark_line m.0 m.1 m.2)
    → GrewFront t u (h ++ mark_lines all)
unfolding line_of
telling-fails {h = h} m rest x e g =
    let a = mark_lines x.told in
    let l = mark_line m.0 m.1 m.2 in
    front-is
    (append_assoc h (a ++ l) (mark_lines rest)
    ∙ ap (λ z. h ++ z) (append_assoc a l (mark_lines rest) ∙ sym (flat_map-append line_of x.told (m ∷ rest))
    ∙ ap mark_lines (ap (λ z. x.told ++ z) (sym e) ∙ x.is)))
    (front-more (held-front l x.held g) (mark_lines rest))
