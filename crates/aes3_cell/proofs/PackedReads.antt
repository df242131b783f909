-- Packed cells read octet by octet.
use Rattle.std.proofs.Common.{◌≡◌, ℕ, zero, suc, ◌+◌, ◌-◌, ◌*◌, ◌<◌, ◌≤◌, ◌↔◌, List, [], ◌∷◌, ◌++◌, Bool, true, false}
use Rattle.std.proofs.Common.{cond, Option, Some, None, Result, Ok, Err, IsOk, is_ok, length, take, get_or, reverse}
use Rattle.std.proofs.Common.{refl, sym, ap, ap₂, ◌∙◌, arith, append_assoc, append-nil, length-append, lt-ltb, le-ltb}
use Rattle.std.proofs.Common.{◌==◌}
use Rattle.std.proofs.lemmas.List.{take_at, take_all, length-reverse, reverse-append, reverse-reverse}
use Rattle.std.proofs.Math.Seq.{take-append-add}
use Rattle.aes3_level.specs.declared.level.Level.{Level}
use Rattle.aes3_cell.specs.declared.packed_in.BadPadding.{BadPadding}
use Rattle.aes3_cell.specs.Packed.{octet_cells, cells_of_octets, IsPacked, is_padded, ends_packed, is_packed}
use Rattle.aes3_cell.specs.Packed.{last_place, last_octet, cells_of_packed, whole_cells}
use Rattle.aes3_cell.specs.PackedReading.{PackedReader, packed_reader_of, packed_answer, packed_next, end_answer}
use Rattle.aes3_cell.specs.PackedReading.{packed_end, answer_cells, end_cells}
use Rattle.aes3_cell.proofs.Octets.{reverse-more}
use Rattle.aes3_cell.proofs.PackedCells.{LastOctet, cells_of_octets-append, cells_of_octets-one, length-cells_of_octets}
use Rattle.aes3_cell.proofs.PackedCells.{last_octet-is, last_place-is, take-front, is_packed-packs, packs-is_packed}
use Rattle.aes3_cell.proofs.PackedCells.{last-reverse, padded-parts}

pub reader-is : {a a' c c' d d' : ℕ} → a ≡ a' → c ≡ c' → d ≡ d'
    → ◌≡◌ {A = PackedReader} (record { seen = a; before_last = c; last = d })
    (record { seen = a'; before_last = c'; last = d' })
reader-is e f g = rw (e, f, g) refl

-- the reader behind one more octet
pub packed_reader-more : (b : List ℕ) (x : ℕ) → packed_next (packed_reader_of b) x ≡ packed_reader_of (b ++ x ∷ [])
unfolding packed_reader_of
packed_reader-more b x =
    let e = reverse-more b x in
    reader-is (sym (length-append b (x ∷ []))) (sym (ap (λ v. get_or v 1 0) e)) (sym (ap (λ v. get_or v 0 0) e))

-- octets by their last two
pub record LastTwo (b front : List ℕ) (octet last : ℕ) : Type 0 where
  pub is : b ≡ front ++ octet ∷ last ∷ []

pub last_two : (b : List ℕ) (last octet : ℕ) (more : List ℕ) → reverse b ≡ last ∷ octet ∷ more
    → LastTwo b (reverse more) octet last
last_two b last octet more e = record {
  is = sym (reverse-reverse b) ∙ ap reverse e ∙ reverse-append (last ∷ octet ∷ []) more;
}

pub whole-of : (b front : List ℕ) (octet last : ℕ) → LastTwo b front octet last → whole_cells b ≡ cells_of_octets front
unfolding whole_cells
whole-of b front octet last e =
    let l = length-append front (octet ∷ last ∷ []) in
    let q = ap length e.is in
    let n : length b - 2 ≡ length front = omega arith in
    ap cells_of_octets (ap₂ take n e.is ∙ take_at front (octet ∷ last ∷ []) (length front) refl)

pub whole-few : (b : List ℕ) → length b < 3 → whole_cells b ≡ []
unfolding whole_cells
whole-few b h = let n : length b - 2 ≡ 0 = omega arith in ap (λ k. cells_of_octets (take k b)) n

-- the cells of all octets but the last two grow by those of the answer
pub whole_cells-more : (b : List ℕ) (x : ℕ)
    → whole_cells (b ++ x ∷ []) ≡ whole_cells b ++ answer_cells (packed_answer (packed_reader_of b))
unfolding packed_reader_of
whole_cells-more b x = go (reverse b) refl
  where
    l : length (b ++ x ∷ []) ≡ length b + 1
    l = length-append b (x ∷ [])

    few : length b < 2 → whole_cells (b ++ x ∷ []) ≡ whole_cells b ++ answer_cells (packed_answer (packed_reader_of b))
    few h =
        let m = l in
        whole-few (b ++ x ∷ []) (omega arith) ∙ sym (whole-few b (omega arith)) ∙ sym (append-nil (whole_cells b))
        ∙ ap (λ p. whole_cells b ++ answer_cells (cond p None (Some (get_or (reverse b) 1 0))))
        (sym (lt-ltb (length b) 2 h))

    go : (back : List ℕ) → reverse b ≡ back
        → whole_cells (b ++ x ∷ []) ≡ whole_cells b ++ answer_cells (packed_answer (packed_reader_of b))
    go [] e = few (let r = length-reverse b in let q = ap length e in omega arith)
    go (last ∷ []) e = few (let r = length-reverse b in let q = ap length e in omega arith)
    go (last ∷ octet ∷ more) e =
        let two = last_two b last octet more e in
        let front = reverse more in
        let r = length-reverse b in
        let q = ap length e in
        let next : LastTwo (b ++ x ∷ []) (front ++ octet ∷ []) last x =
        record {
          is = ap (λ v. v ++ x ∷ []) two.is ∙ append_assoc front (octet ∷ last ∷ []) (x ∷ [])
              ∙ sym (append_assoc front (octet ∷ []) (last ∷ x ∷ []));
        } in
        whole-of (b ++ x ∷ []) (front ++ octet ∷ []) last x next
        ∙ cells_of_octets-append front (octet ∷ [])
        ∙ ap₂ ◌++◌ (sym (whole-of b front octet last two)) (cells_of_octets-one octet)
        ∙ ap (λ v. whole_cells b ++ octet_cells v) (sym (ap (λ v. get_or v 1 0) e))
        ∙ ap (λ p. whole_cells b ++ answer_cells (cond p None (Some (get_or (reverse b) 1 0))))
        (sym (le-ltb (length b) 2 (omega arith)))

-- what the end answers, by the last octets
end-none : (b : List ℕ) → reverse b ≡ [] → packed_end (packed_reader_of b) ≡ Err (record { at = 0 })
unfolding packed_reader_of
end-none b e =
    let r = length-reverse b in
    let q = ap length e in
    let n : length b ≡ 0 = omega arith in
    ap (λ k. end_answer k (get_or (reverse b) 1 0) (get_or (reverse b) 0 0)) n

end-one : (b : List ℕ) (last : ℕ) → reverse b ≡ last ∷ [] → packed_end (packed_reader_of b) ≡ end_answer 1 0 last
unfolding packed_reader_of
end-one b last e =
    let r = length-reverse b in
    let q = ap length e in
    let n : length b ≡ 1 = omega arith in
    ap₂ (λ k v. end_answer k (get_or v 1 0) (get_or v 0 0)) n e

end-two : (b : List ℕ) (last octet : ℕ) (more : List ℕ) → reverse b ≡ last ∷ octet ∷ more
    → packed_end (packed_reader_of b) ≡ end_answer (suc (suc (length more))) octet last
unfolding packed_reader_of
end-two b last octet more e =
    let r = length-reverse b in
    let q = ap length e in
    let n : length b ≡ suc (suc (length more)) = omega arith in
    ap₂ (λ k v. end_answer k (get_or v 1 0) (get_or v 0 0)) n e

-- answers of the end: a fault at a place, and what a test lets through
abbrev Answer : Type 0
Answer = Result (Option (ℕ × ℕ)) BadPadding

abbrev fault_at : ℕ → Answer
fault_at n = Err (record { at = n })

abbrev passed : Bool → Option (ℕ × ℕ) → ℕ → Answer
passed p o n = cond p (Ok o) (fault_at n)

-- the end is accepted exactly where the octets are packed cells
pub end-accepts : (b : List ℕ) → is_ok (packed_end (packed_reader_of b)) ≡ is_packed b
unfolding is_packed
end-accepts b = go (reverse b) refl
  where
    test : (p : Bool) (o : Option (ℕ × ℕ)) (n : ℕ) → is_ok (passed p o n) ≡ p
    test true o n = refl
    test false o n = refl

    go : (back : List ℕ) → reverse b ≡ back → is_ok (packed_end (packed_reader_of b)) ≡ ends_packed back
    go [] e = ap is_ok (end-none b e)
    go (last ∷ []) e = ap is_ok (end-one b last e) ∙ test (last == 0) None 0
    go (last ∷ octet ∷ more) e
        = ap is_ok (end-two b last octet more e)
        ∙ test (is_padded octet last) (Some (octet, 8 - last)) (suc (length more))

pub end-ok : (b : List ℕ) (o : Option (ℕ × ℕ)) → packed_end (packed_reader_of b) ≡ Ok o → is_packed b ≡ true
end-ok b o e = sym (end-accepts b) ∙ ap is_ok e

-- a fault stands at the last octet
pub end-fault : (b : List ℕ) (f : BadPadding) → packed_end (packed_reader_of b) ≡ Err f
    → (is_packed b ≡ false) × (f.at ≡ last_place b)
end-fault b f e = (sym (end-accepts b) ∙ ap is_ok e, go (reverse b) refl)
  where
    l : length (reverse b) ≡ length b
    l = length-reverse b

    place : (p : Bool) (o : Option (ℕ × ℕ)) (n : ℕ) → passed p o n ≡ Err f → f.at ≡ n
    place true o n h = absurd cc
    place false o n h = let q : f ≡ record { at = n } = cc in ap (λ v. v.at) q

    go : (back : List ℕ) → reverse b ≡ back → f.at ≡ last_place b
    go [] h =
        let q = ap length h in
        let n = l in
        let at : f.at ≡ 0 = place false None 0 (sym (end-none b h) ∙ e) in
        omega arith
    go (last ∷ []) h =
        let q = ap length h in
        let n = l in
        let at : f.at ≡ 0 = place (last == 0) None 0 (sym (end-one b last h) ∙ e) in
        omega arith
    go (last ∷ octet ∷ more) h =
        let q = ap length h in
        let n = l in
        let at : f.at ≡ suc (length more)
        = place (is_padded octet last) (Some (octet, 8 - last)) (suc (length more))
        (sym (end-two b last octet more h) ∙ e) in
        omega arith

-- so an answer is Ok exactly where the octets pack some cells
pub end-lawful : (r : PackedReader) (answer : Result (Option (ℕ × ℕ)) BadPadding) → answer ≡ packed_end r
    → (b : List ℕ) → r ≡ packed_reader_of b → IsOk answer ↔ IsPacked b
end-lawful r answer e b h =
    let ok : is_ok answer ≡ is_packed b = ap is_ok (e ∙ ap packed_end h) ∙ end-accepts b in
    (λ yes. (cells_of_packed b, packs-is_packed b (sym ok ∙ yes)), λ p. ok ∙ is_packed-packs b p.0 p.1)

-- how many cells of the octet before the last are used
pub end-used : (r : PackedReader) (octet used : ℕ) → packed_end r ≡ Ok (Some (octet, used)) → (1 ≤ used) × (used ≤ 8)
end-used r octet used = go r.seen
  where
    test : (p : Bool) (n : ℕ) → is_padded r.before_last r.last ≡ p
        → passed p (Some (r.before_last, 8 - r.last)) n ≡ Ok (Some (octet, used)) → (1 ≤ used) × (used ≤ 8)
    test true n t q = let h = (padded-parts r.before_last r.last t).0 in let pair : ◌≡◌ {A = ℕ × ℕ}
        (r.before_last, 8 - r.last) (octet, used)
        = cc in let u = ap (λ v. v.1) pair in
        (omega arith, omega arith)
    test false n t q = absurd cc

    none : (p : Bool) → passed p None 0 ≡ Ok (Some (octet, used)) → ⊥
    none true q = cc
    none false q = cc

    go : (n : ℕ) → end_answer n r.before_last r.last ≡ Ok (Some (octet, used)) → (1 ≤ used) × (used ≤ 8)
    go zero e = absurd (none false e)
    go (suc zero) e = absurd (none (r.last == 0) e)
    go (suc (suc n)) e = test (is_padded r.before_last r.last) (suc n) refl e

-- the cells of packed octets are those handed on before the end and those of the end
pub cells-end : (b : List ℕ) → is_packed b ≡ true
    → cells_of_packed b ≡ whole_cells b ++ end_cells (packed_end (packed_reader_of b))
unfolding is_packed cells_of_packed
cells-end b = go (reverse b) refl
  where
    go : (back : List ℕ) → reverse b ≡ back → ends_packed back ≡ true
        → cells_of_packed b ≡ whole_cells b ++ end_cells (packed_end (packed_reader_of b))
    go [] e h = absurd cc
    go (last ∷ []) e h =
        let q : LastOctet b [] last = last-reverse b last [] e in
        let few : length b < 3 = let l = ap length q.is in omega arith in
        ap (λ xs. take (8 * last_place b - last_octet b) (cells_of_octets xs)) (take-front q)
        ∙ take_all (8 * last_place b - last_octet b) [] (omega arith)
        ∙ ap₂ (λ u v. u ++ end_cells v) (sym (whole-few b few)) (sym (end-one b last e ∙ ap (λ p. passed p None 0) h))
    go (last ∷ octet ∷ more) e h =
        let two = last_two b last octet more e in
        let front = reverse more in
        let q : LastOctet b (front ++ octet ∷ []) last
        = record { is = two.is ∙ sym (append_assoc front (octet ∷ []) (last ∷ [])) } in
        let small = (padded-parts octet last h).0 in
        let place = last_place-is q in
        let unused = last_octet-is q in
        let l = length-append front (octet ∷ []) in
        let o = length-cells_of_octets front in
        let k : 8 * last_place b - last_octet b ≡ length (cells_of_octets front) + (8 - last) = omega arith in
        ap₂ (λ n xs. take n (cells_of_octets xs)) k (take-front q)
        ∙ ap (take (length (cells_of_octets front) + (8 - last)))
        (cells_of_octets-append front (octet ∷ []) ∙ ap (λ v. cells_of_octets front ++ v) (cells_of_octets-one octet))
        ∙ take-append-add (cells_of_octets front) (octet_cells octet) (8 - last)
        ∙ ap₂ (λ u v. u ++ end_cells v) (sym (whole-of b front octet last two))
        (sym (end-two b last octet more e ∙ ap (λ p. passed p (Some (octet, 8 - last)) (suc (length more))) h))

-- no later octet takes a cell back
pub whole_cells-front : (a b : List ℕ) → (more : List Level) × (whole_cells (a ++ b) ≡ whole_cells a ++ more)
whole_cells-front a [] = ([], ap whole_cells (append-nil a) ∙ sym (append-nil (whole_cells a)))
whole_cells-front a (x ∷ b) =
    let r = whole_cells-front (a ++ x ∷ []) b in
    let added = answer_cells (packed_answer (packed_reader_of a)) in (
      added ++ r.0,
      ap whole_cells (sym (append_assoc a (x ∷ []) b)) ∙ r.1 ∙ ap (λ c. c ++ r.0) (whole_cells-more a x)
          ∙ append_assoc (whole_cells a) added r.0,
    )
