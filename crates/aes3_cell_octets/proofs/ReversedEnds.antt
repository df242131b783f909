-- What a source of reversed octets tells, and which cells it gives.
use Rattle.std.proofs.Common.{◌≡◌, ◌<◌, ◌≤◌, ◌-◌, ℕ, suc, zero, Bool, true, false, List, [], ◌∷◌, ◌++◌, Option}
use Rattle.std.proofs.Common.{Some, None, map, length, take, drop, get_or, set, replicate, refl, sym, subst, ap, ap₂}
use Rattle.std.proofs.Common.{◌∙◌, append-nil, append_assoc, take-append-drop, arith, if◌then◌else◌}
use Rattle.std.proofs.Math.Seq.{take-suc}
use Rattle.std.proofs.lemmas.List.{length-append, length-map, length-take-le, map-append, take_at, drop_at, take-take}
use Rattle.std.proofs.lemmas.Slice.Eq.{bytes_eq-Decides}
use Rattle.std.specs.Prelude.{option_and_then}
use Rattle.std.specs.Option.{option_map}
use Rattle.std.specs.Str.{bytes_eq}
use Rattle.aes3_level.specs.declared.level.Level.{Level}
use Rattle.aes3_cell.specs.Ends.{Grew}
use Rattle.aes3_level.specs.declared.level.Level.TheVariants.{Low}
use Rattle.aes3_cell.specs.Packed.{Packs, cells_of_octets, last_place}
use Rattle.aes3_cell.proofs.PackedCells.{last_place-is, take-front}
use Rattle.aes3_cell_octets.specs.Octets.{PacksReversed, packed_of_raw, packed_of_reversed, reversed, reversed_front}
use Rattle.aes3_cell_octets.specs.Told.{reversed_before, reversed_told}
use Rattle.aes3_cell_octets.proofs.ReversedOctets.{octets-reversed}

-- octets up to the last
drop-front : (front : List ℕ) (x : ℕ) → drop (last_place (front ++ x ∷ [])) (front ++ x ∷ []) ≡ x ∷ []
drop-front front x =
    ap (λ n. drop n (front ++ x ∷ []))
    (last_place-is {b = front ++ x ∷ []} {front = front} {n = x} (record { is = refl }))
    ∙ drop_at front (x ∷ []) (length front) refl

before-front : (front : List ℕ) (x : ℕ) → reversed_front (front ++ x ∷ []) ≡ map reversed front
before-front front x = ap (map reversed) (take-front {b = front ++ x ∷ []} {front = front} {n = x} (record { is = refl }))

pub before-last : (front : List ℕ) (x : ℕ) → reversed_before x (front ++ x ∷ []) ≡ Some (map reversed front)
before-last front x =
    ap (λ b. if b then Some (reversed_front (front ++ x ∷ [])) else None)
    ((bytes_eq-Decides (drop (last_place (front ++ x ∷ [])) (front ++ x ∷ [])) (x ∷ [])).1 (drop-front front x))
    ∙ ap Some (before-front front x)

pub packed-last : (front : List ℕ) (x : ℕ) → packed_of_reversed (front ++ x ∷ []) ≡ map reversed front ++ x ∷ []
packed-last front x = ap₂ ◌++◌ (before-front front x) (drop-front front x)

-- octets of which those before the last are told end in it
record Before (x : ℕ) (t zs : List ℕ) : Type 0 where
  front : List ℕ
  is : t ≡ front ++ x ∷ []
  told : zs ≡ map reversed front

told-before : (x : ℕ) (t zs : List ℕ) → reversed_before x t ≡ Some zs → Before x t zs
told-before x t zs h = go (bytes_eq (drop (last_place t) t) (x ∷ [])) refl h
  where
    go : (b : Bool) → bytes_eq (drop (last_place t) t) (x ∷ []) ≡ b
        → ◌≡◌ {A = Option (List ℕ)} (if b then Some (reversed_front t) else None) (Some zs) → Before x t zs
    go true e h = record {
      front = take (last_place t) t;
      is = sym (take-append-drop (last_place t) t)
          ∙ ap (λ v. take (last_place t) t ++ v) ((bytes_eq-Decides (drop (last_place t) t) (x ∷ [])).0 e);
      told = cc;
    }
    go false e h = absurd cc

-- no octet follows: the one that was held back is given as it is
first-of : (x : ℕ) (buf : List ℕ) → 0 < length buf → take 1 (set buf 0 x) ≡ x ∷ []
first-of x [] h = absurd (omega arith)
first-of x (y ∷ buf) h = refl

pub last-given : {a b : Option (List ℕ)} {held : Option ℕ} (x : ℕ) (buf : List ℕ) → held ≡ Some x → 0 < length buf
    → Grew a b [] → Grew (reversed_told held a) (option_map packed_of_reversed b) (take 1 (set buf 0 x))
last-given {a} {b} x buf e s g =
    subst (λ h. Grew (reversed_told h a) (option_map packed_of_reversed b) (take 1 (set buf 0 x))) (sym e) (go a g)
  where
    go : (a : Option (List ℕ)) → Grew a b []
        → Grew (reversed_told (Some x) a) (option_map packed_of_reversed b) (take 1 (set buf 0 x))
    go None g = record { by = λ zs q. absurd cc }
    go (Some t) g = record {
      by = λ zs q.
          let p = told-before x t zs q in
          ap (option_map packed_of_reversed) (g.by t refl)
          ∙ ap Some (ap packed_of_reversed (append-nil t ∙ p.is) ∙ packed-last p.front x
          ∙ ap₂ ◌++◌ (sym p.told) (sym (first-of x buf s)));
    }

-- octets follow, and the last of them is held back
pub more-given : {a b : Option (List ℕ)} {held : Option ℕ} (x n : ℕ) (buf octets : List ℕ) → held ≡ Some x → 0 < n
    → n ≤ length buf → Grew a b (take n buf)
    → octets ≡ map reversed (x ∷ take (length (take n buf) - 1) (take n buf))
    → Grew (reversed_told held a) (option_and_then (reversed_before (get_or buf (n - 1) 0)) b)
    (take n (octets ++ drop n buf))
more-given x zero buf octets e s l g q = absurd (omega arith)
more-given {a} {b} {held} x (suc m) buf octets e s l g q =
    subst (λ h. Grew (reversed_told h a) next given) (sym e) (go a g)
  where
    next : Option (List ℕ)
    next = option_and_then (reversed_before (get_or buf (suc m - 1) 0)) b

    given : List ℕ
    given = take (suc m) (octets ++ drop (suc m) buf)

    size : length (take (suc m) buf) ≡ suc m
    size = length-take-le (suc m) buf l

    parts : take (suc m) buf ≡ take m buf ++ get_or buf m 0 ∷ []
    parts = take-suc buf m 0 (omega (arith, l))

    are : octets ≡ map reversed (x ∷ take m buf)
    are =
        let k : length (take (suc m) buf) - 1 ≡ m = omega (arith, size) in
        q ∙ ap (λ k. map reversed (x ∷ take k (take (suc m) buf))) k
        ∙ ap (λ v. map reversed (x ∷ v)) (take-take m (suc m) buf (omega arith))

    all : given ≡ map reversed (x ∷ take m buf)
    all =
        let k = length-map (x ∷ take m buf) reversed in
        let j = length-take-le m buf (omega (arith, l)) in
        let i = ap length are in
        take_at octets (drop (suc m) buf) (suc m) (omega (arith, i, k, j)) ∙ are

    go : (a : Option (List ℕ)) → Grew a b (take (suc m) buf) → Grew (reversed_told (Some x) a) next given
    go None g = record { by = λ zs q. absurd cc }
    go (Some t) g = record {
      by = λ zs q.
          let p = told-before x t zs q in
          let y = get_or buf m 0 in
          let whole : t ++ take (suc m) buf ≡ (p.front ++ x ∷ take m buf) ++ y ∷ []
          = ap₂ ◌++◌ p.is parts ∙ append_assoc p.front (x ∷ []) (take m buf ++ y ∷ [])
          ∙ sym (append_assoc p.front (x ∷ take m buf) (y ∷ [])) in
          let k : suc m - 1 ≡ m = omega arith in
          ap (λ k. option_and_then (reversed_before (get_or buf k 0)) b) k
          ∙ ap (option_and_then (reversed_before y)) (g.by t refl ∙ ap Some whole)
          ∙ before-last (p.front ++ x ∷ take m buf) y
          ∙ ap Some (map-append reversed p.front (x ∷ take m buf) ∙ ap₂ ◌++◌ (sym p.told) (sym all));
    }

-- packed cells with the first of each octet in the lowest bit, and what is read of them
pub reversed-packs : (octets : List ℕ) (cells : List Level) → PacksReversed octets cells
    → Packs (packed_of_reversed octets) cells
reversed-packs octets cells p = record {
  front = map reversed p.front;
  unused = p.unused;
  last = ap packed_of_reversed p.last ∙ packed-last p.front p.unused;
  few = p.few;
  filled = octets-reversed p.front ∙ p.filled;
}

-- a list that ends
record Ends (b : List ℕ) : Type 0 where
  front : List ℕ
  last : ℕ
  is : b ≡ front ++ last ∷ []

ends : (x : ℕ) (b : List ℕ) → Ends (x ∷ b)
ends x [] = record { front = []; last = x; is = refl }
ends x (y ∷ b) = let e = ends y b in record { front = x ∷ e.front; last = e.last; is = ap (λ v. x ∷ v) e.is }

-- lists with one more at the end
one-more : (a b : List ℕ) (x y : ℕ) → a ++ x ∷ [] ≡ b ++ y ∷ [] → (a ≡ b) × (x ≡ y)
one-more [] [] x y e = (refl, cc)
one-more [] (z ∷ b) x y e = absurd (let l = ap length e in let k = length-append b (y ∷ []) in omega (arith, l, k))
one-more (z ∷ a) [] x y e = absurd (let l = ap length e in let k = length-append a (x ∷ []) in omega (arith, l, k))
one-more (z ∷ a) (w ∷ b) x y e =
    let r = one-more a b x y cc in
    let h : z ≡ w = cc in (ap₂ ◌∷◌ h r.0, r.1)

pub packs-reversed : (octets : List ℕ) (cells : List Level) → Packs (packed_of_reversed octets) cells
    → PacksReversed octets cells
packs-reversed [] cells p =
    absurd (let l = ap length p.last in let k = length-append p.front (p.unused ∷ []) in omega (arith, l, k))
packs-reversed (x ∷ octets) cells p =
    let e = ends x octets in
    let r = one-more (map reversed e.front) p.front e.last p.unused
    (sym (ap packed_of_reversed e.is ∙ packed-last e.front e.last) ∙ p.last) in
    record {
      front = e.front;
      unused = e.last;
      last = e.is;
      few = subst (λ n. n < 8) (sym r.1) p.few;
      filled = sym (octets-reversed e.front) ∙ ap cells_of_octets r.0 ∙ p.filled
          ∙ ap (λ n. cells ++ replicate n Low) (sym r.1);
    }

-- raw octets with the first cell in the lowest bit
pub raw-reversed : (octets : List ℕ) → packed_of_reversed (packed_of_raw octets) ≡ packed_of_raw (map reversed octets)
raw-reversed octets = packed-last octets 0
