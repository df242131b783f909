-- Growth of an end's bytes.
use Rattle.std.proofs.Common.{◌≡◌, ℕ, ◌+◌, ◌-◌, List, [], ◌++◌, length, take, drop, replicate, Option, Some, sym, ap}
use Rattle.std.proofs.Common.{ap₂, ◌∙◌, append_assoc, append-nil, refl, arith}
use Rattle.std.proofs.lemmas.List.{take_at, append_cancel_left, length-replicate, replicate-append-replicate}
use Rattle.std.proofs.Math.Seq.{take-add}
use Rattle.aes3_cell.specs.Ends.{Grew, GrewFront, Told}

pub grew-none : {a b : Option (List ℕ)} → b ≡ a → Grew a b []
grew-none e = record { by = λ xs h. e ∙ h ∙ ap Some (sym (append-nil xs)) }

pub grew-join : {a b d : Option (List ℕ)} {x y : List ℕ} → Grew a b x → Grew b d y → Grew a d (x ++ y)
grew-join {x} {y} g h = record { by = λ xs e. h.by (xs ++ x) (g.by xs e) ∙ ap Some (append_assoc xs x y) }

pub grew-is : {a b : Option (List ℕ)} {x y : List ℕ} → x ≡ y → Grew a b x → Grew a b y
grew-is e g = record { by = λ xs h. g.by xs h ∙ ap (λ z. Some (xs ++ z)) e }

pub front-none : {a b : Option (List ℕ)} → b ≡ a → (x : List ℕ) → GrewFront a b x
front-none e x = record { part = []; rest = x; is = refl; grew = grew-none e }

pub front-all : {a b : Option (List ℕ)} {x : List ℕ} → Grew a b x → GrewFront a b x
front-all {x} g = record { part = x; rest = []; is = append-nil x; grew = g }

pub front-join : {a b d : Option (List ℕ)} {x y : List ℕ} → Grew a b x → GrewFront b d y → GrewFront a d (x ++ y)
front-join {x} g h = record {
  part = x ++ h.part;
  rest = h.rest;
  is
      = append_assoc x h.part h.rest ∙ ap (λ z. x ++ z) h.is;
  grew = grew-join g h.grew;
}

pub front-more : {a b : Option (List ℕ)} {x : List ℕ} → GrewFront a b x → (y : List ℕ) → GrewFront a b (x ++ y)
front-more g y = record {
  part = g.part;
  rest = g.rest ++ y;
  is
      = sym (append_assoc g.part g.rest y) ∙ ap (λ z. z ++ y) g.is;
  grew = g.grew;
}

pub front-is : {a b : Option (List ℕ)} {x y : List ℕ} → x ≡ y → GrewFront a b x → GrewFront a b y
front-is e g = record { part = g.part; rest = g.rest; is = g.is ∙ e; grew = g.grew }

-- a source in memory
pub grew-take : (l : List ℕ) (at n : ℕ) (s more : List ℕ) → s ≡ take (at + n - at) (drop at l) → length s ≡ n
    → Grew (Some (take at l)) (Some (take (at + n) l)) (take n (s ++ more))
grew-take l at n s more e h = record {
  by = λ xs q.
      let e' : at + n - at ≡ n = omega arith in
      let s' : s ≡ take n (drop at l) = e ∙ ap (λ k. take k (drop at l)) e' in
      let x : take at l ≡ xs = cc in
      ap Some (take-add at n l ∙ ap₂ ◌++◌ x (sym s' ∙ sym (take_at s more n h)));
}

-- a source of one byte again and again
pub grew-replicate : (k n m x : ℕ) (s more : List ℕ) → s ≡ replicate n x → m ≡ k + n
    → Grew (Some (replicate k x)) (Some (replicate m x)) (take n (s ++ more))
grew-replicate k n m x s more e h = record {
  by = λ xs q.
      let before : replicate k x ≡ xs = cc in
      ap Some (ap (λ j. replicate j x) h ∙ sym (replicate-append-replicate k n x)
      ∙ ap₂ ◌++◌ before (sym (take_at s more n (ap length e ∙ length-replicate n x) ∙ e)));
}

-- one more write
pub grew-write : {a b d : Option (List ℕ)} (l : List ℕ) (at n : ℕ) (s : List ℕ) → s ≡ drop at l → Grew a b (take at l)
    → Grew b d (take n s) → Grew a d (take (at + n) l)
grew-write l at n s e g h = grew-is (ap (λ z. take at l ++ take n z) e ∙ sym (take-add at n l)) (grew-join g h)

-- the bytes that an end tells are those that it gave
pub told-is : {a b : Option (List ℕ)} {x y : List ℕ} → Grew a b x → Told a b y → x ≡ y
told-is {x = x} {y = y} g t =
    let p = g.by t.before t.was in
    let q : t.before ++ x ≡ t.before ++ y = some-is (sym p ∙ t.is) in
    append_cancel_left t.before x y q
  where
    some-is : {u v : List ℕ} → Some u ≡ Some v → u ≡ v
    some-is e = cc
