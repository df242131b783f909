-- What is made of the parts of octets.
use Rattle.std.proofs.Common.{inl, inr, ◌≡◌, ℕ, zero, suc, ◌+◌, ◌-◌, ◌*◌, ◌/◌, ◌%◌, ◌<◌, ◌≤◌, List, [], ◌++◌, length}
use Rattle.std.proofs.Common.{take, drop, refl, sym, ap, ap₂, ◌∙◌, append_assoc, append-nil, take-append-drop, arith}
use Rattle.std.proofs.lemmas.Bool.{cases_lt}
use Rattle.std.proofs.lemmas.List.{drop-append-le, length-append, length-drop, length-take-le, nil_from_length}
use Rattle.std.proofs.lemmas.List.{take-append-le, take_all}
use Rattle.std.proofs.lemmas.Nat.{div-add-mod', div-mul-add, mod-mul-add, mod_below}
use Rattle.std.proofs.Math.Seq.{take-append-add}
use Rattle.aes3_wave_runs.specs.Frames.{all_parts, parts_of}

-- parts one behind the other
pub parts-join : (made : List ℕ → List ℕ) (len n m : ℕ) (p t : List ℕ) → length p ≡ n * len
    → parts_of made len (n + m) (p ++ t) ≡ parts_of made len n p ++ parts_of made len m t
unfolding parts_of
parts-join made len zero m p t h =
    let e : p ≡ [] = nil_from_length p (omega arith) in
    let k : zero + m ≡ m = omega arith in
    ap (λ v. parts_of made len (zero + m) (v ++ t)) e ∙ ap (λ j. parts_of made len j t) k
parts-join made len (suc n) m p t h =
    let l : len ≤ length p = omega arith in
    let d = length-drop len p in
    let k : suc n + m ≡ suc (n + m) = omega arith in
    ap (λ j. parts_of made len j (p ++ t)) k
    ∙ ap₂ (λ u v. made u ++ parts_of made len (n + m) v) (take-append-le len p t l) (drop-append-le len p t l)
    ∙ ap (λ v. made (take len p) ++ v) (parts-join made len n m (drop len p) t (omega arith))
    ∙ sym (append_assoc (made (take len p)) (parts_of made len n (drop len p)) (parts_of made len m t))

-- only the first octets count
pub parts-front : (made : List ℕ → List ℕ) (len n : ℕ) (p t : List ℕ) → length p ≡ n * len
    → parts_of made len n (p ++ t) ≡ parts_of made len n p
unfolding parts_of
parts-front made len n p t h =
    let k : n ≡ n + 0 = omega arith in
    ap (λ j. parts_of made len j (p ++ t)) k ∙ parts-join made len n 0 p t h ∙ append-nil (parts_of made len n p)

pub parts-take : (made : List ℕ → List ℕ) (len n k : ℕ) (b : List ℕ) → n * len ≤ length b → n * len ≤ k
    → parts_of made len n (take k b) ≡ parts_of made len n b
parts-take made len n k b h q =
    let p = take (n * len) b in
    let l : length p ≡ n * len = length-take-le (n * len) b h in
    let e : p ++ drop (n * len) b ≡ b = take-append-drop (n * len) b in
    let f : take k b ≡ p ++ take (k - n * len) (drop (n * len) b)
    = ap (take k) (sym e) ∙ take-past k p (drop (n * len) b) (omega arith) ∙ ap (λ j. p ++ take j (drop (n * len) b)) (ap (λ j. k - j) l) in
    ap (parts_of made len n) f ∙ parts-front made len n p (take (k - n * len) (drop (n * len) b)) l
    ∙ sym (parts-front made len n p (drop (n * len) b) l) ∙ ap (parts_of made len n) e
  where
    take-past : (k : ℕ) (p t : List ℕ) → length p ≤ k → take k (p ++ t) ≡ p ++ take (k - length p) t
    take-past k p t h =
        let e : k ≡ length p + (k - length p) = omega arith in
        ap (λ j. take j (p ++ t)) e ∙ take-append-add p t (k - length p)

pub parts-one : (made : List ℕ → List ℕ) (len : ℕ) (b : List ℕ) → length b ≡ len → parts_of made len 1 b ≡ made b
unfolding parts_of
parts-one made len b h = ap (λ v. made v ++ []) (take_all len b (omega arith)) ∙ append-nil (made b)

-- one part more
pub parts-more : (made : List ℕ → List ℕ) (len n : ℕ) (b : List ℕ) → (n + 1) * len ≤ length b
    → parts_of made len (n + 1) b ≡ parts_of made len n b ++ made (take len (drop (n * len) b))
parts-more made len n b h =
    let p = take (n * len) b in
    let q = drop (n * len) b in
    let e : p ++ q ≡ b = take-append-drop (n * len) b in
    let l : length p ≡ n * len = length-take-le (n * len) b (omega arith) in
    let d = length-drop (n * len) b in
    let s : length (take len q) ≡ len = length-take-le len q (omega arith) in
    ap (parts_of made len (n + 1)) (sym e) ∙ parts-join made len n 1 p q l
    ∙ ap₂ ◌++◌ (sym (parts-front made len n p q l) ∙ ap (parts_of made len n) e)
    (ap (parts_of made len 1) (sym (take-append-drop len q)) ∙ parts-front made len 1 (take len q) (drop len q) (omega arith)
    ∙ parts-one made len (take len q) s)

pub length-parts : (made : List ℕ → List ℕ) (len n : ℕ) (b : List ℕ) → ((v : List ℕ) → length (made v) ≡ 8)
    → length (parts_of made len n b) ≡ 8 * n
unfolding parts_of
length-parts made len zero b h = refl
length-parts made len (suc n) b h =
    let l = length-append (made (take len b)) (parts_of made len n (drop len b)) in
    let r = length-parts made len n (drop len b) h in
    let e = h (take len b) in
    omega arith

-- all whole parts of octets that are whole parts and fewer octets than one has
pub all-whole : (made : List ℕ → List ℕ) (len n : ℕ) (p h : List ℕ) → length p ≡ n * len → length h < len
    → all_parts made len (p ++ h) ≡ parts_of made len n p
unfolding all_parts
all-whole made len n p h e few =
    let l = length-append p h in
    let s : length (p ++ h) ≡ n * len + length h = omega arith in
    let q : length (p ++ h) / len ≡ n = ap (λ k. k / len) s ∙ div-mul-add n len (length h) few in
    ap (λ k. parts_of made len k (p ++ h)) q ∙ parts-front made len n p h e

pub left-whole : (len n : ℕ) (p h : List ℕ) → length p ≡ n * len → length h < len → length (p ++ h) % len ≡ length h
left-whole len n p h e few =
    let l = length-append p h in
    let s : length (p ++ h) ≡ n * len + length h = omega arith in
    ap (λ k. k % len) s ∙ mod-mul-add n len (length h) few

pub count-whole : (len n : ℕ) (p h : List ℕ) → length p ≡ n * len → length h < len → length (p ++ h) / len ≡ n
count-whole len n p h e few =
    let l = length-append p h in
    let s : length (p ++ h) ≡ n * len + length h = omega arith in
    ap (λ k. k / len) s ∙ div-mul-add n len (length h) few

-- octets as whole parts, and the rest
pub record Split (len : ℕ) (s : List ℕ) : Type 0 where
  pub count : ℕ
  pub front : List ℕ
  pub rest : List ℕ
  pub is : s ≡ front ++ rest
  pub whole : length front ≡ count * len
  pub few : length rest < len

pub split : (len : ℕ) (s : List ℕ) → 0 < len → Split len s
split len s h =
    let n = length s / len in
    let e = div-add-mod' (length s) len in
    let m = mod_below (length s) len h in
    let d = length-drop (n * len) s in
    record {
      count = n;
      front = take (n * len) s;
      rest = drop (n * len) s;
      is = sym (take-append-drop (n * len) s);
      whole = length-take-le (n * len) s (omega arith);
      few = omega arith;
    }

pub length-all : (made : List ℕ → List ℕ) (len : ℕ) (s : List ℕ) → ((v : List ℕ) → length (made v) ≡ 8)
    → length (all_parts made len s) ≡ 8 * (length s / len)
unfolding all_parts
length-all made len s h = length-parts made len (length s / len) s h

-- octets with more behind them
pub record Grown (made : List ℕ → List ℕ) (len : ℕ) (s t : List ℕ) : Type 0 where
  pub more : List ℕ
  pub is : all_parts made len (s ++ t) ≡ all_parts made len s ++ more
  pub few : length t ≤ 1 → length more ≤ 8

count-one : (n len k : ℕ) → n * len ≤ k → k ≤ len → 0 < len → n ≤ 1
count-one zero len k h q p = omega arith
count-one (suc zero) len k h q p = omega arith
count-one (suc (suc n)) len k h q p = absurd (omega arith)

pub grown : (made : List ℕ → List ℕ) (len : ℕ) (s t : List ℕ) → ((v : List ℕ) → length (made v) ≡ 8) → 0 < len
    → Grown made len s t
grown made len s t eight some =
    let a = split len s some in
    let u = a.rest ++ t in
    let c = split len u some in
    let l = length-append a.front c.front in
    let w = a.whole in
    let x = c.whole in
    let all : s ++ t ≡ (a.front ++ c.front) ++ c.rest
    = ap (λ v. v ++ t) a.is ∙ append_assoc a.front a.rest t ∙ ap (λ v. a.front ++ v) c.is
    ∙ sym (append_assoc a.front c.front c.rest) in
    record {
      more = parts_of made len c.count c.front;
      is = ap (all_parts made len) all
          ∙ all-whole made len (a.count + c.count) (a.front ++ c.front) c.rest (omega arith) c.few
          ∙ parts-join made len a.count c.count a.front c.front a.whole
          ∙ ap (λ v. v ++ parts_of made len c.count c.front)
          (sym (ap (all_parts made len) a.is ∙ all-whole made len a.count a.front a.rest a.whole a.few));
      few = λ one.
          let k = length-append a.rest t in
          let j = ap length c.is in
          let i = length-append c.front c.rest in
          let f = a.few in
          let n = count-one c.count len (length u) (omega arith) (omega arith) some in
          let m = length-parts made len c.count c.front eight in
          omega arith;
    }

-- the first octets of more
pub take-both : (n : ℕ) (b d : List ℕ) → take n (b ++ d) ≡ take n b ++ take (n - length b) d
take-both n b d = elim (cases_lt n (length b)) [
  | inl h ↦
      (let z : n - length b ≡ 0 = omega (arith, h) in
      take-append-le n b d (omega (arith, h)) ∙ sym (append-nil (take n b))
      ∙ ap (λ k. take n b ++ take k d) (sym z))
  | inr h ↦
      (let e : n ≡ length b + (n - length b) = omega (arith, h) in
      ap (λ k. take k (b ++ d)) e ∙ take-append-add b d (n - length b)
      ∙ ap (λ v. v ++ take (n - length b) d) (sym (take_all n b h)))
]
