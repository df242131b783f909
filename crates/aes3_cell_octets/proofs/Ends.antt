-- What ends of other forms tell.
use Rattle.std.proofs.Common.{◌≡◌, ◌<◌, ◌==◌, ℕ, suc, zero, Bool, false, List, [], ◌∷◌, ◌++◌, Option, Some, None}
use Rattle.std.proofs.Common.{Result, Ok, Err, IfOk, ◌≤◌, map, length, take, drop, get_or, set, refl, sym, subst, ap}
use Rattle.std.proofs.Common.{ap₂, ◌∙◌, append-nil, arith}
use Rattle.std.proofs.lemmas.List.{length-map, length-take, length-take-le, map-append, take-map, take-take, take_at}
use Rattle.std.specs.Option.{option_map}
use Rattle.aes3_cell.specs.Ends.{Grew}
use Rattle.aes3_cell.proofs.Growing.{grew-is}
use Rattle.aes3_cell_octets.specs.Octets.{packed_of_raw, reversed, reversed_octet}
use Rattle.aes3_cell_octets.specs.Told.{all_reversed, raw_told}
use Rattle.aes3_cell_octets.proofs.ReversedOctets.{octets-back, octets-twice}

-- a list that is not empty
pub some-items : {b : Bool} (n m : ℕ) → b ≡ (n == 0) → b ≡ false → m ≡ n → 0 < m
some-items zero m e f h = absurd cc
some-items (suc n) m e f h = omega arith

-- nothing more came, and the octet that counts is given
pub zero-behind : {a b : Option (List ℕ)} (buf : List ℕ) → 0 < length buf → Grew a b []
    → Grew a (option_map packed_of_raw b) (take 1 (set buf 0 0))
zero-behind [] h g = absurd (omega arith)
zero-behind (x ∷ buf) h g = record {
  by
      = λ xs h. ap (option_map packed_of_raw) (g.by xs h) ∙ ap (λ ys. Some (ys ++ 0 ∷ [])) (append-nil xs);
}

pub still-raw : {a b : Option (List ℕ)} {x : List ℕ} {is_counted : Bool} → is_counted ≡ false → Grew a b x
    → Grew (raw_told is_counted a) b x
still-raw {a} {b} {x} e g = subst (λ k. Grew (raw_told k a) b x) (sym e) g

-- a front of a piece filled with octets, and reversed
pub filled-reversed : (n : ℕ) (xs piece copied ys rest : List ℕ) → n ≤ length xs → copied ≡ take n xs
    → ys ≡ map reversed (take n (copied ++ drop n piece))
    → take n (ys ++ rest) ≡ map reversed (take n xs)
filled-reversed n xs piece copied ys rest l e f =
    let size : length copied ≡ n = ap length e ∙ length-take-le n xs l in
    let is : ys ≡ map reversed copied = f ∙ ap (map reversed) (take_at copied (drop n piece) n size) in
    take_at ys rest n (ap length is ∙ length-map copied reversed ∙ size) ∙ is ∙ ap (map reversed) e

-- what a sink took reversed of octets is what was handed on of them
take-small : (n : ℕ) (xs : List ℕ) → ((i : ℕ) → get_or xs i 0 < 256) → (i : ℕ) → get_or (take n xs) i 0 < 256
take-small zero xs h i = omega arith
take-small (suc n) [] h i = omega arith
take-small (suc n) (x ∷ xs) h zero = h 0
take-small (suc n) (x ∷ xs) h (suc i) = take-small n xs (λ j. h (suc j)) i

taken-reversed : (k n : ℕ) (xs piece : List ℕ) → take n piece ≡ map reversed (take n xs) → ((i : ℕ) → get_or xs i 0 < 256)
    → k ≤ n → map reversed_octet (take k (take n piece)) ≡ take k xs
taken-reversed k n xs piece e h l =
    ap (λ v. map reversed_octet (take k v)) e ∙ ap (map reversed_octet) (take-map reversed k (take n xs))
    ∙ octets-back (take k (take n xs)) (take-small k (take n xs) (take-small n xs h)) ∙ take-take k n xs l

some-grew : {a b : Option (List ℕ)} (k n : ℕ) (xs piece : List ℕ) → take n piece ≡ map reversed (take n xs)
    → ((i : ℕ) → get_or xs i 0 < 256) → k ≤ length (take n piece)
    → Grew a b (take k (take n piece)) → Grew (all_reversed a) (all_reversed b) (take k xs)
some-grew {a = None} k n xs piece e h l g = record { by = λ zs q. absurd cc }
some-grew {a = Some z} {b = b} k n xs piece e h l g = record {
  by = λ zs q.
      let r = g.by z refl in
      let s : map reversed_octet z ≡ zs = cc in
      let m = length-take n piece in
      ap all_reversed r
      ∙ ap Some (map-append reversed_octet z (take k (take n piece))
      ∙ ap₂ ◌++◌ s (taken-reversed k n xs piece e h (omega (arith, m, l))));
}

pub front-grew : {E : Type 0} (a b : Option (List ℕ)) (n : ℕ) (xs piece : List ℕ) (r : Result ℕ E)
    → take n piece ≡ map reversed (take n xs) → ((i : ℕ) → get_or xs i 0 < 256)
    → IfOk r (λ k. k ≤ length (take n piece)) → IfOk r (λ k. Grew a b (take k (take n piece)))
    → IfOk r (λ k. Grew (all_reversed a) (all_reversed b) (take k xs))
front-grew a b n xs piece (Ok k) e h l g = some-grew k n xs piece e h l g
front-grew a b n xs piece (Err x) e h l g = tt

-- what was handed on of them
handed-front : (k n : ℕ) (xs piece : List ℕ) → take n piece ≡ map reversed (take n xs) → k ≤ n
    → take k (take n piece) ≡ map reversed (take k xs)
handed-front k n xs piece e l =
    ap (take k) e ∙ take-map reversed k (take n xs) ∙ ap (map reversed) (take-take k n xs l)

pub handed-on : {E : Type 0} (a b : Option (List ℕ)) (n : ℕ) (xs piece : List ℕ) (r : Result ℕ E)
    → take n piece ≡ map reversed (take n xs) → IfOk r (λ k. k ≤ length (take n piece))
    → IfOk r (λ k. Grew a b (take k (take n piece))) → IfOk r (λ k. Grew a b (map reversed (take k xs)))
handed-on a b n xs piece (Ok k) e l g =
    let m = length-take n piece in
    grew-is (handed-front k n xs piece e (omega (arith, m, l))) g
handed-on a b n xs piece (Err x) e l g = tt

-- what is told of reversed octets determines them
told-twice : (a : Option (List ℕ)) → all_reversed (all_reversed a) ≡ a
told-twice None = refl
told-twice (Some v) = ap Some (octets-twice v)

pub same-reversed : (a b : Option (List ℕ)) → all_reversed a ≡ all_reversed b → a ≡ b
same-reversed a b e = sym (told-twice a) ∙ ap all_reversed e ∙ told-twice b
