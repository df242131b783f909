-- Bytes that a sink holds for another one.
use Rattle.std.proofs.Common.{◌≡◌, ℕ, ◌+◌, ◌≤◌, List, ◌++◌, Option, Some, None, length, take, drop, refl, ap, ◌∙◌}
use Rattle.std.proofs.Common.{append_assoc, take-append-drop, arith}
use Rattle.std.proofs.lemmas.List.{length-take, length-take-le, length-append, take-append-le, take-take}
use Rattle.std.proofs.lemmas.List.{drop-append-le}
use Rattle.std.proofs.lemmas.Slice.{take-put_mid}
use borrow.Rule.Slice.PartMut.{put_mid}
use Rattle.std.specs.Option.{is_some}
use Rattle.aes3_cell.specs.Ends.{Grew}
use Rattle.aes3_cell.specs.Buffering.{followed_by, held}

-- an end that tells its bytes, or doesn't, before and after
told-followed : (a b : Option (List ℕ)) (x : List ℕ) → is_some b ≡ is_some a → Grew a b x → b ≡ followed_by a x
told-followed (Some y) b x e g = g.by y refl
told-followed None (Some z) x e g = cc
told-followed None None x e g = refl

followed-join : (a : Option (List ℕ)) (x y : List ℕ) → followed_by (followed_by a x) y ≡ followed_by a (x ++ y)
followed-join (Some z) x y = ap Some (append_assoc z x y)
followed-join None x y = refl

-- the first n of the bytes that it holds have gone
pub handed-on : (a b : Option (List ℕ)) (n : ℕ) (x : List ℕ) → is_some b ≡ is_some a → Grew a b (take n x)
    → followed_by b (drop n x) ≡ followed_by a x
handed-on a b n x e g =
    ap (λ v. followed_by v (drop n x)) (told-followed a b (take n x) e g) ∙ followed-join a (take n x) (drop n x)
    ∙ ap (followed_by a) (take-append-drop n x)

-- bytes put behind those that it holds
pub held-put : (start end n k len : ℕ) (xs s ys rest : List ℕ) → s ≡ xs → start ≤ end → end ≤ length xs
    → n ≡ end + length ys → n ≤ len
    → held start n (take len (put_mid end k s ys ++ rest)) ≡ held start end xs ++ ys
held-put start end n k len xs s ys rest q o h e l =
    let front : take n (put_mid end k s ys) ≡ take end xs ++ ys =
    take-put_mid end k s ys n e (let d = ap length q in omega (arith, d, h)) ∙ ap (λ v. take end v ++ ys) q in
    let size = length-take-le end xs h in
    let room : n ≤ length (put_mid end k s ys) =
    (let a = ap length front in
    let b = length-take n (put_mid end k s ys) in
    let d = length-append (take end xs) ys in
    omega (arith, a, b, d, size, e)) in
    ap (drop start) (take-take n len (put_mid end k s ys ++ rest) l ∙ take-append-le n (put_mid end k s ys) rest room
    ∙ front)
    ∙ drop-append-le start (take end xs) ys (omega (arith, size, o))
