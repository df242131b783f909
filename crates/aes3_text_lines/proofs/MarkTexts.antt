-- The line of a preamble, made in an array.
use Rattle.std.proofs.Common.{◌≡◌, ℕ, ◌+◌, ◌*◌, ◌/◌, ◌%◌, ◌^◌, ◌<◌, ◌≤◌, List, [], ◌∷◌, ◌++◌, length, take, drop, refl}
use Rattle.std.proofs.Common.{sym, ap, ap₂, ◌∙◌, arith, append_assoc, length-append, length-take, eqb, true, eqb-true}
use Rattle.std.specs.Prelude.{bit_and, codes, decimal}
use Rattle.std.proofs.lemmas.Bool.{agree_below_at}
use Rattle.std.proofs.lemmas.List.{drop_at, take-append-drop, take-append-le}
use Rattle.std.proofs.lemmas.Slice.{take-put_mid_below}
use Rattle.std.proofs.Math.Seq.{take-add, take-append-add}
use Rattle.itoa.proofs.Decimal.{pair, decimal_four}
use Rattle.aes3_level.specs.declared.level.Level.{Level}
use Rattle.aes3_slot.specs.declared.mark.Mark.{Mark}
use Rattle.aes3_slot.specs.declared.mark.Mark.TheVariants.{X, Y, Z}
use Rattle.aes3_text_lines.specs.MarkLines.{level_digit, mark_beginning, mark_ending, mark_line}
use borrow.Rule.Slice.PartMut.{put_mid, post_of}

-- bytes put over a part of others: a front, and one that ends in them
front-put : (x y : List ℕ) (a k : ℕ) → a ≤ length x → take a (put_mid a k x y) ≡ take a x
front-put x y a k h = take-put_mid_below a k x y a (omega arith) h

pub part-put : (x y : List ℕ) (a k n : ℕ) → a ≤ length x → n ≤ length y
    → take (a + n) (put_mid a k x y) ≡ take a x ++ take n y
part-put x y a k n h g =
    let l = length-take a x in
    take-add a n (put_mid a k x y)
    ∙ ap₂ (λ u v. u ++ take n v) (front-put x y a k h) (drop_at (take a x) (y ++ post_of a k x) a (omega (arith, l, h)))
    ∙ ap (λ v. take a x ++ v) (take-append-le n y (post_of a k x) g)

-- ten bytes b, the first `len` of the bytes t, and p and e, each put behind the one before it
pub made : (x y z v b t p e : List ℕ) (len : ℕ) → len ≤ 16 → length b ≡ 10 → length t ≡ 16
    → take 10 x ≡ b → take 26 y ≡ take 10 x ++ t
    → take (10 + len + 4) z ≡ take (10 + len) y ++ p → take (10 + len + 4 + 10) v ≡ take (10 + len + 4) z ++ e
    → take (10 + len + 14) v ≡ (b ++ take len t) ++ (p ++ e)
made x y z v b t p e len few lb lt first second third fourth =
    ap (λ n. take n v) (omega arith) ∙ fourth
    ∙ ap (λ w. w ++ e) (third ∙ ap (λ w. w ++ p) begun)
    ∙ append_assoc (b ++ take len t) p e
  where
    both : take 26 y ≡ b ++ t
    both = second ∙ ap (λ w. w ++ t) first

    begun : take (10 + len) y ≡ b ++ take len t
    begun =
        let l = ap length both in
        let a = length-append b t in
        ap (take (10 + len)) (sym (take-append-drop 26 y))
        ∙ take-append-le (10 + len) (take 26 y) (drop 26 y) (omega (arith, l, a, lb, lt, few))
        ∙ ap (take (10 + len)) both
        ∙ ap (λ n. take (n + len) (b ++ t)) (sym lb) ∙ take-append-add b t len

-- a number's text by its upper digits and its last four
upper-last : (upper last : ℕ) → 0 < upper → last < 10000 → 10000 * upper + last < 2 ^ 64
    → decimal upper ++ (pair (last / 100) ++ pair (last % 100)) ≡ decimal (10000 * upper + last)
upper-last upper last some few fits =
    let u : (10000 * upper + last) / 10000 ≡ upper = omega (arith, few) in
    let l : (10000 * upper + last) % 10000 ≡ last = omega (arith, few) in
    sym (decimal_four (10000 * upper + last) (omega (arith, some)) fits
    ∙ ap₂ (λ x y. decimal x ++ (pair (y / 100) ++ pair (y % 100))) u l)

pub line-is : (m : Mark) (before : Level) (upper last : ℕ) → 0 < upper → last < 10000 → 10000 * upper + last < 2 ^ 64
    → (mark_beginning m ++ decimal upper) ++ ((pair (last / 100) ++ pair (last % 100)) ++ mark_ending before)
    ≡ mark_line (10000 * upper + last) m before
line-is m before upper last some few fits =
    let p = pair (last / 100) ++ pair (last % 100) in
    let front = mark_beginning m ++ decimal (10000 * upper + last) in
    sym (append_assoc (mark_beginning m ++ decimal upper) p (mark_ending before))
    ∙ ap (λ x. x ++ mark_ending before) (append_assoc (mark_beginning m) (decimal upper) p
    ∙ ap (λ x. mark_beginning m ++ x) (upper-last upper last some few fits))
    ∙ sym (ap (λ x. x ++ 10 ∷ []) (append_assoc front (codes " before ") (level_digit before))
    ∙ append_assoc front (codes " before " ++ level_digit before) (10 ∷ []))

pub length-beginning : (m : Mark) → length (mark_beginning m) ≡ 10
length-beginning X = refl
length-beginning Y = refl
length-beginning Z = refl

-- the tens of both pairs of a number's last four digits
pub tens-are : (n : ℕ) → n < 10000 → bit_and ((n / 100 + n % 100 * 65536 % 4294967296) * 103 / 1024) 983055
    ≡ n / 100 / 10 + n % 100 / 10 * 65536
tens-are n h =
    eqb-true _ _ (agree_below_at (λ n. eqb (bit_and ((n / 100 + n % 100 * 65536 % 4294967296) * 103 / 1024) 983055)
    (n / 100 / 10 + n % 100 / 10 * 65536)) (λ _. true) 10000 n refl h)
