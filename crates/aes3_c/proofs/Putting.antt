-- Octets put into memory, one piece behind the other.
use Rattle.std.proofs.Common.{◌≡◌, ℕ, ◌-◌, ◌<◌, ◌≤◌, List, [], ◌∷◌, ◌++◌, drop, inl, inr, length, min, take}
use Rattle.std.proofs.Common.{refl, sym, ap, ap₂, ◌∙◌, arith, append_assoc, length-append, length-drop}
use Rattle.std.proofs.Common.{take-append-drop}
use Rattle.std.proofs.lemmas.Bool.{cases_lt}
use Rattle.std.proofs.lemmas.List.{drop-drop, drop_all, drop_at, drop_min, length-take, take-append-le, take_all, take_at}
use Rattle.std.proofs.lemmas.List.{take_min}
use Rattle.std.proofs.Math.Seq.{take-add}
use borrow.Rule.Slice.PartMut.{put_mid}
use Rattle.aes3_c.specs.Putting.{put_into}

-- the memory keeps its length
pub length-put : (memory octets : List ℕ) → length (put_into memory octets) ≡ length memory
length-put memory octets =
    let all = length-append (take (length memory) octets) (drop (length octets) memory) in
    let front = length-take (length memory) octets in
    let rest = length-drop (length octets) memory in
    omega (arith, all, front, rest)

-- as long as there is room
put-room : (was given more memory part : List ℕ) (n : ℕ) → memory ≡ put_into was given → length given ≤ length was
    → n ≡ min (length more) (length was - length given) → part ≡ take n more
    → put_mid (length given) n memory part ≡ put_into was (given ++ more)
put-room was given more memory part n is room count same =
    let size = length given in
    let left = length was - length given in
    let both = length-append given more in
    let shows : memory ≡ given ++ drop size was = is ∙ ap (λ x. x ++ drop size was) (take_all (length was) given room) in
    let front : take size memory ≡ given = ap (take size) shows ∙ take_at given (drop size was) size refl in
    let behind : drop size memory ≡ drop size was = ap (drop size) shows ∙ drop_at given (drop size was) size refl in
    let new : part ≡ take left more = same ∙ ap (λ k. take k more) (omega (arith, count)) ∙ take_min left more in
    let old : drop n (drop size memory) ≡ drop (length (given ++ more)) was
    = ap (drop n) behind ∙ drop-drop n size was
    ∙ ap (λ k. drop k was) (omega (arith, count, room, both))
    ∙ drop_min (length (given ++ more)) was in
    let all : take (length was) (given ++ more) ≡ given ++ take left more
    = ap (λ k. take k (given ++ more)) (omega (arith, room))
    ∙ take-add size left (given ++ more)
    ∙ ap₂ (λ x y. x ++ take left y) (take_at given more size refl) (drop_at given more size refl) in
    ap₂ (λ x y. x ++ y) front (ap₂ (λ x y. x ++ y) new old)
    ∙ sym (append_assoc given (take left more) (drop (length (given ++ more)) was))
    ∙ ap (λ x. x ++ drop (length (given ++ more)) was) (sym all)

-- where the memory is full
put-full : (was given more memory part : List ℕ) (n : ℕ) → memory ≡ put_into was given → length was < length given
    → n ≡ 0 → part ≡ take n more
    → put_mid (length was) n memory part ≡ put_into was (given ++ more)
put-full was given more memory part n is full none same =
    let size = length was in
    let both = length-append given more in
    ap₂ (λ k x. take size memory ++ (x ++ drop k (drop size memory))) none (same ∙ ap (λ k. take k more) none)
    ∙ take-append-drop size memory
    ∙ is
    ∙ ap₂ (λ x y. x ++ y) (sym (take-append-le size given more (omega (arith, full))))
    (drop_all (length given) was (omega (arith, full))
    ∙ sym (drop_all (length (given ++ more)) was (omega (arith, full, both))))

pub put-more : (was given more memory part : List ℕ) (count n k : ℕ) → memory ≡ put_into was given
    → count ≡ min (length given) (length was) → n ≡ min (length more) (length memory - count) → k ≡ n
    → part ≡ take n more → put_mid count k memory part ≡ put_into was (given ++ more)
put-more was given more memory part count n k is counts some len same =
    let long = ap length is ∙ length-put was given in
    elim (cases_lt (length was) (length given)) [
      | inl full ↦
          ap₂ (λ c j. put_mid c j memory part) (omega (arith, counts, full)) (omega (arith, len))
          ∙ put-full was given more memory part n is full (omega (arith, some, counts, long, full)) same
      | inr room ↦
          ap₂ (λ c j. put_mid c j memory part) (omega (arith, counts, room)) (omega (arith, len))
          ∙ put-room was given more memory part n is room (omega (arith, some, counts, long, room)) same
    ]
