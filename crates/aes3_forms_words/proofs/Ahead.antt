-- Words before the first block, and the words behind them.
use Rattle.std.proofs.Common.{◌≡◌, ◌<◌, ◌≤◌, ◌+◌, ◌-◌, ◌*◌, ◌/◌, ◌%◌, ◌⊎◌, inl, inr, ℕ, suc, zero, Bool, true, false}
use Rattle.std.proofs.Common.{List, [], ◌∷◌, ◌++◌, length, take, drop, get_or, refl, sym, ap, ap₂, ◌∙◌, append_assoc}
use Rattle.std.proofs.Common.{append-nil, take-append-drop, arith, if◌then◌else◌, ◌&&◌, not, nat_lt, lt-ltb, subst}
use Rattle.std.proofs.lemmas.Bool.{cases_lt}
use Rattle.std.proofs.lemmas.List.{length-append, length-take-le, length-drop, take_all, take_at, drop_at}
use Rattle.std.proofs.lemmas.List.{take-append-le}
use Rattle.aes3_forms_words.specs.declared.alsa_am824.Words.{Words}
use Rattle.aes3_forms_words.specs.Forms.{is_within, own_word}
use Rattle.aes3_forms_words.specs.Lists.{each_word, from_block, most_left_out, own_of}
use Rattle.aes3_forms_words.specs.Reading.{AllLeft, AreAhead, Begun, is_left_out, read_more, read_whole, whole_of}
use Rattle.aes3_forms_words.proofs.EachWord.{Fours, each-append, each-cut, few-stay, length-each}
use Rattle.aes3_forms_words.proofs.OneWord.{own-fours}

-- a word that is left out, and one that isn't
left-one : (form : Words) (n a b c d : ℕ) (more : List ℕ) → is_within form a ≡ true
    → from_block form (suc n) (a ∷ b ∷ c ∷ d ∷ more) ≡ from_block form n more
left-one form n a b c d more w = ap (λ t. if t then from_block form n more else a ∷ b ∷ c ∷ d ∷ more) w

begun-one : (form : Words) (n a b c d : ℕ) (more : List ℕ) → is_within form a ≡ false
    → from_block form (suc n) (a ∷ b ∷ c ∷ d ∷ more) ≡ a ∷ b ∷ c ∷ d ∷ more
begun-one form n a b c d more w = ap (λ t. if t then from_block form n more else a ∷ b ∷ c ∷ d ∷ more) w

-- whole words are one or the other
pub split : (form : Words) (n m : ℕ) (v : List ℕ) → length v ≡ 4 * m
    → ((left : ℕ) × AllLeft form n left v) ⊎ Begun form n v
split form zero m v l = inr (record { on = λ more. refl })
split form (suc n) m [] l = inl (suc n, record { none = refl; on = λ more. refl })
split form (suc n) m (a ∷ []) l = absurd (omega (arith, l))
split form (suc n) m (a ∷ b ∷ []) l = absurd (omega (arith, l))
split form (suc n) m (a ∷ b ∷ c ∷ []) l = absurd (omega (arith, l))
split form (suc n) zero (a ∷ b ∷ c ∷ d ∷ v) l = absurd (omega (arith, l))
split form (suc n) (suc m) (a ∷ b ∷ c ∷ d ∷ v) l = go (is_within form a) refl (split form n m v (omega (arith, l)))
  where
    go : (t : Bool) → is_within form a ≡ t → ((left : ℕ) × AllLeft form n left v) ⊎ Begun form n v
        → ((left : ℕ) × AllLeft form (suc n) left (a ∷ b ∷ c ∷ d ∷ v)) ⊎ Begun form (suc n) (a ∷ b ∷ c ∷ d ∷ v)
    go true w (inl (left, h)) = inl (
      left,
      record {
        none = left-one form n a b c d v w ∙ h.none;
        on = λ more. left-one form n a b c d (v ++ more) w ∙ h.on more;
      },
    )
    go true w (inr h) = inr (record {
      on = λ more. left-one form n a b c d (v ++ more) w ∙ h.on more
          ∙ ap (λ t. t ++ more) (sym (left-one form n a b c d v w));
    })
    go false w h = inr (record {
      on = λ more. begun-one form n a b c d (v ++ more) w ∙ ap (λ t. t ++ more) (sym (begun-one form n a b c d v w));
    })

-- octets that fill no word stay
pub few-front : (form : Words) (n : ℕ) (v : List ℕ) → length v < 4 → from_block form n v ≡ v
few-front form zero v h = refl
few-front form (suc n) [] h = refl
few-front form (suc n) (a ∷ []) h = refl
few-front form (suc n) (a ∷ b ∷ []) h = refl
few-front form (suc n) (a ∷ b ∷ c ∷ []) h = refl
few-front form (suc n) (a ∷ b ∷ c ∷ d ∷ v) h = absurd (omega (arith, h))

-- whole words are left, so many
pub length-from : (form : Words) (n m : ℕ) (v : List ℕ) → length v ≡ 4 * m
    → (k : ℕ) × (length (from_block form n v) ≡ 4 * k)
length-from form zero m v l = (m, l)
length-from form (suc n) m [] l = (zero, refl)
length-from form (suc n) m (a ∷ []) l = absurd (omega (arith, l))
length-from form (suc n) m (a ∷ b ∷ []) l = absurd (omega (arith, l))
length-from form (suc n) m (a ∷ b ∷ c ∷ []) l = absurd (omega (arith, l))
length-from form (suc n) zero (a ∷ b ∷ c ∷ d ∷ v) l = absurd (omega (arith, l))
length-from form (suc n) (suc m) (a ∷ b ∷ c ∷ d ∷ v) l =
    go (is_within form a) refl (length-from form n m v (omega (arith, l)))
  where
    go : (t : Bool) → is_within form a ≡ t → (k : ℕ) × (length (from_block form n v) ≡ 4 * k)
        → (k : ℕ) × (length (from_block form (suc n) (a ∷ b ∷ c ∷ d ∷ v)) ≡ 4 * k)
    go true w (k, h) = (k, ap length (left-one form n a b c d v w) ∙ h)
    go false w h = (suc m, ap length (begun-one form n a b c d v w) ∙ l)

pub length-own : (form : Words) (m : ℕ) (v : List ℕ) → length v ≡ 4 * m → (k : ℕ) × (length (own_of form v) ≡ 4 * k)
length-own form m v l =
    let r = length-from form most_left_out m v l in
    (r.0, length-each (own_word form) (own-fours form) 0 (from_block form most_left_out v) ∙ r.1)

-- whole words, and octets behind them that fill none
pub own-cut : (form : Words) (m : ℕ) (v w : List ℕ) → length v ≡ 4 * m → length w < 4
    → own_of form (v ++ w) ≡ own_of form v ++ w
own-cut form m v w l h = go (split form most_left_out m v l)
  where
    go : ((left : ℕ) × AllLeft form most_left_out left v) ⊎ Begun form most_left_out v
        → own_of form (v ++ w) ≡ own_of form v ++ w
    go (inl (left, a)) =
        ap (each_word (own_word form) 0) (a.on w ∙ few-front form left w h)
        ∙ few-stay (own_word form) 0 w h
        ∙ ap (λ t. each_word (own_word form) 0 t ++ w) (sym a.none)
    go (inr b) =
        let r = length-from form most_left_out m v l in
        ap (each_word (own_word form) 0) (b.on w)
        ∙ each-cut (own_word form) 0 r.0 (from_block form most_left_out v) w (omega arith) r.1 h

-- the first block's words go on
pub own-begun : (form : Words) (m : ℕ) (v w : List ℕ) → length v ≡ 4 * m → Begun form most_left_out v
    → own_of form (v ++ w) ≡ own_of form v ++ each_word (own_word form) (length (own_of form v) / 4 % 384) w
own-begun form m v w l b =
    let r = length-from form most_left_out m v l in
    let size = length-each (own_word form) (own-fours form) 0 (from_block form most_left_out v) in
    let at : (0 + r.0) % 384 ≡ length (own_of form v) / 4 % 384 = (let e = r.1 in omega (arith, size, e)) in
    ap (each_word (own_word form) 0) (b.on w)
    ∙ each-append (own_word form) 0 r.0 (from_block form most_left_out v) w (omega arith) r.1
    ∙ ap (λ q. own_of form v ++ each_word (own_word form) q w) at

pub own-left : (form : Words) (left : ℕ) (v : List ℕ) → AllLeft form most_left_out left v → own_of form v ≡ []
own-left form left v a = ap (each_word (own_word form) 0) a.none

-- one word more behind words that are left out: it is left out too, or begins the first block
pub left-word : (form : Words) (left : ℕ) (v w : List ℕ) → AllLeft form most_left_out (suc left) v → length w ≡ 4
    → is_within form (get_or w 0 0) ≡ true → AllLeft form most_left_out left (v ++ w)
left-word form left v (a ∷ b ∷ c ∷ d ∷ []) h l e = record {
  none = h.on (a ∷ b ∷ c ∷ d ∷ []) ∙ left-one form left a b c d [] e ∙ nothing left;
  on = λ more. ap (from_block form most_left_out) (append_assoc v (a ∷ b ∷ c ∷ d ∷ []) more)
      ∙ h.on (a ∷ b ∷ c ∷ d ∷ more) ∙ left-one form left a b c d more e;
}
  where
    nothing : (n : ℕ) → from_block form n [] ≡ []
    nothing zero = refl
    nothing (suc n) = refl
left-word form left v [] h l e = absurd (omega (arith, l))
left-word form left v (a ∷ []) h l e = absurd (omega (arith, l))
left-word form left v (a ∷ b ∷ []) h l e = absurd (omega (arith, l))
left-word form left v (a ∷ b ∷ c ∷ []) h l e = absurd (omega (arith, l))
left-word form left v (a ∷ b ∷ c ∷ d ∷ f ∷ w) h l e = absurd (omega (arith, l))

-- so many may be left out, and this one is not
pub record Outside (form : Words) (left octet : ℕ) : Type 0 where
  pub is : (left ≡ 0) ⊎ (is_within form octet ≡ false)

front-word : (form : Words) (left : ℕ) (w more : List ℕ) → length w ≡ 4 → Outside form left (get_or w 0 0)
    → from_block form left (w ++ more) ≡ w ++ more
front-word form zero w more l o = refl
front-word form (suc n) (a ∷ b ∷ c ∷ d ∷ []) more l o = elim o.is [
  | inl z ↦ absurd (omega (arith, z))
  | inr e ↦ begun-one form n a b c d more e
]
front-word form (suc n) [] more l o = absurd (omega (arith, l))
front-word form (suc n) (a ∷ []) more l o = absurd (omega (arith, l))
front-word form (suc n) (a ∷ b ∷ []) more l o = absurd (omega (arith, l))
front-word form (suc n) (a ∷ b ∷ c ∷ []) more l o = absurd (omega (arith, l))
front-word form (suc n) (a ∷ b ∷ c ∷ d ∷ e ∷ w) more l o = absurd (omega (arith, l))

pub first-word : (form : Words) (left : ℕ) (v w : List ℕ) → AllLeft form most_left_out left v → length w ≡ 4
    → Outside form left (get_or w 0 0)
    → Begun form most_left_out (v ++ w) × (own_of form (v ++ w) ≡ each_word (own_word form) 0 w)
first-word form left v w h l o =
    let front : from_block form most_left_out (v ++ w) ≡ w =
    h.on w ∙ ap (from_block form left) (sym (append-nil w)) ∙ front-word form left w [] l o ∙ append-nil w in (
      record {
        on = λ more. ap (from_block form most_left_out) (append_assoc v w more) ∙ h.on (w ++ more)
            ∙ front-word form left w more l o ∙ ap (λ t. t ++ more) (sym front);
      },
      ap (each_word (own_word form) 0) front,
    )

pub begun-more : (form : Words) (n : ℕ) (v w : List ℕ) → Begun form n v → Begun form n (v ++ w)
begun-more form n v w h = record {
  on = λ more. ap (from_block form n) (append_assoc v w more) ∙ h.on (w ++ more)
      ∙ sym (append_assoc (from_block form n v) w more) ∙ ap (λ t. t ++ more) (sym (h.on w));
}

-- ---- the words that are whole

pub whole-length : (b : List ℕ) → length (whole_of b) ≡ 4 * (length b / 4)
whole-length b = length-take-le (4 * (length b / 4)) b (omega arith)

-- words and octets behind them that fill none
pub whole-cut : (m : ℕ) (v w : List ℕ) → length v ≡ 4 * m → length w < 4 → whole_of (v ++ w) ≡ v
whole-cut m v w l h =
    let size = length-append v w in
    take_at v w (4 * (length (v ++ w) / 4)) (omega (arith, size, l, h))

pub read-cut : (form : Words) (m : ℕ) (v w : List ℕ) → length v ≡ 4 * m → length w < 4
    → read_whole form (v ++ w) ≡ own_of form v
read-cut form m v w l h = ap (own_of form) (whole-cut m v w l h)

-- octets more: what is read of all begins with what is read of the first
own-front : (form : Words) (m : ℕ) (v w : List ℕ) → length v ≡ 4 * m
    → (z : List ℕ) × (own_of form (v ++ w) ≡ own_of form v ++ z)
own-front form m v w l = go (split form most_left_out m v l)
  where
    go : ((left : ℕ) × AllLeft form most_left_out left v) ⊎ Begun form most_left_out v
        → (z : List ℕ) × (own_of form (v ++ w) ≡ own_of form v ++ z)
    go (inl (left, a)) = (own_of form (v ++ w), ap (λ t. t ++ own_of form (v ++ w)) (sym (own-left form left v a)))
    go (inr b) = (each_word (own_word form) (length (own_of form v) / 4 % 384) w, own-begun form m v w l b)

whole-front : (b d : List ℕ) → whole_of (b ++ d) ≡ whole_of b ++ drop (4 * (length b / 4)) (whole_of (b ++ d))
whole-front b d =
    let size = length-append b d in
    let n = 4 * (length b / 4) in
    let k = 4 * (length (b ++ d) / 4) in
    sym (take-append-drop n (whole_of (b ++ d)))
    ∙ ap (λ t. t ++ drop n (whole_of (b ++ d)))
    (take-take n k (b ++ d) (omega (arith, size)) ∙ take-append-le n b d (omega arith))
  where
    take-take : (n k : ℕ) (v : List ℕ) → n ≤ k → take n (take k v) ≡ take n v
    take-take zero k v h = refl
    take-take (suc n) zero v h = absurd (omega (arith, h))
    take-take (suc n) (suc k) [] h = refl
    take-take (suc n) (suc k) (x ∷ v) h = ap (λ t. x ∷ t) (take-take n k v (omega (arith, h)))

pub read-on : (form : Words) (b d : List ℕ) → read_whole form (b ++ d) ≡ read_whole form b ++ read_more form b d
read-on form b d =
    let n = 4 * (length b / 4) in
    let r = own-front form (length b / 4) (whole_of b) (drop n (whole_of (b ++ d))) (whole-length b) in
    let e : read_whole form (b ++ d) ≡ read_whole form b ++ r.0 = ap (own_of form) (whole-front b d) ∙ r.1 in
    e ∙ ap (λ t. read_whole form b ++ t)
    (sym (ap (drop (length (read_whole form b))) e ∙ drop_at (read_whole form b) r.0 (length (read_whole form b)) refl))

pub more-is : (form : Words) (b d z : List ℕ) → read_whole form (b ++ d) ≡ read_whole form b ++ z
    → read_more form b d ≡ z
more-is form b d z e =
    ap (drop (length (read_whole form b))) e ∙ drop_at (read_whole form b) z (length (read_whole form b)) refl

pub length-read : (form : Words) (b : List ℕ) → (k : ℕ) × (length (read_whole form b) ≡ 4 * k)
length-read form b = length-own form (length b / 4) (whole_of b) (whole-length b)

-- no more is read than there is
length-front : (form : Words) (n : ℕ) (v : List ℕ) → length (from_block form n v) ≤ length v
length-front form zero v = omega arith
length-front form (suc n) [] = omega arith
length-front form (suc n) (a ∷ []) = omega arith
length-front form (suc n) (a ∷ b ∷ []) = omega arith
length-front form (suc n) (a ∷ b ∷ c ∷ []) = omega arith
length-front form (suc n) (a ∷ b ∷ c ∷ d ∷ v) = go (is_within form a) refl (length-front form n v)
  where
    go : (t : Bool) → is_within form a ≡ t → length (from_block form n v) ≤ length v
        → length (from_block form (suc n) (a ∷ b ∷ c ∷ d ∷ v)) ≤ length (a ∷ b ∷ c ∷ d ∷ v)
    go true w h = let e = ap length (left-one form n a b c d v w) in omega (arith, e, h)
    go false w h = let e = ap length (begun-one form n a b c d v w) in omega (arith, e)

pub length-own-le : (form : Words) (v : List ℕ) → length (own_of form v) ≤ length v
length-own-le form v =
    let e = length-each (own_word form) (own-fours form) 0 (from_block form most_left_out v) in
    let h = length-front form most_left_out v in
    omega (arith, e, h)

-- one octet more reads nothing or a word
one-from : (form : Words) (n : ℕ) (w : List ℕ) → length w ≡ 4 → (from_block form n w ≡ []) ⊎ (from_block form n w ≡ w)
one-from form zero w l = inr refl
one-from form (suc n) (a ∷ b ∷ c ∷ d ∷ []) l = go (is_within form a) refl
  where
    nothing : (n : ℕ) → from_block form n [] ≡ []
    nothing zero = refl
    nothing (suc n) = refl

    go : (t : Bool) → is_within form a ≡ t → (from_block form (suc n) (a ∷ b ∷ c ∷ d ∷ []) ≡ [])
        ⊎ (from_block form (suc n) (a ∷ b ∷ c ∷ d ∷ []) ≡ a ∷ b ∷ c ∷ d ∷ [])
    go true e = inl (left-one form n a b c d [] e ∙ nothing n)
    go false e = inr (begun-one form n a b c d [] e)
one-from form (suc n) [] l = absurd (omega (arith, l))
one-from form (suc n) (a ∷ []) l = absurd (omega (arith, l))
one-from form (suc n) (a ∷ b ∷ []) l = absurd (omega (arith, l))
one-from form (suc n) (a ∷ b ∷ c ∷ []) l = absurd (omega (arith, l))
one-from form (suc n) (a ∷ b ∷ c ∷ d ∷ e ∷ w) l = absurd (omega (arith, l))

one-own : (form : Words) (m : ℕ) (v w : List ℕ) → length v ≡ 4 * m → length w ≡ 4
    → (z : List ℕ) × (own_of form (v ++ w) ≡ own_of form v ++ z) × ((z ≡ []) ⊎ (length z ≡ 4))
one-own form m v w l h = go (split form most_left_out m v l)
  where
    f : ℕ → ℕ → ℕ → ℕ → ℕ → List ℕ
    f = own_word form

    go : ((left : ℕ) × AllLeft form most_left_out left v) ⊎ Begun form most_left_out v
        → (z : List ℕ) × (own_of form (v ++ w) ≡ own_of form v ++ z) × ((z ≡ []) ⊎ (length z ≡ 4))
    go (inl (left, a)) = elim (one-from form left w h) [
      | inl e ↦ (
        [],
        ap (each_word f 0) (a.on w ∙ e) ∙ ap (λ t. t ++ []) (sym (own-left form left v a)),
        inl refl,
      )
      | inr e ↦ (
        each_word f 0 w,
        ap (each_word f 0) (a.on w ∙ e) ∙ ap (λ t. t ++ each_word f 0 w) (sym (own-left form left v a)),
        inr (length-each f (own-fours form) 0 w ∙ h),
      )
    ]
    go (inr b) =
        let p = length (own_of form v) / 4 % 384 in (
          each_word f p w,
          own-begun form m v w l b,
          inr (length-each f (own-fours form) p w ∙ h),
        )

pub more-one : (form : Words) (b : List ℕ) (x : ℕ)
    → (read_more form b (x ∷ []) ≡ []) ⊎ (length (read_more form b (x ∷ [])) ≡ 4)
more-one form b x =
    let n = length b / 4 in
    let v = whole_of b in
    let u = drop (4 * n) (b ++ x ∷ []) in
    let size = length-append b (x ∷ []) in
    let left = length-drop (4 * n) (b ++ x ∷ []) in
    let parts : v ++ u ≡ b ++ x ∷ [] =
    ap (λ t. t ++ u) (sym (take-append-le (4 * n) b (x ∷ []) (omega arith))) ∙ take-append-drop (4 * n) (b ++ x ∷ []) in
    elim (short-or-whole (length b)) [
      | inl s ↦ inl (more-is form b (x ∷ []) []
          (ap (own_of form) (ap whole_of (sym parts) ∙ whole-cut n v u (whole-length b) (omega (arith, left, size, s)))
          ∙ sym (append-nil (own_of form v))))
      | inr s ↦
          let r = one-own form n v u (whole-length b) (omega (arith, left, size, s)) in
          let e : read_whole form (b ++ x ∷ []) ≡ read_whole form b ++ r.0 =
          ap (own_of form) (take-whole (b ++ x ∷ []) (omega (arith, size, s)) ∙ sym parts) ∙ r.1 in
          let m = more-is form b (x ∷ []) r.0 e in
          elim r.2 [
            | inl z ↦ inl (m ∙ z)
            | inr z ↦ inr (ap length m ∙ z)
          ]
    ]
  where
    short-or-whole : (n : ℕ) → (n % 4 < 3) ⊎ (n % 4 ≡ 3)
    short-or-whole n = elim (cases_lt (n % 4) 3) [ inl h ↦ inl h | inr h ↦ inr (omega (arith, h)) ]

    take-whole : (v : List ℕ) → length v % 4 ≡ 0 → whole_of v ≡ v
    take-whole v h = take_all (4 * (length v / 4)) v (omega (arith, h))

-- ---- a word more, by what is known of those before it

some-left : (left : ℕ) (t : Bool) → (nat_lt 0 (suc left) && t) ≡ t
some-left left t = ap (λ s. s && t) (lt-ltb 0 (suc left) (omega arith))

pub next-left : (has_begun : Bool) (form : Words) (left : ℕ) (v w : List ℕ) → AreAhead has_begun form left v
    → length w ≡ 4 → is_left_out has_begun form left (get_or w 0 0) ≡ true
    → (own_of form (v ++ w) ≡ own_of form v ++ []) × AreAhead has_begun form (left - 1) (v ++ w)
next-left true form left v w h l e = absurd cc
next-left false form zero v w h l e = absurd cc
next-left false form (suc left) v w h l e =
    let a = left-word form left v w h l (sym (some-left left (is_within form (get_or w 0 0))) ∙ e) in
    let k : suc left - 1 ≡ left = omega arith in (
      own-left form left (v ++ w) a ∙ ap (λ t. t ++ []) (sym (own-left form (suc left) v h)),
      subst (λ n. AllLeft form most_left_out n (v ++ w)) (sym k) a,
    )

pub next-own : (has_begun : Bool) (form : Words) (left m : ℕ) (v w : List ℕ) → AreAhead has_begun form left v
    → length v ≡ 4 * m → length w ≡ 4 → is_left_out has_begun form left (get_or w 0 0) ≡ false
    → (own_of form (v ++ w) ≡ own_of form v ++ each_word (own_word form) (length (own_of form v) / 4 % 384) w)
    × AreAhead true form left (v ++ w)
next-own true form left m v w h l k e = (own-begun form m v w l h, begun-more form most_left_out v w h)
next-own false form left m v w h l k e =
    let r = first-word form left v w h k (outside left e) in
    let none = own-left form left v h in (
      r.1 ∙ ap₂ (λ t q. t ++ each_word (own_word form) q w) (sym none)
          (ap (λ t. length t / 4 % 384) (sym none)),
      r.0,
    )
  where
    outside : (left : ℕ) → is_left_out false form left (get_or w 0 0) ≡ false → Outside form left (get_or w 0 0)
    outside zero e = record { is = inl refl }
    outside (suc left) e = record { is = inr (sym (some-left left (is_within form (get_or w 0 0))) ∙ e) }
