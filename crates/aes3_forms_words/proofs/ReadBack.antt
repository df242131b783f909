-- Words that were written in a form, read again, and words whose codes are wrong.
use Rattle.std.proofs.Common.{◌≡◌, ◌<◌, ◌+◌, ◌*◌, ◌/◌, ◌%◌, ◌==◌, ℕ, suc, zero, inl, inr, Bool, true, false}
use Rattle.std.proofs.Common.{List, [], ◌∷◌, ◌++◌, get_or, refl, sym, ap, ◌∙◌, arith}
use Rattle.std.proofs.Common.{if◌then◌else◌, ◌||◌}
use Rattle.std.specs.Prelude.{◌⊎◌, ◌↔◌}
use Rattle.std.proofs.lemmas.Bool.{eq-eqb, ne_eqb}
use Rattle.aes3_forms_words.specs.declared.alsa_am824.Words.{Words}
use Rattle.aes3_forms_words.specs.declared.alsa_am824.Words.TheVariants.{Own, Alsa, Am824}
use Rattle.aes3_forms_words.specs.Forms.{code, code_in, is_within, own_word, with_code, without_code}
use Rattle.aes3_forms_words.specs.Forms.{written_word}
use Rattle.aes3_forms_words.specs.Lists.{each_word, from_block, most_left_out, next, own_of, written_of}
use Rattle.aes3_forms_words.specs.Laws.{AreOctets, HaveNoCodes, IsRight}
use Rattle.aes3_forms_words.proofs.OneWord.{am824-back, code-back, few-code}

-- ALSA's codes are not 0
pub coded-alsa : (p : ℕ) → 0 < code Alsa p
coded-alsa p = go (p == 0) (p % 2 == 0)
  where
    go : (b e : Bool) → 0 < (if b then 8 else if e then 2 else 4)
    go true e = omega arith
    go false true = omega arith
    go false false = omega arith

-- a word that was written is read as it was
own-written : (form : Words) (p a b c d : ℕ) → a < 256 → b < 256 → c < 256 → d < 256 → a % 16 ≡ 0 → (v : List ℕ)
    → each_word (own_word form) p (written_word form p a b c d ++ v)
    ≡ a ∷ b ∷ c ∷ d ∷ each_word (own_word form) (next p) v
own-written Own p a b c d ha hb hc hd z v = refl
own-written Alsa p a b c d ha hb hc hd z v =
    let few = few-code Alsa p in
    let some = coded-alsa p in
    let n = code Alsa p in
    let e : (with_code n a % 16 == 0) ≡ false =
    ne_eqb (with_code n a % 16) 0 (λ h. absurd (omega (arith, few, some, z, h))) in
    ap (λ t. (if t then with_code n a else without_code n (with_code n a)) ∷ b ∷ c ∷ d
    ∷ each_word (own_word Alsa) (next p) v) e
    ∙ ap (λ t. t ∷ b ∷ c ∷ d ∷ each_word (own_word Alsa) (next p) v) (code-back n a few ha)
own-written Am824 p a b c d ha hb hc hd z v =
    ap (λ t. t ++ each_word (own_word Am824) (next p) v) (am824-back p a b c d ha hb hc hd)

each-written : (form : Words) (p : ℕ) (v : List ℕ) → ((i : ℕ) → get_or v i 0 < 256)
    → ((i : ℕ) → get_or v (4 * i) 0 % 16 ≡ 0)
    → each_word (own_word form) p (each_word (written_word form) p v) ≡ v
each-written form p (a ∷ b ∷ c ∷ d ∷ v) h z =
    own-written form p a b c d (h 0) (h 1) (h 2) (h 3) (z 0) (each_word (written_word form) (next p) v)
    ∙ ap (λ t. a ∷ b ∷ c ∷ d ∷ t)
    (each-written form (next p) v (λ i. h (suc (suc (suc (suc i))))) later)
  where
    later : (i : ℕ) → get_or v (4 * i) 0 % 16 ≡ 0
    later i =
        let e : 4 * suc i ≡ suc (suc (suc (suc (4 * i)))) = omega arith in
        sym (ap (λ n. get_or (a ∷ b ∷ c ∷ d ∷ v) n 0 % 16) e) ∙ z (suc i)
each-written form p (a ∷ b ∷ c ∷ []) h z = refl
each-written form p (a ∷ b ∷ []) h z = refl
each-written form p (a ∷ []) h z = refl
each-written form p [] h z = refl

-- what is written begins with a block
begins : (form : Words) (n : ℕ) (v : List ℕ) → ((i : ℕ) → get_or v i 0 < 256) → ((i : ℕ) → get_or v (4 * i) 0 % 16 ≡ 0)
    → from_block form n (each_word (written_word form) 0 v) ≡ each_word (written_word form) 0 v
begins form zero v h z = refl
begins form (suc n) [] h z = refl
begins form (suc n) (a ∷ []) h z = refl
begins form (suc n) (a ∷ b ∷ []) h z = refl
begins form (suc n) (a ∷ b ∷ c ∷ []) h z = refl
begins Own (suc n) (a ∷ b ∷ c ∷ d ∷ v) h z = refl
begins Alsa (suc n) (a ∷ b ∷ c ∷ d ∷ v) h z =
    let e : with_code 8 a % 16 ≡ 8 = (let k = z 0 in omega (arith, k)) in
    let is : is_within Alsa (with_code 8 a) ≡ false = ap (λ m. (m == 2) || (m == 4)) e in
    ap (λ t. if t then from_block Alsa n (each_word (written_word Alsa) 1 v)
    else with_code 8 a ∷ b ∷ c ∷ d ∷ each_word (written_word Alsa) 1 v) is
begins Am824 (suc n) (a ∷ b ∷ c ∷ d ∷ v) h z =
    let l = with_code 3 a % 16 * 16 + d / 16 in
    let e : l / 16 ≡ 3 = (let k = z 0 in let m = h 3 in omega (arith, k, m)) in
    let is : is_within Am824 l ≡ false = ap (λ m. (m == 1) || (m == 0)) e in
    ap (λ t. if t then from_block Am824 n (each_word (written_word Am824) 1 v)
    else l ∷ (d % 16 * 16 + c / 16) ∷ (c % 16 * 16 + b / 16) ∷ (b % 16 * 16 + with_code 3 a / 16)
    ∷ each_word (written_word Am824) 1 v) is

pub read-back : (form : Words) (octets : List ℕ) → AreOctets octets → HaveNoCodes octets
    → own_of form (written_of form octets) ≡ octets
read-back form octets o n =
    ap (each_word (own_word form) 0) (begins form most_left_out octets o.each n.each)
    ∙ each-written form 0 octets o.each n.each

-- the code of a word that was written
pub written-code : (form : Words) (p a b c d : ℕ) → d < 256 → a % 16 ≡ 0
    → code_in form (get_or (written_word form p a b c d) 0 0) ≡ code form p
written-code Own p a b c d h z = z
written-code Alsa p a b c d h z = let few = few-code Alsa p in omega (arith, few, z)
written-code Am824 p a b c d h z = let few = few-code Am824 p in omega (arith, few, z, h)

-- a word is read as a lawful one where its code is right, and only there
pub only-right : (form : Words) (p a b c d : ℕ) → a < 256
    → (get_or (own_word form p a b c d) 0 0 % 16 ≡ 0 ↔ IsRight form p a)
only-right Own p a b c d h = (
  λ e. inl e,
  λ r. elim r [
    | inl e ↦ e
    | inr e ↦ e.1
  ],
)
only-right Alsa p a b c d h = (
  λ e. go (a % 16 == 0) refl e,
  λ r. elim r [
    | inl e ↦ right e
    | inr e ↦ ap (λ t. (if t then a else without_code (code Alsa p) a) % 16) (eq-eqb (a % 16) 0 e.1) ∙ e.1
  ],
)
  where
    n : ℕ
    n = code Alsa p

    few : n < 16
    few = few-code Alsa p

    some : 0 < n
    some = coded-alsa p

    right : a % 16 ≡ n → (if a % 16 == 0 then a else without_code n a) % 16 ≡ 0
    right e =
        ap (λ t. (if t then a else without_code n a) % 16)
        (ne_eqb (a % 16) 0 (λ z. absurd (omega (arith, e, z, some))))
        ∙ omega (arith, e, few)

    go : (t : Bool) → (a % 16 == 0) ≡ t → (if t then a else without_code n a) % 16 ≡ 0
        → (a % 16 ≡ n) ⊎ ((Alsa ≡ Alsa) × (a % 16 ≡ 0))
    go true e z = inr (refl, z)
    go false e z = inl (omega (arith, z, few))
only-right Am824 p a b c d h =
    let few = few-code Am824 p in (
      λ e. inl (omega (arith, few, e, h)),
      λ r. elim r [
        | inl e ↦ omega (arith, few, e, h)
        | inr e ↦ absurd cc
      ],
    )
