-- A word in a form.
use Rattle.std.proofs.Common.{◌≡◌, ◌<◌, ◌+◌, ◌*◌, ◌/◌, ◌%◌, ◌==◌, ℕ, Bool, true, false, [], ◌∷◌}
use Rattle.std.proofs.Common.{length, refl, ap, ap₂, ◌∙◌, arith, if◌then◌else◌}
use Rattle.aes3_forms_words.specs.declared.alsa_am824.Words.{Words}
use Rattle.aes3_forms_words.specs.declared.alsa_am824.Words.TheVariants.{Own, Alsa, Am824}
use Rattle.aes3_forms_words.specs.Forms.{by_place, code, own_word, unwritten_word, written_word, with_code, without_code}
use Rattle.aes3_forms_words.proofs.EachWord.{Fours}

-- what is read or written of a word is a word
four-own : (form : Words) (p a b c d : ℕ) → length (own_word form p a b c d) ≡ 4
four-own Own p a b c d = refl
four-own Alsa p a b c d = refl
four-own Am824 p a b c d = refl

four-written : (form : Words) (p a b c d : ℕ) → length (written_word form p a b c d) ≡ 4
four-written Own p a b c d = refl
four-written Alsa p a b c d = refl
four-written Am824 p a b c d = refl

pub own-fours : (form : Words) → Fours (own_word form)
own-fours form = record { four = four-own form }

pub written-fours : (form : Words) → Fours (written_word form)
written-fours form = record { four = four-written form }

-- codes are below 16
few-place : (z x y p : ℕ) → z < 16 → x < 16 → y < 16 → by_place z x y p < 16
few-place z x y p hz hx hy = go (p == 0) (p % 2 == 0)
  where
    go : (b e : Bool) → (if b then z else if e then x else y) < 16
    go true e = hz
    go false true = hx
    go false false = hy

pub few-code : (form : Words) (p : ℕ) → code form p < 16
few-code Own p = omega arith
few-code Alsa p = few-place 8 2 4 p (omega arith) (omega arith) (omega arith)
few-code Am824 p = few-place 3 1 0 p (omega arith) (omega arith) (omega arith)

-- a code added and taken away
pub code-back : (c a : ℕ) → c < 16 → a < 256 → without_code c (with_code c a) ≡ a
code-back c a h k = omega arith

pub coded-lt : (c a : ℕ) → a < 256 → with_code c a < 256
coded-lt c a h = omega arith

-- a word turned right and left again
pub turned : (s t u : ℕ) → s < 256 → t < 256
    → (u % 16 * 16 + s / 16) % 16 * 16 + (s % 16 * 16 + t / 16) / 16 ≡ s
turned s t u hs ht = omega arith

pub am824-back : (p a b c d : ℕ) → a < 256 → b < 256 → c < 256 → d < 256
    → (let e = with_code (code Am824 p) a in
    unwritten_word Am824 p (e % 16 * 16 + d / 16) (d % 16 * 16 + c / 16) (c % 16 * 16 + b / 16) (b % 16 * 16 + e / 16))
    ≡ a ∷ b ∷ c ∷ d ∷ []
am824-back p a b c d ha hb hc hd =
    let n = code Am824 p in
    let k = few-code Am824 p in
    let e = with_code n a in
    let he : e < 256 = coded-lt n a ha in
    ap₂ ◌∷◌ (ap (without_code n) (turned e d b he hd) ∙ code-back n a k ha)
    (ap₂ ◌∷◌ (turned b e c hb he) (ap₂ ◌∷◌ (turned c b d hc hb) (ap₂ ◌∷◌ (turned d c e hd hc) refl)))
