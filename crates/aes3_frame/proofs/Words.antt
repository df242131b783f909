-- The words of bytes, and those before the first that is not lawful.
use Rattle.std.proofs.Common.{◌≡◌, ℕ, suc, ◌*◌, ◌/◌, ◌%◌, ◌<◌, List, [], ◌∷◌, ◌++◌, Bool, true, false, cond, ◌&&◌}
use Rattle.std.proofs.Common.{length, drop, refl, sym, ap, ◌∙◌, arith, append-nil}
use Rattle.std.specs.List.{take_while}
use Rattle.std.proofs.lemmas.List.Sums.{take_while-cons}
use Rattle.aes3_frame.specs.Files.{bytes_number, words_of, is_lawful, lawful_words}

-- how many words
pub length-words : (b : List ℕ) → length (words_of b) ≡ length b / 4
length-words [] = refl
length-words (a ∷ []) = refl
length-words (a ∷ b ∷ []) = refl
length-words (a ∷ b ∷ c ∷ []) = refl
length-words (a ∷ b ∷ c ∷ d ∷ rest) = let e = length-words rest in omega arith

-- a byte that does not end a word
pub words-short : (b : List ℕ) (x : ℕ) → length b % 4 < 3 → words_of (b ++ x ∷ []) ≡ words_of b
words-short [] x h = refl
words-short (a ∷ []) x h = refl
words-short (a ∷ b ∷ []) x h = refl
words-short (a ∷ b ∷ c ∷ []) x h = absurd (omega arith)
words-short (a ∷ b ∷ c ∷ d ∷ rest) x h =
    ap (λ w. bytes_number (a ∷ b ∷ c ∷ d ∷ []) ∷ w) (words-short rest x (omega arith))

-- a byte that ends a word, and what stands behind it
pub words-whole : (b : List ℕ) (x : ℕ) (more : List ℕ) → length b % 4 ≡ 3
    → words_of (b ++ x ∷ more) ≡ words_of b ++ bytes_number (drop (4 * (length b / 4)) b ++ x ∷ []) ∷ words_of more
words-whole [] x more h = absurd (omega arith)
words-whole (a ∷ []) x more h = absurd (omega arith)
words-whole (a ∷ b ∷ []) x more h = absurd (omega arith)
words-whole (a ∷ b ∷ c ∷ []) x more h = refl
words-whole (a ∷ b ∷ c ∷ d ∷ rest) x more h =
    let e : 4 * (length (a ∷ b ∷ c ∷ d ∷ rest) / 4) ≡ suc (suc (suc (suc (4 * (length rest / 4))))) = omega arith in
    ap (λ w. bytes_number (a ∷ b ∷ c ∷ d ∷ []) ∷ w) (words-whole rest x more (omega arith))
    ∙ ap (λ n. words_of (a ∷ b ∷ c ∷ d ∷ rest) ++ bytes_number
    (drop n (a ∷ b ∷ c ∷ d ∷ rest) ++ x ∷ []) ∷ words_of more) (sym e)

-- words all of which are lawful
abbrev pub all_lawful : List ℕ → Bool
all_lawful [] = true
all_lawful (w ∷ ws) = is_lawful w && all_lawful ws

pub lawful-front : (ws vs : List ℕ) → all_lawful ws ≡ true
    → take_while is_lawful (ws ++ vs) ≡ ws ++ take_while is_lawful vs
lawful-front [] vs h = refl
lawful-front (w ∷ ws) vs h = go (is_lawful w) refl h (lawful-front ws vs)
  where
    go : (b : Bool) → is_lawful w ≡ b → (b && all_lawful ws) ≡ true
        → (all_lawful ws ≡ true → take_while is_lawful (ws ++ vs) ≡ ws ++ take_while is_lawful vs)
        → take_while is_lawful (w ∷ (ws ++ vs)) ≡ w ∷ (ws ++ take_while is_lawful vs)
    go true e h next = take_while-cons is_lawful w (ws ++ vs)
        ∙ ap (λ b. cond {A = List ℕ} b (w ∷ take_while is_lawful (ws ++ vs)) []) e ∙ ap (λ z. w ∷ z) (next h)
    go false e h next = cc

pub lawful-all : (ws : List ℕ) → all_lawful ws ≡ true → take_while is_lawful ws ≡ ws
lawful-all ws h = ap (take_while is_lawful) (sym (append-nil ws)) ∙ lawful-front ws [] h ∙ append-nil ws

pub lawful-stop : (w : ℕ) (vs : List ℕ) → is_lawful w ≡ false → take_while is_lawful (w ∷ vs) ≡ []
lawful-stop w vs e = take_while-cons is_lawful w vs ∙ ap (λ b. cond {A = List ℕ} b (w ∷ take_while is_lawful vs) []) e

pub all_lawful-push : (ws : List ℕ) (w : ℕ) → all_lawful ws ≡ true → is_lawful w ≡ true
    → all_lawful (ws ++ w ∷ []) ≡ true
all_lawful-push [] w h e = rw e refl
all_lawful-push (v ∷ ws) w h e = go (is_lawful v) refl h (all_lawful-push ws w)
  where
    go : (b : Bool) → is_lawful v ≡ b → (b && all_lawful ws) ≡ true
        → (all_lawful ws ≡ true → is_lawful w ≡ true → all_lawful (ws ++ w ∷ []) ≡ true)
        → (b && all_lawful (ws ++ w ∷ [])) ≡ true
    go true q h next = next h e
    go false q h next = cc

-- the lawful words of bytes, with one more byte
pub lawful-words : (b : List ℕ) → all_lawful (words_of b) ≡ true → lawful_words b ≡ words_of b
unfolding lawful_words
lawful-words b h = lawful-all (words_of b) h

-- behind a word that is not lawful nothing counts
pub lawful-stays : (b : List ℕ) (x : ℕ) (more : List ℕ) → length b % 4 ≡ 3 → all_lawful (words_of b) ≡ true
    → is_lawful (bytes_number (drop (4 * (length b / 4)) b ++ x ∷ [])) ≡ false
    → lawful_words (b ++ x ∷ more) ≡ lawful_words b
unfolding lawful_words
lawful-stays b x more h l e =
    let w = bytes_number (drop (4 * (length b / 4)) b ++ x ∷ []) in
    ap (take_while is_lawful) (words-whole b x more h) ∙ lawful-front (words_of b) (w ∷ words_of more) l
    ∙ ap (λ z. words_of b ++ z) (lawful-stop w (words_of more) e) ∙ append-nil (words_of b)
    ∙ sym (lawful-all (words_of b) l)

-- where the lawful words are all words, each is lawful
lawful-from : (ws : List ℕ) → take_while is_lawful ws ≡ ws → all_lawful ws ≡ true
lawful-from [] e = refl
lawful-from (w ∷ ws) e = go (is_lawful w) (sym (take_while-cons is_lawful w ws) ∙ e) (lawful-from ws)
  where
    go : (b : Bool) → cond {A = List ℕ} b (w ∷ take_while is_lawful ws) [] ≡ w ∷ ws
        → (take_while is_lawful ws ≡ ws → all_lawful ws ≡ true) → (b && all_lawful ws) ≡ true
    go true q next = next cc
    go false q next = absurd cc

pub all_lawful-from : (b : List ℕ) → lawful_words b ≡ words_of b → all_lawful (words_of b) ≡ true
unfolding lawful_words
all_lawful-from b e = lawful-from (words_of b) e
