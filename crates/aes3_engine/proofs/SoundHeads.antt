-- Bytes that begin with the head of a sound file.
use Rattle.std.proofs.Common.{◌≡◌, ◌≢◌, ℕ, ◌<◌, ◌≤◌, ◌⊎◌, inl, inr, List, [], ◌∷◌, ◌++◌, true, false, cond}
use Rattle.std.proofs.Common.{length, take, get_or, sym, ap, ap₂, ◌∙◌, arith, Option, None, length-append}
use Rattle.std.proofs.lemmas.Bool.{cases_Bool, cases_lt, cases_eq, lt-ltb, le-ltb}
use Rattle.std.proofs.lemmas.List.{take-append-le}
use Rattle.std.specs.Prelude.{is_some, nat_lt}
use Rattle.aes3_files.specs.Sound.{begins_sound, sound_file, sound_head, sound_head_len}
use Rattle.aes3_files.specs.declared.sound.SoundFile.{SoundFile}

-- too few bytes
pub sound-few : (b : List ℕ) → length b < sound_head_len → begins_sound b ≡ false
unfolding sound_file
sound-few b h = ap (λ few. is_some (cond {A = Option SoundFile} few None (sound_head (take sound_head_len b))))
    (lt-ltb (length b) sound_head_len h)

pub sound-none : begins_sound [] ≡ false
sound-none = sound-few [] (omega arith)

-- the head is whole
pub sound-long : (b : List ℕ) → begins_sound b ≡ true → sound_head_len ≤ length b
sound-long b h = elim (cases_lt (length b) sound_head_len) [
  | inl l ↦ absurd (let q = sound-few b l in cc)
  | inr l ↦ omega arith
]

-- what stands behind it doesn't matter
pub sound-settled : (b d : List ℕ) → sound_head_len ≤ length b → begins_sound (b ++ d) ≡ begins_sound b
unfolding sound_file
sound-settled b d h = ap₂ (λ few head. is_some (cond {A = Option SoundFile} few None (sound_head head)))
    (le-ltb (length (b ++ d)) sound_head_len (let n = length-append b d in omega arith)
    ∙ sym (le-ltb (length b) sound_head_len h))
    (take-append-le sound_head_len b d h)

pub sound-more : (b d : List ℕ) → begins_sound b ≡ true → begins_sound (b ++ d) ≡ true
sound-more b d h = sound-settled b d (sound-long b h) ∙ h

pub sound-front : (b d : List ℕ) → begins_sound (b ++ d) ≡ false → begins_sound b ≡ false
sound-front b d h = elim (cases_Bool (begins_sound b)) [
  | inl e ↦ absurd (let m = sound-more b d e in cc)
  | inr e ↦ e
]

-- it ends behind the bytes b
pub sound-short : (b d : List ℕ) → begins_sound b ≡ false → begins_sound (b ++ d) ≡ true → length b < sound_head_len
sound-short b d h e = elim (cases_lt (length b) sound_head_len) [
  | inl l ↦ l
  | inr l ↦ absurd (let m = sound-settled b d l in cc)
]

-- its first byte or its fifth is not zero
silent : (a b c : ℕ) (more : List ℕ) → begins_sound (0 ∷ a ∷ b ∷ c ∷ 0 ∷ more) ≡ false
unfolding sound_file
silent a b c more = elim (cases_Bool (nat_lt (length (0 ∷ a ∷ b ∷ c ∷ 0 ∷ more)) sound_head_len)) [
  | inl e ↦ ap (λ few. is_some (cond {A = Option SoundFile} few None None)) e
  | inr e ↦ ap (λ few. is_some (cond {A = Option SoundFile} few None None)) e
]

pub sound-head : (b : List ℕ) → begins_sound b ≡ true → (get_or b 0 0 ≢ 0) ⊎ (get_or b 4 0 ≢ 0)
sound-head (x ∷ a ∷ b ∷ c ∷ y ∷ more) h = elim (cases_eq x 0) [
  | inr n ↦ inl n
  | inl q ↦ elim (cases_eq y 0) [
    | inr n ↦ inr n
    | inl r ↦ absurd (let e = ap₂ (λ v w. begins_sound (v ∷ a ∷ b ∷ c ∷ w ∷ more)) q r in
        let s = silent a b c more in cc)
  ]
]
sound-head b h = absurd (let l = sound-long b h in omega arith)
