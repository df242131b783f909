-- The octets of frames taken piece by piece.
use Rattle.std.proofs.Common.{◌≡◌, ℕ, ◌+◌, ◌-◌, ◌*◌, ◌/◌, ◌%◌, ◌<◌, ◌≤◌, List, [], ◌∷◌, ◌++◌, Option, Some, None}
use Rattle.std.proofs.Common.{Bool, Result, Ok, Err, length, take, drop, refl, sym, ap, ap₂, ◌∙◌, subst}
use Rattle.std.proofs.Common.{◌^◌, append_assoc, append-nil, take-append-drop, arith, eq-eqb, ne_eqb}
use Rattle.std.proofs.Math.Nat.{div-mul-le_self, le_of_mul-le-mul_right, mul-le-mul_right}
use Rattle.std.proofs.lemmas.Nat.{le-div}
use Rattle.std.specs.Prelude.{if◌then◌else◌}
use Rattle.std.proofs.lemmas.List.{drop_at, length-append, length-take, length-take-le, take-take, take_all}
use Rattle.aes3_refusals.specs.declared.run_error.RunError.{RunError}
use Rattle.aes3_refusals.specs.declared.run_error.RunError.TheVariants.{BadLength, Read, TooLong, Write}
use Rattle.aes3_cell.proofs.Growing.{grew-none}
use Rattle.aes3_input.specs.Converting.{Reading, fault_behind, first_fault, or_else}
use Rattle.aes3_input.specs.Running.{EndRan, Fed, FrontRan, InputState, Movement, PieceRan}
use Rattle.aes3_input.proofs.Feeding.{fed-is, fed-none, ran-join}
use Rattle.aes3_input.proofs.Outputs.{fault-clean}
use Rattle.aes3_wave.specs.declared.wave_format.WaveFormat.{WaveFormat}
use Rattle.aes3_wave.specs.declared.wave_format.Width.{Width}
use Rattle.aes3_wave.specs.declared.wave_format.Width.TheVariants.{Bits8, Bits16, Bits20, Bits24, Bits32}
use Rattle.aes3_wave.specs.declared.channels.Channels.{Channels}
use Rattle.aes3_wave.specs.Formats.{frame_len}
use Rattle.aes3_wave.specs.Samples.{counted, sample_of, sample_or_zero, two_samples}
use Rattle.aes3_engine.specs.Sampling.{more_of}
use Rattle.aes3_wave_runs.specs.Frames.{all_parts, left_over, parts_of}
use Rattle.aes3_wave_runs.specs.Through.{PairsAreOne, through}
use Rattle.aes3_wave_runs.specs.Wave.{Frames, cut_of, frames_most, frames_state, made_of}
use Rattle.aes3_wave_runs.proofs.Parts.{all-whole, grown, left-whole, length-all, length-parts, parts-join}
use Rattle.aes3_wave_runs.proofs.Parts.{parts-one, parts-take, take-both}
use Rattle.aes3_wave_runs.proofs.Through.{Grows, through-fed, through-refused}

-- ---- two samples of a frame

four : (w : Width) (b : List ℕ) → length (counted w b) ≡ 4
four Bits8 b = refl
four Bits16 b = refl
four Bits20 b = refl
four Bits24 b = refl
four Bits32 b = refl

second-four : (f : WaveFormat) (second : Option ℕ) (b : List ℕ) → length (sample_or_zero f second b) ≡ 4
second-four f None b = refl
second-four f (Some channel) b = four f.width _

pub eight : (f : WaveFormat) (channels : Channels) (b : List ℕ) → length (two_samples f channels b) ≡ 8
eight f channels b =
    length-append (sample_of f channels.first b) (sample_or_zero f channels.second b)
    ∙ ap₂ ◌+◌ (four f.width _) (second-four f channels.second b)

eights : (n k : ℕ) → n ≡ 8 * k → n % 8 ≡ 0
eights n k h = omega arith

more-is : (x a m : List ℕ) → x ≡ a ++ m → more_of a x ≡ m
more-is x a m e = ap (more_of a) e ∙ drop_at a m (length a) refl

-- samples that frames make grow with their octets
pub made-none : (f : WaveFormat) (channels : Channels) (len : ℕ) → 0 < frame_len f → made_of f channels len [] ≡ []
unfolding parts_of
made-none f channels len some =
    ap (all_parts (two_samples f channels) (frame_len f)) (take_all len [] (omega arith))
    ∙ all-whole (two_samples f channels) (frame_len f) 0 [] [] (omega arith) some

pub length-made : (f : WaveFormat) (channels : Channels) (len : ℕ) (b : List ℕ)
    → length (made_of f channels len b) % 8 ≡ 0
length-made f channels len b =
    eights (length (made_of f channels len b)) (length (take len b) / frame_len f)
    (length-all (two_samples f channels) (frame_len f) (take len b) (eight f channels))

pub grows : (f : WaveFormat) (channels : Channels) (len : ℕ) (r : Reading) → PairsAreOne r → 0 < frame_len f
    → Grows (made_of f channels len) r
grows f channels len r pairs some = record {
  none = made-none f channels len some;
  more = λ b d. more b d ∙ ap (λ v. made_of f channels len b ++ v) (sym (is b d));
  quiet = λ b x e clean q.
      let g = grown (two_samples f channels) (frame_len f) (take len b) (take (len - length b) (x ∷ []))
      (eight f channels) some in
      let n = length-take (len - length b) (x ∷ []) in
      let m = ap length (is b (x ∷ [])) in
      let few = g.few (omega arith) in
      pairs.quiet (made_of f channels len b) _ e (length-made f channels len b) (omega arith) q;
}
  where
    grew : (b d : List ℕ) → List ℕ
    grew b d = (grown (two_samples f channels) (frame_len f) (take len b) (take (len - length b) d)
        (eight f channels) some).more

    more : (b d : List ℕ) → made_of f channels len (b ++ d) ≡ made_of f channels len b ++ grew b d
    more b d =
        ap (all_parts (two_samples f channels) (frame_len f)) (take-both len b d)
        ∙ (grown (two_samples f channels) (frame_len f) (take len b) (take (len - length b) d) (eight f channels) some).is

    is : (b d : List ℕ) → more_of (made_of f channels len b) (made_of f channels len (b ++ d)) ≡ grew b d
    is b d = more-is (made_of f channels len (b ++ d)) (made_of f channels len b) (grew b d) (more b d)

-- ---- a front of a piece

-- octets behind those of a frame that is begun: m frames with them, which make y, and the octets of the next one
pub record Step (made : List ℕ → List ℕ) (len m : ℕ) (begun next d y : List ℕ) : Type 0 where
  pub whole : List ℕ
  pub is : begun ++ d ≡ whole ++ next
  pub count : length whole ≡ m * len
  pub makes : y ≡ parts_of made len m whole
  pub few : length next < len

pub step-frames : (made : List ℕ → List ℕ) (len m : ℕ) (begun octets : List ℕ) → begun ≡ [] → 0 < len
    → m * len ≤ length octets
    → Step made len m begun begun (take (m * len) octets) (parts_of made len m octets)
step-frames made len m begun octets none some h = record {
  whole = take (m * len) octets;
  is = ap (λ v. v ++ take (m * len) octets) none
      ∙ sym (ap (λ v. take (m * len) octets ++ v) none ∙ append-nil (take (m * len) octets));
  count = length-take-le (m * len) octets h;
  makes = sym (parts-take made len m (m * len) octets h (omega arith));
  few = let l = ap length none in omega arith;
}

pub step-part : (made : List ℕ → List ℕ) (len : ℕ) (begun next d : List ℕ) → next ≡ begun ++ d → length next < len
    → Step made len 0 begun next d []
unfolding parts_of
step-part made len begun next d e h = record {
  whole = [];
  is = sym e;
  count = omega arith;
  makes = refl;
  few = h;
}

pub step-last : (made : List ℕ → List ℕ) (len : ℕ) (begun next d y : List ℕ) → next ≡ [] → 0 < len
    → length (begun ++ d) ≡ len → y ≡ made (begun ++ d) → Step made len 1 begun next d y
step-last made len begun next d y none some h e = record {
  whole = begun ++ d;
  is = sym (ap (λ v. (begun ++ d) ++ v) none ∙ append-nil (begun ++ d));
  count = omega arith;
  makes = e ∙ sym (parts-one made len (begun ++ d) h);
  few = let l = ap length none in omega arith;
}

pub step-nothing : (made : List ℕ → List ℕ) (len : ℕ) (begun : List ℕ) → length begun < len
    → Step made len 0 begun begun [] []
step-nothing made len begun h = step-part made len begun begun [] (sym (append-nil begun)) h

-- what an input holds makes what its samples are
pub held-made : (f : WaveFormat) (channels : Channels) (len left : ℕ) (begun : List ℕ) (samples : InputState)
    (b : List ℕ) → length begun < frame_len f → (h : Frames f channels len left begun samples b)
    → made_of f channels len b ≡ parts_of (two_samples f channels) (frame_len f) h.frames h.before
held-made f channels len left begun samples b few h =
    ap (all_parts (two_samples f channels) (frame_len f)) h.octets
    ∙ all-whole (two_samples f channels) (frame_len f) h.frames h.before begun h.whole few

-- the frames that are whole with more octets
step-whole : (f : WaveFormat) (channels : Channels) (len left m : ℕ) (begun next d y : List ℕ)
    (samples : InputState) (b : List ℕ) → (h : Frames f channels len left begun samples b)
    → (s : Step (two_samples f channels) (frame_len f) m begun next (take left d) y)
    → take len (b ++ d) ≡ (h.before ++ s.whole) ++ next
step-whole f channels len left m begun next d y samples b h s =
    take-both len b d
    ∙ ap₂ (λ u v. u ++ v) h.octets (ap (λ k. take k d) (sym h.still))
    ∙ append_assoc h.before begun (take left d) ∙ ap (λ v. h.before ++ v) s.is
    ∙ sym (append_assoc h.before s.whole next)

step-count : (f : WaveFormat) (channels : Channels) (len left m : ℕ) (begun next d y : List ℕ)
    (samples : InputState) (b : List ℕ) → (h : Frames f channels len left begun samples b)
    → (s : Step (two_samples f channels) (frame_len f) m begun next (take left d) y)
    → length (h.before ++ s.whole) ≡ (h.frames + m) * frame_len f
step-count f channels len left m begun next d y samples b h s =
    let l = length-append h.before s.whole in
    let p = h.whole in
    let q = s.count in
    omega arith

step-samples : (f : WaveFormat) (channels : Channels) (len left m : ℕ) (begun next d y : List ℕ)
    (samples : InputState) (b : List ℕ) → length begun < frame_len f
    → (h : Frames f channels len left begun samples b)
    → (s : Step (two_samples f channels) (frame_len f) m begun next (take left d) y)
    → parts_of (two_samples f channels) (frame_len f) (h.frames + m) (h.before ++ s.whole)
    ≡ made_of f channels len b ++ y
step-samples f channels len left m begun next d y samples b few h s =
    parts-join (two_samples f channels) (frame_len f) h.frames m h.before s.whole h.whole
    ∙ ap₂ ◌++◌ (sym (held-made f channels len left begun samples b few h)) (sym s.makes)

step-made : (f : WaveFormat) (channels : Channels) (len left m : ℕ) (begun next d y : List ℕ)
    (samples : InputState) (b : List ℕ) → length begun < frame_len f
    → (h : Frames f channels len left begun samples b)
    → (s : Step (two_samples f channels) (frame_len f) m begun next (take left d) y)
    → made_of f channels len (b ++ d) ≡ made_of f channels len b ++ y
step-made f channels len left m begun next d y samples b few h s =
    ap (all_parts (two_samples f channels) (frame_len f))
    (step-whole f channels len left m begun next d y samples b h s)
    ∙ all-whole (two_samples f channels) (frame_len f) (h.frames + m) (h.before ++ s.whole) next
    (step-count f channels len left m begun next d y samples b h s) s.few
    ∙ step-samples f channels len left m begun next d y samples b few h s

-- octets that were taken, where what they make was
pub frames-fed : (f : WaveFormat) (channels : Channels) (len left left' m : ℕ) (begun next d y : List ℕ)
    (old new : InputState) {t₀ t : Option (List ℕ)} → PairsAreOne old.reads → length begun < frame_len f
    → left' ≡ left - length d → Step (two_samples f channels) (frame_len f) m begun next (take left d) y
    → Fed old.reads new.reads old.follows new.follows t₀ t y
    → Fed (through (made_of f channels len) (cut_of f len) old.reads)
    (through (made_of f channels len) (cut_of f len) new.reads)
    (Frames f channels len left begun old) (Frames f channels len left' next new) t₀ t d
unfolding first_fault
frames-fed f channels len left left' m begun next d y old new pairs few still s fed =
    through-fed (made_of f channels len) (cut_of f len) old.reads new.reads
    (grows f channels len old.reads pairs (omega arith)) d y
    (λ b h.
    let e = held-made f channels len left begun old b few h in (
      subst old.follows (sym e) h.taken,
      ap (first_fault old.reads) e ∙ h.clean,
      step-made f channels len left m begun next d y old b few h s,
    ))
    (λ b h w. more b h w) fed
  where
    more : (b : List ℕ) → Frames f channels len left begun old b → new.follows (made_of f channels len b ++ y)
        → Frames f channels len left' next new (b ++ d)
    more b h w =
        let e = held-made f channels len left begun old b few h in
        let q = step-samples f channels len left m begun next d y old b few h s in
        record {
          frames = h.frames + m;
          before = h.before ++ s.whole;
          octets = step-whole f channels len left m begun next d y old b h s;
          whole = step-count f channels len left m begun next d y old b h s;
          still = let l = length-append b d in let k = h.still in omega arith;
          taken = subst new.follows (sym q) w;
          clean = ap (fault_behind new.reads []) q
              ∙ ap (λ r. fault_behind r [] (made_of f channels len b ++ y)) fed.same
              ∙ fault-clean old.reads [] (made_of f channels len b) y (ap (fault_behind old.reads []) e ∙ h.clean)
              ∙ fed.clean (made_of f channels len b) (subst old.follows (sym e) h.taken);
          pairs = subst PairsAreOne (sym fed.same) h.pairs;
        }

-- octets that were refused, with others behind them
pub frames-refused : (f : WaveFormat) (channels : Channels) (len left m : ℕ) (begun next d rest xs y : List ℕ)
    (old new out_new : InputState) (t₀ t : Option (List ℕ)) (k₀ k : ℕ) (e : RunError) → PairsAreOne old.reads
    → length begun < frame_len f → Step (two_samples f channels) (frame_len f) m begun next (take left d) y
    → d ++ rest ≡ xs → ((b : List ℕ) → out_new.stopped b)
    → PieceRan old new y (record { old = t₀; new = t; failed_old = k₀; failed_new = k }) (Err e)
    → PieceRan (frames_state f channels len left begun old) out_new xs
    (record { old = t₀; new = t; failed_old = k₀; failed_new = k }) (Err e)
frames-refused f channels len left m begun next d rest xs y old new out_new t₀ t k₀ k e pairs few s is stop w =
    let out_old = frames_state f channels len left begun old in
    ran-join out_old out_old out_new t k d rest xs e (fed-none out_old.reads out_old.follows t₀) refl is
    (through-refused (made_of f channels len) (cut_of f len) old new out_old out_new d y
    (record { old = t₀; new = t; failed_old = k₀; failed_new = k }) e
    (grows f channels len old.reads pairs (omega arith)) refl stop
    (λ b h.
    let e = held-made f channels len left begun old b few h in (
      subst old.follows (sym e) h.taken,
      ap (first_fault old.reads) e ∙ h.clean,
      step-made f channels len left m begun next d y old b few h s,
    )) w)

-- what is answered to a front of a piece is answered to the piece
pub front-longer : (old new : InputState) (k : ℕ) (piece : List ℕ) (t₀ t : Option (List ℕ)) (k₀ k₁ : ℕ)
    (r : Result ℕ RunError) → k ≤ length piece
    → FrontRan old new (take k piece) (record { old = t₀; new = t; failed_old = k₀; failed_new = k₁ }) r
    → FrontRan old new piece (record { old = t₀; new = t; failed_old = k₀; failed_new = k₁ }) r
front-longer old new k piece t₀ t k₀ k₁ (Ok n) h w =
    let l = length-take-le k piece h in
    let p = w.1 in
    (w.0, omega arith, fed-is (take-take n k piece (omega arith)) w.2, w.3)
front-longer old new k piece t₀ t k₀ k₁ (Err e) h w =
    ran-join old old new t k₁ (take k piece) (drop k piece) piece e (fed-none old.reads old.follows t₀) refl
    (take-append-drop k piece) w

-- octets after the samples are left out
pub frames-ignored : (f : WaveFormat) (channels : Channels) (len left : ℕ) (begun piece : List ℕ)
    (old : InputState) (t : Option (List ℕ)) → PairsAreOne old.reads → length begun < frame_len f → left ≡ 0
    → Fed (through (made_of f channels len) (cut_of f len) old.reads)
    (through (made_of f channels len) (cut_of f len) old.reads)
    (Frames f channels len left begun old) (Frames f channels len left begun old) t t piece
frames-ignored f channels len left begun piece old t pairs few none =
    let e : take left piece ≡ [] = ap (λ k. take k piece) none in
    frames-fed f channels len left left 0 begun begun piece [] old old pairs few (omega arith)
    (subst (λ v. Step (two_samples f channels) (frame_len f) 0 begun begun v []) (sym e)
    (step-nothing (two_samples f channels) (frame_len f) begun few))
    (fed-none old.reads old.follows t)

-- ---- an input that begins

pub frames-start : (f : WaveFormat) (channels : Channels) (len : ℕ) (samples : InputState) → samples.follows []
    → PairsAreOne samples.reads → Frames f channels len len [] samples []
unfolding parts_of first_fault
frames-start f channels len samples h pairs = record {
  frames = 0;
  before = [];
  octets = take_all len [] (omega arith);
  whole = omega arith;
  still = omega arith;
  taken = h;
  clean = refl;
  pairs = pairs;
}

-- there is room for the samples of frames
pub frames-few : (f : WaveFormat) (channels : Channels) (len left m : ℕ) (begun : List ℕ) (samples : InputState)
    (b : List ℕ) → 0 < frame_len f → len ≤ frames_most f → m * frame_len f ≤ length begun + left
    → (h : Frames f channels len left begun samples b) → h.frames + m ≤ 2 ^ 37
frames-few f channels len left m begun samples b some most more h =
    let t = length-take len b in
    let o = ap length h.octets in
    let a = length-append h.before begun in
    let w = h.whole in
    let s = h.still in
    let k : (h.frames + m) * frame_len f ≤ 2 ^ 37 * frame_len f = omega arith in
    le_of_mul-le-mul_right k some

pub frames-following : (f : WaveFormat) (channels : Channels) (len left m n : ℕ) (begun : List ℕ)
    (samples : InputState) (b : List ℕ) → 0 < frame_len f → len ≤ frames_most f
    → m * frame_len f ≤ length begun + left → n ≡ 8 * m → Frames f channels len left begun samples b
    → (x : List ℕ) × (length x + n ≤ 2 ^ 40) × samples.follows x
frames-following f channels len left m n begun samples b some most more e h =
    let x = parts_of (two_samples f channels) (frame_len f) h.frames h.before in
    let l = length-parts (two_samples f channels) (frame_len f) h.frames h.before (eight f channels) in
    let k = frames-few f channels len left m begun samples b some most more h in
    (x, omega arith, h.taken)

-- ---- a part of a frame

part-step : (made : List ℕ → List ℕ) (len left count m : ℕ) (begun next octets y : List ℕ) → count ≤ length octets
    → length octets ≤ left → Step made len m begun next (take count octets) y
    → Step made len m begun next (take left (take count octets)) y
part-step made len left count m begun next octets y h room s =
    let l = length-take-le count octets h in
    subst (λ v. Step made len m begun next v y) (sym (take_all left (take count octets) (omega arith))) s

pub part-fed : (f : WaveFormat) (channels : Channels) (len left left' count : ℕ) (begun next octets : List ℕ)
    (old : InputState) (t : Option (List ℕ)) → PairsAreOne old.reads → length begun < frame_len f
    → length next < frame_len f → next ≡ begun ++ take count octets → count ≤ length octets → length octets ≤ left
    → left' ≡ left - count
    → Fed (through (made_of f channels len) (cut_of f len) old.reads)
    (through (made_of f channels len) (cut_of f len) old.reads)
    (Frames f channels len left begun old) (Frames f channels len left' next old) t t (take count octets)
part-fed f channels len left left' count begun next octets old t pairs few fewer is h room still =
    let l = length-take-le count octets h in
    frames-fed f channels len left left' 0 begun next (take count octets) [] old old pairs few (omega arith)
    (part-step (two_samples f channels) (frame_len f) left count 0 begun next octets [] h room
    (step-part (two_samples f channels) (frame_len f) begun next (take count octets) is fewer))
    (fed-none old.reads old.follows t)

-- the last part of one
last-step : (f : WaveFormat) (channels : Channels) (left count : ℕ) (begun next frame octets y : List ℕ) → next ≡ []
    → 0 < frame_len f → frame ≡ begun ++ take count octets → length frame ≡ frame_len f
    → y ≡ two_samples f channels frame → count ≤ length octets → length octets ≤ left
    → Step (two_samples f channels) (frame_len f) 1 begun next (take left (take count octets)) y
last-step f channels left count begun next frame octets y none some is l e h room =
    part-step (two_samples f channels) (frame_len f) left count 1 begun next octets y h room
    (step-last (two_samples f channels) (frame_len f) begun next (take count octets) y none some
    (ap length (sym is) ∙ l) (e ∙ ap (two_samples f channels) is))

pub last-fed : (f : WaveFormat) (channels : Channels) (len left left' count : ℕ)
    (begun next frame octets y : List ℕ) (old new : InputState) {t₀ t : Option (List ℕ)} → PairsAreOne old.reads
    → length begun < frame_len f → next ≡ [] → frame ≡ begun ++ take count octets → length frame ≡ frame_len f
    → y ≡ two_samples f channels frame → count ≤ length octets → length octets ≤ left → left' ≡ left - count
    → Fed old.reads new.reads old.follows new.follows t₀ t y
    → Fed (through (made_of f channels len) (cut_of f len) old.reads)
    (through (made_of f channels len) (cut_of f len) new.reads)
    (Frames f channels len left begun old) (Frames f channels len left' next new) t₀ t
    (take count octets)
last-fed f channels len left left' count begun next frame octets y old new pairs few none is l e h room still fed =
    let n = length-take-le count octets h in
    frames-fed f channels len left left' 1 begun next (take count octets) y old new pairs few (omega arith)
    (last-step f channels left count begun next frame octets y none (omega arith) is l e h room) fed

pub last-refused : (f : WaveFormat) (channels : Channels) (len left count : ℕ)
    (begun frame octets y : List ℕ) (old new out_new : InputState) (t₀ t : Option (List ℕ)) (k₀ k : ℕ) (e : RunError)
    → PairsAreOne old.reads → length begun < frame_len f → frame ≡ begun ++ take count octets
    → length frame ≡ frame_len f → y ≡ two_samples f channels frame → count ≤ length octets → length octets ≤ left
    → ((b : List ℕ) → out_new.stopped b)
    → PieceRan old new y (record { old = t₀; new = t; failed_old = k₀; failed_new = k }) (Err e)
    → PieceRan (frames_state f channels len left begun old) out_new octets
    (record { old = t₀; new = t; failed_old = k₀; failed_new = k }) (Err e)
last-refused f channels len left count begun frame octets y old new out_new t₀ t k₀ k e pairs few is l q h room stop w =
    frames-refused f channels len left 1 begun [] (take count octets) (drop count octets) octets y old new out_new
    t₀ t k₀ k e pairs few (last-step f channels left count begun [] frame octets y refl (omega arith) is l q h room)
    (take-append-drop count octets) stop w

-- whole frames
pub whole-fits : (count len n : ℕ) → 0 < len → len ≤ n → 0 < count → count ≤ n / len
    → (0 < count * len) × (count * len ≤ n)
whole-fits count len n some h one few =
    let a = mul-le-mul_right {m = count} {n = n / len} len few in
    let b = div-mul-le_self n len in
    let c = mul-le-mul_right {m = 1} {n = count} len (omega arith) in
    (omega arith, omega arith)

pub div-some : (len n : ℕ) → 0 < len → len ≤ n → 0 < n / len
div-some len n some h = let a = le-div 1 n len some (omega arith) in omega arith

whole-step : (f : WaveFormat) (channels : Channels) (left count n : ℕ) (begun octets : List ℕ) → begun ≡ []
    → 0 < frame_len f → n ≡ count * frame_len f → n ≤ length octets → length octets ≤ left
    → Step (two_samples f channels) (frame_len f) count begun begun (take left (take n octets))
    (parts_of (two_samples f channels) (frame_len f) count octets)
whole-step f channels left count n begun octets none some is h room =
    part-step (two_samples f channels) (frame_len f) left n count begun begun octets _ h room
    (subst (λ k. Step (two_samples f channels) (frame_len f) count begun begun (take k octets)
    (parts_of (two_samples f channels) (frame_len f) count octets)) (sym is)
    (step-frames (two_samples f channels) (frame_len f) count begun octets none some (omega arith)))

pub whole-fed : (f : WaveFormat) (channels : Channels) (len left left' count n : ℕ)
    (begun octets y : List ℕ) (old new : InputState) {t₀ t : Option (List ℕ)} → PairsAreOne old.reads → begun ≡ []
    → 0 < frame_len f → n ≡ count * frame_len f → n ≤ length octets → length octets ≤ left → left' ≡ left - n
    → y ≡ parts_of (two_samples f channels) (frame_len f) count octets
    → Fed old.reads new.reads old.follows new.follows t₀ t y
    → Fed (through (made_of f channels len) (cut_of f len) old.reads)
    (through (made_of f channels len) (cut_of f len) new.reads)
    (Frames f channels len left begun old) (Frames f channels len left' begun new) t₀ t
    (take n octets)
whole-fed f channels len left left' count n begun octets y old new pairs none some is h room still e fed =
    let l = length-take-le n octets h in
    let few : length begun < frame_len f = let z = ap length none in omega arith in
    frames-fed f channels len left left' count begun begun (take n octets) _ old new pairs few (omega arith)
    (whole-step f channels left count n begun octets none some is h room) (fed-is e fed)

pub whole-refused : (f : WaveFormat) (channels : Channels) (len left count n : ℕ)
    (begun octets y : List ℕ) (old new out_new : InputState) (t₀ t : Option (List ℕ)) (k₀ k : ℕ) (e : RunError)
    → PairsAreOne old.reads → begun ≡ [] → 0 < frame_len f → n ≡ count * frame_len f → n ≤ length octets
    → length octets ≤ left → y ≡ parts_of (two_samples f channels) (frame_len f) count octets
    → ((b : List ℕ) → out_new.stopped b)
    → PieceRan old new y (record { old = t₀; new = t; failed_old = k₀; failed_new = k }) (Err e)
    → PieceRan (frames_state f channels len left begun old) out_new octets
    (record { old = t₀; new = t; failed_old = k₀; failed_new = k }) (Err e)
whole-refused f channels len left count n begun octets y old new out_new t₀ t k₀ k e pairs none some is h room q stop w =
    let few : length begun < frame_len f = let z = ap length none in omega arith in
    frames-refused f channels len left count begun begun (take n octets) (drop n octets) octets y old new out_new
    t₀ t k₀ k e pairs few
    (subst (Step (two_samples f channels) (frame_len f) count begun begun (take left (take n octets))) (sym q)
    (whole-step f channels left count n begun octets none some is h room))
    (take-append-drop n octets) stop w

-- ---- the end

held-left : (f : WaveFormat) (channels : Channels) (len left : ℕ) (begun : List ℕ) (samples : InputState)
    (b : List ℕ) → length begun < frame_len f → Frames f channels len left begun samples b
    → left_over f (take len b) ≡ length begun
held-left f channels len left begun samples b few h =
    ap (λ v. length v % frame_len f) h.octets ∙ left-whole (frame_len f) h.frames h.before begun h.whole few

cut-none : (f : WaveFormat) (len : ℕ) (b : List ℕ) → left_over f (take len b) ≡ 0 → cut_of f len b ≡ None
cut-none f len b h =
    ap (λ (t : Bool). if t then None else Some (BadLength (left_over f (take len b))))
    (eq-eqb (left_over f (take len b)) 0 h)

cut-some : (f : WaveFormat) (len : ℕ) (b : List ℕ) (n : ℕ) → left_over f (take len b) ≡ n → 0 < n
    → cut_of f len b ≡ Some (BadLength n)
cut-some f len b n h some =
    ap (λ (t : Bool). if t then None else Some (BadLength (left_over f (take len b))))
    (ne_eqb (left_over f (take len b)) 0 (λ q. omega arith)) ∙ ap (λ k. Some (BadLength k)) h

-- the octets end inside a frame
pub frames-cut : (f : WaveFormat) (channels : Channels) (len left n : ℕ) (begun : List ℕ) (old out_new : InputState)
    (t : Option (List ℕ)) (k : ℕ) → length begun < frame_len f → n ≡ length begun → 0 < n
    → ((b : List ℕ) → out_new.stopped b)
    → EndRan (frames_state f channels len left begun old) out_new
    (record { old = t; new = t; failed_old = k; failed_new = k }) (Err (BadLength n))
unfolding through
frames-cut f channels len left n begun old out_new t k few e some stop = (
  λ b h.
      let l = held-left f channels len left begun old b few h in (
        ap (λ o. or_else o (old.reads.end_fault (made_of f channels len b))) (cut-some f len b n (l ∙ sym e) some),
        stop b,
        grew-none refl,
      ),
  refl,
)

-- they end with a frame
pub frames-end : (f : WaveFormat) (channels : Channels) (len left : ℕ) (begun : List ℕ) (old new : InputState)
    (sink : Movement) (r : Result (Unit {0}) RunError) → begun ≡ [] → 0 < frame_len f
    → EndRan old new sink r
    → EndRan (frames_state f channels len left begun old) (frames_state f channels len left begun new) sink r
unfolding through
frames-end f channels len left begun old new sink (Ok u) none some w = (
  λ b h.
      let few : length begun < frame_len f = let l = ap length none in omega arith in
      let l = held-left f channels len left begun old b few h in
      let e = held-made f channels len left begun old b few h in
      let q = w.0 (made_of f channels len b) (subst old.follows (sym e) h.taken) in (
        ap (λ o. or_else o (old.reads.end_fault (made_of f channels len b))) (cut-none f len b (l ∙ ap length none)) ∙ q.0,
        tt,
        q.2,
      ),
  w.1,
)
frames-end f channels len left begun old new sink (Err Write) none some w = (
  λ b h.
      let few : length begun < frame_len f = let l = ap length none in omega arith in
      let l = held-left f channels len left begun old b few h in
      let e = held-made f channels len left begun old b few h in
      let q = w.0 (made_of f channels len b) (subst old.follows (sym e) h.taken) in (
        ap (λ o. or_else o (old.reads.end_fault (made_of f channels len b))) (cut-none f len b (l ∙ ap length none)) ∙ q.0,
        q.1,
      ),
  w.1,
)
frames-end f channels len left begun old new sink (Err Read) none some w = absurd w
frames-end f channels len left begun old new sink (Err TooLong) none some w = absurd w
frames-end f channels len left begun old new sink (Err e) none some w = (
  λ b h.
      let few : length begun < frame_len f = let l = ap length none in omega arith in
      let l = held-left f channels len left begun old b few h in
      let g = held-made f channels len left begun old b few h in
      let q = w.0 (made_of f channels len b) (subst old.follows (sym g) h.taken) in (
        ap (λ o. or_else o (old.reads.end_fault (made_of f channels len b))) (cut-none f len b (l ∙ ap length none)) ∙ q.0,
        tt,
        q.2,
      ),
  w.1,
)
