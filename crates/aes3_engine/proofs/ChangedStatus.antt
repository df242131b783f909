-- A block whose status is read and written once is one with each change after the other.
use Rattle.std.proofs.Common.{◌≡◌, ℕ, ◌≤◌, List, [], ◌∷◌, Bool, true, false, cond, Option, Some, None, length, map, refl}
use Rattle.std.proofs.Common.{sym, ap, ap₂, subst, ◌∙◌, ◌/◌, arith, set-set}
use Rattle.std.specs.Option.{unwrap_or}
use Rattle.std.proofs.lemmas.List.{length-map, length-set}
use Rattle.std.specs.List.{All}
use Rattle.aes3_frame.specs.declared.block.Channel.{Channel}
use Rattle.aes3_frame.specs.declared.block.Channel.TheVariants.{First, Second}
use Rattle.aes3_frame.specs.Blocks.{IsBlock, block_subframes}
use Rattle.aes3_frame.specs.Files.{payload_of}
use Rattle.aes3_frame.specs.Statuses.{bits_of_bytes, bytes_in, status_len, status_of, status_place, with_bits, with_status}
use Rattle.aes3_frame.proofs.Each.{all-payloads}
use Rattle.aes3_frame.proofs.Runs.{Each27, each27-payloads}
use Rattle.aes3_frame.proofs.StatusBits.{length-bits_of_bytes}
use Rattle.aes3_bits.proofs.Bits.{length-low_bits}
use Rattle.aes3_slot.specs.Slots.{payload_len}
use Rattle.aes3_block.specs.Laws.{IsByte, other_channel}
use Rattle.aes3_block.proofs.StatusLaws.{status-back, status-stays}
use Rattle.aes3_status.specs.Check.{check_byte_of}
use Rattle.aes3_status.specs.Settings.{set_all}
use Rattle.aes3_status.specs.Statuses.{is_professional}
use Rattle.aes3_status.specs.declared.change.Change.{Change}
use Rattle.aes3_status.specs.declared.setting.Settings.{Settings}
use Rattle.aes3_engine.specs.Rewriting.{IsStatus, changed, checked, mended, mended_status, rewritten, set_settings, set_status}
use Rattle.aes3_engine.specs.Rewriting.{with_bits_given, with_status_changed}
use Rattle.aes3_engine.proofs.BitsAt.{channel-apart}

pub block-of-words : (words : List ℕ) (b : List (List Bool)) → length words ≡ block_subframes → map payload_of words ≡ b
    → IsBlock b
block-of-words words b l e = record {
  count = ap length (sym e) ∙ length-map words payload_of ∙ l;
  payloads = all-payloads b (subst Each27 e (each27-payloads words));
}

-- what is set twice is as it is set the second time
bits-over : (channel : Channel) (b : List (List Bool)) (bits others : List Bool) → length bits ≤ length others
    → with_bits channel (with_bits channel b bits) others ≡ with_bits channel b others
bits-over channel [] bits others l = refl
bits-over First (p ∷ b) [] [] l = refl
bits-over First (p ∷ b) [] (o ∷ others) l = refl
bits-over First (p ∷ b) (c ∷ bits) [] l = absurd (omega arith)
bits-over First (p ∷ b) (c ∷ bits) (o ∷ others) l =
    ap₂ (λ x xs. x ∷ xs) (set-set p status_place c o) (bits-over Second b bits others (omega arith))
bits-over Second (p ∷ b) bits others l = ap (λ xs. p ∷ xs) (bits-over First b bits others l)

status-over : (channel : Channel) (b : List (List Bool)) (s t : List ℕ) → length s ≡ length t
    → with_status (with_status b channel s) channel t ≡ with_status b channel t
unfolding with_status
status-over channel b s t e =
    let m = length-bits_of_bytes s in
    let n = length-bits_of_bytes t in
    bits-over channel b (bits_of_bytes s) (bits_of_bytes t) (omega arith)

-- what is set behind a status that was set goes by it
pub status-again : (channel : Channel) (b : List (List Bool)) (s t : List ℕ) → IsBlock b → length s ≡ status_len
    → length t ≡ status_len → All IsByte s → (f : List ℕ → List ℕ) → f s ≡ t
    → with_status (with_status b channel s) channel (f (status_of (with_status b channel s) channel))
    ≡ with_status b channel t
status-again channel b s t h l m bytes f e =
    ap (λ u. with_status (with_status b channel s) channel (f u)) (status-back b channel s h l bytes)
    ∙ ap (with_status (with_status b channel s) channel) e ∙ status-over channel b s t (l ∙ sym m)

-- the channels do not touch each other
bits-apart : (channel : Channel) (b : List (List Bool)) (bits others : List Bool)
    → with_bits channel (with_bits (other_channel channel) b bits) others
    ≡ with_bits (other_channel channel) (with_bits channel b others) bits
bits-apart channel [] bits others = refl
bits-apart First (p ∷ b) bits [] = refl
bits-apart First (p ∷ b) bits (o ∷ others) = ap₂ (λ x xs. x ∷ xs) refl (bits-apart Second b bits others)
bits-apart Second (p ∷ b) [] others = refl
bits-apart Second (p ∷ b) (c ∷ bits) others = ap₂ (λ x xs. x ∷ xs) refl (bits-apart First b bits others)

status-apart : (channel : Channel) (b : List (List Bool)) (s t : List ℕ)
    → with_status (with_status b (other_channel channel) s) channel t
    ≡ with_status (with_status b channel t) (other_channel channel) s
unfolding with_status
status-apart channel b s t = bits-apart channel b (bits_of_bytes s) (bits_of_bytes t)

other-status : (channel : Channel) (b : List (List Bool)) (s : List ℕ)
    → status_of (with_status b channel s) (other_channel channel) ≡ status_of b (other_channel channel)
unfolding with_status status_of
other-status channel b s =
    ap (bytes_in status_len) (channel-apart status_place status_place channel b (bits_of_bytes s))

-- a status set by the one that is there, if that is so
abbrev turned : Channel → (List ℕ → List ℕ) → (List ℕ → Bool) → List (List Bool) → List (List Bool)
turned channel f p b = cond (p (status_of b channel)) (with_status b channel (f (status_of b channel))) b

turned-other : (channel : Channel) (f : List ℕ → List ℕ) (p : List ℕ → Bool) (b : List (List Bool))
    → status_of (turned channel f p b) (other_channel channel) ≡ status_of b (other_channel channel)
turned-other channel f p b = go (p (status_of b channel))
  where
    go : (q : Bool) → status_of (cond q (with_status b channel (f (status_of b channel))) b) (other_channel channel)
        ≡ status_of b (other_channel channel)
    go true = other-status channel b (f (status_of b channel))
    go false = refl

turned-apart : (f g : List ℕ → List ℕ) (p q : List ℕ → Bool) (b : List (List Bool))
    → turned First f p (turned Second g q b) ≡ turned Second g q (turned First f p b)
turned-apart f g p q b =
    let v = status_of b First in
    let w = status_of b Second in
    let one = cond (p v) (with_status b First (f v)) b in
    let two = cond (q w) (with_status b Second (g w)) b in
    ap (λ s. cond (p s) (with_status two First (f s)) two) (turned-other Second g q b)
    ∙ both (p v) (q w) (f v) (g w)
    ∙ sym (ap (λ s. cond (q s) (with_status one Second (g s)) one) (turned-other First f p b))
  where
    both : (x y : Bool) (s t : List ℕ)
        → cond x (with_status (cond y (with_status b Second t) b) First s) (cond y (with_status b Second t) b)
        ≡ cond y (with_status (cond x (with_status b First s) b) Second t) (cond x (with_status b First s) b)
    both true true s t = status-apart First b t s
    both true false s t = refl
    both false true s t = refl
    both false false s t = refl

-- each step of a change is such a one
abbrev of-status : Option (List ℕ) → List ℕ → List ℕ
of-status None old = old
of-status (Some status) old = status

abbrev pub of-settings : Option Settings → List ℕ → List ℕ
of-settings None old = old
of-settings (Some settings) old = set_all settings old

abbrev is-given : {A : Type 0} → Option A → List ℕ → Bool
is-given None old = false
is-given (Some x) old = true

status-turned : (channel : Channel) (status : Option (List ℕ)) (b : List (List Bool))
    → set_status channel status b ≡ turned channel (of-status status) (is-given status) b
status-turned channel None b = refl
status-turned channel (Some status) b = refl

settings-turned : (channel : Channel) (settings : Option Settings) (b : List (List Bool))
    → set_settings channel settings b ≡ turned channel (of-settings settings) (is-given settings) b
settings-turned channel None b = refl
settings-turned channel (Some settings) b = refl

-- so the changes of one channel may come before those of the other
settings-past : (settings : Option Settings) (status : Option (List ℕ)) (b : List (List Bool))
    → set_settings First settings (set_status Second status b) ≡ set_status Second status (set_settings First settings b)
settings-past settings status b =
    settings-turned First settings (set_status Second status b)
    ∙ ap (turned First (of-settings settings) (is-given settings)) (status-turned Second status b)
    ∙ turned-apart (of-settings settings) (of-status status) (is-given settings) (is-given status) b
    ∙ ap (turned Second (of-status status) (is-given status)) (sym (settings-turned First settings b))
    ∙ sym (status-turned Second status (set_settings First settings b))

mended-past-status : (status : Option (List ℕ)) (b : List (List Bool))
    → mended First (set_status Second status b) ≡ set_status Second status (mended First b)
mended-past-status status b =
    ap (mended First) (status-turned Second status b)
    ∙ turned-apart checked (of-status status) is_professional (is-given status) b
    ∙ sym (status-turned Second status (mended First b))

mended-past-settings : (settings : Option Settings) (b : List (List Bool))
    → mended First (set_settings Second settings b) ≡ set_settings Second settings (mended First b)
mended-past-settings settings b =
    ap (mended First) (settings-turned Second settings b)
    ∙ turned-apart checked (of-settings settings) is_professional (is-given settings) b
    ∙ sym (settings-turned Second settings (mended First b))

pub by-channels : (change : Change) (b : List (List Bool))
    → with_status_changed Second change.status2 change.settings2 change.mend
    (with_status_changed First change.status1 change.settings1 change.mend (with_bits_given change b))
    ≡ rewritten change b
by-channels change b = go change.mend
  where
    c : List (List Bool)
    c = set_status First change.status1 (with_bits_given change b)

    go : (mend : Bool)
        → with_status_changed Second change.status2 change.settings2 mend
        (with_status_changed First change.status1 change.settings1 mend (with_bits_given change b))
        ≡ cond mend (mended Second (mended First (changed change b))) (changed change b)
    go true =
        ap (mended Second)
        (ap (set_settings Second change.settings2) (sym (mended-past-status change.status2 (set_settings First change.settings1 c)))
        ∙ sym (mended-past-settings change.settings2 (set_status Second change.status2 (set_settings First change.settings1 c)))
        ∙ ap (λ d. mended First (set_settings Second change.settings2 d)) (sym (settings-past change.settings1 change.status2 c)))
    go false = ap (set_settings Second change.settings2) (sym (settings-past change.settings1 change.status2 c))

-- the status of one channel is read once and set once
status-long : {s : List ℕ} → IsStatus s → length s ≡ status_len
unfolding status_len
status-long i = i.long

module _ (channel : Channel) (b : List (List Bool)) (h : IsBlock b) where
  status-set : (status : Option (List ℕ)) (old s : List ℕ) → old ≡ status_of b channel → s ≡ unwrap_or status old
      → set_status channel status b ≡ with_status b channel s
  status-set None old s e f = sym (ap (with_status b channel) (f ∙ e) ∙ status-stays b channel h)
  status-set (Some status) old s e f = ap (with_status b channel) (sym f)

  settings-set : (settings : Option Settings) (s t : List ℕ) → IsStatus s → IsStatus t → t ≡ of-settings settings s
      → set_settings channel settings (with_status b channel s) ≡ with_status b channel t
  settings-set None s t i j e = ap (with_status b channel) (sym e)
  settings-set (Some settings) s t i j e =
      status-again channel b s t h (status-long i) (status-long j) i.fit (set_all settings) (sym e)

  mended-set : (t u : List ℕ) → IsStatus t → u ≡ mended_status t
      → mended channel (with_status b channel t) ≡ with_status b channel u
  mended-set t u i e =
      let c = with_status b channel t in
      ap (λ s. cond (is_professional s) (with_status c channel (checked s)) c) (status-back b channel t h (status-long i) i.fit)
      ∙ pick (is_professional t) e
    where
      pick : (p : Bool) → u ≡ cond p (checked t) t
          → cond p (with_status (with_status b channel t) channel (checked t)) (with_status b channel t)
          ≡ with_status b channel u
      pick true f = status-over channel b t (checked t) (sym (length-set t 23 _))
          ∙ ap (with_status b channel) (sym f)
      pick false f = ap (with_status b channel) (sym f)

  pub changed-once : (status : Option (List ℕ)) (settings : Option Settings) (mend : Bool) (old s t u : List ℕ)
      → old ≡ status_of b channel → s ≡ unwrap_or status old → t ≡ of-settings settings s
      → u ≡ cond mend (mended_status t) t → IsStatus s → IsStatus t
      → with_status_changed channel status settings mend b ≡ with_status b channel u
  changed-once status settings mend old s t u e f g k i j =
      let fields = ap (set_settings channel settings) (status-set status old s e f) ∙ settings-set settings s t i j g in
      go mend fields k
    where
      go : (mend : Bool) → set_settings channel settings (set_status channel status b) ≡ with_status b channel t
          → u ≡ cond mend (mended_status t) t
          → cond mend (mended channel (set_settings channel settings (set_status channel status b)))
          (set_settings channel settings (set_status channel status b))
          ≡ with_status b channel u
      go true fields k = ap (mended channel) fields ∙ mended-set t u j k
      go false fields k = fields ∙ ap (with_status b channel) (sym k)
