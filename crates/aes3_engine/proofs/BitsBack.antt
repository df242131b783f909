-- V and U bits over a line and back.
use Rattle.std.proofs.Common.{◌≡◌, ◌≢◌, ℕ, suc, ◌<◌, List, [], ◌∷◌, ◌++◌, Bool, Option, Some, None, refl, sym, ap, ap₂}
use Rattle.std.proofs.Common.{◌∙◌, arith}
use Rattle.std.specs.List.{flat_map, All}
use Rattle.aes3_slot.specs.Slots.{payload_len}
use Rattle.aes3_frame.specs.declared.block.Channel.{Channel}
use Rattle.aes3_frame.specs.declared.block.Channel.TheVariants.{First, Second}
use Rattle.aes3_frame.specs.Blocks.{IsBlock}
use Rattle.aes3_frame.specs.Subframes.{audio_len}
use Rattle.aes3_frame.specs.Statuses.{bits_at, bits_of_bytes, bytes_in, status_len, status_place, user_of, user_place}
use Rattle.aes3_frame.specs.Statuses.{validity_of, validity_place, with_bits_at, with_status, with_user, with_validity}
use Rattle.aes3_block.specs.Laws.{other_channel}
use Rattle.aes3_frame.specs.declared.block.CarriedBits.{CarriedBits}
use Rattle.aes3_frame.specs.declared.block.CarriedBits.TheVariants.{Validity, User, Status}
use Rattle.aes3_status.specs.declared.change.Change.{Change}
use Rattle.aes3_engine.specs.Rewriting.{all_bits, cleared, rewritten, rewritten_blocks, set_user, set_validity}
use Rattle.aes3_engine.specs.Rewriting.{with_bits_given}
use Rattle.aes3_engine.specs.Carrying.{all_carried, bit_given, carried, given_bits, BitsComeBack}
use Rattle.aes3_engine.proofs.BitsAt.{all-read, channel-apart, lawful-at, place-apart}
use Rattle.aes3_engine.proofs.RewrittenBlocks.{statuses-keep}
use Rattle.aes3_engine.proofs.SamplesBack.{line-blocks, rewritten-lawful}

-- the bits at one place of a channel, set where one is given
abbrev put : ℕ → Channel → Option Bool → List (List Bool) → List (List Bool)
put place channel None b = b
put place channel (Some bit) b = with_bits_at place channel b (bits_of_bytes (all_bits bit))

abbrev read : ℕ → Channel → List (List Bool) → List ℕ
read place channel b = bytes_in status_len (bits_at place b channel)

put-lawful : (place : ℕ) (channel : Channel) (bit : Option Bool) (b : List (List Bool)) → IsBlock b
    → IsBlock (put place channel bit b)
put-lawful place channel None b h = h
put-lawful place channel (Some bit) b h = lawful-at place channel b (bits_of_bytes (all_bits bit)) h

put-read : (place : ℕ) (channel : Channel) (bit : Option Bool) (b : List (List Bool)) → place < payload_len → IsBlock b
    → read place channel (put place channel bit b) ≡ given_bits bit (read place channel b)
put-read place channel None b w h = refl
put-read place channel (Some bit) b w h = all-read place channel b bit w h

put-place : (place other : ℕ) (channel at : Channel) (bit : Option Bool) (b : List (List Bool)) → other ≢ place
    → read other at (put place channel bit b) ≡ read other at b
put-place place other channel at None b h = refl
put-place place other channel at (Some bit) b h =
    ap (bytes_in status_len) (place-apart place other channel at b (bits_of_bytes (all_bits bit)) h)

put-channel : (place other : ℕ) (channel : Channel) (bit : Option Bool) (b : List (List Bool))
    → read other (other_channel channel) (put place channel bit b) ≡ read other (other_channel channel) b
put-channel place other channel None b = refl
put-channel place other channel (Some bit) b =
    ap (bytes_in status_len) (channel-apart place other channel b (bits_of_bytes (all_bits bit)))

validity-put : (channel : Channel) (bit : Option Bool) (b : List (List Bool))
    → set_validity channel bit b ≡ put validity_place channel bit b
unfolding with_validity
validity-put channel None b = refl
validity-put channel (Some bit) b = refl

user-put : (channel : Channel) (bit : Option Bool) (b : List (List Bool))
    → set_user channel bit b ≡ put user_place channel bit b
unfolding with_user
user-put channel None b = refl
user-put channel (Some bit) b = refl

validity-within : validity_place < payload_len
unfolding validity_place audio_len payload_len
validity-within = omega arith

user-within : user_place < payload_len
unfolding user_place audio_len payload_len
user-within = omega arith

validity-user : validity_place ≢ user_place
unfolding user_place validity_place
validity-user = λ e. absurd (omega arith)

user-validity : user_place ≢ validity_place
user-validity = λ e. validity-user (sym e)

-- the V and the U bits of a change, all four in turn
module _ (v w x y : Option Bool) (b : List (List Bool)) where
  abbrev b₁ : List (List Bool)
  b₁ = put validity_place First v b

  abbrev b₂ : List (List Bool)
  b₂ = put validity_place Second w b₁

  abbrev b₃ : List (List Bool)
  b₃ = put user_place First x b₂

  abbrev b₄ : List (List Bool)
  b₄ = put user_place Second y b₃

  lawful₁ : IsBlock b → IsBlock b₁
  lawful₁ h = put-lawful validity_place First v b h

  lawful₂ : IsBlock b → IsBlock b₂
  lawful₂ h = put-lawful validity_place Second w b₁ (lawful₁ h)

  lawful₃ : IsBlock b → IsBlock b₃
  lawful₃ h = put-lawful user_place First x b₂ (lawful₂ h)

  behind-users : (at : Channel) → read validity_place at b₄ ≡ read validity_place at b₂
  behind-users at = put-place user_place validity_place Second at y b₃ validity-user
      ∙ put-place user_place validity_place First at x b₂ validity-user

  before-users : (at : Channel) → read user_place at b₂ ≡ read user_place at b
  before-users at = put-place validity_place user_place Second at w b₁ user-validity
      ∙ put-place validity_place user_place First at v b user-validity

  validity-first : IsBlock b → read validity_place First b₄ ≡ given_bits v (read validity_place First b)
  validity-first h = behind-users First ∙ put-channel validity_place validity_place Second w b₁
      ∙ put-read validity_place First v b validity-within h

  validity-second : IsBlock b → read validity_place Second b₄ ≡ given_bits w (read validity_place Second b)
  validity-second h = behind-users Second ∙ put-read validity_place Second w b₁ validity-within (lawful₁ h)
      ∙ ap (given_bits w) (put-channel validity_place validity_place First v b)

  user-first : IsBlock b → read user_place First b₄ ≡ given_bits x (read user_place First b)
  user-first h = put-channel user_place user_place Second y b₃ ∙ put-read user_place First x b₂ user-within (lawful₂ h)
      ∙ ap (given_bits x) (before-users First)

  user-second : IsBlock b → read user_place Second b₄ ≡ given_bits y (read user_place Second b)
  user-second h = put-read user_place Second y b₃ user-within (lawful₃ h)
      ∙ ap (given_bits y) (put-channel user_place user_place First x b₂ ∙ before-users Second)

given-put : (change : Change) (b : List (List Bool))
    → with_bits_given change b
    ≡ b₄ change.validity1 change.validity2 (cleared change.clear_user1) (cleared change.clear_user2) b
given-put change b =
    user-put Second (cleared change.clear_user2) _
    ∙ ap (put user_place Second (cleared change.clear_user2)) (user-put First (cleared change.clear_user1) _
    ∙ ap (put user_place First (cleared change.clear_user1)) (validity-put Second change.validity2 _
    ∙ ap (put validity_place Second change.validity2) (validity-put First change.validity1 b)))

told-given : (change : Change) (b : List (List Bool)) (bits : CarriedBits) (channel : Channel) → IsBlock b
    → bits ≢ Status → carried bits channel (with_bits_given change b)
    ≡ given_bits (bit_given change bits channel) (carried bits channel b)
unfolding validity_of user_of
told-given change b Validity First h n =
    ap (read validity_place First) (given-put change b)
    ∙ validity-first change.validity1 change.validity2 (cleared change.clear_user1) (cleared change.clear_user2) b h
told-given change b Validity Second h n =
    ap (read validity_place Second) (given-put change b)
    ∙ validity-second change.validity1 change.validity2 (cleared change.clear_user1) (cleared change.clear_user2) b h
told-given change b User First h n =
    ap (read user_place First) (given-put change b)
    ∙ user-first change.validity1 change.validity2 (cleared change.clear_user1) (cleared change.clear_user2) b h
told-given change b User Second h n =
    ap (read user_place Second) (given-put change b)
    ∙ user-second change.validity1 change.validity2 (cleared change.clear_user1) (cleared change.clear_user2) b h
told-given change b Status channel h n = absurd (n refl)

-- the status that is then set leaves them
validity-status : validity_place ≢ status_place
unfolding validity_place status_place
validity-status = λ e. absurd (omega arith)

user-status : user_place ≢ status_place
unfolding user_place status_place
user-status = λ e. absurd (omega arith)

told-rewritten : (change : Change) (b : List (List Bool)) (bits : CarriedBits) (channel : Channel) → bits ≢ Status
    → carried bits channel (rewritten change b) ≡ carried bits channel (with_bits_given change b)
unfolding with_status validity_of user_of
told-rewritten change b Validity channel n =
    statuses-keep (λ d. read validity_place channel d ≡ read validity_place channel (with_bits_given change b))
    (λ at d status e. ap (bytes_in status_len)
    (place-apart status_place validity_place at channel d (bits_of_bytes status) validity-status) ∙ e) change b refl
told-rewritten change b User channel n =
    statuses-keep (λ d. read user_place channel d ≡ read user_place channel (with_bits_given change b))
    (λ at d status e. ap (bytes_in status_len)
    (place-apart status_place user_place at channel d (bits_of_bytes status) user-status) ∙ e) change b refl
told-rewritten change b Status channel n = absurd (n refl)

all-told : (change : Change) (bits : CarriedBits) (channel : Channel) (bs : List (List (List Bool))) → All IsBlock bs
    → bits ≢ Status → all_carried bits channel (rewritten_blocks change bs)
    ≡ flat_map (λ b. given_bits (bit_given change bits channel) (carried bits channel b)) bs
all-told change bits channel [] h n = refl
all-told change bits channel (b ∷ bs) h n =
    ap₂ ◌++◌
    (told-rewritten change b bits channel n ∙ told-given change b bits channel (h 0 [] (omega arith)) n)
    (all-told change bits channel bs (λ k d l. h (suc k) d (omega arith)) n)

pub bits-back : BitsComeBack
bits-back form change bits channel bs h n =
    ap (all_carried bits channel) (line-blocks form (rewritten_blocks change bs) (rewritten-lawful change bs h))
    ∙ all-told change bits channel bs h n
