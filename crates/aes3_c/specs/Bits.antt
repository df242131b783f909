-- The V, U and C bits of a channel in calls for one block, which answer 384 where they are done.
use Rattle.std.specs.Prelude.{ℕ, Bool, List, ◌≡◌, ◌≢◌, ◌<◌, false, get_or, map, true}
use Rattle.aes3_frame.specs.Files.{is_lawful, payload_of}
use Rattle.aes3_frame.specs.Statuses.{status_of, user_of, validity_of, with_status, with_user, with_validity}
use Rattle.aes3_frame.specs.declared.block.Channel.{Channel}
use Rattle.aes3_c.specs.Blocks.{IsFirstWrong, word_in}
use Rattle.aes3_c.specs.Codes.{channel_of, is_channel}
use Rattle.aes3_c.specs.declared.bits.ChannelBits.{ChannelBits}
use Rattle.aes3_c.specs.declared.bits.ChannelBits.TheVariants.{Validity, User, Status}

-- the bits of a channel in a block, and the block with other ones
abbrev pub bits_of : ChannelBits → List (List Bool) → Channel → List ℕ
bits_of Validity = validity_of
bits_of User = user_of
bits_of Status = status_of

abbrev pub with_bits_of : ChannelBits → List (List Bool) → Channel → List ℕ → List (List Bool)
with_bits_of Validity = with_validity
with_bits_of User = with_user
with_bits_of Status = with_status

-- the answer for words and the number of a channel: 385 if no channel has it, else 384, or the number of the first word
-- that no block file may have
pub record IsAnswerFor (words : List ℕ) (channel answer : ℕ) : Type 0 where
  pub no_channel : is_channel channel ≡ false → answer ≡ 385
  pub first_wrong : is_channel channel ≡ true → IsFirstWrong (word_in words) 1 answer

-- such bits of a channel are put; by any other answer than 384 nothing is
pub record PutsBits (bits : List (List Bool) → Channel → List ℕ) (words : List ℕ) (channel : ℕ) (old new : List ℕ)
    (answer : ℕ) : Type 0 where
  pub done : answer ≡ 384 → new ≡ bits (map payload_of words) (channel_of channel)
  pub answer_is : IsAnswerFor words channel answer
  pub unchanged : answer ≢ 384 → new ≡ old

-- such bits of a channel are set, and all words are lawful again; by any other answer than 384 nothing is
pub record SetsBits (with : List (List Bool) → Channel → List ℕ → List (List Bool)) (old new : List ℕ) (channel : ℕ)
    (bits : List ℕ) (answer : ℕ) : Type 0 where
  pub done : answer ≡ 384 → map payload_of new ≡ with (map payload_of old) (channel_of channel) bits
  pub lawful : answer ≡ 384 → (i : ℕ) → i < 384 → is_lawful (get_or new i 0) ≡ true
  pub answer_is : IsAnswerFor old channel answer
  pub unchanged : answer ≢ 384 → new ≡ old
