-- The fields of professional channel status (AES3-2) as C is told them.
use Rattle.std.specs.Prelude.{ℕ, List, [], ◌∷◌, ◌<◌, ◌+◌, ◌^◌}
use Rattle.aes3_frame.specs.Files.{low_bytes}
use Rattle.aes3_status.specs.declared.field.ProField.TheVariants as pro
use Rattle.aes3_status.specs.Professional.{payload, emphasis, unlocked, rate, mode, user, aux, word, b2high, b3, b4, b5}
use Rattle.aes3_status.specs.Professional.{origin, destination, local, time, unreliable, b22low, pro_place}
use Rattle.aes3_c.specs.declared.professional_calls.Aes3Professional.{Aes3Professional}
use Rattle.aes3_c.specs.Codes.{code_from, four_bytes}

abbrev pub professional_fields : List ℕ → Aes3Professional
professional_fields bytes = record {
  payload = payload bytes;
  emphasis = emphasis bytes;
  unlocked = unlocked bytes;
  rate = rate bytes;
  mode = mode bytes;
  user = user bytes;
  aux = aux bytes;
  word = word bytes;
  b2high = b2high bytes;
  b3 = b3 bytes;
  b4 = b4 bytes;
  b5 = b5 bytes;
  origin = origin bytes;
  destination = destination bytes;
  local = local bytes;
  time = time bytes;
  unreliable = unreliable bytes;
  b22low = b22low bytes;
}

-- each field within a byte has bits for its code
pub record ProfessionalFits (f : Aes3Professional) : Type 0 where
  pub payload : f.payload < 2 ^ (pro_place pro.Payload).count
  pub emphasis : f.emphasis < 2 ^ (pro_place pro.Emphasis).count
  pub unlocked : f.unlocked < 2 ^ (pro_place pro.Unlocked).count
  pub rate : f.rate < 2 ^ (pro_place pro.Rate).count
  pub mode : f.mode < 2 ^ (pro_place pro.Mode).count
  pub user : f.user < 2 ^ (pro_place pro.User).count
  pub aux : f.aux < 2 ^ (pro_place pro.Aux).count
  pub word : f.word < 2 ^ (pro_place pro.Word).count
  pub b2high : f.b2high < 2 ^ (pro_place pro.B2high).count
  pub unreliable : f.unreliable < 2 ^ (pro_place pro.Unreliable).count
  pub b22low : f.b22low < 2 ^ (pro_place pro.B22low).count

-- the bytes of such fields, of which the last is the check byte
abbrev pub professional_bytes : Aes3Professional → ℕ → List ℕ
professional_bytes f check =
    (1 + code_from (pro_place pro.Payload).first f.payload + code_from (pro_place pro.Emphasis).first f.emphasis
    + code_from (pro_place pro.Unlocked).first f.unlocked + code_from (pro_place pro.Rate).first f.rate)
    ∷ (code_from (pro_place pro.Mode).first f.mode + code_from (pro_place pro.User).first f.user)
    ∷ (code_from (pro_place pro.Aux).first f.aux + code_from (pro_place pro.Word).first f.word
    + code_from (pro_place pro.B2high).first f.b2high)
    ∷ f.b3 ∷ f.b4 ∷ f.b5
    ∷ four_bytes f.origin (four_bytes f.destination (four_bytes (low_bytes 4 f.local) (four_bytes (low_bytes 4 f.time)
    ((code_from (pro_place pro.B22low).first f.b22low + code_from (pro_place pro.Unreliable).first f.unreliable)
    ∷ check ∷ []))))
