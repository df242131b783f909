-- The line of a status, field by field.
use Rattle.std.proofs.Common.{◌≡◌, ◌++◌, ◌<◌, ℕ, zero, suc, List, Bool, true, false, cond, eqb, ap, ap₂, sym, refl}
use Rattle.std.proofs.Common.{append_assoc, arith}
use Rattle.std.proofs.lemmas.Bool.{eqb-true}
use Rattle.std.proofs.lemmas.List.{append-nil}
use Rattle.aes3_status.specs.ProfessionalText as professional
use Rattle.aes3_status.specs.ConsumerText as consumer
use Rattle.aes3_status.specs.NamedSettings.{LineShowsFields, OtherWordsStay, code_text}
use Rattle.std.specs.Prelude.{codes}
use Rattle.aes3_status.specs.declared.field.Field.TheVariants.{Use}
use Rattle.aes3_status.specs.Bits.{number_at}
use Rattle.aes3_status.specs.Check.{check_state_of}
use Rattle.aes3_status.specs.Settings.{place_of}
use Rattle.aes3_status.specs.Statuses.{is_professional}
use Rattle.aes3_status.specs.Words.{use_words, word_for}
use Rattle.aes3_status.specs.FieldTexts.{field_text}
use Rattle.aes3_status.specs.StatusTexts.{UseIsShown}
use Rattle.aes3_status.proofs.BitFields.{field-fits}
use Rattle.aes3_status.proofs.SettingsApart.{other-codes-stay, other-meanings-stay}

pub line-shows : LineShowsFields
unfolding professional.signal_fields professional.mode_fields professional.name_fields professional.address_fields
    professional.professional_text consumer.signal_fields consumer.source_fields consumer.rate_fields
    consumer.length_fields consumer.consumer_text
line-shows bytes check = (simp (append_assoc, append-nil), simp (append_assoc, append-nil))

pub other-words-stay : OtherWordsStay
other-words-stay setting f bytes e k other none told =
    ap₂ (code_text f) (other-meanings-stay setting f bytes e k told) (other-codes-stay setting f bytes e k other none)

-- ---- the word of the use
consumer-bit : (n : ℕ) → n < 2 → eqb n 1 ≡ false → n ≡ 0
consumer-bit zero h e = refl
consumer-bit (suc zero) h e = cc
consumer-bit (suc (suc n)) h e = absurd (omega arith)

pub use-shown : UseIsShown
unfolding professional.professional_text consumer.consumer_text word_for
use-shown bytes = go (is_professional bytes) refl
  where
    bit : ℕ
    bit = number_at (place_of Use) bytes

    professional_rest : List ℕ
    professional_rest =
        professional.signal_fields bytes ++ professional.mode_fields bytes ++ professional.name_fields bytes
        ++ professional.address_fields bytes
        ++ field_text (codes "check") (professional.check_word (check_state_of bytes))

    consumer_rest : List ℕ
    consumer_rest =
        consumer.signal_fields bytes ++ consumer.source_fields bytes ++ consumer.rate_fields bytes
        ++ consumer.length_fields bytes

    go : (b : Bool) → is_professional bytes ≡ b
        → (rest : List ℕ)
        × (cond b (professional.professional_text bytes (check_state_of bytes)) (consumer.consumer_text bytes)
        ≡ codes " " ++ word_for use_words bit ++ rest)
    go true e = (
      professional_rest,
      ap (λ n. codes " " ++ word_for use_words n ++ professional_rest) (sym (eqb-true bit 1 e)),
    )
    go false e = (
      consumer_rest,
      ap (λ n. codes " " ++ word_for use_words n ++ consumer_rest)
          (sym (consumer-bit bit (field-fits 0 0 1 bytes) e)),
    )
