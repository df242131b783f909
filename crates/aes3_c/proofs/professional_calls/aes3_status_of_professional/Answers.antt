use Rattle.std.proofs.Common.{◌≡◌, ℕ, List, [], ◌∷◌, ◌++◌, get_or, take, slice_set, refl, ap, ◌∙◌, sym, subst, rules}
use Rattle.aes3_status.specs.Bits.{status_bits}
use Rattle.aes3_status.specs.Check.{CheckHolds, check_state_of}
use Rattle.aes3_status.specs.Statuses.{is_professional}
use Rattle.aes3_status.specs.declared.check.Check.TheVariants.{Good}
use Rattle.aes3_status.proofs.CheckBytes.{good-holds, state-good}
use Rattle.aes3_c.specs.Professional.{professional_bytes}
use Rattle.aes3_c.proofs.Professionals.{bytes-back, bytes-professional}
use Rattle.aes3_c.proofs.professional_calls.aes3_status_of_professional.Goals as goal

pub returns-clause-professional : goal.returns-clause-professional
returns-clause-professional c = λ _.
    ap (λ b. is_professional (slice_set b 23 c.check_byte.result)) c.bytes_of.ensures.bytes
    ∙ bytes-professional c.args.fields.now c.check_byte.result

pub returns-clause-fields : goal.returns-clause-fields
returns-clause-fields c = λ _. c.bytes_of.ensures.fields c.check_byte.result c.check_byte.type_inv

pub returns-clause-check : goal.returns-clause-check
returns-clause-check c = λ _.
    let sent = c.check_byte.result in
    subst (λ b. CheckHolds (status_bits (take 23 b ++ sent ∷ [])) → check_state_of (slice_set b 23 sent) ≡ Good)
    (sym c.bytes_of.ensures.bytes)
    (λ holds. state-good (slice_set (professional_bytes c.args.fields.now 0) 23 sent) sent refl holds refl)
    (search (rules, c.check_byte.ensures.holds))

pub returns-clause-only : goal.returns-clause-only
returns-clause-only c = λ _ bytes len small kind same good.
    let f = c.args.fields.now in
    let sent = get_or bytes 23 0 in
    let is = bytes-back bytes len small kind ∙ ap (λ g. professional_bytes g sent) same in
    let holds = subst (λ (b : List ℕ). CheckHolds (status_bits b))
    (is ∙ sym (ap (λ b. take 23 b ++ sent ∷ []) c.bytes_of.ensures.bytes)) (good-holds bytes good) in
    is ∙ ap (professional_bytes f) (c.check_byte.ensures.only sent (small 23) (search (rules, holds)))
    ∙ sym (ap (λ b. slice_set b 23 c.check_byte.result) c.bytes_of.ensures.bytes)
