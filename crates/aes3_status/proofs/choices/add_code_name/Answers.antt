use Rattle.std.proofs.Common.{sym, append_assoc}
use Rattle.aes3_status.specs.FieldTexts.{field_text}
use Rattle.aes3_status.proofs.choices.add_code_name.Goals as goal

pub returns-in_ok-push_str-4 : goal.returns-in_ok-push_str-4
unfolding field_text
returns-in_ok-push_str-4 c =
    rw (
      c.in_ok-push_str-4.ensures.bytes,
      c.in_ok-push_str-3.ensures.bytes,
      c.in_ok-push_str-2.ensures.bytes,
      c.in_ok-push_str.ensures.bytes,
      c.name_of.ensures.name,
      sym c.in-Some.ensures.word,
    )
    (simp append_assoc)
