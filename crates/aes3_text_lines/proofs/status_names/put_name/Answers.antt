use Rattle.std.proofs.Common.{sym, append_assoc}
use Rattle.aes3_status.specs.FieldTexts.{field_text}
use Rattle.aes3_text_lines.proofs.status_names.put_name.Goals as goal

pub returns-in-Some-clause-name : goal.returns-in-Some-clause-name
unfolding field_text
returns-in-Some-clause-name c =
    rw (
      c.text-in-Some.ensures.text,
      c.word-in-Some.ensures.word,
      c.text.ensures.text,
      c.word.ensures.word,
      c.name_of.ensures.name,
      sym c.in-Some.ensures.word,
    )
    (simp append_assoc)
