use Rattle.std.proofs.Common.{[], ◌≡◌, None, Ok, Option, sym, ◌∙◌}
use Rattle.std.proofs.lemmas.Result.{err_from_is_err_and}
use Rattle.aes3_wave.specs.declared.chunk.WaveHeader.{WaveHeader}
use Rattle.aes3_wave.specs.Headers.{Judged}
use Rattle.aes3_c.proofs.WavHeaders.{follows-all, judged-all, refused-all}
use Rattle.aes3_c.proofs.wav.judge.Goals as goal

pub returns-in_err-take-clause-judged : goal.returns-in_err-take-clause-judged
returns-in_err-take-clause-judged c =
    let error = err_from_is_err_and c.from_residual.result c.from_residual.ensures.1 in
    rw (error.1, error.2) (refused-all c.args.octets.now _ (c.in_err-take.ensures.took [] c.requires))

pub returns-clause-judged : goal.returns-clause-judged
returns-clause-judged c =
    let t = c.in_ok-take.ensures.took [] c.requires in
    judged-all c.take.new.self c.args.octets.now c.in_ok-take.field-0 c.header.result t c.header.ensures.stage
    (c.header.ensures.judged _ t.follows)

pub returns-clause-follows : goal.returns-clause-follows
returns-clause-follows c = λ e.
    let t = c.in_ok-take.ensures.took [] c.requires in
    follows-all c.take.new.self c.args.octets.now c.in_ok-take.field-0 t
    (sym c.header.ensures.stage ∙ none e)
  where
    none : {o : Option WaveHeader} → ◌≡◌ {A = Judged} (Ok o) (Ok None) → o ≡ None
    none e = cc
