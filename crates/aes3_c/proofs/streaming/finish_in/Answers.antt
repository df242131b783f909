use Rattle.std.proofs.Common.{◌∙◌, List, ℕ, [], refl, arith, subst, inr, take}
use Rattle.aes3_c.specs.Owed.{owed_in}
use Rattle.aes3_c.specs.Streaming.{EndedOctets}
use Rattle.aes3_c.proofs.OwedOctets.{drop-further}
use Rattle.aes3_c.proofs.Streams.{told-more}
use Rattle.aes3_c.proofs.streaming.finish_in.Goals as goal

pub returns-clause-ended : goal.returns-clause-ended
returns-clause-ended g c =
    let one = c.put_owed-at.ensures in
    let within = one.within in
    let room = c.if-at-cells.false in
    inr (record {
      was = c.if-recovery-ne0.false;
      is = refl;
      each = λ before is first kept.
          let e = (c.finish_samples-fits.ensures.ended c.if-not-fits.false).each first kept in (
            e.0,
            e.1,
            subst (λ (l : List ℕ). EndedOctets first e.0 g.told l [])
                (told-more g.told before _ _ _ _ (take c.put_owed-end.result c.put_owed-end.new.cells)
                (owed_in c.put_owed-end.new.owed) is one.put (one.all (omega (arith, within, room))) c.put_owed-end.ensures.put)
                e.2,
          );
    })

pub returns-clause-rest : goal.returns-clause-rest
returns-clause-rest g c =
    c.put_owed-end.ensures.rest
    ∙ drop-further c.put_owed-at.result c.put_owed-end.result _ _ c.put_owed-end.ensures.least c.put_owed-at.ensures.rest
