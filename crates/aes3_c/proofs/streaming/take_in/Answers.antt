use Rattle.std.proofs.Common.{◌∙◌, ◌++◌, List, ℕ, ap, arith, subst, inr, take}
use Rattle.std.proofs.lemmas.List.{length-take, take-take}
use Rattle.aes3_level.specs.declared.level.Level.{Level}
use Rattle.aes3_capture_recovery.specs.Levels.{levels_of_samples}
use Rattle.aes3_c.specs.Owed.{owed_in}
use Rattle.aes3_c.specs.Streaming.{TookOctets, TookTooMuch}
use Rattle.aes3_c.proofs.OwedOctets.{drop-further}
use Rattle.aes3_c.proofs.Streams.{told-more, two-of-front}
use Rattle.aes3_c.proofs.streaming.take_in.Goals as goal

pub returns-clause-took : goal.returns-clause-took
returns-clause-took g c =
    let one = c.put_owed-at.ensures in
    let within = one.within in
    let room = c.if-at-cells.false in
    let samples = c.args.samples.now in
    let most = c.min-most.result in
    let len = c.in-Some.len in
    let some = c.in-Some.ensures.some in
    let few = some.0 in
    let front = length-take most samples in
    inr (record {
      was = c.if-recovery-ne0.false;
      is = c.if-recovery-ne0.false;
      each = λ before is first kept.
          let e = some.1.1.each first kept in (
            e.0,
            e.1,
            subst (λ (levels : List Level). TookOctets first e.0 g.told
                (before ++ (take c.put_owed.result c.put_owed.new.cells ++ owed_in c.put_owed.new.owed)) levels)
                (ap (levels_of_samples c.args.unit) (take-take len most samples (omega (arith, few, front))))
                (subst (λ (l : List ℕ). TookOctets first e.0 g.told l (levels_of_samples c.args.unit (take len (take most samples))))
                (told-more g.told before _ _ _ _ (take c.put_owed.result c.put_owed.new.cells)
                (owed_in c.put_owed.new.owed) is one.put (one.all (omega (arith, within, room))) c.put_owed.ensures.put)
                e.2),
          );
    })

pub returns-in_default-clause-moves : goal.returns-in_default-clause-moves
returns-in_default-clause-moves g c = λ _ some.
    inr (inr (subst (λ (l : List ℕ). TookTooMuch g.told c.args.recovery.now.recovery (levels_of_samples c.args.unit l))
    (two-of-front c.min-most.result c.args.samples.now c.min-most.ensures) c.in_default.ensures.many))

pub returns-clause-rest : goal.returns-clause-rest
returns-clause-rest g c =
    c.put_owed.ensures.rest
    ∙ drop-further c.put_owed-at.result c.put_owed.result _ _ c.put_owed.ensures.least c.put_owed-at.ensures.rest
