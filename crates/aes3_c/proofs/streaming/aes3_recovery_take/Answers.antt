use Rattle.std.proofs.Common.{◌≡◌, ◌∙◌, ◌++◌, ◌<◌, ◌≤◌, ℕ, List, ap, ap₂, subst, arith, take, inl, inr}
use Rattle.std.proofs.lemmas.Bool.{cases_eq}
use Rattle.std.proofs.lemmas.List.{length-take, take-take}
use Rattle.aes3_level.specs.declared.level.Level.{Level}
use Rattle.aes3_capture_recovery.specs.Levels.{levels_of_samples}
use Rattle.aes3_capture_recovery.proofs.SampleLevels.{levels-nothing}
use Rattle.aes3_c.specs.Capturing.{unit_of}
use Rattle.aes3_c.specs.Owed.{owed_in}
use Rattle.aes3_c.specs.Streaming.{IsEnded, IsTaking, TookTooMuch}
use Rattle.aes3_c.proofs.Streams.{ended-drained, few-front, takes-drained, takes-more}
use Rattle.aes3_c.proofs.streaming.aes3_recovery_take.Goals as goal

pub returns-clause-took : goal.returns-clause-took
returns-clause-took g c = λ period levels k.
    let samples = c.args.samples.now in
    let len = c.take_in-len.result in
    let whole = c.whole_len-whole.result in
    let within = c.take_in-len.ensures.samples in
    let front = length-take whole samples in
    let same : levels_of_samples c.unit_of-unit.result (take len (take whole samples))
    ≡ levels_of_samples (unit_of c.args.unit c.args.bit) (take len samples)
    = ap₂ levels_of_samples c.unit_of-unit.ensures (take-take len whole samples (omega (arith, within, front))) in
    let t = subst (λ (l : List Level). IsTaking period (levels ++ l) (g.octets ++ take c.take_in-len.new.put c.take_in-len.new.cells)
    c.take_in-len.new.recovery) same
    (elim c.take_in-len.ensures.took [
      | inl d ↦ takes-drained period levels (levels_of_samples c.unit_of-unit.result (take len (take whole samples))) g.octets
          _ _ _ (ap (λ n. levels_of_samples c.unit_of-unit.result (take n (take whole samples))) d.1
          ∙ levels-nothing c.unit_of-unit.result) k d.0
      | inr t ↦ takes-more period levels _ g.octets _ _ _ k t
    ]) in
    record { first = t.first; fresh = t.fresh; now = t.now; kept_is = t.kept_is; took = t.took; goes_on = t.goes_on }

pub returns-clause-ended : goal.returns-clause-ended
returns-clause-ended g c = λ period levels k.
    let t : IsEnded period levels (g.octets ++ take c.take_in-len.new.put c.take_in-len.new.cells) c.take_in-len.new.recovery
    = elim c.take_in-len.ensures.took [
      | inl d ↦ ended-drained period levels g.octets _ _ _ k d.0
      | inr t ↦ let was = t.was in let ended = k.ended in absurd (omega (arith, was, ended))
    ] in
    record { now = t.now; kept_is = t.kept_is; cells = t.cells; ended = t.ended }

pub returns-clause-moves : goal.returns-clause-moves
returns-clause-moves g c = λ left.
    let samples = c.args.samples.now in
    let whole = c.whole_len-whole.result in
    let len = c.take_in-len.result in
    let within = c.whole_len-whole.ensures.within in
    let front = length-take whole samples in
    let too_much : TookTooMuch (g.octets ++ owed_in c.args.recovery.now.owed) c.args.recovery.now.recovery
    (levels_of_samples c.unit_of-unit.result (take 2 (take whole samples)))
    → (few : ℕ) × (few ≤ 2) × TookTooMuch (g.octets ++ owed_in c.args.recovery.now.owed) c.args.recovery.now.recovery
    (levels_of_samples (unit_of c.args.unit c.args.bit) (take few samples))
    = λ t. few-front c.unit_of-unit.result (unit_of c.args.unit c.args.bit) whole samples _ _ c.unit_of-unit.ensures t in
    elim (cases_eq len 0) [
      | inl none ↦
          let some : 0 < whole = grind (arith, left, none) in
          elim (c.take_in-len.ensures.moves none (omega (arith, front, within, some))) [
            | inl full ↦ inl full
            | inr (inl ended) ↦ inr (inr (inl ended))
            | inr (inr much) ↦ inr (inr (inr (too_much much)))
          ]
      | inr some ↦ inr (inl (omega (arith, some)))
    ]
