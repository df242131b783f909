use Rattle.std.proofs.Common.{◌≡◌, ◌+◌, ◌≤◌, ◌++◌, [], take, refl, sym, ◌∙◌, arith, subst, ap₂, append-nil}
use Rattle.std.proofs.lemmas.List.{length-append, length-take-le}
use Rattle.std.proofs.lemmas.Nat.{ones-le}
use Rattle.std.specs.Int.Count.{ones}
use Rattle.aes3_capture_recovery.specs.Turns.{Put, set_bits}
use Rattle.aes3_capture_recovery.proofs.SetBits.{length-ones, put-all}
use Rattle.aes3_capture_recovery.proofs.edges.put_places.Goals as goal

pub loop-at-init : goal.loop-at-init
loop-at-init c =
    let a = c.args in
    let few = c.put_first-rest.ensures.most in
    let wanted = take a.from a.places.now ++ set_bits 64 a.base a.bits in (
      c.put_first-rest.ensures.put wanted (record { more = []; both = sym (append-nil _); none = λ h. refl }),
      c.put_first-rest.ensures.even,
      omega (arith, few),
      c.put_first-rest.ensures.length,
    )

pub loop-at-preserved : goal.loop-at-preserved
loop-at-preserved c =
    let a = c.args in
    let l = c.loop-at in
    let wanted = take a.from a.places.now ++ set_bits 64 a.base a.bits in
    let few : ones a.bits ≤ 64 = ones-le 64 a.bits c.ranges.bits.fits in
    let four = l.invariant.1 in
    let below = c.loop-at-test.true in
    let e : a.from + l.at + 4 ≡ a.from + (l.at + 4) = omega arith in (
      subst (λ n. Put wanted a.base c.put_some-rest.new.places n c.put_some-rest.result) e
          (c.put_some-rest.ensures.put wanted l.invariant.0),
      omega (arith, four),
      omega (arith, four, below, few),
      c.put_some-rest.ensures.length ∙ l.invariant.3,
    )

pub returns-clause-written : goal.returns-clause-written
returns-clause-written c =
    let a = c.args in
    let l = c.loop-at in
    let room = c.requires.room in
    let same = l.invariant.3 in
    let most = l.invariant.2 in
    let end = c.loop-at-test.false in
    let long = length-append (take a.from a.places.now) (set_bits 64 a.base a.bits)
    ∙ ap₂ (λ x y. x + y) (length-take-le a.from a.places.now (omega (arith, room)))
    (length-ones 64 a.base a.bits c.ranges.bits.fits) in
    put-all _ a.base l.places (a.from + l.at) _ l.rest long (omega (arith, end)) (omega (arith, same, most, room))
    l.invariant.0
