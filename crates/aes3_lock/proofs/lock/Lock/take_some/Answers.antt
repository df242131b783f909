use Rattle.std.proofs.Common.{◌-◌, ◌≤◌, ◌++◌, List, length, take, drop, subst, ap, ap₂, sym, ◌∙◌, arith, length-append}
use Rattle.std.proofs.lemmas.List.{length-drop, length-take-le, take-take}
use Rattle.aes3_level.specs.declared.level.Level.{Level}
use Rattle.aes3_lock.specs.Following.{Follows, HeldBlock}
use Rattle.aes3_lock.specs.Reports.{decided}
use Rattle.aes3_level.proofs.Remaining.{front-here, here-parts}
use Rattle.aes3_lock.proofs.lock.Lock.take_some.Goals as goal

pub returns-clause-took : goal.returns-clause-took
returns-clause-took c =
    let here = c.args.cells.now.here in
    let next = c.args.cells.now.next in
    let p = c.step-pushed in
    let e = p.ensures in
    let n = p.result.taken in
    let w = c.word.result in
    let few : n ≤ length here = let i = e.within in let h = c.here.ensures.len in omega (arith, i, h) in
    let some = e.some in
    let same = front-here here w n c.word.ensures few in
    let l = length-take-le n here few in
    record {
      front = take n here;
      parts = here-parts here next n ∙ ap (λ d. take n here ++ d) (sym (ap₂ ◌++◌ c.skip.ensures.here c.skip.ensures.next));
      some = λ _. omega (arith, some, l);
      seen = let s = e.seen in omega (arith, s, l);
      follows = λ b f. subst (λ (d : List Level). Follows p.new.self (b ++ d)) same (e.follows b f);
      report = λ b f. ap (λ d. decided (b ++ d)) (sym same) ∙ e.report b f;
      last = λ q b f.
          ap (λ d. decided (b ++ d))
          (ap (λ m. take (m - 1) (take n here)) l ∙ take-take (n - 1) n here (omega arith)
          ∙ sym (front-here here w (n - 1) c.word.ensures (omega (arith, few))))
          ∙ e.last q b f;
      held = λ b f. subst (λ (d : List Level). HeldBlock p.new.self.words (b ++ d) p.result.ending) same (e.held b f);
    }

pub returns-clause-less : goal.returns-clause-less
returns-clause-less c =
    let here = c.args.cells.now.here in
    let next = c.args.cells.now.next in
    let n = c.step-pushed.result.taken in
    let e = c.step-pushed.ensures in
    let some = e.some in
    let within = e.within in
    let h = c.here.ensures.len in
    let a = length-append here next in
    let b = length-append (drop n here) next in
    let d = length-drop n here in
    let v = ap length (ap₂ ◌++◌ c.skip.ensures.here c.skip.ensures.next) in
    omega (arith, some, within, h, a, b, d, v)
