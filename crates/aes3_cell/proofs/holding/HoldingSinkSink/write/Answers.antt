use Rattle.std.proofs.Common.{◌≡◌, ◌≤◌, ◌∙◌, ℕ, List, ◌++◌, Some, Result, Ok, Err, IfOk, OnErr, length, take, refl, ap}
use Rattle.std.proofs.Common.{arith, length-append}
use Rattle.std.proofs.lemmas.List.{take-append-le}
use Rattle.aes3_cell.specs.Ends.{Grew}
use Rattle.aes3_cell.proofs.holding.HoldingSinkSink.write.Goals as goal

-- what grows keeps its first bytes
grown : (k : ℕ) (a x b : List ℕ) → k ≤ length a → b ≡ a ++ x → (k ≤ length b) × (take k b ≡ take k a)
grown k a x b h e = (
  (let l : length b ≡ length (a ++ x) = ap length e in let m = length-append a x in omega arith),
  ap (take k) e ∙ take-append-le k a x h,
)

kept : {E : Type 0} (F : Type 0) (k : ℕ) (a b buf : List ℕ) (r : Result ℕ E) → k ≤ length a
    → IfOk r (λ (n : ℕ). Grew (Some a) (Some b) (take n buf)) → OnErr r (F × (Some b ≡ Some a))
    → (k ≤ length b) × (take k b ≡ take k a)
kept F k a b buf (Ok n) h g e = let i : Some b ≡ Some (a ++ take n buf) = g.by a refl in grown k a (take n buf) b h (cc)
kept F k a b buf (Err x) h g e
    = let i = e.1 in let j : b ≡ a = cc in ((let l : length b ≡ length a = ap length j in omega arith), ap (take k) j)

pub invariant_of-self : goal.invariant_of-self
invariant_of-self c =
    let s = c.args.self.now in
    record {
      within = (kept _ s.passed s.inner.bytes.items c.write.new.self.bytes.items c.args.buf.now c.write.result
          s.within c.write.ensures.bytes c.write.ensures.err).0;
    }

pub returns-clause-held : goal.returns-clause-held
returns-clause-held c =
    let s = c.args.self.now in
    (kept _ s.passed s.inner.bytes.items c.write.new.self.bytes.items c.args.buf.now c.write.result s.within
    c.write.ensures.bytes c.write.ensures.err).1
