use Rattle.std.proofs.Common.{◌≡◌, ◌+◌, ◌<◌, ◌≤◌, length, get_or, arith, sym, ◌∙◌, lt-ltb, ltb-true, true≢false}
use Rattle.std.proofs.lemmas.List.{length-set, get_or_default}
use Rattle.aes3_slot.proofs.WordMarks.{one-more}
use Rattle.aes3_slot.proofs.search.find_marks.Goals as goal
use Rattle.aes3_slot.proofs.search.find_marks.Goals.{in-Some, in-None}

-- the word behind, or the cells behind the last
inner : (c : goal.After-block_preambles) → c.loop-i.i + 1 < length c.args.words.now
    → c.match-get.behind ≡ get_or c.args.words.now (c.loop-i.i + 1) 0
inner c h = elim c.match-get.branch [
  | in-Some w ↦ w.behind-is ∙ w.in-Some.ensures.lookup.1 ∙ get_or_default c.args.words.now (c.loop-i.i + 1) _ 0 h
  | in-None w ↦ absurd (true≢false (sym (lt-ltb _ _ h) ∙ sym w.in-None.ensures.lookup.0))
]

outer : (c : goal.After-block_preambles) → length c.args.words.now ≤ c.loop-i.i + 1 → c.match-get.behind ≡ c.args.next
outer c h = elim c.match-get.branch [
  | in-Some w ↦ let q = ltb-true _ _ (sym w.in-Some.ensures.lookup.0) in absurd (omega (arith, q, h))
  | in-None w ↦ w.behind-is ∙ w.from-behind.ensures
]

pub loop-i-preserved : goal.loop-i-preserved
loop-i-preserved c = record {
  len = length-set c.loop-i.out c.loop-i.i c.block_preambles.result ∙ c.loop-i.invariant.len;
  told = one-more c.args.words.now c.loop-i.out c.args.next c.loop-i.i c.block_preambles.result c.match-get.behind
      (omega arith) c.loop-i.invariant.len
      c.block_preambles.ensures (inner c) (outer c) c.loop-i.invariant.told;
}
