use Rattle.std.proofs.Common.{◌≡◌, List, ℕ, true, get_or, arith, sym, ap, subst, ◌∙◌}
use Rattle.arrayvec.specs.ArrayVec.{ArrayVec}
use Rattle.aes3_frame.specs.Files.{is_lawful}
use Rattle.aes3_frame.proofs.BlockLemmas.{block_subframes_384}
use Rattle.aes3_block.proofs.file.take_block.Goals as goal

pub of_words-requires : goal.of_words-requires
of_words-requires c = λ i h.
    let n = block_subframes_384 in
    subst (λ (all : List ℕ). is_lawful (get_or all i 0) ≡ true)
    (sym (c.in-Ok.ensures.ok ∙ ap (λ (v : ArrayVec ℕ). v.items) c.take.ensures.value))
    (c.requires i (omega (arith, h, n)))
