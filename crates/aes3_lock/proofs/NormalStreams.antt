-- The blocks of a lawful stream are those that it was made of.
use Rattle.std.proofs.Common.{◌≡◌, ℕ, suc, ◌+◌, ◌-◌, ◌*◌, ◌≤◌, List, [], ◌∷◌, ◌++◌, Bool, refl, length, ap, ap₂, ◌∙◌}
use Rattle.std.proofs.Common.{sym, subst, arith}
use Rattle.std.specs.List.{All}
use Rattle.std.proofs.lemmas.List.{take_all}
use Rattle.std.proofs.lemmas.List.Elements.{All-map}
use Rattle.aes3_level.specs.declared.level.Level.{Level}
use Rattle.aes3_level.specs.declared.level.Level.TheVariants.{Low}
use Rattle.aes3_frame.specs.Blocks.{block_len, stream, IsBlock}
use Rattle.aes3_frame.proofs.FileLaws.{each-block}
use Rattle.aes3_lock.specs.Reports.{blocks, normal}
use Rattle.aes3_lock.specs.Pieces.{given_within, whole_blocks}
use Rattle.aes3_lock.proofs.AllStanding.{blocks-all_standing}
use Rattle.aes3_lock.proofs.LawfulPieces.{stream-length}
use Rattle.aes3_lock.proofs.PieceBounds.{both-true}
use Rattle.aes3_lock.proofs.PieceBlocks.{blocks-whole}
use Rattle.aes3_lock.proofs.PlaceBlocks.{whole-len}

-- all blocks lie in all cells
all-within : (bs : List (List (List Bool))) (p j : ℕ) → p + length bs * block_len ≤ j
    → given_within (λ p b. b ∷ []) p 0 j bs ≡ bs
all-within [] p j h = refl
all-within (b ∷ bs) p j h =
    let e : suc (length bs) * block_len ≡ block_len + length bs * block_len = omega arith in
    ap₂ (λ u v. u ++ v) (both-true 0 p (p + block_len) j (b ∷ []) [] (omega arith) (omega arith))
    (all-within bs (p + block_len) j (omega arith))

all-whole : (bs : List (List (List Bool))) (j : ℕ) → length bs * block_len ≤ j → whole_blocks bs 0 j ≡ bs
unfolding whole_blocks
all-whole bs j h = all-within bs 0 j (omega arith)

pub stream-blocks : (s : Level) (bs : List (List (List Bool))) → All IsBlock bs → blocks (stream s bs) ≡ bs
stream-blocks s bs a =
    let n = stream-length s bs (each-block bs a) in
    let m = whole-len (length bs) in
    blocks-whole s bs 0 (length (stream s bs)) (stream s bs)
    (record {
      blocks = a;
      order = omega arith;
      within = omega arith;
      is = sym (take_all (length (stream s bs) - 0) (stream s bs) (omega arith));
    })
    ∙ all-whole bs (length (stream s bs)) (omega (arith, n, m))

-- what stands closed is a block
pub blocks-lawful : (c : List Level) → All IsBlock (blocks c)
blocks-lawful c =
    let r = blocks-all_standing c in
    subst (All IsBlock) (sym r.2) (All-map IsBlock (λ f. f.block) r.0 (λ k d l. (r.1.each k d l).block))

pub normal-blocks : (c : List Level) → blocks (normal c) ≡ blocks c
unfolding normal
normal-blocks c = stream-blocks Low (blocks c) (blocks-lawful c)

pub normal-same : (c d : List Level) → blocks c ≡ blocks d → normal c ≡ normal d
unfolding normal
normal-same c d e = ap (stream Low) e

pub normal-fixed : (c : List Level) → normal (normal c) ≡ normal c
normal-fixed c = normal-same (normal c) c (normal-blocks c)

pub normal-tells : (c d : List Level) → normal c ≡ normal d → blocks c ≡ blocks d
normal-tells c d e = sym (normal-blocks c) ∙ ap blocks e ∙ normal-blocks d
