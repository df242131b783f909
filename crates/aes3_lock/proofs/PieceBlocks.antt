-- The blocks of a piece of a lawful stream are those that lie whole in it.
use Rattle.std.proofs.Common.{◌≡◌, ℕ, ◌-◌, ◌≤◌, List, [], ◌∷◌, Bool, length, take, drop, ap, ◌∙◌, arith, get_or-drop}
use Rattle.aes3_level.specs.declared.level.Level.{Level}
use Rattle.aes3_level.specs.declared.level.Level.TheVariants.{Low}
use Rattle.aes3_frame.specs.Blocks.{stream}
use Rattle.aes3_frame.proofs.FileLaws.{EachBlock, each-block}
use Rattle.aes3_lock.specs.Pieces.{IsPiece, given_within, whole_blocks}
use Rattle.aes3_lock.specs.Reports.{reports_from, reports, wholes, blocks}
use Rattle.aes3_lock.proofs.Apart.{apart-self}
use Rattle.aes3_lock.proofs.Damaged.{line-cell, blocks-places, short-none, no-other, own-stays}
use Rattle.aes3_lock.proofs.PiecePlaces.{gather-given}
use Rattle.aes3_lock.proofs.PieceBounds.{length-piece}
use Rattle.aes3_lock.proofs.PlaceBlocks.{block_here, here-none, here-some}

piece-blocks : (s : Level) (bs : List (List (List Bool))) → EachBlock bs → (i j : ℕ) → i ≤ j → j ≤ length (stream s bs)
    → wholes (reports_from 0 (take (j - i) (drop i (stream s bs)))) ≡ given_within (λ p b. b ∷ []) 0 i j bs
piece-blocks s bs h i j order within =
    let c = take (j - i) (drop i (stream s bs)) in
    let n = length-piece i j (stream s bs) order within in
    blocks-places s bs h i j order within c n
    ∙ gather-given s bs h i j order within (λ p. block_here 0 (drop (p - i) c)) (λ p b. b ∷ [])
    (λ p l r o. here-none 0 (drop (p - i) c)
    (no-other s bs h i j order within c n p (let a = apart-self c in omega arith) l r o))
    (short-none s bs h i j order within c n)
    (λ p b more l r g e. here-some 0 b s (drop (p - i) c)
    (own-stays s bs h i j order within c n p b more l r g e
    (λ x m o. get_or-drop (p - i) c x Low ∙ line-cell s bs (b ∷ more) i j p x l o e)))

pub blocks-whole : (s : Level) (bs : List (List (List Bool))) (i j : ℕ) (c : List Level) → IsPiece s bs i j c
    → blocks c ≡ whole_blocks bs i j
unfolding blocks reports whole_blocks
blocks-whole s bs i j c p = ap (λ d. wholes (reports_from 0 d)) p.is
    ∙ piece-blocks s bs (each-block bs p.blocks) i j p.order p.within
