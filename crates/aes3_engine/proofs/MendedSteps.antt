-- A taker that gives marked blocks too, step by step.
use Rattle.std.proofs.Common.{◌≡◌, ◌+◌, ◌≤◌, List, [], ◌∷◌, ◌++◌, Bool, true, Option, Some, length}
use Rattle.std.proofs.Common.{refl, sym, ap, ◌∙◌, arith, append-nil}
use Rattle.aes3_level.specs.declared.level.Level.{Level}
use Rattle.aes3_frame.specs.declared.fill.Fill.{Fill}
use Rattle.aes3_frame.specs.Blocks.{zero_block}
use Rattle.aes3_lock.specs.declared.report.Ending.{Ending}
use Rattle.aes3_lock.specs.declared.report.Ending.TheVariants.{Whole, Marked, Fault, Unfinished}
use Rattle.aes3_lock.specs.declared.report.Report.{Report}
use Rattle.aes3_lock.specs.declared.report.Report.TheVariants.{Whole as Stood, Marked as Marred}
use Rattle.aes3_lock.specs.declared.report.Report.TheVariants.{Fault as Refuted, Unfinished as Cut}
use Rattle.aes3_lock.specs.Following.{LockState, HeldBlock, report_in}
use Rattle.aes3_lock.specs.Reports.{decided, reports}
use Rattle.aes3_input.specs.Taking.{behind}
use Rattle.aes3_forms_samples.specs.declared.sample_format.SampleFormat.{SampleFormat}
use Rattle.aes3_forms_samples.specs.Formats.{narrowed}
use Rattle.aes3_forms_samples.proofs.Formats.{narrowed-none}
use Rattle.aes3_engine.specs.declared.filling.Progress.{Progress}
use Rattle.aes3_engine.specs.declared.mended.MendedBlocks.{MendedBlocks}
use Rattle.aes3_engine.specs.Filling.{Placed, given, mended_from, marked_given}
use Rattle.aes3_engine.specs.FillSteps.{behind_blocks, bytes_behind, progress_behind, progress_of}
use Rattle.aes3_engine.specs.MendSteps.{begun, mend_writing, IsMendedOf, TookBlocks, block_before, given_in, marked_in}
use Rattle.aes3_engine.proofs.FillSteps.{bytes-behind, progress-append}
use Rattle.aes3_engine.proofs.GivenBlocks.{begun-stays, begun-more, given-more, given-in, marked-push}
use Rattle.aes3_engine.proofs.GivenBlocks.{mended-append, behind-mended, ends-mended}

block-append : (b : List (List Bool)) (xs ys : List Placed)
    → block_before b (xs ++ ys) ≡ block_before (block_before b xs) ys
block-append b [] ys = refl
block-append b (x ∷ xs) ys = block-append x.block xs ys

marked-one : (k : LockState) (e : Ending) → marked_given true (report_in k e ∷ []) ≡ marked_in e
marked-one k (Whole at s) = refl
marked-one k (Marked at s wrong) = refl
marked-one k (Fault at cell why) = refl
marked-one k (Unfinished at cells) = refl

pub few-marked : (r : List Report) → marked_given true r ≤ length r
few-marked [] = omega arith
few-marked (Stood at s b ∷ r) = let n = few-marked r in omega arith
few-marked (Marred at s wrong ∷ r) = let n = few-marked r in omega arith
few-marked (Refuted at cell why ∷ r) = let n = few-marked r in omega arith
few-marked (Cut at cells ∷ r) = let n = few-marked r in omega arith

module _ (k : MendedBlocks) (lock : LockState) (c : List Level) (r : List Report) (e : Ending) (h : IsMendedOf k c r)
    (held : HeldBlock lock.words c (Some e)) where
  abbrev all : List Placed
  all = given true k.filled.fill c r

  abbrev more : List Placed
  more = given_in k.filled.fill lock.words k.before e

  -- what the report gives
  own : mended_from k.filled.fill c (block_before zero_block all) (report_in lock e ∷ []) ≡ more
  own =
      ap (λ (b : List (List Bool)). mended_from k.filled.fill c b (report_in lock e ∷ [])) (sym h.before)
      ∙ given-in k.filled.fill lock c k.before e held

  pub bytes-given : bytes_behind k.filled.format k.filled.fill k.filled.progress more
      ≡ narrowed k.filled.format (behind_blocks k.filled.fill all
      (mended_from k.filled.fill c (block_before zero_block all) (report_in lock e ∷ [])))
  bytes-given =
      ap (λ (v : Option Progress). bytes_behind k.filled.format k.filled.fill v more) h.progress
      ∙ bytes-behind k.filled.format k.filled.fill all more
      ∙ ap (λ v. narrowed k.filled.format (behind_blocks k.filled.fill all v)) (sym own)

  next-all : given true k.filled.fill c (r ++ report_in lock e ∷ []) ≡ all ++ more
  next-all = mended-append k.filled.fill c zero_block r (report_in lock e ∷ []) ∙ ap (λ v. all ++ v) own

  pub next-mended : (m : MendedBlocks) → TookBlocks k m more (marked_in e) → IsMendedOf m c (r ++ report_in lock e ∷ [])
  next-mended m took =
      let x = r ++ report_in lock e ∷ [] in
      let f = k.filled.fill in
      record {
        progress = took.progress ∙ ap (λ (v : Option Progress). progress_behind f v more) h.progress
            ∙ progress-append f all more ∙ ap (progress_of f) (sym next-all)
            ∙ ap (λ (v : Fill). progress_of v (given true v c x)) (sym took.fill);
        before = took.before ∙ ap (λ (b : List (List Bool)). block_before b more) h.before
            ∙ sym (block-append zero_block all more) ∙ ap (block_before zero_block) (sym next-all)
            ∙ ap (λ (v : Fill). block_before zero_block (given true v c x)) (sym took.fill);
        marked = took.marked ∙ ap (λ n. n + marked_in e) h.marked
            ∙ ap (λ n. marked_given true r + n) (sym (marked-one lock e)) ∙ sym (marked-push r (report_in lock e));
      }

-- more cells that decide nothing
pub mended-later : (k : MendedBlocks) (c d : List Level) → IsMendedOf k c (decided c)
    → IsMendedOf k (c ++ d) (decided c)
mended-later k c d h =
    let s = sym (begun-stays k.filled.fill c d) in
    record {
      progress = h.progress ∙ ap (progress_of k.filled.fill) s;
      before = h.before ∙ ap (block_before zero_block) s;
      marked = h.marked;
    }

-- what cells write that decide a report, and none; and what their end does
pub told-bytes : (pcm : SampleFormat) (fill : Fill) (c d : List Level) (x : Report)
    → decided (c ++ d) ≡ decided c ++ x ∷ []
    → narrowed pcm (behind_blocks fill (given true fill (c ++ d) (decided c))
    (mended_from fill (c ++ d) (block_before zero_block (given true fill (c ++ d) (decided c))) (x ∷ [])))
    ≡ behind (mend_writing pcm fill) c d
told-bytes pcm fill c d x e =
    ap (λ (v : List Placed). narrowed pcm
    (behind_blocks fill v (mended_from fill (c ++ d) (block_before zero_block v) (x ∷ [])))) (begun-stays fill c d)
    ∙ sym (behind-mended pcm fill c d _ (begun-more fill c d (x ∷ []) e))

none-written : (pcm : SampleFormat) (fill : Fill) (xs : List Placed) → narrowed pcm (behind_blocks fill xs []) ≡ []
none-written pcm fill [] = narrowed-none pcm
none-written pcm fill (x ∷ xs) = narrowed-none pcm

pub quiet-bytes : (pcm : SampleFormat) (fill : Fill) (c d : List Level) → decided (c ++ d) ≡ decided c
    → behind (mend_writing pcm fill) c d ≡ []
quiet-bytes pcm fill c d e =
    behind-mended pcm fill c d [] (begun-more fill c d [] (e ∙ sym (append-nil (decided c))))
    ∙ none-written pcm fill (begun fill c)

pub end-bytes : (pcm : SampleFormat) (fill : Fill) (c : List Level) (x : Report) → reports c ≡ decided c ++ x ∷ []
    → narrowed pcm (behind_blocks fill (begun fill c)
    (mended_from fill c (block_before zero_block (begun fill c)) (x ∷ [])))
    ≡ (mend_writing pcm fill).ends c
end-bytes pcm fill c x e = sym (ends-mended pcm fill c _ (given-more fill c (x ∷ []) e))

pub no-end-bytes : (pcm : SampleFormat) (fill : Fill) (c : List Level) → reports c ≡ decided c ++ []
    → (mend_writing pcm fill).ends c ≡ []
no-end-bytes pcm fill c e =
    ends-mended pcm fill c [] (given-more fill c [] e) ∙ none-written pcm fill (begun fill c)
