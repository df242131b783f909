-- The samples of one block more, as they are kept.
use Rattle.std.proofs.Common.{◌≡◌, ℕ, ◌+◌, ◌-◌, ◌^◌, Bool, List, [], ◌∷◌, ◌++◌, length, min, ap, ◌∙◌, arith}
use Rattle.std.proofs.lemmas.List.{length-append}
use Rattle.aes3_frame.specs.declared.block.Channel.{Channel}
use Rattle.aes3_frame.specs.declared.block.Channel.TheVariants.{First, Second}
use Rattle.aes3_lock.specs.declared.report.Report.{Report}
use Rattle.aes3_lock.specs.Reports.{wholes}
use Rattle.aes3_info.specs.declared.samples.SampleFacts.{SampleFacts}
use Rattle.aes3_info.specs.Facts.{is_whole, most_count, sample_facts, total, with_samples}
use Rattle.aes3_info.proofs.Counting.{samples-push, wholes-sum}
use Rattle.aes3_c.specs.declared.audio_level_calls.Aes3Levels.{Aes3Levels}
use Rattle.aes3_c.specs.Levels.{HasLevels, kept_levels, samples_in}

-- how many whole blocks the page tells
pub whole-count : (r : List Report) → min (length (wholes r)) most_count ≡ total most_count is_whole r
unfolding total
whole-count r = let e = wholes-sum r in omega arith

samples-more : (k j : Aes3Levels) (blocks : List (List (List Bool))) (b : List (List Bool)) (channel : Channel)
    → HasLevels k blocks
    → samples_in j.first ≡ with_samples (samples_in k.first) First b
    → samples_in j.second ≡ with_samples (samples_in k.second) Second b
    → samples_in (kept_levels j channel) ≡ sample_facts channel (blocks ++ b ∷ [])
samples-more k j blocks b First h f s =
    f ∙ ap (λ (z : SampleFacts). with_samples z First b) (h.samples_is First) ∙ samples-push First blocks b
samples-more k j blocks b Second h f s =
    s ∙ ap (λ (z : SampleFacts). with_samples z Second b) (h.samples_is Second) ∙ samples-push Second blocks b

count-more : (k j : Aes3Levels) (blocks : List (List (List Bool))) (b : List (List Bool))
    → k.blocks ≡ min (length blocks) most_count → j.blocks ≡ min (k.blocks + 1) (2 ^ 64 - 1)
    → j.blocks ≡ min (length (blocks ++ b ∷ [])) most_count
unfolding most_count
count-more k j blocks b e n = let l = length-append blocks (b ∷ []) in omega arith

pub levels-push : (k j : Aes3Levels) (blocks : List (List (List Bool))) (b : List (List Bool)) → HasLevels k blocks
    → j.blocks ≡ min (k.blocks + 1) (2 ^ 64 - 1)
    → samples_in j.first ≡ with_samples (samples_in k.first) First b
    → samples_in j.second ≡ with_samples (samples_in k.second) Second b
    → HasLevels j (blocks ++ b ∷ [])
levels-push k j blocks b h n f s = record {
  blocks_is = count-more k j blocks b h.blocks_is n;
  samples_is = λ channel. samples-more k j blocks b channel h f s;
}
