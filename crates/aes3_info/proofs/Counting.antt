-- Sums that stay at the greatest number, and what is counted of one more.
use Rattle.std.proofs.Common.{◌≡◌, ℕ, zero, suc, ◌+◌, ◌-◌, ◌^◌, Bool, List, [], ◌∷◌, ◌++◌, Option, None, Some}
use Rattle.std.proofs.Common.{length, min, max, ltb, refl, sym, ap, ◌∙◌, append-nil, arith}
use Rattle.std.specs.List.{sum_by}
use Rattle.std.proofs.lemmas.Bool.{lt-ltb}
use Rattle.std.proofs.lemmas.Grind.{flat_map-append}
use Rattle.std.proofs.lemmas.List.Sums.{sum_by-append, sum_by-cons, sum_by_push}
use Rattle.aes3_frame.specs.declared.block.Channel.{Channel}
use Rattle.aes3_frame.specs.Statuses.{status_of}
use Rattle.aes3_lock.specs.declared.report.Report.{Report}
use Rattle.aes3_lock.specs.declared.report.Report.TheVariants.{Whole, Marked, Fault, Unfinished}
use Rattle.aes3_lock.specs.Reports.{wholes}
use Rattle.aes3_lock.proofs.AllStanding.{wholes-append}
use Rattle.aes3_info.specs.declared.channel_facts.ChannelFacts.{ChannelFacts}
use Rattle.aes3_info.specs.Facts.{all_magnitudes, changes_behind, channel_facts, differs, first_of, first_with, greatest}
use Rattle.aes3_info.specs.Facts.{invalid_in, is_biphase, is_fault, is_marked, is_preamble, is_unclosed, is_unfinished}
use Rattle.aes3_info.specs.Facts.{is_whole, last_of, magnitudes, more, more_energy, most_count, most_energy, report_facts}
use Rattle.aes3_info.specs.Facts.{sample_facts, square, statuses, total, with_block, with_report, with_samples}

pub count-push : {A : Type 0} (f : A → ℕ) (xs : List A) (x : A)
    → more (total most_count f xs) (f x) ≡ total most_count f (xs ++ x ∷ [])
unfolding more total
count-push f xs x = let e = sum_by_push f xs x in omega arith

pub count-join : {A : Type 0} (f : A → ℕ) (xs ys : List A)
    → more (total most_count f xs) (total most_count f ys) ≡ total most_count f (xs ++ ys)
unfolding more total
count-join f xs ys = let e = sum_by-append f xs ys in omega arith

energy-join : (ms ns : List ℕ)
    → more_energy (total most_energy square ms) (sum_by square ns) ≡ total most_energy square (ms ++ ns)
unfolding more_energy total
energy-join ms ns = let e = sum_by-append square ms ns in omega arith

-- a report more
pub report-push : (r : List Report) (x : Report) → with_report (report_facts r) x ≡ report_facts (r ++ x ∷ [])
report-push r x =
    rw (
      count-push is_whole r x,
      count-push is_marked r x,
      count-push is_fault r x,
      count-push is_preamble r x,
      count-push is_biphase r x,
      count-push is_unclosed r x,
      count-push is_unfinished r x,
    ) refl

-- how many reports are of whole blocks
pub wholes-sum : (r : List Report) → sum_by is_whole r ≡ length (wholes r)
wholes-sum [] = refl
wholes-sum (Whole at s b ∷ r) = let e = sum_by-cons is_whole (Whole at s b) r in let f = wholes-sum r in omega arith
wholes-sum (Marked at s n ∷ r) = let e = sum_by-cons is_whole (Marked at s n) r in let f = wholes-sum r in omega arith
wholes-sum (Fault at cell why ∷ r)
    = let e = sum_by-cons is_whole (Fault at cell why) r in let f = wholes-sum r in omega arith
wholes-sum (Unfinished at cells ∷ r)
    = let e = sum_by-cons is_whole (Unfinished at cells) r in let f = wholes-sum r in omega arith

some-found : (n : ℕ) → ltb 0 (min n (2 ^ 64 - 1)) ≡ ltb 0 n
some-found zero = refl
some-found (suc n) = lt-ltb 0 (min (suc n) (2 ^ 64 - 1)) (omega arith) ∙ sym (lt-ltb 0 (suc n) (omega arith))

pub whole-found : (r : List Report) → ltb 0 (total most_count is_whole r) ≡ ltb 0 (length (wholes r))
unfolding total most_count
whole-found r = some-found (sum_by is_whole r) ∙ ap (ltb 0) (wholes-sum r)

-- a block more
first-push : (channel : Channel) (bs : List (List (List Bool))) (b : List (List Bool))
    → first_with (first_of (statuses channel bs)) (status_of b channel) ≡ first_of (statuses channel (bs ++ b ∷ []))
first-push channel [] b = refl
first-push channel (a ∷ bs) b = refl

last-push : (channel : Channel) (before : Option (List ℕ)) (bs : List (List (List Bool))) (b : List (List Bool))
    → last_of before (statuses channel (bs ++ b ∷ [])) ≡ Some (status_of b channel)
last-push channel before [] b = refl
last-push channel before (a ∷ bs) b = last-push channel (Some (status_of a channel)) bs b

changes-push : (channel : Channel) (before : Option (List ℕ)) (bs : List (List (List Bool))) (b : List (List Bool))
    → changes_behind before (statuses channel (bs ++ b ∷ []))
    ≡ changes_behind before (statuses channel bs)
    + differs (last_of before (statuses channel bs)) (status_of b channel)
changes-push channel before [] b = omega arith
changes-push channel before (a ∷ bs) b
    = let e = changes-push channel (Some (status_of a channel)) bs b in omega arith

changes-more : (channel : Channel) (bs : List (List (List Bool))) (b : List (List Bool))
    → more (min (changes_behind None (statuses channel bs)) most_count)
    (differs (last_of None (statuses channel bs)) (status_of b channel))
    ≡ min (changes_behind None (statuses channel (bs ++ b ∷ []))) most_count
unfolding more
changes-more channel bs b = let e = changes-push channel None bs b in omega arith

greatest-append : (ms ns : List ℕ) → greatest (ms ++ ns) ≡ max (greatest ms) (greatest ns)
greatest-append [] ns = omega arith
greatest-append (m ∷ ms) ns = let e = greatest-append ms ns in omega arith

all-push : (channel : Channel) (bs : List (List (List Bool))) (b : List (List Bool))
    → all_magnitudes channel (bs ++ b ∷ []) ≡ all_magnitudes channel bs ++ magnitudes channel b
all-push channel bs b =
    flat_map-append (magnitudes channel) bs (b ∷ [])
    ∙ ap (λ z. all_magnitudes channel bs ++ z) (append-nil (magnitudes channel b))

greatest-push : (channel : Channel) (bs : List (List (List Bool))) (b : List (List Bool))
    → max (greatest (all_magnitudes channel bs)) (greatest (magnitudes channel b))
    ≡ greatest (all_magnitudes channel (bs ++ b ∷ []))
greatest-push channel bs b =
    sym (ap greatest (all-push channel bs b)
    ∙ greatest-append (all_magnitudes channel bs) (magnitudes channel b))

energy-push : (channel : Channel) (bs : List (List (List Bool))) (b : List (List Bool))
    → more_energy (total most_energy square (all_magnitudes channel bs)) (sum_by square (magnitudes channel b))
    ≡ total most_energy square (all_magnitudes channel (bs ++ b ∷ []))
energy-push channel bs b =
    energy-join (all_magnitudes channel bs) (magnitudes channel b)
    ∙ ap (total most_energy square) (sym (all-push channel bs b))

pub samples-push : (channel : Channel) (bs : List (List (List Bool))) (b : List (List Bool))
    → with_samples (sample_facts channel bs) channel b ≡ sample_facts channel (bs ++ b ∷ [])
samples-push channel bs b = rw (greatest-push channel bs b, energy-push channel bs b) refl

block-push : (channel : Channel) (bs : List (List (List Bool))) (b : List (List Bool))
    → with_block (channel_facts channel bs) channel b ≡ channel_facts channel (bs ++ b ∷ [])
block-push channel bs b =
    rw (
      first-push channel bs b,
      sym (last-push channel None bs b),
      changes-more channel bs b,
      count-push (invalid_in channel) bs b,
      samples-push channel bs b,
    ) refl

-- the samples of a report's block
abbrev pub with_report_of : ChannelFacts → Channel → Report → ChannelFacts
with_report_of f channel (Whole at s b) = with_block f channel b
with_report_of f channel (Marked at s wrong) = f
with_report_of f channel (Fault at cell why) = f
with_report_of f channel (Unfinished at cells) = f

none-more : (channel : Channel) (r : List Report) (x : Report) → wholes (x ∷ []) ≡ []
    → channel_facts channel (wholes r) ≡ channel_facts channel (wholes (r ++ x ∷ []))
none-more channel r x e =
    ap (channel_facts channel)
    (sym (wholes-append r (x ∷ []) ∙ ap (λ z. wholes r ++ z) e ∙ append-nil (wholes r)))

pub channel-push : (channel : Channel) (r : List Report) (x : Report)
    → with_report_of (channel_facts channel (wholes r)) channel x ≡ channel_facts channel (wholes (r ++ x ∷ []))
channel-push channel r (Whole at s b) =
    block-push channel (wholes r) b ∙ ap (channel_facts channel) (sym (wholes-append r (Whole at s b ∷ [])))
channel-push channel r (Marked at s wrong) = none-more channel r (Marked at s wrong) refl
channel-push channel r (Fault at cell why) = none-more channel r (Fault at cell why) refl
channel-push channel r (Unfinished at cells) = none-more channel r (Unfinished at cells) refl
