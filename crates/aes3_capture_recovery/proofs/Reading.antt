-- Octets of samples that a run reads, piece by piece.
use Rattle.std.proofs.Common.{◌≡◌, ℕ, ◌+◌, ◌-◌, ◌*◌, ◌%◌, ◌<◌, ◌≤◌, ◌^◌, ◌⊎◌, inl, inr, List, [], ◌∷◌, ◌++◌, Bool, map}
use Rattle.std.proofs.Common.{Option, Result, Ok, Err, IfErr, IfOk, IsTrue, length, get_or, set, take, drop, refl, sym, ap}
use Rattle.std.proofs.Common.{◌∙◌, arith, append_assoc, append-nil, length-append, length-drop, length-take, subst}
use Rattle.std.specs.List.{range_with_len}
use Rattle.std.proofs.lemmas.List.{drop_more, length-take-le, take_more_set}
use Rattle.std.proofs.Math.Seq.{take-add}
use Rattle.aes3_cell.specs.Ends.{Grew}
use Rattle.aes3_cell.proofs.Growing.{grew-is, grew-join, grew-none}
use Rattle.aes3_capture_recovery.specs.Levels.{AreWhole, bit_of_line, bits_of_sample, level_in, levels_of_samples, samples_in}
use Rattle.aes3_capture_recovery.specs.Reading.{ReadSamples, SamplesRan}
use Rattle.aes3_capture_recovery.specs.Taking.{Took, TookAll}
use Rattle.aes3_capture_recovery.specs.declared.edges.Unit.{Unit}
use Rattle.aes3_capture_recovery.specs.declared.edges.Unit.TheVariants.{Octets, Pairs}
use Rattle.aes3_capture_recovery.specs.declared.recovery.Recovery.{Recovery}
use Rattle.aes3_capture_recovery.specs.declared.recovery_run.Progress.{Progress}
use Rattle.aes3_capture_recovery.specs.declared.recovery_run.Progress.TheVariants.{Ended, Paused}
use Rattle.aes3_capture_recovery.specs.declared.recovery_run.Refusal.{Refusal}
use Rattle.aes3_capture_recovery.specs.declared.recovery_run.Refusal.TheVariants.{Read, Write}
use Rattle.aes3_capture_recovery.proofs.SampleLevels.{levels-join, levels-nothing}
use Rattle.aes3_capture_recovery.proofs.Taking.{took-all, took-is, took-join, took-none}

-- the run so far: the octets that came are whole samples, which were taken, and the part of one that is kept
pub record Upto {A : Type 0} (unit : Unit) (told told_now : Option (List ℕ)) (taken : A → Option (List ℕ))
    (old now : Recovery) (before sink : A) (left : List ℕ) (reads : ℕ) : Type 0 where
  pub octets : List ℕ
  pub given : Grew told told_now octets
  pub front : List ℕ
  pub parts : front ++ left ≡ octets
  pub whole : AreWhole unit (length front)
  pub part : 8 * length left < bits_of_sample unit
  pub many : reads ≤ length octets
  pub took : bit_of_line unit < bits_of_sample unit → Took taken old now before sink (levels_of_samples unit front)

-- a part of a sample has no level
levels-part : (unit : Unit) (left : List ℕ) → 8 * length left < bits_of_sample unit → levels_of_samples unit left ≡ []
unfolding levels_of_samples
levels-part unit left few = ap (λ k. map (level_in unit left) (range_with_len 0 k)) (none unit few)
  where
    none : (unit : Unit) → 8 * length left < bits_of_sample unit → samples_in unit (length left) ≡ 0
    none (Octets bit) h = omega (arith, h)
    none (Pairs bit) h = omega (arith, h)

pub upto-levels : {A : Type 0} {unit : Unit} {told told_now : Option (List ℕ)} {taken : A → Option (List ℕ)}
    {old now : Recovery} {before sink : A} {left : List ℕ} {reads : ℕ}
    (u : Upto unit told told_now taken old now before sink left reads) → bit_of_line unit < bits_of_sample unit
    → Took taken old now before sink (levels_of_samples unit u.octets)
upto-levels {unit = unit} {left = left} u bit =
    took-is
    (sym (levels-join unit u.front left u.whole ∙ ap (λ x. levels_of_samples unit u.front ++ x) (levels-part unit left u.part)
    ∙ append-nil (levels_of_samples unit u.front)) ∙ ap (levels_of_samples unit) u.parts)
    (u.took bit)

some-bits : (unit : Unit) → 0 < bits_of_sample unit
some-bits (Octets bit) = omega arith
some-bits (Pairs bit) = omega arith

none-whole : (unit : Unit) → AreWhole unit 0
none-whole (Octets bit) = omega arith
none-whole (Pairs bit) = omega arith

pub sum-whole : (unit : Unit) (n m : ℕ) → AreWhole unit n → AreWhole unit m → AreWhole unit (n + m)
sum-whole (Octets bit) n m a b = omega arith
sum-whole (Pairs bit) n m a b = omega (arith, a, b)

pub upto-none : {A : Type 0} (unit : Unit) (told : Option (List ℕ)) (taken : A → Option (List ℕ)) (now : Recovery) (sink : A)
    → Upto unit told told taken now now sink sink [] 0
upto-none unit told taken now sink = record {
  octets = [];
  given = grew-none refl;
  front = [];
  parts = refl;
  whole = none-whole unit;
  part = some-bits unit;
  many = omega arith;
  took = λ bit. took-is (sym (levels-nothing unit)) (took-none taken now sink);
}

-- more octets were read: with those that were kept they are whole samples, which were taken, and those that are kept now
pub upto-more : {A : Type 0} {unit : Unit} {told told_now told_next : Option (List ℕ)} {taken : A → Option (List ℕ)}
    {old now next : Recovery} {before sink after : A} {left read : List ℕ} {reads : ℕ} (fed kept : List ℕ)
    → Upto unit told told_now taken old now before sink left reads → Grew told_now told_next read → 1 ≤ length read
    → left ++ read ≡ fed ++ kept → AreWhole unit (length fed) → 8 * length kept < bits_of_sample unit
    → (bit_of_line unit < bits_of_sample unit → Took taken now next sink after (levels_of_samples unit fed))
    → Upto unit told told_next taken old next before after kept (reads + 1)
upto-more {unit = unit} {left = left} {read = read} {reads = reads} fed kept u grew some are whole part took = record {
  octets = u.octets ++ read;
  given = grew-join u.given grew;
  front = u.front ++ fed;
  parts = append_assoc u.front fed kept ∙ ap (λ x. u.front ++ x) (sym are) ∙ sym (append_assoc u.front left read)
      ∙ ap (λ x. x ++ read) u.parts;
  whole = subst (AreWhole unit) (sym (length-append u.front fed))
      (sum-whole unit (length u.front) (length fed) u.whole whole);
  part = part;
  many = let all = length-append u.octets read in let before = u.many in omega (arith, all, some, before);
  took = λ bit. took-join (sym (levels-join unit u.front fed u.whole)) (u.took bit) (took bit);
}

-- the octets of a piece that are kept, and those that were read behind them, are the whole samples and the part of one
pub pieces-are : (old piece next : List ℕ) (kept n len k : ℕ) → take kept piece ≡ take kept old → len + k ≡ kept + n
    → take k next ≡ take k (drop len piece)
    → take kept old ++ take n (drop kept piece) ≡ take len piece ++ take k next
pieces-are old piece next kept n len k same sum rest =
    ap (λ x. x ++ take n (drop kept piece)) (sym same) ∙ sym (take-add kept n piece)
    ∙ ap (λ i. take i piece) (sym sum) ∙ take-add len k piece ∙ ap (λ x. take len piece ++ x) (sym rest)

-- the last octet is kept as the first
pub one-kept : (xs : List ℕ) (len v : ℕ) → len < length xs → v ≡ get_or xs len 0
    → take 1 (set xs 0 v) ≡ take 1 (drop len xs)
one-kept xs len v within is =
    take_more_set xs 0 v (omega (arith, within)) ∙ ap (λ x. x ∷ []) is ∙ sym (ap (take 1) (drop_more xs len 0 within))

pub none-kept : (xs ys : List ℕ) (k : ℕ) → k ≡ 0 → take k xs ≡ take k ys
none-kept xs ys k none = ap (λ i. take i xs) none ∙ sym (ap (λ i. take i ys) none)

-- how many octets are kept, and how many taken
pub kept-part : (unit : Unit) (size whole kept : ℕ) → 8 * size ≡ bits_of_sample unit → kept ≡ whole % size
    → 8 * kept < bits_of_sample unit
kept-part (Octets bit) size whole kept bits is =
    let one : size ≡ 1 = omega (arith, bits) in
    let k : kept ≡ whole % 1 = is ∙ ap (λ s. whole % s) one in
    omega (arith, k)
kept-part (Pairs bit) size whole kept bits is =
    let two : size ≡ 2 = omega (arith, bits) in
    let k : kept ≡ whole % 2 = is ∙ ap (λ s. whole % s) two in
    omega (arith, k)

pub taken-whole : (unit : Unit) (size whole kept len : ℕ) → 8 * size ≡ bits_of_sample unit → kept ≡ whole % size
    → len + kept ≡ whole → AreWhole unit len
taken-whole (Octets bit) size whole kept len bits is sum = omega arith
taken-whole (Pairs bit) size whole kept len bits is sum =
    let two : size ≡ 2 = omega (arith, bits) in
    let k : kept ≡ whole % 2 = is ∙ ap (λ s. whole % s) two in
    omega (arith, k, sum)

kept-within : (unit : Unit) (size whole kept : ℕ) → 8 * size ≡ bits_of_sample unit → kept ≡ whole % size → kept ≤ whole
kept-within (Octets bit) size whole kept bits is =
    let one : size ≡ 1 = omega (arith, bits) in
    let k : kept ≡ whole % 1 = is ∙ ap (λ s. whole % s) one in
    omega (arith, k)
kept-within (Pairs bit) size whole kept bits is =
    let two : size ≡ 2 = omega (arith, bits) in
    let k : kept ≡ whole % 2 = is ∙ ap (λ s. whole % s) two in
    omega (arith, k)

pub kept-none : (unit : Unit) (kept : ℕ) → 8 * kept < bits_of_sample unit → (kept ≡ 1 → ⊥) → kept ≡ 0
kept-none (Octets bit) kept few apart = omega (arith, few)
kept-none (Pairs bit) kept few apart = omega (arith, few, apart)

-- octets of a piece were read behind those that were kept, and the samples that are whole with them were taken
pub upto-piece : {A : Type 0} {unit : Unit} {told told_now told_next : Option (List ℕ)} {taken : A → Option (List ℕ)}
    {old now mid new : Recovery} {before sink between after : A} {reads : ℕ} (last piece next : List ℕ)
    (kept n size k len : ℕ)
    → Upto unit told told_now taken old now before sink (take kept last) reads
    → Grew told_now told_next (take n (drop kept piece)) → take kept piece ≡ take kept last → 0 < n
    → kept + n ≤ length piece → 8 * size ≡ bits_of_sample unit → k ≡ (kept + n) % size → len ≡ kept + n - k
    → take k next ≡ take k (drop len piece)
    → (bit_of_line unit < bits_of_sample unit → Took taken now mid sink between (levels_of_samples unit (take len piece)))
    → Took taken mid new between after []
    → Upto unit told told_next taken old new before after (take k next) (reads + 1)
upto-piece {unit = unit} last piece next kept n size k len u grew same some within bits is rest left took passed =
    let below = kept-within unit size (kept + n) k bits is in
    let sum : len + k ≡ kept + n = omega (arith, rest, below) in
    let behind = length-drop kept piece in
    let read = length-take-le n (drop kept piece) (omega (arith, behind, within)) in
    let fed = length-take-le len piece (omega (arith, sum, within)) in
    let few = kept-part unit size (kept + n) k bits is in
    let part = length-take k next in
    upto-more (take len piece) (take k next) u grew (omega (arith, read, some))
    (pieces-are last piece next kept n len k same sum left)
    (subst (AreWhole unit) (sym fed) (taken-whole unit size (kept + n) k len bits is sum))
    (omega (arith, part, few))
    (λ bit. took-join (append-nil (levels_of_samples unit (take len piece))) (took bit) passed)

-- the source failed
pub run-read : {A : Type 0} {unit : Unit} {told told_now told_next : Option (List ℕ)} {taken : A → Option (List ℕ)}
    {old now : Recovery} {before sink : A} {left : List ℕ} {reads : ℕ} (ended : Bool)
    → Upto unit told told_now taken old now before sink left reads → told_next ≡ told_now
    → ReadSamples unit told told_next ended taken old now before sink (Err Read)
run-read ended u same = record {
  octets = u.octets;
  given = grew-is (append-nil u.octets) (grew-join u.given (grew-none same));
  ran = upto-levels u;
}

-- the sink failed
pub run-write : {A : Type 0} {unit : Unit} {told told_now told_next : Option (List ℕ)} {taken : A → Option (List ℕ)}
    {old now : Recovery} {before sink : A} {left read : List ℕ} {reads : ℕ} (ended : Bool) (new : Recovery) (after : A)
    → Upto unit told told_now taken old now before sink left reads → Grew told_now told_next read
    → ReadSamples unit told told_next ended taken old new before after (Err Write)
run-write {read = read} ended new after u grew = record { octets = u.octets ++ read; given = grew-join u.given grew; ran = tt }

-- it pauses, and no part of a sample is kept
pub run-paused : {A : Type 0} {unit : Unit} {told told_now : Option (List ℕ)} {taken : A → Option (List ℕ)}
    {old now : Recovery} {before sink : A} {left : List ℕ} {reads : ℕ} (ended : Bool)
    → Upto unit told told_now taken old now before sink left reads → left ≡ []
    → ReadSamples unit told told_now ended taken old now before sink (Ok Paused)
run-paused {unit = unit} ended u none = record {
  octets = u.octets;
  given = u.given;
  ran = (
    subst (λ (l : List ℕ). AreWhole unit (length l))
        (sym (append-nil u.front) ∙ ap (λ x. u.front ++ x) (sym none) ∙ u.parts) u.whole,
    upto-levels u,
  );
}

-- it ends
pub run-ended : {A : Type 0} {unit : Unit} {told told_now told_next : Option (List ℕ)} {taken : A → Option (List ℕ)}
    {old now : Recovery} {before sink : A} {left : List ℕ} {reads : ℕ} (ended : Bool) (new : Recovery) (after : A) (failed : Type 0)
    (result : Result Progress Refusal)
    → Upto unit told told_now taken old now before sink left reads → Grew told_now told_next []
    → IsTrue ended ⊎ (2 ^ 64 - 1 ≤ reads) → IfOk result (λ progress. progress ≡ Ended)
    → IfErr result (λ refusal. (refusal ≡ Write) × failed)
    → IfOk result (λ progress. TookAll taken now new sink after [])
    → ReadSamples unit told told_next ended taken old new before after result
run-ended {unit = unit} {taken = taken} {old = old} {now = now} {before = before} {sink = sink} {reads = reads}
    ended new after failed result u grew end ok err took = record {
      octets = u.octets;
      given = grew-is (append-nil u.octets) (grew-join u.given grew);
      ran = ran result ok err took;
    }
  where
    far : IsTrue ended ⊎ (2 ^ 64 - 1 ≤ reads) → IsTrue ended ⊎ (2 ^ 64 - 1 ≤ length u.octets)
    far (inl is) = inl is
    far (inr many) = let all = u.many in inr (omega (arith, many, all))

    ran : (result : Result Progress Refusal) → IfOk result (λ progress. progress ≡ Ended)
        → IfErr result (λ refusal. (refusal ≡ Write) × failed) → IfOk result (λ progress. TookAll taken now new sink after [])
        → SamplesRan unit u.octets ended taken old new before after result
    ran (Ok progress) is e all =
        subst (λ (p : Progress). SamplesRan unit u.octets ended taken old new before after (Ok p)) (sym is)
        (far end, λ bit. took-all (upto-levels u bit) all)
    ran (Err refusal) is e all =
        subst (λ (r : Refusal). SamplesRan unit u.octets ended taken old new before after (Err r)) (sym e.0) tt
