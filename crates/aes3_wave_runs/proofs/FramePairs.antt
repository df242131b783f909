-- The samples of 32 bits as an input of frames: two of them are written as one, or refused.
use Rattle.std.proofs.Common.{◌≡◌, ℕ, ◌+◌, ◌%◌, ◌<◌, ◌≤◌, List, [], ◌∷◌, ◌++◌, Bool, Option, Some, None, length}
use Rattle.std.proofs.Common.{refl, sym, ap, ap₂, ◌∙◌, append_assoc, append-nil, arith}
use Rattle.std.proofs.lemmas.List.{drop_all, length-append}
use Rattle.std.proofs.lemmas.Option.{none-some}
use Rattle.aes3_refusals.specs.declared.run_error.RunError.{RunError}
use Rattle.aes3_input.specs.Converting.{fault_behind, or_else, out_behind, unless}
use Rattle.aes3_forms_samples.specs.declared.sample_format.SampleFormat.TheVariants.{S32}
use Rattle.aes3_forms_samples.specs.Formats.{block_len}
use Rattle.aes3_status.specs.declared.change.Change.{Change}
use Rattle.aes3_forms_words.specs.declared.alsa_am824.Words.{Words}
use Rattle.aes3_engine.specs.Sampling.{more_of, sampling}
use Rattle.aes3_engine.proofs.SampleReads.{made, made-behind, made-short}
use Rattle.aes3_wave_runs.specs.Through.{PairsAreOne}
use Rattle.aes3_wave_runs.proofs.Parts.{split}

-- fewer octets than two samples have make no block whole
made-same : (form : Words) (k : Change) (c q : List ℕ) → length c % 8 ≡ 0 → length q < 8
    → made S32 form k (c ++ q) ≡ made S32 form k c
unfolding block_len
made-same form k c q h few =
    let s = split 1536 c (omega arith) in
    let w = s.whole in
    let f = s.few in
    let n = ap length s.is in
    let l = length-append s.front s.rest in
    let m = length-append s.rest q in
    let p : length s.front % 1536 ≡ 0 = omega arith in
    let short : length (s.rest ++ q) < 1536 = omega arith in
    ap (λ v. made S32 form k (v ++ q)) s.is ∙ ap (made S32 form k) (append_assoc s.front s.rest q)
    ∙ made-behind S32 form k s.front (s.rest ++ q) p
    ∙ ap (λ v. made S32 form k s.front ++ v)
    (made-short S32 form k (s.rest ++ q) short ∙ sym (made-short S32 form k s.rest f))
    ∙ sym (made-behind S32 form k s.front s.rest p) ∙ ap (made S32 form k) (sym s.is)

adds-none : (exact : Bool) (form : Words) (k : Change) (c p : List ℕ) (x : ℕ) → length c % 8 ≡ 0 → length p + 1 < 8
    → (sampling S32 exact form k).adds (c ++ p) x ≡ []
unfolding sampling
adds-none exact form k c p x h few =
    let l = length-append p (x ∷ []) in
    let e : made S32 form k ((c ++ p) ++ x ∷ []) ≡ made S32 form k (c ++ p)
    = ap (made S32 form k) (append_assoc c p (x ∷ [])) ∙ made-same form k c (p ++ x ∷ []) h (omega arith)
    ∙ sym (made-same form k c p h (omega arith)) in
    ap (more_of (made S32 form k (c ++ p))) e ∙ drop_all (length (made S32 form k (c ++ p))) (made S32 form k (c ++ p)) (omega arith)

quiet-pair : (exact : Bool) (form : Words) (k : Change) (c p m : List ℕ) (e : RunError) → length c % 8 ≡ 0
    → length p + length m ≤ 8 → fault_behind (sampling S32 exact form k) (c ++ p) m ≡ Some e
    → out_behind (sampling S32 exact form k) (c ++ p) m ≡ []
quiet-pair exact form k c p [] e h l q = absurd (none-some _ q)
quiet-pair exact form k c p (x ∷ m) e h l q =
    go ((sampling S32 exact form k).fault (c ++ p) x) q
    (λ v. ap (λ z. out_behind (sampling S32 exact form k) z m) s
    ∙ quiet-pair exact form k c (p ++ x ∷ []) m e h (let n = length-append p (x ∷ []) in omega arith)
    (ap (λ z. fault_behind (sampling S32 exact form k) z m) (sym s) ∙ v))
  where
    s : (c ++ p) ++ x ∷ [] ≡ c ++ (p ++ x ∷ [])
    s = append_assoc c p (x ∷ [])

    none : (d : List ℕ) → length p + (length d + 1) ≤ 8
        → fault_behind (sampling S32 exact form k) ((c ++ p) ++ x ∷ []) d ≡ Some e
        → (sampling S32 exact form k).adds (c ++ p) x ≡ []
    none [] i v = absurd (none-some _ v)
    none (y ∷ d) i v = adds-none exact form k c p x h (omega arith)

    go : (o : Option RunError)
        → or_else o (fault_behind (sampling S32 exact form k) ((c ++ p) ++ x ∷ []) m) ≡ Some e
        → (fault_behind (sampling S32 exact form k) ((c ++ p) ++ x ∷ []) m ≡ Some e
        → out_behind (sampling S32 exact form k) ((c ++ p) ++ x ∷ []) m ≡ [])
        → unless o ((sampling S32 exact form k).adds (c ++ p) x
        ++ out_behind (sampling S32 exact form k) ((c ++ p) ++ x ∷ []) m) ≡ []
    go (Some f) v next = refl
    go None v next = ap₂ ◌++◌ (none m (omega arith) v) (next v)

pub pairs-are-one : (exact : Bool) (form : Words) (k : Change) → PairsAreOne (sampling S32 exact form k)
pairs-are-one exact form k = record {
  quiet = λ c m e h l q.
      ap (λ z. out_behind (sampling S32 exact form k) z m) (sym (append-nil c))
      ∙ quiet-pair exact form k c [] m e h (omega arith)
      (ap (λ z. fault_behind (sampling S32 exact form k) z m) (append-nil c) ∙ q);
}
