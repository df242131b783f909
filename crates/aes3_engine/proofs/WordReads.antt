-- A block file in other words, converted byte by byte.
use Rattle.std.proofs.Common.{◌≡◌, ℕ, zero, suc, ◌+◌, ◌*◌, ◌<◌, inl, inr, List, [], ◌∷◌, ◌++◌, Bool, true, false}
use Rattle.std.proofs.Common.{not, ◌&&◌}
use Rattle.std.proofs.Common.{Option, Some, None}
use Rattle.std.proofs.Common.{Result, Ok, Err, length, refl, sym, ap, ◌∙◌, subst, arith, append-nil, append_assoc}
use Rattle.std.proofs.Common.{length-append}
use Rattle.std.proofs.lemmas.Option.{none-some}
use Rattle.aes3_cell.specs.declared.form.Form.{Form}
use Rattle.aes3_refusals.specs.declared.run_error.RunError.{RunError}
use Rattle.aes3_refusals.specs.declared.run_error.RunError.TheVariants.{Read, Write, TooLong}
use Rattle.aes3_cell.proofs.Growing.{grew-none, grew-is, front-is}
use Rattle.aes3_forms_words.specs.declared.alsa_am824.Words.{Words}
use Rattle.aes3_forms_words.specs.Lists.{own_of}
use Rattle.aes3_forms_words.specs.Forms.{is_within}
use Rattle.aes3_forms_words.specs.Reading.{AreAhead, is_left_out, read_more, read_whole}
use Rattle.aes3_forms_words.proofs.Ahead.{length-read, more-is, more-one, read-cut, read-on}
use Rattle.aes3_block.specs.declared.file.FileFault.{FileFault}
use Rattle.aes3_block.specs.Readers.{FileReader, reader_of, byte_fault, block_with}
use Rattle.aes3_block.proofs.WholeBlocks.{short}
use Rattle.aes3_input.specs.Converting.{Reading, or_else, unless, fault_behind, out_behind}
use Rattle.aes3_input.specs.Running.{Fed, InputState, Movement, PieceRan}
use Rattle.aes3_input.proofs.Outputs.{fault-join, fault-clean, behind-clean, behind-fault}
use Rattle.aes3_engine.specs.Encoding.{Encodes, encoding, encoding_state}
use Rattle.aes3_engine.specs.Words.{TakesWords, words_reading, words_state}
use Rattle.aes3_engine.proofs.EncodingLemmas.{one-clean, one-fault}

-- nothing more, and one octet more
more-none : (form : Words) (b : List ℕ) → read_more form b [] ≡ []
more-none form b = more-is form b [] [] (ap (read_whole form) (append-nil b) ∙ sym (append-nil (read_whole form b)))

more-cons : (form : Words) (b : List ℕ) (x : ℕ) (d : List ℕ)
    → read_more form b (x ∷ d) ≡ read_more form b (x ∷ []) ++ read_more form (b ++ x ∷ []) d
more-cons form b x d =
    let one = read_more form b (x ∷ []) in
    let more = read_more form (b ++ x ∷ []) d in
    more-is form b (x ∷ d) (one ++ more)
    (ap (read_whole form) (sym (append_assoc b (x ∷ []) d)) ∙ read-on form (b ++ x ∷ []) d
    ∙ ap (λ t. t ++ more) (read-on form b (x ∷ [])) ∙ append_assoc (read_whole form b) one more)

-- the fault of octets is that of what is read of them
pub through-fault : (form : Words) (r : Reading) (b d : List ℕ)
    → fault_behind (words_reading form r) b d ≡ fault_behind r (read_whole form b) (read_more form b d)
unfolding words_reading
through-fault form r b [] = sym (ap (fault_behind r (read_whole form b)) (more-none form b))
through-fault form r b (x ∷ d) =
    let one = read_more form b (x ∷ []) in
    let more = read_more form (b ++ x ∷ []) d in
    ap (λ o. or_else (fault_behind r (read_whole form b) one) o)
    (through-fault form r (b ++ x ∷ []) d ∙ ap (λ p. fault_behind r p more) (read-on form b (x ∷ [])))
    ∙ sym (fault-join r (read_whole form b) one more)
    ∙ ap (fault_behind r (read_whole form b)) (sym (more-cons form b x d))

-- a word that is refused writes nothing
last-quiet : (output : Form) (p : List ℕ) (x : ℕ) (e : RunError) → fault_behind (encoding output) p (x ∷ []) ≡ Some e
    → out_behind (encoding output) p (x ∷ []) ≡ []
last-quiet output p x e f = go (byte_fault (reader_of p) x) refl
  where
    go : (o : Option FileFault) → byte_fault (reader_of p) x ≡ o → out_behind (encoding output) p (x ∷ []) ≡ []
    go None q = absurd (none-some _ (sym (one-clean output p x (block_with (reader_of p) x) q refl).0 ∙ f))
    go (Some g) q = (one-fault output p x g q).1

quiet-word : (output : Form) (k : ℕ) (p m : List ℕ) (e : RunError) → length p ≡ 4 * k → length m ≡ 4
    → fault_behind (encoding output) p m ≡ Some e → out_behind (encoding output) p m ≡ []
quiet-word output k p (a ∷ b ∷ c ∷ d ∷ []) e l n f =
    let r = encoding output in
    let p₁ = p ++ a ∷ [] in
    let p₂ = p₁ ++ b ∷ [] in
    let p₃ = p₂ ++ c ∷ [] in
    let l₁ : length p₁ ≡ length p + 1 = length-append p (a ∷ []) in
    let l₂ : length p₂ ≡ length p₁ + 1 = length-append p₁ (b ∷ []) in
    let s₀ = short p a (omega (arith, l)) in
    let s₁ = short p₁ b (omega (arith, l, l₁)) in
    let s₂ = short p₂ c (omega (arith, l, l₁, l₂)) in
    let c₀ = one-clean output p a None s₀.0 s₀.1 in
    let c₁ = one-clean output p₁ b None s₁.0 s₁.1 in
    let c₂ = one-clean output p₂ c None s₂.0 s₂.1 in
    let q : fault_behind r p₃ (d ∷ []) ≡ Some e =
    sym (fault-clean r p (a ∷ []) (b ∷ c ∷ d ∷ []) c₀.0 ∙ fault-clean r p₁ (b ∷ []) (c ∷ d ∷ []) c₁.0
    ∙ fault-clean r p₂ (c ∷ []) (d ∷ []) c₂.0) ∙ f in
    behind-clean r p (a ∷ []) (b ∷ c ∷ d ∷ []) c₀.0
    ∙ ap (λ t. t ++ out_behind r p₁ (b ∷ c ∷ d ∷ [])) c₀.1
    ∙ behind-clean r p₁ (b ∷ []) (c ∷ d ∷ []) c₁.0
    ∙ ap (λ t. t ++ out_behind r p₂ (c ∷ d ∷ [])) c₁.1
    ∙ behind-clean r p₂ (c ∷ []) (d ∷ []) c₂.0
    ∙ ap (λ t. t ++ out_behind r p₃ (d ∷ [])) c₂.1
    ∙ last-quiet output p₃ d e q
quiet-word output k p [] e l n f = absurd (omega (arith, n))
quiet-word output k p (a ∷ []) e l n f = absurd (omega (arith, n))
quiet-word output k p (a ∷ b ∷ []) e l n f = absurd (omega (arith, n))
quiet-word output k p (a ∷ b ∷ c ∷ []) e l n f = absurd (omega (arith, n))
quiet-word output k p (a ∷ b ∷ c ∷ d ∷ x ∷ m) e l n f = absurd (omega (arith, n))

quiet-one : (form : Words) (output : Form) (b : List ℕ) (x : ℕ) (e : RunError)
    → fault_behind (encoding output) (read_whole form b) (read_more form b (x ∷ [])) ≡ Some e
    → out_behind (encoding output) (read_whole form b) (read_more form b (x ∷ [])) ≡ []
quiet-one form output b x e f = elim (more-one form b x) [
  | inl z ↦ ap (out_behind (encoding output) (read_whole form b)) z
  | inr n ↦
      let k = length-read form b in
      quiet-word output k.0 (read_whole form b) (read_more form b (x ∷ [])) e k.1 n f
]

-- octets write what those write that are read of them
pub through-out : (form : Words) (output : Form) (b d : List ℕ)
    → out_behind (words_reading form (encoding output)) b d
    ≡ out_behind (encoding output) (read_whole form b) (read_more form b d)
unfolding words_reading
through-out form output b [] = sym (ap (out_behind (encoding output) (read_whole form b)) (more-none form b))
through-out form output b (x ∷ d) =
    go (fault_behind r w one) refl (through-out form output (b ++ x ∷ []) d)
  where
    r : Reading
    r = encoding output

    w : List ℕ
    w = read_whole form b

    one : List ℕ
    one = read_more form b (x ∷ [])

    more : List ℕ
    more = read_more form (b ++ x ∷ []) d

    behind : List ℕ
    behind = out_behind (words_reading form r) (b ++ x ∷ []) d

    go : (o : Option RunError) → fault_behind r w one ≡ o
        → behind ≡ out_behind r (read_whole form (b ++ x ∷ [])) more
        → unless (fault_behind r w one) (out_behind r w one ++ behind) ≡ out_behind r w (read_more form b (x ∷ d))
    go None q h =
        ap (λ o. unless o (out_behind r w one ++ behind)) q
        ∙ ap (λ t. out_behind r w one ++ t) (h ∙ ap (λ p. out_behind r p more) (read-on form b (x ∷ [])))
        ∙ sym (behind-clean r w one more q) ∙ ap (out_behind r w) (sym (more-cons form b x d))
    go (Some e) q h =
        ap (λ o. unless o (out_behind r w one ++ behind)) q ∙ sym (quiet-one form output b x e q)
        ∙ sym (behind-fault r w one more e q) ∙ ap (out_behind r w) (sym (more-cons form b x d))

-- ---- a word is taken

-- what is read of a word, and what is known behind it
pub record Next (form : Words) (file : FileReader) (blocks left : ℕ) (has_begun : Bool) (left' : ℕ)
    (has_begun' : Bool) (word own : List ℕ) : Type 0 where
  pub by : (words : List ℕ) (count : ℕ) → length words ≡ 4 * count → Encodes file blocks (own_of form words)
      → AreAhead has_begun form left words
      → (own_of form (words ++ word) ≡ own_of form words ++ own) × AreAhead has_begun' form left' (words ++ word)

module _ (form : Words) (output output' : Form) (file file' : FileReader) (blocks blocks' left left' : ℕ)
    (has_begun has_begun' : Bool) (word own begun piece : List ℕ)
    (next : Next form file blocks left has_begun left' has_begun' word own) (size : length word ≡ 4)
    (parts : begun ++ piece ≡ word) where
  abbrev Old : List ℕ → Type 0
  Old = TakesWords form file blocks left has_begun begun

  read-old : (b : List ℕ) → (h : Old b) → read_whole form b ≡ own_of form h.words
  read-old b h = ap (read_whole form) h.is ∙ read-cut form h.count h.words begun h.whole h.few

  more-whole : (b : List ℕ) → (h : Old b) → length (h.words ++ word) ≡ 4 * suc h.count
  more-whole b h = let l = length-append h.words word in let k = h.whole in omega (arith, l, k, size)

  more-bytes : (b : List ℕ) → (h : Old b) → b ++ piece ≡ (h.words ++ word) ++ []
  more-bytes b h =
      ap (λ t. t ++ piece) h.is ∙ append_assoc h.words begun piece ∙ ap (λ t. h.words ++ t) parts
      ∙ sym (append-nil (h.words ++ word))

  read-of : (b : List ℕ) → Old b → Encodes file blocks (read_whole form b)
  read-of b h = subst (Encodes file blocks) (sym (read-old b h)) h.encodes

  more-of : (b : List ℕ) → Old b → read_more form b piece ≡ own
  more-of b h =
      more-is form b piece own
      (ap (read_whole form) (more-bytes b h)
      ∙ read-cut form (suc h.count) (h.words ++ word) [] (more-whole b h) (omega arith)
      ∙ (next.by h.words h.count h.whole h.encodes h.ahead).0
      ∙ ap (λ t. t ++ own) (sym (read-old b h)))

  fault-of : (b : List ℕ) → Old b → fault_behind (words_reading form (encoding output)) b piece
      ≡ fault_behind (encoding output) (read_whole form b) own
  fault-of b h = through-fault form (encoding output) b piece
      ∙ ap (fault_behind (encoding output) (read_whole form b)) (more-of b h)

  out-of : (b : List ℕ) → Old b → out_behind (words_reading form (encoding output)) b piece
      ≡ out_behind (encoding output) (read_whole form b) own
  out-of b h = through-out form output b piece
      ∙ ap (out_behind (encoding output) (read_whole form b)) (more-of b h)

  taken : (b : List ℕ) → (h : Old b) → Encodes file' blocks' (read_whole form b ++ own)
      → TakesWords form file' blocks' left' has_begun' [] (b ++ piece)
  taken b h e =
      let n = next.by h.words h.count h.whole h.encodes h.ahead in
      record {
        words = h.words ++ word;
        count = suc h.count;
        whole = more-whole b h;
        is = more-bytes b h;
        few = omega arith;
        encodes = subst (Encodes file' blocks') (ap (λ t. t ++ own) (read-old b h) ∙ sym n.0) e;
        ahead = n.1;
      }

  pub word-ran : (sink : Movement) (r : Result (Unit {0}) RunError)
      → PieceRan (encoding_state output file blocks) (encoding_state output' file' blocks') own sink r
      → PieceRan (words_state form output file blocks left has_begun begun)
      (words_state form output' file' blocks' left' has_begun' []) piece sink r
  word-ran sink (Ok u) p = (
    record {
      same = ap (words_reading form) p.0.same;
      clean = λ b h. fault-of b h ∙ p.0.clean (read_whole form b) (read-of b h);
      follows = λ b h. taken b h (p.0.follows (read_whole form b) (read-of b h));
      grew = λ b h. grew-is (sym (out-of b h)) (p.0.grew (read_whole form b) (read-of b h));
    },
    p.1,
  )
  word-ran sink (Err Write) p = (p.0, λ b h. front-is (sym (out-of b h)) (p.1 (read_whole form b) (read-of b h)))
  word-ran sink (Err Read) p = absurd p
  word-ran sink (Err TooLong) p = absurd p
  word-ran sink (Err e) p = (
    record {
      fault = λ b h. fault-of b h ∙ p.0.fault (read_whole form b) (read-of b h);
      left = λ b h. tt;
      grew = λ b h. grew-is (sym (out-of b h)) (p.0.grew (read_whole form b) (read-of b h));
    },
    p.1,
  )

-- some words may be left out where one is
pub some-left : (has_begun : Bool) (form : Words) (left octet : ℕ) → is_left_out has_begun form left octet ≡ true
    → 0 < left
some-left has_begun form zero octet e = absurd (nothing has_begun (is_within form octet) e)
  where
    nothing : (b t : Bool) → (not b && false && t) ≡ true → ⊥
    nothing true t e = cc
    nothing false t e = cc
some-left has_begun form (suc left) octet e = omega arith

-- an octet that ends no word
pub octet-fed : (form : Words) (output : Form) (file : FileReader) (blocks left : ℕ) (has_begun : Bool)
    (begun begun' : List ℕ) (x : ℕ) (t : Option (List ℕ))
    → begun' ≡ begun ++ x ∷ [] → length begun' < 4
    → Fed (words_reading form (encoding output)) (words_reading form (encoding output))
    (TakesWords form file blocks left has_begun begun) (TakesWords form file blocks left has_begun begun') t t (x ∷ [])
octet-fed form output file blocks left has_begun begun begun' x t is few = record {
  same = refl;
  clean = λ b h. through-fault form (encoding output) b (x ∷ [])
      ∙ ap (fault_behind (encoding output) (read_whole form b)) (none b h);
  follows = λ b h. record {
    words = h.words;
    count = h.count;
    whole = h.whole;
    is = bytes b h;
    few = few;
    encodes = h.encodes;
    ahead = h.ahead;
  };
  grew = λ b h. grew-is (sym (through-out form output b (x ∷ [])
      ∙ ap (out_behind (encoding output) (read_whole form b)) (none b h))) (grew-none refl);
}
  where
    bytes : (b : List ℕ) → (h : TakesWords form file blocks left has_begun begun b) → b ++ x ∷ [] ≡ h.words ++ begun'
    bytes b h = ap (λ v. v ++ x ∷ []) h.is ∙ append_assoc h.words begun (x ∷ []) ∙ ap (λ v. h.words ++ v) (sym is)

    none : (b : List ℕ) → (h : TakesWords form file blocks left has_begun begun b) → read_more form b (x ∷ []) ≡ []
    none b h =
        let old : read_whole form b ≡ own_of form h.words =
        ap (read_whole form) h.is ∙ read-cut form h.count h.words begun h.whole h.few in
        more-is form b (x ∷ []) []
        (ap (read_whole form) (bytes b h) ∙ read-cut form h.count h.words begun' h.whole few
        ∙ sym (append-nil (own_of form h.words)) ∙ ap (λ v. v ++ []) (sym old))

-- no word is begun behind one that is taken
pub none-begun : (old : InputState) (form : Words) (output : Form) (file : FileReader) (blocks left : ℕ)
    (has_begun : Bool) (begun piece : List ℕ) (sink : Movement) (r : Result (Unit {0}) RunError)
    → begun ≡ []
    → PieceRan old (words_state form output file blocks left has_begun []) piece sink r
    → PieceRan old (words_state form output file blocks left has_begun begun) piece sink r
none-begun old form output file blocks left has_begun begun piece sink r e p =
    subst (λ (v : List ℕ). PieceRan old (words_state form output file blocks left has_begun v) piece sink r) (sym e) p
