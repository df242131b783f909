-- A run over cell text.
use Rattle.std.proofs.Common.{◌≡◌, ℕ, ◌+◌, ◌<◌, ◌⊎◌, inl, inr, Bool, true, false, cond, List, [], ◌∷◌, ◌++◌, length}
use Rattle.std.proofs.Common.{take, Option, Some, None, Ok, Err, refl, sym, ap, ◌∙◌, subst, arith, append_assoc}
use Rattle.std.proofs.Common.{append-nil, length-append}
use Rattle.std.proofs.lemmas.Option.{none-some, same_Some}
use Rattle.aes3_level.specs.declared.level.Level.{Level}
use Rattle.aes3_cell.specs.declared.form.Form.TheVariants.{Text}
use Rattle.aes3_refusals.specs.declared.run_error.RunError.{RunError}
use Rattle.aes3_refusals.specs.declared.run_error.RunError.TheVariants.{Read, Write, TooLong, BadCell, BadLength, BadCode}
use Rattle.aes3_refusals.specs.declared.run_error.RunError.TheVariants.{BadParity, Memory, BadStatusText, BadPadding}
use Rattle.aes3_refusals.specs.declared.run_error.RunError.TheVariants.{BadSample, SoundHeader, Inexact}
use Rattle.aes3_cell.specs.CellText.{is_good_byte, byte_cells, good_bytes, good, cells_of_text, IsCellText}
use Rattle.aes3_cell.specs.TextReading.{TextReader, text_reader_of}
use Rattle.aes3_cell.proofs.CellTexts.{good-join, good-bad, text-more, cells-more, cells-bad}
use Rattle.aes3_input.specs.Converting.{or_else, unless, fault_behind, before_fault, first_fault, out, whole}
use Rattle.aes3_input.specs.Running.{CleanEnd, Ends, IsFault, Left, Run, converted}
use Rattle.aes3_input.specs.Taking.{TakerState, Writing, behind, before_end, with_end}
use Rattle.aes3_input.specs.Forms.{text_reading, text_state, TextTaken}
use Rattle.aes3_input.specs.Driving.{IsCause, LeftCells, Drive, driven}
use Rattle.aes3_input.proofs.Outputs.{out-is}
use Rattle.aes3_input.proofs.Items.{before-join}
use Rattle.aes3_input.proofs.InputRuns.{Gives, run-ok, run-err}

text-none : IsCellText []
unfolding good_bytes
text-none = record { is = refl }

text-one : (x : ℕ) → is_good_byte x ≡ true → IsCellText (x ∷ [])
text-one x e = text-more [] x text-none e

byte-fault : (w : Writing Level) (b : List ℕ) (x : ℕ) (t : Bool) → is_good_byte x ≡ t
    → (text_reading w).fault b x ≡ cond t None (Some (BadCell (length b)))
unfolding text_reading
byte-fault w b x t e = ap (λ p. cond {A = Option RunError} p None (Some (BadCell (length b)))) e

-- no fault is no bad byte, and the first fault is the first bad byte
clean-behind : (w : Writing Level) (p d : List ℕ) → fault_behind (text_reading w) p d ≡ None → IsCellText d
clean-behind w p [] h = text-none
clean-behind w p (x ∷ d) h = go (is_good_byte x) refl (clean-behind w (p ++ x ∷ []) d)
  where
    go : (t : Bool) → is_good_byte x ≡ t → (fault_behind (text_reading w) (p ++ x ∷ []) d ≡ None → IsCellText d)
        → IsCellText (x ∷ d)
    go true e next =
        let n = next (ap (λ o. or_else o (fault_behind (text_reading w) (p ++ x ∷ []) d))
        (sym (byte-fault w p x true e)) ∙ h) in
        record { is = let g = good-join (x ∷ []) d (text-one x e) in let i = n.is in omega arith }
    go false e next = absurd (none-some _
        (sym h ∙ ap (λ o. or_else o (fault_behind (text_reading w) (p ++ x ∷ []) d)) (byte-fault w p x false e)))

bad-behind : (w : Writing Level) (p d : List ℕ) (f : RunError) → fault_behind (text_reading w) p d ≡ Some f
    → (f ≡ BadCell (length p + good d)) × (good d < length d)
bad-behind w p [] f h = absurd cc
bad-behind w p (x ∷ d) f h = go (is_good_byte x) refl (bad-behind w (p ++ x ∷ []) d f)
  where
    go : (t : Bool) → is_good_byte x ≡ t
        → (fault_behind (text_reading w) (p ++ x ∷ []) d ≡ Some f
        → (f ≡ BadCell (length (p ++ x ∷ []) + good d)) × (good d < length d))
        → (f ≡ BadCell (length p + good (x ∷ d))) × (good (x ∷ d) < length (x ∷ d))
    go true e next =
        let n = next (ap (λ o. or_else o (fault_behind (text_reading w) (p ++ x ∷ []) d))
        (sym (byte-fault w p x true e)) ∙ h) in
        let g : good (x ∷ d) ≡ 1 + good d = good-join (x ∷ []) d (text-one x e) in
        let l = length-append p (x ∷ []) in
        let s : length (p ++ x ∷ []) + good d ≡ length p + good (x ∷ d) = omega arith in
        let k = n.1 in
        (n.0 ∙ ap BadCell s, omega arith)
    go false e next =
        let g : good (x ∷ d) ≡ 0 = good-bad [] x d text-none e in
        let s : length p ≡ length p + good (x ∷ d) = omega arith in (
          same_Some _ _ (sym h ∙ ap (λ o. or_else o (fault_behind (text_reading w) (p ++ x ∷ []) d))
              (byte-fault w p x false e)) ∙ ap BadCell s,
          omega arith,
        )

pub text-clean : (w : Writing Level) (p d : List ℕ) → IsCellText d → fault_behind (text_reading w) p d ≡ None
text-clean w p d g = go (fault_behind (text_reading w) p d) refl
  where
    go : (o : Option RunError) → fault_behind (text_reading w) p d ≡ o → o ≡ None
    go None e = refl
    go (Some f) e = absurd (let b = (bad-behind w p d f e).1 in let i = g.is in omega arith)

clean-text : (w : Writing Level) (b : List ℕ) → first_fault (text_reading w) b ≡ None → IsCellText b
unfolding first_fault
clean-text w b h = clean-behind w [] b h

bad-text : (w : Writing Level) (b : List ℕ) (f : RunError) → first_fault (text_reading w) b ≡ Some f
    → (f ≡ BadCell (good b)) × (good b < length b)
unfolding first_fault
bad-text w b f h = let q = bad-behind w [] b f h in (q.0 ∙ ap BadCell none-before, q.1)
  where
    none-before : 0 + good b ≡ good b
    none-before = omega arith

no-cells : cells_of_text [] ≡ []
unfolding cells_of_text good_bytes
no-cells = refl

-- what the text writes is what its cells write
nothing-out : (w : Writing Level) → before_end w (cells_of_text []) ≡ []
unfolding before_end
nothing-out w = ap (before_end w) no-cells

adds-text : (w : Writing Level) (b : List ℕ) (x : ℕ)
    → (text_reading w).adds b x ≡ behind w (cells_of_text b) (byte_cells x)
unfolding text_reading
adds-text w b x = refl

pub out-text : (w : Writing Level) (b : List ℕ) → out (text_reading w) b ≡ before_end w (cells_of_text b)
out-text w b =
    out-is (text_reading w) (λ b. before_end w (cells_of_text b)) (nothing-out w)
    (λ b x h n. more b x (is_good_byte x) refl (clean-text w b h) n)
    (λ b x d e h n. stays b x d e (is_good_byte x) refl (clean-text w b h) n) b
  where
    more : (b : List ℕ) (x : ℕ) (t : Bool) → is_good_byte x ≡ t → IsCellText b → (text_reading w).fault b x ≡ None
        → before_end w (cells_of_text (b ++ x ∷ [])) ≡ before_end w (cells_of_text b) ++ (text_reading w).adds b x
    more b x true e g n = ap (before_end w) (cells-more b x g) ∙ before-join w (cells_of_text b) (byte_cells x)
        ∙ ap (λ z. before_end w (cells_of_text b) ++ z) (sym (adds-text w b x))
    more b x false e g n = absurd (none-some _ (sym n ∙ byte-fault w b x false e))

    stays : (b : List ℕ) (x : ℕ) (d : List ℕ) (f : RunError) (t : Bool) → is_good_byte x ≡ t → IsCellText b
        → (text_reading w).fault b x ≡ Some f
        → before_end w (cells_of_text (b ++ x ∷ d)) ≡ before_end w (cells_of_text b)
    stays b x d f true e g n = absurd (none-some _ (sym (byte-fault w b x true e) ∙ n))
    stays b x d f false e g n = ap (before_end w) (cells-bad b x d g e)

whole-text : (w : Writing Level) (b : List ℕ) → whole (text_reading w) b ≡ with_end w (cells_of_text b)
unfolding whole with_end text_reading
whole-text w b = ap (λ o. o ++ w.ends (cells_of_text b)) (out-text w b)

-- the cells before the first bad byte are those of all bytes
cells-left : (w : Writing Level) (b : List ℕ) → cells_of_text (before_fault (text_reading w) [] b) ≡ cells_of_text b
cells-left w b = go [] b text-none
  where
    go : (p d : List ℕ) → IsCellText p → cells_of_text (p ++ before_fault (text_reading w) p d) ≡ cells_of_text (p ++ d)
    go p [] g = refl
    go p (x ∷ d) g = step (is_good_byte x) refl (λ k. go (p ++ x ∷ []) d k)
      where
        step : (t : Bool) → is_good_byte x ≡ t
            → (IsCellText (p ++ x ∷ [])
            → cells_of_text ((p ++ x ∷ []) ++ before_fault (text_reading w) (p ++ x ∷ []) d)
            ≡ cells_of_text ((p ++ x ∷ []) ++ d))
            → cells_of_text (p ++ before_fault (text_reading w) p (x ∷ d)) ≡ cells_of_text (p ++ x ∷ d)
        step true e next =
            ap (λ o. cells_of_text (p ++ unless o (x ∷ before_fault (text_reading w) (p ++ x ∷ []) d)))
            (byte-fault w p x true e)
            ∙ ap cells_of_text (sym (append_assoc p (x ∷ []) (before_fault (text_reading w) (p ++ x ∷ []) d)))
            ∙ next (text-more p x g e)
            ∙ ap cells_of_text (append_assoc p (x ∷ []) d)
        step false e next =
            ap (λ o. cells_of_text (p ++ unless o (x ∷ before_fault (text_reading w) (p ++ x ∷ []) d)))
            (byte-fault w p x false e)
            ∙ ap cells_of_text (append-nil p) ∙ sym (cells-bad p x d g e)

text_reader-new : {r : TextReader} → r.seen ≡ 0 → r ≡ text_reader_of []
unfolding text_reader_of
text_reader-new {r} e = ap (λ n. record { seen = n }) e

-- nothing was taken
pub starts : {text : TextReader} {cells : ℕ} (z : List Level → Type 0) → text.seen ≡ 0 → cells ≡ 0 → z []
    → TextTaken text cells z []
starts {text} {cells} z e n h =
    record {
      reader = text_reader-new e;
      lawful = text-none;
      count = n ∙ sym (ap length no-cells);
      taker
          = subst z (sym no-cells) h;
    }

-- why a run was refused
bad-of : (max : ℕ) (w : Writing Level) (b : List ℕ) (ended : Bool) (e : RunError)
    → (first_fault (text_reading w) (take max b) ≡ Some e)
    ⊎ (CleanEnd max (text_reading w) b ended × ((text_reading w).end_fault b ≡ Some e))
    → (e ≡ BadCell (good (take max b))) × (good (take max b) < length (take max b))
unfolding text_reading
bad-of max w b ended e h = elim h [
  | inl g ↦ bad-text w (take max b) e g
  | inr g ↦ absurd (none-some _ g.1)
]

text-cause : (w : Writing Level) (max : ℕ) (b : List ℕ) (ended : Bool) (e : RunError)
    → IsFault (text_reading w) max b ended e → IsCause Text max b ended e
text-cause w max b ended Read r = (clean-text w b r.clean, r.short)
text-cause w max b ended Write r = r
text-cause w max b ended TooLong r = (clean-text w (take max b) r.0.clean, r.1)
text-cause w max b ended (BadCell at) r =
    let q = bad-of max w b ended (BadCell at) r in
    let k = q.1 in
    let s : at ≡ good (take max b) = place-is q.0 in
    (sym s, omega arith)
  where
    place-is : {m n : ℕ} → ◌≡◌ {A = RunError} (BadCell m) (BadCell n) → m ≡ n
    place-is q = cc
text-cause w max b ended (BadLength n) r = absurd (let q = (bad-of max w b ended (BadLength n) r).0 in cc)
text-cause w max b ended (BadCode n) r = absurd (let q = (bad-of max w b ended (BadCode n) r).0 in cc)
text-cause w max b ended (BadParity n) r = absurd (let q = (bad-of max w b ended (BadParity n) r).0 in cc)
text-cause w max b ended Memory r = absurd (let q = (bad-of max w b ended Memory r).0 in cc)
text-cause w max b ended BadStatusText r = absurd (let q = (bad-of max w b ended BadStatusText r).0 in cc)
text-cause w max b ended (BadPadding n) r = absurd (let q = (bad-of max w b ended (BadPadding n) r).0 in cc)
text-cause w max b ended (BadSample n) r = absurd (let q = (bad-of max w b ended (BadSample n) r).0 in cc)
text-cause w max b ended SoundHeader r = absurd (let q = (bad-of max w b ended SoundHeader r).0 in cc)
text-cause w max b ended (Inexact n) r = absurd (let q = (bad-of max w b ended (Inexact n) r).0 in cc)

-- the run
text-gives : (w : Writing Level) (y : List ℕ → Type 0) (z : List Level → Type 0)
    → Gives (converted (text_reading w) y) (driven Text w z)
text-gives w y z = record {
  input = λ b h. clean-text w b h.clean;
  whole = λ b h. whole-text w b;
  begun
      = out-text w;
  cause = text-cause w;
}

text-left : (max : ℕ) (w : Writing Level) (text : TextReader) (cells : ℕ) (f : List Level → Type 0) (b : List ℕ)
    (e : RunError)
    → Left max (text_reading w) (TextTaken text cells f) (λ b. f (cells_of_text b)) b (Err e)
    → LeftCells max Text f b (Err e)
text-left max w text cells f b Write h = tt
text-left max w text cells f b Read h = h.taker
text-left max w text cells f b TooLong h = h.taker
text-left max w text cells f b e h = subst f (cells-left w (take max b)) h

pub text-ok : {max : ℕ} (old new : TakerState Level) {text₀ text : TextReader} {cells₀ cells : ℕ} {ends : Ends} {n : ℕ}
    → Run max (text_state text₀ cells₀ old) (text_state text cells new) ends (Ok n)
    → Drive max Text old.writes new.follows new.finished ends (Ok (n, cells))
text-ok old new {text = text} {cells = cells} r =
    record {
      run = run-ok (text-gives old.writes (TextTaken text cells new.finished) new.finished)
          (λ b i h. (h.0.taker, h.1, h.0.count)) r.run;
      left = tt;
    }

pub text-err : {max : ℕ} (old new : TakerState Level) {text₀ text : TextReader} {cells₀ cells : ℕ} {ends : Ends}
    {e : RunError}
    → Run max (text_state text₀ cells₀ old) (text_state text cells new) ends (Err e)
    → Drive max Text old.writes new.follows new.finished ends (Err e)
text-err {max} old new {text = text} {cells = cells} {e = e} r =
    record {
      run = run-err (text-gives old.writes (TextTaken text cells new.finished) new.finished) r.run;
      left = text-left max old.writes text cells new.follows r.run.bytes e r.left;
    }
