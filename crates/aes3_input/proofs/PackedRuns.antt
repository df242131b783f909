-- A run over packed cells.
use Rattle.std.proofs.Common.{◌≡◌, ℕ, ◌⊎◌, inl, inr, Bool, true, false, cond, List, [], ◌∷◌, ◌++◌, length, take, Option}
use Rattle.std.proofs.Common.{Some, None, Ok, Err, refl, sym, ap, ap₂, ◌∙◌, subst, append_assoc}
use Rattle.std.proofs.lemmas.Option.{none-some, same_Some}
use Rattle.aes3_level.specs.declared.level.Level.{Level}
use Rattle.aes3_cell.specs.declared.form.Form.TheVariants.{Packed}
use Rattle.aes3_refusals.specs.declared.run_error.RunError.{RunError}
use Rattle.aes3_refusals.specs.declared.run_error.RunError.TheVariants.{Read, Write, TooLong, BadCell, BadLength, BadCode}
use Rattle.aes3_refusals.specs.declared.run_error.RunError.TheVariants.{BadParity, Memory, BadStatusText, BadPadding}
use Rattle.aes3_refusals.specs.declared.run_error.RunError.TheVariants.{BadSample, SoundHeader, Inexact}
use Rattle.aes3_cell.specs.Packed.{IsPacked, is_packed, last_place, cells_of_packed, whole_cells}
use Rattle.aes3_cell.specs.PackedReading.{PackedReader, packed_reader_of, packed_answer, packed_end, answer_cells}
use Rattle.aes3_cell.specs.PackedReading.{end_cells}
use Rattle.aes3_cell.proofs.PackedCells.{is_packed-packs, packs-is_packed}
use Rattle.aes3_cell.proofs.PackedReads.{whole_cells-more, cells-end}
use Rattle.aes3_input.specs.Converting.{fault_behind, first_fault, out, whole}
use Rattle.aes3_input.specs.Running.{CleanEnd, Ends, IsFault, Left, Run, converted}
use Rattle.aes3_input.specs.Taking.{TakerState, Writing, behind, before_end, with_end}
use Rattle.aes3_input.specs.Forms.{packed_reading, packed_state, PackedTaken, PackedEnded}
use Rattle.aes3_input.specs.Driving.{IsCause, LeftCells, Drive, driven}
use Rattle.aes3_input.proofs.Outputs.{out-is, before-all}
use Rattle.aes3_input.proofs.Items.{before-join}
use Rattle.aes3_input.proofs.InputRuns.{Gives, run-ok, run-err}

-- no octet is a fault before the end
pub clean-behind : (w : Writing Level) (p d : List ℕ) → fault_behind (packed_reading w) p d ≡ None
unfolding packed_reading
clean-behind w p [] = refl
clean-behind w p (x ∷ d) = clean-behind w (p ++ x ∷ []) d

pub clean : (w : Writing Level) (b : List ℕ) → first_fault (packed_reading w) b ≡ None
unfolding first_fault
clean w b = clean-behind w [] b

-- where the octets end rightly, and where they don't
end-clean : (w : Writing Level) (b : List ℕ) → (packed_reading w).end_fault b ≡ None → is_packed b ≡ true
unfolding packed_reading
end-clean w b e = go (is_packed b) refl e
  where
    go : (t : Bool) → is_packed b ≡ t → cond {A = Option RunError} t None (Some (BadPadding (last_place b))) ≡ None
        → is_packed b ≡ true
    go true q h = q
    go false q h = absurd (none-some _ (sym h))

end-bad : (w : Writing Level) (b : List ℕ) (e : RunError) → (packed_reading w).end_fault b ≡ Some e
    → (is_packed b ≡ false) × (e ≡ BadPadding (last_place b))
unfolding packed_reading
end-bad w b e h = go (is_packed b) refl h
  where
    go : (t : Bool) → is_packed b ≡ t → cond {A = Option RunError} t None (Some (BadPadding (last_place b))) ≡ Some e
        → (is_packed b ≡ false) × (e ≡ BadPadding (last_place b))
    go true q h = absurd (none-some _ h)
    go false q h = (q, sym (same_Some _ _ h))

lawful : (w : Writing Level) (b : List ℕ) → (packed_reading w).end_fault b ≡ None → IsPacked b
lawful w b e = (cells_of_packed b, packs-is_packed b (end-clean w b e))

unlawful : (b : List ℕ) → is_packed b ≡ false → IsPacked b → ⊥
unlawful b e h = true-false (sym (is_packed-packs b h.0 h.1) ∙ e)
  where
    true-false : ◌≡◌ {A = Bool} true false → ⊥
    true-false q = cc

-- what the octets write is what their cells write
no-cells : whole_cells [] ≡ []
unfolding whole_cells
no-cells = refl

nothing-out : (w : Writing Level) → before_end w (whole_cells []) ≡ []
unfolding before_end
nothing-out w = ap (before_end w) no-cells

adds-octet : (w : Writing Level) (b : List ℕ) (x : ℕ)
    → (packed_reading w).adds b x ≡ behind w (whole_cells b) (answer_cells (packed_answer (packed_reader_of b)))
unfolding packed_reading
adds-octet w b x = refl

never : (w : Writing Level) (b : List ℕ) (x : ℕ) (e : RunError) → (packed_reading w).fault b x ≡ Some e → ⊥
unfolding packed_reading
never w b x e h = none-some _ h

pub out-packed : (w : Writing Level) (b : List ℕ) → out (packed_reading w) b ≡ before_end w (whole_cells b)
out-packed w b =
    out-is (packed_reading w) (λ b. before_end w (whole_cells b)) (nothing-out w)
    (λ b x h n. ap (before_end w) (whole_cells-more b x)
    ∙ before-join w (whole_cells b) (answer_cells (packed_answer (packed_reader_of b)))
    ∙ ap (λ z. before_end w (whole_cells b) ++ z) (sym (adds-octet w b x)))
    (λ b x d e h n. absurd (never w b x e n)) b

ends-packed : (w : Writing Level) (b : List ℕ)
    → (packed_reading w).ends b
    ≡ behind w (whole_cells b) (end_cells (packed_end (packed_reader_of b))) ++ w.ends (cells_of_packed b)
unfolding packed_reading
ends-packed w b = refl

whole-packed : (w : Writing Level) (b : List ℕ) → (packed_reading w).end_fault b ≡ None
    → whole (packed_reading w) b ≡ with_end w (cells_of_packed b)
unfolding whole with_end
whole-packed w b e =
    let last = end_cells (packed_end (packed_reader_of b)) in
    ap₂ (λ u v. u ++ v) (out-packed w b) (ends-packed w b)
    ∙ sym (append_assoc (before_end w (whole_cells b)) (behind w (whole_cells b) last) (w.ends (cells_of_packed b)))
    ∙ ap (λ u. u ++ w.ends (cells_of_packed b))
    (sym (before-join w (whole_cells b) last) ∙ ap (before_end w) (sym (cells-end b (end-clean w b e))))

-- nothing was taken
pub packed-starts : {packed : PackedReader} {cells : ℕ} (z : List Level → Type 0) → packed ≡ packed_reader_of []
    → cells ≡ 0 → z [] → PackedTaken packed cells z []
packed-starts z e n h = record { reader = e; count = n ∙ sym (ap length no-cells); taker = subst z (sym no-cells) h }

-- why a run was refused
bad-of : (max : ℕ) (w : Writing Level) (b : List ℕ) (ended : Bool) (e : RunError)
    → (first_fault (packed_reading w) (take max b) ≡ Some e)
    ⊎ (CleanEnd max (packed_reading w) b ended × ((packed_reading w).end_fault b ≡ Some e))
    → CleanEnd max (packed_reading w) b ended × (is_packed b ≡ false) × (e ≡ BadPadding (last_place b))
bad-of max w b ended e h = elim h [
  | inl g ↦ absurd (none-some _ (sym (clean w (take max b)) ∙ g))
  | inr g ↦ let q = end-bad w b e g.1 in (g.0, q.0, q.1)
]

packed-cause : (w : Writing Level) (max : ℕ) (b : List ℕ) (ended : Bool) (e : RunError)
    → IsFault (packed_reading w) max b ended e → IsCause Packed max b ended e
packed-cause w max b ended Read r = (tt, r.short)
packed-cause w max b ended Write r = r
packed-cause w max b ended TooLong r = (tt, r.1)
packed-cause w max b ended (BadPadding at) r =
    let q = bad-of max w b ended (BadPadding at) r in
    ((unlawful b q.1, sym (place-is q.2)), q.0.clean.short, q.0.end)
  where
    place-is : {m n : ℕ} → ◌≡◌ {A = RunError} (BadPadding m) (BadPadding n) → m ≡ n
    place-is q = cc
packed-cause w max b ended (BadCell n) r = absurd (let q = (bad-of max w b ended (BadCell n) r).2 in cc)
packed-cause w max b ended (BadLength n) r = absurd (let q = (bad-of max w b ended (BadLength n) r).2 in cc)
packed-cause w max b ended (BadCode n) r = absurd (let q = (bad-of max w b ended (BadCode n) r).2 in cc)
packed-cause w max b ended (BadParity n) r = absurd (let q = (bad-of max w b ended (BadParity n) r).2 in cc)
packed-cause w max b ended Memory r = absurd (let q = (bad-of max w b ended Memory r).2 in cc)
packed-cause w max b ended BadStatusText r = absurd (let q = (bad-of max w b ended BadStatusText r).2 in cc)
packed-cause w max b ended (BadSample n) r = absurd (let q = (bad-of max w b ended (BadSample n) r).2 in cc)
packed-cause w max b ended SoundHeader r = absurd (let q = (bad-of max w b ended SoundHeader r).2 in cc)
packed-cause w max b ended (Inexact n) r = absurd (let q = (bad-of max w b ended (Inexact n) r).2 in cc)

-- the run
packed-gives : (w : Writing Level) (y : List ℕ → Type 0) (z : List Level → Type 0)
    → Gives (converted (packed_reading w) y) (driven Packed w z)
packed-gives w y z =
    record {
      input = λ b h. lawful w b h.end_clean;
      whole = λ b h. whole-packed w b h.end_clean;
      begun
          = out-packed w;
      cause = packed-cause w;
    }

packed-left : (max : ℕ) (w : Writing Level) (packed : PackedReader) (cells : ℕ) (f : List Level → Type 0) (b : List ℕ)
    (e : RunError)
    → Left max (packed_reading w) (PackedTaken packed cells f) (λ b. f (whole_cells b)) b (Err e)
    → LeftCells max Packed f b (Err e)
packed-left max w packed cells f b Write h = tt
packed-left max w packed cells f b Read h = h.taker
packed-left max w packed cells f b TooLong h = h.taker
packed-left max w packed cells f b e h
    = subst (λ (v : List ℕ). f (whole_cells v))
    (before-all (packed_reading w) [] (take max b) (clean-behind w [] (take max b))) h

pub packed-ok : {max : ℕ} (old new : TakerState Level) {packed₀ packed : PackedReader} {cells₀ cells : ℕ}
    {ends : Ends} {n : ℕ}
    → Run max (packed_state packed₀ cells₀ old) (packed_state packed cells new) ends (Ok n)
    → Drive max Packed old.writes new.follows new.finished ends (Ok (n, cells))
packed-ok old new {cells = cells} r =
    record {
      run = run-ok (packed-gives old.writes (PackedEnded cells new.finished) new.finished)
          (λ b i h. (h.0.taker, h.1, h.0.count)) r.run;
      left = tt;
    }

pub packed-err : {max : ℕ} (old new : TakerState Level) {packed₀ packed : PackedReader} {cells₀ cells : ℕ}
    {ends : Ends} {e : RunError}
    → Run max (packed_state packed₀ cells₀ old) (packed_state packed cells new) ends (Err e)
    → Drive max Packed old.writes new.follows new.finished ends (Err e)
packed-err {max} old new {packed = packed} {cells = cells} {e = e} r =
    record {
      run = run-err (packed-gives old.writes (PackedEnded cells new.finished) new.finished) r.run;
      left = packed-left max old.writes packed cells new.follows r.run.bytes e r.left;
    }
