-- Samples behind the header of a WAV file.
use Rattle.std.proofs.Common.{◌≡◌, ℕ, List, [], ◌∷◌, ◌++◌, Bool, true, false, Option, Some, None, is_some, refl, sym, ap}
use Rattle.std.proofs.Common.{Result, Ok, Err, IfOk}
use Rattle.std.proofs.Common.{ap₂, ◌∙◌, append_assoc, append-nil, if◌then◌else◌}
use Rattle.std.proofs.lemmas.List.{append_cancel_left}
use Rattle.aes3_level.specs.declared.level.Level.{Level}
use Rattle.aes3_input.specs.Taking.{Writing, behind, before_end, with_end}
use Rattle.aes3_input.proofs.Items.{before-is, before-join}
use Rattle.aes3_frame.specs.declared.block.Channel.TheVariants.{First}
use Rattle.aes3_frame.specs.Statuses.{status_of}
use Rattle.aes3_lock.specs.declared.report.Ending.{Ending}
use Rattle.aes3_lock.specs.declared.report.Ending.TheVariants.{Whole as EndsWhole}
use Rattle.aes3_lock.specs.declared.report.Report.{Report}
use Rattle.aes3_lock.specs.declared.report.Report.TheVariants.{Whole}
use Rattle.aes3_lock.specs.Following.{LockState}
use Rattle.aes3_lock.specs.Reports.{decided, reports}
use Rattle.aes3_lock_runs.specs.Listening.{reports_in}
use Rattle.aes3_lock_runs.specs.Reporting.{decided_at_end, decided_by}
use Rattle.aes3_lock_runs.proofs.Reports.{decided-more, reports-more}
use Rattle.aes3_wave.specs.declared.header_writing.Depth.{Depth}
use Rattle.aes3_wave_runs.specs.declared.headed.Header.{Header}
use Rattle.aes3_wave_runs.specs.HeadedSamples.{IsOpened, IsQuiet, close_of, headed, named_after, open_after, opened_after}
use Rattle.aes3_wave.specs.Written.{written}
use Rattle.aes3_wave_runs.specs.Status.{rate_of_status}
use Rattle.aes3_wave_runs.specs.ToWav.{first_given, header_by, is_given, named_first, opened_by, rate_for}

-- what holds of an answer that is none of a fault, by two things that do
pub ok-two : {E P Q R : Type 0} (r : Result (Unit {0}) E) → (P → Q → R) → IfOk r (λ _. P) → IfOk r (λ _. Q)
    → IfOk r (λ _. R)
ok-two (Ok u) f p q = f p q
ok-two (Err e) f p q = tt

-- the header before a whole block
pub opened-whole : (m : Bool) (depth : Depth) (rate : Option ℕ) (k : LockState) (at : ℕ) (s : Level) (b : List (List Bool))
    {t : Bool} {o : Option Ending} {e : Ending} → t ≡ false → o ≡ Some e → e ≡ EndsWhole at s
    → reports_in k (Some (EndsWhole at s)) ≡ Whole at s b ∷ []
    → written depth (rate_for rate (rate_of_status (status_of b First))) None
    ≡ opened_after depth rate t (first_given m (reports_in k o))
opened-whole m depth rate k at s b p q w is =
    sym (ap₂ (λ t o. opened_after depth rate t (first_given m (reports_in k o))) p (q ∙ ap Some w)
    ∙ ap (λ r. opened_after depth rate false (first_given m r)) is)

-- the first of two
abbrev first_or : Option Report → Option Report → Option Report
first_or (Some x) o = Some x
first_or None o = o

first-append : (m : Bool) (r y : List Report) → first_given m (r ++ y) ≡ first_or (first_given m r) (first_given m y)
first-append m [] y = refl
first-append m (x ∷ r) y = go (is_given m x) (first-append m r y)
  where
    go : (t : Bool) → first_given m (r ++ y) ≡ first_or (first_given m r) (first_given m y)
        → ◌≡◌ {A = Option Report} (if t then Some x else first_given m (r ++ y))
        (first_or (if t then Some x else first_given m r) (first_given m y))
    go true e = refl
    go false e = e

-- one header, whether more reports give its block or those before
pub opened-next : (m : Bool) (k k' : Header) (r y : List Report) {t : Bool} → t ≡ m
    → k'.is_written ≡ open_after k.is_written (first_given t y)
    → k'.named ≡ named_after k.is_written k.named (first_given t y) → IsOpened m k r → IsOpened m k' (r ++ y)
opened-next m k k' r y is p q h =
    let a = first_given m r in
    let b = first_given m y in
    let all : first_given m (r ++ y) ≡ first_or a b =
    first-append m r y in
    record {
      is = p ∙ ap (λ t. open_after k.is_written (first_given t y)) is ∙ ap (λ t. open_after t b) h.is ∙ written a b ∙ ap is_some (sym all);
      first = q ∙ ap (λ t. named_after k.is_written k.named (first_given t y)) is ∙ ap₂ (λ t o. named_after t o b) h.is h.first ∙ named a b ∙ ap named_first (sym all);
    }
  where
    written : (a b : Option Report) → open_after (is_some a) b ≡ is_some (first_or a b)
    written (Some x) b = refl
    written None b = refl

    named : (a b : Option Report) → named_after (is_some a) (named_first a) b ≡ named_first (first_or a b)
    named (Some x) b = refl
    named None (Some y) = refl
    named None None = refl

-- what the end writes of it
pub close-is : {d d' : Depth} {r r' : Option ℕ} {t t' : Bool} → d' ≡ d → r' ≡ r → t' ≡ t
    → close_of d' r' t' ≡ close_of d r t
close-is {d} {d'} {r} {r'} {t} {t'} p q e =
    ap₂ (λ x y. close_of x y t') p q ∙ ap (close_of d r) e

module _ (m : Bool) (depth : Depth) (rate : Option ℕ) where
  -- what has left of the header
  after-all : (a b : Option Report)
      → opened_after depth rate (is_some a) b ≡ opened_after depth rate (is_some a) (first_or a b)
  after-all (Some x) b = refl
  after-all None b = refl

  -- samples p, behind which come q: nothing but the header may come before the first block
  join : (a b : Option Report) (p q : List ℕ) → (a ≡ None → p ≡ [])
      → opened_by depth rate (first_or a b) ++ (p ++ q)
      ≡ (opened_by depth rate a ++ p) ++ (opened_after depth rate (is_some a) (first_or a b) ++ q)
  join (Some x) b p q none = sym (append_assoc (opened_by depth rate (Some x)) p q)
  join None b p q none =
      ap (λ v. opened_by depth rate b ++ (v ++ q)) (none refl)
      ∙ ap (λ v. v ++ (opened_by depth rate b ++ q)) (sym (none refl))

  join-end : (a b : Option Report) (p z : List ℕ) → (a ≡ None → p ≡ [])
      → (opened_by depth rate a ++ p)
      ++ (opened_after depth rate (is_some a) (first_or a b) ++ (close_of depth rate (is_some (first_or a b)) ++ z))
      ≡ header_by depth rate (first_or a b) ++ (p ++ z)
  join-end (Some x) b p z none = append_assoc (opened_by depth rate (Some x)) p z
  join-end None (Some x) p z none =
      ap (λ v. v ++ (opened_by depth rate (Some x) ++ z)) (none refl)
      ∙ ap (λ v. opened_by depth rate (Some x) ++ (v ++ z)) (sym (none refl))
  join-end None None p z none =
      ap (λ v. v ++ (header_by depth rate None ++ z)) (none refl)
      ∙ ap (λ v. header_by depth rate None ++ (v ++ z)) (sym (none refl))

  module _ (w : Writing Level) (quiet : IsQuiet m w) where
    abbrev begun : List Level → List ℕ
    begun c = opened_by depth rate (first_given m (decided c)) ++ before_end w c

    -- with more cells
    begun-more : (c d : List Level) (y : List Report) → decided (c ++ d) ≡ decided c ++ y
        → begun (c ++ d) ≡ begun c ++ (opened_after depth rate (is_some (first_given m (decided c)))
        (first_given m (decided (c ++ d))) ++ behind w c d)
    begun-more c d y e =
        let a = first_given m (decided c) in
        let b = first_given m y in
        let all : first_given m (decided (c ++ d)) ≡ first_or a b =
        ap (first_given m) e ∙ first-append m (decided c) y in
        ap₂ (λ o v. opened_by depth rate o ++ v) all (before-join w c d)
        ∙ join a b (before_end w c) (behind w c d) (quiet c)
        ∙ ap (λ o. begun c ++ (opened_after depth rate (is_some a) o ++ behind w c d)) (sym all)

    none-begun : begun [] ≡ []
    unfolding decided before_end
    none-begun = refl

    one-more : (c : List Level) (l : Level) → begun (c ++ l ∷ []) ≡ begun c ++ (headed m depth rate w).adds c l
    unfolding headed
    one-more c l =
        begun-more c (l ∷ []) (decided_by c l) (decided-more c l)
        ∙ ap (λ v. begun c ++ (opened_after depth rate (is_some (first_given m (decided c)))
        (first_given m (decided (c ++ l ∷ []))) ++ v)) (append-nil (w.adds c l))

    pub before-headed : (c : List Level) → before_end (headed m depth rate w) c ≡ begun c
    before-headed c = before-is (headed m depth rate w) begun none-begun one-more c

    pub behind-headed : (c d : List Level) (y : List Report) → decided (c ++ d) ≡ decided c ++ y
        → opened_after depth rate (is_some (first_given m (decided c))) (first_given m y) ++ behind w c d
        ≡ behind (headed m depth rate w) c d
    behind-headed c d y e =
        let h = headed m depth rate w in
        let a = first_given m (decided c) in
        let b = first_given m y in
        let all : first_given m (decided (c ++ d)) ≡ first_or a b =
        ap (first_given m) e ∙ first-append m (decided c) y in
        let o = opened_after depth rate (is_some a) (first_given m (decided (c ++ d))) in
        ap (λ v. v ++ behind w c d) (after-all a b ∙ ap (opened_after depth rate (is_some a)) (sym all))
        ∙ append_cancel_left (begun c) (o ++ behind w c d) (behind h c d)
        (sym (begun-more c d y e) ∙ sym (before-headed (c ++ d)) ∙ before-join h c d
        ∙ ap (λ v. v ++ behind h c d) (before-headed c))

    -- with the end
    pub with-headed : (c : List Level)
        → with_end (headed m depth rate w) c ≡ header_by depth rate (first_given m (reports c)) ++ with_end w c
    unfolding headed with_end
    with-headed c =
        let a = first_given m (decided c) in
        let b = first_given m (decided_at_end c) in
        let all : first_given m (reports c) ≡ first_or a b =
        ap (first_given m) (reports-more c) ∙ first-append m (decided c) (decided_at_end c) in
        let z = w.ends c in
        ap₂ (λ v o. v ++ (opened_after depth rate (is_some a) o ++ (close_of depth rate (is_some o) ++ z)))
        (before-headed c) all
        ∙ join-end a b (before_end w c) z (quiet c)
        ∙ ap (λ o. header_by depth rate o ++ (before_end w c ++ z)) (sym all)

    -- what the end writes, of which y are the reports
    pub ends-headed : (c : List Level) (y : List Report) → reports c ≡ decided c ++ y
        → opened_after depth rate (is_some (first_given m (decided c))) (first_given m y)
        ++ (close_of depth rate (open_after (is_some (first_given m (decided c))) (first_given m y)) ++ w.ends c)
        ≡ (headed m depth rate w).ends c
    unfolding headed
    ends-headed c y e =
        let a = first_given m (decided c) in
        let b = first_given m y in
        let all : first_given m (reports c) ≡ first_or a b =
        ap (first_given m) e ∙ first-append m (decided c) y in
        ap₂ (λ u t. u ++ (close_of depth rate t ++ w.ends c)) (after-all a b) (written a b)
        ∙ ap (λ o. opened_after depth rate (is_some a) o ++ (close_of depth rate (is_some o) ++ w.ends c)) (sym all)
      where
        written : (a b : Option Report) → open_after (is_some a) b ≡ is_some (first_or a b)
        written (Some x) b = refl
        written None b = refl

-- before the first cell
pub opened-none : (m : Bool) (k : Header) → k.is_written ≡ false → k.named ≡ None → IsOpened m k (decided [])
unfolding decided
opened-none m k p q = record { is = p; first = q }
