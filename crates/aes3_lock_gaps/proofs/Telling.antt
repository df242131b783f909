-- What is told next of the account of cells.
use Rattle.std.proofs.Common.{◌≡◌, ℕ, ◌+◌, ◌-◌, ◌<◌, ◌≤◌, ◌^◌, ◌⊎◌, inl, inr, Bool, true, false, ltb, List, [], ◌∷◌}
use Rattle.std.proofs.Common.{◌++◌, Option, None, Some, length, refl, sym, ap, ap₂, ◌∙◌, subst, arith, append-nil}
use Rattle.std.proofs.Common.{append_assoc, length-append}
use Rattle.std.proofs.lemmas.Bool.{cases_lt}
use Rattle.std.proofs.lemmas.List.{append_cancel_left}
use Rattle.aes3_level.specs.declared.level.Level.{Level}
use Rattle.aes3_frame.specs.Blocks.{block_len}
use Rattle.aes3_lock.specs.declared.report.Report.{Report}
use Rattle.aes3_lock.specs.declared.report.Report.TheVariants.{Whole, Marked, Fault, Unfinished}
use Rattle.aes3_lock.specs.Remains.{place_of}
use Rattle.aes3_lock.specs.Reports.{decided, reports, wholes}
use Rattle.aes3_lock.proofs.AllStanding.{wholes-append}
use Rattle.aes3_lock.proofs.ReportPlaces.{UpTo, near-reports}
use Rattle.aes3_lock_gaps.specs.declared.account.Account.{Account}
use Rattle.aes3_lock_gaps.specs.declared.gap.Due.{Due}
use Rattle.aes3_lock_gaps.specs.declared.gap.Gap.{Gap}
use Rattle.aes3_lock_gaps.specs.Gaps.{Entry, reported, kind, gaps_before, behind_report, account, begun_account}
use Rattle.aes3_lock_gaps.specs.Gaps.{account_from, reached_from}
use Rattle.aes3_lock_gaps.specs.Told.{ComesNext, HasBegun, Tells, behind_entries, behind_entry, due_before, due_gaps}
use Rattle.aes3_lock_gaps.specs.Told.{gap_entry, reports_in}
use Rattle.aes3_lock_gaps.proofs.BegunAccounts.{account-stands}
use Rattle.aes3_lock_gaps.proofs.NextGaps.{due-next, full-none, kind-quiet}
use Rattle.aes3_lock_gaps.proofs.ToldFronts.{Left, left_from, left-behind, in-append, behind-append, compare}

-- the gaps that are due at the end, and those of cells that any can follow
abbrev pub at_end : List Level → Due
at_end c = record { to = length c; short = Some false }

abbrev pub while_open : List Level → Due
while_open c = record { to = length c - block_len; short = None }

pub due-is : (d u : Due) → d.to ≡ u.to → d.short ≡ u.short → d ≡ u
due-is d u a b = ap₂ {C = Due} (λ (t : ℕ) (s : Option Bool). record { to = t; short = s }) a b

account-left : (c : List Level) → account c ≡ left_from 0 0 (reports c) (at_end c)
unfolding account
account-left c = refl

begun-left : (c : List Level) → begun_account c ≡ left_from 0 0 (decided c) (while_open c)
unfolding begun_account
begun-left c = refl

left-of : {k : Account} {c : List Level} {e : List Entry} (t : Tells k c e) → Left 0 0 (reports c) (at_end c) e t.more
left-of {k} {c} {e} t = left-behind 0 0 (reports c) (at_end c) e t.more (sym (account-left c) ∙ t.begins)

count-is : (e : List Entry) → 0 + length (wholes (reports_in e)) ≡ length (wholes (reports_in e))
count-is e = omega arith

more-begins : (a e more rest : List Entry) (y : Entry) → a ≡ e ++ more → more ≡ y ∷ rest → a ≡ (e ++ y ∷ []) ++ rest
more-begins a e more rest y h g = h ∙ ap (λ z. e ++ z) g ∙ sym (append_assoc e (y ∷ []) rest)

pub tells-gap : {k : Account} (k' : Account) {c : List Level} {e : List Entry} (t : Tells k c e) (g : Gap)
    (rest : List Entry)
    → t.more ≡ gap_entry g ∷ rest → k'.place ≡ behind_entry k.place (gap_entry g) → k'.found ≡ k.found
    → Tells k' c (e ++ gap_entry g ∷ [])
tells-gap {k} k' {c} {e} t g rest m p f = record {
  place_is = p ∙ ap (λ q. behind_entry q (gap_entry g)) t.place_is ∙ sym (behind-append 0 e (gap_entry g ∷ []));
  found_is = f ∙ t.found_is
      ∙ ap (λ r. ltb 0 (length (wholes r)))
      (sym (in-append e (gap_entry g ∷ []) ∙ ap (λ z. reports_in e ++ z) (kind-quiet g.counts g.at g.cells)
      ∙ append-nil (reports_in e)));
  few = t.few;
  more = rest;
  begins = more-begins (account c) e t.more rest (gap_entry g) t.begins m;
}

-- before a report
before-due : (n p : ℕ) (x : Report) → gaps_before n p x ≡ due_gaps p (due_before (ltb 0 n) x)
before-due n p (Whole at s b) = refl
before-due n p (Marked at s wrong) = refl
before-due n p (Fault at cell why) = refl
before-due n p (Unfinished at cells) = refl

record Before (k : Account) (c : List Level) (e : List Entry) (x : Report) (more : List Entry) : Type 0 where
  rest : List Entry
  is : more ≡ due_gaps k.place (due_before k.found x) ++ reported x ∷ rest

before : {k : Account} {c : List Level} {e : List Entry} (x : Report) (t : Tells k c e) → ComesNext c e x
    → Before k c e x t.more
before {k} {c} {e} x t (r, h) =
    let l = left-of t in
    let n = length (wholes (reports_in e)) in
    let q : l.rest ≡ x ∷ r = append_cancel_left (reports_in e) l.rest (x ∷ r) (sym l.told ∙ h) in
    let rest = left_from (n + length (wholes (x ∷ []))) (behind_report k.place x) r (at_end c) in
    record {
      rest = rest;
      is = l.is ∙ ap₂ (λ m s. left_from m (behind_entries 0 e) s (at_end c)) (count-is e) q
          ∙ ap (λ p. left_from n p (x ∷ r) (at_end c)) (sym t.place_is)
          ∙ append_assoc (gaps_before n k.place x) _ _
          ∙ ap (λ z. z ++ reported x ∷ rest) (before-due n k.place x
          ∙ ap (λ b. due_gaps k.place (due_before b x)) (sym t.found_is));
    }

pub gap-before : {k : Account} (k' : Account) {c : List Level} {e : List Entry} (x : Report) (d : Due) (g : Gap)
    → d ≡ due_before k.found x → due_gaps k.place d ≡ gap_entry g ∷ due_gaps k'.place d
    → k'.place ≡ behind_entry k.place (gap_entry g) → k'.found ≡ k.found
    → Tells k c e → ComesNext c e x → Tells k' c (e ++ gap_entry g ∷ [])
gap-before {k} k' {c} {e} x d g i h p f t next =
    let b = before x t next in
    tells-gap k' t g (due_gaps k'.place d ++ reported x ∷ b.rest)
    (b.is ∙ ap (λ z. z ++ reported x ∷ b.rest) (ap (due_gaps k.place) (sym i) ∙ h)) p f

pub upto-next : (m : ℕ) (a r : List Report) (x : Report) → UpTo m (a ++ x ∷ r) → place_of x ≤ m
upto-next m [] r x u = u.0
upto-next m (y ∷ a) r x u = upto-next m a r x u.1

pub report-near : {k : Account} {c : List Level} {e : List Entry} (x : Report) → Tells k c e → ComesNext c e x
    → place_of x ≤ 2 ^ 43
report-near {k} {c} {e} x t (r, h) =
    let u = upto-next (length c) (reports_in e) r x (subst (UpTo (length c)) h (near-reports c)) in
    let f = t.few in
    omega arith

pub report-behind : {k : Account} (k' : Account) {c : List Level} {e : List Entry} (x : Report) (d : Due)
    → d ≡ due_before k.found x → due_gaps k.place d ≡ []
    → (place_of x ≤ 2 ^ 43 → k'.place ≡ behind_entry k.place (reported x))
    → ((n : ℕ) → k.found ≡ ltb 0 n → k'.found ≡ ltb 0 (n + length (wholes (x ∷ []))))
    → Tells k c e → ComesNext c e x → Tells k' c (e ++ reported x ∷ [])
report-behind {k} k' {c} {e} x d i h p f t next =
    let b = before x t next in
    let n = length (wholes (reports_in e)) in
    let a = ap (λ r. length (wholes r)) (in-append e (reported x ∷ [])) in
    let w = ap length (wholes-append (reports_in e) (x ∷ [])) in
    let l = length-append (wholes (reports_in e)) (wholes (x ∷ [])) in
    record {
      place_is = p (report-near x t next) ∙ ap (λ q. behind_entry q (reported x)) t.place_is
          ∙ sym (behind-append 0 e (reported x ∷ []));
      found_is = f n t.found_is ∙ ap (ltb 0) (let q : n + length (wholes (x ∷ []))
          ≡ length (wholes (reports_in (e ++ reported x ∷ []))) = omega arith in q);
      few = t.few;
      more = b.rest;
      begins = more-begins (account c) e t.more b.rest (reported x) t.begins
          (b.is ∙ ap (λ z. z ++ reported x ∷ b.rest) (ap (due_gaps k.place) (sym i) ∙ h));
    }

-- at the end
at-end : {k : Account} {c : List Level} {e : List Entry} (t : Tells k c e) → reports_in e ≡ reports c
    → t.more ≡ due_gaps k.place (at_end c)
at-end {k} {c} {e} t q =
    let l = left-of t in
    let n = length (wholes (reports_in e)) in
    let z : l.rest ≡ [] = append_cancel_left (reports_in e) l.rest []
    (sym l.told ∙ sym q ∙ sym (append-nil (reports_in e))) in
    l.is ∙ ap₂ (λ p r. left_from (0 + n) p r (at_end c)) (sym t.place_is) z

pub gap-at-end : {k : Account} (k' : Account) {c : List Level} {e : List Entry} (d : Due) (g : Gap)
    → d ≡ at_end c → due_gaps k.place d ≡ gap_entry g ∷ due_gaps k'.place d
    → k'.place ≡ behind_entry k.place (gap_entry g) → k'.found ≡ k.found
    → Tells k c e → reports_in e ≡ reports c → Tells k' c (e ++ gap_entry g ∷ [])
gap-at-end {k} k' {c} {e} d g i h p f t q =
    tells-gap k' t g (due_gaps k'.place d) (at-end t q ∙ ap (due_gaps k.place) (sym i) ∙ h) p f

pub all-at-end : {k : Account} {c : List Level} {e : List Entry} (d : Due) → d ≡ at_end c → due_gaps k.place d ≡ []
    → Tells k c e → reports_in e ≡ reports c → e ≡ account c
all-at-end {k} {c} {e} d i h t q =
    sym (t.begins ∙ ap (λ z. e ++ z) (at-end t q ∙ ap (due_gaps k.place) (sym i) ∙ h) ∙ append-nil e)

-- while cells can follow
none-left : (n p : ℕ) (r : List Report) (d : Due) → [] ≡ left_from n p r d → (r ≡ []) × (due_gaps p d ≡ [])
none-left n p [] d h = (refl, sym h)
none-left n p (x ∷ r) d h = go (gaps_before n p x) h
  where
    rest : List Entry
    rest = account_from (n + length (wholes (x ∷ []))) (behind_report p x) r

    due : List Entry
    due = due_gaps (reached_from (behind_report p x) r) d

    go : (a : List Entry) → [] ≡ (a ++ reported x ∷ rest) ++ due → (x ∷ r ≡ []) × (due_gaps p d ≡ [])
    go [] q = cc
    go (y ∷ a) q = cc

due-later : (p q to : ℕ) → p ≤ q → due_gaps p (record { to = to; short = None }) ≡ []
    → due_gaps q (record { to = to; short = None }) ≡ []
due-later p q to l h = go (cases_lt to (p + block_len))
  where
    go : (to < p + block_len) ⊎ (p + block_len ≤ to) → due_gaps q (record { to = to; short = None }) ≡ []
    go (inl g) = full-none q to (omega arith)
    go (inr g) = let e = sym (due-next p (record { to = to; short = None }) g) ∙ h in cc

-- what has begun is told and nothing is due, or what is due is the rest of it
passed : {k : Account} (c d : List Level) {e : List Entry} (t : Tells k (c ++ d) e) → reports_in e ≡ decided c
    → ((due_gaps k.place (while_open c) ≡ []) × HasBegun c e)
    ⊎ ((more : List Entry) × (t.more ≡ due_gaps k.place (while_open c) ++ more)
    × (begun_account c ≡ e ++ due_gaps k.place (while_open c)))
passed {k} c d {e} t q =
    let s = account-stands c d in
    go s.0 (compare (begun_account c) e s.0 t.more (sym s.1 ∙ t.begins))
  where
    own : Left 0 0 (decided c) (while_open c) (begun_account c) []
    own = left-behind 0 0 (decided c) (while_open c) (begun_account c) []
        (sym (begun-left c) ∙ sym (append-nil (begun_account c)))

    nothing : (own.rest ≡ []) × (due_gaps (behind_entries 0 (begun_account c)) (while_open c) ≡ [])
    nothing = none-left (0 + length (wholes (reports_in (begun_account c)))) (behind_entries 0 (begun_account c))
        own.rest (while_open c) own.is

    go : (b : List Entry)
        → ((z : List Entry) × (e ≡ begun_account c ++ z) × (b ≡ z ++ t.more))
        ⊎ ((z : List Entry) × (begun_account c ≡ e ++ z) × (t.more ≡ z ++ b))
        → ((due_gaps k.place (while_open c) ≡ []) × HasBegun c e)
        ⊎ ((more : List Entry) × (t.more ≡ due_gaps k.place (while_open c) ++ more)
        × (begun_account c ≡ e ++ due_gaps k.place (while_open c)))
    go b (inl m) = (
        let begun = begun_account c in
        let all = left-behind 0 0 (reports (c ++ d)) (at_end (c ++ d)) begun (m.0 ++ t.more)
        (sym (account-left (c ++ d)) ∙ t.begins ∙ ap (λ z. z ++ t.more) m.1 ∙ append_assoc begun m.0 t.more) in
        let rest = left-behind (0 + length (wholes (reports_in begun))) (behind_entries 0 begun) all.rest
        (at_end (c ++ d)) m.0 t.more (sym all.is) in
        let quiet : reports_in m.0 ≡ [] = append_cancel_left (reports_in begun) (reports_in m.0) []
        (sym (in-append begun m.0) ∙ ap reports_in (sym m.1) ∙ q ∙ own.told
        ∙ ap (λ z. reports_in begun ++ z) nothing.0) in
        let far = rest.further quiet in
        let here : k.place ≡ behind_entries (behind_entries 0 begun) m.0
        = t.place_is ∙ ap (behind_entries 0) m.1 ∙ behind-append 0 begun m.0 in
        inl (due-later (behind_entries 0 begun) k.place (length c - block_len) (omega arith) nothing.1, (m.0, m.1)))
    go b (inr m) = (
        let l = left-behind 0 0 (decided c) (while_open c) e m.0 (sym (begun-left c) ∙ m.1) in
        let z : l.rest ≡ [] = append_cancel_left (reports_in e) l.rest []
        (sym l.told ∙ sym q ∙ sym (append-nil (reports_in e))) in
        let is : m.0 ≡ due_gaps k.place (while_open c)
        = l.is ∙ ap₂ (λ p r. left_from (0 + length (wholes (reports_in e))) p r (while_open c)) (sym t.place_is) z in
        inr (b, m.2 ∙ ap (λ y. y ++ b) is, m.1 ∙ ap (λ y. e ++ y) is))

pub gap-passed : {k : Account} (k' : Account) (c d : List Level) {e : List Entry} (u : Due) (g : Gap)
    → u ≡ while_open c → due_gaps k.place u ≡ gap_entry g ∷ due_gaps k'.place u
    → k'.place ≡ behind_entry k.place (gap_entry g) → k'.found ≡ k.found
    → Tells k (c ++ d) e → reports_in e ≡ decided c → Tells k' (c ++ d) (e ++ gap_entry g ∷ [])
gap-passed {k} k' c d {e} u g i h p f t q = go (passed c d t q)
  where
    own : due_gaps k.place (while_open c) ≡ gap_entry g ∷ due_gaps k'.place u
    own = ap (due_gaps k.place) (sym i) ∙ h

    go : ((due_gaps k.place (while_open c) ≡ []) × HasBegun c e)
        ⊎ ((more : List Entry) × (t.more ≡ due_gaps k.place (while_open c) ++ more)
        × (begun_account c ≡ e ++ due_gaps k.place (while_open c)))
        → Tells k' (c ++ d) (e ++ gap_entry g ∷ [])
    go (inl m) = let x = sym own ∙ m.0 in cc
    go (inr m) = tells-gap k' t g (due_gaps k'.place u ++ m.0) (m.1 ∙ ap (λ z. z ++ m.0) own) p f

pub all-passed : {k : Account} (c d : List Level) {e : List Entry} (u : Due) → u ≡ while_open c
    → due_gaps k.place u ≡ [] → Tells k (c ++ d) e → reports_in e ≡ decided c → HasBegun c e
all-passed {k} c d {e} u i h t q = go (passed c d t q)
  where
    go : ((due_gaps k.place (while_open c) ≡ []) × HasBegun c e)
        ⊎ ((more : List Entry) × (t.more ≡ due_gaps k.place (while_open c) ++ more)
        × (begun_account c ≡ e ++ due_gaps k.place (while_open c)))
        → HasBegun c e
    go (inl m) = m.1
    go (inr m) = (
      [],
      sym (m.2 ∙ ap (λ z. e ++ z) (ap (due_gaps k.place) (sym i) ∙ h)
          ∙ append-nil e) ∙ sym (append-nil (begun_account c)),
    )
