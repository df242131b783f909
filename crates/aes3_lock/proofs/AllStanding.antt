-- The blocks of cells are all that stand closed in them, in order of place.
use Rattle.std.proofs.Common.{◌≡◌, ℕ, zero, suc, ◌+◌, ◌<◌, ◌≤◌, ◌⊎◌, inl, inr, List, [], ◌∷◌, ◌++◌, Bool, true, false}
use Rattle.std.proofs.Common.{Option, Some, None, map, refl, length, drop, ap, ap₂, ◌∙◌, sym, subst, arith, length-drop}
use Rattle.std.specs.List.{All, AllPairs, Contains}
use Rattle.std.specs.Prelude.{slice_index_or}
use Rattle.std.proofs.lemmas.Bool.{cases_Bool}
use Rattle.std.proofs.lemmas.List.{map-append}
use Rattle.std.proofs.lemmas.List.Elements.{All-nil, All-append, Contains-append_right}
use Rattle.std.proofs.lemmas.List.Kept.{AllPairs-cons}
use Rattle.std.proofs.lemmas.Option.{same_Some}
use Rattle.aes3_level.specs.declared.level.Level.{Level}
use Rattle.aes3_slot.specs.Slots.{with_parity}
use Rattle.aes3_frame.specs.Blocks.{block_len}
use Rattle.aes3_lock.specs.declared.report.Report.{Report}
use Rattle.aes3_lock.specs.declared.report.Report.TheVariants.{Whole, Marked, Fault, Unfinished}
use Rattle.aes3_lock.specs.Candidates.{begins_block}
use Rattle.aes3_lock.specs.Outcomes.{Outcome, whole, marked, fault, unfinished, wrong_parities}
use Rattle.aes3_lock.specs.Reports.{told, outcome_at, reports_from, reports, wholes, blocks}
use Rattle.aes3_lock.specs.Standing.{IsClosed, StandsClosed, SubframesStand}
use Rattle.aes3_lock.specs.Laws.{PlacedBlock, AreAllBlocks}
use Rattle.aes3_lock.proofs.StandingBlocks.{block-stands, standing-begins, standing-room, standing-whole}
use Rattle.aes3_lock.proofs.StandingBlocks.{whole-standing, marked-standing}
use Rattle.aes3_lock.proofs.Ends.{outcome_at-none, outcome_at-some}
use Rattle.aes3_frame.proofs.CellLaws.{block_len_24576}

pub standing-at : (b : List (List Bool)) (s : Level) (c : List Level) → StandsClosed b s c
    → outcome_at c ≡ Some (whole s b)
standing-at b s c h = outcome_at-some c (standing-begins (map with_parity b) s c (block-stands b s c h))
    ∙ ap Some (standing-whole b s c h)

pub at-standing : (b : List (List Bool)) (s : Level) (c : List Level) → outcome_at c ≡ Some (whole s b)
    → StandsClosed b s c
at-standing b s c e = go (cases_Bool (begins_block c))
  where
    go : (begins_block c ≡ true) ⊎ (begins_block c ≡ false) → StandsClosed b s c
    go (inl t) = whole-standing b s c (same_Some _ _ (sym (outcome_at-some c t) ∙ e))
    go (inr t) = let q : None ≡ Some (whole s b) = sym (outcome_at-none c t) ∙ e in cc

pub at-marked : (s : Level) (n : ℕ) (c : List Level) → outcome_at c ≡ Some (marked s n)
    → IsClosed c × (0 < n) × ((slots : List (List Bool)) × SubframesStand slots s c × (wrong_parities slots ≡ n))
at-marked s n c e = go (cases_Bool (begins_block c))
  where
    go : (begins_block c ≡ true) ⊎ (begins_block c ≡ false)
        → IsClosed c × (0 < n) × ((slots : List (List Bool)) × SubframesStand slots s c × (wrong_parities slots ≡ n))
    go (inl t) = marked-standing s n c (same_Some _ _ (sym (outcome_at-some c t) ∙ e))
    go (inr t) = let q : None ≡ Some (marked s n) = sym (outcome_at-none c t) ∙ e in cc

pub closed-room : (b : List (List Bool)) (s : Level) (c : List Level) → StandsClosed b s c → block_len ≤ length c
closed-room b s c h = standing-room (map with_parity b) s c (block-stands b s c h)

pub wholes-append : (q r : List Report) → wholes (q ++ r) ≡ wholes q ++ wholes r
wholes-append [] r = refl
wholes-append (Whole at s b ∷ q) r = ap (λ x. b ∷ x) (wholes-append q r)
wholes-append (Marked at s n ∷ q) r = wholes-append q r
wholes-append (Fault at cell why ∷ q) r = wholes-append q r
wholes-append (Unfinished at cells ∷ q) r = wholes-append q r

-- the block of an outcome with its place
abbrev found_of : ℕ → Option Outcome → List PlacedBlock
found_of p None = []
found_of p (Some (whole s b)) = record { place = p; level = s; block = b } ∷ []
found_of p (Some (marked s n)) = []
found_of p (Some (fault f)) = []
found_of p (Some (unfinished n)) = []

abbrev found_from : ℕ → List Level → List PlacedBlock
found_from p [] = []
found_from p (x ∷ c) = found_of p (outcome_at (x ∷ c)) ++ found_from (suc p) c

found-blocks : (p : ℕ) (c : List Level) → wholes (reports_from p c) ≡ map (λ f. f.block) (found_from p c)
found-blocks p [] = refl
found-blocks p (x ∷ c) =
    wholes-append (told p (outcome_at (x ∷ c))) (reports_from (suc p) c)
    ∙ ap₂ (λ a b. a ++ b) (here (outcome_at (x ∷ c))) (found-blocks (suc p) c)
    ∙ sym (map-append (λ f. f.block) (found_of p (outcome_at (x ∷ c))) (found_from (suc p) c))
  where
    here : (o : Option Outcome) → wholes (told p o) ≡ map (λ f. f.block) (found_of p o)
    here None = refl
    here (Some (whole s b)) = refl
    here (Some (marked s n)) = refl
    here (Some (fault f)) = refl
    here (Some (unfinished n)) = refl

-- each of them stands closed, at its place
pub record StandsAt (p : ℕ) (c : List Level) (f : PlacedBlock) : Type 0 where
  pub offset : ℕ
  pub place : f.place ≡ p + offset
  pub stands : StandsClosed f.block f.level (drop offset c)

pub all-one : {X : Type 0} (P : X → Type 0) (x : X) → P x → All P (x ∷ [])
all-one P x h zero d l = h
all-one P x h (suc k) d l = absurd (omega arith)

found-each : (p : ℕ) (c : List Level) → All (StandsAt p c) (found_from p c)
found-each p [] = All-nil (StandsAt p [])
found-each p (x ∷ c) =
    All-append (StandsAt p (x ∷ c)) (found_of p (outcome_at (x ∷ c))) (found_from (suc p) c)
    (here (outcome_at (x ∷ c)) refl)
    (λ k d l.
    let r = found-each (suc p) c k d l in
    let e = r.place in
    record { offset = suc r.offset; place = omega arith; stands = r.stands })
  where
    here : (o : Option Outcome) → outcome_at (x ∷ c) ≡ o → All (StandsAt p (x ∷ c)) (found_of p o)
    here None e = All-nil (StandsAt p (x ∷ c))
    here (Some (whole s b)) e =
        all-one (StandsAt p (x ∷ c)) (record { place = p; level = s; block = b })
        (record { offset = 0; place = omega arith; stands = at-standing b s (x ∷ c) e })
    here (Some (marked s n)) e = All-nil (StandsAt p (x ∷ c))
    here (Some (fault f)) e = All-nil (StandsAt p (x ∷ c))
    here (Some (unfinished n)) e = All-nil (StandsAt p (x ∷ c))

-- each that stands closed is there
found-all : (p : ℕ) (c : List Level) (f : PlacedBlock) (k : ℕ) → f.place ≡ p + k
    → StandsClosed f.block f.level (drop k c) → Contains (found_from p c) f
found-all p [] f k e h =
    let r = closed-room f.block f.level (drop k []) h in
    let l = length-drop {A = Level} k [] in
    let n = block_len_24576 in
    absurd (omega (arith, r, l, n))
found-all p (x ∷ c) f zero e h =
    let o = standing-at f.block f.level (x ∷ c) h in
    let q : f.place ≡ p = omega arith in
    subst (λ l. Contains (l ++ found_from (suc p) c) f)
    (sym (ap (found_of p) o ∙ ap (λ k. record { place = k; level = f.level; block = f.block } ∷ []) (sym q)))
    (0, omega arith, refl)
found-all p (x ∷ c) f (suc k) e h =
    Contains-append_right (found_of p (outcome_at (x ∷ c))) (found_from (suc p) c) f
    (found-all (suc p) c f k (omega arith) h)

found-order : (p : ℕ) (c : List Level) → AllPairs (λ f g. f.place < g.place) (found_from p c)
found-order p [] = λ i j d l h. absurd (omega arith)
found-order p (x ∷ c) = here (outcome_at (x ∷ c)) (found-order (suc p) c)
  where
    here : (o : Option Outcome) → AllPairs (λ f g. f.place < g.place) (found_from (suc p) c)
        → AllPairs (λ f g. f.place < g.place) (found_of p o ++ found_from (suc p) c)
    here None rest = rest
    here (Some (whole s b)) rest =
        AllPairs-cons (λ f g. f.place < g.place) (record { place = p; level = s; block = b }) (found_from (suc p) c)
        (λ k d l. let r = found-each (suc p) c k d l in let e = r.place in omega arith)
        rest
    here (Some (marked s n)) rest = rest
    here (Some (fault f)) rest = rest
    here (Some (unfinished n)) rest = rest

place-stands : (c : List Level) (f : PlacedBlock) → StandsAt 0 c f → StandsClosed f.block f.level (drop f.place c)
place-stands c f r =
    let e = r.place in
    let q : r.offset ≡ f.place = omega arith in
    subst (λ n. StandsClosed f.block f.level (drop n c)) q r.stands

pub blocks-all_standing : (c : List Level) → (found : List PlacedBlock) × AreAllBlocks found c
    × (blocks c ≡ map (λ f. f.block) found)
unfolding blocks reports
blocks-all_standing c = (
  found_from 0 c,
  record {
    each = λ k d l. place-stands c (slice_index_or (found_from 0 c) k d) (found-each 0 c k d l);
    all = λ f h. found-all 0 c f f.place (omega arith) h;
    order = found-order 0 c;
  },
  found-blocks 0 c,
)
