-- Where statuses of each kind are met first.
use Rattle.std.specs.Prelude.{ℕ, List, [], ◌∷◌, Bool, Option, Some, None, ◌≡◌, ◌<◌, ◌≤◌, ◌==◌, get_or, min}
use Rattle.std.specs.Prelude.{if◌then◌else◌}
use Rattle.aes3_status.specs.declared.kind_places.KindPlaces.{KindPlaces}
use Rattle.aes3_status.specs.Taken.{kind_of}

-- the place of the first of these that passes a test
abbrev pub first_place : {A : Type 0} → (A → ℕ) → (A → Bool) → List A → Option ℕ
first_place place test [] = None
first_place place test (x ∷ more) = if test x then Some (place x) else first_place place test more

-- each stands at the place of the one before it or behind that, and the first at place p or behind it
abbrev pub Rising : {A : Type 0} → (A → ℕ) → ℕ → List A → Type 0
Rising place p [] = Unit {0}
Rising place p (x ∷ more) = (p ≤ place x) × Rising place (place x) more

-- the earlier of two places, where there are such
abbrev pub earlier : Option ℕ → Option ℕ → Option ℕ
earlier None q = q
earlier (Some p) None = Some p
earlier (Some p) (Some q) = Some (min p q)

-- a status, and the place where it is met
pub record Met : Type 0 where
  pub place : ℕ
  pub status : List ℕ

-- the place of the first status that passes a test
abbrev pub first_met : (List ℕ → Bool) → List Met → Option ℕ
first_met test met = first_place (λ (x : Met). x.place) (λ (x : Met). test x.status) met

-- the places are those of the first status of each kind
abbrev pub AreFirstsOf : KindPlaces → List Met → Type 0
AreFirstsOf places met =
    (kind : ℕ) → kind < 64 → get_or places.first kind None ≡ first_met (λ status. kind_of status == kind) met
