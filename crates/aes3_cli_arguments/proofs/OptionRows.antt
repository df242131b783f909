-- The values that a command's options have: each passed the parser of its definition.
use Rattle.std.proofs.Common.{◌≡◌, ◌∙◌, ◌<◌, ℕ, Bool, List, [], ◌∷◌, ◌++◌, length, length-append, Option, Some, true}
use Rattle.std.proofs.Common.{false, refl, sym, ap, ap₂, subst, cond, arith, true≢false, ◌==◌}
use Rattle.std.proofs.lemmas.Bool.{eqb-true}
use Rattle.clap.specs.declared.error.kind.ErrorKind.TheVariants.{WrongNumberOfValues}
use Rattle.std.specs.Prelude.{⊤, unwrap_or}
use Rattle.std.specs.Str.{bytes_eq}
use Rattle.std.proofs.lemmas.Slice.Eq.{bytes_eq-Decides}
use Rattle.clap.specs.Facts.{unwrap_or_range}
use Rattle.clap.specs.Kinds.{Kinds, or_else, range_kinds, request_kinds}
use Rattle.clap.specs.Faults.{action_fault, use_fault, values_fault}
use Rattle.clap.specs.Walk.{Row, Rule, Text, arg_by_id, more_values, reading_by, used, values_or_missing, with_values}
use Rattle.clap.specs.Walk.{without}
use Rattle.clap.specs.declared.builder.action.ArgAction.{ArgAction}
use Rattle.clap.specs.declared.builder.action.ArgAction.TheVariants.{Append, Help, Set, SetTrue}
use Rattle.clap.specs.declared.builder.range.ValueRange.{ValueRange}
use Rattle.clap.specs.declared.parser.matches.ValueSource.{ValueSource}
use Rattle.clap.specs.declared.parser.matches.ValueSource.TheVariants.{CommandLine}

abbrev has_kind : Kinds → Bool
has_kind [] = false
has_kind (k ∷ ks) = true

-- a list with a kind is not empty
no_kind : {X : Type 0} (kinds : Kinds) → has_kind kinds ≡ true → kinds ≡ [] → X
no_kind kinds some none = absurd (true≢false (sym some ∙ ap has_kind none))

pub or_nil : (a b : Kinds) → or_else a b ≡ [] → (a ≡ []) × (b ≡ [])
or_nil [] b e = (refl, e)
or_nil (k ∷ ks) b e = no_kind (k ∷ ks) refl e

pub some_inj : {X : Type 0} (x y : X) → Some x ≡ Some y → x ≡ y
some_inj x y e = ap (λ o. unwrap_or o x) e

values_append : (a : Rule) (xs ys : List Text) → values_fault a xs ≡ [] → values_fault a ys ≡ []
    → values_fault a (xs ++ ys) ≡ []
values_append a [] ys first second = second
values_append a (x ∷ xs) ys first second =
    let parts = or_nil _ _ first in
    ap₂ or_else parts.0 (values_append a xs ys parts.1 second)

-- the row has values, each of which passed the parser of the definition with its id
pub record Fits (c : List Rule) (r : Row) : Type 0 where
  pub rule : Rule
  pub own : arg_by_id c r.id ≡ Some rule
  pub passed : values_fault rule r.values ≡ []
  pub given : 0 < length r.values
  pub reads : r.reading ≡ reading_by rule

abbrev pub FitAll : List Rule → List Row → Type 0
FitAll c [] = ⊤
FitAll c (r ∷ rs) = Fits c r × FitAll c rs

pub fit_without : (c : List Rule) (id : Text) (rows : List Row) → FitAll c rows → FitAll c (without id rows)
fit_without c id [] fit = tt
fit_without c id (r ∷ rs) fit = go (bytes_eq r.id id) (fit_without c id rs fit.1)
  where
    go : (b : Bool) → FitAll c (without id rs) → FitAll c (cond b rs (r ∷ without id rs))
    go true rest = fit.1
    go false rest = (fit.0, rest)

pub fit_with : (c : List Rule) (a : Rule) (s : ValueSource) (values : List Text) (rows : List Row)
    → arg_by_id c a.id ≡ Some a
    → values_fault a values ≡ [] → 0 < length values → FitAll c rows
    → FitAll c (with_values a.id (reading_by a) s values rows)
fit_with c a s values [] own passed given fit =
    (record { rule = a; own = own; passed = passed; given = given; reads = refl }, tt)
fit_with c a s values (r ∷ rs) own passed given fit
    = go (bytes_eq r.id a.id) refl (fit_with c a s values rs own passed given fit.1)
  where
    go : (b : Bool) → bytes_eq r.id a.id ≡ b → FitAll c (with_values a.id (reading_by a) s values rs)
        → FitAll c (cond b (more_values s values r ++ rs) (r ∷ with_values a.id (reading_by a) s values rs))
    go true same rest =
        let found : arg_by_id c r.id ≡ Some a = ap (arg_by_id c) ((bytes_eq-Decides r.id a.id).0 same) ∙ own in
        let is : fit.0.rule ≡ a = some_inj _ _ (sym fit.0.own ∙ found) in
        let before : values_fault a r.values ≡ []
        = subst (λ (x : Rule). values_fault x r.values ≡ []) is fit.0.passed in
        let more : 0 < length (r.values ++ values) = omega (arith, length-append r.values values, given) in (
          record {
            rule = a;
            own = found;
            passed = values_append a r.values values before passed;
            given = more;
            reads = fit.0.reads ∙ ap reading_by is;
          },
          fit.1,
        )
    go false same rest = (fit.0, rest)

-- what a use that passes does: it gives the argument values that its parser takes, in place of those that it had
abbrev pub UsedWell : Rule → List Text → List Row → Type 0
UsedWell a values rows = (given : List Text)
    × (used a values rows ≡ with_values a.id (reading_by a) CommandLine given (without a.id rows))
    × (values_fault a given ≡ []) × (0 < length given)

-- the definition is the only one with its id, and after each use that passes it still has values that its parser takes
pub record IsSound (c : List Rule) (a : Rule) : Type 0 where
  pub own : arg_by_id c a.id ≡ Some a
  pub uses : (again : Bool) (values : List Text) (rows : List Row) → use_fault again a values rows ≡ [] → FitAll c rows
      → FitAll c (used a values rows)

abbrev pub SoundAll : List Rule → List Rule → Type 0
SoundAll c [] = ⊤
SoundAll c (a ∷ rest) = IsSound c a × SoundAll c rest

pub fit_used : (c : List Rule) (again : Bool) (a : Rule) (values : List Text) (rows : List Row) → IsSound c a
    → use_fault again a values rows ≡ []
    → FitAll c rows → FitAll c (used a values rows)
fit_used c again a values rows sound passed fit = sound.uses again values rows passed fit

well_fits : (c : List Rule) (a : Rule) (values : List Text) (rows : List Row) → arg_by_id c a.id ≡ Some a
    → UsedWell a values rows
    → FitAll c rows → FitAll c (used a values rows)
well_fits c a values rows own well fit =
    subst (FitAll c) (sym well.1)
    (fit_with c a CommandLine well.0 (without a.id rows) own well.2 well.3 (fit_without c a.id rows fit))

-- the same by an argument's action and range
abbrev fault_by : Option ArgAction → Option ValueRange → Bool → Rule → List Text → List Row → Kinds
fault_by action range again a values rows =
    or_else (range_kinds (unwrap_or_range range).start_inclusive (unwrap_or_range range).end_inclusive (length values))
    (action_fault (unwrap_or action Set) again a (values_or_missing a values) rows)

abbrev pub exactly : ℕ → ValueRange
exactly n = record { start_inclusive = n; end_inclusive = n }

-- an option or a number, of one value
pub value_sound : (c : List Rule) (a : Rule) → arg_by_id c a.id ≡ Some a → a.action ≡ Some Set
    → a.range ≡ Some (exactly 1) → IsSound c a
value_sound c a own action range = record {
  own = own;
  uses = λ again values rows e fit.
      well_fits c a values rows own
      (go again values rows ((λ i. fault_by (sym action i) (sym range i) again a values rows) ∙ e)) fit;
}
  where
    go : (again : Bool) (values : List Text) (rows : List Row)
        → fault_by (Some Set) (Some (exactly 1)) again a values rows ≡ [] → UsedWell a values rows
    go again [] rows e = no_kind _ refl e
    go again (v ∷ vs) rows e =
        let parts = or_nil _ _ e in
        let set = or_nil _ _ parts.1 in
        (v ∷ vs, rw action refl, set.1, omega arith)

-- an option of one value that may stand more than once
pub values_sound : (c : List Rule) (a : Rule) → arg_by_id c a.id ≡ Some a → a.action ≡ Some Append
    → a.range ≡ Some (exactly 1) → IsSound c a
values_sound c a own action range = record {
  own = own;
  uses = λ again values rows e. go again values rows
      ((λ i. fault_by (sym action i) (sym range i) again a values rows) ∙ e);
}
  where
    go : (again : Bool) (values : List Text) (rows : List Row)
        → fault_by (Some Append) (Some (exactly 1)) again a values rows ≡ [] → FitAll c rows
        → FitAll c (used a values rows)
    go again [] rows e fit = no_kind _ refl e
    go again (v ∷ vs) rows e fit =
        let is : used a (v ∷ vs) rows ≡ with_values a.id (reading_by a) CommandLine (v ∷ vs) rows = rw action refl in
        subst (FitAll c) (sym is) (fit_with c a CommandLine (v ∷ vs) rows own (or_nil _ _ e).1 (omega arith) fit)

none_wanted : (n : ℕ) → range_kinds 0 0 n ≡ [] → n ≡ 0
none_wanted n e = go (0 == n) refl e
  where
    go : (b : Bool) → (0 == n) ≡ b → cond b [] (WrongNumberOfValues ∷ []) ≡ [] → n ≡ 0
    go true same passed = sym (eqb-true 0 n same)
    go false same passed = no_kind (WrongNumberOfValues ∷ []) refl passed

-- a flag
pub flag_sound : (c : List Rule) (a : Rule) (v : Text) → arg_by_id c a.id ≡ Some a → a.action ≡ Some SetTrue
    → a.range ≡ Some (exactly 0)
    → a.missing ≡ v ∷ [] → IsSound c a
flag_sound c a v own action range missing = record {
  own = own;
  uses = λ again values rows e fit.
      well_fits c a values rows own
      (go again values rows ((λ i. fault_by (sym action i) (sym range i) again a values rows) ∙ e)) fit;
}
  where
    go : (again : Bool) (values : List Text) (rows : List Row)
        → fault_by (Some SetTrue) (Some (exactly 0)) again a values rows ≡ [] → UsedWell a values rows
    go again [] rows e =
        let set = or_nil _ _ e in
        (a.missing, rw action refl, set.1, rw missing (omega arith))
    go again (x ∷ xs) rows e = absurd (omega (arith, none_wanted (length (x ∷ xs)) (or_nil _ _ e).0))

-- `--help` passes at no use
pub help_sound : (c : List Rule) (a : Rule) → arg_by_id c a.id ≡ Some a → a.action ≡ Some Help → IsSound c a
help_sound c a own action = record {
  own = own;
  uses = λ again values rows e fit. absurd
      (go again values rows ((λ i. fault_by (sym action i) a.range again a values rows) ∙ e));
}
  where
    go : (again : Bool) (values : List Text) (rows : List Row) → fault_by (Some Help) a.range again a values rows ≡ []
        → ⊥
    go again values rows e =
        no_kind (request_kinds Help) refl
        (or_nil (range_kinds (unwrap_or_range a.range).start_inclusive (unwrap_or_range a.range).end_inclusive
        (length values)) (request_kinds Help) e).1
