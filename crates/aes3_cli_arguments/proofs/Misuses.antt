-- Options that are misused.
use Rattle.std.proofs.Common.{◌≡◌, Bool, Option, Some, None, true, false, not, refl, sym, ap, cond, is_some, true≢false}
use Rattle.std.specs.Option.{option_map}
use Rattle.aes3_cli_arguments.specs.Jobs.{Options, has_no_cells_packed, has_no_rate, has_two_forms, has_two_periods}
use Rattle.aes3_cli_arguments.specs.Jobs.{has_unknown_bits, misuse_by}
use Rattle.aes3_cli_arguments.specs.declared.misuse.Misuse.{Misuse}

-- what is told first of two
first_or : (b : Bool) (first : Misuse) (later : Option Misuse) → cond b (Some first) later ≡ None → later ≡ None
first_or true first later none = absurd (true≢false (ap is_some none))
first_or false first later none = none

none_or : (b : Bool) (first : Misuse) (later : Option Misuse) → cond b (Some first) later ≡ None → b ≡ false
none_or true first later none = absurd (true≢false (ap is_some none))
none_or false first later none = refl

-- options that are not misused name no unknown bits
pub no_unknown_bits : (options : Options) → misuse_by options ≡ None → has_unknown_bits options ≡ false
no_unknown_bits options none =
    none_or (has_unknown_bits options) _ _
    (first_or (has_no_rate options) _ _
    (first_or (has_two_periods options) _ _
    (first_or (has_no_cells_packed options) _ _
    (first_or (has_two_forms options) _ _ none))))

-- what is none is not some
pub none_is : (some none : Bool) → some ≡ not none → none ≡ not some
none_is some true is = sym (ap not is)
none_is some false is = sym (ap not is)

-- what is made of something is something
pub some_map : {A B : Type 0} (f : A → B) (o : Option A) → is_some (option_map f o) ≡ is_some o
some_map f None = refl
some_map f (Some x) = refl
