-- What is wrong with one of several values, and with the options that have them.
use Rattle.std.proofs.Common.{◌≡◌, ◌∙◌, ◌<◌, ◌++◌, arith, ℕ, List, ap, get_or, length, map, subst, sym, take}
use Rattle.std.proofs.Common.{append_assoc, None}
use Rattle.std.proofs.lemmas.List.{get_or-map, length-append, length-map, take-map}
use Rattle.std.proofs.lemmas.List.Elements.{All-contains_itself}
use Rattle.std.proofs.lemmas.List.Folds.{length-flat_map-take}
use Rattle.std.specs.List.{Contains, flat_map}
use Rattle.clap.specs.Walk.{Text}
use Rattle.aes3_spoil.specs.declared.kinds.CellError.{CellError}
use Rattle.aes3_cli.specs.Options.{Options}
use Rattle.aes3_spoil_runs.specs.Asks.{errors_by, errors_in, named_errors, values_by}
use Rattle.aes3_spoil_runs.specs.Faults.{IsWrongAfter, IsWrongAt, IsWrongIn, IsWrongWith}
use Rattle.aes3_spoil_runs.specs.Values.{spot_in}
use Rattle.aes3_spoil_runs.specs.declared.named.NamedError.{NamedError}
use Rattle.aes3_spoil_runs.specs.declared.wrong.Wrong.{Wrong}
use Rattle.aes3_spoil_runs.specs.declared.wrong.Wrong.TheVariants as wrong

-- eight texts joined from the last and from the first
pub eight_joined : (a b c d e f g h : List ℕ)
    → a ++ (b ++ (c ++ (d ++ (e ++ (f ++ (g ++ h)))))) ≡ a ++ b ++ c ++ d ++ e ++ f ++ g ++ h
eight_joined a b c d e f g h =
    sym (append_assoc a b _) ∙ sym (append_assoc (a ++ b) c _) ∙ sym (append_assoc (a ++ b ++ c) d _)
    ∙ sym (append_assoc (a ++ b ++ c ++ d) e _) ∙ sym (append_assoc (a ++ b ++ c ++ d ++ e) f _)
    ∙ sym (append_assoc (a ++ b ++ c ++ d ++ e ++ f) g h)

-- one of an option's texts is wrong, after the errors of those before it
wrong_after : (base mid : List CellError) (error : NamedError) (texts : List Text) (i : ℕ) (d : Text) (what : Wrong)
    → i < length texts → mid ≡ base ++ flat_map (errors_in error) (take i texts)
    → IsWrongAt mid error (get_or texts i d) what → IsWrongAfter base error texts what
wrong_after base mid error texts i d (wrong.Value named text) below old w = (
  w.0,
  subst (Contains texts) (sym w.1) (All-contains_itself texts i d below),
  subst (λ t. spot_in error t ≡ None) (sym w.1) w.2,
)
wrong_after base mid error texts i d (wrong.Every text) below old w = absurd w
wrong_after base mid error texts i d wrong.TooMany below old w =
    let fits = length-flat_map-take (errors_in error) texts i d below in
    let here = length-append mid (errors_in error (get_or texts i d)) in
    let before = ap length old ∙ length-append base (flat_map (errors_in error) (take i texts)) in
    let all = length-append base (flat_map (errors_in error) texts) in
    let many = w in
    omega arith

pub one_wrong : {X : Type 0} (g : X → Text) (base mid : List CellError) (error : NamedError) (xs : List X) (i : ℕ) (d : X)
    (what : Wrong) → i < length xs → mid ≡ base ++ flat_map (errors_in error) (map g (take i xs))
    → IsWrongAt mid error (g (get_or xs i d)) what → IsWrongAfter base error (map g xs) what
one_wrong g base mid error xs i d what below old w =
    wrong_after base mid error (map g xs) i (g d) what (let len = length-map xs g in omega arith)
    (old ∙ ap (λ texts. base ++ flat_map (errors_in error) texts) (sym (take-map g i xs)))
    (subst (λ t. IsWrongAt mid error t what) (sym (get_or-map g xs i d (g d) below)) w)

-- one of the options is wrong, after the errors of those before it
pub option_wrong : (options : Options) (mid : List CellError) (i : ℕ) (d : NamedError) (what : Wrong)
    → i < length named_errors → mid ≡ flat_map (errors_by options) (take i named_errors)
    → IsWrongIn mid options (get_or named_errors i d) what → IsWrongWith options what
option_wrong options mid i d (wrong.Value error text) below old w = (
  subst (λ e. Contains (values_by options e) text.now) (sym w.0) w.1,
  subst (λ e. spot_in e text.now ≡ None) (sym w.0) w.2,
)
option_wrong options mid i d (wrong.Every text) below old w = absurd w
option_wrong options mid i d wrong.TooMany below old w =
    let fits = length-flat_map-take (errors_by options) named_errors i d below in
    let here = length-append mid (errors_by options (get_or named_errors i d)) in
    let before = ap length old in
    let many = w in
    omega arith
