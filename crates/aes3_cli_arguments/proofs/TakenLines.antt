-- What holds of the command that stands in words that the definitions take.
use Rattle.std.proofs.Common.{◌≡◌, ◌∙◌, ◌⊎◌, ◌<◌, ◌≤◌, ℕ, Bool, List, [], ◌∷◌, length, Option, Some, None, true, false}
use Rattle.std.proofs.Common.{drop, get_or, map}
use Rattle.std.proofs.Common.{not, codes, refl, sym, ap, subst, cond, inl, inr, arith, is_some, true≢false, ◌||◌}
use Rattle.std.specs.Prelude.{⊤, option_and_then, slice_get}
use Rattle.std.specs.List.{find}
use Rattle.std.specs.Option.{option_map, option_map_or}
use Rattle.std.specs.Str.{bytes_eq}
use Rattle.std.proofs.lemmas.Slice.Eq.{bytes_eq-Decides}
use Rattle.clap.specs.Facts.{explicit_source, parser_of_value}
use Rattle.clap.specs.Faults.{check_fault, entered_fault, fault_of, level_fault, values_fault}
use Rattle.clap.specs.Kinds.{check_kinds, value_kinds}
use Rattle.clap.specs.Takes.{is_given}
use Rattle.clap.specs.Values.{read_as, reading_of, refused_kind}
use Rattle.clap.specs.ValueTests.{accepts}
use Rattle.clap.specs.Simple.{App, Shape, argument_words, built, built_leaf, entered, inherited, label_of, marked_built}
use Rattle.clap.specs.Simple.{names_of, rows_at, subcommand_of, with_leaf_noted}
use Rattle.clap.specs.Walk.{Row, Rule, Text, answers_to, arg_by_id, nothing_held, one_of, reading_by, row_text}
use Rattle.clap.specs.Walk.{rows_after, stop_after}
use Rattle.clap.specs.declared.builder.action.ArgAction.{ArgAction}
use Rattle.clap.specs.declared.builder.action.ArgAction.TheVariants.{Append, Help, Set, SetTrue}
use Rattle.clap.specs.declared.builder.range.ValueRange.{ValueRange}
use Rattle.clap.specs.declared.builder.value_parser.ValueParser.{ValueParser}
use Rattle.clap.specs.declared.builder.value_parser.ValueParser.TheVariants as vp
use Rattle.aes3_cli.specs.CommandLine.{check, command_line, cut, decode, encode, from_pcm, normal, reader, rewrite}
use Rattle.aes3_cli.specs.CommandLine.{from_wav, greatest, info, show, to_bits, to_pcm, to_wav, watch}
use Rattle.aes3_cli_arguments.specs.Jobs.{IsNumber, MayBeFlag, Options, StandsIn, number_in}
use Rattle.aes3_cli_arguments.proofs.LineWalks.{level_checked, level_fits}
use Rattle.aes3_cli_arguments.proofs.OptionReads.{bounded_in}
use Rattle.aes3_cli_arguments.proofs.OptionRows.{FitAll, Fits, IsSound, SoundAll, exactly, flag_sound, help_sound}
use Rattle.aes3_cli_arguments.proofs.OptionRows.{or_nil, some_inj, value_sound, values_sound}

-- ---- the options by their definitions

accepted : (ignore_case : Bool) (parser : ValueParser) (text : Text) → value_kinds ignore_case parser text ≡ []
    → accepts ignore_case parser text ≡ true
accepted ignore_case parser text none = go (accepts ignore_case parser text) refl none
  where
    go : (b : Bool) → accepts ignore_case parser text ≡ b → cond b [] (refused_kind parser ∷ []) ≡ []
        → accepts ignore_case parser text ≡ true
    go true is e = is
    go false is e = absurd (omega (arith, ap length e))

-- the first value of the row of an option passed its parser
row_reads : (c : List Rule) (id : Text) (r : Row) (a : Rule) (parser : ValueParser) → Fits c r → bytes_eq r.id id ≡ true
    → arg_by_id c id ≡ Some a → a.parser ≡ Some parser
    → (text : Text) × (row_text r ≡ Some (read_as (reading_by a) text)) × (accepts a.ignore_case parser text ≡ true)
row_reads c id r a parser fit same own is = go r.values fit.passed fit.given refl
  where
    rule_is : fit.rule ≡ a
    rule_is = some_inj _ _ (sym fit.own ∙ (ap (arg_by_id c) ((bytes_eq-Decides r.id id).0 same) ∙ own))

    go : (values : List Text) → values_fault fit.rule values ≡ [] → 0 < length values → r.values ≡ values
        → (text : Text) × (row_text r ≡ Some (read_as (reading_by a) text)) × (accepts a.ignore_case parser text ≡ true)
    go [] passed given values_are = absurd (omega arith)
    go (text ∷ rest) passed given values_are =
        let first = accepted a.ignore_case (parser_of_value a.parser) text
        (subst (λ (x : Rule). value_kinds x.ignore_case (parser_of_value x.parser) text ≡ []) rule_is
        (or_nil _ _ passed).0) in (
          text,
          (λ i. option_map (read_as (fit.reads i)) (slice_get (values_are i) 0))
              ∙ ap (λ (x : Rule). Some (read_as (reading_by x) text)) rule_is,
          (λ i. accepts a.ignore_case (parser_of_value (sym is i)) text) ∙ first,
        )

-- and so of the options: there is no row of the option, or it has such a value
pub option_reads : (c : List Rule) (rows : List Row) (id : Text) (a : Rule) (parser : ValueParser) → FitAll c rows
    → arg_by_id c id ≡ Some a → a.parser ≡ Some parser
    → (find (λ r. bytes_eq r.id id) rows ≡ None)
    ⊎ ((text : Text) × (one_of id rows ≡ Some (read_as (reading_by a) text))
    × (accepts a.ignore_case parser text ≡ true))
option_reads c [] id a parser fit own is = inl refl
option_reads c (r ∷ rs) id a parser fit own is = go (bytes_eq r.id id) refl (option_reads c rs id a parser fit.1 own is)
  where
    go : (b : Bool) → bytes_eq r.id id ≡ b
        → (find (λ x. bytes_eq x.id id) rs ≡ None)
        ⊎ ((text : Text) × (one_of id rs ≡ Some (read_as (reading_by a) text))
        × (accepts a.ignore_case parser text ≡ true))
        → (cond b (Some r) (find (λ x. bytes_eq x.id id) rs) ≡ None)
        ⊎ ((text : Text) × (option_and_then row_text (cond b (Some r) (find (λ x. bytes_eq x.id id) rs))
        ≡ Some (read_as (reading_by a) text)) × (accepts a.ignore_case parser text ≡ true))
    go true same rest = inr (row_reads c id r a parser fit.0 same own is)
    go false same rest = rest

-- no definition has this id: no row has it either
pub no_row : (c : List Rule) (rows : List Row) (id : Text) → FitAll c rows → arg_by_id c id ≡ None
    → one_of id rows ≡ None
no_row c [] id fit none = refl
no_row c (r ∷ rs) id fit none = go (bytes_eq r.id id) refl (no_row c rs id fit.1 none)
  where
    go : (b : Bool) → bytes_eq r.id id ≡ b → one_of id rs ≡ None
        → option_and_then row_text (cond b (Some r) (find (λ x. bytes_eq x.id id) rs)) ≡ None
    go true same rest = absurd
        (true≢false (ap is_some (sym fit.0.own ∙ (ap (arg_by_id c) ((bytes_eq-Decides r.id id).0 same) ∙ none))))
    go false same rest = rest

-- the definition of a flag
abbrev IsFlagRule : Rule → Type 0
IsFlagRule a = a.parser ≡ Some vp.Bool

abbrev pub FlagOrNone : Option Rule → Type 0
FlagOrNone None = ⊤
FlagOrNone (Some a) = IsFlagRule a

pub as_written : (a : Rule) (parser : ValueParser) (text : Text) → a.parser ≡ Some parser
    → read_as (reading_of parser) text ≡ text → read_as (reading_by a) text ≡ text
as_written a parser text is plain = (λ i. read_as (reading_of (parser_of_value (is i))) text) ∙ plain

pub flag_reads : (c : List Rule) (rows : List Row) (id : Text) (o : Option Rule) → FitAll c rows → arg_by_id c id ≡ o
    → FlagOrNone o → MayBeFlag rows id
flag_reads c rows id None fit own flag = inl (no_row c rows id fit own)
flag_reads c rows id (Some a) fit own flag = elim (option_reads c rows id a vp.Bool fit own flag) [
  | inl none ↦ inl (ap (option_and_then row_text) none)
  | inr given ↦ inr (go (bytes_eq given.0 (codes "true")) given.0
      (given.1 ∙ ap Some (as_written a vp.Bool given.0 flag refl)) refl given.2)
]
  where
    go : (b : Bool) (t : Text) → one_of id rows ≡ Some t → bytes_eq t (codes "true") ≡ b
        → (b || bytes_eq t (codes "false")) ≡ true
        → (one_of id rows ≡ Some (codes "true")) ⊎ (one_of id rows ≡ Some (codes "false"))
    go true t at same passed = inl (at ∙ ap Some ((bytes_eq-Decides t (codes "true")).0 same))
    go false t at same passed = inr (at ∙ ap Some ((bytes_eq-Decides t (codes "false")).0 passed))

-- a number that was given
pub number_reads : (c : List Rule) (rows : List Row) (id : Text) (a : Rule) (least most : ℕ) → FitAll c rows
    → arg_by_id c id ≡ Some a → a.parser ≡ Some (vp.Unsigned least most)
    → is_given id rows ≡ true → (n : ℕ) × IsNumber rows id n × (least ≤ n) × (n ≤ most)
number_reads c rows id a least most fit own is given =
    elim (option_reads c rows id a (vp.Unsigned least most) fit own is) [
      | inl none ↦ absurd (true≢false
          (sym given ∙ ap (λ o. option_map_or (λ (r : Row). explicit_source r.source) o false) none))
      | inr found ↦
          let n = bounded_in least most found.0 found.2 in (
            n.0,
            ap (option_and_then number_in) (found.1 ∙ ap Some (as_written a (vp.Unsigned least most) found.0 is refl))
                ∙ n.1,
            n.2,
            n.3,
          )
    ]

-- what is wanted was given
pub both_given : (first second : Bool) → (not first || (not second || false)) ≡ false → (first ≡ true) × (second ≡ true)
both_given true true e = (refl, refl)
both_given true false e = absurd (true≢false e)
both_given false second e = absurd (true≢false e)

pub nothing_wanted : (help subcommand argument : Bool) → check_kinds help subcommand argument ≡ [] → argument ≡ false
nothing_wanted true subcommand argument e = absurd (omega (arith, ap length e))
nothing_wanted false true argument e = absurd (omega (arith, ap length e))
nothing_wanted false false true e = absurd (omega (arith, ap length e))
nothing_wanted false false false e = refl

-- ---- the commands

abbrev Numbers : Options → Type 0
Numbers options =
    ((n : ℕ) × IsNumber options (codes "FROM") n) × ((n : ℕ) × IsNumber options (codes "COUNT") n)

-- what the proofs need to know of a command that is built
pub record IsKnown (s : Shape) : Type 0 where
  pub sound : SoundAll s.rules s.rules
  pub numbers : (rows : List Row) → s.name ≡ codes "cut" → FitAll s.rules rows → check_fault s rows false ≡ []
      → Numbers rows

-- what holds of all commands holds of the one that is found
abbrev pub EachShape : (Shape → Type 0) → List Shape → Type 0
EachShape P [] = ⊤
EachShape P (s ∷ rest) = P s × EachShape P rest

pub found_shape : (P : Shape → Type 0) (xs : List Shape) (p : Shape → Bool) (s : Shape) → EachShape P xs
    → find p xs ≡ Some s → P s
found_shape P [] p s each e = absurd (true≢false (sym (ap is_some e)))
found_shape P (x ∷ xs) p s each e = go (p x) (λ rest. found_shape P xs p s each.1 rest) e
  where
    go : (b : Bool) → (find p xs ≡ Some s → P s) → cond b (Some x) (find p xs) ≡ Some s → P s
    go true later same = subst P (some_inj _ _ same) each.0
    go false later same = later same

-- what is known of a definition: whether its action is one of four, and which one has its id
record Told : Type 0 where
  usual : Bool
  own : Option Rule
  range : Option ValueRange
  missing : List Text

abbrev told : List Rule → Rule → Told
told c a = record { usual = true; own = arg_by_id c a.id; range = a.range; missing = a.missing }

-- what it has to be by the action
abbrev wanted : Option ArgAction → Rule → Told
wanted (Some Set) a = record { usual = true; own = Some a; range = Some (exactly 1); missing = a.missing }
wanted (Some Append) a = record { usual = true; own = Some a; range = Some (exactly 1); missing = a.missing }
wanted (Some SetTrue) a = record { usual = true; own = Some a; range = Some (exactly 0); missing = codes "true" ∷ [] }
wanted (Some Help) a = record { usual = true; own = Some a; range = a.range; missing = a.missing }
wanted action a = record { usual = false; own = Some a; range = a.range; missing = a.missing }

one_sound : (c : List Rule) (a : Rule) → told c a ≡ wanted a.action a → IsSound c a
one_sound c a e = go a.action refl e
  where
    go : (action : Option ArgAction) → a.action ≡ action → told c a ≡ wanted action a → IsSound c a
    go (Some Set) is e = value_sound c a (ap (λ (t : Told). t.own) e) is (ap (λ (t : Told). t.range) e)
    go (Some Append) is e = values_sound c a (ap (λ (t : Told). t.own) e) is (ap (λ (t : Told). t.range) e)
    go (Some SetTrue) is e =
        flag_sound c a (codes "true") (ap (λ (t : Told). t.own) e) is (ap (λ (t : Told). t.range) e)
        (ap (λ (t : Told). t.missing) e)
    go (Some Help) is e = help_sound c a (ap (λ (t : Told). t.own) e) is
    go action is e = absurd (true≢false (ap (λ (t : Told). t.usual) e))

all_sound : (c rules : List Rule) → map (told c) rules ≡ map (λ a. wanted a.action a) rules → SoundAll c rules
all_sound c [] e = tt
all_sound c (a ∷ rest) e = (one_sound c a (ap (λ xs. get_or xs 0 (told c a)) e), all_sound c rest (ap (drop 1) e))

-- one more fact before others
pub also : {A B : Type 0} → A → B → A × B
also a b = (a, b)

-- the command as it is built
abbrev pub leaf : Shape → Shape
leaf s = built_leaf (inherited (with_leaf_noted (marked_built command_line.top)) s)

-- a command that is not called `cut`
known : (s : Shape) → bytes_eq s.name (codes "cut") ≡ false
    → map (told s.rules) s.rules ≡ map (λ a. wanted a.action a) s.rules → IsKnown s
known s differs sound = record {
  sound = all_sound s.rules s.rules sound;
  numbers = λ rows same fit passed. absurd
      (true≢false (sym (ap (λ t. bytes_eq t (codes "cut")) same) ∙ differs));
}

cut_known : IsKnown (leaf cut)
cut_known = record {
  sound = all_sound (leaf cut).rules (leaf cut).rules refl;
  numbers = λ rows name fit passed.
      let given = both_given (is_given (codes "FROM") rows) (is_given (codes "COUNT") rows)
      (nothing_wanted false false _ passed) in
      let from = number_reads (leaf cut).rules rows (codes "FROM") _ 0 greatest fit refl refl given.0 in
      let count = number_reads (leaf cut).rules rows (codes "COUNT") _ 0 greatest fit refl refl given.1 in
      ((from.0, from.1), (count.0, count.1));
}

pub all_known : EachShape IsKnown (built command_line).subs
all_known =
    also (known (leaf encode) refl refl) (also (known (leaf decode) refl refl) (also (known (leaf normal) refl refl)
    (also (known (leaf check) refl refl) (also (known (leaf watch) refl refl) (also (known (leaf info) refl refl)
    (also (known (leaf show) refl refl) (also (known (leaf (reader (codes "scan"))) refl refl) (also cut_known
    (also (known (leaf rewrite) refl refl) (also (known (leaf to_pcm) refl refl)
    (also (known (leaf from_pcm) refl refl) (also (known (leaf to_wav) refl refl)
    (also (known (leaf from_wav) refl refl) (also (known (leaf to_bits) refl refl) tt))))))))))))))

-- ---- the command that stands in the words

-- the command, and the words after it in which nothing is at fault
pub record Entered (a : App) (name : Text) (options : Options) : Type 0 where
  pub by : Shape → Bool
  pub found : Shape
  pub is_found : find by (built a).subs ≡ Some found
  pub named : found.name ≡ name
  pub words : List Text
  pub rows : rows_after found.rules [] words ≡ options
  pub faultless : level_fault found [] nothing_held words false [] ≡ []

pub entered_command : (a : App) (words : List Text) (name : Text) (options : Options) → fault_of a words ≡ []
    → subcommand_of a words ≡ Some (name, options) → Entered a name options
entered_command a words name options none stands =
    go (stop_after (built a).top.rules (names_of (built a)) (argument_words a words)) stands
    (or_nil _ _ (or_nil _ _ none).1).0
  where
    at_command : (p : Text × List Text) (o : Option Shape) → find (λ s. answers_to p.0 (label_of s)) (built a).subs ≡ o
        → option_map (λ s. rows_at s p.1) o ≡ Some (name, options)
        → option_map_or (λ s. level_fault s [] nothing_held p.1 false []) o [] ≡ [] → Entered a name options
    at_command p None at is passed = absurd (true≢false (sym (ap is_some is)))
    at_command p (Some s) at is passed =
        let same = some_inj _ _ is in
        record {
          by = λ x. answers_to p.0 (label_of x);
          found = s;
          is_found = at;
          named = ap (λ (q : Text × List Row). q.0) same;
          words = p.1;
          rows = ap (λ (q : Text × List Row). q.1) same;
          faultless = passed;
        }

    go : (stop : Option (Text × List Text)) → entered (built a) stop ≡ Some (name, options)
        → entered_fault (built a) stop ≡ [] → Entered a name options
    go None is passed = absurd (true≢false (sym (ap is_some is)))
    go (Some p) is passed = at_command p (find (λ s. answers_to p.0 (label_of s)) (built a).subs) refl is passed

-- the command that stands in the words, with what its options have
pub command_entered : (words : List Text) (name : Text) (options : Options) → StandsIn words name options
    → (e : Entered command_line name options) × FitAll e.found.rules options
command_entered words name options stands =
    let e = entered_command command_line words name options stands.0 stands.1 in
    let known = found_shape IsKnown (built command_line).subs e.by e.found all_known e.is_found in
    (e, subst (FitAll e.found.rules) e.rows (level_fits e.found [] e.words false [] known.sound e.faultless))

-- `cut` has its numbers
pub numbers_stand : (words : List Text) (name : Text) (options : Options) → StandsIn words name options
    → name ≡ codes "cut" → Numbers options
numbers_stand words name options stands is_cut =
    let e = entered_command command_line words name options stands.0 stands.1 in
    let known = found_shape IsKnown (built command_line).subs e.by e.found all_known e.is_found in
    let fit = level_fits e.found [] e.words false [] known.sound e.faultless in
    let checked = level_checked e.found [] e.words false [] e.faultless in
    subst Numbers e.rows (known.numbers (rows_after e.found.rules [] e.words) (e.named ∙ is_cut) fit checked)
