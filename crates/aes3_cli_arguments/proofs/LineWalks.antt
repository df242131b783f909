-- A walk over words in which nothing is at fault leaves options whose values passed their parsers.
use Rattle.std.proofs.Common.{◌≡◌, ◌∙◌, ℕ, Bool, List, [], ◌∷◌, length, drop, Option, Some, None, true, false, zero}
use Rattle.std.proofs.Common.{suc, refl, sym, ap, subst, cond, arith, is_some, unwrap_or, ◌&&◌, ◌||◌}
use Rattle.std.proofs.lemmas.Bool.{ne_eqb}
use Rattle.std.specs.Prelude.{encode_utf8, slice_get}
use Rattle.std.specs.List.{find, fold}
use Rattle.std.specs.Option.{option_map_or}
use Rattle.std.specs.Str.{bytes_eq, chars}
use Rattle.clap.specs.Lexer.{long_of, short_of}
use Rattle.clap.specs.Kinds.{Kinds, or_else, request_kinds}
use Rattle.clap.specs.Faults.{bundle_fault, bundle_step_fault, check_fault, defaults_fault, flag_word_fault}
use Rattle.clap.specs.Faults.{flags_fault, given_default_fault, level_fault, long_fault, option_fault, other_fault}
use Rattle.clap.specs.Faults.{positional_fault, react_fault, settle_fault, short_fault, step_fault, stray_fault}
use Rattle.clap.specs.Faults.{turn_fault, use_fault, values_fault, walk_fault, word_fault}
use Rattle.clap.specs.Simple.{Shape}
use Rattle.clap.specs.Walk.{Held, Names, Outcome, Row, Rule, Step, Text, Waiting, Walk, action_of, after_flag}
use Rattle.clap.specs.Walk.{after_step, arg_by_id, arg_by_index, arg_by_long, arg_by_short, attached_value, bundle}
use Rattle.clap.specs.Walk.{bundle_met, bundle_step, default_rows, done, flag_met, has_row, is_empty, is_pending}
use Rattle.clap.specs.Walk.{long_met, long_or_other, nothing_held, option_met, option_word, plain, plain_word}
use Rattle.clap.specs.Walk.{positional_held, reacted, refused, rows_after, settled, short_met, short_or_plain}
use Rattle.clap.specs.Walk.{subcommand_met, subcommand_or_other, takes_several, takes_values, to_positional, value}
use Rattle.clap.specs.Walk.{waits, walk, walk_from, walked, with_default, word_met}
use Rattle.clap.specs.Walk.{idle, option, positional, next, trailing, subcommand, reading_by, settled_rows, used_by_id}
use Rattle.clap.specs.Walk.{walked_from}
use Rattle.clap.specs.declared.error.kind.ErrorKind.TheVariants.{TooManyValues}
use Rattle.clap.specs.declared.parser.matches.ValueSource.TheVariants.{DefaultValue}
use Rattle.aes3_cli_arguments.proofs.OptionRows.{FitAll, IsSound, SoundAll, fit_used, fit_with, or_nil}

-- a definition that is found is one of them
pub found_sound : (c xs : List Rule) (p : Rule → Bool) (a : Rule) → SoundAll c xs → find p xs ≡ Some a → IsSound c a
found_sound c [] p a sound e = cc
found_sound c (x ∷ xs) p a sound e = go (p x) (λ rest. found_sound c xs p a sound.1 rest) e
  where
    go : (b : Bool) → (find p xs ≡ Some a → IsSound c a) → cond b (Some x) (find p xs) ≡ Some a → IsSound c a
    go true later same = subst (IsSound c) (ap (λ o. unwrap_or o x) same) sound.0
    go false later same = later same

module _ (c : List Rule) (again : Bool) (sound : SoundAll c c) where
  abbrev Fine : Held → Type 0
  Fine h = FitAll c h.rows

  settle_fits : (h : Held) → settle_fault c again h ≡ [] → Fine h → Fine (settled c h)
  settle_fits h none fine = go h.pending none
    where
      one : (p : Text × List Text) (o : Option Rule) → arg_by_id c p.0 ≡ o
          → option_map_or (λ a. use_fault again a p.1 h.rows) o [] ≡ []
          → FitAll c (used_by_id o p.1 h.rows)
      one p None at passed = fine
      one p (Some a) at passed = fit_used c again a p.1 h.rows (found_sound c c _ a sound at) passed fine

      go : (p : Option (Text × List Text))
          → option_map_or (λ q. option_map_or (λ a. use_fault again a q.1 h.rows) (arg_by_id c q.0) []) p [] ≡ []
          → FitAll c (settled_rows c p h.rows)
      go None passed = fine
      go (Some p) passed = one p (arg_by_id c p.0) refl passed

  react_fits : (a : Rule) (values : List Text) (h : Held) → IsSound c a → react_fault c again a values h ≡ [] → Fine h
      → Fine (reacted c a values h)
  react_fits a values h own none fine =
      let parts = or_nil _ _ none in
      fit_used c again a values (settled c h).rows own parts.1 (settle_fits h parts.0 fine)

  option_fits : (a : Rule) (v : Option Text) (h : Held) → IsSound c a → option_fault c again a v h ≡ [] → Fine h
      → Fine (option_met c a v h).0
  option_fits a (Some v) h own none fine = react_fits a (v ∷ []) h own none fine
  option_fits a None h own none fine = settle_fits h none fine

  flag_fits : (a : Rule) (v : Option Text) (h : Held) → IsSound c a
      → cond (is_some v) (TooManyValues ∷ []) (react_fault c again a [] h) ≡ []
      → Fine h → Fine (flag_met c a v h).0
  flag_fits a (Some v) h own none fine = fine
  flag_fits a None h own none fine = react_fits a [] h own none fine

  long_fits : (p : Rule → Bool) (o : Option Rule) (v : Option Text) (h : Held) → find p c ≡ o
      → long_fault c again o v h ≡ [] → Fine h → Fine (long_met c o v h).0
  long_fits p None v h at none fine = fine
  long_fits p (Some a) v h at none fine = go (takes_values a) none
    where
      go : (b : Bool) → cond b (option_fault c again a v h)
          (cond (is_some v) (TooManyValues ∷ []) (react_fault c again a [] h)) ≡ []
          → Fine (cond b (option_met c a v h) (flag_met c a v h)).0
      go true passed = option_fits a v h (found_sound c c p a sound at) passed fine
      go false passed = flag_fits a v h (found_sound c c p a sound at) passed fine

  short_fits : (p : Rule → Bool) (o : Option Rule) (rest : Text) (h : Held) (onward : Held → Held × Outcome)
      (fault : Held → Kinds) → find p c ≡ o
      → ((k : Held) → fault k ≡ [] → Fine k → Fine (onward k).0)
      → short_fault c again o rest h fault ≡ [] → Fine h → Fine (short_met c o rest h onward).0
  short_fits p None rest h onward fault at more none fine = fine
  short_fits p (Some a) rest h onward fault at more none fine = go (takes_values a) none
    where
      go : (b : Bool) → cond b (option_fault c again a (attached_value rest) h)
          (or_else (react_fault c again a [] h) (fault (reacted c a [] h))) ≡ []
          → Fine (cond b (option_met c a (attached_value rest) h) (onward (reacted c a [] h))).0
      go true passed = option_fits a (attached_value rest) h (found_sound c c p a sound at) passed fine
      go false passed =
          let parts = or_nil _ _ passed in
          more (reacted c a [] h) parts.1 (react_fits a [] h (found_sound c c p a sound at) parts.0 fine)

  bundle_fits : (k : ℕ) (flags : Text) (skip : ℕ) (so_far : Outcome) (h : Held)
      → flags_fault c again k flags skip h ≡ [] → Fine h
      → Fine (bundle_met c k flags skip so_far h).0
  unfolding bundle_met flags_fault
  bundle_fits zero flags skip so_far h none fine = fine
  bundle_fits (suc k) flags skip so_far h none fine = go (slice_get (chars flags) 0) skip
      (λ text n outcome after clear well. bundle_fits k text n outcome after clear well) none
    where
      go : (o : Option ℕ) (n : ℕ)
          → ((text : Text) (m : ℕ) (outcome : Outcome) (after : Held) → flags_fault c again k text m after ≡ []
          → Fine after → Fine (bundle_met c k text m outcome after).0)
          → bundle_step_fault c again o flags n h (flags_fault c again k) ≡ []
          → Fine (bundle_step c o flags n so_far h (bundle_met c k)).0
      go None n onward passed = fine
      go (Some x) zero onward passed = short_fits _ (arg_by_short c x) (drop (length (encode_utf8 x)) flags) h
          (bundle_met c k (drop (length (encode_utf8 x)) flags) 0 done)
          (flags_fault c again k (drop (length (encode_utf8 x)) flags) 0) refl
          (onward (drop (length (encode_utf8 x)) flags) 0 done) passed fine
      go (Some x) (suc n) onward passed = onward (drop (length (encode_utf8 x)) flags) n so_far h passed fine

  plain_rows : (w : Waiting) (word : Text) (h : Held) → Fine h → Fine (plain_word c w word h).0
  plain_rows idle word h fine = fine
  plain_rows positional word h fine = fine
  plain_rows (option id) word h fine = go (arg_by_id c id)
    where
      go : (o : Option Rule) → Fine (option_word o id word h).0
      go None = fine
      go (Some a) = fine

  flag_rows : (w : Waiting) (word : Text) (h : Held) (o : Outcome) → Fine h → Fine (after_flag c w word h o).0
  flag_rows w word h done fine = fine
  flag_rows w word h (waits id) fine = fine
  flag_rows w word h plain fine = plain_rows w word h fine
  flag_rows w word h refused fine = plain_rows w word h fine

  flag_word_fits : (w : Waiting) (word : Text) (h : Held) → flag_word_fault c again (long_of word) word h ≡ [] → Fine h
      → Fine (long_or_other c w word (long_of word) h).0
  flag_word_fits w word h none fine = go (long_of word) none
    where
      short : (o : Option Text) → option_map_or (λ flags. bundle_fault c again flags h) o [] ≡ []
          → Fine (short_or_plain c w word o h).0
      short None passed = plain_rows w word h fine
      short (Some flags) passed =
          flag_rows w word (bundle c flags h).0 (bundle c flags h).1
          (bundle_fits (length flags) flags h.skip plain (record h { skip = 0 }) passed fine)

      go : (o : Option (Text × Option Text)) → flag_word_fault c again o word h ≡ []
          → Fine (long_or_other c w word o h).0
      go (Some p) passed = flag_rows w word (long_met c (arg_by_long c p.0) p.1 h).0
          (long_met c (arg_by_long c p.0) p.1 h).1
          (long_fits _ (arg_by_long c p.0) p.1 h refl passed fine)
      go None passed = short (short_of word) passed

module _ (s : Shape) (names : Names) (sound : SoundAll s.rules s.rules) where
  word_fits : (is_trailing : Bool) (w : Waiting) (position : ℕ) (word : Text) (h : Held)
      → word_fault s names is_trailing w word h ≡ [] → FitAll s.rules h.rows
      → FitAll s.rules (word_met s.rules names is_trailing w position word h).0.rows
  word_fits true w position word h none fine = fine
  word_fits false w position word h none fine = go (subcommand_met names w word) none
    where
      other : (b : Bool) → cond b [] (flag_word_fault s.rules s.args_override_self (long_of word) word h) ≡ []
          → FitAll s.rules (cond b (h, trailing position) (long_or_other s.rules w word (long_of word) h)).0.rows
      other true passed = fine
      other false passed = flag_word_fits s.rules s.args_override_self sound w word h passed fine

      go : (o : Option Text) → other_fault s o word h ≡ []
          → FitAll s.rules (subcommand_or_other s.rules o w position word h).0.rows
      go (Some name) passed = fine
      go None passed = other (bytes_eq word (45 ∷ 45 ∷ [])) passed

  positional_fits : (a : Rule) (word : Text) (h : Held) → positional_fault s.rules s.args_override_self a h ≡ []
      → FitAll s.rules h.rows
      → FitAll s.rules (positional_held s.rules a word h).rows
  positional_fits a word h none fine = go (is_pending a h.pending && takes_several a) none
    where
      go : (b : Bool) → cond b [] (settle_fault s.rules s.args_override_self h) ≡ []
          → FitAll s.rules (cond b h (settled s.rules h)).rows
      go true passed = fine
      go false passed = settle_fits s.rules s.args_override_self sound h passed fine

  step_fits : (word : Text) (w : Walk) (h : Held) (taken : Step) → step_fault s w.position h taken ≡ []
      → FitAll s.rules h.rows
      → FitAll s.rules (after_step s.rules word w h taken).held.rows
  step_fits word w h (next waits_for) none fine = fine
  step_fits word w h (trailing position) none fine = fine
  step_fits word w h (subcommand name) none fine = fine
  step_fits word w h value none fine = go (arg_by_index s.rules w.position) none
    where
      go : (o : Option Rule) → option_map_or (λ a. positional_fault s.rules s.args_override_self a h) o (stray_fault s)
          ≡ []
          → FitAll s.rules (to_positional s.rules o word w h).held.rows
      go None passed = fine
      go (Some a) passed = positional_fits a word h passed fine

  turn_fits : (w : Walk) (word : Text) → turn_fault s names w word ≡ [] → FitAll s.rules w.held.rows
      → FitAll s.rules (walked s.rules names w word).held.rows
  unfolding walked
  turn_fits w word none fine = go w.stopped none
    where
      go : (o : Option (Text × List Text))
          → cond (is_some o) [] (or_else (word_fault s names w.is_trailing w.waiting word w.held)
          (step_fault s w.position (word_met s.rules names w.is_trailing w.waiting w.position word w.held).0
          (word_met s.rules names w.is_trailing w.waiting w.position word w.held).1)) ≡ []
          → FitAll s.rules (walked_from s.rules names o w word).held.rows
      go (Some p) passed = fine
      go None passed =
          let parts = or_nil _ _ passed in
          step_fits word w _ _ parts.1 (word_fits w.is_trailing w.waiting w.position word w.held parts.0 fine)

  walk_fits : (w : Walk) (words : List Text) → walk_fault s names w words ≡ [] → FitAll s.rules w.held.rows
      → FitAll s.rules (fold (walked s.rules names) w words).held.rows
  unfolding walk_fault
  walk_fits w [] none fine = fine
  walk_fits w (word ∷ rest) none fine =
      let parts = or_nil _ _ none in
      walk_fits (walked s.rules names w word) rest parts.1 (turn_fits w word parts.0 fine)

not_empty : (v : Text) (vs : List Text) → is_empty (v ∷ vs) ≡ false
not_empty v vs = ne_eqb _ _ (λ e. omega arith)

-- the defaults that fill up what was not given
defaults_fit : (c xs : List Rule) (rows : List Row) → SoundAll c xs → defaults_fault rows xs ≡ [] → FitAll c rows
    → FitAll c (fold with_default rows xs)
unfolding defaults_fault
defaults_fit c [] rows sound none fine = fine
defaults_fit c (a ∷ rest) rows sound none fine =
    let parts = or_nil _ _ none in
    defaults_fit c rest (with_default rows a) sound.1 parts.1 (go (has_row a.id rows) a.defaults refl parts.0)
  where
    go : (b : Bool) (values : List Text) → a.defaults ≡ values
        → cond (b || is_empty values) [] (given_default_fault a values) ≡ []
        → FitAll c (cond b rows (default_rows a.id (reading_by a) values rows))
    go true values is passed = fine
    go false [] is passed = fine
    go false (v ∷ vs) is passed =
        let given = or_nil (request_kinds (action_of a)) (values_fault a (v ∷ vs))
        (sym (ap (λ (b : Bool). cond b [] (given_default_fault a (v ∷ vs))) (not_empty v vs)) ∙ passed) in
        fit_with c a DefaultValue (v ∷ vs) rows sound.0.own given.1 (omega arith) fine

-- the options of a command in whose words nothing is at fault
pub level_fits : (s : Shape) (names : Names) (words : List Text) (has_subcommand : Bool) (below : Kinds)
    → SoundAll s.rules s.rules
    → level_fault s names nothing_held words has_subcommand below ≡ [] → FitAll s.rules (rows_after s.rules names words)
level_fits s names words has_subcommand below sound none =
    let after = or_nil _ _ none in
    let entered = or_nil _ _ after.1 in
    let settle = or_nil _ _ entered.1 in
    let defaults = or_nil _ _ settle.1 in
    let walked_rows = walk_fits s names sound (walk_from nothing_held) words after.0 tt in
    defaults_fit s.rules s.rules _ sound defaults.0
    (settle_fits s.rules s.args_override_self sound (walk s.rules names nothing_held words).held settle.0 walked_rows)

-- and what they want is given
pub level_checked : (s : Shape) (names : Names) (words : List Text) (has_subcommand : Bool) (below : Kinds)
    → level_fault s names nothing_held words has_subcommand below ≡ []
    → check_fault s (rows_after s.rules names words) has_subcommand ≡ []
level_checked s names words has_subcommand below none =
    let end = (walk s.rules names nothing_held words).held in
    let after = or_nil (walk_fault s names (walk_from nothing_held) words) _ none in
    let entered = or_nil below _ after.1 in
    let settle = or_nil (settle_fault s.rules s.args_override_self end) _ entered.1 in
    let defaults = or_nil (defaults_fault (settled s.rules end).rows s.rules) _ settle.1 in
    defaults.1
