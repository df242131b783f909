-- The texts that set fields of a channel, as a command's options have them.
use Rattle.std.proofs.Common.{◌≡◌, ◌∙◌, ◌++◌, List, [], ◌∷◌, map, Bor, Some, None, codes, sym, ap, ap₂}
use Rattle.std.proofs.lemmas.List.{append-nil, map-append}
use Rattle.clap.specs.Walk.{Text}
use Rattle.aes3_cli_arguments.specs.Jobs.{Options, rate_named, rate_texts, texts_by, texts_for}

-- the texts behind references
abbrev pub read : List (Bor Text) → List Text
read = map (λ (text : Bor Text). text.now)

-- those for both channels and then those of one
pub joined : (none first all both own : List (Bor Text)) → none ≡ [] → first ≡ none ++ both → all ≡ first ++ own
    → read all ≡ read both ++ read own
joined none first all both own empty then next =
    ap read (next ∙ ap (λ v. v ++ own) (then ∙ ap (λ v. v ++ both) empty))
    ∙ map-append (λ (text : Bor Text). text.now) both own

-- the same, with those of a sampling frequency after them
pub with_rate : (options : Options) (name : Text) (all both own texts : List (Bor Text)) (cleared rate : Bor Text)
    → read all ≡ read both ++ read own
    → read both ≡ texts_by options (codes "set") → read own ≡ texts_by options name
    → cleared.now ≡ codes "rate=not-indicated" → rate_named options ≡ Some rate.now → texts ≡ all ++ cleared ∷ rate ∷ []
    → read texts ≡ texts_for options name
unfolding texts_for
with_rate options name all both own texts cleared rate joined first second clears named more =
    ap read more ∙ map-append (λ (text : Bor Text). text.now) all (cleared ∷ rate ∷ [])
    ∙ ap₂ ◌++◌ (joined ∙ ap₂ ◌++◌ first second) (ap (λ v. v ∷ rate.now ∷ []) clears ∙ sym (ap rate_texts named))

pub without_rate : (options : Options) (name : Text) (all both own : List (Bor Text))
    → read all ≡ read both ++ read own
    → read both ≡ texts_by options (codes "set") → read own ≡ texts_by options name
    → rate_named options ≡ None
    → read all ≡ texts_for options name
unfolding texts_for
without_rate options name all both own joined first second named =
    joined ∙ ap₂ ◌++◌ first second ∙ sym (append-nil (texts_by options (codes "set") ++ texts_by options name))
    ∙ ap (λ v. (texts_by options (codes "set") ++ texts_by options name) ++ v) (sym (ap rate_texts named))
