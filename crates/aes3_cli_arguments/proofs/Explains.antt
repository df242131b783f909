-- Which words behind `--explain` can be explained.
use Rattle.std.proofs.Common.{◌≡◌, ◌<◌, ◌∙◌, List, [], ◌∷◌, ◌++◌, length, ◌-◌, take, drop, codes, true, false, Bor, inl}
use Rattle.std.proofs.Common.{inr, map, ap, sym, true≢false, arith}
use Rattle.std.proofs.lemmas.List.{take_all}
use Rattle.std.proofs.lemmas.Slice.Eq.{bytes_eq-Decides}
use Rattle.clap.specs.Walk.{Text}
use Rattle.aes3_cli_arguments.specs.Explained.{AsksToExplain, CanBeExplained, IsExplanation, asks_to_explain}
use Rattle.aes3_cli_arguments.specs.Jobs.{AskNothing, IsFaultOf}
use Rattle.aes3_cli_arguments.specs.declared.command_job.LineFault.{LineFault}

-- not more than one
pub many : (words : List (Bor Text)) → 1 < length words → ¬ CanBeExplained (map (λ word. word.now) words)
many [] h can = absurd (omega (arith, h))
many (word ∷ []) h can = absurd (omega (arith, h))
many (word ∷ next ∷ words) h can = absurd (filled can.0)
  where
    filled : {t : Text} {ts : List Text} → t ∷ ts ≡ [] → ⊥
    filled e = cc

-- the first word asks for what stands behind it
pub behind_word : (words : List (Bor Text)) → true ≡ asks_to_explain (map (λ word. word.now) words)
    → AsksToExplain (map (λ word. word.now) words) (map (λ word. word.now) (take (length words - 1) (drop 1 words)))
behind_word [] e = absurd (true≢false e)
behind_word (word ∷ words) e =
    let all : take (length (word ∷ words) - 1) words ≡ words
    = take_all (length (word ∷ words) - 1) words (omega arith) in
    inl (ap (λ (t : Text). t ∷ map (λ word. word.now) words) ((bytes_eq-Decides word.now (codes "--explain")).0 (sym e))
    ∙ ap (λ (behind : List (Bor Text)). codes "--explain" ∷ map (λ word. word.now) behind) (sym all))

-- words that ask for nothing
pub unasked : (words : List Text) → false ≡ asks_to_explain words
    → ((number : Text) → ¬ (words ≡ (codes "--explain=" ++ number) ∷ [])) → AskNothing words
unasked words e none texts asks = elim asks [
  | inl is ↦ absurd (true≢false (sym (ap asks_to_explain is) ∙ sym e))
  | inr alone ↦ none alone.0 alone.1
]

pub told_of : (words texts : List Text) (told : LineFault) → AsksToExplain words texts → IsExplanation texts told
    → IsFaultOf words told
told_of words texts told asks is = inl (texts, asks, is)
