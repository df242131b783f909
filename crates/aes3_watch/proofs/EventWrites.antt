-- Events that are written.
use Rattle.std.proofs.Common.{◌≡◌, ℕ, zero, suc, ◌<◌, List, [], ◌∷◌, ◌++◌, Option, Result, Ok, Err, IfOk, length}
use Rattle.std.proofs.Common.{take, drop, get_or, refl, sym, ap, ◌∙◌, ◌+◌, append-nil, append_assoc, arith}
use Rattle.std.proofs.lemmas.Grind.{flat_map-append}
use Rattle.std.proofs.lemmas.List.{take_more}
use Rattle.aes3_cell.specs.Ends.{GrewFront}
use Rattle.aes3_cell.specs.Writes.{Wrote}
use Rattle.aes3_text_lines.specs.declared.event.Event.{Event}
use Rattle.aes3_status.specs.declared.style.Style.{Style}
use Rattle.aes3_text_lines.specs.Events.{event_line}
use Rattle.aes3_watch.specs.Watching.{event_lines}

-- bytes of which a front was taken, before a failure
pub wrote-failed : {A R E : Type 0} {taken : A → Option (List ℕ)} {failed : A → ℕ} {old new : A} {x : List ℕ} {e : E}
    → failed new ≡ failed old + 1 → GrewFront (taken old) (taken new) x
    → Wrote {R = R} taken failed old new x (Err e)
wrote-failed q f = record { grew = tt; no_failure = tt; err = (q, f) }

-- what follows from two facts of a call's answer
pub if-both : {R E A B C : Type 0} (r : Result R E) → (A → B → C) → IfOk r (λ (_ : R). A) → IfOk r (λ (_ : R). B)
    → IfOk r (λ (_ : R). C)
if-both (Ok v) f a b = f a b
if-both (Err e) f a b = tt

-- lines before an event, its own, and those behind it
pub split-lines : (style : Style) (es : List Event) (k : ℕ) (d : Event) → k < length es
    → (event_lines style (take k es) ++ event_line style (get_or es k d)) ++ event_lines style (drop (suc k) es)
    ≡ event_lines style es
split-lines style [] k d h = absurd (omega arith)
split-lines style (e ∷ es) zero d h = refl
split-lines style (e ∷ es) (suc k) d h =
    append_assoc (event_line style e ++ event_lines style (take k es)) (event_line style (get_or es k d))
    (event_lines style (drop (suc k) es))
    ∙ append_assoc (event_line style e) (event_lines style (take k es))
    (event_line style (get_or es k d) ++ event_lines style (drop (suc k) es))
    ∙ ap (λ z. event_line style e ++ z)
    (sym (append_assoc (event_lines style (take k es)) (event_line style (get_or es k d))
    (event_lines style (drop (suc k) es)))
    ∙ split-lines style es k d (omega arith))

-- and those of one more
pub more-lines : (style : Style) (es : List Event) (k : ℕ) (d : Event) → k < length es
    → event_lines style (take k es) ++ event_line style (get_or es k d) ≡ event_lines style (take (k + 1) es)
more-lines style es k d h =
    ap (λ z. event_lines style (take k es) ++ z) (sym (append-nil (event_line style (get_or es k d))))
    ∙ sym (flat_map-append (event_line style) (take k es) (get_or es k d ∷ []))
    ∙ ap (event_lines style) (sym (take_more es k d h))

-- events put behind none, and more behind those
pub put-one : {A : Type 0} {none one told : List A} (a : List A) → told ≡ one → one ≡ none ++ a → none ≡ [] → told ≡ a
put-one a e f n = e ∙ f ∙ ap (λ z. z ++ a) n

pub put-two : {A : Type 0} {none one two told : List A} (a b : List A) → told ≡ two → two ≡ one ++ b → one ≡ none ++ a
    → none ≡ [] → told ≡ a ++ b
put-two a b e g f n = e ∙ g ∙ ap (λ z. z ++ b) (f ∙ ap (λ z. z ++ a) n)
