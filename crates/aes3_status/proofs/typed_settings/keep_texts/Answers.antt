use Rattle.std.proofs.Common.{◌≡◌, min}
use Rattle.std.proofs.Common.{◌∙◌, ◌++◌, map, take, ℕ, List, length, Bor, Result, Ok, Err, IsOk, OnOk, sym, ap, arith}
use Rattle.std.proofs.lemmas.List.{length-take, take-map, take_min}
use Rattle.aes3_status.proofs.typed_settings.keep_texts.Goals as goal

is_ok : {A E P : Type 0} (r : Result A E) → IsOk r → OnOk r P → P
is_ok (Ok v) i p = p
is_ok (Err e) i p = absurd cc

pub returns : goal.returns
returns c =
    let texts = c.args.texts.now in
    let few = length-take c.min.result texts in
    let none = ap length c.new-kept.ensures in
    let fewest : c.min.result ≡ min 32 (length texts) = omega (arith, c.min.ensures) in
    let all = is_ok c.try_extend_from_slice.result
    (c.try_extend_from_slice.ensures.variant.1 (omega (arith, few, none, c.min.ensures)))
    c.try_extend_from_slice.ensures.ok in
    let first = ap (λ (xs : List (Bor (List ℕ))). xs ++ take c.min.result texts) c.new-kept.ensures
    ∙ ap (λ k. take k texts) fewest ∙ take_min 32 texts in
    ap (map (λ (text : Bor (List ℕ)). text.now)) (all ∙ first)
    ∙ sym (take-map (λ (text : Bor (List ℕ)). text.now) 32 texts)
