-- Errors of one more value, and of one more option.
use Rattle.std.proofs.Common.{◌≡◌, ◌∙◌, ◌<◌, ◌+◌, ◌++◌, ◌∷◌, ℕ, List, [], ap, get_or, length, map, sym, take}
use Rattle.std.specs.List.{flat_map}
use Rattle.std.proofs.lemmas.List.{flat_map_more, map-append, take_more}

-- what the first values of an option say, and one more
pub one_more : {X Y A : Type 0} (f : Y → List A) (g : X → Y) (base mid now : List A) (xs : List X) (i : ℕ) (d : X)
    → i < length xs → mid ≡ base ++ flat_map f (map g (take i xs)) → now ≡ mid ++ f (g (get_or xs i d))
    → now ≡ base ++ flat_map f (map g (take (i + 1) xs))
one_more f g base mid now xs i d below old new =
    let y = g (get_or xs i d) in
    let more : map g (take (i + 1) xs) ≡ map g (take i xs) ++ y ∷ [] =
    ap (map g) (take_more xs i d below) ∙ map-append g (take i xs) (get_or xs i d ∷ []) in
    new ∙ (ap (λ e. e ++ f y) old
    ∙ (flat_map_more f base (map g (take i xs)) y ∙ sym (ap (λ ys. base ++ flat_map f ys) more)))

-- what the first options say, and one more
pub one_more_of : {X A : Type 0} (f : X → List A) (mid now : List A) (xs : List X) (i : ℕ) (d : X)
    → i < length xs → mid ≡ flat_map f (take i xs) → now ≡ mid ++ f (get_or xs i d)
    → now ≡ flat_map f (take (i + 1) xs)
one_more_of f mid now xs i d below old new =
    new ∙ (ap (λ e. e ++ f (get_or xs i d)) old
    ∙ (flat_map_more f [] (take i xs) (get_or xs i d) ∙ sym (ap (flat_map f) (take_more xs i d below))))
