-- What a taker writes of what it takes: cells, or the reports on cells, one by one.
use Rattle.std.specs.Prelude.{ℕ, List, [], ◌∷◌, ◌++◌}

-- the bytes that one more item writes behind items, and those that the end writes
pub record Writing (A : Type 0) : Type 0 where
  pub adds : List A → A → List ℕ
  pub ends : List A → List ℕ

-- What a taker of items is at one moment.
-- writes: what the items write that come
-- follows: what holds of the items that it has taken
-- finished: what holds of all items, once it has taken their end
pub record TakerState (A : Type 0) : Type 1 where
  pub writes : Writing A
  pub follows : List A → Type 0
  pub finished : List A → Type 0

-- what the items d write behind the items c
abbrev pub behind : {A : Type 0} → Writing A → List A → List A → List ℕ
behind w c [] = []
behind w c (x ∷ d) = w.adds c x ++ behind w (c ++ x ∷ []) d

-- what items write without their end, and with it
unfoldable pub before_end : {A : Type 0} → Writing A → List A → List ℕ
before_end w c = behind w [] c

unfoldable pub with_end : {A : Type 0} → Writing A → List A → List ℕ
with_end w c = before_end w c ++ w.ends c
