-- The text of a picture.
use Rattle.std.specs.Prelude.{ℕ, List, ◌++◌, ◌≡◌, codes}

-- the text begins so, by which a picture is recognised
pub record IsPicture (text : List ℕ) : Type 0 where
  pub rest : List ℕ
  pub is : text ≡ codes "<svg " ++ rest
