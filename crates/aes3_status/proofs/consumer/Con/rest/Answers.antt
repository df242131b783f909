use Rattle.std.proofs.Common.{ap, ◌∙◌, take, drop, List, ℕ, rules}
use Rattle.aes3_status.specs.Bits.{bytes_field}
use Rattle.aes3_status.proofs.consumer.Con.rest.Goals as goal

pub returns : goal.returns
unfolding bytes_field
returns c = c.copy_from_slice.ensures.after ∙ search rules ∙ ap (λ (b : List ℕ). take 19 (drop 5 b)) c.self.view_is
