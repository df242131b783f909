use Rattle.std.proofs.Common.{◌≡◌, ◌++◌, ◌∙◌, ap, refl, sym, take, rules}
use Rattle.std.proofs.lemmas.List.{length-take-le, take-append-le}
use Rattle.aes3_capture_laws.proofs.Streams.{many-subframes}
use Rattle.aes3_capture_laws.proofs.follower_of_blocks.Goals as goal

pub returns : goal.returns
returns c = λ narrow spread late later displaced bs line all w e.
    let front : take 256 line ≡ take 256 (line ++ w.rest) = sym (take-append-le 256 line w.rest w.many) in
    let many = many-subframes bs w.from 256 (take 256 line) w.blocks (front ∙ ap (take 256) w.line_is)
    (length-take-le 256 line w.many) refl in
    c.follower_of_runs.ensures.cells narrow spread late later many.0 many.1 displaced line all
    (record { spreads = w.spreads; first = w.first; many = many.2; findable = w.findable }) e (search rules)
