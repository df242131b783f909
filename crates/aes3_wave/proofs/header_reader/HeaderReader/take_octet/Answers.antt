use Rattle.std.proofs.Common.{◌≡◌, ◌+◌, ◌-◌, ◌++◌, [], ◌∷◌, Ok, sym, subst, take, length, set, arith}
use Rattle.std.proofs.lemmas.List.{length-take-le, take_more_set, length-set}
use Rattle.std.proofs.lemmas.Result.{err_from_is_err_and}
use Rattle.aes3_wave.specs.declared.header_reader.Stage.TheVariants.{Chunks}
use Rattle.aes3_wave.specs.Following.{Decided, FollowsAt}
use Rattle.aes3_wave.proofs.Following.{octet-more, octet-next, octet-refused, octet-whole}
use Rattle.aes3_wave.proofs.header_reader.HeaderReader.take_octet.Goals as goal

pub returns-in_err-decide-clause-took : goal.returns-in_err-decide-clause-took
returns-in_err-decide-clause-took c =
    let s = c.args.self.now in
    let p = err_from_is_err_and c.from_residual.result c.from_residual.ensures.1 in
    rw (p.1, p.2) (λ b w. octet-refused s.seen s.stage s.at (take s.len s.held) _ s.left b c.args.octet _ w
    c.requires.none c.requires.open (take_more_set s.held s.len c.args.octet (omega arith))
    (c.in_err-decide.ensures.decided c.requires.open))

pub returns-in-More-clause-took : goal.returns-in-More-clause-took
returns-in-More-clause-took c =
    let s = c.args.self.now in
    let g = take (s.len + 1) (set s.held s.len c.args.octet) in
    let d = subst (λ t. Decided s.stage s.at g (Ok t)) c.in-More.is (c.in_ok-decide.ensures.decided c.requires.open) in
    λ b w. octet-more s.seen s.stage s.at (take s.len s.held) g s.left b c.args.octet w c.requires.none c.requires.open
    (take_more_set s.held s.len c.args.octet (omega arith)) d.1

pub returns-in-Next-clause-took : goal.returns-in-Next-clause-took
returns-in-Next-clause-took c =
    let s = c.args.self.now in
    let x = c.args.octet in
    let g = take (s.len + 1) (set s.held s.len x) in
    let d = subst (λ t. Decided s.stage s.at g (Ok t)) c.in-Next.is (c.in_ok-decide.ensures.decided c.requires.open) in
    let l = length-take-le s.len s.held (omega arith) in
    let m = length-set s.held s.len x in
    let n = length-take-le (s.len + 1) (set s.held s.len x) (omega arith) in
    let left : c.saturating_sub-self.result ≡ c.in-Next.part - length g = omega (arith, c.saturating_sub-self.ensures) in
    λ b w. subst (λ v. FollowsAt (s.seen + 1) (Chunks c.in-Next.known) (s.seen + 1 + v) [] v (b ++ x ∷ [])) (sym left)
    (octet-next s.seen s.stage s.at (take s.len s.held) g s.left b x c.in-Next.known c.in-Next.part w
    c.requires.none c.requires.open (take_more_set s.held s.len x (omega arith)) (omega arith) d)

pub returns-in-Samples-clause-took : goal.returns-in-Samples-clause-took
returns-in-Samples-clause-took c =
    let s = c.args.self.now in
    let x = c.args.octet in
    let g = take (s.len + 1) (set s.held s.len x) in
    let d = subst (λ t. Decided s.stage s.at g (Ok t)) c.in-Samples.is (c.in_ok-decide.ensures.decided c.requires.open) in
    let l = length-take-le s.len s.held (omega arith) in
    λ b w. octet-whole s.seen s.stage s.at (take s.len s.held) g s.left b x c.in-Samples.header _ _ w
    c.requires.none c.requires.open (take_more_set s.held s.len x (omega arith)) (omega arith) d
