use Rattle.std.proofs.Common.{◌≡◌, ◌∙◌, ◌++◌, ◌∷◌, [], ◌+◌, ◌-◌, ◌<◌, ◌≤◌, ap, sym, refl, arith, get_or, slice_index_or}
use Rattle.aes3_c.proofs.OwedOctets.{owed-all, owes-longer, owes-new}
use Rattle.aes3_c.proofs.Stretches.{fewest-longer, fewest-new, too-many-begun, too-many-there}
use Rattle.aes3_c.proofs.owed.owe.Goals.{Joined-else-len-gt0, else-len-gt0-via-then-len-gt0+then-owed-len+else-owed-len-lt4294967295, else-len-gt0-via-then-len-gt0+else-owed-len, else-len-gt0-via-else-len-gt0}
use Rattle.aes3_c.proofs.owed.owe.Goals as goal

pub returns-then-owed-len-lt4294967295-clause-owes :
    goal.returns-then-owed-len-lt4294967295-clause-owes
returns-then-owed-len-lt4294967295-clause-owes c = λ is.
    let o = c.args.owed.now in
    let some = c.if-len-gt0.true in
    let most = c.if-len-gt-STRETCHES.false in
    owed-all _ c.requires.first
    ∙ owes-longer o.octets o.counts o.len (o.len - 1) (slice_index_or o.counts (o.len - 1) 0) _ c.args.octet
    (omega (arith, some)) (omega (arith, some, most)) (omega arith) c.if-owed-len.true refl (omega arith)
    ∙ ap (λ l. l ++ c.args.octet ∷ []) (sym (owed-all o c.requires.first))

pub returns-clause-owes : goal.returns-clause-owes
returns-clause-owes c = λ is.
    let o = c.args.owed.now in
    let most = c.if-len-gt-STRETCHES.false in
    let full = c.if-len-eq-STRETCHES.false in
    owed-all _ c.requires.first
    ∙ owes-new o.octets o.counts o.len (o.len + 1) c.args.octet (omega (arith, most, full)) (omega arith) refl
    ∙ ap (λ l. l ++ c.args.octet ∷ []) (sym (owed-all o c.requires.first))

pub returns-then-len-gt-STRETCHES-clause-many : goal.returns-then-len-gt-STRETCHES-clause-many
returns-then-len-gt-STRETCHES-clause-many c = λ _.
    let over = c.if-len-gt-STRETCHES.true in
    too-many-there c.args.owed.now c.args.octet c.requires.fewest (omega (arith, over))

pub returns-then-owed-len-lt4294967295-clause-fewest : goal.returns-then-owed-len-lt4294967295-clause-fewest
returns-then-owed-len-lt4294967295-clause-fewest c =
    let o = c.args.owed.now in
    let some = c.if-len-gt0.true in
    let most = c.if-len-gt-STRETCHES.false in
    fewest-longer o _ c.args.octet (slice_index_or o.counts (o.len - 1) 0) _ c.requires.fewest (omega (arith, some))
    (omega (arith, most)) c.if-owed-len.true refl c.if-owed-len-lt4294967295.true refl refl refl refl
    (returns-then-owed-len-lt4294967295-clause-owes c refl)

-- what ends the last stretch
ends : (c : Joined-else-len-gt0) → 0 < c.args.owed.now.len
    → get_or c.args.owed.now.octets (c.args.owed.now.len - 1) 0 ≡ c.args.octet
    → 4294967295 ≤ get_or c.args.owed.now.counts (c.args.owed.now.len - 1) 0
ends c some same = elim c.else-len-gt0.branch [
  | else-len-gt0-via-then-len-gt0+then-owed-len+else-owed-len-lt4294967295 w ↦
      let full = w.if-owed-len-lt4294967295.false in omega (arith, full)
  | else-len-gt0-via-then-len-gt0+else-owed-len w ↦ absurd (w.if-owed-len.false same)
  | else-len-gt0-via-else-len-gt0 w ↦ let none = w.if-len-gt0.false in absurd (omega (arith, none, some))
]

pub returns-then-len-eq-STRETCHES-clause-many : goal.returns-then-len-eq-STRETCHES-clause-many
returns-then-len-eq-STRETCHES-clause-many c = λ _.
    let full = c.if-len-eq-STRETCHES.true in
    too-many-begun c.args.owed.now c.args.octet c.requires.fewest
    (ends (goal.at.returns-then-len-eq-STRETCHES-clause-many c).Joined-else-len-gt0) (omega (arith, full))

pub returns-clause-fewest : goal.returns-clause-fewest
returns-clause-fewest c =
    let o = c.args.owed.now in
    let most = c.if-len-gt-STRETCHES.false in
    let full = c.if-len-eq-STRETCHES.false in
    fewest-new o _ c.args.octet c.requires.fewest (ends (goal.at.returns-clause-fewest c).Joined-else-len-gt0)
    (omega (arith, most, full)) (omega arith) refl refl refl (returns-clause-owes c refl)
