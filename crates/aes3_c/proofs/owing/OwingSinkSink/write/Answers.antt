use Rattle.std.proofs.Common.{◌++◌, ◌<◌, ◌∙◌, List, ℕ, ap, sym, subst, inl, inr}
use Rattle.std.proofs.lemmas.Bool.{cases_Bool}
use Rattle.aes3_c.specs.Owed.{stretched}
use Rattle.aes3_c.proofs.Stretches.{still-many}
use Rattle.aes3_c.proofs.owing.OwingSinkSink.write.Goals as goal

pub invariant_of-self : goal.invariant_of-self
invariant_of-self g c =
    let old = c.args.self.now in
    record {
      first = c.owe_rest-self.ensures.first;
      fewest = c.owe_rest-self.ensures.fewest;
      owes = λ is. c.owe_rest-self.ensures.owes is
          ∙ ap (λ l. l ++ c.args.buf.now) (old.owes (c.owe_rest-self.ensures.fits is))
          ∙ sym c.and-self.ensures;
      many = λ left. subst (λ (l : List ℕ). 1024 < (stretched l).many) (sym c.and-self.ensures) (elim (cases_Bool old.fits) [
        | inl fits ↦ subst (λ (l : List ℕ). 1024 < (stretched l).many) (ap (λ l. l ++ c.args.buf.now) (old.owes fits))
            (c.owe_rest-self.ensures.many left fits)
        | inr over ↦ still-many 1024 old.given.octets c.args.buf.now (old.many over)
      ]);
    }
