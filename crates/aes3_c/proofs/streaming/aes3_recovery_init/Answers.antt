use Rattle.std.proofs.Common.{◌∙◌, List, ℕ, [], Some, arith, subst, sym}
use Rattle.aes3_capture_recovery.proofs.Taking.{took-none}
use Rattle.aes3_c.specs.Streaming.{TookOctets, told_itself}
use Rattle.aes3_c.proofs.streaming.aes3_recovery_init.Goals as goal

pub returns-clause-taking : goal.returns-clause-taking
returns-clause-taking c =
    let known = c.known_of.ensures in
    let first = c.new.result in
    record {
      first = first;
      fresh = record {
        recovered = λ setting form is. c.new.ensures.recovered setting form (is ∙ sym known);
        awaits = λ setting form is none. c.new.ensures.awaits setting form (is ∙ sym known) (known ∙ none);
      };
      now = first;
      kept_is = sym c.parts-recovery.ensures;
      took = subst (λ (l : List ℕ). TookOctets first first [] l []) (sym c.owe_nothing.ensures.none)
          (took-none told_itself first (Some []));
      goes_on = omega (arith);
    }
