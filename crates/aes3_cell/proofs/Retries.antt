-- What a device met, tried again and again.
use Rattle.std.proofs.Common.{◌≡◌, ◌+◌, ◌<◌, ◌≤◌, ℕ, List, [], ◌∷◌, ◌++◌, Option, Some, Ok, Err, replicate, ap, ◌∙◌, arith}
use Rattle.std.proofs.Common.{append_assoc, append-nil}
use Rattle.std.proofs.lemmas.List.{replicate_more}
use Rattle.aes3_cell.specs.Attempts.{Met, Retried, tries}
use Rattle.aes3_cell.specs.declared.attempts.Trouble.{Trouble}
use Rattle.aes3_cell.specs.declared.attempts.Trouble.TheVariants.{Interrupted, Failed}

pub met-join : {a b d : Option (List Trouble)} {x y : List Trouble} → Met a b x → Met b d y → Met a d (x ++ y)
met-join {x} {y} g h = record { by = λ xs e. h.by (xs ++ x) (g.by xs e) ∙ ap Some (append_assoc xs x y) }

pub met-is : {a b : Option (List Trouble)} {x y : List Trouble} → x ≡ y → Met a b x → Met a b y
met-is e g = record { by = λ xs h. g.by xs h ∙ ap (λ z. Some (xs ++ z)) e }

-- one more interruption
pub met-more : {a b d : Option (List Trouble)} (n : ℕ) → Met a b (replicate n Interrupted)
    → Met b d (Interrupted ∷ []) → Met a d (replicate (n + 1) Interrupted)
met-more n g h = met-is (replicate_more n Interrupted) (met-join g h)

-- an answer behind them
pub met-answered : {a b d : Option (List Trouble)} {x : List Trouble} → Met a b x → Met b d [] → Met a d x
met-answered {x} g h = met-is (append-nil x) (met-join g h)

pub retried-ok : {A E : Type 0} {a b d : Option (List Trouble)} {r : A} (n : ℕ) → n ≤ tries
    → Met a b (replicate n Interrupted) → Met b d [] → Retried {E = E} a d (Ok r)
retried-ok n w g h = record { interrupted = n; within = w; ok = met-answered g h; failed = tt; none_left = tt }

pub retried-failed : {A E : Type 0} {a b d : Option (List Trouble)} {t : Trouble} {f : E} (n : ℕ) → n < tries → t ≡ Failed
    → Met a b (replicate n Interrupted) → Met b d (t ∷ []) → Retried {A = A} a d (Err f)
retried-failed n l e g h = record {
  interrupted = n;
  within = omega arith;
  ok = tt;
  failed = λ _. met-join g (met-is (ap (λ t. t ∷ []) e) h);
  none_left = λ e. absurd (omega arith);
}

-- it was interrupted each time
pub retried-each : {A E : Type 0} {a b : Option (List Trouble)} {f : E} (n : ℕ) → n ≤ tries → tries ≤ n
    → Met a b (replicate n Interrupted) → Retried {A = A} a b (Err f)
retried-each n w o g = record { interrupted = n; within = w; ok = tt; failed = λ l. absurd (omega arith); none_left = λ _. g }
