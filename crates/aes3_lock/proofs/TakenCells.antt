-- Many cells that a lock takes part by part.
use Rattle.std.proofs.Common.{◌≡◌, ◌+◌, ◌-◌, ◌<◌, List, [], ◌++◌, length, take, refl, ap, ◌∙◌, sym, subst}
use Rattle.std.proofs.Common.{None, Some, Option, false, append-nil, append_assoc, arith, length-append}
use Rattle.std.specs.Prelude.{option_map, option_to_list}
use Rattle.std.specs.Option.{is_some}
use Rattle.std.proofs.Math.Seq.{take-append-add}
use Rattle.aes3_level.specs.declared.level.Level.{Level}
use Rattle.aes3_lock.specs.declared.report.Ending.{Ending}
use Rattle.aes3_lock.specs.Reports.{decided}
use Rattle.aes3_lock.specs.Following.{Follows, HeldBlock, LockState, report_in}
use Rattle.aes3_lock.specs.Taking.{TookCells}

-- no cells
pub took-none : (k : LockState) (line : List Level) → TookCells k k line line None
took-none k line = record {
  front = [];
  parts = refl;
  some = λ n. absurd (n refl);
  seen = omega arith;
  follows = λ c f. subst (Follows k) (sym (append-nil c)) f;
  report = λ c f. ap decided (append-nil c) ∙ sym (append-nil (decided c));
  last = λ n. absurd (n refl);
  held = λ c f. tt;
}

-- cells that decide nothing, and more
pub took-more : {i j k : LockState} {line mid rest : List Level} {ending : Option Ending}
    → TookCells i j line mid None → TookCells j k mid rest ending → TookCells i k line rest ending
took-more {k = k} {rest = rest} {ending = ending} s t = record {
  front = s.front ++ t.front;
  parts = s.parts ∙ ap (λ v. s.front ++ v) t.parts ∙ sym (append_assoc s.front t.front rest);
  some = λ n. let l = t.some n in let a = length-append s.front t.front in omega (arith, l, a);
  seen = let p = s.seen in let q = t.seen in let a = length-append s.front t.front in omega (arith, p, q, a);
  follows = λ c f. subst (Follows k) (append_assoc c s.front t.front) (t.follows (c ++ s.front) (s.follows c f));
  report = λ c f. ap decided (sym (append_assoc c s.front t.front)) ∙ t.report (c ++ s.front) (s.follows c f)
      ∙ ap (λ x. x ++ option_to_list (option_map (report_in k) ending)) (s.report c f ∙ append-nil (decided c));
  last = λ n c f.
      let l = t.some n in
      let a = length-append s.front t.front in
      ap (λ m. decided (c ++ take m (s.front ++ t.front)))
      (let m : length (s.front ++ t.front) - 1 ≡ length s.front + (length t.front - 1) = omega (arith, l, a) in m)
      ∙ ap (λ v. decided (c ++ v)) (take-append-add s.front t.front (length t.front - 1))
      ∙ ap decided (sym (append_assoc c s.front (take (length t.front - 1) t.front)))
      ∙ t.last n (c ++ s.front) (s.follows c f) ∙ s.report c f ∙ append-nil (decided c);
  held = λ c f. subst (λ v. HeldBlock k.words v ending) (append_assoc c s.front t.front)
      (t.held (c ++ s.front) (s.follows c f));
}

-- the same of cells that are equal
pub took-same : {j k : LockState} {line mid rest : List Level} {ending : Option Ending} → mid ≡ line
    → TookCells j k mid rest ending → TookCells j k line rest ending
took-same {j} {k} {rest = rest} {ending = ending} e t = subst (λ (d : List Level). TookCells j k d rest ending) e t

-- no ending
none-of : (o : Option Ending) → is_some o ≡ false → o ≡ None
none-of None e = refl
none-of (Some x) e = cc

pub took-nothing : {j k : LockState} {line rest : List Level} (ending : Option Ending) → is_some ending ≡ false
    → TookCells j k line rest ending → TookCells j k line rest None
took-nothing {j} {k} {line} {rest} ending e t = subst (TookCells j k line rest) (none-of ending e) t

-- it took one at least
pub took-some : {j k : LockState} {line rest : List Level} {ending : Option Ending} (t : TookCells j k line rest ending)
    → length rest < length line → 0 < length t.front
took-some {rest = rest} t h =
    let e = ap length t.parts in
    let a = length-append t.front rest in
    omega (arith, h, e, a)
