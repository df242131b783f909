-- A report on cells that a lock took.
use Rattle.std.proofs.Common.{◌≡◌, ℕ, ◌-◌, ◌^◌, ◌++◌, List, take, sym, ap, ◌∙◌, subst, append-nil, arith}
use Rattle.std.specs.Prelude.{Option, min, option_map, option_to_list}
use Rattle.aes3_level.specs.declared.level.Level.{Level}
use Rattle.aes3_lock.specs.Following.{Follows, LockState, report_in}
use Rattle.aes3_lock.specs.Reports.{decided}
use Rattle.aes3_lock.specs.declared.report.Report.{Report}
use Rattle.aes3_c.specs.States.{Coded, block_in, told_of}
use Rattle.aes3_c.specs.Taking.{TookAndReported, TookFirst}
use Rattle.aes3_c.specs.declared.report_record.Aes3Report.{Aes3Report}
use Rattle.aes3_c.specs.declared.taking.Took.{Took}
use Rattle.aes3_c.proofs.Told.{coded-none, ending-told, none-told-of, told-none}

-- no cell was taken, as none came or the lock takes no more
pub none-reported : (k : LockState) (line : List Level) (len : ℕ) {before after : Aes3Report}
    → after.words ≡ before.words → min len (2 ^ 43 - k.seen) ≡ 0 → after.kind ≡ 0 → TookAndReported k k line len 0 before after
none-reported k line len {after = after} words none kind = record {
  within = omega arith;
  all = λ _. sym none;
  seen = omega arith;
  follows = λ c f. subst (Follows k) (sym (append-nil c)) f;
  report = λ c f. ap decided (append-nil c) ∙ sym (append-nil (decided c))
      ∙ ap (λ (o : Option Report). decided c ++ option_to_list o) (sym (told-none after (block_in k) kind));
  last = λ some. absurd (some kind);
  codes = coded-none after (block_in k) kind;
  words = words;
}

-- some were taken, by a lock that was given others which begin with them
pub front-reported : (old new : LockState) (front line : List Level) (most len : ℕ) (took : Took) {before after : Aes3Report}
    → after.words ≡ before.words → Coded (option_map (report_in new) took.ending) after
    → told_of (block_in new) after ≡ option_map (report_in new) took.ending
    → TookFirst old new front most took → most ≡ min len (2 ^ 43 - old.seen)
    → ((n : ℕ) → take n front ≡ take n line)
    → TookAndReported old new line len took.cells before after
front-reported old new front line most len took {after = after} words codes told t e same = record {
  within = let w = t.within in omega (arith, w, e);
  all = λ none. t.all (ending-told (report_in new) after took.ending none codes) ∙ e;
  seen = t.seen;
  follows = λ c f. subst (λ (d : List Level). Follows new (c ++ d)) (same took.cells) (t.follows c f);
  report = λ c f. ap (λ d. decided (c ++ d)) (sym (same took.cells)) ∙ t.report c f
      ∙ ap (λ (o : Option Report). decided c ++ option_to_list o) (sym told);
  last = λ some c f. ap (λ d. decided (c ++ d)) (sym (same (took.cells - 1)))
      ∙ t.last (none-told-of (report_in new) after took.ending some codes) c f;
  codes = subst (λ (o : Option Report). Coded o after) (sym told) codes;
  words = words;
}

-- the same of locks that are kept in other numbers
pub kept-reported : {j k old new : LockState} {line : List Level} {len taken : ℕ} {before after : Aes3Report} → j ≡ old → new ≡ k
    → TookAndReported j k line len taken before after → TookAndReported old new line len taken before after
kept-reported {k = k} {old} {line = line} {len} {taken} {before} {after} p q t =
    subst (λ (v : LockState). TookAndReported old v line len taken before after) (sym q)
    (subst (λ (v : LockState). TookAndReported v k line len taken before after) p t)
