use Rattle.std.proofs.Common.{rules, ◌≡◌, ◌∙◌, ◌+◌, ◌-◌, ◌*◌, ◌++◌, [], append-nil, append_assoc, sym, ap, length}
use Rattle.std.proofs.Common.{take, drop, arith}
use Rattle.std.proofs.lemmas.List.{take_all}
use Rattle.std.proofs.lemmas.Slice.{overwrites, take-put_mid}
use Rattle.aes3_forms_samples.specs.Formats.{block_len, sample_len, widened}
use Rattle.aes3_forms_samples.proofs.Formats.{all-left, none-left}
use Rattle.aes3_forms_samples.proofs.sample_format.SampleFormat.widen_each.Goals as goal

pub loop-i-init : goal.loop-i-init
loop-i-init c = record {
  len = omega arith;
  done = all-left c.args.self (take (block_len c.args.self) c.args.octets.now);
}

pub loop-i-preserved : goal.loop-i-preserved
loop-i-preserved c =
    let i = c.loop-i.i in
    let len = c.loop-i.invariant.len in
    let ys = c.copy_from_slice.new.self in
    let one = c.copy_from_slice.ensures.after in
    let count : length ys ≡ 4 = ap length one ∙ omega arith in
    let k = 4 * i + 4 - 4 * i in
    let left = widened c.args.self (drop (sample_len c.args.self * (i + 1))
    (take (block_len c.args.self) c.args.octets.now)) in
    record {
      len = search (rules, overwrites);
      done = ap (λ v. v ++ left) (take-put_mid (4 * i) k c.loop-i.wide ys (4 * (i + 1)) (omega arith) (omega arith))
          ∙ append_assoc (take (4 * i) c.loop-i.wide) ys left
          ∙ ap (λ v. take (4 * i) c.loop-i.wide ++ v) (ap (λ v. v ++ left) one ∙ sym c.wide_one.ensures)
          ∙ c.loop-i.invariant.done;
    }

pub returns : goal.returns
returns c =
    let i = c.loop-i.i in
    let end = c.loop-i.auto.i-end in
    let last = c.loop-i-test.false in
    let len = c.loop-i.invariant.len in
    let e : i ≡ 384 = omega arith in
    let w = widened c.args.self (drop (sample_len c.args.self * i) (take (block_len c.args.self)
    c.args.octets.now)) in
    let none : w ≡ [] = ap (λ n. widened c.args.self
    (drop (sample_len c.args.self * n) (take (block_len c.args.self) c.args.octets.now))) e
    ∙ none-left c.args.self c.args.octets.now in
    sym (take_all (4 * i) c.loop-i.wide (omega arith))
    ∙ sym (ap (λ v. take (4 * i) c.loop-i.wide ++ v) none ∙ append-nil (take (4 * i) c.loop-i.wide))
    ∙ c.loop-i.invariant.done
