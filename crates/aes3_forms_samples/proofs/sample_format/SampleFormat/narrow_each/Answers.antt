use Rattle.std.proofs.Common.{rules, ◌≡◌, ◌∙◌, ◌+◌, ◌-◌, ◌*◌, ◌≤◌, ◌++◌, append-nil, sym, ap, length, take, drop, arith}
use Rattle.std.proofs.lemmas.List.{length-drop, length-take-le}
use Rattle.std.proofs.lemmas.Slice.{overwrites}
use Rattle.aes3_forms_samples.specs.Formats.{narrow_one}
use Rattle.aes3_forms_samples.proofs.Formats.{fours-short, put-done, put-rest}
use Rattle.aes3_forms_samples.proofs.sample_format.SampleFormat.narrow_each.Goals as goal

pub loop-i-preserved : goal.loop-i-preserved
loop-i-preserved c =
    let i = c.loop-i.i in
    let at = c.loop-i.at in
    let len = c.sample_len-len.result in
    let few = c.sample_len-len.ensures.few in
    let same = c.loop-i.invariant.len in
    let front = c.loop-i.invariant.at in
    let test = c.loop-i-test.true in
    let end = c.loop-i.auto.i-end in
    let after = c.copy_from_slice.ensures.after in
    let octets = length-take-le len c.narrow_one-octets.result (omega arith) in
    let count : length c.copy_from_slice.new.self ≡ len = ap length after ∙ octets in
    let one = after ∙ ap (λ n. take n c.narrow_one-octets.result) c.sample_len-len.ensures.len
    ∙ c.narrow_one-octets.ensures in
    let inside : 4 * i + 4 ≤ length c.args.samples.now = omega arith in
    let k : at + len - at ≡ len = omega arith in
    record {
      len = search (rules, overwrites);
      at = omega arith;
      done = put-done (narrow_one c.args.self) c.args.samples.now c.loop-i.samples c.copy_from_slice.new.self i at len
          (at + len - at) same inside front few k count one c.loop-i.invariant.rest c.loop-i.invariant.done;
      rest = put-rest (narrow_one c.args.self) c.args.samples.now c.loop-i.samples c.copy_from_slice.new.self i at len
          (at + len - at) same inside front few k count one c.loop-i.invariant.rest;
    }

pub returns-clause-octets : goal.returns-clause-octets
returns-clause-octets c =
    let xs = c.args.samples.now in
    let i = c.loop-i.i in
    let last = c.loop-i-test.false in
    let end = c.loop-i.auto.i-end in
    let l = length-drop (4 * i) xs in
    sym (append-nil (take c.loop-i.at c.loop-i.samples))
    ∙ ap (λ v. take c.loop-i.at c.loop-i.samples ++ v)
    (sym (fours-short (narrow_one c.args.self) (drop (4 * i) xs) (omega arith)))
    ∙ c.loop-i.invariant.done
