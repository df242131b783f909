use Rattle.std.proofs.Common.{◌≡◌, ◌+◌, ◌-◌, ◌∙◌, ap, sym, arith, length, length-append, rules, tests}
use Rattle.std.proofs.lemmas.Bool.{false≢true}
use Rattle.aes3_c.specs.Putting.{put_into}
use Rattle.aes3_c.proofs.Putting.{length-put, put-more}
use Rattle.aes3_c.proofs.room.RoomSinkSink.write.Goals.{then-self, else-self}
use Rattle.aes3_c.proofs.room.RoomSinkSink.write.Goals as goal

pub invariant_of-self : goal.invariant_of-self
invariant_of-self c =
    let s = c.args.self.now in
    let put = s.put in
    let all = ap length c.and-self.ensures ∙ length-append s.given.octets c.args.buf.now in
    let long = ap length put.0 ∙ length-put s.was.octets s.given.octets in
    let n = c.min-n.ensures in
    record {
      put = (
        put-more s.was.octets s.given.octets c.args.buf.now s.memory.now c.copy_from_slice.new.self s.count c.min-n.result
            (s.count + c.min-n.result - s.count) put.0 put.1 n (omega arith) c.copy_from_slice.ensures.after
            ∙ ap (put_into s.was.octets) (sym c.and-self.ensures),
        omega (arith, put.1, n, all, long),
        λ is. elim c.if-self.branch [
          | then-self w ↦
              let had = put.2 w.if-self.true in
              let same : c.min-n.result ≡ length c.args.buf.now = search (rules, tests) in
              omega (arith, had, put.1, n, all, long, same)
          | else-self w ↦ absurd (false≢true (sym w.if-self.false ∙ sym w.self-is ∙ is))
        ],
        λ is. elim c.if-self.branch [
          | then-self w ↦
              let had = put.2 w.if-self.true in
              let more : ¬ (c.min-n.result ≡ length c.args.buf.now) = search (rules, tests) in
              omega (arith, had, put.1, n, all, long, more)
          | else-self w ↦ let had = put.3 w.if-self.false in omega (arith, had, all)
        ],
      );
    }
