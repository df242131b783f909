use Rattle.std.proofs.Common.{◌++◌, append-nil, replicate, ap, ap₂, ◌∙◌}
use borrow.Rule.Slice.PartMut.{put_mid, post_of}
use Rattle.aes3_c.specs.Consumer.{first_bytes}
use Rattle.aes3_c.proofs.consumer_calls.bytes_of.Goals as goal

pub returns : goal.returns
returns c =
    let f = c.args.fields.now in
    ap₂ (λ first rest. put_mid 5 19 (first ++ post_of 0 5 (replicate 24 0)) rest)
    (c.copy_from_slice.ensures.after ∙ c.first_bytes.ensures) c.copy_from_slice-2.ensures.after
    ∙ ap (λ rest. first_bytes f ++ rest) (append-nil f.rest)
