use Rattle.std.proofs.Common.{◌∙◌, ap, arith, length, sym}
use Rattle.aes3_c.proofs.Narrowing.{block-narrowed}
use Rattle.aes3_c.proofs.block_form.put_samples.Goals as goal

pub copy_from_slice-requires : goal.copy_from_slice-requires
copy_from_slice-requires c =
    c.requires
    ∙ sym (ap length c.narrow-len.ensures.octets ∙ block-narrowed c.args.format c.samples_of_block-samples.result (omega arith))
