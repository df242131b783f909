use Rattle.std.proofs.Common.{◌≡◌, ◌*◌, ◌/◌, ◌∙◌, subst, take}
use Rattle.std.specs.List.{flat_map}
use Rattle.aes3_level.specs.declared.level.Level.{Level}
use Rattle.aes3_level.specs.Words.{level_of}
use Rattle.aes3_frame.specs.Files.{blocks_in}
use Rattle.aes3_c.specs.declared.block_form.BlockForm.TheVariants.{Cells}
use Rattle.aes3_c.specs.Blocks.{octets_in}
use Rattle.aes3_c.proofs.BlockOctets.{line-octets}
use Rattle.aes3_c.proofs.blocks.aes3_encode_blocks.Goals as goal

pub returns-clause-cells : goal.returns-clause-cells
returns-clause-cells c =
    let n = c.put_blocks.result / 384 in
    subst (λ (s : Level). take (3072 * n) c.put_blocks.new.octets ≡ flat_map (octets_in (Cells s)) (blocks_in n c.args.words.now))
    c.level_of_byte.ensures c.put_blocks.ensures.all
    ∙ line-octets (level_of c.args.before) n c.args.words.now
