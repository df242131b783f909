use Rattle.aes3_frame.proofs.FileLaws.{file_blocks-file, is_block_file-file}
use Rattle.aes3_frame.proofs.FileBlocks.{file_blocks-blocks, file-file_blocks}
use Rattle.aes3_block.proofs.laws.files_of_blocks.Goals as goal

pub returns-clause-back : goal.returns-clause-back
returns-clause-back c = λ bs h. (is_block_file-file bs h, file_blocks-file bs h)

pub returns-clause-only : goal.returns-clause-only
returns-clause-only c = λ bytes e h. (file_blocks-blocks bytes, file-file_blocks bytes e h)
