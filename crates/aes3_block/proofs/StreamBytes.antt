-- The bytes of blocks one behind the other.
use Rattle.std.proofs.Common.{◌≡◌, List, [], ◌∷◌, ◌++◌, Bool, ap, ◌∙◌}
use Rattle.aes3_level.specs.declared.level.Level.{Level}
use Rattle.aes3_cell.specs.declared.form.Form.{Form}
use Rattle.aes3_cell.specs.Written.{bytes_of}
use Rattle.aes3_cell.proofs.WrittenForms.{bytes-append}
use Rattle.aes3_frame.specs.Blocks.{block_cells, stream}
use Rattle.aes3_frame.proofs.Streams.{EachBlock27, slot_count, stream-push, length-stream}

pub stream-bytes : (form : Form) (s : Level) (bs : List (List (List Bool))) (b : List (List Bool)) → EachBlock27 bs
    → bytes_of form (stream s (bs ++ b ∷ [])) ≡ bytes_of form (stream s bs) ++ bytes_of form (block_cells s b)
unfolding stream
stream-bytes form s bs b h = ap (bytes_of form) (stream-push s bs b h)
    ∙ bytes-append form (slot_count bs) (stream s bs) (block_cells s b) (length-stream s bs h)
