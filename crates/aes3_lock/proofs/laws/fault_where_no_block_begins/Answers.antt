use Rattle.aes3_slot.specs.Reading.{read_slots}
use Rattle.aes3_frame.specs.Blocks.{block_subframes}
use Rattle.aes3_lock.proofs.Refutations.{fault-front, fault-viable, fault-within, viable-fault, fault-unclosed}
use Rattle.aes3_lock.proofs.Refutations.{unclosed-fault}
use Rattle.aes3_lock.proofs.laws.fault_where_no_block_begins.Goals as goal

pub returns : goal.returns
returns c = record {
  first = λ f c h. (
    λ o. record { within = (fault-front c f o).1; viable = (fault-viable c f o).0; ends = (fault-viable c f o).1 },
    λ e. viable-fault c f h e.within e.viable e.ends,
  );
  unclosed = λ c. (
    λ o. record { slots = read_slots block_subframes c; stand = (fault-unclosed c o).0; unclosed = (fault-unclosed c o).1 },
    λ u. unclosed-fault c u.slots u.stand u.unclosed,
  );
  within = fault-within;
}
