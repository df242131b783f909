use Rattle.aes3_c.proofs.Shares.{share-is}
use Rattle.aes3_c.proofs.place_calls.share.Goals as goal

pub returns-clause-share : goal.returns-clause-share
returns-clause-share c = share-is c.args.samples c.args.part c.args.cells c.requires.part
