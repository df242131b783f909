use Rattle.aes3_frame.proofs.FourWords.{all-four}
use Rattle.aes3_frame.proofs.gathered.with_right_parities.Goals as goal

pub returns-clause-lawful : goal.returns-clause-lawful
returns-clause-lawful c =
    all-four _ c.with_right_parity.ensures.lawful c.with_right_parity-2.ensures.lawful
    c.with_right_parity-3.ensures.lawful c.with_right_parity-4.ensures.lawful

pub returns-clause-payload : goal.returns-clause-payload
returns-clause-payload c =
    all-four _ c.with_right_parity.ensures.payload c.with_right_parity-2.ensures.payload
    c.with_right_parity-3.ensures.payload c.with_right_parity-4.ensures.payload
