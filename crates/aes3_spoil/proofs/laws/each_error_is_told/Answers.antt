use Rattle.aes3_spoil.proofs.CheckByte.{check-told}
use Rattle.aes3_spoil.proofs.Doubled.{doubled-given}
use Rattle.aes3_spoil.proofs.EachError.{biphase-told, first-untold, preamble-told}
use Rattle.aes3_spoil.proofs.Parity.{parity-told}
use Rattle.aes3_spoil.proofs.ParityReports.{parity-reports}
use Rattle.aes3_spoil.proofs.laws.each_error_is_told.Goals as goal

pub returns-clause-biphase : goal.returns-clause-biphase
returns-clause-biphase c = biphase-told

pub returns-clause-preamble : goal.returns-clause-preamble
returns-clause-preamble c = preamble-told

pub returns-clause-first : goal.returns-clause-first
returns-clause-first c = first-untold

pub returns-clause-doubled : goal.returns-clause-doubled
returns-clause-doubled c = doubled-given

pub returns-clause-parity : goal.returns-clause-parity
returns-clause-parity c = parity-told

pub returns-clause-reports : goal.returns-clause-reports
returns-clause-reports c = parity-reports

pub returns-clause-check : goal.returns-clause-check
returns-clause-check c = check-told
