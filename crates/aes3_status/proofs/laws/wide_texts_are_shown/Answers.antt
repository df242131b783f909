use Rattle.aes3_status.proofs.WideShown.{full-stays, is-shown, last-counts, texts-are-fours}
use Rattle.aes3_status.proofs.laws.wide_texts_are_shown.Goals as goal

pub returns-clause-four : goal.returns-clause-four
returns-clause-four c = texts-are-fours

pub returns-clause-shown : goal.returns-clause-shown
returns-clause-shown c = is-shown

pub returns-clause-last : goal.returns-clause-last
returns-clause-last c = last-counts

pub returns-clause-full : goal.returns-clause-full
returns-clause-full c = full-stays
