use Rattle.aes3_c.proofs.report_record.put_words.Goals as goal

pub returns-clause-fits : goal.returns-clause-fits
returns-clause-fits c = λ i h. c.fits-words i
