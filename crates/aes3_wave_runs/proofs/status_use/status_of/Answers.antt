use Rattle.aes3_wave_runs.proofs.Says.{says-consumer, says-professional}
use Rattle.aes3_wave_runs.proofs.status_use.status_of.Goals as goal

pub returns-in-Consumer-clause-says : goal.returns-in-Consumer-clause-says
returns-in-Consumer-clause-says c =
    rw c.in-Consumer.is (says-consumer c.args.format.now c.consumer_status.result c.consumer_status.ensures)

pub returns-in-Professional-clause-says : goal.returns-in-Professional-clause-says
returns-in-Professional-clause-says c =
    rw c.in-Professional.is (says-professional c.args.format.now c.professional_status.result
    c.professional_status.ensures.status c.professional_status.ensures.holds)
