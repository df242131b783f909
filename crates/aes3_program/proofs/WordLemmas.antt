-- What words ask for, by the line that they are.
use Rattle.std.proofs.Common.{◌≡◌, ℕ, List, inl, inr, Result, Ok, Err, subst}
use Rattle.aes3_cell.specs.declared.ends.Sink.{Ghosts as SinkMembers}
use Rattle.aes3_cli_arguments.specs.declared.command_job.LineFault.{LineFault}
use Rattle.aes3_cli_arguments.specs.declared.command_line.CommandLine.{CommandLine}
use Rattle.aes3_cli_jobs.specs.declared.observer.Observer.{Ghosts as ObserverMembers}
use Rattle.aes3_program.specs.Asides.{AsideOfRun, AsideOfWords, IsAsked, job_of}
use Rattle.aes3_program.specs.Streams.{Streams}
use Rattle.aes3_program.specs.WordRuns.{IsLineOfWords, LineRan, WordsRan}

-- what was done for the line was done for the words
words-ran : (words : List (List ℕ)) (line : Result CommandLine LineFault) (streams : Streams) (status : ℕ)
    → LineRan line streams status → IsLineOfWords words line → WordsRan words streams status
words-ran words (Ok line) streams status ran is = inl (record {
  job = line.job;
  asked = is.0;
  typed = line.typed;
  texts = is.1;
  octets = line.octets;
  laid_out = is.2;
  ran = ran;
})
words-ran words (Err fault) streams status ran is = inr (record {
  fault = fault;
  told = is;
  unread = ran.0;
  quiet = ran.1;
  ran = ran.2;
})

pub words_ran : {asked line : Result CommandLine LineFault} (streams : Streams) (status : ℕ) → asked ≡ line
    → LineRan line streams status → (words : List (List ℕ)) → IsLineOfWords words asked → WordsRan words streams status
words_ran {line = line} streams status e ran words is =
    words-ran words line streams status ran (subst (IsLineOfWords words) e is)

asked-is : (words : List (List ℕ)) (line : Result CommandLine LineFault) → IsLineOfWords words line → IsAsked words (job_of line)
asked-is words (Ok line) is = is.0
asked-is words (Err fault) is = (fault, is)

pub words_aside : {E O : Type 0} (e : SinkMembers E) (errors errors' : E) (o : ObserverMembers O) (observer observer' : O)
    (status : ℕ) {asked line : Result CommandLine LineFault} → asked ≡ line
    → AsideOfRun (job_of line) e errors errors' o observer observer' status → (words : List (List ℕ))
    → IsLineOfWords words asked → AsideOfWords words e errors errors' o observer observer' status
words_aside e errors errors' o observer observer' status {line = line} same aside words is = record {
  begun = job_of line;
  asked = asked-is words line (subst (IsLineOfWords words) same is);
  aside = aside;
}
