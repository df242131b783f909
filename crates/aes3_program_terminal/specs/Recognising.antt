-- The form of a recording whose page is asked for without an option that says it.
use Rattle.std.specs.Prelude.{Bool, Result, Ok, Err, ◌≡◌, ◌⊎◌}
use Rattle.aes3_cell.specs.declared.form.Form.TheVariants.{Text, Packed}
use Rattle.aes3_status.specs.declared.style.Notation.{Notation}
use Rattle.aes3_cli_arguments.specs.declared.command_job.LineFault.{LineFault}
use Rattle.aes3_cli_arguments.specs.declared.command_line.CommandLine.{CommandLine}
use Rattle.aes3_cli_jobs.specs.declared.job.Job.TheVariants.{Read}
use Rattle.aes3_cli_jobs.specs.declared.work.ReadWork.TheVariants.{Info}

-- the same line, but that it reads packed cells, with the first cell of each octet in its lowest bit or in its highest
abbrev pub ReadsPacked : CommandLine → CommandLine → Type 0
ReadsPacked old new =
    (notation : Notation) × (lowest_first : Bool) × (old.job ≡ Read Text (Info notation))
    × (new ≡ record old { job = Read Packed (Info notation); octets = record old.octets { lsb_first = lowest_first } })

-- a line is as it was, but that one that asks for the page of a recording as text may read packed cells
abbrev pub Recognised : Result CommandLine LineFault → Result CommandLine LineFault → Type 0
Recognised (Ok old) new = (line : CommandLine) × (new ≡ Ok line) × ((line ≡ old) ⊎ ReadsPacked old line)
Recognised (Err fault) new = new ≡ Err fault
