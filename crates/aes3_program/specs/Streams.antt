-- How the streams of a run move: its source, its sink and the errors.
use Rattle.std.specs.Prelude.{Bool, ◌≡◌}
use Rattle.aes3_cell.specs.declared.ends.Source.{Ghosts as SourceMembers}
use Rattle.aes3_cell.specs.declared.ends.Sink.{Ghosts as SinkMembers}
use Rattle.aes3_input.specs.Running.{Movement, movement_of}

-- each of them before and after, and whether the source has ended then
pub record Streams : Type 0 where
  pub ended : Bool
  pub source : Movement
  pub sink : Movement
  pub errors : Movement

-- a sink, by the members that its trait has for contracts
abbrev pub moved : {T : Type 0} → SinkMembers T → T → T → Movement
moved t old new = movement_of t.taken t.failed old new

-- a source, a sink and the errors
abbrev pub streams_of : {S T E : Type 0} → SourceMembers S → S → S → SinkMembers T → T → T → SinkMembers E → E → E → Streams
streams_of s source source' t sink sink' e errors errors' = record {
  ended = s.has_ended source';
  source = movement_of s.given s.failed source source';
  sink = moved t sink sink';
  errors = moved e errors errors';
}

-- a sink has passed on all that it took
abbrev pub HasPassed : {T : Type 0} → SinkMembers T → T → Type 0
HasPassed t sink = t.passed sink ≡ t.taken sink

-- it has at the end, unless it failed
abbrev pub PassesOn : {T : Type 0} → SinkMembers T → T → T → Type 0
PassesOn t old new = t.failed new ≡ t.failed old → HasPassed t new
