-- What a sink over memory that is lent tells.
use Rattle.std.specs.Prelude.{ℕ, List, ◌∷◌, ◌++◌, length}
use Rattle.aes3_c.specs.declared.room.RoomSink.{RoomSink}

-- which memory it was lent, and what stood there
abbrev pub lent_to : RoomSink → List ℕ
lent_to s = s.memory.ghost_name ∷ length s.was.octets ∷ s.was.octets

-- That, and then all octets that it was given. So whoever made it knows at the end that it still writes to the same memory.
abbrev pub taken_in : RoomSink → List ℕ
taken_in s = lent_to s ++ s.given.octets
