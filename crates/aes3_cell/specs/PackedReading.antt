-- Packed cells read octet by octet.
use Rattle.std.specs.Prelude.{ℕ, zero, suc, List, [], length, take, get_or, reverse, Option, Some, None, Result, Ok}
use Rattle.std.specs.Prelude.{Err, ◌+◌, ◌-◌, ◌==◌, nat_lt, if◌then◌else◌}
use Rattle.aes3_cell.specs.declared.packed_in.BadPadding.{BadPadding}
use Rattle.aes3_level.specs.declared.level.Level.{Level}
use Rattle.aes3_cell.specs.Packed.{octet_cells, is_padded}

-- how many octets a reader has taken, the last of them and the one before it; 0 where there is none
pub record PackedReader : Type 0 where
  pub seen : ℕ
  pub before_last : ℕ
  pub last : ℕ

-- the reader that has taken these octets
unfoldable pub packed_reader_of : List ℕ → PackedReader
packed_reader_of octets = record {
  seen = length octets;
  before_last = get_or (reverse octets) 1 0;
  last = get_or (reverse octets) 0 0;
}

-- what a reader answers to one more octet: the one that came two octets before, if there is one
abbrev pub packed_answer : PackedReader → Option ℕ
packed_answer reader = if nat_lt reader.seen 2 then None else Some reader.before_last

-- the reader behind one more octet
abbrev pub packed_next : PackedReader → ℕ → PackedReader
packed_next reader octet = record { seen = reader.seen + 1; before_last = reader.last; last = octet }

-- what a reader answers to the end behind this many octets, the last two of them given:
-- the one before the last and how many of its cells are used, nothing for the one octet 0, else the place of the last
abbrev pub end_answer : ℕ → ℕ → ℕ → Result (Option (ℕ × ℕ)) BadPadding
end_answer zero octet last = Err (record { at = 0 })
end_answer (suc zero) octet last = if last == 0 then Ok None else Err (record { at = 0 })
end_answer (suc (suc n)) octet last =
    if is_padded octet last then Ok (Some (octet, 8 - last)) else Err (record { at = suc n })

abbrev pub packed_end : PackedReader → Result (Option (ℕ × ℕ)) BadPadding
packed_end reader = end_answer reader.seen reader.before_last reader.last

-- the cells that an answer hands on, before the end and at it
abbrev pub answer_cells : Option ℕ → List Level
answer_cells None = []
answer_cells (Some octet) = octet_cells octet

abbrev pub end_cells : Result (Option (ℕ × ℕ)) BadPadding → List Level
end_cells (Ok (Some (octet, used))) = take used (octet_cells octet)
end_cells (Ok None) = []
end_cells (Err fault) = []
