-- What the ends over memory show of themselves.
use Rattle.std.specs.Prelude.{ℕ, List, Bool, ◌-◌, ◌^◌, take, replicate}
use Rattle.aes3_cell.specs.declared.memory.MemorySource.{MemorySource}
use Rattle.aes3_cell.specs.declared.memory.MemorySink.{MemorySink}
use Rattle.aes3_cell.specs.declared.failing.FailingSource.{FailingSource}
use Rattle.aes3_cell.specs.declared.failing.FailingSink.{FailingSink}
use Rattle.aes3_cell.specs.declared.short.ShortSink.{ShortSink}
use Rattle.aes3_cell.specs.declared.holding.HoldingSink.{HoldingSink}
use Rattle.aes3_cell.specs.declared.endless.EndlessSource.{EndlessSource}

-- all bytes that a source gives, those that it has given, whether it has ended, the most bytes a call
abbrev pub all_bytes : MemorySource → List ℕ
all_bytes s = s.bytes.now

abbrev pub given_bytes : MemorySource → List ℕ
given_bytes s = take s.at s.bytes.now

abbrev pub source_ended : MemorySource → Bool
source_ended s = s.ended

abbrev pub piece_of : MemorySource → ℕ
piece_of s = s.piece

-- memory never fails to give
abbrev pub memory_failures : MemorySource → ℕ
memory_failures s = 0

-- what a sink has taken, and how often it failed
abbrev pub taken_bytes : MemorySink → List ℕ
taken_bytes s = s.bytes.items

abbrev pub sink_failures : MemorySink → ℕ
sink_failures s = s.failures

-- the ends that fail: what they are over, how many calls they still serve, how often they failed
abbrev pub source_within : FailingSource → MemorySource
source_within s = s.inner

abbrev pub source_calls_left : FailingSource → ℕ
source_calls_left s = s.calls_left

abbrev pub source_failures : FailingSource → ℕ
source_failures s = s.failures

abbrev pub sink_within : FailingSink → MemorySink
sink_within s = s.inner

abbrev pub sink_calls_left : FailingSink → ℕ
sink_calls_left s = s.calls_left

abbrev pub failing_sink_failures : FailingSink → ℕ
failing_sink_failures s = s.failures

-- the sink that takes few bytes a call: what it is over, and the most bytes a call
abbrev pub short_within : ShortSink → MemorySink
short_within s = s.inner

abbrev pub most_of : ShortSink → ℕ
most_of s = s.most

-- the sink that holds what it took until it is flushed: what it is over, and what it has passed on
abbrev pub holding_within : HoldingSink → MemorySink
holding_within s = s.inner

abbrev pub passed_bytes : HoldingSink → List ℕ
passed_bytes s = take s.passed s.inner.bytes.items

-- the source of one byte: the byte, the most bytes a call, how many are left, whether it has ended
abbrev pub endless_byte : EndlessSource → ℕ
endless_byte s = s.byte

abbrev pub endless_piece : EndlessSource → ℕ
endless_piece s = s.piece

abbrev pub endless_left : EndlessSource → ℕ
endless_left s = s.left

abbrev pub endless_ended : EndlessSource → Bool
endless_ended s = s.ended

-- what it has given of its 2 ^ 64 - 1 bytes; it never fails
abbrev pub endless_given : EndlessSource → List ℕ
endless_given s = replicate (2 ^ 64 - 1 - s.left) s.byte

abbrev pub endless_failures : EndlessSource → ℕ
endless_failures s = 0
