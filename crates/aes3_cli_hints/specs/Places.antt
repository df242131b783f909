-- Where a byte of a text stands.
use Rattle.std.specs.Prelude.{ℕ, ◌+◌, ◌-◌, ◌^◌, ◌==◌, if◌then◌else◌, min}
use Rattle.aes3_cli_hints.specs.declared.watched.Position.{Position}

-- one more, up to the highest number that is told
abbrev pub one_more : ℕ → ℕ
one_more n = min (n + 1) (2 ^ 64 - 1)

-- where the next byte stands: behind a line feed a line begins
abbrev pub behind : Position → ℕ → Position
behind p byte = if byte == 10 then record { line = one_more p.line; column = 1 }
    else record { line = p.line; column = one_more p.column }
