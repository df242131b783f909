-- Truth values as octets.
use Rattle.std.specs.Prelude.{ℕ, Bool, true, false, not, ◌==◌}

abbrev pub flag : Bool → ℕ
flag true = 1
flag false = 0

-- any octet but 0 is a flag that is set
abbrev pub is_set : ℕ → Bool
is_set n = not (n == 0)
