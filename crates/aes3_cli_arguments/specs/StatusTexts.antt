-- Channel status as text: two hexadecimal digits a byte, the high four bits first, in either case.
use Rattle.std.specs.Prelude.{ℕ, List, ◌≡◌, Option, length}
use Rattle.std.specs.List.{AllPass}
use Rattle.std.specs.Result.{result_ok}
use Rattle.hex.specs.Hex.{decode_sized, is_hex_digit}

-- the 24 bytes that the text writes
abbrev pub status_in : List ℕ → Option (List ℕ)
status_in text = result_ok (decode_sized text 24)

-- 48 hexadecimal digits
abbrev pub IsStatusText : List ℕ → Type 0
IsStatusText text = (length text ≡ 48) × AllPass is_hex_digit text
