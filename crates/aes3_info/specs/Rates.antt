-- The sampling frequency that a channel status names (AES3-2, IEC 60958-3).
use Rattle.std.specs.Prelude.{ℕ, List, Option, Some, None, ◌/◌, ◌%◌, ◌==◌, get_or, if◌then◌else◌}
use Rattle.aes3_status.specs.Statuses.{is_professional}
use Rattle.aes3_status.specs.Consumer.{rate as consumer_code}
use Rattle.aes3_status.specs.Professional.{rate as professional_code}

-- in hertz, by its code for consumer use, byte 3 bits 0 to 3
unfoldable pub consumer_rate : ℕ → Option ℕ
consumer_rate code =
    if code == 0 then Some 44100 else (if code == 2 then Some 48000 else (if code == 3 then Some 32000
    else (if code == 4 then Some 22050 else (if code == 6 then Some 24000 else (if code == 8 then Some 88200
    else (if code == 9 then Some 768000 else (if code == 10 then Some 96000 else (if code == 12 then Some 176400
    else (if code == 14 then Some 192000 else None)))))))))

-- by its code for professional use, byte 0 bits 6 and 7; and by that in byte 4 bits 3 to 6, where these name none
unfoldable pub professional_rate : ℕ → ℕ → Option ℕ
professional_rate code other =
    if code == 1 then Some 44100 else (if code == 2 then Some 48000 else (if code == 3 then Some 32000
    else (if other == 1 then Some 24000 else (if other == 2 then Some 96000 else (if other == 3 then Some 192000
    else (if other == 9 then Some 22050 else (if other == 10 then Some 88200 else (if other == 11 then Some 176400
    else None))))))))

unfoldable pub rate_of : List ℕ → Option ℕ
rate_of bytes =
    if is_professional bytes then professional_rate (professional_code bytes) (get_or bytes 4 0 / 8 % 16)
    else consumer_rate (consumer_code bytes)
