-- Bytes and the newline at their end. JSON allows a newline there, so leaving it out changes no reading; and no
-- definition needs a law about white space.
use Rattle.std.specs.Prelude.{◌==◌, ◌-◌, ◌&&◌, ℕ, List, length, take, slice_index, if◌then◌else◌, nat_lt}

-- the bytes without a newline at their end
abbrev pub without_newline : List ℕ → List ℕ
without_newline bytes =
    if nat_lt 0 (length bytes) && (slice_index bytes (length bytes - 1) == 10) then take (length bytes - 1) bytes
    else bytes
