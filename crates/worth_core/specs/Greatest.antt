-- The greatest of the numbers that came so far.
use Rattle.std.specs.Prelude.{ℤ, Option, Some, None, int_lt, if◌then◌else◌}

-- the greater of a number and the greatest so far, if any
abbrev pub max_so_far : Option ℤ → ℤ → ℤ
max_so_far None e = e
max_so_far (Some m) e = if int_lt m e then e else m
