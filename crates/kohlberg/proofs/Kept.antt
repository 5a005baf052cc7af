-- Numbers that passed through 128 bits.
use Rattle.std.proofs.Common.{◌≡◌, ◌<◌, ◌^◌, ℤ, to_z, of_z}
use Rattle.std.proofs.lemmas.Int.{to_z-of_z}
use Rattle.std.proofs.Math.Facts.{sfits_lit, yes_ltb}
use lib.Signed.{mag}
use mir.Syntax.{w128}

pub kept : (r : ℤ) → mag r < 2 ^ 127 → to_z w128 (of_z w128 r) ≡ r
kept r h = to_z-of_z w128 r (sfits_lit (yes_ltb h))
