-- A team's game is one of the toolbox.
use Rattle.std.proofs.Common.{◌≡◌, ℕ, ◌*◌, ◌≤◌, arith, refl}
use Rattle.definitions.specs.Coalitions.{size, members}
use Rattle.definitions.specs.Games.{IsGame}
use Rattle.definitions.proofs.Halves.{size_below-most}
use Rattle.example_class.specs.Team.{IsTeam, team_game}

square : (k : ℕ) → k ≤ 64 → k * k ≤ 4096
square k h = grind arith

-- no coalition has more than 64 members
pub squared : (s : ℕ) → size s * size s ≤ 4096
squared s = square (size s) (size_below-most 64 s)

nobody : size 0 * size 0 ≡ 0
unfolding members
nobody = refl

pub game_laws : (n : ℕ) → IsTeam n → IsGame (team_game n)
game_laws n h = record {
  some = h.0;
  few = h.1;
  nobody = rw nobody refl;
  small = λ s w. omega (arith, squared s);
}
