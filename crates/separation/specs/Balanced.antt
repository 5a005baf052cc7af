-- The balanced program of a game (Bondareva 1963, Shapley 1967): the greatest worth of coalitions by weights that hold
-- each player once. Column s, from 1 to 2^n - 1, is the vector of coalition s at its worth.
use Rattle.std.specs.Prelude.{◌^◌, ◌&&◌, nat_lt, pos, if◌then◌else◌}
use Rattle.definitions.specs.Coalitions.{has_player}
use Rattle.definitions.specs.Games.{Game}
use Rattle.definitions.specs.Programs.{Program}

abbrev pub balanced_program : Game → Program
balanced_program g =
    record {
      rows = g.players;
      right = λ r. pos 1;
      is_column = λ id. nat_lt 0 id && nat_lt id (2 ^ g.players);
      entry = λ id r. if has_player id r then pos 1 else pos 0;
      cost = λ id. g.worth id;
    }
