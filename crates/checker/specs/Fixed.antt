-- For the private functions of this crate.
-- What levels fix, as it is carried from level to level.
--
--   IsFreeSet      a coalition of the players that no level fixes
--   AreOfPlayers   marks of coalitions of the players that aren't empty
--   mode_of        the mode in which levels fix
--   IsOver         what is carried is of n players
--   Fixes          what is carried stands for what levels fix
use Rattle.std.specs.Prelude.{◌≡◌, ℕ, ◌^◌, ◌<◌, ◌≤◌, ◌&&◌, nat_lt, List, IsTrue}
use Rattle.definitions.specs.Coalitions.{has_player}
use Rattle.definitions.specs.Certificates.{Level, is_free}
use Rattle.definitions.specs.declared.Mode.{Mode}
use Rattle.definitions.specs.declared.Mode.TheVariants.{Players, Span}
use Rattle.spans.specs.Outside.{is_marked}
use Rattle.kohlberg.specs.Extends.{SpansFixed}
use Rattle.kohlberg.specs.Marking.{IsMarking}
use Rattle.checker.specs.declared.fixed.Fixed.{Fixed}
use Rattle.checker.specs.declared.fixed.Fixed.TheVariants.{FreePlayers, Vectors}

-- f is the set of the players that no level fixes
pub record IsFreeSet (n : ℕ) (levels : List Level) (f : ℕ) : Type 0 where
  pub within : f < 2 ^ n
  pub free : (i : ℕ) → has_player f i ≡ (nat_lt i n && is_free n levels i)

-- the marked coalitions are of n players, and not empty
abbrev pub AreOfPlayers : ℕ → List ℕ → Type 0
AreOfPlayers n words = (s : ℕ) → IsTrue (is_marked words s) → (0 < s) × (s < 2 ^ n)

abbrev pub mode_of : Fixed → Mode
mode_of (FreePlayers f) = Players
mode_of (Vectors span outside) = Span

abbrev pub IsOver : ℕ → Fixed → Type 0
IsOver n (FreePlayers f) = f < 2 ^ n
IsOver n (Vectors span outside) = (span.players ≡ n) × (n ≤ 16) × AreOfPlayers n outside

abbrev pub Fixes : ℕ → List Level → Fixed → Type 0
Fixes n levels (FreePlayers f) = IsFreeSet n levels f
Fixes n levels (Vectors span outside) =
    (span.players ≡ n) × (n ≤ 16) × SpansFixed n span.kept levels × IsMarking n levels outside
