-- What a solver of games gives: shares, and a certificate of them.
--
--   IsLowest   a level's excess is in lowest terms, with parts of 128 bits
--   HasFew     a level has at most twice as many entries as there are players
--   IsSolved   shares, and a certificate in a mode that they are the nucleolus of a family by a measure
use Rattle.std.specs.Prelude.{◌≡◌, ℕ, ◌+◌, ◌*◌, ◌≤◌, length}
use Rattle.std.specs.List.{AllByRecursion}
use Rattle.fractions.specs.Fraction.{IsReduced, HasForm}
use Rattle.definitions.specs.Games.{Game, Allocation}
use Rattle.definitions.specs.Certificates.{Level, Certifies}
use Rattle.definitions.specs.declared.Family.{Family}
use Rattle.definitions.specs.declared.Measure.{Measure}
use Rattle.definitions.specs.declared.Mode.{Mode}
use Rattle.kohlberg.specs.Certificate.{CertificateData}

-- the excess of the level is in lowest terms, and its parts are of 128 bits
abbrev pub IsLowest : Level → Type 0
IsLowest l =
    IsReduced (record { num = l.excess_num; den = l.excess_den })
    × HasForm (record { num = l.excess_num; den = l.excess_den })

-- a level has at most twice as many entries over its three lists as there are players
abbrev pub HasFew : ℕ → Level → Type 0
HasFew n l = length l.coalitions + length l.earlier + length l.bounds ≤ 2 * n

-- shares, and a certificate in the mode that certifies them for the family by the measure
-- (Littlechild's scheme, the Talmud rule and the nested programs all give this)
pub record IsSolved (mode : Mode) (family : Family) (measure : Measure) (g : Game) (x : Allocation)
    (c : CertificateData) : Type 0 where
  pub players : c.players ≡ g.players
  pub in_mode : c.mode ≡ mode
  pub certifies : Certifies mode family measure g x c.levels
  pub few : AllByRecursion (HasFew g.players) c.levels
  pub lowest : AllByRecursion IsLowest c.levels
