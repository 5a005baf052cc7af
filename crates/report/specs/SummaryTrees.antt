-- What is said of a generated game as JSON, its keys ascending.
--
--   common_divisor      the greatest common divisor of a number and of the sizes of integers
--   least_denominator   the least common denominator of shares
--   player_share        the share of a player, as it is printed
--   share_members       what is said of the shares
--   greatest_data       the greatest excess, or a word if there is none
--   summary_tree        the summary of a generated game
use Rattle.std.specs.Prelude.{ℕ, ◌-◌, ◌/◌, ℤ, pos, List, [], ◌∷◌, length, Option}
use Rattle.std.specs.Prelude.{Some, None, unsigned_abs, codes}
use Rattle.serde_json.specs.Data.{Data, string, object, Members, member, no_members}
use Rattle.definitions.specs.Games.{Allocation, share}
use Rattle.fractions.specs.Divisors.{gcd}
use Rattle.fractions.specs.Fraction.{Fraction}
use Rattle.report.specs.Values.{scaled_data, integer_data, count_data}
use Rattle.report.specs.ShareLists.{share_data}
use Rattle.report.specs.Words.{kind_word}
use Rattle.report.specs.declared.summary.Summary.{Summary}

-- the greatest common divisor of q and of the sizes of the numbers
abbrev pub common_divisor : ℕ → List ℤ → ℕ
common_divisor q [] = q
common_divisor q (z ∷ zs) = common_divisor (gcd q (unsigned_abs z)) zs

-- the least common denominator of the shares: their denominator without what it has in common with all of them
abbrev pub least_denominator : Allocation → ℤ
least_denominator x = pos (unsigned_abs x.den / common_divisor (unsigned_abs x.den) x.shares)

-- the share of a player, or what it pays if the numbers are costs
abbrev pub player_share : ℕ → Summary → ℕ → Data
player_share k s i = share_data k s.is_cost s.shares.den (share s.shares i)

-- of the shares the least common denominator, the first and the last
abbrev pub share_members : ℕ → Summary → Members
share_members k s =
    member (codes "common") (integer_data k (least_denominator s.shares))
    (member (codes "first") (player_share k s 0)
    (member (codes "last") (player_share k s (length s.shares.shares - 1)) no_members))

-- the greatest excess, and none for one player
abbrev pub greatest_data : ℕ → Option Fraction → Data
greatest_data k None = string (codes "none")
greatest_data k (Some f) = scaled_data k f

-- the summary: of the shares the least common denominator, the first and the last
abbrev pub summary_tree : ℕ → Summary → Data
summary_tree k s =
    object
    (member (codes "class") (string (kind_word s.kind))
    (member (codes "common") (integer_data k (least_denominator s.shares))
    (member (codes "first") (player_share k s 0)
    (member (codes "greatest") (greatest_data k s.greatest)
    (member (codes "last") (player_share k s (length s.shares.shares - 1))
    (member (codes "players") (count_data s.players)
    (member (codes "seed") (count_data s.seed)
    (member (codes "verdict") (string (codes "yes")) no_members))))))))
