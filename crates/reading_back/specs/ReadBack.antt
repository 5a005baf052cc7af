-- What is read of a printed list of shares.
--
--   kept_share            a share as it is kept, in lowest terms
--   ShareListsAreArrays   a printed list is an array of texts, one a share
--   IsAgain               shares within their limits that are the same in each game
--   AreReadBack           the tree passes each test of its shares, and they are those that were printed
--   SharesAreReadBack     the law: the texts of shares are so read
use Rattle.std.specs.Prelude.{◌≡◌, ℕ, ℤ, pos, codes, length, map, Bool, true}
use Rattle.serde_json.specs.Data.{Data}
use Rattle.definitions.specs.Games.{Game, Allocation, IsAllocation, IsSame, IsShares}
use Rattle.document_parts.specs.Denominators.{keep_limits, over_least}
use Rattle.json_trees.specs.Trees.{is_member, is_array_of, parts, parts_at}
use Rattle.document_parts.specs.Shares.{has_share_numbers, has_shares_for, scaled_shares, as_worth}
use Rattle.fractions.specs.Fraction.{Fraction}
use Rattle.json_trees.specs.LowestTerms.{in_lowest_terms}
use Rattle.report.specs.Limits.{IsScale}
use Rattle.report.specs.ShareLists.{as_printed, share_data, share_list}

-- the share z/d, or the payment if the game is one of costs; times the scale, as the game's numbers are
abbrev pub kept_share : Bool → ℤ → ℤ → Fraction
kept_share is_cost d z = in_lowest_terms (as_printed is_cost z) d

-- a printed list has the kind of a list of shares, and its parts are the texts of the shares
abbrev pub ShareListsAreArrays : Type 0
ShareListsAreArrays = (k : ℕ) (is_cost : Bool) (x : Allocation) →
    (is_array_of is_member (share_list k is_cost x) ≡ true)
    × (parts (share_list k is_cost x) ≡ map (share_data k is_cost x.den) x.shares)

-- y is within the limits of shares, and has the shares of x in each game that x is an allocation of
pub record IsAgain (x y : Allocation) : Type 0 where
  pub within : IsShares y
  pub many : length y.shares ≡ length x.shares
  pub allocation : (g : Game) → IsAllocation g x → IsAllocation g y
  pub same : (g : Game) → IsAllocation g x → IsSame g x y

-- the tree passes each test of its shares, and the shares that are read, times the scale k, are those of x
pub record AreReadBack (k : ℕ) (is_cost : Bool) (x : Allocation) (tree : Data) : Type 0 where
  pub numbers : has_share_numbers tree ≡ true
  pub enough : has_shares_for (length x.shares) tree ≡ true
  pub written : scaled_shares k tree ≡ map (kept_share is_cost x.den) x.shares
  pub coarse : keep_limits (scaled_shares k tree) ≡ true
  pub again : IsAgain x (as_worth is_cost (over_least (scaled_shares k tree)))

-- if the shares of a tree are the texts of the shares of x over the scale, these are read
abbrev pub SharesAreReadBack : Type 0
SharesAreReadBack = (k : ℕ) (is_cost : Bool) (x : Allocation) (tree : Data) → IsScale (pos k) → IsShares x
    → parts_at (codes "shares") tree ≡ map (share_data k is_cost x.den) x.shares
    → AreReadBack k is_cost x tree
