-- For the private functions of this crate.
-- The sets of the first players by their weight, and by whether they have to hold some player of a coalition f, and
-- to lack some.
--
--   passes needed answer     the answer is yes, or not needed
--   holds_one_of f count s   s holds some of the first players of f
--   lacks_one_of f count s   s lacks some of the first players of f
--   IsOfKind                 a set of the first players that passes
--   Numbers, weights         a weight and a number of each player; the weights as integers
--   IsOfWeight               one of the kind, of that weight
--   IsLayer                  the best set of the kind for each weight
--   AreSplitLayers           the layers of the four kinds
--   AddsPlayer               the layers with one more player seen
--   AreSmallLayers           each candidate of the four layers is one of the first count players
use Rattle.std.specs.Prelude.{◌≡◌, ℕ, ◌+◌, ◌^◌, ◌<◌, Bool, true, false, not, ◌&&◌}
use Rattle.std.specs.Prelude.{ℤ, pos, if◌then◌else◌}
use Rattle.definitions.specs.Coalitions.{has_player, some_below, sum_over}
use Rattle.voting.specs.declared.layer.Layer.{Layer}
use Rattle.voting.specs.declared.split_layers.SplitLayers.{SplitLayers}
use Rattle.voting.specs.Candidates.{at_weight, IsBest, AreSmall}

abbrev pub passes : Bool → Bool → Bool
passes needed answer = if needed then answer else true

abbrev pub holds_one_of : ℕ → ℕ → ℕ → Bool
holds_one_of f count s = some_below count (λ i. has_player f i && has_player s i)

abbrev pub lacks_one_of : ℕ → ℕ → ℕ → Bool
lacks_one_of f count s = some_below count (λ i. has_player f i && not (has_player s i))

-- a set of the first players that holds some of f, if that is needed, and lacks some, if that is needed
abbrev pub IsOfKind : Bool → Bool → ℕ → ℕ → ℕ → Type 0
IsOfKind holding lacking f count s =
    (s < 2 ^ count) × (passes holding (holds_one_of f count s) ≡ true)
    × (passes lacking (lacks_one_of f count s) ≡ true)

-- players with a weight each, and a number each that sets are compared by
pub record Numbers : Type 0 where
  pub players : ℕ
  pub weight : ℕ → ℕ
  pub number : ℕ → ℤ

-- the weights as integers
abbrev pub weights : Numbers → ℕ → ℤ
weights m i = pos (m.weight i)

abbrev pub IsOfWeight : Numbers → Bool → Bool → ℕ → ℕ → ℕ → ℕ → Type 0
IsOfWeight m holding lacking f count w s =
    IsOfKind holding lacking f count s × (sum_over m.players (weights m) s ≡ pos w)

-- the best set of the kind for each weight up to 1,000
pub record IsLayer (m : Numbers) (holding lacking : Bool) (f count : ℕ) (l : Layer) : Type 0 where
  pub each : (w : ℕ) → w < 1001
      → IsBest (IsOfWeight m holding lacking f count w) (sum_over m.players m.number) (at_weight l w)

-- the layers of all sets of the first players, of those that hold some of f, of those that lack some, and of those
-- that do both
pub record AreSplitLayers (m : Numbers) (f count : ℕ) (ls : SplitLayers) : Type 0 where
  pub any : IsLayer m false false f count ls.any
  pub holding : IsLayer m true false f count ls.holding
  pub lacking : IsLayer m false true f count ls.lacking
  pub both : IsLayer m true true f count ls.both

-- whatever was seen before, the layers with one more player seen, of this weight and number, and in f or not
abbrev pub AddsPlayer : SplitLayers → Bool → ℕ → ℕ → ℤ → SplitLayers → Type 0
AddsPlayer before is_free i weight number after =
    (m : Numbers) (f : ℕ) → i < m.players → has_player f i ≡ is_free → m.weight i ≡ weight → m.number i ≡ number
    → AreSplitLayers m f i before → AreSplitLayers m f (i + 1) after

pub record AreSmallLayers (count : ℕ) (ls : SplitLayers) : Type 0 where
  pub any : AreSmall count ls.any
  pub holding : AreSmall count ls.holding
  pub lacking : AreSmall count ls.lacking
  pub both : AreSmall count ls.both
