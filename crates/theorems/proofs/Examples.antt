-- The definitions, computed on small games.
use Rattle.std.proofs.Common.{◌≤◌, ◌≡◌, ℕ, Bool, true, List, [], ◌∷◌, ℤ, pos, negsuc, ◌≤ℤ◌, refl}
use Rattle.std.proofs.Common.{arith, inl, rules, slice_index, slice_index_or, int_le, int_lt, not, ◌||◌, ◌*ℤ◌}
use Rattle.std.proofs.lemmas.Int.{ints}
use Rattle.definitions.specs.Order.{sorted}
use Rattle.definitions.specs.Coalitions.{has_player, weight_at, members}
use Rattle.definitions.specs.Games.{Game, Allocation, excess, excess_list, Beats, IsChosenBlocker}
use Rattle.definitions.specs.Games.{IsNucleolus}
use Rattle.definitions.specs.Certificates.{Level}
use Rattle.theorems.proofs.Certified.{IsNucleolus-from_test}
pub use Rattle.theorems.proofs.Certified.{from_int_eq}
use Rattle.definitions.specs.declared.Family.TheVariants.{Imputations}
use Rattle.definitions.specs.declared.Measure.TheVariants.{Plain, PerHead}
use Rattle.std.specs.Ordering.{int_eq}
use Rattle.definitions.specs.Balanced.{IsBalancedOfExcessWorth}
use Rattle.definitions.specs.Classes.{table_worth, airport_worth, bankruptcy_worth, plan_cost, Matrix, IsMatching}
use Rattle.definitions.specs.Classes.{matching_value}
use Rattle.definitions.specs.Shapley.{shapley_total}
use Rattle.definitions.proofs.Splits.{passes_below-at}

-- ---- three players, of whom any two are worth 1

abbrev pub majority : Game
majority = record
    { players = 3; worth = table_worth (pos 0 ∷ (pos 0 ∷ (pos 1 ∷ (pos 0 ∷ (pos 1 ∷ (pos 1 ∷ (pos 1 ∷ []))))))) }

-- player 1 has all
abbrev first_takes_all : Allocation
first_takes_all = record { shares = pos 1 ∷ (pos 0 ∷ (pos 0 ∷ [])); den = pos 1 }

blocker_excess : excess majority first_takes_all 6 ≡ pos 1
blocker_excess = refl

-- ---- an airport with the costs 2, 4, 6

abbrev pub airport : Game
airport = record { players = 3; worth = airport_worth (2 ∷ (4 ∷ (6 ∷ []))) }

-- payments 1, 3/2, 7/2
abbrev pub fair : Allocation
fair = record { shares = negsuc 1 ∷ (negsuc 2 ∷ (negsuc 6 ∷ [])); den = pos 2 }

-- payments 1, 2, 3
abbrev other : Allocation
other = record { shares = negsuc 0 ∷ (negsuc 1 ∷ (negsuc 2 ∷ [])); den = pos 1 }

fair_list : excess_list Plain airport fair (pos 1)
    ≡ negsuc 1 ∷ (negsuc 4 ∷ (negsuc 2 ∷ (negsuc 4 ∷ (negsuc 2 ∷ (negsuc 1 ∷ [])))))
fair_list = refl

fair_sorted : sorted (excess_list Plain airport fair (pos 1))
    ≡ negsuc 1 ∷ (negsuc 1 ∷ (negsuc 2 ∷ (negsuc 2 ∷ (negsuc 4 ∷ (negsuc 4 ∷ [])))))
fair_sorted = refl

other_sorted : sorted (excess_list Plain airport other (pos 2))
    ≡ negsuc 1 ∷ (negsuc 1 ∷ (negsuc 1 ∷ (negsuc 3 ∷ (negsuc 3 ∷ (negsuc 5 ∷ [])))))
other_sorted = refl

fair_beats : Beats Plain airport fair other
fair_beats = search rules

-- ---- excess per head: the first two are worth 6 together, and all three 12

abbrev savings : Game
savings = record
    { players = 3; worth = table_worth (pos 0 ∷ (pos 0 ∷ (pos 6 ∷ (pos 0 ∷ (pos 0 ∷ (pos 0 ∷ (pos 12 ∷ []))))))) }

-- shares 5, 5, 2
abbrev by_head : Allocation
by_head = record { shares = pos 5 ∷ (pos 5 ∷ (pos 2 ∷ [])); den = pos 1 }

-- shares 9/2, 9/2, 3
abbrev plain : Allocation
plain = record { shares = pos 9 ∷ (pos 9 ∷ (pos 6 ∷ [])); den = pos 2 }

-- -5, -5, -2, -2, -7/2 and -7/2, times 720720
by_head_list : excess_list PerHead savings by_head (pos 1)
    ≡ negsuc 3603599
    ∷ (negsuc 3603599 ∷ (negsuc 1441439 ∷ (negsuc 1441439 ∷ (negsuc 2522519 ∷ (negsuc 2522519 ∷ [])))))
unfolding members
by_head_list = refl

plain_list : excess_list PerHead savings plain (pos 1)
    ≡ negsuc 6486479
    ∷ (negsuc 6486479 ∷ (negsuc 2162159 ∷ (negsuc 4324319 ∷ (negsuc 5405399 ∷ (negsuc 5405399 ∷ [])))))
unfolding members
plain_list = refl

by_head_beats : Beats PerHead savings by_head plain
unfolding members
by_head_beats = search rules

-- ---- totals over all orders, and an estate

shapley_majority : shapley_total majority 0 ≡ pos 2
shapley_majority = refl

shapley_airport : shapley_total airport 2 ≡ negsuc 21
shapley_airport = refl

bankrupt : bankruptcy_worth 400 (100 ∷ (200 ∷ (300 ∷ []))) 6 ≡ pos 300
bankrupt = refl

-- ---- the chosen blocker of majority, by a test of each coalition

chosen : IsChosenBlocker majority first_takes_all 6
chosen = record {
  within = omega arith;
  blocks = search rules;
  greatest = λ t h.
      omega (arith, ints, passes_below-at 8 (λ t. int_le (excess majority first_takes_all t) (pos 1)) refl t h);
  least = λ t h.
      omega (arith, ints, passes_below-at 6 (λ t. int_lt (excess majority first_takes_all t) (pos 1)) refl t h);
}

-- ---- the certificate of the airport game

abbrev first_level : Level
first_level = record {
  excess_num = negsuc 0;
  excess_den = pos 1;
  coalitions = (1, pos 1) ∷ ((6, pos 1) ∷ []);
  earlier = [];
  bounds = [];
  total = pos 1;
}

abbrev second_level : Level
second_level = record {
  excess_num = negsuc 2;
  excess_den = pos 2;
  coalitions = (3, pos 1) ∷ ((5, pos 1) ∷ []);
  earlier = (1, negsuc 0) ∷ [];
  bounds = [];
  total = pos 1;
}

pub from_either : (b : Bool) (u v : ℤ) → (not b || int_le u v) ≡ true → b ≡ true → u ≤ℤ v
from_either b u v e h = grind (arith, ints)

-- the payments 1, 3/2, 7/2 are the nucleolus
pub fair_nucleolus : IsNucleolus Imputations Plain airport fair
fair_nucleolus =
    IsNucleolus-from_test Imputations Plain airport fair (first_level ∷ (second_level ∷ [])) (inl refl) refl

-- ---- plans, matchings, collections

-- a matrix from its rows
abbrev from_rows : List (List ℕ) → Matrix
from_rows rows i j = slice_index (slice_index_or rows i []) j

abbrev tree : Matrix
tree = from_rows ((0 ∷ (10 ∷ (10 ∷ []))) ∷ ((10 ∷ (0 ∷ (1 ∷ []))) ∷ ((10 ∷ (1 ∷ (0 ∷ []))) ∷ [])))

tree_plan_flat : plan_cost tree ((0, 1) ∷ ((1, 2) ∷ [])) ≡ 11
tree_plan_flat = refl

abbrev house : Matrix
house = from_rows ((5 ∷ (8 ∷ [])) ∷ ((7 ∷ (6 ∷ [])) ∷ []))

house_matching : IsMatching 2 (has_player 15) ((0, 1) ∷ ((1, 0) ∷ []))
house_matching = (search rules, refl, refl, (search rules, refl, refl, tt))

house_value : matching_value house ((0, 1) ∷ ((1, 0) ∷ [])) ≡ 15
house_value = refl

-- the three pairs with weight 1 add to 2 at each player, and are worth 3
pairs_collection : IsBalancedOfExcessWorth majority ((3, pos 1) ∷ ((5, pos 1) ∷ ((6, pos 1) ∷ []))) (pos 2)
pairs_collection = record {
  positive = search rules;
  ascends = search rules;
  within = search rules;
  weights = search rules;
  balanced = λ i h. from_int_eq _ _
      (passes_below-at 3 (λ i. int_eq (weight_at ((3, pos 1) ∷ ((5, pos 1) ∷ ((6, pos 1) ∷ []))) i) (pos 2)) refl i
      h);
  excess_worth = search rules;
  lowest_terms = λ d h k. divides_one d k.0.0 k.0.1;
}
  where
    divides_one : (d : ℕ) (c : ℤ) → pos 1 ≡ pos d *ℤ c → d ≤ 1
    divides_one d c e = grind (arith, ints)
