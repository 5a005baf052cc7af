-- Weights, and the pairs that they stand in, are read as they were printed.
use Rattle.std.proofs.Common.{◌≡◌, ℕ, ◌+◌, ◌-◌, ◌^◌, ◌<◌, ◌≤◌, Bool, true, List}
use Rattle.std.proofs.Common.{[], ◌∷◌, map, Option, Some, None}
use Rattle.std.proofs.Common.{option_and_then, ℤ, pos, negsuc, nat_lt, nat_le, ◌&&◌, refl, ap, ap₂}
use Rattle.std.proofs.Common.{◌∙◌, arith}
use Rattle.std.specs.Prelude.{is_some, unwrap_or}
use Rattle.std.specs.List.{list_all, AllByRecursion}
use Rattle.std.proofs.lemmas.Bool.{and_from, lt-ltb, le-leb}
use Rattle.serde_json.specs.Data.{Data}
use Rattle.serde_json.specs.View.{items_of}
use Rattle.definitions.specs.Certificates.{IsSmall}
use Rattle.definitions.specs.Coalitions.{members}
use Rattle.json_trees.specs.Trees.{listed, parts, integer, is_number, is_array_of, second_passes, pair_members}
use Rattle.certificate_texts.specs.Shape.{is_weighted_coalition, is_weighted_player}
use Rattle.json_trees.specs.Players.{numbered_player}
use Rattle.certificate_texts.specs.Levels.{coalition_of, weighted_coalition, first_player, weighted_player}
use Rattle.json_trees.specs.Integers.{is_integer}
use Rattle.certificate_texts.specs.Certificates.{lists_coalition, lists_player}
use Rattle.report.specs.Certificates.{weight_data, coalition_pair, bound_pair}
use Rattle.report.specs.Values.{player_data, player_numbers}
use Rattle.json_trees.proofs.Values.{listed-items_of}
use Rattle.reading_back.proofs.CoalitionTexts.{if_passed, player_read, coalition_read}

-- ---- one number

pub weight_read : (z : ℤ) → IsSmall z → integer (weight_data z) ≡ Some z
weight_read (pos n) h = if_passed (nat_lt n (2 ^ 63)) (Some (pos n)) None (lt-ltb n (2 ^ 63) h)
weight_read (negsuc n) h = refl

player_named : (n i : ℕ) → n ≤ 64 → i < n → option_and_then (numbered_player n) (integer (player_data i)) ≡ Some i
player_named n i m h =
    let e : i + 1 - 1 ≡ i = omega arith in
    ap (option_and_then (numbered_player n)) (player_read i (omega arith))
    ∙ if_passed (nat_lt 0 (i + 1) && nat_le (i + 1) n) (Some (i + 1 - 1)) None
    (and_from (nat_lt 0 (i + 1)) (nat_le (i + 1) n) (lt-ltb 0 (i + 1) (omega arith))
    (le-leb (i + 1) n (omega arith))) ∙ ap Some e

-- ---- a coalition and its weight

-- a coalition of n players and a weight
abbrev pub IsWeighted : ℕ → ℕ × ℤ → Type 0
IsWeighted n p = (p.0 < 2 ^ n) × IsSmall p.1

abbrev pair : ℕ → ℤ → ℕ × ℤ
pair i z = (i, z)

pub coalition_pair_read : (n : ℕ) → n ≤ 64 → (p : ℕ × ℤ) → IsWeighted n p
    → weighted_coalition n (coalition_pair p) ≡ p
coalition_pair_read n m p h =
    ap₂ pair (ap (λ (o : Option ℕ). unwrap_or o 0) (coalition_read n p.0 m h.0))
    (ap (λ (o : Option ℤ). unwrap_or o (pos 0)) (weight_read p.1 h.1))

pub coalition_pair_listed : (n : ℕ) → n ≤ 64 → (p : ℕ × ℤ) → IsWeighted n p
    → lists_coalition n (coalition_pair p) ≡ true
coalition_pair_listed n m p h =
    and_from (is_some (coalition_of n (pair_members (coalition_pair p))))
    (second_passes is_integer (parts (coalition_pair p)))
    (ap is_some (coalition_read n p.0 m h.0)) (ap is_some (weight_read p.1 h.1))

numbers_pass : (is : List ℕ) → list_all is_number (map player_data is) ≡ true
numbers_pass [] = refl
numbers_pass (i ∷ is) = numbers_pass is

pub coalition_pair_shaped : (p : ℕ × ℤ) → is_weighted_coalition (coalition_pair p) ≡ true
coalition_pair_shaped p =
    and_from (is_array_of is_number (player_numbers p.0)) (is_number (weight_data p.1))
    (ap (list_all is_number) (listed-items_of (map player_data (members 64 p.0))) ∙ numbers_pass (members 64 p.0))
    refl

-- ---- a player and the weight of its bound

-- one of n players and a weight
abbrev pub IsBound : ℕ → ℕ × ℤ → Type 0
IsBound n p = (p.0 < n) × IsSmall p.1

pub bound_pair_read : (n : ℕ) → n ≤ 64 → (p : ℕ × ℤ) → IsBound n p → weighted_player n (bound_pair p) ≡ p
bound_pair_read n m p h =
    ap₂ pair (ap (λ (o : Option ℕ). unwrap_or o 0) (player_named n p.0 m h.0))
    (ap (λ (o : Option ℤ). unwrap_or o (pos 0)) (weight_read p.1 h.1))

pub bound_pair_listed : (n : ℕ) → n ≤ 64 → (p : ℕ × ℤ) → IsBound n p → lists_player n (bound_pair p) ≡ true
bound_pair_listed n m p h =
    and_from (is_some (first_player n (parts (bound_pair p)))) (second_passes is_integer (parts (bound_pair p)))
    (ap is_some (player_named n p.0 m h.0)) (ap is_some (weight_read p.1 h.1))

pub bound_pair_shaped : (p : ℕ × ℤ) → is_weighted_player (bound_pair p) ≡ true
bound_pair_shaped p = refl

-- ---- lists

pub all_read : {X : Type 0} (P : X → Type 0) (write : X → Data) (read : Data → X)
    → ((x : X) → P x → read (write x) ≡ x) → (xs : List X) → AllByRecursion P xs
    → map read (listed (items_of (map write xs))) ≡ xs
all_read P write read each [] h = refl
all_read P write read each (x ∷ xs) h = ap₂ (λ y ys. y ∷ ys) (each x h.0) (all_read P write read each xs h.1)

pub all_pass : {X : Type 0} (P : X → Type 0) (write : X → Data) (test : Data → Bool)
    → ((x : X) → P x → test (write x) ≡ true) → (xs : List X) → AllByRecursion P xs
    → list_all test (listed (items_of (map write xs))) ≡ true
all_pass P write test each [] h = refl
all_pass P write test each (x ∷ xs) h =
    and_from (test (write x)) (list_all test (listed (items_of (map write xs)))) (each x h.0)
    (all_pass P write test each xs h.1)

pub every_pass : {X : Type 0} (write : X → Data) (test : Data → Bool) → ((x : X) → test (write x) ≡ true)
    → (xs : List X) → list_all test (listed (items_of (map write xs))) ≡ true
every_pass write test each [] = refl
every_pass write test each (x ∷ xs) =
    and_from (test (write x)) (list_all test (listed (items_of (map write xs)))) (each x)
    (every_pass write test each xs)
