-- The quota and the weights of a voting game in a document, and what the tests of them say.
use Rattle.std.specs.Prelude.{sum}
use Rattle.std.specs.List.{list_all}
use Rattle.std.proofs.Common.{◌≡◌, ◌&&◌, ℕ, ◌+◌, List, [], ◌∷◌, length, map, codes}
use Rattle.std.proofs.Common.{true, nat_lt, nat_le, if◌then◌else◌, ℤ, pos, negsuc, Some, None, unsigned_abs}
use Rattle.std.proofs.Common.{sum_by, refl, sym, ap, ap₂, ◌∙◌, subst, arith}
use Rattle.std.proofs.lemmas.Bool.{and_parts, and_from, ltb-true, leb-true, lt-ltb, le-leb}
use Rattle.std.proofs.lemmas.Int.{ints}
use Rattle.std.proofs.lemmas.List.{length-map}
use Rattle.std.proofs.lemmas.List.Sums.{sum_by-cons}
use Rattle.serde_json.specs.Data.{Data}
use Rattle.serde_json.specs.Find.{get}
use Rattle.json_texts.specs.Exact.{IsOrdered}
use Rattle.json_trees.specs.Trees.{parts_at, passes, is_number}
use Rattle.json_trees.specs.Trees.{is_array_of}
use Rattle.json_trees.specs.Keys.{has_only_keys}
use Rattle.document_parts.specs.ScaledNumbers.{number_or_zero, number_at, numbers_at}
use Rattle.document_parts.specs.Sizes.{is_cost, is_short_list_size}
use Rattle.document_parts.specs.Scales.{game_numbers, scale_of}
use Rattle.document_parts.specs.Numbers.{common_scale}
use Rattle.document_parts.proofs.LeastDenominators.{if_true}
use Rattle.game_text.specs.Classes.VotingClass.{voting_keys, is_voting_shaped, voting_values, is_quota}
use Rattle.game_text.specs.Classes.{class_of, has_players_as, has_numbers_as, own_values_as, own_numbers}
use Rattle.game_text.specs.declared.classes.Class.TheVariants.{Voting}
use Rattle.game_text.specs.Readings.{HasSizes}
use Rattle.game_text.specs.Shape.{is_game_shaped}
use Rattle.airport.specs.Costs.{IsCost}
use Rattle.voting.specs.Voting.{Voting as Votes, voting, IsVoting, HavePlayers, AreNumbers, IsQuota}
use Rattle.game_text.proofs.Sizes.{all_map, cost, estate_cost, kept_sizes, numbers_within}
use Rattle.game_text.proofs.OwnValues.{absent, integers_scale, items_pass, one_in_front, OwnsNumbers, costs_tested}
use Rattle.game_text.proofs.GivenNumbers.{of_class, first_number}
use Rattle.game_text.proofs.Laws.MatrixRows.{none_if}
use Rattle.game_text.proofs.PlainTrees.{IsPlain, plain_known}
use Rattle.game_text.proofs.GameTrees.{plain_cost, at_there, plain_numbers, plain_names, plain_excess, plain_class}
use Rattle.game_text.proofs.GameTrees.{is_object, named, measured, versioned, plain_version, at_deeper, shaped_as}

-- a quota and weights in their limits
pub record AreVotes (quota : ℤ) (weights : List ℤ) : Type 0 where
  pub players : HavePlayers weights
  pub numbers : AreNumbers quota weights

players_in : (ds : List Data) → is_short_list_size (length ds) ≡ true → HavePlayers (map (number_or_zero 1) ds)
players_in ds h =
    let range = and_parts (nat_lt 0 (length ds)) (nat_le (length ds) 32) h in
    let some = ltb-true 0 (length ds) range.0 in
    let few = leb-true (length ds) 32 range.1 in
    let long = length-map ds (number_or_zero 1) in
    (omega (arith, some, long), omega (arith, few, long))

pub voting_sizes : (game : Data) → class_of game ≡ Some Voting → HasSizes game
    → AreVotes (number_at 1 (codes "quota") game) (numbers_at 1 (codes "weights") game)
voting_sizes game e h =
    let both =
    and_parts (passes (is_cost 1) (get (codes "quota") game))
    (list_all (is_cost 1) (parts_at (codes "weights") game))
    (numbers_within game (scale_of game) Voting refl e h.numbers) in
    record {
      players =
          players_in (parts_at (codes "weights") game) (subst (λ c. has_players_as c game ≡ true) e h.players);
      numbers = (
        estate_cost 1 (get (codes "quota") game) both.0,
        all_map IsCost (number_or_zero 1) (is_cost 1) (cost 1) (parts_at (codes "weights") game) both.1,
      );
    }

-- ---- the game that was made

quota_passes : (g : Votes) → IsVoting g → is_quota g.quota g.weights ≡ true
quota_passes g h =
    and_from (nat_le (sum g.weights) 1000 && nat_lt 0 g.quota) (nat_le g.quota (sum g.weights))
    (and_from (nat_le (sum g.weights) 1000) (nat_lt 0 g.quota) (le-leb (sum g.weights) 1000 h.light)
    (lt-ltb 0 g.quota h.positive)) (le-leb g.quota (sum g.weights) h.reached)

pub voting_made : (g : Votes) (quota : ℤ) (weights : List ℤ) → pos g.quota ≡ quota → map pos g.weights ≡ weights
    → IsVoting g
    → Some g
    ≡ (if is_quota (unsigned_abs quota) (map unsigned_abs weights)
    then Some (voting (unsigned_abs quota) (map unsigned_abs weights)) else None)
voting_made g quota weights e f h =
    let x : unsigned_abs quota ≡ g.quota = ap unsigned_abs (sym e) in
    let y : map unsigned_abs weights ≡ g.weights = sym (kept_sizes g.weights weights f) in
    rw (x, y) (if_true (is_quota g.quota g.weights) (Some g) None (quota_passes g h))

-- ---- the game that wasn't made

sum_sizes : (zs : List ℤ) → sum (map unsigned_abs zs) ≡ sum_by unsigned_abs zs
sum_sizes [] = refl
sum_sizes (z ∷ zs) =
    sum_by-cons (λ (x : ℕ). x) (unsigned_abs z) (map unsigned_abs zs) ∙ ap (λ n. unsigned_abs z + n) (sum_sizes zs)
    ∙ sym (sum_by-cons unsigned_abs z zs)

quota_holds : (quota : ℤ) (weights : List ℤ) → IsCost quota
    → is_quota (unsigned_abs quota) (map unsigned_abs weights) ≡ true → IsQuota quota weights
quota_holds (pos n) weights number h =
    let total = sum (map unsigned_abs weights) in
    let parts = and_parts (nat_le total 1000 && nat_lt 0 n) (nat_le n total) h in
    let front = and_parts (nat_le total 1000) (nat_lt 0 n) parts.0 in
    let light = leb-true total 1000 front.0 in
    let positive = ltb-true 0 n front.1 in
    let reached = leb-true n total parts.1 in
    let same = sum_sizes weights in
    record {
      light = omega (arith, light, same);
      positive = omega (arith, ints, positive);
      reached = omega (arith, ints, reached, same);
    }
quota_holds (negsuc n) weights number h = absurd (omega (arith, ints, number.0))

pub voting_not_made : (quota : ℤ) (weights : List ℤ) → IsCost quota → ¬ IsQuota quota weights
    → None
    ≡ (if is_quota (unsigned_abs quota) (map unsigned_abs weights)
    then Some (voting (unsigned_abs quota) (map unsigned_abs weights)) else None)
voting_not_made quota weights number h =
    none_if (is_quota (unsigned_abs quota) (map unsigned_abs weights))
    (voting (unsigned_abs quota) (map unsigned_abs weights)) (λ t. h (quota_holds quota weights number t))

-- ---- its numbers

-- the keys and kinds of a voting game
record VotingShape (game : Data) : Type 0 where
  keys : has_only_keys voting_keys game ≡ true
  quota : passes is_number (get (codes "quota") game) ≡ true
  weights : passes (is_array_of is_number) (get (codes "weights") game) ≡ true

voting_shape : (game : Data) → is_voting_shaped game ≡ true → VotingShape game
voting_shape game h =
    let both =
    and_parts (has_only_keys voting_keys game && passes is_number (get (codes "quota") game))
    (passes (is_array_of is_number) (get (codes "weights") game)) h in
    let front = and_parts (has_only_keys voting_keys game) (passes is_number (get (codes "quota") game)) both.0 in
    record { keys = front.0; quota = front.1; weights = both.1 }

-- the scale looks at none of its keys
voting_scale : (game : Data) → is_voting_shaped game ≡ true → scale_of game ≡ 1
voting_scale game h =
    let none = absent voting_keys game (voting_shape game h).keys in
    let no_numbers : game_numbers game ≡ [] = simp none in
    ap common_scale no_numbers

votes_scale : (game : Data) → is_voting_shaped game ≡ true → common_scale (voting_values game) ≡ 1
votes_scale game h =
    let shape = voting_shape game h in
    integers_scale (voting_values game)
    (sym
    (one_in_front is_number is_number (get (codes "quota") game) (parts_at (codes "weights") game) shape.quota)
    ∙ ap₂ (λ a b. a && b) shape.quota (items_pass is_number (get (codes "weights") game) shape.weights))

pub owns_votes : (game : Data) → is_voting_shaped game ≡ true → OwnsNumbers (Some Voting) game
owns_votes game h =
    let shape = voting_shape game h in
    record {
      scale = votes_scale game h ∙ sym (voting_scale game h);
      tested =
          ap (λ n. nat_le n 65536 && has_numbers_as 1 (Some Voting) game) (voting_scale game h)
          ∙ costs_tested 1 (voting_values game) (has_numbers_as 1 (Some Voting) game) (votes_scale game h)
          (one_in_front is_number (is_cost 1) (get (codes "quota") game) (parts_at (codes "weights") game)
          shape.quota);
    }

pub voting_numbers : (game : Data) (zs : List ℤ) → class_of game ≡ Some Voting → HasSizes game
    → zs ≡ own_numbers game → zs ≡ number_at 1 (codes "quota") game ∷ numbers_at 1 (codes "weights") game
voting_numbers game zs e h n =
    let shaped = shaped_as game Voting e h.shaped in
    of_class Voting game zs e n
    ∙ ap (λ k. map (number_or_zero k) (own_values_as (Some Voting) game)) (voting_scale game shaped)
    ∙ first_number 1 is_number (get (codes "quota") game) (parts_at (codes "weights") game)
    (voting_shape game shaped).quota

-- ---- the tree of such a game

pub plain_voting : (k : ℕ) (game : Data) → IsOrdered game → class_of game ≡ Some Voting → is_game_shaped game ≡ true
    → has_numbers_as k (Some Voting) game ≡ true → IsPlain 4 game
plain_voting k game o c h w =
    let shape =
    and_parts (has_only_keys voting_keys game && passes is_number (get (codes "quota") game))
    (passes (is_array_of is_number) (get (codes "weights") game)) (shaped_as game Voting c h) in
    let front = and_parts (has_only_keys voting_keys game) (passes is_number (get (codes "quota") game)) shape.0 in
    let numbers =
    and_parts (passes (is_cost 1) (get (codes "quota") game))
    (list_all (is_cost 1) (parts_at (codes "weights") game)) w in
    plain_known 3 voting_keys game o (is_object game Voting c) front.0 (
      plain_class 3 game Voting c,
      (
        plain_excess 3 game (measured game h),
        (
          plain_names 2 game (named game h),
          (
            (λ e g. plain_cost 1 3 e (at_there (is_cost 1) (codes "quota") game e numbers.0 g)),
            (
              plain_version 3 game (versioned game h),
              (
                at_deeper 1 3 (codes "weights") game (omega arith)
                    (plain_numbers is_number (is_cost 1) (plain_cost 1 0) (codes "weights") game shape.1 numbers.1),
                tt,
              ),
            ),
          ),
        ),
      ),
    )
