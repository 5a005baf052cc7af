-- Masks, joined player by player.
use Rattle.std.proofs.Common.{◌≡◌, ℕ, zero, suc, ◌+◌, ◌/◌, ◌^◌, ◌<◌, List, length}
use Rattle.std.proofs.Common.{get_or}
use Rattle.std.proofs.Common.{false, Option, Some, option_and_then, sym, ap, ◌∙◌, arith}
use Rattle.std.proofs.lemmas.Nat.Bits.{bit_at-suc, bit_at_lowest}
use Rattle.std.specs.Int.{bit_at}
use Rattle.serde_json.specs.View.{view}
use Rattle.serde_json.specs.declared.value.Value.{Value}
use Rattle.definitions.specs.Coalitions.{has_player}
use Rattle.json_trees.proofs.Values.{rest, rest_step}
use Rattle.document_parts.specs.Members.{player_of, join, joined}
use Rattle.definitions.proofs.Parts.{bit_zero}

-- a bit that isn't set may be added
pub add_below : (i n s : ℕ) → i < n → s < 2 ^ n → bit_at s i ≡ 0 → s + 2 ^ i < 2 ^ n
add_below i zero s h small e = absurd (omega arith)
add_below zero (suc n) s h small e = omega (arith, bit_at_lowest s)
add_below (suc i) (suc n) s h small e =
    let half : s / 2 < 2 ^ n = omega arith in
    let ih = add_below i n (s / 2) (omega arith) half (sym (bit_at-suc s i) ∙ e) in
    omega (arith, ih)

pub join_below : (n s i : ℕ) → i < n → s < 2 ^ n → has_player s i ≡ false → s + 2 ^ i < 2 ^ n
join_below n s i h small e = add_below i n s h small (bit_zero s i e)

module _ (n : ℕ) (names : List (List ℕ)) (whole : Option ℕ) (vs : List Value) (i s : ℕ) (v : Value)
    (h : i < length vs) (at : v ≡ get_or vs i v) (goes : whole ≡ joined n names s (rest vs i)) where
  turn : whole
      ≡ option_and_then (λ t. joined n names t (rest vs (i + 1)))
      (option_and_then (join s) (player_of n names (view v)))
  turn = goes ∙ ap (joined n names s) (rest_step vs i v h at)

  pub one_more : (k t : ℕ) → Some k ≡ player_of n names (view v) → Some t ≡ join s k
      → whole ≡ joined n names t (rest vs (i + 1))
  one_more k t e f =
      turn ∙ ap (λ o. option_and_then (λ t. joined n names t (rest vs (i + 1))) (option_and_then (join s) o)) (sym e)
      ∙ ap (option_and_then (λ t. joined n names t (rest vs (i + 1)))) (sym f)
