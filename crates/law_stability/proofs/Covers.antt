-- The greatest number that a coalition's parts have. If two coalitions have no more than all their members together
-- and those in both, that makes a convex game.
--
--   lies_in n r s   all players of r are in s
--   cover n e s     the greatest number e r of the coalitions r that lie in s
use Rattle.std.proofs.Common.{◌≡◌, ℕ, ◌+◌, ◌^◌, ◌<◌, Bool, true, false, ◌&&◌, ◌||◌, not, ℤ, ◌+ℤ◌, ◌≤ℤ◌, sym, ap, ◌∙◌}
use Rattle.std.proofs.Common.{inl, inr, arith}
use Rattle.std.proofs.lemmas.Bool.{false≢true}
use Rattle.std.proofs.Math.Pow.{pow_pos}
use Rattle.definitions.proofs.Cases.{same_or_other, from_not, or_cases, and_parts}
use Rattle.definitions.proofs.Members.{has_player-empty}
use Rattle.definitions.proofs.Parts.{has_player-more_same, has_player-more_other}
use Rattle.definitions.proofs.Ring.{linear}
use Rattle.definitions.proofs.Splits.{some_below-none, some_below-false}
use Rattle.definitions.specs.Sums.{IsGreatest}
use Rattle.definitions.specs.Coalitions.{has_player, some_below}
use Rattle.definitions.specs.Convexity.{IsConvex}
use Rattle.definitions.specs.Games.{Game}
use Rattle.theorems.proofs.Transfers.{some_greatest}
use Rattle.law_answers.proofs.RenumberedCoalitions.{coalition_where-within, coalition_where-has}
use Rattle.law_stability.proofs.Unions.{union, common}

abbrev pub lies_in : ℕ → ℕ → ℕ → Bool
lies_in n r s = not (some_below n (λ i. has_player r i && not (has_player s i)))

pub lies_from : (n r s : ℕ) → ((i : ℕ) → i < n → has_player r i ≡ true → has_player s i ≡ true)
    → lies_in n r s ≡ true
lies_from n r s h =
    ap not
    (some_below-none n (λ i. has_player r i && not (has_player s i))
    (λ i lt. by_test (has_player r i) (has_player s i) (h i lt)))
  where
    by_test : (p q : Bool) → (p ≡ true → q ≡ true) → (p && not q) ≡ false
    by_test p q h = grind arith

pub lies_to : (n r s i : ℕ) → lies_in n r s ≡ true → i < n → has_player r i ≡ true → has_player s i ≡ true
lies_to n r s i h lt inside =
    by_test (has_player r i) (has_player s i) inside
    (some_below-false n (λ i. has_player r i && not (has_player s i))
    (from_not (some_below n (λ i. has_player r i && not (has_player s i))) h) i lt)
  where
    by_test : (p q : Bool) → p ≡ true → (p && not q) ≡ false → q ≡ true
    by_test p q e h = grind arith

module _ (n : ℕ) (e : ℕ → ℤ) where
  pub greatest_in : (s : ℕ) → (m : ℤ) × IsGreatest (λ r. (r < 2 ^ n) × (lies_in n r s ≡ true)) e m
  greatest_in s = elim (some_greatest (λ r. lies_in n r s) e (2 ^ n)) [
    | inl none ↦ absurd
        (false≢true
        (sym (none 0 (pow_pos n))
        ∙ lies_from n 0 s (λ i lt inside. absurd (false≢true (sym (has_player-empty i) ∙ inside)))))
    | inr found ↦ found
  ]

  abbrev pub cover : ℕ → ℤ
  cover s = (greatest_in s).0

  abbrev pub cover_game : Game
  cover_game = record { players = n; worth = cover }

  pub cover-convex
      : ((a b : ℕ) → a < 2 ^ n → b < 2 ^ n → (e a +ℤ e b) ≤ℤ (e (union n a b) +ℤ e (common n a b)))
      → IsConvex cover_game
  cover-convex modular s i j o =
      let first = (greatest_in (s + 2 ^ i)).1 in
      let second = (greatest_in (s + 2 ^ j)).1 in
      let a = first.0.0 in
      let b = second.0.0 in
      let le = modular a b first.0.1.0 second.0.1.0 in
      let up =
      (greatest_in (s + 2 ^ i + 2 ^ j)).1.1 (union n a b) (
        coalition_where-within n (λ k. has_player a k || has_player b k),
        lies_from n (union n a b) (s + 2 ^ i + 2 ^ j)
            (λ k lt inside. elim (or_cases (has_player a k) (has_player b k)
            (sym (coalition_where-has n (λ k. has_player a k || has_player b k) k lt) ∙ inside)) [
              | inl in_a ↦ from_first k (lies_to n a (s + 2 ^ i) k first.0.1.1 lt in_a)
              | inr in_b ↦ from_second k (lies_to n b (s + 2 ^ j) k second.0.1.1 lt in_b)
            ]),
      ) in
      let down =
      (greatest_in s).1.1 (common n a b) (
        coalition_where-within n (λ k. has_player a k && has_player b k),
        lies_from n (common n a b) s
            (λ k lt inside.
            let both = and_parts (has_player a k) (has_player b k)
            (sym (coalition_where-has n (λ k. has_player a k && has_player b k) k lt) ∙ inside) in
            in_both k (lies_to n a (s + 2 ^ i) k first.0.1.1 lt both.0)
            (lies_to n b (s + 2 ^ j) k second.0.1.1 lt both.1)),
      ) in
      omega (arith, linear, le, up, down, first.0.2, second.0.2)
    where
      out_j : has_player (s + 2 ^ i) j ≡ false
      out_j = has_player-more_other s i j o.4 (λ same. o.3 (sym same)) ∙ o.5

      from_first : (k : ℕ) → has_player (s + 2 ^ i) k ≡ true → has_player (s + 2 ^ i + 2 ^ j) k ≡ true
      from_first k h = elim (same_or_other k j) [
        | inl same ↦ ap (has_player (s + 2 ^ i + 2 ^ j)) same ∙ has_player-more_same (s + 2 ^ i) j out_j
        | inr ne ↦ has_player-more_other (s + 2 ^ i) j k out_j ne ∙ h
      ]

      from_second : (k : ℕ) → has_player (s + 2 ^ j) k ≡ true → has_player (s + 2 ^ i + 2 ^ j) k ≡ true
      from_second k h = elim (same_or_other k j) [
        | inl same ↦ ap (has_player (s + 2 ^ i + 2 ^ j)) same ∙ has_player-more_same (s + 2 ^ i) j out_j
        | inr ne ↦ elim (same_or_other k i) [
          | inl at ↦ from_first k (ap (has_player (s + 2 ^ i)) at ∙ has_player-more_same s i o.4)
          | inr other ↦ from_first k
              (has_player-more_other s i k o.4 other ∙ sym (has_player-more_other s j k o.5 ne) ∙ h)
        ]
      ]

      in_both : (k : ℕ) → has_player (s + 2 ^ i) k ≡ true → has_player (s + 2 ^ j) k ≡ true → has_player s k ≡ true
      in_both k h l = elim (same_or_other k i) [
        | inl at ↦ sym (has_player-more_other s j k o.5 (λ same. o.3 (sym at ∙ same))) ∙ l
        | inr other ↦ sym (has_player-more_other s i k o.4 other) ∙ h
      ]
