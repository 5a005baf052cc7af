-- At a core point of a bankruptcy game the surplus of one claimant against another is the greater of minus what the
-- first gets and minus what the other loses. If the two surpluses are the same, that is the contested garment
-- (Aumann and Maschler 1985).
use Rattle.std.proofs.Common.{◌≡◌, ◌≢◌, ℕ, ◌-◌, ◌^◌, ◌<◌, not, List, length, ℤ, pos, ◌-ℤ◌, ◌*ℤ◌, ◌≤ℤ◌, neg_ℤ, sym, ap}
use Rattle.std.proofs.Common.{◌∙◌, arith}
use Rattle.std.specs.Int.{int_max, int_min}
use Rattle.std.proofs.lemmas.Int.{ints, clamps, by_lt_z}
use Rattle.std.proofs.Math.Pow.{pow-lt}
use Rattle.definitions.proofs.Cases.{and_parts, and_both, from_not}
use Rattle.definitions.proofs.Masks.{grand_coalition-within, singleton-within}
use Rattle.definitions.proofs.Members.{has_player-singleton, has_player-singleton_other, sum_over-singleton}
use Rattle.definitions.proofs.Members.{sum_over-complement, sum_over-grand_coalition}
use Rattle.definitions.proofs.Parts.{others_has, others_lacks}
use Rattle.definitions.proofs.Ring.{linear, mul-leℤ}
use Rattle.definitions.specs.Coalitions.{has_player, singleton, grand_coalition, sum_over}
use Rattle.definitions.specs.Classes.{bankruptcy_worth}
use Rattle.definitions.specs.Games.{Allocation, share, amount, InCore}
use Rattle.definitions.specs.Prekernel.{IsSurplus, InPrekernel}
use Rattle.talmud.specs.Rule.{loss}
use Rattle.law_answers.specs.TalmudRule.{IsGarment, IsConsistent}
use Rattle.law_answers.proofs.EachTwoAreAGarment.{cut_claimed, uncut}
use Rattle.talmud.proofs.Excesses.{excess-outside}
use Rattle.talmud.proofs.Worths.{game_of, Divides, cut_claim, worth-cut, worth-grand_coalition, excess-others}
use Rattle.theorems.proofs.Products.{products}

-- the two surpluses, of shares y and z of the claims a and d
balanced : (a d y z m : ℤ) → m ≡ int_max (neg_ℤ y) (neg_ℤ (d -ℤ z)) → m ≡ int_max (neg_ℤ z) (neg_ℤ (a -ℤ y))
    → IsGarment a d y z
balanced a d y z m h k = omega (arith, ints, clamps, h, k)

greater : (m y l : ℤ) → m ≤ℤ neg_ℤ (int_min y l) → neg_ℤ y ≤ℤ m → neg_ℤ l ≤ℤ m → m ≡ int_max (neg_ℤ y) (neg_ℤ l)
greater m y l h j k = omega (arith, ints, clamps)

-- no coalition is worth less than nothing
worth-least : (estate : ℕ) (claims : List ℕ) (s : ℕ) → pos 0 ≤ℤ bankruptcy_worth estate claims s
worth-least estate claims s =
    least (bankruptcy_worth estate claims s)
    (pos estate -ℤ sum_over (length claims) (cut_claim estate claims) (grand_coalition (length claims) - s))
    (worth-cut estate claims s)
  where
    least : (v w : ℤ) → v ≡ int_max (pos 0) w → pos 0 ≤ℤ v
    least v w e = omega (arith, ints, clamps, e)

module _ (estate : ℕ) (claims : List ℕ) (x : Allocation) (core : InCore (game_of estate claims) x) where
  abbrev n : ℕ
  n = length claims

  den_some : pos 0 ≤ℤ x.den
  den_some = omega (arith, linear, core.0.1)

  amount-is : (s : ℕ) → amount x s ≡ sum_over n (share x) s
  amount-is s = ap (λ (k : ℕ). sum_over k (share x) s) core.0.0

  unblocked : (s : ℕ) → s < 2 ^ n → (x.den *ℤ bankruptcy_worth estate claims s) ≤ℤ sum_over n (share x) s
  unblocked s lt =
      by_lt_z (amount x s) (x.den *ℤ bankruptcy_worth estate claims s)
      (λ blocks. absurd (core.2 s lt blocks))
      (λ le. omega (arith, linear, le, amount-is s))

  whole : sum_over n (share x) (grand_coalition n) ≡ x.den *ℤ pos estate
  whole =
      omega (products, amount-is (grand_coalition n), core.1, ap (◌*ℤ◌ x.den) (worth-grand_coalition estate claims))

  gains : (i : ℕ) → i < n → pos 0 ≤ℤ share x i
  gains i lt =
      let some = mul-leℤ x.den (pos 0) (bankruptcy_worth estate claims (singleton i)) den_some
      (worth-least estate claims (singleton i)) in
      omega (products, some, unblocked (singleton i) (pow-lt lt), sum_over-singleton n i (share x) lt)

  losses : (i : ℕ) → i < n → pos 0 ≤ℤ loss estate claims x i
  losses i lt =
      let small : singleton i < 2 ^ n = pow-lt lt in
      let s = grand_coalition n - singleton i in
      let back : grand_coalition n - s ≡ singleton i = omega (arith, small) in
      let mine : sum_over n (cut_claim estate claims) (grand_coalition n - s) ≡ cut_claim estate claims i =
      ap (sum_over n (cut_claim estate claims)) back ∙ sum_over-singleton n i (cut_claim estate claims) lt in
      let low =
      below (bankruptcy_worth estate claims s) (sum_over n (cut_claim estate claims) (grand_coalition n - s))
      (cut_claim estate claims i) (worth-cut estate claims s) mine in
      let within = grand_coalition-within n in
      let scaled =
      mul-leℤ x.den (pos estate -ℤ cut_claim estate claims i) (bankruptcy_worth estate claims s) den_some low in
      let parts = sum_over-complement n (singleton i) (share x) small in
      let all = sum_over-grand_coalition n (share x) in
      omega
      (products, scaled, unblocked s (omega (arith, within)), parts, all, whole, sum_over-singleton n i (share x) lt)
    where
      below : (v c d : ℤ) → v ≡ int_max (pos 0) (pos estate -ℤ c) → c ≡ d → (pos estate -ℤ d) ≤ℤ v
      below v c d e f = omega (arith, ints, clamps, e, f)

  divides : Divides estate claims x
  divides = record {
    players = core.0.0;
    positive = core.0.1;
    all = sym (sum_over-grand_coalition n (share x)) ∙ whole;
    gains = gains;
    losses = losses;
  }

  -- the surplus of i against j
  surplus-is : (i j : ℕ) (m : ℤ) → i < n → j < n → i ≢ j → IsSurplus (game_of estate claims) x i j m
      → m ≡ int_max (neg_ℤ (share x i)) (neg_ℤ (loss estate claims x j))
  surplus-is i j m hi hj ne h = greater m (share x i) (loss estate claims x j) upper alone others
    where
      upper : m ≤ℤ neg_ℤ (int_min (share x i) (loss estate claims x j))
      upper =
          let s = h.0.0 in
          let holds = and_parts (has_player s i) (not (has_player s j)) h.0.1.1 in
          let most =
          excess-outside estate claims x s i j (int_min (share x i) (loss estate claims x j)) divides h.0.1.0 hi
          holds.0 (first (share x i) (loss estate claims x j)) hj (from_not (has_player s j) holds.1)
          (second (share x i) (loss estate claims x j)) in
          omega (arith, linear, most, h.0.2)
        where
          first : (y l : ℤ) → int_min y l ≤ℤ y
          first y l = omega (arith, ints, clamps)

          second : (y l : ℤ) → int_min y l ≤ℤ l
          second y l = omega (arith, ints, clamps)

      alone : neg_ℤ (share x i) ≤ℤ m
      alone =
          let some = mul-leℤ x.den (pos 0) (bankruptcy_worth estate claims (singleton i)) den_some
          (worth-least estate claims (singleton i)) in
          let lacks = ap not (has_player-singleton_other i j (λ e. ne (sym e))) in
          let le =
          h.1 (singleton i) (
            singleton-within n i hi,
            and_both (has_player (singleton i) i) (not (has_player (singleton i) j)) (has_player-singleton i)
                lacks,
          ) in
          omega (products, le, some, amount-is (singleton i), sum_over-singleton n i (share x) hi)

      others : neg_ℤ (loss estate claims x j) ≤ℤ m
      others =
          let s = grand_coalition n - singleton j in
          let lacks = ap not (others_lacks n j (singleton-within n j hj) hj) in
          let le =
          h.1 s (
            omega (arith, grand_coalition-within n),
            and_both (has_player s i) (not (has_player s j)) (others_has n j i (singleton-within n j hj) hi ne) lacks,
          ) in
          omega (arith, linear, le, excess-others estate claims x j divides hj)

  pub consistent : InPrekernel (game_of estate claims) x → IsConsistent estate claims x
  consistent k = record {
    players = core.0.0;
    positive = core.0.1;
    all = sym (sum_over-grand_coalition n (share x)) ∙ whole;
    each_two = λ i j hi hj ne.
        let both = k.2 i j hi hj ne in
        uncut estate claims x divides i j hi hj ne
        (balanced (cut_claimed estate claims x i) (cut_claimed estate claims x j) (share x i) (share x j) both.0
        (surplus-is i j both.0 hi hj ne both.1) (surplus-is j i both.0 hj hi (λ e. ne (sym e)) both.2));
  }
