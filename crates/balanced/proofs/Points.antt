-- Optimal multipliers of the balanced program are shares that no coalition blocks.
--
-- The bound of a column says that its coalition is worth no more than its members' multipliers add to (`covered`). If
-- all of them add to the worth of all, they are a core point (`in_core`). Otherwise they add to more (`above_worth`),
-- and so do the weights (Collected.antt).
use Rattle.std.proofs.Common.{◌≡◌, ℕ, zero, suc, ◌^◌, ◌<◌, List, ℤ, pos, ◌*ℤ◌}
use Rattle.std.proofs.Common.{◌<ℤ◌, ◌≤ℤ◌}
use Rattle.std.proofs.Common.{sym, ap, subst, ◌∙◌, arith, if◌then◌else◌}
use Rattle.std.proofs.lemmas.Int.{by_lt_z}
use Rattle.definitions.proofs.Ring.{linear, mul-zeroℤ}
use Rattle.definitions.proofs.Members.{has_player-empty, sum_below-same, sum_below-zero}
use Rattle.definitions.proofs.Masks.{grand_coalition-within}
use Rattle.definitions.specs.Coalitions.{has_player, grand_coalition, sum_over}
use Rattle.definitions.specs.Games.{Game, IsGame, Allocation, share, amount, IsEfficient, InCore}
use Rattle.definitions.specs.Programs.{Bounds}
use Rattle.separation.specs.Balanced.{balanced_program}
use Rattle.separation.specs.Shares.{IsReadFrom}
use Rattle.separation.specs.Values.{multiplier_at}
use Rattle.balanced.proofs.Values.{column_of, value_members}

module _ (g : Game) (laws : IsGame g) (m : List ℤ) (den : ℤ) (bounds : Bounds (balanced_program g) m den)
    (x : Allocation) (read : IsReadFrom g.players m den x) where
  -- what a coalition gets is what its members' multipliers add to
  pub amount_read : (s : ℕ) → amount x s ≡ sum_over g.players (multiplier_at m) s
  amount_read s =
      ap (λ (n : ℕ). sum_over n (share x) s) read.players
      ∙ sum_below-same g.players (λ i. if has_player s i then share x i else pos 0)
      (λ i. if has_player s i then multiplier_at m i else pos 0)
      (λ i lt. ap (λ (z : ℤ). if has_player s i then z else pos 0) (read.shares i lt))

  -- a coalition is worth no more than it gets
  pub covered : (s : ℕ) → s < 2 ^ g.players → (x.den *ℤ g.worth s) ≤ℤ amount x s
  covered zero high =
      let nothing : amount x 0 ≡ pos 0 =
      amount_read 0
      ∙ sum_below-zero g.players (λ i. if has_player 0 i then multiplier_at m i else pos 0)
      (λ i lt. ap (λ b. if b then multiplier_at m i else pos 0) (has_player-empty i)) in
      let free : x.den *ℤ g.worth 0 ≡ pos 0 = ap (λ (z : ℤ). x.den *ℤ z) laws.nobody ∙ mul-zeroℤ x.den in
      omega (arith, linear, nothing, free)
  covered (suc s) high =
      let low = bounds.1 (suc s) (column_of g (suc s) (omega arith) high) in
      let den_is : x.den *ℤ g.worth (suc s) ≡ den *ℤ g.worth (suc s) =
      ap (λ (d : ℤ). d *ℤ g.worth (suc s)) read.common in
      omega (arith, linear, low, den_is, value_members g m (suc s), amount_read (suc s))

  -- where they add to the worth of all they are a point of the core
  pub in_core : IsEfficient g x → InCore g x
  in_core efficient = (
    (read.players, subst (λ (d : ℤ). pos 1 ≤ℤ d) (sym read.common) bounds.0),
    efficient,
    λ s high blocks. let low = covered s high in absurd (omega (arith, linear, low, blocks)),
  )

  -- otherwise they add to more
  pub above_worth : (¬ IsEfficient g x)
      → (x.den *ℤ g.worth (grand_coalition g.players)) <ℤ amount x (grand_coalition g.players)
  above_worth not =
      by_lt_z (x.den *ℤ g.worth (grand_coalition g.players)) (amount x (grand_coalition g.players)) (λ lt. lt)
      (λ le.
      let low = covered (grand_coalition g.players) (grand_coalition-within g.players) in
      absurd (not (omega (arith, linear, low, le))))
