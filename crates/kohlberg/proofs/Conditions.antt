-- Steps to the form and the conditions of a level.
use Rattle.std.proofs.Common.{◌≡◌, ◌⊎◌, ℕ, ◌-◌, ◌^◌, ◌<◌, Bool, true, false, not}
use Rattle.std.proofs.Common.{◌&&◌, ℤ, pos}
use Rattle.std.proofs.Common.{◌*ℤ◌, neg_ℤ, ◌≤ℤ◌, sym, ap, ◌∙◌, inl, inr, arith}
use Rattle.std.proofs.lemmas.Bool.{false≢true}
use lib.IntN.{*ℤ_comm}
use Rattle.definitions.proofs.Ring.{linear, mul-leℤ}
use Rattle.definitions.proofs.Members.{has_player-empty, has_player-grand_coalition}
use Rattle.definitions.specs.Coalitions.{has_player, grand_coalition, some_below, splits}
use Rattle.definitions.proofs.Splits.{some_below-true}
use Rattle.definitions.proofs.Cases.{and_left, and_right, from_not}

-- ---- proper coalitions

-- a coalition that holds a player and lacks one is proper
pub proper : (n s i j : ℕ) → s < 2 ^ n → has_player s i ≡ true → j < n → has_player s j ≡ false
    → (0 < s) × (s < grand_coalition n)
proper n s i j small has jn lacks = (above s has, below s small lacks)
  where
    positive_or_zero : (s : ℕ) → (0 < s) ⊎ (s ≡ 0)
    positive_or_zero s = grind arith

    above : (s : ℕ) → has_player s i ≡ true → 0 < s
    above s e =
        elim (positive_or_zero s) [
          | inl lt ↦ lt
          | inr zero_s ↦ absurd
              (false≢true (sym (has_player-empty i) ∙ sym (ap (λ (t : ℕ). has_player t i) zero_s) ∙ e))
        ]

    below_or_all : (s m : ℕ) → s < m → (s < m - 1) ⊎ (s ≡ m - 1)
    below_or_all s m h = grind arith

    below : (s : ℕ) → s < 2 ^ n → has_player s j ≡ false → s < grand_coalition n
    below s lt e =
        elim (below_or_all s (2 ^ n) lt) [
          | inl less ↦ less
          | inr all ↦ absurd
              (false≢true (sym e ∙ ap (λ (t : ℕ). has_player t j) all ∙ has_player-grand_coalition n j jn))
        ]

-- ---- what splits some players

-- a coalition that splits the players that pass a test holds one of them and lacks one
pub splits-two : (n : ℕ) (test : ℕ → Bool) (s : ℕ) → splits n test s ≡ true
    → (i : ℕ) × (j : ℕ) × (i < n) × (test i ≡ true) × (has_player s i ≡ true) × (j < n) × (test j ≡ true)
    × (has_player s j ≡ false)
splits-two n test s h =
    let some_in = some_below n (λ i. test i && has_player s i) in
    let some_out = some_below n (λ i. test i && not (has_player s i)) in
    let a = some_below-true n (λ i. test i && has_player s i) (and_left some_in some_out h) in
    let b = some_below-true n (λ i. test i && not (has_player s i)) (and_right some_in some_out h) in (
      a.0,
      b.0,
      a.1,
      and_left (test a.0) (has_player s a.0) a.2,
      and_right (test a.0) (has_player s a.0) a.2,
      b.1,
      and_left (test b.0) (not (has_player s b.0)) b.2,
      from_not (has_player s b.0) (and_right (test b.0) (not (has_player s b.0)) b.2),
    )

-- ---- the excess of a level

pub level_excess : (e p en ed den : ℤ) → e ≡ neg_ℤ p → neg_ℤ p *ℤ ed ≡ en *ℤ den → e *ℤ ed ≡ en *ℤ den
level_excess e p en ed den h k = ap (λ (z : ℤ). z *ℤ ed) h ∙ k

pub level_most : (e p en ed den : ℤ) → pos 1 ≤ℤ ed → e ≤ℤ neg_ℤ p → neg_ℤ p *ℤ ed ≡ en *ℤ den
    → (e *ℤ ed) ≤ℤ (en *ℤ den)
level_most e p en ed den one h k =
    omega (arith, linear, mul-leℤ ed e (neg_ℤ p) (omega (arith, linear)) h, *ℤ_comm ed e, *ℤ_comm ed (neg_ℤ p))
