-- A number of one player, and 0 of all others.
use Rattle.std.proofs.Common.{◌≡◌, ℕ, ◌<◌, Bool, cond, ℤ, pos, ◌∙◌, arith}
use Rattle.definitions.proofs.Members.{sum_below-same, sum_over-singleton}
use Rattle.definitions.specs.Coalitions.{has_player, singleton, sum_over}

abbrev pub at_player : ℕ → ℤ → ℕ → ℤ
at_player w c i = cond (has_player (singleton w) i) c (pos 0)

pub sum_over-at_player : (n s w : ℕ) (c : ℤ) → w < n → sum_over n (at_player w c) s ≡ cond (has_player s w) c (pos 0)
sum_over-at_player n s w c lt =
    sum_below-same n (λ i. cond (has_player s i) (at_player w c i) (pos 0))
    (λ i. cond (has_player (singleton w) i) (cond (has_player s i) c (pos 0)) (pos 0))
    (λ i h. swap (has_player s i) (has_player (singleton w) i))
    ∙ sum_over-singleton n w (λ i. cond (has_player s i) c (pos 0)) lt
  where
    swap : (a b : Bool) → cond a (cond b c (pos 0)) (pos 0) ≡ cond b (cond a c (pos 0)) (pos 0)
    swap a b = grind arith
