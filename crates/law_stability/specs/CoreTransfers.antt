-- What a player could still take from another at a core point, while no coalition would leave. At the points of the
-- prekernel, and at no other core points, that is as much as the other could take from it: each two divide what is
-- between them evenly.
-- Source: Maschler, Peleg and Shapley 1979; Peleg and Sudhölter, Introduction to the Theory of Cooperative Games. The
-- laws are contracts of functions of this crate.
--
--   only w t l                t for player l = w, and 0 for the others
--   taken k t x i j           shares over k times the denominator: t more for i, and t less for j
--   IsMostTaken g x i j m     over the denominator, m is the most that i can take from j so that a core point is left
--   InTheMiddle g x           for any two, one number is the most that each can take from the other
--   PrekernelIsInTheMiddle    the core points in the middle are those of the prekernel
--   all_first                 the first of two gets 1
--   TakenHalves               of two who both have to agree each can take half, and no more; all for the first is a
--                             core point too, and not in the middle
use Rattle.std.specs.Prelude.{◌≢◌, ◌↔◌, ℕ, ◌<◌, [], ◌∷◌, map, length, if◌then◌else◌, ℤ, pos, ◌+ℤ◌, ◌-ℤ◌, ◌*ℤ◌, ◌≤ℤ◌}
use Rattle.std.specs.List.{range_with_len}
use Rattle.definitions.specs.Coalitions.{has_player, singleton}
use Rattle.definitions.specs.Games.{Game, Allocation, share, InCore}
use Rattle.definitions.specs.Prekernel.{InPrekernel}
use Rattle.law_stability.specs.TwoVoters.{both_agree, halves}

abbrev pub only : ℕ → ℤ → ℕ → ℤ
only w t l = if has_player (singleton w) l then t else pos 0

-- over k times the denominator, i gets t more and j gets t less
abbrev pub taken : ℤ → ℤ → Allocation → ℕ → ℕ → Allocation
taken k t x i j = record {
  shares = map (λ l. k *ℤ share x l +ℤ (only i t l -ℤ only j t l)) (range_with_len 0 (length x.shares));
  den = k *ℤ x.den;
}

-- i can take m, over the denominator, and no greater fraction
abbrev pub IsMostTaken : Game → Allocation → ℕ → ℕ → ℤ → Type 0
IsMostTaken g x i j m =
    InCore g (taken (pos 1) m x i j)
    × ((k t : ℤ) → pos 1 ≤ℤ k → InCore g (taken k t x i j) → t ≤ℤ (k *ℤ m))

abbrev pub InTheMiddle : Game → Allocation → Type 0
InTheMiddle g x =
    (i j : ℕ) → i < g.players → j < g.players → i ≢ j → (m : ℤ) × IsMostTaken g x i j m × IsMostTaken g x j i m

abbrev pub PrekernelIsInTheMiddle : Type 0
PrekernelIsInTheMiddle = (g : Game) (x : Allocation) → InCore g x → InPrekernel g x ↔ InTheMiddle g x

abbrev pub all_first : Allocation
all_first = record { shares = pos 1 ∷ (pos 0 ∷ []); den = pos 1 }

abbrev pub TakenHalves : Type 0
TakenHalves =
    (IsMostTaken both_agree halves 0 1 (pos 1) × ¬ IsMostTaken both_agree halves 0 1 (pos 0))
    × InTheMiddle both_agree halves
    × (InCore both_agree all_first × ¬ InTheMiddle both_agree all_first)
