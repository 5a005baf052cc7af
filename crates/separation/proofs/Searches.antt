-- A search for the first column that improves, number by number.
use Rattle.std.proofs.Common.{◌≡◌, inl, inr, ℕ, ◌+◌, ◌<◌, ◌≤◌, ◌^◌, arith, lt_trans}
use Rattle.definitions.proofs.Cases.{last_or_less_of}
use Rattle.worth_core.specs.declared.worth.Worth.{Ghosts}
use Rattle.separation.specs.Scanned.{CoalitionImproves, NoneBelow, NoneImproves, IsFirstImproving}
use Rattle.separation.specs.declared.scan.Scan.{Scan}

pub below_64 : (n : ℕ) → n ≤ 16 → n < 64
below_64 n few = omega arith

pub players_within_rows : (n m l : ℕ) → l ≡ n + m → n ≤ l
players_within_rows n m l e = omega arith

module _ {X : Type 0} {W : Ghosts X} (x : Scan X W) (s : ℕ) (none : NoneBelow x s) where
  pub first_here : s < 2 ^ x.program.now.players → CoalitionImproves x s → IsFirstImproving x s
  first_here lt improves = record { below = lt; improves = improves; least = λ j less. none j less (lt_trans less lt) }

  pub none_more : ¬ CoalitionImproves x s → NoneBelow x (s + 1)
  none_more here j lt within = elim (last_or_less_of j s lt) [
    | inl same ↦ rw same here
    | inr less ↦ none j less within
  ]

  pub none_at_all : (end : ℕ) → end ≡ 2 ^ x.program.now.players → end ≤ s → NoneImproves x
  none_at_all end same le j lt = none j (omega arith) lt
