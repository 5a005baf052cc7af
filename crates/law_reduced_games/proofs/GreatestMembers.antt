-- Some member of a coalition has its greatest cost.
use Rattle.std.proofs.Common.{◌≡◌, ◌⊎◌, ℕ, zero, suc, ◌^◌, ◌<◌, max, Bool, true, cond, refl, inl, inr, arith}
use Rattle.definitions.proofs.SomeMembers.{some_member}
use Rattle.definitions.specs.Classes.{greatest_cost}
use Rattle.definitions.specs.Coalitions.{has_player}
use Rattle.airport.proofs.GreatestCosts.{greatest_cost-at_least}

-- c is the cost of some member
abbrev pub IsCostOfMember : ℕ → (ℕ → ℕ) → ℕ → ℕ → Type 0
IsCostOfMember n cost s c = (k : ℕ) × (k < n) × (has_player s k ≡ true) × (c ≡ cost k)

-- the greatest cost is 0, or that of some member
greatest_or_none : (n : ℕ) (cost : ℕ → ℕ) (s : ℕ)
    → (greatest_cost n cost s ≡ 0) ⊎ IsCostOfMember n cost s (greatest_cost n cost s)
greatest_or_none zero cost s = inl refl
greatest_or_none (suc n) cost s = by_last (has_player s n) refl (greatest_or_none n cost s)
  where
    greater : (a b : ℕ) → (max a b ≡ a) ⊎ (max a b ≡ b)
    greater a b = grind arith

    by_last : (b : Bool) → has_player s n ≡ b
        → (greatest_cost n cost s ≡ 0) ⊎ IsCostOfMember n cost s (greatest_cost n cost s)
        → (max (greatest_cost n cost s) (cond b (cost n) 0) ≡ 0)
        ⊎ IsCostOfMember (suc n) cost s (max (greatest_cost n cost s) (cond b (cost n) 0))
    by_last b e before = grind (arith, greater)

-- some member of a coalition that isn't empty has the greatest cost
pub greatest_member : (n : ℕ) (cost : ℕ → ℕ) (s : ℕ) → 0 < s → s < 2 ^ n
    → IsCostOfMember n cost s (greatest_cost n cost s)
greatest_member n cost s some within = elim (greatest_or_none n cost s) [
  | inr found ↦ found
  | inl none ↦
      let i = some_member n s some within in
      (i.0, i.1, i.2, omega (arith, none, greatest_cost-at_least n cost s i.0 i.1 i.2))
]
