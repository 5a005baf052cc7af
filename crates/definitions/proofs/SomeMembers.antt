-- A coalition that isn't empty has a member, and one that isn't that of all has a player outside.
use Rattle.std.proofs.Common.{◌≡◌, ◌≢◌, ℕ, ◌-◌, ◌^◌, ◌<◌, true, false, sym, ◌∙◌}
use Rattle.std.proofs.Common.{inl, inr, arith}
use Rattle.definitions.proofs.Cases.{below_or_above, true_or_false, from_not}
use Rattle.definitions.proofs.Members.{has_player-empty, has_player-complement}
use Rattle.definitions.proofs.Parts.{has_player-past, same_coalition}
use Rattle.definitions.proofs.Splits.{some_below-true, some_below-false}
use Rattle.definitions.specs.Coalitions.{has_player, grand_coalition, some_below}

-- some player is a member, but of the empty coalition
pub some_member : (n s : ℕ) → 0 < s → s < 2 ^ n → (i : ℕ) × (i < n) × (has_player s i ≡ true)
some_member n s some within = elim (true_or_false (some_below n (has_player s))) [
  | inl some ↦ some_below-true n (has_player s) some
  | inr none ↦ absurd (empty none)
]
  where
    empty : some_below n (has_player s) ≡ false → ⊥
    empty none =
        let same : s ≡ 0 = same_coalition s 0 (λ i. elim (below_or_above i n) [
          | inl lt ↦ some_below-false n (has_player s) none i lt ∙ sym (has_player-empty i)
          | inr past ↦ has_player-past n s i within past ∙ sym (has_player-empty i)
        ]) in
        omega (arith, some, same)

-- some player is outside, but of the coalition of all
pub some_outsider : (n s : ℕ) → s < 2 ^ n → s ≢ grand_coalition n → (j : ℕ) × (j < n) × (has_player s j ≡ false)
some_outsider n s within ne =
    let found = some_member n (grand_coalition n - s) (omega (arith, ne)) (omega arith) in (
      found.0,
      found.1,
      from_not (has_player s found.0) (sym (has_player-complement n s found.0 within found.1) ∙ found.2),
    )
