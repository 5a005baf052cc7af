-- A bankruptcy game is a game of the toolbox.
use Rattle.std.proofs.Common.{◌≡◌, ◌-◌, ◌^◌, ◌<◌, length, sum, ℤ, pos, ◌-ℤ◌, ◌≤ℤ◌}
use Rattle.std.proofs.Common.{unsigned_abs, sym, ap, ◌∙◌, inl, inr, arith}
use Rattle.std.specs.Int.{int_max}
use Rattle.std.proofs.lemmas.Int.{ints}
use Rattle.definitions.proofs.Members.{sum_over-grand_coalition, sum_over-nonnegative}
use Rattle.definitions.specs.Coalitions.{grand_coalition, sum_over}
use Rattle.definitions.specs.Games.{IsGame}
use Rattle.orders.proofs.ListSums.{number_of, sum-sum_below}
use Rattle.bankruptcy.specs.Bankruptcy.{Bankruptcy, IsBankruptcy, bankruptcy_game}
use Rattle.definitions.proofs.Cases.{int_max-cases}
use Rattle.std.proofs.Math.Nat.{sub-zero}

pub IsGame-bankruptcy : (b : Bankruptcy) → IsBankruptcy b → IsGame (bankruptcy_game b)
IsGame-bankruptcy b h = record {
  some = h.some;
  few = h.few;
  nobody =
      nobody (sum_over (length b.claims) (number_of b.claims) (grand_coalition (length b.claims) - 0))
      (ap (sum_over (length b.claims) (number_of b.claims)) (sub-zero (grand_coalition (length b.claims)))
      ∙ sum_over-grand_coalition (length b.claims) (number_of b.claims) ∙ sym (sum-sum_below b.claims));
  small =
      λ s lt. worth_small (sum_over (length b.claims) (number_of b.claims) (grand_coalition (length b.claims) - s))
      (sum_over-nonnegative (length b.claims) (grand_coalition (length b.claims) - s) (number_of b.claims)
      (λ i k. omega (arith, ints)));
}
  where
    nobody : (u : ℤ) → u ≡ pos (sum b.claims) → int_max (pos 0) (pos b.estate -ℤ u) ≡ pos 0
    nobody u e =
        let enough = h.enough in
        elim (int_max-cases (pos 0) (pos b.estate -ℤ u)) [ inl a ↦ a.0 | inr a ↦ omega (arith, ints, a.0, a.1) ]

    worth_small : (u : ℤ) → pos 0 ≤ℤ u → unsigned_abs (int_max (pos 0) (pos b.estate -ℤ u)) < 2 ^ 46
    worth_small u low =
        let few = h.estate_small in
        elim (int_max-cases (pos 0) (pos b.estate -ℤ u))
        [ inl a ↦ rw a.0 (omega arith) | inr a ↦ rw a.0 (omega (arith, ints, a.1)) ]

pub ruleset game_laws = (IsGame-bankruptcy)
