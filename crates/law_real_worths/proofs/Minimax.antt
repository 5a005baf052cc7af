-- Among the members of a family whose excesses stay within caps, one makes the greatest excess of some coalitions
-- least: these are linear inequalities in the shares and that excess, and a coalition and the others bound it.
use Rattle.std.proofs.Common.{◌≡◌, ℕ, zero, suc, ◌+◌, ◌-◌, ◌^◌, ◌<◌, ◌≤◌, Bool, true, List, [], ◌∷◌}
use Rattle.std.proofs.Common.{length, map, ℤ, refl, sym, ◌∙◌, inl}
use Rattle.std.proofs.Common.{inr, arith}
use Rattle.std.specs.List.{AllByRecursion, range_with_len}
use Rattle.std.proofs.lemmas.Bool.{false≢true}
use Rattle.std.proofs.lemmas.List.FromFn.{get_or-map-range_with_len, length-map-range_with_len}
use Rattle.definitions.proofs.Members.{sum_over-complement, sum_over-grand_coalition}
use Rattle.definitions.proofs.Ring.{linear}
use Rattle.definitions.specs.Coalitions.{grand_coalition}
use Rattle.definitions.specs.declared.Family.{Family}
use Rattle.real_shares.specs.Numbers.{Numbers, IsOrderedGroup, AtMost}
use Rattle.real_shares.specs.Reals.{Real, AreReals}
use Rattle.real_shares.specs.Shares.{number_of, amount_of}
use Rattle.real_shares.proofs.Multiples.{through}
use Rattle.real_shares.proofs.RealNumbers.{are_ordered}
use Rattle.law_real_worths.specs.Games.{NumberGame, excess_in}
use Rattle.law_real_worths.proofs.CoreFirst.{length_in, efficient_in}
use Rattle.law_real_worths.proofs.ExcessRows.{rows, from_rows, to_rows, IsWithin, IsBound, less_near, amount_near}
use Rattle.law_real_worths.proofs.ExcessRows.{excess_near}
use Rattle.law_real_worths.proofs.Joined.{greatest_among}
use Rattle.law_real_worths.proofs.LeastUnknown.{least_unknown}
use Rattle.law_real_worths.proofs.Moves.{no_less}
use Rattle.law_real_worths.proofs.Rows.{Row, Meets}

module _ (N : Numbers Real) (R : AreReals N) (g : NumberGame Real) where
  abbrev L : IsOrderedGroup N
  L = are_ordered N R

  abbrev n : ℕ
  n = g.players

  -- ---- points and shares

  abbrev shares_of : (ℕ → Real) → List Real
  shares_of z = map (λ i. z (suc i)) (range_with_len 0 n)

  abbrev point : Real → List Real → ℕ → Real
  point t y zero = t
  point t y (suc i) = number_of N y i

  each_sound : (P : (ℕ → Real) → Type 0) (us : List Row)
      → ((y : ℕ → Real) → P y → AllByRecursion (Meets N R (suc n) y) us)
      → AllByRecursion (λ (u : Row). (y : ℕ → Real) → P y → Meets N R (suc n) y u) us
  each_sound P [] h = tt
  each_sound P (u ∷ us) h = ((λ y hy. (h y hy).0), each_sound P us (λ y hy. (h y hy).1))

  -- ---- the others bound an excess from below

  module _ (family : Family) (cap : ℕ → Real) (s : ℕ) (one : 1 ≤ s) (past : s < 1 + (2 ^ n - 2)) where
    abbrev other : ℕ
    other = grand_coalition n - s

    abbrev least_excess : Real
    least_excess =
        N.plus (N.plus (g.worth s) (N.minus (g.worth (grand_coalition n))))
        (N.plus (g.worth other) (N.minus (cap other)))

    bounded : (y : List Real) → IsWithin N R g family cap y → AtMost N least_excess (excess_in N g y s)
    bounded y h =
        let all = grand_coalition n in
        let long = length_in N L g family y h.0 in
        let b = R.at_most (amount_of N y all) (g.worth all) (efficient_in N L g family y h.0).0 in
        let c = R.at_most (excess_in N g y other) (cap other)
        (h.1 other (omega (arith, one, past)) (omega (arith, one, past))) in
        R.decides least_excess (excess_in N g y s) (
          b.0 + c.0,
          λ k.
              let x : ℕ → ℤ = λ i. (number_of N y i).near k in
              let parts = sum_over-complement n s x (omega (arith, one, past)) in
              omega (
                arith,
                linear,
                b.1 k,
                c.1 k,
                R.plus (N.plus (g.worth s) (N.minus (g.worth all))) (N.plus (g.worth other) (N.minus (cap other))) k,
                less_near N R g (g.worth s) (g.worth all) k,
                less_near N R g (g.worth other) (cap other) k,
                excess_near N R g y s k,
                excess_near N R g y other k,
                amount_near N R g y s k long,
                amount_near N R g y other k long,
                amount_near N R g y all k long,
                sum_over-grand_coalition n x,
                parts,
              ),
        )

  -- ---- the least greatest excess

  pub minimax : (family : Family) (cap : ℕ → Real) (test : ℕ → Bool) (s : ℕ) → 1 ≤ s → s < 1 + (2 ^ n - 2)
      → test s ≡ true → (y : List Real) → IsWithin N R g family cap y
      → (x : List Real) × (t : Real) × IsWithin N R g family cap x × IsBound N R g test x t
      × ((w : List Real) (c : Real) → IsWithin N R g family cap w → IsBound N R g test w c → AtMost N t c)
  minimax family cap test s one past passes y within =
      let us = rows N R g family cap test in
      let P : (ℕ → Real) → Type 0 = λ z. AllByRecursion (Meets N R (suc n) z) us in
      let top = greatest_excess y in
      let some = to_rows N R g (point top.0 y) y (length_in N L g family y within.0) (λ i lt. refl) family cap test
      within top.1 in
      let b = least_excess family cap s one past in
      let low = N.plus b (N.minus N.unit) in
      let found = least_unknown N R P (point top.0 y) some low n us (each_sound P us (λ z h. h)) in
      let z = found.0 in
      let x = shares_of z in
      let is = from_rows N R g z x (long_of z) (same_of z) family cap test found.1 in (
        x,
        z 0,
        is.0,
        is.1,
        elim found.2 [
          | inl least ↦ λ w c h k. least (point c w)
              (to_rows N R g (point c w) w (length_in N L g family w h.0) (λ i lt. refl) family cap test h k)
          | inr under ↦ absurd
              (L.positive (no_less N L b N.unit (through N L (bounded family cap s one past x is.0)
              (through N L (is.1 s one past passes) under))))
        ],
      )
    where
      greatest_excess : (y : List Real) → (t : Real) × IsBound N R g test y t
      greatest_excess y = elim (greatest_among N L test (excess_in N g y) (1 + (2 ^ n - 2))) [
        | inl none ↦ (N.zero, λ s one past e. absurd (false≢true (sym (none s past) ∙ e)))
        | inr found ↦ (excess_in N g y found.0, λ s one past e. found.3 s past e)
      ]

      long_of : (z : ℕ → Real) → length (shares_of z) ≡ n
      long_of z = length-map-range_with_len (λ i. z (suc i)) 0 n

      same_of : (z : ℕ → Real) (i : ℕ) → i < n → z (suc i) ≡ number_of N (shares_of z) i
      same_of z i lt = sym (get_or-map-range_with_len (λ i. z (suc i)) 0 n i i N.zero lt (omega arith))
