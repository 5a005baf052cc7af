-- A player that adds no less than another gets no less in the prekernel and in the kernel: with the one in the place of
-- the other, the coalition of the other's surplus could do better by itself by what the other gets more.
use Rattle.std.proofs.Common.{◌≡◌, ◌≢◌, ◌⊎◌, ℕ, ◌+◌, ◌^◌, ◌<◌, true, false, not, ◌+ℤ◌, ◌-ℤ◌, ◌<ℤ◌, ◌≤ℤ◌}
use Rattle.std.proofs.Common.{sym, ap, ◌∙◌, inl, inr, arith}
use Rattle.std.proofs.lemmas.Int.{by_lt_z}
use Rattle.definitions.proofs.Cases.{same_or_other, from_not}
use Rattle.definitions.proofs.Masks.{singleton-within}
use Rattle.definitions.proofs.Members.{has_player-empty}
use Rattle.definitions.proofs.Parts.{has_player-more_same, has_player-more_other, more-lt}
use Rattle.definitions.proofs.Ring.{linear, mul-leℤ}
use Rattle.theorems.proofs.Moves.{parted, joined}
use Rattle.theorems.proofs.Transfers.{surplus_of}
use Rattle.definitions.specs.Coalitions.{has_player}
use Rattle.definitions.specs.Games.{Game, Allocation, share, excess, IsAllocation}
use Rattle.definitions.specs.Players.{AddsNoLess}
use Rattle.definitions.specs.Prekernel.{holds_without, InPrekernel}
use Rattle.law_answers.proofs.WhoAddsNoLessGetsNoLess.{excess-other}
use Rattle.law_answers.proofs.Withouts.{without}
use Rattle.law_stability.specs.Kernel.{InKernel, WhoAddsNoLessGetsNoLess}

module _ (g : Game) (x : Allocation) (i j : ℕ) (hx : IsAllocation g x) (hi : i < g.players) (hj : j < g.players)
    (ne : i ≢ j) (adds : AddsNoLess g i j) where
  -- the coalition with i in the place of j
  exchanged : (s : ℕ) → s < 2 ^ g.players → holds_without j i s ≡ true
      → (t : ℕ) × (t < 2 ^ g.players) × (holds_without i j t ≡ true)
      × ((excess g x s +ℤ (share x j -ℤ share x i)) ≤ℤ excess g x t)
  exchanged s within holds =
      let n = g.players in
      let both = parted (has_player s j) (has_player s i) holds in
      let part = without n s j within hj both.0 in
      let r = part.0 in
      let lacks_i : has_player r i ≡ false =
      sym (has_player-more_other r j i part.2 ne) ∙ sym (ap (λ (k : ℕ). has_player k i) part.3)
      ∙ from_not (has_player s i) both.1 in
      let t = r + 2 ^ i in (
        t,
        more-lt n r i part.1 hi lacks_i,
        joined (has_player t i) (has_player t j) (has_player-more_same r i lacks_i)
            (ap not (has_player-more_other r i j lacks_i (λ e. ne (sym e)) ∙ part.2)),
        (let other = excess-other g x r i j adds hx part.1 hi hj lacks_i part.2 in
            omega (arith, linear, other, ap (excess g x) part.3)),
      )

  in_prekernel : InPrekernel g x → share x j ≤ℤ share x i
  in_prekernel h =
      let same = h.2 i j hi hj ne in
      let most = same.2.0 in
      let found = exchanged most.0 most.1.0 most.1.1 in
      omega (arith, linear, found.3, most.2, same.1.1 found.0 (found.1, found.2))

  -- who got more would be outweighed, and so get just its worth alone
  in_kernel : InKernel g x → share x i <ℤ share x j → ⊥
  in_kernel h less =
      let one = surplus_of g x i j hi ne in
      let other = surplus_of g x j i hj (λ e. ne (sym e)) in
      let most = other.1.0 in
      let found = exchanged most.0 most.1.0 most.1.1 in
      let outweighs : other.0 <ℤ one.0 =
      omega (arith, linear, found.3, most.2, one.1.1 found.0 (found.1, found.2), less) in
      let alone = h.1 i j hi hj ne (one.0, other.0, one.1, other.1, outweighs) in
      let v = adds 0 (let lt = singleton-within g.players i hi in omega (arith, lt)) (has_player-empty i)
      (has_player-empty j) in
      let a : 0 + 2 ^ i ≡ 2 ^ i = omega arith in
      let b : 0 + 2 ^ j ≡ 2 ^ j = omega arith in
      let worth = mul-leℤ x.den (g.worth (2 ^ j)) (g.worth (2 ^ i)) (let den = hx.1 in omega (arith, linear, den))
      (omega (arith, linear, v, ap g.worth a, ap g.worth b)) in
      omega (arith, linear, alone, worth, h.0.2 i hi, less)

pub who_adds_no_less_gets_no_less : WhoAddsNoLessGetsNoLess
who_adds_no_less_gets_no_less g x i j h hi hj adds = elim (same_or_other i j) [
  | inl same ↦ omega (arith, linear, ap (share x) same)
  | inr ne ↦ either ne h
]
  where
    either : i ≢ j → InPrekernel g x ⊎ InKernel g x → share x j ≤ℤ share x i
    either ne (inl pre) = in_prekernel g x i j pre.0 hi hj ne adds pre
    either ne (inr kernel) =
        by_lt_z (share x i) (share x j) (λ less. absurd (in_kernel g x i j kernel.0.0 hi hj ne adds kernel less))
        (λ le. le)
