-- If numbers are the shares in fractions of a certificate, they are the nucleolus among shares in numbers.
--
-- In a group the fraction a / q need not exist, so `IsNucleolusOver` compares q times the excesses. Shares that can be
-- written as numbers give Schmeidler's own sentence, `IsNucleolusAmong`. All fractions can be written as real numbers
-- (Quotients.antt).
use Rattle.std.proofs.Common.{sym, ◌∙◌, ◌≡◌, ◌≤ℤ◌, ◌⊎◌, ℕ, ◌+◌, ◌-◌, ◌^◌, ◌<◌, ◌≤◌, Bool, true, false, cond, List, []}
use Rattle.std.proofs.Common.{ℤ, pos, ◌*ℤ◌, ◌<ℤ◌, inl, inr, arith, if◌then◌else◌}
use Rattle.std.proofs.lemmas.Int.{by_lt_z}
use Rattle.definitions.proofs.Ring.{linear}
use Rattle.definitions.proofs.Families.{allocation_of}
use Rattle.definitions.proofs.Measured.{weight}
use Rattle.definitions.specs.Coalitions.{has_player, singleton, grand_coalition}
use Rattle.definitions.specs.Measures.{IsMeasurable}
use Rattle.definitions.specs.Games.{Game, Allocation, share, amount, excess, InCore, IsAllocation, IsEfficient}
use Rattle.definitions.specs.Games.{IsIndividuallyRational, InFamily}
use Rattle.definitions.specs.Prekernel.{InPrekernel}
use Rattle.definitions.specs.Certificates.{Level, Certifies}
use Rattle.definitions.specs.declared.Family.{Family}
use Rattle.definitions.specs.declared.Family.TheVariants.{Imputations, Preimputations}
use Rattle.definitions.specs.declared.Measure.{Measure}
use Rattle.definitions.specs.declared.Measure.TheVariants.{Plain}
use Rattle.definitions.specs.declared.Mode.{Mode}
use Rattle.real_shares.specs.Numbers.{Numbers, IsOrderedGroup, AtMost, Equal, times, sorted_by, ComesBeforeBy}
use Rattle.real_shares.specs.Shares.{number_of, amount_of, excess_of, measured_of, InFamilyOver, IsEfficientOver}
use Rattle.real_shares.specs.Shares.{IsIndividuallyRationalOver, IsNucleolusAmong, IsWrittenAs, InCoreOver}
use Rattle.real_shares.specs.Shares.{InPrekernelOver, excess_list_of}
use Rattle.real_shares.proofs.Orders.{equal-same}
use Rattle.real_shares.proofs.Multiples.{chain, back, plus-equal, times-at_most, times-zero, times-same, times-cancel}
use Rattle.real_shares.proofs.Multiples.{from_low, from_difference, difference-zero, through}
use Rattle.real_shares.proofs.Cones.{Zero, zero-none, zero-sum, zero-times}
use Rattle.real_shares.proofs.Combined.{IsLow, combined-player, cone, to_zero, from_zero}
use Rattle.real_shares.proofs.Settled.{over, Settled-none}
use Rattle.real_shares.proofs.Differences.{gap, excess-differs, over-times, units}
use Rattle.real_shares.proofs.Soundness.{LevelsFit, Rises, at_fractions, at_numbers, before-from, levels_sound}

module _ {C : Type 0} (N : Numbers C) (L : IsOrderedGroup N) (g : Game) (x : Allocation) (y : List C)
    (hx : IsAllocation g x) (written : IsWrittenAs N g x y) where
  above_zero : pos 0 <ℤ x.den
  above_zero = omega (arith, linear, hx.1)

  -- no player differs
  player-zero : (i : ℕ) → i < g.players → Zero (IsLow N g.players (number_of N y)) (gap x i)
  player-zero i h =
      let n = g.players in
      let v = number_of N y in
      to_zero N L n v (gap x i)
      (chain N L (combined-player N L n v (share x i) x.den i h)
      (difference-zero N L (times N x.den (v i)) (times N (share x i) N.unit) (back N L (written.1 i h))))

  -- and so no coalition
  pub coalition-zero : (s : ℕ) → Zero (IsLow N g.players (number_of N y)) (over g.players (gap x) s)
  coalition-zero s =
      let n = g.players in
      let K = cone N L n (number_of N y) in
      zero-sum K n (λ i k. if has_player s i then gap x i k else pos 0) (λ i h. either (has_player s i) i h)
    where
      either : (b : Bool) (i : ℕ) → i < g.players
          → Zero (IsLow N g.players (number_of N y)) (λ k. cond b (gap x i k) (pos 0))
      either true i h = player-zero i h
      either false i h = zero-none (cone N L g.players (number_of N y))

  -- the measured excesses are those at the fractions
  pub measured_as_written : (measure : Measure) (s : ℕ)
      → Equal N (at_numbers N measure g x y s) (at_fractions N measure g x s)
  measured_as_written measure s =
      let n = g.players in
      let v = number_of N y in
      let part : ℕ → ℤ = λ k. weight measure s *ℤ over n (gap x) s k in
      let none = from_zero N L n v part
      (zero-times (cone N L n v) (weight measure s) (over n (gap x) s) (coalition-zero s)) in
      chain N L (excess-differs N L g x y hx written.0 measure s)
      (chain N L (plus-equal N L (equal-same N L (at_fractions N measure g x s)) none)
      (L.neutral (at_fractions N measure g x s)))

  efficient_as_written : IsEfficient g x → IsEfficientOver N g y
  efficient_as_written e =
      let n = g.players in
      let s = grand_coalition n in
      let none = chain N L (back N L (over-times N L g x y hx written.0 s e))
      (from_zero N L n (number_of N y) (over n (gap x) s) (coalition-zero s)) in
      let same = times-same N L x.den (excess_of N g y s) N.zero above_zero
      (chain N L none (back N L (times-zero N L x.den))) in
      back N L (from_difference N L (times N (g.worth s) N.unit) (amount_of N y s) same)

  individual_as_written : IsIndividuallyRational g x → IsIndividuallyRationalOver N g y
  individual_as_written h i lt =
      let w = g.worth (singleton i) in
      let a = times N w N.unit in
      let b = number_of N y i in
      times-cancel N L x.den a b above_zero (through N L (units N L g x y hx written.0 x.den w).1
      (through N L (times-at_most N L (x.den *ℤ w) (share x i) (h i lt)) (written.1 i lt).0))

  pub member_as_written : (family : Family) → InFamily family g x → InFamilyOver N family g y
  member_as_written Imputations h = (written.0, efficient_as_written h.1, individual_as_written h.2)
  member_as_written Preimputations h = (written.0, efficient_as_written h.1)

  -- a core point in fractions is one in numbers
  pub core_as_written : InCore g x → InCoreOver N g y
  core_as_written core = (
    written.0,
    efficient_as_written core.1,
    λ s h.
        let a = times N (g.worth s) N.unit in
        let b = amount_of N y s in
        let most = times-at_most N L (excess g x s) (pos 0)
        (by_lt_z (amount x s) (x.den *ℤ g.worth s) (λ lt. absurd (core.2 s h lt))
        (λ le. omega (arith, linear, le))) in
        let low = times-cancel N L x.den (excess_of N g y s) N.zero above_zero
        (through N L (measured_as_written Plain s).0 (through N L most (times-zero N L x.den).1))
        in
        from_low N L a b low,
  )

  -- excesses are in the order of those at the fractions
  excess_order : (s t : ℕ) → excess g x s ≤ℤ excess g x t → AtMost N (excess_of N g y s) (excess_of N g y t)
  excess_order s t le =
      let a = times N x.den (excess_of N g y s) in
      let b = times N x.den (excess_of N g y t) in
      times-cancel N L x.den (excess_of N g y s) (excess_of N g y t) above_zero
      (through N L (measured_as_written Plain s).0
      (through N L (times-at_most N L (excess g x s) (excess g x t) le) (measured_as_written Plain t).1))

  -- what is in the prekernel in fractions is there in numbers
  pub prekernel_as_written : InPrekernel g x → InPrekernelOver N g y
  prekernel_as_written h = (
    written.0,
    efficient_as_written h.1,
    λ i j a b ne.
        let (m, (first, most), (second, most_too)) = h.2 i j a b ne in
        let s = first.0 in
        let t = second.0 in
        let same : excess g x s ≡ excess g x t = sym first.2 ∙ second.2 in (
          excess_of N g y s,
          (
            (s, first.1.0, first.1.1, equal-same N L (excess_of N g y s)),
            λ k within holds. excess_order k s
                (let u = most k (within, holds) in omega (arith, linear, u, first.2)),
          ),
          (
            (
              t,
              second.1.0,
              second.1.1,
              (excess_order s t (omega (arith, linear, same)), excess_order t s (omega (arith, linear, same))),
            ),
            λ k within holds. excess_order k s
                (let u = most_too k (within, holds) in omega (arith, linear, u, first.2)),
          ),
        ),
  )

  -- where another member's coalition gets less, the excesses of y come first
  pub before_as_written : (measure : Measure) (z : List C) → Rises N measure g x z
      → ComesBeforeBy N (sorted_by N (excess_list_of N measure g y)) (sorted_by N (excess_list_of N measure g z))
  before_as_written measure z r =
      let f : ℕ → C = λ s. measured_of N measure s (excess_of N g y s) in
      let h : ℕ → C = λ s. measured_of N measure s (excess_of N g z s) in
      let is : (s : ℕ) → Equal N (times N x.den (f s)) (at_fractions N measure g x s) = measured_as_written measure in
      let each : (s : ℕ) → 1 ≤ s → s < 1 + (2 ^ g.players - 2) → Equal N (f s) (h s) ⊎ AtMost N (f s) (f r.c) =
      λ s lo hi. elim (r.each s lo hi) [
        | inl same ↦ inl (times-same N L x.den (f s) (h s) above_zero (chain N L (is s) same))
        | inr low ↦ inr (times-cancel N L x.den (f s) (f r.c) above_zero (through N L (is s).0
            (through N L low (is r.c).1)))
      ] in
      before-from N L g.players f h r.c r.some r.proper each (λ le. r.above (through N L (keeps le) (is r.c).0))
    where
      keeps : AtMost N (measured_of N measure r.c (excess_of N g z r.c))
          (measured_of N measure r.c (excess_of N g y r.c))
          → AtMost N (times N x.den (measured_of N measure r.c (excess_of N g z r.c)))
          (times N x.den (measured_of N measure r.c (excess_of N g y r.c)))
      keeps le =
          Rattle.real_shares.proofs.Multiples.times-keeps N L x.den
          (measured_of N measure r.c (excess_of N g z r.c)) (measured_of N measure r.c (excess_of N g y r.c))
          (omega (arith, linear, hx.1)) le

pub among-from_levels : {C : Type 0} (N : Numbers C) → IsOrderedGroup N
    → (mode : Mode) (family : Family) (measure : Measure) (g : Game) (x : Allocation) (levels : List Level)
    → IsMeasurable measure g.players → LevelsFit g.players [] levels → Certifies mode family measure g x levels
    → (y : List C) → IsWrittenAs N g x y → IsNucleolusAmong N family measure g y
among-from_levels N L mode family measure g x levels m fits certifies y written =
    let hx = allocation_of family g x certifies.0 in (
      member_as_written N L g x y hx written family certifies.0,
      λ z hz differs. elim
          (levels_sound N L family measure g x z m certifies.0 hz mode [] levels fits certifies.1
          (Settled-none (cone N L g.players (number_of N z)) g.players (gap x))) [
            | inl r ↦ before_as_written N L g x y hx written measure z r
            | inr same ↦ absurd
                (differs
                (λ i lt. times-same N L x.den (number_of N y i) (number_of N z i) (above_zero N L g x y hx written)
                (chain N L (back N L (written.1 i lt)) (same i lt))))
          ],
    )
