-- Two nucleoli would each come before the other; and a core point has no excess above zero, so its excesses come
-- before those of shares that a coalition blocks.
use Rattle.std.proofs.Common.{◌≡◌, ℕ, ◌+◌, ◌-◌, ◌^◌, ◌<◌, ◌≤◌, Bool, cond, List, length, map, ap, inl, inr, arith}
use Rattle.definitions.proofs.Members.{has_player-empty}
use Rattle.definitions.specs.Coalitions.{has_player, grand_coalition, proper_coalitions}
use Rattle.definitions.specs.declared.Family.{Family}
use Rattle.definitions.specs.declared.Family.TheVariants.{Imputations, Preimputations}
use Rattle.real_shares.specs.Numbers.{Numbers, IsOrderedGroup, AtMost, Equal, sorted_by, ComesBeforeBy, total_over}
use Rattle.real_shares.specs.Shares.{number_of, amount_of}
use Rattle.real_shares.proofs.Orders.{decided, equal-same}
use Rattle.real_shares.proofs.Multiples.{chain, back, equal_path, difference-low, from_low, total_below-equal}
use Rattle.real_shares.proofs.Multiples.{total_below-zero, through}
use Rattle.real_shares.proofs.Sorted.{ComesBefore-sorted}
use Rattle.real_shares.proofs.Soundness.{SameOrLow-range, SomeAbove-range}
use Rattle.real_shares.proofs.OneNucleolus.{not_both_over}
use Rattle.law_real_worths.specs.Games.{NumberGame, excess_in, IsEfficientIn, InFamilyIn, excess_list_in, HaveSameIn}
use Rattle.law_real_worths.specs.Games.{IsNucleolusIn, InCoreIn}

module _ {C : Type 0} (N : Numbers C) (L : IsOrderedGroup N) (g : NumberGame C) where
  pub length_in : (family : Family) (y : List C) → InFamilyIn N family g y → length y ≡ g.players
  length_in Imputations y h = h.0
  length_in Preimputations y h = h.0

  pub efficient_in : (family : Family) (y : List C) → InFamilyIn N family g y → IsEfficientIn N g y
  efficient_in Imputations y h = h.1
  efficient_in Preimputations y h = h.1

  -- ---- what some get

  pub amount_at : (y : List C) (s : ℕ) → length y ≡ g.players
      → Equal N (amount_of N y s) (total_over N g.players (number_of N y) s)
  amount_at y s e =
      equal_path N L (amount_of N y s) (total_over N g.players (number_of N y) s)
      (ap (λ n. total_over N n (number_of N y) s) e)

  pub same_amounts : (y z : List C) (s : ℕ) → length y ≡ g.players → length z ≡ g.players → HaveSameIn N g y z
      → Equal N (amount_of N y s) (amount_of N z s)
  same_amounts y z s ey ez same =
      chain N L (amount_at y s ey)
      (chain N L
      (total_below-equal N L g.players (λ i. cond (has_player s i) (number_of N y i) N.zero)
      (λ i. cond (has_player s i) (number_of N z i) N.zero) (λ i lt. either i lt (has_player s i)))
      (back N L (amount_at z s ez)))
    where
      either : (i : ℕ) → i < g.players → (b : Bool)
          → Equal N (cond b (number_of N y i) N.zero) (cond b (number_of N z i) N.zero)
      either i lt b = grind (arith, equal-same)

  pub nobody_gets : (y : List C) → Equal N (amount_of N y 0) N.zero
  nobody_gets y =
      total_below-zero N L (length y) (λ i. cond (has_player 0 i) (number_of N y i) N.zero)
      (λ i lt. equal_path N L (cond (has_player 0 i) (number_of N y i) N.zero) N.zero
      (ap (λ (b : Bool). cond b (number_of N y i) N.zero) (has_player-empty i)))

  -- ---- one nucleolus

  pub not_both : (l k : List C) → ComesBeforeBy N (sorted_by N l) (sorted_by N k)
      → ComesBeforeBy N (sorted_by N k) (sorted_by N l) → ⊥
  not_both l k h i = not_both_over N (sorted_by N l) (sorted_by N k) h.1 i.1 L

  pub one_nucleolus : (family : Family) (y z : List C) → IsNucleolusIn N family g y → IsNucleolusIn N family g z
      → HaveSameIn N g y z
  one_nucleolus family y z hy hz i lt =
      let a = number_of N y i in
      let b = number_of N z i in
      let wrong : (¬ Equal N a b) → ⊥ =
      λ ne. not_both (excess_list_in N g y) (excess_list_in N g z) (hy.1 z hz.0 (λ same. ne (same i lt)))
      (hz.1 y hy.0 (λ same. ne (back N L (same i lt)))) in
      elim (decided (N.at_most a b)) [
        | inr h ↦ absurd (wrong (λ e. h e.0))
        | inl h ↦ elim (decided (N.at_most b a)) [ inr k ↦ absurd (wrong (λ e. k e.1)) | inl k ↦ (h, k) ]
      ]

  -- ---- a core point

  core_low : (z : List C) (s : ℕ) → InCoreIn N g z → s < 2 ^ g.players → AtMost N (excess_in N g z s) N.zero
  core_low z s core lt = difference-low N L (g.worth s) (amount_of N z s) (core.2 s lt)

  -- it comes before shares that a coalition blocks
  pub core_first : (y z : List C) (s : ℕ) → InCoreIn N g z → 1 ≤ s → s < 1 + (2 ^ g.players - 2)
      → (¬ AtMost N (g.worth s) (amount_of N y s))
      → ComesBeforeBy N (sorted_by N (excess_list_in N g z)) (sorted_by N (excess_list_in N g y))
  core_first y z s core some proper blocked =
      let n = g.players in
      let f : ℕ → C = excess_in N g z in
      let h : ℕ → C = excess_in N g y in
      ComesBefore-sorted N L N.zero (map f (proper_coalitions n)) (map h (proper_coalitions n))
      (SameOrLow-range N N.zero f h 1 (2 ^ n - 2)
      (λ t low high. inr (core_low z t core (omega (arith, low, high)))))
      (SomeAbove-range N N.zero f h 1 (2 ^ n - 2) s some proper (core_low z s core (omega (arith, some, proper)))
      (λ le. blocked (from_low N L (g.worth s) (amount_of N y s) le)))

  -- nobody and all block nothing
  pub only_proper : (y z : List C) (s : ℕ) → InCoreIn N g z → IsEfficientIn N g y → s < 2 ^ g.players
      → (¬ AtMost N (g.worth s) (amount_of N y s)) → (1 ≤ s) × (s < 1 + (2 ^ g.players - 2))
  only_proper y z s core efficient lt blocked =
      let not_empty : s ≡ 0 → ⊥ = λ e. blocked (rw e (through N L (core.2 0 (omega (arith, lt)))
      (through N L (nobody_gets z).0 (nobody_gets y).1))) in
      let not_all : s ≡ grand_coalition g.players → ⊥ = λ e. blocked (rw e efficient.1) in
      (omega (arith, not_empty), omega (arith, not_empty, not_all, lt))

  pub nucleolus_in_core : (family : Family) (y z : List C) → IsNucleolusIn N family g y → InFamilyIn N family g z
      → InCoreIn N g z → InCoreIn N g y
  nucleolus_in_core family y z is member core = (
    length_in family y is.0,
    efficient_in family y is.0,
    λ s lt. elim (decided (N.at_most (g.worth s) (amount_of N y s))) [
      | inl low ↦ low
      | inr blocked ↦ absurd
          (let p = only_proper y z s core (efficient_in family y is.0) lt blocked in
          not_both (excess_list_in N g y) (excess_list_in N g z) (is.1 z member (λ same. blocked
          (through N L (core.2 s lt) (same_amounts y z s (length_in family y is.0) core.0 same).1)))
          (core_first y z s core p.0 p.1 blocked))
    ],
  )
