-- The converse for pairs: an allocation lies in the prekernel, or in the core, if the shares of each two do in their
-- reduced game (Peleg 1986).
use Rattle.std.proofs.Common.{◌≡◌, ◌≢◌, ℕ, ◌+◌, ◌^◌, ◌<◌, Bool, true, false, cond, ◌&&◌, not, IsTrue, ℤ, pos, ◌-ℤ◌}
use Rattle.std.proofs.Common.{◌*ℤ◌, ◌≤ℤ◌, sym, ap, subst, ◌∙◌, inl, inr, arith}
use Rattle.std.proofs.lemmas.Bool.{false≢true}
use Rattle.std.proofs.lemmas.Int.{by_lt_z}
use Rattle.definitions.proofs.Ring.{linear}
use Rattle.definitions.proofs.Cases.{same_or_other}
use Rattle.definitions.proofs.Members.{sum_over-singleton}
use Rattle.definitions.proofs.Scans.{IsGreatest-unique}
use Rattle.definitions.proofs.SomeMembers.{some_member, some_outsider}
use Rattle.definitions.proofs.SumsOver.{amount-empty}
use Rattle.definitions.specs.Sums.{IsGreatest}
use Rattle.definitions.specs.Coalitions.{has_player, singleton, grand_coalition}
use Rattle.definitions.specs.Games.{Game, Allocation, share, amount, excess, IsAllocation, IsEfficient, InCore}
use Rattle.definitions.specs.Prekernel.{holds_without, IsSurplus, AreBalanced}
use Rattle.theorems.proofs.Transfers.{prenucleolus_in_prekernel}
use Rattle.law_reduced_games.specs.ReducedGames.{AreSome, staying, staying_shares, IsReducedGame, the_two, IsStandard}
use Rattle.law_reduced_games.specs.ReducedGames.{PrekernelByPairs, EachTwoAreStandard, CoreByPairs}
use Rattle.law_reduced_games.proofs.Staying.{staying_share, staying_amount}
use Rattle.law_reduced_games.proofs.Excesses.{on, greatest_excess, allocation_staying, efficient_staying}
use Rattle.law_reduced_games.proofs.ReducedGamesExist.{is_reduced}
use Rattle.law_reduced_games.proofs.PrekernelAndCoreReduce.{core_reduces}
use Rattle.theorems.proofs.Products.{products}

two_are_some : (n i j : ℕ) → i < n → j < n → i ≢ j → AreSome n 2 (the_two i j)
two_are_some n i j hi hj ne = record { some = omega arith; players = within; once = single }
  where
    within : (k : ℕ) → k < 2 → the_two i j k < n
    within k lt = grind arith

    single : (k l : ℕ) → k < 2 → l < 2 → the_two i j k ≡ the_two i j l → k ≡ l
    single k l hk hl e = grind arith

-- the coalition of two of which one passes the first test, and the other the second
abbrev two_where : Bool → Bool → ℕ
two_where b c = cond c (cond b (0 + 2 ^ 0) 0 + 2 ^ 1) (cond b (0 + 2 ^ 0) 0)

first_alone : (b c : Bool) → two_where b c ≡ 1 → (b && not c) ≡ true
first_alone b c e = grind arith

alone_first : (b c : Bool) → (b && not c) ≡ true → two_where b c ≡ 1
alone_first b c e = grind arith

second_alone : (b c : Bool) → two_where b c ≡ 2 → (c && not b) ≡ true
second_alone b c e = grind arith

alone_second : (b c : Bool) → (c && not b) ≡ true → two_where b c ≡ 2
alone_second b c e = grind arith

greatest_same : (P Q : ℕ → Type 0) (f : ℕ → ℤ) (w : ℤ) → ((s : ℕ) → P s → Q s) → ((s : ℕ) → Q s → P s)
    → IsGreatest P f w → IsGreatest Q f w
greatest_same P Q f w to back top = ((top.0.0, to top.0.0 top.0.1, top.0.2), λ s q. top.1 s (back s q))

module _ (g h : Game) (x : Allocation) (i j : ℕ) (hi : i < g.players) (hj : j < g.players) (ne : i ≢ j)
    (r : IsReducedGame 2 (the_two i j) g x h) where
  abbrev two : ℕ → ℕ
  two = the_two i j

  abbrev z : Allocation
  z = staying_shares 2 two x

  a : AreSome g.players 2 two
  a = two_are_some g.players i j hi hj ne

  first_surplus : IsSurplus g x i j (excess h z 1)
  first_surplus =
      greatest_same (λ s. (s < 2 ^ g.players) × (staying 2 two s ≡ 1))
      (λ s. (s < 2 ^ g.players) × IsTrue (holds_without i j s)) (excess g x) (excess h z 1)
      (λ s p. (p.0, first_alone (has_player s i) (has_player s j) p.1))
      (λ s p. (p.0, alone_first (has_player s i) (has_player s j) p.1))
      (greatest_excess 2 two g h x a r 1 (omega arith) (omega arith))

  second_surplus : IsSurplus g x j i (excess h z 2)
  second_surplus =
      greatest_same (λ s. (s < 2 ^ g.players) × (staying 2 two s ≡ 2))
      (λ s. (s < 2 ^ g.players) × IsTrue (holds_without j i s)) (excess g x) (excess h z 2)
      (λ s p. (p.0, second_alone (has_player s i) (has_player s j) p.1))
      (λ s p. (p.0, alone_second (has_player s i) (has_player s j) p.1))
      (greatest_excess 2 two g h x a r 2 (omega arith) (omega arith))

  alone : (k : ℕ) → k < 2 → amount z (singleton k) ≡ share z k
  alone k lt =
      staying_amount 2 two x (singleton k) ∙ sum_over-singleton 2 k (λ k. share x (two k)) lt
      ∙ sym (staying_share 2 two x k lt)

  -- what the one and the other get above their worth alone is minus their surplus
  first_above : share z 0 -ℤ z.den *ℤ h.worth (singleton 0) ≡ pos 0 -ℤ excess h z 1
  first_above = omega (arith, linear, alone 0 (omega arith))

  second_above : share z 1 -ℤ z.den *ℤ h.worth (singleton 1) ≡ pos 0 -ℤ excess h z 2
  second_above = omega (arith, linear, alone 1 (omega arith))

  pub standard_if_balanced : IsEfficient g x → AreBalanced g x i j → IsStandard h z
  standard_if_balanced all b =
      let e = IsGreatest-unique (λ s. (s < 2 ^ g.players) × IsTrue (holds_without i j s)) (excess g x) b.0
      (excess h z 1) b.1 first_surplus in
      let f = IsGreatest-unique (λ s. (s < 2 ^ g.players) × IsTrue (holds_without j i s)) (excess g x) b.0
      (excess h z 2) b.2 second_surplus in
      record {
        players = r.players;
        shares = subst (λ c. IsAllocation (on c h) z) (sym r.players) (allocation_staying 2 two g h x a r);
        all = subst (λ c. IsEfficient (on c h) z) (sym r.players) (efficient_staying 2 two g h x a r all);
        alike = first_above ∙ ap (λ u. pos 0 -ℤ u) (sym e ∙ f) ∙ sym second_above;
      }

  pub balanced_if_standard : IsStandard h z → AreBalanced g x i j
  balanced_if_standard s =
      let e : excess h z 2 ≡ excess h z 1 = omega (arith, linear, first_above, second_above, s.alike) in
      (excess h z 1, first_surplus, subst (IsSurplus g x j i) e second_surplus)

  -- in the core of the two, no coalition with i and without j blocks
  pub not_blocked : InCore h z → (s : ℕ) → s < 2 ^ g.players → holds_without i j s ≡ true → excess g x s ≤ℤ pos 0
  not_blocked c s within holds =
      let small : 1 < 2 ^ h.players = subst (λ k. 1 < 2 ^ k) (sym r.players) (omega arith) in
      by_lt_z (pos 0) (excess h z 1)
      (λ lt. absurd (c.2 1 small (omega (arith, linear, lt))))
      (λ low. omega (arith, linear, first_surplus.1 s (within, holds), low))

pub prekernel_by_pairs : PrekernelByPairs
prekernel_by_pairs g x hx e = (
  λ p i j h hi hj ne r. standard_if_balanced g h x i j hi hj ne r e (p.2 i j hi hj ne),
  λ each. (
    hx,
    e,
    λ i j hi hj ne.
        let found = is_reduced 2 (the_two i j) g x (two_are_some g.players i j hi hj ne) in
        balanced_if_standard g found.0 x i j hi hj ne found.1 (each i j found.0 hi hj ne found.1),
  ),
)

pub each_two_are_standard : EachTwoAreStandard
each_two_are_standard g h x i j hi hj ne r is =
    let p = prenucleolus_in_prekernel g x is in (prekernel_by_pairs g x p.0 p.1).0 p i j h hi hj ne r

pub core_by_pairs : CoreByPairs
core_by_pairs g x hx e nothing = (
  λ c i j h hi hj ne r. core_reduces 2 (the_two i j) g h x (two_are_some g.players i j hi hj ne) r c,
  λ each. (
    hx,
    e,
    λ s within blocks. elim (same_or_other s 0) [
      | inl none ↦
          omega (
            products,
            blocks,
            ap (amount x) none,
            amount-empty x,
            ap (λ t. x.den *ℤ g.worth t) none,
            ap (◌*ℤ◌ x.den) nothing,
          )
      | inr other ↦ elim (same_or_other s (grand_coalition g.players)) [
        | inl all ↦ omega (arith, linear, blocks, ap (amount x) all, ap (λ t. x.den *ℤ g.worth t) all, e)
        | inr proper ↦
            let i = some_member g.players s (omega (arith, other)) within in
            let j = some_outsider g.players s within proper in
            let ne : i.0 ≢ j.0 = λ same. false≢true (sym j.2 ∙ ap (has_player s) (sym same) ∙ i.2) in
            let found = is_reduced 2 (the_two i.0 j.0) g x (two_are_some g.players i.0 j.0 i.1 j.1 ne) in
            let low =
            not_blocked g found.0 x i.0 j.0 i.1 j.1 ne found.1 (each i.0 j.0 found.0 i.1 j.1 ne found.1) s within
            (holds (has_player s i.0) (has_player s j.0) i.2 j.2) in
            omega (arith, linear, low, blocks)
      ]
    ],
  ),
)
  where
    holds : (b c : Bool) → b ≡ true → c ≡ false → (b && not c) ≡ true
    holds b c e f = grind arith
