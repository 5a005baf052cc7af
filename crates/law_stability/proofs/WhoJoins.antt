-- If each player adds at least its worth alone, an excess doesn't fall when a player joins who gets at most its
-- worth alone. So outside a coalition of positive excess somebody gets more.
use Rattle.std.proofs.Common.{◌≡◌, ℕ, zero, suc, ◌+◌, ◌^◌, ◌<◌, ◌≤◌, Bool, true}
use Rattle.std.proofs.Common.{false, ◌&&◌, not, length, ℤ, pos, ◌+ℤ◌}
use Rattle.std.proofs.Common.{◌-ℤ◌, ◌*ℤ◌, ◌<ℤ◌, ◌≤ℤ◌, int_lt, sym, ap, ◌∙◌, inl, inr, arith}
use Rattle.std.proofs.lemmas.Bool.{false≢true}
use Rattle.std.proofs.lemmas.Int.{ints}
use Rattle.definitions.proofs.Cases.{below_or_above, same_or_other, true_or_false}
use Rattle.definitions.proofs.Cases.{and_parts, from_not, same_or_later}
use Rattle.std.proofs.Math.Pow.{pow_pos}
use Rattle.definitions.proofs.Members.{has_player-empty}
use Rattle.definitions.proofs.Parts.{has_player-more_same, has_player-more_other, more-lt, sum_over-more}
use Rattle.definitions.proofs.Ring.{linear, mul-leℤ}
use Rattle.definitions.proofs.SomeMembers.{some_outsider}
use Rattle.definitions.proofs.Splits.{some_below-true, some_below-false}
use Rattle.definitions.specs.Coalitions.{has_player, singleton, grand_coalition, some_below}
use Rattle.definitions.specs.Games.{Game, Allocation, share, excess, IsAllocation, IsEfficient}
use Rattle.convexity.proofs.Joining.{adds_more}
use Rattle.law_stability.specs.ZeroMonotonic.{IsZeroMonotonic, ConvexIsZeroMonotonic}
use Rattle.theorems.proofs.Products.{products}

-- what player i leaves of its worth alone raises the excess of whom it joins
pub joined : (g : Game) (x : Allocation) (s i : ℕ) → IsZeroMonotonic g → IsAllocation g x → s < 2 ^ g.players
    → i < g.players → has_player s i ≡ false
    → (excess g x s +ℤ (x.den *ℤ g.worth (singleton i) -ℤ share x i)) ≤ℤ excess g x (s + singleton i)
joined g x s i mono hx lt hi out =
    let within : i < length x.shares = rw hx.0 hi in
    omega (
      products,
      mul-leℤ x.den (g.worth s +ℤ g.worth (singleton i)) (g.worth (s + singleton i)) (omega (arith, linear, hx.1))
          (mono s i lt hi out),
      sum_over-more (length x.shares) s i (share x) within out,
    )

-- where nobody outside gets more than its worth alone, the excess is at most that of all, which is 0
none_left : (g : Game) (x : Allocation) (m s : ℕ) → IsZeroMonotonic g → IsAllocation g x → IsEfficient g x
    → s < 2 ^ g.players → ((j : ℕ) → j < g.players → m ≤ j → has_player s j ≡ true)
    → ((j : ℕ) → j < g.players → has_player s j ≡ false → share x j ≤ℤ (x.den *ℤ g.worth (singleton j)))
    → excess g x s ≤ℤ pos 0
none_left g x zero s mono hx e lt have low = elim (same_or_other s (grand_coalition g.players)) [
  | inl all ↦ omega (arith, linear, ap (excess g x) all, e)
  | inr ne ↦
      let found = some_outsider g.players s lt ne in
      absurd (false≢true (sym found.2 ∙ have found.0 found.1 (omega arith)))
]
none_left g x (suc m) s mono hx e lt have low = elim (below_or_above m g.players) [
  | inr past ↦ none_left g x m s mono hx e lt (λ j h more. absurd (omega (arith, past, h, more))) low
  | inl hm ↦ elim (true_or_false (has_player s m)) [
    | inl inside ↦
        none_left g x m s mono hx e lt
        (λ j h more. elim (same_or_later m j more) [
          | inl same ↦ ap (has_player s) (sym same) ∙ inside
          | inr later ↦ have j h (omega (arith, later))
        ]) low
    | inr out ↦
        let after = none_left g x m (s + 2 ^ m) mono hx e (more-lt g.players s m lt hm out)
        (λ j h more. elim (same_or_other j m) [
          | inl same ↦ ap (has_player (s + 2 ^ m)) same ∙ has_player-more_same s m out
          | inr other ↦ has_player-more_other s m j out other ∙ have j h (omega (arith, more, other))
        ])
        (λ j h outside. elim (same_or_other j m) [
          | inl same ↦ absurd
              (false≢true (sym outside ∙ ap (has_player (s + 2 ^ m)) same ∙ has_player-more_same s m out))
          | inr other ↦ low j h (sym (has_player-more_other s m j out other) ∙ outside)
        ]) in
        omega (arith, linear, after, joined g x s m mono hx lt hm out, low m hm out)
  ]
]

-- outside a coalition of positive excess somebody gets more than its worth alone
pub somebody_gets_more : (g : Game) (x : Allocation) (s : ℕ) → IsZeroMonotonic g → IsAllocation g x
    → IsEfficient g x
    → s < 2 ^ g.players → pos 0 <ℤ excess g x s
    → (j : ℕ) × (j < g.players) × (has_player s j ≡ false) × ((x.den *ℤ g.worth (singleton j)) <ℤ share x j)
somebody_gets_more g x s mono hx e lt up = elim (true_or_false (some_below g.players test)) [
  | inl some ↦
      let found = some_below-true g.players test some in
      let both = and_parts (not (has_player s found.0)) (more found.0) found.2 in
      (found.0, found.1, from_not (has_player s found.0) both.0, omega (arith, ints, both.1))
  | inr none ↦ absurd
      (let low = none_left g x g.players s mono hx e lt (λ j h past. absurd (omega (arith, h, past)))
      (λ j h out. at_most (has_player s j) (x.den *ℤ g.worth (singleton j)) (share x j) out
      (some_below-false g.players test none j h)) in
      omega (arith, linear, low, up))
]
  where
    more : ℕ → Bool
    more j = int_lt (x.den *ℤ g.worth (singleton j)) (share x j)

    test : ℕ → Bool
    test j = not (has_player s j) && more j

    at_most : (b : Bool) (u a : ℤ) → b ≡ false → (not b && int_lt u a) ≡ false → a ≤ℤ u
    at_most b u a e h = grind (arith, ints)

-- in a convex game a player adds no less to a coalition than to the empty one
pub convex_is_zero_monotonic : ConvexIsZeroMonotonic
convex_is_zero_monotonic g nobody convex s i lt hi out =
    let first : 0 + 2 ^ i ≡ 2 ^ i = omega arith in
    let more = adds_more g i 0 s convex (pow_pos g.players) lt hi out
    (λ j inside. absurd (false≢true (sym (has_player-empty j) ∙ inside))) in
    omega (arith, linear, more, nobody, ap g.worth first)
