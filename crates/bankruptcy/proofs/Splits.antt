-- The greatest sum over the coalitions that hold some but not all of some players, once all players are seen.
use Rattle.std.proofs.Common.{◌≡◌, ℕ, ◌+◌, ◌^◌, ◌<◌, Bool, true, false, not, ◌&&◌}
use Rattle.std.proofs.Common.{◌||◌, IsTrue, ℤ, ◌+ℤ◌, ◌≤ℤ◌}
use Rattle.std.proofs.Common.{Option, Some, None, IsSome, refl, sym, ap, ◌∙◌, inl, inr}
use Rattle.std.proofs.Common.{arith}
use Rattle.std.proofs.lemmas.Bool.{false≢true}
use Rattle.std.proofs.Math.Pow.{pow-lt, pow_pos}
use Rattle.std.specs.Int.{int_max}
use Rattle.definitions.proofs.Ring.{linear}
use Rattle.definitions.proofs.Members.{has_player-grand_coalition}
use Rattle.definitions.proofs.Parts.{has_player-past}
use Rattle.definitions.specs.Coalitions.{has_player, singleton, grand_coalition, splits}
use Rattle.definitions.specs.Games.{Game, Allocation, excess, HasTwo, IsSplitMaximum}
use Rattle.worth_core.specs.SplitKinds.{holds_some, lacks_some, IsSeenSet, IsGreatestSum}
use Rattle.bankruptcy.specs.Arms.{IsSplitGreatest}
use Rattle.bankruptcy.proofs.LeastGreatest.{linear_at}
use Rattle.definitions.proofs.Cases.{and_true, or_false, below_or_above, int_max-cases}
use Rattle.definitions.proofs.Splits.{some_below-same, splits-singleton}
use Rattle.definitions.proofs.Masks.{masks-double}

-- ---- where all players are seen

-- what the question of the sums comes to
abbrev both : Bool → Bool → Bool
both holds lacks = holds && (lacks || false)

both-splits : (n f s : ℕ)
    → both (holds_some n f s) (lacks_some n f (grand_coalition n) s) ≡ splits n (has_player f) s
both-splits n f s =
    ap (λ (b : Bool). holds_some n f s && b)
    (or_false (lacks_some n f (grand_coalition n) s)
    ∙ some_below-same n (λ i. (has_player f i && has_player (grand_coalition n) i) && not (has_player s i))
    (λ i. has_player f i && not (has_player s i)) here)
  where
    here : (i : ℕ) → i < n
        → ((has_player f i && has_player (grand_coalition n) i) && not (has_player s i))
        ≡ (has_player f i && not (has_player s i))
    here i lt = rw (has_player-grand_coalition n i lt, and_true (has_player f i)) refl

-- all before player i, and player i
pub grand_coalition-more : (i : ℕ) → grand_coalition i + 2 ^ i ≡ grand_coalition (i + 1)
grand_coalition-more i = omega (arith, masks-double i, pow_pos i)

pub grand_coalition-lacks : (i : ℕ) → has_player (grand_coalition i) i ≡ false
grand_coalition-lacks i = has_player-past i (grand_coalition i) i (omega (arith, pow_pos i)) (omega arith)

IsSeenSet-all : (n f s : ℕ) → s < 2 ^ n → splits n (has_player f) s ≡ true
    → IsSeenSet n f (grand_coalition n) both s
IsSeenSet-all n f s lt h = (lt, λ i has. seen i has, both-splits n f s ∙ h)
  where
    seen : (i : ℕ) → has_player s i ≡ true → has_player (grand_coalition n) i ≡ true
    seen i has = elim (below_or_above i n) [
      | inl below ↦ has_player-grand_coalition n i below
      | inr above ↦ absurd (false≢true (sym (has_player-past n s i lt above) ∙ has))
    ]

-- where f has two players there is a sum
pub some_sum : (n : ℕ) (a : ℕ → ℤ) (f : ℕ) (sum : Option ℤ) → HasTwo n f
    → IsGreatestSum n a f (grand_coalition n) both sum → IsSome sum
some_sum n a f None (i, j, lt, within, hi, hj) h =
    absurd
    (h (singleton i)
    (IsSeenSet-all n f (singleton i) (pow-lt (omega arith)) (splits-singleton n f i j lt within hi hj)))
some_sum n a f (Some m) two h = refl

-- and with a base it is the greatest value over the coalitions that split f
pub IsSplitGreatest-sum : (base : ℤ) (n : ℕ) (a : ℕ → ℤ) (f : ℕ) (m k : ℤ)
    → IsGreatestSum n a f (grand_coalition n) both (Some m) → k ≡ base +ℤ m
    → IsSplitGreatest (linear_at base n a) n f k
IsSplitGreatest-sum base n a f m k h e = (
  (h.0.0, (h.0.1.0, sym (both-splits n f h.0.0) ∙ h.0.1.2), omega (arith, linear, h.0.2, e)),
  λ s p. let le = h.1 s (IsSeenSet-all n f s p.0 p.1) in omega (arith, linear, le, e),
)

-- the greatest of the greater of two numbers
pub IsSplitMaximum-greater : (g : Game) (x : Allocation) (f : ℕ) (v w : ℕ → ℤ) (m k r : ℤ)
    → ((s : ℕ) → s < 2 ^ g.players → excess g x s ≡ int_max (v s) (w s)) → IsSplitGreatest v g.players f m
    → IsSplitGreatest w g.players f k → r ≡ int_max m k → IsSplitMaximum g x f r
IsSplitMaximum-greater g x f v w m k r same hv hw e = elim (int_max-cases m k) [
  | inl (greater, le) ↦ (
    (hv.0.0, hv.0.1, at_first greater le),
    bounded (omega (arith, linear, e, greater)) (omega (arith, linear, e, greater, le)),
  )
  | inr (greater, le) ↦ (
    (hw.0.0, hw.0.1, at_second greater le),
    bounded (omega (arith, linear, e, greater, le)) (omega (arith, linear, e, greater)),
  )
]
  where
    at_first : int_max m k ≡ m → k ≤ℤ m → r ≡ excess g x hv.0.0
    at_first greater le =
        let s = hv.0.0 in
        let low = hw.1 s hv.0.1 in
        let here = same s hv.0.1.0 in
        elim (int_max-cases (v s) (w s)) [
          | inl a ↦ omega (arith, linear, e, greater, hv.0.2, here, a.0)
          | inr a ↦ omega (arith, linear, e, greater, le, hv.0.2, here, a.0, a.1, low)
        ]

    at_second : int_max m k ≡ k → m ≤ℤ k → r ≡ excess g x hw.0.0
    at_second greater le =
        let s = hw.0.0 in
        let low = hv.1 s hw.0.1 in
        let here = same s hw.0.1.0 in
        elim (int_max-cases (v s) (w s)) [
          | inl a ↦ omega (arith, linear, e, greater, le, hw.0.2, here, a.0, a.1, low)
          | inr a ↦ omega (arith, linear, e, greater, hw.0.2, here, a.0)
        ]

    bounded : m ≤ℤ r → k ≤ℤ r → (s : ℕ) → (s < 2 ^ g.players) × IsTrue (splits g.players (has_player f) s)
        → excess g x s ≤ℤ r
    bounded first second s p =
        let here = same s p.0 in
        let low = hv.1 s p in
        let lower = hw.1 s p in
        elim (int_max-cases (v s) (w s)) [
          | inl a ↦ omega (arith, linear, here, a.0, low, first)
          | inr a ↦ omega (arith, linear, here, a.0, lower, second)
        ]
