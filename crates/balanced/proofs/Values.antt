-- What multipliers make of the balanced program: of a coalition what its members' multipliers add to.
use Rattle.std.proofs.Common.{◌≡◌, ℕ, zero, suc, ◌^◌, ◌<◌, Bool, true, false}
use Rattle.std.proofs.Common.{cond, IsTrue, List, ℤ, pos, ◌+ℤ◌, ◌*ℤ◌, ◌≤ℤ◌, sym, ap}
use Rattle.std.proofs.Common.{◌∙◌}
use Rattle.std.proofs.Common.{inl, inr, arith, nat_lt, if◌then◌else◌}
use Rattle.std.proofs.lemmas.Bool.Decides.{nat_tests}
use Rattle.definitions.proofs.Ring.{linear, mul-oneℤ}
use Rattle.definitions.proofs.Members.{sum_below-same, times_bit, sum_over-nonnegative}
use Rattle.definitions.proofs.Cases.{less_or_last, from_nat_lt, and_left, and_right}
use Rattle.definitions.specs.Sums.{sum_below}
use Rattle.definitions.specs.Coalitions.{has_player, sum_over}
use Rattle.definitions.specs.Games.{Game}
use Rattle.definitions.specs.Programs.{value_of}
use Rattle.separation.specs.Balanced.{balanced_program}
use Rattle.separation.specs.Values.{multiplier_at}

-- ---- columns

pub column_of : (g : Game) (s : ℕ) → 0 < s → s < 2 ^ g.players → IsTrue ((balanced_program g).is_column s)
column_of g s low high =
    let a : nat_lt 0 s ≡ true = grind (arith, nat_tests) in
    let b : nat_lt s (2 ^ g.players) ≡ true = grind (arith, nat_tests) in
    rw a b

pub above_none : (g : Game) (s : ℕ) → IsTrue ((balanced_program g).is_column s) → 0 < s
above_none g s is = from_nat_lt 0 s (and_left (nat_lt 0 s) (nat_lt s (2 ^ g.players)) is)

pub below_all : (g : Game) (s : ℕ) → IsTrue ((balanced_program g).is_column s) → s < 2 ^ g.players
below_all g s is = from_nat_lt s (2 ^ g.players) (and_right (nat_lt 0 s) (nat_lt s (2 ^ g.players)) is)

-- ---- values

pub value_members : (g : Game) (m : List ℤ) (s : ℕ)
    → value_of (balanced_program g) m ((balanced_program g).entry s) ≡ sum_over g.players (multiplier_at m) s
value_members g m s =
    sum_below-same g.players (λ r. multiplier_at m r *ℤ (if has_player s r then pos 1 else pos 0))
    (λ r. if has_player s r then multiplier_at m r else pos 0) (λ r lt. times_bit (has_player s r) (multiplier_at m r))

pub value_right : (g : Game) (m : List ℤ)
    → value_of (balanced_program g) m (balanced_program g).right ≡ sum_below g.players (multiplier_at m)
value_right g m =
    sum_below-same g.players (λ r. multiplier_at m r *ℤ pos 1) (multiplier_at m)
    (λ r lt. mul-oneℤ (multiplier_at m r))

-- ---- members

-- numbers of at least 0 add to at least that of one member
pub member_less : (n s i : ℕ) (a : ℕ → ℤ) → ((k : ℕ) → pos 0 ≤ℤ a k) → i < n → has_player s i ≡ true
    → a i ≤ℤ sum_over n a s
member_less zero s i a h lt has = absurd (omega arith)
member_less (suc n) s i a h lt has = elim (less_or_last i n lt) [
  | inl less ↦ before (has_player s n) (member_less n s i a h less has)
  | inr same ↦ last same
]
  where
    before : (b : Bool) → a i ≤ℤ sum_over n a s → a i ≤ℤ (sum_over n a s +ℤ cond b (a n) (pos 0))
    before true ih = omega (arith, linear, ih, h n)
    before false ih = omega (arith, linear, ih)

    last : i ≡ n → a i ≤ℤ (sum_over n a s +ℤ (if has_player s n then a n else pos 0))
    last same =
        let t : has_player s n ≡ true = ap (has_player s) (sym same) ∙ has in
        let e : a i ≡ a n = ap a same in
        rw t (omega (arith, linear, e, sum_over-nonnegative n s a (λ k below. h k)))
