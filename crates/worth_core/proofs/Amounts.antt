-- What members get together: how large it is, and how it goes on from a coalition to that of the next mask.
use Rattle.std.proofs.Common.{◌≡◌, ℕ, zero, suc, ◌+◌, ◌-◌, ◌*◌, ◌/◌, ◌%◌, ◌^◌}
use Rattle.std.proofs.Common.{◌<◌}
use Rattle.std.proofs.Common.{◌≤◌, ◌≢◌, Bool, true, false, cond}
use Rattle.std.proofs.Common.{nat_eq, length, ℤ, pos, ◌+ℤ◌, ◌-ℤ◌, unsigned_abs, refl}
use Rattle.std.proofs.Common.{sym, ap, ◌∙◌, arith, inl, inr}
use Rattle.std.proofs.lemmas.Bool.Decides.{nat_tests}
use Rattle.std.proofs.lemmas.Int.{ints}
use Rattle.std.proofs.lemmas.Nat.Bits.{bit_at_cat_high, bit_at_lowest}
use Rattle.std.proofs.lemmas.Nat.{pow_pos}
use Rattle.std.proofs.Math.Nat.{le-mul_of_pos_right, pow-le-pow_right}
use Rattle.std.specs.Int.{bit_at}
use Rattle.definitions.specs.Coalitions.{has_player, sum_over}
use Rattle.definitions.specs.Games.{Allocation, share, amount, IsShares}
use Rattle.definitions.proofs.Cases.{below_or_above}
use Rattle.definitions.proofs.Ring.{linear}
use Rattle.definitions.proofs.Parts.{sum_over-more}
use Rattle.definitions.proofs.Masks.{masks-double}

-- ---- sizes

-- a sum of small numbers is small
sum_over-small : (n : ℕ) (a : ℕ → ℤ) (s : ℕ) → ((i : ℕ) → i < n → unsigned_abs (a i) < 2 ^ 110)
    → unsigned_abs (sum_over n a s) ≤ n * 2 ^ 110
sum_over-small zero a s h = omega (arith, ints)
sum_over-small (suc n) a s h =
    small_either (has_player s n) (sum_over n a s) (a n) (sum_over-small n a s (λ i lt. h i (omega arith)))
    (h n (omega arith))
  where
    small_either : (b : Bool) (u w : ℤ) → unsigned_abs u ≤ n * 2 ^ 110 → unsigned_abs w < 2 ^ 110
        → unsigned_abs (u +ℤ cond b w (pos 0)) ≤ suc n * 2 ^ 110
    small_either true u w hu hw = omega (arith, ints)
    small_either false u w hu hw = omega (arith, ints)

pub amount-small : (x : Allocation) (s : ℕ) → IsShares x → unsigned_abs (amount x s) < 2 ^ 117
amount-small x s h =
    let a = sum_over-small (length x.shares) (share x) s h.small in
    let few = h.few in
    omega (arith, a, few)

-- ---- from the mask before

has_player-multiple : (q i : ℕ) → has_player (q * 2 ^ i) i ≡ nat_eq (q % 2) 1
has_player-multiple q i =
    let low : i - i ≡ 0 = omega arith in
    let same : q * 2 ^ i ≡ q * 2 ^ i + 0 = omega arith in
    let bit : bit_at (q * 2 ^ i) i ≡ q % 2 =
    ap (λ (m : ℕ). bit_at m i) same ∙ bit_at_cat_high q i 0 i (pow_pos i) (omega arith)
    ∙ ap (bit_at q) low ∙ bit_at_lowest q in
    ap (λ (b : ℕ). nat_eq b 1) bit

-- the players in front of player i are no members of s, and the sum is what s gets less 2 ^ i as a mask: without
-- its
-- first member, and with the players from i on that are in front of that one
pub record IsWalked (x : Allocation) (s i : ℕ) (sum : ℤ) : Type 0 where
  pub times : ℕ
  pub some : 0 < times
  pub mask : s ≡ times * 2 ^ i
  pub paid : sum ≡ amount x (s - 2 ^ i)

pub walk_start : (x : Allocation) (s : ℕ) (sum : ℤ) → 0 < s → sum ≡ amount x (s - 1) → IsWalked x s 0 sum
walk_start x s sum some paid = record { times = s; some = some; mask = omega arith; paid = paid }

times_more : (q p : ℕ) → 0 < q → p ≤ q * p
times_more q p some = omega (arith, le-mul_of_pos_right p some)

one_less : (q p : ℕ) → 0 < q → q * p - p ≡ (q - 1) * p
one_less zero p some = absurd (omega arith)
one_less (suc q) p some = let e : suc q - 1 ≡ q = omega arith in rw e (omega arith)

two_less : (h p : ℕ) → 0 < h → h * (2 * p) - 2 * p ≡ (2 * (h - 1)) * p
two_less zero p some = absurd (omega arith)
two_less (suc h) p some = let e : suc h - 1 ≡ h = omega arith in rw e (omega arith)

-- player i is one of the players
pub walk_within : (x : Allocation) (n s i : ℕ) (sum : ℤ) → s < 2 ^ n → IsWalked x s i sum → i < n
walk_within x n s i sum within h = elim (below_or_above i n) [
  | inl low ↦ low
  | inr high ↦
      let up : 2 ^ n ≤ 2 ^ i = pow-le-pow_right (omega arith) high in
      let more = times_more h.times (2 ^ i) h.some in
      let mask = h.mask in
      absurd (omega arith)
]

-- it is the first member, and comes
pub walk_end : (x : Allocation) (s i : ℕ) (sum z : ℤ) → IsWalked x s i sum → i < length x.shares
    → has_player s i ≡ true
    → z ≡ sum +ℤ share x i → z ≡ amount x s
walk_end x s i sum z h lt member is =
    let q = h.times in
    let mask = h.mask in
    let t = (q - 1) * 2 ^ i in
    let odd : nat_eq (q % 2) 1 ≡ true =
    sym (has_player-multiple q i) ∙ ap (λ (m : ℕ). has_player m i) (sym mask) ∙ member in
    let one : q % 2 ≡ 1 = grind (arith, nat_tests) in
    let even : (q - 1) % 2 ≡ 0 = omega arith in
    let off : nat_eq ((q - 1) % 2) 1 ≡ false = rw even refl in
    let less : s - 2 ^ i ≡ t = ap (λ (m : ℕ). m - 2 ^ i) mask ∙ one_less q (2 ^ i) h.some in
    let more = times_more q (2 ^ i) h.some in
    let back : t + 2 ^ i ≡ s = omega arith in
    let step = sum_over-more (length x.shares) t i (share x) lt (has_player-multiple (q - 1) i ∙ off) in
    let before : sum ≡ amount x t = h.paid ∙ ap (amount x) less in
    is ∙ ap (λ (y : ℤ). y +ℤ share x i) before ∙ sym step ∙ ap (amount x) back

-- it is no member, and goes
pub walk_step : (x : Allocation) (s i : ℕ) (sum z : ℤ) → IsWalked x s i sum → i < length x.shares
    → has_player s i ≡ false
    → z ≡ sum -ℤ share x i → IsWalked x s (i + 1) z
walk_step x s i sum z h lt none is =
    let q = h.times in
    let half = q / 2 in
    let p = 2 ^ i in
    let odd : nat_eq (q % 2) 1 ≡ false =
    sym (has_player-multiple q i) ∙ ap (λ (m : ℕ). has_player m i) (sym h.mask) ∙ none in
    let not_one : q % 2 ≢ 1 = grind (arith, nat_tests) in
    let some = h.some in
    let double : q ≡ 2 * half = omega arith in
    let positive : 0 < half = omega arith in
    let mask : s ≡ half * (2 * p) = h.mask ∙ ap (λ (m : ℕ). m * p) double ∙ regroup half p in
    let t = (2 * (half - 1)) * p in
    let less : s - 2 * p ≡ t = ap (λ (m : ℕ). m - 2 * p) mask ∙ two_less half p positive in
    let more = times_more half (2 * p) positive in
    let back : t + p ≡ s - p = omega arith in
    let even : (2 * (half - 1)) % 2 ≡ 0 = omega arith in
    let off : nat_eq ((2 * (half - 1)) % 2) 1 ≡ false = rw even refl in
    let step = sum_over-more (length x.shares) t i (share x) lt (has_player-multiple (2 * (half - 1)) i ∙ off) in
    let before : sum ≡ amount x t +ℤ share x i = h.paid ∙ ap (amount x) (sym back) ∙ step in
    record {
      times = half;
      some = positive;
      mask = mask ∙ ap (λ (m : ℕ). half * m) (sym (masks-double i));
      paid = is ∙ difference z sum (amount x t) (share x i) before ∙ ap (amount x) (sym less)
          ∙ ap (λ (m : ℕ). amount x (s - m)) (sym (masks-double i));
    }
  where
    regroup : (h p : ℕ) → (2 * h) * p ≡ h * (2 * p)
    regroup h p = omega arith

    difference : (z sum a b : ℤ) → sum ≡ a +ℤ b → sum -ℤ b ≡ a
    difference z sum a b e = omega (arith, linear, e)

pub walk_small : (x : Allocation) (s i : ℕ) (sum : ℤ) → IsShares x → IsWalked x s i sum → unsigned_abs sum < 2 ^ 117
walk_small x s i sum shares h = rw h.paid (amount-small x (s - 2 ^ i) shares)
