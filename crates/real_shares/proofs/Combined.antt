-- Integer combinations of the unit and of the shares of players, by their columns: entry 0 is how often the unit is
-- taken, and entry 1 + i how often the share of player i.
use Rattle.std.proofs.Common.{◌≡◌, ℕ, zero, suc, ◌<◌, Bool, true, false, cond, ℤ}
use Rattle.std.proofs.Common.{pos, negsuc, ◌+ℤ◌, ◌-ℤ◌, ◌*ℤ◌, sym}
use Rattle.std.proofs.Common.{ap, inl, inr, arith, nat_eq, if◌then◌else◌}
use Rattle.definitions.proofs.Ring.{zero-mulℤ, suc-mulℤ, negsuc-mulℤ}
use Rattle.definitions.proofs.Cases.{less_or_last, nat_eq-less, nat_eq-other, nat_eq-equal}
use Rattle.definitions.specs.Coalitions.{has_player}
use Rattle.real_shares.specs.Numbers.{Numbers, IsOrderedGroup, AtMost, Equal, multiple}
use Rattle.real_shares.specs.Numbers.{times, total_below, total_over}
use Rattle.real_shares.proofs.Orders.{decided, at_most-same, from_less, equal-same}
use Rattle.real_shares.proofs.Multiples.{chain, back, equal_path, plus-at_most, plus-equal, neutral_left, exchanged}
use Rattle.real_shares.proofs.Multiples.{is_minus, minus-at_most, minus-equal, minus-zero, times-add, times-minus}
use Rattle.real_shares.proofs.Multiples.{times-one, total_below-equal, total_below-plus, total_below-minus}
use Rattle.real_shares.proofs.Multiples.{total_below-zero, add-minus, through}
use Rattle.real_shares.proofs.Cones.{IsCone, Zero}

-- the combination of a column
abbrev pub combined : {C : Type 0} → Numbers C → ℕ → (ℕ → C) → (ℕ → ℤ) → C
combined N n y f = N.plus (times N (f 0) N.unit) (total_below N n (λ i. times N (f (suc i)) (y i)))

-- the combination isn't above zero
abbrev pub IsLow : {C : Type 0} → Numbers C → ℕ → (ℕ → C) → (ℕ → ℤ) → Type 0
IsLow N n y f = AtMost N (combined N n y f) N.zero

-- the unit alone
abbrev pub of_unit : ℤ → ℕ → ℤ
of_unit w zero = w
of_unit w (suc i) = pos 0

-- the unit w times, less what the members of s get
abbrev pub of_members : ℤ → ℕ → ℕ → ℤ
of_members w s zero = w
of_members w s (suc i) = if has_player s i then pos 0 -ℤ pos 1 else pos 0

-- the unit a times, less q times the share of player i
abbrev pub of_player : ℤ → ℤ → ℕ → ℕ → ℤ
of_player a q i zero = a
of_player a q i (suc j) = if nat_eq j i then pos 0 -ℤ q else pos 0

module _ {C : Type 0} (N : Numbers C) (L : IsOrderedGroup N) (n : ℕ) (y : ℕ → C) where
  pub combined-same : (f h : ℕ → ℤ) → f 0 ≡ h 0 → ((i : ℕ) → i < n → f (suc i) ≡ h (suc i))
      → Equal N (combined N n y f) (combined N n y h)
  combined-same f h first rest =
      plus-equal N L
      (equal_path N L (times N (f 0) N.unit) (times N (h 0) N.unit) (ap (λ w. times N w N.unit) first))
      (total_below-equal N L n (λ i. times N (f (suc i)) (y i)) (λ i. times N (h (suc i)) (y i))
      (λ i lt. equal_path N L (times N (f (suc i)) (y i)) (times N (h (suc i)) (y i))
      (ap (λ w. times N w (y i)) (rest i lt))))

  pub combined-plus : (f h : ℕ → ℤ)
      → Equal N (combined N n y (λ k. f k +ℤ h k)) (N.plus (combined N n y f) (combined N n y h))
  combined-plus f h =
      chain N L
      (plus-equal N L (times-add N L (f 0) (h 0) N.unit)
      (chain N L
      (total_below-equal N L n (λ i. times N (f (suc i) +ℤ h (suc i)) (y i))
      (λ i. N.plus (times N (f (suc i)) (y i)) (times N (h (suc i)) (y i)))
      (λ i lt. times-add N L (f (suc i)) (h (suc i)) (y i)))
      (total_below-plus N L n (λ i. times N (f (suc i)) (y i)) (λ i. times N (h (suc i)) (y i)))))
      (exchanged N L (times N (f 0) N.unit) (times N (h 0) N.unit)
      (total_below N n (λ i. times N (f (suc i)) (y i))) (total_below N n (λ i. times N (h (suc i)) (y i))))

  pub combined-none : Equal N (combined N n y (λ k. pos 0)) N.zero
  combined-none =
      chain N L (neutral_left N L (total_below N n (λ i. N.zero)))
      (total_below-zero N L n (λ i. N.zero) (λ i lt. equal-same N L N.zero))

  pub combined-minus : (f : ℕ → ℤ) → Equal N (combined N n y (λ k. pos 0 -ℤ f k)) (N.minus (combined N n y f))
  combined-minus f =
      is_minus N L (combined N n y f) (combined N n y (λ k. pos 0 -ℤ f k))
      (chain N L (back N L (combined-plus f (λ k. pos 0 -ℤ f k)))
      (chain N L
      (combined-same (λ k. f k +ℤ (pos 0 -ℤ f k)) (λ k. pos 0) (add-minus (f 0)) (λ i lt. add-minus (f (suc i))))
      combined-none))

  combined-multiple : (m : ℕ) (f : ℕ → ℤ)
      → Equal N (multiple N m (combined N n y f)) (combined N n y (λ k. pos m *ℤ f k))
  combined-multiple zero f =
      chain N L (back N L combined-none)
      (combined-same (λ k. pos 0) (λ k. pos 0 *ℤ f k) (sym (zero-mulℤ (f 0)))
      (λ i lt. sym (zero-mulℤ (f (suc i)))))
  combined-multiple (suc m) f =
      chain N L (plus-equal N L (combined-multiple m f) (equal-same N L (combined N n y f)))
      (chain N L (back N L (combined-plus (λ k. pos m *ℤ f k) f))
      (combined-same (λ k. pos m *ℤ f k +ℤ f k) (λ k. pos (suc m) *ℤ f k) (sym (suc-mulℤ m (f 0)))
      (λ i lt. sym (suc-mulℤ m (f (suc i))))))

  pub combined-times : (z : ℤ) (f : ℕ → ℤ) → Equal N (times N z (combined N n y f)) (combined N n y (λ k. z *ℤ f k))
  combined-times (pos m) f = combined-multiple m f
  combined-times (negsuc m) f =
      chain N L (minus-equal N L (combined-multiple (suc m) f))
      (chain N L (back N L (combined-minus (λ k. pos (suc m) *ℤ f k)))
      (combined-same (λ k. pos 0 -ℤ pos (suc m) *ℤ f k) (λ k. negsuc m *ℤ f k) (sym (negsuc-mulℤ m (f 0)))
      (λ i lt. sym (negsuc-mulℤ m (f (suc i))))))

  -- ---- the cone

  pub cone : IsCone (IsLow N n y)
  cone = record {
    none = combined-none.0;
    plus = λ f h low_f low_h.
        through N L (combined-plus f h).0
        (through N L (plus-at_most N L (combined N n y f) N.zero (combined N n y h) N.zero low_f low_h)
        (L.neutral N.zero).0);
    decided = λ f. decided (N.at_most (combined N n y f) N.zero);
    other = λ f up.
        through N L (combined-minus f).0
        (through N L (minus-at_most N L N.zero (combined N n y f) (from_less N L N.zero (combined N n y f) up))
        (minus-zero N L).0);
  }

  pub to_zero : (f : ℕ → ℤ) → Equal N (combined N n y f) N.zero → Zero (IsLow N n y) f
  to_zero f h = (h.0, (chain N L (combined-minus f) (chain N L (minus-equal N L h) (minus-zero N L))).0)

  pub from_zero : (f : ℕ → ℤ) → Zero (IsLow N n y) f → Equal N (combined N n y f) N.zero
  from_zero f h =
      let down = through N L (combined-minus f).1 h.1 in
      let a = combined N n y f in
      -- a + -a is zero, and -a is at most zero
      let up = through N L (L.inverse a).1
      (through N L (plus-at_most N L a a (N.minus a) N.zero (at_most-same N L a) down) (L.neutral a).0) in
      (h.0, up)

  -- ---- single combinations

  pub combined-unit : (w : ℤ) → Equal N (combined N n y (of_unit w)) (times N w N.unit)
  combined-unit w =
      chain N L
      (plus-equal N L (equal-same N L (times N w N.unit))
      (total_below-zero N L n (λ i. N.zero) (λ i lt. equal-same N L N.zero))) (L.neutral (times N w N.unit))

  pub combined-members : (w : ℤ) (s : ℕ)
      → Equal N (combined N n y (of_members w s)) (N.plus (times N w N.unit) (N.minus (total_over N n y s)))
  combined-members w s =
      plus-equal N L (equal-same N L (times N w N.unit))
      (chain N L
      (total_below-equal N L n (λ i. times N (if has_player s i then pos 0 -ℤ pos 1 else pos 0) (y i))
      (λ i. N.minus (if has_player s i then y i else N.zero)) (λ i lt. each (has_player s i) i))
      (total_below-minus N L n (λ i. if has_player s i then y i else N.zero)))
    where
      each : (b : Bool) (i : ℕ)
          → Equal N (times N (cond b (pos 0 -ℤ pos 1) (pos 0)) (y i)) (N.minus (cond b (y i) N.zero))
      each true i = chain N L (times-minus N L (pos 1) (y i)) (minus-equal N L (times-one N L (y i)))
      each false i = back N L (minus-zero N L)

  total-one_out : (m k : ℕ) (z : ℤ) → m < suc k
      → Equal N (total_below N m (λ i. times N (if nat_eq i k then z else pos 0) (y i))) N.zero
  total-one_out m k z le =
      total_below-zero N L m (λ i. times N (if nat_eq i k then z else pos 0) (y i))
      (λ i lt. rw (nat_eq-less i k (omega arith)) (equal-same N L N.zero))

  if_no : (b : Bool) (z : ℤ) (a : C) → b ≡ false → Equal N (times N (cond b z (pos 0)) a) N.zero
  if_no b z a e = grind (arith, equal-same)

  if_yes : (b : Bool) (z : ℤ) (a : C) → b ≡ true → Equal N (times N (cond b z (pos 0)) a) (times N z a)
  if_yes b z a e = grind (arith, equal-same)

  total-one : (m k : ℕ) (z : ℤ) → k < m
      → Equal N (total_below N m (λ i. times N (if nat_eq i k then z else pos 0) (y i))) (times N z (y k))
  total-one zero k z h = absurd (omega arith)
  total-one (suc m) k z h = elim (less_or_last k m h) [
    | inl less ↦
        chain N L
        (plus-equal N L (total-one m k z less) (if_no (nat_eq m k) z (y m) (nat_eq-other m k (λ e. omega arith))))
        (L.neutral (times N z (y k)))
    | inr same ↦
        chain N L
        (plus-equal N L (total-one_out m k z (omega arith))
        (if_yes (nat_eq m k) z (y m) (nat_eq-equal m k (sym same))))
        (chain N L (neutral_left N L (times N z (y m)))
        (equal_path N L (times N z (y m)) (times N z (y k)) (ap (λ i. times N z (y i)) (sym same))))
  ]

  pub combined-player : (a q : ℤ) (i : ℕ) → i < n
      → Equal N (combined N n y (of_player a q i)) (N.plus (times N a N.unit) (N.minus (times N q (y i))))
  combined-player a q i h =
      plus-equal N L (equal-same N L (times N a N.unit))
      (chain N L (total-one n i (pos 0 -ℤ q) h) (times-minus N L q (y i)))
