-- How many players get half of their claims, and that the shares made of it are those of the rule.
--
-- The code finds how many players, from the least claim on, get half of it, and what is the same for all others
-- (`Division`). Claims are cut to the estate first, which changes no worth (Worths.antt).
use Rattle.std.proofs.Common.{◌≡◌, ◌⊎◌, ℕ, zero, suc, ◌+◌, ◌-◌, ◌*◌, ◌<◌, ◌≤◌}
use Rattle.std.proofs.Common.{Bool, length, get_or}
use Rattle.std.proofs.Common.{min, ℤ, pos, ◌+ℤ◌, ◌*ℤ◌, ◌≤ℤ◌, refl, sym, ap, ◌∙◌}
use Rattle.std.proofs.Common.{inl, inr, arith, add-one}
use Rattle.std.proofs.lemmas.Int.{ints}
use Rattle.std.proofs.Math.Nat.{mul-le-mul, le_refl}
use Rattle.definitions.proofs.Ring.{linear, mul-addℤ, mul-zeroℤ, add-mulℤ, suc-mulℤ}
use Rattle.definitions.proofs.Members.{sum_over-grand_coalition, sum_below-same, sum_below-split}
use Rattle.definitions.proofs.Cases.{less_or_last_of}
use Rattle.definitions.specs.Sums.{sum_below}
use Rattle.definitions.specs.Coalitions.{sum_over}
use Rattle.orders.specs.Orders.{IsOrder}
use Rattle.orders.proofs.Fronts.{sum_over-front}
use Rattle.orders.specs.Ordered.{OrderedNumbers, IsOrdered, place, number_at}
use Rattle.talmud.specs.Division.{claim_sum, divided, IsSplit, IsSide, IsDivision}
use Rattle.std.specs.List.{All}

-- one more half player
pub IsSplit-more : (n : ℕ) (c : ℕ → ℕ) (double m left : ℕ) → ((j k : ℕ) → j < k → k < n → c j ≤ c k) → m < n
    → c m * (n - m) ≤ left → IsSplit n c double m left → IsSplit n c double (m + 1) (left - c m)
IsSplit-more n c double m left rising lt le s = record {
  within = omega arith;
  sum = sum_more;
  most = omega arith;
  under =
      λ j h. at j (elim (less_or_last_of j m h) [ inl less ↦ rising j m less lt | inr same ↦ rw same (omega arith) ]);
}
  where
    behind : n - m ≡ suc (n - (m + 1))
    behind = omega arith

    enough : c m * suc (n - (m + 1)) ≤ left
    enough = rw behind at le

    at : (j : ℕ) → c j ≤ c m → c j * (n - (m + 1)) ≤ left - c m
    at j h =
        let r = n - (m + 1) in
        let a = mul-le-mul h (le_refl r) in
        rest (c j * r) (c m * r) (c m) r a enough refl
      where
        rest : (u v k r : ℕ) → u ≤ v → k * suc r ≤ left → v ≡ k * r → u ≤ left - k
        rest u v k r h e f = omega arith

    sum_more : sum_below (m + 1) (λ j. pos (c j)) +ℤ pos (left - c m) ≡ pos double
    sum_more = rw add-one (joined (sum_below m (λ j. pos (c j))) s.sum fits)
      where
        fits : c m ≤ left
        fits = let r = n - (m + 1) in omega (arith, enough)

        joined : (u : ℤ) → u +ℤ pos left ≡ pos double → c m ≤ left → u +ℤ pos (c m) +ℤ pos (left - c m) ≡ pos double
        joined u e h = omega (arith, ints)

-- ---- sums over the first places and the others

sum-times : (k : ℕ) (h : ℤ) (f g : ℕ → ℤ) → ((j : ℕ) → j < k → g j ≡ h *ℤ f j) → sum_below k g ≡ h *ℤ sum_below k f
sum-times zero h f g e = sym (mul-zeroℤ h)
sum-times (suc k) h f g e =
    let ih = sum-times k h f g (λ j lt. e j (omega arith)) in
    omega (arith, linear, e k (omega arith), mul-addℤ h (sum_below k f) (f k))

sum-constant : (r : ℕ) (t : ℤ) (g : ℕ → ℤ) → ((j : ℕ) → j < r → g j ≡ t) → sum_below r g ≡ pos r *ℤ t
sum-constant zero t g e = omega (arith, ints)
sum-constant (suc r) t g e =
    let ih = sum-constant r t g (λ j lt. e j (omega arith)) in
    omega (arith, linear, e r (omega arith), suc-mulℤ r t)

-- by place or by player
pub sum-places : (n : ℕ) (cost at : ℕ → ℕ) → IsOrder n cost at → (f : ℕ → ℤ)
    → sum_below n f ≡ sum_below n (λ j. f (at j))
sum-places n cost at o f =
    sym (sum_over-grand_coalition n f) ∙ ap (sum_over n f) (sym o.full)
    ∙ sum_over-front n cost at o f n (omega arith)

-- ---- the division

natural_times : (h c : ℕ) → pos h *ℤ pos c ≡ pos (c * h)
natural_times h c = omega (arith, ints)

-- what each is counted for
abbrev counted : OrderedNumbers → ℕ → ℕ → ℕ → ℤ
counted c h t i = pos (min (get_or c.numbers i 0 * h) t)

twice : (h a b : ℤ) → a ≡ b +ℤ b → h *ℤ a ≡ (h +ℤ h) *ℤ b
twice h a b e = ap (λ (z : ℤ). h *ℤ z) e ∙ mul-addℤ h b b ∙ sym (add-mulℤ h h b)

double_of : (amount : ℕ) (d : ℤ) → pos amount ≡ d → pos (2 * amount) ≡ d +ℤ d
double_of amount d e = omega (arith, ints)

-- where some players get more than half of their claims' bound, they share what is left
pub IsDivision-rest : (estate : ℕ) (c : OrderedNumbers) (gain : Bool) (amount m left : ℕ) → IsOrdered c
    → IsSide estate c gain → pos amount ≡ divided estate c gain
    → IsSplit (length c.numbers) (number_at c) (2 * amount) m left → m < length c.numbers
    → left < number_at c m * (length c.numbers - m) → IsDivision estate c gain m (length c.numbers - m) left
IsDivision-rest estate c gain amount m left o side e s lt stop = record {
  within = omega arith;
  some = omega arith;
  side = side;
  half = s.under;
  rest =
      λ j low high. after (number_at c m * h) (number_at c j * h) (mul-le-mul (rises j low high) (le_refl h)) stop;
  sum = parts ∙ scaled;
}
  where
    n : ℕ
    n = length c.numbers

    h : ℕ
    h = n - m

    after : (u v : ℕ) → u ≤ v → left < u → left < v
    after u v a b = omega arith

    same_or_more : (j : ℕ) → m ≤ j → (j ≡ m) ⊎ (m < j)
    same_or_more j le = grind arith

    rises : (j : ℕ) → m ≤ j → j < n → number_at c m ≤ number_at c j
    rises j low high =
        elim (same_or_more j low)
        [ inl same ↦ rw same (le_refl (number_at c m)) | inr more ↦ o.sorted.lists.rising m j more high ]

    first : (j : ℕ) → j < m → counted c h left (place c j) ≡ pos h *ℤ pos (number_at c j)
    first j below = least (number_at c j * h) (s.under j below) ∙ sym (natural_times h (number_at c j))
      where
        least : (u : ℕ) → u ≤ left → pos (min u left) ≡ pos u
        least u le = omega (arith, ints)

    second : (d : ℕ) → d < h → counted c h left (place c (m + d)) ≡ pos left
    second d below =
        least (number_at c (m + d) * h)
        (after (number_at c m * h) (number_at c (m + d) * h)
        (mul-le-mul (rises (m + d) (omega arith) (omega arith)) (le_refl h)) stop)
      where
        least : (u : ℕ) → left < u → pos (min u left) ≡ pos left
        least u le = omega (arith, ints)

    parts : sum_below n (counted c h left) ≡ pos h *ℤ (sum_below m (λ j. pos (number_at c j)) +ℤ pos left)
    parts =
        let places = sum-places n (λ i. get_or c.numbers i 0) (place c) o.sorted.lists (counted c h left) in
        let split = sum_below-split m h (λ j. counted c h left (place c j)) in
        let all : m + h ≡ n = omega arith in
        let whole = ap (λ (k : ℕ). sum_below k (λ j. counted c h left (place c j))) all in
        let a = sum-times m (pos h) (λ j. pos (number_at c j)) (λ j. counted c h left (place c j)) first in
        let b = sum-constant h (pos left) (λ d. counted c h left (place c (m + d))) second in
        omega (arith, linear, mul-addℤ (pos h) (sum_below m (λ j. pos (number_at c j))) (pos left))

    scaled : pos h *ℤ (sum_below m (λ j. pos (number_at c j)) +ℤ pos left)
        ≡ (pos h +ℤ pos h) *ℤ divided estate c gain
    scaled =
        twice (pos h) (sum_below m (λ j. pos (number_at c j)) +ℤ pos left) (divided estate c gain)
        (s.sum ∙ double_of amount (divided estate c gain) e)

-- where all get half of their claims, the estate is half of them
pub IsDivision-all : (estate : ℕ) (c : OrderedNumbers) (gain : Bool) (amount m left : ℕ) → IsOrdered c
    → All (λ d. d ≤ estate) c.numbers → IsSide estate c gain → pos amount ≡ divided estate c gain
    → IsSplit (length c.numbers) (number_at c) (2 * amount) m left → length c.numbers ≤ m
    → IsDivision estate c gain (length c.numbers) 1 estate
IsDivision-all estate c gain amount m left o low side e s le = record {
  within = omega arith;
  some = omega arith;
  side = side;
  half = λ j lt. one_low (number_at c j) (low (place c j) 0 (o.sorted.lists.below j lt));
  rest = λ j high lt. absurd (omega arith);
  sum =
      sum_below-same (length c.numbers) (counted c 1 estate) (λ i. pos (get_or c.numbers i 0))
      (λ i lt. one_least (get_or c.numbers i 0) (low i 0 lt))
      ∙ grind (arith, ints, linear, sums ∙ double_of amount (divided estate c gain) e);
}
  where
    one_low : (d : ℕ) → d ≤ estate → d * 1 ≤ estate
    one_low d h = omega arith

    one_least : (d : ℕ) → d ≤ estate → pos (min (d * 1) estate) ≡ pos d
    one_least d h = omega (arith, ints)

    sums : claim_sum c +ℤ pos left ≡ pos (2 * amount)
    sums =
        let all : m ≡ length c.numbers = omega arith in
        let places =
        sum-places (length c.numbers) (λ i. get_or c.numbers i 0) (place c) o.sorted.lists
        (λ i. pos (get_or c.numbers i 0)) in
        let whole = ap (λ (k : ℕ). sum_below k (λ j. pos (number_at c j))) all in
        omega (arith, linear)

    natural : pos 0 ≤ℤ pos left
    natural = omega (arith, ints)
