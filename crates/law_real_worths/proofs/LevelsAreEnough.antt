-- Against other shares, take the greatest excess among the coalitions whose members get another amount there. If none
-- that has it got less there, what the coalitions of its level get more, times their weights, would add to more than
-- zero. But these balance, and all together get nothing more. So one gets less, and the other shares come after.
use Rattle.std.proofs.Common.{◌≡◌, ◌⊎◌, ℕ, zero, suc, ◌^◌, ◌<◌, Bool, true, false, cond, ◌&&◌, not, nat_eq, List, ℤ}
use Rattle.std.proofs.Common.{pos, negsuc, ◌-ℤ◌, ◌*ℤ◌, ◌≤ℤ◌, refl, sym, ap, ◌∙◌, inl, inr, arith}
use Rattle.std.proofs.lemmas.Bool.{false≢true}
use Rattle.definitions.proofs.Ring.{linear, mul-zeroℤ, mul-subℤ, mul-oneℤ}
use Rattle.std.proofs.Math.Pow.{pow_pos}
use Rattle.definitions.proofs.Cases.{same_or_other, true_or_false, and_parts, and_both, from_not, nat_eq-other}
use Rattle.definitions.proofs.Cases.{from_not_nat_eq, less_or_last}
use Rattle.definitions.proofs.Masks.{grand_coalition-within, singleton-within}
use Rattle.definitions.proofs.Members.{has_player-grand_coalition}
use Rattle.definitions.specs.Sums.{sum_below}
use Rattle.definitions.specs.Coalitions.{has_player, singleton, grand_coalition}
use Rattle.definitions.specs.declared.Family.TheVariants.{Preimputations}
use Rattle.real_shares.specs.Numbers.{Numbers, IsOrderedGroup, AtMost, Equal, times}
use Rattle.real_shares.specs.Numbers.{total_below, total_over, sorted_by}
use Rattle.real_shares.specs.Numbers.{ComesBeforeBy}
use Rattle.real_shares.specs.Shares.{number_of, amount_of}
use Rattle.real_shares.proofs.Orders.{at_most-same, equal-same}
use Rattle.real_shares.proofs.Multiples.{chain, back, equal_path, plus-equal, right, neutral_left, times-equal}
use Rattle.real_shares.proofs.Multiples.{plus-at_most, times-zero, times-keeps, minus-equal, minus-zero}
use Rattle.real_shares.proofs.Multiples.{total_below-plus, total_below-minus, total_below-equal, difference-zero}
use Rattle.real_shares.proofs.Multiples.{from_difference, added-low, minus-at_most, through}
use Rattle.real_shares.proofs.Combined.{combined, of_members, combined-same, combined-plus, combined-none}
use Rattle.real_shares.proofs.Combined.{combined-times, combined-members}
use Rattle.real_shares.proofs.Soundness.{before-from}
use Rattle.law_real_worths.specs.Games.{NumberGame, excess_in, excess_list_in, InFamilyIn, HaveSameIn}
use Rattle.law_real_worths.specs.KohlbergTheorem.{IsBalancedTest, is_level}
use Rattle.law_real_worths.proofs.CoreFirst.{amount_at}
use Rattle.law_real_worths.proofs.BothAreOne.{alone_gets}
use Rattle.law_real_worths.proofs.Joined.{greatest_among, forth}
use Rattle.law_real_worths.proofs.Moves.{less_more}
use Rattle.theorems.proofs.Products.{products}

-- ---- proper coalitions

abbrev pub is_proper : ℕ → ℕ → Bool
is_proper n s = not (nat_eq s 0) && not (nat_eq s (grand_coalition n))

pub to_proper : (n s : ℕ) → 0 < s → s < grand_coalition n → is_proper n s ≡ true
to_proper n s some less =
    and_both (not (nat_eq s 0)) (not (nat_eq s (grand_coalition n)))
    (ap not (nat_eq-other s 0 (λ same. omega (arith, some, same))))
    (ap not (nat_eq-other s (grand_coalition n) (λ same. omega (arith, less, same))))

pub from_proper : (n s : ℕ) → s < 2 ^ n → is_proper n s ≡ true → (0 < s) × (s < grand_coalition n)
from_proper n s within h =
    let both = and_parts (not (nat_eq s 0)) (not (nat_eq s (grand_coalition n))) h in
    let other = from_not_nat_eq s (grand_coalition n) (from_not (nat_eq s (grand_coalition n)) both.1) in
    let all = grand_coalition-within n in
    (omega (arith, from_not_nat_eq s 0 (from_not (nat_eq s 0) both.0)), omega (arith, within, other, all))

-- ---- weighted sums

module _ {C : Type 0} (N : Numbers C) (L : IsOrderedGroup N) where
  -- a multiple of at least 1 of what is below zero is below zero
  times_less : (k : ℤ) (a : C) → pos 1 ≤ℤ k → AtMost N a N.zero → AtMost N (times N k a) a
  times_less (pos zero) a one low = absurd (omega (arith, linear))
  times_less (pos (suc k)) a one low =
      through N L (L.shifts (times N (pos k) a) N.zero a
      (through N L (times-keeps N L (pos k) a N.zero (omega (arith, linear)) low) (times-zero N L (pos k)).0))
      (neutral_left N L a).0
  times_less (negsuc k) a one low = absurd (omega (arith, linear))

  -- no weight, or a term that isn't above zero
  term_low : (k : ℤ) (a : C) → (k ≡ pos 0) ⊎ ((pos 1 ≤ℤ k) × AtMost N a N.zero) → AtMost N (times N k a) N.zero
  term_low k a (inl none) = (equal_path N L (times N k a) N.zero (ap (λ z. times N z a) none)).0
  term_low k a (inr (one, low)) = through N L (times_less k a one low) low

  -- no term is above zero
  sum_low : (w : ℕ → ℤ) (f : ℕ → C) (m : ℕ)
      → ((s : ℕ) → s < m → (w s ≡ pos 0) ⊎ ((pos 1 ≤ℤ w s) × AtMost N (f s) N.zero))
      → AtMost N (total_below N m (λ s. times N (w s) (f s))) N.zero
  sum_low w f zero each = at_most-same N L N.zero
  sum_low w f (suc m) each =
      through N L (plus-at_most N L (total_below N m (λ s. times N (w s) (f s))) N.zero (times N (w m) (f m)) N.zero
      (sum_low w f m (λ s lt. each s (omega arith))) (term_low (w m) (f m) (each m (omega arith))))
      (L.neutral N.zero).0

  -- and one is below zero
  sum_less : (w : ℕ → ℤ) (f : ℕ → C) (m c : ℕ)
      → ((s : ℕ) → s < m → (w s ≡ pos 0) ⊎ ((pos 1 ≤ℤ w s) × AtMost N (f s) N.zero)) → c < m → pos 1 ≤ℤ w c
      → AtMost N (f c) N.zero → AtMost N (total_below N m (λ s. times N (w s) (f s))) (f c)
  sum_less w f zero c each lt one low = absurd (omega arith)
  sum_less w f (suc m) c each lt one low = elim (less_or_last c m lt) [
    | inl less ↦
        through N L
        (plus-at_most N L (total_below N m (λ s. times N (w s) (f s))) (f c) (times N (w m) (f m)) N.zero
        (sum_less w f m c (λ s h. each s (omega arith)) less one low) (term_low (w m) (f m) (each m (omega arith))))
        (L.neutral (f c)).0
    | inr last ↦
        through N L
        (plus-at_most N L (total_below N m (λ s. times N (w s) (f s))) N.zero (times N (w m) (f m)) (f c)
        (sum_low w f m (λ s h. each s (omega arith))) (rw (sym last) (times_less (w c) (f c) one low)))
        (neutral_left N L (f c)).0
  ]

  -- balanced weights add nothing where all together get nothing
  module _ (n : ℕ) (v : ℕ → C) (test : ℕ → Bool) (b : IsBalancedTest n test) where
    abbrev row : ℕ → ℕ → ℤ
    row s = of_members (pos 0) s

    rows_added : (m : ℕ)
        → Equal N (total_below N m (λ s. times N (b.weights s) (combined N n v (row s))))
        (combined N n v (λ j. sum_below m (λ s. b.weights s *ℤ row s j)))
    rows_added zero = back N L (combined-none N L n v)
    rows_added (suc m) =
        chain N L
        (plus-equal N L (rows_added m) (combined-times N L n v (b.weights m) (row m)))
        (back N L
        (combined-plus N L n v (λ j. sum_below m (λ s. b.weights s *ℤ row s j)) (λ j. b.weights m *ℤ row m j)))

    unit_none : (m : ℕ) → sum_below m (λ s. b.weights s *ℤ pos 0) ≡ pos 0
    unit_none zero = refl
    unit_none (suc m) = omega (products, unit_none m)

    negated : (i m : ℕ)
        → sum_below m (λ s. b.weights s *ℤ cond (has_player s i) (pos 0 -ℤ pos 1) (pos 0))
        ≡ pos 0 -ℤ sum_below m (λ s. b.weights s *ℤ cond (has_player s i) (pos 1) (pos 0))
    negated i zero = refl
    negated i (suc m) = omega (arith, linear, negated i m, term (has_player m i) (b.weights m))
      where
        term : (c : Bool) (z : ℤ)
            → z *ℤ cond c (pos 0 -ℤ pos 1) (pos 0) ≡ pos 0 -ℤ z *ℤ cond c (pos 1) (pos 0)
        term true z = omega (arith, linear, mul-subℤ z (pos 0) (pos 1), mul-zeroℤ z, mul-oneℤ z)
        term false z = omega products

    pub balanced_sum : Equal N (total_over N n v (grand_coalition n)) N.zero
        → Equal N (total_below N (2 ^ n) (λ s. times N (b.weights s) (N.minus (total_over N n v s)))) N.zero
    balanced_sum none =
        let all = row (grand_coalition n) in
        let minus_of = λ (s : ℕ). chain N L (back N L (neutral_left N L (N.minus (total_over N n v s))))
        (back N L (combined-members N L n v (pos 0) s)) in
        chain N L
        (total_below-equal N L (2 ^ n) (λ s. times N (b.weights s) (N.minus (total_over N n v s)))
        (λ s. times N (b.weights s) (combined N n v (row s))) (λ s lt. times-equal N L (b.weights s) (minus_of s)))
        (chain N L (rows_added (2 ^ n))
        (chain N L
        (combined-same N L n v (λ j. sum_below (2 ^ n) (λ s. b.weights s *ℤ row s j)) (λ j. b.total *ℤ all j)
        (unit_none (2 ^ n) ∙ sym (mul-zeroℤ b.total)) (λ i lt. entry i lt))
        (chain N L (back N L (combined-times N L n v b.total all))
        (chain N L
        (times-equal N L b.total
        (chain N L (back N L (minus_of (grand_coalition n))) (chain N L (minus-equal N L none) (minus-zero N L))))
        (times-zero N L b.total)))))
      where
        entry : (i : ℕ) → i < n
            → sum_below (2 ^ n) (λ s. b.weights s *ℤ of_members (pos 0) s (suc i))
            ≡ b.total *ℤ of_members (pos 0) (grand_coalition n) (suc i)
        entry i lt =
            negated i (2 ^ n) ∙ omega (
              arith,
              linear,
              b.balance i lt,
              ap (λ (c : Bool). b.total *ℤ cond c (pos 0 -ℤ pos 1) (pos 0)) (has_player-grand_coalition n i lt),
              mul-subℤ b.total (pos 0) (pos 1),
              mul-zeroℤ b.total,
              mul-oneℤ b.total,
            )

-- ---- beside other shares

module _ {C : Type 0} (N : Numbers C) (L : IsOrderedGroup N) (g : NumberGame C) (y z : List C)
    (hy : InFamilyIn N Preimputations g y) (hz : InFamilyIn N Preimputations g z) where
  abbrev n : ℕ
  n = g.players

  abbrev e : ℕ → C
  e s = excess_in N g y s

  -- what player i gets more
  abbrev v : ℕ → C
  v i = N.plus (number_of N z i) (N.minus (number_of N y i))

  -- and the members of s
  abbrev d : ℕ → C
  d s = total_over N n v s

  more_is : (s : ℕ) → Equal N (d s) (N.plus (amount_of N z s) (N.minus (amount_of N y s)))
  more_is s =
      let a : ℕ → C = λ i. cond (has_player s i) (number_of N z i) N.zero in
      let b : ℕ → C = λ i. cond (has_player s i) (number_of N y i) N.zero in
      chain N L
      (total_below-equal N L n (λ i. cond (has_player s i) (v i) N.zero) (λ i. N.plus (a i) (N.minus (b i)))
      (λ i lt. by_test (has_player s i) i))
      (chain N L (total_below-plus N L n a (λ i. N.minus (b i)))
      (plus-equal N L (back N L (amount_at N L g z s hz.0))
      (chain N L (total_below-minus N L n b) (minus-equal N L (back N L (amount_at N L g y s hy.0))))))
    where
      by_test : (c : Bool) (i : ℕ)
          → Equal N (cond c (v i) N.zero)
          (N.plus (cond c (number_of N z i) N.zero) (N.minus (cond c (number_of N y i) N.zero)))
      by_test true i = equal-same N L (v i)
      by_test false i = back N L (chain N L (neutral_left N L (N.minus N.zero)) (minus-zero N L))

  excess_is : (s : ℕ) → Equal N (excess_in N g z s) (N.plus (e s) (N.minus (d s)))
  excess_is s =
      chain N L
      (right N L (g.worth s)
      (minus-equal N L (back N L
      (chain N L (right N L (amount_of N y s) (more_is s)) (forth N L (amount_of N y s) (amount_of N z s))))))
      (less_more N L (g.worth s) (amount_of N y s) (d s))

  all_none : Equal N (d (grand_coalition n)) N.zero
  all_none =
      let s = grand_coalition n in
      chain N L (more_is s)
      (difference-zero N L (amount_of N y s) (amount_of N z s) (chain N L hy.1 (back N L hz.1)))

  abbrev is_none : ℕ → Bool
  is_none s = N.at_most (d s) N.zero && N.at_most N.zero (d s)

  from_none : (s : ℕ) → is_none s ≡ true → Equal N (d s) N.zero
  from_none s h = and_parts (N.at_most (d s) N.zero) (N.at_most N.zero (d s)) h

  to_none : (s : ℕ) → Equal N (d s) N.zero → is_none s ≡ true
  to_none s h = and_both (N.at_most (d s) N.zero) (N.at_most N.zero (d s)) h.0 h.1

  abbrev moves : ℕ → Bool
  moves s = is_proper n s && not (is_none s)

  none_moves : ((s : ℕ) → s < 2 ^ n → moves s ≡ false) → HaveSameIn N g y z
  none_moves none i lt =
      let gone =
      chain N L (back N L (alone_gets N L v i n lt)) (still (singleton i) (singleton-within n i lt) refl) in
      back N L (from_difference N L (number_of N z i) (number_of N y i) gone)
    where
      still : (s : ℕ) → s < 2 ^ n → s ≡ singleton i → Equal N (d s) N.zero
      still s within is = elim (same_or_other s (grand_coalition n)) [
        | inl all ↦ chain N L (equal_path N L (d s) (d (grand_coalition n)) (ap d all)) all_none
        | inr other ↦ elim (true_or_false (is_none s)) [
          | inl here ↦ from_none s here
          | inr more ↦
              let some : 0 < s = (let p = pow_pos i in omega (arith, p, is)) in
              let all = grand_coalition-within n in
              absurd
              (false≢true
              (sym (none s within)
              ∙ and_both (is_proper n s) (not (is_none s)) (to_proper n s some (omega (arith, within, other, all)))
              (ap not more)))
        ]
      ]

  -- where no coalition of the level of c gets less, all get more
  module _ (c : ℕ) (within : c < 2 ^ n) (proper : is_proper n c ≡ true) (b : IsBalancedTest n (is_level N g y c))
    where
      level_here : is_level N g y c c ≡ true
      level_here =
          let both = and_parts (not (nat_eq c 0)) (not (nat_eq c (grand_coalition n))) proper in
          and_both (not (nat_eq c 0)) (not (nat_eq c (grand_coalition n)) && N.at_most (e c) (e c)) both.0
          (and_both (not (nat_eq c (grand_coalition n))) (N.at_most (e c) (e c)) both.1 (at_most-same N L (e c)))

      none_less : ((s : ℕ) → s < 2 ^ n → is_level N g y c s ≡ true → AtMost N N.zero (d s)) → Equal N (d c) N.zero
      none_less each =
          let w = b.weights in
          let f = λ (s : ℕ). N.minus (d s) in
          let low = λ (s : ℕ) (lt : s < 2 ^ n) (h : is_level N g y c s ≡ true). turned (d s) (each s lt h) in
          let sum = sum_less N L w f (2 ^ n) c (λ s lt. elim (true_or_false (is_level N g y c s)) [
            | inl h ↦ inr (b.some s lt h, low s lt h)
            | inr h ↦ inl (b.none s lt h)
          ]) within (b.some c within level_here) (low c within level_here) in
          let none = balanced_sum N L n v (is_level N g y c) b all_none in
          let up = L.transitive N.zero (total_below N (2 ^ n) (λ s. times N (w s) (f s))) (f c) none.1 sum in
          (turned_back (d c) up, each c within level_here)
        where
          turned : (a : C) → AtMost N N.zero a → AtMost N (N.minus a) N.zero
          turned a le = through N L (minus-at_most N L N.zero a le) (minus-zero N L).0

          turned_back : (a : C) → AtMost N N.zero (N.minus a) → AtMost N a N.zero
          turned_back a le =
              through N L (through N L (L.neutral a).1
              (plus-at_most N L a a N.zero (N.minus a) (at_most-same N L a) le)) (L.inverse a).0

  -- the level of c, which moves, has a coalition that gets less
  abbrev loses : ℕ → ℕ → Bool
  loses c s = is_level N g y c s && not (N.at_most N.zero (d s))

  pub comes_first : ((t : ℕ) → 0 < t → t < grand_coalition n → IsBalancedTest n (is_level N g y t))
      → (¬ HaveSameIn N g y z)
      → ComesBeforeBy N (sorted_by N (excess_list_in N g y)) (sorted_by N (excess_list_in N g z))
  comes_first levels differs = elim (greatest_among N L moves e (2 ^ n)) [
    | inl none ↦ absurd (differs (none_moves none))
    | inr top ↦
        let c = top.0 in
        let both = and_parts (is_proper n c) (not (is_none c)) top.2 in
        let bounds = from_proper n c top.1 both.0 in
        let b = levels c bounds.0 bounds.1 in
        elim (greatest_among N L (loses c) e (2 ^ n)) [
          | inl none ↦ absurd
              (false≢true
              (sym (from_not (is_none c) both.1)
              ∙ to_none c
              (none_less c top.1 both.0 b (λ s lt h. elim (true_or_false (N.at_most N.zero (d s))) [
                | inl up ↦ up
                | inr down ↦ absurd
                    (false≢true
                    (sym (none s lt)
                    ∙ and_both (is_level N g y c s) (not (N.at_most N.zero (d s))) h (ap not down)))
              ]))))
          | inr found ↦
              let t = found.0 in
              let parts = and_parts (is_level N g y c t) (not (N.at_most N.zero (d t))) found.2 in
              let first =
              and_parts (not (nat_eq t 0)) (not (nat_eq t (grand_coalition n)) && N.at_most (e c) (e t)) parts.0 in
              let second = and_parts (not (nat_eq t (grand_coalition n))) (N.at_most (e c) (e t)) first.1 in
              let range = from_proper n t found.1
              (and_both (not (nat_eq t 0)) (not (nat_eq t (grand_coalition n))) first.0 second.0) in
              before-from N L n e (excess_in N g z) t (omega (arith, range.0)) (omega (arith, range.0, range.1))
              (λ s one past. elim (true_or_false (is_none s)) [
                | inl still ↦ inl (back N L (chain N L (excess_is s)
                    (chain N L (right N L (e s) (chain N L (minus-equal N L (from_none s still)) (minus-zero N L)))
                    (L.neutral (e s)))))
                | inr moved ↦ inr
                    (L.transitive (e s) (e c) (e t)
                    (top.3 s (omega (arith, one, past))
                    (and_both (is_proper n s) (not (is_none s)) (to_proper n s one (omega (arith, one, past)))
                    (ap not moved)))
                    second.1)
              ])
              (λ le. false≢true (sym (from_not (N.at_most N.zero (d t)) parts.1) ∙ gains t le))
        ]
  ]
    where
      -- what doesn't rise gets no less
      gains : (t : ℕ) → AtMost N (excess_in N g z t) (e t) → AtMost N N.zero (d t)
      gains t le =
          let low = added-low N L (e t) (N.minus (d t)) (through N L (excess_is t).1 le) in
          through N L (L.inverse (d t)).1
          (through N L (plus-at_most N L (d t) (d t) (N.minus (d t)) N.zero (at_most-same N L (d t)) low)
          (L.neutral (d t)).0)
