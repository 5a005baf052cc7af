-- Fractions over a common denominator, by their numerators, are a linearly ordered abelian group, and the nucleolus
-- over these groups is that of Games.antt.
use Rattle.std.proofs.Common.{◌≡◌, ◌⊎◌, ◌↔◌, ℕ, zero, suc, ◌/◌, Bool, false, cond, List, [], ◌∷◌, length, ℤ, pos, ◌+ℤ◌}
use Rattle.std.proofs.Common.{◌-ℤ◌, ◌*ℤ◌, ◌≤ℤ◌, ◌<ℤ◌, int_lt, int_le, refl, sym, ap, subst, ◌∙◌, inl, inr, arith}
use Rattle.std.proofs.Common.{IsTrue, if◌then◌else◌}
use Rattle.std.proofs.lemmas.Int.{ints, by_lt_z}
use lib.IntN.{*ℤ_comm}
use Rattle.definitions.proofs.Ring.{linear, zero-mulℤ, suc-mulℤ, negsuc-mulℤ}
use Rattle.definitions.proofs.Cases.{true_or_false}
use Rattle.definitions.proofs.Alls.{map_same}
use Rattle.definitions.specs.Sums.{sum_below}
use Rattle.definitions.specs.Order.{with_number, sorted, IsLesser, ComesBefore}
use Rattle.definitions.specs.Coalitions.{has_player, singleton, grand_coalition, proper_coalitions, size}
use Rattle.definitions.specs.Games.{Game, Allocation, share, amount, excess, measured_excess, excess_list, Beats}
use Rattle.definitions.specs.Games.{IsSame, IsEfficient, IsIndividuallyRational, InFamily, IsNucleolus}
use Rattle.definitions.specs.declared.Family.{Family}
use Rattle.definitions.specs.declared.Family.TheVariants.{Imputations, Preimputations}
use Rattle.definitions.specs.declared.Measure.{Measure}
use Rattle.definitions.specs.declared.Measure.TheVariants.{Plain, PerHead}
use Rattle.real_shares.specs.Numbers.{Numbers, IsOrderedGroup, multiple, times, total_below, placed, sorted_by}
use Rattle.real_shares.specs.Numbers.{IsLesserBy}
use Rattle.real_shares.specs.Shares.{number_of, amount_of, excess_of, measured_of, InFamilyOver, IsEfficientOver}
use Rattle.real_shares.specs.Shares.{IsIndividuallyRationalOver, fraction_list, number_list, BeatsOver, IsSameOver}
use Rattle.real_shares.specs.Shares.{IsNucleolusOver}
use Rattle.real_shares.specs.Theorems.{fractions_over}

-- ---- the order

pub to_le : (a b : ℤ) → IsTrue (int_le a b) → a ≤ℤ b
to_le a b h = omega (arith, ints)

pub from_le : (a b : ℤ) → a ≤ℤ b → IsTrue (int_le a b)
from_le a b h = elim (true_or_false (int_le a b)) [ inl e ↦ e | inr e ↦ absurd (omega (arith, ints)) ]

pub to_same : (a b : ℤ) → IsTrue (int_le a b) × IsTrue (int_le b a) → a ≡ b
to_same a b h = let u = to_le a b h.0 in let v = to_le b a h.1 in omega (arith, linear, u, v)

pub from_same : (a b : ℤ) → a ≡ b → IsTrue (int_le a b) × IsTrue (int_le b a)
from_same a b e = (from_le a b (omega (arith, linear, e)), from_le b a (omega (arith, linear, e)))

pub to_lt : (a b : ℤ) → (¬ IsTrue (int_le b a)) → a <ℤ b
to_lt a b h = by_lt_z a b (λ lt. lt) (λ le. absurd (h (from_le b a le)))

pub from_lt : (a b : ℤ) → a <ℤ b → ¬ IsTrue (int_le b a)
from_lt a b h k = let u = to_le b a k in omega (arith, linear, u)

pub fractions_ordered : (q : ℤ) → pos 1 ≤ℤ q → IsOrderedGroup (fractions_over q)
fractions_ordered q one = record {
  linear = λ a b. by_lt_z a b (λ lt. inl (from_le a b (omega (arith, linear)))) (λ le. inr (from_le b a le));
  transitive = λ a b c h k. let u = to_le a b h in let v = to_le b c k in from_le a c (omega (arith, linear, u, v));
  shifts = λ a b c h. let u = to_le a b h in from_le (a +ℤ c) (b +ℤ c) (omega (arith, linear, u));
  commutes = λ a b. from_same (a +ℤ b) (b +ℤ a) (omega (arith, linear));
  associates = λ a b c. from_same (a +ℤ b +ℤ c) (a +ℤ (b +ℤ c)) (omega (arith, linear));
  neutral = λ a. from_same (a +ℤ pos 0) a (omega (arith, linear));
  inverse = λ a. from_same (a +ℤ (pos 0 -ℤ a)) (pos 0) (omega (arith, linear));
  positive = λ h. let u = to_le q (pos 0) h in omega (arith, linear, u);
}

module _ (q : ℤ) where
  abbrev N : Numbers ℤ
  N = fractions_over q

  -- ---- multiples and sums

  multiple-is : (k : ℕ) (a : ℤ) → multiple N k a ≡ pos k *ℤ a
  multiple-is zero a = sym (zero-mulℤ a)
  multiple-is (suc k) a = ap (λ z. z +ℤ a) (multiple-is k a) ∙ sym (suc-mulℤ k a)

  times-is : (z a : ℤ) → times N z a ≡ z *ℤ a
  times-is z a = grind (arith, multiple-is, negsuc-mulℤ)

  total_below-is : (n : ℕ) (f : ℕ → ℤ) → total_below N n f ≡ sum_below n f
  total_below-is zero f = refl
  total_below-is (suc n) f = ap (λ z. z +ℤ f n) (total_below-is n f)

  amount-is : (ys : List ℤ) (s : ℕ) → amount_of N ys s ≡ amount (record { shares = ys; den = q }) s
  amount-is ys s = total_below-is (length ys) (λ i. if has_player s i then number_of N ys i else pos 0)

  excess-is : (g : Game) (ys : List ℤ) (s : ℕ) → excess_of N g ys s ≡ excess g (record { shares = ys; den = q }) s
  excess-is g ys s = omega (arith, linear, times-is (g.worth s) q, amount-is ys s, *ℤ_comm (g.worth s) q)

  measured-is : (measure : Measure) (g : Game) (ys : List ℤ) (s : ℕ)
      → measured_of N measure s (excess_of N g ys s) ≡ measured_excess measure g (record { shares = ys; den = q }) s
  measured-is Plain g ys s = excess-is g ys s
  measured-is PerHead g ys s =
      times-is (pos (720720 / size s)) (excess_of N g ys s)
      ∙ ap (◌*ℤ◌ (pos (720720 / size s))) (excess-is g ys s)

  -- ---- lists

  fraction_list-is : (measure : Measure) (g : Game) (x : Allocation)
      → fraction_list N measure g x ≡ excess_list measure g x q
  fraction_list-is measure g x =
      map_same (λ s. times N (measured_excess measure g x s) q) (λ s. q *ℤ measured_excess measure g x s)
      (proper_coalitions g.players)
      (λ s. times-is (measured_excess measure g x s) q ∙ *ℤ_comm (measured_excess measure g x s) q)

  number_list-is : (measure : Measure) (g : Game) (ys : List ℤ) (r : ℤ)
      → number_list N measure g ys r ≡ excess_list measure g (record { shares = ys; den = q }) r
  number_list-is measure g ys r =
      map_same (λ s. times N r (measured_of N measure s (excess_of N g ys s)))
      (λ s. r *ℤ measured_excess measure g (record { shares = ys; den = q }) s) (proper_coalitions g.players)
      (λ s. times-is r (measured_of N measure s (excess_of N g ys s))
      ∙ ap (◌*ℤ◌ r) (measured-is measure g ys s))

  placed-is : (a : ℤ) (l : List ℤ) → placed N a l ≡ with_number a l
  placed-is a [] = refl
  placed-is a (b ∷ l) = choice (int_le a b) (int_lt b a) (opposite a b) (placed-is a l)
    where
      opposite : (a b : ℤ)
          → (IsTrue (int_le a b) × (int_lt b a ≡ false)) ⊎ ((int_le a b ≡ false) × IsTrue (int_lt b a))
      opposite a b = elim (true_or_false (int_le a b)) [
        | inl e ↦ elim (true_or_false (int_lt b a)) [ inl f ↦ absurd (omega (arith, ints)) | inr f ↦ inl (e, f) ]
        | inr e ↦ elim (true_or_false (int_lt b a)) [ inl f ↦ inr (e, f) | inr f ↦ absurd (omega (arith, ints)) ]
      ]

      choice : (t u : Bool) → (IsTrue t × (u ≡ false)) ⊎ ((t ≡ false) × IsTrue u) → {p k : List ℤ} → p ≡ k
          → cond t (b ∷ p) (a ∷ (b ∷ l)) ≡ cond u (a ∷ (b ∷ l)) (b ∷ k)
      choice t u h e = grind arith

  pub sorted-is : (l : List ℤ) → sorted_by N l ≡ sorted l
  sorted-is [] = refl
  sorted-is (a ∷ l) = ap (placed N a) (sorted-is l) ∙ placed-is a (sorted l)

  pub to_lesser : (l k : List ℤ) → IsLesserBy N l k → IsLesser l k
  to_lesser [] k h = absurd h
  to_lesser (a ∷ l) [] h = absurd h
  to_lesser (a ∷ l) (b ∷ k) (inl h) = inl (to_lt a b h)
  to_lesser (a ∷ l) (b ∷ k) (inr h) = inr (to_same a b h.0, to_lesser l k h.1)

  from_lesser : (l k : List ℤ) → IsLesser l k → IsLesserBy N l k
  from_lesser [] k h = absurd h
  from_lesser (a ∷ l) [] h = absurd h
  from_lesser (a ∷ l) (b ∷ k) (inl h) = inl (from_lt a b h)
  from_lesser (a ∷ l) (b ∷ k) (inr h) = inr (from_same a b h.0, from_lesser l k h.1)

  to_beats : (measure : Measure) (g : Game) (x : Allocation) (ys : List ℤ) → BeatsOver N measure g x ys
      → Beats measure g x (record { shares = ys; den = q })
  to_beats measure g x ys h =
      let y : Allocation = record { shares = ys; den = q } in
      let a = sorted-is (fraction_list N measure g x) ∙ ap sorted (fraction_list-is measure g x) in
      let b = sorted-is (number_list N measure g ys x.den) ∙ ap sorted (number_list-is measure g ys x.den) in
      let before : ComesBefore (sorted_by N (fraction_list N measure g x))
      (sorted_by N (number_list N measure g ys x.den)) = (
        h.0,
        to_lesser (sorted_by N (fraction_list N measure g x)) (sorted_by N (number_list N measure g ys x.den))
            h.1,
      ) in
      subst (λ l. ComesBefore l (sorted (excess_list measure g y x.den))) a
      (subst (λ l. ComesBefore (sorted_by N (fraction_list N measure g x)) l) b before)

  from_beats : (measure : Measure) (g : Game) (x : Allocation) (ys : List ℤ)
      → Beats measure g x (record { shares = ys; den = q }) → BeatsOver N measure g x ys
  from_beats measure g x ys h =
      let y : Allocation = record { shares = ys; den = q } in
      let a = sorted-is (fraction_list N measure g x) ∙ ap sorted (fraction_list-is measure g x) in
      let b = sorted-is (number_list N measure g ys x.den) ∙ ap sorted (number_list-is measure g ys x.den) in
      let before = subst (λ l. ComesBefore l (sorted_by N (number_list N measure g ys x.den))) (sym a)
      (subst (λ l. ComesBefore (sorted (excess_list measure g x q)) l) (sym b) h) in (
        before.0,
        from_lesser (sorted_by N (fraction_list N measure g x)) (sorted_by N (number_list N measure g ys x.den))
            before.1,
      )

  -- ---- members and shares

  to_efficient : (g : Game) (ys : List ℤ) → IsEfficientOver N g ys → IsEfficient g (record { shares = ys; den = q })
  to_efficient g ys h =
      let s = grand_coalition g.players in
      let e = to_same (amount_of N ys s) (times N (g.worth s) q) h in
      sym (amount-is ys s) ∙ e ∙ times-is (g.worth s) q ∙ *ℤ_comm (g.worth s) q

  from_efficient : (g : Game) (ys : List ℤ) → IsEfficient g (record { shares = ys; den = q })
      → IsEfficientOver N g ys
  from_efficient g ys e =
      let s = grand_coalition g.players in
      from_same (amount_of N ys s) (times N (g.worth s) q)
      (amount-is ys s ∙ e ∙ *ℤ_comm q (g.worth s) ∙ sym (times-is (g.worth s) q))

  to_individual : (g : Game) (ys : List ℤ) → IsIndividuallyRationalOver N g ys
      → IsIndividuallyRational g (record { shares = ys; den = q })
  to_individual g ys h i lt =
      let u = to_le (times N (g.worth (singleton i)) q) (number_of N ys i) (h i lt) in
      omega (arith, linear, u, times-is (g.worth (singleton i)) q, *ℤ_comm (g.worth (singleton i)) q)

  from_individual : (g : Game) (ys : List ℤ) → IsIndividuallyRational g (record { shares = ys; den = q })
      → IsIndividuallyRationalOver N g ys
  from_individual g ys h i lt =
      from_le (times N (g.worth (singleton i)) q) (number_of N ys i)
      (omega (arith, linear, h i lt, times-is (g.worth (singleton i)) q, *ℤ_comm (g.worth (singleton i)) q))

  to_family : (family : Family) (g : Game) (ys : List ℤ) → pos 1 ≤ℤ q → InFamilyOver N family g ys
      → InFamily family g (record { shares = ys; den = q })
  to_family Imputations g ys one h = ((h.0, one), to_efficient g ys h.1, to_individual g ys h.2)
  to_family Preimputations g ys one h = ((h.0, one), to_efficient g ys h.1)

  from_family : (family : Family) (g : Game) (ys : List ℤ) → InFamily family g (record { shares = ys; den = q })
      → InFamilyOver N family g ys
  from_family Imputations g ys h = (h.0.0, from_efficient g ys h.1, from_individual g ys h.2)
  from_family Preimputations g ys h = (h.0.0, from_efficient g ys h.1)

  to_shares : (g : Game) (x : Allocation) (ys : List ℤ) → IsSameOver N g x ys
      → IsSame g x (record { shares = ys; den = q })
  to_shares g x ys h i lt =
      let e = to_same (times N (share x i) q) (times N x.den (number_of N ys i)) (h i lt) in
      sym (times-is (share x i) q) ∙ e ∙ times-is x.den (number_of N ys i) ∙ *ℤ_comm x.den (number_of N ys i)

  from_shares : (g : Game) (x : Allocation) (ys : List ℤ) → IsSame g x (record { shares = ys; den = q })
      → IsSameOver N g x ys
  from_shares g x ys h i lt =
      from_same (times N (share x i) q) (times N x.den (number_of N ys i))
      (times-is (share x i) q ∙ h i lt ∙ *ℤ_comm (number_of N ys i) x.den
      ∙ sym (times-is x.den (number_of N ys i)))

pub fraction_shares : (family : Family) (measure : Measure) (g : Game) (x : Allocation)
    → IsNucleolus family measure g x
    ↔ ((q : ℤ) → pos 1 ≤ℤ q → IsNucleolusOver (fractions_over q) family measure g x)
fraction_shares family measure g x = (
  λ h q one. (
    h.0,
    λ ys member differs. from_beats q measure g x ys
        (h.1 (record { shares = ys; den = q }) (to_family q family g ys one member)
        (λ same. differs (from_shares q g x ys same))),
  ),
  λ h. (
    (h (pos 1) (omega (arith, linear))).0,
    λ y member differs.
        to_beats y.den measure g x y.shares
        ((h y.den (den_of family y member)).1 y.shares (from_family y.den family g y.shares member)
        (λ same. differs (to_shares y.den g x y.shares same))),
  ),
)
  where
    den_of : (family : Family) (y : Allocation) → InFamily family g y → pos 1 ≤ℤ y.den
    den_of Imputations y h = h.0.1
    den_of Preimputations y h = h.0.1
