-- An order that begins with the members of a coalition and two players outside, and what a player adds in it.
use Rattle.std.proofs.Common.{◌≡◌, ◌≢◌, ℕ, zero, suc, ◌+◌, ◌^◌, ◌<◌, Bool, true, false, not, cond, nat_eq, nat_lt}
use Rattle.std.proofs.Common.{List, [], ◌∷◌, ◌++◌, ℤ, pos, ◌+ℤ◌, ◌-ℤ◌, refl, sym, ap, ◌∙◌, inl, inr, arith}
use Rattle.std.proofs.Common.{length-append}
use Rattle.std.specs.List.{AllByRecursion}
use Rattle.std.proofs.lemmas.Bool.{false≢true}
use Rattle.std.proofs.lemmas.Bool.Decides.{nat_tests}
use Rattle.definitions.proofs.Alls.{all_join, all_weaken}
use Rattle.definitions.proofs.Cases.{true_or_false, nat_eq-other, nat_lt-less, nat_lt-past, from_nat_eq, from_not}
use Rattle.definitions.proofs.Cases.{not_true}
use Rattle.definitions.proofs.Halves.{size_below, size_below-zero, size_below-yes, size_below-no, size_below-more}
use Rattle.definitions.proofs.Members.{members-zero, members-more_yes, members-more_no}
use Rattle.definitions.proofs.Parts.{has_player-more_same, has_player-more_other}
use Rattle.definitions.proofs.Ring.{linear}
use Rattle.definitions.specs.Coalitions.{has_player, members}
use Rattle.definitions.specs.Shapley.{AllDiffer, IsOrder}
use Rattle.convexity.proofs.AlongOrders.{along}
use Rattle.law_answers.proofs.RenumberedCoalitions.{coalition_where-has, coalition_where-within, same_below}
use Rattle.law_answers.specs.Renumbering.{coalition_where}

-- ---- lists of members

members-yes : (n s : ℕ) → has_player s n ≡ true → members (suc n) s ≡ members n s ++ n ∷ []
members-yes n s h = let next : suc n ≡ n + 1 = omega arith in rw next (members-more_yes n s h)

members-no : (n s : ℕ) → has_player s n ≡ false → members (suc n) s ≡ members n s
members-no n s h = let next : suc n ≡ n + 1 = omega arith in rw next (members-more_no n s h)

all_members : (P : ℕ → Type 0) (n s : ℕ) → ((k : ℕ) → k < n → has_player s k ≡ true → P k)
    → AllByRecursion P (members n s)
all_members P zero s h = rw (members-zero s) tt
all_members P (suc n) s h = elim (true_or_false (has_player s n)) [
  | inl has ↦ rw (members-yes n s has)
      (all_join P (members n s) (n ∷ []) (all_members P n s (λ k lt. h k (omega (arith, lt))))
      (h n (omega arith) has, tt))
  | inr lacks ↦ rw (members-no n s lacks) (all_members P n s (λ k lt. h k (omega (arith, lt))))
]

-- lists that a test tells apart
all_differ : (test : ℕ → Bool) (xs ys : List ℕ) → AllByRecursion (λ k. test k ≡ true) xs
    → AllByRecursion (λ k. test k ≡ false) ys → AllDiffer xs → AllDiffer ys → AllDiffer (xs ++ ys)
all_differ test [] ys h k dx dy = dy
all_differ test (x ∷ xs) ys h k dx dy = (
  all_join (λ y. nat_eq x y ≡ false) xs ys dx.0
      (all_weaken (λ y. test y ≡ false) (λ y. nat_eq x y ≡ false) ys
      (λ y out. nat_eq-other x y (λ same. false≢true (sym out ∙ ap test (sym same) ∙ h.0))) k),
  all_differ test xs ys h.1 k dx.1 dy,
)

members-differ : (n s : ℕ) → AllDiffer (members n s)
members-differ zero s = rw (members-zero s) tt
members-differ (suc n) s = elim (true_or_false (has_player s n)) [
  | inl has ↦ rw (members-yes n s has)
      (all_differ (λ k. nat_lt k n) (members n s) (n ∷ [])
      (all_members (λ k. nat_lt k n ≡ true) n s (λ k lt inside. nat_lt-less k n lt))
      (nat_lt-past n n (omega arith), tt) (members-differ n s) (tt, tt))
  | inr lacks ↦ rw (members-no n s lacks) (members-differ n s)
]

-- two coalitions that have each player once have all together
sizes_add : (n s t : ℕ) → ((i : ℕ) → i < n → has_player t i ≡ not (has_player s i))
    → size_below n s + size_below n t ≡ n
sizes_add zero s t h = omega (arith, size_below-zero s, size_below-zero t)
sizes_add (suc n) s t h =
    let ih = sizes_add n s t (λ i lt. h i (omega (arith, lt))) in
    elim (true_or_false (has_player s n)) [
      | inl has ↦ omega
          (arith, ih, size_below-yes n s has, size_below-no n t (h n (omega arith) ∙ ap not has))
      | inr lacks ↦ omega
          (arith, ih, size_below-no n s lacks, size_below-yes n t (h n (omega arith) ∙ ap not lacks))
    ]

-- ---- what joins along a list

-- who stands in front, once all of the list have joined
abbrev pub after : ℕ → List ℕ → ℕ
after front [] = front
after front (p ∷ ps) = after (front + 2 ^ p) ps

after-append : (front : ℕ) (ps qs : List ℕ) → after front (ps ++ qs) ≡ after (after front ps) qs
after-append front [] qs = refl
after-append front (p ∷ ps) qs = after-append (front + 2 ^ p) ps qs

after-members : (n s : ℕ) → after 0 (members n s) ≡ coalition_where n (has_player s)
after-members zero s = rw (members-zero s) refl
after-members (suc n) s = by_tests (has_player s n) refl (after-members n s)
  where
    by_tests : (b : Bool) → has_player s n ≡ b → after 0 (members n s) ≡ coalition_where n (has_player s)
        → after 0 (members (suc n) s)
        ≡ cond b (coalition_where n (has_player s) + 2 ^ n) (coalition_where n (has_player s))
    by_tests true has ih =
        rw (members-yes n s has) (after-append 0 (members n s) (n ∷ []) ∙ ap (λ (k : ℕ). k + 2 ^ n) ih)
    by_tests false lacks ih = rw (members-no n s lacks) ih

-- members of t add what they are worth more than those in front
along-members : (v : ℕ → ℤ) (t front : ℕ) (ps qs : List ℕ) → AllByRecursion (λ p. has_player t p ≡ true) ps
    → along v t front (ps ++ qs) ≡ (v (after front ps) -ℤ v front) +ℤ along v t (after front ps) qs
along-members v t front [] qs h = omega (arith, linear)
along-members v t front (p ∷ ps) qs h =
    let ih = along-members v t (front + 2 ^ p) ps qs h.1 in
    rw h.0 (omega (arith, linear, ih))

-- and others add nothing to them
along-others : (v : ℕ → ℤ) (t front : ℕ) (ps : List ℕ) → AllByRecursion (λ p. has_player t p ≡ false) ps
    → along v t front ps ≡ pos 0
along-others v t front [] h = refl
along-others v t front (p ∷ ps) h =
    let ih = along-others v t (front + 2 ^ p) ps h.1 in
    rw h.0 (omega (arith, linear, ih))

-- ---- the order

module _ (n s i j : ℕ) (within : s < 2 ^ n) (hi : i < n) (hj : j < n) (ne : i ≢ j) (out : has_player s i ≡ false)
    (other : has_player s j ≡ false) where
  abbrev both : ℕ
  both = s + 2 ^ i + 2 ^ j

  -- those who come last
  abbrev last : ℕ
  last = coalition_where n (λ k. not (has_player both k))

  lacks_j : has_player (s + 2 ^ i) j ≡ false
  lacks_j = has_player-more_other s i j out (λ e. ne (sym e)) ∙ other

  has_i : has_player both i ≡ true
  has_i = has_player-more_other (s + 2 ^ i) j i lacks_j ne ∙ has_player-more_same s i out

  has_j : has_player both j ≡ true
  has_j = has_player-more_same (s + 2 ^ i) j lacks_j

  has_member : (k : ℕ) → has_player s k ≡ true → has_player both k ≡ true
  has_member k inside =
      has_player-more_other (s + 2 ^ i) j k lacks_j (λ e. false≢true (sym other ∙ ap (has_player s) (sym e) ∙ inside))
      ∙ has_player-more_other s i k out (λ e. false≢true (sym out ∙ ap (has_player s) (sym e) ∙ inside))
      ∙ inside

  last-has : (k : ℕ) → k < n → has_player last k ≡ not (has_player both k)
  last-has k lt = coalition_where-has n (λ k. not (has_player both k)) k lt

  outside : (k : ℕ) → k < n → has_player last k ≡ true → has_player both k ≡ false
  outside k lt inside = from_not (has_player both k) (sym (last-has k lt) ∙ inside)

  abbrev pub begins : List ℕ
  begins = members n s ++ i ∷ (j ∷ members n last)

  not_last : (p k : ℕ) → has_player both p ≡ true → k < n → has_player last k ≡ true → nat_eq p k ≡ false
  not_last p k has lt inside =
      nat_eq-other p k (λ same. false≢true (sym (outside k lt inside) ∙ ap (has_player both) (sym same) ∙ has))

  pub is_order : IsOrder n begins
  is_order = record {
    all =
        let add = sizes_add n both last last-has in
        let one = size_below-more n i s hi out in
        let two = size_below-more n j (s + 2 ^ i) hj lacks_j in
        omega (arith, add, one, two, length-append (members n s) (i ∷ (j ∷ members n last)));
    below = all_join (λ p. p < n) (members n s) (i ∷ (j ∷ members n last))
        (all_members (λ p. p < n) n s (λ k lt inside. lt))
        (hi, (hj, all_members (λ p. p < n) n last (λ k lt inside. lt)));
    once = all_differ (has_player s) (members n s) (i ∷ (j ∷ members n last))
        (all_members (λ k. has_player s k ≡ true) n s (λ k lt inside. inside)) (
          out,
          (
            other,
            all_members (λ k. has_player s k ≡ false) n last
                (λ k lt inside. not_true (has_player s k)
                (λ has. false≢true (sym (outside k lt inside) ∙ has_member k has))),
          ),
        )
        (members-differ n s) (
          (
            nat_eq-other i j ne,
            all_members (λ k. nat_eq i k ≡ false) n last (λ k lt inside. not_last i k has_i lt inside),
          ),
          (
            all_members (λ k. nat_eq j k ≡ false) n last (λ k lt inside. not_last j k has_j lt inside),
            members-differ n last,
          ),
        );
  }

  -- what s with j adds: the worth of s, and what j adds behind i
  pub adds-begins : (v : ℕ → ℤ)
      → along v (s + 2 ^ j) 0 begins ≡ (v s -ℤ v 0) +ℤ (v both -ℤ v (s + 2 ^ i))
  adds-begins v =
      let t = s + 2 ^ j in
      let first = along-members v t 0 (members n s) (i ∷ (j ∷ members n last))
      (all_members (λ p. has_player t p ≡ true) n s (λ k lt inside.
      has_player-more_other s j k other (λ e. false≢true (sym other ∙ ap (has_player s) (sym e) ∙ inside)) ∙ inside)) in
      let front : after 0 (members n s) ≡ s =
      after-members n s
      ∙ same_below n (coalition_where n (has_player s)) s (coalition_where-within n (has_player s)) within
      (λ k lt. coalition_where-has n (has_player s) k lt) in
      let lacks_i : has_player t i ≡ false = has_player-more_other s j i other ne ∙ out in
      let has : has_player t j ≡ true = has_player-more_same s j other in
      let none = along-others v t both (members n last)
      (all_members (λ p. has_player t p ≡ false) n last (λ k lt inside.
      not_true (has_player t k) (λ has. false≢true (sym (outside k lt inside) ∙ in_both k has)))) in
      rw front at first ∙ rest lacks_i has none
    where
      in_both : (k : ℕ) → has_player (s + 2 ^ j) k ≡ true → has_player both k ≡ true
      in_both k has = elim (true_or_false (has_player s k)) [
        | inl inside ↦ has_member k inside
        | inr lacks ↦ ap (has_player both) (at_j k has lacks) ∙ has_j
      ]
        where
          at_j : (k : ℕ) → has_player (s + 2 ^ j) k ≡ true → has_player s k ≡ false → k ≡ j
          at_j k has lacks = elim (true_or_false (nat_eq k j)) [
            | inl same ↦ from_nat_eq k j same
            | inr differ ↦ absurd
                (false≢true
                (sym lacks ∙ sym (has_player-more_other s j k other (λ e. false≢true (sym differ ∙ here k e))) ∙ has))
          ]
            where
              here : (k : ℕ) → k ≡ j → nat_eq k j ≡ true
              here k e = grind (arith, nat_tests)

      rest : has_player (s + 2 ^ j) i ≡ false → has_player (s + 2 ^ j) j ≡ true
          → along v (s + 2 ^ j) both (members n last) ≡ pos 0
          → (v s -ℤ v 0) +ℤ along v (s + 2 ^ j) s (i ∷ (j ∷ members n last))
          ≡ (v s -ℤ v 0) +ℤ (v both -ℤ v (s + 2 ^ i))
      rest lacks has none = rw (lacks, has) (omega (arith, linear, none))
