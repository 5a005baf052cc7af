-- The reduced game of an estate. Partners who go bring at most what they are paid: so some who stay keep at most what
-- the claims of the others who stay leave of the rest, which they keep with all who go, and nothing with none.
use Rattle.std.proofs.Common.{◌≡◌, ◌⊎◌, ℕ, ◌-◌, ◌*◌, ◌^◌, ◌<◌, List, length, map, unsigned_abs, ℤ, pos, ◌-ℤ◌, ◌*ℤ◌}
use Rattle.std.proofs.Common.{◌≤ℤ◌, slice_index, refl, sym, ap, ◌∙◌, inl, inr, arith}
use Rattle.std.specs.Int.{int_max}
use Rattle.std.specs.List.{range_with_len}
use Rattle.std.proofs.lemmas.Int.{ints, clamps}
use Rattle.std.proofs.lemmas.List.FromFn.{get_or-map-range_with_len, length-map-range_with_len}
use Rattle.definitions.proofs.Ring.{linear, mul-leℤ, mul-zeroℤ}
use Rattle.definitions.proofs.Cases.{int_max-cases}
use Rattle.definitions.proofs.Masks.{grand_coalition-within}
use Rattle.definitions.proofs.Members.{sum_over-grand_coalition, sum_below-nonnegative}
use Rattle.definitions.proofs.Parts.{sum_below-le}
use Rattle.definitions.proofs.SumsOver.{sum_over-same, sum_over-times, amount-at}
use Rattle.definitions.specs.Sums.{sum_below}
use Rattle.definitions.specs.Coalitions.{grand_coalition, sum_over}
use Rattle.definitions.specs.Games.{Allocation, share}
use Rattle.definitions.specs.Classes.{bankruptcy_worth}
use Rattle.law_answers.proofs.Numbers.{pos-unsigned_abs}
use Rattle.law_answers.specs.ClassGames.{bankruptcy_game}
use Rattle.law_answers.specs.TalmudRule.{claimed}
use Rattle.talmud.proofs.Worths.{worth-grand_coalition}
use Rattle.law_reduced_games.specs.ReducedGames.{AreSome, staying, worth_left, amount_leaving, IsReducedGame}
use Rattle.law_reduced_games.specs.EstatesLeft.{IsEstateLeft, AreAwards, EstatesAreLeft, ReducedEstate}
use Rattle.law_reduced_games.proofs.Staying.{staying_all, staying_old, old_numbers, old_within, staying_amount}
use Rattle.law_reduced_games.proofs.Leaving.{leaving, leaving_low, leaving_less, leaving_parts, nobody_leaves}
use Rattle.law_reduced_games.proofs.Leaving.{staying_others}
use Rattle.theorems.proofs.Products.{products}

module _ (m : ℕ) (who : ℕ → ℕ) (estate : ℕ) (claims : List ℕ) (x : Allocation) (a : AreSome (length claims) m who)
    (d : AreAwards estate claims x) where
  abbrev n : ℕ
  n = length claims

  abbrev claim : ℕ → ℤ
  claim i = pos (slice_index claims i)

  -- what the members of s get who go
  paid_is : (s : ℕ) → amount_leaving m who x s ≡ leaving n m who a (share x) s
  paid_is s =
      omega
      (products, amount-at (bankruptcy_game estate claims) x s d.all.0, staying_amount m who x (staying m who s))

  -- the estate is what all get
  estate_is : sum_below n (share x) ≡ x.den *ℤ pos estate
  estate_is =
      sym (sum_over-grand_coalition n (share x))
      ∙ sym (amount-at (bankruptcy_game estate claims) x (grand_coalition n) d.all.0)
      ∙ d.all.1
      ∙ ap (◌*ℤ◌ x.den) (worth-grand_coalition estate claims)

  -- and what is left is what those get who stay
  left_is : x.den *ℤ pos estate -ℤ amount_leaving m who x (grand_coalition n) ≡ sum_below m (λ k. share x (who k))
  left_is =
      omega (
        products,
        paid_is (grand_coalition n),
        estate_is,
        sum_over-grand_coalition n (share x),
        ap (sum_over m (λ k. share x (who k))) (staying_all n m who a),
        sum_over-grand_coalition m (λ k. share x (who k)),
      )

  left_low : pos 0 ≤ℤ sum_below m (λ k. share x (who k))
  left_low = sum_below-nonnegative m (λ k. share x (who k)) (λ k lt. (d.each (who k) (a.players k lt)).0)

  pub estate_left : (left : ℕ) × (left_claims : List ℕ) × IsEstateLeft m who estate claims x left left_claims
  estate_left = (
    unsigned_abs (sum_below m (λ k. share x (who k))),
    map (λ k. unsigned_abs x.den * slice_index claims (who k)) (range_with_len 0 m),
    record {
      paid = pos-unsigned_abs (sum_below m (λ k. share x (who k))) left_low ∙ sym left_is;
      players = length-map-range_with_len (λ k. unsigned_abs x.den * slice_index claims (who k)) 0 m;
      same = λ k lt.
          ap pos (get_or-map-range_with_len (λ k. unsigned_abs x.den * slice_index claims (who k)) 0 m k k 0 lt
          (omega arith))
          ∙ product x.den (slice_index claims (who k)) d.all.0.1;
    },
  )
    where
      product : (q : ℤ) (c : ℕ) → pos 1 ≤ℤ q → pos (unsigned_abs q * c) ≡ q *ℤ pos c
      product q c one =
          let parts : pos (unsigned_abs q * c) ≡ pos (unsigned_abs q) *ℤ pos c = refl in
          parts ∙ ap (λ z. z *ℤ pos c) (pos-unsigned_abs q (omega (arith, linear, one)))

  module _ (left : ℕ) (left_claims : List ℕ) (e : IsEstateLeft m who estate claims x left left_claims) where
    -- what some who stay claim of the estate that is left
    abbrev claims_of : ℕ → ℤ
    claims_of t = sum_over m (λ k. claimed claims x (who k)) t

    worth_is : (t : ℕ) → bankruptcy_worth left left_claims t
        ≡ int_max (pos 0) (pos left -ℤ claims_of (grand_coalition m - t))
    worth_is t =
        ap (λ z. int_max (pos 0) (pos left -ℤ z))
        (ap (λ c. sum_over c (λ i. pos (slice_index left_claims i)) (grand_coalition c - t)) e.players
        ∙ sum_over-same m (λ i. pos (slice_index left_claims i)) (λ k. claimed claims x (who k))
        (grand_coalition m - t) e.same)

    -- the worth of s, where u are those who stay and aren't in s
    worth_there : (s u : ℕ) → s < 2 ^ n → staying m who (grand_coalition n - s) ≡ u
        → ((x.den *ℤ bankruptcy_worth estate claims s ≡ pos 0)
        ⊎ (x.den *ℤ bankruptcy_worth estate claims s
        ≡ x.den *ℤ pos estate -ℤ leaving n m who a (claimed claims x) (grand_coalition n - s) -ℤ claims_of u))
        × (pos 0 ≤ℤ (x.den *ℤ bankruptcy_worth estate claims s))
        × ((x.den *ℤ pos estate -ℤ leaving n m who a (claimed claims x) (grand_coalition n - s) -ℤ claims_of u)
        ≤ℤ (x.den *ℤ bankruptcy_worth estate claims s))
    worth_there s u within is =
        let rest = grand_coalition n - s in
        let c = sum_over n claim rest in
        let v = bankruptcy_worth estate claims s in
        let den_low : pos 0 ≤ℤ x.den = omega (arith, linear, d.all.0.1) in
        let scaled = sum_over-times n claim x.den rest in
        let parts = ap (sum_over m (λ k. claimed claims x (who k))) is in (
          elim (int_max-cases (pos 0) (pos estate -ℤ c)) [
            | inl none ↦ inl (ap (◌*ℤ◌ x.den) none.0 ∙ mul-zeroℤ x.den)
            | inr some ↦ inr
                (omega (products, ap (◌*ℤ◌ x.den) some.0, scaled, parts))
          ],
          omega (products, mul-leℤ x.den (pos 0) v den_low (at_least_zero (pos estate -ℤ c))),
          omega (products, mul-leℤ x.den (pos estate -ℤ c) v den_low (at_least (pos estate -ℤ c)), scaled, parts),
        )
      where
        at_least_zero : (z : ℤ) → pos 0 ≤ℤ int_max (pos 0) z
        at_least_zero z = omega (arith, ints, clamps)

        at_least : (z : ℤ) → z ≤ℤ int_max (pos 0) z
        at_least z = omega (arith, ints, clamps)

    abbrev goal_worth : ℕ → ℤ
    goal_worth t = bankruptcy_worth left left_claims t

    abbrev kept : ℕ → ℤ
    kept s = worth_left m who (bankruptcy_game estate claims) x s

    shares_low : (i : ℕ) → i < n → pos 0 ≤ℤ share x i
    shares_low i lt = (d.each i lt).0

    -- no partners leave more
    at_most : (s t : ℕ) → s < 2 ^ n → staying m who s ≡ t → kept s ≤ℤ goal_worth t
    at_most s t within is =
        let rest = grand_coalition n - s in
        let u = grand_coalition m - t in
        let there = worth_there s u within (staying_others n m who a s within ∙ ap (λ z. grand_coalition m - z) is) in
        let less = leaving_less n m who a (share x) (claimed claims x) rest (λ i lt. (d.each i lt).1) in
        let parts = leaving_parts n m who a (share x) s within in
        let two = at_least (pos left -ℤ claims_of u) in
        elim there.0 [
          | inl none ↦
              omega (arith, linear, none, paid_is s, leaving_low n m who a (share x) s shares_low, worth_is t, two.0)
          | inr some ↦
              omega (products, some, paid_is s, less, parts, e.paid, paid_is (grand_coalition n), worth_is t, two.1)
        ]
      where
        at_least : (z : ℤ) → (pos 0 ≤ℤ int_max (pos 0) z) × (z ≤ℤ int_max (pos 0) z)
        at_least z = (omega (arith, ints, clamps), omega (arith, ints, clamps))

    -- and some leave as much: none, or all who go
    attained : (t : ℕ) → t < 2 ^ m → (s : ℕ) × ((s < 2 ^ n) × (staying m who s ≡ t)) × (goal_worth t ≡ kept s)
    attained t within =
        elim (int_max-cases (pos 0) (pos left -ℤ claims_of (grand_coalition m - t))) [
          | inl none ↦
              let s = old_numbers n m who t in
              let is = staying_old n m who t a within in
              let there = worth_there s (grand_coalition m - t) (old_within n m who t)
              (staying_others n m who a s (old_within n m who t) ∙ ap (λ z. grand_coalition m - z) is) in
              let high = at_most s t (old_within n m who t) is in (
                s,
                (old_within n m who t, is),
                omega (products, high, there.1, paid_is s, nobody_leaves n m who a (share x) t, worth_is t, none.0),
              )
          | inr some ↦
              let u = grand_coalition m - t in
              let w = old_numbers n m who u in
              let s = grand_coalition n - w in
              let w_in = old_within n m who u in
              let s_in : s < 2 ^ n = omega (arith, grand_coalition-within n) in
              let w_is : staying m who w ≡ u = staying_old n m who u a (omega (arith, grand_coalition-within m)) in
              let is : staying m who s ≡ t =
              staying_others n m who a w w_in ∙ ap (λ z. grand_coalition m - z) w_is ∙ omega (arith, within) in
              let back : grand_coalition n - s ≡ w = omega (arith, w_in) in
              let there = worth_there s u s_in (ap (staying m who) back ∙ w_is) in
              let high = at_most s t s_in is in (
                s,
                (s_in, is),
                omega (
                  products,
                  high,
                  there.2,
                  ap (leaving n m who a (claimed claims x)) back,
                  nobody_leaves n m who a (claimed claims x) u,
                  paid_is s,
                  leaving_parts n m who a (share x) w w_in,
                  nobody_leaves n m who a (share x) u,
                  e.paid,
                  paid_is (grand_coalition n),
                  worth_is t,
                  some.0,
                ),
              )
        ]

    -- all who stay have what is left, and nobody nothing, since they claim as much
    pub reduced : IsReducedGame m who (bankruptcy_game estate claims) x (bankruptcy_game left left_claims)
    reduced = record {
      players = e.players;
      nobody = worth_is 0 ∙ elim (int_max-cases (pos 0) (pos left -ℤ claims_of (grand_coalition m - 0))) [
        | inl none ↦ none.0
        | inr some ↦ omega (arith, linear, some.0, some.1, enough)
      ];
      all = sym (ap (bankruptcy_worth left left_claims) (ap grand_coalition e.players))
          ∙ worth-grand_coalition left left_claims
          ∙ e.paid
          ∙ ap (λ z. x.den *ℤ z -ℤ amount_leaving m who x (grand_coalition n))
          (sym (worth-grand_coalition estate claims));
      some = λ t some less. (attained t (omega (arith, less)), λ s p. at_most s t p.0 p.1);
    }
      where
        enough : pos left ≤ℤ claims_of (grand_coalition m - 0)
        enough =
            let le = sum_below-le m (λ k. share x (who k)) (λ k. claimed claims x (who k))
            (λ k lt. (d.each (who k) (a.players k lt)).1) in
            let all : grand_coalition m - 0 ≡ grand_coalition m = omega arith in
            omega (
              products,
              e.paid,
              left_is,
              le,
              ap claims_of all,
              sum_over-grand_coalition m (λ k. claimed claims x (who k)),
            )

pub estates_are_left : EstatesAreLeft
estates_are_left m who estate claims x a d = estate_left m who estate claims x a d

pub reduced_estate : ReducedEstate
reduced_estate m who estate left claims left_claims x a d e = reduced m who estate claims x a d left left_claims e
