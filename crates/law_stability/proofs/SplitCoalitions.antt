-- Numbers of coalitions of which two have no more than their union and their common players together, and in which each
-- coalition with a player and without another has one with the second and without the first of no less. Of those that
-- split a part whose players' numbers add to nothing, one with the greatest number has a sum of nothing at most.
--
--   splits_from, splits_to   a coalition splits a part if it has one of its players and lacks another
--   IsSupermodular n f       two coalitions have no more than their union and their common players together
--   IsReturned n f           for each with i and without j there is one with j and without i of no less
--   IsSplitGreatest          no coalition that splits the part has more
use Rattle.std.proofs.Common.{◌≡◌, ◌≢◌, ℕ, ◌^◌, ◌<◌, Bool, true, false, ◌&&◌, ◌||◌, not, ℤ, pos, neg_ℤ, ◌+ℤ◌, ◌<ℤ◌}
use Rattle.std.proofs.Common.{◌≤ℤ◌, sym, ap, ◌∙◌, inl, inr, arith}
use Rattle.std.proofs.lemmas.Bool.{false≢true}
use Rattle.std.proofs.lemmas.Int.{by_lt_z}
use Rattle.std.specs.Ordering.{int_eq}
use Rattle.definitions.proofs.Cases.{and_parts, and_both, from_not}
use Rattle.definitions.proofs.Masks.{singleton-within}
use Rattle.definitions.proofs.Members.{has_player-singleton, has_player-singleton_other}
use Rattle.definitions.proofs.Ring.{linear}
use Rattle.definitions.proofs.Splits.{some_below-at, some_below-true}
use Rattle.definitions.specs.Coalitions.{has_player, singleton, some_below, splits}
use Rattle.theorems.proofs.Examples.{from_int_eq}
use Rattle.theorems.proofs.Transfers.{some_greatest}
use Rattle.law_answers.proofs.Numbers.{to_int_eq}
use Rattle.law_stability.proofs.NearRings.{Some, IsNearRing, inside, outside}
use Rattle.law_stability.proofs.NoNearRing.{no_near_ring}
use Rattle.law_stability.proofs.Unions.{union, common, union-has, union-within, common-has, common-within}
use Rattle.law_stability.proofs.SumsByTest.{total}

pub splits_from : (n : ℕ) (p : ℕ → Bool) (s : ℕ) → Some n (inside p s) → Some n (outside p s) → splits n p s ≡ true
splits_from n p s i j =
    and_both (some_below n (inside p s)) (some_below n (outside p s)) (some_below-at n i.0 (inside p s) i.1 i.2)
    (some_below-at n j.0 (outside p s) j.1 j.2)

pub splits_to : (n : ℕ) (p : ℕ → Bool) (s : ℕ) → splits n p s ≡ true → Some n (inside p s) × Some n (outside p s)
splits_to n p s h =
    let both = and_parts (some_below n (inside p s)) (some_below n (outside p s)) h in
    (some_below-true n (inside p s) both.0, some_below-true n (outside p s) both.1)

abbrev pub IsSupermodular : ℕ → (ℕ → ℤ) → Type 0
IsSupermodular n f = (a b : ℕ) → a < 2 ^ n → b < 2 ^ n → (f a +ℤ f b) ≤ℤ (f (union n a b) +ℤ f (common n a b))

abbrev pub IsReturned : ℕ → (ℕ → ℤ) → Type 0
IsReturned n f =
    (s i j : ℕ) → s < 2 ^ n → i < n → j < n → i ≢ j → has_player s i ≡ true → has_player s j ≡ false →
    (t : ℕ) × (t < 2 ^ n) × (has_player t j ≡ true) × (has_player t i ≡ false) × (f s ≤ℤ f t)

abbrev pub IsSplitGreatest : ℕ → (ℕ → Bool) → (ℕ → ℤ) → ℕ → Type 0
IsSplitGreatest n p f t = (s : ℕ) → s < 2 ^ n → splits n p s ≡ true → f s ≤ℤ f t

module _ (n : ℕ) (f z : ℕ → ℤ) (p : ℕ → Bool) (modular : IsSupermodular n f) (returned : IsReturned n f)
    (nothing : total n z p ≡ pos 0) where
  -- those of the greatest number
  module _ (t : ℕ) (most : IsSplitGreatest n p f t) where
    abbrev top : ℕ → Bool
    top s = splits n p s && int_eq (f s) (f t)

    top-to : (s : ℕ) → top s ≡ true → (splits n p s ≡ true) × (f s ≡ f t)
    top-to s h =
        let both = and_parts (splits n p s) (int_eq (f s) (f t)) h in
        (both.0, from_int_eq (f s) (f t) both.1)

    top-from : (s : ℕ) → s < 2 ^ n → splits n p s ≡ true → f t ≤ℤ f s → top s ≡ true
    top-from s lt h le =
        let ge = most s lt h in
        and_both (splits n p s) (int_eq (f s) (f t)) h (to_int_eq (f s) (f t) (omega (arith, linear, le, ge)))

    top-ring : ((s : ℕ) → s < 2 ^ n → top s ≡ true → pos 0 <ℤ total n z (inside p s)) → IsNearRing n p z top
    top-ring up = record {
      splits = λ s lt h. splits_to n p s (top-to s h).0;
      ring = λ a b ha hb ta tb i j.
          let one = joined a b i j in
          let two = shared a b i j in
          let le = modular a b ha hb in
          let first = (top-to a ta).1 in
          let second = (top-to b tb).1 in (
            top-from (union n a b) (union-within n a b) one
                (omega (arith, linear, le, most (common n a b) (common-within n a b) two, first, second)),
            top-from (common n a b) (common-within n a b) two
                (omega (arith, linear, le, most (union n a b) (union-within n a b) one, first, second)),
          );
      apart = λ s i j lt h hi hj in_s out_s.
          let has = (and_parts (p i) (has_player s i) in_s) in
          let lacks = (and_parts (p j) (not (has_player s j)) out_s) in
          let out = from_not (has_player s j) lacks.1 in
          let e =
          returned s i j lt hi hj (λ same. false≢true (sym out ∙ ap (has_player s) (sym same) ∙ has.1)) has.1 out in
          let back = (top-to s h).1 in (
            e.0,
            e.1,
            top-from e.0 e.1
                (splits_from n p e.0 (j, hj, and_both (p j) (has_player e.0 j) lacks.0 e.2)
                (i, hi, and_both (p i) (not (has_player e.0 i)) has.0 (ap not e.3)))
                (omega (arith, linear, e.4, back)),
            e.2,
            e.3,
          );
      positive = up;
    }
      where
        -- both hold a player of the part, and both lack another; so do their union and their common players
        joined : (a b : ℕ) → Some n (λ i. inside p a i && inside p b i) → Some n (λ i. outside p a i && outside p b i)
            → splits n p (union n a b) ≡ true
        joined a b i j =
            splits_from n p (union n a b) (
              i.0,
              i.1,
              ap (λ (c : Bool). p i.0 && c) (union-has n a b i.0 i.1)
                  ∙ held (p i.0) (has_player a i.0) (has_player b i.0) i.2,
            ) (
              j.0,
              j.1,
              ap (λ (c : Bool). p j.0 && not c) (union-has n a b j.0 j.1)
                  ∙ lacked (p j.0) (has_player a j.0) (has_player b j.0) j.2,
            )
          where
            held : (q c e : Bool) → ((q && c) && (q && e)) ≡ true → (q && (c || e)) ≡ true
            held q c e h = grind arith

            lacked : (q c e : Bool) → ((q && not c) && (q && not e)) ≡ true → (q && not (c || e)) ≡ true
            lacked q c e h = grind arith

        shared : (a b : ℕ) → Some n (λ i. inside p a i && inside p b i) → Some n (λ i. outside p a i && outside p b i)
            → splits n p (common n a b) ≡ true
        shared a b i j =
            splits_from n p (common n a b) (
              i.0,
              i.1,
              ap (λ (c : Bool). p i.0 && c) (common-has n a b i.0 i.1)
                  ∙ held (p i.0) (has_player a i.0) (has_player b i.0) i.2,
            ) (
              j.0,
              j.1,
              ap (λ (c : Bool). p j.0 && not c) (common-has n a b j.0 j.1)
                  ∙ lacked (p j.0) (has_player a j.0) (has_player b j.0) j.2,
            )
          where
            held : (q c e : Bool) → ((q && c) && (q && e)) ≡ true → (q && (c && e)) ≡ true
            held q c e h = grind arith

            lacked : (q c e : Bool) → ((q && not c) && (q && not e)) ≡ true → (q && not (c && e)) ≡ true
            lacked q c e h = grind arith

  -- one of them has a sum of nothing at most
  pub lowest_top : (i j : ℕ) → i < n → j < n → i ≢ j → p i ≡ true → p j ≡ true
      → (t : ℕ) × (t < 2 ^ n) × (splits n p t ≡ true) × IsSplitGreatest n p f t × (total n z (inside p t) ≤ℤ pos 0)
  lowest_top i j hi hj ne pi pj = elim (some_greatest (splits n p) f (2 ^ n)) [
    | inl none ↦ absurd
        (false≢true
        (sym (none (singleton i) (singleton-within n i hi))
        ∙ splits_from n p (singleton i)
        (i, hi, and_both (p i) (has_player (singleton i) i) pi (has_player-singleton i)) (
          j,
          hj,
          and_both (p j) (not (has_player (singleton i) j)) pj
              (ap not (has_player-singleton_other i j (λ e. ne (sym e)))),
        )))
    | inr found ↦ among found.1.0.0 found.1.0.1.0 found.1.0.1.1
        (λ s lt h. (let le = found.1.1 s (lt, h) in omega (arith, linear, le, found.1.0.2)))
  ]
    where
      among : (t : ℕ) → t < 2 ^ n → splits n p t ≡ true → IsSplitGreatest n p f t
          → (t : ℕ) × (t < 2 ^ n) × (splits n p t ≡ true) × IsSplitGreatest n p f t
          × (total n z (inside p t) ≤ℤ pos 0)
      among t lt h most = elim (some_greatest (top t most) (λ s. neg_ℤ (total n z (inside p s))) (2 ^ n)) [
        | inl none ↦ absurd (false≢true (sym (none t lt) ∙ top-from t most t lt h (omega (arith, linear))))
        | inr found ↦
            let s = found.1.0.0 in
            let in_top = top-to t most s found.1.0.1.1 in
            by_lt_z (pos 0) (total n z (inside p s))
            (λ up. absurd
            (no_near_ring n p z (top t most)
            (top-ring t most
            (λ r hr tr. (let le = found.1.1 r (hr, tr) in omega (arith, linear, le, up, found.1.0.2)))) nothing s
            found.1.0.1.0 found.1.0.1.1))
            (λ le. (
              s,
              found.1.0.1.0,
              in_top.0,
              λ r hr tr. (let most_r = most r hr tr in omega (arith, linear, most_r, in_top.1)),
              le,
            ))
      ]
