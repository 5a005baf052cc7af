-- A part of the players outside of which each coalition may be changed so that it gets nothing there, and has no less.
-- A greatest coalition that splits the part and gets nothing in it leaves two such parts: its players, and the others
-- (Maschler, Peleg and Shapley 1972).
--
--   IsReducible n z f p     the part p is such
--   reducible_in, _out      so are the two
use Rattle.std.proofs.Common.{◌≡◌, ℕ, ◌^◌, ◌<◌, Bool, true, false, ◌&&◌, ◌||◌, not, ℤ, pos, ◌≤ℤ◌, ap, ◌∙◌, inl, inr}
use Rattle.std.proofs.Common.{arith}
use Rattle.definitions.proofs.Cases.{true_or_false, and_parts, and_true, and_false, from_not, or_right, or_false}
use Rattle.definitions.proofs.Ring.{linear}
use Rattle.definitions.proofs.Splits.{some_below-true, some_below-false}
use Rattle.definitions.specs.Coalitions.{has_player, some_below, splits}
use Rattle.law_stability.proofs.NearRings.{Some, inside, outside}
use Rattle.law_stability.proofs.SplitCoalitions.{splits_from, splits_to, IsSupermodular, IsSplitGreatest}
use Rattle.law_stability.proofs.Unions.{union, common, union-has, union-within, common-has, common-within}
use Rattle.law_stability.proofs.SumsByTest.{total, total-same, total-parts}

abbrev pub IsReducible : ℕ → (ℕ → ℤ) → (ℕ → ℤ) → (ℕ → Bool) → Type 0
IsReducible n z f p =
    (s : ℕ) → s < 2 ^ n →
    (t : ℕ) × (t < 2 ^ n) × ((i : ℕ) → i < n → p i ≡ true → has_player t i ≡ has_player s i)
    × (total n z (has_player t) ≡ total n z (inside p s)) × (f s ≤ℤ f t)

module _ (n : ℕ) (z f : ℕ → ℤ) (p : ℕ → Bool) (modular : IsSupermodular n f) (may : IsReducible n z f p) (t : ℕ)
    (ht : t < 2 ^ n) (splits_it : splits n p t ≡ true) (most : IsSplitGreatest n p f t)
    (none_in : total n z (inside p t) ≡ pos 0) (none_out : total n z (outside p t) ≡ pos 0) where
  abbrev some_in : Some n (inside p t)
  some_in = (splits_to n p t splits_it).0

  abbrev some_out : Some n (outside p t)
  some_out = (splits_to n p t splits_it).1

  pub reducible_in : IsReducible n z f (inside p t)
  reducible_in s hs =
      let r = may s hs in
      elim (true_or_false (some_below n (λ l. outside p t l && outside p r.0 l))) [
        | inl left ↦
            let l = some_below-true n (λ l. outside p t l && outside p r.0 l) left in
            let c = common n r.0 t in
            let again = may c (common-within n r.0 t) in
            let le = most (union n r.0 t) (union-within n r.0 t)
            (splits_from n p (union n r.0 t) (
              some_in.0,
              some_in.1,
              ap (λ (b : Bool). p some_in.0 && b) (union-has n r.0 t some_in.0 some_in.1)
                  ∙ held (p some_in.0) (has_player r.0 some_in.0) (has_player t some_in.0) some_in.2,
            ) (
              l.0,
              l.1,
              ap (λ (b : Bool). p l.0 && not b) (union-has n r.0 t l.0 l.1)
                  ∙ lacked (p l.0) (has_player r.0 l.0) (has_player t l.0) l.2,
            )) in
            let both = modular r.0 t r.1 ht in (
              again.0,
              again.1,
              λ i lt in_t.
                  let parts = and_parts (p i) (has_player t i) in_t in
                  again.2 i lt parts.0 ∙ common-has n r.0 t i lt
                  ∙ ap (λ (b : Bool). has_player r.0 i && b) parts.1
                  ∙ and_true (has_player r.0 i)
                  ∙ r.2 i lt parts.0,
              again.3
                  ∙ total-same n z (inside p c) (inside (inside p t) s)
                  (λ i lt. ap (λ (b : Bool). p i && b) (common-has n r.0 t i lt)
                  ∙ moved (p i) (has_player r.0 i) (has_player t i) (has_player s i) (r.2 i lt)),
              omega (arith, linear, r.4, both, le, again.4),
            )
        | inr none ↦ (
          r.0,
          r.1,
          λ i lt in_t. r.2 i lt (and_parts (p i) (has_player t i) in_t).0,
          r.3
              ∙ (let parts = total-parts n z (inside p s) (inside (inside p t) s) (outside p t)
              (λ i lt. whole (p i) (has_player t i) (has_player r.0 i) (has_player s i) (r.2 i lt)
              (some_below-false n (λ l. outside p t l && outside p r.0 l) none i lt)) in
              omega (arith, linear, parts, none_out)),
          r.4,
        )
      ]
    where
      held : (q a b : Bool) → (q && b) ≡ true → (q && (a || b)) ≡ true
      held q a b e = grind (arith, or_right)

      lacked : (q a b : Bool) → ((q && not b) && (q && not a)) ≡ true → (q && not (a || b)) ≡ true
      lacked q a b e = grind arith

      moved : (q a b c : Bool) → (q ≡ true → a ≡ c) → (q && (a && b)) ≡ ((q && b) && c)
      moved q a b c h = grind (arith, and_false, and_true)

      whole : (q b a c : Bool) → (q ≡ true → a ≡ c) → ((q && not b) && (q && not a)) ≡ false
          → ((q && c) ≡ (((q && b) && c) || (q && not b))) × ((((q && b) && c) && (q && not b)) ≡ false)
      whole q b a c h e = grind arith

  pub reducible_out : IsReducible n z f (outside p t)
  reducible_out s hs =
      let r = may s hs in
      elim (true_or_false (some_below n (λ l. inside p t l && inside p r.0 l))) [
        | inl both_in ↦
            let l = some_below-true n (λ l. inside p t l && inside p r.0 l) both_in in
            let u = union n r.0 t in
            let again = may u (union-within n r.0 t) in
            let le = most (common n r.0 t) (common-within n r.0 t)
            (splits_from n p (common n r.0 t) (
              l.0,
              l.1,
              ap (λ (b : Bool). p l.0 && b) (common-has n r.0 t l.0 l.1)
                  ∙ held (p l.0) (has_player r.0 l.0) (has_player t l.0) l.2,
            ) (
              some_out.0,
              some_out.1,
              ap (λ (b : Bool). p some_out.0 && not b)
                  (common-has n r.0 t some_out.0 some_out.1)
                  ∙ lacked (p some_out.0) (has_player r.0 some_out.0) (has_player t some_out.0) some_out.2,
            )) in
            let both = modular r.0 t r.1 ht in (
              again.0,
              again.1,
              λ i lt out_t.
                  let parts = and_parts (p i) (not (has_player t i)) out_t in
                  again.2 i lt parts.0 ∙ union-has n r.0 t i lt
                  ∙ ap (λ (b : Bool). has_player r.0 i || b) (from_not (has_player t i) parts.1)
                  ∙ or_false (has_player r.0 i)
                  ∙ r.2 i lt parts.0,
              again.3
                  ∙ (let parts = total-parts n z (inside p u) (inside (outside p t) s) (inside p t)
                  (λ i lt. joined (p i) (has_player r.0 i) (has_player t i) (has_player s i) (has_player u i)
                  (union-has n r.0 t i lt) (r.2 i lt)) in
                  omega (arith, linear, parts, none_in)),
              omega (arith, linear, r.4, both, le, again.4),
            )
        | inr none ↦ (
          r.0,
          r.1,
          λ i lt out_t. r.2 i lt (and_parts (p i) (not (has_player t i)) out_t).0,
          r.3
              ∙ total-same n z (inside p s) (inside (outside p t) s)
              (λ i lt. left_out (p i) (has_player t i) (has_player r.0 i) (has_player s i) (r.2 i lt)
              (some_below-false n (λ l. inside p t l && inside p r.0 l) none i lt)),
          r.4,
        )
      ]
    where
      held : (q a b : Bool) → ((q && b) && (q && a)) ≡ true → (q && (a && b)) ≡ true
      held q a b e = grind arith

      lacked : (q a b : Bool) → (q && not b) ≡ true → (q && not (a && b)) ≡ true
      lacked q a b e = grind arith

      joined : (q a b c u : Bool) → u ≡ (a || b) → (q ≡ true → a ≡ c)
          → ((q && u) ≡ (((q && not b) && c) || (q && b))) × ((((q && not b) && c) && (q && b)) ≡ false)
      joined q a b c u e h = grind (arith, or_false, or_right)

      left_out : (q b a c : Bool) → (q ≡ true → a ≡ c) → ((q && b) && (q && a)) ≡ false → (q && c) ≡ ((q && not b) && c)
      left_out q b a c h e = grind arith
