-- Shares in which player i gets d more and player j gets d less; and if their excesses come first, no nucleolus
-- gives the old ones.
use Rattle.std.proofs.Common.{◌≡◌, ◌≢◌, ◌⊎◌, ℕ, ◌+◌, ◌-◌, ◌^◌, ◌<◌, ◌≤◌, Bool, true, false, cond, List, length, map}
use Rattle.std.proofs.Common.{refl, sym, ap, ◌∙◌, inl, inr, arith}
use Rattle.std.specs.List.{range_with_len}
use Rattle.std.proofs.lemmas.List.FromFn.{get_or-map-range_with_len, length-map-range_with_len}
use Rattle.definitions.proofs.Cases.{same_or_other}
use Rattle.definitions.proofs.Members.{has_player-singleton, has_player-singleton_other, has_player-grand_coalition}
use Rattle.definitions.specs.Coalitions.{has_player, singleton, grand_coalition}
use Rattle.definitions.specs.declared.Family.{Family}
use Rattle.definitions.specs.declared.Family.TheVariants.{Imputations, Preimputations}
use Rattle.real_shares.specs.Numbers.{Numbers, IsOrderedGroup, AtMost, Less, Equal, total_below}
use Rattle.real_shares.specs.Shares.{number_of, amount_of}
use Rattle.real_shares.proofs.Orders.{from_less, at_most-same}
use Rattle.real_shares.proofs.Multiples.{chain, back, equal_path, plus-equal, left, right, neutral_left, minus-plus}
use Rattle.real_shares.proofs.Multiples.{minus-equal, minus-zero, is_minus, added-low, plus-at_most, total_below-equal}
use Rattle.real_shares.proofs.Multiples.{total_below-plus, total_below-minus, through}
use Rattle.real_shares.proofs.Soundness.{before-from}
use Rattle.law_real_worths.specs.Games.{NumberGame, excess_in, IsEfficientIn, InFamilyIn, HaveSameIn, excess_list_in}
use Rattle.law_real_worths.specs.Games.{IsNucleolusIn}
use Rattle.law_real_worths.proofs.CoreFirst.{amount_at, not_both}
use Rattle.law_real_worths.proofs.BothAreOne.{alone_gets, amount_alone}

module _ {C : Type 0} (N : Numbers C) (L : IsOrderedGroup N) where
  pub minus_minus : (a : C) → Equal N (N.minus (N.minus a)) a
  minus_minus a = back N L (is_minus N L (N.minus a) a (chain N L (L.commutes (N.minus a) a) (L.inverse a)))

  -- w - (a + d) is (w - a) - d
  pub less_more : (w a d : C)
      → Equal N (N.plus w (N.minus (N.plus a d))) (N.plus (N.plus w (N.minus a)) (N.minus d))
  less_more w a d = chain N L (right N L w (minus-plus N L a d)) (back N L (L.associates w (N.minus a) (N.minus d)))

  -- a - d + d is a
  pub put_back : (a d : C) → Equal N (N.plus (N.plus a (N.minus d)) d) a
  put_back a d =
      chain N L (L.associates a (N.minus d) d)
      (chain N L (right N L a (chain N L (L.commutes (N.minus d) d) (L.inverse d))) (L.neutral a))

  -- where a is at most a - d, d isn't above zero
  pub no_less : (a d : C) → AtMost N a (N.plus a (N.minus d)) → AtMost N d N.zero
  no_less a d le =
      let b = N.plus a (N.minus d) in
      added-low N L b d (through N L (put_back a d).0 le)

module _ {C : Type 0} (N : Numbers C) (L : IsOrderedGroup N) (g : NumberGame C) (y : List C)
    (long : length y ≡ g.players)
    (d : C) (i j : ℕ) (hi : i < g.players) (hj : j < g.players) (ne : i ≢ j) where
  abbrev n : ℕ
  n = g.players

  -- d for player k, zero for the others
  abbrev at : ℕ → ℕ → C
  at k l = cond (has_player (singleton k) l) d N.zero

  abbrev moved_number : ℕ → C
  moved_number l = N.plus (number_of N y l) (N.plus (at i l) (N.minus (at j l)))

  abbrev pub moved : List C
  moved = map moved_number (range_with_len 0 n)

  pub moved_long : length moved ≡ n
  moved_long = length-map-range_with_len moved_number 0 n

  moved_at : (l : ℕ) → l < n → number_of N moved l ≡ moved_number l
  moved_at l lt = get_or-map-range_with_len moved_number 0 n l l N.zero lt (omega arith)

  -- ---- what some get

  one_of : (k s : ℕ) → k < n
      → Equal N (total_below N n (λ l. cond (has_player s l) (at k l) N.zero)) (cond (has_player s k) d N.zero)
  one_of k s lt =
      chain N L
      (total_below-equal N L n (λ l. cond (has_player s l) (at k l) N.zero)
      (λ l. cond (has_player (singleton k) l) (cond (has_player s l) d N.zero) N.zero)
      (λ l h. equal_path N L _ _ (swap (has_player s l) (has_player (singleton k) l))))
      (alone_gets N L (λ l. cond (has_player s l) d N.zero) k n lt)
    where
      swap : (a b : Bool) → cond a (cond b d N.zero) N.zero ≡ cond b (cond a d N.zero) N.zero
      swap a b = grind arith

  amount_moved : (s : ℕ)
      → Equal N (amount_of N moved s)
      (N.plus (amount_of N y s)
      (N.plus (cond (has_player s i) d N.zero) (N.minus (cond (has_player s j) d N.zero))))
  amount_moved s =
      let f : ℕ → C = λ l. cond (has_player s l) (number_of N y l) N.zero in
      let a : ℕ → C = λ l. cond (has_player s l) (at i l) N.zero in
      let b : ℕ → C = λ l. cond (has_player s l) (at j l) N.zero in
      chain N L (amount_at N L g moved s moved_long)
      (chain N L
      (total_below-equal N L n (λ l. cond (has_player s l) (number_of N moved l) N.zero)
      (λ l. N.plus (f l) (N.plus (a l) (N.minus (b l)))) (λ l lt. each l lt (has_player s l)))
      (chain N L (total_below-plus N L n f (λ l. N.plus (a l) (N.minus (b l))))
      (plus-equal N L (back N L (amount_at N L g y s long))
      (chain N L (total_below-plus N L n a (λ l. N.minus (b l)))
      (plus-equal N L (one_of i s hi)
      (chain N L (total_below-minus N L n b) (minus-equal N L (one_of j s hj))))))))
    where
      each : (l : ℕ) → l < n → (c : Bool)
          → Equal N (cond c (number_of N moved l) N.zero)
          (N.plus (cond c (number_of N y l) N.zero)
          (N.plus (cond c (at i l) N.zero) (N.minus (cond c (at j l) N.zero))))
      each l lt true = equal_path N L (number_of N moved l) (moved_number l) (moved_at l lt)
      each l lt false =
          back N L
          (chain N L (neutral_left N L (N.plus N.zero (N.minus N.zero)))
          (chain N L (neutral_left N L (N.minus N.zero)) (minus-zero N L)))

  with_tests : (s : ℕ) (p q : Bool) → has_player s i ≡ p → has_player s j ≡ q
      → Equal N (amount_of N moved s)
      (N.plus (amount_of N y s) (N.plus (cond p d N.zero) (N.minus (cond q d N.zero))))
  with_tests s p q ep eq =
      chain N L (amount_moved s)
      (equal_path N L _ _
      (ap
      (λ (b : Bool). N.plus (amount_of N y s)
      (N.plus (cond b d N.zero) (N.minus (cond (has_player s j) d N.zero)))) ep
      ∙ ap (λ (b : Bool). N.plus (amount_of N y s) (N.plus (cond p d N.zero) (N.minus (cond b d N.zero)))) eq))

  pub gets_more : (s : ℕ) → has_player s i ≡ true → has_player s j ≡ false
      → Equal N (amount_of N moved s) (N.plus (amount_of N y s) d)
  gets_more s hs ls =
      chain N L (with_tests s true false hs ls)
      (right N L (amount_of N y s) (chain N L (right N L d (minus-zero N L)) (L.neutral d)))

  pub gets_less : (s : ℕ) → has_player s i ≡ false → has_player s j ≡ true
      → Equal N (amount_of N moved s) (N.plus (amount_of N y s) (N.minus d))
  gets_less s ls hs =
      chain N L (with_tests s false true ls hs) (right N L (amount_of N y s) (neutral_left N L (N.minus d)))

  pub gets_same : (s : ℕ) (b : Bool) → has_player s i ≡ b → has_player s j ≡ b
      → Equal N (amount_of N moved s) (amount_of N y s)
  gets_same s b e f =
      chain N L (with_tests s b b e f)
      (chain N L (right N L (amount_of N y s) (L.inverse (cond b d N.zero))) (L.neutral (amount_of N y s)))

  -- ---- excesses

  pub excess_less : (s : ℕ) → has_player s i ≡ true → has_player s j ≡ false
      → Equal N (excess_in N g moved s) (N.plus (excess_in N g y s) (N.minus d))
  excess_less s hs ls =
      chain N L (right N L (g.worth s) (minus-equal N L (gets_more s hs ls)))
      (less_more N L (g.worth s) (amount_of N y s) d)

  pub excess_more : (s : ℕ) → has_player s i ≡ false → has_player s j ≡ true
      → Equal N (excess_in N g moved s) (N.plus (excess_in N g y s) d)
  excess_more s ls hs =
      chain N L (right N L (g.worth s) (minus-equal N L (gets_less s ls hs)))
      (chain N L (less_more N L (g.worth s) (amount_of N y s) (N.minus d))
      (right N L (excess_in N g y s) (minus_minus N L d)))

  pub excess_same : (s : ℕ) (b : Bool) → has_player s i ≡ b → has_player s j ≡ b
      → Equal N (excess_in N g moved s) (excess_in N g y s)
  excess_same s b e f = right N L (g.worth s) (minus-equal N L (gets_same s b e f))

  -- ---- where the moved shares come first

  module _ (family : Family) (is : IsNucleolusIn N family g y) (some : Less N N.zero d)
      (give : family ≡ Imputations → AtMost N (g.worth (singleton j)) (N.plus (number_of N y j) (N.minus d))) where
    low : AtMost N N.zero d
    low = from_less N L N.zero d some

    more : (a : C) → AtMost N a (N.plus a d)
    more a = through N L (L.neutral a).1 (plus-at_most N L a a N.zero d (at_most-same N L a) low)

    moved_efficient : IsEfficientIn N g y → IsEfficientIn N g moved
    moved_efficient e =
        let all = grand_coalition n in
        chain N L (gets_same all true (has_player-grand_coalition n i hi) (has_player-grand_coalition n j hj)) e

    rational : family ≡ Imputations → ((l : ℕ) → l < n → AtMost N (g.worth (singleton l)) (number_of N y l))
        → (l : ℕ) → l < n → AtMost N (g.worth (singleton l)) (number_of N moved l)
    rational e r l lt = elim (same_or_other l i) [
      | inl same ↦
          through N L (r l lt) (through N L (more (number_of N y l)) (back N L (got l lt (N.plus (number_of N y l) d)
          (chain N L (gets_more (singleton l) (ap (λ k. has_player (singleton k) i) same ∙ has_player-singleton i)
          (ap (λ k. has_player (singleton k) j) same ∙ has_player-singleton_other i j (λ f. ne (sym f))))
          (left N L d (amount_alone N L g y l long lt))))).0)
      | inr other ↦ elim (same_or_other l j) [
        | inl same ↦
            through N L (rw same (give e)) (back N L (got l lt (N.plus (number_of N y l) (N.minus d)) (chain N L
            (gets_less (singleton l) (ap (λ k. has_player (singleton k) i) same ∙ has_player-singleton_other j i ne)
            (ap (λ k. has_player (singleton k) j) same ∙ has_player-singleton j))
            (left N L (N.minus d) (amount_alone N L g y l long lt))))).0
        | inr neither ↦
            through N L (r l lt) (back N L (got l lt (number_of N y l)
            (chain N L (gets_same (singleton l) false (has_player-singleton_other l i (λ f. other (sym f)))
            (has_player-singleton_other l j (λ f. neither (sym f)))) (amount_alone N L g y l long lt)))).0
      ]
    ]
      where
        got : (l : ℕ) → l < n → (a : C) → Equal N (amount_of N moved (singleton l)) a
            → Equal N (number_of N moved l) a
        got l lt a e = chain N L (back N L (amount_alone N L g moved l moved_long lt)) e

    member : (f : Family) → f ≡ family → InFamilyIn N f g y → InFamilyIn N f g moved
    member Imputations e h = (moved_long, moved_efficient h.1, rational (sym e) h.2)
    member Preimputations e h = (moved_long, moved_efficient h.1)

    differs : ¬ HaveSameIn N g y moved
    differs same =
        let alone = chain N L (back N L (amount_alone N L g moved i moved_long hi)) (chain N L
        (gets_more (singleton i) (has_player-singleton i) (has_player-singleton_other i j (λ f. ne (sym f))))
        (left N L d (amount_alone N L g y i long hi))) in
        some (added-low N L (number_of N y i) d (through N L alone.1 (same i hi).1))

    -- the coalition c with i and without j has no less excess than each such one, and each with j and without i has
    -- less by d twice at least
    pub no_gain : (c : ℕ) → 1 ≤ c → c < 1 + (2 ^ n - 2) → has_player c i ≡ true → has_player c j ≡ false
        → ((s : ℕ) → 1 ≤ s → s < 1 + (2 ^ n - 2) → has_player s i ≡ true → has_player s j ≡ false
        → AtMost N (excess_in N g y s) (excess_in N g y c))
        → ((s : ℕ) → 1 ≤ s → s < 1 + (2 ^ n - 2) → has_player s i ≡ false → has_player s j ≡ true
        → AtMost N (N.plus (excess_in N g y s) d) (N.plus (excess_in N g y c) (N.minus d)))
        → ⊥
    no_gain c first last hc lc most twice =
        not_both N L g (excess_list_in N g y) (excess_list_in N g moved)
        (is.1 moved (member family refl is.0) differs)
        (before-from N L n (excess_in N g moved) (excess_in N g y) c first last
        (λ s one past. by_tests s one past (has_player s i) (has_player s j) refl refl) above)
      where
        here : Equal N (excess_in N g moved c) (N.plus (excess_in N g y c) (N.minus d))
        here = excess_less c hc lc

        by_tests : (s : ℕ) → 1 ≤ s → s < 1 + (2 ^ n - 2) → (p q : Bool) → has_player s i ≡ p → has_player s j ≡ q
            → Equal N (excess_in N g moved s) (excess_in N g y s)
            ⊎ AtMost N (excess_in N g moved s) (excess_in N g moved c)
        by_tests s one past true true e f = inl (excess_same s true e f)
        by_tests s one past false false e f = inl (excess_same s false e f)
        by_tests s one past true false e f =
            inr (through N L (excess_less s e f).0
            (through N L (L.shifts (excess_in N g y s) (excess_in N g y c) (N.minus d) (most s one past e f)) here.1))
        by_tests s one past false true e f =
            inr (through N L (excess_more s e f).0 (through N L (twice s one past e f) here.1))

        above : Less N (excess_in N g moved c) (excess_in N g y c)
        above le = some (no_less N L (excess_in N g y c) d (through N L le here.0))
