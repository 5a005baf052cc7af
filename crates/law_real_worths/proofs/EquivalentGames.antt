-- A change of the unit, and numbers of each player added, put each excess into the new unit: so the order of all lists
-- of excesses stays.
use Rattle.std.proofs.Common.{◌≡◌, ℕ, zero, suc, ◌+◌, ◌-◌, ◌^◌, ◌<◌, Bool, true, false, cond, List, [], ◌∷◌, length}
use Rattle.std.proofs.Common.{map, IsTrue, refl, sym, ap, ◌∙◌, inl, inr, arith}
use Rattle.std.specs.List.{range_with_len}
use Rattle.std.proofs.lemmas.Bool.{false≢true}
use Rattle.std.proofs.lemmas.List.FromFn.{get_or-map-range_with_len, length-map-range_with_len}
use Rattle.definitions.specs.Coalitions.{has_player, singleton, grand_coalition}
use Rattle.definitions.specs.declared.Family.{Family}
use Rattle.definitions.specs.declared.Family.TheVariants.{Imputations, Preimputations}
use Rattle.real_shares.specs.Numbers.{Numbers, IsOrderedGroup, AtMost, Equal, total_below, total_over, placed}
use Rattle.real_shares.specs.Numbers.{sorted_by, IsLesserBy, ComesBeforeBy}
use Rattle.real_shares.specs.Shares.{number_of, amount_of}
use Rattle.real_shares.proofs.Multiples.{chain, back as turn, equal_path, left, right, is_minus, minus-equal}
use Rattle.real_shares.proofs.Multiples.{minus-plus, exchanged, total_below-equal, total_below-plus, through}
use Rattle.law_real_worths.specs.Games.{NumberGame, excess_in, IsEfficientIn, InFamilyIn, excess_list_in, IsNucleolusIn}
use Rattle.law_real_worths.specs.RealWorths.{IsUnitChange, changed_game, changed_shares}
use Rattle.law_real_worths.proofs.CoreFirst.{amount_at, length_in}
use Rattle.law_real_worths.proofs.BothAreOne.{alone_gets}
use Rattle.law_real_worths.proofs.Joined.{forth, off}

same_bool : (p q : Bool) → (IsTrue p → IsTrue q) → (IsTrue q → IsTrue p) → p ≡ q
same_bool p q f h = grind arith

module _ {C : Type 0} (N : Numbers C) (L : IsOrderedGroup N) (to back : C → C) (change : IsUnitChange N to back)
  where
    -- ---- numbers

    to_equal : {a b : C} → Equal N a b → Equal N (to a) (to b)
    to_equal {a} {b} e = (change.keeps a b e.0, change.keeps b a e.1)

    -- what is in order in the new unit was so before
    pub from_to : (a b : C) → AtMost N (to a) (to b) → AtMost N a b
    from_to a b le =
        through N L (change.again a).1 (through N L (change.keeps_back (to a) (to b) le) (change.again b).0)

    to_zero : Equal N (to N.zero) N.zero
    to_zero =
        let z = to N.zero in
        let twice = chain N L (turn N L (change.adds N.zero N.zero)) (to_equal (L.neutral N.zero)) in
        chain N L (turn N L (chain N L (L.associates z z (N.minus z))
        (chain N L (right N L z (L.inverse z)) (L.neutral z))))
        (chain N L (left N L (N.minus z) twice) (L.inverse z))

    to_minus : (a : C) → Equal N (to (N.minus a)) (N.minus (to a))
    to_minus a =
        is_minus N L (to a) (to (N.minus a))
        (chain N L (turn N L (change.adds a (N.minus a))) (chain N L (to_equal (L.inverse a)) to_zero))

    to_total : (f : ℕ → C) (n : ℕ) → Equal N (to (total_below N n f)) (total_below N n (λ i. to (f i)))
    to_total f zero = to_zero
    to_total f (suc n) = chain N L (change.adds (total_below N n f) (f n)) (left N L (to (f n)) (to_total f n))

    -- ---- lists

    abbrev pub AllTo : List C → List C → Type 0
    AllTo [] [] = Unit {0}
    AllTo [] (b ∷ k) = ⊥
    AllTo (a ∷ l) [] = ⊥
    AllTo (a ∷ l) (b ∷ k) = Equal N b (to a) × AllTo l k

    order_to : (a b c d : C) → Equal N c (to a) → Equal N d (to b) → AtMost N a b → AtMost N c d
    order_to a b c d e f le = through N L e.0 (through N L (change.keeps a b le) f.1)

    order_from : (a b c d : C) → Equal N c (to a) → Equal N d (to b) → AtMost N c d → AtMost N a b
    order_from a b c d e f le = from_to a b (through N L e.1 (through N L le f.0))

    placed_to : (a c : C) (l k : List C) → Equal N c (to a) → AllTo l k → AllTo (placed N a l) (placed N c k)
    placed_to a c [] [] e h = (e, tt)
    placed_to a c [] (d ∷ k) e h = absurd h
    placed_to a c (b ∷ l) [] e h = absurd h
    placed_to a c (b ∷ l) (d ∷ k) e h =
        by_test (N.at_most a b) (N.at_most c d)
        (same_bool (N.at_most a b) (N.at_most c d) (order_to a b c d e h.0) (order_from a b c d e h.0))
        (placed_to a c l k e h.1)
      where
        by_test : (p q : Bool) → p ≡ q → AllTo (placed N a l) (placed N c k)
            → AllTo (cond p (b ∷ placed N a l) (a ∷ (b ∷ l))) (cond q (d ∷ placed N c k) (c ∷ (d ∷ k)))
        by_test true true same rest = (h.0, rest)
        by_test true false same rest = absurd (false≢true (sym same))
        by_test false true same rest = absurd (false≢true same)
        by_test false false same rest = (e, h)

    sorted_to : (l k : List C) → AllTo l k → AllTo (sorted_by N l) (sorted_by N k)
    sorted_to [] [] h = tt
    sorted_to [] (d ∷ k) h = absurd h
    sorted_to (a ∷ l) [] h = absurd h
    sorted_to (a ∷ l) (c ∷ k) h = placed_to a c (sorted_by N l) (sorted_by N k) h.0 (sorted_to l k h.1)

    length_to : (l k : List C) → AllTo l k → length k ≡ length l
    length_to [] [] h = refl
    length_to [] (d ∷ k) h = absurd h
    length_to (a ∷ l) [] h = absurd h
    length_to (a ∷ l) (c ∷ k) h = ap suc (length_to l k h.1)

    lesser_to : (l k m p : List C) → AllTo l m → AllTo k p → IsLesserBy N l k → IsLesserBy N m p
    lesser_to [] k m p h j less = absurd less
    lesser_to (a ∷ l) [] m p h j less = absurd less
    lesser_to (a ∷ l) (b ∷ k) [] p h j less = absurd h
    lesser_to (a ∷ l) (b ∷ k) (c ∷ m) [] h j less = absurd j
    lesser_to (a ∷ l) (b ∷ k) (c ∷ m) (d ∷ p) h j (inl less) = inl (λ le. less (order_from b a d c j.0 h.0 le))
    lesser_to (a ∷ l) (b ∷ k) (c ∷ m) (d ∷ p) h j (inr rest) =
        inr (
          (order_to a b c d h.0 j.0 rest.0.0, order_to b a d c j.0 h.0 rest.0.1),
          lesser_to l k m p h.1 j.1 rest.1,
        )

    pub before_to : (l k m p : List C) → AllTo l m → AllTo k p → ComesBeforeBy N (sorted_by N l) (sorted_by N k)
        → ComesBeforeBy N (sorted_by N m) (sorted_by N p)
    before_to l k m p h j before =
        let first = sorted_to l m h in
        let second = sorted_to k p j in (
          length_to (sorted_by N l) (sorted_by N m) first ∙ before.0
              ∙ sym (length_to (sorted_by N k) (sorted_by N p) second),
          lesser_to (sorted_by N l) (sorted_by N k) (sorted_by N m) (sorted_by N p) first second before.1,
        )

    pub mapped_to : (f h : ℕ → C) (a k : ℕ) → ((s : ℕ) → Equal N (h s) (to (f s)))
        → AllTo (map f (range_with_len a k)) (map h (range_with_len a k))
    mapped_to f h a zero each = tt
    mapped_to f h a (suc k) each = (each a, mapped_to f h (a + 1) k each)

    -- ---- games

    module _ (b : ℕ → C) (g : NumberGame C) where
      abbrev n : ℕ
      n = g.players

      abbrev new : NumberGame C
      new = changed_game N to b g

      -- shares z in the new game are shares y in the game
      pub record AreTheSame (y z : List C) : Type 0 where
        pub old_long : length y ≡ n
        pub new_long : length z ≡ n
        pub each : (i : ℕ) → i < n → Equal N (number_of N z i) (N.plus (to (number_of N y i)) (b i))

      pub total_changed : (v w : ℕ → C) (s : ℕ) → ((i : ℕ) → i < n → Equal N (w i) (N.plus (to (v i)) (b i)))
          → Equal N (total_over N n w s) (N.plus (to (total_over N n v s)) (total_over N n b s))
      total_changed v w s each =
          let f : ℕ → C = λ i. cond (has_player s i) (v i) N.zero in
          chain N L
          (total_below-equal N L n (λ i. cond (has_player s i) (w i) N.zero)
          (λ i. N.plus (to (f i)) (cond (has_player s i) (b i) N.zero)) (λ i lt. by_test (has_player s i) i lt))
          (chain N L (total_below-plus N L n (λ i. to (f i)) (λ i. cond (has_player s i) (b i) N.zero))
          (left N L (total_over N n b s) (turn N L (to_total f n))))
        where
          by_test : (c : Bool) (i : ℕ) → i < n
              → Equal N (cond c (w i) N.zero) (N.plus (to (cond c (v i) N.zero)) (cond c (b i) N.zero))
          by_test true i lt = each i lt
          by_test false i lt = turn N L (chain N L (L.neutral (to N.zero)) to_zero)

      module _ (y z : List C) (same : AreTheSame y z) where
        amounts : (s : ℕ) → Equal N (amount_of N z s) (N.plus (to (amount_of N y s)) (total_over N n b s))
        amounts s =
            chain N L (amount_at N L new z s same.new_long)
            (chain N L (total_changed (number_of N y) (number_of N z) s same.each)
            (left N L (total_over N n b s) (to_equal (turn N L (amount_at N L g y s same.old_long)))))

        -- an excess in the new unit
        pub excess_to : (s : ℕ) → Equal N (excess_in N new z s) (to (excess_in N g y s))
        excess_to s =
            let w = to (g.worth s) in
            let a = to (amount_of N y s) in
            let t = total_over N n b s in
            chain N L (right N L (N.plus w t) (chain N L (minus-equal N L (amounts s)) (minus-plus N L a t)))
            (chain N L (exchanged N L w t (N.minus a) (N.minus t))
            (chain N L (right N L (N.plus w (N.minus a)) (L.inverse t))
            (chain N L (L.neutral (N.plus w (N.minus a)))
            (chain N L (right N L w (turn N L (to_minus (amount_of N y s))))
            (turn N L (change.adds (g.worth s) (N.minus (amount_of N y s))))))))

        pub lists_to : AllTo (excess_list_in N g y) (excess_list_in N new z)
        lists_to = mapped_to (excess_in N g y) (excess_in N new z) 1 (2 ^ n - 2) excess_to

        -- ---- families

        efficient_to : IsEfficientIn N g y → IsEfficientIn N new z
        efficient_to e =
            let s = grand_coalition n in
            chain N L (amounts s) (left N L (total_over N n b s) (to_equal e))

        efficient_from : IsEfficientIn N new z → IsEfficientIn N g y
        efficient_from e =
            let s = grand_coalition n in
            let t = total_over N n b s in
            let here = chain N L (turn N L (amounts s)) e in (
              from_to (amount_of N y s) (g.worth s) (off N L (to (amount_of N y s)) (to (g.worth s)) t here.0),
              from_to (g.worth s) (amount_of N y s) (off N L (to (g.worth s)) (to (amount_of N y s)) t here.1),
            )

        -- the worth of player i alone, in the new game
        alone : (i : ℕ) → i < n → Equal N (new.worth (singleton i)) (N.plus (to (g.worth (singleton i))) (b i))
        alone i lt = right N L (to (g.worth (singleton i))) (alone_gets N L b i n lt)

        member_to : (family : Family) → InFamilyIn N family g y → InFamilyIn N family new z
        member_to Preimputations h = (same.new_long, efficient_to h.1)
        member_to Imputations h = (
          same.new_long,
          efficient_to h.1,
          λ i lt.
              through N L (alone i lt).0
              (through N L (L.shifts (to (g.worth (singleton i))) (to (number_of N y i)) (b i)
              (change.keeps (g.worth (singleton i)) (number_of N y i) (h.2 i lt))) (same.each i lt).1),
        )

        member_from : (family : Family) → InFamilyIn N family new z → InFamilyIn N family g y
        member_from Preimputations h = (same.old_long, efficient_from h.1)
        member_from Imputations h = (
          same.old_long,
          efficient_from h.1,
          λ i lt.
              from_to (g.worth (singleton i)) (number_of N y i)
              (off N L (to (g.worth (singleton i))) (to (number_of N y i)) (b i) (through N L (alone i lt).1
              (through N L (h.2 i lt) (same.each i lt).0))),
        )

      -- ---- shares there and back

      changed_same : (y : List C) → length y ≡ n → AreTheSame y (changed_shares N to b y)
      changed_same y long = record {
        old_long = long;
        new_long = length-map-range_with_len (λ i. N.plus (to (number_of N y i)) (b i)) 0 (length y) ∙ long;
        each = λ i lt.
            equal_path N L (number_of N (changed_shares N to b y) i) (N.plus (to (number_of N y i)) (b i))
            (get_or-map-range_with_len (λ i. N.plus (to (number_of N y i)) (b i)) 0 (length y) i i N.zero
            (omega (arith, lt, long)) (omega arith));
      }

      abbrev old_shares : List C → List C
      old_shares z = map (λ i. back (N.plus (number_of N z i) (N.minus (b i)))) (range_with_len 0 n)

      old_same : (z : List C) → length z ≡ n → AreTheSame (old_shares z) z
      old_same z long = record {
        old_long = length-map-range_with_len (λ i. back (N.plus (number_of N z i) (N.minus (b i)))) 0 n;
        new_long = long;
        each = λ i lt.
            let v = N.plus (number_of N z i) (N.minus (b i)) in
            let here = equal_path N L (number_of N (old_shares z) i) (back v)
            (get_or-map-range_with_len (λ i. back (N.plus (number_of N z i) (N.minus (b i)))) 0 n i i N.zero lt
            (omega arith)) in
            turn N L
            (chain N L (left N L (b i) (chain N L (to_equal here) (change.there v)))
            (chain N L (L.commutes v (b i)) (forth N L (b i) (number_of N z i))));
      }

      pub equivalent : (family : Family) (y : List C) → IsNucleolusIn N family g y
          → IsNucleolusIn N family new (changed_shares N to b y)
      equivalent family y is =
          let long = length_in N L g family y is.0 in
          let x = changed_shares N to b y in
          let first = changed_same y long in (
            member_to y x first family is.0,
            λ z member differs.
                let w = old_shares z in
                let second = old_same z (length_in N L new family z member) in
                before_to (excess_list_in N g y) (excess_list_in N g w) (excess_list_in N new x)
                (excess_list_in N new z)
                (lists_to y x first) (lists_to w z second)
                (is.1 w (member_from w z second family member)
                (λ same. differs (λ i lt.
                chain N L (first.each i lt)
                (chain N L (left N L (b i) (to_equal (same i lt))) (turn N L (second.each i lt)))))),
          )
