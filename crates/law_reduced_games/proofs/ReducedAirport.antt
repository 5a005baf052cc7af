-- The reduced game of an airport. Some who stay have two choices: without the one who goes, or with it, who then brings
-- what it pays. The lesser cost rises with the greatest cost among those who stay, so it is the greatest of the lesser
-- costs of each.
use Rattle.std.proofs.Common.{◌≡◌, ◌≢◌, ℕ, ◌-◌, ◌^◌, ◌<◌, ◌≤◌, max, Bool, true}
use Rattle.std.proofs.Common.{false, cond, not, ◌&&◌, nat_eq, List}
use Rattle.std.proofs.Common.{length, map, unsigned_abs, slice_index, ℤ, pos, neg_ℤ, ◌-ℤ◌, ◌*ℤ◌, ◌≤ℤ◌, sym, ap, ◌∙◌}
use Rattle.std.proofs.Common.{inl, inr, arith}
use Rattle.std.specs.Int.{int_min}
use Rattle.std.specs.List.{range_with_len}
use Rattle.std.proofs.lemmas.Bool.{false≢true}
use Rattle.std.proofs.lemmas.Int.{ints, clamps, by_lt_z}
use Rattle.std.proofs.lemmas.List.FromFn.{get_or-map-range_with_len, length-map-range_with_len}
use Rattle.definitions.proofs.Ring.{linear, mul-leℤ, mul-nonnegativeℤ}
use Rattle.definitions.proofs.Casts.{pos-le}
use Rattle.definitions.proofs.Cases.{same_or_other, true_or_false, and_parts, from_nat_eq, not_true, int_min-left}
use Rattle.definitions.proofs.Cases.{int_min-right}
use Rattle.definitions.proofs.Masks.{grand_coalition-within, singleton-within}
use Rattle.definitions.proofs.Members.{has_player-grand_coalition, has_player-complement, has_player-singleton}
use Rattle.definitions.proofs.Members.{sum_below-same, has_player-singleton_other, sum_over-singleton}
use Rattle.definitions.proofs.Splits.{some_below-true}
use Rattle.definitions.proofs.SumsOver.{amount-at}
use Rattle.definitions.specs.Classes.{greatest_cost, airport_worth}
use Rattle.definitions.specs.Coalitions.{has_player, singleton, grand_coalition, some_below}
use Rattle.definitions.specs.Games.{Allocation, share, amount, InCore}
use Rattle.law_answers.specs.ClassGames.{airport_game}
use Rattle.law_answers.proofs.AtPlayer.{sum_over-at_player}
use Rattle.law_answers.proofs.Numbers.{pos-unsigned_abs}
use Rattle.law_answers.proofs.RenumberedCoalitions.{coalition_where-has}
use Rattle.law_answers.specs.Airports.{pays}
use Rattle.airport.proofs.GreatestCosts.{greatest_cost-at_least, greatest_cost-at_most, greatest_cost-empty}
use Rattle.law_reduced_games.specs.ReducedGames.{AreSome, staying, staying_shares, worth_left, amount_leaving}
use Rattle.law_reduced_games.specs.ReducedGames.{IsReducedGame}
use Rattle.law_reduced_games.specs.AirportsLeft.{cost_left, IsAirportLeft, AirportsAreLeft, ReducedAirport}
use Rattle.law_reduced_games.proofs.Staying.{staying_has, staying_all, staying_old}
use Rattle.law_reduced_games.proofs.Staying.{old_numbers, old_within, staying_amount}
use Rattle.law_reduced_games.proofs.Staying.{some_stay}
use Rattle.law_reduced_games.proofs.GreatestMembers.{greatest_member}
use Rattle.law_reduced_games.proofs.Leaving.{leaving_is, gone, spread_either, staying_others}
use Rattle.theorems.proofs.Products.{products}

-- ---- the lesser cost

-- q times the cost, or q times the greater of two costs less p
abbrev lesser : ℤ → ℕ → ℤ → ℕ → ℤ
lesser q d p c = int_min (q *ℤ pos c) (q *ℤ pos (max c d) -ℤ p)

min_low : (a b : ℤ) → (int_min a b ≤ℤ a) × (int_min a b ≤ℤ b)
min_low a b = (omega (arith, ints, clamps), omega (arith, ints, clamps))

min_rises : (a b c d : ℤ) → a ≤ℤ c → b ≤ℤ d → int_min a b ≤ℤ int_min c d
min_rises a b c d h k = omega (arith, ints, clamps)

lesser_rises : (q : ℤ) (d : ℕ) (p : ℤ) (b c : ℕ) → pos 0 ≤ℤ q → b ≤ c → lesser q d p b ≤ℤ lesser q d p c
lesser_rises q d p b c low le =
    let first = mul-leℤ q (pos b) (pos c) low (pos-le b c le) in
    let second = mul-leℤ q (pos (max b d)) (pos (max c d)) low (pos-le (max b d) (max c d) (omega (arith, le))) in
    min_rises (q *ℤ pos b) (q *ℤ pos (max b d) -ℤ p) (q *ℤ pos c) (q *ℤ pos (max c d) -ℤ p) first
    (omega (arith, linear, second))

module _ (m : ℕ) (who : ℕ → ℕ) (costs : List ℕ) (x : Allocation) (l : ℕ) (a : AreSome (length costs) m who)
    (core : InCore (airport_game costs) x) (player : l < length costs) (goes : (k : ℕ) → k < m → who k ≢ l)
    (stay : (i : ℕ) → i < length costs → i ≢ l → (k : ℕ) × (k < m) × (who k ≡ i)) where
  abbrev n : ℕ
  n = length costs

  abbrev cost : ℕ → ℕ
  cost i = slice_index costs i

  -- of those who stay
  abbrev own : ℕ → ℕ
  own t = greatest_cost m (λ k. cost (who k)) t

  den_low : pos 0 ≤ℤ x.den
  den_low = omega (arith, linear, core.0.1)

  -- ---- who goes

  -- the members of s who go are player l, or nobody
  leaves : (s : ℕ) → amount_leaving m who x s ≡ cond (has_player s l) (share x l) (pos 0)
  leaves s =
      omega (arith, linear, amount-at (airport_game costs) x s core.0, staying_amount m who x (staying m who s))
      ∙ leaving_is n m who a (share x) s
      ∙ sum_below-same n (λ i. cond (has_player s i) (gone n m who a (share x) i) (pos 0))
      (λ i. cond (has_player s i) (cond (has_player (singleton l) i) (share x l) (pos 0)) (pos 0))
      (λ i lt. ap (λ z. cond (has_player s i) z (pos 0)) (gone_is i lt))
      ∙ sum_over-at_player n s l (share x l) player
    where
      left_over : (u v w : ℤ) → v ≡ w → pos 1 *ℤ u -ℤ pos 1 *ℤ v ≡ u -ℤ w
      left_over u v w e = omega (products, e)

      gone_is : (i : ℕ) → i < n
          → gone n m who a (share x) i ≡ cond (has_player (singleton l) i) (share x l) (pos 0)
      gone_is i lt = elim (spread_either n m who a (share x) i m a.once) [
        | inl none ↦ elim (same_or_other i l) [
          | inl same ↦
              left_over (share x i) _ (pos 0) none.0
              ∙ omega (
                products,
                ap (share x) same,
                ap (λ (b : Bool). cond b (share x l) (pos 0))
                    (ap (has_player (singleton l)) same ∙ has_player-singleton l),
              )
          | inr other ↦ absurd (let k = stay i lt other in none.1 k.0 k.1 k.2)
        ]
        | inr one ↦
            left_over (share x i) _ (share x i) one.0
            ∙ omega (
              products,
              ap (λ (b : Bool). cond b (share x l) (pos 0))
                  (has_player-singleton_other l i (λ e. goes one.1.0 one.1.1 (one.1.2 ∙ e))),
            )
      ]

  -- ---- the greatest cost of a coalition of which t stays

  own_within : (s t : ℕ) → staying m who s ≡ t → own t ≤ greatest_cost n cost s
  own_within s t is =
      greatest_cost-at_most m (λ k. cost (who k)) t (greatest_cost n cost s)
      (λ k lt has. greatest_cost-at_least n cost s (who k) (a.players k lt)
      (sym (staying_has m who s k lt) ∙ ap (λ r. has_player r k) is ∙ has))

  member_cost : (s t i : ℕ) → staying m who s ≡ t → i < n → has_player s i ≡ true → i ≢ l → cost i ≤ own t
  member_cost s t i is lt has other =
      let k = stay i lt other in
      let low = greatest_cost-at_least m (λ k. cost (who k)) t k.0 k.1
      (ap (λ r. has_player r k.0) (sym is) ∙ staying_has m who s k.0 k.1 ∙ ap (has_player s) k.2 ∙ has) in
      omega (arith, low, ap cost k.2)

  cost_without : (s t : ℕ) → staying m who s ≡ t → has_player s l ≡ false → greatest_cost n cost s ≡ own t
  cost_without s t is lacks =
      let low = own_within s t is in
      let high = greatest_cost-at_most n cost s (own t)
      (λ i lt has. member_cost s t i is lt has (λ e. false≢true (sym lacks ∙ ap (has_player s) (sym e) ∙ has))) in
      omega (arith, low, high)

  cost_with : (s t : ℕ) → staying m who s ≡ t → has_player s l ≡ true
      → greatest_cost n cost s ≡ max (own t) (cost l)
  cost_with s t is holds =
      let low = own_within s t is in
      let there = greatest_cost-at_least n cost s l player holds in
      let high =
      greatest_cost-at_most n cost s (max (own t) (cost l)) (λ i lt has. elim (same_or_other i l) [
        | inl same ↦ omega (arith, ap cost same)
        | inr other ↦ (let le = member_cost s t i is lt has other in omega (arith, le))
      ]) in
      omega (arith, low, there, high)

  -- ---- what it keeps

  abbrev kept : ℕ → ℤ
  kept s = worth_left m who (airport_game costs) x s

  abbrev with_l : ℕ → ℤ
  with_l t = x.den *ℤ pos (max (own t) (cost l)) -ℤ pays x l

  kept_without : (s t : ℕ) → staying m who s ≡ t → has_player s l ≡ false
      → kept s ≡ neg_ℤ (x.den *ℤ pos (own t))
  kept_without s t is lacks =
      omega (
        products,
        leaves s,
        ap (λ (b : Bool). cond b (share x l) (pos 0)) lacks,
        ap (λ c. x.den *ℤ neg_ℤ (pos c)) (cost_without s t is lacks),
      )

  kept_with : (s t : ℕ) → staying m who s ≡ t → has_player s l ≡ true → kept s ≡ neg_ℤ (with_l t)
  kept_with s t is holds =
      omega (
        products,
        leaves s,
        ap (λ (b : Bool). cond b (share x l) (pos 0)) holds,
        ap (λ c. x.den *ℤ neg_ℤ (pos c)) (cost_with s t is holds),
      )

  -- those alone who stay
  old_lacks : (t : ℕ) → has_player (old_numbers n m who t) l ≡ false
  old_lacks t =
      coalition_where-has n (λ i. some_below m (λ k. nat_eq (who k) i && has_player t k)) l player
      ∙ not_true (some_below m (λ k. nat_eq (who k) l && has_player t k))
      (λ some.
      let found = some_below-true m (λ k. nat_eq (who k) l && has_player t k) some in
      goes found.0 found.1
      (from_nat_eq (who found.0) l (and_parts (nat_eq (who found.0) l) (has_player t found.0) found.2).0))

  -- together they get what the others leave, and no less than without
  all_cheaper : with_l (grand_coalition m) ≤ℤ (x.den *ℤ pos (own (grand_coalition m)))
  all_cheaper =
      let every = grand_coalition n in
      let t = grand_coalition m in
      let s = old_numbers n m who t in
      let is = staying_old n m who t a (grand_coalition-within m) in
      let alone = cost_without s t is (old_lacks t) in
      let whole = cost_with every t (staying_all n m who a) (has_player-grand_coalition n l player) in
      let s_leaves = leaves s in
      let all_leave = leaves every in
      let not_blocked = by_lt_z (amount x s) (x.den *ℤ airport_worth costs s)
      (λ blocks. absurd (core.2 s (old_within n m who t) blocks)) (λ le. le) in
      omega (
        products,
        core.1,
        ap (λ c. x.den *ℤ neg_ℤ (pos c)) whole,
        ap (λ c. x.den *ℤ neg_ℤ (pos c)) alone,
        not_blocked,
        s_leaves,
        all_leave,
        ap (λ (b : Bool). cond b (share x l) (pos 0)) (old_lacks t),
        ap (λ (b : Bool). cond b (share x l) (pos 0)) (has_player-grand_coalition n l player),
        ap (amount (staying_shares m who x)) is,
        ap (amount (staying_shares m who x)) (staying_all n m who a),
      )

  -- ---- the costs that are left

  -- who goes pays at most its cost alone
  at_most_alone : pays x l ≤ℤ (x.den *ℤ pos (cost l))
  at_most_alone =
      let s = singleton l in
      let within = singleton-within n l player in
      let high : greatest_cost n cost s ≤ cost l =
      greatest_cost-at_most n cost s (cost l) (λ i lt has. elim (same_or_other i l) [
        | inl same ↦ omega (arith, ap cost same)
        | inr other ↦ absurd (false≢true (sym (has_player-singleton_other l i other) ∙ has))
      ]) in
      let scaled = mul-leℤ x.den (pos (greatest_cost n cost s)) (pos (cost l)) den_low
      (pos-le (greatest_cost n cost s) (cost l) high) in
      omega (
        products,
        by_lt_z (amount x s) (x.den *ℤ airport_worth costs s) (λ blocks. absurd (core.2 s within blocks))
            (λ le. le),
        scaled,
        amount-at (airport_game costs) x s core.0,
        sum_over-singleton n l (share x) player,
      )

  cost_left_low : (i : ℕ) → pos 0 ≤ℤ cost_left costs x l i
  cost_left_low i =
      let first = mul-nonnegativeℤ x.den (pos (cost i)) den_low (omega (arith, linear)) in
      let more = mul-leℤ x.den (pos (cost l)) (pos (max (cost i) (cost l))) den_low
      (pos-le (cost l) (max (cost i) (cost l)) (omega arith)) in
      both (x.den *ℤ pos (cost i)) (x.den *ℤ pos (max (cost i) (cost l)) -ℤ pays x l) first
      (let least = at_most_alone in omega (arith, linear, more, least))
    where
      both : (u v : ℤ) → pos 0 ≤ℤ u → pos 0 ≤ℤ v → pos 0 ≤ℤ int_min u v
      both u v h k = omega (arith, ints, clamps)

  pub airport_left : (left_costs : List ℕ) × IsAirportLeft m who costs x l left_costs
  airport_left = (
    map (λ k. unsigned_abs (cost_left costs x l (who k))) (range_with_len 0 m),
    record {
      player = player;
      goes = goes;
      stay = stay;
      players = length-map-range_with_len (λ k. unsigned_abs (cost_left costs x l (who k))) 0 m;
      same = λ k lt.
          ap pos (get_or-map-range_with_len (λ k. unsigned_abs (cost_left costs x l (who k))) 0 m k k 0 lt
          (omega arith))
          ∙ pos-unsigned_abs (cost_left costs x l (who k)) (cost_left_low (who k));
    },
  )

  module _ (left_costs : List ℕ) (e : IsAirportLeft m who costs x l left_costs) where
    abbrev left_cost : ℕ → ℕ
    left_cost k = slice_index left_costs k

    abbrev lesser_of : ℕ → ℤ
    lesser_of c = lesser x.den (cost l) (pays x l) c

    -- the greatest of the lesser costs is the lesser of the greatest
    left_greatest : (t : ℕ) → 0 < t → t < 2 ^ m → pos (greatest_cost m left_cost t) ≡ lesser_of (own t)
    left_greatest t some within =
        let k = greatest_member m left_cost t some within in
        let j = greatest_member m (λ k. cost (who k)) t some within in
        let up = lesser_rises x.den (cost l) (pays x l) (cost (who k.0)) (own t) den_low
        (greatest_cost-at_least m (λ k. cost (who k)) t k.0 k.1 k.2) in
        let down =
        pos-le (left_cost j.0) (greatest_cost m left_cost t) (greatest_cost-at_least m left_cost t j.0 j.1 j.2) in
        omega (products, ap pos k.3, e.same k.0 k.1, up, down, e.same j.0 j.1, ap lesser_of j.3)

    worth_is : (t : ℕ) → 0 < t → t < 2 ^ m → airport_worth left_costs t ≡ neg_ℤ (lesser_of (own t))
    worth_is t some within =
        ap (λ c. neg_ℤ (pos (greatest_cost c left_cost t))) e.players ∙ ap neg_ℤ (left_greatest t some within)

    at_most : (s t : ℕ) → 0 < t → t < 2 ^ m → staying m who s ≡ t → kept s ≤ℤ airport_worth left_costs t
    at_most s t some within is =
        let low = min_low (x.den *ℤ pos (own t)) (with_l t) in
        elim (true_or_false (has_player s l)) [
          | inl holds ↦ omega (arith, linear, kept_with s t is holds, worth_is t some within, low.1)
          | inr lacks ↦ omega (arith, linear, kept_without s t is lacks, worth_is t some within, low.0)
        ]

    attained : (t : ℕ) → 0 < t → t < 2 ^ m
        → (s : ℕ) × ((s < 2 ^ n) × (staying m who s ≡ t)) × (airport_worth left_costs t ≡ kept s)
    attained t some within =
        by_lt_z (x.den *ℤ pos (own t)) (with_l t)
        (λ less.
        let s = old_numbers n m who t in
        let is = staying_old n m who t a within in
        let first = int_min-left (x.den *ℤ pos (own t)) (with_l t) (omega (arith, linear, less)) in (
          s,
          (old_within n m who t, is),
          omega (arith, linear, worth_is t some within, first, kept_without s t is (old_lacks t)),
        ))
        (λ le.
        let u = grand_coalition m - t in
        let w = old_numbers n m who u in
        let s = grand_coalition n - w in
        let w_in = old_within n m who u in
        let w_is : staying m who w ≡ u = staying_old n m who u a (omega (arith, grand_coalition-within m)) in
        let is : staying m who s ≡ t =
        staying_others n m who a w w_in ∙ ap (λ z. grand_coalition m - z) w_is ∙ omega (arith, within) in
        let holds : has_player s l ≡ true = has_player-complement n w l w_in player ∙ ap not (old_lacks u) in
        let second = int_min-right (x.den *ℤ pos (own t)) (with_l t) le in (
          s,
          (omega (arith, grand_coalition-within n), is),
          omega (arith, linear, worth_is t some within, second, kept_with s t is holds),
        ))

    pub reduced : IsReducedGame m who (airport_game costs) x (airport_game left_costs)
    reduced = record {
      players = e.players;
      nobody = ap (λ c. neg_ℤ (pos c)) (greatest_cost-empty (length left_costs) left_cost);
      all = (let t = grand_coalition m in
          let second = int_min-right (x.den *ℤ pos (own t)) (with_l t) all_cheaper in
          let whole =
          kept_with (grand_coalition n) t (staying_all n m who a) (has_player-grand_coalition n l player) in
          omega (arith, linear, worth_is t (some_stay m a.some) (grand_coalition-within m), second, whole));
      some = λ t some less.
          (attained t some (omega (arith, less)), λ s p. at_most s t some (omega (arith, less)) p.1);
    }

pub airports_are_left : AirportsAreLeft
airports_are_left m who costs x l a core player goes stay = airport_left m who costs x l a core player goes stay

pub reduced_airport : ReducedAirport
reduced_airport m who costs left_costs x l a core e =
    reduced m who costs x l a core e.player e.goes e.stay left_costs e
