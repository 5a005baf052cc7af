-- In the game of a coalition all others add nothing. What each member gets more than its Shapley share there is the
-- same for all members, if that is so of the coalitions with one member less; and together they get nothing more.
use Rattle.std.proofs.Common.{◌≡◌, ◌≢◌, ℕ, zero, suc, ◌+◌, ◌-◌, ◌^◌, ◌<◌, Bool, true, false, ◌&&◌, cond, ℤ, pos}
use Rattle.std.proofs.Common.{◌-ℤ◌, ◌*ℤ◌, ◌<ℤ◌, refl, sym, ap, ◌∙◌, inl, inr, arith}
use lib.IntN.{*ℤ_comm}
use Rattle.definitions.proofs.Cases.{same_or_other, true_or_false, and_true, and_false}
use Rattle.definitions.proofs.Halves.{size_below}
use Rattle.definitions.proofs.Masks.{grand_coalition-within}
use Rattle.definitions.proofs.Members.{has_player-empty, has_player-grand_coalition, sum_below-same, sum_below-zero}
use Rattle.definitions.proofs.Members.{sum_over-combined}
use Rattle.definitions.proofs.Parts.{has_player-more_other, has_player-within, more-lt}
use Rattle.definitions.proofs.Ring.{ring_laws, linear, mul-subℤ, mul-cancelℤ, mul-positiveℤ, mul-zeroℤ, mul_left_commℤ}
use Rattle.definitions.proofs.SumsOver.{amount-at, amount-empty}
use Rattle.definitions.specs.Sums.{sum_below}
use Rattle.definitions.specs.Coalitions.{has_player, grand_coalition, sum_over}
use Rattle.definitions.specs.Games.{Game, Allocation, share, amount}
use Rattle.definitions.specs.Players.{AddsNothing}
use Rattle.definitions.specs.Shapley.{total_over, orders, shapley_total, factorial, IsShapley}
use Rattle.shapley.specs.Subsets.{orders_with, subset_term}
use Rattle.shapley.proofs.Orders.{orders_are_subsets}
use Rattle.law_answers.proofs.BalancedContributions.{contributions_are_balanced, totals-fall_alike}
use Rattle.law_answers.proofs.LevelledSums.{all_same}
use Rattle.law_answers.proofs.RenumberedCoalitions.{coalition_where-within, coalition_where-has, same_below}
use Rattle.law_answers.proofs.ShapleyDummies.{null-total, nothing_gets_nothing}
use Rattle.law_answers.proofs.ShapleyValuesExist.{shapley_exists}
use Rattle.law_answers.proofs.SharesAddToAll.{sum-totals, efficient, amount-all}
use Rattle.law_answers.proofs.Withouts.{without}
use Rattle.law_answers.specs.Newcomers.{without_player, AreBalancedShares}
use Rattle.law_answers.specs.Newcomers.{BalancedSharesAreShapley, BalancedSharesExist}
use Rattle.law_answers.specs.Renumbering.{coalition_where}

-- ---- a coalition with one member less

less : (n c j : ℕ) → c < 2 ^ n → j < n → has_player c j ≡ true
    → (c - 2 ^ j < c)
    × (has_player (c - 2 ^ j) j ≡ false)
    × ((i : ℕ) → i ≢ j → has_player (c - 2 ^ j) i ≡ has_player c i)
less n c j lt hj has =
    let w = without n c j lt hj has in
    let r = w.0 in
    let lacks = w.2 in
    let parts = w.3 in
    let some = grand_coalition-within j in
    let back : c - 2 ^ j ≡ r = omega (arith, parts) in (
      omega (arith, parts, some),
      ap (λ (s : ℕ). has_player s j) back ∙ lacks,
      λ i ne. ap (λ (s : ℕ). has_player s i) back ∙ sym (has_player-more_other r j i lacks ne)
          ∙ ap (λ (s : ℕ). has_player s i) (sym parts),
    )

-- ---- worths that are the same have the same totals

total-same : (n i : ℕ) (u v : ℕ → ℤ) → i < n → ((s : ℕ) → s < 2 ^ n → u s ≡ v s)
    → total_over u i (orders n) ≡ total_over v i (orders n)
total-same n i u v lt same =
    orders_are_subsets (record { players = n; worth = u }) i lt
    ∙ sum_below-same (2 ^ n) (subset_term u n i) (subset_term v n i) (λ s h. at s h (has_player s i) refl)
    ∙ sym (orders_are_subsets (record { players = n; worth = v }) i lt)
  where
    at : (s : ℕ) → s < 2 ^ n → (b : Bool) → has_player s i ≡ b
        → cond b (pos 0) (pos (orders_with n (size_below n s)) *ℤ (u (s + 2 ^ i) -ℤ u s))
        ≡ cond b (pos 0) (pos (orders_with n (size_below n s)) *ℤ (v (s + 2 ^ i) -ℤ v s))
    at s h true e = refl
    at s h false e =
        let k = pos (orders_with n (size_below n s)) in
        ap (λ (z : ℤ). k *ℤ (z -ℤ u s)) (same (s + 2 ^ i) (more-lt n s i h lt e))
        ∙ ap (λ (z : ℤ). k *ℤ (v (s + 2 ^ i) -ℤ z)) (same s h)

-- numbers that are 0 outside c
over_all : (n c : ℕ) (a : ℕ → ℤ) → ((i : ℕ) → i < n → has_player c i ≡ false → a i ≡ pos 0)
    → sum_over n a c ≡ sum_below n a
over_all n c a none =
    sum_below-same n (λ i. cond (has_player c i) (a i) (pos 0)) a
    (λ i lt. at (has_player c i) (a i) (none i lt))
  where
    at : (b : Bool) (z : ℤ) → (b ≡ false → z ≡ pos 0) → cond b z (pos 0) ≡ z
    at true z h = refl
    at false z h = sym (h refl)

-- shares a and c over p, of which b over q and e over r are left, whose totals are t and s
level : (f a p b q c e r t s : ℤ) → pos 0 <ℤ q → pos 0 <ℤ r → f *ℤ b ≡ q *ℤ t → f *ℤ e ≡ r *ℤ s
    → (a *ℤ q -ℤ b *ℤ p) *ℤ r ≡ (c *ℤ r -ℤ e *ℤ p) *ℤ q → f *ℤ a -ℤ p *ℤ t ≡ f *ℤ c -ℤ p *ℤ s
level f a p b q c e r t s hq hr first second alike =
    mul-cancelℤ (q *ℤ r) (f *ℤ a -ℤ p *ℤ t) (f *ℤ c -ℤ p *ℤ s) (mul-positiveℤ q r hq hr)
    (side a b q r t first ∙ ap (◌*ℤ◌ f) alike ∙ sym (turn q r (f *ℤ c -ℤ p *ℤ s) ∙ side c e r q s second))
  where
    turn : (u v w : ℤ) → (u *ℤ v) *ℤ w ≡ (v *ℤ u) *ℤ w
    turn u v w = ap (λ (z : ℤ). z *ℤ w) (*ℤ_comm u v)

    side : (a b q r t : ℤ) → f *ℤ b ≡ q *ℤ t → (q *ℤ r) *ℤ (f *ℤ a -ℤ p *ℤ t) ≡ f *ℤ ((a *ℤ q -ℤ b *ℤ p) *ℤ r)
    side a b q r t same =
        let one = ap (◌*ℤ◌ f) (*ℤ_comm (a *ℤ q -ℤ b *ℤ p) r ∙ mul-subℤ r (a *ℤ q) (b *ℤ p))
        ∙ mul-subℤ f (r *ℤ (a *ℤ q)) (r *ℤ (b *ℤ p)) in
        let two = mul-subℤ (q *ℤ r) (f *ℤ a) (p *ℤ t) in
        let three = last ∙ ap (◌*ℤ◌ (r *ℤ p)) same ∙ back in
        omega (arith, linear, one, two, first_two, three)
      where
        first_two : f *ℤ (r *ℤ (a *ℤ q)) ≡ (q *ℤ r) *ℤ (f *ℤ a)
        first_two = simp ring_laws

        last : f *ℤ (r *ℤ (b *ℤ p)) ≡ (r *ℤ p) *ℤ (f *ℤ b)
        last = simp ring_laws

        back : (r *ℤ p) *ℤ (q *ℤ t) ≡ (q *ℤ r) *ℤ (p *ℤ t)
        back = simp ring_laws

module _ (g : Game) where
  abbrev n : ℕ
  n = g.players

  abbrev both : ℕ → ℕ → ℕ
  both c s = coalition_where n (λ i. has_player c i && has_player s i)

  -- the game of the members of c, in which all others add nothing
  abbrev among : ℕ → Game
  among c = record { players = n; worth = λ s. g.worth (both c s) }

  both-has : (c s i : ℕ) → i < n → has_player (both c s) i ≡ (has_player c i && has_player s i)
  both-has c s i lt = coalition_where-has n (λ i. has_player c i && has_player s i) i lt

  both-within : (c s : ℕ) → both c s < 2 ^ n
  both-within c s = coalition_where-within n (λ i. has_player c i && has_player s i)

  both-is : (c s d t : ℕ)
      → ((i : ℕ) → i < n → (has_player c i && has_player s i) ≡ (has_player d i && has_player t i))
      → both c s ≡ both d t
  both-is c s d t same =
      same_below n (both c s) (both d t) (both-within c s) (both-within d t)
      (λ i lt. both-has c s i lt ∙ same i lt ∙ sym (both-has d t i lt))

  with_all : (c : ℕ) → c < 2 ^ n → both c (grand_coalition n) ≡ c
  with_all c within =
      same_below n (both c (grand_coalition n)) c (both-within c (grand_coalition n)) within
      (λ i lt. both-has c (grand_coalition n) i lt
      ∙ ap (λ (b : Bool). has_player c i && b) (has_player-grand_coalition n i lt) ∙ and_true (has_player c i))

  of_all : (s : ℕ) → s < 2 ^ n → both (grand_coalition n) s ≡ s
  of_all s within =
      same_below n (both (grand_coalition n) s) s (both-within (grand_coalition n) s) within
      (λ i lt. both-has (grand_coalition n) s i lt
      ∙ ap (λ (b : Bool). b && has_player s i) (has_player-grand_coalition n i lt))

  with_nobody : (c : ℕ) → both c 0 ≡ 0
  with_nobody c =
      let some = grand_coalition-within n in
      same_below n (both c 0) 0 (both-within c 0) (omega (arith, some))
      (λ i lt. both-has c 0 i lt
      ∙ ap (λ (b : Bool). has_player c i && b) (has_player-empty i) ∙ and_false (has_player c i)
      ∙ sym (has_player-empty i))

  outside : (c k : ℕ) → has_player c k ≡ false → AddsNothing (among c) k
  outside c k out s within lacks = ap g.worth (both-is c (s + 2 ^ k) c s (λ i lt. elim (same_or_other i k) [
    | inl same ↦
        let none = ap (has_player c) same ∙ out in
        ap (λ (b : Bool). b && has_player (s + 2 ^ k) i) none ∙ sym (ap (λ (b : Bool). b && has_player s i) none)
    | inr other ↦ ap (λ (b : Bool). has_player c i && b) (has_player-more_other s k i lacks other)
  ]))

  module _ (c j : ℕ) (within : c < 2 ^ n) (hj : j < n) (has : has_player c j ≡ true) where
    -- nobody of both is j
    no_more : (s t i : ℕ) → has_player t j ≡ false → i ≡ j
        → (has_player c i && has_player t i) ≡ (has_player (c - 2 ^ j) i && has_player s i)
    no_more s t i lacks same =
        let gone = ap (has_player (c - 2 ^ j)) same ∙ (less n c j within hj has).1 in
        ap (λ (b : Bool). has_player c i && b) (ap (has_player t) same ∙ lacks) ∙ and_false (has_player c i)
        ∙ sym (ap (λ (b : Bool). b && has_player s i) gone)

    -- without j it is the game of the others
    leaves : (s : ℕ) → s < 2 ^ n → (without_player j (among c)).worth s ≡ (among (c - 2 ^ j)).worth s
    leaves s hs = elim (true_or_false (has_player s j)) [
      | inl there ↦
          let k = less n s j hs hj there in
          ap (λ (b : Bool). cond b ((among c).worth (s - 2 ^ j)) ((among c).worth s)) there
          ∙ ap g.worth (both-is c (s - 2 ^ j) (c - 2 ^ j) s (λ i lt. elim (same_or_other i j) [
            | inl same ↦ no_more s (s - 2 ^ j) i k.1 same
            | inr other ↦ ap (λ (b : Bool). has_player c i && b) (k.2 i other)
                ∙ ap (λ (b : Bool). b && has_player s i) (sym ((less n c j within hj has).2 i other))
          ]))
      | inr gone ↦
          ap (λ (b : Bool). cond b ((among c).worth (s - 2 ^ j)) ((among c).worth s)) gone
          ∙ ap g.worth (both-is c s (c - 2 ^ j) s (λ i lt. elim (same_or_other i j) [
            | inl same ↦ no_more s s i gone same
            | inr other ↦ ap (λ (b : Bool). b && has_player s i) (sym ((less n c j within hj has).2 i other))
          ]))
    ]

    total-leaves : (i : ℕ) → i < n
        → shapley_total (without_player j (among c)) i ≡ shapley_total (among (c - 2 ^ j)) i
    total-leaves i lt = total-same n i (without_player j (among c)).worth (among (c - 2 ^ j)).worth lt leaves

  -- the totals of the members add to its worth
  totals-over : (c : ℕ) → c < 2 ^ n → g.worth 0 ≡ pos 0
      → sum_over n (shapley_total (among c)) c ≡ pos (factorial n) *ℤ g.worth c
  totals-over c within nobody =
      over_all n c (shapley_total (among c)) (λ i lt out. null-total (among c) i lt (outside c i out))
      ∙ sum-totals (among c)
      ∙ ap (λ (s : ℕ). pos (factorial n) *ℤ (g.worth s -ℤ g.worth (both c 0))) (with_all c within)
      ∙ ap (λ (z : ℤ). pos (factorial n) *ℤ (g.worth c -ℤ z)) (ap g.worth (with_nobody c) ∙ nobody)
      ∙ ap (◌*ℤ◌ (pos (factorial n))) (whole (g.worth c))
    where
      whole : (v : ℤ) → v -ℤ pos 0 ≡ v
      whole v = omega (arith, linear)

  -- ---- such shares are Shapley's

  module _ (x : ℕ → Allocation) (h : AreBalancedShares g x) where
    abbrev f : ℤ
    f = pos (factorial n)

    -- what a member gets above its Shapley share
    abbrev above : ℕ → ℕ → ℤ
    above c i = f *ℤ share (x c) i -ℤ (x c).den *ℤ shapley_total (among c) i

    abbrev Settled : ℕ → Type 0
    Settled c =
        (i : ℕ) → i < n → has_player c i ≡ true → f *ℤ share (x c) i ≡ (x c).den *ℤ shapley_total (among c) i

    positive : (c : ℕ) → c < 2 ^ n → pos 0 <ℤ (x c).den
    positive c within = let one = (h.shares c within).1 in omega (arith, linear, one)

    nobody : g.worth 0 ≡ pos 0
    nobody =
        let some = grand_coalition-within n in
        let none = amount-empty (x 0) in
        let zero_in = h.efficient 0 (omega (arith, some)) in
        mul-cancelℤ (x 0).den (g.worth 0) (pos 0) (positive 0 (omega (arith, some)))
        (sym zero_in ∙ none ∙ sym (mul-zeroℤ (x 0).den))

    module _ (c : ℕ) (within : c < 2 ^ n)
        (before : (j : ℕ) → j < n → has_player c j ≡ true → Settled (c - 2 ^ j)) where
      levelled : (i j : ℕ) → i < n → j < n → has_player c i ≡ true → has_player c j ≡ true → above c i ≡ above c j
      levelled i j hi hj ci cj = elim (same_or_other i j) [
        | inl same ↦ ap (above c) same
        | inr ne ↦
            let no_j = less n c j within hj cj in
            let no_i = less n c i within hi ci in
            let first = before j hj cj i hi (no_j.2 i ne ∙ ci) in
            let second = before i hi ci j hj (no_i.2 j (λ e. ne (sym e)) ∙ cj) in
            let y = x (c - 2 ^ j) in
            let z = x (c - 2 ^ i) in
            let same = level f (share (x c) i) (x c).den (share y i) y.den (share (x c) j) (share z j) z.den
            (shapley_total (among (c - 2 ^ j)) i) (shapley_total (among (c - 2 ^ i)) j)
            (positive (c - 2 ^ j) (omega (arith, within, no_j.0)))
            (positive (c - 2 ^ i) (omega (arith, within, no_i.0))) first second
            (h.balanced c i j within ci cj ne) in
            let fall = totals-fall_alike (among c) i j hi hj ne in
            let falls : shapley_total (among c) i -ℤ shapley_total (among (c - 2 ^ j)) i
            ≡ shapley_total (among c) j -ℤ shapley_total (among (c - 2 ^ i)) j =
            omega (
              arith,
              linear,
              fall,
              total-leaves c j within hj cj i hi,
              total-leaves c i within hi ci j hj,
            ) in
            moved (x c).den (shapley_total (among c) i) (shapley_total (among (c - 2 ^ j)) i)
            (shapley_total (among c) j) (shapley_total (among (c - 2 ^ i)) j) (f *ℤ share (x c) i)
            (f *ℤ share (x c) j) falls same
      ]
        where
          moved : (p s t u v a b : ℤ) → s -ℤ t ≡ u -ℤ v → a -ℤ p *ℤ t ≡ b -ℤ p *ℤ v → a -ℤ p *ℤ s ≡ b -ℤ p *ℤ u
          moved p s t u v a b one two =
              omega (arith, linear, ap (◌*ℤ◌ p) one, mul-subℤ p s t, mul-subℤ p u v, two)

      nothing_above : sum_over n (above c) c ≡ pos 0
      nothing_above =
          let amounts = sym (amount-at g (x c) c (h.shares c within)) ∙ h.efficient c within in
          let parts = sum_over-combined n (share (x c)) (shapley_total (among c)) f (x c).den c in
          let one = ap (◌*ℤ◌ f) amounts in
          let two = ap (◌*ℤ◌ (x c).den) (totals-over c within nobody) in
          omega (arith, linear, parts, one, two, mul_left_commℤ f (x c).den (g.worth c))

      settled : Settled c
      settled i lt has =
          let same = all_same n (has_player c) (λ k. cond (has_player c k) (above c k) (pos 0)) (λ k. pos 0)
          (λ k hk out. ap (λ (b : Bool). cond b (above c k) (pos 0)) out)
          (λ k l hk hl ck cl. ap (λ (b : Bool). cond b (above c k) (pos 0)) ck ∙ levelled k l hk hl ck cl
          ∙ sym (ap (λ (b : Bool). cond b (above c l) (pos 0)) cl))
          (λ k l hk hl ck cl. refl) (nothing_above ∙ sym (sum_below-zero n (λ k. pos 0) (λ k hk. refl))) i lt in
          let none = sym (ap (λ (b : Bool). cond b (above c i) (pos 0)) has) ∙ same in
          omega (arith, linear, none)

    settle : (m c : ℕ) → c < m → c < 2 ^ n → Settled c
    settle zero c lt within = absurd (omega arith)
    settle (suc m) c lt within =
        settled c within
        (λ j hj has. let fewer = (less n c j within hj has).0 in
        settle m (c - 2 ^ j) (omega (arith, lt, fewer)) (omega (arith, within, fewer)))

    pub shapley : IsShapley g (x (grand_coalition n))
    shapley =
        let all = grand_coalition n in
        let within = grand_coalition-within n in (
          h.shares all within,
          λ i lt. *ℤ_comm (share (x all) i) f
              ∙ settle (suc all) all (omega arith) within i lt (has_player-grand_coalition n i lt)
              ∙ ap (◌*ℤ◌ (x all).den)
              (total-same n i (among all).worth g.worth lt (λ s hs. ap g.worth (of_all s hs))),
        )

  -- ---- and Shapley's are such shares

  abbrev shapley_among : ℕ → Allocation
  shapley_among c = (shapley_exists (among c)).0

  is_among : (c : ℕ) → IsShapley (among c) (shapley_among c)
  is_among c = (shapley_exists (among c)).1

  adds_up : (c : ℕ) → c < 2 ^ n → g.worth 0 ≡ pos 0
      → amount (shapley_among c) c ≡ (shapley_among c).den *ℤ g.worth c
  adds_up c within nobody =
      let y = shapley_among c in
      let k = is_among c in
      amount-at g y c k.0
      ∙ over_all n c (share y) (λ i lt out. nothing_gets_nothing (among c) y i k lt (outside c i out))
      ∙ sym (amount-all (among c) y k.0.0)
      ∙ efficient (among c) y (ap g.worth (with_nobody c) ∙ nobody) k
      ∙ ap (λ (s : ℕ). y.den *ℤ g.worth s) (with_all c within)

  is_without : (c j : ℕ) → c < 2 ^ n → j < n → has_player c j ≡ true
      → IsShapley (without_player j (among c)) (shapley_among (c - 2 ^ j))
  is_without c j within hj has = (
    (is_among (c - 2 ^ j)).0,
    λ i lt. (is_among (c - 2 ^ j)).1 i lt
        ∙ ap (◌*ℤ◌ (shapley_among (c - 2 ^ j)).den) (sym (total-leaves c j within hj has i lt)),
  )

  pub balanced : g.worth 0 ≡ pos 0 → AreBalancedShares g shapley_among
  balanced nobody = record {
    shares = λ s within. (is_among s).0;
    efficient = λ s within. adds_up s within nobody;
    balanced = λ s i j within si sj ne.
        let hi = has_player-within n s i within si in
        let hj = has_player-within n s j within sj in
        contributions_are_balanced (among s) (shapley_among s) (shapley_among (s - 2 ^ j)) (shapley_among (s - 2 ^ i))
        i j hi hj ne (is_among s) (is_without s j within hj sj) (is_without s i within hi si);
  }

pub balanced_shares_are_shapley : BalancedSharesAreShapley
balanced_shares_are_shapley g x h = shapley g x h

pub balanced_shares_exist : BalancedSharesExist
balanced_shares_exist g nobody = (shapley_among g, balanced g nobody)
