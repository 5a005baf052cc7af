-- Of two core points of a market, the greater share for one side and the lesser for the other: a pair gets no less
-- than its worth, and the pairs of a matching of greatest value exactly that, as they do at both (Shapley and Shubik
-- 1971).
use Rattle.std.proofs.Common.{◌≡◌, ℕ, ◌+◌, ◌^◌, ◌<◌, Bool, true, false, not, cond, nat_lt, List, [], ◌∷◌, length}
use Rattle.std.proofs.Common.{ℤ, pos, ◌+ℤ◌, ◌*ℤ◌, ◌≤ℤ◌, refl, sym, ap, ◌∙◌, subst, arith}
use Rattle.std.specs.Int.{int_max, int_min}
use Rattle.std.proofs.lemmas.Int.{ints, clamps}
use Rattle.std.proofs.lemmas.List.FromFn.{get_or-map-range_with_len, length-map-range_with_len}
use Rattle.definitions.proofs.Cases.{nat_lt-less, nat_lt-past}
use Rattle.definitions.proofs.Masks.{grand_coalition-within}
use Rattle.definitions.proofs.Members.{sum_below-same, sum_below-zero}
use Rattle.definitions.proofs.Parts.{has_player-within}
use Rattle.definitions.proofs.Ring.{linear, mul-addℤ, mul-leℤ, mul-positiveℤ, mul-zeroℤ, mul_left_commℤ, mul_assocℤ}
use Rattle.definitions.proofs.SumsOver.{amount-at}
use Rattle.definitions.specs.Classes.{Matrix, entry, IsMatching, matching_value, IsAssignmentGame}
use Rattle.definitions.specs.Coalitions.{has_player, grand_coalition}
use Rattle.definitions.specs.Games.{Game, Allocation, share, amount, IsAllocation, InCore}
use Rattle.definitions.specs.Sums.{sum_below}
use Rattle.theorems.proofs.Products.{products}
use Rattle.law_classes.proofs.MatchedPairs.{PairsGet, pairs_get, reach, counted}
use Rattle.law_classes.proofs.MatchedPairs.{nothing_left, first_tight, left, left-within, parts, value-more}
use Rattle.law_classes.specs.Markets.{better_for, CoreIsALattice}

-- the greater, or the lesser
abbrev pick : Bool → ℤ → ℤ → ℤ
pick b u v = cond b (int_max u v) (int_min u v)

pick-nonnegative : (b : Bool) (u v : ℤ) → pos 0 ≤ℤ u → pos 0 ≤ℤ v → pos 0 ≤ℤ pick b u v
pick-nonnegative true u v h k = omega (arith, ints, clamps)
pick-nonnegative false u v h k = omega (arith, ints, clamps)

-- the greater for one and the lesser for the other
pick-both : (b : Bool) (a c e f d : ℤ) → d ≤ℤ (a +ℤ e) → d ≤ℤ (c +ℤ f) → d ≤ℤ (pick b a c +ℤ pick (not b) e f)
pick-both true a c e f d h k = omega (arith, ints, clamps)
pick-both false a c e f d h k = omega (arith, ints, clamps)

pick-tight : (b : Bool) (a c e f d : ℤ) → a +ℤ e ≡ d → c +ℤ f ≡ d → pick b a c +ℤ pick (not b) e f ≡ d
pick-tight true a c e f d h k = omega (arith, ints, clamps)
pick-tight false a c e f d h k = omega (arith, ints, clamps)

pick-same : (b : Bool) (u v d : ℤ) → u ≡ d → v ≡ d → pick b u v ≡ d
pick-same true u v d h k = omega (arith, ints, clamps)
pick-same false u v d h k = omega (arith, ints, clamps)

module _ (matrix : Matrix) (rows : ℕ) (g : Game) (market : IsAssignmentGame matrix rows g) (test : ℕ → Bool)
    (sides : (i j : ℕ) → i < rows → test (rows + j) ≡ not (test i)) (x z : Allocation) (hx : InCore g x)
    (hz : InCore g z) where
  abbrev y : Allocation
  y = better_for test x z

  abbrev gets : ℕ → ℤ
  gets i = pick (test i) (z.den *ℤ share x i) (x.den *ℤ share z i)

  den_x : pos 0 ≤ℤ x.den
  den_x = let one = hx.0.1 in omega (arith, linear, one)

  den_z : pos 0 ≤ℤ z.den
  den_z = let one = hz.0.1 in omega (arith, linear, one)

  allocation : IsAllocation g y
  allocation = (
    length-map-range_with_len gets 0 (length x.shares) ∙ hx.0.0,
    (let both = mul-positiveℤ x.den z.den (let one = hx.0.1 in omega (arith, linear, one))
        (let one = hz.0.1 in omega (arith, linear, one)) in
        omega (arith, linear, both)),
  )

  share-at : (i : ℕ) → i < g.players → share y i ≡ gets i
  share-at i lt =
      let within : i < length x.shares = rw hx.0.0 lt in
      get_or-map-range_with_len gets 0 (length x.shares) i i (pos 0) within (omega arith)

  -- the worth of a pair, over the product of the denominators
  abbrev over : ℤ → ℤ
  over a = (x.den *ℤ z.den) *ℤ a

  over_x : (a : ℤ) → z.den *ℤ (x.den *ℤ a) ≡ over a
  over_x a = mul_left_commℤ z.den x.den a ∙ sym (mul_assocℤ x.den z.den a)

  over_z : (a : ℤ) → x.den *ℤ (z.den *ℤ a) ≡ over a
  over_z a = sym (mul_assocℤ x.den z.den a)

  at_column : (i j : ℕ) → i < rows
      → gets i +ℤ gets (rows + j)
      ≡ pick (test i) (z.den *ℤ share x i) (x.den *ℤ share z i)
      +ℤ pick (not (test i)) (z.den *ℤ share x (rows + j)) (x.den *ℤ share z (rows + j))
  at_column i j lt =
      ap (λ (b : Bool). gets i +ℤ pick b (z.den *ℤ share x (rows + j)) (x.den *ℤ share z (rows + j))) (sides i j lt)

  pairs_x : PairsGet matrix rows g.players x.den (share x)
  pairs_x = pairs_get matrix rows g market x hx

  pairs_z : PairsGet matrix rows g.players z.den (share z)
  pairs_z = pairs_get matrix rows g market z hz

  picked : PairsGet matrix rows g.players (x.den *ℤ z.den) gets
  picked = record {
    alone = λ k lt. pick-nonnegative (test k) (z.den *ℤ share x k) (x.den *ℤ share z k)
        (let low = mul-leℤ z.den (pos 0) (share x k) den_z (pairs_x.alone k lt) in omega (products, low))
        (let low = mul-leℤ x.den (pos 0) (share z k) den_x (pairs_z.alone k lt) in omega (products, low));
    pair = λ i j row column.
        let a = pos (entry matrix i j) in
        let one = mul-leℤ z.den (x.den *ℤ a) (share x i +ℤ share x (rows + j)) den_z (pairs_x.pair i j row column) in
        let two = mul-leℤ x.den (z.den *ℤ a) (share z i +ℤ share z (rows + j)) den_x (pairs_z.pair i j row column) in
        subst (λ (u : ℤ). over a ≤ℤ u) (sym (at_column i j row))
        (pick-both (test i) (z.den *ℤ share x i) (x.den *ℤ share z i) (z.den *ℤ share x (rows + j))
        (x.den *ℤ share z (rows + j)) (over a) (omega (products, one, over_x a)) (omega (products, two, over_z a)));
  }

  -- what is nothing at both is nothing, and what is tight at both is tight
  total : (ps : List (ℕ × ℕ)) (among : ℕ → Bool) → IsMatching rows among ps
      → ((k : ℕ) → among k ≡ true → k < g.players)
      → sum_below g.players (counted among (share x)) ≤ℤ (x.den *ℤ pos (matching_value matrix ps))
      → sum_below g.players (counted among (share z)) ≤ℤ (z.den *ℤ pos (matching_value matrix ps))
      → sum_below g.players (counted among gets) ≤ℤ over (pos (matching_value matrix ps))
  total [] among m within low other =
      let none = sum_below-zero g.players (counted among gets) (λ k lt. by_test k lt (among k) refl) in
      omega (products, none)
    where
      by_test : (k : ℕ) → k < g.players → (b : Bool) → among k ≡ b → cond b (gets k) (pos 0) ≡ pos 0
      by_test k lt false e = refl
      by_test k lt true e =
          let n = g.players in
          let fx = nothing_left matrix rows n x.den (share x) among pairs_x low k lt e in
          let fz = nothing_left matrix rows n z.den (share z) among pairs_z other k lt e in
          pick-same (test k) (z.den *ℤ share x k) (x.den *ℤ share z k) (pos 0)
          (ap (◌*ℤ◌ z.den) fx ∙ mul-zeroℤ z.den) (ap (◌*ℤ◌ x.den) fz ∙ mul-zeroℤ x.den)
  total (p ∷ ps) among m within low other =
      let n = g.players in
      let a = pos (entry matrix p.0 p.1) in
      let one = first_tight matrix rows n x.den (share x) pairs_x p ps among m within low in
      let two = first_tight matrix rows n z.den (share z) pairs_z p ps among m within other in
      let rest = left-within matrix rows n among p gets m.0 m.1 m.2 within in
      let ih = total ps (left matrix rows n among p) m.3 rest one.1 two.1 in
      let in_x = sym (mul-addℤ z.den (share x p.0) (share x (rows + p.1))) ∙ ap (◌*ℤ◌ z.den) one.0 ∙ over_x a in
      let in_z = sym (mul-addℤ x.den (share z p.0) (share z (rows + p.1))) ∙ ap (◌*ℤ◌ x.den) two.0 ∙ over_z a in
      let tight = at_column p.0 p.1 m.0
      ∙ pick-tight (test p.0) (z.den *ℤ share x p.0) (x.den *ℤ share z p.0) (z.den *ℤ share x (rows + p.1))
      (x.den *ℤ share z (rows + p.1)) (over a) in_x in_z in
      omega (
        arith,
        linear,
        ih,
        tight,
        parts matrix rows n among p gets m.0 m.1 m.2 within,
        value-more matrix rows n (x.den *ℤ z.den) p ps,
      )

  unblocked : (s : ℕ) → s < 2 ^ g.players → over (g.worth s) ≤ℤ amount y s
  unblocked s lt =
      let worth = market s lt in
      let best = worth.2.reached in
      let value = worth.1 ∙ ap pos best.2 in
      let low = reach matrix rows g.players (x.den *ℤ z.den) gets picked best.0 (has_player s) best.1
      (λ i has. has_player-within g.players s i lt has) in
      let same = sum_below-same g.players (counted (has_player s) (share y)) (counted (has_player s) gets)
      (λ i h. ap (λ (u : ℤ). cond (has_player s i) u (pos 0)) (share-at i h)) in
      omega (arith, linear, low, same, amount-at g y s allocation, ap over value)

  -- all together get no more than their worth
  at_most : amount y (grand_coalition g.players) ≤ℤ over (g.worth (grand_coalition g.players))
  at_most =
      let n = g.players in
      let all = grand_coalition n in
      let worth = market all (grand_coalition-within n) in
      let best = worth.2.reached in
      let value = worth.1 ∙ ap pos best.2 in
      let high = total best.0 (has_player all) best.1
      (λ i has. has_player-within n all i (grand_coalition-within n) has)
      (omega (arith, linear, hx.1, amount-at g x all hx.0, ap (◌*ℤ◌ x.den) value))
      (omega (arith, linear, hz.1, amount-at g z all hz.0, ap (◌*ℤ◌ z.den) value)) in
      let same = sum_below-same n (counted (has_player all) (share y)) (counted (has_player all) gets)
      (λ i h. ap (λ (u : ℤ). cond (has_player all i) u (pos 0)) (share-at i h)) in
      omega (arith, linear, high, same, amount-at g y all allocation, ap over value)

  in_core : InCore g y
  in_core = (
    allocation,
    (let low = unblocked (grand_coalition g.players) (grand_coalition-within g.players) in
        omega (arith, linear, at_most, low)),
    λ s lt blocks. (let low = unblocked s lt in omega (arith, linear, low, blocks)),
  )

pub core_is_a_lattice : CoreIsALattice
core_is_a_lattice matrix buyers g x z market hx hz = (
  in_core matrix buyers g market (λ i. nat_lt i buyers) sides x z hx hz,
  in_core matrix buyers g market (λ i. not (nat_lt i buyers)) (λ i j lt. ap not (sides i j lt)) x z hx hz,
)
  where
    sides : (i j : ℕ) → i < buyers → nat_lt (buyers + j) buyers ≡ not (nat_lt i buyers)
    sides i j lt = nat_lt-past (buyers + j) buyers (omega arith) ∙ sym (ap not (nat_lt-less i buyers lt))
