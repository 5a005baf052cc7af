-- What two core points of a market do with a matching of greatest value: by both, each of its pairs gets exactly its
-- worth, and a player in none gets nothing (Shapley and Shubik 1971).
use Rattle.std.proofs.Common.{◌≡◌, ◌≢◌, ◌⊎◌, ℕ, ◌+◌, ◌^◌, ◌<◌, Bool, true, false, ◌&&◌, not, cond, nat_eq}
use Rattle.std.proofs.Common.{List, [], ◌∷◌, ℤ, pos, ◌+ℤ◌, ◌*ℤ◌, ◌≤ℤ◌, sym, ap, ◌∙◌, inl, inr, arith}
use Rattle.std.proofs.lemmas.Int.{ints}
use Rattle.definitions.proofs.Cases.{same_or_other, nat_eq-same, nat_eq-other, and_right}
use Rattle.definitions.proofs.Masks.{singleton-within}
use Rattle.definitions.proofs.Members.{sum_below-same, sum_below-add, sum_below-nonnegative, sum_over-singleton}
use Rattle.definitions.proofs.Members.{has_player-singleton, has_player-singleton_other}
use Rattle.definitions.proofs.Parts.{has_player-more_same, has_player-more_other, more-lt, part, sum_over-more}
use Rattle.definitions.proofs.Ring.{linear, mul-addℤ, mul-leℤ}
use Rattle.definitions.proofs.SumsOver.{amount-at}
use Rattle.definitions.specs.Classes.{Matrix, entry, removed, IsMatching, matching_value, IsAssignmentGame}
use Rattle.definitions.specs.Coalitions.{singleton}
use Rattle.definitions.specs.Games.{Game, Allocation, share, InCore}
use Rattle.definitions.specs.Sums.{sum_below}
use Rattle.law_answers.proofs.EachTwoAreAGarment.{one_of}
use Rattle.law_answers.proofs.NucleolusIsInCore.{core_low}
use Rattle.theorems.proofs.Products.{products}

-- the number of k counts where it passes the test
abbrev pub counted : (ℕ → Bool) → (ℕ → ℤ) → ℕ → ℤ
counted test f k = cond (test k) (f k) (pos 0)

-- one who passes, and the rest
sum_below-removed : (n p : ℕ) (test : ℕ → Bool) (f : ℕ → ℤ) → p < n → test p ≡ true
    → sum_below n (counted test f) ≡ f p +ℤ sum_below n (counted (removed test p) f)
sum_below-removed n p test f lt passes =
    let sums = sum_below-same n (counted test f) (λ k. counted (removed test p) f k +ℤ part f (singleton p) k)
    (λ k h. elim (same_or_other k p) [ inl same ↦ itself k same | inr ne ↦ another k ne ]) in
    omega (
      arith,
      linear,
      sums,
      sum_below-add n (counted (removed test p) f) (part f (singleton p)),
      sum_over-singleton n p f lt,
    )
  where
    itself : (k : ℕ) → k ≡ p
        → counted test f k ≡ counted (removed test p) f k +ℤ part f (singleton p) k
    itself k e = rw (e, passes, nat_eq-same p, has_player-singleton p) (omega (arith, linear))

    another : (k : ℕ) → k ≢ p
        → counted test f k ≡ counted (removed test p) f k +ℤ part f (singleton p) k
    another k ne = rw (nat_eq-other k p ne, has_player-singleton_other p k ne) (omega (arith, linear))

removed-other : (test : ℕ → Bool) (p k : ℕ) → k ≢ p → removed test p k ≡ test k
removed-other test p k ne = ap (λ (b : Bool). not b && test k) (nat_eq-other k p ne)

-- shares over a denominator by which nobody gets less than nothing, and no pair less than its worth
pub record PairsGet (matrix : Matrix) (rows n : ℕ) (den : ℤ) (f : ℕ → ℤ) : Type 0 where
  pub alone : (k : ℕ) → k < n → pos 0 ≤ℤ f k
  pub pair : (i j : ℕ) → i < rows → rows + j < n → (den *ℤ pos (entry matrix i j)) ≤ℤ (f i +ℤ f (rows + j))

module _ (matrix : Matrix) (rows n : ℕ) where
  abbrev pub left : (ℕ → Bool) → ℕ × ℕ → ℕ → Bool
  left test p = removed (removed test p.0) (rows + p.1)

  -- a pair, and those who are left
  module _ (test : ℕ → Bool) (p : ℕ × ℕ) (f : ℕ → ℤ) (row : p.0 < rows) (first : test p.0 ≡ true)
      (second : test (rows + p.1) ≡ true) (within : (k : ℕ) → test k ≡ true → k < n) where
    apart : rows + p.1 ≢ p.0
    apart e = omega (arith, e, row)

    still : removed test p.0 (rows + p.1) ≡ true
    still = removed-other test p.0 (rows + p.1) apart ∙ second

    pub left-within : (k : ℕ) → left test p k ≡ true → k < n
    left-within k h =
        within k
        (and_right (not (nat_eq k p.0)) (test k)
        (and_right (not (nat_eq k (rows + p.1))) (removed test p.0 k) h))

    pub parts : sum_below n (counted test f) ≡ (f p.0 +ℤ f (rows + p.1)) +ℤ sum_below n (counted (left test p) f)
    parts =
        let one = sum_below-removed n p.0 test f (within p.0 first) first in
        let two = sum_below-removed n (rows + p.1) (removed test p.0) f (within (rows + p.1) second) still in
        omega (arith, linear, one, two)

  pub value-more : (den : ℤ) (p : ℕ × ℕ) (ps : List (ℕ × ℕ))
      → den *ℤ pos (matching_value matrix (p ∷ ps))
      ≡ den *ℤ pos (entry matrix p.0 p.1) +ℤ den *ℤ pos (matching_value matrix ps)
  value-more den p ps =
      let sum : pos (matching_value matrix (p ∷ ps)) ≡ pos (entry matrix p.0 p.1) +ℤ pos (matching_value matrix ps) =
      omega (arith, linear) in
      ap (◌*ℤ◌ den) sum ∙ mul-addℤ den (pos (entry matrix p.0 p.1)) (pos (matching_value matrix ps))

  -- those who pass get no less than the value of a matching among them
  pub reach : (den : ℤ) (f : ℕ → ℤ) → PairsGet matrix rows n den f → (ps : List (ℕ × ℕ)) (test : ℕ → Bool)
      → IsMatching rows test ps → ((k : ℕ) → test k ≡ true → k < n)
      → (den *ℤ pos (matching_value matrix ps)) ≤ℤ sum_below n (counted test f)
  reach den f gets [] test m within =
      let low = sum_below-nonnegative n (counted test f) (λ k lt. nothing_or (test k) (f k) (gets.alone k lt)) in
      omega (products, low)
    where
      nothing_or : (b : Bool) (z : ℤ) → pos 0 ≤ℤ z → pos 0 ≤ℤ cond b z (pos 0)
      nothing_or true z low = low
      nothing_or false z low = omega (arith, linear)
  reach den f gets (p ∷ ps) test m within =
      let rest = reach den f gets ps (left test p) m.3 (left-within test p f m.0 m.1 m.2 within) in
      let pair = gets.pair p.0 p.1 m.0 (within (rows + p.1) m.2) in
      omega (arith, linear, rest, pair, parts test p f m.0 m.1 m.2 within, value-more den p ps)

  -- where those who pass get no more than nothing, each gets nothing
  pub nothing_left : (d : ℤ) (f : ℕ → ℤ) (test : ℕ → Bool) → PairsGet matrix rows n d f
      → sum_below n (counted test f) ≤ℤ (d *ℤ pos 0) → (k : ℕ) → k < n → test k ≡ true → f k ≡ pos 0
  nothing_left d f test fs low k lt passes =
      let one = (one_of n k (counted test f) (λ l h. nothing_or (test l) (f l) (fs.alone l h)) lt).1 in
      let here : counted test f k ≡ f k = ap (λ (b : Bool). cond b (f k) (pos 0)) passes in
      omega (products, one, here, fs.alone k lt, low)
    where
      nothing_or : (b : Bool) (z : ℤ) → pos 0 ≤ℤ z → pos 0 ≤ℤ cond b z (pos 0)
      nothing_or true z low = low
      nothing_or false z low = omega (arith, linear)

  -- where they get no more than the value of a matching, its first pair gets just its worth, and so do the others
  pub first_tight : (d : ℤ) (f : ℕ → ℤ) → PairsGet matrix rows n d f → (p : ℕ × ℕ) (ps : List (ℕ × ℕ)) (test : ℕ → Bool)
      → IsMatching rows test (p ∷ ps) → ((k : ℕ) → test k ≡ true → k < n)
      → sum_below n (counted test f) ≤ℤ (d *ℤ pos (matching_value matrix (p ∷ ps)))
      → (f p.0 +ℤ f (rows + p.1) ≡ d *ℤ pos (entry matrix p.0 p.1))
      × (sum_below n (counted (left test p) f) ≤ℤ (d *ℤ pos (matching_value matrix ps)))
  first_tight d f fs p ps test m within low =
      let rest = reach d f fs ps (left test p) m.3 (left-within test p f m.0 m.1 m.2 within) in
      let pair = fs.pair p.0 p.1 m.0 (within (rows + p.1) m.2) in
      let sum = parts test p f m.0 m.1 m.2 within in
      let value = value-more d p ps in
      (omega (arith, linear, rest, pair, sum, value, low), omega (arith, linear, pair, sum, value, low))

  -- a pair with player k, which gets by both just its worth; or k gets nothing by both
  pub data IsMatched (d e : ℤ) (f h : ℕ → ℤ) (k : ℕ) : Type 0 where
    alone : f k ≡ pos 0 → h k ≡ pos 0 → IsMatched d e f h k
    paired : (i j : ℕ) → i < rows → i < n → rows + j < n → (k ≡ i) ⊎ (k ≡ rows + j)
        → f i +ℤ f (rows + j) ≡ d *ℤ pos (entry matrix i j) → h i +ℤ h (rows + j) ≡ e *ℤ pos (entry matrix i j)
        → IsMatched d e f h k

  pub matched : (d e : ℤ) (f h : ℕ → ℤ) → PairsGet matrix rows n d f → PairsGet matrix rows n e h
      → (ps : List (ℕ × ℕ)) (test : ℕ → Bool) → IsMatching rows test ps → ((k : ℕ) → test k ≡ true → k < n)
      → sum_below n (counted test f) ≤ℤ (d *ℤ pos (matching_value matrix ps))
      → sum_below n (counted test h) ≤ℤ (e *ℤ pos (matching_value matrix ps))
      → (k : ℕ) → test k ≡ true → IsMatched d e f h k
  matched d e f h fs hs [] test m within low other k passes =
      alone (nothing_left d f test fs low k (within k passes) passes)
      (nothing_left e h test hs other k (within k passes) passes)
  matched d e f h fs hs (p ∷ ps) test m within low other k passes =
      let column = within (rows + p.1) m.2 in
      let a = first_tight d f fs p ps test m within low in
      let b = first_tight e h hs p ps test m within other in
      elim (same_or_other k p.0) [
        | inl at_row ↦ paired p.0 p.1 m.0 (within p.0 m.1) column (inl at_row) a.0 b.0
        | inr ne ↦ elim (same_or_other k (rows + p.1)) [
          | inl at_column ↦ paired p.0 p.1 m.0 (within p.0 m.1) column (inr at_column) a.0 b.0
          | inr differ ↦
              matched d e f h fs hs ps (left test p) m.3 (left-within test p f m.0 m.1 m.2 within) a.1 b.1 k
              (removed-other (removed test p.0) (rows + p.1) k differ ∙ removed-other test p.0 k ne ∙ passes)
        ]
      ]

-- ---- core points

module _ (matrix : Matrix) (rows : ℕ) (g : Game) (market : IsAssignmentGame matrix rows g) where
  not_negative : (x : Allocation) → InCore g x → (k : ℕ) → k < g.players → pos 0 ≤ℤ share x k
  not_negative x core k lt =
      let one = singleton-within g.players k lt in
      let worth = market (singleton k) one in
      let den = core.0.1 in
      let whole = mul-leℤ x.den (pos 0) (pos worth.0) (omega (arith, linear, den)) (omega (arith, linear)) in
      omega (
        products,
        whole,
        core_low g x core (singleton k) one,
        ap (◌*ℤ◌ x.den) worth.1,
        amount-at g x (singleton k) core.0,
        sum_over-singleton g.players k (share x) lt,
      )

  pair_gets : (x : Allocation) → InCore g x → (i j : ℕ) → i < rows → rows + j < g.players
      → (x.den *ℤ pos (entry matrix i j)) ≤ℤ (share x i +ℤ share x (rows + j))
  pair_gets x core i j row column =
      let n = g.players in
      let apart : rows + j ≢ i = λ e. omega (arith, e, row) in
      let hi : i < n = omega (arith, row, column) in
      let lacks = has_player-singleton_other i (rows + j) apart in
      let s = singleton i + 2 ^ (rows + j) in
      let lt = more-lt n (singleton i) (rows + j) (singleton-within n i hi) column lacks in
      let worth = market s lt in
      let has_i = has_player-more_other (singleton i) (rows + j) i lacks (λ e. apart (sym e))
      ∙ has_player-singleton i in
      let has_j = has_player-more_same (singleton i) (rows + j) lacks in
      let at_least = worth.2.greatest ((i, j) ∷ []) (row, has_i, has_j, tt) in
      let den = core.0.1 in
      let whole = mul-leℤ x.den (pos (entry matrix i j)) (pos worth.0) (omega (arith, linear, den))
      (omega (arith, ints, at_least)) in
      omega (
        products,
        whole,
        core_low g x core s lt,
        ap (◌*ℤ◌ x.den) worth.1,
        amount-at g x s core.0,
        sum_over-more n (singleton i) (rows + j) (share x) column lacks,
        sum_over-singleton n i (share x) hi,
      )

  pub pairs_get : (x : Allocation) → InCore g x → PairsGet matrix rows g.players x.den (share x)
  pairs_get x core = record { alone = not_negative x core; pair = pair_gets x core }
