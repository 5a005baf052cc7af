-- Sobolev's theorem (Sobolev 1975; Peleg and Sudhölter). A rule that meets the axioms gives nothing to each player of
-- the game of excesses at the prenucleolus, since that is a reduced game of a game of words; so it gives the
-- prenucleolus. And the prenucleolus meets the axioms, since it is one and has each of the four properties.
--
-- 1. Each coalition has weights that balance, on it and on coalitions of no less excess (SideWeights.antt, by Farkas's
--    lemma).
-- 2. Each coalition as often as its weight, with its excess as value, makes a list of positions. Each player has
--    equally many positions of each value (Positions.antt).
-- 3. A word says of each position whether it has it. The players of the game of all words are the words with as many
--    positions of each value as a player's own (Words.antt, WordGames.antt).
-- 4. Exchanging two positions of one value leaves that game as it is, and such exchanges make each word of each other.
--    So by anonymity all get the same, and by efficiency (Rules.antt) nothing.
-- 5. The players' own words are some of these players, and their reduced game is the game of excesses
--    (WordGameShares.antt). So the rule gives nothing there, and by covariance the prenucleolus.
use Rattle.std.proofs.Common.{◌≡◌, ℕ, zero, suc, ◌-◌, ◌^◌, ◌<◌, ◌≤◌, List, length, get_or, map, ℤ, pos, neg_ℤ}
use Rattle.std.proofs.Common.{◌+ℤ◌, ◌*ℤ◌, ◌≤ℤ◌, refl, sym, ap, ◌∙◌, inl, inr, arith}
use Rattle.std.proofs.lemmas.Int.{ints, by_lt_z}
use lib.IntN.{*ℤ_comm}
use Rattle.definitions.proofs.Alls.{all_at}
use Rattle.definitions.proofs.Ring.{linear, mul-zeroℤ, mul-cancelℤ, mul_assocℤ, mul_left_commℤ, zero-mulℤ}
use Rattle.definitions.proofs.Cases.{less_or_last}
use Rattle.definitions.proofs.Masks.{singleton-within}
use Rattle.definitions.proofs.SumsOver.{sum_over-times, sum_over-same, sum_over-empty, amount-at, amount-empty}
use Rattle.definitions.specs.Coalitions.{grand_coalition, proper_coalitions, sum_over}
use Rattle.definitions.specs.Games.{Game, Allocation, share, amount, excess, IsAllocation, IsEfficient, IsSame}
use Rattle.definitions.specs.Games.{IsNucleolus}
use Rattle.definitions.specs.declared.Family.TheVariants.{Preimputations}
use Rattle.definitions.specs.declared.Measure.TheVariants.{Plain}
use Rattle.theorems.proofs.ScaledLists.{order_kept, values_times}
use Rattle.law_duality.proofs.Nucleoli.{prenucleoli_exist, prenucleolus_of, prenucleolus_of-is}
use Rattle.law_answers.specs.StrategicEquivalence.{equivalent_game, equivalent_shares}
use Rattle.law_answers.specs.Renumbering.{renumbered_game, renumbered_shares}
use Rattle.law_answers.proofs.NucleolusIsUnique.{nucleolus_unique}
use Rattle.law_answers.proofs.EquivalentGamesAgree.{equivalent}
use Rattle.law_answers.proofs.RenumberingChangesNothing.{renumbering_changes_nothing}
use Rattle.law_reduced_games.specs.ReducedGames.{staying_shares}
use Rattle.law_reduced_games.specs.SobolevsTheorem.{IsPlayable, MeetsSobolevsAxioms, SobolevsTheorem, SomeRuleMeetsThem}
use Rattle.law_reduced_games.proofs.Staying.{staying_empty}
use Rattle.law_reduced_games.proofs.ReducedGameProperty.{reduced_game_property}
use Rattle.law_reduced_games.proofs.Rules.{share_equivalent}
use Rattle.law_reduced_games.proofs.SideWeights.{weights_at, none_at}
use Rattle.law_reduced_games.proofs.Positions.{AllWeights, positions, counts, list_sum-places, held_at, WithSingles}
use Rattle.law_reduced_games.proofs.Positions.{with_singles}
use Rattle.law_reduced_games.proofs.WordGames.{word_rises}
use Rattle.law_reduced_games.proofs.WordGameShares.{nothing_given}
use Rattle.theorems.proofs.Products.{products, sorted_products}

-- a number below finitely many
floor_of : (k : ℕ) (f : ℕ → ℤ) → (b : ℤ) × ((t : ℕ) → t < k → b ≤ℤ f t)
floor_of zero f = (pos 0, λ t lt. absurd (omega arith))
floor_of (suc k) f =
    let r = floor_of k f in
    by_lt_z (f k) r.0
    (λ less. (
      f k,
      λ t lt. elim (less_or_last t k lt) [
        | inl before ↦ (let le = r.1 t before in omega (arith, linear, le, less))
        | inr same ↦ omega (arith, linear, ap f same)
      ],
    ))
    (λ le. (
      r.0,
      λ t lt. elim (less_or_last t k lt) [
        | inl before ↦ r.1 t before
        | inr same ↦ omega (arith, linear, le, ap f same)
      ],
    ))

-- ---- a rule that meets the axioms gives the shares of the prenucleolus

module _ (rule : Game → Allocation) (ax : MeetsSobolevsAxioms rule) (g : Game) (p : IsPlayable g) (x : Allocation)
    (is : IsNucleolus Preimputations Plain g x) where
  abbrev n : ℕ
  n = g.players

  abbrev E : ℕ → ℤ
  E s = excess g x s

  excess_nobody : E 0 ≡ pos 0
  excess_nobody = omega (products, amount-empty x, ap (◌*ℤ◌ x.den) p.1)

  excess_all : E (grand_coalition n) ≡ pos 0
  excess_all = omega (arith, linear, is.0.1)

  -- the game of excesses
  abbrev less_shares : ℕ → ℤ
  less_shares i = neg_ℤ (pos 1) *ℤ share x i

  abbrev excesses : Game
  excesses = equivalent_game x.den less_shares g

  minus : (z : ℤ) → neg_ℤ (pos 1) *ℤ z ≡ neg_ℤ z
  minus z = omega (arith, ints)

  excesses_are : (s : ℕ) → excesses.worth s ≡ E s
  excesses_are s =
      omega
      (products, sum_over-times n (share x) (neg_ℤ (pos 1)) s, minus (sum_over n (share x) s), amount-at g x s is.0.0)

  all_weights : AllWeights n (2 ^ n) (2 ^ n - 2) E
  all_weights = record {
    weights = λ d lt. (weights_at g x is p.0 d lt).weights;
    low = λ d lt. (weights_at g x is p.0 d lt).low;
    here = λ d lt. (weights_at g x is p.0 d lt).here;
    none = λ d lt. none_at g x is p.0 d lt;
    total = λ d lt. (weights_at g x is p.0 d lt).total;
    balance = λ d lt. (weights_at g x is p.0 d lt).balance;
  }

  floor : (b : ℤ) × ((t : ℕ) → t < 2 ^ n → b ≤ℤ E t)
  floor = floor_of (2 ^ n) E

  all_positions : WithSingles n (2 ^ n) (2 ^ n - 2) E
  all_positions =
      with_singles n (2 ^ n) (2 ^ n - 2) E floor.0
      (positions n (2 ^ n) (2 ^ n - 2) E all_weights (λ d lt. omega (arith, lt))) (singleton-within n) floor.1

  abbrev pairs : List (ℕ × ℤ)
  pairs = all_positions.positions.pairs

  abbrev pair_at : ℕ → ℕ × ℤ
  pair_at l = get_or pairs l (0, pos 0)

  inside_at : (l : ℕ) → l < length pairs → ((pair_at l).0 < 2 ^ n) × ((pair_at l).1 ≤ℤ E (pair_at l).0)
  inside_at l lt = all_at (λ q. (q.0 < 2 ^ n) × (q.1 ≤ℤ E q.0)) pairs l (0, pos 0) lt all_positions.positions.inside

  excesses_get_nothing : (i : ℕ) → i < n → share (rule excesses) i ≡ pos 0
  excesses_get_nothing =
      nothing_given rule ax n (length pairs) (λ l. (pair_at l).0) (λ l. (pair_at l).1) floor.0 p.0
      (λ v i j hi hj. list_sum-places (counts v i) (0, pos 0) pairs ∙ all_positions.positions.even v i j hi hj
      ∙ sym (list_sum-places (counts v j) (0, pos 0) pairs))
      E
      (λ l lt. (inside_at l lt).0)
      (λ l lt. (inside_at l lt).1)
      floor.1 met
      (word_rises n (length pairs) (λ l. (pair_at l).0) (λ l. (pair_at l).1) floor.0 all_positions.front
      all_positions.long all_positions.alone)
      excesses.worth (λ t lt. excesses_are t) excess_nobody excess_all
    where
      met : (t : ℕ) → 0 < t → t < grand_coalition n
          → (l : ℕ) × (l < length pairs) × ((pair_at l).0 ≡ t) × ((pair_at l).1 ≡ E t)
      met zero positive less = absurd (omega arith)
      met (suc d) positive less =
          let found =
          held_at (suc d, E (suc d)) (0, pos 0) pairs (all_positions.positions.holds d (omega (arith, less))) in
          (found.0, found.1, ap (λ q. q.0) found.2, ap (λ q. q.1) found.2)

  same_shares : IsSame g (rule g) x
  same_shares i lt =
      shaped x.den (rule g).den (rule excesses).den (share (rule g) i) (share x i) (share (rule excesses) i)
      (ax.single excesses proper_excesses).1 (excesses_get_nothing i lt)
      (share_equivalent rule ax x.den less_shares g i is.0.0.1 p lt)
    where
      proper_excesses : IsPlayable excesses
      proper_excesses = (p.0, excesses_are 0 ∙ excess_nobody)

      shaped : (q d h s a z : ℤ) → pos 1 ≤ℤ h → z ≡ pos 0
          → z *ℤ d ≡ (q *ℤ s +ℤ d *ℤ (neg_ℤ (pos 1) *ℤ a)) *ℤ h → s *ℤ q ≡ a *ℤ d
      shaped q d h s a z one none e =
          let t = q *ℤ s +ℤ d *ℤ (neg_ℤ (pos 1) *ℤ a) in
          let outer : h *ℤ t ≡ h *ℤ pos 0 =
          *ℤ_comm h t ∙ sym e ∙ ap (λ y. y *ℤ d) none ∙ zero-mulℤ d ∙ sym (mul-zeroℤ h) in
          let inner = mul-cancelℤ h t (pos 0) (omega (arith, linear, one)) outer in
          omega (sorted_products, inner, mul_left_commℤ d (neg_ℤ (pos 1)) a ∙ minus (d *ℤ a))

-- ---- other denominators of the same shares

module _ (g : Game) (x y : Allocation) (is : IsNucleolus Preimputations Plain g x) (hy : IsAllocation g y)
    (same : IsSame g y x) where
  amounts : (s : ℕ) → x.den *ℤ amount y s ≡ y.den *ℤ amount x s
  amounts s =
      ap (◌*ℤ◌ x.den) (amount-at g y s hy) ∙ sym (sum_over-times g.players (share y) x.den s)
      ∙ sum_over-same g.players (λ i. x.den *ℤ share y i) (λ i. y.den *ℤ share x i) s
      (λ i lt. *ℤ_comm x.den (share y i) ∙ same i lt ∙ *ℤ_comm (share x i) y.den)
      ∙ sum_over-times g.players (share x) y.den s ∙ ap (◌*ℤ◌ y.den) (sym (amount-at g x s is.0.0))

  excesses_same : (s : ℕ) → x.den *ℤ excess g y s ≡ y.den *ℤ excess g x s
  excesses_same s =
      let v = g.worth s in
      omega (sorted_products, amounts s)

  x_positive : pos 1 ≤ℤ x.den
  x_positive = is.0.0.1

  efficient : IsEfficient g y
  efficient =
      let all = grand_coalition g.players in
      mul-cancelℤ x.den (amount y all) (y.den *ℤ g.worth all) (let one = x_positive in omega (arith, linear, one))
      (amounts all ∙ ap (◌*ℤ◌ y.den) is.0.1 ∙ mul_left_commℤ y.den x.den (g.worth all))

  pub same_nucleolus : IsNucleolus Preimputations Plain g y
  same_nucleolus = (
    (hy, efficient),
    λ z hz differs.
        let before = is.1 z hz (λ e. differs (λ i lt. joined x.den y.den z.den (share x i) (share y i) (share z i)
        x_positive (same i lt) (e i lt))) in
        order_kept y.den x.den (map (λ s. z.den *ℤ excess g x s) (proper_coalitions g.players))
        (map (λ s. x.den *ℤ excess g z s) (proper_coalitions g.players))
        (map (λ s. z.den *ℤ excess g y s) (proper_coalitions g.players))
        (map (λ s. y.den *ℤ excess g z s) (proper_coalitions g.players))
        (omega (arith, linear, hy.1)) (let one = x_positive in omega (arith, linear, one))
        (values_times y.den x.den (λ s. z.den *ℤ excess g x s) (λ s. z.den *ℤ excess g y s)
        (proper_coalitions g.players)
        (λ s. mul_left_commℤ y.den z.den (excess g x s) ∙ ap (◌*ℤ◌ z.den) (sym (excesses_same s))
        ∙ mul_left_commℤ z.den x.den (excess g y s)))
        (values_times y.den x.den (λ s. x.den *ℤ excess g z s) (λ s. y.den *ℤ excess g z s)
        (proper_coalitions g.players) (λ s. mul_left_commℤ y.den x.den (excess g z s)))
        before,
  )
    where
      joined : (q d r a b c : ℤ) → pos 1 ≤ℤ q → b *ℤ q ≡ a *ℤ d → a *ℤ r ≡ c *ℤ q → b *ℤ r ≡ c *ℤ d
      joined q d r a b c one e f =
          mul-cancelℤ q (b *ℤ r) (c *ℤ d) (omega (arith, linear, one))
          (mul_left_commℤ q b r ∙ ap (◌*ℤ◌ b) (*ℤ_comm q r) ∙ mul_left_commℤ b r q
          ∙ ap (◌*ℤ◌ r) e ∙ mul_left_commℤ r a d ∙ sym (mul_assocℤ a r d) ∙ ap (λ z. z *ℤ d) f
          ∙ ap (λ z. z *ℤ d) (*ℤ_comm c q) ∙ mul_assocℤ q c d)

-- ---- both ways

rule_is_prenucleolus : (rule : Game → Allocation) → MeetsSobolevsAxioms rule → (g : Game) → IsPlayable g
    → IsNucleolus Preimputations Plain g (rule g)
rule_is_prenucleolus rule ax g p =
    let found = prenucleoli_exist Plain g (inl refl) p.0 in
    same_nucleolus g found.0 (rule g) found.1 (ax.single g p) (same_shares rule ax g p found.0 found.1)

prenucleolus_meets : (rule : Game → Allocation)
    → ((g : Game) → IsPlayable g → IsNucleolus Preimputations Plain g (rule g)) → MeetsSobolevsAxioms rule
prenucleolus_meets rule is = record {
  single = λ g p. (is g p).0.0;
  covariant = λ k b g one p.
      nucleolus_unique Preimputations Plain (equivalent_game k b g) (rule (equivalent_game k b g))
      (equivalent_shares k b (rule g)) (is (equivalent_game k b g) (proper_equivalent k b g p))
      (((equivalent k b g (rule g) one (is g p).0.0).nucleolus Preimputations Plain).0 (is g p));
  anonymous = λ to back g p r.
      nucleolus_unique Preimputations Plain (renumbered_game back g) (rule (renumbered_game back g))
      (renumbered_shares to (rule g)) (is (renumbered_game back g) (proper_renumbered back g p))
      (renumbering_changes_nothing Preimputations Plain g (rule g) to back (inl refl) r (is g p));
  reduced = λ m who g h p a o r.
      nucleolus_unique Preimputations Plain h (rule h) (staying_shares m who (rule g))
      (is h ((omega (arith, r.players, a.some)), r.nobody))
      (reduced_game_property m who g h (rule g) a r (is g p));
}
  where
    proper_equivalent : (k : ℤ) (b : ℕ → ℤ) (g : Game) → IsPlayable g → IsPlayable (equivalent_game k b g)
    proper_equivalent k b g p = (
      p.0,
      omega (products, ap (◌*ℤ◌ k) p.1, sum_over-empty g.players b),
    )

    proper_renumbered : (back : ℕ → ℕ) (g : Game) → IsPlayable g → IsPlayable (renumbered_game back g)
    proper_renumbered back g p = (p.0, ap g.worth (staying_empty g.players back) ∙ p.1)

pub sobolevs_theorem : SobolevsTheorem
sobolevs_theorem rule = (rule_is_prenucleolus rule, prenucleolus_meets rule)

pub some_rule_meets_them : SomeRuleMeetsThem
some_rule_meets_them = (prenucleolus_of, prenucleolus_meets prenucleolus_of (λ g p. prenucleolus_of-is g p.0))
