-- In the game of all words each player gets nothing: by exchanges all get the same, and all together nothing. So by the
-- reduced game property the players of the given game, by their words, get nothing in theirs.
use Rattle.std.proofs.Common.{◌≡◌, ℕ, ◌^◌, ◌<◌, ◌≤◌, Bool, false, cond, ℤ, pos, ◌+ℤ◌, ◌*ℤ◌, ◌<ℤ◌, ◌≤ℤ◌, refl, sym, ap}
use Rattle.std.proofs.Common.{◌∙◌, inl, inr, arith}
use Rattle.definitions.proofs.Ring.{linear, mul-leℤ, mul-zeroℤ, zero-mulℤ, mul-cancelℤ, mul-oneℤ}
use Rattle.definitions.proofs.Cases.{less_same_or_greater, nat_eq-other}
use Rattle.definitions.proofs.Masks.{grand_coalition-within}
use Rattle.definitions.proofs.Members.{sum_below-same, sum_over-grand_coalition}
use Rattle.definitions.proofs.SumsOver.{sum_over-same, sum_over-zero}
use Rattle.definitions.specs.Coalitions.{has_player, grand_coalition, sum_over}
use Rattle.definitions.specs.Games.{Game, Allocation, share, amount}
use Rattle.shapley.proofs.Steps.{sum_below-constant}
use Rattle.law_answers.specs.StrategicEquivalence.{equivalent_game}
use Rattle.law_reduced_games.specs.ReducedGames.{AreSome, staying, staying_shares, worth_left, IsReducedGame}
use Rattle.law_reduced_games.specs.SobolevsTheorem.{IsPlayable, MeetsSobolevsAxioms}
use Rattle.law_reduced_games.proofs.Staying.{staying_is, staying_empty, staying_all, staying_share, staying_amount}
use Rattle.law_reduced_games.proofs.Rules.{efficient_rule, same_share, share_equivalent}
use Rattle.law_reduced_games.proofs.Numbered.{place_less}
use Rattle.law_reduced_games.proofs.Words.{count_of, swap, AreAlike, kept_alike}
use Rattle.law_reduced_games.proofs.WordGames.{word, word_within, word_has, word_weight, is_word, to_word, many}
use Rattle.law_reduced_games.proofs.WordGames.{word_of}
use Rattle.law_reduced_games.proofs.WordGames.{number, number_within, word_of_number, word_of_within, word_of_alike}
use Rattle.law_reduced_games.proofs.WordGames.{number_of_word, cylinder, cylinder_within, cylinder_has, best, best_up}
use Rattle.law_reduced_games.proofs.WordGames.{best_least, is_end, value, players_of_within, word_game, worth_nobody}
use Rattle.law_reduced_games.proofs.WordGames.{worth_all, to_renumbers, game_same}
use Rattle.theorems.proofs.Products.{products, sorted_products}

module _ (rule : Game → Allocation) (ax : MeetsSobolevsAxioms rule) (n L : ℕ) (C : ℕ → ℕ) (u : ℕ → ℤ) (floor : ℤ)
    (some : 1 ≤ n)
    (even : (v : ℤ) (i j : ℕ) → i < n → j < n
    → count_of L u v (λ l. has_player (C l) i) ≡ count_of L u v (λ l. has_player (C l) j)) where
  abbrev N : ℕ
  N = many n L C u floor

  abbrev game : Game
  game = word_game n L C u floor

  abbrev w : ℕ → ℕ
  w j = word n L C u floor j

  abbrev at : ℕ → ℕ
  at k = word_of n L C u floor k

  abbrev num : ℕ → ℕ
  num r = number n L C u floor r

  words_alike : (i : ℕ) → i < n → AreAlike L u (w i) (w 0)
  words_alike i lt v = word_weight n L C u floor i v ∙ even v i 0 lt some ∙ sym (word_weight n L C u floor 0 v)

  -- the player of the word of player j
  abbrev who : ℕ → ℕ
  who j = num (w j)

  who_within : (j : ℕ) → j < n → who j < N
  who_within j lt = number_within n L C u floor (w j) (word_within n L C u floor j) (words_alike j lt)

  at_who : (j : ℕ) → j < n → at (who j) ≡ w j
  at_who j lt = word_of_number n L C u floor (w j) (word_within n L C u floor j) (words_alike j lt)

  proper : IsPlayable game
  proper = ((let first = who_within 0 some in omega (arith, first)), worth_nobody n L C u floor)

  abbrev x : Allocation
  x = rule game

  -- by exchanges all get what the first gets
  all_alike : (k : ℕ) → k < N → share x k ≡ share x (who 0)
  all_alike k lt =
      ap (share x) (sym (number_of_word n L C u floor k lt))
      ∙ kept_alike L u (w 0) (word_within n L C u floor 0) (λ r. share x (num r)) kept (at k)
      (word_of_within n L C u floor k lt) (word_of_alike n L C u floor k lt)
    where
      kept : (a b r : ℕ) → a < L → b < L → u a ≡ u b → r < 2 ^ L → AreAlike L u r (w 0)
          → share x (num (swap L u a b r)) ≡ share x (num r)
      kept a b r ha hb e within alike =
          ap (λ s. share x (num (swap L u a b s))) (sym (word_of_number n L C u floor r within alike))
          ∙ same_share rule ax game (λ k. num (swap L u a b (at k))) (λ k. num (swap L u a b (at k))) (num r) proper
          (to_renumbers n L C u floor a b ha hb e) (game_same n L C u floor a b ha hb e)
          (number_within n L C u floor r within alike)

  -- which is nothing
  nothing : (k : ℕ) → k < N → share x k ≡ pos 0
  nothing k lt =
      let c = share x (who 0) in
      let total = sum_below-same N (share x) (λ k. c) all_alike ∙ sum_below-constant N c in
      let whole = ap (λ t. sum_over t (share x) (grand_coalition N)) (ax.single game proper).0
      ∙ sum_over-grand_coalition N (share x) in
      let e = efficient_rule rule ax game proper in
      all_alike k lt
      ∙ mul-cancelℤ (pos N) c (pos 0) (positive N proper.0)
      (omega (products, total, whole, e, ap (◌*ℤ◌ x.den) (worth_all n L C u floor) ∙ mul-zeroℤ x.den))
    where
      positive : (k : ℕ) → 1 ≤ k → pos 0 <ℤ pos k
      positive k one = omega (arith, linear)

  nothing_together : (s : ℕ) → amount x s ≡ pos 0
  nothing_together s =
      ap (λ t. sum_over t (share x) s) (ax.single game proper).0
      ∙ sum_over-same N (share x) (λ k. pos 0) s nothing ∙ sum_over-zero N s

  -- ---- those of the given game

  module _ (E : ℕ → ℤ) (inside : (l : ℕ) → l < L → C l < 2 ^ n) (low : (l : ℕ) → l < L → u l ≤ℤ E (C l))
      (floor_low : (t : ℕ) → t < 2 ^ n → floor ≤ℤ E t)
      (met : (t : ℕ) → 0 < t → t < grand_coalition n → (l : ℕ) × (l < L) × (C l ≡ t) × (u l ≡ E t))
      (rising : (i j : ℕ) → i < j → j < n → word n L C u floor i < word n L C u floor j) where
    abbrev cyl : ℕ → ℕ
    cyl l = cylinder n L C u floor l

    who_rises : (i j : ℕ) → i < j → j < n → who i < who j
    who_rises i j less lt =
        place_less (is_word n L C u floor) (w i) (w j)
        (to_word n L C u floor (w i) (words_alike i (omega (arith, less, lt)))) (rising i j less lt)

    different : (i j : ℕ) → i < n → j < n → who i ≡ who j → i ≡ j
    different i j hi hj e = elim (less_same_or_greater i j) [
      | inl less ↦ absurd (let lt = who_rises i j less hj in omega (arith, lt, e))
      | inr (inl same) ↦ same
      | inr (inr more) ↦ absurd (let lt = who_rises j i more hi in omega (arith, lt, e))
    ]

    are_some : AreSome N n who
    are_some = record { some = some; players = who_within; once = different }

    -- of the words with a position those of its coalition stay
    staying_cylinder : (l : ℕ) → l < L → staying n who (cyl l) ≡ C l
    staying_cylinder l lt =
        staying_is n who (cyl l) (C l) (inside l lt)
        (λ j h. cylinder_has n L C u floor l (who j) (who_within j h)
        ∙ ap (λ r. has_player r l) (at_who j h) ∙ word_has n L C u floor j l lt)

    -- what a coalition of which t stays is worth
    worth_is : (s t : ℕ) → s < 2 ^ N → staying n who s ≡ t → 0 < t → t < grand_coalition n
        → game.worth s ≡ best n L C u floor L s
    worth_is s t within is positive less =
        ap (value n L C u floor) (players_of_within n L C u floor s within)
        ∙ ap (λ (b : Bool). cond b (pos 0) (best n L C u floor L s)) no_end
      where
        no_end : is_end n L C u floor s ≡ false
        no_end =
            rw (nat_eq-other s 0
            (λ e. (let f = ap (staying n who) e ∙ staying_empty n who in omega (arith, f, is, positive))))
            (nat_eq-other s (grand_coalition N)
            (λ e. (let f = ap (staying n who) e ∙ staying_all N n who are_some in omega (arith, f, is, less))))

    best_low : (s t : ℕ) → staying n who s ≡ t → t < 2 ^ n → best n L C u floor L s ≤ℤ E t
    best_low s t is within =
        best_least n L C u floor L s (E t) (floor_low t within)
        (λ l lt e. (let same = sym (staying_cylinder l lt) ∙ ap (staying n who) e ∙ is in
        let le = low l lt in omega (arith, linear, le, ap E same)))

    left_is : (s : ℕ) → worth_left n who game x s ≡ x.den *ℤ game.worth s
    left_is s =
        let t = staying n who s in
        let kept = staying_amount n who x t ∙ sum_over-same n (λ k. share x (who k)) (λ k. pos 0) t
        (λ k lt. nothing (who k) (who_within k lt)) ∙ sum_over-zero n t in
        omega (arith, linear, nothing_together s, kept)

    module _ (base : ℕ → ℤ) (same : (t : ℕ) → t < 2 ^ n → base t ≡ E t) (nobody : E 0 ≡ pos 0)
        (all : E (grand_coalition n) ≡ pos 0) where
      abbrev given : Game
      given = record { players = n; worth = base }

      -- the given game, in the units of the shares
      abbrev scaled : Game
      scaled = equivalent_game x.den (λ i. pos 0) given

      scaled_worth : (t : ℕ) → t < 2 ^ n → scaled.worth t ≡ x.den *ℤ E t
      scaled_worth t within = omega (arith, linear, sum_over-zero n t, ap (◌*ℤ◌ x.den) (same t within))

      den_low : pos 0 ≤ℤ x.den
      den_low = (let one = (ax.single game proper).1 in omega (arith, linear, one))

      reduced : IsReducedGame n who game x scaled
      reduced = record {
        players = refl;
        nobody = scaled_worth 0 (omega (arith, whole)) ∙ ap (◌*ℤ◌ x.den) nobody ∙ mul-zeroℤ x.den;
        all = scaled_worth (grand_coalition n) (grand_coalition-within n) ∙ ap (◌*ℤ◌ x.den) all
            ∙ sym (ap (◌*ℤ◌ x.den) (worth_all n L C u floor)) ∙ sym (left_is (grand_coalition N));
        some = λ t positive less.
            let within : t < 2 ^ n = omega (arith, less) in
            let found = met t positive less in
            let s = cyl found.0 in
            let s_in = cylinder_within n L C u floor found.0 in
            let is = staying_cylinder found.0 found.1 ∙ found.2 in
            let worth = worth_is s t s_in is positive less in
            let up = best_up n L C u floor L found.0 s found.1 refl in
            let exact : E t ≡ game.worth s = omega (arith, linear, worth, up, best_low s t is within, found.3) in (
              (s, (s_in, is), scaled_worth t within ∙ ap (◌*ℤ◌ x.den) exact ∙ sym (left_is s)),
              λ r p.
                  let worth_r = worth_is r t p.0 p.1 positive less in
                  let le = best_low r t p.1 within in
                  let scaled_le = mul-leℤ x.den (game.worth r) (E t) den_low (omega (arith, linear, worth_r, le)) in
                  omega (arith, linear, scaled_le, left_is r, scaled_worth t within),
            );
      }
        where
          whole : 0 < 2 ^ n
          whole = (let p = grand_coalition-within n in omega (arith, p))

      proper_given : IsPlayable given
      proper_given = (some, same 0 (let p = grand_coalition-within n in omega (arith, p)) ∙ nobody)

      pub nothing_given : (k : ℕ) → k < n → share (rule given) k ≡ pos 0
      nothing_given k lt =
          let h = scaled in
          let one = (ax.single game proper).1 in
          let e = ax.reduced n who game h proper are_some who_rises reduced k lt in
          let none = staying_share n who x k lt ∙ nothing (who k) (who_within k lt) in
          let f = share_equivalent rule ax x.den (λ i. pos 0) given k one proper_given lt in
          let h_den = (ax.single h (proper_scaled)).1 in
          let g_den = (ax.single given proper_given).1 in
          shaped x.den (rule given).den (rule h).den (share (rule given) k) (share (rule h) k)
          (share (staying_shares n who x) k) one h_den e none f
        where
          proper_scaled : IsPlayable scaled
          proper_scaled = (some, reduced.nobody)

          shaped : (q g h s t z : ℤ) → pos 1 ≤ℤ q → pos 1 ≤ℤ h → t *ℤ pos 1 ≡ z *ℤ h → z ≡ pos 0
              → t *ℤ g ≡ (q *ℤ s +ℤ g *ℤ pos 0) *ℤ h → s ≡ pos 0
          shaped q g h s t z one two e none f =
              let t_none : t ≡ pos 0 = sym (mul-oneℤ t) ∙ e ∙ ap (λ y. y *ℤ h) none ∙ zero-mulℤ h in
              let inner : q *ℤ s +ℤ g *ℤ pos 0 ≡ q *ℤ s = omega products in
              let outer : h *ℤ (q *ℤ s) ≡ h *ℤ pos 0 =
              omega (sorted_products, ap (λ y. y *ℤ h) (sym inner), f, ap (λ y. y *ℤ g) t_none) in
              let qs = mul-cancelℤ h (q *ℤ s) (pos 0) (omega (arith, linear, two)) outer in
              mul-cancelℤ q s (pos 0) (omega (arith, linear, one)) (qs ∙ sym (mul-zeroℤ q))
