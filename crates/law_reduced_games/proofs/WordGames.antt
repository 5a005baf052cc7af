-- The game of all words: its players are the words that have as many positions of each value as that of a player of a
-- given game. A coalition of all words with some position is worth the value of that position, and each other coalition
-- little. An exchange of positions of one value exchanges players and leaves the game as it is.
use Rattle.std.proofs.Common.{◌≡◌, ℕ, zero, suc, ◌+◌, ◌-◌, ◌^◌, ◌<◌, ◌≤◌, Bool, true, false, cond, ◌||◌, nat_eq, ℤ, pos}
use Rattle.std.proofs.Common.{◌≤ℤ◌, refl, sym, ap, subst, ◌∙◌, inl, inr, arith}
use Rattle.std.proofs.Math.Nat.{pow-le-pow_right}
use Rattle.std.proofs.lemmas.Bool.{false≢true}
use Rattle.std.proofs.lemmas.Int.{ints, clamps}
use Rattle.std.specs.Int.{int_max}
use Rattle.std.specs.Ordering.{int_eq}
use Rattle.definitions.proofs.Ring.{linear}
use Rattle.definitions.proofs.Cases.{true_or_false, same_or_other, less_or_last, nat_eq-same, nat_eq-other}
use Rattle.definitions.proofs.Cases.{nat_eq-equal, from_nat_eq, or_true, below_or_above}
use Rattle.definitions.proofs.Masks.{grand_coalition-within}
use Rattle.definitions.proofs.Members.{sum_below-same, sum_below-zero, has_player-singleton, has_player-singleton_other}
use Rattle.definitions.proofs.Parts.{has_player-past}
use Rattle.definitions.proofs.Splits.{passes_below, passes_below-at, some_below-true, some_below-false}
use Rattle.theorems.proofs.Examples.{from_int_eq}
use Rattle.definitions.specs.Coalitions.{has_player, singleton, grand_coalition, some_below}
use Rattle.definitions.specs.Games.{Game}
use Rattle.law_answers.specs.Renumbering.{IsRenumbering, exchanged, coalition_where, renumbered_coalition}
use Rattle.law_answers.specs.Renumbering.{renumbered_game}
use Rattle.law_answers.proofs.RenumberedCoalitions.{coalition_where-within, coalition_where-has, same_below, was_back}
use Rattle.law_answers.proofs.RenumberedCoalitions.{was_grand}
use Rattle.law_answers.proofs.ExchangeChangesNothing.{exchange_is_renumbering}
use Rattle.law_reduced_games.proofs.Staying.{staying_empty}
use Rattle.law_reduced_games.proofs.Rules.{same_game}
use Rattle.law_reduced_games.proofs.Numbered.{place, passing, passing_is, passing_place, place_within}
use Rattle.law_reduced_games.proofs.Words.{count_of, weight_of, swap, swap_within, swap_has, swap_twice, swap_weight}
use Rattle.law_reduced_games.proofs.Words.{value_exchanged, AreAlike, all_pass}
use Rattle.law_answers.proofs.Numbers.{to_int_eq}

-- where nobody from c on passes, the coalition of those who do is below 2 ^ c
short_where : (c k : ℕ) (test : ℕ → Bool) → ((l : ℕ) → c ≤ l → l < k → test l ≡ false)
    → coalition_where k test < 2 ^ c
short_where c zero test h = (let p = grand_coalition-within c in omega (arith, p))
short_where c (suc k) test h = elim (below_or_above k c) [
  | inl less ↦
      (let within = coalition_where-within (suc k) test in
      let power : 2 ^ suc k ≤ 2 ^ c = pow-le-pow_right two (omega (arith, less)) in omega (arith, within, power))
  | inr past ↦
      (let ih = short_where c k test (λ l low high. h l low (omega arith)) in
      let same =
      ap (λ (b : Bool). cond b (coalition_where k test + 2 ^ k) (coalition_where k test)) (h k past (omega arith)) in
      omega (arith, ih, same))
]
  where
    two : 0 < 2
    two = omega arith

module _ (n L : ℕ) (C : ℕ → ℕ) (u : ℕ → ℤ) (floor : ℤ) where
  -- ---- words

  -- the positions whose coalition holds player j
  abbrev pub word : ℕ → ℕ
  word j = coalition_where L (λ l. has_player (C l) j)

  pub word_within : (j : ℕ) → word j < 2 ^ L
  word_within j = coalition_where-within L (λ l. has_player (C l) j)

  pub word_has : (j l : ℕ) → l < L → has_player (word j) l ≡ has_player (C l) j
  word_has j l lt = coalition_where-has L (λ l. has_player (C l) j) l lt

  pub word_weight : (j : ℕ) (v : ℤ) → weight_of L u v (word j) ≡ count_of L u v (λ l. has_player (C l) j)
  word_weight j v =
      sum_below-same L (λ l. cond (int_eq (u l) v) (cond (has_player (word j) l) (pos 1) (pos 0)) (pos 0))
      (λ l. cond (int_eq (u l) v) (cond (has_player (C l) j) (pos 1) (pos 0)) (pos 0))
      (λ l lt. ap (λ (b : Bool). cond (int_eq (u l) v) (cond b (pos 1) (pos 0)) (pos 0)) (word_has j l lt))

  -- where the last positions are those of each player alone, words rise with the players
  pub word_rises : (front : ℕ) → L ≡ front + n → ((j : ℕ) → j < n → C (front + j) ≡ singleton j)
      → (i j : ℕ) → i < j → j < n → word i < word j
  word_rises front long alone i j less lt = elim (below_or_above (word j) (2 ^ (front + j))) [
    | inl small ↦ absurd
        (false≢true
        (sym (has_player-past (front + j) (word j) (front + j) small (omega arith))
        ∙ word_has j (front + j) (omega (arith, long, lt)) ∙ ap (λ s. has_player s j) (alone j lt)
        ∙ has_player-singleton j))
    | inr great ↦
        (let power : 2 ^ suc (front + i) ≤ 2 ^ (front + j) = pow-le-pow_right two (omega (arith, less)) in
        omega (arith, short_where (suc (front + i)) L (λ l. has_player (C l) i) after, power, great))
  ]
    where
      two : 0 < 2
      two = omega arith

      after : (l : ℕ) → suc (front + i) ≤ l → l < L → has_player (C l) i ≡ false
      after l low high =
          let k = l - front in
          let at : front + k ≡ l = omega (arith, low) in
          ap (λ t. has_player (C t) i) (sym at) ∙ ap (λ s. has_player s i) (alone k (omega (arith, low, high, long)))
          ∙ has_player-singleton_other k i (λ e. omega (arith, low, e))

  -- as many positions of each value as the word of player 0
  abbrev pub is_word : ℕ → Bool
  is_word r = passes_below L (λ l. int_eq (weight_of L u (u l) r) (weight_of L u (u l) (word 0)))

  pub to_word : (r : ℕ) → AreAlike L u r (word 0) → is_word r ≡ true
  to_word r alike =
      all_pass L (λ l. int_eq (weight_of L u (u l) r) (weight_of L u (u l) (word 0)))
      (λ l lt. to_int_eq (weight_of L u (u l) r) (weight_of L u (u l) (word 0)) (alike (u l)))

  pub from_word : (r : ℕ) → is_word r ≡ true → AreAlike L u r (word 0)
  from_word r e v = elim (true_or_false (some_below L (λ l. int_eq (u l) v))) [
    | inl some ↦
        (let found = some_below-true L (λ l. int_eq (u l) v) some in
        let is = from_int_eq (u found.0) v found.2 in
        subst (λ z. weight_of L u z r ≡ weight_of L u z (word 0)) is
        (from_int_eq (weight_of L u (u found.0) r) (weight_of L u (u found.0) (word 0))
        (passes_below-at L (λ l. int_eq (weight_of L u (u l) r) (weight_of L u (u l) (word 0))) e found.0 found.1)))
    | inr none ↦ no_weight r none ∙ sym (no_weight (word 0) none)
  ]
    where
      no_weight : (s : ℕ) → some_below L (λ l. int_eq (u l) v) ≡ false → weight_of L u v s ≡ pos 0
      no_weight s none =
          sum_below-zero L (λ l. cond (int_eq (u l) v) (cond (has_player s l) (pos 1) (pos 0)) (pos 0))
          (λ l lt. ap (λ (b : Bool). cond b (cond (has_player s l) (pos 1) (pos 0)) (pos 0))
          (some_below-false L (λ l. int_eq (u l) v) none l lt))

  -- ---- players

  abbrev pub many : ℕ
  many = place is_word (2 ^ L)

  -- the word of player k, and the player of a word
  abbrev pub word_of : ℕ → ℕ
  word_of k = passing is_word (2 ^ L) k

  abbrev pub number : ℕ → ℕ
  number r = place is_word r

  pub number_within : (r : ℕ) → r < 2 ^ L → AreAlike L u r (word 0) → number r < many
  number_within r lt alike = place_within is_word (2 ^ L) r lt (to_word r alike)

  pub word_of_number : (r : ℕ) → r < 2 ^ L → AreAlike L u r (word 0) → word_of (number r) ≡ r
  word_of_number r lt alike = passing_place is_word (2 ^ L) r lt (to_word r alike)

  pub word_of_within : (k : ℕ) → k < many → word_of k < 2 ^ L
  word_of_within k lt = (passing_is is_word (2 ^ L) k lt).0

  pub word_of_alike : (k : ℕ) → k < many → AreAlike L u (word_of k) (word 0)
  word_of_alike k lt = from_word (word_of k) (passing_is is_word (2 ^ L) k lt).1

  pub number_of_word : (k : ℕ) → k < many → number (word_of k) ≡ k
  number_of_word k lt = (passing_is is_word (2 ^ L) k lt).2

  -- the words that have a position
  abbrev pub cylinder : ℕ → ℕ
  cylinder l = coalition_where many (λ k. has_player (word_of k) l)

  pub cylinder_within : (l : ℕ) → cylinder l < 2 ^ many
  cylinder_within l = coalition_where-within many (λ k. has_player (word_of k) l)

  pub cylinder_has : (l k : ℕ) → k < many → has_player (cylinder l) k ≡ has_player (word_of k) l
  cylinder_has l k lt = coalition_where-has many (λ k. has_player (word_of k) l) k lt

  -- ---- the game

  -- the greatest value of the first c positions whose words are s
  abbrev pub best : ℕ → ℕ → ℤ
  best zero s = floor
  best (suc c) s = cond (nat_eq (cylinder c) s) (int_max (u c) (best c s)) (best c s)

  pub best_floor : (c s : ℕ) → floor ≤ℤ best c s
  best_floor zero s = omega (arith, linear)
  best_floor (suc c) s = either (nat_eq (cylinder c) s) (best_floor c s)
    where
      either : (b : Bool) → floor ≤ℤ best c s → floor ≤ℤ cond b (int_max (u c) (best c s)) (best c s)
      either true h = over (u c) (best c s) h
        where
          over : (a b : ℤ) → floor ≤ℤ b → floor ≤ℤ int_max a b
          over a b h = omega (arith, ints, clamps)
      either false h = h

  pub best_up : (c l s : ℕ) → l < c → cylinder l ≡ s → u l ≤ℤ best c s
  best_up zero l s lt e = absurd (omega arith)
  best_up (suc c) l s lt e = elim (less_or_last l c lt) [
    | inl less ↦ either (nat_eq (cylinder c) s) (best_up c l s less e)
    | inr same ↦ at_last (nat_eq (cylinder c) s) (nat_eq-equal (cylinder c) s (ap cylinder (sym same) ∙ e)) (ap u same)
  ]
    where
      over : (z a b : ℤ) → z ≤ℤ b → z ≤ℤ int_max a b
      over z a b h = omega (arith, ints, clamps)

      first : (a b : ℤ) → a ≤ℤ int_max a b
      first a b = omega (arith, ints, clamps)

      either : (b : Bool) → u l ≤ℤ best c s → u l ≤ℤ cond b (int_max (u c) (best c s)) (best c s)
      either b h = grind (arith, over)

      at_last : (b : Bool) → b ≡ true → u l ≡ u c → u l ≤ℤ cond b (int_max (u c) (best c s)) (best c s)
      at_last b f same = grind (arith, linear, first)

  pub best_least : (c s : ℕ) (z : ℤ) → floor ≤ℤ z → ((l : ℕ) → l < c → cylinder l ≡ s → u l ≤ℤ z) → best c s ≤ℤ z
  best_least zero s z low h = low
  best_least (suc c) s z low h =
      either (nat_eq (cylinder c) s) refl (best_least c s z low (λ l lt e. h l (omega arith) e))
    where
      both : (a b : ℤ) → a ≤ℤ z → b ≤ℤ z → int_max a b ≤ℤ z
      both a b p q = omega (arith, ints, clamps)

      either : (b : Bool) → nat_eq (cylinder c) s ≡ b → best c s ≤ℤ z
          → cond b (int_max (u c) (best c s)) (best c s) ≤ℤ z
      either b e p = grind (arith, both, from_nat_eq)

  -- nobody and all are worth nothing
  abbrev pub is_end : ℕ → Bool
  is_end s = nat_eq s 0 || nat_eq s (grand_coalition many)

  abbrev pub value : ℕ → ℤ
  value s = cond (is_end s) (pos 0) (best L s)

  -- the players among s
  abbrev pub players_of : ℕ → ℕ
  players_of s = coalition_where many (λ k. has_player s k)

  pub players_of_within : (s : ℕ) → s < 2 ^ many → players_of s ≡ s
  players_of_within s within =
      same_below many (players_of s) s (coalition_where-within many (λ k. has_player s k)) within
      (λ k lt. coalition_where-has many (λ k. has_player s k) k lt)

  abbrev pub word_game : Game
  word_game = record { players = many; worth = λ s. value (players_of s) }

  pub worth_nobody : word_game.worth 0 ≡ pos 0
  worth_nobody = ap value (staying_empty many (λ k. k))

  pub worth_all : word_game.worth (grand_coalition many) ≡ pos 0
  worth_all =
      ap value (players_of_within (grand_coalition many) (grand_coalition-within many))
      ∙ ap (λ (b : Bool). cond b (pos 0) (best L (grand_coalition many)))
      (ap (λ (b : Bool). nat_eq (grand_coalition many) 0 || b) (nat_eq-same (grand_coalition many))
      ∙ or_true (nat_eq (grand_coalition many) 0))

  -- ---- the exchange of two positions of one value

  module _ (a b : ℕ) (ha : a < L) (hb : b < L) (e : u a ≡ u b) where
    abbrev to : ℕ → ℕ
    to k = number (swap L u a b (word_of k))

    swapped_alike : (r : ℕ) → AreAlike L u r (word 0) → AreAlike L u (swap L u a b r) (word 0)
    swapped_alike r alike v = swap_weight L u a b r v ha hb e ∙ alike v

    to_within : (k : ℕ) → k < many → to k < many
    to_within k lt =
        number_within (swap L u a b (word_of k)) (swap_within L u a b (word_of k))
        (swapped_alike (word_of k) (word_of_alike k lt))

    word_of_to : (k : ℕ) → k < many → word_of (to k) ≡ swap L u a b (word_of k)
    word_of_to k lt =
        word_of_number (swap L u a b (word_of k)) (swap_within L u a b (word_of k))
        (swapped_alike (word_of k) (word_of_alike k lt))

    to_twice : (k : ℕ) → k < many → to (to k) ≡ k
    to_twice k lt =
        ap (λ r. number (swap L u a b r)) (word_of_to k lt)
        ∙ ap number (swap_twice L u a b (word_of k) ha hb (word_of_within k lt))
        ∙ number_of_word k lt

    pub to_renumbers : IsRenumbering many to to
    to_renumbers =
        record { to_within = to_within; back_within = to_within; back_to = to_twice; to_back = to_twice }

    abbrev image : ℕ → ℕ
    image s = renumbered_coalition many to s

    image_within : (s : ℕ) → image s < 2 ^ many
    image_within s = coalition_where-within many (λ k. has_player s (to k))

    image_has : (s k : ℕ) → k < many → has_player (image s) k ≡ has_player s (to k)
    image_has s k lt = coalition_where-has many (λ k. has_player s (to k)) k lt

    image_twice : (s : ℕ) → s < 2 ^ many → image (image s) ≡ s
    image_twice s within = was_back many to to to_renumbers s within

    image_cylinder : (l : ℕ) → l < L → image (cylinder l) ≡ cylinder (exchanged a b l)
    image_cylinder l lt =
        same_below many (image (cylinder l)) (cylinder (exchanged a b l)) (image_within (cylinder l))
        (cylinder_within (exchanged a b l))
        (λ k less. image_has (cylinder l) k less ∙ cylinder_has l (to k) (to_within k less)
        ∙ ap (λ r. has_player r l) (word_of_to k less) ∙ swap_has L u a b (word_of k) l lt
        ∙ sym (cylinder_has (exchanged a b l) k less))

    best_no_less : (s : ℕ) → best L s ≤ℤ best L (image s)
    best_no_less s =
        best_least L s (best L (image s)) (best_floor L (image s))
        (λ l lt is. (let there = (exchange_is_renumbering L a b ha hb).to_within l lt in
        let up = best_up L (exchanged a b l) (image s) there (sym (image_cylinder l lt) ∙ ap image is) in
        omega (arith, linear, up, value_exchanged L u a b l e)))

    best_same : (s : ℕ) → s < 2 ^ many → best L (image s) ≡ best L s
    best_same s within = (let up = best_no_less s in let down = best_no_less (image s) in
        omega (arith, linear, up, down, ap (best L) (image_twice s within)))

    end_same : (c s : ℕ) → image c ≡ c → s < 2 ^ many → nat_eq (image s) c ≡ nat_eq s c
    end_same c s fixed within = elim (same_or_other s c) [
      | inl same ↦ nat_eq-equal (image s) c (ap image same ∙ fixed) ∙ sym (nat_eq-equal s c same)
      | inr other ↦
          nat_eq-other (image s) c (λ is. other (sym (image_twice s within) ∙ ap image is ∙ fixed))
          ∙ sym (nat_eq-other s c other)
    ]

    value_same : (s : ℕ) → s < 2 ^ many → value (image s) ≡ value s
    value_same s within =
        ap (λ (p : Bool). cond (p || nat_eq (image s) (grand_coalition many)) (pos 0) (best L (image s)))
        (end_same 0 s (staying_empty many to) within)
        ∙ ap (λ (p : Bool). cond (nat_eq s 0 || p) (pos 0) (best L (image s)))
        (end_same (grand_coalition many) s (was_grand many to to to_renumbers) within)
        ∙ ap (λ z. cond (is_end s) (pos 0) z) (best_same s within)

    worth_same : (s : ℕ) → value (players_of (image s)) ≡ value (players_of s)
    worth_same s =
        let c = players_of s in
        let c_within = coalition_where-within many (λ k. has_player s k) in
        let same : image s ≡ image c = same_below many (image s) (image c) (image_within s) (image_within c)
        (λ k lt. image_has s k lt
        ∙ sym (coalition_where-has many (λ k. has_player s k) (to k) (to_within k lt)) ∙ sym (image_has c k lt)) in
        ap value (players_of_within (image s) (image_within s) ∙ same) ∙ value_same c c_within

    pub game_same : renumbered_game to word_game ≡ word_game
    game_same = same_game many (λ s. value (players_of (image s))) (λ s. value (players_of s)) worth_same
