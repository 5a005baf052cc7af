-- The members of a coalition who stay: which they are, what their numbers add to, and that each coalition of those who
-- stay is the staying part of some coalition.
use Rattle.std.proofs.Common.{◌≡◌, ℕ, zero, suc, ◌^◌, ◌<◌, ◌≤◌, Bool, cond, ◌&&◌, nat_eq, length, ℤ, pos, sym, ap, ◌∙◌}
use Rattle.std.proofs.Common.{inl, inr, arith}
use Rattle.std.proofs.lemmas.Bool.{false≢true}
use Rattle.std.proofs.Math.Nat.{pow-suc}
use Rattle.std.proofs.lemmas.List.FromFn.{get_or-map-range_with_len, length-map-range_with_len}
use Rattle.definitions.proofs.Cases.{nat_eq-same, from_nat_eq, true_or_false, and_parts, and_both, not_true}
use Rattle.definitions.proofs.Masks.{grand_coalition-within}
use Rattle.definitions.proofs.Members.{has_player-empty, has_player-grand_coalition, sum_below-same}
use Rattle.definitions.proofs.Splits.{some_below-at, some_below-true}
use Rattle.definitions.proofs.SumsOver.{sum_over-same, sum_over-add, sum_over-zero}
use Rattle.definitions.specs.Sums.{sum_below}
use Rattle.definitions.specs.Coalitions.{has_player, singleton, grand_coalition, sum_over, some_below}
use Rattle.definitions.specs.Games.{Allocation, share, amount}
use Rattle.law_answers.specs.Renumbering.{coalition_where}
use Rattle.law_answers.proofs.AtPlayer.{at_player, sum_over-at_player}
use Rattle.law_answers.proofs.RenumberedCoalitions.{coalition_where-within, coalition_where-has, same_below}
use Rattle.law_reduced_games.specs.ReducedGames.{AreSome, staying, staying_shares}
use Rattle.theorems.proofs.Products.{products}

-- ---- the part of a coalition that stays

pub staying_within : (m : ℕ) (who : ℕ → ℕ) (s : ℕ) → staying m who s < 2 ^ m
staying_within m who s = coalition_where-within m (λ k. has_player s (who k))

pub staying_has : (m : ℕ) (who : ℕ → ℕ) (s k : ℕ) → k < m → has_player (staying m who s) k ≡ has_player s (who k)
staying_has m who s k lt = coalition_where-has m (λ k. has_player s (who k)) k lt

-- a coalition of those who stay is the staying part where it holds the same of them
pub staying_is : (m : ℕ) (who : ℕ → ℕ) (s t : ℕ) → t < 2 ^ m
    → ((k : ℕ) → k < m → has_player s (who k) ≡ has_player t k) → staying m who s ≡ t
staying_is m who s t within each =
    same_below m (staying m who s) t (staying_within m who s) within
    (λ k lt. staying_has m who s k lt ∙ each k lt)

pub staying_empty : (m : ℕ) (who : ℕ → ℕ) → staying m who 0 ≡ 0
staying_empty m who =
    staying_is m who 0 0 (let p = grand_coalition-within m in omega (arith, p))
    (λ k lt. has_player-empty (who k) ∙ sym (has_player-empty k))

pub staying_all : (n m : ℕ) (who : ℕ → ℕ) → AreSome n m who
    → staying m who (grand_coalition n) ≡ grand_coalition m
staying_all n m who a =
    staying_is m who (grand_coalition n) (grand_coalition m) (grand_coalition-within m)
    (λ k lt. has_player-grand_coalition n (who k) (a.players k lt) ∙ sym (has_player-grand_coalition m k lt))

-- who stay aren't nobody
pub some_stay : (m : ℕ) → 1 ≤ m → 0 < grand_coalition m
some_stay zero h = absurd (omega arith)
some_stay (suc m) h = let p = grand_coalition-within m in omega (arith, p, pow-suc 2 m)

-- ---- those of t, by their old numbers

abbrev pub old_numbers : ℕ → ℕ → (ℕ → ℕ) → ℕ → ℕ
old_numbers n m who t = coalition_where n (λ i. some_below m (λ k. nat_eq (who k) i && has_player t k))

pub old_within : (n m : ℕ) (who : ℕ → ℕ) (t : ℕ) → old_numbers n m who t < 2 ^ n
old_within n m who t = coalition_where-within n (λ i. some_below m (λ k. nat_eq (who k) i && has_player t k))

old_has : (n m : ℕ) (who : ℕ → ℕ) (t k : ℕ) → AreSome n m who → k < m
    → has_player (old_numbers n m who t) (who k) ≡ has_player t k
old_has n m who t k a lt =
    coalition_where-has n (λ i. some_below m (λ l. nat_eq (who l) i && has_player t l)) (who k) (a.players k lt)
    ∙ elim (true_or_false (has_player t k)) [
      | inl has ↦
          some_below-at m k (λ l. nat_eq (who l) (who k) && has_player t l) lt
          (and_both (nat_eq (who k) (who k)) (has_player t k) (nat_eq-same (who k)) has)
          ∙ sym has
      | inr lacks ↦
          not_true (some_below m (λ l. nat_eq (who l) (who k) && has_player t l))
          (λ some.
          let found = some_below-true m (λ l. nat_eq (who l) (who k) && has_player t l) some in
          let both = and_parts (nat_eq (who found.0) (who k)) (has_player t found.0) found.2 in
          let same = a.once found.0 k found.1 lt (from_nat_eq (who found.0) (who k) both.0) in
          false≢true (sym lacks ∙ ap (has_player t) (sym same) ∙ both.1))
          ∙ sym lacks
    ]

pub staying_old : (n m : ℕ) (who : ℕ → ℕ) (t : ℕ) → AreSome n m who → t < 2 ^ m
    → staying m who (old_numbers n m who t) ≡ t
staying_old n m who t a within = staying_is m who (old_numbers n m who t) t within (λ k lt. old_has n m who t k a lt)

-- ---- sums

-- numbers of those who stay, and 0 for the others, by the old numbers
abbrev pub spread : ℕ → (ℕ → ℕ) → (ℕ → ℤ) → ℕ → ℤ
spread m who a i = sum_below m (λ k. cond (has_player (singleton (who k)) i) (a k) (pos 0))

pub sum_over-spread : (n m : ℕ) (who : ℕ → ℕ) (a : ℕ → ℤ) (s : ℕ) → ((k : ℕ) → k < m → who k < n)
    → sum_over n (spread m who a) s ≡ sum_over m a (staying m who s)
sum_over-spread n m who a s within =
    by_players m within ∙ sum_below-same m (λ k. cond (has_player s (who k)) (a k) (pos 0))
    (λ k. cond (has_player (staying m who s) k) (a k) (pos 0))
    (λ k lt. ap (λ (b : Bool). cond b (a k) (pos 0)) (sym (staying_has m who s k lt)))
  where
    by_players : (m : ℕ) → ((k : ℕ) → k < m → who k < n)
        → sum_over n (spread m who a) s ≡ sum_below m (λ k. cond (has_player s (who k)) (a k) (pos 0))
    by_players zero within = sum_over-zero n s
    by_players (suc m) within =
        omega (
          products,
          sum_over-add n (spread m who a) (at_player (who m) (a m)) s,
          by_players m (λ k lt. within k (omega arith)),
          sum_over-at_player n s (who m) (a m) (within m (omega arith)),
        )

-- ---- the shares

pub staying_length : (m : ℕ) (who : ℕ → ℕ) (x : Allocation) → length (staying_shares m who x).shares ≡ m
staying_length m who x = length-map-range_with_len (λ k. share x (who k)) 0 m

pub staying_share : (m : ℕ) (who : ℕ → ℕ) (x : Allocation) (k : ℕ) → k < m
    → share (staying_shares m who x) k ≡ share x (who k)
staying_share m who x k lt = get_or-map-range_with_len (λ k. share x (who k)) 0 m k k (pos 0) lt (omega arith)

pub staying_amount : (m : ℕ) (who : ℕ → ℕ) (x : Allocation) (t : ℕ)
    → amount (staying_shares m who x) t ≡ sum_over m (λ k. share x (who k)) t
staying_amount m who x t =
    ap (λ c. sum_over c (share (staying_shares m who x)) t) (staying_length m who x)
    ∙ sum_over-same m (share (staying_shares m who x)) (λ k. share x (who k)) t (staying_share m who x)
