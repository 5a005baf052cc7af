-- Coalitions made of coalitions.
--
--   union n a b     the players of either
--   common n a b    the players of both
--   opposite n s    the players that aren't in s
use Rattle.std.proofs.Common.{◌≡◌, ℕ, ◌-◌, ◌^◌, ◌<◌, Bool, ◌&&◌, ◌||◌, not, sym, ap, ◌∙◌, arith}
use Rattle.definitions.proofs.Members.{has_player-complement}
use Rattle.definitions.specs.Coalitions.{has_player, grand_coalition}
use Rattle.law_answers.proofs.Complements.{complement-within}
use Rattle.law_answers.proofs.RenumberedCoalitions.{coalition_where-within, coalition_where-has, same_below}
use Rattle.law_answers.specs.Renumbering.{coalition_where}

abbrev pub union : ℕ → ℕ → ℕ → ℕ
union n a b = coalition_where n (λ i. has_player a i || has_player b i)

abbrev pub common : ℕ → ℕ → ℕ → ℕ
common n a b = coalition_where n (λ i. has_player a i && has_player b i)

abbrev pub opposite : ℕ → ℕ → ℕ
opposite n s = grand_coalition n - s

pub opposite-twice : (n s : ℕ) → s < 2 ^ n → opposite n (opposite n s) ≡ s
opposite-twice n s lt = omega (arith, lt)

pub union-has : (n a b i : ℕ) → i < n → has_player (union n a b) i ≡ (has_player a i || has_player b i)
union-has n a b i lt = coalition_where-has n (λ k. has_player a k || has_player b k) i lt

pub common-has : (n a b i : ℕ) → i < n → has_player (common n a b) i ≡ (has_player a i && has_player b i)
common-has n a b i lt = coalition_where-has n (λ k. has_player a k && has_player b k) i lt

pub union-within : (n a b : ℕ) → union n a b < 2 ^ n
union-within n a b = coalition_where-within n (λ k. has_player a k || has_player b k)

pub common-within : (n a b : ℕ) → common n a b < 2 ^ n
common-within n a b = coalition_where-within n (λ k. has_player a k && has_player b k)

-- the union of the opposites is the opposite of the common players
pub opposites-union : (n a b : ℕ) → a < 2 ^ n → b < 2 ^ n
    → union n (opposite n a) (opposite n b) ≡ opposite n (common n a b)
opposites-union n a b ha hb =
    same_below n _ _ (union-within n (opposite n a) (opposite n b)) (complement-within n (common n a b))
    (λ i lt. union-has n (opposite n a) (opposite n b) i lt
    ∙ ap (λ (c : Bool). c || has_player (opposite n b) i) (has_player-complement n a i ha lt)
    ∙ ap (λ (c : Bool). not (has_player a i) || c) (has_player-complement n b i hb lt)
    ∙ by_tests (has_player a i) (has_player b i)
    ∙ ap not (sym (common-has n a b i lt))
    ∙ sym (has_player-complement n (common n a b) i (common-within n a b) lt))
  where
    by_tests : (c d : Bool) → (not c || not d) ≡ not (c && d)
    by_tests c d = grind arith

pub opposites-common : (n a b : ℕ) → a < 2 ^ n → b < 2 ^ n
    → common n (opposite n a) (opposite n b) ≡ opposite n (union n a b)
opposites-common n a b ha hb =
    same_below n _ _ (common-within n (opposite n a) (opposite n b)) (complement-within n (union n a b))
    (λ i lt. common-has n (opposite n a) (opposite n b) i lt
    ∙ ap (λ (c : Bool). c && has_player (opposite n b) i) (has_player-complement n a i ha lt)
    ∙ ap (λ (c : Bool). not (has_player a i) && c) (has_player-complement n b i hb lt)
    ∙ by_tests (has_player a i) (has_player b i)
    ∙ ap not (sym (union-has n a b i lt))
    ∙ sym (has_player-complement n (union n a b) i (union-within n a b) lt))
  where
    by_tests : (c d : Bool) → (not c && not d) ≡ not (c || d)
    by_tests c d = grind arith
