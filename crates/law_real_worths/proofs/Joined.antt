-- A player more in a coalition, halves of differences, and a coalition of the greatest excess among some.
use Rattle.std.proofs.Common.{◌≡◌, ◌⊎◌, ℕ, zero, suc, ◌+◌, ◌^◌, ◌<◌, Bool, true, false, cond, List, length, refl, sym}
use Rattle.std.proofs.Common.{ap, ◌∙◌, inl, inr, arith}
use Rattle.std.proofs.lemmas.Bool.{false≢true}
use Rattle.definitions.proofs.Cases.{same_or_other, less_or_last, true_or_false}
use Rattle.definitions.proofs.Members.{has_player-singleton, has_player-singleton_other}
use Rattle.definitions.proofs.Parts.{has_player-more_same, has_player-more_other}
use Rattle.definitions.specs.Coalitions.{has_player, singleton}
use Rattle.definitions.specs.declared.Family.{Family}
use Rattle.definitions.specs.declared.Family.TheVariants.{Imputations, Preimputations}
use Rattle.real_shares.specs.Numbers.{Numbers, IsOrderedGroup, AtMost, Less, Equal, total_below}
use Rattle.real_shares.specs.Shares.{number_of, amount_of}
use Rattle.real_shares.proofs.Orders.{decided, at_most-same, from_less}
use Rattle.real_shares.proofs.Multiples.{chain, back, equal_path, plus-equal, left, right, neutral_left, from_low}
use Rattle.real_shares.proofs.Multiples.{plus-at_most, total_below-equal, total_below-plus, through}
use Rattle.law_real_worths.specs.Games.{NumberGame, IsIndividuallyRationalIn, InFamilyIn}
use Rattle.law_real_worths.proofs.CoreFirst.{amount_at}
use Rattle.law_real_worths.proofs.BothAreOne.{alone_gets}

module _ {C : Type 0} (N : Numbers C) (L : IsOrderedGroup N) where
  -- ---- halves of a difference

  -- h is above zero where b is above a
  pub half_positive : (a b h : C) → Equal N (N.plus h h) (N.plus b (N.minus a)) → (¬ AtMost N b a) → Less N N.zero h
  half_positive a b h e up le =
      up (from_low N L b a (through N L e.1 (through N L (plus-at_most N L h N.zero h N.zero le le)
      (L.neutral N.zero).0)))

  -- a + (b - a) is b
  pub forth : (a b : C) → Equal N (N.plus a (N.plus b (N.minus a))) b
  forth a b =
      chain N L (L.commutes a (N.plus b (N.minus a)))
      (chain N L (L.associates b (N.minus a) a)
      (chain N L (right N L b (chain N L (L.commutes (N.minus a) a) (L.inverse a))) (L.neutral b)))

  -- a and h twice are b
  pub both_halves : (a b h : C) → Equal N (N.plus h h) (N.plus b (N.minus a)) → Equal N (N.plus (N.plus a h) h) b
  both_halves a b h e = chain N L (L.associates a h h) (chain N L (right N L a e) (forth a b))

  -- where a + d is at most b, a is at most b - d
  pub take_over : (a b d : C) → AtMost N (N.plus a d) b → AtMost N a (N.plus b (N.minus d))
  take_over a b d le =
      through N L (chain N L (L.associates a d (N.minus d)) (chain N L (right N L a (L.inverse d)) (L.neutral a))).1
      (L.shifts (N.plus a d) b (N.minus d) le)

  pub no_less_with : (a h : C) → AtMost N N.zero h → AtMost N a (N.plus a h)
  no_less_with a h low = through N L (L.neutral a).1 (plus-at_most N L a a N.zero h (at_most-same N L a) low)

  -- what is added to both doesn't count
  pub off : (p q t : C) → AtMost N (N.plus p t) (N.plus q t) → AtMost N p q
  off p q t le =
      let undo = λ (c : C). chain N L (L.associates c t (N.minus t))
      (chain N L (right N L c (L.inverse t)) (L.neutral c)) in
      through N L (undo p).1 (through N L (L.shifts (N.plus p t) (N.plus q t) (N.minus t) le) (undo q).0)

  -- where h twice isn't above zero, h isn't
  pub half_low : (h : C) → AtMost N (N.plus h h) N.zero → AtMost N h N.zero
  half_low h le = elim (L.linear h N.zero) [
    | inl low ↦ low
    | inr up ↦ through N L (no_less_with h h up) le
  ]

  -- ---- a player more

  pub total_more : (v : ℕ → C) (n r i : ℕ) → i < n → has_player r i ≡ false
      → Equal N (total_below N n (λ l. cond (has_player (r + 2 ^ i) l) (v l) N.zero))
      (N.plus (total_below N n (λ l. cond (has_player r l) (v l) N.zero)) (v i))
  total_more v n r i lt out =
      chain N L
      (total_below-equal N L n (λ l. cond (has_player (r + 2 ^ i) l) (v l) N.zero)
      (λ l. N.plus (cond (has_player r l) (v l) N.zero) (cond (has_player (singleton i) l) (v l) N.zero))
      (λ l h. each l))
      (chain N L
      (total_below-plus N L n (λ l. cond (has_player r l) (v l) N.zero)
      (λ l. cond (has_player (singleton i) l) (v l) N.zero))
      (right N L (total_below N n (λ l. cond (has_player r l) (v l) N.zero)) (alone_gets N L v i n lt)))
    where
      by_tests : (l : ℕ) (p q b : Bool) → has_player (r + 2 ^ i) l ≡ p → has_player r l ≡ q
          → has_player (singleton i) l ≡ b
          → Equal N (cond p (v l) N.zero) (N.plus (cond q (v l) N.zero) (cond b (v l) N.zero))
          → Equal N (cond (has_player (r + 2 ^ i) l) (v l) N.zero)
          (N.plus (cond (has_player r l) (v l) N.zero) (cond (has_player (singleton i) l) (v l) N.zero))
      by_tests l p q b ep eq eb same =
          chain N L
          (equal_path N L (cond (has_player (r + 2 ^ i) l) (v l) N.zero) (cond p (v l) N.zero)
          (ap (λ (t : Bool). cond t (v l) N.zero) ep))
          (chain N L same
          (plus-equal N L
          (equal_path N L (cond q (v l) N.zero) (cond (has_player r l) (v l) N.zero)
          (ap (λ (t : Bool). cond t (v l) N.zero) (sym eq)))
          (equal_path N L (cond b (v l) N.zero) (cond (has_player (singleton i) l) (v l) N.zero)
          (ap (λ (t : Bool). cond t (v l) N.zero) (sym eb)))))

      each : (l : ℕ)
          → Equal N (cond (has_player (r + 2 ^ i) l) (v l) N.zero)
          (N.plus (cond (has_player r l) (v l) N.zero) (cond (has_player (singleton i) l) (v l) N.zero))
      each l = elim (same_or_other l i) [
        | inl same ↦
            by_tests l true false true (ap (has_player (r + 2 ^ i)) same ∙ has_player-more_same r i out)
            (ap (has_player r) same ∙ out) (ap (has_player (singleton i)) same ∙ has_player-singleton i)
            (back N L (neutral_left N L (v l)))
        | inr other ↦
            by_tests l (has_player r l) (has_player r l) false (has_player-more_other r i l out other) refl
            (has_player-singleton_other i l other) (back N L (L.neutral (cond (has_player r l) (v l) N.zero)))
      ]

  -- ---- the greatest among some

  pub greatest_among : (test : ℕ → Bool) (f : ℕ → C) (b : ℕ)
      → ((s : ℕ) → s < b → test s ≡ false)
      ⊎ ((c : ℕ) × (c < b) × (test c ≡ true) × ((s : ℕ) → s < b → test s ≡ true → AtMost N (f s) (f c)))
  greatest_among test f zero = inl (λ s lt. absurd (omega arith))
  greatest_among test f (suc b) = elim (true_or_false (test b)) [
    | inr fails ↦ elim (greatest_among test f b) [
      | inl none ↦ inl (λ s lt. elim (less_or_last s b lt) [
        | inl less ↦ none s less
        | inr last ↦ ap test last ∙ fails
      ])
      | inr found ↦ inr (
        found.0,
        omega (arith, found.1),
        found.2,
        λ s lt passes. elim (less_or_last s b lt) [
          | inl less ↦ found.3 s less passes
          | inr last ↦ absurd (false≢true (sym fails ∙ ap test (sym last) ∙ passes))
        ],
      )
    ]
    | inl passes ↦ elim (greatest_among test f b) [
      | inl none ↦ inr (
        b,
        omega arith,
        passes,
        λ s lt here. elim (less_or_last s b lt) [
          | inl less ↦ absurd (false≢true (sym (none s less) ∙ here))
          | inr last ↦ (equal_path N L (f s) (f b) (ap f last)).0
        ],
      )
      | inr found ↦ elim (decided (N.at_most (f b) (f found.0))) [
        | inl le ↦ inr (
          found.0,
          omega (arith, found.1),
          found.2,
          λ s lt here. elim (less_or_last s b lt) [
            | inl less ↦ found.3 s less here
            | inr last ↦
                through N L (equal_path N L (f s) (f b) (ap f last)).0 le
          ],
        )
        | inr above ↦ inr (
          b,
          omega arith,
          passes,
          λ s lt here. elim (less_or_last s b lt) [
            | inl less ↦
                through N L (found.3 s less here) (from_less N L (f found.0) (f b) above)
            | inr last ↦ (equal_path N L (f s) (f b) (ap f last)).0
          ],
        )
      ]
    ]
  ]

module _ {C : Type 0} (N : Numbers C) (L : IsOrderedGroup N) (g : NumberGame C) where
  pub amount_more : (y : List C) (r i : ℕ) → length y ≡ g.players → i < g.players → has_player r i ≡ false
      → Equal N (amount_of N y (r + 2 ^ i)) (N.plus (amount_of N y r) (number_of N y i))
  amount_more y r i long lt out =
      chain N L (amount_at N L g y (r + 2 ^ i) long)
      (chain N L (total_more N L (number_of N y) g.players r i lt out)
      (left N L (number_of N y i) (back N L (amount_at N L g y r long))))

  pub rational_of : (family : Family) (y : List C) → InFamilyIn N family g y → family ≡ Imputations
      → IsIndividuallyRationalIn N g y
  rational_of Imputations y h e = h.2
  rational_of Preimputations y h e = absurd (cc)
