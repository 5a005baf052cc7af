-- The worth of a coalition, and its excess, from the claims cut to the estate.
use Rattle.std.proofs.Common.{◌≡◌, ◌⊎◌, ℕ, zero, suc, ◌-◌, ◌^◌, ◌<◌, ◌≤◌, Bool}
use Rattle.std.proofs.Common.{true, false, cond}
use Rattle.std.proofs.Common.{List, [], ◌∷◌, length, get_or, ℤ, pos, ◌+ℤ◌, ◌-ℤ◌, ◌*ℤ◌}
use Rattle.std.proofs.Common.{neg_ℤ, ◌≤ℤ◌}
use Rattle.std.proofs.Common.{refl, sym, ap, ◌∙◌, inl, inr, arith, min}
use Rattle.std.specs.Int.{int_max}
use Rattle.std.proofs.lemmas.Int.{ints}
use Rattle.std.proofs.Math.Pow.{pow-lt}
use Rattle.definitions.proofs.Ring.{linear, mul-subℤ, mul-zeroℤ, mul-addℤ}
use Rattle.definitions.proofs.Members.{has_player-singleton}
use Rattle.definitions.proofs.Members.{has_player-singleton_other, sum_over-singleton, sum_over-complement}
use Rattle.definitions.proofs.Parts.{part, sum_below-le}
use Rattle.definitions.specs.Sums.{sum_below}
use Rattle.definitions.specs.Coalitions.{has_player, singleton, grand_coalition, sum_over}
use Rattle.definitions.specs.Games.{Game, Allocation, share, amount, excess}
use Rattle.definitions.specs.Classes.{bankruptcy_worth}
use Rattle.orders.proofs.ListSums.{number_of}
use Rattle.talmud.specs.Rule.{cut, loss}
use Rattle.definitions.proofs.Cases.{int_max-cases, same_or_other}
use Rattle.definitions.proofs.SumsOver.{sum_over-empty}

-- ---- the cut

pub cut-is : (estate : ℕ) (claims : List ℕ) (i : ℕ) → cut estate claims i ≡ min (get_or claims i 0) estate
cut-is estate [] i = omega arith
cut-is estate (c ∷ claims) zero = refl
cut-is estate (c ∷ claims) (suc i) = cut-is estate claims i

-- a cut claim is at most the estate
pub cut-low : (estate : ℕ) (claims : List ℕ) (i : ℕ) → pos (cut estate claims i) ≤ℤ pos estate
cut-low estate claims i = rw (cut-is estate claims i) (below (get_or claims i 0))
  where
    below : (c : ℕ) → pos (min c estate) ≤ℤ pos estate
    below c = omega (arith, ints)

abbrev pub cut_claim : ℕ → List ℕ → ℕ → ℤ
cut_claim estate claims i = pos (cut estate claims i)

-- the cut claims of a coalition add to as much as its claims, or to the estate at least; and to no more
pub cut-covers : (estate : ℕ) (claims : List ℕ) (n s : ℕ)
    → (sum_over n (cut_claim estate claims) s ≤ℤ sum_over n (number_of claims) s)
    × (pos 0 ≤ℤ sum_over n (cut_claim estate claims) s)
    × ((sum_over n (cut_claim estate claims) s ≡ sum_over n (number_of claims) s)
    ⊎ (pos estate ≤ℤ sum_over n (cut_claim estate claims) s))
cut-covers estate claims zero s = (omega (arith, ints), omega (arith, ints), inl refl)
cut-covers estate claims (suc n) s =
    let ih = cut-covers estate claims n s in
    rw (cut-is estate claims n)
    (covers_either (has_player s n) (sum_over n (cut_claim estate claims) s) (sum_over n (number_of claims) s)
    (get_or claims n 0) ih.0 ih.1 ih.2)
  where
    cases : (c : ℕ) → (c ≤ estate) ⊎ (estate < c)
    cases c = grind arith

    covers_either : (b : Bool) (u v : ℤ) (c : ℕ) → u ≤ℤ v → pos 0 ≤ℤ u → (u ≡ v) ⊎ (pos estate ≤ℤ u)
        → ((u +ℤ cond b (pos (min c estate)) (pos 0)) ≤ℤ (v +ℤ cond b (pos c) (pos 0)))
        × (pos 0 ≤ℤ (u +ℤ cond b (pos (min c estate)) (pos 0)))
        × ((u +ℤ cond b (pos (min c estate)) (pos 0) ≡ v +ℤ cond b (pos c) (pos 0))
        ⊎ (pos estate ≤ℤ (u +ℤ cond b (pos (min c estate)) (pos 0))))
    covers_either false u v c le low (inl e) = (omega (arith, ints), omega (arith, ints), inl (omega (arith, ints)))
    covers_either false u v c le low (inr e) = (omega (arith, ints), omega (arith, ints), inr (omega (arith, ints)))
    covers_either true u v c le low (inr e) = (omega (arith, ints), omega (arith, ints), inr (omega (arith, ints)))
    covers_either true u v c le low (inl e) = (
      omega (arith, ints),
      omega (arith, ints),
      elim (cases c) [ inl small ↦ inl (omega (arith, ints)) | inr large ↦ inr (omega (arith, ints)) ],
    )

-- what the cut claims of the others leave
pub worth-cut : (estate : ℕ) (claims : List ℕ) (s : ℕ)
    → bankruptcy_worth estate claims s
    ≡ int_max (pos 0)
    (pos estate -ℤ sum_over (length claims) (cut_claim estate claims) (grand_coalition (length claims) - s))
worth-cut estate claims s =
    let t = grand_coalition (length claims) - s in
    let c = cut-covers estate claims (length claims) t in
    same_left (sum_over (length claims) (cut_claim estate claims) t) (sum_over (length claims) (number_of claims) t)
    c.0
    c.2
  where
    same_left : (u v : ℤ) → u ≤ℤ v → (u ≡ v) ⊎ (pos estate ≤ℤ u)
        → int_max (pos 0) (pos estate -ℤ v) ≡ int_max (pos 0) (pos estate -ℤ u)
    same_left u v le (inl e) = ap (λ (z : ℤ). int_max (pos 0) (pos estate -ℤ z)) (sym e)
    same_left u v le (inr e) = elim (int_max-cases (pos 0) (pos estate -ℤ v)) [
      | inl a ↦ elim (int_max-cases (pos 0) (pos estate -ℤ u))
          [ inl b ↦ a.0 ∙ sym b.0 | inr b ↦ omega (arith, ints) ]
      | inr a ↦ elim (int_max-cases (pos 0) (pos estate -ℤ u))
          [ inl b ↦ omega (arith, ints) | inr b ↦ omega (arith, ints) ]
    ]

-- ---- sums of numbers that are at least 0

pub sum-least : (n s p : ℕ) (f : ℕ → ℤ) → ((i : ℕ) → i < n → pos 0 ≤ℤ f i) → p < n → has_player s p ≡ true
    → f p ≤ℤ sum_over n f s
sum-least n s p f low lt has =
    let le = sum_below-le n (part f (singleton p)) (part f s) each in
    omega (arith, linear, sum_over-singleton n p f lt)
  where
    at_p : (i : ℕ) → i ≡ p → part f (singleton p) i ≤ℤ part f s i
    at_p i e = rw e (rw (has, has_player-singleton p) (omega (arith, linear)))

    each : (i : ℕ) → i < n → part f (singleton p) i ≤ℤ part f s i
    each i h =
        elim (same_or_other i p) [
          | inl e ↦ at_p i e
          | inr ne ↦ rw (has_player-singleton_other p i ne) (grind (arith, linear, low i h))
        ]

-- ---- excesses, where the shares add to the estate

abbrev pub game_of : ℕ → List ℕ → Game
game_of estate claims = record { players = length claims; worth = bankruptcy_worth estate claims }

-- the shares are an allocation of the estate
pub record Divides (estate : ℕ) (claims : List ℕ) (x : Allocation) : Type 0 where
  pub players : length x.shares ≡ length claims
  pub positive : pos 1 ≤ℤ x.den
  pub all : sum_below (length claims) (share x) ≡ x.den *ℤ pos estate
  pub gains : (i : ℕ) → i < length claims → pos 0 ≤ℤ share x i
  pub losses : (i : ℕ) → i < length claims → pos 0 ≤ℤ loss estate claims x i

pub amount-at : (estate : ℕ) (claims : List ℕ) (x : Allocation) → Divides estate claims x → (s : ℕ)
    → amount x s ≡ sum_over (length claims) (share x) s
amount-at estate claims x d s = ap (λ (n : ℕ). sum_over n (share x) s) d.players

pub loss-sum : (estate : ℕ) (claims : List ℕ) (x : Allocation) (n s : ℕ)
    → sum_over n (loss estate claims x) s
    ≡ x.den *ℤ sum_over n (cut_claim estate claims) s -ℤ sum_over n (share x) s
loss-sum estate claims x zero s = omega (arith, linear, mul-zeroℤ x.den)
loss-sum estate claims x (suc n) s =
    let ih = loss-sum estate claims x n s in
    let u = sum_over n (cut_claim estate claims) s in
    let c = cut_claim estate claims n in
    let step : (b : Bool)
    → sum_over n (loss estate claims x) s +ℤ cond b (x.den *ℤ c -ℤ share x n) (pos 0)
    ≡ x.den *ℤ (u +ℤ cond b c (pos 0)) -ℤ (sum_over n (share x) s +ℤ cond b (share x n) (pos 0)) = elim [
      | true ↦ omega (arith, linear, mul-addℤ x.den u c)
      | false ↦ omega (arith, linear, mul-addℤ x.den u (pos 0), mul-zeroℤ x.den)
    ] in
    step (has_player s n)

-- the greater of minus what the members get and minus what the others lose
pub excess-at_most : (estate : ℕ) (claims : List ℕ) (x : Allocation) (s : ℕ) (z : ℤ) → Divides estate claims x
    → s < 2 ^ length claims → z ≤ℤ sum_over (length claims) (share x) s
    → z ≤ℤ sum_over (length claims) (loss estate claims x) (grand_coalition (length claims) - s)
    → excess (game_of estate claims) x s ≤ℤ neg_ℤ z
excess-at_most estate claims x s z d small gain lose =
    let n = length claims in
    let t = grand_coalition n - s in
    let c = sum_over n (cut_claim estate claims) t in
    let w = worth-cut estate claims s in
    let parts = sum_over-complement n s (share x) small in
    let losses = loss-sum estate claims x n t in
    let at = amount-at estate claims x d s in
    let scaled = ap (λ (v : ℤ). x.den *ℤ v) w in
    elim (int_max-cases (pos 0) (pos estate -ℤ c)) [
      | inl a ↦ omega (arith, linear, ap (λ (v : ℤ). x.den *ℤ v) a.0, mul-zeroℤ x.den)
      | inr a ↦ omega (arith, linear, ap (λ (v : ℤ). x.den *ℤ v) a.0, mul-subℤ x.den (pos estate) c)
    ]

pub excess-singleton : (estate : ℕ) (claims : List ℕ) (x : Allocation) (i : ℕ) → Divides estate claims x
    → i < length claims
    → pos estate ≤ℤ (sum_below (length claims) (cut_claim estate claims) -ℤ cut_claim estate claims i)
    → excess (game_of estate claims) x (singleton i) ≡ neg_ℤ (share x i)
excess-singleton estate claims x i d lt enough =
    let n = length claims in
    let small = pow-lt lt in
    let c = sum_over n (cut_claim estate claims) (grand_coalition n - singleton i) in
    let parts = sum_over-complement n (singleton i) (cut_claim estate claims) small in
    let mine = sum_over-singleton n i (cut_claim estate claims) lt in
    let got = sum_over-singleton n i (share x) lt in
    let w = worth-cut estate claims (singleton i) in
    let scaled = ap (λ (v : ℤ). x.den *ℤ v) w in
    let at = amount-at estate claims x d (singleton i) in
    elim (int_max-cases (pos 0) (pos estate -ℤ c)) [
      | inl a ↦ omega (arith, linear, ap (λ (v : ℤ). x.den *ℤ v) a.0, mul-zeroℤ x.den)
      | inr a ↦
          let none : pos estate -ℤ c ≡ pos 0 = omega (arith, linear) in
          omega (arith, linear, ap (λ (v : ℤ). x.den *ℤ v) (a.0 ∙ none), mul-zeroℤ x.den)
    ]

pub excess-others : (estate : ℕ) (claims : List ℕ) (x : Allocation) (i : ℕ) → Divides estate claims x
    → i < length claims
    → excess (game_of estate claims) x (grand_coalition (length claims) - singleton i)
    ≡ neg_ℤ (loss estate claims x i)
excess-others estate claims x i d lt =
    let n = length claims in
    let small : singleton i < 2 ^ n = pow-lt lt in
    let s = grand_coalition n - singleton i in
    let back : grand_coalition n - s ≡ singleton i = omega arith in
    let w = worth-cut estate claims s in
    let mine : sum_over n (cut_claim estate claims) (grand_coalition n - s) ≡ cut_claim estate claims i =
    ap (sum_over n (cut_claim estate claims)) back ∙ sum_over-singleton n i (cut_claim estate claims) lt in
    let scaled = ap (λ (v : ℤ). x.den *ℤ v) w in
    let at = amount-at estate claims x d s in
    let parts = sum_over-complement n (singleton i) (share x) small in
    let got = sum_over-singleton n i (share x) lt in
    let le = cut-low estate claims i in
    elim (int_max-cases (pos 0) (pos estate -ℤ sum_over n (cut_claim estate claims) (grand_coalition n - s))) [
      | inl a ↦
          let none : pos estate -ℤ cut_claim estate claims i ≡ pos 0 = omega (arith, linear) in
          omega (
            arith,
            linear,
            ap (λ (v : ℤ). x.den *ℤ v) (a.0 ∙ sym none),
            mul-subℤ x.den (pos estate) (cut_claim estate claims i),
          )
      | inr a ↦
          let same : int_max (pos 0) (pos estate -ℤ sum_over n (cut_claim estate claims) (grand_coalition n - s))
          ≡ pos estate -ℤ cut_claim estate claims i = a.0 ∙ ap (λ (v : ℤ). pos estate -ℤ v) mine in
          omega
          (arith, linear, ap (λ (v : ℤ). x.den *ℤ v) same, mul-subℤ x.den (pos estate) (cut_claim estate claims i))
    ]

-- all together are worth the estate
pub worth-grand_coalition : (estate : ℕ) (claims : List ℕ)
    → bankruptcy_worth estate claims (grand_coalition (length claims)) ≡ pos estate
worth-grand_coalition estate claims =
    let n = length claims in
    let nobody : grand_coalition n - grand_coalition n ≡ 0 = omega arith in
    let none : sum_over n (number_of claims) (grand_coalition n - grand_coalition n) ≡ pos 0 =
    ap (sum_over n (number_of claims)) nobody ∙ sum_over-empty n (number_of claims) in
    elim
    (int_max-cases (pos 0) (pos estate -ℤ sum_over n (number_of claims) (grand_coalition n - grand_coalition n))) [
      | inl a ↦ omega (arith, ints)
      | inr a ↦ omega (arith, ints)
    ]
