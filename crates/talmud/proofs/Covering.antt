-- What the half levels list fixes their players, and what a coalition outside has at most.
use Rattle.std.proofs.Common.{◌≡◌, ◌⊎◌, ℕ, ◌+◌, ◌-◌, ◌^◌, ◌<◌, ◌≤◌, Bool, true}
use Rattle.std.proofs.Common.{false, not, ◌||◌, nat_eq, List, []}
use Rattle.std.proofs.Common.{◌∷◌, ◌++◌, length, ℤ, neg_ℤ, ◌≤ℤ◌, refl, sym, ap}
use Rattle.std.proofs.Common.{◌∙◌, inl, inr, arith}
use Rattle.std.proofs.lemmas.Bool.{false≢true}
use Rattle.definitions.specs.Coalitions.{singleton, grand_coalition, splits}
use Rattle.definitions.specs.Games.{Allocation, share, excess}
use Rattle.definitions.specs.Certificates.{Level, is_listed, has_bound, is_free}
use Rattle.orders.specs.Orders.{IsOrder}
use Rattle.orders.proofs.Fronts.{order-place}
use Rattle.kohlberg.proofs.Listed.{listed_before, listed_here}
use Rattle.kohlberg.proofs.Conditions.{splits-two}
use Rattle.talmud.specs.Rule.{cut, loss}
use Rattle.talmud.specs.Levels.{single, others, IsHalfLevel}
use Rattle.talmud.proofs.Worths.{game_of}
use Rattle.talmud.proofs.ByPlace.{IsRule}
use Rattle.talmud.proofs.Excesses.{Divides-rule, excess-outside}
use Rattle.talmud.proofs.Keys.{any-both_single, any-both_others}
use Rattle.definitions.proofs.Cases.{nat_eq-same, below_or_above}

-- ---- what the levels list

-- the levels list both coalitions of each of the first i places
pub record Covers (n : ℕ) (at : ℕ → ℕ) (i : ℕ) (levels : List Level) : Type 0 where
  pub singles : (j : ℕ) → j < i → is_listed levels (single at j) ≡ true
  pub rest : (j : ℕ) → j < i → is_listed levels (others n at j) ≡ true

pub Covers-none : (n : ℕ) (at : ℕ → ℕ) → Covers n at 0 []
Covers-none n at = record { singles = λ j lt. absurd (omega arith); rest = λ j lt. absurd (omega arith) }

pub Covers-more : (n : ℕ) (claim at : ℕ → ℕ) (m i k : ℕ) (levels : List Level) (l : Level)
    → IsHalfLevel n claim at m i k l → Covers n at i levels → Covers n at k (levels ++ l ∷ [])
Covers-more n claim at m i k levels l b h = record {
  singles = λ j lt. elim (below_or_above j i) [
    | inl less ↦ listed_before levels l (single at j) (h.singles j less)
    | inr low ↦ listed_here levels l (single at j)
        (rw b.coalitions
        (any-both_single (λ c. nat_eq c.0 (single at j)) n at i (k - i) j low (omega arith)
        (nat_eq-same (single at j))))
  ];
  rest = λ j lt. elim (below_or_above j i) [
    | inl less ↦ listed_before levels l (others n at j) (h.rest j less)
    | inr low ↦ listed_here levels l (others n at j)
        (rw b.coalitions
        (any-both_others (λ c. nat_eq c.0 (others n at j)) n at i (k - i) j low (omega arith)
        (nat_eq-same (others n at j))))
  ];
}

-- each of the first i places is fixed by one of its coalitions
free_place : (n : ℕ) (at : ℕ → ℕ) (i h : ℕ) (levels : List Level)
    → ((j : ℕ) → j < i → (is_listed levels (single at j) ≡ true) ⊎ (is_listed levels (others n at j) ≡ true))
    → is_free n levels (at h) ≡ true → i ≤ h
free_place n at i h levels c e = elim (below_or_above h i) [
  | inl less ↦ absurd
      (false≢true
      (sym
      (unfree (is_listed levels (singleton (at h))) (is_listed levels (grand_coalition n - singleton (at h)))
      (has_bound levels (at h)) (c h less)) ∙ e))
  | inr low ↦ low
]
  where
    unfree : (a b e : Bool) → (a ≡ true) ⊎ (b ≡ true) → not ((a || b) || e) ≡ false
    unfree true b e h = refl
    unfree false true e h = refl
    unfree false false e (inl h) = absurd (false≢true h)
    unfree false false e (inr h) = absurd (false≢true h)

pub all_fixed : (n : ℕ) (cost at : ℕ → ℕ) (i : ℕ) (levels : List Level) → IsOrder n cost at
    → ((j : ℕ) → j < i → (is_listed levels (single at j) ≡ true) ⊎ (is_listed levels (others n at j) ≡ true))
    → n ≤ i + 1 → (j h : ℕ) → j < n → h < n → is_free n levels j ≡ true → is_free n levels h ≡ true → j ≡ h
all_fixed n cost at i levels o c end j h jn hn fj fh =
    let a = order-place n cost at o j jn in
    let b = order-place n cost at o h hn in
    let fa : is_free n levels (at a.0) ≡ true = rw a.2 fj in
    let fb : is_free n levels (at b.0) ≡ true = rw b.2 fh in
    sym a.2
    ∙ ap at (one_place a.0 b.0 (free_place n at i a.0 levels c fa) a.1 (free_place n at i b.0 levels c fb) b.1)
    ∙ b.2
  where
    one_place : (a b : ℕ) → i ≤ a → a < n → i ≤ b → b < n → a ≡ b
    one_place a b la ha lb hb = omega arith

-- ---- outside: from place i on, everyone gets and loses z at least

pub outside_most : (estate : ℕ) (claims : List ℕ) (at : ℕ → ℕ) (m : ℕ) (gain : Bool) (t : ℤ) (x : Allocation)
    (i : ℕ) (z : ℤ) (levels : List Level) → IsRule estate claims at m gain t x
    → ((j : ℕ) → j < i
    → (is_listed levels (single at j) ≡ true) ⊎ (is_listed levels (others (length claims) at j) ≡ true))
    → ((p : ℕ) → i ≤ p → p < length claims → (z ≤ℤ share x (at p)) × (z ≤ℤ loss estate claims x (at p))) → (s : ℕ)
    → s < 2 ^ length claims → splits (length claims) (is_free (length claims) levels) s ≡ true
    → excess (game_of estate claims) x s ≤ℤ neg_ℤ z
outside_most estate claims at m gain t x i z levels r c least s small out =
    let two = splits-two (length claims) (is_free (length claims) levels) s out in
    let u = placed two.0 two.2 two.3 in
    let v = placed two.1 two.5 two.6 in
    excess-outside estate claims x s two.0 two.1 z (Divides-rule estate claims at m gain t x r) small two.2 two.4
    u.0 two.5 two.7 v.1
  where
    placed : (j : ℕ) → j < length claims → is_free (length claims) levels j ≡ true
        → (z ≤ℤ share x j) × (z ≤ℤ loss estate claims x j)
    placed j lt free =
        let p = order-place (length claims) (cut estate claims) at r.order j lt in
        let f : is_free (length claims) levels (at p.0) ≡ true = rw p.2 free in
        rw p.2 at (least p.0 (free_place (length claims) at i p.0 levels c f) p.1)

pub fixes : (n : ℕ) (at : ℕ → ℕ) (i : ℕ) (levels : List Level) → Covers n at i levels → (j : ℕ) → j < i
    → (is_listed levels (single at j) ≡ true) ⊎ (is_listed levels (others n at j) ≡ true)
fixes n at i levels c j lt = inl (c.singles j lt)
