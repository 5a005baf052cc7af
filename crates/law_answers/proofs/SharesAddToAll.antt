-- In each order the players together add the worth of all. So their totals add to that, as often as there are
-- orders.
use Rattle.std.proofs.Common.{◌≡◌, ℕ, zero, suc, ◌+◌, ◌^◌, ◌<◌, Bool, true, false, cond, nat_eq, List, [], ◌∷◌, length}
use Rattle.std.proofs.Common.{ℤ, pos, ◌+ℤ◌, ◌-ℤ◌, ◌*ℤ◌, ◌<ℤ◌, refl, sym, ap, ◌∙◌, inl, inr, arith}
use lib.IntN.{*ℤ_comm}
use Rattle.std.specs.List.{AllByRecursion}
use Rattle.std.proofs.Math.Nat.{pow-suc}
use Rattle.definitions.proofs.Alls.{all_weaken, all_with}
use Rattle.definitions.proofs.Cases.{less_or_last, nat_eq-same, nat_eq-other, from_nat_eq}
use Rattle.definitions.proofs.Masks.{grand_coalition-within}
use Rattle.definitions.proofs.Members.{sum_below-same, sum_below-zero, sum_below-add, sum_below-times}
use Rattle.definitions.proofs.Members.{sum_over-grand_coalition}
use Rattle.definitions.proofs.Ring.{linear, mul-cancelℤ, mul_left_commℤ, suc-mulℤ}
use Rattle.definitions.proofs.MarginalWorths.{marginal_worth-none}
use Rattle.definitions.specs.Sums.{sum_below}
use Rattle.definitions.specs.Coalitions.{grand_coalition, sum_over}
use Rattle.definitions.specs.Games.{Game, Allocation, share, amount, IsEfficient}
use Rattle.definitions.specs.Shapley.{AllDiffer, IsOrder, insertions, orders, marginal_worth, total_over, shapley_total}
use Rattle.definitions.specs.Shapley.{factorial, IsShapley}
use Rattle.shapley.proofs.EachOnce.{are_orders, length-orders}
use Rattle.shapley.proofs.Orders.{All-map, All-flat_map}
use Rattle.shapley.proofs.Sizes.{factorial-some}
use Rattle.theorems.proofs.Products.{products}

-- ---- the mask of a list of players

abbrev mask_of : List ℕ → ℕ
mask_of [] = 0
mask_of (p ∷ o) = 2 ^ p + mask_of o

insertions-mask : (n : ℕ) (o : List ℕ) → AllByRecursion (λ z. mask_of z ≡ 2 ^ n + mask_of o) (insertions n o)
insertions-mask n [] = (refl, tt)
insertions-mask n (y ∷ o) = (
  refl,
  All-map (λ z. mask_of z ≡ 2 ^ n + mask_of (y ∷ o)) (λ z. y ∷ z) (insertions n o)
      (all_weaken (λ z. mask_of z ≡ 2 ^ n + mask_of o) (λ z. mask_of (y ∷ z) ≡ 2 ^ n + mask_of (y ∷ o))
      (insertions n o) (λ z e. omega (arith, e)) (insertions-mask n o)),
)

-- an order of all players holds each
orders-mask : (n : ℕ) → AllByRecursion (λ o. mask_of o ≡ grand_coalition n) (orders n)
orders-mask zero = (refl, tt)
orders-mask (suc n) =
    All-flat_map (λ o. mask_of o ≡ grand_coalition (suc n)) (insertions n) (orders n)
    (all_weaken (λ o. mask_of o ≡ grand_coalition n)
    (λ o. AllByRecursion (λ z. mask_of z ≡ grand_coalition (suc n)) (insertions n o)) (orders n)
    (λ o e. all_weaken (λ z. mask_of z ≡ 2 ^ n + mask_of o) (λ z. mask_of z ≡ grand_coalition (suc n))
    (insertions n o) (λ z f. f ∙ ap (λ (k : ℕ). 2 ^ n + k) e ∙ one_more) (insertions-mask n o))
    (orders-mask n))
  where
    one_more : 2 ^ n + grand_coalition n ≡ grand_coalition (suc n)
    one_more = let within = grand_coalition-within n in omega (arith, pow-suc 2 n, within)

-- ---- one order

sum_one : (n p : ℕ) (c : ℤ) → p < n → sum_below n (λ i. cond (nat_eq p i) c (pos 0)) ≡ c
sum_one zero p c lt = absurd (omega arith)
sum_one (suc n) p c lt = elim (less_or_last p n lt) [
  | inl less ↦ omega (
    products,
    sum_one n p c less,
    ap (λ (b : Bool). cond b c (pos 0)) (nat_eq-other p n (λ same. omega arith)),
  )
  | inr same ↦ rw same
      (omega (arith, linear, others_add_nothing n, ap (λ (b : Bool). cond b c (pos 0)) (nat_eq-same n)))
]
  where
    others_add_nothing : (n : ℕ) → sum_below n (λ i. cond (nat_eq n i) c (pos 0)) ≡ pos 0
    others_add_nothing n =
        sum_below-zero n (λ i. cond (nat_eq n i) c (pos 0))
        (λ i lt. ap (λ (b : Bool). cond b c (pos 0)) (nat_eq-other n i (λ same. omega arith)))

sum_marginals : (v : ℕ → ℤ) (n front : ℕ) (o : List ℕ) → AllByRecursion (λ p. p < n) o → AllDiffer o
    → sum_below n (λ i. marginal_worth v i front o) ≡ v (front + mask_of o) -ℤ v front
sum_marginals v n front [] below once =
    let none : front + 0 ≡ front = omega arith in
    omega (arith, linear, sum_below-zero n (λ i. pos 0) (λ i lt. refl), ap v none)
sum_marginals v n front (p ∷ o) below once =
    let step = v (front + 2 ^ p) -ℤ v front in
    let rest = λ (i : ℕ). marginal_worth v i (front + 2 ^ p) o in
    let moved : front + 2 ^ p + mask_of o ≡ front + (2 ^ p + mask_of o) = omega arith in
    let ih = sum_marginals v n (front + 2 ^ p) o below.1 once.1 in
    let split =
    sum_below-same n (λ i. marginal_worth v i front (p ∷ o)) (λ i. cond (nat_eq p i) step (pos 0) +ℤ rest i)
    (λ i lt. parts i (nat_eq p i) refl) in
    let both = sum_below-add n (λ i. cond (nat_eq p i) step (pos 0)) rest in
    omega (arith, linear, split, both, sum_one n p step below.0, ih, ap v moved)
  where
    parts : (i : ℕ) (b : Bool) → nat_eq p i ≡ b
        → cond b (v (front + 2 ^ i) -ℤ v front) (marginal_worth v i (front + 2 ^ p) o)
        ≡ cond b (v (front + 2 ^ p) -ℤ v front) (pos 0) +ℤ marginal_worth v i (front + 2 ^ p) o
    parts i true e =
        let none = ap (λ (k : ℕ). marginal_worth v k (front + 2 ^ p) o) (sym (from_nat_eq p i e))
        ∙ marginal_worth-none v p (front + 2 ^ p) o once.0 in
        omega (arith, linear, none, ap (λ (k : ℕ). v (front + 2 ^ k)) (sym (from_nat_eq p i e)))
    parts i false e = omega (arith, linear)

-- ---- all orders

sum_totals : (v : ℕ → ℤ) (n : ℕ) (c : ℤ) (os : List (List ℕ))
    → AllByRecursion (λ o. sum_below n (λ i. marginal_worth v i 0 o) ≡ c) os
    → sum_below n (λ i. total_over v i os) ≡ pos (length os) *ℤ c
sum_totals v n c [] h = omega (products, sum_below-zero n (λ i. pos 0) (λ i lt. refl))
sum_totals v n c (o ∷ os) h =
    omega (
      products,
      sum_below-add n (λ i. marginal_worth v i 0 o) (λ i. total_over v i os),
      h.0,
      sum_totals v n c os h.1,
      suc-mulℤ (length os) c,
    )

-- the totals add to the worth of all less that of nobody, times n!
pub sum-totals : (g : Game)
    → sum_below g.players (shapley_total g)
    ≡ pos (factorial g.players) *ℤ (g.worth (grand_coalition g.players) -ℤ g.worth 0)
sum-totals g =
    let n = g.players in
    let v = g.worth in
    let c = v (grand_coalition n) -ℤ v 0 in
    sum_totals v n c (orders n)
    (all_with (IsOrder n) (λ o. mask_of o ≡ grand_coalition n)
    (λ o. sum_below n (λ i. marginal_worth v i 0 o) ≡ c) (orders n)
    (λ o h e. sum_marginals v n 0 o h.below h.once ∙ ap (λ (k : ℕ). v k -ℤ v 0) (nothing (mask_of o) ∙ e))
    (are_orders n) (orders-mask n))
    ∙ ap (λ (k : ℕ). pos k *ℤ (v (grand_coalition n) -ℤ v 0)) (length-orders n)
  where
    nothing : (k : ℕ) → 0 + k ≡ k
    nothing k = omega arith

-- ---- the shares

pub factorial-positive : (n : ℕ) → pos 0 <ℤ pos (factorial n)
factorial-positive n = let some = factorial-some n in omega (arith, linear, some)

pub amount-all : (g : Game) (x : Allocation) → length x.shares ≡ g.players
    → amount x (grand_coalition g.players) ≡ sum_below g.players (share x)
amount-all g x long =
    ap (λ (k : ℕ). sum_over k (share x) (grand_coalition g.players)) long
    ∙ sum_over-grand_coalition g.players (share x)

pub efficient : (g : Game) (x : Allocation) → g.worth 0 ≡ pos 0 → IsShapley g x → IsEfficient g x
efficient g x nobody h =
    let n = g.players in
    let f = pos (factorial n) in
    let v = g.worth (grand_coalition n) in
    let times = sym (sum_below-times n (share x) f) in
    let each = sum_below-same n (λ i. f *ℤ share x i) (λ i. x.den *ℤ shapley_total g i)
    (λ i lt. *ℤ_comm f (share x i) ∙ h.1 i lt) in
    let den = sum_below-times n (shapley_total g) x.den in
    let all = ap (◌*ℤ◌ x.den)
    (sum-totals g ∙ ap (λ (z : ℤ). f *ℤ (v -ℤ z)) nobody ∙ ap (◌*ℤ◌ f) (whole v)) in
    let turn = mul_left_commℤ x.den f v in
    amount-all g x h.0.0
    ∙ mul-cancelℤ f (sum_below n (share x)) (x.den *ℤ v) (factorial-positive n) (times ∙ each ∙ den ∙ all ∙ turn)
  where
    whole : (v : ℤ) → v -ℤ pos 0 ≡ v
    whole v = omega (arith, linear)
