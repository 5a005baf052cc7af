-- The excesses at the payments.
--
-- All excesses follow from five facts on the payments, without blocks (Scheme.antt of specs). The first players up to
-- the end of a block have minus the block's rate. All but one player have minus what that player pays. A coalition that
-- splits the players from a block on has at most minus the block's rate, by its last place (`excess-outside`).
use Rattle.std.proofs.Common.{◌≡◌, ◌≢◌, ◌⊎◌, ℕ, zero, suc, ◌-◌, ◌^◌, ◌<◌, ◌≤◌}
use Rattle.std.proofs.Common.{true, false, List, length, get_or}
use Rattle.std.proofs.Common.{ℤ, pos, ◌-ℤ◌, ◌*ℤ◌, neg_ℤ, ◌≤ℤ◌, refl, sym, ap, ◌∙◌}
use Rattle.std.proofs.Common.{inl, inr, arith}
use Rattle.std.proofs.lemmas.Bool.{false≢true}
use Rattle.std.proofs.lemmas.Int.{ints}
use Rattle.std.proofs.Math.Pow.{pow-lt}
use Rattle.definitions.proofs.Ring.{linear, mul-negℤ, mul-leℤ, mul-zeroℤ}
use Rattle.definitions.proofs.Members.{has_player-empty, has_player-grand_coalition}
use Rattle.definitions.proofs.Members.{sum_over-complement, sum_over-grand_coalition, sum_over-singleton}
use Rattle.definitions.proofs.Parts.{has_player-more_other, others_has, sum_over-within, sum_over-within_but}
use Rattle.definitions.specs.Sums.{sum_below}
use Rattle.definitions.specs.Coalitions.{has_player, singleton, grand_coalition, sum_over}
use Rattle.definitions.specs.Games.{Game, Allocation, share, amount, excess}
use Rattle.definitions.specs.Classes.{greatest_cost, airport_worth}
use Rattle.orders.specs.Orders.{front, IsOrder}
use Rattle.airport.proofs.GreatestCosts.{greatest_cost-at_least, greatest_cost-at_most}
use Rattle.orders.proofs.Fronts.{front-has, front-lacks, front-place, order-place, sum_over-front}
use Rattle.airport_scheme.specs.Scheme.{IsScheme, IsPaid}
use Rattle.definitions.proofs.Cases.{next_or_last, true_or_false, less_or_greater, same_or_less}

abbrev pub game_of : List ℕ → Game
game_of costs = record { players = length costs; worth = airport_worth costs }

abbrev pub cost : List ℕ → ℕ → ℕ
cost costs i = get_or costs i 0

-- ---- amounts

sum_below-negated : (k : ℕ) (f g : ℕ → ℤ) → ((j : ℕ) → j < k → f j ≡ neg_ℤ (g j))
    → sum_below k f ≡ neg_ℤ (sum_below k g)
sum_below-negated zero f g h = refl
sum_below-negated (suc k) f g h =
    omega (arith, linear, sum_below-negated k f g (λ j lt. h j (omega arith)), h k (omega arith))

pub amount-at : (costs : List ℕ) (at : ℕ → ℕ) (pay : ℕ → ℤ) (x : Allocation) → IsPaid costs at pay x → (s : ℕ)
    → amount x s ≡ sum_over (length costs) (share x) s
amount-at costs at pay x p s = ap (λ (n : ℕ). sum_over n (share x) s) p.players

amount-front : (costs : List ℕ) (at : ℕ → ℕ) (pay : ℕ → ℤ) (x : Allocation) → IsPaid costs at pay x → (k : ℕ)
    → k ≤ length costs → sum_over (length costs) (share x) (front at k) ≡ neg_ℤ (sum_below k pay)
amount-front costs at pay x p k le =
    sum_over-front (length costs) (cost costs) at p.order (share x) k le
    ∙ sum_below-negated k (λ j. share x (at j)) pay (λ j lt. p.shares j (omega arith))

share-low : (costs : List ℕ) (at : ℕ → ℕ) (pay : ℕ → ℤ) (x : Allocation) → IsPaid costs at pay x → (i : ℕ)
    → i < length costs → share x i ≤ℤ pos 0
share-low costs at pay x p i h =
    let r = order-place (length costs) (cost costs) at p.order i h in
    let e = p.shares r.0 r.1 in
    let l = p.scheme.least r.0 r.1 in
    let low : share x (at r.0) ≤ℤ pos 0 = omega (arith, ints) in
    rw (← r.2) low

-- the first players pay no more than their cost
room : (n : ℕ) (c : ℕ → ℕ) (pay : ℕ → ℤ) (den : ℤ) → IsScheme n c pay den → (k : ℕ) → k < n
    → sum_below (suc k) pay ≤ℤ (den *ℤ pos (c k))
room n c pay den s k lt = elim (next_or_last k n lt) [
  | inl more ↦ omega (arith, linear, s.under k more, s.least k lt)
  | inr last ↦
      let e : sum_below (suc k) pay ≡ sum_below n pay = ap (λ (m : ℕ). sum_below m pay) last in
      omega (arith, linear, s.all k last)
]

-- ---- the last place of a coalition

abbrev IsWithin : ℕ → ℕ → ℕ → Type 0
IsWithin n s t = (i : ℕ) → i < n → has_player s i ≡ true → has_player t i ≡ true

pub last_place : (n : ℕ) (cost at : ℕ → ℕ) → IsOrder n cost at → (s m : ℕ) → m ≤ n → IsWithin n s (front at m)
    → ((k : ℕ) × (k < m) × (has_player s (at k) ≡ true) × IsWithin n s (front at (suc k))) ⊎ IsWithin n s 0
last_place n cost at o s zero le h = inr h
last_place n cost at o s (suc k) le h =
    let here = front-lacks n cost at o k k (omega arith) (omega arith) in
    elim (true_or_false (has_player s (at k))) [
      | inl yes_k ↦ inl (k, omega arith, yes_k, h)
      | inr no_k ↦
          let less : IsWithin n s (front at k) = λ i lt e. sym
          (has_player-more_other (front at k) (at k) i here
          (λ same. false≢true (sym no_k ∙ sym (ap (λ (j : ℕ). has_player s j) same) ∙ e))) ∙ h i lt e in
          elim (last_place n cost at o s k (omega arith) less) [
            | inl r ↦ inl (r.0, omega arith, r.2, r.3)
            | inr none ↦ inr none
          ]
    ]

-- ---- upper bounds

worth-at_most : (den : ℤ) (c g : ℕ) → pos 1 ≤ℤ den → c ≤ g → (den *ℤ neg_ℤ (pos g)) ≤ℤ neg_ℤ (den *ℤ pos c)
worth-at_most den c g one le =
    omega (
      arith,
      linear,
      mul-negℤ den (pos g),
      mul-leℤ den (pos c) (pos g) (omega (arith, linear)) (omega (arith, ints)),
    )

excess-last : (costs : List ℕ) (at : ℕ → ℕ) (pay : ℕ → ℤ) (x : Allocation) → IsPaid costs at pay x → (s k : ℕ)
    → k < length costs → has_player s (at k) ≡ true → IsWithin (length costs) s (front at (suc k))
    → excess (game_of costs) x s ≤ℤ (sum_below (suc k) pay -ℤ x.den *ℤ pos (cost costs (at k)))
excess-last costs at pay x p s k lt has within =
    let n = length costs in
    let g = greatest_cost n (cost costs) s in
    let least = greatest_cost-at_least n (cost costs) s (at k) (p.order.below k lt) has in
    let worth = worth-at_most x.den (cost costs (at k)) g p.scheme.positive least in
    let more = sum_over-within n s (front at (suc k)) (share x) (share-low costs at pay x p) within in
    omega (arith, linear, amount-front costs at pay x p (suc k) lt, amount-at costs at pay x p s)

excess-last_but : (costs : List ℕ) (at : ℕ → ℕ) (pay : ℕ → ℤ) (x : Allocation) → IsPaid costs at pay x → (s k j : ℕ)
    → k < length costs → has_player s (at k) ≡ true → IsWithin (length costs) s (front at (suc k)) → j < suc k
    → has_player s (at j) ≡ false
    → excess (game_of costs) x s ≤ℤ (sum_below (suc k) pay -ℤ x.den *ℤ pos (cost costs (at k)) -ℤ pay j)
excess-last_but costs at pay x p s k j lt has within low lacks =
    let n = length costs in
    let g = greatest_cost n (cost costs) s in
    let least = greatest_cost-at_least n (cost costs) s (at k) (p.order.below k lt) has in
    let worth = worth-at_most x.den (cost costs (at k)) g p.scheme.positive least in
    let front_j = front-has n (cost costs) at p.order (suc k) j low lt in
    let more =
    sum_over-within_but n s (front at (suc k)) (at j) (share x) (share-low costs at pay x p) within
    (p.order.below j (omega arith)) lacks front_j in
    omega (
      arith,
      linear,
      amount-front costs at pay x p (suc k) lt,
      amount-at costs at pay x p s,
      p.shares j (omega arith),
    )

-- a coalition that holds a player from place i on and lacks one has at most minus the payment at place i
pub excess-outside : (costs : List ℕ) (at : ℕ → ℕ) (pay : ℕ → ℤ) (x : Allocation) → IsPaid costs at pay x
    → (s i h q : ℕ) → i ≤ h → h < length costs → has_player s (at h) ≡ true → i ≤ q → q < length costs
    → has_player s (at q) ≡ false → excess (game_of costs) x s ≤ℤ neg_ℤ (pay i)
excess-outside costs at pay x p s i h q ih hn has iq qn lacks =
    let n = length costs in
    let o = p.order in
    let all : IsWithin n s (front at n) =
    λ j lt e. ap (λ (t : ℕ). has_player t j) o.full ∙ has_player-grand_coalition n j lt in
    elim (last_place n (cost costs) at o s n (omega arith) all) [
      | inl r ↦
          let k = r.0 in
          let after : h < suc k = not_past k (r.3 (at h) (o.below h hn) has) in
          elim (place_cases q k) [
            | inl le ↦
                let e = excess-last_but costs at pay x p s k q r.1 r.2 r.3 le lacks in
                let f = room n (λ j. cost costs (at j)) pay x.den p.scheme k r.1 in
                omega (arith, linear, up_to q iq qn)
            | inr gt ↦
                let e = excess-last costs at pay x p s k r.1 r.2 r.3 in
                let f = p.scheme.under k (omega arith) in
                omega (arith, linear, up_to k (omega arith) r.1)
          ]
      | inr none ↦ absurd (false≢true (sym (has_player-empty (at h)) ∙ none (at h) (o.below h hn) has))
    ]
  where
    place_cases : (q k : ℕ) → (q < suc k) ⊎ (k < q)
    place_cases q k = grind arith

    up_to : (j : ℕ) → i ≤ j → j < length costs → pay i ≤ℤ pay j
    up_to j le lt =
        elim (same_or_less i j le) [ inl e ↦ rw e (omega (arith, ints)) | inr less ↦ p.scheme.rises i j less lt ]

    not_past : (k : ℕ) → has_player (front at (suc k)) (at h) ≡ true → h < suc k
    not_past k e =
        elim (place_cases h k) [
          | inl le ↦ le
          | inr gt ↦ absurd
              (false≢true (sym (front-lacks (length costs) (cost costs) at p.order (suc k) h gt hn) ∙ e))
        ]

-- nobody gains alone or with others
pub excess-core : (costs : List ℕ) (at : ℕ → ℕ) (pay : ℕ → ℤ) (x : Allocation) → IsPaid costs at pay x → (s : ℕ)
    → excess (game_of costs) x s ≤ℤ pos 0
excess-core costs at pay x p s =
    let n = length costs in
    let o = p.order in
    let all : IsWithin n s (front at n) =
    λ j lt e. ap (λ (t : ℕ). has_player t j) o.full ∙ has_player-grand_coalition n j lt in
    elim (last_place n (cost costs) at o s n (omega arith) all) [
      | inl r ↦ omega (
        arith,
        linear,
        excess-last costs at pay x p s r.0 r.1 r.2 r.3,
        room n (λ j. cost costs (at j)) pay x.den p.scheme r.0 r.1,
      )
      | inr none ↦
          let more = sum_over-within n s 0 (share x) (share-low costs at pay x p) none in
          let worth = worth-at_most x.den 0 (greatest_cost n (cost costs) s) p.scheme.positive (omega arith) in
          omega (
            arith,
            linear,
            mul-zeroℤ x.den,
            amount-front costs at pay x p 0 (omega arith),
            amount-at costs at pay x p s,
          )
    ]

-- ---- exact values

cost-up_to : (costs : List ℕ) (at : ℕ → ℕ) (pay : ℕ → ℤ) (x : Allocation) → IsPaid costs at pay x → (j k : ℕ)
    → j ≤ k → k < length costs → cost costs (at j) ≤ cost costs (at k)
cost-up_to costs at pay x p j k le lt =
    elim (same_or_less j k le) [ inl e ↦ rw e (omega arith) | inr less ↦ p.order.rising j k less lt ]

worth-is : (den : ℤ) (c g : ℕ) → c ≤ g → g ≤ c → den *ℤ neg_ℤ (pos g) ≡ neg_ℤ (den *ℤ pos c)
worth-is den c g le ge =
    let e : g ≡ c = omega arith in
    mul-negℤ den (pos g) ∙ ap (λ (m : ℕ). neg_ℤ (den *ℤ pos m)) e

-- the first players, of whom the last has place k
pub excess-front : (costs : List ℕ) (at : ℕ → ℕ) (pay : ℕ → ℤ) (x : Allocation) → IsPaid costs at pay x → (k : ℕ)
    → k < length costs
    → excess (game_of costs) x (front at (suc k)) ≡ sum_below (suc k) pay -ℤ x.den *ℤ pos (cost costs (at k))
excess-front costs at pay x p k lt =
    let n = length costs in
    let s = front at (suc k) in
    let g = greatest_cost n (cost costs) s in
    let least =
    greatest_cost-at_least n (cost costs) s (at k) (p.order.below k lt)
    (front-has n (cost costs) at p.order (suc k) k (omega arith) lt) in
    let most = greatest_cost-at_most n (cost costs) s (cost costs (at k)) most_at in
    omega (
      arith,
      linear,
      worth-is x.den (cost costs (at k)) g least most,
      amount-front costs at pay x p (suc k) lt,
      amount-at costs at pay x p s,
    )
  where
    most_at : (i : ℕ) → i < length costs → has_player (front at (suc k)) i ≡ true → cost costs i ≤ cost costs (at k)
    most_at i h e =
        let r = front-place (length costs) (cost costs) at p.order (suc k) i lt e in
        let le = cost-up_to costs at pay x p r.0 k (omega arith) lt in
        rw (← r.2) le

-- all but the one at place j, where another place m has the greatest cost
pub excess-others : (costs : List ℕ) (at : ℕ → ℕ) (pay : ℕ → ℤ) (x : Allocation) → IsPaid costs at pay x
    → (j m last : ℕ) → j < length costs → m < length costs → m ≢ j → suc last ≡ length costs
    → cost costs (at last) ≤ cost costs (at m)
    → excess (game_of costs) x (grand_coalition (length costs) - singleton (at j)) ≡ neg_ℤ (pay j)
excess-others costs at pay x p j m last lt mn ne end top =
    let n = length costs in
    let o = p.order in
    let s = grand_coalition n - singleton (at j) in
    let g = greatest_cost n (cost costs) s in
    let small : singleton (at j) < 2 ^ n = pow-lt (o.below j lt) in
    let has = others_has n (at j) (at m) small (o.below m mn) apart in
    let least = greatest_cost-at_least n (cost costs) s (at m) (o.below m mn) has in
    let most = greatest_cost-at_most n (cost costs) s (cost costs (at last)) most_at in
    let parts = sum_over-complement n (singleton (at j)) (share x) small in
    let mine = sum_over-singleton n (at j) (share x) (o.below j lt) in
    let whole : sum_below n (share x) ≡ neg_ℤ (sum_below n pay) =
    sym (sum_over-grand_coalition n (share x)) ∙ ap (λ (t : ℕ). sum_over n (share x) t) (sym o.full)
    ∙ amount-front costs at pay x p n (omega arith) in
    omega (
      arith,
      linear,
      worth-is x.den (cost costs (at last)) g (omega arith) most,
      p.shares j lt,
      p.scheme.all last end,
      amount-at costs at pay x p s,
    )
  where
    apart : at m ≢ at j
    apart e =
        elim (less_or_greater m j ne)
        [ inl less ↦ p.order.apart m j less lt e | inr more ↦ p.order.apart j m more mn (sym e) ]

    most_at : (i : ℕ) → i < length costs → has_player (grand_coalition (length costs) - singleton (at j)) i ≡ true
        → cost costs i ≤ cost costs (at last)
    most_at i h e =
        let r = order-place (length costs) (cost costs) at p.order i h in
        let le = cost-up_to costs at pay x p r.0 last (omega arith) (omega arith) in
        rw (← r.2) le
