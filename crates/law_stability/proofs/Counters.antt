-- A counter objection: each member of q who is in p gets what y gives it, each other what x gives it, and player l what
-- is left of the worth of q. If the excess of q is at least that of p, that is at least nothing (Davis and Maschler
-- 1967).
use Rattle.std.proofs.Common.{◌≡◌, ℕ, ◌^◌, ◌<◌, Bool, true, false, not, cond, map, ℤ, pos, ◌+ℤ◌, ◌-ℤ◌, ◌*ℤ◌, ◌≤ℤ◌, refl}
use Rattle.std.proofs.Common.{sym, ap, ◌∙◌, arith}
use Rattle.std.specs.List.{range_with_len}
use Rattle.std.proofs.lemmas.List.FromFn.{get_or-map-range_with_len, length-map-range_with_len}
use lib.IntN.{*ℤ_comm}
use Rattle.definitions.proofs.Members.{sum_over-combined}
use Rattle.definitions.proofs.Parts.{part, sum_below-le}
use Rattle.definitions.proofs.Ring.{linear, mul-leℤ, mul-positiveℤ}
use Rattle.definitions.proofs.SumsOver.{sum_over-same, sum_over-add, sum_over-times, amount-at}
use Rattle.theorems.proofs.Moves.{parted}
use Rattle.definitions.specs.Coalitions.{has_player, singleton, sum_over}
use Rattle.definitions.specs.Games.{Game, Allocation, share, amount, excess, IsAllocation}
use Rattle.definitions.specs.Prekernel.{holds_without}
use Rattle.law_answers.proofs.AtPlayer.{sum_over-at_player}
use Rattle.law_stability.specs.BargainingSet.{GetsNoLess, IsObjection, IsCounter}
use Rattle.theorems.proofs.Products.{products, sorted_products}

-- ---- what the members of p get more at y

-- over both denominators
abbrev pub rise : Allocation → Allocation → ℕ → ℤ
rise x y i = x.den *ℤ share y i -ℤ y.den *ℤ share x i

pub rise-within : (g : Game) (x : Allocation) (k l p : ℕ) (y : Allocation) → IsObjection g x k l p y → (i : ℕ)
    → i < g.players → pos 0 ≤ℤ part (rise x y) p i
rise-within g x k l p y o i lt = by_test (has_player p i) refl
  where
    by_test : (b : Bool) → has_player p i ≡ b → pos 0 ≤ℤ cond b (rise x y i) (pos 0)
    by_test true e = omega (arith, linear, o.no_less i lt e, *ℤ_comm (share x i) y.den, *ℤ_comm (share y i) x.den)
    by_test false e = omega (arith, linear)

-- the members of p get what p is worth, in place of what they get at x
pub rise-all : (g : Game) (x : Allocation) (k l p : ℕ) (y : Allocation) → IsAllocation g x → IsObjection g x k l p y
    → sum_over g.players (rise x y) p ≡ y.den *ℤ excess g x p
rise-all g x k l p y hx o =
    omega (
      sorted_products,
      sum_over-combined g.players (share y) (share x) x.den y.den p,
      ap (◌*ℤ◌ x.den) (sym (amount-at g y p o.shares) ∙ o.divides),
      ap (◌*ℤ◌ y.den) (amount-at g x p hx),
    )

-- ---- the shares of q

module _ (g : Game) (x : Allocation) (k l p : ℕ) (y : Allocation) (q : ℕ) (hx : IsAllocation g x)
    (o : IsObjection g x k l p y) (hl : l < g.players) (within : q < 2 ^ g.players)
    (without : holds_without l k q ≡ true) (no_less : excess g x p ≤ℤ excess g x q) where
  abbrev n : ℕ
  n = g.players

  -- what y gives to those in p, and x to the others
  abbrev claim : ℕ → ℤ
  claim i = y.den *ℤ share x i +ℤ part (rise x y) p i

  -- what is left of the worth of q
  abbrev rest : ℤ
  rest = (x.den *ℤ y.den) *ℤ g.worth q -ℤ sum_over n claim q

  abbrev given : ℕ → ℤ
  given i = claim i +ℤ part (λ j. rest) (singleton l) i

  abbrev pub answer : Allocation
  answer = record { shares = map given (range_with_len 0 n); den = x.den *ℤ y.den }

  claims : sum_over n claim q ≤ℤ (y.den *ℤ amount x q +ℤ y.den *ℤ excess g x p)
  claims =
      let parts = sum_over-add n (λ i. y.den *ℤ share x i) (part (rise x y) p) q in
      let first = sum_over-times n (share x) y.den q in
      let second = sum_below-le n (part (part (rise x y) p) q) (part (rise x y) p)
      (λ i lt. at_most (has_player q i) (part (rise x y) p i) (rise-within g x k l p y o i lt)) in
      omega (products, parts, first, second, rise-all g x k l p y hx o, ap (◌*ℤ◌ y.den) (amount-at g x q hx))
    where
      at_most : (b : Bool) (z : ℤ) → pos 0 ≤ℤ z → cond b z (pos 0) ≤ℤ z
      at_most b z h = grind (arith, linear)

  some_left : pos 0 ≤ℤ rest
  some_left =
      let more = mul-leℤ y.den (excess g x p) (excess g x q) (omega (arith, linear, o.shares.1)) no_less in
      omega (sorted_products, claims, more)

  share-answer : (i : ℕ) → i < n → share answer i ≡ given i
  share-answer i lt = get_or-map-range_with_len given 0 n i i (pos 0) lt (omega arith)

  holds : (has_player q l ≡ true) × (not (has_player q k) ≡ true)
  holds = parted (has_player q l) (has_player q k) without

  divides : amount answer q ≡ (x.den *ℤ y.den) *ℤ g.worth q
  divides =
      let a = ap (λ (m : ℕ). sum_over m (share answer) q) (length-map-range_with_len given 0 n) in
      let b = sum_over-same n (share answer) given q share-answer in
      let c = sum_over-add n claim (part (λ j. rest) (singleton l)) q in
      let d = sum_over-at_player n q l rest hl ∙ ap (λ (b : Bool). cond b rest (pos 0)) holds.0 in
      omega (arith, linear, a, b, c, d)

  no_less_than_claim : (i : ℕ) → i < n → claim i ≤ℤ share answer i
  no_less_than_claim i lt = omega (arith, linear, share-answer i lt, at_least (has_player (singleton l) i))
    where
      at_least : (b : Bool) → pos 0 ≤ℤ cond b rest (pos 0)
      at_least b = grind (arith, linear, some_left)

  -- who is in p gets what y gives it
  as_promised : (i : ℕ) → i < n → has_player q i ≡ true → has_player p i ≡ true → GetsNoLess y answer i
  as_promised i lt in_q in_p =
      let claimed : claim i ≡ x.den *ℤ share y i =
      ap (λ (b : Bool). y.den *ℤ share x i +ℤ cond b (rise x y i) (pos 0)) in_p ∙ back in
      let le = mul-leℤ y.den (x.den *ℤ share y i) (share answer i) (omega (arith, linear, o.shares.1))
      (omega (arith, linear, claimed, no_less_than_claim i lt)) in
      omega (sorted_products, le)
    where
      back : y.den *ℤ share x i +ℤ (x.den *ℤ share y i -ℤ y.den *ℤ share x i) ≡ x.den *ℤ share y i
      back = omega (arith, linear)

  -- who isn't gets what x gives it
  as_before : (i : ℕ) → i < n → has_player q i ≡ true → has_player p i ≡ false → GetsNoLess x answer i
  as_before i lt in_q out =
      let claimed : claim i ≡ y.den *ℤ share x i =
      ap (λ (b : Bool). y.den *ℤ share x i +ℤ cond b (rise x y i) (pos 0)) out ∙ nothing in
      let le = mul-leℤ x.den (y.den *ℤ share x i) (share answer i) (omega (arith, linear, hx.1))
      (omega (arith, linear, claimed, no_less_than_claim i lt)) in
      omega (sorted_products, le)
    where
      nothing : y.den *ℤ share x i +ℤ pos 0 ≡ y.den *ℤ share x i
      nothing = omega (arith, linear)

  positive : pos 1 ≤ℤ (x.den *ℤ y.den)
  positive =
      let some = mul-positiveℤ x.den y.den (omega (arith, linear, hx.1)) (omega (arith, linear, o.shares.1)) in
      omega (arith, linear, some)

  pub counters : IsCounter g x k l p y q answer
  counters = record {
    within = within;
    without = without;
    shares = (length-map-range_with_len given 0 n, positive);
    divides = divides;
    as_promised = as_promised;
    as_before = as_before;
  }
