-- Steps of the search for the first coalition and players at which a game isn't convex.
--
-- The search goes over the coalitions in mask order, and at each over the players outside, the lesser first. If it
-- finds no failure among players i < j there is none at all: the condition is the same for j and i (`convex_from`).
use Rattle.std.proofs.Common.{◌≡◌, ◌⊎◌, ℕ, ◌+◌, ◌^◌, ◌<◌, true, false, ◌||◌, nat_eq}
use Rattle.std.proofs.Common.{ℤ}
use Rattle.std.proofs.Common.{pos, ◌-ℤ◌, ◌≤ℤ◌, sym, ap, ◌∙◌, inl, inr, arith}
use Rattle.std.proofs.lemmas.Bool.{false≢true}
use Rattle.definitions.proofs.Ring.{linear}
use Rattle.definitions.proofs.Parts.{has_player-more_other, more-is, more-lt}
use Rattle.definitions.proofs.Cases.{less_or_last_of, less_or_greater}
use Rattle.definitions.specs.Coalitions.{has_player}
use Rattle.definitions.specs.Games.{Game}
use Rattle.definitions.specs.Convexity.{AreOutside, apart, together, IsConvex, IsFirstNonconvexity}
use Rattle.convexity.specs.Search.{HoldsAt, IsFirstPair}

-- a coalition with a player from outside, by its players
pub with_one : (n s i r : ℕ) → s < 2 ^ n → i < n → has_player s i ≡ false
    → ((j : ℕ) → has_player r j ≡ (nat_eq j i || has_player s j)) → (r ≡ s + 2 ^ i) × (r < 2 ^ n)
with_one n s i r ls li out h =
    let e = more-is s i r out h in
    (e, rw e (more-lt n s i ls li out))

-- and with another one
pub with_two : (n s i j r t : ℕ) → AreOutside n s i j → ((k : ℕ) → has_player r k ≡ (nat_eq k i || has_player s k))
    → ((k : ℕ) → has_player t k ≡ (nat_eq k j || has_player r k)) → (t ≡ s + 2 ^ i + 2 ^ j) × (t < 2 ^ n)
with_two n s i j r t out h k =
    let one = with_one n s i r out.0 out.1 out.4 h in
    let other : has_player r j ≡ false =
    ap (λ (m : ℕ). has_player m j) one.0 ∙ has_player-more_other s i j out.4 (λ e. out.3 (sym e)) ∙ out.5 in
    let two = with_one n r j t one.1 out.2 other k in
    (two.0 ∙ ap (λ (m : ℕ). m + 2 ^ j) one.0, two.1)

pub holds-inside : (g : Game) (s i j : ℕ) → has_player s j ≡ true → HoldsAt g s i j
holds-inside g s i j h out = absurd (false≢true (sym out.5 ∙ h))

pub holds-by : (g : Game) (s i j : ℕ) (d : ℤ) → d ≡ apart g s i j -ℤ together g s i j → d ≤ℤ pos 0 → HoldsAt g s i j
holds-by g s i j d e h out = omega (arith, linear, e, h)

-- a fact on all numbers below one, and on that one
pub one_more : (P : ℕ → Type 0) (n : ℕ) → ((k : ℕ) → k < n → P k) → P n → (k : ℕ) → k < n + 1 → P k
one_more P n h here k lt = elim (less_or_last_of k n lt) [ inl less ↦ h k less | inr same ↦ rw same here ]

-- ---- the answers

swapped : (g : Game) (s i j : ℕ) → HoldsAt g s j i → HoldsAt g s i j
swapped g s i j h out =
    let le = h (out.0, out.2, out.1, (λ e. out.3 (sym e)), out.5, out.4) in
    let moved : s + 2 ^ j + 2 ^ i ≡ s + 2 ^ i + 2 ^ j = omega arith in
    let same = ap g.worth moved in
    omega (arith, linear, le, same)

-- convex, where no two players fail in ascending order
pub convex_from : (g : Game) → ((s : ℕ) → s < 2 ^ g.players → (i j : ℕ) → i < j → HoldsAt g s i j) → IsConvex g
convex_from g h s i j out = elim (less_or_greater i j out.3) [
  | inl less ↦ h s out.0 i j less out
  | inr more ↦ swapped g s i j (h s out.0 j i more) out
]

pub first_failure : (g : Game) (s i j : ℕ) (d : ℤ) → ((t : ℕ) → t < s → (k l : ℕ) → k < l → HoldsAt g t k l)
    → IsFirstPair g s i j d → IsFirstNonconvexity g s i j d
first_failure g s i j d before pair = record {
  outside = pair.0.outside;
  ascends = pair.0.ascends;
  fails = pair.0.fails;
  deficit = pair.0.deficit;
  first = λ t k l out less earlier. elim earlier [
    | inl lower ↦ before t lower k l less out
    | inr same ↦ at t (same.0) k l out less same.1
  ];
}
  where
    at : (t : ℕ) → t ≡ s → (k l : ℕ) → AreOutside g.players t k l → k < l → ((k < i) ⊎ ((k ≡ i) × (l < j)))
        → apart g t k l ≤ℤ together g t k l
    at t e k l out less earlier = rw e (pair.1 k l less earlier (rw e at out))
