-- What a scan over the masks in ascending order knows of the greatest excess of the splitting masks behind it.
use Rattle.std.proofs.Common.{◌≡◌, ℕ, ◌+◌, ◌^◌, ◌<◌, Bool, true, false, ◌&&◌, cond}
use Rattle.std.proofs.Common.{ℤ, ◌≤ℤ◌, Option}
use Rattle.std.proofs.Common.{Some, None, MatchOption, IsSome, IsTrue, arith, refl, sym, ap, ◌∙◌}
use Rattle.std.proofs.Common.{inl, inr, int_lt}
use Rattle.std.proofs.lemmas.Int.{ints}
use Rattle.std.proofs.lemmas.Bool.{false≢true}
use Rattle.std.proofs.Math.Pow.{pow-lt}
use Rattle.definitions.specs.Coalitions.{has_player, singleton, splits}
use Rattle.definitions.specs.Games.{Game, Allocation, excess, IsSplitMaximum, HasTwo}
use Rattle.definitions.proofs.Members.{has_player-empty}
use Rattle.worth_core.specs.Greatest.{max_so_far}
use Rattle.definitions.proofs.Cases.{less_or_last_of}
use Rattle.definitions.proofs.Splits.{splits-singleton, some_below-none}

abbrev pub is_split : Game → ℕ → ℕ → Bool
is_split g f t = splits g.players (has_player f) t

-- most is the greatest excess of the splitting masks below m
pub record IsGreatestBelow (g : Game) (x : Allocation) (f m : ℕ) (most : Option ℤ) : Type 0 where
  pub found : MatchOption most ((t : ℕ) → t < m → is_split g f t ≡ false)
      (λ e. ((t : ℕ) × (t < m) × (is_split g f t ≡ true) × (e ≡ excess g x t))
      × ((t : ℕ) → t < m → is_split g f t ≡ true → excess g x t ≤ℤ e))

-- no mask is behind the scan yet
pub IsGreatestBelow-none : (g : Game) (x : Allocation) (f : ℕ) → IsGreatestBelow g x f 0 None
IsGreatestBelow-none g x f = record { found = λ t k. absurd (omega arith) }

pub is_split-singleton : (g : Game) (f i j : ℕ) → i < j → j < g.players → IsTrue (has_player f i)
    → IsTrue (has_player f j) → is_split g f (singleton i) ≡ true
is_split-singleton g f i j lt within hi hj = splits-singleton g.players f i j lt within hi hj

-- the empty coalition doesn't split

pub is_split-empty : (g : Game) (f : ℕ) → is_split g f 0 ≡ true → ⊥
is_split-empty g f e = false≢true (sym no_split ∙ e)
  where
    and_false : (a b : Bool) → b ≡ false → (a && b) ≡ false
    and_false true b h = h
    and_false false b h = refl

    no_split : is_split g f 0 ≡ false
    no_split = rw
        (some_below-none g.players (λ i. has_player f i && has_player 0 i)
        (λ i lt. and_false (has_player f i) (has_player 0 i) (has_player-empty i))) refl

-- a step of the scan to a mask that doesn't split
pub IsGreatestBelow-kept : (g : Game) (x : Allocation) (f m : ℕ) (most : Option ℤ) → IsGreatestBelow g x f m most
    → is_split g f m ≡ false → IsGreatestBelow g x f (m + 1) most
IsGreatestBelow-kept g x f m None h whole =
    record {
      found = λ t k. elim (less_or_last_of t m k)
          [ inl less ↦ h.found t less | inr same ↦ ap (is_split g f) same ∙ whole ];
    }
IsGreatestBelow-kept g x f m (Some e) h whole = record {
  found = (
    (h.found.0.0, omega (arith, h.found.0.1), h.found.0.2, h.found.0.3),
    λ t k cut. elim (less_or_last_of t m k) [
      | inl less ↦ h.found.1 t less cut
      | inr same ↦ absurd (false≢true (sym whole ∙ sym (ap (is_split g f) same) ∙ cut))
    ],
  );
}

at_top : (g : Game) (x : Allocation) (m t : ℕ) (e : ℤ) → e ≡ excess g x m → t ≡ m → excess g x t ≤ℤ e
at_top g x m t e same here = let k = ap (excess g x) here in omega (arith, ints, k, same)

-- and to one that does
pub IsGreatestBelow-more : (g : Game) (x : Allocation) (f m : ℕ) (most : Option ℤ) (e : ℤ)
    → IsGreatestBelow g x f m most → is_split g f m ≡ true → e ≡ excess g x m
    → IsGreatestBelow g x f (m + 1) (Some (max_so_far most e))
IsGreatestBelow-more g x f m None e h cut same = record {
  found = (
    (m, omega arith, cut, same),
    λ t k too. elim (less_or_last_of t m k)
        [ inl less ↦ absurd (false≢true (sym (h.found t less) ∙ too)) | inr here ↦ at_top g x m t e same here ],
  );
}
IsGreatestBelow-more g x f m (Some e') e h cut same = record { found = pick (int_lt e' e) refl }
  where
    bound : (b : ℤ) → e' ≤ℤ b → e ≤ℤ b → (t : ℕ) → t < m + 1 → is_split g f t ≡ true → excess g x t ≤ℤ b
    bound b old new t k too = elim (less_or_last_of t m k) [
      | inl less ↦ let low = h.found.1 t less too in omega (arith, ints, low)
      | inr here ↦ let low = at_top g x m t e same here in omega (arith, ints, low)
    ]

    pick : (c : Bool) → int_lt e' e ≡ c
        → ((t : ℕ) × (t < m + 1) × (is_split g f t ≡ true) × (cond c e e' ≡ excess g x t))
        × ((t : ℕ) → t < m + 1 → is_split g f t ≡ true → excess g x t ≤ℤ cond c e e')
    pick true q = ((m, omega arith, cut, same), bound e (omega (arith, ints)) (omega (arith, ints)))
    pick false q = (
      (h.found.0.0, omega (arith, h.found.0.1), h.found.0.2, h.found.0.3),
      bound e' (omega (arith, ints)) (omega (arith, ints)),
    )

-- at the end of the scan
pub IsSplitMaximum-from_scan : (g : Game) (x : Allocation) (f : ℕ) (most : Option ℤ) (m : ℤ)
    → IsGreatestBelow g x f (2 ^ g.players) most → most ≡ Some m → IsSplitMaximum g x f m
IsSplitMaximum-from_scan g x f most m h e = at_some m (rw e at h)
  where
    at_some : (m : ℤ) → IsGreatestBelow g x f (2 ^ g.players) (Some m) → IsSplitMaximum g x f m
    at_some m h = ((h.found.0.0, (h.found.0.1, h.found.0.2), h.found.0.3), λ t k. h.found.1 t k.0 k.1)

-- where two players are free, each of them alone splits
pub some-from_scan : (g : Game) (x : Allocation) (f : ℕ) (most : Option ℤ)
    → IsGreatestBelow g x f (2 ^ g.players) most → HasTwo g.players f → IsSome most
some-from_scan g x f None h (i, j, lt, within, hi, hj) =
    let low : i < g.players = omega arith in
    absurd (false≢true (sym (h.found (singleton i) (pow-lt low)) ∙ is_split-singleton g f i j lt within hi hj))
some-from_scan g x f (Some m) h two = refl
