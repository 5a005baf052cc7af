-- What a scan over the masks in ascending order knows of the greatest number of those behind it that pass a test.
--
-- The test makes one pass over the coalitions. For each two players it keeps the greatest excess so far of a coalition
-- that holds the one and lacks the other. `IsGreatestBelow` says so of the masks below m, so at the end each number is
-- the surplus. Two players are balanced exactly when their two numbers agree.
use Rattle.std.proofs.Common.{◌≡◌, ◌≢◌, ℕ, ◌+◌, ◌^◌, ◌<◌, Bool, true, false, cond}
use Rattle.std.proofs.Common.{ℤ, ◌≤ℤ◌, Option, Some, None}
use Rattle.std.proofs.Common.{IsSome, MatchOption, subst, arith, refl, sym, ap, ◌∙◌, inl, inr}
use Rattle.std.proofs.Common.{int_lt}
use Rattle.std.proofs.lemmas.Int.{ints}
use Rattle.std.proofs.lemmas.Bool.{false≢true}
use Rattle.std.proofs.Math.Pow.{pow-lt}
use Rattle.definitions.specs.Sums.{IsGreatest}
use Rattle.definitions.specs.Coalitions.{singleton}
use Rattle.definitions.specs.Games.{Game, Allocation, excess}
use Rattle.definitions.specs.Prekernel.{holds_without, IsSurplus}
use Rattle.definitions.proofs.Cases.{less_or_last_of}
use Rattle.theorems.proofs.Transfers.{holds_without-singleton}
use Rattle.worth_core.specs.Greatest.{max_so_far}
use Rattle.kernel_test.specs.Tables.{raised_where}

-- most is the greatest number of the masks below k that pass the test, and none where there is no such mask
pub record IsGreatestBelow (test : ℕ → Bool) (f : ℕ → ℤ) (k : ℕ) (most : Option ℤ) : Type 0 where
  pub found : MatchOption most ((s : ℕ) → s < k → test s ≡ false)
      (λ m. IsGreatest (λ s. (s < k) × (test s ≡ true)) f m)

pub IsGreatestBelow-start : (test : ℕ → Bool) (f : ℕ → ℤ) → IsGreatestBelow test f 0 None
IsGreatestBelow-start test f = record { found = λ s lt. absurd (omega arith) }

-- a mask that doesn't pass
kept : (test : ℕ → Bool) (f : ℕ → ℤ) (k : ℕ) (most : Option ℤ) → IsGreatestBelow test f k most → test k ≡ false
    → IsGreatestBelow test f (k + 1) most
kept test f k None h fails =
    record {
      found =
          λ s lt. elim (less_or_last_of s k lt) [ inl less ↦ h.found s less | inr same ↦ ap test same ∙ fails ];
    }
kept test f k (Some m) h fails = record {
  found = (
    (h.found.0.0, (omega (arith, h.found.0.1.0), h.found.0.1.1), h.found.0.2),
    λ s p. elim (less_or_last_of s k p.0) [
      | inl less ↦ h.found.1 s (less, p.1)
      | inr same ↦ absurd (false≢true (sym fails ∙ sym (ap test same) ∙ p.1))
    ],
  );
}

bounded : (test : ℕ → Bool) (f : ℕ → ℤ) (k : ℕ) (m b : ℤ) → IsGreatest (λ s. (s < k) × (test s ≡ true)) f m → m ≤ℤ b
    → f k ≤ℤ b → (s : ℕ) → ((s < k + 1) × (test s ≡ true)) → f s ≤ℤ b
bounded test f k m b h old new s p = elim (less_or_last_of s k p.0) [
  | inl less ↦ omega (arith, ints, h.1 s (less, p.1), old)
  | inr same ↦ omega (arith, ints, ap f same, new)
]

-- a mask that passes
more : (test : ℕ → Bool) (f : ℕ → ℤ) (k : ℕ) (most : Option ℤ) (e : ℤ) → IsGreatestBelow test f k most
    → test k ≡ true → e ≡ f k → IsGreatestBelow test f (k + 1) (Some (max_so_far most e))
more test f k None e h passes same = record {
  found = (
    (k, (omega arith, passes), same),
    λ s p. elim (less_or_last_of s k p.0) [
      | inl less ↦ absurd (false≢true (sym (h.found s less) ∙ p.1))
      | inr here ↦ omega (arith, ints, ap f here, same)
    ],
  );
}
more test f k (Some m) e h passes same = record { found = pick (int_lt m e) refl }
  where
    pick : (b : Bool) → int_lt m e ≡ b → IsGreatest (λ s. (s < k + 1) × (test s ≡ true)) f (cond b e m)
    pick true lt =
        ((k, (omega arith, passes), same), bounded test f k m e h.found (omega (arith, ints)) (omega (arith, ints)))
    pick false ge = (
      (h.found.0.0, (omega (arith, h.found.0.1.0), h.found.0.1.1), h.found.0.2),
      bounded test f k m m h.found (omega (arith, ints)) (omega (arith, ints)),
    )

-- a step of the scan, which comes to the mask s
pub IsGreatestBelow-kept : (test : ℕ → Bool) (f : ℕ → ℤ) (k s : ℕ) (most : Option ℤ) → IsGreatestBelow test f k most
    → s ≡ k → test s ≡ false → IsGreatestBelow test f (k + 1) most
IsGreatestBelow-kept test f k s most h place fails = kept test f k most h (ap test (sym place) ∙ fails)

pub IsGreatestBelow-more : (test : ℕ → Bool) (f : ℕ → ℤ) (k s : ℕ) (most : Option ℤ) (e : ℤ)
    → IsGreatestBelow test f k most → s ≡ k → test s ≡ true → e ≡ f s
    → IsGreatestBelow test f (k + 1) (Some (max_so_far most e))
IsGreatestBelow-more test f k s most e h place passes number =
    more test f k most e h (ap test (sym place) ∙ passes) (number ∙ ap f place)

pub IsGreatestBelow-next : (test : ℕ → Bool) (f : ℕ → ℤ) (k s : ℕ) (most next : Option ℤ) (e : ℤ)
    → IsGreatestBelow test f k most → s ≡ k → e ≡ f s → next ≡ raised_where (test s) most e
    → IsGreatestBelow test f (k + 1) next
IsGreatestBelow-next test f k s most next e h place number step = rw step (decide (test s) refl)
  where
    decide : (b : Bool) → test s ≡ b → IsGreatestBelow test f (k + 1) (raised_where b most e)
    decide true passes = IsGreatestBelow-more test f k s most e h place passes number
    decide false fails = IsGreatestBelow-kept test f k s most h place fails

-- at the end of the scan
pub some_from_scan : (g : Game) (x : Allocation) (i j : ℕ) (most : Option ℤ)
    → IsGreatestBelow (holds_without i j) (excess g x) (2 ^ g.players) most → i < g.players → i ≢ j → IsSome most
some_from_scan g x i j None h hi ne =
    absurd (false≢true (sym (h.found (singleton i) (pow-lt hi)) ∙ holds_without-singleton i j ne))
some_from_scan g x i j (Some m) h hi ne = refl

pub IsSurplus-from_scan : (g : Game) (x : Allocation) (i j : ℕ) (most : Option ℤ) (m : ℤ)
    → IsGreatestBelow (holds_without i j) (excess g x) (2 ^ g.players) most → most ≡ Some m → IsSurplus g x i j m
IsSurplus-from_scan g x i j None m h e = absurd (cc)
IsSurplus-from_scan g x i j (Some k) m h e = let same : k ≡ m = cc in subst (IsSurplus g x i j) same h.found

pub found_from_scan : (g : Game) (x : Allocation) (i j : ℕ) (most : Option ℤ)
    → IsGreatestBelow (holds_without i j) (excess g x) (2 ^ g.players) most → i < g.players → i ≢ j
    → (m : ℤ) × (most ≡ Some m) × IsSurplus g x i j m
found_from_scan g x i j None h hi ne =
    absurd (false≢true (sym (h.found (singleton i) (pow-lt hi)) ∙ holds_without-singleton i j ne))
found_from_scan g x i j (Some m) h hi ne = (m, refl, h.found)
