-- The lists of coalitions and of levels grow at their end.
use Rattle.std.proofs.Common.{◌≡◌, ◌⊎◌, ℕ, suc, ◌+◌, ◌-◌, ◌≤◌, Bool, List, []}
use Rattle.std.proofs.Common.{◌∷◌, ◌++◌, ℤ}
use Rattle.std.proofs.Common.{pos, refl, ap, ◌∙◌, inl, inr, arith}
use Rattle.definitions.specs.Certificates.{Level}
use Rattle.kohlberg.specs.Pairs.{with_pair}
use Rattle.talmud.specs.Levels.{single, others, with_keys, with_both, IsHalfLevel}
use Rattle.talmud.specs.Levels.{AreHalves, IsRestLevel, AreLevels}

one_more : (i j : ℕ) → i ≤ j → j + 1 - i ≡ suc (j - i)
one_more i j le = omega arith

there : (i j : ℕ) → i ≤ j → i + (j - i) ≡ j
there i j le = omega arith

pub with_keys-more : (key : ℕ → ℕ) (i j : ℕ) → i ≤ j
    → with_keys key i (j + 1 - i) ≡ with_pair (key j) (pos 1) (with_keys key i (j - i))
with_keys-more key i j le =
    ap (with_keys key i) (one_more i j le)
    ∙ ap (λ (h : ℕ). with_pair (key h) (pos 1) (with_keys key i (j - i))) (there i j le)

pub with_both-more : (n : ℕ) (at : ℕ → ℕ) (i j : ℕ) → i ≤ j
    → with_both n at i (j + 1 - i)
    ≡ with_pair (others n at j) (pos 1) (with_pair (single at j) (pos 1) (with_both n at i (j - i)))
with_both-more n at i j le =
    ap (with_both n at i) (one_more i j le)
    ∙ ap
    (λ (h : ℕ). with_pair (others n at h) (pos 1) (with_pair (single at h) (pos 1) (with_both n at i (j - i))))
    (there i j le)

pub AreHalves-push : (n : ℕ) (claim at : ℕ → ℕ) (m i h k : ℕ) (levels : List Level) (l : Level)
    → AreHalves n claim at m i levels h → IsHalfLevel n claim at m h k l
    → AreHalves n claim at m i (levels ++ l ∷ []) k
AreHalves-push n claim at m i h k [] l chain b =
    (k, rw chain b, refl)
AreHalves-push n claim at m i h k (l' ∷ levels) l (j, b', chain) b =
    (j, b', AreHalves-push n claim at m j h k levels l chain b)

-- the half levels go as far as their number, or to the end
abbrev pub AreAllHalves : ℕ → (ℕ → ℕ) → (ℕ → ℕ) → ℕ → List Level → Type 0
AreAllHalves n claim at m levels = (k : ℕ) × AreHalves n claim at m 0 levels k × ((k ≡ m) ⊎ (n ≤ k + 1))

pub AreLevels-halves : (n : ℕ) (claim at : ℕ → ℕ) (m : ℕ) (gain : Bool) (t den : ℤ) (levels : List Level)
    → AreAllHalves n claim at m levels → n ≤ m + 1 → AreLevels n claim at m gain t den levels
AreLevels-halves n claim at m gain t den levels (k, chain, inl all) le = inl (k, chain, omega arith)
AreLevels-halves n claim at m gain t den levels (k, chain, inr end) le = inl (k, chain, end)

halves-within : (n : ℕ) (claim at : ℕ → ℕ) (m i k : ℕ) (levels : List Level) → i ≤ m
    → AreHalves n claim at m i levels k → k ≤ m
halves-within n claim at m i k [] le chain = omega arith
halves-within n claim at m i k (l ∷ levels) le (h, b, chain) =
    halves-within n claim at m h k levels b.end.within chain

pub AreLevels-rest : (n : ℕ) (claim at : ℕ → ℕ) (m : ℕ) (gain : Bool) (t den : ℤ) (levels : List Level) (l : Level)
    → AreAllHalves n claim at m levels → IsRestLevel n at m gain t den l
    → AreLevels n claim at m gain t den (levels ++ l ∷ [])
AreLevels-rest n claim at m gain t den levels l (k, chain, inl all) b =
    inr (levels, l, refl, rw all at chain, b)
AreLevels-rest n claim at m gain t den levels l (k, chain, inr end) b =
    absurd
    (omega (arith, halves-within n claim at m 0 k levels (omega arith) chain))
