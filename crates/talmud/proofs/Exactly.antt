-- The lists of the levels hold exactly the pairs of their places.
use Rattle.std.proofs.Common.{◌≡◌, ◌⊎◌, ℕ, ◌+◌, ◌-◌, ◌<◌, ◌≤◌, Bool, true, nat_eq}
use Rattle.std.proofs.Common.{List, [], ◌∷◌}
use Rattle.std.proofs.Common.{◌++◌, ℤ, refl, sym, append-nil, inl, inr, arith}
use Rattle.std.specs.List.{list_any}
use Rattle.definitions.specs.Certificates.{Level, Ascends, LevelForm, LevelsForm}
use Rattle.kohlberg.specs.Pairs.{AreExactly}
use Rattle.talmud.specs.Levels.{single, others, key_of, with_keys, with_both, IsHalfLevel, AreHalves, IsRestLevel}
use Rattle.talmud.specs.Levels.{AreLevels, IsOfBoth, IsOfKeys, HoldsHalf, HoldHalves, HoldsRest, HoldAll}
use Rattle.talmud.proofs.Keys.{all-keys, all-both, any-keys, any-both_single, any-both_others}
use Rattle.definitions.proofs.Cases.{nat_eq-equal}

-- ---- lists

exactly_keys : (key : ℕ → ℕ) (i b k : ℕ) → i + b ≡ k → Ascends 0 (with_keys key i b)
    → AreExactly (IsOfKeys key i k) (with_keys key i b)
exactly_keys key i b k end up = record {
  ascend = up;
  each =
      all-keys (λ p. IsOfKeys key i k p.0 p.1) key i b
      (λ j low high. ((j, low, omega arith, refl), refl));
  all = λ s w h. any-keys (λ p. nat_eq p.0 s) key i b h.0.0 h.0.1 (omega arith)
      (nat_eq-equal (key h.0.0) s (sym h.0.3));
}

module _ (n : ℕ) (at : ℕ → ℕ) (i k : ℕ) (le : i ≤ k) where
  stands : (s j : ℕ) → i ≤ j → j < i + (k - i) → (s ≡ single at j) ⊎ (s ≡ others n at j)
      → list_any (λ p. nat_eq p.0 s) (with_both n at i (k - i)) ≡ true
  stands s j low high (inl e) =
      any-both_single (λ p. nat_eq p.0 s) n at i (k - i) j low high (nat_eq-equal (single at j) s (sym e))
  stands s j low high (inr e) =
      any-both_others (λ p. nat_eq p.0 s) n at i (k - i) j low high (nat_eq-equal (others n at j) s (sym e))

  exactly_both : Ascends 0 (with_both n at i (k - i)) → AreExactly (IsOfBoth n at i k) (with_both n at i (k - i))
  exactly_both up = record {
    ascend = up;
    each =
        all-both (λ p. IsOfBoth n at i k p.0 p.1) n at i (k - i)
        (λ j low high. ((j, low, omega arith, inl refl), refl))
        (λ j low high. ((j, low, omega arith, inr refl), refl));
    all = λ s w h. stands s h.0.0 h.0.1 (omega arith) h.0.3;
  }

-- ---- levels

module _ (n : ℕ) (claim at : ℕ → ℕ) (m : ℕ) where
  holds_half : (i k : ℕ) (levels : List Level) (l : Level) → IsHalfLevel n claim at m i k l → LevelForm n levels l
      → HoldsHalf n claim at m i k l
  holds_half i k levels l b form =
      let up : Ascends 0 (with_both n at i (k - i)) = rw b.coalitions at form.ascend in
      record {
        two = b.two;
        end = b.end;
        fraction = b.fraction;
        excess = b.excess;
        coalitions = rw b.coalitions (exactly_both n at i k (omega arith) up);
        earlier = b.earlier;
        bounds = b.bounds;
        total = b.total;
      }

  hold_halves : (i k : ℕ) (levels ls rest : List Level) → AreHalves n claim at m i ls k
      → LevelsForm n levels (ls ++ rest) → HoldHalves n claim at m i ls k
  hold_halves i k levels [] rest chain form = chain
  hold_halves i k levels (l ∷ ls) rest (h, b, chain) form =
      (h, holds_half i h levels l b form.0, hold_halves h k (levels ++ l ∷ []) ls rest chain form.1)

  last_form : (levels ls : List Level) (l : Level) → LevelsForm n levels (ls ++ l ∷ [])
      → (f : List Level) × LevelForm n f l
  last_form levels [] l form = (levels, form.0)
  last_form levels (h ∷ ls) l form = last_form (levels ++ h ∷ []) ls l form.1

  holds_rest : (gain : Bool) (t den : ℤ) (levels : List Level) (l : Level) → IsRestLevel n at m gain t den l
      → LevelForm n levels l → HoldsRest n at m gain t den l
  holds_rest gain t den levels l b form =
      let two = b.two in
      let key = key_of n at gain in
      let up : Ascends 0 (with_keys key m (n - m)) = rw b.coalitions at form.ascend in
      let early : Ascends 0 (with_keys key 0 m) = rw b.earlier at form.earlier_ascend in
      record {
        two = b.two;
        fraction = b.fraction;
        excess = b.excess;
        coalitions = rw b.coalitions (exactly_keys key m (n - m) n (omega arith) up);
        earlier = rw b.earlier (exactly_keys key 0 m m (omega arith) early);
        bounds = b.bounds;
        total = b.total;
      }

  pub hold_all : (gain : Bool) (t den : ℤ) (levels : List Level) → AreLevels n claim at m gain t den levels
      → LevelsForm n [] levels → HoldAll n claim at m gain t den levels
  hold_all gain t den levels (inl (k, chain, end)) form =
      inl (k, hold_halves 0 k [] levels [] chain (rw (append-nil levels) form), end)
  hold_all gain t den levels (inr (ls, l, e, chain, b)) form =
      let here : LevelsForm n [] (ls ++ l ∷ []) = rw e at form in
      let last = last_form [] ls l here in
      inr (ls, l, e, hold_halves 0 m [] ls (l ∷ []) chain here, holds_rest gain t den last.0 l b last.1)
