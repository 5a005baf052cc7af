-- The lists of the levels hold exactly the pairs of their blocks.
use Rattle.std.proofs.Common.{◌≡◌, ℕ, ◌-◌, Bool, true, false, nat_lt, nat_eq, List, []}
use Rattle.std.proofs.Common.{◌∷◌}
use Rattle.std.proofs.Common.{◌++◌, ℤ, pos, negsuc, refl, sym, inl, inr, arith}
use Rattle.std.specs.List.{list_any, AllByRecursion}
use Rattle.std.proofs.lemmas.Bool.{false≢true}
use Rattle.definitions.specs.Coalitions.{singleton, grand_coalition}
use Rattle.definitions.specs.Certificates.{Level, LevelForm, LevelsForm}
use Rattle.orders.specs.Orders.{front}
use Rattle.airport_scheme.specs.Levels.{with_others, front_pair, IsBlock, IsChain, IsOfBlock}
use Rattle.airport_scheme.specs.Levels.{IsInFront, IsBlockLevel, AreBlockLevels}
use Rattle.airport_scheme.proofs.Pairs.{all-with_others, any-with_others_start, any-with_others, all-front}
use Rattle.definitions.proofs.Cases.{from_nat_lt, nat_lt-less, nat_eq-equal}

-- the pair that may stand stands where it is given
any-front : (test : ℕ × ℤ → Bool) (at : ℕ → ℕ) (k : ℕ) (w : ℤ) (given : Bool) → given ≡ true
    → test (front at k, w) ≡ true → list_any test (front_pair at k w given) ≡ true
any-front test at k w true e h = rw h refl
any-front test at k w false e h = absurd (false≢true e)

module _ (n : ℕ) (at : ℕ → ℕ) (pay : ℕ → ℤ) (den : ℤ) where
  module _ (i k : ℕ) (levels : List Level) (l : Level) (b : IsBlock n at pay den i k l)
      (form : LevelForm n levels l) where
    start : List (ℕ × ℤ)
    start = front_pair at k (pos 1) (nat_lt k n)

    each_of_block : AllByRecursion (λ p. IsOfBlock n at i k p.0 p.1)
        (with_others n at (front_pair at k (pos 1) (nat_lt k n)) i (k - i))
    each_of_block =
        all-with_others (λ p. IsOfBlock n at i k p.0 p.1) n at (front_pair at k (pos 1) (nat_lt k n)) i (k - i)
        (λ j low high. (inl (j, low, omega arith, refl), refl))
        (all-front (λ p. IsOfBlock n at i k p.0 p.1) at k (pos 1) (nat_lt k n)
        (λ e. (inr (from_nat_lt k n e, refl), refl)))

    stands : (s : ℕ) (w : ℤ) → IsOfBlock n at i k s w
        → list_any (λ p. nat_eq p.0 s) (with_others n at (front_pair at k (pos 1) (nat_lt k n)) i (k - i)) ≡ true
    stands s w (inl other, e) =
        any-with_others (λ p. nat_eq p.0 s) n at (front_pair at k (pos 1) (nat_lt k n)) i (k - i) other.0 other.1
        (omega arith)
        (nat_eq-equal (grand_coalition n - singleton (at other.0)) s (sym other.3))
    stands s w (inr last, e) =
        any-with_others_start (λ p. nat_eq p.0 s) n at (front_pair at k (pos 1) (nat_lt k n)) i (k - i)
        (any-front (λ p. nat_eq p.0 s) at k (pos 1) (nat_lt k n) (nat_lt-less k n last.0)
        (nat_eq-equal (front at k) s (sym last.1)))

    stands_in_front : (s : ℕ) (w : ℤ) → IsInFront at i s w
        → list_any (λ p. nat_eq p.0 s) (front_pair at i (negsuc 0) (nat_lt 0 i)) ≡ true
    stands_in_front s w h =
        any-front (λ p. nat_eq p.0 s) at i (negsuc 0) (nat_lt 0 i) (nat_lt-less 0 i h.0)
        (nat_eq-equal (front at i) s (sym h.1))

    IsBlockLevel-block : IsBlockLevel n at pay den i k l
    IsBlockLevel-block = record {
      two = b.two;
      some = b.some;
      within = b.within;
      same = b.same;
      until = b.until;
      fraction = b.fraction;
      excess = b.excess;
      coalitions = record {
        ascend = form.ascend;
        each = rw b.coalitions each_of_block;
        all = λ s w h. rw b.coalitions (stands s w h);
      };
      earlier = record {
        ascend = form.earlier_ascend;
        each = rw b.earlier
            (all-front (λ p. IsInFront at i p.0 p.1) at i (negsuc 0) (nat_lt 0 i)
            (λ e. (from_nat_lt 0 i e, refl, refl)));
        all = λ s w h. rw b.earlier (stands_in_front s w h);
      };
      bounds = b.bounds;
      total = b.total;
    }

  pub AreBlockLevels-chain : (i k : ℕ) (levels ls : List Level) → IsChain n at pay den i ls k
      → LevelsForm n levels ls → AreBlockLevels n at pay den i ls k
  AreBlockLevels-chain i k levels [] chain form = chain
  AreBlockLevels-chain i k levels (l ∷ ls) (m, b, chain) form =
      (m, IsBlockLevel-block i m levels l b form.0, AreBlockLevels-chain m k (levels ++ l ∷ []) ls chain form.1)
