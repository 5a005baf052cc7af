-- Kohlberg's theorem, both ways: the weights of all coalitions of a level, added, balance it.
use Rattle.std.proofs.Common.{◌≡◌, ℕ, zero, suc, ◌-◌, ◌^◌, ◌<◌, ◌≤◌, Bool, true, false, cond, List, ℤ, pos, ◌+ℤ◌, ◌*ℤ◌}
use Rattle.std.proofs.Common.{◌≤ℤ◌, refl, sym, ap, subst, ◌∙◌, inl, inr, arith}
use Rattle.std.proofs.lemmas.Bool.{false≢true}
use Rattle.definitions.proofs.Ring.{linear, add-mulℤ, zero-mulℤ}
use Rattle.definitions.proofs.Cases.{true_or_false, less_or_last}
use Rattle.definitions.proofs.Masks.{grand_coalition-within}
use Rattle.definitions.proofs.Members.{sum_below-same, sum_below-add, sum_below-zero}
use Rattle.definitions.specs.Sums.{sum_below}
use Rattle.definitions.specs.Coalitions.{has_player, grand_coalition, sum_over}
use Rattle.definitions.specs.declared.Family.TheVariants.{Preimputations}
use Rattle.law_duality.proofs.SideWeights.{SideWeights, side_weights}
use Rattle.real_shares.specs.Numbers.{Numbers, IsOrderedGroup}
use Rattle.real_shares.proofs.RealNumbers.{are_ordered}
use Rattle.law_real_worths.specs.Games.{NumberGame, IsNucleolusIn, CanHalve}
use Rattle.law_real_worths.specs.KohlbergTheorem.{IsBalancedTest, is_level, KohlbergTheorem}
use Rattle.law_real_worths.proofs.RealsCanHalve.{can_halve}
use Rattle.law_real_worths.proofs.LevelsAreEnough.{from_proper, comes_first}
use Rattle.law_real_worths.proofs.LevelsAreNeeded.{level_parts, never}

module _ {C : Type 0} (N : Numbers C) (L : IsOrderedGroup N) (halve : CanHalve N) (g : NumberGame C) (y : List C)
    (is : IsNucleolusIn N Preimputations g y) (t : ℕ) (some : 1 ≤ g.players) where
  abbrev n : ℕ
  n = g.players

  abbrev level : ℕ → Bool
  level s = is_level N g y t s

  abbrev count : ℕ
  count = 2 ^ n - 2

  -- weights of at least 1 on one coalition of the level
  one_of : (d : ℕ) → d < count → level (suc d) ≡ true → SideWeights n level some d
  one_of d lt h =
      side_weights n level some d lt h
      (λ w total gain none.
      never N L halve g y is t w total (suc d) (omega (arith, lt)) h gain
      (λ s within in_level. none_less w none s within in_level))
    where
      none_less : (w : ℕ → ℤ) → ((c : ℕ) → c < count → level (suc c) ≡ true → pos 0 ≤ℤ sum_over n w (suc c))
          → (s : ℕ) → s < 2 ^ n → level s ≡ true → pos 0 ≤ℤ sum_over n w s
      none_less w none s within h =
          let range = from_proper n s within (level_parts N L halve g y is t s h).0 in
          let whole : suc (s - 1) ≡ s = omega (arith, range.0) in
          let all = grand_coalition-within n in
          subst (λ r. pos 0 ≤ℤ sum_over n w r) whole
          (none (s - 1) (omega (arith, range.0, range.1)) (ap level whole ∙ h))

  -- and on the first m of them
  pub record Partly (m : ℕ) : Type 0 where
    pub weights : ℕ → ℤ
    pub total : ℤ
    pub low : (s : ℕ) → s < 2 ^ n → pos 0 ≤ℤ weights s
    pub none : (s : ℕ) → level s ≡ false → weights s ≡ pos 0
    pub here : (d : ℕ) → d < m → level (suc d) ≡ true → pos 1 ≤ℤ weights (suc d)
    pub balance : (i : ℕ) → i < n
        → sum_below (2 ^ n) (λ s. weights s *ℤ cond (has_player s i) (pos 1) (pos 0)) ≡ total

  upto : (m : ℕ) → m ≤ count → Partly m
  upto zero le = record {
    weights = λ s. pos 0;
    total = pos 0;
    low = λ s lt. omega (arith, linear);
    none = λ s h. refl;
    here = λ d lt h. absurd (omega arith);
    balance = λ i lt.
        sum_below-zero (2 ^ n) (λ s. pos 0 *ℤ cond (has_player s i) (pos 1) (pos 0))
        (λ s h. zero-mulℤ (cond (has_player s i) (pos 1) (pos 0)));
  }
  upto (suc m) le = elim (true_or_false (level (suc m))) [
    | inr fails ↦
        let p = upto m (omega (arith, le)) in
        record {
          weights = p.weights;
          total = p.total;
          low = p.low;
          none = p.none;
          here = λ d lt h. elim (less_or_last d m lt) [
            | inl less ↦ p.here d less h
            | inr last ↦ absurd (false≢true (sym fails ∙ ap (λ k. level (suc k)) (sym last) ∙ h))
          ];
          balance = p.balance;
        }
    | inl passes ↦
        let p = upto m (omega (arith, le)) in
        let x = one_of m (omega (arith, le)) passes in
        record {
          weights = λ s. p.weights s +ℤ x.weights s;
          total = p.total +ℤ x.total;
          low = λ s lt. (let a = p.low s lt in let b = x.low s lt in omega (arith, linear, a, b));
          none = λ s h. (let a = p.none s h in let b = x.none s h in omega (arith, linear, a, b));
          here = λ d lt h. elim (less_or_last d m lt) [
            | inl less ↦
                (omega (arith, linear, p.here d less h, x.low (suc d) (omega (arith, lt, le))))
            | inr last ↦
                (let a = p.low (suc d) (omega (arith, lt, le)) in
                omega (arith, linear, a, x.here, ap (λ k. x.weights (suc k)) last))
          ];
          balance = λ i lt.
              sum_below-same (2 ^ n) (λ s. (p.weights s +ℤ x.weights s) *ℤ cond (has_player s i) (pos 1) (pos 0))
              (λ s. p.weights s *ℤ cond (has_player s i) (pos 1) (pos 0)
              +ℤ x.weights s *ℤ cond (has_player s i) (pos 1) (pos 0))
              (λ s h. add-mulℤ (p.weights s) (x.weights s) (cond (has_player s i) (pos 1) (pos 0)))
              ∙ sum_below-add (2 ^ n) (λ s. p.weights s *ℤ cond (has_player s i) (pos 1) (pos 0))
              (λ s. x.weights s *ℤ cond (has_player s i) (pos 1) (pos 0))
              ∙ omega (arith, linear, p.balance i lt, x.balance i lt);
        }
  ]

  pub balanced_level : IsBalancedTest n level
  balanced_level =
      let p = upto count (omega arith) in
      record {
        weights = p.weights;
        total = p.total;
        some = λ s within h.
            let range = from_proper n s within (level_parts N L halve g y is t s h).0 in
            let whole : suc (s - 1) ≡ s = omega (arith, range.0) in
            subst (λ r. pos 1 ≤ℤ p.weights r) whole
            (p.here (s - 1) (omega (arith, range.0, range.1)) (ap level whole ∙ h));
        none = λ s within h. p.none s h;
        balance = p.balance;
      }

pub kohlberg : KohlbergTheorem
kohlberg N g y R member =
    let L = are_ordered N R in (
      λ is t first last. balanced_level N L (can_halve N R) g y is t (players g.players t first last),
      λ levels. (member, λ z other differs. comes_first N L g y z member other levels differs),
    )
  where
    players : (n t : ℕ) → 0 < t → t < grand_coalition n → 1 ≤ n
    players n t first last = grind arith
