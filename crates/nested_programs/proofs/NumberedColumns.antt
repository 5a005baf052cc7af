-- The number of a column among weights on distinct columns: that of its weight, or 0.
use Rattle.std.proofs.Common.{◌≡◌, ◌≢◌, ℕ, zero, suc, ◌<◌, true, false, nat_eq, List}
use Rattle.std.proofs.Common.{[], ◌∷◌}
use Rattle.std.proofs.Common.{length, map, get_or, ℤ, pos, refl, sym, ap, ◌∙◌, arith}
use Rattle.std.specs.List.{AllByRecursion, IsDistinct}
use Rattle.std.proofs.lemmas.Bool.Decides.{nat_tests}
use Rattle.definitions.proofs.Ring.{linear}
use Rattle.definitions.specs.Certificates.{number_at}
use Rattle.definitions.proofs.Cases.{from_not_nat_eq}

pub number_past_other : (p : ℕ × ℤ) (ps : List (ℕ × ℤ)) (id : ℕ) → p.0 ≢ id → number_at (p ∷ ps) id ≡ number_at ps id
number_past_other p ps id ne =
    let t : nat_eq p.0 id ≡ false = grind (arith, nat_tests) in
    rw t (omega (arith, linear))

-- a column without a weight has the number 0
pub number_none : (ws : List (ℕ × ℤ)) (d : ℕ × ℤ) (id : ℕ) → ((j : ℕ) → j < length ws → (get_or ws j d).0 ≢ id)
    → number_at ws id ≡ pos 0
number_none [] d id h = refl
number_none (w ∷ ws) d id h =
    number_past_other w ws id (h 0 (omega arith)) ∙ number_none ws d id (λ j lt. h (suc j) (omega arith))

-- a column whose number none of the weights has
pub number_apart : (id : ℕ) (ws : List (ℕ × ℤ)) → AllByRecursion (λ k. nat_eq id k ≡ false) (map (λ p. p.0) ws)
    → number_at ws id ≡ pos 0
number_apart id [] h = refl
number_apart id (w ∷ ws) h = number_past_other w ws id (from_not_nat_eq id w.0 h.0) ∙ number_apart id ws h.1

-- a column's number is that of its one weight
pub number_found : (ws : List (ℕ × ℤ)) (d : ℕ × ℤ) (k id : ℕ) → IsDistinct nat_eq (map (λ p. p.0) ws)
    → k < length ws → (get_or ws k d).0 ≡ id → number_at ws id ≡ (get_or ws k d).1
unfolding IsDistinct
number_found [] d k id h lt e = absurd (omega arith)
number_found (w ∷ ws) d zero id h lt e =
    let t : nat_eq w.0 id ≡ true = grind (arith, nat_tests) in
    let rest : number_at ws id ≡ pos 0 = ap (number_at ws) (sym e) ∙ number_apart w.0 ws h.0 in
    rw t (omega (arith, linear, rest))
number_found (w ∷ ws) d (suc k) id h lt e =
    number_past_other w ws id (λ s. later_key w ws d k h.0 (omega arith) (e ∙ sym s))
    ∙ number_found ws d k id h.1 (omega arith) e
  where
    later_key : (w : ℕ × ℤ) (ws : List (ℕ × ℤ)) (d : ℕ × ℤ) (k : ℕ)
        → AllByRecursion (λ j. nat_eq w.0 j ≡ false) (map (λ p. p.0) ws) → k < length ws → (get_or ws k d).0 ≢ w.0
    later_key w [] d k h lt e = absurd (omega arith)
    later_key w (v ∷ vs) d zero h lt e = from_not_nat_eq w.0 v.0 h.0 e
    later_key w (v ∷ vs) d (suc k) h lt e = later_key w vs d k h.1 (omega arith) e
