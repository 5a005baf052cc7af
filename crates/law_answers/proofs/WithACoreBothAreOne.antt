-- If the core isn't empty, the prenucleolus is an imputation, and so the nucleolus. And the nucleolus
-- beats each preimputation that gives somebody less than alone, since there an excess is above 0 and at a core point
-- none is.
use Rattle.std.proofs.Common.{◌≡◌, ◌↔◌, ℕ, ◌^◌, ◌<◌, ◌≤◌, pos, ◌*ℤ◌, ◌<ℤ◌, ap, ◌∙◌, inl, inr, arith}
use Rattle.std.proofs.Math.Pow.{pow-lt}
use Rattle.definitions.proofs.Masks.{grand_coalition-within}
use Rattle.definitions.proofs.Members.{sum_over-singleton}
use Rattle.definitions.proofs.Ring.{linear}
use Rattle.law_answers.proofs.NucleolusIsInCore.{core_family, core_beats, excess_grand, nucleolus_in_core}
use Rattle.law_answers.proofs.SomeGreater.{some_greater}
use Rattle.definitions.specs.Coalitions.{singleton, grand_coalition, sum_over}
use Rattle.definitions.specs.Measures.{IsMeasurable}
use Rattle.definitions.specs.Games.{Game, Allocation, share, amount, excess, Beats, IsSame, InFamily, IsNucleolus}
use Rattle.definitions.specs.Games.{InCore}
use Rattle.definitions.specs.declared.Family.TheVariants.{Imputations, Preimputations}
use Rattle.definitions.specs.declared.Measure.{Measure}

-- the prenucleolus is the nucleolus
also_nucleolus : (measure : Measure) (g : Game) (x : Allocation) → InCore g x
    → IsNucleolus Preimputations measure g x → IsNucleolus Imputations measure g x
also_nucleolus measure g x core h = (core_family Imputations g x core, λ y hy differs. h.1 y (hy.0, hy.1) differs)

-- a core point beats each preimputation that gives player j less than alone
beats_unfair : (measure : Measure) (g : Game) (x y : Allocation) (j : ℕ) → IsMeasurable measure g.players
    → InCore g x → InFamily Preimputations g y → j < g.players → share y j <ℤ (y.den *ℤ g.worth (singleton j))
    → Beats measure g x y
beats_unfair measure g x y j can core hy lt less =
    let n = g.players in
    let s = singleton j in
    let small : s < 2 ^ n = pow-lt lt in
    let some : 1 ≤ s = (let within = grand_coalition-within j in omega (arith, within)) in
    let got : amount y s ≡ share y j =
    ap (λ (k : ℕ). sum_over k (share y) s) hy.0.0 ∙ sum_over-singleton n j (share y) lt in
    let up : pos 0 <ℤ excess g y s = omega (arith, linear, less, got) in
    let not_all : s ≡ grand_coalition n → ⊥ =
    λ e. let same = ap (excess g y) e in omega (arith, linear, up, same, excess_grand g y hy.1) in
    core_beats measure g y x s can hy.0 core some (omega (arith, small, not_all)) up

-- the nucleolus is the prenucleolus
also_prenucleolus : (measure : Measure) (g : Game) (x : Allocation) → IsMeasurable measure g.players → InCore g x
    → IsNucleolus Imputations measure g x → IsNucleolus Preimputations measure g x
also_prenucleolus measure g x can core h = ((core.0, core.1), beats)
  where
    beats : (y : Allocation) → InFamily Preimputations g y → ¬ IsSame g x y → Beats measure g x y
    beats y hy differs = elim (some_greater g.players (λ i. y.den *ℤ g.worth (singleton i)) (share y)) [
      | inl found ↦ beats_unfair measure g x y found.0 can core hy found.1 found.2
      | inr none ↦ h.1 y (hy.0, hy.1, none) differs
    ]

pub both_are_one : (measure : Measure) (g : Game) (x z : Allocation) → IsMeasurable measure g.players → InCore g z
    → IsNucleolus Preimputations measure g x ↔ IsNucleolus Imputations measure g x
both_are_one measure g x z can core = (
  λ h. also_nucleolus measure g x (nucleolus_in_core Preimputations measure g x z can h core) h,
  λ h. also_prenucleolus measure g x can (nucleolus_in_core Imputations measure g x z can h core) h,
)
