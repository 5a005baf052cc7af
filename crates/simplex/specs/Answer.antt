-- What an answer of the simplex promises, and what its refusals mean.
--
--   AreInForm     few positive weights below 2^62, in lowest terms
--   IsAnswer      optimal weights in form, optimal multipliers, and no ray
--   HasSolution   some weights solve the program
--   IsFault       what a refusal means
use Rattle.std.specs.Prelude.{ℕ, ◌^◌, ◌≤◌, ◌<◌, ◌≡◌, List, length, ℤ, pos, ◌≤ℤ◌}
use Rattle.std.specs.Prelude.{unsigned_abs}
use Prim.Native.Nat.{◌∣◌}
use Rattle.std.specs.List.{AllByRecursion}
use Rattle.definitions.specs.Programs.{Program, Solves, IsOptimal, HasNoSolution, HasRay}
use Rattle.simplex.specs.declared.solving.LpFault.{LpFault}
use Rattle.simplex.specs.declared.solving.LpFault.TheVariants.{NoSolution, Unbounded}

-- at most one weight per row, each positive and below 2^62, as the denominator is, and no number above 1 divides
-- all of them
pub record AreInForm (rows : ℕ) (weights : List (ℕ × ℤ)) (den : ℤ) : Type 0 where
  pub count : length weights ≤ rows
  pub positive : AllByRecursion (λ w. pos 1 ≤ℤ w.1) weights
  pub small : AllByRecursion (λ w. unsigned_abs w.1 < 2 ^ 62) weights
  pub den_small : unsigned_abs den < 2 ^ 62
  pub lowest : (g : ℕ) → g ∣ unsigned_abs den → AllByRecursion (λ w. g ∣ unsigned_abs w.1) weights → g ≡ 1

-- optimal weights in form, beside an optimal multiplier for each row
pub record IsAnswer (p : Program) (weights : List (ℕ × ℤ)) (weight_den : ℤ) (multipliers : List ℤ) (den : ℤ) : Type
    0 where
  pub optimal : IsOptimal p weights weight_den multipliers den
  pub form : AreInForm p.rows weights weight_den
  pub count : length multipliers ≡ p.rows
  pub bounded : ¬ HasRay p

pub record HasSolution (p : Program) : Type 0 where
  pub weights : List (ℕ × ℤ)
  pub den : ℤ
  pub solves : Solves p weights den

-- nothing solves the program, or something does and a ray raises its cost without end
abbrev pub IsFault : Program → LpFault → Type 0
IsFault p NoSolution = HasNoSolution p
IsFault p Unbounded = HasSolution p × HasRay p
