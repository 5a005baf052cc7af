-- The bargaining set, of all players together.
-- Source: Aumann and Maschler 1964; Davis and Maschler 1967; Peleg and Sudhölter, Introduction to the Theory of
-- Cooperative Games. Each law is the contract of a function of this crate.
--
--   GetsNoLess x y i             player i gets at y at least what it gets at x
--   GetsMore x y i               player i gets at y more than at x
--   IsObjection g x k l p y      by the shares y of p, player k objects to what player l gets at x
--   IsCounter g x k l p y q z    by the shares z of q, player l counters that
--   AreCountered g x             at x each objection of a player against another can be countered
--   InBargainingSet g x          an imputation at which that is so
--   KernelIsInBargainingSet      the kernel lies in the bargaining set
--   NucleolusIsInBargainingSet   so the nucleolus does
--   BargainingSetIsntEmpty       if there is an imputation, some shares lie in the bargaining set
--   CoreIsInBargainingSet        the core lies in it: at a core point nobody has an objection
--   PrekernelCounters            at each point of the prekernel objections can be countered, imputation or not
--   PrenucleolusCounters         so at the prenucleolus they can
use Rattle.std.specs.Prelude.{◌≡◌, ◌≢◌, ℕ, ◌^◌, ◌<◌, true}
use Rattle.std.specs.Prelude.{false, IsTrue, ◌*ℤ◌, ◌<ℤ◌, ◌≤ℤ◌}
use Rattle.definitions.specs.Coalitions.{has_player}
use Rattle.definitions.specs.Games.{Game, Allocation, share, amount, IsAllocation, InFamily, IsNucleolus, InCore}
use Rattle.definitions.specs.Prekernel.{holds_without, InPrekernel}
use Rattle.definitions.specs.declared.Family.TheVariants.{Imputations, Preimputations}
use Rattle.definitions.specs.declared.Measure.TheVariants.{Plain}
use Rattle.law_stability.specs.Kernel.{InKernel}

abbrev pub GetsNoLess : Allocation → Allocation → ℕ → Type 0
GetsNoLess x y i = (share x i *ℤ y.den) ≤ℤ (share y i *ℤ x.den)

abbrev pub GetsMore : Allocation → Allocation → ℕ → Type 0
GetsMore x y i = (share x i *ℤ y.den) <ℤ (share y i *ℤ x.den)

-- An objection of player k against player l at x: a coalition p with k and without l, and a division y of its worth
-- among its members (of y only their shares count) by which each gets no less than at x, and k gets more.
pub record IsObjection (g : Game) (x : Allocation) (k l p : ℕ) (y : Allocation) : Type 0 where
  pub within : p < 2 ^ g.players
  pub without : IsTrue (holds_without k l p)
  pub shares : IsAllocation g y
  pub divides : amount y p ≡ y.den *ℤ g.worth p
  pub no_less : (i : ℕ) → i < g.players → has_player p i ≡ true → GetsNoLess x y i
  pub more : GetsMore x y k

-- A counter objection of player l: a coalition q with l and without k, and a division z of its worth among its members
-- by which each gets no less than at y who is in p, and no less than at x who isn't.
pub record IsCounter (g : Game) (x : Allocation) (k l p : ℕ) (y : Allocation) (q : ℕ) (z : Allocation) : Type 0 where
  pub within : q < 2 ^ g.players
  pub without : IsTrue (holds_without l k q)
  pub shares : IsAllocation g z
  pub divides : amount z q ≡ z.den *ℤ g.worth q
  pub as_promised : (i : ℕ) → i < g.players → has_player q i ≡ true → has_player p i ≡ true → GetsNoLess y z i
  pub as_before : (i : ℕ) → i < g.players → has_player q i ≡ true → has_player p i ≡ false → GetsNoLess x z i

-- each objection of a player against another can be countered
abbrev pub AreCountered : Game → Allocation → Type 0
AreCountered g x =
    (k l p : ℕ) (y : Allocation) → k < g.players → l < g.players → k ≢ l → IsObjection g x k l p y →
    (q : ℕ) × (z : Allocation) × IsCounter g x k l p y q z

-- an imputation at which each objection of a player against another can be countered
abbrev pub InBargainingSet : Game → Allocation → Type 0
InBargainingSet g x = InFamily Imputations g x × AreCountered g x

abbrev pub KernelIsInBargainingSet : Type 0
KernelIsInBargainingSet = (g : Game) (x : Allocation) → InKernel g x → InBargainingSet g x

abbrev pub NucleolusIsInBargainingSet : Type 0
NucleolusIsInBargainingSet = (g : Game) (x : Allocation) → IsNucleolus Imputations Plain g x → InBargainingSet g x

abbrev pub BargainingSetIsntEmpty : Type 0
BargainingSetIsntEmpty =
    (g : Game) (y : Allocation) → InFamily Imputations g y → (x : Allocation) × InBargainingSet g x

-- a core point lies in the bargaining set, and nobody has an objection there
abbrev pub CoreIsInBargainingSet : Type 0
CoreIsInBargainingSet =
    (g : Game) (x : Allocation) → InCore g x →
    InBargainingSet g x
    × ((k l p : ℕ) (y : Allocation) → k < g.players → ¬ IsObjection g x k l p y)

-- also where somebody gets less than its worth alone, so that the point isn't in the bargaining set
abbrev pub PrekernelCounters : Type 0
PrekernelCounters = (g : Game) (x : Allocation) → InPrekernel g x → AreCountered g x

abbrev pub PrenucleolusCounters : Type 0
PrenucleolusCounters = (g : Game) (x : Allocation) → IsNucleolus Preimputations Plain g x → AreCountered g x
