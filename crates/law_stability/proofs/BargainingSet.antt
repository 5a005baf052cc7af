-- An objection of k against l at a kernel point can be countered: by l alone, if k outweighs l, and otherwise by a
-- coalition that has the surplus of l against k (Davis and Maschler 1967). At a point of the prekernel nobody outweighs
-- anybody, so the latter counters always. At a core point nobody has an objection.
use Rattle.std.proofs.Common.{◌≡◌, ◌≢◌, ℕ, zero, suc, ◌<◌, false, ℤ, pos, ◌*ℤ◌, ◌≤ℤ◌, sym, ap, ◌∙◌, inl, inr, arith}
use Rattle.std.proofs.Common.{Bool, cond}
use Rattle.std.proofs.lemmas.Bool.{false≢true}
use Rattle.std.proofs.lemmas.Int.{by_lt_z}
use Rattle.definitions.proofs.Cases.{same_or_other, less_or_last, from_not}
use Rattle.definitions.proofs.Masks.{singleton-within}
use Rattle.definitions.proofs.Members.{has_player-singleton_other, sum_over-singleton, sum_below-nonnegative}
use Rattle.definitions.proofs.Parts.{part}
use Rattle.definitions.proofs.Ring.{linear, mul-leℤ}
use Rattle.definitions.proofs.SumsOver.{amount-at}
use Rattle.theorems.proofs.Moves.{parted}
use Rattle.theorems.proofs.Transfers.{surplus_of, holds_without-singleton, prenucleolus_in_prekernel}
use Rattle.definitions.specs.Sums.{sum_below}
use Rattle.definitions.specs.Coalitions.{has_player, singleton}
use Rattle.definitions.specs.Games.{Game, Allocation, share, excess, IsAllocation, InCore}
use Rattle.definitions.specs.Prekernel.{IsSurplus}
use Rattle.definitions.specs.declared.Family.TheVariants.{Imputations}
use Rattle.law_stability.specs.BargainingSet.{IsObjection, IsCounter, KernelIsInBargainingSet}
use Rattle.law_stability.specs.BargainingSet.{NucleolusIsInBargainingSet}
use Rattle.law_stability.specs.BargainingSet.{BargainingSetIsntEmpty, CoreIsInBargainingSet, PrekernelCounters}
use Rattle.law_stability.specs.BargainingSet.{PrenucleolusCounters}
use Rattle.law_answers.proofs.NucleolusIsInCore.{core_family, core_low}
use Rattle.law_stability.proofs.Kernel.{nucleolus_in_kernel, kernel_isnt_empty}
use Rattle.law_stability.proofs.Counters.{answer, counters, rise, rise-within, rise-all}
use Rattle.theorems.proofs.Products.{sorted_products}

-- ---- the kernel

-- who gets just its worth alone counters alone
counters_alone : (g : Game) (x : Allocation) (k l p : ℕ) (y : Allocation) → IsAllocation g x → k < g.players
    → l < g.players → k ≢ l → IsObjection g x k l p y → share x l ≡ x.den *ℤ g.worth (singleton l)
    → IsCounter g x k l p y (singleton l) x
counters_alone g x k l p y hx hk hl ne o alone = record {
  within = singleton-within g.players l hl;
  without = holds_without-singleton l k (λ e. ne (sym e));
  shares = hx;
  divides = amount-at g x (singleton l) hx ∙ sum_over-singleton g.players l (share x) hl ∙ alone;
  as_promised = λ i lt in_q in_p. elim (same_or_other i l) [
    | inl same ↦ absurd (false≢true (sym lacks ∙ ap (has_player p) (sym same) ∙ in_p))
    | inr other ↦ absurd (false≢true (sym (has_player-singleton_other l i other) ∙ in_q))
  ];
  as_before = λ i lt in_q out. omega (arith, linear);
}
  where
    lacks : has_player p l ≡ false
    lacks = from_not (has_player p l) (parted (has_player p k) (has_player p l) o.without).1

-- with the coalition that has the surplus of l against k, if that is no less than the surplus of k against l
counters_by_surplus : (g : Game) (x : Allocation) (k l p : ℕ) (y : Allocation) (m w : ℤ) → IsAllocation g x
    → l < g.players → IsObjection g x k l p y → IsSurplus g x k l m → IsSurplus g x l k w → m ≤ℤ w
    → (q : ℕ) × (z : Allocation) × IsCounter g x k l p y q z
counters_by_surplus g x k l p y m w hx hl o most other le =
    let q = other.0.0 in
    let no_less : excess g x p ≤ℤ excess g x q =
    omega (arith, linear, le, most.1 p (o.within, o.without), other.0.2) in (
      q,
      answer g x k l p y q hx o hl other.0.1.0 other.0.1.1 no_less,
      counters g x k l p y q hx o hl other.0.1.0 other.0.1.1 no_less,
    )

pub kernel_in_bargaining_set : KernelIsInBargainingSet
kernel_in_bargaining_set g x h = (
  h.0,
  λ k l p y hk hl ne o.
      let most = surplus_of g x k l hk ne in
      let other = surplus_of g x l k hl (λ e. ne (sym e)) in
      by_lt_z other.0 most.0
      (λ lt. (
        singleton l,
        x,
        counters_alone g x k l p y h.0.0 hk hl ne o
            (h.1 k l hk hl ne (most.0, other.0, most.1, other.1, lt)),
      ))
      (λ le. counters_by_surplus g x k l p y most.0 other.0 h.0.0 hl o most.1 other.1 le),
)

pub nucleolus_in_bargaining_set : NucleolusIsInBargainingSet
nucleolus_in_bargaining_set g x h = kernel_in_bargaining_set g x (nucleolus_in_kernel g x h)

pub bargaining_set_isnt_empty : BargainingSetIsntEmpty
bargaining_set_isnt_empty g y h =
    let (x, hx) = kernel_isnt_empty g y h in
    (x, kernel_in_bargaining_set g x hx)

-- ---- the prekernel

-- both surpluses are one number
pub prekernel_counters : PrekernelCounters
prekernel_counters g x h k l p y hk hl ne o =
    let same = h.2 k l hk hl ne in
    counters_by_surplus g x k l p y same.0 same.0 h.0 hl o same.1 same.2 (omega (arith, linear))

pub prenucleolus_counters : PrenucleolusCounters
prenucleolus_counters g x h = prekernel_counters g x (prenucleolus_in_prekernel g x h)

-- ---- the core

pub one_of_all : (n k : ℕ) (f : ℕ → ℤ) → ((i : ℕ) → i < n → pos 0 ≤ℤ f i) → k < n → f k ≤ℤ sum_below n f
one_of_all zero k f low lt = absurd (omega arith)
one_of_all (suc n) k f low lt = elim (less_or_last k n lt) [
  | inl less ↦ omega
      (arith, linear, one_of_all n k f (λ i h. low i (omega arith)) less, low n (omega arith))
  | inr same ↦ omega
      (arith, linear, ap f same, sum_below-nonnegative n f (λ i h. low i (omega arith)))
]

no_objection : (g : Game) (x : Allocation) → InCore g x → (k l p : ℕ) (y : Allocation) → k < g.players
    → ¬ IsObjection g x k l p y
no_objection g x h k l p y hk o =
    let inside = (parted (has_player p k) (has_player p l) o.without).0 in
    let here : part (rise x y) p k ≡ rise x y k = ap (λ (b : Bool). cond b (rise x y k) (pos 0)) inside in
    let some = one_of_all g.players k (part (rise x y) p) (rise-within g x k l p y o) hk in
    let none = mul-leℤ y.den (excess g x p) (pos 0) (omega (arith, linear, o.shares.1)) (core_low g x h p o.within) in
    omega (sorted_products, here, some, none, rise-all g x k l p y h.0 o, o.more)

pub core_in_bargaining_set : CoreIsInBargainingSet
core_in_bargaining_set g x h = (
  (core_family Imputations g x h, λ k l p y hk hl ne o. absurd (no_objection g x h k l p y hk o)),
  no_objection g x h,
)
