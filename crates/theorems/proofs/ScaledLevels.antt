-- A certificate over a scale, and the certificate with its excesses times the scale.
use Rattle.std.proofs.Common.{◌≡◌, ℕ, zero, suc, ◌-◌, Bool, IsTrue, not, ◌&&◌, ◌||◌, nat_eq, List, [], ◌∷◌, ◌++◌, ℤ}
use Rattle.std.proofs.Common.{pos, ◌*ℤ◌, ◌≤ℤ◌, refl, sym, ap, ap₂, subst, ◌∙◌, inl, inr, arith}
use Rattle.std.specs.List.{list_any, AllByRecursion}
use Rattle.std.specs.Prelude.{int_le}
use Rattle.definitions.proofs.Ring.{linear, ring_laws, mul-leℤ, mul-le_cancelℤ, mul-cancelℤ, mul_assoc_commℤ}
use Rattle.theorems.proofs.Scaled.{above_zero, share_times, measured_times, family_to, family_from}
use Rattle.definitions.specs.Coalitions.{has_player, singleton, grand_coalition, some_below, splits}
use Rattle.definitions.specs.Games.{Game, Allocation, measured_excess}
use Rattle.definitions.specs.Certificates.{Level, is_listed, has_bound, is_free, IsFixedVector, InSpan, IsOutside}
use Rattle.definitions.specs.Certificates.{IsAllFixed, HasExcess, HasAtMostExcess, IsTight, BoundWeighs, IsBalanced}
use Rattle.definitions.specs.Certificates.{LevelHolds, LevelsHold, Certifies}
use Rattle.definitions.specs.Scales.{times, measured_excess_over, IsLevelOver, AreLevelsOver, HasExcessOver}
use Rattle.definitions.specs.Scales.{HasAtMostExcessOver, IsTightOver, LevelHoldsOver, LevelsHoldOver, CertifiesOver}
use Rattle.definitions.specs.Measures.{measured_den}
use Rattle.definitions.specs.declared.Family.{Family}
use Rattle.definitions.specs.declared.Measure.{Measure}
use Rattle.definitions.specs.declared.Mode.{Mode}
use Rattle.definitions.specs.declared.Mode.TheVariants.{Players, Span}
use Rattle.definitions.proofs.Alls.{all_weaken}
use Rattle.theorems.proofs.Products.{products}

-- ---- levels with the same lists fix the same

-- the lists of the second are those of the first, one by one
abbrev pub Alike : List Level → List Level → Type 0
Alike [] [] = Unit {0}
Alike [] (m ∷ ms) = ⊥
Alike (l ∷ ls) [] = ⊥
Alike (l ∷ ls) (m ∷ ms) = (m.coalitions ≡ l.coalitions) × (m.bounds ≡ l.bounds) × Alike ls ms

pub Alike-turned : (ls ms : List Level) → Alike ls ms → Alike ms ls
Alike-turned [] [] h = tt
Alike-turned [] (m ∷ ms) h = absurd h
Alike-turned (l ∷ ls) [] h = absurd h
Alike-turned (l ∷ ls) (m ∷ ms) h = (sym h.0, sym h.1, Alike-turned ls ms h.2)

pub joined : (ls ms : List Level) (l m : Level) → Alike ls ms → m.coalitions ≡ l.coalitions → m.bounds ≡ l.bounds
    → Alike (ls ++ l ∷ []) (ms ++ m ∷ [])
joined [] [] l m h c b = (c, b, tt)
joined [] (k ∷ ms) l m h c b = absurd h
joined (j ∷ ls) [] l m h c b = absurd h
joined (j ∷ ls) (k ∷ ms) l m h c b = (h.0, h.1, joined ls ms l m h.2 c b)

pub listed_alike : (ls ms : List Level) → Alike ls ms → (s : ℕ) → is_listed ls s ≡ is_listed ms s
listed_alike [] [] h s = refl
listed_alike [] (m ∷ ms) h s = absurd h
listed_alike (l ∷ ls) [] h s = absurd h
listed_alike (l ∷ ls) (m ∷ ms) h s =
    ap₂ (λ (a b : Bool). a || b) (ap (λ (cs : List (ℕ × ℤ)). list_any (λ c. nat_eq c.0 s) cs) (sym h.0))
    (listed_alike ls ms h.2 s)

bound_alike : (ls ms : List Level) → Alike ls ms → (i : ℕ) → has_bound ls i ≡ has_bound ms i
bound_alike [] [] h i = refl
bound_alike [] (m ∷ ms) h i = absurd h
bound_alike (l ∷ ls) [] h i = absurd h
bound_alike (l ∷ ls) (m ∷ ms) h i =
    ap₂ (λ (a b : Bool). a || b)
    (ap (λ (bs : List (ℕ × ℤ)). list_any (λ b. nat_eq b.0 i && int_le (pos 1) b.1) bs) (sym h.1))
    (bound_alike ls ms h.2 i)

free_alike : (n : ℕ) (ls ms : List Level) → Alike ls ms → (i : ℕ) → is_free n ls i ≡ is_free n ms i
free_alike n ls ms h i =
    let a = listed_alike ls ms h (singleton i) in
    let b = listed_alike ls ms h (grand_coalition n - singleton i) in
    let c = bound_alike ls ms h i in
    ap not (ap₂ (λ (p q : Bool). p || q) (ap₂ (λ (p q : Bool). p || q) a b) c)

some_alike : (n : ℕ) (t u : ℕ → Bool) → ((i : ℕ) → t i ≡ u i) → some_below n t ≡ some_below n u
some_alike zero t u e = refl
some_alike (suc n) t u e = ap₂ (λ (a b : Bool). a || b) (e n) (some_alike n t u e)

splits_alike : (n : ℕ) (t u : ℕ → Bool) (s : ℕ) → ((i : ℕ) → t i ≡ u i) → splits n t s ≡ splits n u s
splits_alike n t u s e =
    ap₂ (λ (a b : Bool). a && b)
    (some_alike n (λ i. t i && has_player s i) (λ i. u i && has_player s i)
    (λ i. ap (λ (a : Bool). a && has_player s i) (e i)))
    (some_alike n (λ i. t i && not (has_player s i)) (λ i. u i && not (has_player s i))
    (λ i. ap (λ (a : Bool). a && not (has_player s i)) (e i)))

vector_alike : (n : ℕ) (ls ms : List Level) → Alike ls ms → (s : ℕ) → IsFixedVector n ls s → IsFixedVector n ms s
vector_alike n ls ms h s v = elim v [
  | inl all ↦ inl all
  | inr rest ↦ elim rest [
    | inl listed ↦ inr (inl (subst IsTrue (listed_alike ls ms h s) listed))
    | inr bound ↦ inr (inr (bound.0, bound.1, bound.2, subst IsTrue (bound_alike ls ms h bound.0) bound.3))
  ]
]

span_alike : (n : ℕ) (ls ms : List Level) → Alike ls ms → (s : ℕ) → InSpan n (IsFixedVector n ls) s
    → InSpan n (IsFixedVector n ms) s
span_alike n ls ms h s k = (
  k.0,
  k.1,
  k.2,
  all_weaken (λ p. IsFixedVector n ls p.0) (λ p. IsFixedVector n ms p.0) k.2 (λ p. vector_alike n ls ms h p.0)
      k.3,
  k.4,
)

pub outside_alike : (mode : Mode) (n : ℕ) (ls ms : List Level) → Alike ls ms → (s : ℕ) → IsOutside mode n ls s
    → IsOutside mode n ms s
outside_alike Players n ls ms h s o =
    subst IsTrue (splits_alike n (is_free n ls) (is_free n ms) s (free_alike n ls ms h)) o
outside_alike Span n ls ms h s o = (o.0, o.1, λ k. o.2 (span_alike n ms ls (Alike-turned ls ms h) s k))

pub fixed_alike : (mode : Mode) (n : ℕ) (ls ms : List Level) → Alike ls ms → IsAllFixed mode n ls → IsAllFixed mode n ms
fixed_alike Players n ls ms h a = λ i j li lj fi fj. a i j li lj (subst IsTrue (sym (free_alike n ls ms h i)) fi)
    (subst IsTrue (sym (free_alike n ls ms h j)) fj)
fixed_alike Span n ls ms h a = λ i lt. span_alike n ls ms h (singleton i) (a i lt)

-- ---- the conditions of a level

-- e/d is k times n/q, in both forms
excess_sides : (k e d n q m r : ℤ) → m *ℤ d ≡ k *ℤ n *ℤ r → r *ℤ ((k *ℤ n) *ℤ q) ≡ d *ℤ (m *ℤ q)
excess_sides k e d n q m r h =
    sym (mul_assoc_commℤ (k *ℤ n) r q) ∙ ap (λ (z : ℤ). z *ℤ q) (sym h) ∙ mul_assoc_commℤ m d q

swapped : (e d r : ℤ) → r *ℤ (e *ℤ d) ≡ d *ℤ (e *ℤ r)
swapped e d r = simp ring_laws

excess_to : (k : ℤ) (measure : Measure) (g : Game) (x : Allocation) (l m : Level) → IsLevelOver k l m → (s : ℕ)
    → HasExcessOver k measure g x l s → HasExcess measure g (times k x) m s
excess_to k measure g x l m o s h =
    let e = measured_excess_over k measure g x s in
    let q = measured_den measure x.den in
    mul-cancelℤ l.excess_den (measured_excess measure g (times k x) s *ℤ m.excess_den) (m.excess_num *ℤ q)
    (above_zero l.excess_den o.fraction)
    (ap (λ (z : ℤ). l.excess_den *ℤ (z *ℤ m.excess_den)) (measured_times k measure g x s)
    ∙ sym (swapped e l.excess_den m.excess_den)
    ∙ ap (◌*ℤ◌ m.excess_den) h
    ∙ excess_sides k e l.excess_den l.excess_num q m.excess_num m.excess_den o.excess)

excess_from : (k : ℤ) (measure : Measure) (g : Game) (x : Allocation) (l m : Level) → IsLevelOver k l m → (s : ℕ)
    → HasExcess measure g (times k x) m s → HasExcessOver k measure g x l s
excess_from k measure g x l m o s h =
    let e = measured_excess_over k measure g x s in
    let q = measured_den measure x.den in
    mul-cancelℤ m.excess_den (e *ℤ l.excess_den) ((k *ℤ l.excess_num) *ℤ q)
    (above_zero m.excess_den o.whole_fraction)
    (swapped e l.excess_den m.excess_den
    ∙ sym (ap (λ (z : ℤ). l.excess_den *ℤ (z *ℤ m.excess_den)) (measured_times k measure g x s))
    ∙ ap (◌*ℤ◌ l.excess_den) h
    ∙ sym (excess_sides k e l.excess_den l.excess_num q m.excess_num m.excess_den o.excess))

at_most_to : (k : ℤ) (measure : Measure) (g : Game) (x : Allocation) (l m : Level) → IsLevelOver k l m → (s : ℕ)
    → HasAtMostExcessOver k measure g x l s → HasAtMostExcess measure g (times k x) m s
at_most_to k measure g x l m o s h =
    let e = measured_excess_over k measure g x s in
    let q = measured_den measure x.den in
    mul-le_cancelℤ l.excess_den (measured_excess measure g (times k x) s *ℤ m.excess_den) (m.excess_num *ℤ q)
    (above_zero l.excess_den o.fraction)
    (omega (
      products,
      mul-leℤ m.excess_den (e *ℤ l.excess_den) ((k *ℤ l.excess_num) *ℤ q) (omega (arith, linear, o.whole_fraction)) h,
      ap (λ (z : ℤ). l.excess_den *ℤ (z *ℤ m.excess_den)) (measured_times k measure g x s),
      swapped e l.excess_den m.excess_den,
      excess_sides k e l.excess_den l.excess_num q m.excess_num m.excess_den o.excess,
    ))

at_most_from : (k : ℤ) (measure : Measure) (g : Game) (x : Allocation) (l m : Level) → IsLevelOver k l m → (s : ℕ)
    → HasAtMostExcess measure g (times k x) m s → HasAtMostExcessOver k measure g x l s
at_most_from k measure g x l m o s h =
    let e = measured_excess_over k measure g x s in
    let q = measured_den measure x.den in
    mul-le_cancelℤ m.excess_den (e *ℤ l.excess_den) ((k *ℤ l.excess_num) *ℤ q)
    (above_zero m.excess_den o.whole_fraction)
    (omega (
      products,
      mul-leℤ l.excess_den (measured_excess measure g (times k x) s *ℤ m.excess_den) (m.excess_num *ℤ q)
          (omega (arith, linear, o.fraction)) h,
      ap (λ (z : ℤ). l.excess_den *ℤ (z *ℤ m.excess_den)) (measured_times k measure g x s),
      swapped e l.excess_den m.excess_den,
      excess_sides k e l.excess_den l.excess_num q m.excess_num m.excess_den o.excess,
    ))

tight_to : (k : ℤ) (f : Family) (g : Game) (x : Allocation) (b : ℕ × ℤ) → IsTightOver k f g x b
    → IsTight f g (times k x) b
tight_to k f g x b h = (share_times k x b.0 ∙ h.0, h.1)

tight_from : (k : ℤ) (f : Family) (g : Game) (x : Allocation) (b : ℕ × ℤ) → IsTight f g (times k x) b
    → IsTightOver k f g x b
tight_from k f g x b h = (sym (share_times k x b.0) ∙ h.0, h.1)

pub weighs_alike : (ls ms : List Level) → Alike ls ms → (b : ℕ × ℤ) → BoundWeighs ls b → BoundWeighs ms b
weighs_alike ls ms h b w = elim w [
  | inl one ↦ inl one
  | inr earlier ↦ inr (subst IsTrue (bound_alike ls ms h b.0) earlier)
]

balanced_alike : (g : Game) (l m : Level) → m.coalitions ≡ l.coalitions → m.earlier ≡ l.earlier
    → m.bounds ≡ l.bounds → m.total ≡ l.total → IsBalanced g l → IsBalanced g m
balanced_alike g l m c e b t h = λ i lt. rw (c, e, b, t) (h i lt)

level_to : (k : ℤ) (mode : Mode) (f : Family) (measure : Measure) (g : Game) (x : Allocation) (ls ms : List Level)
    (l m : Level) → Alike ls ms → IsLevelOver k l m → LevelHoldsOver k mode f measure g x ls l
    → LevelHolds mode f measure g (times k x) ms m
level_to k mode f measure g x ls ms l m a o h = record {
  excesses =
      subst (AllByRecursion (λ c. HasExcess measure g (times k x) m c.0)) (sym o.coalitions)
      (all_weaken (λ c. HasExcessOver k measure g x l c.0) (λ c. HasExcess measure g (times k x) m c.0) l.coalitions
      (λ c. excess_to k measure g x l m o c.0) h.excesses);
  weights = subst (AllByRecursion (λ c. pos 1 ≤ℤ c.1)) (sym o.coalitions) h.weights;
  bound_weights =
      subst (AllByRecursion (BoundWeighs ms)) (sym o.bounds)
      (all_weaken (BoundWeighs ls) (BoundWeighs ms) l.bounds (weighs_alike ls ms a) h.bound_weights);
  balanced = balanced_alike g l m o.coalitions o.earlier o.bounds o.total h.balanced;
  tight =
      subst (AllByRecursion (IsTight f g (times k x))) (sym o.bounds)
      (all_weaken (IsTightOver k f g x) (IsTight f g (times k x)) l.bounds (tight_to k f g x) h.tight);
  outside = λ s lt out. at_most_to k measure g x l m o s
      (h.outside s lt (outside_alike mode g.players ms ls (Alike-turned ls ms a) s out));
}

level_from : (k : ℤ) (mode : Mode) (f : Family) (measure : Measure) (g : Game) (x : Allocation) (ls ms : List Level)
    (l m : Level) → Alike ls ms → IsLevelOver k l m → LevelHolds mode f measure g (times k x) ms m
    → LevelHoldsOver k mode f measure g x ls l
level_from k mode f measure g x ls ms l m a o h = record {
  excesses =
      subst (AllByRecursion (λ c. HasExcessOver k measure g x l c.0)) o.coalitions
      (all_weaken (λ c. HasExcess measure g (times k x) m c.0) (λ c. HasExcessOver k measure g x l c.0) m.coalitions
      (λ c. excess_from k measure g x l m o c.0) h.excesses);
  weights = subst (AllByRecursion (λ c. pos 1 ≤ℤ c.1)) o.coalitions h.weights;
  bound_weights =
      subst (AllByRecursion (BoundWeighs ls)) o.bounds
      (all_weaken (BoundWeighs ms) (BoundWeighs ls) m.bounds (weighs_alike ms ls (Alike-turned ls ms a))
      h.bound_weights);
  balanced = balanced_alike g m l (sym o.coalitions) (sym o.earlier) (sym o.bounds) (sym o.total) h.balanced;
  tight =
      subst (AllByRecursion (IsTightOver k f g x)) o.bounds
      (all_weaken (IsTight f g (times k x)) (IsTightOver k f g x) m.bounds (tight_from k f g x) h.tight);
  outside =
      λ s lt out. at_most_from k measure g x l m o s (h.outside s lt (outside_alike mode g.players ls ms a s out));
}

-- ---- all levels

levels_to : (k : ℤ) (mode : Mode) (f : Family) (measure : Measure) (g : Game) (x : Allocation)
    (fronts fronts' ls ms : List Level) → Alike fronts fronts' → AreLevelsOver k ls ms
    → LevelsHoldOver k mode f measure g x fronts ls → LevelsHold mode f measure g (times k x) fronts' ms
levels_to k mode f measure g x p q [] [] a o h = fixed_alike mode g.players p q a h
levels_to k mode f measure g x p q [] (m ∷ ms) a o h = absurd o
levels_to k mode f measure g x p q (l ∷ ls) [] a o h = absurd o
levels_to k mode f measure g x p q (l ∷ ls) (m ∷ ms) a o h = (
  level_to k mode f measure g x p q l m a o.0 h.0,
  levels_to k mode f measure g x (p ++ l ∷ []) (q ++ m ∷ []) ls ms (joined p q l m a o.0.coalitions o.0.bounds)
      o.1 h.1,
)

levels_from : (k : ℤ) (mode : Mode) (f : Family) (measure : Measure) (g : Game) (x : Allocation)
    (fronts fronts' ls ms : List Level) → Alike fronts fronts' → AreLevelsOver k ls ms
    → LevelsHold mode f measure g (times k x) fronts' ms → LevelsHoldOver k mode f measure g x fronts ls
levels_from k mode f measure g x p q [] [] a o h = fixed_alike mode g.players q p (Alike-turned p q a) h
levels_from k mode f measure g x p q [] (m ∷ ms) a o h = absurd o
levels_from k mode f measure g x p q (l ∷ ls) [] a o h = absurd o
levels_from k mode f measure g x p q (l ∷ ls) (m ∷ ms) a o h = (
  level_from k mode f measure g x p q l m a o.0 h.0,
  levels_from k mode f measure g x (p ++ l ∷ []) (q ++ m ∷ []) ls ms
      (joined p q l m a o.0.coalitions o.0.bounds) o.1 h.1,
)

pub certifies_to : (k : ℤ) (mode : Mode) (f : Family) (measure : Measure) (g : Game) (x : Allocation)
    (ls ms : List Level) → AreLevelsOver k ls ms → CertifiesOver k mode f measure g x ls
    → Certifies mode f measure g (times k x) ms
certifies_to k mode f measure g x ls ms o h =
    (family_to k f g x h.0, levels_to k mode f measure g x [] [] ls ms tt o h.1)

pub certifies_from : (k : ℤ) (mode : Mode) (f : Family) (measure : Measure) (g : Game) (x : Allocation)
    (ls ms : List Level) → AreLevelsOver k ls ms → Certifies mode f measure g (times k x) ms
    → CertifiesOver k mode f measure g x ls
certifies_from k mode f measure g x ls ms o h =
    (family_from k f g x h.0, levels_from k mode f measure g x [] [] ls ms tt o h.1)
