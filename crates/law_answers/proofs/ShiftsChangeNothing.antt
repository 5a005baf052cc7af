-- A game and the game moved by a number of each player agree: every excess stays as it is, and every allocation is
-- a moved one.
use Rattle.std.proofs.Common.{◌≡◌, ℕ, ◌<◌, List, length, map, get_or, ℤ, pos, ◌+ℤ◌, ◌-ℤ◌, ◌*ℤ◌, sym, ap, subst, ◌∙◌}
use Rattle.std.proofs.Common.{arith}
use Rattle.std.specs.List.{range_with_len}
use Rattle.std.proofs.lemmas.List.{same_lists, get_or_default}
use Rattle.std.proofs.lemmas.List.FromFn.{get_or-map-range_with_len, length-map-range_with_len}
use Rattle.definitions.proofs.Ring.{linear, ring_laws, mul-addℤ}
use Rattle.definitions.proofs.Families.{allocation_of}
use Rattle.definitions.proofs.Members.{sum_over-singleton}
use Rattle.definitions.proofs.SumsOver.{sum_over-same, sum_over-add, sum_over-times}
use Rattle.definitions.proofs.Alls.{map_same}
use Rattle.definitions.specs.Coalitions.{singleton, grand_coalition, proper_coalitions, sum_over}
use Rattle.definitions.specs.Measures.{measured}
use Rattle.definitions.specs.Games.{Game, Allocation, share, amount, excess, measured_excess, excess_list, IsAllocation}
use Rattle.definitions.specs.Games.{IsEfficient, IsIndividuallyRational, InFamily, Beats, IsSame, IsNucleolus, Blocks}
use Rattle.definitions.specs.Games.{InCore}
use Rattle.definitions.specs.Order.{sorted, ComesBefore}
use Rattle.definitions.specs.declared.Family.{Family}
use Rattle.definitions.specs.declared.Family.TheVariants.{Imputations, Preimputations}
use Rattle.definitions.specs.declared.Measure.{Measure}
use Rattle.law_answers.specs.StrategicEquivalence.{shifted_game, shifted, AreShiftedAlike}
use Rattle.theorems.proofs.Products.{products}

-- ---- shares and excesses

abbrev more : (ℕ → ℤ) → Allocation → ℕ → ℤ
more b x i = share x i +ℤ x.den *ℤ b i

length-shifted : (b : ℕ → ℤ) (x : Allocation) → length (shifted b x).shares ≡ length x.shares
length-shifted b x = length-map-range_with_len (more b x) 0 (length x.shares)

share-shifted : (b : ℕ → ℤ) (x : Allocation) (i : ℕ) → i < length x.shares → share (shifted b x) i ≡ more b x i
share-shifted b x i lt = get_or-map-range_with_len (more b x) 0 (length x.shares) i i (pos 0) lt (omega arith)

pub share-at : (b : ℕ → ℤ) (g : Game) (x : Allocation) (i : ℕ) → IsAllocation g x → i < g.players
    → share (shifted b x) i ≡ more b x i
share-at b g x i h lt = share-shifted b x i (rw h.0 lt)

amount-shifted : (b : ℕ → ℤ) (g : Game) (x : Allocation) (s : ℕ) → IsAllocation g x
    → amount (shifted b x) s ≡ amount x s +ℤ x.den *ℤ sum_over g.players b s
amount-shifted b g x s h =
    let n = length x.shares in
    ap (λ (k : ℕ). sum_over k (share (shifted b x)) s) (length-shifted b x)
    ∙ sum_over-same n (share (shifted b x)) (more b x) s (share-shifted b x)
    ∙ sum_over-add n (share x) (λ i. x.den *ℤ b i) s
    ∙ ap (λ (z : ℤ). amount x s +ℤ z) (sum_over-times n b x.den s)
    ∙ ap (λ (k : ℕ). amount x s +ℤ x.den *ℤ sum_over k b s) h.0

excess-shifted : (b : ℕ → ℤ) (g : Game) (x : Allocation) (s : ℕ) → IsAllocation g x
    → excess (shifted_game b g) (shifted b x) s ≡ excess g x s
excess-shifted b g x s h = omega (products, amount-shifted b g x s h)

-- ---- families

allocation_to : (b : ℕ → ℤ) (g : Game) (x : Allocation) → IsAllocation g x
    → IsAllocation (shifted_game b g) (shifted b x)
allocation_to b g x h = (length-shifted b x ∙ h.0, h.1)

efficient_to : (b : ℕ → ℤ) (g : Game) (x : Allocation) → IsAllocation g x → IsEfficient g x
    → IsEfficient (shifted_game b g) (shifted b x)
efficient_to b g x h e = omega (arith, linear, excess-shifted b g x (grand_coalition g.players) h, e)

efficient_from : (b : ℕ → ℤ) (g : Game) (x : Allocation) → IsAllocation g x
    → IsEfficient (shifted_game b g) (shifted b x) → IsEfficient g x
efficient_from b g x h e = omega (arith, linear, excess-shifted b g x (grand_coalition g.players) h, e)

-- the worth alone rises as the share does
alone : (b : ℕ → ℤ) (g : Game) (x : Allocation) (i : ℕ) → i < g.players
    → x.den *ℤ (g.worth (singleton i) +ℤ sum_over g.players b (singleton i))
    ≡ x.den *ℤ g.worth (singleton i) +ℤ x.den *ℤ b i
alone b g x i lt =
    mul-addℤ x.den (g.worth (singleton i)) (sum_over g.players b (singleton i))
    ∙ ap (λ (z : ℤ). x.den *ℤ g.worth (singleton i) +ℤ x.den *ℤ z) (sum_over-singleton g.players i b lt)

rational_to : (b : ℕ → ℤ) (g : Game) (x : Allocation) → IsAllocation g x → IsIndividuallyRational g x
    → IsIndividuallyRational (shifted_game b g) (shifted b x)
rational_to b g x h r = λ i lt. omega (arith, linear, alone b g x i lt, share-at b g x i h lt, r i lt)

rational_from : (b : ℕ → ℤ) (g : Game) (x : Allocation) → IsAllocation g x
    → IsIndividuallyRational (shifted_game b g) (shifted b x) → IsIndividuallyRational g x
rational_from b g x h r = λ i lt. omega (arith, linear, alone b g x i lt, share-at b g x i h lt, r i lt)

family_to : (b : ℕ → ℤ) (f : Family) (g : Game) (x : Allocation) → InFamily f g x
    → InFamily f (shifted_game b g) (shifted b x)
family_to b Imputations g x h = (allocation_to b g x h.0, efficient_to b g x h.0 h.1, rational_to b g x h.0 h.2)
family_to b Preimputations g x h = (allocation_to b g x h.0, efficient_to b g x h.0 h.1)

family_from : (b : ℕ → ℤ) (f : Family) (g : Game) (x : Allocation) → IsAllocation g x
    → InFamily f (shifted_game b g) (shifted b x) → InFamily f g x
family_from b Imputations g x a h = (a, efficient_from b g x a h.1, rational_from b g x a h.2)
family_from b Preimputations g x a h = (a, efficient_from b g x a h.1)

-- ---- the same shares, and the order of excesses

-- both products rise by one product of three
both_rise : (b : ℕ → ℤ) (x y : Allocation) (i : ℕ)
    → more b x i *ℤ y.den -ℤ more b y i *ℤ x.den ≡ share x i *ℤ y.den -ℤ share y i *ℤ x.den
both_rise b x y i = omega (products, crossed x.den y.den (b i))
  where
    crossed : (p q z : ℤ) → (p *ℤ z) *ℤ q ≡ (q *ℤ z) *ℤ p
    crossed p q z = simp ring_laws

same_products : (b : ℕ → ℤ) (g : Game) (x y : Allocation) (i : ℕ) → IsAllocation g x → IsAllocation g y
    → i < g.players
    → share (shifted b x) i *ℤ y.den -ℤ share (shifted b y) i *ℤ x.den ≡ share x i *ℤ y.den -ℤ share y i *ℤ x.den
same_products b g x y i hx hy lt = rw (share-at b g x i hx lt, share-at b g y i hy lt) (both_rise b x y i)

same_to : (b : ℕ → ℤ) (g : Game) (x y : Allocation) → IsAllocation g x → IsAllocation g y → IsSame g x y
    → IsSame (shifted_game b g) (shifted b x) (shifted b y)
same_to b g x y hx hy h = λ i lt. omega (arith, linear, same_products b g x y i hx hy lt, h i lt)

same_from : (b : ℕ → ℤ) (g : Game) (x y : Allocation) → IsAllocation g x → IsAllocation g y
    → IsSame (shifted_game b g) (shifted b x) (shifted b y) → IsSame g x y
same_from b g x y hx hy h = λ i lt. omega (arith, linear, same_products b g x y i hx hy lt, h i lt)

lists_same : (b : ℕ → ℤ) (measure : Measure) (g : Game) (x : Allocation) (c : ℤ) → IsAllocation g x
    → excess_list measure (shifted_game b g) (shifted b x) c ≡ excess_list measure g x c
lists_same b measure g x c h =
    map_same (λ s. c *ℤ measured_excess measure (shifted_game b g) (shifted b x) s)
    (λ s. c *ℤ measured_excess measure g x s) (proper_coalitions g.players)
    (λ s. ap (λ (z : ℤ). c *ℤ measured measure s z) (excess-shifted b g x s h))

beats_to : (b : ℕ → ℤ) (measure : Measure) (g : Game) (x y : Allocation) → IsAllocation g x → IsAllocation g y
    → Beats measure g x y → Beats measure (shifted_game b g) (shifted b x) (shifted b y)
beats_to b measure g x y hx hy h =
    subst
    (λ (zs : List ℤ). ComesBefore (sorted zs)
    (sorted (excess_list measure (shifted_game b g) (shifted b y) x.den)))
    (sym (lists_same b measure g x y.den hx))
    (subst (λ (zs : List ℤ). ComesBefore (sorted (excess_list measure g x y.den)) (sorted zs))
    (sym (lists_same b measure g y x.den hy)) h)

beats_from : (b : ℕ → ℤ) (measure : Measure) (g : Game) (x y : Allocation) → IsAllocation g x → IsAllocation g y
    → Beats measure (shifted_game b g) (shifted b x) (shifted b y) → Beats measure g x y
beats_from b measure g x y hx hy h =
    subst (λ (zs : List ℤ). ComesBefore (sorted zs) (sorted (excess_list measure g y x.den)))
    (lists_same b measure g x y.den hx)
    (subst
    (λ (zs : List ℤ). ComesBefore (sorted (excess_list measure (shifted_game b g) (shifted b x) y.den))
    (sorted zs)) (lists_same b measure g y x.den hy) h)

-- ---- every allocation is a moved one

abbrev less : (ℕ → ℤ) → Allocation → ℕ → ℤ
less b y i = share y i -ℤ y.den *ℤ b i

-- the shares that the move takes to those of y
abbrev back : (ℕ → ℤ) → Allocation → Allocation
back b y = record { shares = map (less b y) (range_with_len 0 (length y.shares)); den = y.den }

length-back : (b : ℕ → ℤ) (y : Allocation) → length (back b y).shares ≡ length y.shares
length-back b y = length-map-range_with_len (less b y) 0 (length y.shares)

shifted-back : (b : ℕ → ℤ) (y : Allocation) → shifted b (back b y) ≡ y
shifted-back b y =
    ap (λ (zs : List ℤ). the_shares zs)
    (same_lists (shifted b (back b y)).shares y.shares (length-shifted b (back b y) ∙ length-back b y)
    (λ k d lt. there k d (rw (length-shifted b (back b y)) at lt)))
  where
    the_shares : List ℤ → Allocation
    the_shares zs = record { shares = zs; den = y.den }

    there : (k : ℕ) (d : ℤ) → k < length (back b y).shares
        → get_or (shifted b (back b y)).shares k d ≡ get_or y.shares k d
    there k d lt =
        let within : k < length y.shares = rw (length-back b y) at lt in
        get_or-map-range_with_len (more b (back b y)) 0 (length (back b y).shares) k k d lt (omega arith)
        ∙ omega
        (arith, linear, get_or-map-range_with_len (less b y) 0 (length y.shares) k k (pos 0) within (omega arith))
        ∙ get_or_default y.shares k (pos 0) d within

-- ---- the nucleolus

nucleolus_to : (b : ℕ → ℤ) (f : Family) (measure : Measure) (g : Game) (x : Allocation) → IsNucleolus f measure g x
    → IsNucleolus f measure (shifted_game b g) (shifted b x)
nucleolus_to b f measure g x n = (
  family_to b f g x n.0,
  λ y h differs. subst (Beats measure (shifted_game b g) (shifted b x)) (shifted-back b y) (first y h differs),
)
  where
    ax : IsAllocation g x
    ax = allocation_of f g x n.0

    first : (y : Allocation) → InFamily f (shifted_game b g) y → ¬ IsSame (shifted_game b g) (shifted b x) y
        → Beats measure (shifted_game b g) (shifted b x) (shifted b (back b y))
    first y h differs =
        let a = allocation_of f (shifted_game b g) y h in
        let ay : IsAllocation g (back b y) = (length-back b y ∙ a.0, a.1) in
        let moved : InFamily f (shifted_game b g) (shifted b (back b y)) =
        subst (InFamily f (shifted_game b g)) (sym (shifted-back b y)) h in
        beats_to b measure g x (back b y) ax ay
        (n.1 (back b y) (family_from b f g (back b y) ay moved)
        (λ same. differs
        (subst (IsSame (shifted_game b g) (shifted b x)) (shifted-back b y)
        (same_to b g x (back b y) ax ay same))))

nucleolus_from : (b : ℕ → ℤ) (f : Family) (measure : Measure) (g : Game) (x : Allocation) → IsAllocation g x
    → IsNucleolus f measure (shifted_game b g) (shifted b x) → IsNucleolus f measure g x
nucleolus_from b f measure g x ax n = (
  family_from b f g x ax n.0,
  λ y h differs.
      let ay = allocation_of f g y h in
      beats_from b measure g x y ax ay
      (n.1 (shifted b y) (family_to b f g y h) (λ same. differs (same_from b g x y ax ay same))),
)

-- ---- the core

blocks_to : (b : ℕ → ℤ) (g : Game) (x : Allocation) (s : ℕ) → IsAllocation g x → Blocks g x s
    → Blocks (shifted_game b g) (shifted b x) s
blocks_to b g x s h k = omega (arith, linear, excess-shifted b g x s h, k)

blocks_from : (b : ℕ → ℤ) (g : Game) (x : Allocation) (s : ℕ) → IsAllocation g x
    → Blocks (shifted_game b g) (shifted b x) s → Blocks g x s
blocks_from b g x s h k = omega (arith, linear, excess-shifted b g x s h, k)

core_to : (b : ℕ → ℤ) (g : Game) (x : Allocation) → InCore g x → InCore (shifted_game b g) (shifted b x)
core_to b g x h =
    (allocation_to b g x h.0, efficient_to b g x h.0 h.1, λ s lt k. h.2 s lt (blocks_from b g x s h.0 k))

core_from : (b : ℕ → ℤ) (g : Game) (x : Allocation) → IsAllocation g x → InCore (shifted_game b g) (shifted b x)
    → InCore g x
core_from b g x a h = (a, efficient_from b g x a h.1, λ s lt k. h.2 s lt (blocks_to b g x s a k))

pub shifted_alike : (b : ℕ → ℤ) (g : Game) (x : Allocation) → IsAllocation g x → AreShiftedAlike b g x
shifted_alike b g x h = record {
  excess = λ s. excess-shifted b g x s h;
  family = λ f. (family_to b f g x, family_from b f g x h);
  same = λ y hy. (same_to b g x y h hy, same_from b g x y h hy);
  beats = λ measure y hy. (beats_to b measure g x y h hy, beats_from b measure g x y h hy);
  nucleolus = λ f measure. (nucleolus_to b f measure g x, nucleolus_from b f measure g x h);
  blocks = λ s. (blocks_to b g x s h, blocks_from b g x s h);
  core = (core_to b g x, core_from b g x h);
}
