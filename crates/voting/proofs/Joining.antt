-- A candidate with one player more, in 128 bits, and layers that are written weight by weight.
use Rattle.std.proofs.Common.{◌≡◌, ℕ, ◌+◌, ◌-◌, ◌*◌, ◌^◌, ◌<◌, ◌≤◌}
use Rattle.std.proofs.Common.{cond, nat_le, List}
use Rattle.std.proofs.Common.{length, get_or, ℤ, pos, ◌+ℤ◌, Option, None, Some, IfSome, unsigned_abs}
use Rattle.std.proofs.Common.{to_z, of_z, refl, sym, ◌∙◌, inl, inr, arith, add-one}
use Rattle.std.proofs.lemmas.Int.{ints}
use Rattle.std.proofs.Math.ListN.{set}
use Rattle.std.proofs.lemmas.List.{get_or-set_same, get_or-set_other}
use Rattle.definitions.proofs.Cases.{same_or_other}
use Rattle.definitions.proofs.Casts.{cast_kept}
use Rattle.voting.specs.declared.candidate.Candidate.{Candidate}
use Rattle.voting.specs.declared.layer.Layer.{Layer}
use Rattle.voting.specs.Candidates.{better, joined, raised, at_weight, given_or, best_below}
use Rattle.voting.specs.Candidates.{IsSmallCandidate}
use Rattle.std.specs.Borrow.{Bor}
use Rattle.definitions.proofs.Masks.{masks-double}
use mir.Syntax.{w128}

-- ---- the sum

pub sum_kept : (m k : ℤ) (i : ℕ) → i < 32 → unsigned_abs m ≤ i * 2 ^ 110 → unsigned_abs k < 2 ^ 110
    → to_z w128 (of_z w128 (to_z w128 (of_z w128 m) +ℤ to_z w128 (of_z w128 k))) ≡ m +ℤ k
sum_kept m k i lt small number =
    rw (cast_kept w128 k (omega arith), cast_kept w128 m (omega arith))
    (cast_kept w128 (m +ℤ k) (omega (arith, ints)))

pub sum_small : (m k : ℤ) (i : ℕ) → unsigned_abs m ≤ i * 2 ^ 110 → unsigned_abs k < 2 ^ 110
    → unsigned_abs (m +ℤ k) ≤ (i + 1) * 2 ^ 110
sum_small m k i small number = omega (arith, ints)

pub joined_value : (c : Candidate) (i : ℕ) (number z : ℤ) (r : ℕ) → z ≡ c.sum +ℤ number → r ≡ c.coalition + 2 ^ i
    → Some (record { sum = z; coalition = r }) ≡ joined (Some c) i number
joined_value c i number z r e f = rw (e, f) refl

pub joined_small : (i a r : ℕ) (z m k : ℤ) → r ≡ a + 2 ^ i → z ≡ m +ℤ k → a < 2 ^ i → unsigned_abs m ≤ i * 2 ^ 110
    → unsigned_abs k < 2 ^ 110 → (r < 2 ^ (i + 1)) × (unsigned_abs z ≤ (i + 1) * 2 ^ 110)
joined_small i a r z m k e f low small number =
    rw (e, f) (let p = masks-double i in (omega arith, sum_small m k i small number))

-- ---- layers

pub small_more : (i : ℕ) (x : Option Candidate) → IfSome x (IsSmallCandidate i)
    → IfSome x (IsSmallCandidate (i + 1))
small_more i None h = tt
small_more i (Some c) h = let p = masks-double i in (omega arith, omega arith)

pub small_better : (i : ℕ) (x y : Option Candidate) → IfSome x (IsSmallCandidate i) → IfSome y (IsSmallCandidate i)
    → IfSome (better x y) (IsSmallCandidate i)
small_better i None y hx hy = hy
small_better i (Some c) None hx hy = hx
small_better i (Some c) (Some d) hx hy = grind arith

-- where two layers agree, so do those that are given in their place
pub given_or-same : (given : Option (Bor Layer)) (l k : Layer) (w : ℕ) → at_weight l w ≡ at_weight k w
    → at_weight (given_or given l) w ≡ at_weight (given_or given k) w
given_or-same None l k w e = e
given_or-same (Some x) l k w e = refl

pub best_below-none : (more : ℤ) (quota : ℕ) (l : Layer) → best_below more quota l 0 ≡ None
unfolding best_below
best_below-none more quota l = refl

pub best_below-more : (more : ℤ) (quota : ℕ) (l : Layer) (w : ℕ)
    → best_below more quota l (w + 1)
    ≡ better (best_below more quota l w) (raised (at_weight l w) (cond (nat_le quota w) more (pos 0)))
unfolding best_below
best_below-more more quota l w = rw (add-one w) refl

pub best_step : (more : ℤ) (quota w : ℕ) (l : Layer) (b p r : Option Candidate) → b ≡ best_below more quota l w
    → p ≡ raised (at_weight l w) (cond (nat_le quota w) more (pos 0)) → r ≡ better b p
    → r ≡ best_below more quota l (w + 1)
best_step more quota w l b p r e f g = g ∙ rw (f, e) (sym (best_below-more more quota l w))

-- ---- a layer written from the heaviest down

-- what is written at w, with what was written above it
pub written_down : (es : List (Option Candidate)) (f : ℕ → Option Candidate) (fewer w : ℕ) (x : Option Candidate)
    → length es ≡ 1001 → fewer < 1001 → w ≡ 1000 - fewer → x ≡ f w
    → ((v : ℕ) → v < 1001 → 1001 ≤ v + fewer → get_or es v None ≡ f v) → (v : ℕ) → v < 1001 → 1001 ≤ v + (fewer + 1)
    → get_or (set es w x) v None ≡ f v
written_down es f fewer w x full lt down e old v few le = elim (same_or_other v w) [
  | inl same ↦ rw same (get_or-set_same es w x None (omega arith) ∙ e)
  | inr other ↦ get_or-set_other es w v x None other ∙ old v few (omega arith)
]

-- what lies below w is as it was
pub kept_below : (es : List (Option Candidate)) (g : ℕ → Option Candidate) (fewer w : ℕ) (x : Option Candidate)
    → fewer < 1001 → w ≡ 1000 - fewer → ((v : ℕ) → v + fewer < 1001 → get_or es v None ≡ g v) → (v : ℕ)
    → v + (fewer + 1) < 1001 → get_or (set es w x) v None ≡ g v
kept_below es g fewer w x lt down old v less =
    get_or-set_other es w v x None (λ same. omega arith) ∙ old v (omega arith)

pub small_down : (es : List (Option Candidate)) (count fewer w : ℕ) (x : Option Candidate) → length es ≡ 1001
    → fewer < 1001 → w ≡ 1000 - fewer → IfSome x (IsSmallCandidate count)
    → ((v : ℕ) → v < 1001 → 1001 ≤ v + fewer → IfSome (get_or es v None) (IsSmallCandidate count)) → (v : ℕ)
    → v < 1001 → 1001 ≤ v + (fewer + 1) → IfSome (get_or (set es w x) v None) (IsSmallCandidate count)
small_down es count fewer w x full lt down small old v few le = elim (same_or_other v w) [
  | inl same ↦ rw same (rw (get_or-set_same es w x None (omega arith)) small)
  | inr other ↦ rw (get_or-set_other es w v x None other) (old v few (omega arith))
]
