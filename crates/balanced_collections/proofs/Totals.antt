-- One more coalition in a weighted sum of worths.
use Rattle.std.proofs.Common.{◌≡◌, ℕ, ◌+◌, ◌*◌, ◌^◌, ◌<◌, ◌≤◌, List, ◌∷◌, length}
use Rattle.std.proofs.Common.{drop, get_or, add-one, ℤ}
use Rattle.std.proofs.Common.{◌+ℤ◌, ◌*ℤ◌, unsigned_abs, to_z, of_z, ap, subst, ◌∙◌, arith}
use Rattle.std.proofs.Math.Seq.{drop-cons}
use Rattle.std.proofs.lemmas.Int.{ints}
use mir.Syntax.{w64, w128}
use Rattle.definitions.proofs.Casts.{cast_kept}
use Rattle.definitions.specs.Sums.{weighted_sum}

pub weighted_more : (f : ℕ → ℤ) (ps : List (ℕ × ℤ)) (j : ℕ) (d : ℕ × ℤ) → j < length ps
    → weighted_sum f (drop j ps) ≡ (get_or ps j d).1 *ℤ f (get_or ps j d).0 +ℤ weighted_sum f (drop (j + 1) ps)
weighted_more f ps j d lt = ap (weighted_sum f) split
  where
    split : drop j ps ≡ get_or ps j d ∷ drop (j + 1) ps
    split = rw add-one (drop-cons ps j d lt)

pub added : (s v n w r t : ℤ) (j : ℕ) → unsigned_abs s ≤ j * 2 ^ 110 → j < 64 → unsigned_abs v < 2 ^ 110
    → s +ℤ n ≡ t → n ≡ w +ℤ r → v ≡ w
    → (to_z w128 (of_z w128 (s +ℤ to_z w128 (of_z w128 v))) +ℤ r ≡ t)
    × (unsigned_abs (to_z w128 (of_z w128 (s +ℤ to_z w128 (of_z w128 v)))) ≤ (j + 1) * 2 ^ 110)
added s v n w r t j few most small sum split same =
    let whole : to_z w128 (of_z w128 v) ≡ v = cast_kept w128 v (omega (arith, small)) in
    let kept : to_z w128 (of_z w128 (s +ℤ v)) ≡ s +ℤ v = cast_kept w128 (s +ℤ v) (omega (arith, ints)) in
    rw (whole, kept) (omega (arith, ints), omega (arith, ints))

pub term : (f : ℕ → ℤ) (ps : List (ℕ × ℤ)) (j : ℕ) (p : ℕ × ℤ) (r v : ℤ) → p ≡ get_or ps j p
    → unsigned_abs p.1 < 2 ^ 62 → v ≡ f p.0 → unsigned_abs v < 2 ^ 46
    → r ≡ to_z w128 (of_z w128 p.1) *ℤ to_z w64 (of_z w64 v) → r ≡ (get_or ps j p).1 *ℤ f (get_or ps j p).0
term f ps j p r v here weight worth small value =
    let a : to_z w128 (of_z w128 p.1) ≡ p.1 = cast_kept w128 p.1 (omega (arith, weight)) in
    let b : to_z w64 (of_z w64 v) ≡ v = cast_kept w64 v (omega (arith, small)) in
    subst (λ (q : ℕ × ℤ). r ≡ q.1 *ℤ f q.0) here
    (value ∙ ap (λ (z : ℤ). z *ℤ to_z w64 (of_z w64 v)) a ∙ ap (λ (z : ℤ). p.1 *ℤ z) (b ∙ worth))
