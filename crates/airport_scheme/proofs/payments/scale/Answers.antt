use Rattle.std.proofs.Common.{◌≡◌, ℕ, ◌+◌, ◌^◌, ◌<◌, ◌≤◌, ℤ, List, length, get_or}
use Rattle.std.proofs.Common.{set, pos, ◌*ℤ◌}
use Rattle.std.proofs.Common.{unsigned_abs, to_z, of_z, ap, ◌∙◌, inl, inr, arith}
use Rattle.std.proofs.lemmas.List.{get_or-set_same, get_or-set_other}
use mir.Syntax.{w128}
use Rattle.definitions.proofs.Cases.{same_or_other}
use Rattle.definitions.proofs.Casts.{cast_kept}
use Rattle.airport_scheme.proofs.payments.scale.Goals as goal

-- one payment more is scaled
scaled_next : (xs old : List ℤ) (i : ℕ) (size z : ℤ) → i < length xs → unsigned_abs z < 2 ^ 119
    → ((k : ℕ) → k < i → get_or xs k (pos 0) ≡ get_or old k (pos 0) *ℤ size)
    × ((k : ℕ) → i ≤ k → get_or xs k (pos 0) ≡ get_or old k (pos 0)) → z ≡ get_or xs i (pos 0) *ℤ size
    → ((k : ℕ) → k < i + 1 → get_or (set xs i (to_z w128 (of_z w128 z))) k (pos 0) ≡ get_or old k (pos 0) *ℤ size)
    × ((k : ℕ) → i + 1 ≤ k → get_or (set xs i (to_z w128 (of_z w128 z))) k (pos 0) ≡ get_or old k (pos 0))
scaled_next xs old i size z lt small before here =
    let kept : to_z w128 (of_z w128 z) ≡ z = cast_kept w128 z (omega arith) in
    rw kept (
      λ k h. elim (same_or_other k i) [
        | inl same ↦ rw same
            (get_or-set_same xs i z (pos 0) lt ∙ here ∙ ap (λ a. a *ℤ size) (before.1 i (omega arith)))
        | inr other ↦ get_or-set_other xs i k z (pos 0) other ∙ before.0 k (omega arith)
      ],
      λ k h. get_or-set_other xs i k z (pos 0) (λ same. omega arith) ∙ before.1 k (omega arith),
    )

pub times-requires : goal.times-requires
times-requires c =
    let i = c.loop-k.k in
    let same = c.loop-k.invariant.1 i (omega arith) in
    let small = c.requires.small i (pos 0) c.loop-k-test.true in
    let left = cast_kept w128 (get_or c.loop-k.pay i (pos 0)) (rw same (omega arith)) in
    let right = cast_kept w128 c.args.size (omega arith) in
    rw (left, right, same) (record { left = omega arith; right = c.requires.size })

pub loop-k-preserved : goal.loop-k-preserved
loop-k-preserved c =
    let i = c.loop-k.k in
    let same = c.loop-k.invariant.1 i (omega arith) in
    let left =
    cast_kept w128 (get_or c.loop-k.pay i (pos 0))
    (rw same (omega (arith, c.requires.small i (pos 0) c.loop-k-test.true))) in
    scaled_next c.loop-k.pay c.args.pay.now i (to_z w128 (of_z w128 c.args.size)) c.times.result
    (omega arith) c.times.ensures.small c.loop-k.invariant
    (rw left at c.times.ensures.value)

pub returns : goal.returns
returns c = λ k lt.
    let size = cast_kept w128 c.args.size (omega arith) in
    rw size at (c.loop-k.invariant.0 k (omega arith))
