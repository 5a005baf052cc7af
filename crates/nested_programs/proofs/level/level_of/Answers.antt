use Rattle.std.proofs.Common.{◌≡◌, ℕ, ◌+◌, ◌*◌, length, get_or, ℤ, pos, to_z, of_z}
use Rattle.std.proofs.Common.{ap, ◌∙◌, arith}
use Rattle.std.proofs.lemmas.Int.{ints}
use mir.Syntax.{w128}
use Rattle.fractions.specs.Fraction.{Fraction, IsRatio}
use Rattle.nested_programs.specs.Numbers.{first_single}
use Rattle.separation.proofs.Counts.{earlier_few}
use Rattle.nested_programs.proofs.level.level_of.Goals as goal
use Rattle.definitions.proofs.Casts.{cast_kept}

pub overflow_mul-first : goal.overflow_mul-first
overflow_mul-first c =
    let few = earlier_few 0 c.args.front.now c.requires.small in
    omega arith

pub overflow_add-first : goal.overflow_add-first
overflow_add-first c =
    let few = earlier_few 0 c.args.front.now c.requires.small in
    omega arith

pub overflow_add-first-2 : goal.overflow_add-first-2
overflow_add-first-2 c =
    let few = earlier_few 0 c.args.front.now c.requires.small in
    omega arith

pub bound_numbers-requires-clause-small : goal.bound_numbers-requires-clause-small
bound_numbers-requires-clause-small c =
    let few = earlier_few 0 c.args.front.now c.requires.small in
    omega arith

same_ratio : (f : Fraction) (a a' b b' : ℤ) → a ≡ a' → b ≡ b' → IsRatio f a b → IsRatio f a' b'
same_ratio f a a' b b' e h r = rw e at (rw h at r)

pub returns-clause-level : goal.returns-clause-level
returns-clause-level c =
    let front = c.args.front.now in
    let ws = c.as_slice-weights.result.now in
    let same = c.as_slice-weights.ensures.value in
    let first : 2 + 2 * c.coalition_count.result ≡ first_single front =
    ap (λ (k : ℕ). 2 + 2 * k) c.coalition_count.ensures.value in
    let past : 2 + 2 * c.coalition_count.result + 2 * c.from.result ≡ first_single front + (c.args.n + c.args.n) =
    omega arith in
    let best = c.args.best.now.multipliers in
    let place = c.args.n + length front in
    let optimum =
    cast_kept w128 (get_or best.num.items place (pos 0)) (omega (arith, ints, best.num_small place)) in
    let read : get_or c.deref.result.now place (pos 0) ≡ get_or best.num.items place (pos 0) =
    ap (λ us. get_or us place (pos 0)) c.deref.ensures.0 in
    let den = cast_kept w128 best.den (omega (arith, ints, best.den_small)) in
    record {
      excess =
          same_ratio c.ratio.result _ _ _ _ (ap (λ z. to_z w128 (of_z w128 z)) read ∙ optimum) den c.ratio.ensures;
      coalitions = cc (c.in_ok-outer_numbers.ensures {u = tt});
      earlier = cc (c.in_ok-earlier_numbers.ensures {u = tt});
      bounds = cc (c.in_ok-bound_numbers.ensures {u = tt});
      total =
          cc (cast_kept w128 c.net_of.result (omega (arith, ints, c.net_of.ensures.small)), c.net_of.ensures.value);
    }
