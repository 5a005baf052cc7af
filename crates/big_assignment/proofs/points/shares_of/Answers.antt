use Rattle.std.proofs.Common.{◌≡◌, ℕ, ◌^◌, ◌<◌, ◌≤◌, List, length, ℤ, pos, slice_index}
use Rattle.std.proofs.Common.{slice_index_or}
use Rattle.std.proofs.Common.{to_z, of_z, refl, ap, ◌∙◌, arith, rules}
use mir.Syntax.{w128}
use Rattle.std.proofs.lemmas.Result.{IfOk-from_err}
use Rattle.definitions.specs.Games.{IsShares}
use Rattle.definitions.proofs.Given.{is_some}
use Rattle.worth_core.specs.Allocations.{allocation}
use Rattle.big_assignment.specs.Mates.{payoff}
use Rattle.big_assignment.specs.Solutions.{IsWhole}
use Rattle.big_assignment.proofs.Arrays.{pushed_below, pushed_count}
use Rattle.big_assignment.proofs.points.shares_of.Goals as goal

-- small numbers are shares over 1
whole_shares : (n : ℕ) (num : List ℤ) (f : ℕ → ℕ) → 1 ≤ n → n ≤ 64 → length num ≡ n
    → ((j : ℕ) → j < n → slice_index_or num j (pos 0) ≡ pos (f j)) → ((j : ℕ) → j < n → f j ≤ 2 ^ 40)
    → IsShares (allocation num (pos 1))
whole_shares n num f some few count at small = record {
  some = omega arith;
  few = omega arith;
  positive = omega arith;
  common = omega arith;
  small = λ j lt.
      let below : j < n = omega arith in
      rw (at j below) (let fits : f j < 2 ^ 110 = omega (arith, small j below) in fits);
}

pub loop-k-preserved : goal.loop-k-preserved
loop-k-preserved c =
    let xs = c.loop-k.num.items in
    let inv = c.loop-k.invariant in
    let f = payoff c.args.rows (slice_index c.args.gains.now) (slice_index c.args.prices.now) in
    let pushed = c.in_ok-push.ensures.items in
    let kept : to_z w128 (of_z w128 c.from.result) ≡ c.from.result = search rules in (
      pushed_count xs c.push.new.self.items c.loop-k.k _ pushed inv.0,
      pushed_below (λ j z. z ≡ pos (f j)) (pos 0) xs c.push.new.self.items c.loop-k.k _ pushed inv.0 inv.1
          (kept ∙ c.from.ensures ∙ ap pos c.payoff_of.ensures),
    )

pub returns-in_err-push : goal.returns-in_err-push
returns-in_err-push c = IfOk-from_err c.from_residual.result _ c.from_residual.ensures.0

pub unwrap-requires : goal.unwrap-requires
unwrap-requires c =
    let f = payoff c.args.rows (slice_index c.args.gains.now) (slice_index c.args.prices.now) in
    is_some (IsShares (allocation c.loop-k.num.items (pos 1))) _ c.new.result c.new.ensures
    (whole_shares c.args.players c.loop-k.num.items f c.requires.some
    (omega arith)
    (omega arith)
    (λ j lt. c.loop-k.invariant.1 j (omega arith)) c.requires.small)

pub returns : goal.returns
returns c =
    let f = payoff c.args.rows (slice_index c.args.gains.now) (slice_index c.args.prices.now) in
    let new = rw c.unwrap.ensures at c.new.ensures in
    let whole : IsWhole c.args.players (allocation c.loop-k.num.items (pos 1)) 1 f = record {
      length_is = omega arith;
      den = refl;
      shares = λ j lt. c.loop-k.invariant.1 j (omega arith);
    } in
    rw new.0 whole
