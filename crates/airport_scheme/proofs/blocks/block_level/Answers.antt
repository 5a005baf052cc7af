use Rattle.std.proofs.Common.{◌≡◌, ◌-◌, ◌^◌, ◌<◌, ◌≤◌, length, get_or, unsigned_abs, ℤ, pos}
use Rattle.std.proofs.Common.{neg_ℤ, ◌-ℤ◌, ◌*ℤ◌}
use Rattle.std.proofs.Common.{to_z, of_z, nat_lt, arith, ℕ, List, [], ◌∷◌, negsuc, sym}
use Rattle.std.proofs.Common.{ap, ◌∙◌, cond}
use Rattle.std.proofs.lemmas.Int.{ints, fits_signed_from_abs, to_z_pos}
use mir.Syntax.{w128}
use Rattle.airport_scheme.specs.Scheme.{pay_at}
use Rattle.std.specs.List.{All}
use Rattle.airport_scheme.proofs.Sizes.{negated_small, negated_value}
use Rattle.airport_scheme.proofs.Solved.{until_rises, total_is}
use Rattle.airport_scheme.proofs.blocks.block_level.Goals as goal
use Rattle.airport_scheme.proofs.blocks.block_level.Goals.{then-k-len, else-k-len}
use Rattle.definitions.proofs.Casts.{cast_kept}
use Rattle.std.proofs.lemmas.List.{get_or_default}

read : (xs : List ℤ) (i : ℕ) (r : ℤ) → i < length xs → r ≡ get_or xs i r → r ≡ pay_at xs i
read xs i r lt e = e ∙ get_or_default xs i r (pos 0) lt

small_at : (xs : List ℤ) (i : ℕ) (r : ℤ) → i < length xs → All (λ z. unsigned_abs z < 2 ^ 104) xs
    → r ≡ get_or xs i r → unsigned_abs r < 2 ^ 104
small_at xs i r lt all e = let s = all i r lt in rw e s

pub overflow_sub-index : goal.overflow_sub-index
overflow_sub-index c =
    let small =
    small_at c.args.paid.now.pay.items c.args.i c.index.result.now
    (omega arith) c.requires.payment.small c.index.ensures in
    rw (cast_kept w128 c.index.result.now (omega arith))
    (fits_signed_from_abs w128 _ (negated_small c.index.result.now small))

less_one : (n : ℕ) → n ≤ 64 → to_z w128 (of_z w128 (to_z w128 n -ℤ pos 1)) ≡ pos n -ℤ pos 1
less_one n h = rw (to_z_pos w128 n (omega arith)) (cast_kept w128 (pos n -ℤ pos 1) (omega (arith, ints)))

excess_is : (r p d num den : ℤ) → r ≡ p → num *ℤ den ≡ neg_ℤ r *ℤ d → neg_ℤ p *ℤ d ≡ num *ℤ den
excess_is r p d num den e h = rw (← e) (sym h)

pub returns-clause-block : goal.returns-clause-block
returns-clause-block c =
    let lt : c.args.i < length c.args.paid.now.pay.items = omega arith in
    let small =
    small_at c.args.paid.now.pay.items c.args.i c.index.result.now lt c.requires.payment.small
    c.index.ensures in
    let same = read c.args.paid.now.pay.items c.args.i c.index.result.now lt c.index.ensures in
    let den = cast_kept w128 c.args.paid.now.den (omega (arith, ints)) in
    let ratio = rw (negated_value c.index.result.now small, den) at c.ratio-excess.ensures in
    let few : c.args.k - c.args.i ≤ 64 =
    omega arith in
    let count = to_z_pos w128 (c.args.k - c.args.i) (omega arith) in
    let fewer : to_z w128 (of_z w128 (to_z w128 (c.args.k - c.args.i) -ℤ pos 1))
    ≡ pos (c.args.k - c.args.i) -ℤ pos 1 = less_one (c.args.k - c.args.i) few in
    record {
      two = c.requires.two;
      some = c.requires.end.some;
      within = c.requires.end.within;
      same = c.requires.end.same;
      until = until_rises _ _ _ c.args.paid.now.den c.args.i c.args.k c.requires.payment.scheme c.requires.end;
      fraction = ratio.reduced.positive;
      excess =
          excess_is c.index.result.now (pay_at c.args.paid.now.pay.items c.args.i) c.ratio-excess.result.den
          c.ratio-excess.result.num c.args.paid.now.den same ratio.same;
      coalitions = c.in_ok-coalitions.ensures {u = tt};
      earlier =
          c.in_ok-earlier.ensures {u = tt}
          ∙ ap (λ (s : ℕ). cond (nat_lt 0 c.args.i) ((s, negsuc 0) ∷ []) []) c.requires.before;
      bounds = c.new.ensures.items;
      total = elim c.if-k-len.branch [
        | then-k-len w ↦ total_is (length c.args.game.now.costs) c.args.i c.args.k _ (λ lt. w.total-is ∙ count)
            (λ ge. absurd (omega arith))
        | else-k-len w ↦ total_is (length c.args.game.now.costs) c.args.i c.args.k _
            (λ lt. absurd (omega arith)) (λ ge. w.total-is ∙ fewer)
      ];
    }
