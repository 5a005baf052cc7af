use Rattle.std.proofs.Common.{ℕ, ◌^◌, ◌<◌, ◌≤◌, ℤ, pos, ◌*ℤ◌, unsigned_abs, to_z, of_z}
use Rattle.std.proofs.Common.{FitsSigned, ap, ◌∙◌, arith}
use Rattle.std.proofs.lemmas.Int.{ints, fits_signed_from_abs, to_z_pos}
use mir.Syntax.{w64, w128}
use Rattle.definitions.proofs.Casts.{cast_kept}
use Rattle.shapley.proofs.Sizes.{product_small, weighted_value}
use Rattle.shapley.proofs.totals.weighted.Goals as goal

count_fits : (w : ℕ) → w ≤ 1307674368000 → FitsSigned w128 (pos w)
count_fits w h = fits_signed_from_abs w128 (pos w) (omega (arith, ints))

product_fits : (w : ℕ) (v : ℤ) → w ≤ 1307674368000 → unsigned_abs v < 2 ^ 46
    → FitsSigned w128 (to_z w128 w *ℤ to_z w128 (of_z w128 (to_z w64 (of_z w64 v))))
product_fits w v h k =
    let p = product_small w v h k in
    rw (cast_kept w64 v (omega arith), cast_kept w128 v (omega arith), to_z_pos w128 w (omega arith))
    (fits_signed_from_abs w128 (pos w *ℤ v) (omega arith))

pub overflow_cast-result : goal.overflow_cast-result
overflow_cast-result c = count_fits c.orders_with.result c.orders_with.ensures.small

pub overflow_mul-result : goal.overflow_mul-result
overflow_mul-result c = product_fits c.orders_with.result c.args.worth c.orders_with.ensures.small c.requires.small

pub returns-clause-value : goal.returns-clause-value
returns-clause-value c =
    weighted_value c.orders_with.result c.args.worth c.orders_with.ensures.small c.requires.small
    ∙ ap (λ (w : ℕ). pos w *ℤ c.args.worth) c.orders_with.ensures.value

pub returns-clause-small : goal.returns-clause-small
returns-clause-small c =
    rw (weighted_value c.orders_with.result c.args.worth c.orders_with.ensures.small c.requires.small)
    (product_small c.orders_with.result c.args.worth c.orders_with.ensures.small c.requires.small)
