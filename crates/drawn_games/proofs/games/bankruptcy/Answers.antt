use Rattle.std.proofs.Common.{◌≡◌, ◌/◌, ◌^◌, ◌<◌, List, ℤ, pos, length, All}
use Rattle.std.proofs.Common.{unsigned_abs, to_z, w64, sym, ap, subst, ◌∙◌, arith}
use Rattle.std.specs.List.{sum_by}
use Rattle.std.proofs.lemmas.Int.{to_z_pos}
use Rattle.orders.specs.Numbers.{IsNumber}
use Rattle.drawn_games.proofs.Sizes.{long_count, long_costs, long_sizes, estate_fits, claims_kept}
use Rattle.drawn_games.proofs.games.bankruptcy.Goals as goal

pub total-estate-requires-clause-few : goal.total-estate-requires-clause-few
total-estate-requires-clause-few c =
    let count = long_count c.args.seed c.args.n c.in_ok-claims.claims.items c.in_ok-claims.ensures in
    let same = ap length c.deref.ensures.value in
    omega (arith, count, same, c.requires.few)

pub total-estate-requires-clause-small : goal.total-estate-requires-clause-small
total-estate-requires-clause-small c =
    subst (λ (zs : List ℤ). All (λ z. unsigned_abs z < 2 ^ 20) zs) (sym c.deref.ensures.value)
    (long_sizes c.args.seed c.args.n c.in_ok-claims.claims.items c.in_ok-claims.ensures)

pub unreachable-requires : goal.unreachable-requires
unreachable-requires c =
    let count = long_count c.args.seed c.args.n c.in_ok-claims.claims.items c.in_ok-claims.ensures in
    (rw c.in-Err-Players.field-0-is at c.in-Err-Players.ensures)
    (omega (arith, count, c.requires.some), omega (arith, count, c.requires.few))

pub unreachable-requires-in-Err-Number : goal.unreachable-requires-in-Err-Number
unreachable-requires-in-Err-Number c =
    let small = c.total-estate.ensures.small in
    let kept : to_z w64 (c.total-estate.result / 2) ≡ pos (c.total-estate.result / 2) =
    to_z_pos w64 (c.total-estate.result / 2) (omega (arith, small)) in
    (rw c.in-Err-Number.field-0-is at c.in-Err-Number.ensures).1 (
      subst IsNumber (sym kept) (estate_fits c.total-estate.result small),
      long_costs c.args.seed c.args.n c.in_ok-claims.claims.items c.in_ok-claims.ensures,
    )

pub returns-in-Ok : goal.returns-in-Ok
returns-in-Ok c =
    let small = c.total-estate.ensures.small in
    let kept : to_z w64 (c.total-estate.result / 2) ≡ pos (c.total-estate.result / 2) =
    to_z_pos w64 (c.total-estate.result / 2) (omega (arith, small)) in
    claims_kept c.args.seed c.args.n c.total-estate.result c.in-Ok.game c.in_ok-claims.claims.items
    c.in_ok-claims.ensures (c.total-estate.ensures.value ∙ ap (sum_by unsigned_abs) c.deref.ensures.value)
    (c.in-Ok.ensures.0 ∙ kept) c.in-Ok.ensures.1
