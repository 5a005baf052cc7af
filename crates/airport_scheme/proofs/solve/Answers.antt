use Rattle.std.proofs.Common.{◌≡◌, length, to_z, of_z, arith}
use Rattle.std.proofs.lemmas.Int.{ints}
use mir.Syntax.{w128}
use Rattle.definitions.specs.Games.{IsShares}
use Rattle.definitions.specs.Certificates.{HasForm}
use Rattle.definitions.specs.declared.Mode.TheVariants.{Players}
use Rattle.airport_scheme.specs.Scheme.{pay_at}
use Rattle.worth_core.specs.Allocations.{allocation}
use Rattle.airport_scheme.proofs.Solved.{shares-fit, levels-formed, AreSchemeLevels-made, solved, InCore-made}
use Rattle.airport_scheme.proofs.solve.Goals as goal
use Rattle.definitions.proofs.Casts.{cast_kept}
use Rattle.definitions.proofs.Given.{is_some, is_ok}

pub unwrap-shares-requires : goal.unwrap-shares-requires
unwrap-shares-requires c =
    let payment = c.in_ok-paid.ensures.payment in
    let den : to_z w128 (of_z w128 c.in_ok-paid.paid.den) ≡ c.in_ok-paid.paid.den =
    cast_kept w128 c.in_ok-paid.paid.den (omega (arith, ints)) in
    let num = rw c.deref.ensures.value at (c.in_ok-num.ensures {u = tt}) in
    let new = rw den at c.new.ensures in
    is_some (IsShares (allocation c.in_ok-num.num.items c.in_ok-paid.paid.den)) _ c.new.result new
    (shares-fit c.args.game.now c.in_ok-paid.ensures.laws c.in_ok-paid.paid.pay.items c.in_ok-num.num.items
    c.in_ok-paid.paid.den payment num)

pub unwrap-certificate-requires : goal.unwrap-certificate-requires
unwrap-certificate-requires c =
    let a = c.args.game.now in
    let laws = c.in_ok-paid.ensures.laws in
    let levels = c.in_ok-levels.levels.items in
    let new = rw c.len.ensures.count at c.new-2.ensures in
    is_ok (HasForm Players (length a.costs) levels)
    (λ d. (d ≡ record { players = length a.costs; mode = Players; levels = levels })
    × HasForm Players (length a.costs) levels) c.new-2.result new
    (levels-formed a laws (pay_at c.in_ok-paid.paid.pay.items) c.in_ok-paid.paid.den levels
    (c.in_ok-levels.ensures.levels))

pub returns : goal.returns
returns c =
    let payment = c.in_ok-paid.ensures.payment in
    let den : to_z w128 (of_z w128 c.in_ok-paid.paid.den) ≡ c.in_ok-paid.paid.den =
    cast_kept w128 c.in_ok-paid.paid.den (omega (arith, ints)) in
    let num = rw c.deref.ensures.value at (c.in_ok-num.ensures {u = tt}) in
    let shares = rw (den, c.unwrap-shares.ensures) at c.new.ensures in
    let certificate = rw (c.len.ensures.count, c.unwrap-certificate.ensures) at c.new-2.ensures in
    let game = c.args.game.now in
    let laws = c.in_ok-paid.ensures.laws in
    let pay = c.in_ok-paid.paid.pay.items in
    let den_kept = c.in_ok-paid.paid.den in
    let levels = c.in_ok-levels.levels.items in
    record {
      solved = λ family. solved family game laws pay c.in_ok-num.num.items den_kept c.unwrap-shares.result levels
          c.unwrap-certificate.result payment num shares.0 (c.in_ok-levels.ensures.levels)
          c.in_ok-levels.ensures.lowest certificate.0;
      core = InCore-made game laws pay c.in_ok-num.num.items den_kept c.unwrap-shares.result payment num shares.0;
      levels = rw certificate.0
          (AreSchemeLevels-made game laws pay c.in_ok-num.num.items den_kept c.unwrap-shares.result levels payment num
          shares.0 (c.in_ok-levels.ensures.levels));
    }
