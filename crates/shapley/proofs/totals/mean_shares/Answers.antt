use Rattle.std.proofs.Common.{◌≡◌, ◌≤◌, length, pos, arith}
use Rattle.definitions.specs.Games.{IsShares}
use Rattle.definitions.specs.Shapley.{factorial}
use Rattle.worth_core.specs.Allocations.{allocation}
use Rattle.shapley.proofs.Sizes.{den_is}
use Rattle.definitions.proofs.Given.{is_some}
use Rattle.shapley.proofs.Sums.{totals_fit}
use Rattle.shapley.proofs.totals.mean_shares.Goals as goal

pub unwrap-requires : goal.unwrap-requires
unwrap-requires g c =
    let n = c.players.result in
    let count = c.players.ensures.count in
    let few : n ≤ 16 = omega (arith, c.requires, count) in
    let long : length c.in_ok-totals.totals.items ≡ n = omega (arith, c.in_ok-totals.ensures.long, count) in
    let some = c.players.ensures.laws.some in
    let den = den_is n c.factorial.result few c.factorial.ensures.value in
    let fit =
    totals_fit n c.in_ok-totals.totals.items (omega (arith, some, count)) few long
    c.in_ok-totals.ensures.small in
    is_some (IsShares (allocation c.in_ok-totals.totals.items (pos (factorial n)))) _ c.new.result
    (rw den.0 at c.new.ensures) fit
