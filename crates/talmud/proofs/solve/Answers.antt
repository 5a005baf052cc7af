use Rattle.std.proofs.Common.{◌≡◌, ◌*◌, ◌^◌, ◌<◌, ℕ, length, map, ℤ, pos, unsigned_abs}
use Rattle.std.proofs.Common.{to_z, of_z, arith, ap, ◌∙◌}
use Rattle.kohlberg.proofs.Kept.{kept}
use mir.Syntax.{w64, w128}
use Rattle.definitions.specs.Games.{IsShares}
use Rattle.definitions.specs.Certificates.{HasForm}
use Rattle.definitions.specs.declared.Mode.TheVariants.{Players}
use Rattle.worth_core.specs.Allocations.{allocation}
use Rattle.orders.specs.Ordered.{place}
use Rattle.talmud.specs.Division.{award, is_gain}
use Rattle.talmud.proofs.Cuts.{all-cut_low, cut-enough}
use Rattle.talmud.proofs.Awarded.{IsShares-awards, IsTalmud-rule}
use Rattle.talmud.proofs.Chains.{InCore-rule}
use Rattle.talmud.proofs.Solved.{made, levels-formed, solved, AreRuleLevels-made}
use Rattle.talmud.proofs.solve.Goals as goal
use Rattle.definitions.proofs.Casts.{cast_kept}
use Rattle.definitions.proofs.Given.{is_some, is_ok}

cast_back : (z : ℤ) (e : ℕ) → z ≡ pos e → e < 2 ^ 40 → unsigned_abs (to_z w64 (of_z w64 z)) ≡ e
cast_back z e same h = rw same (ap unsigned_abs (cast_kept w64 (pos e) (omega arith)))

pub new-division-requires-clause-cut : goal.new-division-requires-clause-cut
new-division-requires-clause-cut c =
    let b = c.args.game.now in
    rw (cast_back c.estate.result b.estate c.estate.ensures.value c.estate.ensures.laws.estate_small)
    (all-cut_low b.estate b.claims c.in_ok-claims.claims.numbers c.in_ok-claims.ensures.cuts)

pub new-division-requires-clause-enough : goal.new-division-requires-clause-enough
new-division-requires-clause-enough c =
    let b = c.args.game.now in
    rw (cast_back c.estate.result b.estate c.estate.ensures.value c.estate.ensures.laws.estate_small)
    (cut-enough b c.estate.ensures.laws c.in_ok-claims.claims.numbers c.in_ok-claims.ensures.cuts)

pub unwrap-shares-requires : goal.unwrap-shares-requires
unwrap-shares-requires c =
    let d = c.new-division.result in
    let gain = is_gain d.side in
    let ordered = c.in_ok-claims.ensures.ordered in
    let den : to_z w128 (of_z w128 c.den.result) ≡ pos (2 * d.half_den) =
    kept c.den.result c.den.type_inv ∙ c.den.ensures in
    let new = rw (den, c.in_ok-num.ensures {u = tt}) at c.new-2.ensures in
    is_some
    (IsShares
    (allocation (map (λ e. pos (award gain d.half_den d.bound e)) c.in_ok-claims.claims.numbers)
    (pos (2 * d.half_den)))) _ c.new-2.result new
    (IsShares-awards c.in_ok-claims.claims gain d.half_den d.bound ordered d.some d.few)

pub unwrap-certificate-requires : goal.unwrap-certificate-requires
unwrap-certificate-requires c =
    let b = c.args.game.now in
    let laws = c.estate.ensures.laws in
    let d = c.new-division.result in
    let gain = is_gain d.side in
    let claims = c.in_ok-claims.claims in
    let ordered = c.in_ok-claims.ensures.ordered in
    let den : to_z w128 (of_z w128 c.den.result) ≡ pos (2 * d.half_den) =
    kept c.den.result c.den.type_inv ∙ c.den.ensures in
    let shares = rw (den, c.in_ok-num.ensures {u = tt}, c.unwrap-shares.ensures) at c.new-2.ensures in
    let division = rw (cast_back c.estate.result b.estate c.estate.ensures.value laws.estate_small) at
    c.new-division.ensures in
    let levels = c.in_ok-levels.levels.items in
    let all =
    made b claims gain d.half d.half_den d.bound c.unwrap-shares.result levels ordered
    c.in_ok-claims.ensures.cuts division shares.0 (c.in_ok-levels.ensures.levels) in
    let new = rw c.players.ensures.count at c.new-3.ensures in
    is_ok (HasForm Players (length b.claims) levels)
    (λ e. (e ≡ record { players = length b.claims; mode = Players; levels = levels })
    × HasForm Players (length b.claims) levels) c.new-3.result new
    (levels-formed b laws (place claims) d.half gain (pos d.bound) c.unwrap-shares.result levels all)

pub returns : goal.returns
returns c =
    let b = c.args.game.now in
    let laws = c.estate.ensures.laws in
    let d = c.new-division.result in
    let gain = is_gain d.side in
    let claims = c.in_ok-claims.claims in
    let ordered = c.in_ok-claims.ensures.ordered in
    let den : to_z w128 (of_z w128 c.den.result) ≡ pos (2 * d.half_den) =
    kept c.den.result c.den.type_inv ∙ c.den.ensures in
    let shares = rw (den, c.in_ok-num.ensures {u = tt}, c.unwrap-shares.ensures) at c.new-2.ensures in
    let division = rw (cast_back c.estate.result b.estate c.estate.ensures.value laws.estate_small) at
    c.new-division.ensures in
    let levels = c.in_ok-levels.levels.items in
    let all =
    made b claims gain d.half d.half_den d.bound c.unwrap-shares.result levels ordered
    c.in_ok-claims.ensures.cuts division shares.0 (c.in_ok-levels.ensures.levels) in
    let certificate = rw (c.players.ensures.count, c.unwrap-certificate.ensures) at c.new-3.ensures in
    record {
      solved = λ family. solved family b (place claims) d.half gain (pos d.bound) c.unwrap-shares.result levels
          c.unwrap-certificate.result all c.in_ok-levels.ensures.lowest certificate.0;
      core =
          InCore-rule b.estate b.claims (place claims) d.half gain (pos d.bound) c.unwrap-shares.result all.rule;
      rule =
          IsTalmud-rule b.estate b.claims (place claims) d.half gain (pos d.bound) c.unwrap-shares.result all.rule;
      levels = rw certificate.0
          (AreRuleLevels-made b laws (place claims) d.half gain (pos d.bound) c.unwrap-shares.result levels all);
    }
