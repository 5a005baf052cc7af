use Rattle.std.proofs.Common.{◌∙◌, ◌-◌, ◌%◌, [], slice_index_or, pos, subst, arith}
use mir.Syntax.{w64}
use Rattle.definitions.proofs.Casts.{cast_kept}
use Rattle.spans.proofs.Blocks.{negated_in_64}
use Rattle.spans.proofs.Known.{AreAt, known_more, same_places}
use Rattle.spans.proofs.silent_places.SilentPlaces.of_block.Goals as goal

pub returns-then-stands_at-clause-found : goal.returns-then-stands_at-clause-found
returns-then-stands_at-clause-found c =
    let high = c.args.sums.now.high in
    let slot = c.slot-slot.result % 64 in
    let latest = slice_index_or c.args.self.now.latest slot 0 in
    let within = c.requires.known.within slot in
    let some = c.if-latest-gt0.true in
    let small = c.requires.small (latest - 1) (omega (arith, within, some)) in
    let same =
    c.stands_at.ensures.0 c.if-stands_at.true
    ∙ cast_kept w64 (slice_index_or high (latest - 1) (pos 0)) (omega (arith, small)) in
    same_places c.args.sums.now.low high (latest - 1) c.args.block
    (slice_index_or c.args.self.now.found slot []) same (c.requires.known.silent slot some)

pub returns-clause-known : goal.returns-clause-known
returns-clause-known c =
    let wanted =
    negated_in_64 (slice_index_or c.args.sums.now.high c.args.block (pos 0))
    (c.requires.small c.args.block c.requires.block) in
    known_more c.args.sums.now.low c.args.sums.now.high c.args.self.now.latest c.args.self.now.found
    (c.slot-slot.result % 64) c.args.block c.find-found.result (omega arith) c.requires.block c.requires.known
    (subst (AreAt c.args.sums.now.low c.find-found.result) wanted c.find-found.ensures)

pub returns-clause-found : goal.returns-clause-found
returns-clause-found c =
    let wanted =
    negated_in_64 (slice_index_or c.args.sums.now.high c.args.block (pos 0))
    (c.requires.small c.args.block c.requires.block) in
    subst (AreAt c.args.sums.now.low c.find-found.result) wanted c.find-found.ensures
