use Rattle.std.proofs.Common.{length}
use Rattle.separation.proofs.FirstFound.{level_within}
use Rattle.separation.proofs.Searches
use Rattle.separation.proofs.scan.Scan.improves.Goals as goal

pub improves-requires-clause-within : goal.improves-requires-clause-within
improves-requires-clause-within g c =
    let scan = c.args.self.now in
    let p = scan.program.now in
    level_within p.players p.levels (length scan.m.now.num.items) c.args.column scan.rows c.requires.within

pub improves-requires-clause-players : goal.improves-requires-clause-players
improves-requires-clause-players g c =
    let scan = c.args.self.now in
    Searches.players_within_rows scan.program.now.players scan.program.now.levels _ scan.rows
