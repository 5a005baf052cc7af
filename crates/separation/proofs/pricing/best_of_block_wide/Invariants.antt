use Rattle.std.proofs.Common.{◌≡◌, ◌*◌, MatchOption}
use Rattle.separation.specs.Scanned.{NoneBetween, IsMostIn, gap_in}
use Rattle.separation.proofs.pricing.best_of_block_wide.Given as goal

abbrev pub invariant-loop-mask : goal.invariant-loop-mask
invariant-loop-mask g l =
    MatchOption l.best (NoneBetween l.scan (256 * l.block) l.mask)
    (λ b. IsMostIn l.scan (256 * l.block) l.mask b.0 × (b.1 ≡ gap_in l.scan b.0))
