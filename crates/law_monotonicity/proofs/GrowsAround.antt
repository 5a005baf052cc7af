-- A player around whom a game grows adds no less than before to each coalition.
use Rattle.std.proofs.Common.{ℕ, ◌+◌, ◌^◌, ◌<◌}
use Rattle.definitions.proofs.Parts.{has_player-more_same, more-lt}
use Rattle.definitions.specs.Games.{Game}
use Rattle.law_monotonicity.specs.Additions.{AddsNoLessThen}
use Rattle.law_monotonicity.specs.CoreRules.{GrowsAround, WhoIsInAllThatGrowsGetsNoLess}
use Rattle.law_monotonicity.proofs.WhoAddsMoreGetsNoLess.{adds_more_gets_no_less}
use Rattle.theorems.proofs.Products.{products}

pub adds : (g h : Game) (i : ℕ) → GrowsAround g h i → i < g.players → AddsNoLessThen g h i
adds g h i grows hi = record {
  players = grows.players;
  adds = λ s lt out. omega (
    products,
    grows.apart s lt out,
    grows.around (s + 2 ^ i) (more-lt g.players s i lt hi out) (has_player-more_same s i out),
  );
}

pub around_gets_no_less : WhoIsInAllThatGrowsGetsNoLess
around_gets_no_less g h x y i grows hx hy lt = adds_more_gets_no_less g h x y i (adds g h i grows lt) hx hy lt
