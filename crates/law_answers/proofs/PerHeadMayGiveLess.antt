-- Who adds its worth alone everywhere adds at least that, and per head may get less.
use Rattle.std.proofs.Common.{◌≡◌, ℕ, ◌+◌, ◌^◌, ◌<◌, pos, ap, arith}
use Rattle.definitions.proofs.Masks.{grand_coalition-within}
use Rattle.definitions.proofs.Members.{has_player-empty}
use Rattle.definitions.proofs.Ring.{linear}
use Rattle.definitions.specs.Coalitions.{singleton}
use Rattle.definitions.specs.Games.{Game}
use Rattle.definitions.specs.Players.{IsDummy}
use Rattle.law_answers.specs.Reasonable.{PerHeadMayGiveLess}
use Rattle.law_answers.proofs.DummiesMayGetLess.{dummies_may_get_less}

nobody_adds : (g : Game) (i : ℕ) → IsDummy g i → g.worth 0 ≡ pos 0
nobody_adds g i dummy =
    let lt : 0 < 2 ^ g.players = (let within = grand_coalition-within g.players in omega (arith, within)) in
    let same : 0 + singleton i ≡ singleton i = omega arith in
    omega (arith, linear, dummy 0 lt (has_player-empty i), ap g.worth same)

pub per_head_may_give_less : PerHeadMayGiveLess
per_head_may_give_less =
    let (g, x, i, nucleolus, within, dummy, less) = dummies_may_get_less in (
      g,
      x,
      nobody_adds g i dummy,
      nucleolus,
      λ reasonable.
          let least = reasonable.at_least i (g.worth (singleton i)) within
          (λ s lt out. omega (arith, linear, dummy s lt out)) in
          omega (arith, linear, least, less),
    )
