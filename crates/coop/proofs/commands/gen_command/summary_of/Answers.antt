use Rattle.std.proofs.Common.{refl, sym, ap, subst, ◌∙◌}
use Rattle.definitions.specs.Games.{IsNucleolus}
use Rattle.definitions.specs.declared.Family.TheVariants.{Imputations}
use Rattle.definitions.specs.declared.Measure.TheVariants.{Plain}
use Rattle.game_text.specs.Classes.{game_of, is_cost}
use Rattle.drawn_games.specs.Imputations.{HasImputations}
use Rattle.coop_gen.proofs.Imputations.{generated_imputations}
use Rattle.coop_gen.proofs.Classes.{generated_of_class}
use Rattle.coop.specs.GeneratorClaims.{IsGreatestExcess}
use Rattle.coop.proofs.commands.gen_command.summary_of.Goals as goal

pub solved-requires-clause-imputations : goal.solved-requires-clause-imputations
solved-requires-clause-imputations c =
    subst (λ d. HasImputations (game_of d)) (sym c.in_ok-game.ensures)
    (generated_imputations c.args.kind c.args.players c.args.seed c.requires.size)

pub returns-clause-summary : goal.returns-clause-summary
returns-clause-summary c =
    let made = c.in_ok-game.ensures in
    record {
      kind_is = refl;
      players_are = refl;
      seed_is = refl;
      class = generated_of_class c.args.kind c.args.players c.args.seed c.requires.size;
      signs = c.is_cost.ensures ∙ ap is_cost made;
      nucleolus =
          subst (λ d. IsNucleolus Imputations Plain (game_of d) c.in_ok-shares.shares) made
          c.in_ok-shares.ensures.nucleolus;
      greatest =
          subst (λ d. IsGreatestExcess (game_of d) c.in_ok-shares.shares c.in_ok-shares.greatest) made
          c.in_ok-shares.ensures.greatest;
    }
