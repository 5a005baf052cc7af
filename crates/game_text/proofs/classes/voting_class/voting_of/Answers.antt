use Rattle.std.proofs.Common.{◌≡◌, length, to_z, of_z, w64, Some, rules, refl, sym, ap, ◌∙◌, subst, arith}
use Rattle.serde_json.specs.View.{view}
use Rattle.airport.specs.Costs.{IsCost}
use Rattle.document_parts.specs.Scales.{scale_of}
use Rattle.game_text.specs.declared.classes.Class.TheVariants as class
use Rattle.game_text.specs.declared.classes.Game.TheVariants as games
use Rattle.game_text.proofs.GivenNumbers.{first_is, rest_is}
use Rattle.game_text.proofs.Built.{built_if, refused_if}
use Rattle.game_text.proofs.Laws.Votes.{AreVotes, voting_sizes, voting_numbers, voting_made, voting_not_made}
use Rattle.game_text.proofs.classes.voting_class.voting_of.Goals as goal

pub returns-in-Err-Players : goal.returns-in-Err-Players
returns-in-Err-Players c =
    let sizes = voting_sizes (view c.args.game.now) c.requires.class c.requires.sizes in
    let votes : AreVotes _ c.remove-quota.new.self.items =
    subst (AreVotes _)
    (sym
    (rest_is _ _ _ _
    (voting_numbers (view c.args.game.now) c.args.numbers.items c.requires.class c.requires.sizes
    c.requires.numbers) c.remove-quota.ensures.items)) sizes in
    absurd ((rw c.in-Err-Players.field-0-is at c.in-Err-Players.ensures) votes.players)

pub returns-in-Err-Number : goal.returns-in-Err-Number
returns-in-Err-Number c =
    let sizes = voting_sizes (view c.args.game.now) c.requires.class c.requires.sizes in
    let votes : AreVotes _ c.remove-quota.new.self.items =
    subst (AreVotes _)
    (sym
    (rest_is _ _ _ _
    (voting_numbers (view c.args.game.now) c.args.numbers.items c.requires.class c.requires.sizes
    c.requires.numbers) c.remove-quota.ensures.items)) sizes in
    let kept : to_z w64 (of_z w64 c.remove-quota.result) ≡ c.remove-quota.result = search rules in
    let quota : IsCost (to_z w64 (of_z w64 c.remove-quota.result)) =
    subst IsCost
    (sym
    (kept
    ∙ (first_is _ _ _ _
    (voting_numbers (view c.args.game.now) c.args.numbers.items c.requires.class c.requires.sizes
    c.requires.numbers) c.remove-quota.ensures.value))) sizes.numbers.0 in
    absurd ((rw c.in-Err-Number.field-0-is at c.in-Err-Number.ensures).1 (quota, votes.numbers.1))

pub returns-in-Ok : goal.returns-in-Ok
returns-in-Ok c =
    let kept : to_z w64 (of_z w64 c.remove-quota.result) ≡ c.remove-quota.result = search rules in
    let game = view c.args.game.now in
    built_if (Some class.Voting) (scale_of game) game c.requires.class refl games.Voting _ c.in-Ok.game
    (voting_made c.in-Ok.game _ _
    (c.in-Ok.ensures.0 ∙ kept
    ∙ (first_is _ _ _ _
    (voting_numbers (view c.args.game.now) c.args.numbers.items c.requires.class c.requires.sizes
    c.requires.numbers) c.remove-quota.ensures.value))
    (c.in-Ok.ensures.1
    ∙ (rest_is _ _ _ _
    (voting_numbers (view c.args.game.now) c.args.numbers.items c.requires.class c.requires.sizes
    c.requires.numbers) c.remove-quota.ensures.items)) c.quota.ensures.laws) refl

pub returns-in-Err-Quota : goal.returns-in-Err-Quota
returns-in-Err-Quota c =
    let game = view c.args.game.now in
    let sizes = voting_sizes game c.requires.class c.requires.sizes in
    let kept : to_z w64 (of_z w64 c.remove-quota.result) ≡ c.remove-quota.result = search rules in
    let refused = (rw c.in-Err-Quota.field-0-is at c.in-Err-Quota.ensures).2 in
    refused_if (Some class.Voting) (scale_of game) game c.requires.class refl _
    (voting_not_made _ _ sizes.numbers.0
    (rw (
      kept
          ∙ (first_is _ _ _ _
          (voting_numbers (view c.args.game.now) c.args.numbers.items c.requires.class c.requires.sizes
          c.requires.numbers) c.remove-quota.ensures.value),
      (rest_is _ _ _ _
          (voting_numbers (view c.args.game.now) c.args.numbers.items c.requires.class c.requires.sizes
          c.requires.numbers) c.remove-quota.ensures.items),
    ) at refused))

pub remove-quota-requires : goal.remove-quota-requires
remove-quota-requires c =
    let n =
    ap length
    (voting_numbers (view c.args.game.now) c.args.numbers.items c.requires.class c.requires.sizes
    c.requires.numbers) in
    omega (arith, n)
