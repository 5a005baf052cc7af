use Rattle.std.proofs.Common.{◌≡◌, ℕ, Bool, true, false, All, List, Option, length, codes, sym, ap, ap₂, ◌∙◌, subst}
use Rattle.std.proofs.lemmas.Bool.{eq-eqb}
use Rattle.std.proofs.lemmas.List.{length-map}
use Rattle.serde_json.specs.Data.{Data}
use Rattle.serde_json.specs.View.{view}
use Rattle.definitions.specs.Games.{Allocation}
use Rattle.fractions.specs.Fraction.{Fraction, IsReduced}
use Rattle.json_trees.specs.Fractions.{fraction_or_zero}
use Rattle.json_trees.specs.Trees.{parts_at}
use Rattle.json_trees.proofs.Fractions.{written_reduced}
use Rattle.document_parts.proofs.LeastDenominators.{scaled_written}
use Rattle.document_parts.specs.Scales.{scale_of}
use Rattle.document_parts.specs.Shares.{has_shares_for, written_shares, scaled_fractions, scaled_shares, as_worth}
use Rattle.document_parts.specs.Denominators.{over_least, keep_limits}
use Rattle.game_text.specs.Classes.{description_of, is_cost, players}
use Rattle.game_text.specs.Readings.{IsProposal}
use Rattle.game_text.specs.Refusals.{unless}
use Rattle.game_text.specs.Steps.{proposal_refusal}
use Rattle.kinds.specs.declared.refusal.Refusal.{Refusal}
use Rattle.kinds.specs.declared.refusal.Refusal.TheVariants.{Proposal, TooFine}
use Rattle.game_text.proofs.Choices.{passed_if, failed_if}
use Rattle.game_text.proofs.reading.Reading.right_shares.Goals as goal

-- as many shares as players, over the scale k
module _ (game tree : Data) (k : ℕ) (over : k ≡ scale_of game)
    (enough : has_shares_for (players game) tree ≡ true) where
  decided : (b : Bool) → keep_limits (scaled_shares k tree) ≡ b → (rest : Option Refusal)
      → proposal_refusal game tree rest ≡ unless b TooFine rest
  decided b h rest =
      ap (λ t. unless t Proposal (unless (keep_limits (scaled_shares (scale_of game) tree)) TooFine rest)) enough
      ∙ ap (λ j. unless (keep_limits (scaled_shares j tree)) TooFine rest) (sym over)
      ∙ ap (λ t. unless t TooFine rest) h

  proposed : (signs : Bool) (x : Allocation) → signs ≡ is_cost (description_of game)
      → keep_limits (scaled_shares k tree) ≡ true → x ≡ as_worth signs (over_least (scaled_shares k tree))
      → IsProposal game tree x
  proposed signs x s h e = record {
    passed = decided true h;
    same = e ∙ ap₂ (λ b j. as_worth b (over_least (scaled_shares j tree))) s over;
  }

-- as many fractions as players
enough_for : (game tree : Data) (fs : List Fraction) (n : ℕ) → fs ≡ written_shares tree → n ≡ players game
    → length fs ≡ n → has_shares_for (players game) tree ≡ true
enough_for game tree fs n e p h =
    let shares = parts_at (codes "shares") tree in
    eq-eqb (length shares) (players game) (sym (length-map shares fraction_or_zero) ∙ ap length (sym e) ∙ h ∙ p)

-- these fractions times the scale are the shares times the scale
scaled_so : (k : ℕ) (tree : Data) (fs : List Fraction) → fs ≡ written_shares tree
    → scaled_fractions k fs ≡ scaled_shares k tree
scaled_so k tree fs e = ap (scaled_fractions k) e ∙ scaled_written k tree

pub shares_as_worth-requires-clause-reduced : goal.shares_as_worth-requires-clause-reduced
shares_as_worth-requires-clause-reduced c =
    subst (All IsReduced) (sym c.requires.written)
    (written_reduced (parts_at (codes "shares") (view c.args.self.now.tree.now)))

pub returns-in_default : goal.returns-in_default
returns-in_default c =
    let game = view c.args.self.now.game.tree.now in
    let tree = view c.args.self.now.tree.now in
    let k = c.scale-scale.result in
    let read = rw (scaled_so k tree c.args.written.now c.requires.written) at c.in_ok-shares.ensures in
    decided game tree k c.scale-scale.ensures
    (enough_for game tree c.args.written.now c.players.result c.requires.written c.players.ensures.value
    c.if-written-players.false) false
    (failed_if (keep_limits (scaled_shares k tree))
    (as_worth c.args.are_payments (over_least (scaled_shares k tree))) (sym c.in_default.is ∙ read))

pub returns : goal.returns
returns c =
    let game = view c.args.self.now.game.tree.now in
    let tree = view c.args.self.now.tree.now in
    let k = c.scale-scale.result in
    let read = rw (scaled_so k tree c.args.written.now c.requires.written) at c.in_ok-shares.ensures in
    let found =
    passed_if (keep_limits (scaled_shares k tree)) (as_worth c.args.are_payments (over_least (scaled_shares k tree)))
    c.in-Some.shares (sym c.in-Some.is ∙ read) in
    proposed game tree k c.scale-scale.ensures
    (enough_for game tree c.args.written.now c.players.result c.requires.written c.players.ensures.value
    c.if-written-players.false) c.args.are_payments c.in-Some.shares c.requires.payments found.0 found.1
