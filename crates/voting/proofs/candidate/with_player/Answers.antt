use Rattle.voting.specs.Candidates.{IsSmallCandidate}
use Rattle.definitions.proofs.Parts.{more-is}
use Rattle.definitions.proofs.Halves.{has_player-last}
use Rattle.voting.proofs.Joining.{sum_kept, joined_value, joined_small}
use Rattle.voting.proofs.candidate.with_player.Goals as goal

pub returns-clause-value : goal.returns-clause-value
returns-clause-value c =
    let d = c.in_ok-c.c in
    let i = c.args.i in
    let small : IsSmallCandidate i d = rw c.in_ok-c.was at c.requires.small in
    let mask = more-is d.coalition i c.with.result (has_player-last i d.coalition small.0) c.with.ensures in
    let sum = sum_kept d.sum c.args.number i c.requires.player small.1 c.requires.number in
    rw c.in_ok-c.was (joined_value d i c.args.number _ c.with.result sum mask)

pub returns-clause-small : goal.returns-clause-small
returns-clause-small c =
    let d = c.in_ok-c.c in
    let i = c.args.i in
    let small : IsSmallCandidate i d = rw c.in_ok-c.was at c.requires.small in
    let mask = more-is d.coalition i c.with.result (has_player-last i d.coalition small.0) c.with.ensures in
    let sum = sum_kept d.sum c.args.number i c.requires.player small.1 c.requires.number in
    joined_small i d.coalition c.with.result _ d.sum c.args.number mask sum small.0 small.1 c.requires.number
