use Rattle.std.proofs.Common.{◌≡◌, to_z, of_z, unsigned_abs, sym, ap, ◌∙◌, rules}
use Rattle.std.specs.List.{sum_by}
use Rattle.std.proofs.lemmas.Bool.{false≢true}
use mir.Syntax.{w64}
use Rattle.voting.specs.Voting.{AreNumbers, IsQuota}
use Rattle.voting.proofs.Quotas.{have_players, same_quota, is_quota, is_voting, too_heavy, too_low, too_high}
use Rattle.voting.proofs.game.VotingGame.new.Goals as goal
use Rattle.voting.proofs.game.VotingGame.new.Goals.{
  then-total-via-then-total,
  then-total-via-else-total+then-quota-lt1,
  then-total-via-else-total+else-quota-lt1+then-total-quota,
}

pub returns-then-total : goal.returns-then-total
returns-then-total c =
    let ws = c.args.weights in
    let quota = c.args.quota in
    let z = to_z w64 (of_z w64 quota) in
    let kept : z ≡ quota = search rules in
    let sums = c.total-total.ensures ∙ ap (sum_by unsigned_abs) c.deref-2.ensures.value in
    let players =
    have_players ws.items ws.len c.len.result c.is_empty.result ws.ok.0 c.is_empty.ensures c.if-is_empty.false
    c.len.ensures c.if-len-gt32.false in
    let numbers : AreNumbers quota ws.items =
    rw (kept, c.deref.ensures.value) at (c.are_numbers.ensures.0 c.if-not-are_numbers.false) in
    let none : ¬ IsQuota quota ws.items = elim c.then-total.branch [
      | then-total-via-then-total w ↦ too_heavy quota z ws.items c.total-total.result kept sums
          w.if-total.true
      | then-total-via-else-total+then-quota-lt1 w ↦ too_low quota z ws.items c.total-total.result
          kept sums w.if-quota-lt1.true
      | then-total-via-else-total+else-quota-lt1+then-total-quota w ↦ too_high quota z ws.items
          c.total-total.result kept sums w.if-total-quota.true
    ] in
    (players, numbers, none)

pub returns-in_default : goal.returns-in_default
returns-in_default c =
    let ws = c.args.weights in
    let quota = c.args.quota in
    let z = to_z w64 (of_z w64 quota) in
    let kept : z ≡ quota = search rules in
    let sums = c.total-total.ensures ∙ ap (sum_by unsigned_abs) c.deref-2.ensures.value in
    let players =
    have_players ws.items ws.len c.len.result c.is_empty.result ws.ok.0 c.is_empty.ensures c.if-is_empty.false
    c.len.ensures c.if-len-gt32.false in
    let numbers : AreNumbers quota ws.items =
    rw (kept, c.deref.ensures.value) at (c.are_numbers.ensures.0 c.if-not-are_numbers.false) in (
      players,
      numbers,
      is_quota quota z ws.items c.total-total.result kept sums c.if-total.false c.if-quota-lt1.false
          c.if-total-quota.false,
    )

pub invariant_of-result : goal.invariant_of-result
invariant_of-result c =
    let ws = c.args.weights in
    let quota = c.args.quota in
    let z = to_z w64 (of_z w64 quota) in
    let kept : z ≡ quota = search rules in
    let sums = c.total-total.ensures ∙ ap (sum_by unsigned_abs) c.deref-2.ensures.value in
    let players =
    have_players ws.items ws.len c.len.result c.is_empty.result ws.ok.0 c.is_empty.ensures c.if-is_empty.false
    c.len.ensures c.if-len-gt32.false in
    let quotas =
    is_quota quota z ws.items c.total-total.result kept sums c.if-total.false c.if-quota-lt1.false
    c.if-total-quota.false in
    is_voting quota z ws.items c.in-Ok.weights.items kept (c.in-Ok.ensures.0 ∙ c.deref-3.ensures.value)
    c.in-Ok.ensures.1 players quotas

pub returns-then-not-are_numbers : goal.returns-then-not-are_numbers
returns-then-not-are_numbers c =
    let ws = c.args.weights in
    let quota = c.args.quota in
    let kept : to_z w64 (of_z w64 quota) ≡ quota = search rules in
    let players =
    have_players ws.items ws.len c.len.result c.is_empty.result ws.ok.0 c.is_empty.ensures c.if-is_empty.false
    c.len.ensures c.if-len-gt32.false in
    let asked : AreNumbers quota ws.items → AreNumbers (to_z w64 (of_z w64 quota)) c.deref.result.now =
    λ h. rw (kept, c.deref.ensures.value) h in
    (players, λ h. false≢true (sym c.if-not-are_numbers.true ∙ c.are_numbers.ensures.1 (asked h)))

pub total-total-requires-clause-small : goal.total-total-requires-clause-small
total-total-requires-clause-small c =
    let ws = c.args.weights in
    let quota = c.args.quota in
    let kept : to_z w64 (of_z w64 quota) ≡ quota = search rules in
    let numbers : AreNumbers quota ws.items =
    rw (kept, c.deref.ensures.value) at (c.are_numbers.ensures.0 c.if-not-are_numbers.false) in
    rw c.deref-2.ensures.value numbers.1

pub naturals-requires : goal.naturals-requires
naturals-requires c =
    let ws = c.args.weights in
    let quota = c.args.quota in
    let kept : to_z w64 (of_z w64 quota) ≡ quota = search rules in
    let numbers : AreNumbers quota ws.items =
    rw (kept, c.deref.ensures.value) at (c.are_numbers.ensures.0 c.if-not-are_numbers.false) in
    rw c.deref-3.ensures.value numbers.1

pub returns : goal.returns
returns c =
    let quota = c.args.quota in
    let kept : to_z w64 (of_z w64 quota) ≡ quota = search rules in
    let sums = c.total-total.ensures ∙ ap (sum_by unsigned_abs) c.deref-2.ensures.value in (
      same_quota quota (to_z w64 (of_z w64 quota)) c.args.weights.items c.total-total.result kept sums
          c.if-quota-lt1.false,
      c.in-Ok.ensures.0 ∙ c.deref-3.ensures.value,
    )
