use Rattle.std.proofs.Common.{◌∷◌, [], ◌++◌, arith, sym, ap, ◌∙◌, length-append}
use Rattle.definitions.proofs.Members.{members-zero, members-more_yes, members-more_no}
use Rattle.coalitions.proofs.Coalition.members.Goals as goal
use Rattle.coalitions.proofs.Coalition.members.Goals.{then-contains, else-contains}

pub loop-i-init : goal.loop-i-init
loop-i-init c =
    (c.new-found.ensures ∙ sym (members-zero c.args.self), rw c.new-found.ensures (omega arith))

pub loop-i-preserved : goal.loop-i-preserved
loop-i-preserved c =
    elim c.if-contains.branch [
      | then-contains w ↦
          let found = w.found-is in
          let items = w.push.ensures.items in
          let more = members-more_yes c.loop-i.i c.args.self (sym w.if-contains.ensures) in
          let same = c.loop-i.invariant.0 in
          rw found
          (rw items (
            ap (λ l. l ++ c.loop-i.i ∷ []) same ∙ sym more,
            omega (arith, length-append c.loop-i.found.items (c.loop-i.i ∷ [])),
          ))
      | else-contains w ↦
          let found = w.found-is in
          rw found (
            c.loop-i.invariant.0 ∙ sym (members-more_no c.loop-i.i c.args.self (sym w.if-contains.ensures)),
            omega arith,
          )
    ]
