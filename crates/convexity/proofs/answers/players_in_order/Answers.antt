use Rattle.std.proofs.Common.{◌≡◌, ℕ, ◌+◌, List, [], ◌∷◌, ◌++◌, add-one, ap, sym}
use Rattle.std.proofs.Common.{◌∙◌, arith}
use Rattle.std.specs.List.{range_with_len}
use Rattle.convexity.proofs.PlayersInOrder.{range_more}
use Rattle.convexity.proofs.answers.players_in_order.Goals as goal

pub loop-i-preserved : goal.loop-i-preserved
loop-i-preserved c =
    let i = c.loop-i.i in
    let none : 0 + i ≡ i = omega arith in
    rw add-one
    (c.in_ok-push.ensures.items ∙ ap (λ (xs : List ℕ). xs ++ i ∷ []) c.loop-i.invariant
    ∙ ap (λ (k : ℕ). range_with_len 0 i ++ k ∷ []) (sym none) ∙ sym (range_more 0 i))
