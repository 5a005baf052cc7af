use Rattle.std.proofs.Common.{◌≡◌, arith, rules, refl, to_z, of_z}
use mir.Syntax.{w128}
use Rattle.theorems.proofs.Transfers.{prenucleolus_in_prekernel}
use Rattle.kernel_test.proofs.Pairs.{found_in, surplus_in, prekernel_from_table, first_in, not_in_prekernel}
use Rattle.kernel_test.proofs.prekernel.Goals as goal

pub against-requires-clause-found : goal.against-requires-clause-found
against-requires-clause-found g c =
    let game = g.W.Worth.game c.args.game.now in
    let pair = c.in-Some.ensures {u = tt} in
    let count = c.players.ensures.count in
    let lt = pair.0 in
    let within = pair.1 in
    found_in game c.args.x.now c.of-surpluses.result.greatest c.of-surpluses.ensures.surpluses c.in-Some.i
    c.in-Some.j (omega arith) (omega arith) (λ e. omega arith)

pub against-requires-in-Some-clause-found : goal.against-requires-in-Some-clause-found
against-requires-in-Some-clause-found g c =
    let game = g.W.Worth.game c.args.game.now in
    let pair = c.in-Some.ensures {u = tt} in
    let count = c.players.ensures.count in
    let lt = pair.0 in
    let within = pair.1 in
    found_in game c.args.x.now c.of-surpluses.result.greatest c.of-surpluses.ensures.surpluses c.in-Some.j
    c.in-Some.i (omega arith) (omega arith) (λ e. omega arith)

pub returns-in-None-clause-answer : goal.returns-in-None-clause-answer
returns-in-None-clause-answer g c =
    let game = g.W.Worth.game c.args.game.now in
    let same = c.in-None.ensures {u = tt} in
    let positive = c.den-den.ensures.positive in
    prekernel_from_table game c.args.x.now c.of-surpluses.result.greatest
    (c.requires.shares, rw c.den-den.ensures.value at positive) ((c.if-not-is_efficient.ensures {u = tt}).0 refl)
    c.of-surpluses.ensures.surpluses (rw c.players.ensures.count at same)

pub returns-in-None-clause-balanced : goal.returns-in-None-clause-balanced
returns-in-None-clause-balanced g c =
    let game = g.W.Worth.game c.args.game.now in
    let same = c.in-None.ensures {u = tt} in
    let positive = c.den-den.ensures.positive in (
      λ _. prekernel_from_table game c.args.x.now c.of-surpluses.result.greatest
          (c.requires.shares, rw c.den-den.ensures.value at positive)
          ((c.if-not-is_efficient.ensures {u = tt}).0 refl) c.of-surpluses.ensures.surpluses
          (rw c.players.ensures.count at same),
      λ _. refl,
    )

pub returns-in-Some-clause-answer : goal.returns-in-Some-clause-answer
returns-in-Some-clause-answer g c =
    let game = g.W.Worth.game c.args.game.now in
    let x = c.args.x.now in
    let table = c.of-surpluses.result.greatest in
    let i = c.in-Some.i in
    let j = c.in-Some.j in
    let pair = rw c.players.ensures.count at (c.in-Some.ensures {u = tt}) in
    let lt = pair.0 in
    let within = pair.1 in
    let num : to_z w128 (of_z w128 c.against.result) ≡ c.against.result = search rules in
    let other : to_z w128 (of_z w128 c.against-in-Some.result) ≡ c.against-in-Some.result = search rules in
    let den : to_z w128 (of_z w128 c.den-den.result) ≡ c.den-den.result = search rules in (
      (c.if-not-is_efficient.ensures {u = tt}).0 refl,
      first_in game x table c.of-surpluses.ensures.surpluses i j lt within pair.2 pair.3,
      (
        c.against.result,
        surplus_in game x table c.of-surpluses.ensures.surpluses i j c.against.result (omega arith) within
            (λ e. omega arith) c.against.ensures,
        rw (num, den, c.den-den.ensures.value) at c.ratio.ensures,
      ),
      (
        c.against-in-Some.result,
        surplus_in game x table c.of-surpluses.ensures.surpluses j i c.against-in-Some.result within (omega arith)
            (λ e. omega arith) c.against-in-Some.ensures,
        rw (other, den, c.den-den.ensures.value) at c.ratio-in-Some.ensures,
      ),
    )

pub returns-in-Some-clause-balanced : goal.returns-in-Some-clause-balanced
returns-in-Some-clause-balanced g c =
    let game = g.W.Worth.game c.args.game.now in
    let pair = rw c.players.ensures.count at (c.in-Some.ensures {u = tt}) in (
      λ e. absurd (cc),
      λ h. absurd
          (not_in_prekernel game c.args.x.now c.in-Some.i c.in-Some.j
          (first_in game c.args.x.now c.of-surpluses.result.greatest c.of-surpluses.ensures.surpluses c.in-Some.i
          c.in-Some.j pair.0 pair.1 pair.2 pair.3) h),
    )

pub returns-in-Some-clause-prenucleolus_is_balanced : goal.returns-in-Some-clause-prenucleolus_is_balanced
returns-in-Some-clause-prenucleolus_is_balanced g c =
    let game = g.W.Worth.game c.args.game.now in
    let pair = rw c.players.ensures.count at (c.in-Some.ensures {u = tt}) in
    λ h. absurd
    (not_in_prekernel game c.args.x.now c.in-Some.i c.in-Some.j
    (first_in game c.args.x.now c.of-surpluses.result.greatest c.of-surpluses.ensures.surpluses c.in-Some.i
    c.in-Some.j pair.0 pair.1 pair.2 pair.3) (prenucleolus_in_prekernel game c.args.x.now h))
