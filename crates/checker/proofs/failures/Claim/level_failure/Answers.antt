use Rattle.std.proofs.Common.{◌++◌, ◌∙◌, ap, arith, refl}
use Rattle.definitions.specs.Certificates.{Level, IsSmall}
use Rattle.definitions.proofs.Levels.{Ascends-few}
use Rattle.checker.proofs.failures.Claim.level_failure.Goals as goal
use Rattle.definitions.proofs.Alls.{all_left, all_right}

pub first_unbalanced-requires-clause-few_bounds : goal.first_unbalanced-requires-clause-few_bounds
first_unbalanced-requires-clause-few_bounds g c =
    let game = g.W.Worth.game c.args.self.now.game.now in
    let f = c.requires.form in
    let few = Ascends-few 0 game.players c.args.tested.now.bounds f.bounds_ascend f.players in
    let laws = c.players.ensures.laws.few in
    omega arith

pub first_unbalanced-requires-clause-small : goal.first_unbalanced-requires-clause-small
first_unbalanced-requires-clause-small g c =
    let l = c.args.tested.now in
    all_left (λ p. IsSmall p.1) l.coalitions l.earlier
    (all_left (λ p. IsSmall p.1) (l.coalitions ++ l.earlier) l.bounds c.requires.form.small)

pub first_unbalanced-requires-clause-small_earlier : goal.first_unbalanced-requires-clause-small_earlier
first_unbalanced-requires-clause-small_earlier g c =
    let l = c.args.tested.now in
    all_right (λ p. IsSmall p.1) l.coalitions l.earlier
    (all_left (λ p. IsSmall p.1) (l.coalitions ++ l.earlier) l.bounds c.requires.form.small)

pub first_unbalanced-requires-clause-small_bounds : goal.first_unbalanced-requires-clause-small_bounds
first_unbalanced-requires-clause-small_bounds g c =
    let l = c.args.tested.now in
    all_right (λ p. IsSmall p.1) (l.coalitions ++ l.earlier) l.bounds c.requires.form.small

pub returns-in-Some-first_unbalanced : goal.returns-in-Some-first_unbalanced
returns-in-Some-first_unbalanced g c =
    let signs = c.in_default-first_wrong_sign.ensures {u = tt} in
    let least = rw c.players.ensures.count at (c.in-Some-first_unbalanced.ensures {u = tt}) in
    (refl, c.in_default.ensures {u = tt}, signs.0, signs.1, least)

pub returns-in-Some-first_not_at_bound : goal.returns-in-Some-first_not_at_bound
returns-in-Some-first_not_at_bound g c =
    let signs = c.in_default-first_wrong_sign.ensures {u = tt} in
    let balanced = rw c.players.ensures.count at (c.in_default-first_unbalanced.ensures {u = tt}) in
    let bounds = c.deref.ensures.value ∙ ap (λ (l : Level). l.bounds) c.tested.view_is in
    let loose = rw bounds at (c.in-Some-first_not_at_bound.ensures {u = tt}) in
    (refl, c.in_default.ensures {u = tt}, signs.0, signs.1, balanced, loose)

pub returns-in_err-excess : goal.returns-in_err-excess
returns-in_err-excess g c =
    let signs = c.in_default-first_wrong_sign.ensures {u = tt} in
    let balanced = rw c.players.ensures.count at (c.in_default-first_unbalanced.ensures {u = tt}) in
    let bounds = c.deref.ensures.value ∙ ap (λ (l : Level). l.bounds) c.tested.view_is in
    let tight = rw bounds at (c.in_default-first_not_at_bound.ensures {u = tt}) in
    rw c.from_residual.ensures (record {
      excesses = c.in_default.ensures {u = tt};
      weights = signs.0;
      bound_weights = signs.1;
      balanced = balanced;
      tight = tight;
      outside = c.in_err-excess.ensures c.args.front.now c.requires.fixes;
    })

pub returns : goal.returns
returns g c =
    let signs = c.in_default-first_wrong_sign.ensures {u = tt} in
    let balanced = rw c.players.ensures.count at (c.in_default-first_unbalanced.ensures {u = tt}) in
    let bounds = c.deref.ensures.value ∙ ap (λ (l : Level). l.bounds) c.tested.view_is in
    let tight = rw bounds at (c.in_default-first_not_at_bound.ensures {u = tt}) in
    let outside = c.in_ok-excess.ensures c.args.front.now c.requires.fixes in (
      outside.1.0,
      outside.1.2,
      (refl, c.in_default.ensures {u = tt}, signs.0, signs.1, balanced, tight, outside.0, outside.1.1),
    )
