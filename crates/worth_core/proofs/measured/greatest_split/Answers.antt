use Rattle.std.proofs.Common.{◌≡◌, ◌⊎◌, ◌^◌, ◌<◌, ℕ, true, false, IsTrue, arith, sym}
use Rattle.std.proofs.Common.{subst, ◌∙◌, inl, inr}
use Rattle.std.proofs.Math.Pow.{pow_pos}
use Rattle.std.proofs.lemmas.Bool.{false≢true}
use mir.Syntax.{w128}
use Rattle.definitions.proofs.Casts.{cast_kept}
use Rattle.definitions.proofs.SumsOver.{amount-empty}
use Rattle.worth_core.proofs.SplitScan.{is_split, is_split-empty}
use Rattle.worth_core.proofs.TopScan.{IsTop, ascending, IsTop-one, IsTop-next, all_seen}
use Rattle.worth_core.proofs.TopScan.{greatest_from_top, some-from_top}
use Rattle.worth_core.proofs.measured.greatest_split.Goals as goal
use Rattle.worth_core.proofs.measured.greatest_split.Goals.{then-is_more, else-is_more}

pub loop-next-init : goal.loop-next-init
loop-next-init g c =
    let game = g.W.Worth.game c.args.game.now in
    let P = λ (t : ℕ). IsTrue (is_split game c.args.free t) in
    rw c.empty-s.ensures (
      pow_pos game.players,
      IsTop-one c.args.measure game c.args.x.now P (is_split-empty game c.args.free),
      sym (amount-empty c.args.x.now),
    )

pub loop-next-preserved : goal.loop-next-preserved
loop-next-preserved g c =
    let game = g.W.Worth.game c.args.game.now in
    let P = λ (t : ℕ). IsTrue (is_split game c.args.free t) in
    let next = c.in-Some.next in
    let step = c.in-Some.ensures in
    let within : next < 2 ^ game.players = rw c.players-players.ensures.count at step.1 in
    let before : IsTop c.args.measure game c.args.x.now P ascending next c.loop-next.most =
    subst (λ (k : ℕ). IsTop c.args.measure game c.args.x.now P ascending k c.loop-next.most) (sym step.0)
    c.loop-next.invariant.1 in
    let on : c.if-is_more.is_greatest ≡ true → (c.is_more.result ≡ true) × P next = elim c.if-is_more.branch [
      | then-is_more w ↦
          λ e. (
            w.if-is_more.true,
            sym (rw c.players-players.ensures.count at w.splits-is_greatest.ensures) ∙ sym w.is_greatest-is ∙ e,
          )
      | else-is_more w ↦ λ e. absurd (false≢true (sym w.if-is_more.false ∙ sym w.is_greatest-is ∙ e))
    ] in
    let off : c.if-is_more.is_greatest ≡ false → (c.is_more.result ≡ false) ⊎ ¬ P next = elim c.if-is_more.branch [
      | then-is_more w ↦
          λ e. inr
          (λ p. false≢true
          (sym e ∙ w.is_greatest-is ∙ (rw c.players-players.ensures.count at w.splits-is_greatest.ensures) ∙ p))
      | else-is_more w ↦ λ e. inl w.if-is_more.false
    ] in
    let sum = c.sum_after-paid.ensures in
    let paid = cast_kept w128 c.sum_after-paid.result (omega arith) ∙ sum.value in (
      within,
      IsTop-next c.args.measure game c.args.x.now P ascending next c.loop-next.most c.replaced_if-most.result
          c.of_paid-here.result c.is_more.result c.if-is_more.is_greatest c.requires.measurable before
          (omega (arith, step.0)) within c.of_paid-here.ensures c.is_more.ensures on off
          c.replaced_if-most.ensures.taken c.replaced_if-most.ensures.kept,
      paid,
    )

pub unwrap-requires : goal.unwrap-requires
unwrap-requires g c =
    let game = g.W.Worth.game c.args.game.now in
    let all =
    all_seen game.players c.players-players.result c.loop-next.s c.players-players.ensures.count
    c.in_default.ensures in
    some-from_top c.args.measure game c.args.x.now c.args.free c.loop-next.most (rw all at c.loop-next.invariant.1)
    c.requires.two

pub returns : goal.returns
returns g c =
    let game = g.W.Worth.game c.args.game.now in
    let all =
    all_seen game.players c.players-players.result c.loop-next.s c.players-players.ensures.count
    c.in_default.ensures in
    greatest_from_top c.args.measure game c.args.x.now (λ (t : ℕ). IsTrue (is_split game c.args.free t))
    c.loop-next.most c.unwrap.result (rw all at c.loop-next.invariant.1) c.unwrap.ensures
