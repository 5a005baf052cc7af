use Rattle.std.proofs.Common.{◌≡◌, ◌^◌, ◌<◌, ◌≤◌, false, ℤ, ◌≤ℤ◌, int_lt, to_z, of_z}
use Rattle.std.proofs.Common.{sym, ap, ◌∙◌, arith}
use Rattle.std.proofs.lemmas.Bool.{false≢true}
use Rattle.std.proofs.lemmas.Int.{to_z-of_z}
use Rattle.std.proofs.Math.Facts.{sfits_lit, yes_ltb}
use lib.Signed.{mag}
use Rattle.definitions.proofs.Ring.{linear}
use mir.Syntax.{w64}
use denote.Enum.Bare.{sameb}
use Rattle.definitions.specs.contracts.Family.{the_type}
use Rattle.definitions.specs.Games.{Game}
use Rattle.definitions.specs.Coalitions.{grand_coalition}
use Rattle.definitions.specs.declared.Family.{Family}
use Rattle.definitions.specs.declared.Family.TheVariants.{Imputations, Preimputations}
use Rattle.nested_programs.specs.Answer.{singles, HasMember}
use Rattle.nested_programs.proofs.Members.{imputation, preimputation}
use Rattle.nested_programs.proofs.found.lacks_imputation.Goals as goal
use Rattle.nested_programs.proofs.found.lacks_imputation.Goals.{else-eq-via-then-eq+else-sum-total}
use Rattle.nested_programs.proofs.found.lacks_imputation.Goals.{else-eq-via-else-eq}

cast_same : (r : ℤ) → mag r < 2 ^ 63 → to_z w64 (of_z w64 r) ≡ r
cast_same r h = to_z-of_z w64 r (sfits_lit (yes_ltb h))

not_above : (a b s w : ℤ) → int_lt b a ≡ false → a ≡ s → b ≡ w → s ≤ℤ w
not_above a b s w h e f = omega (arith, linear)

of_low : (family : Family) (g : Game) → 1 ≤ g.players → singles g ≤ℤ g.worth (grand_coalition g.players)
    → HasMember family g
of_low Imputations g some low = imputation g some low
of_low Preimputations g some low = preimputation g some

of_other : (family : Family) (g : Game) → 1 ≤ g.players → sameb the_type family Imputations ≡ false
    → HasMember family g
of_other Imputations g some e = absurd (false≢true (sym e))
of_other Preimputations g some e = preimputation g some

pub returns-else-eq : goal.returns-else-eq
returns-else-eq g c =
    let game = g.W.Worth.game c.args.game.now in
    let laws = c.players.ensures.laws in
    let sum : to_z w64 (of_z w64 c.singles-sum.result) ≡ singles game =
    cast_same c.singles-sum.result c.singles-sum.type_inv ∙ c.singles-sum.ensures in
    let all : c.all.result ≡ grand_coalition game.players =
    c.all.ensures ∙ ap grand_coalition c.players.ensures.count in
    let total : to_z w64 (of_z w64 c.worth-total.result) ≡ game.worth (grand_coalition game.players) =
    cast_same c.worth-total.result c.worth-total.type_inv ∙ c.worth-total.ensures ∙ ap game.worth all in
    elim c.else-eq.branch [
      | else-eq-via-then-eq+else-sum-total w ↦ of_low c.args.family game laws.some
          (not_above _ _ (singles game) (game.worth (grand_coalition game.players)) w.if-sum-total.false sum total)
      | else-eq-via-else-eq w ↦ of_other c.args.family game laws.some (sym c.eq.ensures ∙ w.if-eq.false)
    ]
