-- What is said of the core is what is printed: a scheme's point is its nucleolus, and a collection's numbers are
-- small.
--
-- A scheme's shares are a core point, and they are certified, so they are the nucleolus too (`scheme_point`). The
-- numbers of a collection are sums of at most 64 products, far from the bounds of 128 bits (`printed_kept`). The usage
-- of players is right exactly above the limit (`core_limit`, `right_where_ok`).
use Rattle.std.proofs.Common.{◌≡◌, ℕ, ◌^◌, ◌<◌, ◌≤◌, Result, Ok, Err, IfOk, Bool}
use Rattle.std.proofs.Common.{List, [], ◌∷◌, ℤ}
use Rattle.std.proofs.Common.{unsigned_abs, to_z, of_z, ap, subst, ◌∙◌, arith, refl, inl}
use mir.Syntax.{w128}
use Rattle.std.specs.List.{AllByRecursion}
use Rattle.definitions.proofs.Casts.{cast_kept}
use Rattle.definitions.specs.Games.{Game, Allocation, InCore, IsNucleolus}
use Rattle.definitions.specs.Certificates.{HasForm, IsSmall}
use Rattle.definitions.specs.declared.Family.TheVariants.{Imputations}
use Rattle.definitions.specs.declared.Measure.TheVariants.{Plain}
use Rattle.definitions.specs.declared.Mode.{Mode}
use Rattle.definitions.specs.declared.Mode.TheVariants.{Players}
use Rattle.theorems.proofs.Soundness.{IsNucleolus-from_certificate}
use Rattle.kohlberg.specs.Certificate.{CertificateData, IsCertificate}
use Rattle.kohlberg.specs.Solved.{IsSolved}
use Rattle.balanced_collections.specs.Collections.{CollectionData, IsSmall as HasSmallParts}
use Rattle.definitions.specs.Balanced.{IsBalancedOfExcessWorth}
use Rattle.real_shares.specs.Claims.{HasNoCoreForReals}
use Rattle.real_shares.proofs.CoreOver.{collection_blocks_over}
use Rattle.real_shares.proofs.RealNumbers.{are_ordered}
use Rattle.report.specs.Limits.{HasSmallNumbers}
use Rattle.coop.specs.Judgement.{printed}
use Rattle.game_text.specs.Classes.{game_of}
use Rattle.game_text.specs.Documents.{Contents}
use Rattle.report.specs.declared.answer.Answer.{Answer}
use Rattle.report.specs.declared.answer.Answer.TheVariants.{Usage}
use Rattle.report.specs.declared.answer.UsageKind.TheVariants.{Players as too_many}
use Rattle.coop.specs.Classes.{core_limit}
use Rattle.coop.specs.CoreClaims.{FindsCore, SaysOfCore}

-- the point of a scheme is in the core, and is the nucleolus
pub scheme_point : (g : Game) (x : Allocation) (c : CertificateData) → InCore g x
    → IsSolved Players Imputations Plain g x c → IsCertificate c → InCore g x × IsNucleolus Imputations Plain g x
scheme_point g x c core solved limits =
    let form = subst (λ (m : Mode). HasForm m c.players c.levels) solved.in_mode limits.form in (
      core,
      IsNucleolus-from_certificate Players Imputations Plain g x c.levels (inl refl)
          (subst (λ (n : ℕ). HasForm Players n c.levels) solved.players form) solved.certifies,
    )

-- beside a balanced collection of excess worth there is no core point in real shares
pub no_core_for_reals : (g : Game) (c : CollectionData) → IsBalancedOfExcessWorth g c.weights c.k
    → HasNoCoreForReals g
no_core_for_reals g c balanced = λ N R y core.
    collection_blocks_over N (are_ordered N R) g y core c.weights c.k balanced

-- a number as it is printed
pub printed_kept : (are_costs : Bool) (z v w : ℤ) → unsigned_abs z < 2 ^ 117 → unsigned_abs v < 2 ^ 117
    → z ≡ printed are_costs (to_z w128 (of_z w128 v)) → v ≡ w → to_z w128 (of_z w128 z) ≡ printed are_costs w
printed_kept are_costs z v w small number value same =
    cast_kept w128 z (omega (arith, small)) ∙ value
    ∙ ap (printed are_costs) (cast_kept w128 v (omega (arith, number)) ∙ same)

small_weights : (ps : List (ℕ × ℤ)) → AllByRecursion (λ p. unsigned_abs p.1 < 2 ^ 62) ps
    → AllByRecursion (λ p. IsSmall p.1) ps
small_weights [] h = tt
small_weights (p ∷ ps) h = (let lt = h.0 in omega (arith, lt), small_weights ps h.1)

pub small_numbers : (n : ℕ) (c : CollectionData) → HasSmallParts n c → HasSmallNumbers c
small_numbers n c h = record { weights = small_weights c.weights h.weights; k = omega (arith, h.k) }

-- what is found for a game that hasn't too many players is right for the document
right_of_few : (d : Contents) → (game_of d.game).players ≤ core_limit d.game → (a : Answer) → FindsCore d a
    → SaysOfCore d a
right_of_few d taken (Usage too_many) h = absurd h
right_of_few d taken a h = (taken, h)

pub right_where_ok : {E : Type 0} (d : Contents) → (game_of d.game).players ≤ core_limit d.game
    → (r : Result Answer E)
    → IfOk r (FindsCore d) → IfOk r (SaysOfCore d)
right_where_ok d taken (Ok a) h = right_of_few d taken a h
right_where_ok d taken (Err e) h = tt
