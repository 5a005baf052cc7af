-- The line of what a solver found can be checked.
--
-- 1. The game's tree was read, so it is exact, nested at most 8 deep and written in no more bytes (`IsKept`). With
--    levels of at most 128 entries the line is at most 2 MiB longer than the game's text, so the limit of `check` is
--    kept.
-- 2. Each printed share is read from its text. Each printed denominator divides the least common one, and that divides
--    the denominator of the shares. So the numerators get no greater, and the shares are the same.
-- 3. The members of a coalition, ascending, are read as its mask, and weights and totals from their texts. The tests of
--    the form pass, because the certificate has its form.
-- 4. So no refusal applies. Each condition is an equation or a comparison of fractions, so the same shares over another
--    denominator meet it too.
use Rattle.std.proofs.Common.{◌≡◌, ℕ, ℤ, pos, ◌+◌, ◌≤◌, List, [], ◌∷◌, length}
use Rattle.std.proofs.Common.{Bool, true}
use Rattle.std.proofs.Common.{None, sym, ap, subst, ◌∙◌, length-append, arith}
use Rattle.std.specs.List.{AllByRecursion}
use Rattle.serde_json.specs.Data.{Data}
use Rattle.serde_json.specs.View.{view}
use Rattle.serde_json.specs.Written.{compact_text}
use Rattle.serde_json.specs.declared.value.Value.{Value}
use Rattle.definitions.specs.Games.{Allocation, IsAllocation, IsShares}
use Rattle.definitions.specs.Certificates.{Level, HasForm, Certifies}
use Rattle.definitions.specs.declared.Family.{Family}
use Rattle.kohlberg.specs.Certificate.{CertificateData, IsCertificate}
use Rattle.game_text.specs.Classes.{description_of, game_of, is_cost}
use Rattle.game_text.specs.Documents.{Contents, game_tree}
use Rattle.game_text.specs.Denominators.{contents_of, tree_refusal}
use Rattle.game_text.specs.Text.{document_limit}
use Rattle.game_text.specs.declared.command.Command.TheVariants as command
use Rattle.report.specs.Certificates.{excess_of}
use Rattle.report.specs.Lines.{nucleolus_tree, line}
use Rattle.report.specs.ReadingBack.{ExcessesAreReadBack}
use Rattle.report.specs.declared.answer.Answer.TheVariants.{Nucleolus}
use Rattle.report.specs.Limits.{IsScale}
use Rattle.report.proofs.Readers.{scaled_fractions_read_back, nucleoli_short}
use Rattle.reading_back.proofs.AcceptedGames.{accepted as accepted_game, accepted_scale}
use Rattle.document_parts.specs.Scales.{scale_of}
use Rattle.report.specs.Limits.{IsFine}
use Rattle.coop.proofs.FineLevels.{fine_levels}
use Rattle.reading_back.specs.CertificatesReadBack.{AreInLowestTerms}
use Rattle.reading_back.specs.DocumentsReadBack.{IsReadOf}
use Rattle.reading_back.proofs.NucleolusTrees.{printed_is_read}
use Rattle.reading_back.proofs.SameLevels.{same_certify}
use Rattle.coop.specs.Needs.{IsAccepted}
use Rattle.coop.specs.ReadBack.{SaysSame, CanBeChecked}
use Rattle.kohlberg.specs.Solved.{HasFew, IsLowest, IsSolved}
use Rattle.document_parts.specs.Excess.{measure_of}
use Rattle.coop.specs.Classes.{serves_class}
use Rattle.coop.specs.Limits.{check_limit}
use Rattle.coop.specs.Headline.{IsWithinLimit}
use Rattle.definitions.proofs.Families.{allocation_of}
use Rattle.coop.proofs.PlayerLimits.{within_check}

-- ---- the levels

all_lowest : (ls : List Level) → AllByRecursion IsLowest ls → AllByRecursion (λ l. IsFine l.excess_den) ls
    → AreInLowestTerms ls
all_lowest [] h fine = tt
all_lowest (l ∷ ls) h fine = (record { reduced = h.0.0; fits = h.0.1; fine = fine.0 }, all_lowest ls h.1 fine.1)

all_read_back : (k : ℕ) → IsScale (pos k) → (ls : List Level) → AreInLowestTerms ls → ExcessesAreReadBack k ls
all_read_back k s [] h = tt
all_read_back k s (l ∷ ls) h =
    ((scaled_fractions_read_back k (excess_of l) s h.0.reduced h.0.fits.0 h.0.fine).0, all_read_back k s ls h.1)

all_few : (n : ℕ) → n ≤ 64 → (ls : List Level) → AllByRecursion (HasFew n) ls
    → AllByRecursion (λ l. length l.coalitions + length l.earlier + length l.bounds ≤ 128) ls
all_few n few [] h = tt
all_few n few (l ∷ ls) h = (omega (arith, h.0), all_few n few ls h.1)

-- ---- the line

module _ (family : Family) (d : Contents) (value : Value) (are_costs : Bool) (x : Allocation) (c : CertificateData)
    (accepted : IsAccepted d) (same : view value ≡ d.tree) (signs : are_costs ≡ is_cost d.game)
    (s : IsShares x) (h : IsCertificate c) (found : IsSolved c.mode family d.measure (game_of d.game) x c)
    (taken : IsWithinLimit d) (served : serves_class command.Check d.game ≡ true) where
  allocation : IsAllocation (game_of d.game) x
  allocation = allocation_of family (game_of d.game) x found.certifies.0

  certified : Certifies c.mode family d.measure (game_of d.game) x c.levels
  certified = found.certifies

  -- the game of the document, its tree and its signs are those that are printed
  printed_game : game_tree accepted.document ≡ view value
  printed_game = sym (same ∙ accepted.same)

  printed_signs : is_cost (description_of (game_tree accepted.document)) ≡ are_costs
  printed_signs = sym (signs ∙ ap is_cost accepted.described)

  abbrev Reads : Data → Bool → Type 0
  Reads g b =
      (tree_refusal command.Check (nucleolus_tree (scale_of g) family g b x c) ≡ None)
      × IsReadOf family g x c (contents_of command.Check (nucleolus_tree (scale_of g) family g b x c))

  -- the excesses are in lowest terms, over denominators that can be printed over a scale
  in_lowest_terms : AreInLowestTerms c.levels
  in_lowest_terms =
      all_lowest c.levels found.lowest (fine_levels c.mode family d.measure (game_of d.game) x c s h found)

  -- the scale that the line is printed over
  printed_scale : IsScale (pos (scale_of (view value)))
  printed_scale =
      subst (λ (g : Data). IsScale (pos (scale_of g))) printed_game
      (accepted_scale (game_tree accepted.document)
      (accepted_game accepted.command accepted.document accepted.passed).numbers)

  scale_said : d.scale ≡ pos (scale_of (view value))
  scale_said = accepted.scaled ∙ ap (λ (g : Data). pos (scale_of g)) printed_game

  is_read : Reads (view value) are_costs
  is_read =
      let counted = ap (λ e. (game_of e).players) accepted.described in
      let first : Reads (game_tree accepted.document) (is_cost (description_of (game_tree accepted.document))) =
      printed_is_read accepted.command accepted.document family x c accepted.passed s (allocation.0 ∙ counted) h
      (found.players ∙ counted) in_lowest_terms in
      let second : Reads (view value) (is_cost (description_of (game_tree accepted.document))) =
      subst (λ (g : Data). Reads g (is_cost (description_of (game_tree accepted.document)))) printed_game
      first in
      subst (λ (b : Bool). Reads (view value) b) printed_signs second

  -- the line is short
  is_short : length (line (pos (scale_of (view value))) (Nucleolus family value are_costs x c))
      ≤ document_limit command.Check
  is_short =
      let players = found.players in
      let text =
      nucleoli_short (scale_of (view value)) family (view value) are_costs x c printed_scale s h
      (all_read_back (scale_of (view value)) printed_scale c.levels in_lowest_terms)
      (all_few (game_of d.game).players (omega (arith, players, h.few)) c.levels found.few) in
      let game =
      subst (λ (t : Data). length (compact_text t) ≤ document_limit command.Nucleolus) (sym same)
      accepted.short in
      omega (
        arith,
        text,
        game,
        length-append (compact_text (nucleolus_tree (scale_of (view value)) family (view value) are_costs x c))
            (10 ∷ []),
      )

  says_the_same : (e : Contents) → IsReadOf family (view value) x c e → SaysSame family (view value) x c e
  says_the_same e of =
      let again = of.shares.2 in
      let games : d.game ≡ e.game = accepted.described ∙ ap description_of printed_game ∙ sym of.game in
      let measures : d.measure ≡ e.measure = accepted.measured ∙ ap measure_of printed_game ∙ sym of.measure in
      let count = ap (λ g. (game_of g).players) games in
      let here = subst (λ g. IsAllocation (game_of g) x) games allocation in
      let checked : (game_of d.game).players ≤ check_limit d.measure =
      omega (arith, taken, within_check d.measure d.game) in
      record {
        tree = of.tree;
        game = of.game;
        measure = of.measure;
        scale = of.scale;
        served = subst (λ g. serves_class command.Check g ≡ true) games served;
        taken =
            subst (λ m. (game_of e.game).players ≤ check_limit m) measures
            (subst (λ g. (game_of g).players ≤ check_limit d.measure) games checked);
        shares = of.shares.0;
        evidence = record { family = of.family; shares = of.shares.1; certificate = of.certificate };
        same = again.same (game_of e.game) here;
        players = found.players ∙ count;
        form = subst (λ (n : ℕ). HasForm c.mode n c.levels) (found.players ∙ count) h.form;
        certifies =
            same_certify c.mode family e.measure (game_of e.game) x of.shares.0 c.levels
            (again.allocation (game_of e.game) here) (again.same (game_of e.game) here)
            (subst (λ m. Certifies c.mode family m (game_of e.game) x c.levels) measures
            (subst (λ g. Certifies c.mode family d.measure (game_of g) x c.levels) games certified));
      }

  pub can_be_checked : CanBeChecked d.scale (Nucleolus family value are_costs x c) family (view value) x c
  can_be_checked =
      subst (λ (k : ℤ). CanBeChecked k (Nucleolus family value are_costs x c) family (view value) x c)
      (sym scale_said)
      (record { short = is_short; passed = is_read.0; says = says_the_same _ is_read.1 })
