-- A nucleolus that was printed is read with its game, its family, its shares and its certificate.
use Rattle.std.proofs.Common.{◌≡◌, length, map, Bool, true, ◌&&◌, Option, Some}
use Rattle.std.proofs.Common.{None, codes, refl, sym, ap, ◌∙◌, subst}
use Rattle.std.specs.Prelude.{is_some, unwrap_or}
use Rattle.std.proofs.lemmas.Bool.{and_from}
use Rattle.serde_json.specs.Data.{Data}
use Rattle.serde_json.specs.Find.{get}
use Rattle.definitions.specs.Games.{Allocation, IsShares}
use Rattle.definitions.specs.declared.Family.{Family}
use Rattle.definitions.specs.declared.Family.TheVariants.{Imputations, Preimputations}
use Rattle.kohlberg.specs.Certificate.{CertificateData, IsCertificate}
use Rattle.json_trees.specs.Keys.{has_only_keys}
use Rattle.json_trees.specs.Trees.{passes, parts_at}
use Rattle.certificate_texts.specs.Shape.{family_of, is_certificate}
use Rattle.game_text.specs.Shape.{document_keys, is_game_shaped, has_shares, has_needed, is_shaped}
use Rattle.game_text.specs.Classes.{players, has_players, has_numbers, own_test, game_of, is_cost, description_of}
use Rattle.game_text.specs.Names.{has_names}
use Rattle.document_parts.specs.Scales.{scale_of}
use Rattle.document_parts.specs.Shares.{has_share_numbers, has_shares_for, scaled_shares, as_worth}
use Rattle.document_parts.specs.Denominators.{keep_limits, over_least}
use Rattle.game_text.specs.Denominators.{shares_of, contents_of, tree_refusal}
use Rattle.certificate_texts.specs.Certificates.{has_form, certificate_of}
use Rattle.game_text.specs.Documents.{game_tree}
use Rattle.game_text.specs.Refusals.{unless}
use Rattle.game_text.specs.Steps.{own_refusal, certificate_refusal, needed_refusal, late_refusal}
use Rattle.game_text.specs.declared.command.Command.{Command}
use Rattle.game_text.specs.declared.command.Command.TheVariants.{Check}
use Rattle.kinds.specs.declared.refusal.Refusal.{Refusal}
use Rattle.kinds.specs.declared.refusal.Refusal.TheVariants.{Shape, Players, Number, Names}
use Rattle.kinds.specs.declared.refusal.Refusal.TheVariants.{Proposal, TooFine, Certificate}
use Rattle.report.specs.Certificates.{certificate_tree}
use Rattle.report.specs.ShareLists.{share_data}
use Rattle.report.specs.Lines.{nucleolus_tree}
use Rattle.reading_back.specs.ReadBack.{IsAgain, AreReadBack}
use Rattle.reading_back.specs.CertificatesReadBack.{AreInLowestTerms, IsReadAs}
use Rattle.reading_back.specs.DocumentsReadBack.{IsReadOf}
use Rattle.json_trees.proofs.Values.{listed-items_of}
use Rattle.reading_back.proofs.ShareTexts.{listed_members}
use Rattle.reading_back.proofs.Again.{are_read_back}
use Rattle.reading_back.proofs.CertificateTrees.{certificate_read}
use Rattle.game_text.proofs.Counts.{players_described}
use Rattle.reading_back.proofs.AcceptedGames.{IsAccepted, accepted, accepted_scale}

go_on : (b : Bool) (r : Refusal) (rest : Option Refusal) → b ≡ true → rest ≡ None → unless b r rest ≡ None
go_on b r rest e h = ap (λ t. unless t r rest) e ∙ h

module _ (family : Family) (game : Data) (b : Bool) (x : Allocation) (c : CertificateData) where
  abbrev printed : Data
  printed = nucleolus_tree (scale_of game) family game b x c

  family_read : family_of printed ≡ Some family
  family_read = named family
    where
      named : (f : Family) → family_of (nucleolus_tree (scale_of game) f game b x c) ≡ Some f
      named Imputations = refl
      named Preimputations = refl

  shares_written : parts_at (codes "shares") printed ≡ map (share_data (scale_of game) b x.den) x.shares
  shares_written = listed-items_of (map (share_data (scale_of game) b x.den) x.shares)

  module _ (accept : IsAccepted game) (shares : AreReadBack (scale_of game) b x printed)
      (read : IsReadAs (scale_of game) c (certificate_tree (scale_of game) c)) (each : length x.shares ≡ players game)
      (same : c.players ≡ players game) where
    needed : has_needed Check printed ≡ true
    needed =
        and_from (has_shares printed && is_some (family_of printed))
        (passes is_certificate (get (codes "certificate") printed))
        (and_from (has_shares printed) (is_some (family_of printed))
        (listed_members (scale_of game) b x.den x.shares) (ap is_some family_read)) read.shaped

    shaped : is_shaped Check printed ≡ true
    shaped =
        and_from (has_only_keys document_keys printed && passes is_game_shaped (get (codes "game") printed))
        (has_needed Check printed)
        (and_from (has_only_keys document_keys printed) (passes is_game_shaped (get (codes "game") printed)) refl
        accept.shaped) needed

    certified : certificate_refusal Check game printed ≡ None
    certified =
        go_on (passes (has_form (scale_of game) (players game)) (get (codes "certificate") printed)) Certificate
        None
        (subst (λ n. has_form (scale_of game) n (certificate_tree (scale_of game) c) ≡ true) same read.formed) refl

    proposed : needed_refusal Check game printed ≡ None
    proposed =
        let rest = certificate_refusal Check game printed in
        go_on (has_shares_for (players game) printed) Proposal
        (unless (keep_limits (scaled_shares (scale_of game) printed)) TooFine rest)
        (subst (λ n. has_shares_for n printed ≡ true) each shares.enough)
        (go_on (keep_limits (scaled_shares (scale_of game) printed)) TooFine rest shares.coarse certified)

    late : late_refusal Check game printed ≡ None
    late =
        let rest = needed_refusal Check game printed in
        go_on (has_names game) Names (own_refusal game rest) accept.names
        (go_on (own_test game).1 (own_test game).0 rest accept.own proposed)

    pub not_refused : tree_refusal Check printed ≡ None
    not_refused =
        let numbers = has_numbers game && has_share_numbers printed in
        let number = unless numbers Number (late_refusal Check game printed) in
        go_on (is_shaped Check printed) Shape (unless (has_players game) Players number) shaped
        (go_on (has_players game) Players number accept.players
        (go_on numbers Number (late_refusal Check game printed)
        (and_from (has_numbers game) (has_share_numbers printed) accept.numbers shares.numbers) late))

    certificate : certificate_of (scale_of game) (players game) (certificate_tree (scale_of game) c) ≡ c
    certificate =
        ap (λ n. certificate_of (scale_of game) n (certificate_tree (scale_of game) c)) (sym same) ∙ read.same

    pub contents : b ≡ is_cost (description_of game) → IsReadOf family game x c (contents_of Check printed)
    contents e = record {
      game = refl;
      tree = refl;
      measure = refl;
      scale = refl;
      family = ap (λ o. Some (unwrap_or o Imputations)) family_read;
      shares = (
        shares_of game printed,
        refl,
        subst (λ t. IsAgain x (as_worth t (over_least (scaled_shares (scale_of game) printed)))) e shares.again,
      );
      certificate = ap Some certificate;
    }

pub printed_is_read : (command : Command) (document : Data) (family : Family) (x : Allocation) (c : CertificateData)
    → tree_refusal command document ≡ None
    → IsShares x → length x.shares ≡ (game_of (description_of (game_tree document))).players
    → IsCertificate c → c.players ≡ (game_of (description_of (game_tree document))).players
    → AreInLowestTerms c.levels
    → (tree_refusal Check
    (nucleolus_tree (scale_of (game_tree document)) family (game_tree document)
    (is_cost (description_of (game_tree document))) x c) ≡ None)
    × IsReadOf family (game_tree document) x c
    (contents_of Check
    (nucleolus_tree (scale_of (game_tree document)) family (game_tree document)
    (is_cost (description_of (game_tree document))) x c))
printed_is_read command document family x c passed s each h same e =
    let game = game_tree document in
    let b = is_cost (description_of game) in
    let accept = accepted command document passed in
    let scale = accepted_scale game accept.numbers in
    let shares =
    are_read_back (scale_of game) b x (nucleolus_tree (scale_of game) family game b x c) scale s
    (shares_written family game b x c) in
    let read = certificate_read (scale_of game) c scale h e in
    let of_each = each ∙ players_described game in
    let of_same = same ∙ players_described game in (
      not_refused family game b x c accept shares read of_each of_same,
      contents family game b x c accept shares read of_each of_same refl,
    )
