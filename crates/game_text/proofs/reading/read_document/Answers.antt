use Rattle.std.proofs.Common.{◌≡◌, ◌≤◌, length, Some, subst, IsUtf8}
use Rattle.serde_json.specs.Read.{read}
use Rattle.serde_json.specs.View.{view}
use Rattle.game_text.specs.Text.{IsTextOf}
use Rattle.game_text.proofs.Chain.{from_tree}
use Rattle.game_text.proofs.KeptTrees.{kept_tree}
use Rattle.game_text.proofs.Counts.{share_each, its_players}
use Rattle.game_text.proofs.ScalesKept.{scale_kept}
use Rattle.game_text.proofs.reading.read_document.Goals as goal

pub returns-clause-reading : goal.returns-clause-reading
returns-clause-reading c =
    let tree = view c.in-Ok.tree in
    let text : IsTextOf c.args.bytes.now tree =
    subst (λ s. IsUtf8 s × (read s ≡ Some tree)) c.without_newline.ensures c.in-Ok.ensures.ok in
    from_tree c.args.command c.args.bytes.now tree
    (subst (λ n. length c.args.bytes.now ≤ n) c.document_limit.ensures.value c.if-bytes-document_limit.false) text
    c.document_of.result c.document_of.ensures

pub returns-clause-count : goal.returns-clause-count
returns-clause-count c = share_each c.args.command (view c.in-Ok.tree) c.document_of.result c.document_of.ensures

pub returns-clause-scale : goal.returns-clause-scale
returns-clause-scale c = scale_kept c.args.command (view c.in-Ok.tree) c.document_of.result c.document_of.ensures

pub returns-clause-players : goal.returns-clause-players
returns-clause-players c = its_players c.args.command (view c.in-Ok.tree) c.document_of.result c.document_of.ensures

pub returns-clause-kept : goal.returns-clause-kept
returns-clause-kept c =
    let tree = view c.in-Ok.tree in
    let text : IsTextOf c.args.bytes.now tree =
    subst (λ s. IsUtf8 s × (read s ≡ Some tree)) c.without_newline.ensures c.in-Ok.ensures.ok in
    kept_tree c.args.command c.args.bytes.now tree text.1 c.document_of.result c.document_of.ensures
