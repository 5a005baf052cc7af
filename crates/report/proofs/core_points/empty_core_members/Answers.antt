use Rattle.std.proofs.Common.{◌≡◌, codes, ap, ◌∙◌, refl, rules}
use Rattle.serde_json.specs.Data.{string, member, no_members}
use Rattle.serde_json.specs.View.{members_view}
use Rattle.balanced_collections.specs.Collections.{CollectionData}
use Rattle.kohlberg.proofs.Kept.{kept}
use Rattle.report.specs.Values.{integer_data}
use Rattle.report.specs.Certificates.{weight_data, coalition_pairs}
use Rattle.report.proofs.MemberLists.{put_on, last_on}
use Rattle.report.proofs.core_points.empty_core_members.Goals as goal

pub returns : goal.returns
returns c =
    let k = c.args.scale in
    let collection = c.args.collection.now in
    let against : members_view c.in_ok-members.members.entries
    ≡ member (codes "against") (integer_data k c.args.against) no_members =
    put_on (codes "against") (integer_data k c.args.against) c.in_ok-members.ensures
    (ap (integer_data k) (kept c.args.against c.ranges.against.sfits))
    (ap members_view c.new.ensures.empty) in
    let answer = put_on (codes "answer") (string (codes "empty core")) c.in_ok-members-2.ensures refl against in
    let pairs =
    put_on (codes "collection") (coalition_pairs collection.weights) c.in_ok-members-3.ensures
    (ap coalition_pairs (c.deref.ensures.value ∙ ap (λ (d : CollectionData). d.weights) c.collection.view_is))
    answer in
    let total =
    put_on (codes "k") (weight_data collection.k) c.in_ok-members-4.ensures
    (c.weight_value.ensures ∙ search rules) pairs in
    last_on _ (codes "value") (integer_data k c.args.value) c.with_integer-2.result c.with_integer-2.ensures
    (ap (integer_data k) (kept c.args.value c.ranges.value.sfits)) total
