use Rattle.std.proofs.Common.{◌≡◌, ℕ, ℤ, List, codes, ap, sym, subst, ◌∙◌, rules}
use Rattle.std.specs.List.{AllByRecursion}
use Rattle.serde_json.specs.Data.{member, no_members}
use Rattle.serde_json.specs.View.{members_view}
use Rattle.definitions.specs.Certificates.{Level, IsSmall}
use Rattle.report.specs.Values.{scaled_data}
use Rattle.report.specs.Certificates.{weight_data, coalition_pairs, bound_pairs, excess_of}
use Rattle.report.proofs.MemberLists.{put_on, last_on}
use Rattle.report.proofs.nucleolus.level_members.Goals as goal

pub returns : goal.returns
returns c =
    let level = c.args.level.now in
    let bounds : members_view c.in_ok-members.members.entries
    ≡ member (codes "bounds") (bound_pairs level.bounds) no_members =
    put_on (codes "bounds") (bound_pairs level.bounds) c.in_ok-members.ensures
    (ap bound_pairs (c.deref.ensures.value ∙ ap (λ (l : Level). l.bounds) c.level.view_is))
    (ap members_view c.new.ensures.empty) in
    let coalitions =
    put_on (codes "coalitions") (coalition_pairs level.coalitions) c.in_ok-members-2.ensures
    (ap coalition_pairs (c.deref-2.ensures.value ∙ ap (λ (l : Level). l.coalitions) c.level.view_is))
    bounds in
    let earlier =
    put_on (codes "earlier") (coalition_pairs level.earlier) c.in_ok-members-3.ensures
    (ap coalition_pairs (c.deref-3.ensures.value ∙ ap (λ (l : Level). l.earlier) c.level.view_is))
    coalitions in
    let excess =
    put_on (codes "excess") (scaled_data c.args.scale (excess_of level)) c.in_ok-members-4.ensures
    (ap (λ (l : Level). scaled_data c.args.scale (excess_of l)) c.level.view_is) earlier in
    last_on _ (codes "total") (weight_data level.total) c.with.result c.with.ensures
    (c.weight_value.ensures ∙ search rules) excess

pub with_weights-requires : goal.with_weights-requires
with_weights-requires c =
    subst (λ (ps : List (ℕ × ℤ)). AllByRecursion (λ p. IsSmall p.1) ps)
    (sym (c.deref.ensures.value ∙ ap (λ (l : Level). l.bounds) c.level.view_is)) c.requires.small.bounds

pub with_weights-requires-2 : goal.with_weights-requires-2
with_weights-requires-2 c =
    subst (λ (ps : List (ℕ × ℤ)). AllByRecursion (λ p. IsSmall p.1) ps)
    (sym (c.deref-2.ensures.value ∙ ap (λ (l : Level). l.coalitions) c.level.view_is)) c.requires.small.coalitions

pub with_weights-requires-3 : goal.with_weights-requires-3
with_weights-requires-3 c =
    subst (λ (ps : List (ℕ × ℤ)). AllByRecursion (λ p. IsSmall p.1) ps)
    (sym (c.deref-3.ensures.value ∙ ap (λ (l : Level). l.earlier) c.level.view_is)) c.requires.small.earlier
