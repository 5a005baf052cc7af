use Rattle.std.proofs.Common.{◌≡◌, ◌<◌, ◌≤◌, ◌^◌, length, None, Some, true, false, pos, refl, sym, ap, ◌∙◌}
use Rattle.std.proofs.Common.{rules, is_some, to_z, of_z, w64, get_or}
use Rattle.serde_json.specs.View.{view}
use Rattle.json_trees.specs.Trees.{pair_members}
use Rattle.document_parts.specs.Members.{mask_of}
use Rattle.document_parts.proofs.Filling.{pair_without_mask, pair_again, pair_more, pairs_over}
use Rattle.std.proofs.lemmas.List.{get_or_read_under}
use Rattle.document_parts.proofs.table.filled.Goals as goal

pub returns-in_default-clause-none : goal.returns-in_default-clause-none
returns-in_default-clause-none c =
    let e : None ≡ mask_of c.args.players c.args.names.now (pair_members (view c.index-pairs-i.result)) =
    c.in_default.ensures.mask ∙ ap (mask_of c.args.players c.args.names.now) c.pair_members.ensures in
    let lt : c.loop-i.i < length c.args.pairs.now = search rules in
    pair_without_mask c.args.players c.args.names.now c.args.pairs.now c.args.numbers.now c.requires.each c.loop-i.i
    c.index-pairs-i.result _ lt c.index-pairs-i.is refl c.loop-i.slots.items c.loop-i.invariant e

pub returns-then-is_some-clause-none : goal.returns-then-is_some-clause-none
returns-then-is_some-clause-none c =
    let m = c.s.inside.0 in
    let same : m ≡ c.in-Some.s = c.s.view_is in
    let e : Some m ≡ mask_of c.args.players c.args.names.now (pair_members (view c.index-pairs-i.result)) =
    ap Some same ∙ c.in-Some.ensures.mask
    ∙ ap (mask_of c.args.players c.args.names.now) c.pair_members.ensures in
    let within : m < 2 ^ c.args.players = rw same c.in-Some.ensures.within in
    let at : c.index.result.now ≡ get_or c.loop-i.slots.items m None =
    get_or_read_under c.loop-i.slots.items m (2 ^ c.args.players) c.index.result.now None c.index.ensures within
    (sym c.loop-i.invariant.size) in
    let there : is_some (get_or c.loop-i.slots.items m None) ≡ true =
    ap is_some (sym at) ∙ sym c.is_some.ensures ∙ c.if-is_some.true in
    let lt : c.loop-i.i < length c.args.pairs.now = search rules in
    pair_again c.args.players c.args.names.now c.args.pairs.now c.args.numbers.now c.requires.each c.loop-i.i
    c.index-pairs-i.result _ lt c.index-pairs-i.is refl c.loop-i.slots.items c.loop-i.invariant m e within there

pub loop-i-preserved : goal.loop-i-preserved
loop-i-preserved c =
    let m = c.s.inside.0 in
    let same : m ≡ c.in-Some.s = c.s.view_is in
    let e : Some m ≡ mask_of c.args.players c.args.names.now (pair_members (view c.index-pairs-i.result)) =
    ap Some same ∙ c.in-Some.ensures.mask
    ∙ ap (mask_of c.args.players c.args.names.now) c.pair_members.ensures in
    let within : m < 2 ^ c.args.players = rw same c.in-Some.ensures.within in
    let at : c.index.result.now ≡ get_or c.loop-i.slots.items m None = search rules in
    let free : is_some (get_or c.loop-i.slots.items m None) ≡ false =
    ap is_some (sym at) ∙ sym c.is_some.ensures ∙ c.if-is_some.false in
    let lt : c.loop-i.i < length c.args.pairs.now = search rules in
    let z = get_or c.args.numbers.now c.loop-i.i (pos 0) in
    let kept : to_z w64 (of_z w64 z) ≡ z = search rules in
    rw kept
    (pair_more c.args.players c.args.names.now c.args.pairs.now c.args.numbers.now c.requires.each c.loop-i.i
    c.index-pairs-i.result z lt c.index-pairs-i.is refl c.loop-i.slots.items c.loop-i.invariant m e within free)

pub returns-clause-some : goal.returns-clause-some
returns-clause-some c =
    let over : length c.args.pairs.now ≤ c.loop-i.i = search rules in
    pairs_over c.args.players c.args.names.now c.args.pairs.now c.args.numbers.now c.loop-i.i c.loop-i.slots.items
    c.requires.each over c.loop-i.invariant
