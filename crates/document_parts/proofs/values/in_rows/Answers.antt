use Rattle.std.proofs.Common.{◌≡◌, ◌+◌, ◌-◌, length, map, take, drop, sym, ap, ◌∙◌, arith}
use Rattle.std.proofs.lemmas.List.{length-map, map-append}
use Rattle.serde_json.specs.View.{view}
use Rattle.json_trees.specs.Trees.{parts}
use Rattle.document_parts.proofs.PartsRead.{row_more, row_fits}
use Rattle.document_parts.proofs.values.in_rows.Goals as goal

pub loop-array-preserved : goal.loop-array-preserved
loop-array-preserved c =
    let v = c.array-item.result in
    let i = c.loop-array.array-index in
    let from = c.loop-array.from in
    let zs = c.args.numbers.now in
    let n : length c.parts.result.now ≡ length (parts (view v)) =
    sym (length-map c.parts.result.now view) ∙ ap length c.parts.ensures in
    let size : from + length c.parts.result.now - from ≡ length (parts (view v)) = omega (arith, n) in
    let cut : c.in_ok-from_slice.field-0.items ≡ take (from + length c.parts.result.now - from) (drop from zs) =
    c.in_ok-from_slice.ensures.items in
    let fits = row_fits c.args.arrays.now i from (length zs) v c.loop-array-test.true c.array-item.is
    c.loop-array.invariant.enough in
    record {
      rows =
          row_more c.args.arrays.now zs i from (from + length c.parts.result.now) v
          (map (λ row. row.items) c.loop-array.rows.items) (map (λ row. row.items) c.push.new.self.items)
          c.in_ok-from_slice.field-0.items _ c.loop-array-test.true c.array-item.is c.loop-array.invariant.rows
          (ap (λ k. from + k) n) (cut ∙ ap (λ k. take k (drop from zs)) size)
          (ap (map (λ row. row.items)) c.in_ok-push.ensures.items
          ∙ map-append (λ row. row.items) c.loop-array.rows.items _);
      enough = omega (arith, fits, n);
    }
