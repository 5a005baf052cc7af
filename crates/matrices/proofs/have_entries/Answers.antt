use Rattle.std.proofs.Common.{All}
use Rattle.std.proofs.lemmas.List.Elements.{All-map}
use Rattle.orders.specs.Numbers.{IsNumber}
use Rattle.matrices.proofs.Rows.{All-from_map}
use Rattle.matrices.proofs.have_entries.Goals as goal

pub returns : goal.returns
returns c = (
  λ t. All-map (All IsNumber) (λ row. row.items) c.args.matrix.now (c.are_rows.ensures.0 t),
  λ h. c.are_rows.ensures.1 (All-from_map (All IsNumber) (λ row. row.items) c.args.matrix.now h),
)
