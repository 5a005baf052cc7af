use Rattle.std.proofs.Common.{◌≡◌, List, length, ℤ}
use Rattle.std.proofs.lemmas.List.Elements.{All-map}
use Rattle.matrices.proofs.Rows.{All-from_map}
use Rattle.matrices.proofs.have_length.Goals as goal

pub returns : goal.returns
returns c = (
  λ t. All-map (λ (row : List ℤ). length row ≡ c.args.columns) (λ row. row.items) c.args.matrix.now
      (c.are_long.ensures.0 t),
  λ h. c.are_long.ensures.1
      (All-from_map (λ (row : List ℤ). length row ≡ c.args.columns) (λ row. row.items) c.args.matrix.now h),
)
