-- What stands under a number among the columns in front of those of the coalitions outside.
use Rattle.std.proofs.Common.{◌≡◌, ℕ, ◌+◌, ◌-◌, ◌*◌, ◌<◌, ◌≤◌, List, ◌++◌, length}
use Rattle.std.proofs.Common.{length-append, Option, None, ap, ◌∙◌, refl, arith}
use Rattle.std.proofs.lemmas.List.{get_or-append_right, get_or_append_left}
use Rattle.definitions.specs.Coalitions.{grand_coalition}
use Rattle.definitions.specs.Games.{Game}
use Rattle.definitions.specs.Certificates.{Level}
use Rattle.definitions.specs.declared.Family.{Family}
use Rattle.separation.specs.Stage.{earlier_of}
use Rattle.separation.specs.Kept.{column_at}
use Rattle.separation.specs.Making.{listed, earlier_columns, whole_columns, single, bound, inner_columns}
use Rattle.separation.specs.declared.column.Column.{Column}
use Rattle.separation.proofs.Counts.{columns_length}
use Rattle.separation.proofs.Slots.{length-listed, listed_at, past_at}

module _ (family : Family) (g : Game) (front : List Level) where
  abbrev n : ℕ
  n = g.players

  -- the number of columns of all players and of the levels' coalitions
  abbrev b : ℕ
  b = 2 + 2 * length (earlier_of 0 front)

  abbrev whole : List (Option Column)
  whole = whole_columns g (grand_coalition g.players)

  abbrev earlier : List (Option Column)
  earlier = earlier_columns g (earlier_of 0 front)

  abbrev singles : List (Option Column)
  singles = listed g.players (single family g)

  abbrev bounds : List (Option Column)
  bounds = listed g.players (bound family g front)

  length-one : length (whole ++ earlier) ≡ b
  length-one = let h = columns_length g (earlier_of 0 front) in omega (arith, h)

  length-two : length ((whole ++ earlier) ++ singles) ≡ b + n
  length-two =
      length-append (whole ++ earlier) singles
      ∙ (let x = length-one in let y = length-listed g.players (single family g) in omega arith)

  pub length-inner : length (inner_columns family g front) ≡ b + n + n
  length-inner =
      length-append ((whole ++ earlier) ++ singles) bounds
      ∙ (let x = length-two in let y = length-listed g.players (bound family g front) in omega arith)

  settled_at : (id : ℕ) → id < b → column_at (inner_columns family g front) id ≡ column_at (whole ++ earlier) id
  settled_at id lt =
      get_or_append_left ((whole ++ earlier) ++ singles) bounds None id (let x = length-two in omega arith)
      ∙ get_or_append_left (whole ++ earlier) singles None id (let x = length-one in omega arith)

  pub whole_at : (id : ℕ) → id < 2 → column_at (inner_columns family g front) id ≡ column_at whole id
  whole_at id lt = settled_at id (omega (arith, lt)) ∙ get_or_append_left whole earlier None id lt

  pub earlier_at : (id : ℕ) → 2 ≤ id → id < b
      → column_at (inner_columns family g front) id ≡ column_at earlier (id - 2)
  earlier_at id le lt = settled_at id lt ∙ get_or-append_right whole earlier 2 id None refl le

  pub single_at : (id : ℕ) → b ≤ id → id < b + n
      → column_at (inner_columns family g front) id ≡ single family g (id - b)
  single_at id le lt =
      get_or_append_left ((whole ++ earlier) ++ singles) bounds None id (let x = length-two in omega arith)
      ∙ get_or-append_right (whole ++ earlier) singles b id None length-one le
      ∙ listed_at g.players (id - b) (single family g) (omega arith)

  pub bound_at : (id : ℕ) → b + n ≤ id → id < b + n + n
      → column_at (inner_columns family g front) id ≡ bound family g front (id - b - n)
  bound_at id le lt =
      let d : id - (b + n) ≡ id - b - n = omega (arith, le) in
      get_or-append_right ((whole ++ earlier) ++ singles) bounds (b + n) id None length-two le
      ∙ ap (column_at bounds) d
      ∙ listed_at g.players (id - b - n) (bound family g front) (omega arith)

  pub none_at : (id : ℕ) → b + n + n ≤ id → column_at (inner_columns family g front) id ≡ None
  none_at id le = past_at (inner_columns family g front) id (let x = length-inner in omega arith)
