-- The game of the values in the table.
use Rattle.std.proofs.Common.{◌≡◌, ℕ, ◌+◌, ◌^◌, ◌<◌, ◌≤◌, List, ℤ, pos, unsigned_abs}
use Rattle.std.proofs.Common.{length}
use Rattle.std.proofs.Common.{refl, ap, ◌∙◌, arith, slice_index, get_or, to_z}
use Rattle.std.proofs.lemmas.Int.{ints, to_z_pos}
use Rattle.std.proofs.lemmas.List.{get_or_read}
use Rattle.std.proofs.lemmas.Nat.{pow_pos}
use mir.Syntax.{w64}
use Rattle.definitions.proofs.Members.{has_player-empty}
use Rattle.definitions.specs.Coalitions.{has_player}
use Rattle.definitions.specs.Games.{IsGame}
use Rattle.definitions.specs.Classes.{Matrix, IsAssignmentGame}
use Rattle.matrices.specs.Rows.{entries_of, HaveEntries}
use Rattle.matrices.proofs.Rows.{entries-small}
use Rattle.assignment_games.specs.Values.{optimal_value}
use Rattle.assignment_games.specs.Assignments.{IsAssignment, IsFilled, seller_count, assignment_game}
use Rattle.assignment_games.proofs.Matchings.{no_rows}
use Rattle.assignment_games.proofs.Optimal.{IsBestPart, optimal_value-is, optimal_value-few, same_optimal}
use Rattle.definitions.proofs.Parts.{has_player-within}

pub worth_optimal : (matrix : Matrix) (rows columns s : ℕ) → s < 2 ^ (rows + columns)
    → IsBestPart matrix rows columns rows (has_player s)
worth_optimal matrix rows columns s small =
    optimal_value-is matrix rows columns rows (has_player s) (omega arith)
    (λ j e. (let a = has_player-within (rows + columns) s (rows + j) small e in omega (arith, a))) (λ b lt e. lt)

pub assignment_is_game : (rows : List (List ℤ))
    → IsAssignmentGame (entries_of rows) (length rows) (assignment_game rows)
assignment_is_game rows s small =
    let h = worth_optimal (entries_of rows) (length rows) (seller_count rows) s small in (
      optimal_value (entries_of rows) (length rows) (seller_count rows) (length rows) (has_player s),
      refl,
      record { reached = h.reached; greatest = h.greatest },
    )

-- ---- sizes

optimal-few : (rows : List (List ℤ)) (p q s : ℕ) → HaveEntries rows → p ≤ 16
    → optimal_value (entries_of rows) p q p (has_player s) ≤ 2 ^ 44
optimal-few rows p q s h few =
    let le =
    optimal_value-few (entries_of rows) (2 ^ 40) p q
    (λ i j. let lt = entries-small rows i j h in omega (arith, lt)) p (has_player s) in
    omega (arith, few, le)

pub filled_is : (matrix : Matrix) (p q : ℕ) (values : List ℕ) (s t : ℕ) → s ≤ 2 ^ (p + q)
    → IsFilled matrix p values s → t < s → slice_index values t ≡ optimal_value matrix p q p (has_player t)
filled_is matrix p q values s t within filled lt =
    same_optimal matrix p (has_player t) (slice_index values t) (optimal_value matrix p q p (has_player t))
    (filled.1 t lt) (worth_optimal matrix p q t (omega (arith, within, lt)))

pub filled_few : (rows : List (List ℤ)) (p q : ℕ) (values : List ℕ) (s t : ℕ) → HaveEntries rows → p ≤ 16
    → s ≤ 2 ^ (p + q) → IsFilled (entries_of rows) p values s → t < s → slice_index values t ≤ 2 ^ 44
filled_few rows p q values s t h few within filled lt =
    let same = filled_is (entries_of rows) p q values s t within filled lt in
    let le = optimal-few rows p q t h few in
    omega (arith, same, le)

pub assignment_laws : (rows : List (List ℤ)) → IsAssignment rows → IsGame (assignment_game rows)
assignment_laws rows h =
    let some = h.players.0 in
    let few = h.players.2 in
    record {
      some = omega (arith, some);
      few = omega (arith, few);
      nobody =
          ap pos
          (same_optimal (entries_of rows) (length rows) (has_player 0)
          (optimal_value (entries_of rows) (length rows) (seller_count rows) (length rows) (has_player 0)) 0
          (worth_optimal (entries_of rows) (length rows) (seller_count rows) 0
          (pow_pos (length rows + seller_count rows)))
          (no_rows (entries_of rows) (length rows) (has_player 0) (λ b lt. has_player-empty b)));
      small = λ s lt.
          (let le = optimal-few rows (length rows) (seller_count rows) s h.entries (omega (arith, few)) in
          omega (arith, ints, le));
    }

-- ---- a worth that is read

pub worth_read : (rows : List (List ℤ)) (values : List ℕ) (s x : ℕ) → IsAssignment rows
    → IsFilled (entries_of rows) (length rows) values (2 ^ (length rows + seller_count rows))
    → s < 2 ^ (length rows + seller_count rows) → x ≡ get_or values s x
    → (to_z w64 x ≡ (assignment_game rows).worth s) × (unsigned_abs (pos x) < 2 ^ 63)
worth_read rows values s x h filled lt e =
    let len = filled.0 in
    let few = h.players.2 in
    let read = get_or_read values s x (omega (arith, len, lt)) e 0 in
    let whole : 2 ^ (length rows + seller_count rows) ≤ 2 ^ (length rows + seller_count rows) = omega arith in
    let is =
    filled_is (entries_of rows) (length rows) (seller_count rows) values (2 ^ (length rows + seller_count rows))
    s whole filled lt in
    let le =
    filled_few rows (length rows) (seller_count rows) values (2 ^ (length rows + seller_count rows)) s h.entries
    (omega (arith, few)) whole filled lt in
    (to_z_pos w64 x (omega (arith, read, le)) ∙ ap pos (read ∙ is), omega (arith, ints, read, le))
