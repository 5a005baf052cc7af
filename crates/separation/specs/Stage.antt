-- The stage programs of the nucleolus: behind the levels in front, the least greatest measured excess of the coalitions
-- outside (Kopelowitz 1967, Kohlberg 1972; per head Grotte 1970). With m coalitions in the levels, t counting them in
-- their order, and b = 2 + 2m:
--
--   number       entries                                                cost
--   0            1 for each player                                      worth of all
--   2 + 2t       vector of coalition t, its divisor in its level's row  its worth
--   odd below b  the column before it, negated                          its cost negated
--   b + i        1 for player i; imputations only                       worth of i alone
--   b + n + i    -1 for player i, if a level bounds i                   that worth negated
--   b + 2n + s   vector of s, its divisor in the last row; s outside    worth of s
--
-- The divisor is what the measure divides the excess of the coalition by: 1, or the number of members.
--
--   SignedVector              what a column has in the rows: a coalition and its level row, or this negated
--   signed, plus_entry        a number or minus it; the entry of a column that isn't negated
--   entry_of                  the entry of a column in a row
--   earlier_of, doubled       the coalitions of the levels with their levels; each as a column, and negated
--   settled_columns           the columns below b
--   further_column            those from b on, by how far they are past it
--   no_column, column         an empty column; the column of a number
--   is_imputations            the family is the imputations
--   is_further                there is a column so far past b
--   stage_program             the program of all these
use Rattle.std.specs.Prelude.{ℕ, ◌+◌, ◌-◌, Bool, true, false, ◌&&◌, nat_eq, nat_lt, List}
use Rattle.std.specs.Prelude.{[], ◌∷◌, ◌++◌}
use Rattle.std.specs.Prelude.{length, map, ℤ, pos, ◌-ℤ◌, if◌then◌else◌, slice_index_or}
use Rattle.definitions.specs.Coalitions.{has_player, singleton, grand_coalition}
use Rattle.definitions.specs.Measures.{divisor}
use Rattle.definitions.specs.Games.{Game}
use Rattle.definitions.specs.Certificates.{Level, has_bound}
use Rattle.definitions.specs.Programs.{Program}
use Rattle.definitions.specs.declared.Family.{Family}
use Rattle.definitions.specs.declared.Family.TheVariants.{Imputations, Preimputations}
use Rattle.definitions.specs.declared.Measure.{Measure}

-- the vector of a coalition and its divisor in a level row, which count from 0, or in none, if the number is
-- past them; or all this negated
pub record SignedVector : Type 0 where
  pub mask : ℕ
  pub row : ℕ
  pub minus : Bool

abbrev pub signed : Bool → ℤ → ℤ
signed minus z = if minus then pos 0 -ℤ z else z

abbrev pub plus_entry : Measure → ℕ → ℕ → ℕ → ℕ → ℤ
plus_entry measure n mask row r =
    if nat_lt r n then (if has_player mask r then pos 1 else pos 0)
    else (if nat_eq r (n + row) then pos (divisor measure mask) else pos 0)

abbrev pub entry_of : Measure → ℕ → SignedVector → ℕ → ℤ
entry_of measure n c r = signed c.minus (plus_entry measure n c.mask c.row r)

-- the coalitions of the levels in their order, each with the number of its level from k on
abbrev pub earlier_of : ℕ → List Level → List (ℕ × ℕ)
earlier_of k [] = []
earlier_of k (l ∷ levels) = map (λ c. (c.0, k)) l.coalitions ++ earlier_of (k + 1) levels

-- each coalition with its level row, as a column and as that column negated
abbrev pub doubled : List (ℕ × ℕ) → List SignedVector
doubled [] = []
doubled (c ∷ cs) =
    record { mask = c.0; row = c.1; minus = false } ∷ (record { mask = c.0; row = c.1; minus = true } ∷ doubled cs)

-- the columns of all players and of the earlier coalitions
abbrev pub settled_columns : ℕ → List Level → List SignedVector
settled_columns n front = doubled ((grand_coalition n, length front + 1) ∷ earlier_of 0 front)

-- the columns past these: a player alone, the same negated, and coalitions by their mask
abbrev pub further_column : ℕ → ℕ → ℕ → SignedVector
further_column n k i =
    if nat_lt i n then record { mask = singleton i; row = k + 1; minus = false }
    else (if nat_lt i (n + n) then record { mask = singleton (i - n); row = k + 1; minus = true }
    else record { mask = i - (n + n); row = k; minus = false })

abbrev pub no_column : SignedVector
no_column = record { mask = 0; row = 0; minus = false }

abbrev pub column : ℕ → List Level → ℕ → SignedVector
column n front id =
    if nat_lt id (length (settled_columns n front)) then slice_index_or (settled_columns n front) id no_column
    else further_column n (length front) (id - length (settled_columns n front))

abbrev pub is_imputations : Family → Bool
is_imputations Imputations = true
is_imputations Preimputations = false

abbrev pub is_further : Family → ℕ → List Level → (ℕ → Bool) → ℕ → Bool
is_further family n front outside i =
    if nat_lt i n then is_imputations family
    else (if nat_lt i (n + n) then is_imputations family && has_bound front (i - n) else outside (i - (n + n)))

-- the stage program behind the levels in front, where the test passes at the coalitions outside
abbrev pub stage_program : Family → Measure → Game → List Level → (ℕ → Bool) → Program
stage_program family measure g front outside =
    record {
      rows = g.players + (length front + 1);
      right = λ r. if nat_eq r (g.players + length front) then pos 1 else pos 0;
      is_column = λ id. if nat_lt id (length (settled_columns g.players front)) then true
          else is_further family g.players front outside (id - length (settled_columns g.players front));
      entry = λ id r. entry_of measure g.players (column g.players front id) r;
      cost = λ id. signed (column g.players front id).minus (g.worth (column g.players front id).mask);
    }
