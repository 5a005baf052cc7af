-- Some coalitions of at most 16 players, a bit for each, in words of 64 bits.
--
--   is_marked words s      the bit of s is set: bit s % 64 of word s / 64
--   IsProperWord           a word has the coalitions but the empty one and that of all
--   HasNoWeight            no weight at the first places that aren't fixed
use Rattle.std.specs.Prelude.{◌≡◌, ◌↔◌, ℕ, ◌*◌, ◌+◌, ◌/◌, ◌%◌, ◌<◌, Bool, false, IsTrue, List}
use Rattle.std.specs.Prelude.{ℤ, pos, slice_index_or}
use Rattle.definitions.specs.Coalitions.{has_player, grand_coalition}
use Rattle.determinants.specs.Basis.{dot}
use Rattle.determinants.specs.Matrix.{entry_at}
use Rattle.spans.specs.Span.{vector, flag}

abbrev pub is_marked : List ℕ → ℕ → Bool
is_marked words s = has_player (slice_index_or words (s / 64) 0) (s % 64)

-- word p has the coalitions of n players but the empty one and that of all
abbrev pub IsProperWord : ℕ → ℕ → ℕ → Type 0
IsProperWord n p word =
    (j : ℕ) → j < 64 → (IsTrue (has_player word j) ↔ ((0 < 64 * p + j) × (64 * p + j < grand_coalition n)))

-- s has no weight at the places below k that aren't fixed
abbrev pub HasNoWeight : ℕ → List Bool → List ℤ → ℕ → ℕ → Type 0
HasNoWeight n fixed entries k s =
    (j : ℕ) → j < k → flag fixed j ≡ false → dot n (entry_at 16 entries j) (vector s) ≡ pos 0
