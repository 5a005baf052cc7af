-- Where the numbers of a table stand, by chains of places in 1024 slots. A place counts from 1 here, and 0 is none.
--
--   slot_of          the slot of a number: its lowest ten bits
--   IsLastPlace      the last of the first m places whose number has the slot
--   ArePlaces        the last place of each slot, and before each place the last one of its slot
--   AreSilentPlaces  the places of a block's coalitions whose two sums add to 0
--   AreKnown         what was found for blocks
use Rattle.std.specs.Prelude.{◌≡◌, ◌≢◌, ◌↔◌, IsTrue, ℕ, ℤ, ◌-◌, ◌%◌, ◌<◌, ◌≤◌, List, []}
use Rattle.std.specs.Prelude.{length, pos, ◌-ℤ◌, slice_index_or}
use Rattle.std.specs.Int.{cast_unsigned, w64}
use Rattle.spans.specs.Outside.{is_marked}
use Rattle.spans.specs.Sums.{number_at}

-- the slot of z
abbrev pub slot_of : ℤ → ℕ
slot_of z = cast_unsigned w64 z % 1024

-- of the first m places, p is the last one whose number has the slot, or 0 if none has
pub record IsLastPlace (numbers : List ℤ) (slot m p : ℕ) : Type 0 where
  pub within : p ≤ m
  pub has_slot : 0 < p → slot_of (number_at numbers (p - 1)) ≡ slot
  pub none_behind : (a : ℕ) → p ≤ a → a < m → slot_of (number_at numbers a) ≢ slot

pub record ArePlaces (numbers : List ℤ) (last before : List ℕ) : Type 0 where
  pub lasts : (slot : ℕ) → slot < 1024 → IsLastPlace numbers slot 256 (slice_index_or last slot 0)
  pub befores : (a : ℕ) → a < 256
      → IsLastPlace numbers (slot_of (number_at numbers a)) a (slice_index_or before a 0)

-- the marks are the places where minus the number of a block stands
abbrev pub AreSilentPlaces : List ℤ → List ℤ → ℕ → List ℕ → Type 0
AreSilentPlaces low high block found =
    (i : ℕ) → i < 256 → (IsTrue (is_marked found i) ↔ (number_at low i ≡ pos 0 -ℤ number_at high block))

-- in each of 64 slots, what was found for the latest block there. A block counts from 1 here, and 0 is none.
pub record AreKnown (low high : List ℤ) (latest : List ℕ) (found : List (List ℕ)) : Type 0 where
  pub count : length latest ≡ 64
  pub room : length found ≡ 64
  pub within : (slot : ℕ) → slice_index_or latest slot 0 ≤ 256
  pub silent : (slot : ℕ) → 0 < slice_index_or latest slot 0
      → AreSilentPlaces low high (slice_index_or latest slot 0 - 1) (slice_index_or found slot [])
