-- For the private functions of this crate.
-- Sets of greatest sum, and of those with the same the one with the least mask: one for each weight.
--
--   is_behind c d       d has a greater sum, or the same and a lesser mask
--   better c d          the one of the two that isn't behind, if there are any
--   joined c i number   the candidate with player i, whose number that is
--   raised c number     the candidate with a number added to its sum
--   at_weight l w       the candidate of weight w
--   given_or given own  the layer that is given, or else one's own
--   with_at             what a player makes of a lighter candidate
--   joined_at           the better one of a set without the player, and of one with it
--   best_below          the best one of the lesser weights
--   chosen_of c         the coalition of a candidate whose sum is positive
--   IsBestOf            the best set of the kind P, and the least mask of these
--   IsBest P v c        the set of the kind P with the greatest number, and of those with the same the one with the
--                       least mask
--   IsSmallCandidate    a set of the first count players, and a sum over at most so many
--   AreSmall            each candidate of a layer is such a one
use Rattle.std.specs.Prelude.{◌≡◌, ℕ, zero, suc, ◌+◌, ◌-◌, ◌*◌, ◌^◌, ◌<◌, ◌≤◌}
use Rattle.std.specs.Prelude.{Bool, ◌&&◌, ◌||◌}
use Rattle.std.specs.Prelude.{nat_lt, nat_le, ℤ, pos, ◌+ℤ◌, ◌≤ℤ◌, ◌<ℤ◌, int_lt, Option, None}
use Rattle.std.specs.Prelude.{Some, unwrap_or, option_copied}
use Rattle.std.specs.Prelude.{IfSome, unsigned_abs, slice_index_or, if◌then◌else◌}
use Rattle.std.specs.Borrow.{Bor}
use Rattle.std.specs.Ordering.{int_eq}
use Rattle.voting.specs.declared.candidate.Candidate.{Candidate}
use Rattle.voting.specs.declared.layer.Layer.{Layer}

abbrev pub is_behind : Candidate → Candidate → Bool
is_behind c d = int_lt c.sum d.sum || (int_eq c.sum d.sum && nat_lt d.coalition c.coalition)

abbrev pub better : Option Candidate → Option Candidate → Option Candidate
better None d = d
better (Some c) None = Some c
better (Some c) (Some d) = Some (if is_behind c d then d else c)

abbrev pub joined : Option Candidate → ℕ → ℤ → Option Candidate
joined None i number = None
joined (Some c) i number = Some (record { sum = c.sum +ℤ number; coalition = c.coalition + 2 ^ i })

abbrev pub raised : Option Candidate → ℤ → Option Candidate
raised None number = None
raised (Some c) number = Some (record { sum = c.sum +ℤ number; coalition = c.coalition })

abbrev pub at_weight : Layer → ℕ → Option Candidate
at_weight l w = slice_index_or l.entries w None

abbrev pub given_or : Option (Bor Layer) → Layer → Layer
given_or given own = unwrap_or (option_copied given) own

-- the candidate of weight w that player i of a weight and a number makes of a lighter one
abbrev pub with_at : Layer → ℕ → ℕ → ℤ → ℕ → Option Candidate
with_at l i weight number w =
    if nat_le weight w then joined (at_weight l (w - weight)) i number else None

-- at weight w, the better one of a set without player i, and of one with it
abbrev pub joined_at : Layer → Layer → ℕ → ℕ → ℤ → ℕ → Option Candidate
joined_at l k i weight number w = better (at_weight l w) (with_at k i weight number w)

-- the best one of the weights below w, after `more` is added to the sums of those from the quota on
unfoldable pub best_below : ℤ → ℕ → Layer → ℕ → Option Candidate
best_below more quota l zero = None
best_below more quota l (suc w) =
    better (best_below more quota l w) (raised (at_weight l w) (if nat_le quota w then more else pos 0))

abbrev pub chosen_of : Option Candidate → Option ℕ
chosen_of None = None
chosen_of (Some c) = if int_lt (pos 0) c.sum then Some c.coalition else None

-- c is of the kind P, has the greatest number of the kind, and no lesser mask has it
pub record IsBestOf (P : ℕ → Type 0) (v : ℕ → ℤ) (c : Candidate) : Type 0 where
  pub of_kind : P c.coalition
  pub value : c.sum ≡ v c.coalition
  pub greatest : (t : ℕ) → P t → v t ≤ℤ c.sum
  pub least : (t : ℕ) → P t → t < c.coalition → v t <ℤ c.sum

-- the best of the kind, and none if nothing is of the kind
abbrev pub IsBest : (ℕ → Type 0) → (ℕ → ℤ) → Option Candidate → Type 0
IsBest P v None = (s : ℕ) → ¬ P s
IsBest P v (Some c) = IsBestOf P v c

-- ---- limits

abbrev pub IsSmallCandidate : ℕ → Candidate → Type 0
IsSmallCandidate count c = (c.coalition < 2 ^ count) × (unsigned_abs c.sum ≤ count * 2 ^ 110)

-- each candidate is one of the first count players
abbrev pub AreSmall : ℕ → Layer → Type 0
AreSmall count l = (w : ℕ) → IfSome (at_weight l w) (IsSmallCandidate count)
