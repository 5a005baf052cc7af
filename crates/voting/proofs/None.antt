-- Arrays of one value.
use Rattle.std.proofs.Common.{◌≡◌, ℕ, inl, inr, None}
use Rattle.std.proofs.Math.ListN.{replicate}
use Rattle.std.proofs.lemmas.List.{get_or-replicate, get_or_past, length-replicate}
use Rattle.definitions.proofs.Cases.{below_or_above}
use Rattle.voting.specs.Candidates.{at_weight}
use Rattle.voting.specs.Counts.{way_at}

pub at_none : (w : ℕ) → at_weight (record { entries = replicate 1001 None }) w ≡ None
at_none w = elim (below_or_above w 1001) [
  | inl low ↦ get_or-replicate 1001 w None None low
  | inr high ↦ get_or_past (replicate 1001 None) w None (rw (length-replicate 1001) high)
]

pub way_none : (w : ℕ) → way_at (record { ways = replicate 1001 0 }) w ≡ 0
way_none w = elim (below_or_above w 1001) [
  | inl low ↦ get_or-replicate 1001 w 0 0 low
  | inr high ↦ get_or_past (replicate 1001 0) w 0 (rw (length-replicate 1001) high)
]
