-- Signs that are turned if the numbers are costs.
use Rattle.std.proofs.Common.{◌≡◌, ℕ, ◌<◌, length, Bool, true, false, refl, ℤ, pos}
use Rattle.std.proofs.Common.{◌*ℤ◌, neg_ℤ}
use Rattle.std.proofs.lemmas.List.{get_or-map, length-map}
use Rattle.definitions.proofs.Ring.{neg-mulℤ}
use Rattle.definitions.specs.Games.{Allocation, share}
use Rattle.document_parts.specs.Shares.{as_worth}
use Rattle.report.specs.ShareLists.{as_printed}
use lib.IntN.{neg_ℤ-neg_ℤ}

pub printed_twice : (b : Bool) (z : ℤ) → as_printed b (as_printed b z) ≡ z
printed_twice true z = neg_ℤ-neg_ℤ z
printed_twice false z = refl

pub printed_times : (b : Bool) (z w : ℤ) → as_printed b z *ℤ w ≡ as_printed b (z *ℤ w)
printed_times true z w = neg-mulℤ z w
printed_times false z w = refl

-- ---- allocations

pub worth_share : (b : Bool) (x : Allocation) (i : ℕ) → i < length x.shares
    → share (as_worth b x) i ≡ as_printed b (share x i)
worth_share true x i l = get_or-map neg_ℤ x.shares i (pos 0) (pos 0) l
worth_share false x i l = refl

pub worth_length : (b : Bool) (x : Allocation) → length (as_worth b x).shares ≡ length x.shares
worth_length true x = length-map x.shares neg_ℤ
worth_length false x = refl

pub worth_denominator : (b : Bool) (x : Allocation) → (as_worth b x).den ≡ x.den
worth_denominator true x = refl
worth_denominator false x = refl
