-- The number of members of a coalition is the number of bits that are set in its mask.
use Rattle.std.proofs.Common.{◌≡◌, ℕ, zero, suc, ◌+◌, ◌*◌, ◌%◌, ◌^◌, ◌<◌, Bool}
use Rattle.std.proofs.Common.{true, false, [], ◌∷◌, length}
use Rattle.std.proofs.Common.{length-append, add_comm, if◌then◌else◌, refl, sym, ap, ◌∙◌, arith}
use Rattle.std.proofs.lemmas.Bool.Decides.{nat_tests}
use Rattle.std.proofs.lemmas.Nat.{ones_cat, mod-pow-add}
use Rattle.std.proofs.lemmas.Nat.Bits.{bit_at-lt}
use Rattle.std.proofs.Math.Nat.{mod-lt, mod-eq_of_lt}
use Rattle.std.proofs.Math.Pow.{pow_pos}
use Rattle.std.specs.Int.{bit_at}
use Rattle.std.specs.Int.RustNames.{count_ones}
use Rattle.definitions.specs.Coalitions.{has_player, members}
use Rattle.definitions.proofs.Members.{members-zero, members-more_yes, members-more_no}

-- the lowest n + 1 bits have bit n before the lowest n
ones_mod-suc : (n s : ℕ) → count_ones (s % 2 ^ (n + 1)) ≡ count_ones (bit_at s n) + count_ones (s % 2 ^ n)
ones_mod-suc n s =
    let cut : s % 2 ^ (n + 1) ≡ bit_at s n * 2 ^ n + s % 2 ^ n = rw (add_comm n 1) (mod-pow-add s 1 n) in
    ap count_ones cut ∙ ones_cat n (bit_at s n) (s % 2 ^ n) (mod-lt s (pow_pos n))

pub bit_by_player : (s n : ℕ) (b : Bool) → has_player s n ≡ b → bit_at s n ≡ (if b then 1 else 0)
bit_by_player s n b h = grind (arith, nat_tests, bit_at-lt s n)

count_ones-zero : count_ones 0 ≡ 0
unfolding count_ones
count_ones-zero = refl

count_ones-one : count_ones 1 ≡ 1
unfolding count_ones
count_ones-one = refl

length-members_mod : (n s : ℕ) → length (members n s) ≡ count_ones (s % 2 ^ n)
length-members_mod zero s =
    let none : s % 2 ^ 0 ≡ 0 = omega arith in
    rw (members-zero s, none) (sym count_ones-zero)
length-members_mod (suc n) s =
    let next : suc n ≡ n + 1 = omega arith in
    rw next (next_length (has_player s n) refl (length-members_mod n s))
  where
    next_length : (b : Bool) → has_player s n ≡ b → length (members n s) ≡ count_ones (s % 2 ^ n)
        → length (members (n + 1) s) ≡ count_ones (s % 2 ^ (n + 1))
    next_length true h low =
        let bit : count_ones (bit_at s n) ≡ 1 = ap count_ones (bit_by_player s n true h) ∙ count_ones-one in
        rw (members-more_yes n s h, ones_mod-suc n s) (omega (arith, length-append (members n s) (n ∷ [])))
    next_length false h low =
        let bit : count_ones (bit_at s n) ≡ 0 = ap count_ones (bit_by_player s n false h) ∙ count_ones-zero in
        rw (members-more_no n s h, ones_mod-suc n s) (omega arith)

pub length_members : (n s : ℕ) → s < 2 ^ n → length (members n s) ≡ count_ones s
length_members n s h = length-members_mod n s ∙ ap count_ones (mod-eq_of_lt h)
