-- The members of a coalition, printed by number, are read as its mask.
use Rattle.std.proofs.Common.{◌≡◌, ℕ, zero, suc, ◌+◌, ◌-◌, ◌*◌, ◌%◌, ◌^◌, ◌<◌}
use Rattle.std.proofs.Common.{◌≤◌, Bool, true, false}
use Rattle.std.proofs.Common.{List, [], ◌∷◌, ◌++◌, map, Some, None, option_map, option_and_then, pos}
use Rattle.std.proofs.Common.{nat_lt, nat_le, if◌then◌else◌, ◌&&◌, refl, sym, ap, subst, ◌∙◌, arith}
use Rattle.std.proofs.Common.{add-one, add_comm, add-zero, le_refl, mod-eq_of_lt}
use Rattle.std.proofs.lemmas.Bool.{and_from, lt-ltb, le-leb}
use Rattle.std.proofs.lemmas.Nat.{mod-pow-add}
use Rattle.std.specs.Int.{bit_at}
use Rattle.definitions.specs.Coalitions.{has_player, members}
use Rattle.definitions.proofs.Members.{members-zero, members-more_yes, members-more_no}
use Rattle.definitions.proofs.Parts.{has_player-past}
use Rattle.json_trees.specs.Trees.{parts, integer}
use Rattle.certificate_texts.specs.Levels.{number_above, number_between, numbers_above}
use Rattle.certificate_texts.specs.Levels.{mask_by_numbers, coalition_of}
use Rattle.report.specs.Values.{player_data, player_numbers}
use Rattle.json_trees.proofs.Values.{listed-items_of}
use Rattle.coalitions.proofs.Count.{bit_by_player}

-- ---- the members ascend

-- players that ascend strictly, from low on and below high
abbrev pub Ascending : ℕ → ℕ → List ℕ → Type 0
Ascending low high [] = low ≤ high
Ascending low high (i ∷ is) = (low ≤ i) × Ascending (i + 1) high is

ascending-le : (low high : ℕ) (is : List ℕ) → Ascending low high is → low ≤ high
ascending-le low high [] h = h
ascending-le low high (i ∷ is) h = omega (arith, h.0, ascending-le (i + 1) high is h.1)

one_longer : (low high : ℕ) (is : List ℕ) → Ascending low high is → Ascending low (high + 1) (is ++ high ∷ [])
one_longer low high [] h = (h, le_refl (high + 1))
one_longer low high (i ∷ is) h = (h.0, one_longer (i + 1) high is h.1)

wider : (low high top : ℕ) (is : List ℕ) → high ≤ top → Ascending low high is → Ascending low top is
wider low high top [] le h = omega arith
wider low high top (i ∷ is) le h = (h.0, wider (i + 1) high top is le h.1)

one_more : (n s : ℕ) (b : Bool) → has_player s n ≡ b → Ascending 0 n (members n s)
    → Ascending 0 (n + 1) (members (n + 1) s)
one_more n s true e h =
    subst (λ (is : List ℕ). Ascending 0 (n + 1) is) (sym (members-more_yes n s e)) (one_longer 0 n (members n s) h)
one_more n s false e h =
    subst (λ (is : List ℕ). Ascending 0 (n + 1) is) (sym (members-more_no n s e))
    (wider 0 n (n + 1) (members n s) (omega arith) h)

members_ascend : (n s : ℕ) → Ascending 0 n (members n s)
members_ascend zero s = subst (λ (is : List ℕ). Ascending 0 0 is) (sym (members-zero s)) (le_refl 0)
members_ascend (suc n) s = rw (← add-one) (one_more n s (has_player s n) refl (members_ascend n s))

-- no member is past n
members_past : (n s d : ℕ) → s < 2 ^ n → members (n + d) s ≡ members n s
members_past n s zero h = ap (λ (m : ℕ). members m s) (add-zero n)
members_past n s (suc d) h =
    let e : n + suc d ≡ n + d + 1 = omega arith in
    rw e (members-more_no (n + d) s (has_player-past n s (n + d) h (omega arith)) ∙ members_past n s d h)

members_of_all : (n s : ℕ) → n ≤ 64 → s < 2 ^ n → members 64 s ≡ members n s
members_of_all n s k h =
    let e : 64 ≡ n + (64 - n) = omega arith in
    ap (λ (m : ℕ). members m s) e ∙ members_past n s (64 - n) h

-- ---- their bits add to the mask

abbrev numbers : List ℕ → List ℕ
numbers is = map (λ i. i + 1) is

mask_more : (is : List ℕ) (j : ℕ) → mask_by_numbers (numbers (is ++ j ∷ [])) ≡ mask_by_numbers (numbers is) + 2 ^ j
mask_more [] j = let e : j + 1 - 1 ≡ j = omega arith in ap (λ (k : ℕ). 2 ^ k + 0) e ∙ omega arith
mask_more (i ∷ is) j = omega (arith, mask_more is j)

-- the lowest n + 1 bits are bit n and the lowest n
one_bit_more : (n s : ℕ) → s % 2 ^ (n + 1) ≡ bit_at s n * 2 ^ n + s % 2 ^ n
one_bit_more n s = rw (add_comm n 1) (mod-pow-add s 1 n)

mask_step : (n s : ℕ) (b : Bool) → has_player s n ≡ b → mask_by_numbers (numbers (members n s)) ≡ s % 2 ^ n
    → mask_by_numbers (numbers (members (n + 1) s)) ≡ s % 2 ^ (n + 1)
mask_step n s true e h =
    let bit : bit_at s n * 2 ^ n ≡ 1 * 2 ^ n = ap (λ (k : ℕ). k * 2 ^ n) (bit_by_player s n true e) in
    ap (λ (is : List ℕ). mask_by_numbers (numbers is)) (members-more_yes n s e) ∙ mask_more (members n s) n
    ∙ omega (arith, h, bit, one_bit_more n s)
mask_step n s false e h =
    let bit : bit_at s n * 2 ^ n ≡ 0 * 2 ^ n = ap (λ (k : ℕ). k * 2 ^ n) (bit_by_player s n false e) in
    ap (λ (is : List ℕ). mask_by_numbers (numbers is)) (members-more_no n s e)
    ∙ omega (arith, h, bit, one_bit_more n s)

mask_of_members : (n s : ℕ) → mask_by_numbers (numbers (members n s)) ≡ s % 2 ^ n
mask_of_members zero s =
    let none : s % 2 ^ 0 ≡ 0 = omega arith in
    ap (λ (is : List ℕ). mask_by_numbers (numbers is)) (members-zero s) ∙ sym none
mask_of_members (suc n) s =
    let e : suc n ≡ n + 1 = omega arith in rw e (mask_step n s (has_player s n) refl (mask_of_members n s))

-- ---- the numbers are read

pub if_passed : {X : Type 0} (b : Bool) (x y : X) → b ≡ true → (if b then x else y) ≡ x
if_passed b x y e = ap (λ (c : Bool). if c then x else y) e

pub player_read : (i : ℕ) → i < 64 → integer (player_data i) ≡ Some (pos (i + 1))
player_read i h =
    if_passed (nat_lt (i + 1) (2 ^ 63)) (Some (pos (i + 1))) None (lt-ltb (i + 1) (2 ^ 63) (omega arith))

number_read : (low n i : ℕ) → low ≤ i → i + 1 ≤ n → n ≤ 64 → number_above low n (player_data i) ≡ Some (i + 1)
number_read low n i h k m =
    ap (option_and_then (number_between low n)) (player_read i (omega arith))
    ∙ if_passed (nat_lt low (i + 1) && nat_le (i + 1) n) (Some (i + 1)) None
    (and_from (nat_lt low (i + 1)) (nat_le (i + 1) n) (lt-ltb low (i + 1) (omega arith)) (le-leb (i + 1) n k))

numbers_read : (low n : ℕ) (is : List ℕ) → n ≤ 64 → Ascending low n is
    → numbers_above low n (map player_data is) ≡ Some (numbers is)
numbers_read low n [] m h = refl
numbers_read low n (i ∷ is) m h =
    ap (option_and_then (λ k. option_map (λ ks. k ∷ ks) (numbers_above k n (map player_data is))))
    (number_read low n i h.0 (ascending-le (i + 1) n is h.1) m)
    ∙ ap (option_map (λ ks. (i + 1) ∷ ks)) (numbers_read (i + 1) n is m h.1)

-- the printed members are read as the coalition
pub coalition_read : (n s : ℕ) → n ≤ 64 → s < 2 ^ n → coalition_of n (parts (player_numbers s)) ≡ Some s
coalition_read n s m h =
    ap (coalition_of n)
    (listed-items_of (map player_data (members 64 s)) ∙ ap (map player_data) (members_of_all n s m h))
    ∙ ap (option_map mask_by_numbers) (numbers_read 0 n (members n s) m (members_ascend n s))
    ∙ ap Some (mask_of_members n s ∙ mod-eq_of_lt h)
