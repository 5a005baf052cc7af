-- Marks of coalitions by blocks of 256, which are four words.
--
-- A block is the 256 coalitions with the same members past the first eight players. Those without a weight at a place
-- are where the first table holds minus the number of the second. Chains of the places whose numbers have the same
-- lowest bits find them (`silent_block`; Chains.antt).
use Rattle.std.proofs.Common.{◌≡◌, ◌≢◌, ◌∙◌, ℕ, ◌*◌, ◌+◌, ◌/◌, ◌%◌, ◌<◌, ◌≤◌}
use Rattle.std.proofs.Common.{◌^◌, Bool, false, not, ◌&&◌, ◌||◌, nat_eq, IsTrue, List, ℤ}
use Rattle.std.proofs.Common.{pos, ◌-ℤ◌, ◌+ℤ◌, bit_and, min, slice_index_or, inl, inr, to_z, of_z}
use Rattle.std.proofs.Common.{unsigned_abs, sym, ap, subst, arith}
use Rattle.std.proofs.lemmas.Bool.{false≢true}
use Rattle.std.proofs.lemmas.Bool.Decides.{nat_tests}
use Rattle.std.proofs.lemmas.Int.{ints}
use Rattle.std.proofs.lemmas.Nat.Bits.{bit_at_and, bit_at-lt}
use Rattle.std.specs.Bool.{Decides}
use Rattle.std.specs.Int.{bit_at}
use mir.Syntax.{w64}
use Rattle.definitions.specs.Coalitions.{has_player}
use Rattle.definitions.proofs.Casts.{cast_kept}
use Rattle.definitions.proofs.Cases.{same_or_other, below_or_above, nat_eq-equal, nat_eq-other, and_true, and_both}
use Rattle.definitions.proofs.Cases.{and_left, and_right}
use Rattle.spans.specs.Outside.{is_marked}
use Rattle.spans.specs.Sums.{number_at, two_sums}

-- the bits that two words have
has_player-and : (a b j : ℕ) → has_player (bit_and a b) j ≡ (has_player a j && has_player b j)
has_player-and a b j =
    pick (bit_at (bit_and a b) j) (bit_at a j) (bit_at b j) (bit_at-lt a j) (bit_at-lt b j) (bit_at_and a b j)
  where
    pick : (r x y : ℕ) → x < 2 → y < 2 → r ≡ min x y → nat_eq r 1 ≡ (nat_eq x 1 && nat_eq y 1)
    pick r x y hx hy e = grind (arith, nat_tests)

-- the marks where four words of a block keep what others have too, and the words before and behind are as they were
pub marks_in_block : (olds news places : List ℕ) (block s : ℕ)
    → ((j : ℕ) → j < 4 → slice_index_or news (4 * block + j) 0
    ≡ bit_and (slice_index_or olds (4 * block + j) 0) (slice_index_or places j 0))
    → ((q : ℕ) → q < 4 * block → slice_index_or news q 0 ≡ slice_index_or olds q 0)
    → ((q : ℕ) → 4 * block + 4 ≤ q → slice_index_or news q 0 ≡ slice_index_or olds q 0)
    → is_marked news s ≡ (is_marked olds s && (not (nat_eq (s / 256) block) || is_marked places (s % 256)))
marks_in_block olds news places block s done before rest = elim (same_or_other (s / 256) block) [
  | inl same ↦ ap (λ (w : ℕ). has_player w (s % 64)) (kept same)
      ∙ has_player-and (slice_index_or olds (s / 64) 0) (slice_index_or places (s % 256 / 64) 0) (s % 64)
      ∙ ap (λ (j : ℕ). is_marked olds s && has_player (slice_index_or places (s % 256 / 64) 0) j) bit
      ∙ ap (λ (b : Bool). is_marked olds s && (not b || is_marked places (s % 256)))
      (sym (nat_eq-equal (s / 256) block same))
  | inr other ↦ ap (λ (w : ℕ). has_player w (s % 64)) (unchanged other)
      ∙ sym (and_true (is_marked olds s))
      ∙ ap (λ (b : Bool). is_marked olds s && (not b || is_marked places (s % 256)))
      (sym (nat_eq-other (s / 256) block other))
]
  where
    bit : s % 64 ≡ s % 256 % 64
    bit = omega arith

    kept : s / 256 ≡ block → slice_index_or news (s / 64) 0
        ≡ bit_and (slice_index_or olds (s / 64) 0) (slice_index_or places (s % 256 / 64) 0)
    kept same =
        let at : 4 * block + s % 256 / 64 ≡ s / 64 = omega (arith, same) in
        subst
        (λ (q : ℕ). slice_index_or news q 0
        ≡ bit_and (slice_index_or olds q 0) (slice_index_or places (s % 256 / 64) 0)) at
        (done (s % 256 / 64) (omega arith))

    unchanged : s / 256 ≢ block → slice_index_or news (s / 64) 0 ≡ slice_index_or olds (s / 64) 0
    unchanged other = elim (below_or_above (s / 64) (4 * block)) [
      | inl less ↦ before (s / 64) less
      | inr more ↦ rest (s / 64) (omega (arith, more, other))
    ]

-- minus a number, as 64 bits hold it
pub negated_in_64 : (z : ℤ) → unsigned_abs z ≤ 2 ^ 61
    → to_z w64 (of_z w64 (pos 0 -ℤ to_z w64 (of_z w64 z))) ≡ pos 0 -ℤ z
negated_in_64 z h =
    rw (cast_kept w64 z (omega (arith, h))) (cast_kept w64 (pos 0 -ℤ z) (omega (arith, ints, h)))

-- in the blocks before one what is silent of the old marks is left, and the others are as they were
pub record AreSilentBelow (low high : List ℤ) (olds news : List ℕ) (block s : ℕ) : Type 0 where
  pub done : s / 256 < block → Decides (is_marked news s) (IsTrue (is_marked olds s) × (two_sums low high s ≡ pos 0))
  pub rest : block ≤ s / 256 → is_marked news s ≡ is_marked olds s

-- one more block is done
pub silent_block : (low high : List ℤ) (olds words news found : List ℕ) (block s : ℕ)
    → AreSilentBelow low high olds words block s
    → is_marked news s ≡ (is_marked words s && (not (nat_eq (s / 256) block) || is_marked found (s % 256)))
    → Decides (is_marked found (s % 256)) (number_at low (s % 256) ≡ pos 0 -ℤ slice_index_or high block (pos 0))
    → AreSilentBelow low high olds news (block + 1) s
silent_block low high olds words news found block s old is finds = elim (same_or_other (s / 256) block) [
  | inl same ↦
      let left : is_marked news s ≡ (is_marked olds s && is_marked found (s % 256)) =
      is ∙ ap (λ (b : Bool). is_marked words s && (not b || is_marked found (s % 256)))
      (nat_eq-equal (s / 256) block same)
      ∙ ap (λ (b : Bool). b && is_marked found (s % 256)) (old.rest (omega (arith, same))) in
      record {
        done = λ lt. (
          λ e.
              let both = sym left ∙ e in (
                and_left (is_marked olds s) (is_marked found (s % 256)) both,
                to_zero same (finds.0 (and_right (is_marked olds s) (is_marked found (s % 256)) both)),
              ),
          λ q. left ∙ and_both (is_marked olds s) (is_marked found (s % 256)) q.0 (finds.1 (from_zero same q.1)),
        );
        rest = λ le. absurd (omega (arith, same, le));
      }
  | inr other ↦
      let left : is_marked news s ≡ is_marked words s =
      is ∙ ap (λ (b : Bool). is_marked words s && (not b || is_marked found (s % 256)))
      (nat_eq-other (s / 256) block other)
      ∙ and_true (is_marked words s) in
      record {
        done = λ lt. let d = old.done (omega (arith, other, lt)) in (λ e. d.0 (sym left ∙ e), λ q. left ∙ d.1 q);
        rest = λ le. left ∙ old.rest (omega (arith, other, le));
      }
]
  where
    to_zero : s / 256 ≡ block → number_at low (s % 256) ≡ pos 0 -ℤ slice_index_or high block (pos 0)
        → two_sums low high s ≡ pos 0
    to_zero same e =
        subst (λ (b : ℕ). slice_index_or low (s % 256) (pos 0) +ℤ slice_index_or high b (pos 0) ≡ pos 0) (sym same)
        (omega (arith, ints, e))

    from_zero : s / 256 ≡ block → two_sums low high s ≡ pos 0
        → number_at low (s % 256) ≡ pos 0 -ℤ slice_index_or high block (pos 0)
    from_zero same e =
        let e' : slice_index_or low (s % 256) (pos 0) +ℤ slice_index_or high block (pos 0) ≡ pos 0 =
        subst (λ (b : ℕ). slice_index_or low (s % 256) (pos 0) +ℤ slice_index_or high b (pos 0) ≡ pos 0) same e in
        omega (arith, ints, e')

-- one more block is done, which has no marks
pub empty_block : (low high : List ℤ) (olds words : List ℕ) (block s : ℕ) → AreSilentBelow low high olds words block s
    → (s / 256 ≡ block → is_marked words s ≡ false) → AreSilentBelow low high olds words (block + 1) s
empty_block low high olds words block s old none = elim (same_or_other (s / 256) block) [
  | inl same ↦ record {
    done = λ lt. (
      λ e. absurd (false≢true (sym (none same) ∙ e)),
      λ q. absurd (false≢true (sym (none same) ∙ old.rest (omega (arith, same)) ∙ q.0)),
    );
    rest = λ le. absurd (omega (arith, same, le));
  }
  | inr other ↦ record {
    done = λ lt. old.done (omega (arith, other, lt));
    rest = λ le. old.rest (omega (arith, other, le));
  }
]
