-- The table of the values of optimal matchings, filled in mask order.
--
-- A coalition without one of its members is a lesser mask (`less_mask`). So the table already holds what the choice for
-- the least buyer of a coalition asks for.
use Rattle.std.proofs.Common.{◌≡◌, ◌≢◌, ℕ, ◌+◌, ◌^◌, ◌<◌, ◌≤◌, Bool, true, false}
use Rattle.std.proofs.Common.{not, ◌&&◌, nat_eq, List}
use Rattle.std.proofs.Common.{[], ◌∷◌, ◌++◌, length, Option, Some, None, MatchOption, refl, sym}
use Rattle.std.proofs.Common.{ap, subst}
use Rattle.std.proofs.Common.{◌∙◌, inl, inr, arith, slice_index, length-append}
use Rattle.std.proofs.lemmas.List.{get_or_append_left, get_or_push}
use Rattle.std.proofs.lemmas.Nat.{pow_pos}
use Rattle.std.proofs.Math.Pow.{pow_mono}
use Rattle.definitions.proofs.Cases.{same_or_other, less_or_last_of, nat_eq-same, nat_eq-other}
use Rattle.definitions.proofs.Parts.{more-is}
use Rattle.definitions.specs.Coalitions.{has_player}
use Rattle.definitions.specs.Classes.{Matrix, removed}
use Rattle.assignment_games.specs.Values.{IsOptimalAmong}
use Rattle.assignment_games.specs.Assignments.{IsFilled}
use Rattle.assignment_games.proofs.Choices.{IsRest}

-- ---- masks

-- r has the players of s but for b
abbrev pub Lacks : ℕ → ℕ → ℕ → Type 0
Lacks s b r = (j : ℕ) → has_player r j ≡ (not (nat_eq j b) && has_player s j)

pub removed_is : (s r b : ℕ) → Lacks s b r → has_player r ≡ removed (has_player s) b
removed_is s r b h = λ i j. h j i

-- a coalition without a member is a lesser mask
pub less_mask : (s r b : ℕ) → has_player s b ≡ true → Lacks s b r → r < s
less_mask s r b member h =
    let gone : has_player r b ≡ false = h b ∙ rw (nat_eq-same b) refl in
    let more = more-is r b s gone (λ j. elim (same_or_other j b) [
      | inl same ↦ ap (has_player s) same ∙ member ∙ rw (ap (λ (k : ℕ). nat_eq k b) same, nat_eq-same b) refl
      | inr other ↦ rw (nat_eq-other j b other) (sym (h j ∙ rw (nat_eq-other j b other) refl))
    ]) in
    let some = pow_pos b in
    omega (arith, more, some)

pub least_player : (s n : ℕ) (r : Option ℕ)
    → MatchOption r ((b : ℕ) → 0 ≤ b → b < n → has_player s b ≡ false)
    (λ b. (0 ≤ b) × (b < n) × (has_player s b ≡ true) × ((k : ℕ) → 0 ≤ k → k < b → has_player s k ≡ false))
    → MatchOption r ((b : ℕ) → b < n → has_player s b ≡ false) (λ b. (b < n) × (has_player s b ≡ true))
least_player s n None none = λ b lt. none b (omega arith) lt
least_player s n (Some b) some = (some.1, some.2)

pub masks_few : (n s : ℕ) → n ≤ 16 → s < 2 ^ n → s < 65536
masks_few n s few lt = let p : n ≤ 16 = few in let m : 2 ^ n ≤ 2 ^ 16 = pow_mono p in omega arith

-- ---- values in the table

pub rest_in_table : (matrix : Matrix) (rows : ℕ) (table : List ℕ) (s r b : ℕ) → IsFilled matrix rows table s
    → has_player s b ≡ true → Lacks s b r
    → IsOptimalAmong matrix rows (removed (has_player s) b) (slice_index table r)
rest_in_table matrix rows table s r b filled member h =
    subst (λ (w : ℕ → Bool). IsOptimalAmong matrix rows w (slice_index table r)) (removed_is s r b h)
    (filled.1 r (less_mask s r b member h))

apart_row : (rows b j : ℕ) → b < rows → rows + j ≢ b
apart_row rows b j lt e = omega arith

pub still_member : (rows s r b j : ℕ) → b < rows → has_player s (rows + j) ≡ true → Lacks s b r
    → has_player r (rows + j) ≡ true
still_member rows s r b j lt member h =
    h (rows + j) ∙ ap (λ t. not t && has_player s (rows + j)) (nat_eq-other (rows + j) b (apart_row rows b j lt))
    ∙ member

pub pair_below : (rows s r o b j : ℕ) → b < rows → has_player s b ≡ true → has_player s (rows + j) ≡ true
    → Lacks s b r → Lacks r (rows + j) o → o < s
pair_below rows s r o b j lt mb mj h k =
    let x = less_mask r o (rows + j) (still_member rows s r b j lt mj h) k in
    let y = less_mask s r b mb h in
    omega (arith, x, y)

pub pair_in_table : (matrix : Matrix) (rows : ℕ) (table : List ℕ) (s r o b j : ℕ) → IsFilled matrix rows table s
    → b < rows → has_player s b ≡ true → has_player s (rows + j) ≡ true → Lacks s b r → Lacks r (rows + j) o
    → IsRest matrix rows (has_player s) b j (slice_index table o)
pair_in_table matrix rows table s r o b j filled lt mb mj h k =
    subst (λ (w : ℕ → Bool). IsOptimalAmong matrix rows w (slice_index table o))
    (removed_is r o (rows + j) k ∙ ap (λ (w : ℕ → Bool). removed w (rows + j)) (removed_is s r b h))
    (filled.1 o (pair_below rows s r o b j lt mb mj h k))

-- ---- one more mask

pub filled_more : (matrix : Matrix) (rows : ℕ) (table next : List ℕ) (s value : ℕ) → next ≡ table ++ value ∷ []
    → IsFilled matrix rows table s → IsOptimalAmong matrix rows (has_player s) value
    → IsFilled matrix rows next (s + 1)
filled_more matrix rows table next s value e h g = (
  ap length e ∙ (let len = h.0 in omega (arith, len, length-append table (value ∷ []))),
  λ t lt. elim (less_or_last_of t s lt) [
    | inl less ↦
        let at : slice_index next t ≡ slice_index table t =
        ap (λ (l : List ℕ). slice_index l t) e
        ∙ get_or_append_left table (value ∷ []) 0 t (let len = h.0 in omega (arith, len, less)) in
        subst (λ (v : ℕ). IsOptimalAmong matrix rows (has_player t) v) (sym at) (h.1 t less)
    | inr same ↦
        let at : slice_index next t ≡ value =
        ap (λ (l : List ℕ). slice_index l t) e ∙ get_or_push table value 0 t (h.0 ∙ sym same) in
        subst (λ (v : ℕ). IsOptimalAmong matrix rows (has_player t) v) (sym at)
        (subst (λ (k : ℕ). IsOptimalAmong matrix rows (has_player k) value) (sym same) g)
  ],
)
