-- What the loop of Prim's steps keeps.
--
-- The loop keeps the array of distances to the connected points (`PrimState`). Of equal distances the first point is
-- taken. The steps find a plan of least links (`prim-found` in Nearest.antt), so its cost is the worth.
use Rattle.std.proofs.Common.{◌≡◌, ℕ, zero, suc, ◌+◌, ◌-◌, ◌*◌, ◌/◌, ◌^◌, ◌<◌}
use Rattle.std.proofs.Common.{◌≤◌, Bool, true, false}
use Rattle.std.proofs.Common.{not, ◌&&◌, ◌||◌, nat_eq, List, length, ◌%◌, refl, sym}
use Rattle.std.proofs.Common.{ap, ◌∙◌}
use Rattle.std.proofs.Common.{arith, slice_index, min, ℤ, neg_ℤ, pos, unsigned_abs}
use Rattle.std.proofs.Math.Path.{fun_ext}
use Rattle.std.proofs.lemmas.Bool.Decides.{nat_tests}
use Rattle.std.proofs.lemmas.Nat.Bits.{bit_at-suc, bit_at_lowest, bit_at-zero}
use Rattle.std.specs.Int.{bit_at}
use Rattle.std.proofs.lemmas.Int.{ints}
use Rattle.std.proofs.Math.Pow.{pow_mono}
use Rattle.definitions.proofs.Members.{has_player-empty}
use Rattle.definitions.specs.Games.{IsGame}
use Rattle.definitions.specs.Coalitions.{has_player}
use Rattle.definitions.specs.Classes.{Matrix, joined, removed, is_source, is_point_of, entry}
use Rattle.matrices.specs.Rows.{entries_of}
use Rattle.matrices.proofs.Rows.{entries-small}
use Rattle.tree_games.specs.Steps.{near, closest, prim_cost}
use Rattle.tree_games.specs.Trees.{IsTree, tree_game}
use Rattle.tree_games.proofs.Nearest.{near-joined, near-source, near-small, closest-same}

pub record PrimState (t : List (List ℤ)) (s k : ℕ) (best : List ℕ) (connected waiting total : ℕ) : Type 0 where
  pub len : length best ≡ 17
  pub nears : (j : ℕ) → j < (length t)
      → slice_index best j ≡ near (entries_of t) (has_player connected) (length t) j
  pub rest : total
      + prim_cost (entries_of t) (length t) ((length t) - 1 - k) (has_player connected) (has_player waiting)
      ≡ prim_cost (entries_of t) (length t) ((length t) - 1) is_source (is_point_of s)
  pub small : total ≤ k * 2 ^ 40

pub source_alone : (has_player 1) ≡ is_source
source_alone = fun_ext each
  where
    each : (j : ℕ) → has_player 1 j ≡ is_source j
    each zero = refl
    each (suc j) = let a = bit_at-suc 1 j in let b = bit_at-zero j in grind (arith, nat_tests, a, b)

pub points_of : (s : ℕ) → has_player (2 * s) ≡ is_point_of s
points_of s = fun_ext each
  where
    each : (j : ℕ) → has_player (2 * s) j ≡ is_point_of s j
    each zero = let a = bit_at_lowest (2 * s) in zero_is_not_one (bit_at (2 * s) 0) (a ∙ omega arith)
      where
        zero_is_not_one : (b : ℕ) → b ≡ 0 → nat_eq b 1 ≡ false
        zero_is_not_one b e = grind (arith, nat_tests)
    each (suc j) =
        let half : 2 * s / 2 ≡ s = omega arith in
        ap (λ (b : ℕ). nat_eq b 1) (bit_at-suc (2 * s) j ∙ ap (λ (m : ℕ). bit_at m j) half)

prim-idle : (matrix : Matrix) (m k : ℕ) (c w : ℕ → Bool) → w (closest (near matrix c m) w m) ≡ false
    → prim_cost matrix m k c w ≡ 0
prim-idle matrix m zero c w e = refl
prim-idle matrix m (suc k) c w e = rw e refl

prim-taken : (matrix : Matrix) (m k : ℕ) (c w : ℕ → Bool) (p : ℕ) → p ≡ closest (near matrix c m) w m → w p ≡ true
    → prim_cost matrix m (suc k) c w ≡ near matrix c m p + prim_cost matrix m k (joined c p) (removed w p)
prim-taken matrix m k c w p e f =
    rw (ap w (sym e) ∙ f)
    (ap (λ (q : ℕ). near matrix c m q + prim_cost matrix m k (joined c q) (removed w q)) (sym e))

pub prim_start : (t : List (List ℤ)) (s waiting : ℕ) (best : List ℕ) → length best ≡ 17
    → ((j : ℕ) → j < (length t) → slice_index best j ≡ entries_of t 0 j) → waiting ≡ 2 * s
    → PrimState t s 0 best 1 waiting 0
prim_start t s waiting best len nears e = record {
  len = len;
  nears = λ j lt. nears j lt ∙ sym (near-source (entries_of t) (length t) j)
      ∙ ap (λ (c : ℕ → Bool). near (entries_of t) c (length t) j) (sym source_alone);
  rest =
      start ∙ ap (λ (k : ℕ). prim_cost (entries_of t) (length t) k (has_player 1) (has_player waiting)) all
      ∙ ap (λ (c : ℕ → Bool). prim_cost (entries_of t) (length t) ((length t) - 1) c (has_player waiting))
      source_alone
      ∙ ap (λ (w : ℕ → Bool). prim_cost (entries_of t) (length t) ((length t) - 1) is_source w)
      (ap has_player e ∙ points_of s);
  small = omega arith;
}
  where
    start : 0 + prim_cost (entries_of t) (length t) ((length t) - 1 - 0) (has_player 1) (has_player waiting)
        ≡ prim_cost (entries_of t) (length t) ((length t) - 1 - 0) (has_player 1) (has_player waiting)
    start = omega arith

    all : (length t) - 1 - 0 ≡ (length t) - 1
    all = omega arith

-- the point that the code takes is the closest
taken_is : (t : List (List ℤ)) (s k : ℕ) (best : List ℕ) (connected waiting total p : ℕ)
    → PrimState t s k best connected waiting total → p ≡ closest (slice_index best) (has_player waiting) (length t)
    → p ≡ closest (near (entries_of t) (has_player connected) (length t)) (has_player waiting) (length t)
taken_is t s k best connected waiting total p h e =
    e
    ∙ closest-same (slice_index best) (near (entries_of t) (has_player connected) (length t)) (has_player waiting)
    (length t) (length t) (omega arith) h.nears

one_less : (m k : ℕ) → k < m → m - k ≡ suc (m - (k + 1))
one_less m k h = omega arith

pub prim_stays : (t : List (List ℤ)) (s k : ℕ) (best : List ℕ) (connected waiting total p : ℕ)
    → PrimState t s k best connected waiting total → p ≡ closest (slice_index best) (has_player waiting) (length t)
    → has_player waiting p ≡ false → PrimState t s (k + 1) best connected waiting total
prim_stays t s k best connected waiting total p h e out =
    let is = taken_is t s k best connected waiting total p h e in
    let idle : (r : ℕ) → prim_cost (entries_of t) (length t) r (has_player connected) (has_player waiting) ≡ 0 = λ r.
    prim-idle (entries_of t) (length t) r (has_player connected) (has_player waiting)
    (ap (has_player waiting) (sym is) ∙ out) in
    let rest = h.rest in
    record {
      len = h.len;
      nears = h.nears;
      rest = omega (arith, idle ((length t) - 1 - k), idle ((length t) - 1 - (k + 1)));
      small = omega arith;
    }

pub prim_takes : (t : List (List ℤ)) (s k : ℕ) (best next : List ℕ) (connected joint waiting less total p : ℕ)
    → PrimState t s k best connected waiting total → k < (length t) - 1
    → p ≡ closest (slice_index best) (has_player waiting) (length t) → p < (length t) → has_player waiting p ≡ true
    → ((j : ℕ) → has_player joint j ≡ (nat_eq j p || has_player connected j))
    → ((j : ℕ) → has_player less j ≡ (not (nat_eq j p) && has_player waiting j)) → length next ≡ 17
    → ((j : ℕ) → j < (length t) → slice_index next j ≡ min (slice_index best j) (entries_of t p j))
    → slice_index best p < 2 ^ 40 → PrimState t s (k + 1) next joint less (total + slice_index best p)
prim_takes t s k best next connected joint waiting less total p h lt e below waits joins leaves len nexts cheap =
    record {
      len = len;
      nears = λ j k. nexts j k ∙ ap (λ (x : ℕ). min x (entries_of t p j)) (h.nears j k)
          ∙ sym (near-joined (entries_of t) (has_player connected) (length t) p j below)
          ∙ ap (λ (c : ℕ → Bool). near (entries_of t) c (length t) j) (sym joint_is);
      rest = (let a = taken in let b = now in let c = h.nears p below in let d = h.rest in omega (arith, a, b, c, d));
      small = (let few = h.small in omega (arith, few, cheap));
    }
  where
    joint_is : has_player joint ≡ joined (has_player connected) p
    joint_is = fun_ext joins

    fewer : has_player less ≡ removed (has_player waiting) p
    fewer = fun_ext leaves

    taken : prim_cost (entries_of t) (length t) ((length t) - 1 - k) (has_player connected) (has_player waiting)
        ≡ near (entries_of t) (has_player connected) (length t) p
        + prim_cost (entries_of t) (length t) ((length t) - 1 - (k + 1)) (joined (has_player connected) p)
        (removed (has_player waiting) p)
    taken =
        ap (λ (r : ℕ). prim_cost (entries_of t) (length t) r (has_player connected) (has_player waiting))
        (one_less ((length t) - 1) k lt)
        ∙ prim-taken (entries_of t) (length t) ((length t) - 1 - (k + 1)) (has_player connected)
        (has_player waiting) p (taken_is t s k best connected waiting total p h e) waits

    now : prim_cost (entries_of t) (length t) ((length t) - 1 - (k + 1)) (has_player joint) (has_player less)
        ≡ prim_cost (entries_of t) (length t) ((length t) - 1 - (k + 1)) (joined (has_player connected) p)
        (removed (has_player waiting) p)
    now =
        ap (λ (c : ℕ → Bool). prim_cost (entries_of t) (length t) ((length t) - 1 - (k + 1)) c (has_player less))
        joint_is
        ∙ ap
        (λ (w : ℕ → Bool). prim_cost (entries_of t) (length t) ((length t) - 1 - (k + 1))
        (joined (has_player connected) p) w) fewer

-- ---- how large entries and costs are

pub best-small : (t : List (List ℤ)) (s k : ℕ) (best : List ℕ) (connected waiting total p : ℕ) → IsTree t
    → PrimState t s k best connected waiting total → p < (length t) → slice_index best p < 2 ^ 40
best-small t s k best connected waiting total p tree h lt =
    rw (h.nears p lt)
    (near-small (entries_of t) (has_player connected) (length t) p (2 ^ 40) (entries-small t 0 p tree.entries))

prim_cost-small : (matrix : Matrix) → ((i j : ℕ) → entry matrix i j < 2 ^ 40) → (m k : ℕ) (c w : ℕ → Bool)
    → prim_cost matrix m k c w ≤ k * 2 ^ 40
prim_cost-small matrix h m zero c w = omega arith
prim_cost-small matrix h m (suc k) c w =
    grind (
      arith,
      near-small matrix c m (closest (near matrix c m) w m) (2 ^ 40) (h 0 (closest (near matrix c m) w m)),
      prim_cost-small matrix h m k (joined c (closest (near matrix c m) w m))
          (removed w (closest (near matrix c m) w m)),
    )

pub tree_laws : (t : List (List ℤ)) → IsTree t → IsGame (tree_game t)
tree_laws t h =
    let some = h.points.0 in
    let few = h.points.1 in
    record {
      some = omega arith;
      few = omega arith;
      nobody =
          nothing
          (prim-idle (entries_of t) (length t) ((length t) - 1) is_source (is_point_of 0)
          (nobody (closest (near (entries_of t) is_source (length t)) (is_point_of 0) (length t))));
      small = λ s lt. worth_small (prim_cost (entries_of t) (length t) ((length t) - 1) is_source (is_point_of s))
          (prim_cost-small (entries_of t) (λ i j. entries-small t i j h.entries) (length t) ((length t) - 1) is_source
          (is_point_of s)) few;
    }
  where
    nothing : {k : ℕ} → k ≡ 0 → neg_ℤ (pos k) ≡ pos 0
    nothing e = ap (λ (k : ℕ). neg_ℤ (pos k)) e

    nobody : (j : ℕ) → is_point_of 0 j ≡ false
    nobody zero = refl
    nobody (suc i) = has_player-empty i

    worth_small : (k : ℕ) → k ≤ ((length t) - 1) * 2 ^ 40 → (length t) ≤ 17 → unsigned_abs (neg_ℤ (pos k)) < 2 ^ 46
    worth_small k le few = let m : k < 2 ^ 46 = omega arith in omega (arith, ints)

pub doubled : (points s k : ℕ) → points ≤ 17 → s < 2 ^ (points - 1) → k ≡ s → k * 2 % 2 ^ 64 ≡ 2 * s
doubled points s k few lt e =
    let low : points - 1 ≤ 16 = omega arith in
    let m : 2 ^ (points - 1) ≤ 2 ^ 16 = pow_mono low in
    omega arith
