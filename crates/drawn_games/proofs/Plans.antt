-- Links straight to the source are an attachment plan, so players of a tree are worth no more alone, added, than all.
use Rattle.std.proofs.Common.{◌≡◌, ℕ, zero, suc, ◌+◌, ◌-◌, ◌<◌, ◌≤◌, Bool, true}
use Rattle.std.proofs.Common.{false, not, ◌&&◌}
use Rattle.std.proofs.Common.{nat_eq, nat_lt, nat_le, List, [], ◌∷◌, length, ℤ, pos, neg_ℤ}
use Rattle.std.proofs.Common.{◌+ℤ◌}
use Rattle.std.proofs.Common.{◌≤ℤ◌, refl, sym, ap, subst, ◌∙◌, inl, inr, arith}
use Rattle.std.proofs.lemmas.Bool.{false≢true}
use Rattle.std.proofs.lemmas.Bool.Decides.{nat_tests}
use Rattle.std.proofs.lemmas.Int.{ints}
use Rattle.definitions.proofs.Cases.{below_or_above, same_or_other, from_nat_eq, or_right}
use Rattle.definitions.proofs.Masks.{grand_coalition-within, singleton-within}
use Rattle.definitions.proofs.Members.{has_player-singleton, has_player-singleton_other}
use Rattle.definitions.proofs.Members.{has_player-grand_coalition, sum_below-front}
use Rattle.definitions.proofs.Parts.{has_player-past}
use Rattle.definitions.specs.Sums.{sum_below}
use Rattle.definitions.specs.Coalitions.{singleton, grand_coalition}
use Rattle.definitions.specs.Classes.{Matrix, entry, joined, removed, is_source}
use Rattle.definitions.specs.Classes.{is_point_of, IsAttachment, IsPlan, plan_cost}
use Rattle.matrices.specs.Rows.{entries_of}
use Rattle.tree_games.specs.Trees.{IsTree, tree_game}
use Rattle.tree_games.proofs.Nearest.{tree_is_game}
use Rattle.drawn_games.specs.Imputations.{HasImputations}

-- from k on, each of m points straight to the source
abbrev straight : ℕ → ℕ → List (ℕ × ℕ)
straight k zero = []
straight k (suc m) = (0, suc k) ∷ straight (suc k) m

straight-attaches : (k m : ℕ) (c w : ℕ → Bool) → c 0 ≡ true → ((j : ℕ) → w j ≡ (nat_lt k j && nat_le j (k + m)))
    → IsAttachment c w (straight k m)
straight-attaches k zero c w source h = λ j. h j ∙ none_between k j
  where
    none_between : (k j : ℕ) → (nat_lt k j && nat_le j (k + 0)) ≡ false
    none_between k j = grind (arith, nat_tests)
straight-attaches k (suc m) c w source h = (
  source,
  h (suc k) ∙ here k m,
  straight-attaches (suc k) m (joined c (suc k)) (removed w (suc k)) (or_right (nat_eq 0 (suc k)) (c 0) source)
      (λ j. ap (λ b. not (nat_eq j (suc k)) && b) (h j) ∙ rest k m j),
)
  where
    here : (k m : ℕ) → (nat_lt k (suc k) && nat_le (suc k) (k + suc m)) ≡ true
    here k m = grind (arith, nat_tests)

    rest : (k m j : ℕ)
        → (not (nat_eq j (suc k)) && (nat_lt k j && nat_le j (k + suc m)))
        ≡ (nat_lt (suc k) j && nat_le j (suc k + m))
    rest k m j = grind (arith, nat_tests)

straight-cost : (matrix : Matrix) (k m : ℕ) (f : ℕ → ℤ)
    → ((i : ℕ) → i < m → f i ≤ℤ neg_ℤ (pos (entry matrix 0 (suc (k + i)))))
    → sum_below m f ≤ℤ neg_ℤ (pos (plan_cost matrix (straight k m)))
straight-cost matrix k zero f h = omega (arith, ints)
straight-cost matrix k (suc m) f h =
    let front = sum_below-front m f in
    let ih =
    straight-cost matrix (suc k) m (λ i. f (suc i))
    (λ i lt. subst (λ (j : ℕ). f (suc i) ≤ℤ neg_ℤ (pos (entry matrix 0 (suc j)))) (suc_to_front k i)
    (h (suc i) (omega arith))) in
    let same : k + 0 ≡ k = omega arith in
    let first = subst (λ (j : ℕ). f 0 ≤ℤ neg_ℤ (pos (entry matrix 0 (suc j)))) same (h 0 (omega arith)) in
    both (entry matrix 0 (suc k)) (plan_cost matrix (straight (suc k) m)) (f 0) (sum_below m (λ i. f (suc i)))
    (sum_below (suc m) f) front first ih
  where
    suc_to_front : (k i : ℕ) → k + suc i ≡ suc k + i
    suc_to_front k i = omega arith

    both : (e p : ℕ) (x y z : ℤ) → z ≡ x +ℤ y → x ≤ℤ neg_ℤ (pos e) → y ≤ℤ neg_ℤ (pos p) → z ≤ℤ neg_ℤ (pos (e + p))
    both e p x y z g h k = omega (arith, ints, g, h, k)

-- a plan of one player alone costs at least its link to the source
single_plan : (matrix : Matrix) (i : ℕ) (plan : List (ℕ × ℕ)) → IsPlan (singleton i) plan
    → entry matrix 0 (suc i) ≤ plan_cost matrix plan
single_plan matrix i [] a = absurd (false≢true (sym (a (suc i)) ∙ has_player-singleton i))
single_plan matrix i (p ∷ plan) a =
    let e = ap (λ (k : ℕ). entry matrix k p.1) (from_nat_eq p.0 0 a.0) in
    let f = ap (λ (k : ℕ). entry matrix 0 k) (point p.1 a.1) in
    omega (arith, e, f)
  where
    point : (j : ℕ) → is_point_of (singleton i) j ≡ true → j ≡ suc i
    point zero e = absurd (false≢true e)
    point (suc j) e =
        elim (same_or_other j i) [
          | inl same ↦ ap suc same
          | inr other ↦ absurd (false≢true (sym (has_player-singleton_other i j other) ∙ e))
        ]

is_straight : (n : ℕ) → IsPlan (grand_coalition n) (straight 0 n)
is_straight n = straight-attaches 0 n is_source (is_point_of (grand_coalition n)) refl each
  where
    inside : (i n : ℕ) → i < n → (nat_lt 0 (suc i) && nat_le (suc i) (0 + n)) ≡ true
    inside i n lt = grind (arith, nat_tests)

    outside : (i n : ℕ) → n ≤ i → (nat_lt 0 (suc i) && nat_le (suc i) (0 + n)) ≡ false
    outside i n le = grind (arith, nat_tests)

    each : (j : ℕ) → is_point_of (grand_coalition n) j ≡ (nat_lt 0 j && nat_le j (0 + n))
    each zero = refl
    each (suc i) = elim (below_or_above i n) [
      | inl lt ↦ has_player-grand_coalition n i lt ∙ sym (inside i n lt)
      | inr le ↦ has_player-past n (grand_coalition n) i (grand_coalition-within n) le ∙ sym (outside i n le)
    ]

pub tree_imputations : (rows : List (List ℤ)) → IsTree rows → HasImputations (tree_game rows)
tree_imputations rows tree =
    let n = length rows - 1 in
    let all =
    tree_is_game rows tree (grand_coalition (length rows - 1)) (grand_coalition-within (length rows - 1)) in
    let most = all.2.least (straight 0 (length rows - 1)) (is_straight (length rows - 1)) in
    let worth : (tree_game rows).worth (grand_coalition (length rows - 1)) ≡ neg_ℤ (pos all.0) = all.1 in
    let below =
    straight-cost (entries_of rows) 0 (length rows - 1) (λ i. (tree_game rows).worth (singleton i)) alone in
    ends (plan_cost (entries_of rows) (straight 0 (length rows - 1))) all.0
    (sum_below (length rows - 1) (λ i. (tree_game rows).worth (singleton i)))
    ((tree_game rows).worth (grand_coalition (length rows - 1))) below most worth
  where
    ends : (p cost : ℕ) (x v : ℤ) → x ≤ℤ neg_ℤ (pos p) → cost ≤ p → v ≡ neg_ℤ (pos cost) → x ≤ℤ v
    ends p cost x v h le e = omega (arith, ints, h, le, e)

    least : (e cost : ℕ) (v : ℤ) → e ≤ cost → v ≡ neg_ℤ (pos cost) → v ≤ℤ neg_ℤ (pos e)
    least e cost v le f = omega (arith, ints, le, f)

    alone : (i : ℕ) → i < length rows - 1
        → (tree_game rows).worth (singleton i) ≤ℤ neg_ℤ (pos (entry (entries_of rows) 0 (suc (0 + i))))
    alone i lt =
        let h = tree_is_game rows tree (singleton i) (singleton-within (length rows - 1) i lt) in
        let r = h.2.reached in
        let le = single_plan (entries_of rows) i r.0 r.1 in
        let is = r.2 in
        let zero_is : 0 + i ≡ i = omega arith in
        rw zero_is
        (least (entry (entries_of rows) 0 (suc i)) h.0 ((tree_game rows).worth (singleton i))
        (omega (arith, le, is)) h.1)
