-- What the least entries and the closest point are, and that the steps give a least plan.
use Rattle.std.proofs.Common.{◌≡◌, ◌⊎◌, ℕ, zero, suc, ◌+◌, ◌-◌, ◌<◌, ◌≤◌, Bool}
use Rattle.std.proofs.Common.{true, false, not, cond}
use Rattle.std.proofs.Common.{◌&&◌, ◌||◌, nat_eq, List, [], ◌∷◌, length, ℤ, refl}
use Rattle.std.proofs.Common.{sym, ap, subst}
use Rattle.std.proofs.Common.{◌∙◌, inl, inr, arith, if◌then◌else◌, min}
use Rattle.std.proofs.lemmas.Bool.{false≢true}
use Rattle.std.proofs.lemmas.Bool.Decides.{nat_tests}
use Rattle.definitions.proofs.Cases.{nat_eq-same, nat_eq-other, from_nat_eq, and_right, or_right}
use Rattle.definitions.proofs.Cases.{less_or_last, not_true}
use Rattle.definitions.specs.Classes.{Matrix, joined, removed, is_source, is_point_of}
use Rattle.definitions.specs.Classes.{entry, plan_cost, IsLeastCost, IsTreeGame}
use Rattle.matrices.specs.Rows.{entries_of}
use Rattle.tree_games.specs.Steps.{IsPrimFrom, near, closest, prim_cost}
use Rattle.tree_games.specs.Trees.{IsTree, tree_game}
use Rattle.tree_games.proofs.Exchange.{prim_least}
use Rattle.tree_games.proofs.Core.{point_in}

-- ---- the least entry

near-low : (matrix : Matrix) (c : ℕ → Bool) (m b t : ℕ) → b < m → c b ≡ true → near matrix c m t ≤ entry matrix b t
near-low matrix c zero b t lt e = absurd (omega arith)
near-low matrix c (suc m) b t lt e = elim (less_or_last b m lt) [
  | inl less ↦ grind (arith, near-low matrix c m b t less e)
  | inr same ↦ last_entry (c m) (near matrix c m t) (ap c (sym same) ∙ e) (ap (λ (k : ℕ). entry matrix k t) same)
]
  where
    last_entry : (q : Bool) (x : ℕ) → q ≡ true → entry matrix b t ≡ entry matrix m t
        → cond q (min x (entry matrix m t)) x ≤ entry matrix b t
    last_entry q x f g = grind arith

near-reached : (matrix : Matrix) (c : ℕ → Bool) (m t : ℕ) → c 0 ≡ true
    → (b : ℕ) × (c b ≡ true) × (near matrix c m t ≡ entry matrix b t)
near-reached matrix c zero t e = (0, e, refl)
near-reached matrix c (suc m) t e = cases (c m) refl (near-reached matrix c m t e)
  where
    which : (x y : ℕ) → (min x y ≡ x) ⊎ (min x y ≡ y)
    which x y = grind arith

    cases : (q : Bool) → c m ≡ q → (b : ℕ) × (c b ≡ true) × (near matrix c m t ≡ entry matrix b t)
        → (b : ℕ) × (c b ≡ true)
        × (cond q (min (near matrix c m t) (entry matrix m t)) (near matrix c m t) ≡ entry matrix b t)
    cases true f (b, cb, g) =
        elim (which (near matrix c m t) (entry matrix m t)) [ inl k ↦ (b, cb, k ∙ g) | inr k ↦ (m, f, k) ]
    cases false f (b, cb, g) = (b, cb, g)

near-apart : (matrix : Matrix) (c : ℕ → Bool) (m p t : ℕ) → m ≤ p → near matrix (joined c p) m t ≡ near matrix c m t
near-apart matrix c zero p t h = refl
near-apart matrix c (suc m) p t h =
    rw (nat_eq-other m p (λ e. omega arith), near-apart matrix c m p t (omega arith)) refl

pub near-joined : (matrix : Matrix) (c : ℕ → Bool) (m p t : ℕ) → p < m
    → near matrix (joined c p) m t ≡ min (near matrix c m t) (entry matrix p t)
near-joined matrix c zero p t h = absurd (omega arith)
near-joined matrix c (suc m) p t h = elim (less_or_last p m h) [
  | inl less ↦
      rw (nat_eq-other m p (λ e. omega arith), near-joined matrix c m p t less) (grind arith)
  | inr same ↦ subst
      (λ (k : ℕ). near matrix (joined c k) (suc m) t ≡ min (near matrix c (suc m) t) (entry matrix k t)) (sym same)
      (min_with_joined (nat_eq m m) (c m) (near matrix (joined c m) m t) (near matrix c m t) (entry matrix m t)
      (nat_eq-same m)
      (near-apart matrix c m m t (omega arith)))
]
  where
    min_with_joined : (b q : Bool) (z x y : ℕ) → b ≡ true → z ≡ x
        → cond (b || q) (min z y) z ≡ min (cond q (min x y) x) y
    min_with_joined true true z x y e f = omega arith
    min_with_joined true false z x y e f = omega arith
    min_with_joined false q z x y e f = absurd (false≢true e)

pub near-source : (matrix : Matrix) (m t : ℕ) → near matrix is_source m t ≡ entry matrix 0 t
near-source matrix zero t = refl
near-source matrix (suc m) t = grind (arith, nat_tests, near-source matrix m t)

pub near-small : (matrix : Matrix) (c : ℕ → Bool) (m t bound : ℕ) → entry matrix 0 t < bound
    → near matrix c m t < bound
near-small matrix c zero t bound h = h
near-small matrix c (suc m) t bound h =
    grind (arith, near-small matrix c m t bound h)

-- ---- the closest point

pub closest-below : (best : ℕ → ℕ) (w : ℕ → Bool) (m : ℕ) → 1 ≤ m → closest best w m < m
closest-below best w zero h = absurd (omega arith)
closest-below best w (suc zero) h = grind arith
closest-below best w (suc (suc m)) h =
    grind (arith, closest-below best w (suc m) (omega arith))

-- where some point waits, the closest waits, and no other is nearer
pub closest-least : (best : ℕ → ℕ) (w : ℕ → Bool) (m t : ℕ) → t < m → w t ≡ true
    → (w (closest best w m) ≡ true) × (best (closest best w m) ≤ best t)
closest-least best w zero t lt e = absurd (omega arith)
closest-least best w (suc m) t lt e = elim (less_or_last t m lt) [
  | inl less ↦
      let h = closest-least best w m t less e in (grind (arith, nat_tests, h.0), grind (arith, nat_tests, h.0, h.1))
  | inr same ↦
      let waits = ap w (sym same) ∙ e in
      let near = ap best same in (grind (arith, nat_tests, waits), grind (arith, nat_tests, waits, near))
]

-- of those that are as near, the first is taken
pub closest-first : (best : ℕ → ℕ) (w : ℕ → Bool) (m t : ℕ) → t < m → w t ≡ true → best (closest best w m) ≡ best t
    → closest best w m ≤ t
closest-first best w zero t lt e same = absurd (omega arith)
closest-first best w (suc m) t lt e tie = elim (less_or_last t m lt) [
  | inl less ↦
      let h = closest-least best w m t less e in
      let first = closest-first best w m t less e in grind (arith, nat_tests, h.0, h.1, first)
  | inr same ↦ let low = closest-at_most m in grind (arith, low)
]
  where
    closest-at_most : (m : ℕ) → closest best w m ≤ m
    closest-at_most zero = omega arith
    closest-at_most (suc m) = let b = closest-below best w (suc m) (omega arith) in omega arith

pub closest-same : (f g : ℕ → ℕ) (w : ℕ → Bool) (m k : ℕ) → k ≤ m → ((j : ℕ) → j < m → f j ≡ g j)
    → closest f w k ≡ closest g w k
closest-same f g w m zero h same = refl
closest-same f g w m (suc k) h same =
    let ih = closest-same f g w m k (omega arith) same in
    let here = same k (omega arith) in
    let there = same (closest g w k) (closest-before k (omega arith)) in
    rw (ih, here, there) refl
  where
    closest-before : (k : ℕ) → suc k ≤ m → closest g w k < m
    closest-before zero h = omega arith
    closest-before (suc k) h = let b = closest-below g w (suc k) (omega arith) in omega arith

-- ---- how many wait

abbrev pub count : (ℕ → Bool) → ℕ → ℕ
count w zero = 0
count w (suc m) = if w m then suc (count w m) else count w m

pub count-none : (w : ℕ → Bool) (m j : ℕ) → count w m ≡ 0 → j < m → w j ≡ false
count-none w zero j e lt = absurd (omega arith)
count-none w (suc m) j e lt = elim (less_or_last j m lt) [
  | inl less ↦ count-none w m j (rest (w m) (count w m) e) less
  | inr same ↦ ap w same ∙ last_is_out (w m) (count w m) e
]
  where
    rest : (q : Bool) (k : ℕ) → cond q (suc k) k ≡ 0 → k ≡ 0
    rest q k e = grind arith

    last_is_out : (q : Bool) (k : ℕ) → cond q (suc k) k ≡ 0 → q ≡ false
    last_is_out q k e = grind arith

count-apart : (w : ℕ → Bool) (m p : ℕ) → m ≤ p → count (removed w p) m ≡ count w m
count-apart w zero p h = refl
count-apart w (suc m) p h = rw (nat_eq-other m p (λ e. omega arith), count-apart w m p (omega arith)) refl

pub count-removed : (w : ℕ → Bool) (m p : ℕ) → p < m → w p ≡ true → count w m ≡ suc (count (removed w p) m)
count-removed w zero p h e = absurd (omega arith)
count-removed w (suc m) p h e = elim (less_or_last p m h) [
  | inl less ↦
      rw (nat_eq-other m p (λ k. omega arith), count-removed w m p less e) (grind arith)
  | inr same ↦ subst (λ (k : ℕ). count w (suc m) ≡ suc (count (removed w k) (suc m))) (sym same)
      (count_of_last (w m) (nat_eq m m) (count w m) (count (removed w m) m) (ap w (sym same) ∙ e) (nat_eq-same m)
      (count-apart w m m (omega arith)))
]
  where
    count_of_last : (q b : Bool) (x y : ℕ) → q ≡ true → b ≡ true → y ≡ x
        → cond q (suc x) x ≡ suc (cond (not b && q) (suc y) y)
    count_of_last true true x y e f g = ap suc (sym g)
    count_of_last true false x y e f g = absurd (false≢true f)
    count_of_last false b x y e f g = absurd (false≢true e)

count-few : (w : ℕ → Bool) (m : ℕ) → w 0 ≡ false → count w (suc m) ≤ m
count-few w zero e = rw e (omega arith)
count-few w (suc m) e = grind (arith, count-few w m e)

-- ---- the steps

abbrev Found : Matrix → ℕ → (ℕ → Bool) → (ℕ → Bool) → ℕ → Type 0
Found matrix m c w cost = (plan : List (ℕ × ℕ)) × IsPrimFrom matrix c w plan × (cost ≡ plan_cost matrix plan)

found_step : (matrix : Matrix) (m : ℕ) (c w : ℕ → Bool) (p rest : ℕ) → p ≡ closest (near matrix c m) w m
    → c 0 ≡ true → ((b : ℕ) → c b ≡ true → b < m) → ((t : ℕ) → w t ≡ true → t < m) → (q : Bool) → w p ≡ q
    → (w p ≡ true → Found matrix m (joined c p) (removed w p) rest)
    → Found matrix m c w (cond q (near matrix c m p + rest) 0)
found_step matrix m c w p rest is source cm wm true e ih =
    let r = ih e in
    let end = near-reached matrix c m p source in (
      (end.0, p) ∷ r.0,
      (end.1, e, λ b t cb wt. least b t cb wt (near-low matrix c m b t (cm b cb) cb) (sym end.2), r.1),
      (omega arith),
    )
  where
    least : (b t : ℕ) → c b ≡ true → w t ≡ true → near matrix c m t ≤ entry matrix b t → {x : ℕ}
        → x ≡ near matrix c m p → x ≤ entry matrix b t
    least b t cb wt low f =
        let k = (closest-least (near matrix c m) w m t (wm t wt) wt).1 in
        let g = ap (near matrix c m) is in
        omega arith
found_step matrix m c w p rest is source cm wm false e ih = (
  [],
  λ j. not_true (w j)
      (λ f. false≢true (sym e ∙ ap w is ∙ (closest-least (near matrix c m) w m j (wm j f) f).0)),
  refl,
)

prim-found : (matrix : Matrix) (m k : ℕ) (c w : ℕ → Bool) → c 0 ≡ true → ((b : ℕ) → c b ≡ true → b < m)
    → ((t : ℕ) → w t ≡ true → t < m) → count w m ≤ k → Found matrix m c w (prim_cost matrix m k c w)
prim-found matrix m zero c w source cm wm few =
    ([], λ j. not_true (w j) (λ e. false≢true (sym (count-none w m j (omega arith) (wm j e)) ∙ e)), refl)
prim-found matrix m (suc k) c w source cm wm few =
    found_step matrix m c w (closest (near matrix c m) w m)
    (prim_cost matrix m k (joined c (closest (near matrix c m) w m)) (removed w (closest (near matrix c m) w m)))
    refl source cm wm (w (closest (near matrix c m) w m)) refl
    (λ e. prim-found matrix m k (joined c (closest (near matrix c m) w m))
    (removed w (closest (near matrix c m) w m)) (joins (closest (near matrix c m) w m))
    (λ b. below_joined (closest (near matrix c m) w m) b e)
    (λ t h. wm t (and_right (not (nat_eq t (closest (near matrix c m) w m))) (w t) h))
    (fewer (closest (near matrix c m) w m) e))
  where
    joins : (p : ℕ) → joined c p 0 ≡ true
    joins p = or_right (nat_eq 0 p) (c 0) source

    below_joined : (p b : ℕ) → w p ≡ true → joined c p b ≡ true → b < m
    below_joined p b e = λ f. grind (arith, from_nat_eq b p, wm p e, cm b)

    fewer : (p : ℕ) → w p ≡ true → count (removed w p) m ≤ k
    fewer p e = omega (arith, count-removed w m p (wm p e) e)

-- ---- a tree game is the game of its matrix

pub tree_is_game : (t : List (List ℤ)) → IsTree t → IsTreeGame (entries_of t) (tree_game t)
tree_is_game t h s lt =
    let found =
    prim-found (entries_of t) (length t) ((length t) - 1) is_source (is_point_of s) refl source_below
    points_below few in (
      prim_cost (entries_of t) (length t) ((length t) - 1) is_source (is_point_of s),
      refl,
      subst (λ (k : ℕ). IsLeastCost (entries_of t) s k) (sym found.2)
          (prim_least (entries_of t) s found.0 h.links.symmetric found.1),
    )
  where
    some : 2 ≤ (length t)
    some = h.points.0

    source_below : (b : ℕ) → is_source b ≡ true → b < (length t)
    source_below b e = let k = from_nat_eq b 0 e in let m = some in omega (arith, k, m)

    points_below : (j : ℕ) → is_point_of s j ≡ true → j < (length t)
    points_below j e = let r = (point_in ((length t) - 1) s j lt e).1 in let m = some in omega (arith, r, m)

    whole : (m : ℕ) → 2 ≤ m → suc (m - 1) ≡ m
    whole m k = omega arith

    few : count (is_point_of s) (length t) ≤ (length t) - 1
    few =
        subst (λ (k : ℕ). count (is_point_of s) k ≤ (length t) - 1) (whole (length t) some)
        (count-few (is_point_of s) ((length t) - 1) refl)
