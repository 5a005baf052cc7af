-- What the loop of the Bird plan keeps.
--
-- At each step two points are taken: the first connected point from which the nearest waiting point is nearest, and the
-- first such waiting point. They are the least pair by cost, end and player (`next_is`).
use Rattle.std.proofs.Common.{◌≡◌, ◌≢◌, ◌⊎◌, ℕ, zero, suc, ◌+◌, ◌-◌, ◌*◌, ◌^◌}
use Rattle.std.proofs.Common.{◌<◌, ◌≤◌, Bool, true, false}
use Rattle.std.proofs.Common.{not, cond, ◌&&◌, ◌||◌, nat_eq, List, [], ◌∷◌, ◌++◌, length}
use Rattle.std.proofs.Common.{ℤ, pos, neg_ℤ}
use Rattle.std.proofs.Common.{unsigned_abs, get_or, set, refl, sym, ap, ◌∙◌, inl, inr}
use Rattle.std.proofs.Common.{arith}
use Rattle.std.proofs.Common.{append_assoc, append-nil, length-set, replicate, length-append}
use Rattle.std.proofs.Math.Path.{fun_ext}
use Rattle.std.specs.List.{AllByRecursion}
use Rattle.std.proofs.lemmas.Bool.{false≢true}
use Rattle.std.proofs.lemmas.Int.{ints}
use Rattle.std.proofs.lemmas.List.{get_or-set_other, get_or-set_same, map-append, get_or-replicate}
use Rattle.definitions.proofs.Cases.{same_or_other, nat_eq-same, from_nat_eq}
use Rattle.definitions.proofs.Cases.{and_right, or_right, and_false, not_true}
use Rattle.definitions.proofs.Alls.{all_weaken, all_join}
use Rattle.definitions.proofs.Masks.{grand_coalition-within}
use Rattle.definitions.proofs.Members.{has_player-grand_coalition}
use Rattle.definitions.specs.Coalitions.{has_player, grand_coalition}
use Rattle.definitions.specs.Games.{IsShares}
use Rattle.definitions.specs.Classes.{Matrix, joined, removed, is_source, is_point_of, entry}
use Rattle.definitions.specs.Classes.{IsNoLater, IsBirdFrom, IsBirdPlan, IsBirdShares}
use Rattle.worth_core.specs.Allocations.{allocation}
use Rattle.orders.specs.Numbers.{IsNumber}
use Rattle.matrices.proofs.Rows.{entries-small}
use Rattle.matrices.specs.Rows.{entries_of}
use Rattle.tree_games.specs.Steps.{next_end, nearest, reach}
use Rattle.tree_games.specs.Trees.{IsTree, tree_game, IsBird, plan_of, IsEdge}
use Rattle.tree_games.proofs.Exchange.{prim_least}
use Rattle.tree_games.proofs.Core.{bird-prim, bird_in_core, point_in}
use Rattle.tree_games.proofs.Nearest.{closest-least, closest-first, count, count-removed, count-none, tree_is_game}
use Rattle.tree_games.proofs.PrimLoop.{source_alone, points_of}

-- ---- the link that is taken

-- a pair of a connected end and a waiting point, and the least of these
abbrev pub IsNext : Matrix → (ℕ → Bool) → (ℕ → Bool) → ℕ → ℕ → Type 0
IsNext matrix c w end p =
    (c end ≡ true) × (w p ≡ true) × ((r : ℕ × ℕ) → c r.0 ≡ true → w r.1 ≡ true → IsNoLater matrix (end, p) r)

-- the first waiting point nearest to the first connected point from which one is nearest: the least pair by entry,
-- end and point
next_is : (matrix : Matrix) (m : ℕ) (c w : ℕ → Bool) (b0 t0 : ℕ) → ((b : ℕ) → c b ≡ true → b < m)
    → ((t : ℕ) → w t ≡ true → t < m) → c b0 ≡ true → w t0 ≡ true
    → IsNext matrix c w (next_end matrix m c w) (nearest matrix m w (next_end matrix m c w))
next_is matrix m c w b0 t0 cm wm cb wt = (
  (closest-least far c m b0 (cm b0 cb) cb).0,
  (closest-least (entry matrix end) w m t0 (wm t0 wt) wt).0,
  λ r cr wr. later r.0 r.1 cr wr,
)
  where
    far : ℕ → ℕ
    far = reach matrix m w

    end : ℕ
    end = next_end matrix m c w

    less_or_same : (x y : ℕ) → x ≤ y → (x < y) ⊎ (x ≡ y)
    less_or_same x y h = grind arith

    later : (b t : ℕ) → c b ≡ true → w t ≡ true → IsNoLater matrix (end, nearest matrix m w end) (b, t)
    later b t cb wt =
        let low = (closest-least far c m b (cm b cb) cb).1 in
        let near = (closest-least (entry matrix b) w m t (wm t wt) wt).1 in
        elim (less_or_same (far end) (entry matrix b t) (omega arith)) [
          | inl less ↦ inl less
          | inr tie ↦ inr (
            tie,
            at_tie tie
                (less_or_same end b
                (closest-first far c m b (cm b cb) cb
                (squeezed (far end) (far b) (entry matrix b t) low near tie))),
          )
        ]
      where
        squeezed : (x y z : ℕ) → x ≤ y → y ≤ z → x ≡ z → x ≡ y
        squeezed x y z h k e = omega arith

        at_tie : far end ≡ entry matrix b t → (end < b) ⊎ (end ≡ b)
            → (end < b) ⊎ ((end ≡ b) × (nearest matrix m w end ≤ t))
        at_tie tie (inl less) = inl less
        at_tie tie (inr same) =
            inr (
              same,
              closest-first (entry matrix end) w m t (wm t wt) wt
                  (tie ∙ ap (λ (k : ℕ). entry matrix k t) (sym same)),
            )

-- ---- the loop

-- the point of a pair waits no longer, and pays the entry of the pair
abbrev Paid : List (List ℤ) → List ℤ → ℕ → ℕ × ℕ → Type 0
Paid t num waiting p =
    (has_player waiting p.1 ≡ false) × (1 ≤ p.1)
    × (get_or num (p.1 - 1) (pos 0) ≡ neg_ℤ (pos (entry (entries_of t) p.0 p.1)))

pub record BirdState (t : List (List ℤ)) (k : ℕ) (num : List ℤ) (edges : List (ℕ × ℕ × ℤ)) (connected waiting : ℕ) :
    Type 0 where
  pub len : length num ≡ length t - 1
  pub each : (length edges ≡ k) × (k ≤ length t - 1)
  pub grows : (rest : List (ℕ × ℕ)) → IsBirdFrom (entries_of t) (has_player connected) (has_player waiting) rest
      → IsBirdPlan (entries_of t) (grand_coalition (length t - 1)) (plan_of edges ++ rest)
  pub left : count (has_player waiting) (length t) ≡ length t - 1 - k
  pub source : has_player connected 0 ≡ true
  pub near : (b : ℕ) → has_player connected b ≡ true → b < length t
  pub far : (j : ℕ) → has_player waiting j ≡ true → (1 ≤ j) × (j < length t)
  pub links : AllByRecursion (IsEdge t) edges
  pub done : AllByRecursion (Paid t num waiting) (plan_of edges)
  pub small : (i : ℕ) → i < length t - 1 → IsNumber (neg_ℤ (get_or num i (pos 0)))

count-all : (w : ℕ → Bool) (n : ℕ) → w 0 ≡ false → ((i : ℕ) → i < n → w (suc i) ≡ true) → count w (suc n) ≡ n
count-all w zero none all = rw none refl
count-all w (suc n) none all =
    let ih = count-all w n none (λ i lt. all i (omega arith)) in
    rw (all n (omega arith)) (ap suc ih)

pub bird_start : (t : List (List ℤ)) (num : List ℤ) (waiting : ℕ) → IsTree t → length num ≡ length t - 1
    → num ≡ replicate (length t - 1) (pos 0) → waiting ≡ 2 * grand_coalition (length t - 1)
    → BirdState t 0 num [] 1 waiting
bird_start t num waiting h len made e = record {
  len = len;
  each = (refl, omega arith);
  grows = λ rest b. rw (points, source_alone) at b;
  left =
      ap (λ (w : ℕ → Bool). count w (length t)) points
      ∙ ap (λ (k : ℕ). count (is_point_of (grand_coalition (length t - 1))) k) whole
      ∙ count-all (is_point_of (grand_coalition (length t - 1))) (length t - 1) refl
      (λ i lt. has_player-grand_coalition (length t - 1) i lt) ∙ less_nothing;
  source = refl;
  near = λ b cb. alone b (ap (λ (c : ℕ → Bool). c b) (sym source_alone) ∙ cb);
  far = λ j wj. within j
      (point_in (length t - 1) (grand_coalition (length t - 1)) j (grand_coalition-within (length t - 1))
      (ap (λ (w : ℕ → Bool). w j) (sym points) ∙ wj));
  links = tt;
  done = tt;
  small = λ i lt. rw (made, get_or-replicate (length t - 1) i (pos 0) (pos 0) lt)
      (omega (arith, ints), omega (arith, ints));
}
  where
    points : has_player waiting ≡ is_point_of (grand_coalition (length t - 1))
    points = ap has_player e ∙ points_of (grand_coalition (length t - 1))

    whole : length t ≡ suc (length t - 1)
    whole = omega arith

    less_nothing : length t - 1 ≡ length t - 1 - 0
    less_nothing = omega arith

    alone : (b : ℕ) → is_source b ≡ true → b < length t
    alone b e = omega (arith, from_nat_eq b 0 e)

    within : (j : ℕ) → (1 ≤ j) × (j ≤ length t - 1) → (1 ≤ j) × (j < length t)
    within j r = let low = r.0 in (low, omega arith)

some_counted : (w : ℕ → Bool) (m : ℕ) → 1 ≤ count w m → (j : ℕ) × (w j ≡ true)
some_counted w zero h = absurd (omega arith)
some_counted w (suc m) h = cases (w m) refl h (some_counted w m)
  where
    cases : (q : Bool) → w m ≡ q → 1 ≤ cond q (suc (count w m)) (count w m)
        → (1 ≤ count w m → (j : ℕ) × (w j ≡ true)) → (j : ℕ) × (w j ≡ true)
    cases q e h ih = grind arith

-- the pair that the code takes
pub pair_taken : (t : List (List ℤ)) (k : ℕ) (num : List ℤ) (edges : List (ℕ × ℕ × ℤ)) (connected waiting end p : ℕ)
    → BirdState t k num edges connected waiting → k < length t - 1
    → end ≡ next_end (entries_of t) (length t) (has_player connected) (has_player waiting)
    → p ≡ nearest (entries_of t) (length t) (has_player waiting) end
    → IsNext (entries_of t) (has_player connected) (has_player waiting) end p
pair_taken t k num edges connected waiting end p h lt e f =
    let some = some_counted (has_player waiting) (length t) (omega arith) in
    let is =
    next_is (entries_of t) (length t) (has_player connected) (has_player waiting) 0 some.0 h.near
    (λ j w. (h.far j w).1) h.source some.1 in
    rw f (rw e is)

pub bird_takes : (t : List (List ℤ)) (k : ℕ) (num next : List ℤ) (edges after : List (ℕ × ℕ × ℤ))
    (connected joint waiting less end p : ℕ) (v cost : ℤ) → IsTree t → BirdState t k num edges connected waiting
    → k < length t - 1 → IsNext (entries_of t) (has_player connected) (has_player waiting) end p
    → ((j : ℕ) → has_player joint j ≡ (nat_eq j p || has_player connected j))
    → ((j : ℕ) → has_player less j ≡ (not (nat_eq j p) && has_player waiting j)) → next ≡ set num (p - 1) v
    → v ≡ neg_ℤ (pos (entries_of t end p)) → after ≡ edges ++ (end, p, cost) ∷ [] → cost ≡ pos (entries_of t end p)
    → BirdState t (k + 1) next after joint less
bird_takes t k num next edges after connected joint waiting less end p v cost tree h lt taken joins leaves write
    value pushed price = record {
      len = ap length write ∙ length-set num (p - 1) v ∙ h.len;
      each = (
        ap length pushed ∙ length-append edges ((end, p, cost) ∷ []) ∙ ap (λ (n : ℕ). n + 1) h.each.0,
        omega arith,
      );
      grows = λ rest b. rw (ap (λ l. l ++ rest) plan ∙ append_assoc (plan_of edges) ((end, p) ∷ []) rest)
          (h.grows ((end, p) ∷ rest) (
            taken.0,
            taken.1,
            taken.2,
            rw (fewer, joint_is) at b,
          ));
      left =
          (let a = count-removed (has_player waiting) (length t) p point_range.1 taken.1 in
          let b = ap (λ (w : ℕ → Bool). count w (length t)) fewer in omega arith);
      source = joins 0 ∙ or_right (nat_eq 0 p) (has_player connected 0) h.source;
      near = λ b cb. grind (arith, from_nat_eq b p, h.near b, sym (joins b) ∙ cb);
      far = λ j wj. h.far j (and_right (not (nat_eq j p)) (has_player waiting j) (sym (leaves j) ∙ wj));
      links =
          rw pushed (all_join (IsEdge t) edges ((end, p, cost) ∷ []) h.links (edge, tt));
      done =
          rw plan (all_join (Paid t next less) (plan_of edges) ((end, p) ∷ [])
          (all_weaken (Paid t num waiting) (Paid t next less) (plan_of edges) still h.done) (paid, tt));
      small = λ i lt. small_at i (same_or_other i (p - 1)) (h.small i lt);
    }
  where
    joint_is : has_player joint ≡ joined (has_player connected) p
    joint_is = fun_ext joins

    fewer : has_player less ≡ removed (has_player waiting) p
    fewer = fun_ext leaves

    plan : plan_of after ≡ plan_of edges ++ (end, p) ∷ []
    plan = ap plan_of pushed ∙ map-append (λ (e : ℕ × ℕ × ℤ). (e.0, e.1)) edges ((end, p, cost) ∷ [])

    point_range : (1 ≤ p) × (p < length t)
    point_range = h.far p taken.1

    cheap : (z : ℤ) → z ≡ pos (entries_of t end p) → IsNumber z
    cheap z e = let k = entries-small t end p tree.entries in rw e (omega (arith, ints), omega (arith, ints))

    edge : IsEdge t (end, p, cost)
    edge = record { end = h.near end taken.0; player = point_range; cost = price; small = cheap cost price }

    in_num : p - 1 < length num
    in_num = omega (arith, point_range)

    paid : Paid t next less (end, p)
    paid = (
      leaves p ∙ ap (λ b. not b && has_player waiting p) (nat_eq-same p),
      point_range.0,
      ap (λ (l : List ℤ). get_or l (p - 1) (pos 0)) write ∙ get_or-set_same num (p - 1) v (pos 0) in_num
          ∙ value,
    )

    still : (x : ℕ × ℕ) → Paid t num waiting x → Paid t next less x
    still x paid = (
      leaves x.1 ∙ ap (λ b. not (nat_eq x.1 p) && b) paid.0 ∙ and_false (not (nat_eq x.1 p)),
      paid.1,
      ap (λ (l : List ℤ). get_or l (x.1 - 1) (pos 0)) write
          ∙ get_or-set_other num (p - 1) (x.1 - 1) v (pos 0)
          (apart x.1 paid.1 (λ same. false≢true (sym paid.0 ∙ ap (has_player waiting) same ∙ taken.1)))
          ∙ paid.2,
    )
      where
        apart : (j : ℕ) → 1 ≤ j → (j ≡ p → ⊥) → j - 1 ≢ p - 1
        apart j some ne e = ne (omega (arith, point_range))

    small_at : (i : ℕ) → (i ≡ p - 1) ⊎ (i ≢ p - 1) → IsNumber (neg_ℤ (get_or num i (pos 0)))
        → IsNumber (neg_ℤ (get_or next i (pos 0)))
    small_at i (inl same) k =
        let at : get_or next i (pos 0) ≡ v =
        ap (λ (l : List ℤ). get_or l i (pos 0)) write
        ∙ ap (λ (j : ℕ). get_or (set num (p - 1) v) j (pos 0)) same
        ∙ get_or-set_same num (p - 1) v (pos 0) in_num in
        rw at (cheap (neg_ℤ v) (negated v (entries_of t end p) value))
      where
        negated : (v : ℤ) (k : ℕ) → v ≡ neg_ℤ (pos k) → neg_ℤ v ≡ pos k
        negated v k e = omega (arith, ints)
    small_at i (inr other) k =
        let at : get_or next i (pos 0) ≡ get_or num i (pos 0) =
        ap (λ (l : List ℤ). get_or l i (pos 0)) write ∙ get_or-set_other num (p - 1) i v (pos 0) other in
        rw at k

pub bird_shares : (t : List (List ℤ)) (k : ℕ) (num : List ℤ) (edges : List (ℕ × ℕ × ℤ)) (connected waiting : ℕ)
    → IsTree t → BirdState t k num edges connected waiting → IsShares (allocation num (pos 1))
bird_shares t k num edges connected waiting tree h =
    let some = tree.points.0 in
    let few = tree.points.1 in
    record {
      some = omega arith;
      few = omega arith;
      positive = omega (arith, ints);
      common = omega (arith, ints);
      small = λ i lt. fits (get_or num i (pos 0)) (h.small i (omega arith));
    }
  where
    fits : (z : ℤ) → IsNumber (neg_ℤ z) → unsigned_abs z < 2 ^ 110
    fits z h = omega (arith, ints)

pub bird_end : (t : List (List ℤ)) (k : ℕ) (num : List ℤ) (edges : List (ℕ × ℕ × ℤ)) (connected waiting : ℕ)
    → IsTree t → BirdState t k num edges connected waiting → length t - 1 ≤ k
    → IsBird t (allocation num (pos 1)) edges
bird_end t k num edges connected waiting tree h end = record {
  bird = bird;
  each = omega (arith, end);
  links = h.links;
  least =
      prim_least (entries_of t) (grand_coalition (length t - 1)) (plan_of edges) tree.links.symmetric
      (bird-prim (entries_of t) is_source (is_point_of (grand_coalition (length t - 1))) (plan_of edges) bird);
  shares = shares;
  payments = λ i lt. h.small i (omega arith);
  core =
      bird_in_core (entries_of t) (tree_game t) (plan_of edges) (allocation num (pos 1)) tree.links.symmetric
      (tree_is_game t tree) bird h.len shares;
}
  where
    nobody : (j : ℕ) → has_player waiting j ≡ false
    nobody j = not_true (has_player waiting j) (λ e. false≢true (sym (none_waits j e) ∙ e))
      where
        none_waits : (j : ℕ) → has_player waiting j ≡ true → has_player waiting j ≡ false
        none_waits j e = count-none (has_player waiting) (length t) j (omega (arith, end)) (h.far j e).1

    bird : IsBirdPlan (entries_of t) (grand_coalition (length t - 1)) (plan_of edges)
    bird =
        rw (append-nil (plan_of edges)) at (h.grows [] nobody)

    shares : IsBirdShares (entries_of t) (plan_of edges) (allocation num (pos 1))
    shares = (
      refl,
      all_weaken (Paid t num waiting)
          (λ p. get_or num (p.1 - 1) (pos 0) ≡ neg_ℤ (pos (entry (entries_of t) p.0 p.1))) (plan_of edges)
          (λ p paid. paid.2) h.done,
    )
