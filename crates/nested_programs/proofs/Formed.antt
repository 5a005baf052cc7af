-- The level of a stage has the form of a certificate's level, and so has a chain with one level more.
use Rattle.std.proofs.Common.{◌≡◌, ℕ, ◌+◌, ◌*◌, ◌^◌, ◌<◌, ◌≤◌, Bool, true, IsTrue}
use Rattle.std.proofs.Common.{nat_eq, List, [], ◌∷◌, ◌++◌, length, map, ℤ, unsigned_abs, arith}
use Rattle.std.specs.List.{list_any, AllByRecursion, IsDistinct}
use Rattle.std.proofs.lemmas.List.{append_assoc, append-nil}
use Rattle.definitions.specs.Certificates.{Level, is_listed, IsSmall, LevelForm, LevelsForm}
use Rattle.separation.specs.Stage.{earlier_of}
use Rattle.simplex.specs.declared.answer.Optimal.{Optimal}
use Rattle.nested_programs.specs.Stage.{Stage}
use Rattle.nested_programs.specs.Chain.{StageAnswer, Answers}
use Rattle.nested_programs.specs.Stages.{answer_of}
use Rattle.nested_programs.specs.Numbers.{AreNumbers, first_single, outer_pairs, net, earlier_pairs, IsLevelOf}
use Rattle.nested_programs.proofs.Form.{level_some, level_proper, level_players}
use Rattle.nested_programs.proofs.FewEntries.{level_short}
use Rattle.nested_programs.proofs.PairKeys.{all_rows, outer_apart, outer_all, earlier_apart}
use Rattle.nested_programs.proofs.PairKeys.{earlier_all, bound_ascends, bound_all}
use Rattle.nested_programs.proofs.SmallNumbers.{net_small}
use Rattle.definitions.proofs.Cases.{nat_eq-same, or_left, or_right}
use Rattle.definitions.proofs.Alls.{all_any, all_join, all_weaken}
use Rattle.kohlberg.proofs.Placed.{placed_all, placed_ascends}

-- ---- the coalitions of the levels are listed in them

own_pairs : (cs : List (ℕ × ℤ)) → AllByRecursion (λ c. list_any (λ b. nat_eq b.0 c.0) cs ≡ true) cs
own_pairs [] = tt
own_pairs (c ∷ cs) = (
  or_left (nat_eq c.0 c.0) (list_any (λ b. nat_eq b.0 c.0) cs) (nat_eq-same c.0),
  all_weaken (λ d. list_any (λ b. nat_eq b.0 d.0) cs ≡ true)
      (λ d. list_any (λ b. nat_eq b.0 d.0) (c ∷ cs) ≡ true) cs
      (λ d h. or_right (nat_eq c.0 d.0) (list_any (λ b. nat_eq b.0 d.0) cs) h) (own_pairs cs),
)

pub earlier_listed : (k : ℕ) (levels : List Level)
    → AllByRecursion (λ c. is_listed levels c.0 ≡ true) (earlier_of k levels)
earlier_listed k [] = tt
earlier_listed k (l ∷ levels) =
    all_join (λ c. is_listed (l ∷ levels) c.0 ≡ true) (map (λ c. (c.0, k)) l.coalitions) (earlier_of (k + 1) levels)
    (all_rows (λ s. is_listed (l ∷ levels) s ≡ true) k l.coalitions
    (all_weaken (λ c. list_any (λ b. nat_eq b.0 c.0) l.coalitions ≡ true) (λ c. is_listed (l ∷ levels) c.0 ≡ true)
    l.coalitions (λ c h. or_left (list_any (λ b. nat_eq b.0 c.0) l.coalitions) (is_listed levels c.0) h)
    (own_pairs l.coalitions)))
    (all_weaken (λ c. is_listed levels c.0 ≡ true) (λ c. is_listed (l ∷ levels) c.0 ≡ true)
    (earlier_of (k + 1) levels)
    (λ c h. or_right (list_any (λ b. nat_eq b.0 c.0) l.coalitions) (is_listed levels c.0) h)
    (earlier_listed (k + 1) levels))

-- ---- the excess, the keys and the numbers of a stage's level

level_listed : (n : ℕ) (front : List Level) (best : Optimal) (l : Level)
    → IsLevelOf n front best l → AllByRecursion (λ c. IsTrue (is_listed front c.0)) l.earlier
level_listed n front best l is =
    let ws : List (ℕ × ℤ) = best.weights.items in
    rw is.earlier (placed_all (λ c. is_listed front c.0 ≡ true) (earlier_pairs ws 2 (earlier_of 0 front))
    (earlier_all (λ c. is_listed front c.0 ≡ true) ws 2 (earlier_of 0 front)
    (all_weaken (λ c. is_listed front c.0 ≡ true) (λ c. (a b : ℕ) → is_listed front c.0 ≡ true) (earlier_of 0 front)
    (λ c h a b. h) (earlier_listed 0 front))))

below_63 : (a : ℕ) → a < 2 ^ 62 → a < 2 ^ 63
below_63 a h = omega arith

coalitions_small : (n : ℕ) (front : List Level) (best : Optimal) (l : Level)
    → IsLevelOf n front best l → AreNumbers best.weights.items → AllByRecursion (λ p. IsSmall p.1) l.coalitions
coalitions_small n front best l is numbers =
    let ws : List (ℕ × ℤ) = best.weights.items in
    let first : ℕ = first_single front + (n + n) in
    rw is.coalitions (placed_all (λ p. IsSmall p.1) (outer_pairs first ws) (outer_all (λ p. IsSmall p.1) first ws
    (all_weaken (λ w. unsigned_abs w.1 < 2 ^ 62) (λ w. (s : ℕ) → IsSmall w.1) ws
    (λ w h s. below_63 (unsigned_abs w.1) h) numbers.small)))

earlier_small : (n : ℕ) (front : List Level) (best : Optimal) (l : Level)
    → IsLevelOf n front best l → AreNumbers best.weights.items → AllByRecursion (λ p. IsSmall p.1) l.earlier
earlier_small n front best l is numbers =
    let ws : List (ℕ × ℤ) = best.weights.items in
    rw is.earlier (placed_all (λ p. IsSmall p.1) (earlier_pairs ws 2 (earlier_of 0 front))
    (earlier_all (λ p. IsSmall p.1) ws 2 (earlier_of 0 front)
    (all_any (λ c. (a b : ℕ) → IsSmall (net ws a b)) (earlier_of 0 front) (λ c a b. net_small ws a b numbers))))

bounds_small : (n : ℕ) (front : List Level) (best : Optimal) (l : Level)
    → IsLevelOf n front best l → AreNumbers best.weights.items → AllByRecursion (λ p. IsSmall p.1) l.bounds
bounds_small n front best l is numbers =
    let ws : List (ℕ × ℤ) = best.weights.items in
    rw is.bounds (bound_all (λ p. IsSmall p.1) ws (first_single front) n n (λ k a b lt. net_small ws a b numbers))

-- ---- the form

fewer : (n a b c : ℕ) → a + b + c < 2 * n → n ≤ 16 → (a ≤ 65536) × (b ≤ 65536)
fewer n a b c h k = (omega arith, omega arith)

-- the level of a stage has its form
pub level_formed : (q : Stage) (best : Optimal) (outside : ℕ → Bool) (l : Level)
    → Answers q (answer_of l outside best) → AreNumbers best.weights.items → IsLevelOf q.game.players q.front best l
    → IsDistinct nat_eq (map (λ c. c.0) (earlier_of 0 q.front))
    → length best.weights.items ≤ q.game.players + (length q.front + 1) → length q.front + 2 ≤ q.game.players
    → q.game.players ≤ 16 → LevelForm q.game.players q.front l
level_formed q best outside l holds numbers is apart few low most =
    let n : ℕ = q.game.players in
    let t : StageAnswer = answer_of l outside best in
    let ws : List (ℕ × ℤ) = best.weights.items in
    let entries =
    fewer n (length l.coalitions) (length l.earlier) (length l.bounds)
    (level_short n q.front best l is few low) most in
    record {
      fraction = is.excess.reduced.positive;
      some = level_some q t holds;
      few = entries.0;
      few_earlier = entries.1;
      proper = level_proper q t holds;
      listed = level_listed n q.front best l is;
      players = level_players q t holds;
      ascend =
          rw is.coalitions (placed_ascends (outer_pairs (first_single q.front + (n + n)) ws)
          (outer_apart (first_single q.front + (n + n)) ws numbers.distinct));
      earlier_ascend =
          rw is.earlier (placed_ascends (earlier_pairs ws 2 (earlier_of 0 q.front))
          (earlier_apart ws 2 (earlier_of 0 q.front) apart));
      bounds_ascend = rw is.bounds (bound_ascends ws (first_single q.front) n n);
      small = all_join (λ p. IsSmall p.1) (l.coalitions ++ l.earlier) l.bounds
          (all_join (λ p. IsSmall p.1) l.coalitions l.earlier (coalitions_small n q.front best l is numbers)
          (earlier_small n q.front best l is numbers)) (bounds_small n q.front best l is numbers);
      total_small = rw is.total (net_small ws 1 0 numbers);
    }

form_behind : (n : ℕ) (before rest : List Level) (l : Level) → LevelsForm n before rest
    → LevelForm n (before ++ rest) l → LevelsForm n before (rest ++ l ∷ [])
form_behind n before [] l h form = (rw (append-nil before) at form, tt)
form_behind n before (r ∷ rest) l h form = (
  h.0,
  form_behind n (before ++ r ∷ []) rest l h.1
      (rw (append_assoc before (r ∷ []) rest) form),
)

-- one level more has the form too
pub form_more : (n : ℕ) (front : List Level) (l : Level) → LevelsForm n [] front → LevelForm n front l
    → LevelsForm n [] (front ++ l ∷ [])
form_more n front l h form = form_behind n [] front l h form
