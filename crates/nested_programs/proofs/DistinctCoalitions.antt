-- The coalitions of the levels of a chain are distinct: each was outside what the levels in front fix, and within a
-- level the masks ascend.
use Rattle.std.proofs.Common.{◌≡◌, ℕ, ◌+◌, ◌<◌, true, false, nat_eq, List, []}
use Rattle.std.proofs.Common.{◌∷◌, ◌++◌, map, ℤ, inl, inr, arith}
use Rattle.std.specs.List.{list_any, AllByRecursion, IsDistinct}
use Rattle.kohlberg.proofs.SpanLaws.{span_of_one}
use Rattle.definitions.specs.Certificates.{Level, is_listed, IsFixedVector, IsOutside, Ascends, LevelsForm}
use Rattle.definitions.specs.declared.Mode.TheVariants.{Span}
use Rattle.separation.specs.Stage.{earlier_of}
use Rattle.nested_programs.specs.Stage.{Stage, with_front}
use Rattle.nested_programs.specs.Chain.{StageAnswer, levels_of, IsChain, after}
use Rattle.nested_programs.proofs.Advance.{any_left, any_right}
use Rattle.nested_programs.proofs.Form.{level_outside}
use Rattle.nested_programs.proofs.PairKeys.{all_rows}
use Rattle.definitions.proofs.Cases.{or_left, or_right, not_true, nat_eq-less}
use Rattle.definitions.proofs.Alls.{all_join, all_weaken}

-- ---- lists

-- no coalition of cs is that of a pair of ys
abbrev Misses : List (ℕ × ℤ) → List (ℕ × ℕ) → Type 0
Misses cs ys = AllByRecursion (λ y. list_any (λ c. nat_eq c.0 y.0) cs ≡ true → ⊥) ys

misses_first : (c : ℕ × ℤ) (cs : List (ℕ × ℤ)) (ys : List (ℕ × ℕ)) → Misses (c ∷ cs) ys
    → AllByRecursion (λ y. nat_eq c.0 y ≡ false) (map (λ (y : ℕ × ℕ). y.0) ys)
misses_first c cs [] h = tt
misses_first c cs (y ∷ ys) h = (
  not_true (nat_eq c.0 y.0) (λ e. h.0 (or_left (nat_eq c.0 y.0) (list_any (λ d. nat_eq d.0 y.0) cs) e)),
  misses_first c cs ys h.1,
)

misses_rest : (c : ℕ × ℤ) (cs : List (ℕ × ℤ)) (ys : List (ℕ × ℕ)) → Misses (c ∷ cs) ys → Misses cs ys
misses_rest c cs ys h =
    all_weaken (λ y. list_any (λ d. nat_eq d.0 y.0) (c ∷ cs) ≡ true → ⊥)
    (λ y. list_any (λ d. nat_eq d.0 y.0) cs ≡ true → ⊥) ys
    (λ y none e. none (or_right (nat_eq c.0 y.0) (list_any (λ d. nat_eq d.0 y.0) cs) e)) h

first_apart : (s low k : ℕ) (cs : List (ℕ × ℤ)) (ys : List (ℕ × ℕ)) → s < low → Ascends low cs
    → AllByRecursion (λ y. nat_eq s y ≡ false) (map (λ (y : ℕ × ℕ). y.0) ys)
    → AllByRecursion (λ y. nat_eq s y ≡ false) (map (λ (y : ℕ × ℕ). y.0) (map (λ (c : ℕ × ℤ). (c.0, k)) cs ++ ys))
first_apart s low k [] ys lt h rest = rest
first_apart s low k (c ∷ cs) ys lt h rest =
    let le = h.0 in
    (nat_eq-less s c.0 (omega arith), first_apart s (c.0 + 1) k cs ys (omega arith) h.1 rest)

level_distinct : (low k : ℕ) (cs : List (ℕ × ℤ)) (ys : List (ℕ × ℕ)) → Ascends low cs → Misses cs ys
    → IsDistinct nat_eq (map (λ (y : ℕ × ℕ). y.0) ys)
    → IsDistinct nat_eq (map (λ (y : ℕ × ℕ). y.0) (map (λ (c : ℕ × ℤ). (c.0, k)) cs ++ ys))
unfolding IsDistinct
level_distinct low k [] ys h miss rest = rest
level_distinct low k (c ∷ cs) ys h miss rest = (
  first_apart c.0 (c.0 + 1) k cs ys (omega arith) h.1 (misses_first c cs ys miss),
  level_distinct (c.0 + 1) k cs ys h.1 (misses_rest c cs ys miss) rest,
)

-- ---- chains

-- the coalition isn't listed in the levels
abbrev Unlisted : List Level → ℕ → Type 0
Unlisted front s = is_listed front s ≡ true → ⊥

outside_unlisted : (n : ℕ) (front : List Level) (s : ℕ) → IsOutside Span n front s → Unlisted front s
outside_unlisted n front s o listed = o.2 (span_of_one n (IsFixedVector n front) s (inr (inl listed)))

chain_unlisted : (q : Stage) (k : ℕ) (ts : List StageAnswer) → IsChain q ts
    → AllByRecursion (λ c. Unlisted q.front c.0) (earlier_of k (levels_of ts))
chain_unlisted q k [] chain = tt
chain_unlisted q k (t ∷ ts) chain =
    all_join (λ c. Unlisted q.front c.0) (map (λ c. (c.0, k)) t.level.coalitions) (earlier_of (k + 1) (levels_of ts))
    (all_rows (Unlisted q.front) k t.level.coalitions
    (all_weaken (λ c. IsOutside Span q.game.players q.front c.0) (λ c. Unlisted q.front c.0) t.level.coalitions
    (λ c o. outside_unlisted q.game.players q.front c.0 o) (level_outside q t chain.0)))
    (all_weaken (λ c. Unlisted (q.front ++ t.level ∷ []) c.0) (λ c. Unlisted q.front c.0)
    (earlier_of (k + 1) (levels_of ts)) (λ c none listed. none
    (any_left (λ l. list_any (λ d. nat_eq d.0 c.0) l.coalitions) q.front (t.level ∷ []) listed))
    (chain_unlisted (after q t) (k + 1) ts chain.1))

chain_misses : (q : Stage) (k : ℕ) (t : StageAnswer) (ts : List StageAnswer) → IsChain (after q t) ts
    → Misses t.level.coalitions (earlier_of k (levels_of ts))
chain_misses q k t ts chain =
    all_weaken (λ c. Unlisted (q.front ++ t.level ∷ []) c.0)
    (λ c. list_any (λ d. nat_eq d.0 c.0) t.level.coalitions ≡ true → ⊥) (earlier_of k (levels_of ts))
    (λ c none here. none
    (any_right (λ l. list_any (λ d. nat_eq d.0 c.0) l.coalitions) q.front (t.level ∷ [])
    (or_left (list_any (λ d. nat_eq d.0 c.0) t.level.coalitions) false here)))
    (chain_unlisted (after q t) k ts chain)

distinct_behind : (q : Stage) (k : ℕ) (ts : List StageAnswer) → IsChain q ts
    → LevelsForm q.game.players q.front (levels_of ts)
    → IsDistinct nat_eq (map (λ c. c.0) (earlier_of k (levels_of ts)))
unfolding IsDistinct
distinct_behind q k [] chain form = tt
distinct_behind q k (t ∷ ts) chain form =
    level_distinct 0 k t.level.coalitions (earlier_of (k + 1) (levels_of ts)) form.0.ascend
    (chain_misses q (k + 1) t ts chain.1) (distinct_behind (after q t) (k + 1) ts chain.1 form.1)

-- the coalitions of the levels of a chain are distinct
pub chain_distinct : (q : Stage) (ts : List StageAnswer) → IsChain (with_front q []) ts
    → LevelsForm q.game.players [] (levels_of ts) → IsDistinct nat_eq (map (λ c. c.0) (earlier_of 0 (levels_of ts)))
chain_distinct q ts chain form = distinct_behind (with_front q []) 0 ts chain form
