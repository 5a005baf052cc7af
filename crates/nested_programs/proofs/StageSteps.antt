-- From the levels so far to those with the next stage's level.
--
-- The coalitions that are kept are independent, so they are at most as many as the players. A coalition of the new
-- level was outside, so each stage keeps more (`kept_grows`), and the measure is the number of players less that of
-- kept coalitions. There are always more kept coalitions than levels, and one less than players while a player is left.
-- So no stage is behind more than n - 2 levels.
use Rattle.std.proofs.Common.{◌≡◌, ℕ, ◌+◌, ◌<◌, ◌≤◌, true, false, IsTrue, nat_eq, List}
use Rattle.std.proofs.Common.{[], ◌∷◌, ◌++◌, length, length-append, map, ℤ, pos, ◌*ℤ◌, ◌≤ℤ◌}
use Rattle.std.proofs.Common.{Option, Some, None, refl, ap, ◌∙◌, inl, arith}
use Rattle.std.specs.List.{list_any, AllByRecursion, IsDistinct}
use Rattle.std.proofs.lemmas.Bool.Decides.{nat_tests}
use Rattle.std.proofs.lemmas.List.{append-nil}
use Rattle.definitions.specs.Coalitions.{grand_coalition}
use Rattle.definitions.specs.Certificates.{Level, IsOutside, LevelForm, LevelsForm, is_listed}
use Rattle.definitions.specs.declared.Mode.TheVariants.{Span}
use Rattle.simplex.specs.declared.answer.Optimal.{Optimal}
use Rattle.simplex.specs.declared.multipliers.Multipliers.{Multipliers}
use Rattle.kohlberg.specs.Extends.{Extends, IsLevelVector, SpansFixed}
use Rattle.kohlberg.proofs.SpanScan.{SpansFixed-start, SpansFixed-more}
use Rattle.separation.specs.Stage.{earlier_of}
use Rattle.nested_programs.specs.Stage.{Stage, with_front, behind}
use Rattle.nested_programs.specs.Answer.{HasMember, IsShort}
use Rattle.nested_programs.specs.Reading.{excess_of}
use Rattle.nested_programs.specs.Chain.{StageAnswer, Answers, after}
use Rattle.nested_programs.specs.Numbers.{AreNumbers, IsLevelOf}
use Rattle.nested_programs.specs.Stages.{IsBest, rows_of, answer_of, IsBounded, AreStages, AreUnderway}
use Rattle.nested_programs.proofs.Start.{first_no_ray}
use Rattle.nested_programs.proofs.Chain.{next_no_ray}
use Rattle.nested_programs.proofs.Form.{level_some, level_outside}
use Rattle.nested_programs.proofs.ChainSteps.{chain_more, levels_more, levels_count, own_more, last_more}
use Rattle.nested_programs.proofs.Followed.{level_follows}
use Rattle.nested_programs.proofs.FewEntries.{level_short}
use Rattle.nested_programs.proofs.Formed.{level_formed, form_more}
use Rattle.nested_programs.proofs.DistinctCoalitions.{chain_distinct}
use Rattle.definitions.proofs.Masks.{grand_coalition-within}
use Rattle.definitions.proofs.Alls.{all_join}
use Rattle.definitions.proofs.Cases.{or_left}
use Rattle.kohlberg.specs.Solved.{IsLowest}

-- ---- the start

start_bounded : (q : Stage) → q.game.players ≤ 16 → HasMember q.family q.game → IsBounded (with_front q [])
start_bounded q few member outside test =
    first_no_ray q outside member.0 few
    (λ s o. let h = test s o in let top = grand_coalition-within q.game.players in (h.0, omega arith))
    member.1

pub start_underway : (q : Stage) → 1 ≤ q.game.players → q.game.players ≤ 16 → HasMember q.family q.game
    → AreUnderway (with_front q []) (grand_coalition q.game.players ∷ []) None
start_underway q some few member = record {
  stages = record { stages = []; levels_are = refl; chain = tt; own = tt; last_is = tt; wide = refl };
  form = tt;
  short = tt;
  lowest = tt;
  bounded = start_bounded q few member;
  spans = SpansFixed-start q.game.players;
  more = omega arith;
  count = omega (arith, some);
}

-- ---- a stage

numbers_of_best : (q : Stage) (best : Optimal) → IsBest q best → AreNumbers best.weights.items
numbers_of_best q best is_best = record {
  positive = is_best.answer.form.positive;
  small = is_best.answer.form.small;
  distinct = is_best.answer.optimal.0.0.1;
}

best_answers : (q : Stage) (best : Optimal) (l : Level) (is_best : IsBest q best)
    → IsLevelOf q.game.players q.front best l → Answers q (answer_of l is_best.outside best)
best_answers q best l is_best is = record {
  decides = is_best.decides;
  optimal = is_best.answer.optimal;
  follows =
      level_follows q is_best.outside best l is_best.answer.optimal.0.0 (numbers_of_best q best is_best) is;
}

-- ---- what is kept grows

some_listed : (cs : List (ℕ × ℤ)) (l : Level) (P : ℕ → Type 0) → l.coalitions ≡ cs → 1 ≤ length cs
    → AllByRecursion (λ c. P c.0) cs → (s : ℕ) × IsTrue (is_listed (l ∷ []) s) × P s
some_listed [] l P e some all = absurd (omega arith)
some_listed (c ∷ cs) l P e some all =
    let same : nat_eq c.0 c.0 ≡ true = grind (arith, nat_tests) in (
      c.0,
      or_left (list_any (λ d. nat_eq d.0 c.0) l.coalitions) false
          (cc (or_left (nat_eq c.0 c.0) (list_any (λ d. nat_eq d.0 c.0) cs) same)),
      all.0,
    )

grown_by : (old new more : List ℕ) → new ≡ old ++ more → ¬ (new ≡ old) → length old < length new
grown_by old new [] e ne = absurd (ne (e ∙ append-nil old))
grown_by old new (k ∷ more) e ne =
    let long = ap length e ∙ length-append old (k ∷ more) in
    omega (arith, long)

-- a coalition of the level was outside, so more is kept
kept_grows : (q : Stage) (t : StageAnswer) (old new : List ℕ) → Answers q t → SpansFixed q.game.players old q.front
    → Extends q.game.players old new (IsLevelVector q.game.players (t.level ∷ [])) → length old < length new
kept_grows q t old new h spans more =
    let s =
    some_listed t.level.coalitions t.level (IsOutside Span q.game.players q.front) refl
    (level_some q t h) (level_outside q t h) in
    grown_by old new more.more more.longer (λ e. s.2.2 (spans.inside s.0 (rw e at (more.added s.0 (inl s.1)))))

pub kept_grown : (q : Stage) (old new : List ℕ) (best : Optimal) (l : Level) → IsBest q best
    → IsLevelOf q.game.players q.front best l → SpansFixed q.game.players old q.front
    → Extends q.game.players old new (IsLevelVector q.game.players (l ∷ [])) → length old < length new
kept_grown q old new best l is_best is spans more =
    kept_grows q (answer_of l is_best.outside best) old new (best_answers q best l is_best is) spans more

-- ---- a stage more

stages_more : (q : Stage) (last : Option Multipliers) (t : StageAnswer) (m : Multipliers) → AreStages q last
    → Answers q t
    → t.level.excess_num *ℤ t.multipliers.den ≡ excess_of q.game.players t.multipliers (length q.front)
    *ℤ t.level.excess_den → pos 1 ≤ℤ t.level.excess_den → t.multipliers ≡ rows_of m
    → q.game.players ≤ length m.num.items → AreStages (after q t) (Some m)
stages_more q last t m h k own positive e wide = record {
  stages = h.stages ++ t ∷ [];
  levels_are = cc (h.levels_are, levels_more h.stages t);
  chain = chain_more (with_front q []) h.stages t h.chain (rw h.levels_are at k);
  own =
      own_more q.game 0 h.stages t h.own (
        rw count at own,
        positive,
      );
  last_is = last_more h.stages t m e;
  wide = wide;
}
  where
    count : length q.front ≡ 0 + length h.stages
    count = let a = ap length h.levels_are in let b = levels_count h.stages in omega arith

coalitions_distinct : (q : Stage) (last : Option Multipliers) → AreStages q last
    → LevelsForm q.game.players [] q.front → IsDistinct nat_eq (map (λ c. c.0) (earlier_of 0 q.front))
coalitions_distinct q last h form =
    rw h.levels_are (chain_distinct q h.stages h.chain (rw h.levels_are at form))

-- the level of the optimum of the next stage has its form
pub next_formed : (q : Stage) (kept : List ℕ) (last : Option Multipliers) (best : Optimal) (l : Level)
    → q.game.players ≤ 16 → length kept < q.game.players → AreUnderway q kept last → IsBest q best
    → IsLevelOf q.game.players q.front best l → LevelForm q.game.players q.front l
next_formed q kept last best l few room h is_best is =
    level_formed q best is_best.outside l (best_answers q best l is_best is) (numbers_of_best q best is_best) is
    (coalitions_distinct q last h.stages h.form) is_best.answer.form.count (omega arith) few

-- the levels with that of the optimum of the next stage
pub underway_more : (q : Stage) (old new : List ℕ) (last : Option Multipliers) (best : Optimal) (l : Level)
    → q.game.players ≤ 16 → length old < q.game.players → AreUnderway q old last → IsBest q best
    → IsLevelOf q.game.players q.front best l → IsLowest l
    → Extends q.game.players old new (IsLevelVector q.game.players (l ∷ []))
    → AreUnderway (behind q (l ∷ [])) new (Some best.multipliers)
underway_more q old new last best l few room h is_best is low more = record {
  stages = stages_more q last t best.multipliers h.stages k is.excess.same is.excess.reduced.positive refl wide;
  form = form_more q.game.players q.front l h.form (next_formed q old last best l few room h is_best is);
  short =
      all_join (IsShort q.game.players) q.front (l ∷ []) h.short
      (level_short q.game.players q.front best l is rows next, tt);
  lowest = all_join IsLowest q.front (l ∷ []) h.lowest (low, tt);
  bounded = λ outside test. next_no_ray q t outside k test;
  spans = SpansFixed-more q.game.players old new q.front (l ∷ []) h.spans more;
  more =
      (let grow = kept_grows q t old new k h.spans more in
      let long = length-append q.front (l ∷ []) in omega arith);
  count = (let long = length-append q.front (l ∷ []) in omega arith);
}
  where
    t : StageAnswer
    t = answer_of l is_best.outside best

    k : Answers q t
    k = best_answers q best l is_best is

    next : length q.front + 2 ≤ q.game.players
    next = omega arith

    wide : q.game.players ≤ length best.multipliers.num.items
    wide = let e = is_best.answer.count in omega (arith, e)

    rows : length best.weights.items ≤ q.game.players + (length q.front + 1)
    rows = is_best.answer.form.count
