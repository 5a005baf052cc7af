-- A chain of optimal stages that fix everything certifies the shares of the last.
--
-- With nothing left outside, the conditions hold one by one (`chain_certified`), and the theorem that certificates are
-- sound does the rest. A level row's multiplier is the excess over the divisor, and the measured excess of the
-- certificate is that fraction. A game of one player has no stage: its worth of all is certified without a level.
use Rattle.std.proofs.Common.{◌≡◌, ◌⊎◌, ℕ, ◌^◌, ◌<◌, IsTrue, List, [], ◌∷◌, ◌++◌}
use Rattle.std.proofs.Common.{length, map, ℤ, pos, ◌-ℤ◌, ◌*ℤ◌, ◌≤ℤ◌, refl, sym, ap}
use Rattle.std.proofs.Common.{subst, ◌∙◌, inl, inr, arith, if◌then◌else◌}
use Rattle.std.specs.List.{AllByRecursion}
use Rattle.std.proofs.lemmas.List.{append_assoc, append-nil, length-append}
use Rattle.definitions.proofs.Ring.{linear, mul-leℤ, mul_assocℤ}
use Rattle.definitions.proofs.Measured.{measured-same, measured-le}
use lib.IntN.{*ℤ_comm}
use Rattle.definitions.proofs.Members.{sum_below-same, sum_over-grand_coalition}
use Rattle.definitions.specs.Coalitions.{has_player, singleton, grand_coalition, sum_over}
use Rattle.definitions.specs.Measures.{divisor, IsMeasurable}
use Rattle.definitions.specs.Games.{Game, Allocation, share, amount, excess, IsAllocation, IsEfficient, InFamily}
use Rattle.definitions.specs.Certificates.{Level, has_bound, IsAllFixed, HasExcess, LevelHolds, LevelsHold, Certifies}
use Rattle.definitions.specs.declared.Family.{Family}
use Rattle.definitions.specs.declared.Measure.{Measure}
use Rattle.definitions.specs.declared.Family.TheVariants.{Imputations, Preimputations}
use Rattle.definitions.specs.declared.Mode.TheVariants.{Span}
use Rattle.separation.specs.Stage.{earlier_of}
use Rattle.separation.specs.Shares.{IsReadFrom}
use Rattle.nested_programs.specs.Stage.{Stage, with_front, behind}
use Rattle.nested_programs.specs.Reading.{RowMultipliers, reached, share_of, excess_of}
use Rattle.nested_programs.specs.Chain.{StageAnswer, Answers, levels_of, IsChain, last_of, HaveExcesses, after}
use Rattle.nested_programs.proofs.Advance.{Reads, Settled_pairs, restrict, settles_own_level}
use Rattle.nested_programs.proofs.Advance.{earlier_of-more, BoundComes}
use Rattle.nested_programs.proofs.Form.{level_balanced, level_proper}
use Rattle.nested_programs.proofs.Chain.{Past, past_none, past_more, outside_low, weighted_family}
use Rattle.definitions.proofs.Alls.{all_left, all_right, all_weaken}

-- the multipliers of the last stage settle all levels
pub last_reads : (q : Stage) (t : StageAnswer) (ts : List StageAnswer) → Answers q t → IsChain (after q t) ts
    → Reads (behind (after q t) (levels_of ts)) (last_of t ts).multipliers
last_reads q t [] holds chain =
    rw (append-nil (q.front ++ t.level ∷ [])) (settles_own_level q t holds)
last_reads q t (t' ∷ ts) holds chain =
    rw (append_assoc (q.front ++ t.level ∷ []) (t'.level ∷ []) (levels_of ts)) at
    (last_reads (after q t) t' ts chain.0 chain.1)

-- ---- shares

pub amount_read : (g : Game) (m : RowMultipliers) (x : Allocation) (s : ℕ) → IsReadFrom g.players m.num m.den x
    → amount x s ≡ sum_over g.players (share_of m) s
amount_read g m x s read =
    let two =
    sum_below-same g.players (λ i. if has_player s i then share x i else pos 0)
    (λ i. if has_player s i then share_of m i else pos 0)
    (λ i h. ap (λ z. if has_player s i then z else pos 0) (read.shares i h)) in
    cc (read.players)

pub excess_read : (g : Game) (m : RowMultipliers) (x : Allocation) (s : ℕ) → IsReadFrom g.players m.num m.den x
    → excess g x s ≡ m.den *ℤ g.worth s -ℤ sum_over g.players (share_of m) s
excess_read g m x s read = omega (arith, linear, amount_read g m x s read, ap (λ z. z *ℤ g.worth s) read.common)

read_alone : (g : Game) (m : RowMultipliers) (x : Allocation) (s : ℕ) → IsReadFrom g.players m.num m.den x
    → x.den *ℤ g.worth s ≡ m.den *ℤ g.worth s
read_alone g m x s read = ap (λ z. z *ℤ g.worth s) read.common

in_family : (q : Stage) (m : RowMultipliers) (x : Allocation) → IsReadFrom q.game.players m.num m.den x → Reads q m
    → InFamily q.family q.game x
in_family q m x read r = by_family q.family r.single
  where
    allocation : IsAllocation q.game x
    allocation = (read.players, omega (arith, linear))

    efficient : IsEfficient q.game x
    efficient =
        amount_read q.game m x (grand_coalition q.game.players) read
        ∙ sum_over-grand_coalition q.game.players (share_of m)
        ∙ r.whole ∙ sym (read_alone q.game m x (grand_coalition q.game.players) read)

    by_family : (family : Family)
        → (family ≡ Imputations → (i : ℕ) → i < q.game.players
        → (m.den *ℤ q.game.worth (singleton i)) ≤ℤ share_of m i)
        → InFamily family q.game x
    by_family Imputations single = (
      allocation,
      efficient,
      λ i h. omega (arith, linear, single refl i h, read.shares i h, read_alone q.game m x (singleton i) read),
    )
    by_family Preimputations single = (allocation, efficient)

-- ---- a level

has_excess : (a b num lden e den xden h : ℤ) → a ≡ b → b ≡ e *ℤ h → num *ℤ den ≡ e *ℤ lden → xden ≡ den
    → a *ℤ lden ≡ num *ℤ (xden *ℤ h)
has_excess a b num lden e den xden h h1 h2 h3 h5 =
    cc (scaled e h lden num den h3)
  where
    scaled : (e h lden num den : ℤ) → num *ℤ den ≡ e *ℤ lden → (e *ℤ h) *ℤ lden ≡ num *ℤ (den *ℤ h)
    scaled e h lden num den k =
        cc (mul_assocℤ e h lden, *ℤ_comm h lden, mul_assocℤ e lden h, mul_assocℤ num den h)

has_at_most : (a num lden e den xden h : ℤ) → a ≤ℤ (e *ℤ h) → pos 1 ≤ℤ lden → num *ℤ den ≡ e *ℤ lden → xden ≡ den
    → (a *ℤ lden) ≤ℤ (num *ℤ (xden *ℤ h))
has_at_most a num lden e den xden h low one h3 h5 =
    omega (
      arith,
      linear,
      mul-leℤ lden a (e *ℤ h) (omega (arith, linear, one)) low,
      *ℤ_comm lden a,
      *ℤ_comm lden (e *ℤ h),
      has_excess (e *ℤ h) (e *ℤ h) num lden e den xden h refl refl h3 h5,
    )

-- the coalitions of a level have its excess by the measure
excesses_of : (measure : Measure) (g : Game) (m : RowMultipliers) (x : Allocation) (l : Level) (k : ℕ)
    (cs : List (ℕ × ℤ)) → IsMeasurable measure g.players → IsReadFrom g.players m.num m.den x
    → l.excess_num *ℤ m.den ≡ excess_of g.players m k *ℤ l.excess_den
    → AllByRecursion (λ c. (0 < c.0) × (c.0 < grand_coalition g.players)) cs
    → Settled_pairs measure g m (map (λ c. (c.0, k)) cs) → AllByRecursion (λ c. HasExcess measure g x l c.0) cs
excesses_of measure g m x l k [] has read num proper h = tt
excesses_of measure g m x l k (c ∷ cs) has read num proper h =
    let d : ℤ = pos (divisor measure c.0) in
    let below : c.0 < 2 ^ g.players = (let p = proper.0.1 in omega (arith, p)) in
    let plain =
    has_excess (excess g x c.0) (m.den *ℤ g.worth c.0 -ℤ sum_over g.players (share_of m) c.0) l.excess_num
    l.excess_den (excess_of g.players m k) m.den x.den d (excess_read g m x c.0 read)
    (omega (arith, linear, h.0)) num read.common in (
      measured-same measure g.players c.0 (excess g x c.0) x.den l.excess_num l.excess_den has proper.0.0 below
          plain,
      excesses_of measure g m x l k cs has read num proper.1 h.1,
    )

level_holds : (q : Stage) (t : StageAnswer) (ts : List StageAnswer) (m : RowMultipliers) (x : Allocation)
    → IsMeasurable q.measure q.game.players → Past q → Answers q t → IsChain (after q t) ts
    → Reads (behind (after q t) (levels_of ts)) m
    → IsAllFixed Span q.game.players ((q.front ++ t.level ∷ []) ++ levels_of ts)
    → IsReadFrom q.game.players m.num m.den x
    → t.level.excess_num *ℤ m.den ≡ excess_of q.game.players m (length q.front) *ℤ t.level.excess_den
    → pos 1 ≤ℤ t.level.excess_den → LevelHolds Span q.family q.measure q.game x q.front t.level
level_holds q t ts m x has past holds chain r fixed read num lden =
    let n : ℕ = q.game.players in
    let near = restrict (after q t) (levels_of ts) m r in
    let far = restrict q (t.level ∷ []) m near in
    let pairs =
    all_right (λ c. m.den *ℤ q.game.worth c.0 ≡ reached q.measure n (share_of m) (excess_of n m) c.0 c.1)
    (earlier_of 0 q.front) (map (λ c. (c.0, length q.front)) t.level.coalitions ++ [])
    (rw (earlier_of-more q.front t.level) at near.settled) in
    let mine =
    all_left (λ c. m.den *ℤ q.game.worth c.0 ≡ reached q.measure n (share_of m) (excess_of n m) c.0 c.1)
    (map (λ c. (c.0, length q.front)) t.level.coalitions) [] pairs in
    let at : (i : ℕ) → i < n → share_of m i ≡ m.den *ℤ q.game.worth (singleton i)
    → share x i ≡ x.den *ℤ q.game.worth (singleton i) =
    λ i h e. read.shares i h ∙ e ∙ sym (read_alone q.game m x (singleton i) read) in
    record {
      excesses =
          excesses_of q.measure q.game m x t.level (length q.front) t.level.coalitions has read num
          (level_proper q t holds) mine;
      weights = all_weaken _ (λ c. pos 1 ≤ℤ c.1) t.level.coalitions (λ c h. h.0) holds.follows.coalitions;
      bound_weights =
          all_weaken (BoundComes q t.weights) (λ b. (pos 1 ≤ℤ b.1) ⊎ IsTrue (has_bound q.front b.0))
          t.level.bounds (λ b h. elim h.1 [ inl fresh ↦ inl fresh.0 | inr known ↦ inr known.1 ])
          holds.follows.bounds;
      balanced = level_balanced q t holds;
      tight =
          all_weaken (BoundComes q t.weights)
          (λ b. (share x b.0 ≡ x.den *ℤ q.game.worth (singleton b.0)) × (q.family ≡ Imputations)) t.level.bounds
          (λ b h. elim h.1 [
            | inl fresh ↦
                let f = weighted_family q t holds b.0 h.0 fresh.1 in
                (at b.0 h.0 (near.bound f b.0 h.0 (holds.follows.all_bounds b.0 h.0 fresh.1)), f)
            | inr known ↦ (at b.0 h.0 (far.bound known.0 b.0 h.0 known.1), known.0)
          ])
          holds.follows.bounds;
      outside = λ s h o.
          (let low =
          outside_low q t ts m past holds chain r fixed s ((holds.decides s).1 o) in
          let e = excess_read q.game m x s read in
          let plain =
          has_at_most (excess q.game x s) t.level.excess_num t.level.excess_den (excess_of n m (length q.front)) m.den
          x.den (pos (divisor q.measure s)) (omega (arith, linear)) lden num read.common in
          measured-le q.measure n s (excess q.game x s) x.den t.level.excess_num t.level.excess_den has o.0
          (omega (arith, o.1)) plain);
    }

levels_hold : (q : Stage) (ts : List StageAnswer) (m : RowMultipliers) (x : Allocation)
    → IsMeasurable q.measure q.game.players → Past q → IsChain q ts → Reads (behind q (levels_of ts)) m
    → IsAllFixed Span q.game.players (q.front ++ levels_of ts) → IsReadFrom q.game.players m.num m.den x
    → HaveExcesses q.game m (length q.front) (levels_of ts)
    → LevelsHold Span q.family q.measure q.game x q.front (levels_of ts)
levels_hold q [] m x has past chain r fixed read excesses = rw (append-nil q.front) at fixed
levels_hold q (t ∷ ts) m x has past chain r fixed read excesses =
    let shift : (q.front ++ t.level ∷ []) ++ levels_of ts ≡ q.front ++ t.level ∷ levels_of ts =
    append_assoc q.front (t.level ∷ []) (levels_of ts) in
    let r' = subst (λ ls. Reads (with_front q ls) m) (sym shift) r in
    let fixed' = subst (IsAllFixed Span q.game.players) (sym shift) fixed in (
      level_holds q t ts m x has past chain.0 chain.1 r' fixed' read excesses.0 excesses.1,
      levels_hold (after q t) ts m x has
          (past_more q t past chain.0) chain.1 r' fixed' read (rw (length-append q.front (t.level ∷ []))
          excesses.2),
    )

pub chain_certified : (q : Stage) (t : StageAnswer) (ts : List StageAnswer) (x : Allocation)
    → IsMeasurable q.measure q.game.players → IsChain (with_front q []) (t ∷ ts)
    → IsAllFixed Span q.game.players (levels_of (t ∷ ts))
    → IsReadFrom q.game.players (last_of t ts).multipliers.num (last_of t ts).multipliers.den x
    → HaveExcesses q.game (last_of t ts).multipliers 0 (levels_of (t ∷ ts))
    → Certifies Span q.family q.measure q.game x (levels_of (t ∷ ts))
chain_certified q t ts x has chain fixed read excesses =
    let first : Stage = with_front q [] in
    let m : RowMultipliers = (last_of t ts).multipliers in
    let r : Reads (with_front q (levels_of (t ∷ ts))) m = last_reads first t ts chain.0 chain.1 in (
      in_family (with_front q (levels_of (t ∷ ts))) m x read r,
      levels_hold first (t ∷ ts) m x has (past_none q) chain r fixed read excesses,
    )
