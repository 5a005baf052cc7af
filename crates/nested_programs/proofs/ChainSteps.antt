-- A chain of stages with one stage more behind it.
use Rattle.std.proofs.Common.{◌≡◌, ℕ, ◌+◌, List, [], ◌∷◌, ◌++◌, length, pos, ◌*ℤ◌}
use Rattle.std.proofs.Common.{◌≤ℤ◌, Some, refl, ap, ◌∙◌, arith}
use Rattle.std.proofs.lemmas.List.{append_assoc, append-nil}
use Rattle.definitions.specs.Games.{Game}
use Rattle.simplex.specs.declared.multipliers.Multipliers.{Multipliers}
use Rattle.nested_programs.specs.Stage.{Stage, behind}
use Rattle.nested_programs.specs.Reading.{excess_of}
use Rattle.nested_programs.specs.Chain.{StageAnswer, Answers, IsChain, levels_of, last_of, after}
use Rattle.nested_programs.specs.Stages.{rows_of, OwnExcesses, AreLast}

-- a stage that holds behind the levels of a chain
pub chain_more : (q : Stage) (ts : List StageAnswer) (t : StageAnswer) → IsChain q ts
    → Answers (behind q (levels_of ts)) t → IsChain q (ts ++ t ∷ [])
chain_more q [] t h k = (rw (append-nil q.front) at k, tt)
chain_more q (u ∷ ts) t h k = (
  h.0,
  chain_more (after q u) ts t h.1
      (rw (append_assoc q.front (u.level ∷ []) (levels_of ts)) k),
)

pub levels_more : (ts : List StageAnswer) (t : StageAnswer) → levels_of (ts ++ t ∷ []) ≡ levels_of ts ++ t.level ∷ []
levels_more [] t = refl
levels_more (u ∷ ts) t = ap (λ ls. u.level ∷ ls) (levels_more ts t)

pub levels_count : (ts : List StageAnswer) → length (levels_of ts) ≡ length ts
levels_count [] = refl
levels_count (t ∷ ts) = let ih = levels_count ts in omega (arith, ih)

abbrev OwnExcess : Game → ℕ → StageAnswer → Type 0
OwnExcess g k t =
    (t.level.excess_num *ℤ t.multipliers.den ≡ excess_of g.players t.multipliers k *ℤ t.level.excess_den)
    × (pos 1 ≤ℤ t.level.excess_den)

pub own_more : (g : Game) (k : ℕ) (ts : List StageAnswer) (t : StageAnswer) → OwnExcesses g k ts
    → OwnExcess g (k + length ts) t
    → OwnExcesses g k (ts ++ t ∷ [])
own_more g k [] t h own =
    let e : k + 0 ≡ k = omega arith in
    let here : OwnExcess g k t = rw e at own in
    (here.0, here.1, tt)
own_more g k (u ∷ ts) t h own =
    let e : k + length (u ∷ ts) ≡ k + 1 + length ts = omega arith in
    (h.0, h.1, own_more g (k + 1) ts t h.2 (rw e at own))

last_behind : (u : StageAnswer) (ts : List StageAnswer) (t : StageAnswer) → last_of u (ts ++ t ∷ []) ≡ t
last_behind u [] t = refl
last_behind u (v ∷ ts) t = last_behind v ts t

-- the last stage is the new one
pub last_more : (ts : List StageAnswer) (t : StageAnswer) (m : Multipliers) → t.multipliers ≡ rows_of m
    → AreLast (ts ++ t ∷ []) (Some m)
last_more [] t m e = e
last_more (u ∷ ts) t m e = ap (λ (s : StageAnswer). s.multipliers) (last_behind u ts t) ∙ e
