-- The columns of the levels' coalitions, found by their numbers.
use Rattle.std.proofs.Common.{◌≡◌, ℕ, zero, suc, ◌+◌, ◌-◌, ◌*◌, ◌/◌, ◌%◌, ◌<◌}
use Rattle.std.proofs.Common.{◌≤◌, List, [], ◌∷◌, ◌++◌, length, map, drop, get_or, ℤ}
use Rattle.std.proofs.Common.{Option, Some, None, refl, sym, ap, ◌∙◌, arith}
use Rattle.std.proofs.lemmas.List.{get_or-append_right, get_or_append_left, drop_all}
use Rattle.definitions.specs.Games.{Game}
use Rattle.definitions.specs.Certificates.{Level}
use Rattle.kohlberg.proofs.Pairs.{drop-more}
use Rattle.separation.specs.Stage.{earlier_of}
use Rattle.separation.specs.Kept.{column_at}
use Rattle.separation.specs.Making.{plain, minus, earlier_columns}
use Rattle.separation.specs.declared.column.Column.{Column}
use Rattle.separation.proofs.Counts.{level_length}
use Rattle.separation.proofs.Pushed.{earlier_columns-append}

-- ---- the columns of one level

pub even_at : (g : Game) (k : ℕ) (pairs : List (ℕ × ℤ)) (id : ℕ) (p : ℕ × ℤ) → id < 2 * length pairs
    → p ≡ get_or pairs (id / 2) p → id % 2 ≡ 0
    → Some (plain g p.0 (Some k)) ≡ column_at (earlier_columns g (map (λ c. (c.0, k)) pairs)) id
even_at g k [] id p lt is e = absurd (omega arith)
even_at g k (q ∷ pairs) zero p lt is e = ap (λ (t : ℕ × ℤ). Some (plain g t.0 (Some k))) is
even_at g k (q ∷ pairs) (suc zero) p lt is e = absurd (omega arith)
even_at g k (q ∷ pairs) (suc (suc j)) p lt is e =
    let half : suc (suc j) / 2 ≡ suc (j / 2) = omega arith in
    even_at g k pairs j p (omega arith) (is ∙ ap (λ (t : ℕ). get_or (q ∷ pairs) t p) half) (omega arith)

pub odd_at : (g : Game) (k : ℕ) (pairs : List (ℕ × ℤ)) (id : ℕ) (p : ℕ × ℤ) → id < 2 * length pairs
    → p ≡ get_or pairs (id / 2) p → ¬ (id % 2 ≡ 0)
    → Some (minus g p.0 (Some k)) ≡ column_at (earlier_columns g (map (λ c. (c.0, k)) pairs)) id
odd_at g k [] id p lt is e = absurd (omega arith)
odd_at g k (q ∷ pairs) zero p lt is e = absurd (e refl)
odd_at g k (q ∷ pairs) (suc zero) p lt is e = ap (λ (t : ℕ × ℤ). Some (minus g t.0 (Some k))) is
odd_at g k (q ∷ pairs) (suc (suc j)) p lt is e =
    let half : suc (suc j) / 2 ≡ suc (j / 2) = omega arith in
    odd_at g k pairs j p (omega arith) (is ∙ ap (λ (t : ℕ). get_or (q ∷ pairs) t p) half)
    (λ z. e (omega (arith, z)))

-- ---- from level k on

module _ (g : Game) (levels : List Level) (k : ℕ) (d : Level) (lt : k < length levels) where
  abbrev here : List (Option Column)
  here = earlier_columns g (map (λ c. (c.0, k)) (get_or levels k d).coalitions)

  abbrev behind : List (Option Column)
  behind = earlier_columns g (earlier_of (k + 1) (drop (k + 1) levels))

  pub level_split : earlier_columns g (earlier_of k (drop k levels)) ≡ here ++ behind
  level_split =
      let two =
      earlier_columns-append g (map (λ c. (c.0, k)) (get_or levels k d).coalitions)
      (earlier_of (k + 1) (drop (k + 1) levels)) in
      cc (drop-more levels k d lt)

  pub level_here : (id : ℕ) → id < 2 * length (get_or levels k d).coalitions
      → column_at (earlier_columns g (earlier_of k (drop k levels))) id ≡ column_at here id
  level_here id less =
      let two =
      get_or_append_left here behind None id
      (let h = level_length g k (get_or levels k d).coalitions in omega (arith, h, less)) in
      cc (level_split)

  pub level_past : (id : ℕ) → 2 * length (get_or levels k d).coalitions ≤ id
      → column_at (earlier_columns g (earlier_of k (drop k levels))) id
      ≡ column_at behind (id - 2 * length (get_or levels k d).coalitions)
  level_past id le =
      let two =
      get_or-append_right here behind (2 * length (get_or levels k d).coalitions) id None
      (level_length g k (get_or levels k d).coalitions) le in
      cc (level_split)

-- behind all levels there is none
pub none_left : (g : Game) (k id : ℕ) (levels : List Level) → length levels ≤ k
    → None ≡ column_at (earlier_columns g (earlier_of k (drop k levels))) id
none_left g k id levels le =
    ap (λ (ls : List Level). column_at (earlier_columns g (earlier_of k ls)) id) (sym (drop_all k levels le))
