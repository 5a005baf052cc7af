-- The value of an optimal matching by the choice for one row: no column, or the best of the columns.
--
-- An optimal matching of the members is the best of these: one without the buyer, or one pair of the buyer with a
-- member seller and an optimal matching of the others (`best_choice`).
use Rattle.std.proofs.Common.{◌≡◌, ◌⊎◌, ℕ, ◌+◌, ◌<◌, ◌≤◌, Bool, true, false, List}
use Rattle.std.proofs.Common.{◌∷◌}
use Rattle.std.proofs.Common.{refl, sym, ap, subst, ◌∙◌, inl, inr, arith}
use Rattle.std.proofs.lemmas.Bool.{false≢true}
use Rattle.definitions.proofs.Cases.{less_or_last_of}
use Rattle.definitions.specs.Classes.{Matrix, removed, IsMatching, matching_value, entry}
use Rattle.assignment_games.specs.Values.{IsOptimalAmong}
use Rattle.assignment_games.proofs.Matchings.{removed-out, matching-more, pair_or_none}

-- rest is the value of an optimal matching without row b and column j
abbrev pub IsRest : Matrix → ℕ → (ℕ → Bool) → ℕ → ℕ → ℕ → Type 0
IsRest matrix rows member b j rest = IsOptimalAmong matrix rows (removed (removed member b) (rows + j)) rest

-- value is the best of: no column for row b, or one of the columns below the bound
pub record IsBestChoice (matrix : Matrix) (rows : ℕ) (member : ℕ → Bool) (b bound value : ℕ) : Type 0 where
  pub alone : (rest : ℕ) × IsOptimalAmong matrix rows (removed member b) rest × (rest ≤ value)
  pub each : (j : ℕ) → j < bound → member (rows + j) ≡ true
      → (rest : ℕ) × IsRest matrix rows member b j rest × (entry matrix b j + rest ≤ value)
  pub reached : IsOptimalAmong matrix rows (removed member b) value
      ⊎ ((j : ℕ) × (member (rows + j) ≡ true) × (rest : ℕ) × IsRest matrix rows member b j rest
      × (value ≡ entry matrix b j + rest))

-- ---- one column more

pub choice_start : (matrix : Matrix) (rows : ℕ) (w : ℕ → Bool) (b value : ℕ)
    → IsOptimalAmong matrix rows (removed w b) value → IsBestChoice matrix rows w b 0 value
choice_start matrix rows w b value h =
    record { alone = (value, h, omega arith); each = λ j lt wj. absurd (omega arith); reached = inl h }

pub choice_skip : (matrix : Matrix) (rows : ℕ) (w : ℕ → Bool) (b j value : ℕ) → w (rows + j) ≡ false
    → IsBestChoice matrix rows w b j value → IsBestChoice matrix rows w b (j + 1) value
choice_skip matrix rows w b j value out h = record {
  alone = h.alone;
  each = λ i lt wi. elim (less_or_last_of i j lt) [
    | inl before ↦ h.each i before wi
    | inr same ↦ absurd (false≢true (sym out ∙ ap (λ (k : ℕ). w (rows + k)) (sym same) ∙ wi))
  ];
  reached = h.reached;
}

pub choice_keep : (matrix : Matrix) (rows : ℕ) (w : ℕ → Bool) (b j value rest : ℕ) → IsRest matrix rows w b j rest
    → matrix b j + rest ≤ value → IsBestChoice matrix rows w b j value → IsBestChoice matrix rows w b (j + 1) value
choice_keep matrix rows w b j value rest r le h = record {
  alone = h.alone;
  each = λ i lt wi. elim (less_or_last_of i j lt) [
    | inl before ↦ h.each i before wi
    | inr same ↦ subst (λ (k : ℕ). (rest : ℕ) × IsRest matrix rows w b k rest × (matrix b k + rest ≤ value))
        (sym same) (rest, r, le)
  ];
  reached = h.reached;
}

pub choice_raise : (matrix : Matrix) (rows : ℕ) (w : ℕ → Bool) (b j value rest : ℕ) → w (rows + j) ≡ true
    → IsRest matrix rows w b j rest → value < matrix b j + rest → IsBestChoice matrix rows w b j value
    → IsBestChoice matrix rows w b (j + 1) (matrix b j + rest)
choice_raise matrix rows w b j value rest wj r lt h = record {
  alone = (h.alone.0, h.alone.1, (let le = h.alone.2 in omega (arith, le, lt)));
  each = λ i k wi. elim (less_or_last_of i j k) [
    | inl before ↦ let e = h.each i before wi in let le = e.2 in (e.0, e.1, omega (arith, le, lt))
    | inr same ↦ subst (λ (k : ℕ). (q : ℕ) × IsRest matrix rows w b k q × (matrix b k + q ≤ matrix b j + rest))
        (sym same) (rest, r, omega arith)
  ];
  reached = inr (j, wj, rest, r, refl);
}

-- ---- after the last column

pub best_choice : (matrix : Matrix) (rows : ℕ) (member : ℕ → Bool) (b bound value : ℕ) → b < rows → member b ≡ true
    → ((j : ℕ) → member (rows + j) ≡ true → j < bound) → IsBestChoice matrix rows member b bound value
    → IsOptimalAmong matrix rows member value
best_choice matrix rows w b bound value lt wb below h = record {
  reached = elim h.reached [
    | inl alone ↦ (
      alone.reached.0,
      matching-more rows (removed w b) w alone.reached.0 (λ j e. (removed-out w b j e).0) alone.reached.1,
      alone.reached.2,
    )
    | inr choice ↦ chosen choice.0 choice.1 choice.2 choice.3 choice.4
  ];
  greatest = λ ps m. elim (pair_or_none matrix rows w b ps lt m) [
    | inl none ↦ let le = h.alone.1.greatest ps none in let up = h.alone.2 in omega (arith, le, up)
    | inr pair ↦
        let lt = below pair.column pair.member in
        let best = h.each pair.column (omega arith) pair.member in
        let le = best.1.greatest pair.others pair.matching in
        let up = best.2 in
        let adds = pair.adds in
        omega (arith, le, up, adds)
  ];
}
  where
    chosen : (j : ℕ) → w (rows + j) ≡ true → (rest : ℕ) → IsRest matrix rows w b j rest
        → value ≡ entry matrix b j + rest
        → (ps : List (ℕ × ℕ)) × IsMatching rows w ps × (value ≡ matching_value matrix ps)
    chosen j wj rest r e =
        ((b, j) ∷ r.reached.0, (lt, wb, wj, r.reached.1), (let f = r.reached.2 in omega (arith, e, f)))
