-- A matching either leaves a row out or has one pair of that row, which may as well come first.
use Rattle.std.proofs.Common.{◌≡◌, ◌≢◌, ◌⊎◌, ℕ, ◌+◌, ◌<◌, ◌≤◌, Bool, true, false}
use Rattle.std.proofs.Common.{not, nat_eq}
use Rattle.std.proofs.Common.{List, [], ◌∷◌, refl, sym, subst, ◌∙◌, inl, inr, arith}
use Rattle.std.proofs.lemmas.Bool.{false≢true}
use Rattle.definitions.proofs.Cases.{same_or_other, nat_eq-equal, nat_eq-other, and_parts, from_not}
use Rattle.definitions.specs.Classes.{Matrix, removed, IsMatching, matching_value, entry}
use Rattle.assignment_games.specs.Values.{IsOptimalAmong}

abbrev pub Within : (ℕ → Bool) → (ℕ → Bool) → Type 0
Within a b = (j : ℕ) → a j ≡ true → b j ≡ true

pub removed-in : (w : ℕ → Bool) (p j : ℕ) → j ≢ p → w j ≡ true → removed w p j ≡ true
removed-in w p j ne e = rw (nat_eq-other j p ne) e

pub removed-out : (w : ℕ → Bool) (p j : ℕ) → removed w p j ≡ true → (w j ≡ true) × (j ≢ p)
removed-out w p j e =
    let both = and_parts (not (nat_eq j p)) (w j) e in
    (both.1, λ same. false≢true (sym (from_not (nat_eq j p) both.0) ∙ nat_eq-equal j p same))

removed-within : (w u : ℕ → Bool) (p : ℕ) → Within w u → Within (removed w p) (removed u p)
removed-within w u p h j e = let r = removed-out w p j e in removed-in u p j r.1 (h j r.0)

pub matching-more : (rows : ℕ) (w u : ℕ → Bool) (ps : List (ℕ × ℕ)) → Within w u → IsMatching rows w ps
    → IsMatching rows u ps
matching-more rows w u [] h m = tt
matching-more rows w u (p ∷ ps) h m = (
  m.0,
  h p.0 m.1,
  h (rows + p.1) m.2,
  matching-more rows (removed (removed w p.0) (rows + p.1)) (removed (removed u p.0) (rows + p.1)) ps
      (removed-within (removed w p.0) (removed u p.0) (rows + p.1) (removed-within w u p.0 h)) m.3,
)

-- ---- the pair of a row

pub record PairOf (matrix : Matrix) (rows : ℕ) (w : ℕ → Bool) (b value : ℕ) : Type 0 where
  pub column : ℕ
  pub others : List (ℕ × ℕ)
  pub member : w (rows + column) ≡ true
  pub matching : IsMatching rows (removed (removed w b) (rows + column)) others
  pub adds : value ≡ entry matrix b column + matching_value matrix others

pair_here : (matrix : Matrix) (rows : ℕ) (w : ℕ → Bool) (b j : ℕ) (ps : List (ℕ × ℕ)) → w (rows + j) ≡ true
    → IsMatching rows (removed (removed w b) (rows + j)) ps
    → PairOf matrix rows w b (entry matrix b j + matching_value matrix ps)
pair_here matrix rows w b j ps wj m = record { column = j; others = ps; member = wj; matching = m; adds = refl }

-- another pair a, j comes first
left_out : (rows : ℕ) (w : ℕ → Bool) (b a j : ℕ) (ps : List (ℕ × ℕ)) → b < rows → a < rows → a ≢ b → w a ≡ true
    → w (rows + j) ≡ true → IsMatching rows (removed (removed (removed w a) (rows + j)) b) ps
    → IsMatching rows (removed w b) ((a, j) ∷ ps)
left_out rows w b a j ps lt al ne wa wj m = (
  al,
  removed-in w b a ne wa,
  removed-in w b (rows + j) (λ e. omega arith) wj,
  matching-more rows (removed (removed (removed w a) (rows + j)) b) (removed (removed (removed w b) a) (rows + j))
      ps within m,
)
  where
    within : Within (removed (removed (removed w a) (rows + j)) b) (removed (removed (removed w b) a) (rows + j))
    within k e =
        let x = removed-out (removed (removed w a) (rows + j)) b k e in
        let y = removed-out (removed w a) (rows + j) k x.0 in
        let z = removed-out w a k y.0 in
        removed-in (removed (removed w b) a) (rows + j) k y.1
        (removed-in (removed w b) a k z.1 (removed-in w b k x.1 z.0))

pair_later : (matrix : Matrix) (rows : ℕ) (w : ℕ → Bool) (b a j value : ℕ) → b < rows → a < rows → a ≢ b
    → w a ≡ true → w (rows + j) ≡ true → PairOf matrix rows (removed (removed w a) (rows + j)) b value
    → PairOf matrix rows w b (entry matrix a j + value)
pair_later matrix rows w b a j value lt al ne wa wj r = record {
  column = r.column;
  others = (a, j) ∷ r.others;
  member = known.0;
  matching = (
    al,
    removed-in (removed w b) (rows + r.column) a (λ e. omega arith) (removed-in w b a ne wa),
    removed-in (removed w b) (rows + r.column) (rows + j) (λ e. apart (sym e))
        (removed-in w b (rows + j) (λ e. omega arith) wj),
    matching-more rows (removed (removed (removed (removed w a) (rows + j)) b) (rows + r.column))
        (removed (removed (removed (removed w b) (rows + r.column)) a) (rows + j)) r.others within r.matching,
  );
  adds = (let e = r.adds in omega (arith, e));
}
  where
    outer : (removed w a (rows + r.column) ≡ true) × (rows + r.column ≢ rows + j)
    outer = removed-out (removed w a) (rows + j) (rows + r.column) r.member

    known : (w (rows + r.column) ≡ true) × (rows + r.column ≢ a)
    known = removed-out w a (rows + r.column) outer.0

    apart : rows + r.column ≡ rows + j → ⊥
    apart e = outer.1 e

    within : Within (removed (removed (removed (removed w a) (rows + j)) b) (rows + r.column))
        (removed (removed (removed (removed w b) (rows + r.column)) a) (rows + j))
    within k e =
        let u = removed-out (removed (removed (removed w a) (rows + j)) b) (rows + r.column) k e in
        let x = removed-out (removed (removed w a) (rows + j)) b k u.0 in
        let y = removed-out (removed w a) (rows + j) k x.0 in
        let z = removed-out w a k y.0 in
        removed-in (removed (removed (removed w b) (rows + r.column)) a) (rows + j) k y.1
        (removed-in (removed (removed w b) (rows + r.column)) a k z.1
        (removed-in (removed w b) (rows + r.column) k u.1 (removed-in w b k x.1 z.0)))

pub pair_or_none : (matrix : Matrix) (rows : ℕ) (w : ℕ → Bool) (b : ℕ) (ps : List (ℕ × ℕ)) → b < rows
    → IsMatching rows w ps → IsMatching rows (removed w b) ps ⊎ PairOf matrix rows w b (matching_value matrix ps)
pair_or_none matrix rows w b [] lt m = inl tt
pair_or_none matrix rows w b (p ∷ ps) lt m =
    cases (same_or_other p.0 b) (pair_or_none matrix rows (removed (removed w p.0) (rows + p.1)) b ps lt m.3)
  where
    cases : (p.0 ≡ b) ⊎ (p.0 ≢ b)
        → IsMatching rows (removed (removed (removed w p.0) (rows + p.1)) b) ps
        ⊎ PairOf matrix rows (removed (removed w p.0) (rows + p.1)) b (matching_value matrix ps)
        → IsMatching rows (removed w b) (p ∷ ps)
        ⊎ PairOf matrix rows w b (entry matrix p.0 p.1 + matching_value matrix ps)
    cases (inl here) rest =
        inr
        (subst
        (λ (k : ℕ). IsMatching rows (removed (removed w k) (rows + p.1)) ps
        → PairOf matrix rows w b (entry matrix k p.1 + matching_value matrix ps)) (sym here)
        (λ k. pair_here matrix rows w b p.1 ps m.2 k) m.3)
    cases (inr there) (inl none) = inl (left_out rows w b p.0 p.1 ps lt m.0 there m.1 m.2 none)
    cases (inr there) (inr found) =
        inr (pair_later matrix rows w b p.0 p.1 (matching_value matrix ps) lt m.0 there m.1 m.2 found)

-- where no row is a member, no matching has a pair
pub no_rows : (matrix : Matrix) (rows : ℕ) (w : ℕ → Bool) → ((b : ℕ) → b < rows → w b ≡ false)
    → IsOptimalAmong matrix rows w 0
no_rows matrix rows w none = record { reached = ([], tt, refl); greatest = each }
  where
    each : (ps : List (ℕ × ℕ)) → IsMatching rows w ps → matching_value matrix ps ≤ 0
    each [] m = omega arith
    each (p ∷ ps) m = absurd (false≢true (sym (none p.0 m.0) ∙ m.1))
