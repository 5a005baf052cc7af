-- The members of a coalition, in a table of what they offer each other: the greatest value for all of that table is
-- the greatest for the coalition.
use Rattle.std.proofs.Common.{◌≡◌, ◌⊎◌, ℕ, ◌+◌, ◌^◌, ◌<◌, Bool, true, false, cond}
use Rattle.std.proofs.Common.{◌&&◌, List, [], ◌∷◌}
use Rattle.std.proofs.Common.{refl, sym, ap, ◌∙◌, inl, inr, arith, if◌then◌else◌}
use Rattle.std.proofs.lemmas.Bool.{false≢true}
use Rattle.definitions.specs.Classes.{Matrix, removed, IsMatching, matching_value}
use Rattle.definitions.specs.Coalitions.{has_player}
use Rattle.definitions.proofs.Members.{has_player-grand_coalition}
use Rattle.assignment_games.specs.Values.{IsOptimalAmong}
use Rattle.big_assignment.specs.Markets.{offered}
use Rattle.big_assignment.specs.Mates.{pairs_from}
use Rattle.definitions.proofs.Cases.{below_or_above}
use Rattle.assignment_games.proofs.Matchings.{removed-out, Within, matching-more}
use Rattle.big_assignment.proofs.Sums.{sum_where}
use Rattle.big_assignment.proofs.Pairs.{Paired, pairs_match}
use Rattle.big_assignment.proofs.Supports.{IsSupport, all_of, support_pairs, support_optimal}
use Rattle.definitions.proofs.Parts.{has_player-within}

cond-both : (a b : Bool) (x : ℕ) → a ≡ true → b ≡ true → cond (a && b) x 0 ≡ x
cond-both true true x p q = refl
cond-both true false x p q = absurd (false≢true q)
cond-both false b x p q = absurd (false≢true p)

pub offered-members : (matrix : Matrix) (rows s i j : ℕ) → has_player s i ≡ true → has_player s (rows + j) ≡ true
    → offered matrix rows s i j ≡ matrix i j
offered-members matrix rows s i j p q = cond-both (has_player s i) (has_player s (rows + j)) (matrix i j) p q

pub cond_zero : (c : Bool) (x : ℕ) → x ≡ 0 → cond c x 0 ≡ 0
cond_zero true x e = e
cond_zero false x e = refl

-- a matching of members has the same value in the table
value_of_members : (matrix : Matrix) (rows s : ℕ) (w : ℕ → Bool) (ps : List (ℕ × ℕ)) → Within w (has_player s)
    → IsMatching rows w ps → matching_value (offered matrix rows s) ps ≡ matching_value matrix ps
value_of_members matrix rows s w [] h m = refl
value_of_members matrix rows s w (p ∷ ps) h m =
    let here = offered-members matrix rows s p.0 p.1 (h p.0 m.1) (h (rows + p.1) m.2) in
    let ih =
    value_of_members matrix rows s (removed (removed w p.0) (rows + p.1)) ps
    (λ j e. h j (removed-out w p.0 j (removed-out (removed w p.0) (rows + p.1) j e).0).0) m.3 in
    omega arith

-- the mates of members alone
abbrev pub members_mate : ℕ → ℕ → ℕ → (ℕ → ℕ) → ℕ → ℕ
members_mate rows columns s mate i = if has_player s i && has_player s (rows + mate i) then mate i else columns

mate_cases : (a b : Bool) (k c x : ℕ)
    → ((a ≡ true) × (b ≡ true) × (cond (a && b) k c ≡ k)) ⊎ ((cond (a && b) k c ≡ c) × (cond (a && b) x 0 ≡ 0))
mate_cases true true k c x = inl (refl, refl, refl)
mate_cases true false k c x = inr (refl, refl)
mate_cases false b k c x = inr (refl, refl)

-- both are members, or their players get nothing
member_cases : (matrix : Matrix) (rows columns s : ℕ) (mate : ℕ → ℕ) (i : ℕ)
    → ((has_player s i ≡ true) × (has_player s (rows + mate i) ≡ true)
    × (members_mate rows columns s mate i ≡ mate i))
    ⊎ ((members_mate rows columns s mate i ≡ columns) × (offered matrix rows s i (mate i) ≡ 0))
member_cases matrix rows columns s mate i =
    mate_cases (has_player s i) (has_player s (rows + mate i)) (mate i) columns (matrix i (mate i))

members_support : (matrix : Matrix) (rows columns s : ℕ) (x mate : ℕ → ℕ)
    → IsSupport (offered matrix rows s) rows columns x mate
    → IsSupport (offered matrix rows s) rows columns x (members_mate rows columns s mate)
members_support matrix rows columns s x mate h = record {
  covers = h.covers;
  tight = λ i il lt. elim (member_cases matrix rows columns s mate i) [
    | inl a ↦ rw a.2 (h.tight i il (omega arith))
    | inr a ↦ absurd (omega arith)
  ];
  alone = λ i il ge. elim (below_or_above (mate i) columns) [
    | inl lt ↦ elim (member_cases matrix rows columns s mate i) [
      | inl a ↦ absurd (omega arith)
      | inr a ↦ omega (arith, h.tight i il lt)
    ]
    | inr none ↦ h.alone i il none
  ];
  apart = λ i l il ll e lt. elim (member_cases matrix rows columns s mate i) [
    | inl a ↦ elim (member_cases matrix rows columns s mate l) [
      | inl b ↦ h.apart i l il ll (sym a.2 ∙ e ∙ b.2) (omega arith)
      | inr b ↦ absurd (omega arith)
    ]
    | inr a ↦ absurd (omega arith)
  ];
  sold = λ j jl. elim (h.sold j jl) [
    | inl none ↦ inl none
    | inr held ↦ sold_by j jl held.0 held.1 held.2
  ];
}
  where
    sold_by : (j : ℕ) → j < columns → (i : ℕ) → i < rows → mate i ≡ j
        → (x (rows + j) ≡ 0) ⊎ ((l : ℕ) × (l < rows) × (members_mate rows columns s mate l ≡ j))
    sold_by j jl i il e = elim (member_cases matrix rows columns s mate i) [
      | inl a ↦ inr (i, il, a.2 ∙ e)
      | inr a ↦ inl
          (let t = h.tight i il (omega arith) in
          let f = ap (λ (k : ℕ). x (rows + k)) e in omega arith)
    ]

members_paired : (matrix : Matrix) (rows columns s : ℕ) (x mate : ℕ → ℕ)
    → IsSupport (offered matrix rows s) rows columns x mate
    → Paired rows columns (members_mate rows columns s mate) (has_player s) 0 rows
members_paired matrix rows columns s x mate h = record {
  ends = omega arith;
  row = λ l a b lt. elim (member_cases matrix rows columns s mate l) [
    | inl c ↦ c.0
    | inr c ↦ absurd (omega arith)
  ];
  column = λ l a b lt. elim (member_cases matrix rows columns s mate l) [
    | inl c ↦ rw c.2 c.1
    | inr c ↦ absurd (omega arith)
  ];
  apart = (members_support matrix rows columns s x mate h).apart;
}

-- an optimal matching of the members has that value
pub members_optimal : (matrix : Matrix) (rows columns s : ℕ) (x mate : ℕ → ℕ) → s < 2 ^ (rows + columns)
    → IsSupport (offered matrix rows s) rows columns x mate
    → IsOptimalAmong matrix rows (has_player s) (sum_where (rows + columns) (all_of (rows + columns)) x)
members_optimal matrix rows columns s x mate small h =
    let n = rows + columns in
    let mates = members_mate rows columns s mate in
    let pairs =
    support_pairs (offered matrix rows s) rows columns x mates
    (members_support matrix rows columns s x mate h) in
    let own = support_pairs (offered matrix rows s) rows columns x mate h in
    let matches =
    pairs_match rows columns mates (has_player s) 0 rows (members_paired matrix rows columns s x mate h) in
    let most = support_optimal (offered matrix rows s) rows columns x mate h in
    let within : Within (has_player s) (all_of n) =
    λ k e. has_player-grand_coalition n k (has_player-within n s k small e) in
    record {
      reached = (
        pairs_from mates columns 0 rows,
        matches,
        sym pairs.1
            ∙ value_of_members matrix rows s (has_player s) (pairs_from mates columns 0 rows) (λ j e. e) matches,
      );
      greatest = λ ps m.
          (let a = most.greatest ps (matching-more rows (has_player s) (all_of n) ps within m) in
          let e = value_of_members matrix rows s (has_player s) ps (λ j e. e) m in
          omega arith);
    }
