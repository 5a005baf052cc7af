-- What a reader finds in the tree of a nucleolus.
use Rattle.std.proofs.Common.{◌≡◌, ℕ, ◌+◌, ◌^◌, ◌<◌, ◌≤◌, Bool, true, false, List}
use Rattle.std.proofs.Common.{[], ◌∷◌, ◌++◌, length}
use Rattle.std.proofs.Common.{refl, arith, subst, sym, ℤ, pos, ◌≤ℤ◌, ◌*ℤ◌, unsigned_abs}
use Rattle.std.specs.List.{AllByRecursion}
use Rattle.std.proofs.lemmas.Int.{ints, fits_signed_from_abs}
use mir.Syntax.{w128}
use Rattle.serde_json.specs.Data.{depth}
use Rattle.definitions.specs.Games.{Allocation, IsShares}
use Rattle.definitions.specs.Certificates.{Level, LevelsForm}
use Rattle.json_texts.specs.Exact.{IsExact, WrittenIsReadBack}
use Rattle.report.specs.ShareLists.{as_printed, printed_share}
use Rattle.report.specs.Limits.{IsScale}
use Rattle.report.specs.ReadingBack.{IsReadBack, ExcessesAreReadBack, SharesAreReadBack}
use Rattle.report.specs.ReadingBack.{NucleoliAreReadBack, NucleoliAreShort, ScaledFractionsAreReadBack}
use Rattle.report.specs.Lines.{nucleolus_tree}
use Rattle.report.proofs.PrintableLevels.{small_level}
use Rattle.json_trees.proofs.LowestTerms.{times_over}
use Rattle.fractions.proofs.Ratios.{product_positive}
use Rattle.report.proofs.LowestTexts.{lowest_read_back, scaled_high, over_read_back}
use Rattle.report.proofs.CertificateDepths.{nucleolus_depth}
use Rattle.report.proofs.ExactTrees.{IsPrintableLevel, nucleolus_exact}
use Rattle.report.proofs.CertificateLengths.{IsShortLevel, nucleolus_length}
use Rattle.definitions.proofs.Alls.{all_weaken, all_at_places}

printable_levels : (n : ℕ) (front levels : List Level) → n ≤ 64 → LevelsForm n front levels
    → AllByRecursion IsPrintableLevel levels
printable_levels n front [] few h = tt
printable_levels n front (l ∷ levels) few h = (
  record {
    small = small_level n front l h.0;
    players = all_weaken (λ b. b.0 < n) (λ b. b.0 < 64) l.bounds (λ b lt. omega (arith, lt, few)) h.0.players;
  },
  printable_levels n (front ++ l ∷ []) levels few h.1,
)

pub size_as_printed : (is_cost : Bool) (z : ℤ) → unsigned_abs (as_printed is_cost z) ≡ unsigned_abs z
size_as_printed true z = omega (arith, ints)
size_as_printed false z = refl

share_read_back : (k : ℕ) (is_cost : Bool) (d z : ℤ) → IsScale (pos k) → pos 1 ≤ℤ d → d ≤ℤ pos (2 ^ 63)
    → unsigned_abs z < 2 ^ 110 → IsReadBack (printed_share k is_cost d z)
share_read_back k is_cost d z s low high h =
    let bound = scaled_high d (pos k) (pos (2 ^ 63)) low s.0 high s.1 in
    let small : unsigned_abs (as_printed is_cost z) < 2 ^ 110 =
    subst (λ (n : ℕ). n < 2 ^ 110) (sym (size_as_printed is_cost z)) h in
    lowest_read_back (as_printed is_cost z) (d *ℤ pos k) (product_positive d (pos k) low s.0)
    (omega (arith, ints, bound))
    (fits_signed_from_abs w128 (as_printed is_cost z) (omega (arith, small)))

shares_read_back : (k : ℕ) (is_cost : Bool) (x : Allocation) → IsScale (pos k) → IsShares x
    → SharesAreReadBack k is_cost x
shares_read_back k is_cost x s h =
    all_weaken (λ z. unsigned_abs z < 2 ^ 110) (λ z. IsReadBack (printed_share k is_cost x.den z)) x.shares
    (λ z small. share_read_back k is_cost x.den z s h.positive h.common small)
    (all_at_places (λ z. unsigned_abs z < 2 ^ 110) (pos 0) x.shares h.small)

pub nucleoli_read_back : WrittenIsReadBack → NucleoliAreReadBack
nucleoli_read_back back k family game is_cost x c scale shares certificate exact shallow =
    let tree = nucleolus_tree k family game is_cost x c in
    let tree_exact : IsExact tree =
    nucleolus_exact k family game is_cost x c
    (printable_levels c.players [] c.levels certificate.few certificate.form.each) exact in
    let deep : depth tree ≤ 9 = nucleolus_depth k family game is_cost x c shallow in (
      record {
        exact = tree_exact;
        shallow = deep;
        read_back = back tree tree_exact (omega (arith, deep));
        has_answer = refl;
        has_certificate = refl;
        has_game = refl;
        has_shares = refl;
      },
      shares_read_back k is_cost x scale shares,
    )

short_levels : (k : ℕ) (levels : List Level) → AllByRecursion IsPrintableLevel levels → ExcessesAreReadBack k levels
    → AllByRecursion (λ l. length l.coalitions + length l.earlier + length l.bounds ≤ 128) levels
    → AllByRecursion (IsShortLevel k) levels
short_levels k [] h r few = tt
short_levels k (l ∷ levels) h r few =
    (record { printable = h.0; excess = r.0; few = few.0 }, short_levels k levels h.1 r.1 few.1)

pub nucleoli_short : NucleoliAreShort
nucleoli_short k family game is_cost x c scale shares certificate excesses few =
    nucleolus_length k family game is_cost x c (omega (arith, certificate.form.few, certificate.few)) shares.few
    (short_levels k c.levels (printable_levels c.players [] c.levels certificate.few certificate.form.each) excesses
    few) (shares_read_back k is_cost x scale shares)

pub scaled_fractions_read_back : ScaledFractionsAreReadBack
scaled_fractions_read_back k f s r fits fine =
    (over_read_back (pos k) f s fine fits, times_over k f (scale_positive k s.0) r)
  where
    scale_positive : (k : ℕ) → pos 1 ≤ℤ pos k → 0 < k
    scale_positive k h = omega (arith, ints, h)
