-- The text of a share is read as the fraction that was printed.
use Rattle.std.proofs.Common.{◌≡◌, ℕ, ◌<◌, ◌≤◌, ◌^◌, List, [], ◌∷◌, map, Bool}
use Rattle.std.proofs.Common.{true, arith, refl, sym, ap, ap₂}
use Rattle.std.proofs.Common.{subst, ◌∙◌, ℤ, pos, ◌≤ℤ◌, ◌*ℤ◌, unsigned_abs, All, Some, Option}
use Rattle.std.specs.Prelude.{is_some, unwrap_or}
use Rattle.std.specs.List.{list_all}
use Rattle.std.specs.Int.{w128}
use Rattle.std.proofs.lemmas.Bool.{and_from}
use Rattle.std.proofs.lemmas.Int.{ints, unsigned_abs-mul, fits_signed_from_abs}
use Rattle.std.proofs.lemmas.List.Elements.{All-head, All-tail}
use Rattle.std.proofs.lemmas.Nat.Gcd.{le_of_dvd}
use Rattle.serde_json.specs.View.{items_of}
use Rattle.fractions.specs.Fraction.{Fraction, IsRatio, HasForm}
use Rattle.fractions.proofs.WrittenFractions.{read_back}
use Rattle.json_trees.specs.Trees.{is_member, listed}
use Rattle.json_trees.specs.Fractions.{fraction_of, is_fraction}
use Rattle.json_trees.proofs.Values.{listed-items_of}
use Rattle.report.specs.ShareLists.{as_printed, printed_share, share_data}
use Rattle.definitions.proofs.Cancel.{size_positive}
use Rattle.json_trees.specs.LowestTerms.{times_scale}
use Rattle.json_trees.proofs.LowestTerms.{lowest_ratio, is_lowest, times_ratio, last_factors_swapped}
use Rattle.document_parts.specs.Shares.{scaled_share}
use Rattle.report.specs.Limits.{IsScale}
use Rattle.report.proofs.LowestTexts.{scaled_high}
use Rattle.reading_back.specs.ReadBack.{kept_share}
use Rattle.reading_back.proofs.OverLeast.{no_greater}
use Rattle.fractions.proofs.Ratios.{apart, ratio_of_same, denominator_divides, product_positive}
use Rattle.report.proofs.Readers.{size_as_printed}

-- ---- one share

pub kept_ratio : (b : Bool) (d z : ℤ) → pos 1 ≤ℤ d → IsRatio (kept_share b d z) (as_printed b z) d
kept_ratio b d z p = lowest_ratio (as_printed b z) d p

printed_ratio : (k : ℕ) (b : Bool) (d z : ℤ) → IsScale (pos k) → pos 1 ≤ℤ d
    → IsRatio (printed_share k b d z) (as_printed b z) (d *ℤ pos k)
printed_ratio k b d z s p = lowest_ratio (as_printed b z) (d *ℤ pos k) (product_positive d (pos k) p s.0)

-- what is printed over the scale is, times the scale, as it was kept
printed_times : (k : ℕ) (b : Bool) (d z : ℤ) → IsScale (pos k) → pos 1 ≤ℤ d
    → times_scale k (printed_share k b d z) ≡ kept_share b d z
printed_times k b d z s p =
    let f = printed_share k b d z in
    let r = printed_ratio k b d z s p in
    is_lowest (times_scale k f) (as_printed b z) d p
    (ratio_of_same (times_scale k f) (f.num *ℤ pos k) f.den (as_printed b z) d (apart d p)
    (last_factors_swapped f.num (pos k) d ∙ r.same) (times_ratio k f r.reduced.positive))

-- a fraction in lowest terms has no greater numbers
small_numbers : (f : Fraction) (n d : ℤ) → IsRatio f n d → pos 1 ≤ℤ d
    → (unsigned_abs f.num ≤ unsigned_abs n) × (unsigned_abs f.den ≤ unsigned_abs d)
small_numbers f n d r p =
    let le = le_of_dvd (size_positive d (apart d p)) (denominator_divides f n d r) in (
      no_greater (unsigned_abs f.num) (unsigned_abs d) (unsigned_abs n) (unsigned_abs f.den)
          (size_positive d (apart d p)) le
          (sym (unsigned_abs-mul f.num d) ∙ ap unsigned_abs r.same ∙ unsigned_abs-mul n f.den),
      le,
    )

has_form : (f : Fraction) (n d : ℤ) → IsRatio f n d → pos 1 ≤ℤ d → d ≤ℤ pos (2 ^ 120) → unsigned_abs n < 2 ^ 110
    → HasForm f
has_form f n d r p q s =
    let small = small_numbers f n d r p in
    let below : unsigned_abs d ≤ 2 ^ 120 = omega (arith, ints) in (
      fits_signed_from_abs w128 f.num (omega (arith, small.0)),
      fits_signed_from_abs w128 f.den (omega (arith, small.1)),
    )

share_read : (k : ℕ) (b : Bool) (d z : ℤ) → IsScale (pos k) → pos 1 ≤ℤ d → d ≤ℤ pos (2 ^ 63)
    → unsigned_abs z < 2 ^ 110 → fraction_of (share_data k b d z) ≡ Some (printed_share k b d z)
share_read k b d z s p q h =
    let r = printed_ratio k b d z s p in
    let bound = scaled_high d (pos k) (pos (2 ^ 63)) p s.0 q s.1 in
    read_back (printed_share k b d z) r.reduced
    (has_form (printed_share k b d z) (as_printed b z) (d *ℤ pos k) r (product_positive d (pos k) p s.0)
    (omega (arith, ints, bound)) (subst (λ (n : ℕ). n < 2 ^ 110) (sym (size_as_printed b z)) h))

share_scaled : (k : ℕ) (b : Bool) (d z : ℤ) → IsScale (pos k) → pos 1 ≤ℤ d → d ≤ℤ pos (2 ^ 63)
    → unsigned_abs z < 2 ^ 110 → scaled_share k (share_data k b d z) ≡ kept_share b d z
share_scaled k b d z s p q h =
    ap (λ (o : Option Fraction). times_scale k (unwrap_or o (record { num = pos 0; den = pos 1 })))
    (share_read k b d z s p q h) ∙ printed_times k b d z s p

-- ---- all shares

abbrev AreSmall : List ℤ → Type 0
AreSmall zs = All (λ z. unsigned_abs z < 2 ^ 110) zs

module _ (k : ℕ) (b : Bool) (d : ℤ) (s : IsScale (pos k)) (p : pos 1 ≤ℤ d) (q : d ≤ℤ pos (2 ^ 63)) where
  pub shares_read : (zs : List ℤ) → AreSmall zs
      → map (scaled_share k) (map (share_data k b d) zs) ≡ map (kept_share b d) zs
  shares_read [] h = refl
  shares_read (z ∷ zs) h =
      ap₂ (λ (f : Fraction) (fs : List Fraction). f ∷ fs)
      (share_scaled k b d z s p q (All-head (λ z. unsigned_abs z < 2 ^ 110) z zs h))
      (shares_read zs (All-tail (λ z. unsigned_abs z < 2 ^ 110) z zs h))

  pub all_shares : (zs : List ℤ) → AreSmall zs → list_all is_fraction (map (share_data k b d) zs) ≡ true
  all_shares [] h = refl
  all_shares (z ∷ zs) h =
      and_from (is_fraction (share_data k b d z)) (list_all is_fraction (map (share_data k b d) zs))
      (ap is_some (share_read k b d z s p q (All-head (λ z. unsigned_abs z < 2 ^ 110) z zs h)))
      (all_shares zs (All-tail (λ z. unsigned_abs z < 2 ^ 110) z zs h))

-- ---- the list

all_members : (k : ℕ) (b : Bool) (d : ℤ) (zs : List ℤ) → list_all is_member (map (share_data k b d) zs) ≡ true
all_members k b d [] = refl
all_members k b d (z ∷ zs) = all_members k b d zs

pub listed_members : (k : ℕ) (b : Bool) (d : ℤ) (zs : List ℤ)
    → list_all is_member (listed (items_of (map (share_data k b d) zs))) ≡ true
listed_members k b d zs =
    ap (list_all is_member) (listed-items_of (map (share_data k b d) zs)) ∙ all_members k b d zs
