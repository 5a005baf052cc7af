-- What is written is in lowest terms.
use Rattle.std.proofs.Common.{◌≡◌, ℕ, List, map, ℤ, pos, All, Option, Some, None}
use Rattle.std.proofs.Common.{slice_index_or, refl}
use Rattle.std.specs.Prelude.{unwrap_or, option_map, option_and_then}
use Rattle.std.proofs.lemmas.List.Elements.{All-map}
use Rattle.serde_json.specs.Data.{Data}
use Rattle.serde_json.specs.Find.{get, as_str}
use Rattle.fractions.specs.Fraction.{Fraction, IsReduced}
use Rattle.fractions.specs.FractionTexts.{parsed}
use Rattle.fractions.proofs.LowestTerms.{whole_reduced}
use Rattle.fractions.proofs.WrittenFractions.{read_fraction_is_reduced}
use Rattle.json_trees.specs.Trees.{integer}
use Rattle.json_trees.specs.Fractions.{whole_fraction, written_fraction, fraction_of, fraction_or_zero}
use Rattle.json_trees.specs.LowestTerms.{if_scaled}
use Rattle.json_trees.specs.ScaledFractions.{scaled_or_zero, scaled_at}
use Rattle.json_trees.proofs.LowestTerms.{times_or_zero}

abbrev or_zero : Option Fraction → Fraction
or_zero o = unwrap_or o (record { num = pos 0; den = pos 1 })

whole_or_zero : (o : Option ℤ) → IsReduced (or_zero (whole_fraction o))
whole_or_zero None = whole_reduced (pos 0)
whole_or_zero (Some z) = whole_reduced z

text_or_zero : (s : List ℕ) (o : Option Fraction) → o ≡ parsed s → IsReduced (or_zero o)
text_or_zero s None e = whole_reduced (pos 0)
text_or_zero s (Some f) e = read_fraction_is_reduced s f e

pub written_or_zero : (d : Data) (o : Option (List ℕ)) → IsReduced (or_zero (written_fraction d o))
written_or_zero d None = whole_or_zero (integer d)
written_or_zero d (Some s) = text_or_zero s (parsed s) refl

pub written_reduced : (ds : List Data) → All IsReduced (map fraction_or_zero ds)
written_reduced ds =
    All-map IsReduced fraction_or_zero ds
    (λ k d l. written_or_zero (slice_index_or ds k d) (as_str (slice_index_or ds k d)))

-- ---- times a scale

scaled_choice : (k : ℕ) (o : Option Fraction) → IsReduced (or_zero o)
    → IsReduced (or_zero (option_and_then (if_scaled k) o))
scaled_choice k None r = whole_reduced (pos 0)
scaled_choice k (Some f) r = times_or_zero k f r.positive

pub scaled_reduced : (k : ℕ) (d : Data) → IsReduced (scaled_or_zero k d)
scaled_reduced k d = scaled_choice k (fraction_of d) (written_or_zero d (as_str d))

scaled_there : (k : ℕ) (o : Option Data) → IsReduced (or_zero (option_map (scaled_or_zero k) o))
scaled_there k None = whole_reduced (pos 0)
scaled_there k (Some d) = scaled_reduced k d

pub scaled_at_reduced : (k : ℕ) (key : List ℕ) (d : Data) → IsReduced (scaled_at k key d)
scaled_at_reduced k key d = scaled_there k (get key d)
