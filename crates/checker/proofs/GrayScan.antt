-- What a scan in Gray order knows at its end of the greatest measured excess of the marked coalitions.
--
-- Condition 7 asks for the greatest measured excess outside. In mode span a mark says which coalitions the levels don't
-- fix (Marking.antt of kohlberg). In mode players a coalition is outside if it holds some free player and lacks another
-- one (Free.antt). The walk keeps what the members get, by one share added or taken off at each step (`sum_flipped` in
-- Paid.antt), and the greatest excess of the marked ones.
use Rattle.std.proofs.Common.{ℕ, ◌^◌, ◌<◌, List, pos, ◌*ℤ◌, ◌≤ℤ◌, Some, None, IsTrue}
use Rattle.std.proofs.Common.{arith, refl, ap, subst, ◌∙◌}
use Rattle.std.specs.Bool.{Decides}
use Rattle.fractions.specs.Fraction.{Fraction, IsRatio}
use Rattle.definitions.specs.Coalitions.{grand_coalition}
use Rattle.definitions.specs.Measures.{IsMeasurable}
use Rattle.definitions.specs.Games.{Game, Allocation, measured_excess}
use Rattle.definitions.specs.Certificates.{Level}
use Rattle.definitions.specs.declared.Measure.{Measure}
use Rattle.definitions.specs.declared.Mode.TheVariants.{Span}
use Rattle.worth_core.specs.Measured.{Divided}
use Rattle.worth_core.proofs.TopScan.{IsTop, value_from_ratio}
use Rattle.coalitions.specs.GrayOrder.{gray_mask, IsOnce}
use Rattle.spans.specs.Outside.{is_marked}
use Rattle.kohlberg.specs.Marking.{IsMarking}
use Rattle.checker.specs.Meaning.{IsGreatestOutside}

abbrev pub IsMarked : List ℕ → ℕ → Type 0
IsMarked words s = IsTrue (is_marked words s)

-- at the end each coalition has come: none is outside
pub none_at_end : (measure : Measure) (g : Game) (x : Allocation) (words : List ℕ) (levels : List Level)
    → IsMarking g.players levels words → ((s : ℕ) → s < 2 ^ g.players → IsOnce g.players s)
    → IsTop measure g x (IsMarked words) gray_mask (2 ^ g.players) None
    → IsGreatestOutside Span measure g x levels None
none_at_end measure g x words levels marks once h =
    λ s lt out. let o = once s lt in h.found o.0 o.1 (ap (is_marked words) o.2 ∙ (marks s).1 out)

-- or what has the greatest measured excess of the marked ones has that of those outside
pub greatest_at_end : (measure : Measure) (g : Game) (x : Allocation) (words : List ℕ) (levels : List Level)
    (d : Divided) (f : Fraction) → IsMeasurable measure g.players → IsMarking g.players levels words
    → ((s : ℕ) → s < 2 ^ g.players → IsOnce g.players s)
    → IsTop measure g x (IsMarked words) gray_mask (2 ^ g.players) (Some d)
    → IsRatio f d.excess (x.den *ℤ pos d.divisor) → IsGreatestOutside Span measure g x levels (Some f)
greatest_at_end measure g x words levels d f able marks once h ratio =
    let t = gray_mask h.found.0 in (
      measured_excess measure g x t,
      (
        (t, (h.found.3, (marks t).0 h.found.4), refl),
        λ s k.
            let o = once s k.0 in
            subst (λ (u : ℕ). measured_excess measure g x u ≤ℤ measured_excess measure g x t) o.2
            (h.found.6 o.0 o.1 (ap (is_marked words) o.2 ∙ (marks s).1 k.1)),
      ),
      value_from_ratio measure g x t d f able h.found.2 h.found.3 h.found.5 ratio,
    )

-- ---- marks of what is outside

pub proper_within : (n : ℕ) (words : List ℕ)
    → ((s : ℕ) → Decides (is_marked words s) ((0 < s) × (s < grand_coalition n))) → (s : ℕ)
    → IsTrue (is_marked words s) → s < 2 ^ n
proper_within n words proper s on = let lt = ((proper s).0 on).1 in omega (arith, lt)
