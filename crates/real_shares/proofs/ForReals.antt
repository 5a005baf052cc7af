-- A certificate that meets its conditions certifies the nucleolus among real shares, and core points and members of
-- the prekernel in fractions are such in real shares.
use Rattle.std.proofs.Common.{List, []}
use Rattle.definitions.proofs.Families.{allocation_of}
use Rattle.definitions.specs.Measures.{IsMeasurable}
use Rattle.definitions.specs.Games.{Game, Allocation}
use Rattle.definitions.specs.Certificates.{Level, HasForm, Certifies}
use Rattle.definitions.specs.declared.Family.{Family}
use Rattle.definitions.specs.declared.Measure.{Measure}
use Rattle.definitions.specs.declared.Mode.{Mode}
use Rattle.real_shares.specs.Claims.{IsNucleolusForReals}
use Rattle.real_shares.specs.Theorems.{CorePointsForReals, PrekernelForReals}
use Rattle.real_shares.proofs.RealNumbers.{are_ordered}
use Rattle.real_shares.proofs.Quotients.{reals_written}
use Rattle.real_shares.proofs.Soundness.{LevelsFit, form_fits}
use Rattle.real_shares.proofs.Among.{among-from_levels, core_as_written, prekernel_as_written}

pub IsNucleolusForReals-from_levels : (mode : Mode) (family : Family) (measure : Measure) (g : Game)
    (x : Allocation) (levels : List Level) → IsMeasurable measure g.players → LevelsFit g.players [] levels
    → Certifies mode family measure g x levels → IsNucleolusForReals family measure g x
IsNucleolusForReals-from_levels mode family measure g x levels m fits certifies N R =
    let (y, written) = reals_written N R g x (allocation_of family g x certifies.0) in (
      y,
      written,
      among-from_levels N (are_ordered N R) mode family measure g x levels m fits certifies y written,
    )

pub IsNucleolusForReals-from_certificate : (mode : Mode) (family : Family) (measure : Measure) (g : Game)
    (x : Allocation) (levels : List Level) → IsMeasurable measure g.players → HasForm mode g.players levels
    → Certifies mode family measure g x levels → IsNucleolusForReals family measure g x
IsNucleolusForReals-from_certificate mode family measure g x levels m form certifies =
    IsNucleolusForReals-from_levels mode family measure g x levels m (form_fits g.players [] levels form.each)
    certifies

pub core_point_for_reals : CorePointsForReals
core_point_for_reals g x core N R =
    let (y, written) = reals_written N R g x core.0 in
    (y, written, core_as_written N (are_ordered N R) g x y core.0 written core)

pub in_prekernel_for_reals : PrekernelForReals
in_prekernel_for_reals g x inside N R =
    let (y, written) = reals_written N R g x inside.0 in
    (y, written, prekernel_as_written N (are_ordered N R) g x y inside.0 written inside)
