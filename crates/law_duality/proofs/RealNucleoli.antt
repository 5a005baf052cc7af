-- Every nucleolus has a certificate, and what a certificate certifies in fractions it certifies over every linearly
-- ordered abelian group, whatever the size of its numbers: so the nucleolus in fractions is that among real shares.
use Rattle.std.proofs.Common.{[]}
use Rattle.definitions.specs.declared.Mode.TheVariants.{Span}
use Rattle.real_shares.proofs.Soundness.{length_over, IsNucleolusOver-from_levels}
use Rattle.real_shares.proofs.ForReals.{IsNucleolusForReals-from_levels}
use Rattle.real_shares.proofs.RealNumbers.{are_ordered}
use Rattle.real_shares.proofs.Multiples.{chain, times-equal}
use Rattle.real_shares.proofs.OneNucleolus.{one_among}
use Rattle.law_duality.specs.RealNucleoli.{NucleoliAreReal, NucleoliOverGroups, RealNucleoliExist}
use Rattle.law_duality.specs.RealNucleoli.{RealNucleoliAreFractions}
use Rattle.law_duality.proofs.NucleoliAreCertified.{nucleoli_are_certified}
use Rattle.law_duality.proofs.KohlbergTheorem.{shape_fits}
use Rattle.law_duality.proofs.Nucleoli.{nucleoli_exist}
use Rattle.law_duality.proofs.MembersInFractions.{member_in_fractions}

pub nucleoli_over_groups : NucleoliOverGroups
nucleoli_over_groups family measure g x m h N L =
    let c = nucleoli_are_certified family measure g x m h in
    IsNucleolusOver-from_levels N L Span family measure g x c.0 m (shape_fits g.players [] c.0 c.1.each) c.2

pub nucleoli_are_real : NucleoliAreReal
nucleoli_are_real family measure g x m h =
    let c = nucleoli_are_certified family measure g x m h in
    IsNucleolusForReals-from_levels Span family measure g x c.0 m (shape_fits g.players [] c.0 c.1.each) c.2

pub real_nucleoli_exist : RealNucleoliExist
real_nucleoli_exist N R family measure g y m hy =
    let (w, hw) = member_in_fractions N (are_ordered N R) family g y hy in
    let (x, hx) = nucleoli_exist family measure g w m hw in
    let r = nucleoli_are_real family measure g x m hx N R in
    (r.0, r.2)

pub real_nucleoli_are_fractions : RealNucleoliAreFractions
real_nucleoli_are_fractions N R family measure g z m hz =
    let L = are_ordered N R in
    let (w, hw) = member_in_fractions N L family g z hz.0 in
    let (x, hx) = nucleoli_exist family measure g w m hw in
    let r = nucleoli_are_real family measure g x m hx N R in
    let same = one_among N L family measure g r.0 z r.2 hz in (
      x,
      hx,
      (
        length_over N family g z hz.0,
        λ i lt. chain N L (r.1.1 i lt) (times-equal N L x.den (same i lt)),
      ),
    )
