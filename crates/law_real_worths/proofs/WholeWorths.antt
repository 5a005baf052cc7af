-- The game of whole numbers, times the unit, has the notions of `real_shares` by definition, and its players add what
-- they add, since multiples of the unit are in the order of their factors.
use Rattle.std.proofs.Common.{◌≡◌, ◌+◌, ℤ, ◌+ℤ◌, ap, arith}
use Rattle.definitions.proofs.Ring.{linear}
use Rattle.definitions.specs.Coalitions.{singleton}
use Rattle.definitions.specs.declared.Family.TheVariants.{Imputations, Preimputations}
use Rattle.law_duality.proofs.MembersInFractions.{unit_order}
use Rattle.real_shares.specs.Numbers.{Numbers, IsOrderedGroup, Equal, times}
use Rattle.real_shares.proofs.Multiples.{chain, back, equal_path, times-add, times-at_most}
use Rattle.real_shares.proofs.RealNumbers.{are_ordered}
use Rattle.law_real_worths.specs.WholeWorths.{WholeWorthsAgree}

module _ {C : Type 0} (N : Numbers C) (L : IsOrderedGroup N) where
  to_units : (a b : ℤ) → a ≡ b → Equal N (times N a N.unit) (times N b N.unit)
  to_units a b e = equal_path N L (times N a N.unit) (times N b N.unit) (ap (λ z. times N z N.unit) e)

  from_units : (a b : ℤ) → Equal N (times N a N.unit) (times N b N.unit) → a ≡ b
  from_units a b e =
      let low = unit_order N L a b e.0 in
      omega (arith, linear, low, unit_order N L b a e.1)

pub agree : WholeWorthsAgree
agree N g = record {
  family = elim [ Imputations ↦ λ y. (λ h. h, λ h. h) | Preimputations ↦ λ y. (λ h. h, λ h. h) ];
  nucleolus = elim [ Imputations ↦ λ y. (λ h. h, λ h. h) | Preimputations ↦ λ y. (λ h. h, λ h. h) ];
  core = λ y. (λ h. h, λ h. h);
  adds_no_less = λ R i j. (
    λ h s lt a b.
        unit_order N (are_ordered N R) (g.worth (s + singleton j)) (g.worth (s + singleton i)) (h s lt a b),
    λ h s lt a b.
        times-at_most N (are_ordered N R) (g.worth (s + singleton j)) (g.worth (s + singleton i)) (h s lt a b),
  );
  interchangeable = λ R i j. (
    λ h s lt a b. from_units N (are_ordered N R) (g.worth (s + singleton i)) (g.worth (s + singleton j)) (h s lt a b),
    λ h s lt a b. to_units N (are_ordered N R) (g.worth (s + singleton i)) (g.worth (s + singleton j)) (h s lt a b),
  );
  dummy = λ R i. (
    λ h s lt a.
        let L = are_ordered N R in
        let w = g.worth s in
        let v = g.worth (singleton i) in
        from_units N L (g.worth (s + singleton i)) (w +ℤ v)
        (chain N L (h s lt a) (back N L (times-add N L w v N.unit))),
    λ h s lt a.
        let L = are_ordered N R in
        let w = g.worth s in
        let v = g.worth (singleton i) in
        chain N L (to_units N L (g.worth (s + singleton i)) (w +ℤ v) (h s lt a)) (times-add N L w v N.unit),
  );
}
