-- A member that no other comes before is the nucleolus: were it not to come before a member with other shares, those
-- halfway between the two would come before it.
use Rattle.std.proofs.Common.{◌≡◌, ◌⊎◌, ℕ, ◌-◌, ◌^◌, List, [], ◌∷◌, length, sym}
use Rattle.std.proofs.Common.{◌∙◌, inl, inr, arith}
use Rattle.std.proofs.lemmas.List.{length-map}
use Rattle.definitions.specs.Coalitions.{proper_coalitions}
use Rattle.definitions.specs.declared.Family.{Family}
use Rattle.real_shares.specs.Numbers.{Numbers, IsOrderedGroup, AtMost, Equal, sorted_by, IsLesserBy}
use Rattle.real_shares.specs.Numbers.{ComesBeforeBy}
use Rattle.real_shares.proofs.Orders.{decided, equal-same}
use Rattle.real_shares.proofs.Multiples.{chain, back, through, minus-equal, right}
use Rattle.real_shares.proofs.RealNumbers.{are_ordered}
use Rattle.real_shares.proofs.Sorted.{length-sorted}
use Rattle.law_real_worths.specs.Games.{NumberGame, excess_in, excess_list_in, HaveSameIn, IsUnbeatenIn}
use Rattle.law_real_worths.specs.Games.{IsNucleolusIn, CanHalve}
use Rattle.law_real_worths.specs.RealWorths.{UnbeatenIsNucleolus, IsUnitChange}
use Rattle.law_real_worths.proofs.CoreFirst.{length_in, not_both, same_amounts}
use Rattle.law_real_worths.proofs.EquivalentGames.{before_to, mapped_to}
use Rattle.law_real_worths.proofs.Halfway.{halfway, halfway_member, comes_first}
use Rattle.law_real_worths.proofs.RealsCanHalve.{can_halve}

module _ {C : Type 0} (N : Numbers C) (L : IsOrderedGroup N) where
  -- a list comes before another, or what comes before the other comes before it
  before_or_behind : (l k : List C) → length l ≡ length k
      → IsLesserBy N l k ⊎ ((m : List C) → IsLesserBy N m k → IsLesserBy N m l)
  before_or_behind [] [] e = inr (λ m h. h)
  before_or_behind [] (b ∷ k) e = absurd (omega arith)
  before_or_behind (a ∷ l) [] e = absurd (omega arith)
  before_or_behind (a ∷ l) (b ∷ k) e = elim (decided (N.at_most b a)) [
    | inr less ↦ inl (inl less)
    | inl ge ↦ elim (decided (N.at_most a b)) [
      | inr more ↦ inr (λ m h. greater ge more m h)
      | inl le ↦ elim (before_or_behind l k (omega arith)) [
        | inl first ↦ inl (inr ((le, ge), first))
        | inr behind ↦ inr (λ m h. equal le ge behind m h)
      ]
    ]
  ]
    where
      greater : AtMost N b a → (¬ AtMost N a b) → (m : List C) → IsLesserBy N m (b ∷ k) → IsLesserBy N m (a ∷ l)
      greater ge more [] h = absurd h
      greater ge more (c ∷ m) (inl less) = inl (λ le. less (through N L ge le))
      greater ge more (c ∷ m) (inr rest) = inl (λ le. more (through N L le rest.0.0))

      equal : AtMost N a b → AtMost N b a → ((m : List C) → IsLesserBy N m k → IsLesserBy N m l) → (m : List C)
          → IsLesserBy N m (b ∷ k) → IsLesserBy N m (a ∷ l)
      equal le ge behind [] h = absurd h
      equal le ge behind (c ∷ m) (inl less) = inl (λ low. less (through N L ge low))
      equal le ge behind (c ∷ m) (inr rest) = inr (chain N L rest.0 (ge, le), behind m rest.1)

  abbrev same_unit : IsUnitChange N (λ a. a) (λ a. a)
  same_unit = record {
    adds = λ a b. equal-same N L (N.plus a b);
    keeps = λ a b le. le;
    keeps_back = λ a b le. le;
    there = λ a. equal-same N L a;
    again = λ a. equal-same N L a;
  }

  module _ (g : NumberGame C) where
    lengths : (y z : List C)
        → length (sorted_by N (excess_list_in N g y)) ≡ length (sorted_by N (excess_list_in N g z))
    lengths y z =
        let ps = proper_coalitions g.players in
        length-sorted N L (excess_list_in N g y) ∙ length-map ps (excess_in N g y)
        ∙ sym (length-sorted N L (excess_list_in N g z) ∙ length-map ps (excess_in N g z))

    -- the same shares come before what they came before
    pub same_before : (y z : List C) → length y ≡ g.players → length z ≡ g.players → HaveSameIn N g y z
        → ComesBeforeBy N (sorted_by N (excess_list_in N g z)) (sorted_by N (excess_list_in N g y))
        → ComesBeforeBy N (sorted_by N (excess_list_in N g y)) (sorted_by N (excess_list_in N g z))
    same_before y z long too same before =
        let f = excess_in N g y in
        let h = excess_in N g z in
        let each : (s : ℕ) → Equal N (f s) (h s) =
        λ s. right N L (g.worth s) (minus-equal N L (same_amounts N L g y z s long too same)) in
        before_to N L (λ a. a) (λ a. a) same_unit (excess_list_in N g z) (excess_list_in N g y)
        (excess_list_in N g y) (excess_list_in N g z)
        (mapped_to N L (λ a. a) (λ a. a) same_unit h f 1 (2 ^ g.players - 2) each)
        (mapped_to N L (λ a. a) (λ a. a) same_unit f h 1 (2 ^ g.players - 2) (λ s. back N L (each s))) before

    pub to_unbeaten : (family : Family) (y : List C) → IsNucleolusIn N family g y → IsUnbeatenIn N family g y
    to_unbeaten family y is = (
      is.0,
      λ z member before.
          let l = excess_list_in N g y in
          let k = excess_list_in N g z in
          let long = length_in N L g family y is.0 in
          let too = length_in N L g family z member in
          let other : ¬ HaveSameIn N g y z =
          λ same. not_both N L g l k (same_before y z long too same before) before in
          not_both N L g l k (is.1 z member other) before,
    )

    pub from_unbeaten : CanHalve N → (family : Family) (y : List C) → IsUnbeatenIn N family g y
        → IsNucleolusIn N family g y
    from_unbeaten half family y (member, least) = (
      member,
      λ z hz other.
          let long = length_in N L g family y member in
          let too = length_in N L g family z hz in
          let m = halfway N L half g y z long too in
          let within = halfway_member N L half g y z long too family member hz in
          elim
          (before_or_behind (sorted_by N (excess_list_in N g y)) (sorted_by N (excess_list_in N g z)) (lengths y z)) [
            | inl first ↦ (lengths y z, first)
            | inr behind ↦ absurd
                (elim (comes_first N L half g y z long too family member hz other) [
                  | inl before ↦ least m within before
                  | inr before ↦ least m within (lengths m y, behind (sorted_by N (excess_list_in N g m)) before.1)
                ])
          ],
    )

pub unbeaten_is_nucleolus : UnbeatenIsNucleolus
unbeaten_is_nucleolus N family g y R =
    let L = are_ordered N R in
    (from_unbeaten N L g (can_halve N R) family y, to_unbeaten N L g family y)
