-- A game has at most one nucleolus in a family over numbers, and what it doesn't beat has its shares.
use Rattle.std.proofs.Common.{List, [], ◌∷◌, inl, inr}
use Rattle.definitions.specs.Games.{Game, Allocation, share}
use Rattle.definitions.specs.declared.Family.{Family}
use Rattle.definitions.specs.declared.Measure.{Measure}
use Rattle.real_shares.specs.Numbers.{Numbers, IsOrderedGroup, IsLesserBy, Equal, times}
use Rattle.real_shares.specs.Shares.{HaveSameShares, IsNucleolusAmong, number_of, InFamilyOver, BeatsOver, IsSameOver}
use Rattle.real_shares.specs.Shares.{IsNucleolusOver}
use Rattle.real_shares.proofs.Orders.{decided}

-- a member of the family over a group that the nucleolus doesn't beat has the same shares
pub unbeaten_is_same : {C : Type 0} (N : Numbers C) (family : Family) (measure : Measure) (g : Game)
    (x : Allocation) (y : List C) → IsNucleolusOver N family measure g x → InFamilyOver N family g y
    → (¬ BeatsOver N measure g x y) → IsSameOver N g x y
unbeaten_is_same N family measure g x y hx hy unbeaten i lt =
    let a = times N (share x i) N.unit in
    let b = times N x.den (number_of N y i) in
    let wrong : (¬ Equal N a b) → ⊥ = λ ne. unbeaten (hx.1 y hy (λ same. ne (same i lt))) in
    elim (decided (N.at_most a b)) [
      | inr h ↦ absurd (wrong (λ e. h e.0))
      | inl h ↦ elim (decided (N.at_most b a)) [ inr k ↦ absurd (wrong (λ e. k e.1)) | inl k ↦ (h, k) ]
    ]

pub not_both_over : {C : Type 0} (N : Numbers C) (l k : List C) → IsLesserBy N l k → IsLesserBy N k l → IsOrderedGroup N
    → ⊥
not_both_over N [] k h i L = absurd h
not_both_over N (a ∷ l) [] h i L = absurd h
not_both_over N (a ∷ l) (b ∷ k) (inl h) (inl i) L = elim (L.linear a b) [ inl e ↦ i e | inr e ↦ h e ]
not_both_over N (a ∷ l) (b ∷ k) (inl h) (inr i) L = h i.0.0
not_both_over N (a ∷ l) (b ∷ k) (inr h) (inl i) L = i h.0.0
not_both_over N (a ∷ l) (b ∷ k) (inr h) (inr i) L = not_both_over N l k h.1 i.1 L

pub one_among : {C : Type 0} (N : Numbers C) → IsOrderedGroup N
    → (family : Family) (measure : Measure) (g : Game) (y z : List C) → IsNucleolusAmong N family measure g y
    → IsNucleolusAmong N family measure g z → HaveSameShares N g y z
one_among N L family measure g y z hy hz i lt =
    let a = number_of N y i in
    let b = number_of N z i in
    let wrong : (¬ Equal N a b) → ⊥ = λ ne. not_both_over N _ _ (hy.1 z hz.0 (λ same. ne (same i lt))).1
    (hz.1 y hy.0 (λ same. ne ((same i lt).1, (same i lt).0))).1 L in
    elim (decided (N.at_most a b)) [
      | inr h ↦ absurd (wrong (λ e. h e.0))
      | inl h ↦ elim (decided (N.at_most b a)) [ inr k ↦ absurd (wrong (λ e. k e.1)) | inl k ↦ (h, k) ]
    ]
