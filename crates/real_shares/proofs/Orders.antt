-- The order of a linearly ordered group.
use Rattle.std.proofs.Common.{◌⊎◌, Bool, true, false, refl, inl, inr, IsTrue}
use Rattle.std.proofs.lemmas.Bool.{false≢true}
use Rattle.real_shares.specs.Numbers.{Numbers, IsOrderedGroup, AtMost, Less, Equal}

pub decided : (b : Bool) → IsTrue b ⊎ (¬ IsTrue b)
decided true = inl refl
decided false = inr (λ e. false≢true e)

module _ {C : Type 0} (N : Numbers C) (L : IsOrderedGroup N) where
  pub at_most_or_less : (a b : C) → AtMost N a b ⊎ Less N b a
  at_most_or_less a b = decided (N.at_most a b)

  pub at_most-same : (a : C) → AtMost N a a
  at_most-same a = elim (L.linear a a) [ inl h ↦ h | inr h ↦ h ]

  pub from_less : (a b : C) → Less N a b → AtMost N a b
  from_less a b h = elim (L.linear a b) [ inl k ↦ k | inr k ↦ absurd (h k) ]

  pub equal-same : (a : C) → Equal N a a
  equal-same a = (at_most-same a, at_most-same a)

  pub equal-sym : (a b : C) → Equal N a b → Equal N b a
  equal-sym a b h = (h.1, h.0)

  pub equal-trans : (a b c : C) → Equal N a b → Equal N b c → Equal N a c
  equal-trans a b c h k = (L.transitive a b c h.0 k.0, L.transitive c b a k.1 h.1)
