-- The trees of certificates and shares hold no number but integers of 64 bits, and their keys ascend.
use Rattle.std.proofs.Common.{ℕ, ◌<◌, Bool, List, [], ◌∷◌, map, refl, arith, ℤ}
use Rattle.std.proofs.Common.{pos, negsuc}
use Rattle.std.specs.List.{AllByRecursion}
use Rattle.serde_json.specs.Data.{Data}
use Rattle.serde_json.specs.View.{items_of}
use Rattle.definitions.specs.Coalitions.{members}
use Rattle.definitions.specs.Games.{Allocation}
use Rattle.definitions.specs.Certificates.{Level, IsSmall}
use Rattle.definitions.specs.declared.Family.{Family}
use Rattle.kohlberg.specs.Certificate.{CertificateData}
use Rattle.json_texts.specs.Exact.{IsExact, AreExact}
use Rattle.report.specs.Values.{player_data, player_numbers}
use Rattle.report.specs.Certificates.{weight_data, coalition_pair, bound_pair, coalition_pairs}
use Rattle.report.specs.Certificates.{bound_pairs, level_tree, certificate_tree}
use Rattle.report.specs.ShareLists.{share_data, share_list}
use Rattle.report.specs.Limits.{HasSmallWeights}
use Rattle.report.specs.Lines.{nucleolus_tree}
use Rattle.report.proofs.Lists.{members_below}
use Rattle.definitions.proofs.Alls.{all_any, all_weaken, all_both}

-- a level whose weights are small, and whose players are below 64
pub record IsPrintableLevel (l : Level) : Type 0 where
  pub small : HasSmallWeights l
  pub players : AllByRecursion (λ b. b.0 < 64) l.bounds

pub items_exact : {X : Type 0} (f : X → Data) (xs : List X) → AllByRecursion (λ x. IsExact (f x)) xs
    → AreExact (items_of (map f xs))
items_exact f [] h = tt
items_exact f (x ∷ xs) h = (h.0, items_exact f xs h.1)

coalition_exact : (s : ℕ) → IsExact (player_numbers s)
coalition_exact s =
    items_exact player_data (members 64 s)
    (all_weaken (λ i. i < 64) (λ i. IsExact (player_data i)) (members 64 s) (λ i lt. omega arith)
    (members_below 64 s).0)

weight_exact : (z : ℤ) → IsSmall z → IsExact (weight_data z)
weight_exact (pos n) h = omega arith
weight_exact (negsuc n) h = omega arith

coalition_pair_exact : (p : ℕ × ℤ) → IsSmall p.1 → IsExact (coalition_pair p)
coalition_pair_exact p h = (coalition_exact p.0, (weight_exact p.1 h, tt))

coalition_pairs_exact : (ps : List (ℕ × ℤ)) → AllByRecursion (λ p. IsSmall p.1) ps → IsExact (coalition_pairs ps)
coalition_pairs_exact ps h =
    items_exact coalition_pair ps
    (all_weaken (λ p. IsSmall p.1) (λ p. IsExact (coalition_pair p)) ps coalition_pair_exact h)

bound_pair_exact : (p : ℕ × ℤ) → IsSmall p.1 × (p.0 < 64) → IsExact (bound_pair p)
bound_pair_exact p h = let few = h.1 in (omega (arith, few), (weight_exact p.1 h.0, tt))

bound_pairs_exact : (ps : List (ℕ × ℤ)) → AllByRecursion (λ p. IsSmall p.1) ps → AllByRecursion (λ p. p.0 < 64) ps
    → IsExact (bound_pairs ps)
bound_pairs_exact ps h k =
    items_exact bound_pair ps
    (all_weaken (λ p. IsSmall p.1 × (p.0 < 64)) (λ p. IsExact (bound_pair p)) ps bound_pair_exact
    (all_both (λ p. IsSmall p.1) (λ p. p.0 < 64) ps h k))

level_exact : (k : ℕ) (l : Level) → IsPrintableLevel l → IsExact (level_tree k l)
level_exact k l h = (
  (refl, (refl, (refl, (refl, tt)))),
  bound_pairs_exact l.bounds h.small.bounds h.players,
  (
    (refl, (refl, (refl, tt))),
    coalition_pairs_exact l.coalitions h.small.coalitions,
    (
      (refl, (refl, tt)),
      coalition_pairs_exact l.earlier h.small.earlier,
      ((refl, tt), tt, (tt, weight_exact l.total h.small.total, tt)),
    ),
  ),
)

pub certificate_exact : (k : ℕ) (c : CertificateData) → AllByRecursion IsPrintableLevel c.levels
    → IsExact (certificate_tree k c)
certificate_exact k c h = (
  (refl, tt),
  items_exact (level_tree k) c.levels
      (all_weaken IsPrintableLevel (λ l. IsExact (level_tree k l)) c.levels (level_exact k) h),
  (tt, tt, tt),
)

pub shares_exact : (k : ℕ) (is_cost : Bool) (x : Allocation) → IsExact (share_list k is_cost x)
shares_exact k is_cost x =
    items_exact (share_data k is_cost x.den) x.shares
    (all_any (λ z. IsExact (share_data k is_cost x.den z)) x.shares (λ z. tt))

pub nucleolus_exact : (k : ℕ) (family : Family) (game : Data) (is_cost : Bool) (x : Allocation)
    (c : CertificateData) → AllByRecursion IsPrintableLevel c.levels → IsExact game
    → IsExact (nucleolus_tree k family game is_cost x c)
nucleolus_exact k family game is_cost x c h e = (
  (refl, (refl, (refl, tt))),
  tt,
  ((refl, (refl, tt)), certificate_exact k c h, ((refl, tt), e, (tt, shares_exact k is_cost x, tt))),
)
