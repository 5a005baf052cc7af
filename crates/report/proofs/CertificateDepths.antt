-- How deep the trees of certificates and shares are nested.
use Rattle.std.proofs.Common.{ℕ, ◌≤◌, List, [], ◌∷◌, map, arith, ℤ, Bool}
use Rattle.std.specs.List.{AllByRecursion}
use Rattle.serde_json.specs.Data.{Data, depth, items_depth}
use Rattle.serde_json.specs.View.{items_of}
use Rattle.definitions.specs.Coalitions.{members}
use Rattle.definitions.specs.Games.{Allocation}
use Rattle.definitions.specs.Certificates.{Level}
use Rattle.definitions.specs.declared.Family.{Family}
use Rattle.kohlberg.specs.Certificate.{CertificateData}
use Rattle.report.specs.Values.{player_data, player_numbers}
use Rattle.report.specs.Certificates.{coalition_pair, bound_pair, coalition_pairs}
use Rattle.report.specs.Certificates.{bound_pairs, level_tree, certificate_tree}
use Rattle.report.specs.ShareLists.{share_data, share_list}
use Rattle.report.specs.Lines.{nucleolus_tree}
use Rattle.definitions.proofs.Alls.{all_any}

pub items_shallow : {X : Type 0} (f : X → Data) (b : ℕ) (xs : List X) → AllByRecursion (λ x. depth (f x) ≤ b) xs
    → items_depth (items_of (map f xs)) ≤ b
items_shallow f b [] h = omega arith
items_shallow f b (x ∷ xs) h = omega (arith, h.0, items_shallow f b xs h.1)

pub coalition_depth : (s : ℕ) → depth (player_numbers s) ≤ 1
coalition_depth s =
    omega (
      arith,
      items_shallow player_data 0 (members 64 s)
          (all_any (λ i. depth (player_data i) ≤ 0) (members 64 s) (λ i. omega arith)),
    )

pub pairs_depth : (ps : List (ℕ × ℤ)) → depth (coalition_pairs ps) ≤ 3
pairs_depth ps =
    omega (
      arith,
      items_shallow coalition_pair 2 ps
          (all_any (λ p. depth (coalition_pair p) ≤ 2) ps (λ p. omega (arith, coalition_depth p.0))),
    )

bounds_depth : (ps : List (ℕ × ℤ)) → depth (bound_pairs ps) ≤ 3
bounds_depth ps =
    omega (arith, items_shallow bound_pair 2 ps (all_any (λ p. depth (bound_pair p) ≤ 2) ps (λ p. omega arith)))

level_depth : (k : ℕ) (l : Level) → depth (level_tree k l) ≤ 4
level_depth k l = omega (arith, bounds_depth l.bounds, pairs_depth l.coalitions, pairs_depth l.earlier)

certificate_depth : (k : ℕ) (c : CertificateData) → depth (certificate_tree k c) ≤ 6
certificate_depth k c =
    omega (
      arith,
      items_shallow (level_tree k) 4 c.levels (all_any (λ l. depth (level_tree k l) ≤ 4) c.levels (level_depth k)),
    )

pub shares_depth : (k : ℕ) (is_cost : Bool) (x : Allocation) → depth (share_list k is_cost x) ≤ 1
shares_depth k is_cost x =
    omega (
      arith,
      items_shallow (share_data k is_cost x.den) 0 x.shares
          (all_any (λ z. depth (share_data k is_cost x.den z) ≤ 0) x.shares (λ z. omega arith)),
    )

pub nucleolus_depth : (k : ℕ) (family : Family) (game : Data) (is_cost : Bool) (x : Allocation)
    (c : CertificateData) → depth game ≤ 8 → depth (nucleolus_tree k family game is_cost x c) ≤ 9
nucleolus_depth k family game is_cost x c h = omega (arith, h, certificate_depth k c, shares_depth k is_cost x)
