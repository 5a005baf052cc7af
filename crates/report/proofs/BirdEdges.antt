-- The edges of Bird's plan hold no float, and are nested at most two deep.
use Rattle.std.proofs.Common.{◌≡◌, ◌≤◌, ℕ, nat_eq, List, Bool, true, false, ℤ, refl}
use Rattle.std.proofs.Common.{arith}
use Rattle.serde_json.specs.Data.{depth}
use Rattle.serde_json.specs.Written.{has_float}
use Rattle.definitions.proofs.Alls.{all_any}
use Rattle.report.specs.BirdTrees.{edge_cost_by, edge_tree, edge_list}
use Rattle.report.proofs.CertificateDepths.{items_shallow}
use Rattle.report.proofs.CertificateNumbers.{items_whole, weight_whole}

cost_whole : (b : Bool) (k : ℕ) (z : ℤ) → has_float (edge_cost_by b k z) ≡ false
cost_whole true k z = weight_whole z
cost_whole false k z = refl

cost_depth : (b : Bool) (k : ℕ) (z : ℤ) → depth (edge_cost_by b k z) ≤ 0
cost_depth true k z = omega arith
cost_depth false k z = omega arith

edge_whole : (k : ℕ) (e : ℕ × ℕ × ℤ) → has_float (edge_tree k e) ≡ false
edge_whole k e = rw (cost_whole (nat_eq k 1) k e.2) refl

pub edges_whole : (k : ℕ) (edges : List (ℕ × ℕ × ℤ)) → has_float (edge_list k edges) ≡ false
edges_whole k edges = items_whole (edge_tree k) edges (edge_whole k)

pub edges_depth : (k : ℕ) (edges : List (ℕ × ℕ × ℤ)) → depth (edge_list k edges) ≤ 2
edges_depth k edges =
    omega (
      arith,
      items_shallow (edge_tree k) 1 edges
          (all_any (λ e. depth (edge_tree k e) ≤ 1) edges (λ e. omega (arith, cost_depth (nat_eq k 1) k e.2))),
    )
