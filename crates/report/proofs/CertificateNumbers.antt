-- The trees of certificates and shares hold no float.
use Rattle.std.proofs.Common.{◌≡◌, ℕ, List, [], ◌∷◌, Bool, false, map, refl, ℤ}
use Rattle.std.proofs.Common.{pos, negsuc}
use Rattle.serde_json.specs.Data.{Data}
use Rattle.serde_json.specs.View.{items_of}
use Rattle.serde_json.specs.Written.{has_float, items_have_float}
use Rattle.definitions.specs.Coalitions.{members}
use Rattle.definitions.specs.Games.{Allocation}
use Rattle.definitions.specs.Certificates.{Level}
use Rattle.definitions.specs.declared.Family.{Family}
use Rattle.kohlberg.specs.Certificate.{CertificateData}
use Rattle.report.specs.Values.{player_data, player_numbers}
use Rattle.report.specs.Certificates.{weight_data, coalition_pair, bound_pair, level_tree}
use Rattle.report.specs.ShareLists.{share_data, share_list}
use Rattle.balanced_collections.specs.Collections.{CollectionData}
use Rattle.report.specs.CoreTrees.{empty_core_tree}
use Rattle.report.specs.Lines.{nucleolus_tree}

pub items_whole : {X : Type 0} (f : X → Data) (xs : List X) → ((x : X) → has_float (f x) ≡ false)
    → items_have_float (items_of (map f xs)) ≡ false
items_whole f [] h = refl
items_whole f (x ∷ xs) h = rw (h x) (items_whole f xs h)

pub coalition_whole : (s : ℕ) → has_float (player_numbers s) ≡ false
coalition_whole s = items_whole player_data (members 64 s) (λ i. refl)

pub weight_whole : (z : ℤ) → has_float (weight_data z) ≡ false
weight_whole (pos n) = refl
weight_whole (negsuc n) = refl

coalition_pair_whole : (p : ℕ × ℤ) → has_float (coalition_pair p) ≡ false
coalition_pair_whole p = rw (coalition_whole p.0, weight_whole p.1) refl

bound_pair_whole : (p : ℕ × ℤ) → has_float (bound_pair p) ≡ false
bound_pair_whole p = rw (weight_whole p.1) refl

level_whole : (k : ℕ) (l : Level) → has_float (level_tree k l) ≡ false
level_whole k l =
    rw (
      items_whole bound_pair l.bounds bound_pair_whole,
      items_whole coalition_pair l.coalitions coalition_pair_whole,
      items_whole coalition_pair l.earlier coalition_pair_whole,
      weight_whole l.total,
    ) refl

pub shares_whole : (k : ℕ) (is_cost : Bool) (x : Allocation) → has_float (share_list k is_cost x) ≡ false
shares_whole k is_cost x = items_whole (share_data k is_cost x.den) x.shares (λ z. refl)

pub empty_core_whole : (k : ℕ) (c : CollectionData) (value against : ℤ)
    → has_float (empty_core_tree k c value against) ≡ false
empty_core_whole k c value against =
    rw (items_whole coalition_pair c.weights coalition_pair_whole, weight_whole c.k) refl

pub nucleolus_whole : (k : ℕ) (family : Family) (game : Data) (is_cost : Bool) (x : Allocation)
    (c : CertificateData) → has_float game ≡ false → has_float (nucleolus_tree k family game is_cost x c) ≡ false
nucleolus_whole k family game is_cost x c h =
    rw (items_whole (level_tree k) c.levels (level_whole k), h, shares_whole k is_cost x) refl
