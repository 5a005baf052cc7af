-- What is said of shares and the prekernel as JSON, each object's keys ascending.
--
--   prekernel_tree       the shares are in the prekernel
--   not_prekernel_tree   two players whose surpluses against each other differ, and both surpluses
use Rattle.std.specs.Prelude.{ℕ, codes}
use Rattle.serde_json.specs.Data.{Data, string, object, member, no_members}
use Rattle.fractions.specs.Fraction.{Fraction}
use Rattle.report.specs.Values.{scaled_data, player_data}

abbrev pub prekernel_tree : Data
prekernel_tree = object (member (codes "answer") (string (codes "prekernel")) no_members)

-- the two players, the surplus of i against j, and that of j against i
abbrev pub not_prekernel_tree : ℕ → ℕ → ℕ → Fraction → Fraction → Data
not_prekernel_tree k i j ij ji =
    object
    (member (codes "answer") (string (codes "not prekernel"))
    (member (codes "i") (player_data i)
    (member (codes "ij") (scaled_data k ij)
    (member (codes "j") (player_data j)
    (member (codes "ji") (scaled_data k ji) no_members)))))
