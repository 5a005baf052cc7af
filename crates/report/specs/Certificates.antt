-- A certificate as JSON, each object's keys ascending.
--
--   weight_data        a weight, or a total
--   weight_pair        what has a weight, and its weight
--   coalition_pair     a coalition and its weight
--   bound_pair         a player and the weight of its bound
--   coalition_pairs    coalitions and their weights
--   bound_pairs        players and the weights of their bounds
--   excess_of          the excess of a level, as a fraction
--   level_tree         a level
--   certificate_tree   the levels, from the first, and the mode
use Rattle.std.specs.Prelude.{ℕ, ℤ, List, map, codes}
use Rattle.serde_json.specs.Data.{Data, number, string, array, object, item, no_items, member, no_members}
use Rattle.serde_json.specs.Find.{of_integer}
use Rattle.serde_json.specs.View.{items_of}
use Rattle.definitions.specs.Certificates.{Level}
use Rattle.fractions.specs.Fraction.{Fraction}
use Rattle.kohlberg.specs.Certificate.{CertificateData}
use Rattle.report.specs.Values.{scaled_data, player_data, player_numbers}
use Rattle.report.specs.Words.{mode_word}

abbrev pub weight_data : ℤ → Data
weight_data z = number (of_integer z)

abbrev pub weight_pair : {K : Type 0} → (K → Data) → K × ℤ → Data
weight_pair data_of p = array (item (data_of p.0) (item (weight_data p.1) no_items))

abbrev pub coalition_pair : ℕ × ℤ → Data
coalition_pair = weight_pair player_numbers

abbrev pub bound_pair : ℕ × ℤ → Data
bound_pair = weight_pair player_data

abbrev pub coalition_pairs : List (ℕ × ℤ) → Data
coalition_pairs ps = array (items_of (map coalition_pair ps))

abbrev pub bound_pairs : List (ℕ × ℤ) → Data
bound_pairs ps = array (items_of (map bound_pair ps))

abbrev pub excess_of : Level → Fraction
excess_of l = record { num = l.excess_num; den = l.excess_den }

-- a level, its excess over the scale k
abbrev pub level_tree : ℕ → Level → Data
level_tree k l =
    object
    (member (codes "bounds") (bound_pairs l.bounds)
    (member (codes "coalitions") (coalition_pairs l.coalitions)
    (member (codes "earlier") (coalition_pairs l.earlier)
    (member (codes "excess") (scaled_data k (excess_of l))
    (member (codes "total") (weight_data l.total) no_members)))))

abbrev pub certificate_tree : ℕ → CertificateData → Data
certificate_tree k c =
    object
    (member (codes "levels") (array (items_of (map (level_tree k) c.levels)))
    (member (codes "mode") (string (mode_word c.mode)) no_members))
