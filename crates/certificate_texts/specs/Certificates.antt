-- The certificate that a document gives, and its form.
--
--   level_trees       the trees of the levels
--   levels_of         the levels, their excesses times the scale k
--   certificate_of    what the tree of a certificate describes, if no test refuses it
--   allows_mode       the mode is players, or there are at most 16 players
--   has_few_levels    there are fewer levels than players
--   lists_coalition   a pair lists a coalition with an integer
--   lists_player      a pair lists a player with an integer
--   is_written        the excess, the pairs and the total of a level can be read
--   have_form         each level has its form behind those in front
--   has_form          the form of a certificate for n players
use Rattle.std.specs.Prelude.{ℕ, codes, List, [], ◌∷◌, ◌++◌, length, map, Bool, true}
use Rattle.std.specs.Prelude.{false, ◌&&◌}
use Rattle.std.specs.Prelude.{Option, Some, None, is_some, unwrap_or, nat_lt, nat_le}
use Rattle.std.specs.List.{list_all}
use Rattle.serde_json.specs.Data.{Data}
use Rattle.serde_json.specs.Find.{get}
use Rattle.definitions.specs.Certificates.{Level}
use Rattle.definitions.specs.declared.Mode.{Mode}
use Rattle.definitions.specs.declared.Mode.TheVariants.{Players, Span}
use Rattle.kohlberg.specs.Certificate.{CertificateData}
use Rattle.kohlberg.specs.LevelTests.{level_form}
use Rattle.json_trees.specs.Trees.{parts, parts_at, passes, pair_members, second_passes}
use Rattle.json_trees.specs.Integers.{is_integer}
use Rattle.json_trees.specs.ScaledFractions.{is_scaled}
use Rattle.certificate_texts.specs.Shape.{mode_of}
use Rattle.certificate_texts.specs.Levels.{coalition_of, first_player, level_of}

abbrev pub level_trees : Data → List Data
level_trees certificate = parts_at (codes "levels") certificate

abbrev pub levels_of : ℕ → ℕ → Data → List Level
levels_of k n certificate = map (level_of k n) (level_trees certificate)

-- what the tree of a certificate for n players describes, its excesses times the scale k
abbrev pub certificate_of : ℕ → ℕ → Data → CertificateData
certificate_of k n certificate =
    record { players = n; mode = unwrap_or (mode_of certificate) Players; levels = levels_of k n certificate }

-- ---- the form

abbrev pub allows_mode : ℕ → Option Mode → Bool
allows_mode n None = false
allows_mode n (Some Players) = true
allows_mode n (Some Span) = nat_le n 16

abbrev pub has_few_levels : ℕ → Data → Bool
has_few_levels n certificate = nat_lt (length (level_trees certificate)) n

-- the players of the coalition are integers in 1..n that ascend strictly, and the weight is an integer
abbrev pub lists_coalition : ℕ → Data → Bool
lists_coalition n pair = is_some (coalition_of n (pair_members pair)) && second_passes is_integer (parts pair)

-- the player is an integer in 1..n, and the weight is an integer
abbrev pub lists_player : ℕ → Data → Bool
lists_player n pair = is_some (first_player n (parts pair)) && second_passes is_integer (parts pair)

-- the excess is a fraction text with parts of 128 bits, also times the scale k, coalitions and players are listed, and
-- the total is an integer
abbrev pub is_written : ℕ → ℕ → Data → Bool
is_written k n level =
    passes (is_scaled k) (get (codes "excess") level)
    && list_all (lists_coalition n) (parts_at (codes "coalitions") level)
    && list_all (lists_coalition n) (parts_at (codes "earlier") level)
    && list_all (lists_player n) (parts_at (codes "bounds") level)
    && passes is_integer (get (codes "total") level)

-- each level behind those in front has 1 to 65,536 coalitions and at most 65,536 earlier ones; coalitions are neither
-- empty nor all, earlier ones stand in the coalitions of a level in front; masks and players ascend strictly; weights
-- and totals are below 2^63 in size
abbrev pub have_form : ℕ → List Level → List Level → Bool
have_form n front [] = true
have_form n front (l ∷ levels) = level_form n front l && have_form n (front ++ l ∷ []) levels

-- the form of a certificate for n players, in a document with the scale k
abbrev pub has_form : ℕ → ℕ → Data → Bool
has_form k n certificate =
    allows_mode n (mode_of certificate) && has_few_levels n certificate
    && list_all (is_written k n) (level_trees certificate) && have_form n [] (levels_of k n certificate)
