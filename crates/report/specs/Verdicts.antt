-- What is printed for a verdict. Levels and players count from 1, reasons from 1 in the order in which conditions are
-- tested.
--
--   no_alone          a reason without a place
--   no_at_player      a reason with a player
--   no_at_coalition   a reason with a level and a coalition
--   no_at_level       a reason with a level and a player
--   no_above          a reason with a level and an excess
--   reason_tree       the first condition that fails
--   verdict_tree      yes, or no and why
use Rattle.std.specs.Prelude.{ℕ, codes}
use Rattle.serde_json.specs.Data.{Data, string, object, member, no_members}
use Rattle.fractions.specs.Fraction.{Fraction}
use Rattle.kohlberg.specs.declared.verdicts.Verdict.{Verdict}
use Rattle.kohlberg.specs.declared.verdicts.Verdict.TheVariants.{Yes, No}
use Rattle.kohlberg.specs.declared.verdicts.Place.TheVariants.{Coalition, Player}
use Rattle.kohlberg.specs.declared.verdicts.Reason.{Reason}
use Rattle.kohlberg.specs.declared.verdicts.Reason.TheVariants.{NotEfficient, NotIndividual, WrongExcess}
use Rattle.kohlberg.specs.declared.verdicts.Reason.TheVariants.{WeightSign, Unbalanced, BoundNotTight, OutsideAbove}
use Rattle.kohlberg.specs.declared.verdicts.Reason.TheVariants.{NotAll}
use Rattle.report.specs.Values.{scaled_data, count_data, player_data, player_numbers}

abbrev pub no_alone : ℕ → Data
no_alone reason =
    object (member (codes "answer") (string (codes "no")) (member (codes "reason") (count_data reason) no_members))

abbrev pub no_at_player : ℕ → ℕ → Data
no_at_player reason i =
    object
    (member (codes "answer") (string (codes "no"))
    (member (codes "player") (player_data i) (member (codes "reason") (count_data reason) no_members)))

abbrev pub no_at_coalition : ℕ → ℕ → ℕ → Data
no_at_coalition reason j s =
    object
    (member (codes "answer") (string (codes "no"))
    (member (codes "coalition") (player_numbers s)
    (member (codes "level") (count_data j) (member (codes "reason") (count_data reason) no_members))))

abbrev pub no_at_level : ℕ → ℕ → ℕ → Data
no_at_level reason j i =
    object
    (member (codes "answer") (string (codes "no"))
    (member (codes "level") (count_data j)
    (member (codes "player") (player_data i) (member (codes "reason") (count_data reason) no_members))))

-- a reason with a level and the greatest excess of a coalition outside, over the scale k
abbrev pub no_above : ℕ → ℕ → ℕ → Fraction → Data
no_above k reason j e =
    object
    (member (codes "answer") (string (codes "no"))
    (member (codes "excess") (scaled_data k e)
    (member (codes "level") (count_data j) (member (codes "reason") (count_data reason) no_members))))

abbrev pub reason_tree : ℕ → Reason → Data
reason_tree k NotEfficient = no_alone 1
reason_tree k (NotIndividual i) = no_at_player 2 i
reason_tree k (WrongExcess j s) = no_at_coalition 3 j s
reason_tree k (WeightSign j (Coalition s)) = no_at_coalition 4 j s
reason_tree k (WeightSign j (Player i)) = no_at_level 4 j i
reason_tree k (Unbalanced j i) = no_at_level 5 j i
reason_tree k (BoundNotTight j i) = no_at_level 6 j i
reason_tree k (OutsideAbove j e) = no_above k 7 j e
reason_tree k (NotAll i) = no_at_player 8 i

abbrev pub verdict_tree : ℕ → Verdict → Data
verdict_tree k Yes = object (member (codes "answer") (string (codes "yes")) no_members)
verdict_tree k (No r) = reason_tree k r
