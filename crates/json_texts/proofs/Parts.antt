-- A member of an object that is ordered.
use Rattle.std.proofs.Common.{◌≡◌, ℕ, ◌+◌, ◌≤◌, List, Option, Some, None, Ordering}
use Rattle.std.proofs.Common.{Less, Equal, Greater, subst, arith}
use Rattle.std.specs.Prelude.{⊤}
use Rattle.std.specs.Ordering.{nat_cmp, match_ordering}
use Rattle.std.specs.Cmp.Lexicographic.{slice_cmp}
use Rattle.serde_json.specs.Data.{Data, null, boolean, number, string, array, object, Members}
use Rattle.serde_json.specs.Data.{no_members, member, depth, members_depth}
use Rattle.serde_json.specs.Find.{get, get_member}
use Rattle.serde_json.specs.Written.{members_outline}
use Rattle.json_texts.specs.Exact.{IsOrdered, HasOrdered, IsPartOf}
use Rattle.json_texts.proofs.Weights.{members_weight}
use Rattle.json_texts.proofs.Lighter.{data_weight, length-compact_text}

-- what holds of a member among members
record Among (ms : Members) (d : Data) : Type 0 where
  ordered : IsOrdered d
  shallow : depth d ≤ members_depth ms
  light : data_weight d + 2 ≤ members_weight (members_outline ms)

abbrev IfAmong : Members → Option Data → Type 0
IfAmong ms None = ⊤
IfAmong ms (Some d) = Among ms d

later : (k : List ℕ) (d : Data) (ms : Members) (o : Option Data) → IfAmong ms o → IfAmong (member k d ms) o
later k d ms None h = tt
later k d ms (Some e) h =
    record { ordered = h.ordered; shallow = omega (arith, h.shallow); light = omega (arith, h.light) }

at : (o : Ordering) (ms : Members) (a b : Option Data) → IfAmong ms a → IfAmong ms b
    → IfAmong ms (match_ordering o a b a)
at Less ms a b p q = p
at Equal ms a b p q = q
at Greater ms a b p q = p

among : (k : List ℕ) (ms : Members) → HasOrdered ms → IfAmong ms (get_member k ms)
among k no_members h = tt
among k (member l e ms) h =
    at (slice_cmp nat_cmp k l) (member l e ms) (get_member k ms) (Some e)
    (later l e ms (get_member k ms) (among k ms h.2))
    (record { ordered = h.1; shallow = omega arith; light = omega arith })

none_is_not_some : {P : Type 0} (d : Data) → None ≡ Some d → P
none_is_not_some d e = absurd (cc)

pub member_keeps : (k : List ℕ) (d e : Data) → IsOrdered e → get k e ≡ Some d → IsPartOf d e
member_keeps k d null h e = none_is_not_some d e
member_keeps k d (boolean b) h e = none_is_not_some d e
member_keeps k d (number n) h e = none_is_not_some d e
member_keeps k d (string s) h e = none_is_not_some d e
member_keeps k d (array ds) h e = none_is_not_some d e
member_keeps k d (object ms) h e =
    let a : Among ms d = subst (IfAmong ms) e (among k ms h) in
    record {
      ordered = a.ordered;
      shallower = omega (arith, a.shallow);
      shorter = omega (arith, a.light, length-compact_text d, length-compact_text (object ms));
    }
