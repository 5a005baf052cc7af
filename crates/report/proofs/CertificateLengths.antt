-- How long the texts of certificates and shares are.
--
-- Levels, entries and digits are counted (`nucleoli_are_short`).
use Rattle.std.proofs.Common.{◌≡◌, ℕ, ◌+◌, ◌*◌, ◌^◌, ◌<◌, ◌≤◌, Bool, true, false}
use Rattle.std.proofs.Common.{cond, List, [], ◌∷◌, length}
use Rattle.std.proofs.Common.{map, codes, ℤ, pos, negsuc, unsigned_abs, arith, length-append}
use Rattle.std.specs.Fmt.{signed_decimal}
use Rattle.std.specs.Ordering.{int_eq}
use Rattle.std.specs.List.{AllByRecursion}
use Rattle.std.proofs.lemmas.Fmt.{length-decimal-le_wide}
use Rattle.serde_json.specs.Data.{Data, string, array, member, no_members}
use Rattle.serde_json.specs.View.{items_of}
use Rattle.serde_json.specs.Written.{compact_text}
use Rattle.definitions.specs.Coalitions.{members}
use Rattle.definitions.specs.Games.{Allocation}
use Rattle.definitions.specs.Certificates.{Level, IsSmall}
use Rattle.definitions.specs.declared.Family.{Family}
use Rattle.definitions.specs.declared.Family.TheVariants.{Imputations, Preimputations}
use Rattle.definitions.specs.declared.Mode.{Mode}
use Rattle.definitions.specs.declared.Mode.TheVariants.{Players, Span}
use Rattle.fractions.specs.Fraction.{Fraction}
use Rattle.fractions.specs.FractionTexts.{is_i128, fraction_text}
use Rattle.kohlberg.specs.Certificate.{CertificateData}
use Rattle.json_trees.specs.LowestTerms.{over_scale}
use Rattle.report.specs.Values.{fraction_data, scaled_data, player_data, player_numbers}
use Rattle.report.specs.Words.{family_word, mode_word}
use Rattle.report.specs.Certificates.{weight_data, coalition_pair, bound_pair, coalition_pairs}
use Rattle.report.specs.Certificates.{bound_pairs, excess_of, level_tree, certificate_tree}
use Rattle.report.specs.ShareLists.{share_data, share_list}
use Rattle.report.specs.ReadingBack.{IsReadBack, SharesAreReadBack}
use Rattle.report.specs.Lines.{nucleolus_tree}
use Rattle.report.proofs.AsciiFractions.{numbers_fit}
use Rattle.report.proofs.ExactTrees.{IsPrintableLevel}
use Rattle.report.proofs.Lengths.{quoted_length, member_length, array_length, pair_length, signed_length}
use Rattle.report.proofs.Lists.{members_below}
use Rattle.definitions.proofs.Cases.{from_nat_lt}
use Rattle.definitions.proofs.Alls.{all_weaken, all_both}

-- ---- fractions

fitting : (z : ℤ) → is_i128 z ≡ true → unsigned_abs z ≤ 2 ^ 127
fitting (pos n) h = omega (arith, from_nat_lt n (2 ^ 127) h)
fitting (negsuc n) h = omega (arith, from_nat_lt n (2 ^ 127) h)

number_length : (z : ℤ) → is_i128 z ≡ true → length (signed_decimal z) ≤ 40
number_length z h = signed_length 39 z (omega arith) (omega (arith, fitting z h)) (omega (arith, fitting z h))

denominator_length : (d : ℤ) (b : Bool) → is_i128 d ≡ true → length (cond b [] (47 ∷ signed_decimal d)) ≤ 41
denominator_length d true h = omega arith
denominator_length d false h = omega (arith, number_length d h)

fraction_length : (f : Fraction) → IsReadBack f → length (compact_text (fraction_data f)) ≤ 488
fraction_length f h =
    let small = numbers_fit (fraction_text f) f h in
    omega (
      arith,
      quoted_length (fraction_text f),
      length-append (signed_decimal f.num) (cond (int_eq f.den (pos 1)) [] (47 ∷ signed_decimal f.den)),
      number_length f.num small.0,
      denominator_length f.den (int_eq f.den (pos 1)) small.1,
    )

-- ---- pairs

player_length : (i : ℕ) → i < 64 → length (compact_text (player_data i)) ≤ 2
player_length i h = length-decimal-le_wide 2 (i + 1) (omega arith) (omega arith) (omega arith)

coalition_length : (s : ℕ) → length (compact_text (player_numbers s)) ≤ 194
coalition_length s =
    let few = members_below 64 s in
    omega (
      arith,
      few.1,
      array_length player_data 2 (members 64 s)
          (all_weaken (λ i. i < 64) (λ i. length (compact_text (player_data i)) ≤ 2) (members 64 s) player_length
          few.0),
    )

weight_length : (z : ℤ) → IsSmall z → length (compact_text (weight_data z)) ≤ 20
weight_length (pos n) h = omega (arith, length-decimal-le_wide 19 n (omega arith) (omega arith) (omega arith))
weight_length (negsuc n) h = signed_length 19 (negsuc n) (omega arith) (omega arith) (omega arith)

coalition_pair_length : (p : ℕ × ℤ) → IsSmall p.1 → length (compact_text (coalition_pair p)) ≤ 218
coalition_pair_length p h =
    omega (arith, pair_length (player_numbers p.0) (weight_data p.1), coalition_length p.0, weight_length p.1 h)

bound_pair_length : (p : ℕ × ℤ) → IsSmall p.1 × (p.0 < 64) → length (compact_text (bound_pair p)) ≤ 218
bound_pair_length p h =
    omega (arith, pair_length (player_data p.0) (weight_data p.1), player_length p.0 h.1, weight_length p.1 h.0)

coalition_pairs_length : (ps : List (ℕ × ℤ)) → AllByRecursion (λ p. IsSmall p.1) ps
    → length (compact_text (coalition_pairs ps)) ≤ length ps * 219 + 2
coalition_pairs_length ps h =
    array_length coalition_pair 218 ps
    (all_weaken (λ p. IsSmall p.1) (λ p. length (compact_text (coalition_pair p)) ≤ 218) ps coalition_pair_length h)

bound_pairs_length : (ps : List (ℕ × ℤ)) → AllByRecursion (λ p. IsSmall p.1) ps → AllByRecursion (λ p. p.0 < 64) ps
    → length (compact_text (bound_pairs ps)) ≤ length ps * 219 + 2
bound_pairs_length ps h k =
    array_length bound_pair 218 ps
    (all_weaken (λ p. IsSmall p.1 × (p.0 < 64)) (λ p. length (compact_text (bound_pair p)) ≤ 218) ps
    bound_pair_length (all_both (λ p. IsSmall p.1) (λ p. p.0 < 64) ps h k))

-- ---- levels

-- what can be printed of a level in few bytes
pub record IsShortLevel (k : ℕ) (l : Level) : Type 0 where
  pub printable : IsPrintableLevel l
  pub excess : IsReadBack (over_scale (pos k) (excess_of l))
  pub few : length l.coalitions + length l.earlier + length l.bounds ≤ 128

level_length : (k : ℕ) (l : Level) → IsShortLevel k l → length (compact_text (level_tree k l)) ≤ 28772
level_length k l h =
    let small = h.printable.small in
    let total = member (codes "total") (weight_data l.total) no_members in
    let excess = member (codes "excess") (scaled_data k (excess_of l)) total in
    let earlier = member (codes "earlier") (coalition_pairs l.earlier) excess in
    let coalitions = member (codes "coalitions") (coalition_pairs l.coalitions) earlier in
    omega (
      arith,
      h.few,
      bound_pairs_length l.bounds small.bounds h.printable.players,
      coalition_pairs_length l.coalitions small.coalitions,
      coalition_pairs_length l.earlier small.earlier,
      fraction_length (over_scale (pos k) (excess_of l)) h.excess,
      weight_length l.total small.total,
      member_length false (codes "bounds") (bound_pairs l.bounds) coalitions,
      member_length true (codes "coalitions") (coalition_pairs l.coalitions) earlier,
      member_length true (codes "earlier") (coalition_pairs l.earlier) excess,
      member_length true (codes "excess") (scaled_data k (excess_of l)) total,
      member_length true (codes "total") (weight_data l.total) no_members,
    )

mode_length : (m : Mode) → length (compact_text (string (mode_word m))) ≤ 44
mode_length Players = quoted_length (codes "players")
mode_length Span = omega (arith, quoted_length (codes "span"))

family_length : (f : Family) → length (compact_text (string (family_word f))) ≤ 74
family_length Imputations = omega (arith, quoted_length (codes "nucleolus"))
family_length Preimputations = quoted_length (codes "prenucleolus")

certificate_length : (k : ℕ) (c : CertificateData) → length c.levels ≤ 63 → AllByRecursion (IsShortLevel k) c.levels
    → length (compact_text (certificate_tree k c)) ≤ 1812815
certificate_length k c few h =
    let levels = array (items_of (map (level_tree k) c.levels)) in
    let mode = member (codes "mode") (string (mode_word c.mode)) no_members in
    omega (
      arith,
      few,
      array_length (level_tree k) 28772 c.levels
          (all_weaken (IsShortLevel k) (λ l. length (compact_text (level_tree k l)) ≤ 28772) c.levels (level_length k)
          h),
      mode_length c.mode,
      member_length false (codes "levels") levels mode,
      member_length true (codes "mode") (string (mode_word c.mode)) no_members,
    )

shares_length : (k : ℕ) (is_cost : Bool) (x : Allocation) → length x.shares ≤ 64 → SharesAreReadBack k is_cost x
    → length (compact_text (share_list k is_cost x)) ≤ 31298
shares_length k is_cost x few h =
    omega (
      arith,
      few,
      array_length (share_data k is_cost x.den) 488 x.shares
          (all_weaken _ (λ z. length (compact_text (share_data k is_cost x.den z)) ≤ 488) x.shares
          (λ z r. fraction_length _ r) h),
    )

pub nucleolus_length : (k : ℕ) (family : Family) (game : Data) (is_cost : Bool) (x : Allocation)
    (c : CertificateData) → length c.levels ≤ 63 → length x.shares ≤ 64 → AllByRecursion (IsShortLevel k) c.levels
    → SharesAreReadBack k is_cost x
    → length (compact_text (nucleolus_tree k family game is_cost x c)) ≤ length (compact_text game) + 2 ^ 21
nucleolus_length k family game is_cost x c levels shares h r =
    let list = member (codes "shares") (share_list k is_cost x) no_members in
    let games = member (codes "game") game list in
    let certificates = member (codes "certificate") (certificate_tree k c) games in
    omega (
      arith,
      family_length family,
      certificate_length k c levels h,
      shares_length k is_cost x shares r,
      member_length false (codes "answer") (string (family_word family)) certificates,
      member_length true (codes "certificate") (certificate_tree k c) games,
      member_length true (codes "game") game list,
      member_length true (codes "shares") (share_list k is_cost x) no_members,
    )
