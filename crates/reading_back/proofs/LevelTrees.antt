-- A level that was printed is read as that level.
use Rattle.std.proofs.Common.{◌≡◌, ℕ, ◌≤◌, Bool, true, ◌&&◌, List, Option, Some, ℤ}
use Rattle.std.proofs.Common.{pos, codes, refl, sym, ap, ◌∙◌}
use Rattle.std.specs.Prelude.{is_some, unwrap_or, option_and_then}
use Rattle.std.specs.List.{list_all, AllByRecursion}
use Rattle.std.proofs.lemmas.Bool.{and_from}
use Rattle.serde_json.specs.Find.{get}
use Rattle.definitions.specs.Certificates.{Level, IsSmall}
use Rattle.fractions.specs.Fraction.{Fraction}
use Rattle.json_trees.specs.Keys.{has_only_keys}
use Rattle.json_trees.specs.Trees.{passes, parts_at, is_number, is_text, is_array_of}
use Rattle.certificate_texts.specs.Shape.{level_keys}
use Rattle.certificate_texts.specs.Shape.{is_level, is_weighted_coalition, is_weighted_player}
use Rattle.json_trees.specs.LowestTerms.{over_scale, if_scaled}
use Rattle.json_trees.specs.ScaledFractions.{scaled_of, is_scaled}
use Rattle.json_trees.proofs.LowestTerms.{chosen_some}
use Rattle.certificate_texts.specs.Levels.{level_of, weighted_coalition, weighted_player}
use Rattle.json_trees.specs.Integers.{is_integer}
use Rattle.certificate_texts.specs.Certificates.{is_written, lists_coalition, lists_player}
use Rattle.report.specs.Certificates.{coalition_pair, bound_pair, excess_of, level_tree}
use Rattle.report.specs.Limits.{IsScale}
use Rattle.report.specs.Values.{scaled_data}
use Rattle.report.proofs.Readers.{scaled_fractions_read_back}
use Rattle.reading_back.specs.CertificatesReadBack.{HasLowestExcess}
use Rattle.reading_back.proofs.WeightTexts.{IsWeighted, IsBound, weight_read, coalition_pair_read}
use Rattle.reading_back.proofs.WeightTexts.{coalition_pair_listed, coalition_pair_shaped, bound_pair_read}
use Rattle.reading_back.proofs.WeightTexts.{bound_pair_listed, bound_pair_shaped, all_read, all_pass, every_pass}

-- what makes a level of n players one that is read back
pub record IsReadable (n : ℕ) (l : Level) : Type 0 where
  pub excess : HasLowestExcess l
  pub coalitions : AllByRecursion (IsWeighted n) l.coalitions
  pub earlier : AllByRecursion (IsWeighted n) l.earlier
  pub bounds : AllByRecursion (IsBound n) l.bounds
  pub total : IsSmall l.total

excess_read : (k : ℕ) (l : Level) → IsScale (pos k) → HasLowestExcess l
    → scaled_of k (scaled_data k (excess_of l)) ≡ Some (excess_of l)
excess_read k l s h =
    let back = scaled_fractions_read_back k (excess_of l) s h.reduced h.fits.0 h.fine in
    ap (option_and_then (if_scaled k)) back.0
    ∙ sym (chosen_some k (over_scale (pos k) (excess_of l)) (excess_of l) (sym back.1) h.fits.0)

-- ---- the level

abbrev level : Fraction → List (ℕ × ℤ) → List (ℕ × ℤ) → List (ℕ × ℤ) → ℤ → Level
level f cs es bs z =
    record { excess_num = f.num; excess_den = f.den; coalitions = cs; earlier = es; bounds = bs; total = z }

pub level_read : (k n : ℕ) → IsScale (pos k) → n ≤ 64 → (l : Level) → IsReadable n l
    → level_of k n (level_tree k l) ≡ l
level_read k n s m l h =
    let f =
    ap (λ (o : Option Fraction). unwrap_or o (record { num = pos 0; den = pos 1 }))
    (excess_read k l s h.excess) in
    let cs =
    all_read (IsWeighted n) coalition_pair (weighted_coalition n) (coalition_pair_read n m) l.coalitions
    h.coalitions in
    let es =
    all_read (IsWeighted n) coalition_pair (weighted_coalition n) (coalition_pair_read n m) l.earlier
    h.earlier in
    let bs = all_read (IsBound n) bound_pair (weighted_player n) (bound_pair_read n m) l.bounds h.bounds in
    let z = ap (λ (o : Option ℤ). unwrap_or o (pos 0)) (weight_read l.total h.total) in
    ap
    (λ g. level g (level_of k n (level_tree k l)).coalitions (level_of k n (level_tree k l)).earlier
    (level_of k n (level_tree k l)).bounds (level_of k n (level_tree k l)).total) f
    ∙ ap
    (λ ps. level (excess_of l) ps (level_of k n (level_tree k l)).earlier (level_of k n (level_tree k l)).bounds
    (level_of k n (level_tree k l)).total) cs
    ∙ ap
    (λ ps. level (excess_of l) l.coalitions ps (level_of k n (level_tree k l)).bounds
    (level_of k n (level_tree k l)).total) es
    ∙ ap (λ ps. level (excess_of l) l.coalitions l.earlier ps (level_of k n (level_tree k l)).total) bs
    ∙ ap (λ t. level (excess_of l) l.coalitions l.earlier l.bounds t) z

-- ---- its tests

five : (a b c d e : Bool) → a ≡ true → b ≡ true → c ≡ true → d ≡ true → e ≡ true → (a && b && c && d && e) ≡ true
five a b c d e p q r s t =
    and_from (a && b && c && d) e (and_from (a && b && c) d (and_from (a && b) c (and_from a b p q) r) s) t

pub level_written : (k n : ℕ) → IsScale (pos k) → n ≤ 64 → (l : Level) → IsReadable n l
    → is_written k n (level_tree k l) ≡ true
level_written k n s m l h =
    let d = level_tree k l in
    five (passes (is_scaled k) (get (codes "excess") d))
    (list_all (lists_coalition n) (parts_at (codes "coalitions") d))
    (list_all (lists_coalition n) (parts_at (codes "earlier") d))
    (list_all (lists_player n) (parts_at (codes "bounds") d)) (passes is_integer (get (codes "total") d))
    (ap is_some (excess_read k l s h.excess))
    (all_pass (IsWeighted n) coalition_pair (lists_coalition n) (coalition_pair_listed n m) l.coalitions
    h.coalitions)
    (all_pass (IsWeighted n) coalition_pair (lists_coalition n) (coalition_pair_listed n m) l.earlier h.earlier)
    (all_pass (IsBound n) bound_pair (lists_player n) (bound_pair_listed n m) l.bounds h.bounds)
    (ap is_some (weight_read l.total h.total))

pub level_shaped : (k : ℕ) (l : Level) → is_level (level_tree k l) ≡ true
level_shaped k l =
    let d = level_tree k l in
    and_from
    (has_only_keys level_keys d && passes (is_array_of is_weighted_player) (get (codes "bounds") d)
    && passes (is_array_of is_weighted_coalition) (get (codes "coalitions") d)
    && passes (is_array_of is_weighted_coalition) (get (codes "earlier") d)
    && passes is_text (get (codes "excess") d))
    (passes is_number (get (codes "total") d))
    (five (has_only_keys level_keys d) (passes (is_array_of is_weighted_player) (get (codes "bounds") d))
    (passes (is_array_of is_weighted_coalition) (get (codes "coalitions") d))
    (passes (is_array_of is_weighted_coalition) (get (codes "earlier") d))
    (passes is_text (get (codes "excess") d))
    refl
    (every_pass bound_pair is_weighted_player bound_pair_shaped l.bounds)
    (every_pass coalition_pair is_weighted_coalition coalition_pair_shaped l.coalitions)
    (every_pass coalition_pair is_weighted_coalition coalition_pair_shaped l.earlier)
    refl)
    refl
