-- After the tests of what is written, the tests of a certificate's form decide the form of its levels.
use Rattle.std.proofs.Common.{◌≡◌, ℕ, ◌+◌, ◌≤◌, true, ◌&&◌, nat_le, if◌then◌else◌}
use Rattle.std.proofs.Common.{List, [], ◌∷◌, ◌++◌}
use Rattle.std.proofs.Common.{map, length, Some, None, pos, ◌≤ℤ◌, codes, refl, sym, ap}
use Rattle.std.proofs.Common.{◌∙◌, inl, inr, arith}
use Rattle.std.specs.Prelude.{unwrap_or, ◌⊎◌}
use Rattle.std.specs.Bool.{Decides}
use Rattle.std.specs.List.{list_all}
use Rattle.std.proofs.lemmas.Bool.{and_parts, and_from, ltb-true, leb-true, le-leb, lt-ltb}
use Rattle.std.proofs.lemmas.Bool.Decides.{Decides-and}
use Rattle.std.proofs.lemmas.List.{length-map}
use Rattle.serde_json.specs.Data.{Data}
use Rattle.definitions.specs.Certificates.{Level, LevelsForm, HasForm}
use Rattle.definitions.specs.declared.Mode.{Mode}
use Rattle.definitions.specs.declared.Mode.TheVariants.{Players, Span}
use Rattle.kohlberg.specs.Certificate.{CertificateData}
use Rattle.kohlberg.specs.LevelTests.{level_form}
use Rattle.kohlberg.proofs.Forms.{Decides-level_form}
use Rattle.json_trees.proofs.Fractions.{scaled_at_reduced}
use Rattle.certificate_texts.specs.Shape.{mode_of}
use Rattle.certificate_texts.specs.Levels.{level_of}
use Rattle.certificate_texts.specs.Certificates.{level_trees, levels_of, certificate_of, allows_mode}
use Rattle.certificate_texts.specs.Certificates.{has_few_levels, is_written, have_form, has_form}
use Rattle.json_trees.proofs.Readings.{none_if, some_if}

level_positive : (k n : ℕ) (d : Data) → pos 1 ≤ℤ (level_of k n d).excess_den
level_positive k n d = (scaled_at_reduced k (codes "excess") d).positive

decides_levels : (k n : ℕ) (front : List Level) (ds : List Data)
    → Decides (have_form n front (map (level_of k n) ds)) (LevelsForm n front (map (level_of k n) ds))
decides_levels k n front [] = (λ h. tt, λ h. refl)
decides_levels k n front (d ∷ ds) =
    Decides-and (level_form n front (level_of k n d))
    (have_form n (front ++ level_of k n d ∷ []) (map (level_of k n) ds))
    (Decides-level_form n front (level_of k n d) (level_positive k n d))
    (decides_levels k n (front ++ level_of k n d ∷ []) ds)

few_for_span : (n : ℕ) → (Span ≡ Players) ⊎ (n ≤ 16) → nat_le n 16 ≡ true
few_for_span n (inl e) = absurd (cc e)
few_for_span n (inr h) = le-leb n 16 h

decides_mode : (n : ℕ) (m : Mode) → Decides (allows_mode n (Some m)) ((m ≡ Players) ⊎ (n ≤ 16))
decides_mode n Players = (λ h. inl refl, λ h. refl)
decides_mode n Span = (λ h. inr (leb-true n 16 h), few_for_span n)

few_levels : (k n : ℕ) (c : Data) → has_few_levels n c ≡ true → length (levels_of k n c) + 1 ≤ n
few_levels k n c h =
    let long = length-map (level_trees c) (level_of k n) in
    let below = ltb-true (length (level_trees c)) n h in
    omega (arith, long, below)

from_few_levels : (k n : ℕ) (c : Data) → length (levels_of k n c) + 1 ≤ n → has_few_levels n c ≡ true
from_few_levels k n c h =
    let long = length-map (level_trees c) (level_of k n) in
    lt-ltb (length (level_trees c)) n (omega (arith, long, h))

module _ (k n : ℕ) (m : Mode) (c : Data) (named : mode_of c ≡ Some m) where
  pub form_holds : has_form k n c ≡ true → HasForm m n (levels_of k n c)
  form_holds h =
      let a =
      and_parts (allows_mode n (mode_of c) && has_few_levels n c && list_all (is_written k n) (level_trees c))
      (have_form n [] (levels_of k n c)) h in
      let b =
      and_parts (allows_mode n (mode_of c) && has_few_levels n c) (list_all (is_written k n) (level_trees c))
      a.0 in
      let d = and_parts (allows_mode n (mode_of c)) (has_few_levels n c) b.0 in
      record {
        players = (decides_mode n m).0 (ap (allows_mode n) (sym named) ∙ d.0);
        few = few_levels k n c d.1;
        each = (decides_levels k n [] (level_trees c)).0 a.1;
      }

  pub form_passes : list_all (is_written k n) (level_trees c) ≡ true → HasForm m n (levels_of k n c)
      → has_form k n c ≡ true
  form_passes w f =
      and_from (allows_mode n (mode_of c) && has_few_levels n c && list_all (is_written k n) (level_trees c))
      (have_form n [] (levels_of k n c))
      (and_from (allows_mode n (mode_of c) && has_few_levels n c) (list_all (is_written k n) (level_trees c))
      (and_from (allows_mode n (mode_of c)) (has_few_levels n c)
      (ap (allows_mode n) named ∙ (decides_mode n m).1 f.players) (from_few_levels k n c f.few)) w)
      ((decides_levels k n [] (level_trees c)).1 f.each)

  pub formed : (x : CertificateData) → list_all (is_written k n) (level_trees c) ≡ true
      → x ≡ record { players = n; mode = m; levels = levels_of k n c } → HasForm m n (levels_of k n c)
      → Some x ≡ (if has_form k n c then Some (certificate_of k n c) else None)
  formed x w e f =
      some_if (has_form k n c) (certificate_of k n c) x (form_passes w f)
      (e ∙ ap (λ o. record { players = n; mode = unwrap_or o Players; levels = levels_of k n c }) (sym named))

  pub malformed : ¬ HasForm m n (levels_of k n c)
      → None ≡ (if has_form k n c then Some (certificate_of k n c) else None)
  malformed h = none_if (has_form k n c) (certificate_of k n c) (λ e. h (form_holds e))
