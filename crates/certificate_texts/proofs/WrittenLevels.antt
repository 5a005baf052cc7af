-- A level is read if each of its parts is.
use Rattle.std.proofs.Common.{◌≡◌, ℕ, ℤ, pos, List, Option, Some, None, if◌then◌else◌, codes, map, refl}
use Rattle.std.proofs.Common.{◌∙◌}
use Rattle.std.specs.Prelude.{unwrap_or, option_and_then, option_map}
use Rattle.std.specs.List.{list_all}
use Rattle.std.proofs.lemmas.Bool.{and_from}
use Rattle.serde_json.specs.Data.{Data}
use Rattle.serde_json.specs.Find.{get}
use Rattle.definitions.specs.Certificates.{Level}
use Rattle.fractions.specs.Fraction.{Fraction}
use Rattle.json_trees.specs.Trees.{passes, parts_at, integer}
use Rattle.json_trees.specs.Integers.{is_integer}
use Rattle.json_trees.specs.ScaledFractions.{scaled_of, is_scaled, scaled_or_zero}
use Rattle.certificate_texts.specs.Levels.{weighted_coalition, weighted_player, level_of}
use Rattle.certificate_texts.specs.Certificates.{lists_coalition, lists_player, is_written}
use Rattle.json_trees.proofs.Readings.{some_if, was_read, of_some}

-- ---- what stands at a key

scaled_there : (k : ℕ) (o : Option Data)
    → option_and_then (scaled_of k) o
    ≡ (if passes (is_scaled k) o
    then Some (unwrap_or (option_map (scaled_or_zero k) o) (record { num = pos 0; den = pos 1 }))
    else None)
scaled_there k None = refl
scaled_there k (Some d) = of_some (scaled_of k d) (record { num = pos 0; den = pos 1 })

integer_there : (o : Option Data)
    → option_and_then integer o
    ≡ (if passes is_integer o then Some (unwrap_or (option_and_then integer o) (pos 0)) else None)
integer_there None = refl
integer_there (Some d) = of_some (integer d) (pos 0)

-- ---- a level

module _ (k n : ℕ) (d : Data) where
  abbrev pub level : Option Level
  level = if is_written k n d then Some (level_of k n d) else None

  abbrev pub coalitions : List ℕ → Option (List (ℕ × ℤ))
  coalitions key =
      if list_all (lists_coalition n) (parts_at key d) then Some (map (weighted_coalition n) (parts_at key d)) else None

  abbrev pub bounds : Option (List (ℕ × ℤ))
  bounds =
      if list_all (lists_player n) (parts_at (codes "bounds") d)
      then Some (map (weighted_player n) (parts_at (codes "bounds") d))
      else None

  pub level_read : (f : Fraction) (z : ℤ) (cs es bs : List (ℕ × ℤ))
      → Some f ≡ option_and_then (scaled_of k) (get (codes "excess") d)
      → Some z ≡ option_and_then integer (get (codes "total") d)
      → Some cs ≡ coalitions (codes "coalitions") → Some es ≡ coalitions (codes "earlier") → Some bs ≡ bounds
      → Some
      (record { excess_num = f.num; excess_den = f.den; coalitions = cs; earlier = es; bounds = bs; total = z })
      ≡ level
  level_read f z cs es bs excess total listed earlier players =
      let a = was_read _ _ f (excess ∙ scaled_there k (get (codes "excess") d)) in
      let b = was_read _ _ cs listed in
      let c = was_read _ _ es earlier in
      let e = was_read _ _ bs players in
      let g = was_read _ _ z (total ∙ integer_there (get (codes "total") d)) in
      some_if (is_written k n d) (level_of k n d) _
      (and_from _ _ (and_from _ _ (and_from _ _ (and_from _ _ a.0 b.0) c.0) e.0) g.0)
      (rw (a.1, b.1, c.1, e.1, g.1) refl)
