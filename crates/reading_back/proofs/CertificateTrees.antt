-- A certificate that was printed is read as that certificate.
use Rattle.std.proofs.Common.{◌≡◌, ℕ, ◌^◌, ◌<◌, ◌≤◌, Bool, true, false, ◌&&◌, ◌||◌}
use Rattle.std.proofs.Common.{nat_eq, IsTrue, List, [], ◌∷◌}
use Rattle.std.proofs.Common.{◌++◌, Option, Some, ℤ, pos, codes, refl, sym, ap, subst}
use Rattle.std.proofs.Common.{◌∙◌, arith}
use Rattle.std.specs.Prelude.{is_some, unwrap_or}
use Rattle.std.specs.List.{list_any, AllByRecursion}
use Rattle.std.proofs.lemmas.Bool.{false≢true, and_from, eqb-true}
use Rattle.serde_json.specs.Find.{get}
use Rattle.definitions.specs.Certificates.{Level, is_listed, IsSmall, LevelForm, LevelsForm, HasForm}
use Rattle.definitions.specs.Coalitions.{grand_coalition}
use Rattle.definitions.specs.declared.Mode.{Mode}
use Rattle.definitions.specs.declared.Mode.TheVariants.{Players, Span}
use Rattle.kohlberg.specs.Certificate.{CertificateData, IsCertificate}
use Rattle.json_trees.specs.Keys.{has_only_keys}
use Rattle.json_trees.specs.Trees.{passes, is_array_of}
use Rattle.certificate_texts.specs.Shape.{certificate_keys}
use Rattle.certificate_texts.specs.Shape.{mode_of, is_level, is_certificate}
use Rattle.certificate_texts.specs.Certificates.{levels_of, is_written}
use Rattle.certificate_texts.specs.Levels.{level_of}
use Rattle.certificate_texts.proofs.FormTests.{form_passes}
use Rattle.report.specs.Limits.{IsScale}
use Rattle.report.specs.Certificates.{level_tree, certificate_tree}
use Rattle.reading_back.specs.CertificatesReadBack.{HasLowestExcess, AreInLowestTerms, IsReadAs}
use Rattle.reading_back.proofs.WeightTexts.{IsWeighted, IsBound, all_read, all_pass, every_pass}
use Rattle.reading_back.proofs.LevelTrees.{IsReadable, level_read, level_written, level_shaped}
use Rattle.definitions.proofs.Alls.{all_with, all_join, all_left, all_right}
use Rattle.definitions.proofs.Masks.{proper-within}

-- ---- the coalitions of the levels in front are coalitions of n players

abbrev HasPlayers : ℕ → Level → Type 0
HasPlayers n l = AllByRecursion (λ c. c.0 < 2 ^ n) l.coalitions

either : {P : Type 0} (a b : Bool) → IsTrue (a || b) → (IsTrue a → P) → (IsTrue b → P) → P
either true b h f g = f h
either false b h f g = g h

found_in : (n s : ℕ) (cs : List (ℕ × ℤ)) → AllByRecursion (λ c. c.0 < 2 ^ n) cs
    → IsTrue (list_any (λ c. nat_eq c.0 s) cs) → s < 2 ^ n
found_in n s [] h l = absurd (false≢true l)
found_in n s (c ∷ cs) h l =
    either (nat_eq c.0 s) (list_any (λ c. nat_eq c.0 s) cs) l
    (λ e. subst (λ k. k < 2 ^ n) (eqb-true c.0 s e) h.0) (found_in n s cs h.1)

listed_below : (n s : ℕ) (front : List Level) → AllByRecursion (HasPlayers n) front → IsTrue (is_listed front s)
    → s < 2 ^ n
listed_below n s [] h l = absurd (false≢true l)
listed_below n s (f ∷ front) h l =
    either (list_any (λ c. nat_eq c.0 s) f.coalitions)
    (list_any (λ l. list_any (λ c. nat_eq c.0 s) l.coalitions) front) l
    (found_in n s f.coalitions h.0) (listed_below n s front h.1)

-- ---- each level is readable

abbrev AreSmall : List (ℕ × ℤ) → Type 0
AreSmall ps = AllByRecursion (λ p. IsSmall p.1) ps

below_all : (n k : ℕ) → k < grand_coalition n → k < 2 ^ n
below_all n k h = omega arith

readable : (n : ℕ) (front : List Level) (l : Level) → AllByRecursion (HasPlayers n) front → LevelForm n front l
    → HasLowestExcess l → IsReadable n l
readable n front l h f e =
    let front_small = all_left (λ p. IsSmall p.1) (l.coalitions ++ l.earlier) l.bounds f.small in
    let small : AreSmall l.coalitions = all_left (λ p. IsSmall p.1) l.coalitions l.earlier front_small in
    let earlier_small : AreSmall l.earlier = all_right (λ p. IsSmall p.1) l.coalitions l.earlier front_small in
    let bounds_small : AreSmall l.bounds =
    all_right (λ p. IsSmall p.1) (l.coalitions ++ l.earlier) l.bounds f.small in
    record {
      excess = e;
      coalitions =
          all_with (λ c. c.0 < 2 ^ n) (λ p. IsSmall p.1) (IsWeighted n) l.coalitions (λ c a b. (a, b))
          (proper-within n l.coalitions f.proper) small;
      earlier =
          all_with (λ c. IsTrue (is_listed front c.0)) (λ p. IsSmall p.1) (IsWeighted n) l.earlier
          (λ c a b. (listed_below n c.0 front h a, b)) f.listed earlier_small;
      bounds =
          all_with (λ b. b.0 < n) (λ p. IsSmall p.1) (IsBound n) l.bounds (λ c a b. (a, b)) f.players bounds_small;
      total = f.total_small;
    }

all_readable : (n : ℕ) (front levels : List Level) → AllByRecursion (HasPlayers n) front → LevelsForm n front levels
    → AreInLowestTerms levels → AllByRecursion (IsReadable n) levels
all_readable n front [] h f e = tt
all_readable n front (l ∷ levels) h f e = (
  readable n front l h f.0 e.0,
  all_readable n (front ++ l ∷ []) levels
      (all_join (HasPlayers n) front (l ∷ []) h (proper-within n l.coalitions f.0.proper, tt)) f.1 e.1,
)

-- ---- the certificate

mode_read : (k : ℕ) (c : CertificateData) → mode_of (certificate_tree k c) ≡ Some c.mode
mode_read k c = named c.mode
  where
    named : (m : Mode) → mode_of (certificate_tree k (record { players = 0; mode = m; levels = [] })) ≡ Some m
    named Players = refl
    named Span = refl

levels_read : (k : ℕ) (c : CertificateData) → IsScale (pos k) → c.players ≤ 64
    → AllByRecursion (IsReadable c.players) c.levels → levels_of k c.players (certificate_tree k c) ≡ c.levels
levels_read k c s m h =
    all_read (IsReadable c.players) (level_tree k) (level_of k c.players) (level_read k c.players s m) c.levels h

certificate_shaped : (k : ℕ) (c : CertificateData) → is_certificate (certificate_tree k c) ≡ true
certificate_shaped k c =
    let d = certificate_tree k c in
    and_from (has_only_keys certificate_keys d && passes (is_array_of is_level) (get (codes "levels") d))
    (is_some (mode_of d))
    (and_from (has_only_keys certificate_keys d) (passes (is_array_of is_level) (get (codes "levels") d)) refl
    (every_pass (level_tree k) is_level (level_shaped k) c.levels))
    (ap is_some (mode_read k c))

abbrev made : ℕ → Option Mode → List Level → CertificateData
made n o levels = record { players = n; mode = unwrap_or o Players; levels = levels }

pub certificate_read : (k : ℕ) (c : CertificateData) → IsScale (pos k) → IsCertificate c → AreInLowestTerms c.levels
    → IsReadAs k c (certificate_tree k c)
certificate_read k c s h e =
    let n = c.players in
    let d = certificate_tree k c in
    let ready = all_readable n [] c.levels tt h.form.each e in
    let levels = levels_read k c s h.few ready in
    record {
      shaped = certificate_shaped k c;
      formed =
          form_passes k n c.mode d (mode_read k c)
          (all_pass (IsReadable n) (level_tree k) (is_written k n) (level_written k n s h.few) c.levels ready)
          (subst (λ ls. HasForm c.mode n ls) (sym levels) h.form);
      same = ap (λ o. made n o (levels_of k n d)) (mode_read k c) ∙ ap (λ ls. made n (Some c.mode) ls) levels;
    }
