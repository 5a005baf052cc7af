-- What the line of a nucleolus says to a reader.
--
--   IsReadBack                   a fraction is read from its text
--   ExcessesAreReadBack          so is the excess of each level
--   SharesAreReadBack            so is each share
--   SaysNucleolus                the tree is read from its text, and has its parts at their keys
--   NucleoliAreReadBack          the law: the tree of a nucleolus is so, and its shares are read back
--   NucleoliAreShort             the law: its text is little longer than that of the game
--   ScaledFractionsAreReadBack   the law: a fraction is read over a scale, and times the scale is as before
use Rattle.std.specs.Prelude.{◌≡◌, ◌+◌, ◌^◌, ◌≤◌, ℕ, pos, List, length, Some, Bool}
use Rattle.std.specs.Prelude.{codes, FitsSigned}
use Rattle.std.specs.List.{AllByRecursion}
use Rattle.serde_json.specs.Data.{Data, string, depth}
use Rattle.serde_json.specs.Find.{get}
use Rattle.serde_json.specs.Read.{read}
use Rattle.serde_json.specs.Written.{compact_text}
use Rattle.definitions.specs.Games.{Allocation, IsShares}
use Rattle.definitions.specs.Certificates.{Level}
use Rattle.definitions.specs.declared.Family.{Family}
use Rattle.fractions.specs.Fraction.{Fraction, IsReduced}
use Rattle.fractions.specs.FractionTexts.{parsed, fraction_text}
use Rattle.kohlberg.specs.Certificate.{CertificateData, IsCertificate}
use Rattle.json_texts.specs.Exact.{IsExact}
use Rattle.std.specs.Int.{w128}
use Rattle.json_trees.specs.LowestTerms.{times_scale, over_scale}
use Rattle.report.specs.Limits.{IsScale, IsFine}
use Rattle.report.specs.Certificates.{excess_of, certificate_tree}
use Rattle.report.specs.ShareLists.{printed_share, share_list}
use Rattle.report.specs.Words.{family_word}
use Rattle.report.specs.Lines.{nucleolus_tree}

abbrev pub IsReadBack : Fraction → Type 0
IsReadBack f = parsed (fraction_text f) ≡ Some f

-- each level's excess over the scale k is read from its text
abbrev pub ExcessesAreReadBack : ℕ → List Level → Type 0
ExcessesAreReadBack k levels = AllByRecursion (λ l. IsReadBack (over_scale (pos k) (excess_of l))) levels

-- each share that is printed is read from its text
abbrev pub SharesAreReadBack : ℕ → Bool → Allocation → Type 0
SharesAreReadBack k is_cost x = AllByRecursion (λ z. IsReadBack (printed_share k is_cost x.den z)) x.shares

-- the tree is read from its text, is nested at most 9 deep, and has its parts at their keys
pub record SaysNucleolus (k : ℕ) (family : Family) (game : Data) (is_cost : Bool) (x : Allocation)
    (c : CertificateData) (tree : Data) : Type 0 where
  pub exact : IsExact tree
  pub shallow : depth tree ≤ 9
  pub read_back : read (compact_text tree) ≡ Some tree
  pub has_answer : get (codes "answer") tree ≡ Some (string (family_word family))
  pub has_certificate : get (codes "certificate") tree ≡ Some (certificate_tree k c)
  pub has_game : get (codes "game") tree ≡ Some game
  pub has_shares : get (codes "shares") tree ≡ Some (share_list k is_cost x)

-- a nucleolus of a game whose tree is exact, and nested at most 8 deep, is read back, and so are its shares
abbrev pub NucleoliAreReadBack : Type 0
NucleoliAreReadBack =
    (k : ℕ) (family : Family) (game : Data) (is_cost : Bool) (x : Allocation) (c : CertificateData)
    → IsScale (pos k) → IsShares x → IsCertificate c → IsExact game → depth game ≤ 8
    → SaysNucleolus k family game is_cost x c (nucleolus_tree k family game is_cost x c)
    × SharesAreReadBack k is_cost x

-- the text of a nucleolus is at most 2 MiB longer than that of the game, if each level has at most 128 entries and
-- an excess that is read from its text
abbrev pub NucleoliAreShort : Type 0
NucleoliAreShort =
    (k : ℕ) (family : Family) (game : Data) (is_cost : Bool) (x : Allocation) (c : CertificateData)
    → IsScale (pos k) → IsShares x → IsCertificate c → ExcessesAreReadBack k c.levels
    → AllByRecursion (λ l. length l.coalitions + length l.earlier + length l.bounds ≤ 128) c.levels
    → length (compact_text (nucleolus_tree k family game is_cost x c)) ≤ length (compact_text game) + 2 ^ 21

-- a fraction with parts of 128 bits is read over a scale from its text, and times the scale it is as before
abbrev pub ScaledFractionsAreReadBack : Type 0
ScaledFractionsAreReadBack =
    (k : ℕ) (f : Fraction) → IsScale (pos k) → IsReduced f → FitsSigned w128 f.num → IsFine f.den
    → IsReadBack (over_scale (pos k) f) × (times_scale k (over_scale (pos k) f) ≡ f)
