-- What is read of a printed certificate.
--
--   HasLowestExcess           a level's excess is in lowest terms
--   AreInLowestTerms          each level's is
--   IsReadAs                  a certificate is read of a tree, which passes each test of one
--   CertificatesAreReadBack   the certificate that is read is the one that was printed
use Rattle.std.specs.Prelude.{◌≡◌, ℕ, pos, List, true}
use Rattle.std.specs.List.{AllByRecursion}
use Rattle.serde_json.specs.Data.{Data}
use Rattle.definitions.specs.Certificates.{Level}
use Rattle.fractions.specs.Fraction.{IsReduced, HasForm}
use Rattle.kohlberg.specs.Certificate.{CertificateData, IsCertificate}
use Rattle.certificate_texts.specs.Shape.{is_certificate}
use Rattle.certificate_texts.specs.Certificates.{has_form, certificate_of}
use Rattle.report.specs.Limits.{IsScale, IsFine}
use Rattle.report.specs.Certificates.{excess_of, certificate_tree}

-- the excess is in lowest terms, with parts of 128 bits, and a denominator that can be printed over a scale
pub record HasLowestExcess (l : Level) : Type 0 where
  pub reduced : IsReduced (excess_of l)
  pub fits : HasForm (excess_of l)
  pub fine : IsFine l.excess_den

-- each level's excess is in lowest terms, with parts of 128 bits
abbrev pub AreInLowestTerms : List Level → Type 0
AreInLowestTerms levels = AllByRecursion HasLowestExcess levels

-- the tree passes each test of a certificate in a document with the scale k, and c is read of it
pub record IsReadAs (k : ℕ) (c : CertificateData) (tree : Data) : Type 0 where
  pub shaped : is_certificate tree ≡ true
  pub formed : has_form k c.players tree ≡ true
  pub same : certificate_of k c.players tree ≡ c

-- a certificate that is printed over a scale is read back
abbrev pub CertificatesAreReadBack : Type 0
CertificatesAreReadBack =
    (k : ℕ) (c : CertificateData) → IsScale (pos k) → IsCertificate c → AreInLowestTerms c.levels
    → IsReadAs k c (certificate_tree k c)
