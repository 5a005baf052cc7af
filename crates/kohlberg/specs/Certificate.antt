-- A certificate, as clauses see it.
use Rattle.std.specs.Prelude.{ℕ, ◌≤◌, List}
use Rattle.definitions.specs.Certificates.{Level, HasForm}
use Rattle.definitions.specs.declared.Mode.{Mode}

-- the number of players, the mode and the levels
pub record CertificateData : Type 0 where
  pub players : ℕ
  pub mode : Mode
  pub levels : List Level

-- for 1 to 64 players, in the form of a certificate
pub record IsCertificate (c : CertificateData) : Type 0 where
  pub some : 1 ≤ c.players
  pub few : c.players ≤ 64
  pub form : HasForm c.mode c.players c.levels
