-- The levels of all stages and the shares that are read from the last stage are a certified answer. If there is no
-- stage, the one share is the worth of all.
use Rattle.std.proofs.Common.{◌≡◌, ◌≤◌, [], ◌∷◌, pos, Option, Some, None}
use Rattle.std.proofs.Common.{MatchOption, ap, ℕ, arith}
use Rattle.definitions.specs.Coalitions.{grand_coalition}
use Rattle.definitions.specs.Measures.{IsMeasurable}
use Rattle.definitions.specs.Games.{Game, Allocation}
use Rattle.definitions.specs.Certificates.{Level, Certifies}
use Rattle.definitions.specs.declared.Mode.TheVariants.{Span}
use Rattle.simplex.specs.declared.multipliers.Multipliers.{Multipliers}
use Rattle.kohlberg.specs.Certificate.{CertificateData}
use Rattle.worth_core.specs.Allocations.{allocation}
use Rattle.nested_programs.specs.Stage.{Stage}
use Rattle.nested_programs.specs.Answer.{IsShort, IsPoint}
use Rattle.nested_programs.specs.Stages.{AreDone}
use Rattle.nested_programs.proofs.LastStage.{last_certifies}
use Rattle.nested_programs.proofs.OnePlayer.{one_certified}
use Rattle.nested_programs.proofs.SettledMore.{settle_more}
use Rattle.kohlberg.specs.Solved.{HasFew}
use Rattle.definitions.proofs.Alls.{all_weaken}
use Rattle.separation.specs.Shares.{IsReadFrom}

-- shares that are read from the multipliers of the last stage, or are the worth of all where there is no stage
abbrev pub AreRead : Game → Option Multipliers → Allocation → Type 0
AreRead g last x =
    MatchOption last (x ≡ allocation (g.worth (grand_coalition g.players) ∷ []) (pos 1))
    (λ m. IsReadFrom g.players m.num.items m.den x)

all_certified : (q : Stage) (last : Option Multipliers) (x : Allocation) → 1 ≤ q.game.players
    → IsMeasurable q.measure q.game.players → AreDone q last → AreRead q.game last x
    → Certifies Span q.family q.measure q.game x q.front
all_certified q None x some has done read =
    let none : q.front ≡ [] = done.stages.wide in
    let one = one_certified q.family q.measure q.game some (rw none at done.all) in
    rw none (rw read one)
all_certified q (Some m) x some has done read = last_certifies q m x has done read

pub is_point : (q : Stage) (last : Option Multipliers) (x : Allocation) (c : CertificateData) → 1 ≤ q.game.players
    → IsMeasurable q.measure q.game.players → AreDone q last → AreRead q.game last x
    → c ≡ record { players = q.game.players; mode = Span; levels = q.front } → IsPoint q.family q.measure q.game x c
is_point q last x c some has done read e = record {
  solved = record {
    players = ap (λ (d : CertificateData). d.players) e;
    in_mode = ap (λ (d : CertificateData). d.mode) e;
    certifies =
        rw levels_are (all_certified q last x some has done read);
    few =
        rw levels_are
        (all_weaken (IsShort q.game.players) (HasFew q.game.players) q.front (λ l h. at_most q.game.players l h)
        done.short);
    lowest = rw levels_are done.lowest;
  };
  short = rw levels_are done.short;
  more = rw levels_are (settle_more q last done);
}
  where
    levels_are : c.levels ≡ q.front
    levels_are = ap (λ (d : CertificateData). d.levels) e

    at_most : (n : ℕ) (l : Level) → IsShort n l → HasFew n l
    at_most n l h = omega (arith, h)
