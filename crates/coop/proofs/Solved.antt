-- What a solver finds is what is printed: a nucleolus.
use Rattle.std.proofs.Common.{◌≡◌, ◌≤◌, ℕ, List, Bool, refl, subst, inl, inr, arith}
use Rattle.definitions.specs.Games.{Allocation}
use Rattle.definitions.specs.Certificates.{Level, HasForm}
use Rattle.definitions.specs.declared.Family.{Family}
use Rattle.definitions.specs.declared.Measure.{Measure}
use Rattle.definitions.specs.declared.Measure.TheVariants.{Plain, PerHead}
use Rattle.definitions.specs.Measures.{IsMeasurable}
use Rattle.theorems.proofs.Soundness.{IsNucleolus-from_certificate}
use Rattle.real_shares.proofs.Soundness.{IsNucleolusOverGroups-from_certificate}
use Rattle.real_shares.proofs.ForReals.{IsNucleolusForReals-from_certificate}
use Rattle.kohlberg.specs.Certificate.{CertificateData}
use Rattle.kohlberg.specs.Solved.{IsSolved}
use Rattle.game_text.specs.Classes.{Description, game_of, is_cost}
use Rattle.game_text.specs.Documents.{Contents}
use Rattle.coop.specs.Classes.{nucleolus_limit, IsChosen}
use Rattle.coop.specs.Headline.{IsWithinLimit, IsSolution}

measurable : (measure : Measure) (d : Description) (n : ℕ) → n ≤ nucleolus_limit measure d → IsMeasurable measure n
measurable Plain d n h = inl refl
measurable PerHead d n h = inr (omega (arith, h))

pub is_solution : (family : Family) (d : Contents) (are_costs : Bool) (x : Allocation) (c : CertificateData)
    (levels : List Level)
    → are_costs ≡ is_cost d.game → IsSolved c.mode family d.measure (game_of d.game) x c
    → IsChosen d.measure d.game x c → IsWithinLimit d
    → levels ≡ c.levels → HasForm c.mode c.players levels → IsSolution family d d.tree are_costs x c
is_solution family d are_costs x c levels signs found chosen taken same form =
    let g = game_of d.game in
    let as_said : HasForm c.mode c.players c.levels =
    subst (λ (ls : List Level). HasForm c.mode c.players ls) same form in
    let here : HasForm c.mode g.players c.levels =
    subst (λ (n : ℕ). HasForm c.mode n c.levels) found.players as_said in
    let within = measurable d.measure d.game g.players taken in
    record {
      taken = taken;
      nucleolus = IsNucleolus-from_certificate c.mode family d.measure g x c.levels within here found.certifies;
      for_reals =
          IsNucleolusForReals-from_certificate c.mode family d.measure g x c.levels within here found.certifies;
      over_groups =
          IsNucleolusOverGroups-from_certificate c.mode family d.measure g x c.levels within here found.certifies;
      players = found.players;
      form = here;
      certifies = found.certifies;
      short = found.few;
      chosen = chosen;
      tree = refl;
      signs = signs;
    }
