-- Each player has a number of its own beside the game. A player that adds no less than another, both counted with their
-- numbers, gets no less, counted so too.
use Rattle.std.proofs.Common.{◌≡◌, ℕ, ◌+◌, ◌^◌, ◌<◌, false, ℤ, ◌+ℤ◌, ◌*ℤ◌, ◌≤ℤ◌, arith}
use Rattle.definitions.proofs.Families.{allocation_of}
use Rattle.definitions.proofs.Parts.{sum_over-more}
use Rattle.definitions.proofs.Ring.{linear}
use Rattle.law_answers.proofs.ShiftsChangeNothing.{share-at, shifted_alike}
use Rattle.law_answers.proofs.WhoAddsNoLessGetsNoLess.{adds_gets_no_less}
use Rattle.definitions.specs.Coalitions.{has_player}
use Rattle.definitions.specs.Measures.{IsMeasurable}
use Rattle.definitions.specs.Games.{Game, Allocation, share, IsAllocation, IsNucleolus}
use Rattle.definitions.specs.declared.Family.{Family}
use Rattle.definitions.specs.declared.Measure.{Measure}
use Rattle.definitions.specs.Players.{AddsNoLess}
use Rattle.law_answers.specs.StrategicEquivalence.{shifted_game, shifted}

-- i adds no less than j where each has its number besides
abbrev pub AddsNoLessWith : (ℕ → ℤ) → Game → ℕ → ℕ → Type 0
AddsNoLessWith b g i j =
    (s : ℕ) → s < 2 ^ g.players → has_player s i ≡ false → has_player s j ≡ false
    → (g.worth (s + 2 ^ j) +ℤ b j) ≤ℤ (g.worth (s + 2 ^ i) +ℤ b i)

pub gets_no_less_with : (b : ℕ → ℤ) (family : Family) (measure : Measure) (g : Game) (x : Allocation) (i j : ℕ)
    → IsMeasurable measure g.players → IsNucleolus family measure g x → i < g.players → j < g.players
    → AddsNoLessWith b g i j → (share x j +ℤ x.den *ℤ b j) ≤ℤ (share x i +ℤ x.den *ℤ b i)
gets_no_less_with b family measure g x i j can h hi hj adds =
    let less = adds_gets_no_less family measure (shifted_game b g) (shifted b x) i j can
    (((shifted_alike b g x hx).nucleolus family measure).0 h) hi hj adds_shifted in
    omega (arith, linear, less, share-at b g x i hx hi, share-at b g x j hx hj)
  where
    hx : IsAllocation g x
    hx = allocation_of family g x h.0

    adds_shifted : AddsNoLess (shifted_game b g) i j
    adds_shifted s within p q =
        omega
        (arith, linear, adds s within p q, sum_over-more g.players s i b hi p, sum_over-more g.players s j b hj q)
