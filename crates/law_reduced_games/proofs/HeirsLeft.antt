-- Heirs of 200, of whom the first goes: by computation.
use Rattle.std.proofs.Common.{◌≡◌, ℕ, suc, ◌<◌, List, [], ◌∷◌, pos, ◌≤ℤ◌, slice_index, refl, arith}
use Rattle.definitions.proofs.Ring.{linear}
use Rattle.definitions.specs.Games.{share}
use Rattle.law_answers.specs.TalmudRule.{claimed}
use Rattle.law_reduced_games.specs.EstatesLeft.{heirs, HeirsLeft}

abbrev claims : List ℕ
claims = 100 ∷ (200 ∷ (300 ∷ []))

each_heir : (i : ℕ) → i < 3 → (pos 0 ≤ℤ share heirs i) × (share heirs i ≤ℤ claimed claims heirs i)
each_heir i lt = grind (arith, linear)

claims_stay : (k : ℕ) → k < 2 → pos (slice_index (200 ∷ (300 ∷ [])) k) ≡ claimed claims heirs (suc k)
claims_stay k lt = grind arith

pub heirs_left : HeirsLeft
heirs_left = (
  record { all = ((refl, omega (arith, linear)), refl); each = each_heir },
  λ a. (let high = (a.each 0 (omega arith)).1 in omega (arith, linear, high)),
  record { paid = refl; players = refl; same = claims_stay },
  λ e. (omega (arith, linear, e.paid)),
)
