-- The total in k times the game, and the total in the game in which each player brings its number and all are dummies.
-- Their sum is the total in both games together.
use Rattle.std.proofs.Common.{◌≡◌, ℕ, ◌<◌, length, ℤ, pos, ◌+ℤ◌, ◌*ℤ◌, refl, sym, ap, ◌∙◌}
use Rattle.std.proofs.lemmas.List.FromFn.{length-map-range_with_len}
use Rattle.definitions.proofs.Members.{sum_over-singleton}
use Rattle.definitions.proofs.Parts.{sum_over-more}
use Rattle.definitions.specs.Coalitions.{sum_over}
use Rattle.definitions.specs.Games.{Game, share}
use Rattle.definitions.specs.Players.{IsDummy}
use Rattle.definitions.specs.Scales.{times}
use Rattle.definitions.specs.Shapley.{shapley_total, factorial}
use Rattle.theorems.proofs.Products.{sorted_products}
use Rattle.law_answers.specs.ShapleyEquivalence.{ShapleyIsCovariant}
use Rattle.law_answers.specs.StrategicEquivalence.{scaled_game}
use Rattle.law_answers.proofs.SharesScale.{scaled_shapley}
use Rattle.law_answers.proofs.ShapleyDummies.{dummy-total}
use Rattle.law_answers.proofs.ShiftsChangeNothing.{share-at}
use Rattle.law_answers.proofs.TotalsAdd.{totals}

-- each player brings its number
abbrev brought : ℕ → (ℕ → ℤ) → Game
brought n b = record { players = n; worth = λ s. sum_over n b s }

brought_total : (n : ℕ) (b : ℕ → ℤ) (i : ℕ) → i < n → shapley_total (brought n b) i ≡ pos (factorial n) *ℤ b i
brought_total n b i lt =
    dummy-total (brought n b) i lt all_dummies ∙ ap (◌*ℤ◌ (pos (factorial n))) (sum_over-singleton n i b lt)
  where
    all_dummies : IsDummy (brought n b) i
    all_dummies s within out =
        sum_over-more n s i b lt out ∙ ap (λ z. sum_over n b s +ℤ z) (sym (sum_over-singleton n i b lt))

pub shapley_is_covariant : ShapleyIsCovariant
shapley_is_covariant k b g x h =
    let n = g.players in
    let z = times k x in
    let scaled = scaled_shapley k g x h in (
      (length-map-range_with_len (λ i. share z i +ℤ z.den *ℤ b i) 0 (length z.shares) ∙ scaled.0.0, scaled.0.1),
      λ i lt.
          let f = pos (factorial n) in
          let total = totals (scaled_game k g) (brought n b) i refl in
          let at = share-at b (scaled_game k g) z i scaled.0 lt in
          omega (
            sorted_products,
            ap (λ w. w *ℤ f) at,
            scaled.1 i lt,
            ap (◌*ℤ◌ z.den) total,
            ap (◌*ℤ◌ z.den) (brought_total n b i lt),
          ),
    )
