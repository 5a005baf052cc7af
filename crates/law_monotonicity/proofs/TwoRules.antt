-- The Shapley value and the prenucleolus as rules, beside the impossibility of both properties.
use Rattle.std.proofs.Common.{◌≡◌, ℕ, true, ℤ, refl, sym, ap, ◌∙◌, inl, arith}
use Rattle.std.proofs.lemmas.Bool.{false≢true}
use Rattle.std.proofs.Math.Pow.{pow_pos}
use Rattle.definitions.proofs.Members.{has_player-empty}
use Rattle.definitions.specs.Coalitions.{has_player}
use Rattle.definitions.specs.Games.{Game, Allocation}
use Rattle.definitions.specs.declared.Family.TheVariants.{Preimputations}
use Rattle.definitions.specs.declared.Measure.TheVariants.{Plain}
use Rattle.law_duality.proofs.Nucleoli.{prenucleolus_of, prenucleolus_of-is}
use Rattle.law_answers.specs.FairRules.{IsGameOf}
use Rattle.law_answers.proofs.NucleolusIsInCore.{nucleolus_in_core}
use Rattle.law_answers.proofs.ShapleyValuesExist.{shapley_exists}
use Rattle.law_monotonicity.specs.Growth.{GroupGrows}
use Rattle.law_monotonicity.specs.CoreRules.{PicksCorePoints, IsCoalitionMonotonic}
use Rattle.law_monotonicity.specs.TwoRules.{GivesShapley, GivesPrenucleolus, TwoRulesDiffer}
use Rattle.law_monotonicity.proofs.EachWhoGrows.{each_who_grows}
use Rattle.law_monotonicity.proofs.MonotonicRulesAreShapley.{monotonic_rules_are_shapley}
use Rattle.law_monotonicity.proofs.NoCoreRule.{no_core_rule}

-- ---- the Shapley value

-- where a coalition with a member grows, nobody is still worth nothing
still_game : (n : ℕ) (d : ℤ) (t i : ℕ) (g h : Game) → IsGameOf n g → GroupGrows d t g h → has_player t i ≡ true
    → IsGameOf n h
still_game n d t i g h ok grows inside = (
  grows.players ∙ ok.0,
  grows.others 0 (pow_pos g.players)
      (λ none. false≢true (sym (has_player-empty i) ∙ ap (λ (s : ℕ). has_player s i) none ∙ inside))
      ∙ ok.1,
)

shapley_grows : (n : ℕ) (rule : Game → Allocation) → GivesShapley n rule → IsCoalitionMonotonic n rule
shapley_grows n rule gives d t g h a b i ok core_a core_b up lt grows hi inside =
    (each_who_grows d t g h (rule g) (rule h) i up grows (gives g ok)
    (gives h (still_game n d t i g h ok grows inside)) (omega (arith, hi, ok.0))).0 inside

-- ---- the prenucleolus

prenucleolus_picks : (n : ℕ) (rule : Game → Allocation) → GivesPrenucleolus n rule → PicksCorePoints n rule
prenucleolus_picks n rule gives g z ok core =
    nucleolus_in_core Preimputations Plain g (rule g) z (inl refl) (gives g ok) core

-- ---- both

pub two_rules_differ : TwoRulesDiffer
two_rules_differ n many = (
  (λ g. (shapley_exists g).0, λ g ok. (shapley_exists g).1),
  (prenucleolus_of, λ g ok. prenucleolus_of-is g (omega (arith, many, ok.0))),
  λ rule gives. (
    (monotonic_rules_are_shapley n rule).1 gives,
    shapley_grows n rule gives,
    λ picks. no_core_rule n rule many picks (shapley_grows n rule gives),
  ),
  λ rule gives. (
    prenucleolus_picks n rule gives,
    no_core_rule n rule many (prenucleolus_picks n rule gives),
    λ fair. no_core_rule n rule many (prenucleolus_picks n rule gives)
        (shapley_grows n rule ((monotonic_rules_are_shapley n rule).0 fair)),
  ),
)
