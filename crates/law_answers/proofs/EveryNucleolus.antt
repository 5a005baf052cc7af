-- The rule's shares are a core point, so every nucleolus of the game is one, and its prenucleolus. So it balances
-- every two players, and has the rule's shares.
--
-- The steps are: in the core (NucleolusIsInCore.antt), so it is the prenucleolus (WithACoreBothAreOne.antt), so each
-- two have equal surpluses. At a core point these are the garment (BalanceIsTheGarment.antt), and only the rule's
-- shares divide each two so (NoOtherIsConsistent.antt).
use Rattle.std.proofs.Common.{◌≡◌, ℕ, ◌<◌, List, length, ℤ, ◌*ℤ◌, refl, sym, ap, ◌∙◌, inl, arith}
use Rattle.definitions.proofs.Members.{sum_over-grand_coalition}
use Rattle.definitions.proofs.Ring.{linear}
use Rattle.definitions.specs.Coalitions.{grand_coalition}
use Rattle.definitions.specs.Games.{Allocation, share, IsNucleolus, InCore}
use Rattle.definitions.specs.declared.Family.{Family}
use Rattle.definitions.specs.declared.Family.TheVariants.{Imputations, Preimputations}
use Rattle.definitions.specs.declared.Measure.TheVariants.{Plain}
use Rattle.law_answers.proofs.NucleolusIsInCore.{nucleolus_in_core}
use Rattle.law_answers.proofs.WithACoreBothAreOne.{both_are_one}
use Rattle.theorems.proofs.Transfers.{prenucleolus_in_prekernel}
use Rattle.talmud.specs.Rule.{IsTalmud}
use Rattle.law_answers.proofs.BalanceIsTheGarment.{consistent}
use Rattle.law_answers.proofs.NoOtherIsConsistent.{no_other}
use Rattle.law_answers.proofs.EachTwoAreAGarment.{divides}
use Rattle.talmud.proofs.Excesses.{excess-core}
use Rattle.talmud.proofs.Worths.{game_of, Divides, amount-at, worth-grand_coalition}

-- the rule's shares lie in the core
pub rule_in_core : (estate : ℕ) (claims : List ℕ) (x : Allocation) → IsTalmud estate claims x
    → InCore (game_of estate claims) x
rule_in_core estate claims x h = (
  (h.players, h.positive),
  amount-at estate claims x d (grand_coalition n)
      ∙ sum_over-grand_coalition n (share x)
      ∙ h.all
      ∙ ap (◌*ℤ◌ x.den) (sym (worth-grand_coalition estate claims)),
  λ s lt blocks. let low = excess-core estate claims x s d lt in omega (arith, linear, low, blocks),
)
  where
    n : ℕ
    n = length claims

    d : Divides estate claims x
    d = divides estate claims x h

-- and so every nucleolus is the prenucleolus
as_prenucleolus : (family : Family) (estate : ℕ) (claims : List ℕ) (x y : Allocation)
    → InCore (game_of estate claims) x → IsNucleolus family Plain (game_of estate claims) y
    → IsNucleolus Preimputations Plain (game_of estate claims) y
as_prenucleolus Preimputations estate claims x y core h = h
as_prenucleolus Imputations estate claims x y core h =
    (both_are_one Plain (game_of estate claims) y x (inl refl) core).1 h

pub every_nucleolus : (family : Family) (estate : ℕ) (claims : List ℕ) (x y : Allocation) → IsTalmud estate claims x
    → IsNucleolus family Plain (game_of estate claims) y → (i : ℕ) → i < length claims
    → share x i *ℤ y.den ≡ share y i *ℤ x.den
every_nucleolus family estate claims x y h k =
    let core =
    nucleolus_in_core family Plain (game_of estate claims) y x (inl refl) k (rule_in_core estate claims x h) in
    let balance = prenucleolus_in_prekernel (game_of estate claims) y
    (as_prenucleolus family estate claims x y (rule_in_core estate claims x h) k) in
    no_other estate claims x y h (consistent estate claims y core balance)
