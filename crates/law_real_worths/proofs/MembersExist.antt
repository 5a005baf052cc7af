-- Some shares, and to the first player what they leave of the worth of all: so each game with a player has a
-- preimputation, and an imputation if the players alone aren't worth more than all together.
use Rattle.std.proofs.Common.{◌≡◌, ℕ, ◌<◌, ◌≤◌, Bool, true, false, cond, List, length, map, ap, arith}
use Rattle.std.specs.List.{range_with_len}
use Rattle.std.proofs.lemmas.List.FromFn.{get_or-map-range_with_len, length-map-range_with_len}
use Rattle.definitions.proofs.Members.{has_player-grand_coalition}
use Rattle.definitions.specs.Coalitions.{has_player, singleton, grand_coalition}
use Rattle.definitions.specs.declared.Family.TheVariants.{Preimputations}
use Rattle.law_duality.proofs.MembersInFractions.{total_below-at_most}
use Rattle.real_shares.specs.Numbers.{Numbers, IsOrderedGroup, AtMost, Equal, total_below}
use Rattle.real_shares.specs.Shares.{number_of, amount_of}
use Rattle.real_shares.proofs.Multiples.{chain, equal_path, right, through, total_below-equal, total_below-plus}
use Rattle.real_shares.proofs.RealNumbers.{are_ordered}
use Rattle.law_real_worths.specs.Existence.{PrenucleoliExist, ImputationsExist}
use Rattle.law_real_worths.specs.Games.{NumberGame, IsEfficientIn, IsIndividuallyRationalIn}
use Rattle.law_real_worths.proofs.BothAreOne.{alone_gets}
use Rattle.law_real_worths.proofs.CoreFirst.{amount_at}
use Rattle.law_real_worths.proofs.Joined.{forth, no_less_with}
use Rattle.law_real_worths.proofs.NucleoliExist.{some_nucleolus}

module _ {C : Type 0} (N : Numbers C) (L : IsOrderedGroup N) (g : NumberGame C) where
  abbrev n : ℕ
  n = g.players

  all_get : (y : List C) → length y ≡ n
      → Equal N (amount_of N y (grand_coalition n)) (total_below N n (number_of N y))
  all_get y long =
      chain N L (amount_at N L g y (grand_coalition n) long)
      (total_below-equal N L n (λ i. cond (has_player (grand_coalition n) i) (number_of N y i) N.zero) (number_of N y)
      (λ i lt. equal_path N L (cond (has_player (grand_coalition n) i) (number_of N y i) N.zero) (number_of N y i)
      (ap (λ (b : Bool). cond b (number_of N y i) N.zero) (has_player-grand_coalition n i lt))))

  module _ (some : 1 ≤ n) (base : ℕ → C) where
    abbrev rest : C
    rest = N.plus (g.worth (grand_coalition n)) (N.minus (total_below N n base))

    abbrev given : ℕ → C
    given i = N.plus (base i) (cond (has_player (singleton 0) i) rest N.zero)

    abbrev gifts : List C
    gifts = map given (range_with_len 0 n)

    gifts_long : length gifts ≡ n
    gifts_long = length-map-range_with_len given 0 n

    gift_at : (i : ℕ) → i < n → Equal N (number_of N gifts i) (given i)
    gift_at i lt =
        equal_path N L (number_of N gifts i) (given i)
        (get_or-map-range_with_len given 0 n i i N.zero lt (omega arith))

    gifts_efficient : IsEfficientIn N g gifts
    gifts_efficient =
        let t = total_below N n base in
        chain N L (all_get gifts gifts_long)
        (chain N L (total_below-equal N L n (number_of N gifts) given gift_at)
        (chain N L (total_below-plus N L n base (λ i. cond (has_player (singleton 0) i) rest N.zero))
        (chain N L (right N L t (alone_gets N L (λ i. rest) 0 n (omega (arith, some))))
        (forth N L t (g.worth (grand_coalition n))))))

    gifts_low : AtMost N (total_below N n base) (g.worth (grand_coalition n)) → (i : ℕ) → i < n
        → AtMost N (base i) (number_of N gifts i)
    gifts_low le i lt =
        through N L (either (has_player (singleton 0) i)) (gift_at i lt).1
      where
        t : C
        t = total_below N n base

        positive : AtMost N N.zero rest
        positive = through N L (L.inverse t).1 (L.shifts t (g.worth (grand_coalition n)) (N.minus t) le)

        either : (b : Bool) → AtMost N (base i) (N.plus (base i) (cond b rest N.zero))
        either true = no_less_with N L (base i) rest positive
        either false = (L.neutral (base i)).1

  singles_low : (y : List C) → length y ≡ n → IsEfficientIn N g y → IsIndividuallyRationalIn N g y
      → AtMost N (total_below N n (λ i. g.worth (singleton i))) (g.worth (grand_coalition n))
  singles_low y long efficient rational =
      through N L (total_below-at_most N L n (λ i. g.worth (singleton i)) (number_of N y) rational)
      (through N L (all_get y long).1 efficient.0)

pub prenucleoli_exist : PrenucleoliExist
prenucleoli_exist N g R some =
    let L = are_ordered N R in
    some_nucleolus N R g Preimputations (gifts N L g some (λ i. N.zero))
    (gifts_long N L g some (λ i. N.zero), gifts_efficient N L g some (λ i. N.zero))

pub imputations_exist : ImputationsExist
imputations_exist N g R some =
    let L = are_ordered N R in
    let alone = λ (i : ℕ). g.worth (singleton i) in (
      λ (y, h). singles_low N L g y h.0 h.1 h.2,
      λ le. (
        gifts N L g some alone,
        (gifts_long N L g some alone, gifts_efficient N L g some alone, gifts_low N L g some alone le),
      ),
    )
