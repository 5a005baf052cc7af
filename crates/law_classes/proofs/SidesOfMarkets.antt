-- A player's gain is the loss of the one it is matched with: so at a core point that is best for one side, each of the
-- other side gets the least of the core (Shapley and Shubik 1971).
use Rattle.std.proofs.Common.{◌≡◌, ℕ, ◌+◌, ◌<◌, ℤ, pos, ◌+ℤ◌, ◌*ℤ◌, ◌≤ℤ◌, sym, ap, ◌∙◌, subst, inl, inr, arith}
use Rattle.definitions.proofs.Masks.{grand_coalition-within}
use Rattle.definitions.proofs.Members.{has_player-grand_coalition}
use Rattle.definitions.proofs.Parts.{has_player-within}
use Rattle.definitions.proofs.Ring.{linear}
use Rattle.definitions.proofs.SumsOver.{amount-at}
use Rattle.definitions.specs.Classes.{Matrix, entry, IsAssignmentGame}
use Rattle.definitions.specs.Coalitions.{has_player, grand_coalition}
use Rattle.definitions.specs.Games.{Game, Allocation, share, InCore}
use Rattle.definitions.specs.Sides.{IsBestFor, IsBuyer, IsSeller}
use Rattle.law_answers.proofs.NucleolusIsInCore.{nucleolus_in_core}
use Rattle.theorems.proofs.Products.{products, sorted_products}
use Rattle.law_classes.proofs.MatchedPairs.{IsMatched, alone, paired, matched, pairs_get}
use Rattle.law_classes.specs.Markets.{NucleolusIsBetween}

-- player i gets at x no more than at z
abbrev GetsNoMore : Allocation → Allocation → ℕ → Type 0
GetsNoMore x z i = (share x i *ℤ z.den) ≤ℤ (share z i *ℤ x.den)

module _ (matrix : Matrix) (rows : ℕ) (g : Game) (market : IsAssignmentGame matrix rows g) where
  -- by two core points, the pairs of a matching of greatest value get just their worths
  pub core_matched : (x z : Allocation) → InCore g x → InCore g z → (k : ℕ) → k < g.players
      → IsMatched matrix rows g.players x.den z.den (share x) (share z) k
  core_matched x z hx hz k lt =
      let n = g.players in
      let all = grand_coalition n in
      let worth = market all (grand_coalition-within n) in
      let best = worth.2.reached in
      let value = worth.1 ∙ ap pos best.2 in
      matched matrix rows n x.den z.den (share x) (share z) (pairs_get matrix rows g market x hx)
      (pairs_get matrix rows g market z hz) best.0 (has_player all) best.1
      (λ i has. has_player-within n all i (grand_coalition-within n) has)
      (omega (arith, linear, hx.1, amount-at g x all hx.0, ap (◌*ℤ◌ x.den) value))
      (omega (arith, linear, hz.1, amount-at g z all hz.0, ap (◌*ℤ◌ z.den) value)) k
      (has_player-grand_coalition n k lt)

  -- what one of a pair has less, the other has more
  swapped : (d e a u v p q : ℤ) → u +ℤ v ≡ d *ℤ a → p +ℤ q ≡ e *ℤ a → (q *ℤ d) ≤ℤ (v *ℤ e) → (u *ℤ e) ≤ℤ (p *ℤ d)
  swapped d e a u v p q one two le =
      omega (sorted_products, le, ap (◌*ℤ◌ e) one, ap (◌*ℤ◌ d) two)

  module _ (x z : Allocation) (hz : InCore g z) (i : ℕ) (hi : i < g.players) where
    nothing : share x i ≡ pos 0 → share z i ≡ pos 0 → GetsNoMore x z i
    nothing e f = omega (products, ap (λ (u : ℤ). u *ℤ z.den) e, ap (λ (u : ℤ). u *ℤ x.den) f)

    worst_for_buyers : IsBestFor g (IsSeller rows) x → IsBuyer rows i → GetsNoMore x z i
    worst_for_buyers best buyer = by_match (core_matched x z best.0 hz i hi)
      where
        by_match : IsMatched matrix rows g.players x.den z.den (share x) (share z) i → GetsNoMore x z i
        by_match (alone e f) = nothing e f
        by_match (paired r c row hr hc (inl at) one two) =
            subst (GetsNoMore x z) (sym at)
            (swapped x.den z.den (pos (entry matrix r c)) (share x r) (share x (rows + c)) (share z r)
            (share z (rows + c)) one two (best.1 z hz (rows + c) hc (omega arith)))
        by_match (paired r c row hr hc (inr at) one two) = absurd (omega (arith, at, buyer))

    worst_for_sellers : IsBestFor g (IsBuyer rows) x → IsSeller rows i → GetsNoMore x z i
    worst_for_sellers best seller = by_match (core_matched x z best.0 hz i hi)
      where
        by_match : IsMatched matrix rows g.players x.den z.den (share x) (share z) i → GetsNoMore x z i
        by_match (alone e f) = nothing e f
        by_match (paired r c row hr hc (inl at) one two) = absurd (omega (arith, at, row, seller))
        by_match (paired r c row hr hc (inr at) one two) =
            subst (GetsNoMore x z) (sym at)
            (swapped x.den z.den (pos (entry matrix r c)) (share x (rows + c)) (share x r) (share z (rows + c))
            (share z r) (omega (arith, linear, one)) (omega (arith, linear, two)) (best.1 z hz r hr row))

pub nucleolus_is_between : NucleolusIsBetween
nucleolus_is_between family measure matrix buyers g x b c i can market h hi best_b best_c =
    let core = nucleolus_in_core family measure g x b can h best_b.0 in (
      λ buyer. (worst_for_buyers matrix buyers g market c x core i hi best_c buyer, best_b.1 x core i hi buyer),
      λ seller. (worst_for_sellers matrix buyers g market b x core i hi best_b seller, best_c.1 x core i hi seller),
    )
