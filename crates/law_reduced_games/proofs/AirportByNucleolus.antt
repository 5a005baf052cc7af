-- The core of an airport isn't empty: who needs most can pay all.
use Rattle.std.proofs.Common.{◌≡◌, ℕ, ◌<◌, ◌≤◌, Bool, true, false, cond, List, length, map, slice_index, pos, neg_ℤ}
use Rattle.std.proofs.Common.{◌*ℤ◌, ◌≤ℤ◌, refl, sym, ap, ◌∙◌, inl, arith}
use Rattle.std.specs.List.{range_with_len}
use Rattle.std.proofs.lemmas.List.FromFn.{get_or-map-range_with_len, length-map-range_with_len}
use Rattle.definitions.proofs.Ring.{linear, one-mulℤ}
use Rattle.definitions.proofs.Casts.{pos-le}
use Rattle.definitions.proofs.Masks.{grand_coalition-within}
use Rattle.definitions.proofs.Members.{has_player-grand_coalition}
use Rattle.definitions.proofs.SumsOver.{sum_over-same}
use Rattle.definitions.specs.Classes.{greatest_cost, airport_worth}
use Rattle.definitions.specs.Coalitions.{has_player, grand_coalition, sum_over}
use Rattle.definitions.specs.Games.{Allocation, share, amount, InCore}
use Rattle.definitions.specs.declared.Measure.TheVariants.{Plain}
use Rattle.airport.proofs.GreatestCosts.{greatest_cost-at_least}
use Rattle.law_answers.specs.ClassGames.{airport_game}
use Rattle.law_answers.proofs.AtPlayer.{at_player, sum_over-at_player}
use Rattle.law_answers.proofs.NucleolusIsInCore.{nucleolus_in_core}
use Rattle.law_reduced_games.specs.AirportsLeft.{AirportByNucleolus}
use Rattle.law_reduced_games.proofs.Staying.{some_stay}
use Rattle.law_reduced_games.proofs.NucleolusReduces.{both_reduce}
use Rattle.law_reduced_games.proofs.ReducedAirport.{reduced_airport}
use Rattle.law_reduced_games.proofs.GreatestMembers.{greatest_member}
use Rattle.theorems.proofs.Products.{products}

module _ (costs : List ℕ) (some : 1 ≤ length costs) where
  abbrev n : ℕ
  n = length costs

  abbrev cost : ℕ → ℕ
  cost i = slice_index costs i

  -- a player with the greatest cost
  abbrev payer : ℕ
  payer = (greatest_member n cost (grand_coalition n) (some_stay n some) (grand_coalition-within n)).0

  payer_in : payer < n
  payer_in = (greatest_member n cost (grand_coalition n) (some_stay n some) (grand_coalition-within n)).1

  payer_cost : greatest_cost n cost (grand_coalition n) ≡ cost payer
  payer_cost = (greatest_member n cost (grand_coalition n) (some_stay n some) (grand_coalition-within n)).3

  -- who pays all
  abbrev z : Allocation
  z = record { shares = map (at_player payer (neg_ℤ (pos (cost payer)))) (range_with_len 0 n); den = pos 1 }

  z_long : length z.shares ≡ n
  z_long = length-map-range_with_len (at_player payer (neg_ℤ (pos (cost payer)))) 0 n

  z_amount : (s : ℕ) → amount z s ≡ cond (has_player s payer) (neg_ℤ (pos (cost payer))) (pos 0)
  z_amount s =
      ap (λ k. sum_over k (share z) s) z_long
      ∙ sum_over-same n (share z) (at_player payer (neg_ℤ (pos (cost payer)))) s
      (λ i lt. get_or-map-range_with_len (at_player payer (neg_ℤ (pos (cost payer)))) 0 n i i (pos 0) lt (omega arith))
      ∙ sum_over-at_player n s payer (neg_ℤ (pos (cost payer))) payer_in

  covered : (s : ℕ) → (pos 1 *ℤ airport_worth costs s) ≤ℤ amount z s
  covered s = by_member (has_player s payer) refl
    where
      less : (a b : ℕ) → a ≤ b → neg_ℤ (pos b) ≤ℤ neg_ℤ (pos a)
      less a b le = (let p = pos-le a b le in omega (arith, linear, p))

      by_member : (b : Bool) → has_player s payer ≡ b → (pos 1 *ℤ airport_worth costs s) ≤ℤ amount z s
      by_member true e =
          (let le = less (cost payer) (greatest_cost n cost s) (greatest_cost-at_least n cost s payer payer_in e) in
          omega (products, le, z_amount s, ap (λ (b : Bool). cond b (neg_ℤ (pos (cost payer))) (pos 0)) e))
      by_member false e = (let le = less 0 (greatest_cost n cost s) (omega arith) in
          omega (products, le, z_amount s, ap (λ (b : Bool). cond b (neg_ℤ (pos (cost payer))) (pos 0)) e))

  payer_in_core : InCore (airport_game costs) z
  payer_in_core = (
    (z_long, omega (arith, linear)),
    z_amount (grand_coalition n)
        ∙ ap (λ (b : Bool). cond b (neg_ℤ (pos (cost payer))) (pos 0)) (has_player-grand_coalition n payer payer_in)
        ∙ ap (λ c. neg_ℤ (pos c)) (sym payer_cost) ∙ sym (one-mulℤ (airport_worth costs (grand_coalition n))),
    λ s lt blocks. (let le = covered s in omega (arith, linear, le, blocks)),
  )

pub airport_by_nucleolus : AirportByNucleolus
airport_by_nucleolus family m who costs left_costs x l a e is =
    let g = airport_game costs in
    let core = payer_in_core costs (omega (arith, e.player)) in
    both_reduce family m who g (airport_game left_costs) x _ a
    (reduced_airport m who costs left_costs x l a (nucleolus_in_core family Plain g x _ (inl refl) is core) e) core is
