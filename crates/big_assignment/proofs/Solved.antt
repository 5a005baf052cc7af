-- The solution of a market from its deals.
use Rattle.std.proofs.Common.{◌≡◌, ℕ, ◌+◌, ◌-◌, ◌*◌, ◌^◌, ◌<◌, ◌≤◌, ◌&&◌, List}
use Rattle.std.proofs.Common.{length, ℤ, pos, slice_index, unsigned_abs}
use Rattle.std.proofs.Common.{to_z, of_z, to_z-of_z, w64, sym, ap, subst, ◌∙◌, inl, inr}
use Rattle.std.proofs.Common.{arith}
use Rattle.std.proofs.lemmas.Int.{fits_signed_from_abs}
use Rattle.definitions.specs.Coalitions.{has_player, grand_coalition}
use Rattle.definitions.specs.Classes.{matching_value}
use Rattle.definitions.specs.Games.{Allocation}
use Rattle.definitions.proofs.Members.{has_player-grand_coalition}
use Rattle.big_assignment.specs.Mates.{pairs_from, payoff}
use Rattle.big_assignment.specs.Markets.{IsMarket, everybody, offered}
use Rattle.assignment_games.specs.Assignments.{seller_count, assignment_game}
use Rattle.matrices.specs.Rows.{entries_of}
use Rattle.definitions.specs.Sides.{IsBestFor, IsBuyer, IsSeller}
use Rattle.big_assignment.specs.Solutions.{IsWhole, IsOptimalMatching, player_pairs}
use Rattle.big_assignment.specs.declared.deal.Deal.{Deal}
use Rattle.big_assignment.specs.Deals.{AreDealOffers, IsBelow, IsFair, IsOutside, IsTurned, Offers, at_prices}
use Rattle.big_assignment.specs.Deals.{gain_of, mate_of, offer_of, price_of}
use Rattle.definitions.proofs.Cases.{below_or_above, nat_lt-past}
use Rattle.big_assignment.proofs.Members.{cond_zero, offered-members}
use Rattle.matrices.proofs.Rows.{entries-outside}
use Rattle.big_assignment.proofs.Pairs.{pairs_ascend}
use Rattle.big_assignment.proofs.Searches.{fair_price, fair_gain}
use Rattle.big_assignment.proofs.Turns.{turned_fair}
use Rattle.big_assignment.proofs.Supports.{IsTableOf, payoff-row, payoff-column, fair_supports}
use Rattle.big_assignment.proofs.Supports.{turned_supports, support_pairs, support_optimal}
use Rattle.big_assignment.proofs.Games.{market_laws, table_of_members}
use Rattle.big_assignment.proofs.Sides.{buyers_best, sellers_best}
use Rattle.definitions.proofs.Masks.{grand_coalition-within}
use Rattle.big_assignment.proofs.Cores.{grand_optimal}
use Rattle.big_assignment.proofs.Ends.{best_for}

-- the table of all players' offers
abbrev pub IsTableOfAll : Offers → List (List ℤ) → Type 0
IsTableOfAll m rows =
    (i j : ℕ) → i < 32 → j ≤ 32 → m i j ≡ offered (entries_of rows) (length rows) (everybody rows) i j

pub table_of_all : (m : Offers) (rows : List (List ℤ)) → IsMarket rows → IsTableOfAll m rows
    → IsTableOf m (entries_of rows) (length rows) (seller_count rows)
table_of_all m rows k h =
    let n = length rows + seller_count rows in
    let t = table_of_members m rows (grand_coalition n) k h in
    record {
      rows_few = t.rows_few;
      columns_few = t.columns_few;
      inside = λ i j il jl. t.inside i j il jl
          ∙ offered-members (entries_of rows) (length rows) (grand_coalition n) i j
          (has_player-grand_coalition n i (omega arith))
          (has_player-grand_coalition n (length rows + j) (omega arith));
      beside = t.beside;
    }

pub all_outside : (m : Offers) (rows : List (List ℤ)) → IsMarket rows → IsTableOfAll m rows
    → IsOutside m (length rows) (seller_count rows)
all_outside m rows k h i j il jl side =
    let s = grand_coalition (length rows + seller_count rows) in
    h i j il jl
    ∙ cond_zero (has_player s i && has_player s (length rows + j)) (entries_of rows i j)
    (entries-outside rows (seller_count rows) i j k.even side)

-- ---- the deal with sides exchanged

pub turned_deal : (d : Deal) (rows : List (List ℤ)) (r c : ℕ) (t : Deal) → IsMarket rows
    → IsTableOfAll (offer_of d) rows → IsFair d (length rows) → r ≡ length rows → c ≡ seller_count rows
    → IsTurned d r c t → IsFair t c
turned_deal d rows r c t k h f er ec turned =
    let g : IsTurned d (length rows) (seller_count rows) t =
    rw (er, ec) at turned in
    rw ec (turned_fair d (length rows) (seller_count rows) t g k.players.1 k.players.3
    (all_outside (offer_of d) rows k h) f)

-- sizes of the exchanged payoffs
pub turned_small : (t : Deal) (r c n k : ℕ) → AreDealOffers t → r ≤ 32 → c ≤ 32 → n ≡ r + c → IsFair t c → k < n
    → payoff r (price_of t) (gain_of t) k ≤ 2 ^ 40
turned_small t r c n k o few fc e f lt = elim (below_or_above k r) [
  | inl row ↦
      (let a = fair_price t c o fc f k (omega arith) in
      let b = payoff-row r (price_of t) (gain_of t) k row in omega arith)
  | inr ge ↦ rw (nat_lt-past k r ge) (fair_gain t c o fc f (k - r) (omega arith))
]

-- ---- the ends

pub buyers_end : (d : Deal) (rows : List (List ℤ)) (r n : ℕ) (v q : List ℕ) (x : Allocation) → IsMarket rows
    → IsTableOfAll (offer_of d) rows → r ≡ length rows → n ≡ length rows + seller_count rows
    → IsFair (at_prices d v q) r → IsBelow d r (slice_index q)
    → IsWhole n x 1 (payoff r (slice_index v) (slice_index q))
    → IsBestFor (assignment_game rows) (IsBuyer (length rows)) x
buyers_end d rows r n v q x k h er en g below whole =
    let b = length rows in
    let c = seller_count rows in
    let t = table_of_all (offer_of d) rows k h in
    let fair : IsFair (at_prices d v q) b = rw er at g in
    let under : IsBelow d b (slice_index q) = rw er at below in
    let w : IsWhole (b + c) x 1 (payoff b (slice_index v) (slice_index q)) =
    rw (en, er) at whole in
    best_for rows (IsBuyer b) x (payoff b (slice_index v) (slice_index q)) (mate_of d)
    (fair_supports (at_prices d v q) (entries_of rows) b c t fair) w
    (λ e y core i lt of_side.
    (let a = buyers_best d (entries_of rows) b c e v q y t fair under core i of_side in
    rw (payoff-row b (slice_index v) (slice_index q) i of_side) a))

pub sellers_end : (d : Deal) (rows : List (List ℤ)) (r c n : ℕ) (t : Deal) (v q : List ℕ) (x : Allocation)
    → IsMarket rows → IsTableOfAll (offer_of d) rows → IsFair d (length rows) → r ≡ length rows
    → c ≡ seller_count rows → n ≡ length rows + seller_count rows → IsTurned d r c t → IsFair (at_prices t v q) c
    → IsBelow t c (slice_index q) → IsWhole n x 1 (payoff r (slice_index q) (slice_index v))
    → IsBestFor (assignment_game rows) (IsSeller (length rows)) x
sellers_end d rows r c n t v q x k h f er ec en turned g below whole =
    let b = length rows in
    let s = seller_count rows in
    let tab = table_of_all (offer_of d) rows k h in
    let turn : IsTurned d b s t =
    subst (λ (z : ℕ). IsTurned d b z t) ec (subst (λ (z : ℕ). IsTurned d z c t) er turned) in
    let fair : IsFair (at_prices t v q) s = subst (λ (z : ℕ). IsFair (at_prices t v q) z) ec g in
    let under : IsBelow t s (slice_index q) = subst (λ (z : ℕ). IsBelow t z (slice_index q)) ec below in
    let w : IsWhole (b + s) x 1 (payoff b (slice_index q) (slice_index v)) =
    subst (λ (z : ℕ). IsWhole (b + s) x 1 (payoff z (slice_index q) (slice_index v))) er
    (subst (λ (z : ℕ). IsWhole z x 1 (payoff r (slice_index q) (slice_index v))) en whole) in
    best_for rows (IsSeller b) x (payoff b (slice_index q) (slice_index v)) (mate_of d)
    (turned_supports d (entries_of rows) b s t v q tab f turn fair) w
    (λ e y core i lt of_side.
    (let a =
    sellers_best d (entries_of rows) b s e t y tab (all_outside (offer_of d) rows k h) turn core v q fair under
    (i - b) (omega arith) in
    let back : b + (i - b) ≡ i = omega arith in
    let o = payoff-column b (slice_index q) (slice_index v) (i - b) in
    subst (λ (z : ℕ). y z ≤ e * payoff b (slice_index q) (slice_index v) z) back
    (subst (λ (z : ℕ). y (b + (i - b)) ≤ e * z) (sym o) a)))

-- ---- the pairs

pub pairs_end : (d : Deal) (rows : List (List ℤ)) (r c : ℕ) (pairs : List (ℕ × ℕ)) (value : ℤ) → IsMarket rows
    → IsTableOfAll (offer_of d) rows → IsFair d (length rows) → r ≡ length rows → c ≡ seller_count rows
    → pairs ≡ player_pairs r (pairs_from (mate_of d) c 0 r)
    → value ≡ (assignment_game rows).worth (grand_coalition (length rows + seller_count rows))
    → IsOptimalMatching rows pairs value
pairs_end d rows r c pairs value k h f er ec e worth =
    let b = length rows in
    let s = seller_count rows in
    let x = payoff b (gain_of d) (price_of d) in
    let sup = fair_supports d (entries_of rows) b s (table_of_all (offer_of d) rows k h) f in
    let both = support_pairs (entries_of rows) b s x (mate_of d) sup in
    let best =
    grand_optimal rows (matching_value (entries_of rows) (pairs_from (mate_of d) s 0 b))
    (support_optimal (entries_of rows) b s x (mate_of d) sup) in
    record {
      matched = pairs_from (mate_of d) s 0 b;
      same =
          rw (er, ec) at e;
      matching = both.0;
      ascending = pairs_ascend (mate_of d) s 0 b 0 (omega arith);
      worth = worth ∙ ap pos best;
      best = worth;
    }

-- the worth of all, as it is kept
pub value_kept : (rows : List (List ℤ)) (s : ℕ) (z : ℤ) → IsMarket rows
    → s ≡ grand_coalition (length rows + seller_count rows) → z ≡ (assignment_game rows).worth s
    → to_z w64 (of_z w64 z) ≡ (assignment_game rows).worth (grand_coalition (length rows + seller_count rows))
value_kept rows s z k e is =
    let n = length rows + seller_count rows in
    let at : z ≡ (assignment_game rows).worth (grand_coalition n) = is ∙ ap (assignment_game rows).worth e in
    let small = (market_laws rows k).small (grand_coalition n) (grand_coalition-within n) in
    let size : unsigned_abs z < 2 ^ 63 = (let f = ap unsigned_abs at in omega arith) in
    to_z-of_z (fits_signed_from_abs w64 z size) ∙ at
