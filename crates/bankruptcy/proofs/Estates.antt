-- What an estate and claims are tested for.
use Rattle.std.proofs.Common.{◌≡◌, ℕ, ◌<◌, ◌≤◌, ◌^◌, eqb, Bool, false, List, length}
use Rattle.std.proofs.Common.{map, sum, All}
use Rattle.std.proofs.Common.{ℤ, pos, nat_abs, unsigned_abs, sym, ap, ◌∙◌, arith}
use Rattle.std.specs.List.{sum_by}
use Rattle.std.proofs.lemmas.List.{length-map}
use Rattle.std.proofs.lemmas.Int.{ints}
use Rattle.orders.specs.Numbers.{IsNumber}
use Rattle.orders.proofs.Tested.{not_zero, same_sum}
use Rattle.bankruptcy.specs.Bankruptcy.{HavePlayers, IsAboveClaims, IsBankruptcy, bankruptcy}

pub have_players : (claims : List ℤ) (l k : ℕ) (b : Bool) → l ≡ length claims → b ≡ eqb l 0 → b ≡ false → k ≡ l
    → k ≤ 64 → HavePlayers claims
have_players claims l k b all e f same few =
    let some = not_zero l b e f in
    (omega (arith, all, some), omega (arith, all, same, few))

-- an estate z
module _ (estate z : ℤ) (claims : List ℤ) (total : ℕ) (kept : z ≡ estate) (number : IsNumber estate)
    (sums : total ≡ sum_by unsigned_abs claims) where
  pub same_estate : pos (nat_abs z) ≡ estate
  same_estate = omega (arith, ints, kept, number.0)

  pub above_claims : total < nat_abs z → IsAboveClaims estate claims
  above_claims above = omega (arith, ints, kept, number.0, above, sums)

  pub not_above_claims : nat_abs z ≤ total → ¬ IsAboveClaims estate claims
  not_above_claims enough = λ above. omega (arith, ints, kept, number.0, above, enough, sums)

  -- the numbers that are kept
  pub is_bankruptcy : (cs : List ℕ) → map pos cs ≡ claims → All (λ c. c < 2 ^ 40) cs → HavePlayers claims
      → nat_abs z ≤ total → IsBankruptcy (bankruptcy (nat_abs z) cs)
  is_bankruptcy cs same small players enough =
      let count = ap length same in
      let long = length-map cs pos in
      let whole : sum_by unsigned_abs claims ≡ sum cs = ap (sum_by unsigned_abs) (sym same) ∙ same_sum 0 cs in
      record {
        some = omega (arith, players.0, count, long);
        few = omega (arith, players.1, count, long);
        small = small;
        estate_small = omega (arith, ints, kept, number.0, number.1);
        enough = omega (arith, enough, sums, whole);
      }
