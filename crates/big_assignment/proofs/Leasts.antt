-- Least prices: raised only while a row would rather have another column, they stay below all others that leave
-- each row content.
--
-- Prices start at 0 (Demange, Gale and Sotomayor 1986). In its turn a row raises the price of each column that it would
-- rather have, until it is content with its own. All prices at which each row is content, over any denominator, stay
-- above (`below_raised`), and the prices of a core point are such (`buyers_meet` in Sides.antt). So the prices at the
-- end are the least of all core points, and the gains of the rows the greatest.
use Rattle.std.proofs.Common.{◌≡◌, ℕ, ◌+◌, ◌*◌, ◌^◌, ◌<◌, ◌≤◌, List, slice_index, sym}
use Rattle.std.proofs.Common.{ap, inl, inr, arith}
use Rattle.big_assignment.specs.declared.deal.Deal.{Deal}
use Rattle.big_assignment.specs.Deals.{AreDealOffers, IsBelow, IsFair, IsGain, Meets, NoneWanted, at_prices}
use Rattle.big_assignment.specs.Deals.{mate_of, offer_of, price_of}
use Rattle.big_assignment.specs.Searches.{IsPut}
use Rattle.big_assignment.proofs.Sums.{times-add}
use Rattle.big_assignment.proofs.Searches.{fair_price}
use Rattle.definitions.proofs.Cases.{same_or_other}

-- fair prices leave each row content
pub fair_meets : (deal : Deal) (n : ℕ) → IsFair deal n → Meets deal n 1 (price_of deal)
fair_meets deal n f i k il kl = omega (arith, f.covers i k il kl, f.tight i il)

pub below_none : (deal : Deal) (n : ℕ) (p : ℕ → ℕ) → ((k : ℕ) → k ≤ 32 → p k ≡ 0) → IsBelow deal n p
below_none deal n p h d q meets k kl = (let e = ap (λ (z : ℕ). d * z) (h k kl) in omega arith)

-- a column whose price is raised as far as its row wants, where its own costs what it costs at the prices p
pub below_raised : (deal : Deal) (n : ℕ) (p r r' : ℕ → ℕ) (i k x : ℕ) → IsBelow deal n p → IsBelow deal n r → i < n
    → k ≤ 32 → mate_of deal i ≤ 32
    → x + offer_of deal i (mate_of deal i) ≡ offer_of deal i k + p (mate_of deal i) → IsPut r r' k x
    → IsBelow deal n r'
below_raised deal n p r r' i k x h older il kl within e put d q meets l ll = elim (same_or_other l k) [
  | inl same ↦ rw same raised_below
  | inr other ↦
      (let f = ap (λ (z : ℕ). d * z) (put.elsewhere l other) in
      let g = older d q meets l ll in omega arith)
]
  where
    raised_below : d * r' k ≤ q k
    raised_below =
        let a = meets i k il kl in
        let b = h d q meets (mate_of deal i) within in
        let c = ap (λ (z : ℕ). d * z) e in
        let s = times-add d x (offer_of deal i (mate_of deal i)) in
        let t = times-add d (offer_of deal i k) (p (mate_of deal i)) in
        let v = ap (λ (z : ℕ). d * z) put.here in
        omega arith

-- prices below all others are below fair ones
pub below_fair : (deal : Deal) (n : ℕ) (q : ℕ → ℕ) → IsFair deal n → IsBelow deal n q → (k : ℕ) → k ≤ 32
    → q k ≤ price_of deal k
below_fair deal n q f below k kl = omega (arith, below 1 (price_of deal) (fair_meets deal n f) k kl)

-- prices below fair ones that leave each row content are fair
pub least_fair : (deal : Deal) (n : ℕ) (gains prices : List ℕ) → IsFair deal n → IsBelow deal n (slice_index prices)
    → Meets deal n 1 (slice_index prices) → IsGain deal n (slice_index prices) (slice_index gains)
    → IsFair (at_prices deal gains prices) n
least_fair deal n gains prices f below meets gain = record {
  covers = λ i k il kl. (let a = meets i k il kl in let b = gain.adds i il in omega arith);
  tight = λ i il. sym (gain.adds i il);
  within = f.within;
  apart = f.apart;
  sold = λ k kl. elim (f.sold k kl) [
    | inl none ↦ inl (let a = below_fair deal n (slice_index prices) f below k (omega arith) in omega arith)
    | inr held ↦ inr held
  ];
  free =
      (let a = below_fair deal n (slice_index prices) f below 32 (omega arith) in
      omega arith);
}

pub below_small : (deal : Deal) (n : ℕ) (q : ℕ → ℕ) → AreDealOffers deal → n ≤ 32 → IsFair deal n → IsBelow deal n q
    → (k : ℕ) → k ≤ 32 → q k ≤ 2 ^ 40
below_small deal n q o few f below k kl =
    omega (arith, below_fair deal n q f below k kl, fair_price deal n o few f k kl)

pub content_meets : (deal : Deal) (n : ℕ) (q : ℕ → ℕ) → ((i : ℕ) → i < n → NoneWanted deal q i) → Meets deal n 1 q
content_meets deal n q h i k il kl = omega (arith, h i il k kl)

pub gain_less : (deal : Deal) (n : ℕ) (q : ℕ → ℕ) → IsFair deal n → IsBelow deal n q → (i : ℕ) → i < n
    → q (mate_of deal i) ≤ offer_of deal i (mate_of deal i)
gain_less deal n q f below i il =
    omega (arith, below_fair deal n q f below (mate_of deal i) (f.within i il), f.tight i il)
