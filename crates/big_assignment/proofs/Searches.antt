-- The search keeps fair prices: the reached rows give up the least slack, and a place is reached.
--
-- The Hungarian method (Kuhn 1955): buyers join one at a time. The new buyer gains 2^40, more than any offer. From it
-- columns are reached. Among the pairs of a reached row and a column that isn't reached, one lacks least of its worth:
-- the reached rows give up that much, and the prices of the reached columns rise by it (`shift_keeps`). The column is
-- then reached, and so is the row that has it (`mark_keeps`). A column that nobody has is handed back along the way
-- (Walks.antt). Column 32 stands for being alone: nothing is offered for it, it costs nothing, and many rows may have
-- it. Fair prices (`IsFair`) leave each row its best column, and a column without a row costs nothing.
use Rattle.std.proofs.Common.{◌≡◌, ◌≢◌, ◌⊎◌, ℕ, ◌+◌, ◌^◌, ◌<◌, ◌≤◌, List, refl}
use Rattle.std.proofs.Common.{ap, ◌∙◌, inl, inr, arith}
use Rattle.big_assignment.specs.declared.deal.Deal.{Deal}
use Rattle.big_assignment.specs.declared.deal.Search.{Search}
use Rattle.big_assignment.specs.Deals.{AreDealOffers, IsCovered, IsFair, IsTight}
use Rattle.big_assignment.specs.Deals.{at_prices, gain_of, mate_of, offer_of}
use Rattle.big_assignment.specs.Deals.{price_of}
use Rattle.big_assignment.specs.Searches.{IsEarlier, IsJoined, IsNearest, IsPut, IsReached, IsSearch, IsShifted}
use Rattle.big_assignment.specs.Searches.{parent_of, rank_of, unreached}
use Rattle.std.proofs.Common.{slice_index}
use Rattle.definitions.proofs.Cases.{same_or_other, below_or_above}

none_or_some : (x : ℕ) → (x ≡ 0) ⊎ (1 ≤ x)
none_or_some x = grind arith

row_cases : (d : Deal) (s : Search) (n i : ℕ) → i ≤ n
    → IsReached d s n i ⊎ ((i < n) × (rank_of s (mate_of d i) ≡ 0))
row_cases d s n i le = elim (same_or_other i n) [
  | inl same ↦ inl (inl same)
  | inr other ↦ elim (none_or_some (rank_of s (mate_of d i))) [
    | inl none ↦ inr (omega arith, none)
    | inr some ↦ inl (inr (omega arith, some))
  ]
]

pub search_covers : (d : Deal) (s : Search) (n : ℕ) → IsSearch d s n → (i k : ℕ) → i ≤ n → k ≤ 32
    → offer_of d i k ≤ gain_of d i + price_of d k
search_covers d s n h i k il kl = elim (same_or_other i n) [
  | inl same ↦ rw same (h.covers k kl)
  | inr other ↦ h.fair.covers i k (omega arith) kl
]

-- the place of no column has no rank, since it is never taken
pub none_unreached : (d : Deal) (s : Search) (n : ℕ) → IsSearch d s n → rank_of s 32 ≡ 0
none_unreached d s n h = elim (none_or_some (rank_of s 32)) [
  | inl none ↦ none
  | inr some ↦ absurd (omega (arith, (h.taken 32 (omega arith) some).0))
]

-- ---- what the reached rows gain falls by a number, and what the reached places cost rises by it

module _ (d : Deal) (s : Search) (n by : ℕ) (gains prices : List ℕ) (shifted : IsShifted d s n by gains prices) where
  shift_covers : ((i k : ℕ) → i ≤ n → k ≤ 32 → offer_of d i k ≤ gain_of d i + price_of d k)
      → ((i k : ℕ) → i ≤ n → IsReached d s n i → k ≤ 32 → rank_of s k ≡ 0
      → by + offer_of d i k ≤ gain_of d i + price_of d k)
      → (i k : ℕ) → i ≤ n → k ≤ 32 → offer_of d i k ≤ slice_index gains i + slice_index prices k
  shift_covers covers least i k il kl = elim (row_cases d s n i il) [
    | inl reached ↦ elim (none_or_some (rank_of s k)) [
      | inl none ↦
          (let a = shifted.in_row i il reached in
          let b = shifted.out_column k kl none in let c = least i k il reached kl none in omega arith)
      | inr some ↦
          (let a = shifted.in_row i il reached in
          let b = shifted.in_column k kl some in let c = covers i k il kl in omega arith)
    ]
    | inr out ↦ elim (none_or_some (rank_of s k)) [
      | inl none ↦
          (let a = shifted.out_row i out.0 out.1 in
          let b = shifted.out_column k kl none in let c = covers i k il kl in omega arith)
      | inr some ↦
          (let a = shifted.out_row i out.0 out.1 in
          let b = shifted.in_column k kl some in let c = covers i k il kl in omega arith)
    ]
  ]

  shift_tight : IsFair d n → (i : ℕ) → i < n → IsTight (at_prices d gains prices) i (mate_of d i)
  shift_tight f i lt = elim (none_or_some (rank_of s (mate_of d i))) [
    | inl none ↦
        (let a = shifted.out_row i lt none in
        let b = shifted.out_column (mate_of d i) (f.within i lt) none in
        let c = f.tight i lt in omega arith)
    | inr some ↦
        (let a = shifted.in_row i (omega arith) (inr (lt, some)) in
        let b = shifted.in_column (mate_of d i) (f.within i lt) some in
        let c = f.tight i lt in omega arith)
  ]

  pub shift_keeps : IsSearch d s n
      → ((i k : ℕ) → i ≤ n → IsReached d s n i → k ≤ 32 → rank_of s k ≡ 0
      → by + offer_of d i k ≤ gain_of d i + price_of d k)
      → IsSearch (at_prices d gains prices) s n
  shift_keeps h least = record {
    fair = record {
      covers = λ i k il kl. covers i k (omega arith) kl;
      tight = shift_tight h.fair;
      within = h.fair.within;
      apart = h.fair.apart;
      sold = λ k lt. elim (none_or_some (rank_of s k)) [
        | inl none ↦ elim (h.fair.sold k lt) [
          | inl free ↦ inl (shifted.out_column k (omega arith) none ∙ free)
          | inr held ↦ inr held
        ]
        | inr some ↦ inr (h.taken k (omega arith) some).1
      ];
      free = shifted.out_column 32 (omega arith) (none_unreached d s n h) ∙ h.fair.free;
    };
    gain = (let a = shifted.in_row n (omega arith) (inl refl) in omega arith);
    covers = λ k kl. covers n k (omega arith) kl;
    taken = h.taken;
    joined = λ k kl some. (let j = h.joined k kl some in record {
      tight =
          (let a = shifted.in_row (parent_of s k) (parent_within k j.earlier) (parent_reached k j.earlier) in
          let b = shifted.in_column k kl some in omega arith);
      earlier = j.earlier;
    });
    bounded = h.bounded;
    total = h.total;
  }
    where
      covers : (i k : ℕ) → i ≤ n → k ≤ 32 → offer_of d i k ≤ slice_index gains i + slice_index prices k
      covers = shift_covers (search_covers d s n h) least

      parent_within : (k : ℕ) → IsEarlier d s n (parent_of s k) k → parent_of s k ≤ n
      parent_within k (inl e) = omega arith
      parent_within k (inr e) = omega arith

      parent_reached : (k : ℕ) → IsEarlier d s n (parent_of s k) k → IsReached d s n (parent_of s k)
      parent_reached k (inl e) = inl e
      parent_reached k (inr e) = inr (e.0, e.1)

-- ---- place k is reached from row i

-- the place is tight with the row, which is reached
pub record IsMarked (d : Deal) (s t : Search) (n i k : ℕ) : Type 0 where
  pub reached : IsReached d s n i
  pub none : rank_of s k ≡ 0
  pub tight : IsTight d i k
  pub count : t.count ≡ s.count + 1
  pub ranks : IsPut (rank_of s) (rank_of t) k (s.count + 1)
  pub parents : IsPut (parent_of s) (parent_of t) k i
  pub total : t.count + unreached t.ranks ≡ 33

-- the places that are reached then are joined
pub mark_joined : (d : Deal) (s t : Search) (n i k : ℕ) → IsSearch d s n → IsMarked d s t n i k → (l : ℕ) → l ≤ 32
    → 1 ≤ rank_of t l → IsJoined d t n l
mark_joined d s t n i k h m l ll some = elim (same_or_other l k) [
  | inl same ↦ rw same place_joined
  | inr other ↦ still_joined (rw (m.ranks.elsewhere l other) at some) other
]
  where
    -- a row that was reached before has the same rank
    same_rank : (g : ℕ) → 1 ≤ rank_of s (mate_of d g) → rank_of t (mate_of d g) ≡ rank_of s (mate_of d g)
    same_rank g some = m.ranks.elsewhere (mate_of d g) (λ e. (let z = ap (rank_of s) e ∙ m.none in omega arith))

    earlier_of : IsReached d s n i → IsEarlier d t n i k
    earlier_of (inl e) = inl e
    earlier_of (inr e) =
        let same = same_rank i e.1 in
        let b = h.bounded (mate_of d i) (h.fair.within i e.0) in
        inr (e.0, (omega arith), omega arith)

    place_joined : IsJoined d t n k
    place_joined = record {
      tight = rw m.parents.here m.tight;
      earlier = rw m.parents.here (earlier_of m.reached);
    }

    still_earlier : (g : ℕ) → rank_of t l ≡ rank_of s l → IsEarlier d s n g l → IsEarlier d t n g l
    still_earlier g e (inl a) = inl a
    still_earlier g e (inr a) =
        let same = same_rank g a.1 in
        inr (a.0, (omega arith), (omega arith))

    still_joined : 1 ≤ rank_of s l → l ≢ k → IsJoined d t n l
    still_joined some other =
        let j = h.joined l ll some in
        record {
          tight = rw (m.parents.elsewhere l other) j.tight;
          earlier =
              rw (m.parents.elsewhere l other)
              (still_earlier (parent_of s l) (m.ranks.elsewhere l other) j.earlier);
        }

-- a column that is held is reached
pub mark_keeps : (d : Deal) (s t : Search) (n i k : ℕ) → IsSearch d s n → IsMarked d s t n i k → k < 32
    → (l : ℕ) × (l < n) × (mate_of d l ≡ k) → IsSearch d t n
mark_keeps d s t n i k h m kl held = record {
  fair = h.fair;
  gain = h.gain;
  covers = h.covers;
  taken = λ l ll some. elim (same_or_other l k) [
    | inl same ↦ rw same (kl, held)
    | inr other ↦ h.taken l ll (rw (m.ranks.elsewhere l other) at some)
  ];
  joined = mark_joined d s t n i k h m;
  bounded = λ l ll. (elim (same_or_other l k) [
    | inl same ↦ (let e = ap (rank_of t) same ∙ m.ranks.here in omega arith)
    | inr other ↦ (let e = m.ranks.elsewhere l other in let b = h.bounded l ll in omega arith)
  ]);
  total = m.total;
}

-- ---- sizes

pub fair_gain : (d : Deal) (n : ℕ) → AreDealOffers d → n ≤ 32 → IsFair d n → (i : ℕ) → i < n → gain_of d i ≤ 2 ^ 40
fair_gain d n o few f i lt = omega (arith, f.tight i lt, o.small i (mate_of d i) (omega arith) (f.within i lt))

pub fair_price : (d : Deal) (n : ℕ) → AreDealOffers d → n ≤ 32 → IsFair d n → (k : ℕ) → k ≤ 32
    → price_of d k ≤ 2 ^ 40
fair_price d n o few f k kl = elim (below_or_above k 32) [
  | inl lt ↦ elim (f.sold k lt) [
    | inl none ↦ omega arith
    | inr held ↦ price held.0 held.1 held.2
  ]
  | inr ge ↦ (let e : k ≡ 32 = omega arith in let z = ap (price_of d) e ∙ f.free in omega arith)
]
  where
    price : (i : ℕ) → i < n → mate_of d i ≡ k → price_of d k ≤ 2 ^ 40
    price i lt e =
        let a = f.tight i lt in
        let b = o.small i (mate_of d i) (omega arith) (f.within i lt) in
        let c = ap (price_of d) e in
        omega arith

-- ---- the least slack

-- a reached row gains at least the least slack
pub slack_enough : (d : Deal) (s : Search) (n by r c : ℕ) → AreDealOffers d → n < 32 → IsSearch d s n
    → IsNearest d s n r c → by + offer_of d r c ≡ gain_of d r + price_of d c → (i : ℕ) → i ≤ n
    → IsReached d s n i → by ≤ gain_of d i
slack_enough d s n by r c o few h near e i il reached =
    let a = near.least i 32 il reached (omega arith) (none_unreached d s n h) in
    let z = o.nothing i (omega arith) in
    omega arith

pub slack_covers : (d : Deal) (s : Search) (n by r c : ℕ) → IsNearest d s n r c
    → by + offer_of d r c ≡ gain_of d r + price_of d c → (i k : ℕ) → i ≤ n → IsReached d s n i → k ≤ 32
    → rank_of s k ≡ 0 → by + offer_of d i k ≤ gain_of d i + price_of d k
slack_covers d s n by r c near slack i k row reached column none =
    omega (arith, near.least i k row reached column none)

pub search_covered : (d : Deal) (s : Search) (n : ℕ) → AreDealOffers d → n < 32 → IsSearch d s n → IsCovered d n
search_covered d s n offers rows search =
    let few : n ≤ 32 = omega arith in
    record {
      covers = search_covers d s n search;
      gains = λ i le. elim (below_or_above i n) [
        | inl lt ↦ fair_gain d n offers few search.fair i lt
        | inr ge ↦ rw (let e : n ≡ i = omega arith in e) at search.gain
      ];
      prices = fair_price d n offers few search.fair;
    }
