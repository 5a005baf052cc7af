-- Rounds in which each row has its turn: in each, one price more gets as high as the least one at which each row is
-- content. So there are at most as many rounds as places.
--
-- There are least prices, since prices stay below the fair ones that are known (`least_from`). Each round settles one
-- more price, if one is left (`settles`). Otherwise prices that are 1 less at all columns that aren't settled would
-- leave each row content too (`lowered_meet`), and be below the least.
use Rattle.std.proofs.Common.{◌≡◌, ◌≢◌, ◌⊎◌, ℕ, zero, suc, ◌+◌, ◌-◌, ◌<◌, ◌≤◌, nat_eq, if◌then◌else◌}
use Rattle.std.proofs.Common.{refl, subst, ◌∙◌, inl, inr, arith}
use Rattle.definitions.proofs.Cases.{same_or_other, less_or_last, last_or_less_of, below_or_above}
use Rattle.definitions.proofs.Cases.{nat_eq-same, nat_eq-other}
use Rattle.big_assignment.specs.declared.deal.Deal.{Deal}
use Rattle.big_assignment.specs.Deals.{IsBelow, IsContentAt, IsFair, Meets, NoneWanted, mate_of, offer_of, price_of}
use Rattle.big_assignment.specs.Mates.{total_below}
use Rattle.big_assignment.specs.Searches.{IsPut}
use Rattle.big_assignment.proofs.Leasts.{below_raised, below_fair}

-- ---- numbers below another

-- each of them is one thing, or one is another
search_below : (P Q : ℕ → Type 0) → ((k : ℕ) → P k ⊎ Q k) → (n : ℕ)
    → ((k : ℕ) → k < n → P k) ⊎ ((k : ℕ) × (k < n) × Q k)
search_below P Q test zero = inl (λ k lt. absurd (omega arith))
search_below P Q test (suc n) = elim (search_below P Q test n) [
  | inl all ↦ elim (test n) [
    | inl here ↦ inl (λ k lt. elim (less_or_last k n lt) [
      | inl less ↦ all k less
      | inr same ↦ rw same here
    ])
    | inr found ↦ inr (n, omega arith, found)
  ]
  | inr (k, lt, found) ↦ inr (k, omega arith, found)
]

total_more : (n : ℕ) (f g : ℕ → ℕ) → ((k : ℕ) → k < n → f k ≤ g k) → total_below n f ≤ total_below n g
total_more zero f g h = omega arith
total_more (suc n) f g h =
    let rest = total_more n f g (λ k lt. h k (omega arith)) in
    let last = h n (omega arith) in
    omega arith

total_less : (n : ℕ) (f g : ℕ → ℕ) (j : ℕ) → ((k : ℕ) → k < n → f k ≤ g k) → j < n → f j < g j
    → total_below n f < total_below n g
total_less zero f g j h lt less = absurd (omega arith)
total_less (suc n) f g j h lt less = elim (less_or_last j n lt) [
  | inl before ↦
      let rest = total_less n f g j (λ k lt. h k (omega arith)) before less in
      let last = h n (omega arith) in
      omega arith
  | inr same ↦
      let rest = total_more n f g (λ k lt. h k (omega arith)) in
      let last : f n < g n = rw same at less in
      omega arith
]

total_none : (n : ℕ) (f : ℕ → ℕ) → total_below n f ≡ 0 → (k : ℕ) → k < n → f k ≡ 0
total_none zero f e k lt = absurd (omega arith)
total_none (suc n) f e k lt = elim (less_or_last k n lt) [
  | inl before ↦ total_none n f (omega arith) k before
  | inr same ↦ rw same (omega arith)
]

total_few : (n : ℕ) (f : ℕ → ℕ) → ((k : ℕ) → f k ≤ 1) → total_below n f ≤ n
total_few zero f h = omega arith
total_few (suc n) f h = omega (arith, total_few n f h, h n)

-- ---- how many prices are not yet as high as others

abbrev pub differ : ℕ → ℕ → ℕ
differ a b = if nat_eq a b then 0 else 1

differ-same : (a b : ℕ) → a ≡ b → differ a b ≡ 0
differ-same a b e = subst (λ (c : ℕ). differ a c ≡ 0) e (rw (nat_eq-same a) refl)

differ-other : (a b : ℕ) → a ≢ b → differ a b ≡ 1
differ-other a b ne = rw (nat_eq-other a b ne) refl

differ-few : (a b : ℕ) → differ a b ≤ 1
differ-few a b = elim (same_or_other a b) [
  | inl same ↦ omega (arith, differ-same a b same)
  | inr other ↦ omega (arith, differ-other a b other)
]

from_differ : (a b : ℕ) → differ a b ≡ 0 → a ≡ b
from_differ a b e = elim (same_or_other a b) [
  | inl same ↦ same
  | inr other ↦ absurd (omega (arith, differ-other a b other))
]

-- a number between two differs from the greater only where the lesser does
differ-between : (a c b : ℕ) → a ≤ c → c ≤ b → differ c b ≤ differ a b
differ-between a c b low high = elim (same_or_other a b) [
  | inl same ↦ omega (arith, differ-same c b (omega arith))
  | inr other ↦ omega (arith, differ-other a b other, differ-few c b)
]

unfoldable pub unsettled : (ℕ → ℕ) → (ℕ → ℕ) → ℕ
unsettled p q = total_below 33 (λ k. differ (p k) (q k))

pub unsettled_few : (p q : ℕ → ℕ) → unsettled p q ≤ 33
unfolding unsettled
unsettled_few p q = total_few 33 (λ k. differ (p k) (q k)) (λ k. differ-few (p k) (q k))

pub settled : (p q : ℕ → ℕ) → unsettled p q ≡ 0 → (k : ℕ) → k ≤ 32 → p k ≡ q k
unfolding unsettled
settled p q e k kl = from_differ (p k) (q k) (total_none 33 (λ k. differ (p k) (q k)) e k (omega arith))

-- ---- there are least prices

abbrev IsWantedAt : Deal → (ℕ → ℕ) → ℕ → ℕ → Type 0
IsWantedAt deal p i k = offer_of deal i (mate_of deal i) + p k < offer_of deal i k + p (mate_of deal i)

abbrev IsNotWantedAt : Deal → (ℕ → ℕ) → ℕ → ℕ → Type 0
IsNotWantedAt deal p i k = offer_of deal i k + p (mate_of deal i) ≤ offer_of deal i (mate_of deal i) + p k

at_most_or_above : (a b : ℕ) → (a ≤ b) ⊎ (b < a)
at_most_or_above a b = elim (below_or_above b a) [ inl less ↦ inr less | inr le ↦ inl le ]

wanted_or_none : (deal : Deal) (n : ℕ) (p : ℕ → ℕ)
    → ((i : ℕ) → i < n → (k : ℕ) → k < 33 → IsNotWantedAt deal p i k)
    ⊎ ((i : ℕ) × (i < n) × ((k : ℕ) × (k < 33) × IsWantedAt deal p i k))
wanted_or_none deal n p =
    search_below (λ i. (k : ℕ) → k < 33 → IsNotWantedAt deal p i k)
    (λ i. (k : ℕ) × (k < 33) × IsWantedAt deal p i k)
    (λ i. search_below (IsNotWantedAt deal p i) (IsWantedAt deal p i)
    (λ k. at_most_or_above (offer_of deal i k + p (mate_of deal i)) (offer_of deal i (mate_of deal i) + p k)) 33) n

-- one place has another number
replaced : (ℕ → ℕ) → ℕ → ℕ → ℕ → ℕ
replaced p k x l = if nat_eq l k then x else p l

replaced_put : (p : ℕ → ℕ) (k x : ℕ) → IsPut p (replaced p k x) k x
unfolding replaced
replaced_put p k x = record {
  here = rw (nat_eq-same k) refl;
  elsewhere = λ l ne. rw (nat_eq-other l k ne) refl;
}

-- how much prices may rise to those of the deal
room : Deal → (ℕ → ℕ) → ℕ
room deal p = total_below 33 (λ k. price_of deal k - p k)

room_less : (deal : Deal) (p p' : ℕ → ℕ) (k x : ℕ) → IsPut p p' k x → k < 33 → p k < x → x ≤ price_of deal k
    → room deal p' < room deal p
unfolding room
room_less deal p p' k x put lt more le =
    total_less 33 (λ l. price_of deal l - p' l) (λ l. price_of deal l - p l) k
    (λ l ll. elim (same_or_other l k) [
      | inl same ↦ rw same (omega arith)
      | inr other ↦ omega (arith, put.elsewhere l other)
    ])
    lt (omega arith)

abbrev pub AreLeastPrices : Deal → ℕ → (ℕ → ℕ) → Type 0
AreLeastPrices deal n q = IsBelow deal n q × Meets deal n 1 q

-- prices are the least ones, or some price may rise
least_or_more : (deal : Deal) (n : ℕ) (p : ℕ → ℕ) → IsFair deal n → IsBelow deal n p
    → AreLeastPrices deal n p ⊎ ((p' : ℕ → ℕ) × IsBelow deal n p' × (room deal p' < room deal p))
least_or_more deal n p f below = elim (wanted_or_none deal n p) [
  | inl none ↦ inl (below, λ i k il kl. omega (arith, none i il k (omega arith)))
  | inr (i, il, (k, lt, wanted)) ↦
      let x = offer_of deal i k + p (mate_of deal i) - offer_of deal i (mate_of deal i) in
      let price : x + offer_of deal i (mate_of deal i) ≡ offer_of deal i k + p (mate_of deal i) =
      omega arith in
      let put = replaced_put p k x in
      let lower =
      below_raised deal n p p (replaced p k x) i k x below below il (omega arith) (f.within i il) price put in
      let most = below_fair deal n (replaced p k x) f lower k (omega arith) in
      let less =
      room_less deal p (replaced p k x) k x put lt (omega arith) (omega arith) in
      inr (replaced p k x, lower, less)
]

least_from : (deal : Deal) (n fuel : ℕ) (p : ℕ → ℕ) → IsFair deal n → IsBelow deal n p → room deal p ≤ fuel
    → (q : ℕ → ℕ) × AreLeastPrices deal n q
least_from deal n zero p f below enough = elim (least_or_more deal n p f below) [
  | inl least ↦ (p, least)
  | inr (p', lower, less) ↦ absurd (omega arith)
]
least_from deal n (suc fuel) p f below enough = elim (least_or_more deal n p f below) [
  | inl least ↦ (p, least)
  | inr (p', lower, less) ↦ least_from deal n fuel p' f lower (omega arith)
]

-- ---- a turn

-- the prices r where row i had its turn at the places below k, from the prices p on
pub record IsTurnTo (deal : Deal) (n i k : ℕ) (p r : ℕ → ℕ) : Type 0 where
  pub below : IsBelow deal n r
  pub more : (j : ℕ) → j ≤ 32 → p j ≤ r j
  pub rest : (j : ℕ) → k ≤ j → j ≤ 32 → r j ≡ p j
  pub content : (j : ℕ) → j < k → offer_of deal i j + p (mate_of deal i) ≤ offer_of deal i (mate_of deal i) + r j

module _ (deal : Deal) (n i k : ℕ) (p r : ℕ → ℕ) (kl : k ≤ 32) (turn : IsTurnTo deal n i k p r) where
  -- a place that the row would rather have
  pub turn_raised : (x : ℕ) (r' : ℕ → ℕ) → IsFair deal n → IsBelow deal n p → i < n
      → x + offer_of deal i (mate_of deal i) ≡ offer_of deal i k + p (mate_of deal i) → p k ≤ x → IsPut r r' k x
      → IsTurnTo deal n i (k + 1) p r'
  turn_raised x r' f below il price more put = record {
    below = below_raised deal n p r r' i k x below turn.below il kl (f.within i il) price put;
    more = λ j jl. elim (same_or_other j k) [
      | inl same ↦ rw same (omega arith)
      | inr other ↦ (let e = put.elsewhere j other in let h = turn.more j jl in omega arith)
    ];
    rest = λ j lower jl.
        put.elsewhere j (λ (same : j ≡ k). omega arith) ∙ turn.rest j (omega arith) jl;
    content = λ j lt. elim (last_or_less_of j k lt) [
      | inl same ↦
          rw same (omega arith)
      | inr before ↦
          (let e = put.elsewhere j (λ (same : j ≡ k). omega arith) in
          let h = turn.content j before in omega arith)
    ];
  }

  -- a place that it would rather not have
  pub turn_passed : offer_of deal i k + p (mate_of deal i) ≤ offer_of deal i (mate_of deal i) + p k
      → IsTurnTo deal n i (k + 1) p r
  turn_passed enough = record {
    below = turn.below;
    more = turn.more;
    rest = λ j lower jl. turn.rest j (omega arith) jl;
    content = λ j lt. elim (last_or_less_of j k lt) [
      | inl same ↦
          rw same (omega (arith, turn.rest k (omega arith) kl))
      | inr before ↦ turn.content j before
    ];
  }

-- ---- a round

module _ (deal : Deal) (n : ℕ) (p p' q : ℕ → ℕ) (low : IsBelow deal n q) (meets : Meets deal n 1 q)
    (more : (k : ℕ) → k ≤ 32 → p k ≤ p' k) (less : (k : ℕ) → k ≤ 32 → p' k ≤ q k)
    (content : (i : ℕ) → i < n → IsContentAt deal p p' i) (within : (i : ℕ) → i < n → mate_of deal i ≤ 32) where
  -- prices that are 1 lower wherever p isn't as high yet
  abbrev lowered : ℕ → ℕ
  lowered k = q k - differ (p k) (q k)

  not_lowered : (k : ℕ) → p k ≡ q k → lowered k ≡ q k
  not_lowered k e = omega (arith, differ-same (p k) (q k) e)

  lowered_by_one : (k : ℕ) → p k ≢ q k → lowered k ≡ q k - 1
  lowered_by_one k ne = omega (arith, differ-other (p k) (q k) ne)

  -- where a round settles none, they leave each row content
  lowered_meet : ((k : ℕ) → k < 33 → (p k ≡ q k) ⊎ (p' k ≢ q k)) → Meets deal n 1 lowered
  lowered_meet none i k il kl =
      let m = mate_of deal i in
      let ml = within i il in
      let h = meets i k il kl in
      let le = less k kl in
      let le_own = less m ml in
      let up = more k kl in
      let up_own = more m ml in
      elim (same_or_other (p k) (q k)) [
        | inl same ↦
            let here = not_lowered k same in
            omega arith
        | inr other ↦
            let here = lowered_by_one k other in
            elim (same_or_other (p m) (q m)) [
              | inl own_same ↦
                  let own = not_lowered m own_same in
                  let c = content i il k kl in
                  elim (none k (omega arith)) [
                    | inl same ↦ absurd (other same)
                    | inr not_yet ↦ omega arith
                  ]
              | inr own_other ↦
                  let own = lowered_by_one m own_other in
                  omega arith
            ]
      ]

  -- a round settles one more, if that leaves any
  pub settles : (unsettled p' q ≡ 0) ⊎ (unsettled p' q < unsettled p q)
  unfolding unsettled
  settles = elim (search_below (λ k. (p k ≡ q k) ⊎ (p' k ≢ q k)) (λ k. (p k ≢ q k) × (p' k ≡ q k)) newly 33) [
    | inr (k, lt, (other, same)) ↦ inr
        (total_less 33 (λ k. differ (p' k) (q k)) (λ k. differ (p k) (q k)) k still lt
        (omega (arith, differ-other (p k) (q k) other, differ-same (p' k) (q k) same)))
    | inl none ↦ elim (search_below (λ k. differ (p k) (q k) ≡ 0) (λ k. p k ≢ q k) settled_or_not 33) [
      | inl all ↦ inl
          (all_none 33 (λ k. differ (p' k) (q k))
          (λ k lt. let none = all k lt in let less = still k lt in omega arith))
      | inr (k, lt, other) ↦
          let kl : k ≤ 32 = omega arith in
          let h = low 1 lowered (lowered_meet none) k kl in
          let here = lowered_by_one k other in
          let up = more k kl in
          let le = less k kl in
          absurd (omega arith)
    ]
  ]
    where
      newly : (k : ℕ) → ((p k ≡ q k) ⊎ (p' k ≢ q k)) ⊎ ((p k ≢ q k) × (p' k ≡ q k))
      newly k = elim (same_or_other (p k) (q k)) [
        | inl same ↦ inl (inl same)
        | inr other ↦ elim (same_or_other (p' k) (q k)) [
          | inl now ↦ inr (other, now)
          | inr never ↦ inl (inr never)
        ]
      ]

      still : (k : ℕ) → k < 33 → differ (p' k) (q k) ≤ differ (p k) (q k)
      still k lt = differ-between (p k) (p' k) (q k) (more k (omega arith)) (less k (omega arith))

      settled_or_not : (k : ℕ) → (differ (p k) (q k) ≡ 0) ⊎ (p k ≢ q k)
      settled_or_not k = elim (same_or_other (p k) (q k)) [
        | inl same ↦ inl (differ-same (p k) (q k) same)
        | inr other ↦ inr other
      ]

      all_none : (n : ℕ) (f : ℕ → ℕ) → ((k : ℕ) → k < n → f k ≡ 0) → total_below n f ≡ 0
      all_none zero f h = refl
      all_none (suc n) f h =
          let rest = all_none n f (λ k lt. h k (omega arith)) in
          let last = h n (omega arith) in
          omega arith

-- prices below all that leave each row content are at most the least ones
pub below_least : (deal : Deal) (n : ℕ) (p q : ℕ → ℕ) → IsBelow deal n p → Meets deal n 1 q → (k : ℕ) → k ≤ 32
    → p k ≤ q k
below_least deal n p q below meets k kl = omega (arith, below 1 q meets k kl)

-- after so many rounds as there are places each row is content
pub content_at_last : (deal : Deal) (n : ℕ) (p : ℕ → ℕ) → IsFair deal n → IsBelow deal n p
    → ((q : ℕ → ℕ) → AreLeastPrices deal n q → unsettled p q + 33 ≤ 33) → (i : ℕ) → i < n → mate_of deal i ≤ 32
    → NoneWanted deal p i
content_at_last deal n p f below left i il within k kl =
    let (q, least) = least_from deal n (room deal p) p f below (omega arith) in
    let same = settled p q (omega (arith, left q least)) in
    omega (arith, same k kl, same (mate_of deal i) within, least.1 i k il kl)
