-- Best for one side: what a core point gives the columns, over its denominator, leaves each row content with its
-- mate, so the least such prices are no higher, and each row gets the most.
use Rattle.std.proofs.Common.{◌≡◌, ◌≢◌, ℕ, ◌+◌, ◌*◌, ◌<◌, ◌≤◌, nat_lt, List, slice_index}
use Rattle.std.proofs.Common.{refl, ap}
use Rattle.std.proofs.Common.{◌∙◌, inl, inr, arith, if◌then◌else◌}
use Rattle.definitions.specs.Classes.{Matrix}
use Rattle.big_assignment.specs.declared.deal.Deal.{Deal}
use Rattle.big_assignment.specs.Deals.{IsBelow, IsFair, IsOutside, IsTurned, Meets, at_prices, mate_of, offer_of}
use Rattle.definitions.proofs.Cases.{below_or_above, nat_lt-less, nat_lt-past}
use Rattle.big_assignment.proofs.Sums.{PairsGet, times-add}
use Rattle.big_assignment.proofs.Supports.{IsTableOf}

-- what a core point y over d does with the mates of an optimal matching
pub record IsCoreAt (matrix : Matrix) (rows columns : ℕ) (mate : ℕ → ℕ) (d : ℕ) (y : ℕ → ℕ) : Type 0 where
  pub get : PairsGet matrix rows columns d y
  pub tight : (i : ℕ) → i < rows → mate i < columns → d * matrix i (mate i) ≡ y i + y (rows + mate i)
  pub alone : (i : ℕ) → i < rows → columns ≤ mate i → y i ≡ 0
  pub unsold : (j : ℕ) → j < columns → ((i : ℕ) → i < rows → mate i ≢ j) → y (rows + j) ≡ 0

-- f below n, and 0 from there on
abbrev pub only_below : ℕ → (ℕ → ℕ) → ℕ → ℕ
only_below n f k = if nat_lt k n then f k else 0

only-inside : (n : ℕ) (f : ℕ → ℕ) (k : ℕ) → k < n → only_below n f k ≡ f k
only-inside n f k lt = rw (nat_lt-less k n lt) refl

only-outside : (n : ℕ) (f : ℕ → ℕ) (k : ℕ) → n ≤ k → only_below n f k ≡ 0
only-outside n f k ge = rw (nat_lt-past k n ge) refl

times-zero : (d x : ℕ) → x ≡ 0 → d * x ≡ 0
times-zero d x e = ap (λ (z : ℕ). d * z) e ∙ omega arith

times-same : (d x z : ℕ) → x ≡ z → d * x ≡ d * z
times-same d x z e = ap (λ (k : ℕ). d * k) e

pub buyers_meet : (deal : Deal) (matrix : Matrix) (rows columns d : ℕ) (y : ℕ → ℕ)
    → IsTableOf (offer_of deal) matrix rows columns → IsCoreAt matrix rows columns (mate_of deal) d y
    → Meets deal rows d (only_below columns (λ j. y (rows + j)))
buyers_meet deal matrix rows columns d y t c i k il kl = elim (below_or_above (mate_of deal i) columns) [
  | inl mated ↦ elim (below_or_above k columns) [
    | inl inside ↦ (let a = c.tight i il mated in let b = c.get i k il inside in
        let e = times_offer (mate_of deal i) mated in
        let g = times_offer k inside in
        let v = only-inside columns (λ j. y (rows + j)) (mate_of deal i) mated in
        let w = only-inside columns (λ j. y (rows + j)) k inside in
        omega arith)
    | inr outside ↦ (let a = c.tight i il mated in
        let e = times_offer (mate_of deal i) mated in
        let g = times-zero d (offer_of deal i k) (t.beside i k il outside kl) in
        let v = only-inside columns (λ j. y (rows + j)) (mate_of deal i) mated in
        omega arith)
  ]
  | inr alone ↦
      (let v = only-outside columns (λ j. y (rows + j)) (mate_of deal i) alone in
      let z = c.alone i il alone in elim (below_or_above k columns) [
        | inl inside ↦
            (let b = c.get i k il inside in let g = times_offer k inside in
            let w = only-inside columns (λ j. y (rows + j)) k inside in
            omega arith)
        | inr outside ↦
            (let g = times-zero d (offer_of deal i k) (t.beside i k il outside kl) in omega arith)
      ])
]
  where
    times_offer : (j : ℕ) → j < columns → d * offer_of deal i j ≡ d * matrix i j
    times_offer j jl = times-same d (offer_of deal i j) (matrix i j) (t.inside i j il jl)

pub buyers_best : (deal : Deal) (matrix : Matrix) (rows columns d : ℕ) (v q : List ℕ) (y : ℕ → ℕ)
    → IsTableOf (offer_of deal) matrix rows columns → IsFair (at_prices deal v q) rows
    → IsBelow deal rows (slice_index q) → IsCoreAt matrix rows columns (mate_of deal) d y → (i : ℕ) → i < rows
    → y i ≤ d * slice_index v i
buyers_best deal matrix rows columns d v q y t g below c i il = elim (below_or_above (mate_of deal i) columns) [
  | inl mated ↦
      (let k = mate_of deal i in
      let a = c.tight i il mated in
      let b =
      below d (only_below columns (λ j. y (rows + j))) (buyers_meet deal matrix rows columns d y t c) k
      (g.within i il) in
      let e = times-same d (offer_of deal i k) (slice_index v i + slice_index q k) (g.tight i il) in
      let m = times-same d (offer_of deal i k) (matrix i k) (t.inside i k il mated) in
      let s = times-add d (slice_index v i) (slice_index q k) in
      let o = only-inside columns (λ j. y (rows + j)) k mated in
      omega arith)
  | inr alone ↦ omega (arith, c.alone i il alone)
]

-- a deal t with rows and columns exchanged
module _ (deal : Deal) (matrix : Matrix) (rows columns d : ℕ) (t : Deal) (y : ℕ → ℕ)
    (b : IsTableOf (offer_of deal) matrix rows columns) (out : IsOutside (offer_of deal) rows columns)
    (h : IsTurned deal rows columns t) (c : IsCoreAt matrix rows columns (mate_of deal) d y) where
  -- what column j asks of row k
  asked : (j k : ℕ) → j < columns → k < rows → d * offer_of t j k ≡ d * matrix k j
  asked j k jl lt =
      (times-same d (offer_of t j k) (matrix k j)
      (h.offers j k (omega arith) (omega arith) ∙ b.inside k j lt jl))

  asked_beside : (j k : ℕ) → j < columns → rows ≤ k → k ≤ 32 → d * offer_of t j k ≡ 0
  asked_beside j k jl ge kl = (elim (below_or_above k 32) [
    | inl lt ↦ times-zero d (offer_of t j k)
        (h.offers j k (omega arith) lt ∙ out k j lt (omega arith) (inl ge))
    | inr last ↦ times-zero d (offer_of t j k)
        (let e : k ≡ 32 = omega arith in ap (offer_of t j) e ∙ h.none j (omega arith))
  ])

  -- what the row that has column j gets, beside what the column gets
  holder_tight : (j : ℕ) → j < columns → mate_of t j < rows → mate_of deal (mate_of t j) ≡ j
      → d * matrix (mate_of t j) j ≡ y (mate_of t j) + y (rows + j)
  holder_tight j jl lt e = rw e at (c.tight (mate_of t j) lt (omega arith))

  pub sellers_meet : Meets t columns d (only_below rows y)
  sellers_meet j k jl kl = elim (h.holds j jl) [
    | inl held ↦ with_holder held.0 held.1
    | inr none ↦ without none.0 none.1
  ]
    where
      with_holder : mate_of t j < rows → mate_of deal (mate_of t j) ≡ j
          → d * offer_of t j k + only_below rows y (mate_of t j)
          ≤ d * offer_of t j (mate_of t j) + only_below rows y k
      with_holder lt e =
          let a = holder_tight j jl lt e in
          let own = asked j (mate_of t j) jl lt in
          let o = only-inside rows y (mate_of t j) lt in
          elim (below_or_above k rows) [
            | inl inside ↦
                (let g = c.get k j inside jl in
                let s = asked j k jl inside in
                let w = only-inside rows y k inside in omega arith)
            | inr outside ↦ (let s = asked_beside j k jl outside kl in omega arith)
          ]

      without : mate_of t j ≡ 32 → ((l : ℕ) → l < rows → mate_of deal l ≢ j)
          → d * offer_of t j k + only_below rows y (mate_of t j)
          ≤ d * offer_of t j (mate_of t j) + only_below rows y k
      without e none =
          let z = c.unsold j jl none in
          let o = only-outside rows y (mate_of t j) (omega arith) in
          elim (below_or_above k rows) [
            | inl inside ↦
                (let g = c.get k j inside jl in
                let s = asked j k jl inside in
                let w = only-inside rows y k inside in omega arith)
            | inr outside ↦ (let s = asked_beside j k jl outside kl in omega arith)
          ]

  pub sellers_best : (v q : List ℕ) → IsFair (at_prices t v q) columns → IsBelow t columns (slice_index q)
      → (j : ℕ) → j < columns → y (rows + j) ≤ d * slice_index v j
  sellers_best v q g below j jl = elim (h.holds j jl) [
    | inl held ↦ sold held.0 held.1
    | inr none ↦ omega (arith, c.unsold j jl none.1)
  ]
    where
      sold : mate_of t j < rows → mate_of deal (mate_of t j) ≡ j → y (rows + j) ≤ d * slice_index v j
      sold lt e =
          let i = mate_of t j in
          let a = holder_tight j jl lt e in
          let own = asked j i jl lt in
          let under = below d (only_below rows y) sellers_meet i (omega arith) in
          let o = only-inside rows y i lt in
          let s = times-same d (offer_of t j i) (slice_index v j + slice_index q i) (g.tight j jl) in
          let r = times-add d (slice_index v j) (slice_index q i) in
          omega arith
