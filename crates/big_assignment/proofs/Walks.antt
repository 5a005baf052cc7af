-- A free column is handed from parent to parent: each row takes the column and gives up its own, until the row in
-- hand takes one.
use Rattle.std.proofs.Common.{◌≡◌, ◌≢◌, ℕ, ◌+◌, ◌<◌, ◌≤◌, List, Option, sym, ap}
use Rattle.std.proofs.Common.{◌∙◌, inl, inr, arith}
use Rattle.big_assignment.specs.declared.deal.Deal.{Deal}
use Rattle.big_assignment.specs.declared.deal.Search.{Search}
use Rattle.big_assignment.specs.Deals.{IsFair, IsTight, mates, mate_of, with_columns}
use Rattle.big_assignment.specs.Searches.{IsOpen, IsPut, IsSearch, parent_of, rank_of}
use Rattle.definitions.proofs.Cases.{same_or_other}
use Rattle.big_assignment.proofs.Searches.{IsMarked, mark_joined, search_covers}

-- a free column is reached
pub walk_start : (d : Deal) (s t : Search) (n i k : ℕ) → IsSearch d s n → IsMarked d s t n i k → k ≤ 32
    → ((l : ℕ) → l < n → mate_of d l ≡ k → k < 32 → ⊥) → IsOpen d t n k
walk_start d s t n i k h m kl unheld = record {
  covers = search_covers d s n h;
  tight = h.fair.tight;
  within = h.fair.within;
  apart = h.fair.apart;
  sold = λ l lt other. h.fair.sold l lt;
  open_column = unheld;
  free = h.fair.free;
  column = kl;
  ranked = omega arith;
  joined = λ l ll some le. mark_joined d s t n i k h m l ll some;
}

-- what holds of the columns once row r has taken column j, which no row had
module _ (d : Deal) (s : Search) (n j r : ℕ) (columns : List (Option ℕ)) (h : IsOpen d s n j)
    (put : IsPut (mate_of d) (mates columns) r j) where
  taken_tight : IsTight d r j → (i : ℕ) → (i ≢ r → i < n) → IsTight d i (mates columns i)
  taken_tight tight i il = elim (same_or_other i r) [
    | inl same ↦ rw same (rw put.here tight)
    | inr other ↦ rw (put.elsewhere i other) (h.tight i (il other))
  ]

  taken_within : (i : ℕ) → (i ≢ r → i < n) → mates columns i ≤ 32
  taken_within i il = elim (same_or_other i r) [
    | inl same ↦ (let e = ap (mates columns) same ∙ put.here in omega arith)
    | inr other ↦ (let e = put.elsewhere i other in let c = h.within i (il other) in omega arith)
  ]

  taken_apart : (i l : ℕ) → (i ≢ r → i < n) → (l ≢ r → l < n) → mates columns i ≡ mates columns l
      → mates columns i < 32 → i ≡ l
  taken_apart i l il ll e small = elim (same_or_other i r) [
    | inl a ↦ elim (same_or_other l r) [
      | inl b ↦ a ∙ sym b
      | inr b ↦ absurd
          (let f = sym (put.elsewhere l b) ∙ (sym e ∙ ap (mates columns) a ∙ put.here) in
          h.open_column l (ll b) f (let g = ap (mates columns) a ∙ put.here in omega arith))
    ]
    | inr a ↦ elim (same_or_other l r) [
      | inl b ↦ absurd
          (let f = sym (put.elsewhere i a) ∙ (e ∙ ap (mates columns) b ∙ put.here) in
          h.open_column i (il a) f (let g = e ∙ ap (mates columns) b ∙ put.here in omega arith))
      | inr b ↦ h.apart i l (il a) (ll b) (sym (put.elsewhere i a) ∙ e ∙ put.elsewhere l b)
          (let g = put.elsewhere i a in omega arith)
    ]
  ]

-- the parent, which has a column, takes column j
pub walk_on : (d : Deal) (s : Search) (n j : ℕ) (columns : List (Option ℕ)) → IsOpen d s n j → parent_of s j ≢ n
    → IsPut (mate_of d) (mates columns) (parent_of s j) j
    → IsOpen (with_columns d columns) s n (mate_of d (parent_of s j))
    × (rank_of s (mate_of d (parent_of s j)) < rank_of s j) × (parent_of s j < n)
walk_on d s n j columns h ne put = elim (h.joined j h.column h.ranked (omega arith)).earlier [
  | inl e ↦ absurd (ne e)
  | inr e ↦ (open_before e.0 e.1 e.2, e.2, e.0)
]
  where
    open_before : parent_of s j < n → 1 ≤ rank_of s (mate_of d (parent_of s j))
        → rank_of s (mate_of d (parent_of s j)) < rank_of s j
        → IsOpen (with_columns d columns) s n (mate_of d (parent_of s j))
    open_before lt some below = record {
      covers = h.covers;
      tight = λ i il. taken_tight d s n j (parent_of s j) columns h put
          (h.joined j h.column h.ranked (omega arith)).tight i (λ other. il);
      within = λ i il. taken_within d s n j (parent_of s j) columns h put i (λ other. il);
      apart = λ i l il ll. taken_apart d s n j (parent_of s j) columns h put i l (λ other. il) (λ other. ll);
      sold = λ k kl other. elim (same_or_other k j) [
        | inl same ↦ inr (parent_of s j, lt, put.here ∙ sym same)
        | inr ne ↦ elim (h.sold k kl ne) [
          | inl none ↦ inl none
          | inr held ↦ inr
              (held.0, held.1, put.elsewhere held.0 (λ e. other (sym held.2 ∙ ap (mate_of d) e)) ∙ held.2)
        ]
      ];
      open_column = λ i il e small. elim (same_or_other i (parent_of s j)) [
        | inl same ↦ (let f = ap (rank_of s) (sym e ∙ ap (mates columns) same ∙ put.here) in omega arith)
        | inr other ↦ other
            (h.apart i (parent_of s j) il lt (sym (put.elsewhere i other) ∙ e)
            (let f = sym (put.elsewhere i other) ∙ e in omega arith))
      ];
      free = h.free;
      column = h.within (parent_of s j) lt;
      ranked = some;
      joined = λ k kl ranked le. (let a = h.joined k kl ranked (omega arith) in record {
        tight = a.tight;
        earlier = elim a.earlier [
          | inl e ↦ inl e
          | inr e ↦ (let q = same_ranks (parent_of s k) k e.1 e.2 le in inr (e.0, q.0, q.1))
        ];
      });
    }
      where
        same_ranks : (g k : ℕ) → 1 ≤ rank_of s (mate_of d g) → rank_of s (mate_of d g) < rank_of s k
            → rank_of s k ≤ rank_of s (mate_of d (parent_of s j))
            → (1 ≤ rank_of s (mates columns g)) × (rank_of s (mates columns g) < rank_of s k)
        same_ranks g k some less le =
            let same =
            ap (rank_of s)
            (put.elsewhere g (λ e. (let f = ap (λ (z : ℕ). rank_of s (mate_of d z)) e in omega arith)))
            in
            (omega arith, omega arith)

-- the row in hand takes column j
pub walk_end : (d : Deal) (s : Search) (n j : ℕ) (columns : List (Option ℕ)) → IsOpen d s n j → parent_of s j ≡ n
    → IsPut (mate_of d) (mates columns) n j → IsFair (with_columns d columns) (n + 1)
walk_end d s n j columns h e put = record {
  covers = λ i k il kl. h.covers i k (omega arith) kl;
  tight = λ i il. taken_tight d s n j n columns h put
      (rw e at (h.joined j h.column h.ranked (omega arith)).tight) i
      (λ other. omega arith);
  within = λ i il. taken_within d s n j n columns h put i (λ other. omega arith);
  apart = λ i l il ll. taken_apart d s n j n columns h put i l (λ other. omega arith) (λ other. omega arith);
  sold = λ k kl. elim (same_or_other k j) [
    | inl same ↦ inr (n, omega arith, put.here ∙ sym same)
    | inr ne ↦ elim (h.sold k kl ne) [
      | inl none ↦ inl none
      | inr held ↦ inr (
        held.0,
        (omega arith),
        put.elsewhere held.0 (λ e. omega arith) ∙ held.2,
      )
    ]
  ];
  free = h.free;
}
