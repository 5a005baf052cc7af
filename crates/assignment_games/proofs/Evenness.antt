-- Rows that make a game of buyers and sellers, whatever numbers of them are allowed, and those of assignment games.
use Rattle.std.proofs.Common.{◌≡◌, ℕ, ◌+◌, ◌-◌, ◌^◌, ◌<◌, ◌≤◌, ◌⊎◌, Bool, true}
use Rattle.std.proofs.Common.{false, IsTrue, List, length}
use Rattle.std.proofs.Common.{map, ℤ, get_or, inl, inr, sym, ap, subst, ◌∙◌, arith}
use Rattle.std.proofs.lemmas.List.{length-map}
use Rattle.std.proofs.lemmas.Bool.{false≢true}
use Rattle.matrices.specs.Rows.{entries_of, HaveEntries, HaveLength}
use Rattle.matrices.proofs.Rows.{row_read}
use Rattle.assignment_games.specs.Assignments.{HasSides, IsFilled, seller_count, IsEven}

-- what the tests of rows tell
module _ {X : Type 0} (f : X → List ℤ) (xs : List X) where
  -- the sellers are those of the first row
  pub sellers_counted : (p q : ℕ) (v : X) → p ≡ length xs → 1 ≤ p → v ≡ get_or xs 0 v → q ≡ length (f v)
      → q ≡ seller_count (map f xs)
  sellers_counted p q v rows some first columns =
      columns ∙ ap (λ (r : List ℤ). length r) (row_read f xs 0 v (omega (arith, rows, some)) first)

  pub good_entries : (b : Bool) (ys : List X) → ys ≡ xs → b ≡ true → (IsTrue b → HaveEntries (map f ys))
      → HaveEntries (map f xs)
  good_entries b ys e passed entries = subst (λ (l : List X). HaveEntries (map f l)) e (entries passed)

  pub bad_entries : (b : Bool) (ys : List X) → ys ≡ xs → b ≡ false → (HaveEntries (map f ys) → IsTrue b)
      → ¬ HaveEntries (map f xs)
  bad_entries b ys e failed entries =
      λ h. false≢true (sym failed ∙ entries (subst (λ (l : List X). HaveEntries (map f l)) (sym e) h))

  pub good_lengths : (q : ℕ) (d : Bool) (zs : List X) → q ≡ seller_count (map f xs) → zs ≡ xs → d ≡ true
      → (IsTrue d → HaveLength q (map f zs)) → IsEven (map f xs)
  good_lengths q d zs sellers e passed even =
      subst (λ (k : ℕ). HaveLength k (map f xs)) sellers
      (subst (λ (l : List X). HaveLength q (map f l)) e (even passed))

  pub bad_lengths : (q : ℕ) (d : Bool) (zs : List X) → q ≡ seller_count (map f xs) → zs ≡ xs → d ≡ false
      → (HaveLength q (map f zs) → IsTrue d) → ¬ IsEven (map f xs)
  bad_lengths q d zs sellers e failed even = λ h.
      false≢true
      (sym failed
      ∙ even
      (subst (λ (l : List X). HaveLength q (map f l)) (sym e)
      (subst (λ (k : ℕ). HaveLength k (map f xs)) (sym sellers) h)))

-- ---- whatever numbers of buyers and sellers are allowed

-- the rows have an allowed number of buyers and sellers
abbrev pub HaveAllowed : (ℕ → ℕ → Type 0) → List (List ℤ) → Type 0
HaveAllowed Allowed rows = Allowed (length rows) (seller_count rows)

-- rows that were tested for p buyers and q sellers
pub record AreTested (Allowed : ℕ → ℕ → Type 0) (rows : List (List ℤ)) (p q : ℕ) : Type 0 where
  pub players : HaveAllowed Allowed rows
  pub entries : HaveEntries rows
  pub even : IsEven rows
  pub buyers : p ≡ length rows
  pub sellers : q ≡ seller_count rows

-- rows of p buyers
module _ (Allowed : ℕ → ℕ → Type 0) {X : Type 0} (f : X → List ℤ) (xs : List X) (p : ℕ) (rows : p ≡ length xs) where
  buyers_counted : p ≡ length (map f xs)
  buyers_counted = rows ∙ sym (length-map xs f)

  -- that are too few or too many
  pub no_buyers : ((q : ℕ) → ¬ Allowed p q) → ¬ HaveAllowed Allowed (map f xs)
  no_buyers none =
      subst (λ (k : ℕ). ¬ Allowed k (seller_count (map f xs))) buyers_counted (none (seller_count (map f xs)))

  -- of q sellers in the first
  module _ (some : 1 ≤ p) (v : X) (q : ℕ) (first : v ≡ get_or xs 0 v) (columns : q ≡ length (f v)) where
    sellers : q ≡ seller_count (map f xs)
    sellers = sellers_counted f xs p q v rows some first columns

    -- that are too few or too many
    pub no_sellers : ¬ Allowed p q → ¬ HaveAllowed Allowed (map f xs)
    no_sellers none =
        subst (λ (k : ℕ). ¬ Allowed (length (map f xs)) k) sellers
        (subst (λ (k : ℕ). ¬ Allowed k q) buyers_counted none)

    module _ (allowed : Allowed p q) where
      players : HaveAllowed Allowed (map f xs)
      players =
          subst (λ (k : ℕ). Allowed (length (map f xs)) k) sellers
          (subst (λ (k : ℕ). Allowed k q) buyers_counted allowed)

      pub no_entries : (b : Bool) (ys : List X) → ys ≡ xs → b ≡ false → (HaveEntries (map f ys) → IsTrue b)
          → HaveAllowed Allowed (map f xs) × (¬ HaveEntries (map f xs))
      no_entries b ys e failed entries = (players, bad_entries f xs b ys e failed entries)

      pub uneven : (b d : Bool) (ys zs : List X) → ys ≡ xs → b ≡ true → (IsTrue b → HaveEntries (map f ys))
          → zs ≡ xs → d ≡ false → (HaveLength q (map f zs) → IsTrue d)
          → HaveAllowed Allowed (map f xs) × HaveEntries (map f xs) × (¬ IsEven (map f xs))
      uneven b d ys zs e passed entries g failed even =
          (players, good_entries f xs b ys e passed entries, bad_lengths f xs q d zs sellers g failed even)

      -- what passes the tests
      pub rows_tested : (b d : Bool) (ys zs : List X) → ys ≡ xs → b ≡ true → (IsTrue b → HaveEntries (map f ys))
          → zs ≡ xs → d ≡ true → (IsTrue d → HaveLength q (map f zs)) → AreTested Allowed (map f xs) p q
      rows_tested b d ys zs e passed entries g passed_too even = record {
        players = players;
        entries = good_entries f xs b ys e passed entries;
        even = good_lengths f xs q d zs sellers g passed_too even;
        buyers = buyers_counted;
        sellers = sellers;
      }

-- ---- assignment games: a buyer and a seller at least, and at most 16 players

abbrev pub AreFew : ℕ → ℕ → Type 0
AreFew p q = (1 ≤ p) × (1 ≤ q) × (p + q ≤ 16)

pub few_players : (p q : ℕ) → 1 ≤ p → p ≤ 15 → 1 ≤ q → q ≤ 16 - p → AreFew p q
few_players p q some few some_q few_q = (some, some_q, omega arith)

pub buyers_fail : (p : ℕ) → (p < 1) ⊎ ((1 ≤ p) × (15 < p)) → (q : ℕ) → ¬ AreFew p q
buyers_fail p (inl few) q h = omega (arith, h.0, few)
buyers_fail p (inr many) q h = omega (arith, h.1, h.2, many.1)

pub sellers_fail : (p q : ℕ) → p ≤ 15 → (q < 1) ⊎ ((1 ≤ q) × (16 - p < q)) → ¬ AreFew p q
sellers_fail p q small (inl few) h = omega (arith, h.1, few)
sellers_fail p q small (inr many) h = omega (arith, h.2, small, many.1)

-- what passes the tests is an assignment game
pub sides_made : (rows : List (List ℤ)) (p q : ℕ) → AreTested AreFew rows p q → HasSides rows p q
sides_made rows p q tested = record {
  game = record { players = tested.players; entries = tested.entries; even = tested.even };
  buyers = tested.buyers;
  sellers = tested.sellers;
}

pub sides_few : (rows : List (List ℤ)) (p q : ℕ) → HasSides rows p q → p + q ≤ 16
sides_few rows p q h =
    let few = h.game.players.2 in
    let a = h.buyers in
    let b = h.sellers in
    omega (arith, few, a, b)

-- the table of all coalitions, by the rows that are kept
pub filled_whole : (rows read : List (List ℤ)) (values : List ℕ) (p q : ℕ) → read ≡ rows → HasSides rows p q
    → IsFilled (entries_of read) p values (2 ^ (p + q))
    → IsFilled (entries_of rows) (length rows) values (2 ^ (length rows + seller_count rows))
filled_whole rows read values p q e h filled =
    subst (λ (k : ℕ). IsFilled (entries_of rows) (length rows) values (2 ^ (length rows + k))) h.sellers
    (subst (λ (k : ℕ). IsFilled (entries_of rows) k values (2 ^ (k + q))) h.buyers
    (subst (λ (r : List (List ℤ)). IsFilled (entries_of r) p values (2 ^ (p + q))) e filled))
