-- Games in which all players are worth something, some listed coalitions of the first m players are, and all other
-- coalitions nothing. So at a core point the first m players get together at most what all are worth.
--
--   listed ps s          the number of a coalition in a list, and 0 if it isn't there
--   with_all n ps a      the game of n players of a list, in which all are worth a
--   AreFirst m ps        the coalitions of a list aren't empty, and hold some of the first m players, but not all
--   listed_share xs i    the shares of the first players, and nothing for the others
use Rattle.std.proofs.Common.{◌≡◌, ◌≢◌, ◌⊎◌, ℕ, zero, suc, ◌+◌, ◌-◌, ◌^◌, ◌<◌, ◌≤◌}
use Rattle.std.proofs.Common.{nat_eq, length, if◌then◌else◌, Bool}
use Rattle.std.proofs.Common.{List, [], ◌∷◌, ◌++◌, ℤ, pos, ◌*ℤ◌, ◌≤ℤ◌}
use Rattle.std.proofs.Common.{slice_index_or, refl, sym, ap, subst, ◌∙◌, inl}
use Rattle.std.proofs.Common.{inr, arith, rules}
use Rattle.std.proofs.lemmas.Int.{by_lt_z}
use Rattle.std.specs.List.{AllByRecursion}
use Rattle.definitions.proofs.Cases.{same_or_other, same_or_less, nat_eq-other, nat_eq-same}
use Rattle.definitions.proofs.Masks.{grand_coalition-within, singleton-within, masks-double}
use Rattle.definitions.proofs.Members.{sum_below-split, sum_below-zero}
use Rattle.definitions.proofs.Members.{sum_over-nonnegative, sum_over-grand_coalition}
use Rattle.definitions.proofs.Members.{sum_over-complement}
use Rattle.definitions.proofs.Parts.{part, has_player-past}
use Rattle.definitions.proofs.Ring.{linear}
use Rattle.definitions.proofs.SumsOver.{amount-at}
use Rattle.definitions.specs.Sums.{sum_below}
use Rattle.definitions.specs.Coalitions.{grand_coalition, sum_over}
use Rattle.definitions.specs.Games.{Game, Allocation, share, amount, InCore}
use Rattle.law_duality.proofs.BondarevaShapley.{point, amount_point, listed_length}
use Rattle.law_answers.specs.FairRules.{IsGameOf}
use Rattle.theorems.proofs.Products.{products}

-- ---- the worths

abbrev pub listed : List (ℕ × ℤ) → ℕ → ℤ
listed [] s = pos 0
listed (p ∷ ps) s = if nat_eq p.0 s then p.1 else listed ps s

pub listed-skip : (p : ℕ × ℤ) (ps : List (ℕ × ℤ)) (s : ℕ) → p.0 ≢ s → listed (p ∷ ps) s ≡ listed ps s
listed-skip p ps s ne = ap (λ (b : Bool). if b then p.1 else listed ps s) (nat_eq-other p.0 s ne)

-- lists that agree agree behind the same coalitions
pub listed-front : (ps qs rs : List (ℕ × ℤ)) (s : ℕ) → listed qs s ≡ listed rs s
    → listed (ps ++ qs) s ≡ listed (ps ++ rs) s
listed-front [] qs rs s same = same
listed-front (p ∷ ps) qs rs s same = ap (λ (z : ℤ). if nat_eq p.0 s then p.1 else z) (listed-front ps qs rs s same)

-- where each listed coalition has at most f, and f is nowhere below 0, each coalition has
listed-low : (f : ℕ → ℤ) (ps : List (ℕ × ℤ)) → ((s : ℕ) → pos 0 ≤ℤ f s) → AllByRecursion (λ p. p.1 ≤ℤ f p.0) ps
    → (s : ℕ) → listed ps s ≤ℤ f s
listed-low f [] some h s = some s
listed-low f (p ∷ ps) some h s = elim (same_or_other p.0 s) [
  | inl same ↦ omega (
    products,
    h.0,
    ap f same,
    ap (λ (b : Bool). if b then p.1 else listed ps s) (ap (λ (k : ℕ). nat_eq k s) same ∙ nat_eq-same s),
  )
  | inr ne ↦ omega (arith, linear, listed-skip p ps s ne, listed-low f ps some h.1 s)
]

abbrev pub with_all : ℕ → List (ℕ × ℤ) → ℤ → Game
with_all n ps a = record { players = n; worth = listed (ps ++ (grand_coalition n, a) ∷ []) }

abbrev pub AreFirst : ℕ → List (ℕ × ℤ) → Type 0
AreFirst m ps = AllByRecursion (λ p. (0 < p.0) × (p.0 < grand_coalition m)) ps

-- a list of coalitions of the first players says nothing of nobody, nor of what is past them
listed-none : (m : ℕ) (ps qs : List (ℕ × ℤ)) (s : ℕ) → AreFirst m ps → (s ≡ 0) ⊎ (grand_coalition m ≤ s)
    → listed (ps ++ qs) s ≡ listed qs s
listed-none m [] qs s h away = refl
listed-none m (p ∷ ps) qs s h away = listed-skip p (ps ++ qs) s (differs away) ∙ listed-none m ps qs s h.1 away
  where
    differs : (s ≡ 0) ⊎ (grand_coalition m ≤ s) → p.0 ≢ s
    differs (inl none) e = omega (arith, h.0.0, none, e)
    differs (inr more) e = omega (arith, h.0.1, more, e)

-- the worth of all counts for all alone
pub with_all-others : (n : ℕ) (ps : List (ℕ × ℤ)) (a c : ℤ) (s : ℕ) → s ≢ grand_coalition n
    → (with_all n ps a).worth s ≡ (with_all n ps c).worth s
with_all-others n ps a c s ne =
    listed-front ps ((grand_coalition n, a) ∷ []) ((grand_coalition n, c) ∷ []) s
    (listed-skip (grand_coalition n, a) [] s (λ e. ne (sym e))
    ∙ sym (listed-skip (grand_coalition n, c) [] s (λ e. ne (sym e))))

module _ (m n : ℕ) (some : 1 ≤ m) (many : m ≤ n) where
  pub all-high : grand_coalition m ≤ grand_coalition n
  all-high = elim (same_or_less m n many) [
    | inl same ↦ subst (λ (k : ℕ). grand_coalition m ≤ grand_coalition k) same (omega arith)
    | inr more ↦ let up = singleton-within n m more in omega (arith, up)
  ]

  all-some : 1 ≤ grand_coalition m
  all-some = let up = singleton-within m 0 some in omega (arith, up)

  -- the players past the first
  past : (0 ≡ grand_coalition n - grand_coalition m) ⊎ (grand_coalition m ≤ grand_coalition n - grand_coalition m)
  past = elim (same_or_less m n many) [
    | inl same ↦ inl (subst (λ (k : ℕ). 0 ≡ grand_coalition k - grand_coalition m) same (omega arith))
    | inr more ↦ elim (same_or_less (m + 1) n (omega (arith, more))) [
      | inl next ↦ inr
          (subst (λ (k : ℕ). grand_coalition m ≤ grand_coalition k - grand_coalition m) next
          (let double = masks-double m in omega (arith, double)))
      | inr up ↦ inr
          (omega (arith, singleton-within n (m + 1) up, masks-double m))
    ]
  ]

  sum_over-first : (a : ℕ → ℤ) (s : ℕ) → s < 2 ^ m → sum_over n a s ≡ sum_over m a s
  sum_over-first a s lt =
      let whole : m + (n - m) ≡ n = omega (arith, many) in
      let none : sum_below (n - m) (λ k. part a s (m + k)) ≡ pos 0 = sum_below-zero (n - m) (λ k. part a s (m + k))
      (λ k h. ap (λ (b : Bool). if b then a (m + k) else pos 0) (has_player-past m s (m + k) lt (omega arith))) in
      omega (products, ap (λ (k : ℕ). sum_below k (part a s)) whole, sum_below-split m (n - m) (part a s), none)

  module _ (ps : List (ℕ × ℤ)) (a : ℤ) (first : AreFirst m ps) where
    pub with_all-all : (with_all n ps a).worth (grand_coalition n) ≡ a
    with_all-all =
        listed-none m ps ((grand_coalition n, a) ∷ []) (grand_coalition n) first (inr all-high)
        ∙ ap (λ (t : Bool). if t then a else pos 0) (nat_eq-same (grand_coalition n))

    pub with_all-game : IsGameOf n (with_all n ps a)
    with_all-game = (
      refl,
      listed-none m ps ((grand_coalition n, a) ∷ []) 0 first (inl refl)
          ∙ listed-skip (grand_coalition n, a) [] 0
          (let high = all-high in let one = all-some in λ e. omega (arith, high, one, e)),
    )

    -- what a coalition of the first players gets at a core point
    pub reaches : (x : Allocation) (s : ℕ) → InCore (with_all n ps a) x → s < 2 ^ m
        → (x.den *ℤ (with_all n ps a).worth s) ≤ℤ sum_over m (share x) s
    reaches x s h lt =
        by_lt_z (amount x s) (x.den *ℤ (with_all n ps a).worth s)
        (λ blocks. absurd (h.2 s (omega (arith, all-high, grand_coalition-within n, lt)) blocks))
        (λ le. omega (products, le, amount-at (with_all n ps a) x s h.0, sum_over-first (share x) s lt))

    others-nothing : (with_all n ps a).worth (grand_coalition n - grand_coalition m) ≡ pos 0
    others-nothing = elim past [
      | inl none ↦ ap (with_all n ps a).worth (sym none) ∙ with_all-game.1
      | inr more ↦
          listed-none m ps ((grand_coalition n, a) ∷ []) (grand_coalition n - grand_coalition m) first (inr more)
          ∙ listed-skip (grand_coalition n, a) [] (grand_coalition n - grand_coalition m)
          (let high = all-high in let one = all-some in λ e. omega (arith, high, one, e))
    ]

    -- so the first players get at most what all are worth
    pub first_at_most : (x : Allocation) → InCore (with_all n ps a) x
        → sum_over m (share x) (grand_coalition m) ≤ℤ (x.den *ℤ a)
    first_at_most x h =
        let g = with_all n ps a in
        let all = grand_coalition n in
        let within = grand_coalition-within n in
        let within_m = grand_coalition-within m in
        let rest = all - grand_coalition m in
        let left : pos 0 ≤ℤ amount x rest = by_lt_z (amount x rest) (x.den *ℤ g.worth rest)
        (λ blocks. absurd (h.2 rest (omega (arith, within)) blocks))
        (λ le. omega (products, le, ap (◌*ℤ◌ x.den) others-nothing)) in
        omega (
          products,
          left,
          amount-at g x rest h.0,
          amount-at g x all h.0,
          h.1,
          ap (◌*ℤ◌ x.den) with_all-all,
          sum_over-complement n (grand_coalition m) (share x) (omega (arith, all-high, within)),
          sum_over-grand_coalition n (share x),
          sum_over-first (share x) (grand_coalition m) within_m,
        )

-- ---- core points

abbrev pub listed_share : List ℤ → ℕ → ℤ
listed_share xs i = slice_index_or xs i (pos 0)

share_past : (xs : List ℤ) (i : ℕ) → length xs ≤ i → listed_share xs i ≡ pos 0
share_past [] i h = refl
share_past (x ∷ xs) zero h = absurd (omega (arith, h))
share_past (x ∷ xs) (suc i) h = share_past xs i (omega (arith, h))

share_some : (xs : List ℤ) → AllByRecursion (λ a. pos 0 ≤ℤ a) xs → (i : ℕ) → pos 0 ≤ℤ listed_share xs i
share_some [] h i = omega (arith, linear)
share_some (x ∷ xs) h zero = h.0
share_some (x ∷ xs) h (suc i) = share_some xs h.1 i

abbrev pub with_nothing : ℕ → List ℤ → Allocation
with_nothing n xs = point n (listed_share xs) (pos 1)

-- shares of the first players that aren't below 0 and add to what all are worth, of which the listed coalitions get
-- enough
pub with_all-core : (m n : ℕ) (ps : List (ℕ × ℤ)) (a : ℤ) (xs : List ℤ) → 1 ≤ m → m ≤ n → AreFirst m ps
    → length xs ≡ m → AllByRecursion (λ c. pos 0 ≤ℤ c) xs → sum_below m (listed_share xs) ≡ a
    → AllByRecursion (λ p. p.1 ≤ℤ sum_over m (listed_share xs) p.0) ps
    → InCore (with_all n ps a) (with_nothing n xs)
with_all-core m n ps a xs some many first long positive sum enough = (
  (listed_length n f, search rules),
  omega (products, amount_point n f (pos 1) all, all_get, with_all-all m n some many ps a first),
  λ s lt blocks. omega (
    products,
    blocks,
    amount_point n f (pos 1) s,
    listed-low (sum_over n f) (ps ++ (grand_coalition n, a) ∷ [])
        (λ t. sum_over-nonnegative n t f (λ i h. share_some xs positive i)) (each ps first enough) s,
  ),
)
  where
    f : ℕ → ℤ
    f = listed_share xs

    all : ℕ
    all = grand_coalition n

    all_get : sum_over n f all ≡ a
    all_get =
        let whole : m + (n - m) ≡ n = omega (arith, many) in
        let none : sum_below (n - m) (λ k. f (m + k)) ≡ pos 0 =
        sum_below-zero (n - m) (λ k. f (m + k)) (λ k h. share_past xs (m + k) (omega (arith, long))) in
        omega (
          products,
          sum_over-grand_coalition n f,
          ap (λ (k : ℕ). sum_below k f) whole,
          sum_below-split m (n - m) f,
          none,
          sum,
        )

    each : (qs : List (ℕ × ℤ)) → AreFirst m qs → AllByRecursion (λ p. p.1 ≤ℤ sum_over m f p.0) qs
        → AllByRecursion (λ p. p.1 ≤ℤ sum_over n f p.0) (qs ++ (grand_coalition n, a) ∷ [])
    each [] h e = (omega (arith, linear, all_get), tt)
    each (q ∷ qs) h e = (
      (let lt : q.0 < 2 ^ m = (let within = grand_coalition-within m in omega (arith, h.0.1, within)) in
          omega (arith, linear, e.0, sum_over-first m n some many f q.0 lt)),
      each qs h.1 e.1,
    )
