-- If the greatest of the excesses that aren't fixed is least, one of them is that number at all members that are
-- left: otherwise each is less at some member, and all are less at one halfway between these. So it is fixed.
use Rattle.std.proofs.Common.{◌≡◌, ◌≢◌, ◌⊎◌, ℕ, zero, suc, ◌+◌, ◌-◌, ◌^◌, ◌<◌, ◌≤◌, Bool, true, false, not, ◌&&◌, cond}
use Rattle.std.proofs.Common.{nat_eq, List, map, refl, sym, ap, subst, ◌∙◌, inl, inr, arith}
use Rattle.std.proofs.lemmas.Bool.{false≢true}
use Rattle.definitions.proofs.Cases.{true_or_false, less_or_last, nat_eq-same, nat_eq-other, from_nat_eq}
use Rattle.definitions.specs.Coalitions.{proper_coalitions}
use Rattle.definitions.specs.declared.Family.{Family}
use Rattle.real_shares.specs.Numbers.{Numbers, IsOrderedGroup, AtMost, Less, Equal, sorted_by, ComesBeforeBy}
use Rattle.real_shares.specs.Reals.{Real, AreReals}
use Rattle.real_shares.proofs.Orders.{decided, at_most-same}
use Rattle.real_shares.proofs.Multiples.{chain, equal_path, through, plus-at_most}
use Rattle.real_shares.proofs.RealNumbers.{are_ordered}
use Rattle.real_shares.proofs.Sorted.{ComesBefore-sorted}
use Rattle.real_shares.proofs.Soundness.{SameOrLow-range, SomeAbove-range}
use Rattle.law_real_worths.specs.Games.{NumberGame, excess_in, InFamilyIn, excess_list_in, CanHalve}
use Rattle.law_real_worths.proofs.CoreFirst.{length_in, efficient_in, not_both}
use Rattle.law_real_worths.proofs.ExcessRows.{IsWithin, IsBound}
use Rattle.law_real_worths.proofs.Halfway.{halfway, halfway_member, twice_excess, halves_at_most, same_shares}
use Rattle.law_real_worths.proofs.Joined.{off}
use Rattle.law_real_worths.proofs.Minimax.{minimax}
use Rattle.law_real_worths.proofs.RealsCanHalve.{can_halve}
use Rattle.law_real_worths.proofs.UnbeatenIsNucleolus.{same_before}

-- ---- how many numbers below b pass

abbrev pub count : (ℕ → Bool) → ℕ → ℕ
count test zero = 0
count test (suc b) = cond (test b) (suc (count test b)) (count test b)

-- without number r
abbrev pub without : (ℕ → Bool) → ℕ → ℕ → Bool
without test r s = test s && not (nat_eq s r)

pub without_other : (test : ℕ → Bool) (r s : ℕ) → s ≢ r → without test r s ≡ test s
without_other test r s ne = rw (nat_eq-other s r ne) (kept (test s))
  where
    kept : (b : Bool) → (b && not false) ≡ b
    kept true = refl
    kept false = refl

without_same : (test : ℕ → Bool) (r : ℕ) → without test r r ≡ false
without_same test r = rw (nat_eq-same r) (none (test r))
  where
    none : (b : Bool) → (b && not true) ≡ false
    none true = refl
    none false = refl

count_below : (test : ℕ → Bool) (r b : ℕ) → b ≤ r → count (without test r) b ≡ count test b
count_below test r zero le = refl
count_below test r (suc b) le =
    let e = without_other test r b (λ same. omega arith) in
    let ih = count_below test r b (omega arith) in
    ap (λ (c : Bool). cond c (suc (count (without test r) b)) (count (without test r) b)) e
    ∙ ap (λ (k : ℕ). cond (test b) (suc k) k) ih

pub count_without : (test : ℕ → Bool) (b r : ℕ) → r < b → test r ≡ true → suc (count (without test r) b) ≡ count test b
count_without test zero r lt e = absurd (omega arith)
count_without test (suc b) r lt e = elim (less_or_last r b lt) [
  | inl less ↦
      let ih = count_without test b r less e in
      ap (λ (c : Bool). suc (cond c (suc (count (without test r) b)) (count (without test r) b)))
      (without_other test r b (λ same. omega (arith, less, same)))
      ∙ raised (test b) ih
  | inr last ↦
      ap (λ (c : Bool). suc (cond c (suc (count (without test r) b)) (count (without test r) b)))
      (ap (without test r) (sym last) ∙ without_same test r)
      ∙ ap suc (count_below test r b (omega (arith, last)))
      ∙ sym (ap (λ (c : Bool). cond c (suc (count test b)) (count test b)) (sym (ap test last) ∙ e))
]
  where
    raised : (c : Bool) → suc (count (without test r) b) ≡ count test b
        → suc (cond c (suc (count (without test r) b)) (count (without test r) b))
        ≡ cond c (suc (count test b)) (count test b)
    raised true h = ap suc h
    raised false h = h

module _ (N : Numbers Real) (R : AreReals N) (g : NumberGame Real) (family : Family) where
  abbrev L : IsOrderedGroup N
  L = are_ordered N R

  abbrev halve : CanHalve N
  halve = can_halve N R

  abbrev pub b : ℕ
  b = 1 + (2 ^ g.players - 2)

  abbrev pub Within : (ℕ → Real) → List Real → Type 0
  Within cap y = IsWithin N R g family cap y

  abbrev pub e : List Real → ℕ → Real
  e y s = excess_in N g y s

  abbrev pub Before : List Real → List Real → Type 0
  Before y z = ComesBeforeBy N (sorted_by N (excess_list_in N g y)) (sorted_by N (excess_list_in N g z))

  pub never_both : (y z : List Real) → Before y z → Before z y → ⊥
  never_both y z h k = not_both N L g (excess_list_in N g y) (excess_list_in N g z) h k

  -- members with the same excesses don't come before one another
  pub same_excesses : (y z : List Real) → InFamilyIn N family g y → InFamilyIn N family g z
      → ((s : ℕ) → 1 ≤ s → s < b → Equal N (e y s) (e z s)) → ¬ Before z y
  same_excesses y z hy hz each before =
      let long = length_in N L g family y hy in
      let too = length_in N L g family z hz in
      let same = same_shares N L halve g y z long too (efficient_in N L g family y hy) (efficient_in N L g family z hz)
      each in
      never_both z y before (same_before N L g y z long too same before)

  -- where some excess of z is above t, and no excess of y that differs is
  pub first_by : (y z : List Real) (t : Real) (s : ℕ) → 1 ≤ s → s < b
      → ((r : ℕ) → 1 ≤ r → r < b → Equal N (e y r) (e z r) ⊎ AtMost N (e y r) t) → AtMost N (e y s) t
      → Less N t (e z s) → Before y z
  first_by y z t s one past each low above =
      ComesBefore-sorted N L t (map (e y) (proper_coalitions g.players)) (map (e z) (proper_coalitions g.players))
      (SameOrLow-range N t (e y) (e z) 1 (2 ^ g.players - 2) each)
      (SomeAbove-range N t (e y) (e z) 1 (2 ^ g.players - 2) s one past low above)

  -- what is halfway between a number below t and one not above it is below t
  halfway_below : (a c t m : Real) → Equal N (N.plus m m) (N.plus a c) → Less N a t → AtMost N c t → Less N m t
  halfway_below a c t m twice less low le =
      less
      (off N L t a t (through N L (plus-at_most N L t m t m le le)
      (through N L twice.0 (plus-at_most N L a a c t (at_most-same N L a) low))))

  -- ---- one stage: t is the least greatest excess of those that pass

  module _ (cap : ℕ → Real) (test : ℕ → Bool) (positive : (s : ℕ) → test s ≡ true → 1 ≤ s) (t : Real) where
    abbrev pub next_cap : ℕ → Real
    next_cap s = cond (test s) t (cap s)

    pub cap_yes : (s : ℕ) → test s ≡ true → next_cap s ≡ t
    cap_yes s h = ap (λ (c : Bool). cond c t (cap s)) h

    pub cap_no : (s : ℕ) → test s ≡ false → next_cap s ≡ cap s
    cap_no s h = ap (λ (c : Bool). cond c t (cap s)) h

    pub at_most_cap : (y : List Real) (s : ℕ) (c d : Real) → c ≡ d → AtMost N (e y s) c → AtMost N (e y s) d
    at_most_cap y s c d same le = subst (λ (c : Real). AtMost N (e y s) c) same le

    pub to_next : (y : List Real) → Within cap y → IsBound N R g test y t → Within next_cap y
    to_next y h k = (
      h.0,
      λ s one past. elim (true_or_false (test s)) [
        | inl passes ↦ at_most_cap y s t (next_cap s) (sym (cap_yes s passes)) (k s one past passes)
        | inr fails ↦ at_most_cap y s (cap s) (next_cap s) (sym (cap_no s fails)) (h.1 s one past)
      ],
    )

    pub next_bound : (y : List Real) → Within next_cap y → IsBound N R g test y t
    next_bound y h s one past passes = at_most_cap y s (next_cap s) t (cap_yes s passes) (h.1 s one past)

    -- one excess is t at all members that are left, or some member has all below t
    abbrev pub IsFixed : ℕ → Type 0
    IsFixed s = (s < b) × (test s ≡ true) × ((z : List Real) → Within next_cap z → Equal N (e z s) t)

    pub sweep : (x : List Real) → Within next_cap x → (c : ℕ) → c ≤ b
        → ((s : ℕ) × IsFixed s)
        ⊎ ((y : List Real) × Within next_cap y × ((s : ℕ) → s < c → test s ≡ true → Less N (e y s) t))
    sweep x hx zero le = inr (x, hx, λ s lt. absurd (omega arith))
    sweep x hx (suc c) le = elim (sweep x hx c (omega arith)) [
      | inl found ↦ inl found
      | inr before ↦ elim (true_or_false (test c)) [
        | inr fails ↦ inr (
          before.0,
          before.1,
          λ s lt passes. elim (less_or_last s c lt) [
            | inl less ↦ before.2 s less passes
            | inr last ↦ absurd (false≢true (sym fails ∙ ap test (sym last) ∙ passes))
          ],
        )
        | inl passes ↦ by_least c le passes before.0 before.1 before.2
      ]
    ]
      where
        by_least : (c : ℕ) → suc c ≤ b → test c ≡ true → (y : List Real) → Within next_cap y
            → ((s : ℕ) → s < c → test s ≡ true → Less N (e y s) t)
            → ((s : ℕ) × IsFixed s)
            ⊎ ((y : List Real) × Within next_cap y × ((s : ℕ) → s < suc c → test s ≡ true → Less N (e y s) t))
        by_least c le passes y hy below =
            let one = positive c passes in
            let least = minimax N R g family next_cap (λ r. nat_eq r c) c one (omega (arith, le)) (nat_eq-same c) y
            hy in
            let w = least.0 in
            let m = least.1 in
            let here = least.3 c one (omega (arith, le)) (nat_eq-same c) in
            elim (decided (N.at_most t m)) [
              | inl high ↦ inl (
                c,
                (
                  omega (arith, le),
                  passes,
                  λ z hz. (
                    next_bound z hz c one (omega (arith, le)) passes,
                    through N L high
                        (least.4 z (e z c) hz
                        (λ r low past same. (equal_path N L (e z r) (e z c)
                        (ap (e z) (from_nat_eq r c same))).0)),
                  ),
                ),
              )
              | inr less ↦ inr (halves y hy w least.2 below (λ high. less (through N L high here)))
            ]
          where
            halves : (y : List Real) → Within next_cap y → (w : List Real) → Within next_cap w
                → ((s : ℕ) → s < c → test s ≡ true → Less N (e y s) t) → Less N (e w c) t
                → (x : List Real) × Within next_cap x × ((s : ℕ) → s < suc c → test s ≡ true → Less N (e x s) t)
            halves y hy w hw below less =
                let long = length_in N L g family y hy.0 in
                let too = length_in N L g family w hw.0 in
                let x = halfway N L halve g y w long too in
                let twice = twice_excess N L halve g y w long too in (
                  x,
                  (
                    halfway_member N L halve g y w long too family hy.0 hw.0,
                    λ s low past. halves_at_most N L (e x s) (next_cap s)
                        (through N L (twice s).0
                        (plus-at_most N L (e y s) (next_cap s) (e w s) (next_cap s) (hy.1 s low past)
                        (hw.1 s low past))),
                  ),
                  λ s lt holds.
                      let low = positive s holds in
                      let past : s < b = omega (arith, lt, le) in
                      elim (less_or_last s c lt) [
                        | inl earlier ↦
                            halfway_below (e y s) (e w s) t (e x s) (twice s) (below s earlier holds)
                            (next_bound w hw s low past holds)
                        | inr last ↦
                            halfway_below (e w s) (e y s) t (e x s)
                            (chain N L (twice s) (L.commutes (e y s) (e w s)))
                            (subst (λ (r : ℕ). Less N (e w r) t) (sym last) less)
                            (next_bound y hy s low past holds)
                      ],
                )
