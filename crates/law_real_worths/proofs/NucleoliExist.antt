-- The nucleolus exists if the family has a member: excesses are made least one after the other, until none is left.
use Rattle.std.proofs.Common.{◌≡◌, ◌⊎◌, ℕ, zero, suc, ◌+◌, ◌-◌, ◌^◌, ◌<◌, ◌≤◌, Bool, true, false, not, nat_eq}
use Rattle.std.proofs.Common.{List, refl, sym, ap, ◌∙◌, inl, inr, arith}
use Rattle.std.proofs.lemmas.Bool.{false≢true}
use Rattle.definitions.proofs.Cases.{true_or_false, same_or_other, nat_eq-other, and_left}
use Rattle.definitions.specs.declared.Family.{Family}
use Rattle.real_shares.specs.Numbers.{Numbers, IsOrderedGroup, AtMost, Equal}
use Rattle.real_shares.specs.Reals.{Real, AreReals}
use Rattle.real_shares.proofs.Orders.{decided}
use Rattle.real_shares.proofs.Multiples.{chain, back, equal_path, through}
use Rattle.real_shares.proofs.RealNumbers.{are_ordered}
use Rattle.law_real_worths.specs.Existence.{NucleoliExist}
use Rattle.law_real_worths.specs.Games.{NumberGame, excess_in, InFamilyIn, IsNucleolusIn, IsUnbeatenIn}
use Rattle.law_real_worths.proofs.ExcessRows.{IsWithin, IsBound}
use Rattle.law_real_worths.proofs.Joined.{greatest_among}
use Rattle.law_real_worths.proofs.Minimax.{minimax}
use Rattle.law_real_worths.proofs.RealsCanHalve.{can_halve}
use Rattle.law_real_worths.proofs.LeastLists.{count, count_without, without, without_other, never_both}
use Rattle.law_real_worths.proofs.LeastLists.{same_excesses, first_by, next_cap, cap_yes, cap_no, at_most_cap, to_next}
use Rattle.law_real_worths.proofs.LeastLists.{next_bound, IsFixed, sweep, Before}
use Rattle.law_real_worths.proofs.UnbeatenIsNucleolus.{from_unbeaten}

module _ (N : Numbers Real) (R : AreReals N) (g : NumberGame Real) (family : Family) where
  abbrev L : IsOrderedGroup N
  L = are_ordered N R

  abbrev b : ℕ
  b = 1 + (2 ^ g.players - 2)

  abbrev Within : (ℕ → Real) → List Real → Type 0
  Within cap y = IsWithin N R g family cap y

  abbrev e : List Real → ℕ → Real
  e y s = excess_in N g y s

  -- a member within the caps that no other one within them comes before
  abbrev Least : (ℕ → Real) → Type 0
  Least cap =
      (y : List Real) × Within cap y × ((z : List Real) → Within cap z → ¬ Before N R g family z y)

  -- those that pass have one cap, and all others are at their cap
  record Stage (cap : ℕ → Real) (test : ℕ → Bool) (top : Real) : Type 0 where
    positive : (s : ℕ) → test s ≡ true → 1 ≤ s
    level : (s : ℕ) → test s ≡ true → cap s ≡ top
    fixed : (z : List Real) → Within cap z → (s : ℕ) → 1 ≤ s → s < b → test s ≡ false → Equal N (e z s) (cap s)

  none_left : (cap : ℕ → Real) (test : ℕ → Bool) (top : Real) → Stage cap test top
      → ((s : ℕ) → s < b → test s ≡ false) → (y : List Real) → Within cap y → Least cap
  none_left cap test top a none y hy = (
    y,
    hy,
    λ z hz.
        same_excesses N R g family y z hy.0 hz.0
        (λ s one past. chain N L (a.fixed y hy s one past (none s past))
        (back N L (a.fixed z hz s one past (none s past)))),
  )

  module _ (cap : ℕ → Real) (test : ℕ → Bool) (top : Real) (a : Stage cap test top) (t : Real)
      (low : AtMost N t top) where
    abbrev next : ℕ → Real
    next = next_cap N R g family cap test a.positive t

    yes : (s : ℕ) → test s ≡ true → next s ≡ t
    yes s h = cap_yes N R g family cap test a.positive t s h

    no : (s : ℕ) → test s ≡ false → next s ≡ cap s
    no s h = cap_no N R g family cap test a.positive t s h

    from_next : (z : List Real) → Within next z → Within cap z
    from_next z h = (
      h.0,
      λ s one past. elim (true_or_false (test s)) [
        | inl passes ↦
            through N L (h.1 s one past)
            (through N L (equal_path N L (next s) t (yes s passes)).0
            (through N L low (equal_path N L top (cap s) (sym (a.level s passes))).0))
        | inr fails ↦ through N L (h.1 s one past) (equal_path N L (next s) (cap s) (no s fails)).0
      ],
    )

    -- with one excess fixed
    fixed_more : (r : ℕ) → IsFixed N R g family cap test a.positive t r → Stage next (without test r) t
    fixed_more r f = record {
      positive = λ s h. a.positive s (and_left (test s) (not (nat_eq s r)) h);
      level = λ s h. yes s (and_left (test s) (not (nat_eq s r)) h);
      fixed = λ z hz s one past h. elim (true_or_false (test s)) [
        | inr fails ↦
            chain N L (a.fixed z (from_next z hz) s one past fails)
            (equal_path N L (cap s) (next s) (sym (no s fails)))
        | inl passes ↦ elim (same_or_other s r) [
          | inl same ↦
              chain N L (equal_path N L (e z s) (e z r) (ap (e z) same))
              (chain N L (f.2 z hz) (equal_path N L t (next s) (sym (yes s passes))))
          | inr other ↦ absurd (false≢true (sym h ∙ without_other test r s other ∙ passes))
        ]
      ];
    }

    -- who isn't within the new caps comes behind
    least_of_all : (s1 : ℕ) → s1 < b → test s1 ≡ true → Least next → Least cap
    least_of_all s1 past passes (y, hy, least) = (
      y,
      from_next y hy,
      λ z hz before. elim (greatest_among N L test (e z) b) [
        | inl none ↦ false≢true (sym (none s1 past) ∙ passes)
        | inr d ↦ elim (decided (N.at_most (e z d.0) t)) [
          | inl le ↦
              least z
              (to_next N R g family cap test a.positive t z hz (λ s one h p. through N L (d.3 s h p) le)) before
          | inr above ↦
              never_both N R g family y z
              (first_by N R g family y z t d.0 (a.positive d.0 d.2) d.1 (λ r one h. each z hz r one h)
              (next_bound N R g family cap test a.positive t y hy d.0 (a.positive d.0 d.2) d.1 d.2) above) before
        ]
      ],
    )
      where
        each : (z : List Real) → Within cap z → (r : ℕ) → 1 ≤ r → r < b
            → Equal N (e y r) (e z r) ⊎ AtMost N (e y r) t
        each z hz r one h = elim (true_or_false (test r)) [
          | inl p ↦ inr (next_bound N R g family cap test a.positive t y hy r one h p)
          | inr fails ↦ inl
              (chain N L (a.fixed y (from_next y hy) r one h fails) (back N L (a.fixed z hz r one h fails)))
        ]

  -- some excess is t at all members that are left
  some_fixed : (cap : ℕ → Real) (test : ℕ → Bool) (top : Real) (a : Stage cap test top) (t : Real)
      → AtMost N t top → (s1 : ℕ) → s1 < b → test s1 ≡ true
      → ((w : List Real) (c : Real) → Within cap w → IsBound N R g test w c → AtMost N t c) → (x : List Real)
      → Within (next_cap N R g family cap test a.positive t) x
      → (r : ℕ) × IsFixed N R g family cap test a.positive t r
  some_fixed cap test top a t low s1 past passes least x hx =
      elim (sweep N R g family cap test a.positive t x hx b (omega arith)) [
        | inl found ↦ found
        | inr (z, hz, below) ↦ elim (greatest_among N L test (e z) b) [
          | inl none ↦ absurd (false≢true (sym (none s1 past) ∙ passes))
          | inr d ↦ absurd
              (below d.0 d.1 d.2
              (least z (e z d.0) (from_next cap test top a t low z hz) (λ s one h p. d.3 s h p)))
        ]
      ]

  least_within : (k : ℕ) (cap : ℕ → Real) (test : ℕ → Bool) (top : Real) → Stage cap test top → count test b ≤ k
      → (y : List Real) → Within cap y → Least cap
  least_within zero cap test top a few y hy = elim (greatest_among N L test (e y) b) [
    | inl none ↦ none_left cap test top a none y hy
    | inr d ↦ absurd (let one = count_without test b d.0 d.1 d.2 in omega (arith, one, few))
  ]
  least_within (suc k) cap test top a few y hy = elim (greatest_among N L test (e y) b) [
    | inl none ↦ none_left cap test top a none y hy
    | inr d ↦
        let m = minimax N R g family cap test d.0 (a.positive d.0 d.2) d.1 d.2 y hy in
        let t = m.1 in
        let low = m.4 y top hy
        (λ s one past p. at_most_cap N R g family cap test a.positive t y s (cap s) top (a.level s p)
        (hy.1 s one past)) in
        let x = to_next N R g family cap test a.positive t m.0 m.2 m.3 in
        let f = some_fixed cap test top a t low d.0 d.1 d.2 m.4 m.0 x in
        let fewer = count_without test b f.0 f.1.0 f.1.1 in
        least_of_all cap test top a t low d.0 d.1 d.2
        (least_within k (next cap test top a t low) (without test f.0) t (fixed_more cap test top a t low f.0 f.1)
        (omega (arith, fewer, few)) m.0 x)
  ]

  -- ---- from one cap for all

  abbrev some_players : ℕ → Bool
  some_players s = not (nat_eq s 0)

  passes_of : (s : ℕ) → 1 ≤ s → some_players s ≡ true
  passes_of s one = ap not (nat_eq-other s 0 (λ h. omega arith))

  positive_of : (s : ℕ) → some_players s ≡ true → 1 ≤ s
  positive_of zero h = absurd (false≢true h)
  positive_of (suc s) h = omega arith

  greatest_excess : (y : List Real) → (t : Real) × ((s : ℕ) → 1 ≤ s → s < b → AtMost N (e y s) t)
  greatest_excess y = elim (greatest_among N L some_players (e y) b) [
    | inl none ↦ (N.zero, λ s one past. absurd (false≢true (sym (none s past) ∙ passes_of s one)))
    | inr d ↦ (e y d.0, λ s one past. d.3 s past (passes_of s one))
  ]

  pub some_unbeaten : (y : List Real) → InFamilyIn N family g y → (x : List Real) × IsUnbeatenIn N family g x
  some_unbeaten y member =
      let top = greatest_excess y in
      let t = top.0 in
      let cap : ℕ → Real = λ s. t in
      let a : Stage cap some_players t = record {
        positive = positive_of;
        level = λ s h. refl;
        fixed = λ z hz s one past h. absurd (false≢true (sym h ∙ passes_of s one));
      } in
      let found = least_within (count some_players b) cap some_players t a (omega arith) y (member, top.1) in
      let x = found.0 in (
        x,
        (
          found.1.0,
          λ z hz before.
              let high = greatest_excess z in
              elim (greatest_among N L some_players (e z) b) [
                | inl none ↦
                    found.2 z (hz, λ s one past. absurd (false≢true (sym (none s past) ∙ passes_of s one))) before
                | inr d ↦ elim (decided (N.at_most (e z d.0) t)) [
                  | inl le ↦
                      found.2 z (hz, λ s one past. through N L (d.3 s past (passes_of s one)) le) before
                  | inr above ↦
                      never_both N R g family x z
                      (first_by N R g family x z t d.0 (positive_of d.0 d.2) d.1 (λ r one h. inr (found.1.1 r one h))
                      (found.1.1 d.0 (positive_of d.0 d.2) d.1) above) before
                ]
              ],
        ),
      )

  pub some_nucleolus : (y : List Real) → InFamilyIn N family g y → (x : List Real) × IsNucleolusIn N family g x
  some_nucleolus y member =
      let found = some_unbeaten y member in
      (found.0, from_unbeaten N L g (can_halve N R) family found.0 found.1)

pub nucleoli_exist : NucleoliExist
nucleoli_exist N family g y R member = some_nucleolus N R g family y member
