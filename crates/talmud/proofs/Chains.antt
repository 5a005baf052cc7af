-- The levels of the rule have the form of a certificate, and certify the shares.
use Rattle.std.proofs.Common.{◌≡◌, ◌⊎◌, ℕ, ◌+◌, ◌-◌, ◌<◌, ◌≤◌, Bool, true}
use Rattle.std.proofs.Common.{nat_eq, List, [], ◌∷◌, ◌++◌}
use Rattle.std.proofs.Common.{length, ℤ, pos, ◌*ℤ◌, refl, sym, ap, ◌∙◌, inl}
use Rattle.std.proofs.Common.{inr, arith}
use Rattle.std.proofs.Math.Pow.{pow-lt}
use Rattle.definitions.proofs.Ring.{linear}
use Rattle.definitions.proofs.Members.{sum_over-grand_coalition, sum_over-singleton}
use Rattle.definitions.specs.Coalitions.{singleton, grand_coalition}
use Rattle.definitions.specs.Games.{Allocation, share, amount, IsEfficient}
use Rattle.definitions.specs.Games.{IsIndividuallyRational, InFamily, InCore}
use Rattle.definitions.specs.Certificates.{Level, is_listed, LevelsForm, HasForm, LevelsHold, Certifies}
use Rattle.definitions.specs.declared.Family.{Family}
use Rattle.definitions.specs.declared.Family.TheVariants.{Imputations, Preimputations}
use Rattle.definitions.specs.declared.Mode.TheVariants.{Players}
use Rattle.std.proofs.lemmas.List.{length-append}
use Rattle.definitions.specs.Classes.{bankruptcy_worth}
use Rattle.orders.specs.Orders.{IsOrder}
use Rattle.kohlberg.proofs.Listed.{listed_before, listed_here}
use Rattle.talmud.specs.Rule.{cut}
use Rattle.talmud.specs.Levels.{single, others, key_of, IsRestLevel, AreHalves, AreLevels}
use Rattle.talmud.proofs.Worths.{Divides, game_of, amount-at, worth-grand_coalition}
use Rattle.talmud.proofs.ByPlace.{IsRule}
use Rattle.talmud.proofs.Excesses.{Divides-rule, excess-core}
use Rattle.talmud.proofs.Keys.{any-keys}
use Rattle.talmud.proofs.Covering.{Covers, Covers-none, Covers-more, all_fixed, fixes}
use Rattle.talmud.proofs.HalfLevels.{half_form, half_holds}
use Rattle.talmud.proofs.RestLevel.{rest_form, rest_holds}
use Rattle.definitions.specs.declared.Measure.TheVariants.{Plain}
use Rattle.definitions.proofs.Cases.{nat_eq-same, below_or_above}

-- ---- all levels

halves_form : (n : ℕ) (cost at : ℕ → ℕ) (m i k : ℕ) (front levels : List Level) → n ≤ 64 → m ≤ n → IsOrder n cost at
    → AreHalves n cost at m i levels k → LevelsForm n front levels
halves_form n cost at m i k front [] most mn o chain = tt
halves_form n cost at m i k front (l ∷ levels) most mn o (h, b, chain) = (
  half_form n cost at m i h front l most mn o b,
  halves_form n cost at m h k (front ++ l ∷ []) levels most mn o chain,
)

-- a level behind the half levels
rest_after : (n : ℕ) (cost at : ℕ → ℕ) (m i : ℕ) (gain : Bool) (t den : ℤ) (front levels : List Level) (l : Level)
    → n ≤ 64 → m ≤ n → IsOrder n cost at → AreHalves n cost at m i levels m → IsRestLevel n at m gain t den l
    → Covers n at i front → LevelsForm n front (levels ++ l ∷ [])
rest_after n cost at m i gain t den front [] l most mn o chain b c =
    (rest_form n cost at m gain t den front l most o b (rw chain at c), tt)
rest_after n cost at m i gain t den front (l' ∷ levels) l most mn o (h, b', chain) b c = (
  half_form n cost at m i h front l' most mn o b',
  rest_after n cost at m h gain t den (front ++ l' ∷ []) levels l most mn o chain b
      (Covers-more n cost at m i h front l' b' c),
)

few_halves : (n : ℕ) (claim at : ℕ → ℕ) (m i k : ℕ) (levels : List Level) → i + 1 ≤ n
    → AreHalves n claim at m i levels k → length levels + i + 1 ≤ n
few_halves n claim at m i k [] le chain = omega arith
few_halves n claim at m i k (l ∷ []) le (h, b, chain) = omega arith
few_halves n claim at m i k (l ∷ (l' ∷ levels)) le (h, b, chain) =
    let ih = few_halves n claim at m h k (l' ∷ levels) (omega arith) chain in
    omega arith

short_halves : (n : ℕ) (claim at : ℕ → ℕ) (m i k : ℕ) (levels : List Level) → AreHalves n claim at m i levels k
    → length levels + i ≤ k
short_halves n claim at m i k [] chain = omega arith
short_halves n claim at m i k (l ∷ levels) (h, b, chain) =
    omega (arith, short_halves n claim at m h k levels chain)

pub HasForm-rule : (n : ℕ) (cost at : ℕ → ℕ) (m : ℕ) (gain : Bool) (t den : ℤ) (levels : List Level) → 1 ≤ n
    → n ≤ 64 → m ≤ n → IsOrder n cost at → AreLevels n cost at m gain t den levels → HasForm Players n levels
HasForm-rule n cost at m gain t den levels one most mn o (inl (k, chain, end)) = record {
  players = inl refl;
  few = (let e = few_halves n cost at m 0 k levels (omega arith) chain in omega arith);
  each = halves_form n cost at m 0 k [] levels most mn o chain;
}
HasForm-rule n cost at m gain t den levels one most mn o (inr (ls, l, e, chain, b)) = record {
  players = inl refl;
  few =
      (let short = short_halves n cost at m 0 m ls chain in
      let count = ap length e ∙ length-append ls (l ∷ []) in omega arith);
  each = rw e (rest_after n cost at m 0 gain t den [] ls l most mn o chain b (Covers-none n at));
}

halves_hold : (family : Family) (estate : ℕ) (claims : List ℕ) (at : ℕ → ℕ) (m : ℕ) (gain : Bool) (t : ℤ)
    (x : Allocation) (i k : ℕ) (front levels : List Level) → IsRule estate claims at m gain t x
    → AreHalves (length claims) (cut estate claims) at m i levels k → length claims ≤ k + 1
    → Covers (length claims) at i front → LevelsHold Players family Plain (game_of estate claims) x front levels
halves_hold family estate claims at m gain t x i k front [] r chain end c =
    all_fixed (length claims) (cut estate claims) at i front r.order (fixes (length claims) at i front c)
    (omega arith)
halves_hold family estate claims at m gain t x i k front (l ∷ levels) r (h, b, chain) end c = (
  half_holds family estate claims at m gain t x i h front l r b c,
  halves_hold family estate claims at m gain t x h k (front ++ l ∷ []) levels r chain end
      (Covers-more (length claims) (cut estate claims) at m i h front l b c),
)

-- all is fixed behind the level of the rest
rest_fixes : (n : ℕ) (at : ℕ → ℕ) (m : ℕ) (gain : Bool) (t den : ℤ) (front : List Level) (l : Level) → m ≤ n
    → IsRestLevel n at m gain t den l → Covers n at m front → (j : ℕ) → j < n
    → (is_listed (front ++ l ∷ []) (single at j) ≡ true) ⊎ (is_listed (front ++ l ∷ []) (others n at j) ≡ true)
rest_fixes n at m gain t den front l mn b c j lt = elim (below_or_above j m) [
  | inl less ↦ inl (listed_before front l (single at j) (c.singles j less))
  | inr low ↦ by_kind gain
      (listed_here front l (key_of n at gain j)
      (rw b.coalitions
      (any-keys (λ c. nat_eq c.0 (key_of n at gain j)) (key_of n at gain) m (n - m) j low (omega arith)
      (nat_eq-same (key_of n at gain j)))))
]
  where
    by_kind : (g : Bool) → is_listed (front ++ l ∷ []) (key_of n at g j) ≡ true
        → (is_listed (front ++ l ∷ []) (single at j) ≡ true) ⊎ (is_listed (front ++ l ∷ []) (others n at j) ≡ true)
    by_kind g h = grind arith

rest_hold : (family : Family) (estate : ℕ) (claims : List ℕ) (at : ℕ → ℕ) (m : ℕ) (gain : Bool) (t : ℤ)
    (x : Allocation) (i : ℕ) (front levels : List Level) (l : Level) → IsRule estate claims at m gain t x
    → AreHalves (length claims) (cut estate claims) at m i levels m
    → IsRestLevel (length claims) at m gain t x.den l → Covers (length claims) at i front
    → LevelsHold Players family Plain (game_of estate claims) x front (levels ++ l ∷ [])
rest_hold family estate claims at m gain t x i front [] l r chain b c =
    let cm = rw chain at c in (
      rest_holds family estate claims at m gain t x front l r b cm,
      all_fixed (length claims) (cut estate claims) at (length claims) (front ++ l ∷ []) r.order
          (rest_fixes (length claims) at m gain t x.den front l r.within b cm) (omega arith),
    )
rest_hold family estate claims at m gain t x i front (l' ∷ levels) l r (h, b', chain) b c = (
  half_holds family estate claims at m gain t x i h front l' r b' c,
  rest_hold family estate claims at m gain t x h (front ++ l' ∷ []) levels l r chain b
      (Covers-more (length claims) (cut estate claims) at m i h front l' b' c),
)

-- ---- the family and the core

efficient : (estate : ℕ) (claims : List ℕ) (x : Allocation) → Divides estate claims x
    → IsEfficient (game_of estate claims) x
efficient estate claims x d = efficient_from (worth-grand_coalition estate claims)
  where
    n_amount : amount x (grand_coalition (length claims)) ≡ x.den *ℤ pos estate
    n_amount =
        amount-at estate claims x d (grand_coalition (length claims))
        ∙ sum_over-grand_coalition (length claims) (share x) ∙ d.all

    efficient_from : bankruptcy_worth estate claims (grand_coalition (length claims)) ≡ pos estate
        → amount x (grand_coalition (length claims))
        ≡ x.den *ℤ bankruptcy_worth estate claims (grand_coalition (length claims))
    efficient_from e = n_amount ∙ ap (λ (z : ℤ). x.den *ℤ z) (sym e)

individual : (estate : ℕ) (claims : List ℕ) (x : Allocation) → Divides estate claims x
    → IsIndividuallyRational (game_of estate claims) x
individual estate claims x d i lt =
    omega (
      arith,
      linear,
      excess-core estate claims x (singleton i) d (pow-lt lt),
      amount-at estate claims x d (singleton i),
      sum_over-singleton (length claims) i (share x) lt,
    )

in_family : (family : Family) (estate : ℕ) (claims : List ℕ) (x : Allocation) → Divides estate claims x
    → InFamily family (game_of estate claims) x
in_family Imputations estate claims x d =
    ((d.players, d.positive), efficient estate claims x d, individual estate claims x d)
in_family Preimputations estate claims x d = ((d.players, d.positive), efficient estate claims x d)

pub InCore-rule : (estate : ℕ) (claims : List ℕ) (at : ℕ → ℕ) (m : ℕ) (gain : Bool) (t : ℤ) (x : Allocation)
    → IsRule estate claims at m gain t x → InCore (game_of estate claims) x
InCore-rule estate claims at m gain t x r =
    let d = Divides-rule estate claims at m gain t x r in (
      (d.players, d.positive),
      efficient estate claims x d,
      λ s lt blocks. omega (arith, linear, excess-core estate claims x s d lt),
    )

pub Certifies-rule : (family : Family) (estate : ℕ) (claims : List ℕ) (at : ℕ → ℕ) (m : ℕ) (gain : Bool) (t : ℤ)
    (x : Allocation) (levels : List Level) → IsRule estate claims at m gain t x
    → AreLevels (length claims) (cut estate claims) at m gain t x.den levels
    → Certifies Players family Plain (game_of estate claims) x levels
Certifies-rule family estate claims at m gain t x levels r (inl (k, chain, end)) = (
  in_family family estate claims x (Divides-rule estate claims at m gain t x r),
  halves_hold family estate claims at m gain t x 0 k [] levels r chain end (Covers-none (length claims) at),
)
Certifies-rule family estate claims at m gain t x levels r (inr (ls, l, e, chain, b)) = (
  in_family family estate claims x (Divides-rule estate claims at m gain t x r),
  rw e (rest_hold family estate claims at m gain t x 0 [] ls l r chain b (Covers-none (length claims) at)),
)
