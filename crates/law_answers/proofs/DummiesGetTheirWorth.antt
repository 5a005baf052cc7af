-- A player that adds its worth alone to each coalition without it gets that: otherwise every coalition of greatest
-- excess would be on one side of the player, and a small transfer there would beat the nucleolus.
--
-- With the dummy a coalition's excess is less by d, what the dummy gets beside its worth alone. If d is above 0, the
-- others together have the excess d, and a unit moved from the dummy to a member of the coalition of greatest excess
-- without it improves. If d is below 0 (preimputations, plain excess), the dummy alone has the excess -d, and the sides
-- change.
use Rattle.std.proofs.Common.{◌≡◌, ◌≢◌, ◌⊎◌, ℕ, ◌+◌, ◌-◌, ◌^◌, ◌<◌, ◌≤◌, Bool, true, false, not, ℤ, pos, ◌+ℤ◌, ◌-ℤ◌}
use Rattle.std.proofs.Common.{◌*ℤ◌, ◌<ℤ◌, ◌≤ℤ◌, refl, sym, ap, ◌∙◌, inl, inr, length, arith}
use Rattle.std.proofs.lemmas.Bool.{false≢true}
use Rattle.std.proofs.lemmas.Int.{by_lt_z}
use Rattle.definitions.proofs.Cases.{from_not}
use Rattle.definitions.proofs.Families.{allocation_of, efficient_of}
use Rattle.definitions.proofs.Halves.{size_below-more}
use Rattle.definitions.proofs.Masks.{singleton-within}
use Rattle.definitions.proofs.Measured.{weight, measured-weight, weight-positive, measured-order, measured-positive}
use Rattle.definitions.proofs.Measured.{measured-zero}
use Rattle.definitions.proofs.Members.{has_player-empty, has_player-singleton}
use Rattle.definitions.proofs.Parts.{others_lacks, sum_over-more, more-lt, has_player-more_same}
use Rattle.definitions.proofs.Ring.{linear, mul-leℤ}
use Rattle.definitions.proofs.Sizes.{size-at}
use Rattle.definitions.proofs.SumsOver.{amount-empty}
use Rattle.theorems.proofs.Moves.{moved, excess-raised, measured-less, parted, joined, proper_of, no_gain}
use Rattle.law_answers.proofs.NucleolusIsInCore.{excess_grand}
use Rattle.theorems.proofs.Transfers.{some_greatest, measured_surplus_of, surplus_of}
use Rattle.definitions.proofs.SomeMembers.{some_member, some_outsider}
use Rattle.law_answers.proofs.Withouts.{without}
use Rattle.definitions.specs.Sums.{IsGreatest}
use Rattle.definitions.specs.Coalitions.{has_player, singleton, grand_coalition}
use Rattle.definitions.specs.Measures.{divisor, measured, IsMeasurable}
use Rattle.definitions.specs.Games.{Game, Allocation, share, excess, measured_excess, IsAllocation, IsEfficient}
use Rattle.definitions.specs.Games.{IsNucleolus}
use Rattle.definitions.specs.Prekernel.{holds_without}
use Rattle.definitions.specs.declared.Family.{Family}
use Rattle.definitions.specs.declared.Family.TheVariants.{Imputations, Preimputations}
use Rattle.definitions.specs.declared.Measure.{Measure}
use Rattle.definitions.specs.declared.Measure.TheVariants.{Plain, PerHead}
use Rattle.definitions.specs.Players.{IsDummy}
use Rattle.theorems.proofs.Products.{products, sorted_products}

-- ---- excesses beside a dummy

-- what the player gets beside its worth alone
abbrev over : Game → Allocation → ℕ → ℤ
over g x i = share x i -ℤ x.den *ℤ g.worth (singleton i)

-- with the player, a coalition's excess is less by that
excess-with : (g : Game) (x : Allocation) (r i : ℕ) → IsDummy g i → IsAllocation g x → r < 2 ^ g.players
    → i < g.players → has_player r i ≡ false → excess g x (r + 2 ^ i) ≡ excess g x r -ℤ over g x i
excess-with g x r i dummy h within hi lacks =
    let n = length x.shares in
    omega (products, sum_over-more n r i (share x) (rw h.0 hi) lacks, ap (◌*ℤ◌ x.den) (dummy r within lacks))

nobody : (i : ℕ) → 0 + 2 ^ i ≡ 2 ^ i
nobody i = omega arith

-- where there is a dummy, nobody has no worth
excess-empty : (g : Game) (x : Allocation) (i : ℕ) → IsDummy g i → i < g.players → excess g x 0 ≡ pos 0
excess-empty g x i dummy hi =
    let alone = dummy 0 (omega (arith, singleton-within g.players i hi)) (has_player-empty i) in
    let none : g.worth 0 ≡ pos 0 = omega (arith, linear, alone, ap g.worth (nobody i)) in
    omega (products, ap (◌*ℤ◌ x.den) none, amount-empty x)

excess-alone : (g : Game) (x : Allocation) (i : ℕ) → IsDummy g i → IsAllocation g x → i < g.players
    → excess g x (singleton i) ≡ pos 0 -ℤ over g x i
excess-alone g x i dummy h hi =
    let a = excess-with g x 0 i dummy h (omega (arith, singleton-within g.players i hi)) hi (has_player-empty i) in
    omega (arith, linear, a, excess-empty g x i dummy hi, ap (excess g x) (nobody i))

excess-others : (g : Game) (x : Allocation) (i : ℕ) → IsDummy g i → IsAllocation g x → IsEfficient g x
    → i < g.players → excess g x (grand_coalition g.players - singleton i) ≡ over g x i
excess-others g x i dummy h e hi =
    let n = g.players in
    let single = singleton-within n i hi in
    let others = grand_coalition n - singleton i in
    let whole : others + 2 ^ i ≡ grand_coalition n = omega (arith, single) in
    let a = excess-with g x others i dummy h (omega (arith, single)) hi (others_lacks n i single hi) in
    omega (arith, linear, a, ap (excess g x) whole, excess_grand g x e)

-- ---- measures

-- with one player more, a coalition's excess is divided by no less
divisor_grows : (measure : Measure) (n r i : ℕ) → IsMeasurable measure n → r < 2 ^ n → i < n
    → has_player r i ≡ false → divisor measure r ≤ divisor measure (r + 2 ^ i)
divisor_grows measure n r i m within hi lacks = grind (arith, more-lt, size-at, size_below-more)

-- an excess above 0 that is no less and divided by no more measures no less
measures_less : (measure : Measure) (n r i : ℕ) (u k : ℤ) → IsMeasurable measure n → 0 < r → r < 2 ^ n → i < n
    → has_player r i ≡ false → u ≤ℤ k → pos 0 ≤ℤ k → measured measure (r + 2 ^ i) u ≤ℤ measured measure r k
measures_less measure n r i u k m some within hi lacks le up =
    let a = divisor measure r in
    let b = divisor measure (r + 2 ^ i) in
    let grows : pos a ≤ℤ pos b =
    let h = divisor_grows measure n r i m within hi lacks in omega (arith, linear, h) in
    let none : pos 0 ≤ℤ pos a = omega (arith, linear) in
    measured-order measure n (r + 2 ^ i) r u k m (omega arith) (more-lt n r i within hi lacks) some within
    (omega (sorted_products, mul-leℤ (pos a) u k none le, mul-leℤ k (pos a) (pos b) up grows))

measured-at_most : (measure : Measure) (n s : ℕ) (e : ℤ) → IsMeasurable measure n → 0 < s → s < 2 ^ n → e ≤ℤ pos 0
    → measured measure s e ≤ℤ pos 0
measured-at_most measure n s e m some within low =
    let w = weight measure s in
    let up = weight-positive measure n s m some within in
    omega (products, mul-leℤ w e (pos 0) (omega (arith, linear, up)) low, measured-weight measure s e)

-- ---- the nucleolus

-- the coalitions that pass a test which one passes have a greatest measured excess
greatest_of : (measure : Measure) (g : Game) (x : Allocation) (test : ℕ → Bool) (s : ℕ) → s < 2 ^ g.players
    → test s ≡ true
    → (m : ℤ) × IsGreatest (λ s. (s < 2 ^ g.players) × (test s ≡ true)) (measured_excess measure g x) m
greatest_of measure g x test s within passes =
    elim (some_greatest test (measured_excess measure g x) (2 ^ g.players)) [
      | inl none ↦ absurd (false≢true (sym (none s within) ∙ passes))
      | inr found ↦ found
    ]

-- a dummy doesn't get more: it could give to a member of a coalition of greatest excess without it
no_more : (family : Family) (measure : Measure) (g : Game) (x : Allocation) (i : ℕ) → IsMeasurable measure g.players
    → IsNucleolus family measure g x → i < g.players → IsDummy g i → pos 1 ≤ℤ over g x i → ⊥
no_more family measure g x i can h hi dummy up =
    let n = g.players in
    let single = singleton-within n i hi in
    let others = grand_coalition n - singleton i in
    let within : others < 2 ^ n = omega (arith, single) in
    let pass = ap not (others_lacks n i single hi) in
    let free = excess-others g x i dummy hx ex hi in
    let some : 0 < others =
    let none : others ≡ 0 → ⊥ =
    λ e. omega (arith, linear, up, free, ap (excess g x) e, excess-empty g x i dummy hi) in
    omega (arith, none) in
    let most = greatest_of measure g x (λ s. not (has_player s i)) others within pass in
    let high : pos 1 ≤ℤ most.0 =
    omega (
      products,
      most.1.1 others (within, pass),
      measured-positive measure n others (excess g x others) can some within (omega (arith, linear, up, free)),
    ) in
    gives most.0 most.1 high
  where
    hx : IsAllocation g x
    hx = allocation_of family g x h.0

    ex : IsEfficient g x
    ex = efficient_of family g x h.0

    gives : (m : ℤ)
        → IsGreatest (λ s. (s < 2 ^ g.players) × (not (has_player s i) ≡ true)) (measured_excess measure g x) m
        → pos 1 ≤ℤ m → ⊥
    gives m most high =
        let n = g.players in
        let t = most.0.0 in
        let some : t ≢ 0 = λ e. omega (
          products,
          high,
          most.0.2,
          ap (measured_excess measure g x) e,
          measured-zero measure 0 (excess g x 0) (excess-empty g x i dummy hi),
        ) in
        let member = some_member n t (omega (arith, some)) most.0.1.0 in
        let j = member.0 in
        let ne : j ≢ i =
        λ e. false≢true (sym (from_not (has_player t i) most.0.1.1) ∙ sym (ap (has_player t) e) ∙ member.2) in
        let surplus = measured_surplus_of measure g x j i member.1 ne in
        let reaches : m ≤ℤ surplus.0 =
        omega (
          products,
          most.0.2,
          surplus.1.1 t (most.0.1.0, joined (has_player t j) (has_player t i) member.2 most.0.1.1),
        ) in
        no_gain family measure (pos 1) g x j i surplus.0 can h (omega (arith, linear)) member.1 hi ne
        (λ e. omega (arith, linear, up)) surplus.1
        (λ s within holds. omega (arith, linear, reaches, rises j ne member.1 s within holds))
      where
        rises : (j : ℕ) → j ≢ i → j < g.players → (s : ℕ) → s < 2 ^ g.players → holds_without i j s ≡ true
            → measured_excess measure g (moved (pos 1) x j i) s ≤ℤ (m +ℤ m -ℤ pos 1)
        rises j ne hj s within holds =
            let n = g.players in
            let both = parted (has_player s i) (has_player s j) holds in
            let part = without n s i within hi both.0 in
            let r = part.0 in
            let e = excess g x r in
            let u = excess g (moved (pos 1) x j i) s in
            let falls : u ≤ℤ (e +ℤ e -ℤ pos 1) =
            omega (
              products,
              up,
              excess-raised (pos 1) g x j i s hx hj hi holds,
              ap (excess g x) part.3,
              excess-with g x r i dummy hx part.1 hi part.2,
            ) in
            let low =
            measured-at_most measure n s u can (omega (arith, (proper_of n i j s hj within holds).0)) within in
            let high_one : pos 1 ≤ℤ e → measured measure s u ≤ℤ (m +ℤ m -ℤ pos 1) = λ above.
            let some : 0 < r =
            let none : r ≡ 0 → ⊥ =
            λ z. omega (arith, linear, above, ap (excess g x) z, excess-empty g x i dummy hi) in
            omega (arith, none) in
            let here = ap (λ (k : ℕ). measured measure k u) part.3 in
            let first = measures_less measure n r i u (e +ℤ e -ℤ pos 1) can some part.1 hi part.2 falls
            (omega (arith, linear, above)) in
            let second = measured-less measure n r e (pos 1) m can some part.1 (omega (arith, linear))
            (most.1 r (part.1, ap not part.2)) in
            omega (arith, linear, here, first, second) in
            by_lt_z (pos 0) e (λ lt. high_one (omega (arith, linear, lt)))
            (λ le. omega (arith, linear, high, low (omega (arith, linear, falls, le))))

-- nor less: one outside a coalition of greatest excess with it could give to it
no_less : (g : Game) (x : Allocation) (i : ℕ) → IsNucleolus Preimputations Plain g x → i < g.players → IsDummy g i
    → over g x i <ℤ pos 0 → ⊥
no_less g x i h hi dummy down =
    let n = g.players in
    let hx = h.0.0 in
    let single = singleton-within n i hi in
    let most = greatest_of Plain g x (λ s. has_player s i) (singleton i) single (has_player-singleton i) in
    let t = most.1.0.0 in
    let not_all : t ≢ grand_coalition n = λ e. omega (
      products,
      most.1.1 (singleton i) (single, has_player-singleton i),
      down,
      most.1.0.2,
      excess-alone g x i dummy hx hi,
      ap (excess g x) e,
      excess_grand g x h.0.1,
    ) in
    let outsider = some_outsider n t most.1.0.1.0 not_all in
    let j = outsider.0 in
    let ne : i ≢ j = λ e. false≢true (sym outsider.2 ∙ sym (ap (has_player t) e) ∙ most.1.0.1.1) in
    let surplus = surplus_of g x i j hi ne in
    no_gain Preimputations Plain (pos 1) g x i j surplus.0 (inl refl) h (omega (arith, linear)) hi outsider.1 ne
    (λ e. absurd (cc)) surplus.1
    (λ s within passes.
    let both = parted (has_player s j) (has_player s i) passes in
    let lacks = from_not (has_player s i) both.1 in
    omega (
      products,
      down,
      most.1.1 (s + 2 ^ i) (more-lt n s i within hi lacks, has_player-more_same s i lacks),
      most.1.0.2,
      surplus.1.1 t (most.1.0.1.0, joined (has_player t i) (has_player t j) most.1.0.1.1 (ap not outsider.2)),
      excess-raised (pos 1) g x i j s hx hi outsider.1 passes,
      excess-with g x s i dummy hx within hi lacks,
    ))

pub dummies_get_worth : (family : Family) (measure : Measure) (g : Game) (x : Allocation) (i : ℕ)
    → IsMeasurable measure g.players → (family ≡ Imputations) ⊎ (measure ≡ Plain) → IsNucleolus family measure g x
    → i < g.players → IsDummy g i → share x i ≡ x.den *ℤ g.worth (singleton i)
dummies_get_worth Imputations measure g x i can either h hi dummy =
    by_lt_z (pos 0) (over g x i)
    (λ lt. absurd (no_more Imputations measure g x i can h hi dummy (omega (arith, linear, lt))))
    (λ le. omega (arith, linear, le, h.0.2 i hi))
dummies_get_worth Preimputations Plain g x i can either h hi dummy =
    by_lt_z (pos 0) (over g x i)
    (λ lt. absurd (no_more Preimputations Plain g x i can h hi dummy (omega (arith, linear, lt))))
    (λ le. by_lt_z (over g x i) (pos 0) (λ lt. absurd (no_less g x i h hi dummy lt))
    (λ ge. omega (arith, linear, le, ge)))
dummies_get_worth Preimputations PerHead g x i can (inl e) h hi dummy = absurd (cc)
dummies_get_worth Preimputations PerHead g x i can (inr e) h hi dummy = absurd (cc)
