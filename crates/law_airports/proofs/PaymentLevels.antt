-- Any payments have the levels of all blocks, and these fit a certificate except for the size of its lists.
use Rattle.std.proofs.Common.{◌≡◌, ℕ, zero, suc, ◌+◌, ◌-◌, ◌<◌, ◌≤◌, true, cond, nat_lt, List, [], ◌∷◌, ◌++◌, ℤ, pos}
use Rattle.std.proofs.Common.{negsuc, ◌-ℤ◌, neg_ℤ, refl, ap, ◌∙◌, inl, inr, arith}
use Rattle.std.proofs.lemmas.Int.{by_lt_z}
use Rattle.definitions.proofs.Cases.{below_or_above, less_or_last, from_nat_lt}
use Rattle.definitions.proofs.Ring.{linear}
use Rattle.definitions.specs.Coalitions.{grand_coalition}
use Rattle.definitions.specs.Certificates.{Level, is_listed}
use Rattle.real_shares.proofs.Soundness.{LevelFits, LevelsFit}
use Rattle.orders.specs.Orders.{front, IsOrder}
use Rattle.airport_scheme.specs.Scheme.{IsScheme}
use Rattle.airport_scheme.specs.Levels.{with_others, front_pair, IsRunEnd, IsBlock, IsChain}
use Rattle.airport_scheme.proofs.Pairs.{all-with_others, all-front}
use Rattle.airport_scheme.proofs.Chains.{Covers, Covers-more, others_proper, front_proper}
use Rattle.airport_scheme.proofs.Solved.{until_rises}

-- ---- the levels

module _ (n : ℕ) (c at : ℕ → ℕ) (pay : ℕ → ℤ) (den : ℤ) (h : IsScheme n c pay den) where
  -- where the block that begins at place i ends
  end_from : (fuel i k : ℕ) → i < k → k ≤ n → n ≤ k + fuel → ((j : ℕ) → i ≤ j → j < k → pay j ≡ pay i)
      → (m : ℕ) × IsRunEnd n pay i m
  end_from zero i k some within enough same =
      (k, record { some = some; within = within; same = same; until = λ lt e. omega arith })
  end_from (suc fuel) i k some within enough same = elim (below_or_above k n) [
    | inr ge ↦ (k, record { some = some; within = within; same = same; until = λ lt e. omega arith })
    | inl lt ↦
        by_lt_z (pay i) (pay k)
        (λ more. (
          k,
          record { some = some; within = within; same = same; until = λ _ e. omega (arith, linear, more, e) },
        ))
        (λ le.
        let here : pay k ≡ pay i = omega (arith, linear, h.rises i k some lt, le) in
        end_from fuel i (suc k) (omega arith) (omega arith) (omega arith)
        (λ j low high. elim (less_or_last j k high)
        [ inl less ↦ same j low less | inr last ↦ ap pay last ∙ here ]))
  ]

  run_end : (i : ℕ) → i < n → (m : ℕ) × IsRunEnd n pay i m
  run_end i lt =
      end_from n i (suc i) (omega arith) (omega arith) (omega arith)
      (λ j low high. (let e : j ≡ i = omega arith in ap pay e))

  -- the level of the block from place i up to place k
  abbrev level_of : ℕ → ℕ → Level
  level_of i k = record {
    excess_num = neg_ℤ (pay i);
    excess_den = den;
    coalitions = with_others n at (front_pair at k (pos 1) (nat_lt k n)) i (k - i);
    earlier = front_pair at i (negsuc 0) (nat_lt 0 i);
    bounds = [];
    total = cond (nat_lt k n) (pos (k - i)) (pos (k - i) -ℤ pos 1);
  }

  IsBlock-level : (i k : ℕ) → i + 2 ≤ n → IsRunEnd n pay i k → IsBlock n at pay den i k (level_of i k)
  IsBlock-level i k two r = record {
    two = two;
    some = r.some;
    within = r.within;
    same = r.same;
    until = until_rises n c pay den i k h r;
    fraction = h.positive;
    excess = refl;
    coalitions = refl;
    earlier = refl;
    bounds = refl;
    total = refl;
  }

  chain_from : (fuel i : ℕ) → n ≤ i + fuel
      → (levels : List Level) × (k : ℕ) × IsChain n at pay den i levels k × (n ≤ k + 1)
  chain_from zero i enough = ([], i, refl, omega arith)
  chain_from (suc fuel) i enough = elim (below_or_above (i + 1) n) [
    | inr ge ↦ ([], i, refl, ge)
    | inl lt ↦
        let r = run_end i (omega arith) in
        let rest = chain_from fuel r.0 (omega (arith, r.1.some)) in
        let b = IsBlock-level i r.0 (omega arith) r.1 in
        (level_of i r.0 ∷ rest.0, rest.1, (r.0, b, rest.2), rest.3)
  ]

  pub levels_exist : (levels : List Level) × (k : ℕ) × IsChain n at pay den 0 levels k × (n ≤ k + 1)
  levels_exist = chain_from n 0 (omega arith)

-- ---- what soundness asks of them

block_fits : (n : ℕ) (cost at : ℕ → ℕ) (pay : ℕ → ℤ) (den : ℤ) (i k : ℕ) (levels : List Level) (l : Level)
    → IsOrder n cost at → IsBlock n at pay den i k l → Covers n at i levels → LevelFits n levels l
block_fits n cost at pay den i k levels l o b c = record {
  fraction = b.fraction;
  proper = rw b.coalitions
      (all-with_others (λ c. (0 < c.0) × (c.0 < grand_coalition n)) n at (front_pair at k (pos 1) (nat_lt k n)) i
      (k - i)
      (λ j low high. others_proper n cost at o (let two = b.two in omega arith) j
      (let some = b.some in let within = b.within in omega arith))
      (all-front (λ c. (0 < c.0) × (c.0 < grand_coalition n)) at k (pos 1) (nat_lt k n)
      (λ e. front_proper n cost at o k (let some = b.some in omega arith) (from_nat_lt k n e))));
  listed = rw b.earlier
      (all-front (λ c. is_listed levels c.0 ≡ true) at i (negsuc 0) (nat_lt 0 i)
      (λ e. c.fronts (from_nat_lt 0 i e) (let two = b.two in omega arith)));
  players = rw b.bounds tt;
}

pub levels_fit : (n : ℕ) (cost at : ℕ → ℕ) (pay : ℕ → ℤ) (den : ℤ) (i k : ℕ) (front levels : List Level)
    → IsOrder n cost at → IsChain n at pay den i levels k → Covers n at i front → LevelsFit n front levels
levels_fit n cost at pay den i k front [] o chain c = tt
levels_fit n cost at pay den i k front (l ∷ levels) o (m, b, chain) c = (
  block_fits n cost at pay den i m front l o b c,
  levels_fit n cost at pay den m k (front ++ l ∷ []) levels o chain (Covers-more n at pay den i m front l b c),
)
