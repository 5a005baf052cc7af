-- What the code made is a certified answer.
use Rattle.std.proofs.Common.{◌≡◌, ℕ, suc, ◌+◌, ◌-◌, ◌<◌, ◌≤◌, Bool, true, false}
use Rattle.std.proofs.Common.{cond, ◌||◌, nat_lt}
use Rattle.std.proofs.Common.{nat_eq, List, [], ◌∷◌, ◌++◌, length, get_or, ℤ, pos, negsuc}
use Rattle.std.proofs.Common.{◌-ℤ◌, ◌<ℤ◌}
use Rattle.std.proofs.Common.{refl, ap, ◌∙◌, inl, inr, arith}
use Rattle.std.specs.List.{AllByRecursion}
use Rattle.std.proofs.lemmas.Int.{ints, by_lt_z}
use Rattle.definitions.proofs.Parts.{more-is}
use Rattle.definitions.specs.Coalitions.{has_player}
use Rattle.definitions.specs.Games.{Allocation, IsShares, InCore}
use Rattle.definitions.specs.Certificates.{Level, HasForm}
use Rattle.definitions.specs.declared.Family.{Family}
use Rattle.definitions.specs.declared.Measure.TheVariants.{Plain}
use Rattle.definitions.specs.declared.Mode.TheVariants.{Players}
use Rattle.kohlberg.specs.Certificate.{CertificateData}
use Rattle.kohlberg.specs.Solved.{IsLowest, HasFew, IsSolved}
use Rattle.worth_core.specs.Allocations.{allocation}
use Rattle.airport.specs.Airport.{Airport, IsAirport, airport_game, place}
use Rattle.orders.specs.Orders.{IsOrder, front}
use Rattle.airport_scheme.specs.Scheme.{cost_at, IsScheme, IsPaid, IsPayment, IsByPlayer, pay_at}
use Rattle.orders.proofs.Fronts.{front-lacks}
use Rattle.airport_scheme.proofs.Places.{IsOrder-airport}
use Rattle.airport_scheme.specs.Levels.{IsRunEnd, IsBlock, IsChain, AreLevels, AreSchemeLevels, front_pair}
use Rattle.airport_scheme.proofs.Pairs.{length-with_others}
use Rattle.airport_scheme.proofs.Exactly.{AreBlockLevels-chain}
use Rattle.airport_scheme.proofs.Chains.{HasForm-chain, Certifies-chain, InCore-scheme, length-front}
use Rattle.definitions.proofs.Cases.{less_or_last_of, from_nat_lt, from_not_nat_lt}

-- ---- where a block ends

pub front-with : (n : ℕ) (cost at : ℕ → ℕ) → IsOrder n cost at → (k after r : ℕ) → k < n → after ≡ front at k
    → ((i : ℕ) → has_player r i ≡ (nat_eq i (at k) || has_player after i)) → r ≡ front at (k + 1)
front-with n cost at o k after r lt e each =
    let e' : k + 1 ≡ suc k = omega arith in
    rw e'
    (more-is (front at k) (at k) r (front-lacks n cost at o k k (omega arith) lt)
    (λ i. each i ∙ ap (λ (s : ℕ). nat_eq i (at k) || has_player s i) e))

pub same_more : (f : ℕ → ℤ) (i k : ℕ) → ((j : ℕ) → i ≤ j → j < k → f j ≡ f i) → f k ≡ f i → (j : ℕ) → i ≤ j
    → j < k + 1 → f j ≡ f i
same_more f i k h e j le lt = elim (less_or_last_of j k lt) [ inl less ↦ h j le less | inr same ↦ ap f same ∙ e ]

-- where the payment after a block isn't the same it is greater
pub until_rises : (n : ℕ) (c : ℕ → ℕ) (pay : ℕ → ℤ) (den : ℤ) (i k : ℕ) → IsScheme n c pay den → IsRunEnd n pay i k
    → k < n → pay i <ℤ pay k
until_rises n c pay den i k s r lt =
    let le = s.rises i k r.some lt in
    by_lt_z (pay i) (pay k) (λ less. less) (λ ge. absurd (r.until lt (omega (arith, ints))))

pub total_is : (n i k : ℕ) (z : ℤ) → (k < n → z ≡ pos (k - i)) → (n ≤ k → z ≡ pos (k - i) -ℤ pos 1)
    → z ≡ cond (nat_lt k n) (pos (k - i)) (pos (k - i) -ℤ pos 1)
total_is n i k z inner outer =
    let step : (b : Bool) → nat_lt k n ≡ b → z ≡ cond b (pos (k - i)) (pos (k - i) -ℤ pos 1) = elim [
      | true ↦ λ e. inner (from_nat_lt k n e)
      | false ↦ λ e. outer (from_not_nat_lt k n e)
    ] in
    step (nat_lt k n) refl

-- ---- chains grow at their end

pub IsChain-push : (n : ℕ) (at : ℕ → ℕ) (pay : ℕ → ℤ) (den : ℤ) (i m k : ℕ) (levels : List Level) (l : Level)
    → IsChain n at pay den i levels m → IsBlock n at pay den m k l → IsChain n at pay den i (levels ++ l ∷ []) k
IsChain-push n at pay den i m k [] l chain b =
    (k, rw chain b, refl)
IsChain-push n at pay den i m k (l' ∷ levels) l (h, b', chain) b =
    (h, b', IsChain-push n at pay den h m k levels l chain b)

few_entries : (n : ℕ) (at : ℕ → ℕ) (pay : ℕ → ℤ) (den : ℤ) (i k : ℕ) (levels : List Level)
    → IsChain n at pay den i levels k → AllByRecursion (HasFew n) levels
few_entries n at pay den i k [] chain = tt
few_entries n at pay den i k (l ∷ levels) (m, b, chain) = (here, few_entries n at pay den m k levels chain)
  where
    here : HasFew n l
    here =
        let count =
        ap length b.coalitions ∙ length-with_others n at (front_pair at m (pos 1) (nat_lt m n)) i (m - i) in
        let short = length-front at m (pos 1) (nat_lt m n) in
        let early = ap length b.earlier in
        let early_short = length-front at i (negsuc 0) (nat_lt 0 i) in
        let none = ap length b.bounds in
        omega arith

-- ---- the answer

pub shares-fit : (a : Airport) → IsAirport a → (pay num : List ℤ) (den : ℤ)
    → IsPayment (length a.costs) (cost_at a) pay den → IsByPlayer (length a.costs) (place a) pay num
    → IsShares (allocation num den)
shares-fit a h pay num den p b = record {
  some = omega arith;
  few = omega arith;
  positive = p.scheme.positive;
  common = p.common;
  small = λ i lt. b.small i (pos 0) lt;
}

-- the levels have the form of a certificate
pub levels-formed : (a : Airport) → IsAirport a → (pay : ℕ → ℤ) (den : ℤ) (levels : List Level)
    → AreLevels (length a.costs) (place a) pay den levels → HasForm Players (length a.costs) levels
levels-formed a h pay den levels (k, chain, end) =
    HasForm-chain (length a.costs) (λ i. get_or a.costs i 0) (place a) pay den k levels h.some h.few
    (IsOrder-airport a h) chain

pub IsPaid-made : (a : Airport) → IsAirport a → (pay num : List ℤ) (den : ℤ)
    → IsPayment (length a.costs) (cost_at a) pay den → IsByPlayer (length a.costs) (place a) pay num
    → IsPaid a.costs (place a) (pay_at pay) (allocation num den)
IsPaid-made a h pay num den p b =
    record { order = IsOrder-airport a h; players = b.long; shares = b.shares; scheme = p.scheme }

pub AreSchemeLevels-made : (a : Airport) → IsAirport a
    → (pay num : List ℤ) (den : ℤ) (x : Allocation) (levels : List Level)
    → IsPayment (length a.costs) (cost_at a) pay den → IsByPlayer (length a.costs) (place a) pay num
    → x ≡ allocation num den → AreLevels (length a.costs) (place a) (pay_at pay) den levels
    → AreSchemeLevels a.costs (place a) x levels
AreSchemeLevels-made a h pay num den x levels p b e (k, chain, end) =
    let form = levels-formed a h (pay_at pay) den levels (k, chain, end) in
    rw e (
      pay_at pay,
      IsPaid-made a h pay num den p b,
      (k, AreBlockLevels-chain (length a.costs) (place a) (pay_at pay) den 0 k [] levels chain form.each, end),
    )

pub solved : (family : Family) (a : Airport) → IsAirport a
    → (pay num : List ℤ) (den : ℤ) (x : Allocation) (levels : List Level) (c : CertificateData)
    → IsPayment (length a.costs) (cost_at a) pay den → IsByPlayer (length a.costs) (place a) pay num
    → x ≡ allocation num den → AreLevels (length a.costs) (place a) (pay_at pay) den levels
    → AllByRecursion IsLowest levels → c ≡ record { players = length a.costs; mode = Players; levels = levels }
    → IsSolved Players family Plain (airport_game a) x c
solved family a h pay num den x levels c p b e (k, chain, end) lowest f =
    rw e (rw f answer)
  where
    answer : IsSolved Players family Plain (airport_game a) (allocation num den)
        (record { players = length a.costs; mode = Players; levels = levels })
    answer = record {
      players = refl;
      in_mode = refl;
      certifies =
          Certifies-chain family a.costs (place a) (pay_at pay) (allocation num den) k levels h.some
          (IsPaid-made a h pay num den p b) chain end;
      few = few_entries (length a.costs) (place a) (pay_at pay) den 0 k levels chain;
      lowest = lowest;
    }

pub InCore-made : (a : Airport) → IsAirport a → (pay num : List ℤ) (den : ℤ) (x : Allocation)
    → IsPayment (length a.costs) (cost_at a) pay den → IsByPlayer (length a.costs) (place a) pay num
    → x ≡ allocation num den → InCore (airport_game a) x
InCore-made a h pay num den x p b e =
    rw e
    (InCore-scheme a.costs (place a) (pay_at pay) (allocation num den) h.some (IsPaid-made a h pay num den p b))
