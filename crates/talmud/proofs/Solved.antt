-- What the code made is a certified answer.
use Rattle.std.proofs.Common.{◌≡◌, ℕ, ◌-◌, ◌*◌, ◌≤◌, Bool, List, [], ◌∷◌, length}
use Rattle.std.proofs.Common.{map}
use Rattle.std.proofs.Common.{slice_index, ℤ, pos, refl, ap, subst, inl, inr, arith}
use Rattle.std.specs.List.{AllByRecursion}
use Rattle.definitions.specs.Games.{Allocation}
use Rattle.definitions.specs.Certificates.{Level, HasForm}
use Rattle.definitions.specs.declared.Family.{Family}
use Rattle.definitions.specs.declared.Measure.TheVariants.{Plain}
use Rattle.definitions.specs.declared.Mode.TheVariants.{Players}
use Rattle.kohlberg.specs.Certificate.{CertificateData}
use Rattle.kohlberg.specs.Solved.{IsLowest, HasFew, IsSolved}
use Rattle.bankruptcy.specs.Bankruptcy.{Bankruptcy, IsBankruptcy, bankruptcy_game}
use Rattle.talmud.specs.Rule.{cut_claims, cut}
use Rattle.orders.specs.Ordered.{OrderedNumbers, IsOrdered, place}
use Rattle.talmud.specs.Division.{IsDivision, award}
use Rattle.worth_core.specs.Allocations.{allocation}
use Rattle.talmud.specs.Levels.{key_of, IsRestLevel, AreHalves, AreLevels, AreRuleLevels}
use Rattle.talmud.proofs.ByPlace.{IsRule}
use Rattle.talmud.proofs.Cuts.{length-cut}
use Rattle.talmud.proofs.Keys.{length-keys, length-both}
use Rattle.talmud.proofs.Exactly.{hold_all}
use Rattle.talmud.proofs.Chains.{HasForm-rule, Certifies-rule}
use Rattle.talmud.proofs.Awarded.{IsAwarded-awards, IsRule-division, little-is, IsHalfOrder-rule}
use Rattle.definitions.proofs.Alls.{all_join}

-- ---- at most twice as many entries in a level as players

few_halves : (n : ℕ) (claim at : ℕ → ℕ) (m i k : ℕ) (levels : List Level) → m ≤ n
    → AreHalves n claim at m i levels k → AllByRecursion (HasFew n) levels
few_halves n claim at m i k [] le chain = tt
few_halves n claim at m i k (l ∷ levels) le (h, b, chain) = (here, few_halves n claim at m h k levels le chain)
  where
    here : HasFew n l
    here =
        let count = ap length b.coalitions in
        let both = length-both n at i (h - i) in
        let early = ap length b.earlier in
        let none = ap length b.bounds in
        omega arith

few_rest : (n : ℕ) (at : ℕ → ℕ) (m : ℕ) (gain : Bool) (t den : ℤ) (l : Level) → IsRestLevel n at m gain t den l
    → HasFew n l
few_rest n at m gain t den l b =
    let count = ap length b.coalitions in
    let keys = length-keys (key_of n at gain) m (n - m) in
    let early = ap length b.earlier in
    let others = length-keys (key_of n at gain) 0 m in
    let none = ap length b.bounds in
    omega arith

few_entries : (n : ℕ) (claim at : ℕ → ℕ) (m : ℕ) (gain : Bool) (t den : ℤ) (levels : List Level) → m ≤ n
    → AreLevels n claim at m gain t den levels → AllByRecursion (HasFew n) levels
few_entries n claim at m gain t den levels le (inl (k, chain, end)) = few_halves n claim at m 0 k levels le chain
few_entries n claim at m gain t den levels le (inr (ls, l, e, chain, b)) = rw e
    (all_join (HasFew n) ls (l ∷ []) (few_halves n claim at m 0 m ls le chain) (few_rest n at m gain t den l b, tt))

-- ---- the answer

AreLevels-cut : (estate : ℕ) (claims cuts : List ℕ) (at : ℕ → ℕ) (m : ℕ) (gain : Bool) (t den : ℤ)
    (levels : List Level) → cuts ≡ cut_claims estate claims
    → AreLevels (length cuts) (slice_index cuts) at m gain t den levels
    → AreLevels (length claims) (cut estate claims) at m gain t den levels
AreLevels-cut estate claims cuts at m gain t den levels e h =
    subst (λ (n : ℕ). AreLevels n (cut estate claims) at m gain t den levels) (length-cut estate claims cuts e)
    (subst (λ (ds : List ℕ). AreLevels (length cuts) (slice_index ds) at m gain t den levels) e h)

-- shares by the rule, and their levels
pub record IsMade (b : Bankruptcy) (at : ℕ → ℕ) (m : ℕ) (gain : Bool) (t : ℤ) (x : Allocation) (levels : List Level)
    : Type 0 where
  pub rule : IsRule b.estate b.claims at m gain t x
  pub chain : AreLevels (length b.claims) (cut b.estate b.claims) at m gain t x.den levels

pub made : (b : Bankruptcy) (c : OrderedNumbers) (gain : Bool) (m h t : ℕ) (x : Allocation) (levels : List Level)
    → IsOrdered c → c.numbers ≡ cut_claims b.estate b.claims → IsDivision b.estate c gain m h t
    → x ≡ allocation (map (λ d. pos (award gain h t d)) c.numbers) (pos (2 * h))
    → AreLevels (length c.numbers) (slice_index c.numbers) (place c) m gain (pos t) (pos (2 * h)) levels
    → IsMade b (place c) m gain (pos t) x levels
made b c gain m h t x levels o e d is l = record {
  rule =
      IsRule-division b.estate b.claims c gain m h t x o e d
      (rw is (IsAwarded-awards b.estate b.claims c.numbers gain h t e));
  chain =
      rw (ap (λ (y : Allocation). y.den) is)
      (AreLevels-cut b.estate b.claims c.numbers (place c) m gain (pos t) (pos (2 * h)) levels e l);
}

pub levels-formed : (b : Bankruptcy) → IsBankruptcy b
    → (at : ℕ → ℕ) (m : ℕ) (gain : Bool) (t : ℤ) (x : Allocation) (levels : List Level)
    → IsMade b at m gain t x levels → HasForm Players (length b.claims) levels
levels-formed b h at m gain t x levels k =
    HasForm-rule (length b.claims) (cut b.estate b.claims) at m gain t x.den levels h.some h.few k.rule.within
    k.rule.order k.chain

pub solved : (family : Family) (b : Bankruptcy) (at : ℕ → ℕ) (m : ℕ) (gain : Bool) (t : ℤ) (x : Allocation)
    (levels : List Level) (c : CertificateData) → IsMade b at m gain t x levels → AllByRecursion IsLowest levels
    → c ≡ record { players = length b.claims; mode = Players; levels = levels }
    → IsSolved Players family Plain (bankruptcy_game b) x c
solved family b at m gain t x levels c k lowest e =
    rw e (record {
      players = refl;
      in_mode = refl;
      certifies = Certifies-rule family b.estate b.claims at m gain t x levels k.rule k.chain;
      few = few_entries (length b.claims) (cut b.estate b.claims) at m gain t x.den levels k.rule.within k.chain;
      lowest = lowest;
    })

pub AreRuleLevels-made : (b : Bankruptcy) → IsBankruptcy b
    → (at : ℕ → ℕ) (m : ℕ) (gain : Bool) (t : ℤ) (x : Allocation) (levels : List Level)
    → IsMade b at m gain t x levels → AreRuleLevels b.estate b.claims x levels
AreRuleLevels-made b h at m gain t x levels k =
    let n = length b.claims in
    let form = levels-formed b h at m gain t x levels k in
    let held = hold_all n (cut b.estate b.claims) at m gain t x.den levels k.chain form.each in (
      at,
      m,
      t,
      IsHalfOrder-rule b.estate b.claims at m gain t x k.rule,
      rw (little-is b.estate b.claims at m gain t x k.rule) at held,
    )
