-- The list of the claims, cut to the estate.
use Rattle.std.proofs.Common.{◌≡◌, ℕ, ◌^◌, ◌<◌, ◌≤◌, List, length, get_or, min, pos}
use Rattle.std.proofs.Common.{◌≤ℤ◌, ap, ◌∙◌, inl, inr, arith, sum}
use Rattle.std.specs.List.{All}
use Rattle.std.proofs.lemmas.List.{length-map, get_or-map}
use Rattle.std.proofs.lemmas.Int.{ints}
use Rattle.definitions.proofs.Ring.{linear}
use Rattle.definitions.proofs.Members.{sum_over-grand_coalition}
use Rattle.definitions.specs.Sums.{sum_below}
use Rattle.definitions.specs.Coalitions.{grand_coalition}
use Rattle.bankruptcy.specs.Bankruptcy.{Bankruptcy, IsBankruptcy}
use Rattle.orders.proofs.ListSums.{number_of, sum-sum_below}
use Rattle.talmud.specs.Rule.{cut_claims, cut, cut_sum}
use Rattle.talmud.proofs.Worths.{cut-covers}

pub length-cut : (estate : ℕ) (claims cuts : List ℕ) → cuts ≡ cut_claims estate claims → length cuts ≡ length claims
length-cut estate claims cuts e = ap length e ∙ length-map claims (λ c. min c estate)

pub claim_sum-cut : (estate : ℕ) (claims cuts : List ℕ) → cuts ≡ cut_claims estate claims
    → sum_below (length cuts) (λ i. pos (get_or cuts i 0)) ≡ cut_sum estate claims
claim_sum-cut estate claims cuts e =
    ap (λ (ds : List ℕ). sum_below (length ds) (λ i. pos (get_or ds i 0))) e
    ∙ ap (λ (n : ℕ). sum_below n (λ i. pos (cut estate claims i))) (length-map claims (λ c. min c estate))

all-cut : (estate : ℕ) (claims : List ℕ) (P : ℕ → Type 0)
    → ((k : ℕ) → k < length claims → P (min (get_or claims k 0) estate)) → All P (cut_claims estate claims)
all-cut estate claims P each k d lt =
    let within : k < length claims = rw (length-map claims (λ c. min c estate)) at lt in
    rw (get_or-map (λ c. min c estate) claims k 0 d within) (each k within)

-- no claim is left above the estate
pub all-cut_low : (estate : ℕ) (claims cuts : List ℕ) → cuts ≡ cut_claims estate claims → All (λ c. c ≤ estate) cuts
all-cut_low estate claims cuts e =
    rw e (all-cut estate claims (λ c. c ≤ estate) (λ k lt. omega arith))

pub all-cut_small : (b : Bankruptcy) → IsBankruptcy b → (cuts : List ℕ) → cuts ≡ cut_claims b.estate b.claims
    → All (λ d. d < 2 ^ 40) cuts
all-cut_small b h cuts e =
    rw e
    (all-cut b.estate b.claims (λ d. d < 2 ^ 40) (λ k lt. omega (arith, h.small k 0 lt)))

-- cut or not, the claims cover the estate
pub cut-enough : (b : Bankruptcy) → IsBankruptcy b → (cuts : List ℕ) → cuts ≡ cut_claims b.estate b.claims
    → pos b.estate ≤ℤ sum_below (length cuts) (λ i. pos (get_or cuts i 0))
cut-enough b h cuts e =
    let n = length b.claims in
    let covers = cut-covers b.estate b.claims n (grand_coalition n) in
    let cut_all = sum_over-grand_coalition n (λ i. pos (cut b.estate b.claims i)) in
    let all = sum_over-grand_coalition n (number_of b.claims) in
    let total = sum-sum_below b.claims in
    let same = claim_sum-cut b.estate b.claims cuts e in
    elim covers.2 [
      | inl equal ↦
          let enough : pos b.estate ≤ℤ pos (sum b.claims) = omega (arith, ints) in
          omega (arith, linear)
      | inr more ↦ omega (arith, linear)
    ]
