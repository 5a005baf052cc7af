-- Real numbers have sums and negatives, and a test of their order if it is decided.
use Rattle.std.proofs.Common.{◌⊎◌, ◌+◌, Bool, true, false, pos, ◌+ℤ◌, ◌-ℤ◌, refl, inl, inr, arith, IsTrue}
use Rattle.std.proofs.lemmas.Bool.{false≢true}
use Rattle.definitions.proofs.Ring.{linear}
use Rattle.real_shares.specs.Numbers.{Numbers}
use Rattle.real_shares.specs.Reals.{Real, IsAtMost, AreReals}
use Rattle.real_shares.proofs.RealNumbers.{stable}

abbrev none : Real
none = record
    { near = λ n. pos 0; error = 0; above = λ m n. omega (arith, linear); below = λ m n. omega (arith, linear) }

abbrev one : Real
one = record
    { near = λ n. pos n; error = 0; above = λ m n. omega (arith, linear); below = λ m n. omega (arith, linear) }

abbrev sum : Real → Real → Real
sum a b = record {
  near = λ n. a.near n +ℤ b.near n;
  error = a.error + b.error;
  above = λ m n. let u = a.above m n in let v = b.above m n in omega (arith, linear, u, v);
  below = λ m n. let u = a.below m n in let v = b.below m n in omega (arith, linear, u, v);
}

abbrev negative : Real → Real
negative a = record {
  near = λ n. pos 0 -ℤ a.near n;
  error = a.error;
  above = λ m n. let u = a.below m n in omega (arith, linear, u);
  below = λ m n. let u = a.above m n in omega (arith, linear, u);
}

abbrev is_left : {A B : Type 0} → A ⊎ B → Bool
is_left (inl a) = true
is_left (inr b) = false

from_left : {A : Type 0} → (d : A ⊎ (¬ A)) → IsTrue (is_left d) → A
from_left (inl a) h = a
from_left (inr b) h = absurd (false≢true h)

to_left : {A : Type 0} → (d : A ⊎ (¬ A)) → A → IsTrue (is_left d)
to_left d h = grind arith

reals_from : ((a b : Real) → IsAtMost a b ⊎ (¬ IsAtMost a b)) → (N : Numbers Real) × AreReals N
reals_from decides = (
  record { zero = none; unit = one; plus = sum; minus = negative; at_most = λ a b. is_left (decides a b) },
  record {
    zero = λ n. refl;
    unit = λ n. refl;
    plus = λ a b n. refl;
    minus = λ a n. refl;
    at_most = λ a b h. from_left (decides a b) h;
    decides = λ a b h. to_left (decides a b) h;
  },
)

decided_order : (a b : Real) → (¬ IsAtMost a b) ⊎ (¬ (¬ IsAtMost a b)) → IsAtMost a b ⊎ (¬ IsAtMost a b)
decided_order a b h = grind (arith, stable)

pub reals_there : ((a b : Real) → (¬ IsAtMost a b) ⊎ (¬ (¬ IsAtMost a b))) → (N : Numbers Real) × AreReals N
reals_there middle = reals_from (λ a b. decided_order a b (middle a b))
