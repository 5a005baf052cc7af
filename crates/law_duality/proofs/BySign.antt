-- A list in three parts, by the sign of a number of each element. What is so of all in each part is so of the list.
use Rattle.std.proofs.Common.{◌≡◌, List, [], ◌∷◌, ℤ, pos, ◌<ℤ◌, arith}
use Rattle.std.specs.List.{AllByRecursion}
use Rattle.std.proofs.lemmas.Int.{by_lt_z}
use Rattle.definitions.proofs.Ring.{linear}

-- `number` says the number of an element, C what is known of each, and M what may be asked of them
pub record BySign {U A : Type 0} (number : U → ℤ) (C : U → Type 0) (M : A → U → Type 0) (us : List U) : Type 0 where
  pub ps : List U
  pub ns : List U
  pub zs : List U
  pub positive : AllByRecursion (λ (u : U). C u × (pos 0 <ℤ number u)) ps
  pub negative : AllByRecursion (λ (u : U). C u × (number u <ℤ pos 0)) ns
  pub none : AllByRecursion (λ (u : U). C u × (number u ≡ pos 0)) zs
  pub back : (a : A) → AllByRecursion (M a) ps → AllByRecursion (M a) ns → AllByRecursion (M a) zs
      → AllByRecursion (M a) us

pub by_sign : {U A : Type 0} (number : U → ℤ) (C : U → Type 0) (M : A → U → Type 0) (us : List U)
    → AllByRecursion C us → BySign number C M us
by_sign number C M [] h =
    record { ps = []; ns = []; zs = []; positive = tt; negative = tt; none = tt; back = λ y a b c. tt }
by_sign number C M (u ∷ us) h =
    let r = by_sign number C M us h.1 in
    by_lt_z (number u) (pos 0)
    (λ lt. record {
      ps = r.ps;
      ns = u ∷ r.ns;
      zs = r.zs;
      positive = r.positive;
      negative = ((h.0, lt), r.negative);
      none = r.none;
      back = λ y a b c. (b.0, r.back y a b.1 c);
    })
    (λ le.
    by_lt_z (pos 0) (number u)
    (λ lt. record {
      ps = u ∷ r.ps;
      ns = r.ns;
      zs = r.zs;
      positive = ((h.0, lt), r.positive);
      negative = r.negative;
      none = r.none;
      back = λ y a b c. (a.0, r.back y a.1 b c);
    })
    (λ ge. record {
      ps = r.ps;
      ns = r.ns;
      zs = u ∷ r.zs;
      positive = r.positive;
      negative = r.negative;
      none = ((h.0, omega (arith, linear)), r.none);
      back = λ y a b c. (c.0, r.back y a b c.1);
    }))
