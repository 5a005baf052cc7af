-- The tests of a level's form decide it.
use Rattle.std.proofs.Common.{ℕ, ◌+◌, ◌<◌, ◌≤◌, ◌^◌, Bool, ◌&&◌, IsTrue, nat_lt, nat_le}
use Rattle.std.proofs.Common.{List, [], ◌∷◌}
use Rattle.std.proofs.Common.{◌++◌, length, ℤ, pos, ◌≤ℤ◌, unsigned_abs, refl, arith}
use Rattle.std.specs.Bool.{Decides}
use Rattle.std.specs.List.{AllByRecursion, list_all}
use Rattle.std.proofs.lemmas.Bool.Decides.{Decides-and, Decides-like, Decides-ltb, nat_tests}
use Rattle.definitions.specs.Coalitions.{grand_coalition}
use Rattle.definitions.specs.Certificates.{Level, is_listed, Ascends, IsSmall, LevelForm}
use Rattle.kohlberg.specs.Form.{is_small, ascends}
use Rattle.kohlberg.specs.LevelTests.{has_sizes, has_keys, has_order, has_weights, level_form}
use Rattle.definitions.proofs.Alls.{all_join, all_left, all_right}

Decides-le : (a b : ℕ) → Decides (nat_le a b) (a ≤ b)
Decides-le a b = (λ h. grind (arith, nat_tests), λ h. grind (arith, nat_tests))

Decides-is : (b : Bool) → Decides b (IsTrue b)
Decides-is b = (λ h. h, λ h. h)

pub Decides-all : {X : Type 0} (test : X → Bool) (P : X → Type 0) → ((x : X) → Decides (test x) (P x))
    → (xs : List X) → Decides (list_all test xs) (AllByRecursion P xs)
Decides-all test P each [] = (λ h. tt, λ h. refl)
Decides-all test P each (x ∷ xs) = Decides-and (test x) (list_all test xs) (each x) (Decides-all test P each xs)

Decides-ascends : (low : ℕ) (ps : List (ℕ × ℤ)) → Decides (ascends low ps) (Ascends low ps)
Decides-ascends low [] = (λ h. tt, λ h. refl)
Decides-ascends low (p ∷ ps) =
    Decides-and (nat_le low p.0) (ascends (p.0 + 1) ps) (Decides-le low p.0) (Decides-ascends (p.0 + 1) ps)

Decides-small : (z : ℤ) → Decides (is_small z) (IsSmall z)
Decides-small z = Decides-ltb (unsigned_abs z) (2 ^ 63)

proper : (n : ℕ) (c : ℕ × ℤ)
    → Decides (nat_lt 0 c.0 && nat_lt c.0 (grand_coalition n)) ((0 < c.0) × (c.0 < grand_coalition n))
proper n c =
    Decides-and (nat_lt 0 c.0) (nat_lt c.0 (grand_coalition n)) (Decides-ltb 0 c.0)
    (Decides-ltb c.0 (grand_coalition n))

three : {P Q R : Type 0} (a b c : Bool) → Decides a P → Decides b Q → Decides c R
    → Decides (a && b && c) ((P × Q) × R)
three a b c p q r = Decides-and (a && b) c (Decides-and a b p q) r

four : {P Q R S : Type 0} (a b c d : Bool) → Decides a P → Decides b Q → Decides c R → Decides d S
    → Decides (a && b && c && d) (((P × Q) × R) × S)
four a b c d p q r s = Decides-and (a && b && c) d (three a b c p q r) s

pub Decides-level_form : (n : ℕ) (front : List Level) (l : Level) → pos 1 ≤ℤ l.excess_den
    → Decides (level_form n front l) (LevelForm n front l)
Decides-level_form n front l den =
    Decides-like (level_form n front l)
    (λ h. record {
      fraction = den;
      some = h.0.0.0.0.0;
      few = h.0.0.0.0.1;
      few_earlier = h.0.0.0.1;
      proper = h.0.0.1.0.0;
      listed = h.0.0.1.0.1;
      players = h.0.0.1.1;
      ascend = h.0.1.0.0;
      earlier_ascend = h.0.1.0.1;
      bounds_ascend = h.0.1.1;
      small =
          all_join _ (l.coalitions ++ l.earlier) l.bounds (all_join _ l.coalitions l.earlier h.1.0.0.0 h.1.0.0.1)
          h.1.0.1;
      total_small = h.1.1;
    })
    (λ f. (
      (
        (((f.some, f.few), f.few_earlier), ((f.proper, f.listed), f.players)),
        ((f.ascend, f.earlier_ascend), f.bounds_ascend),
      ),
      (
        (
          (
            all_left _ l.coalitions l.earlier (all_left _ (l.coalitions ++ l.earlier) l.bounds f.small),
            all_right _ l.coalitions l.earlier (all_left _ (l.coalitions ++ l.earlier) l.bounds f.small),
          ),
          all_right _ (l.coalitions ++ l.earlier) l.bounds f.small,
        ),
        f.total_small,
      ),
    ))
    (four (has_sizes l) (has_keys n front l) (has_order l) (has_weights l)
    (three (nat_le 1 (length l.coalitions)) (nat_le (length l.coalitions) 65536) (nat_le (length l.earlier) 65536)
    (Decides-le 1 (length l.coalitions)) (Decides-le (length l.coalitions) 65536)
    (Decides-le (length l.earlier) 65536))
    (three (list_all (λ c. nat_lt 0 c.0 && nat_lt c.0 (grand_coalition n)) l.coalitions)
    (list_all (λ c. is_listed front c.0) l.earlier) (list_all (λ b. nat_lt b.0 n) l.bounds)
    (Decides-all (λ c. nat_lt 0 c.0 && nat_lt c.0 (grand_coalition n)) (λ c. (0 < c.0) × (c.0 < grand_coalition n))
    (λ c. proper n c) l.coalitions)
    (Decides-all (λ c. is_listed front c.0) (λ c. IsTrue (is_listed front c.0))
    (λ c. Decides-is (is_listed front c.0)) l.earlier)
    (Decides-all (λ b. nat_lt b.0 n) (λ b. b.0 < n) (λ b. Decides-ltb b.0 n) l.bounds))
    (three (ascends 0 l.coalitions) (ascends 0 l.earlier) (ascends 0 l.bounds) (Decides-ascends 0 l.coalitions)
    (Decides-ascends 0 l.earlier) (Decides-ascends 0 l.bounds))
    (four (list_all (λ p. is_small p.1) l.coalitions) (list_all (λ p. is_small p.1) l.earlier)
    (list_all (λ p. is_small p.1) l.bounds) (is_small l.total)
    (Decides-all (λ p. is_small p.1) (λ p. IsSmall p.1) (λ p. Decides-small p.1) l.coalitions)
    (Decides-all (λ p. is_small p.1) (λ p. IsSmall p.1) (λ p. Decides-small p.1) l.earlier)
    (Decides-all (λ p. is_small p.1) (λ p. IsSmall p.1) (λ p. Decides-small p.1) l.bounds)
    (Decides-small l.total)))
