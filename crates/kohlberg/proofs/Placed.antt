-- Pairs put in mask order: with keys of their own they ascend, facts of all stay, and sums don't change.
use Rattle.std.proofs.Common.{◌≡◌, ◌≢◌, ℕ, ◌+◌, List, [], ◌∷◌, length, ℤ, ◌+ℤ◌}
use Rattle.std.proofs.Common.{sym, arith}
use Rattle.std.specs.List.{AllByRecursion}
use Rattle.definitions.proofs.Ring.{linear}
use Rattle.definitions.specs.Coalitions.{weight_at}
use Rattle.definitions.specs.Certificates.{Ascends}
use Rattle.kohlberg.specs.Pairs.{with_pair, placed_behind, placed}
use Rattle.kohlberg.proofs.WithPair.{weight_at-with_pair, all-with_pair, length-with_pair, ascends-with_pair}

-- no pair has the key of one after it
abbrev pub Apart : List (ℕ × ℤ) → Type 0
Apart [] = Unit {0}
Apart (q ∷ qs) = AllByRecursion (λ p. p.0 ≢ q.0) qs × Apart qs

-- no pair of qs has the key of a pair of ps
abbrev Fresh : List (ℕ × ℤ) → List (ℕ × ℤ) → Type 0
Fresh ps qs = AllByRecursion (λ q. AllByRecursion (λ p. p.0 ≢ q.0) ps) qs

fresh_none : (qs : List (ℕ × ℤ)) → Fresh [] qs
fresh_none [] = tt
fresh_none (q ∷ qs) = (tt, fresh_none qs)

fresh_more : (q : ℕ × ℤ) (ps qs : List (ℕ × ℤ)) → Fresh ps qs → AllByRecursion (λ p. p.0 ≢ q.0) qs
    → Fresh (with_pair q.0 q.1 ps) qs
fresh_more q ps [] fresh apart = tt
fresh_more q ps (r ∷ rs) fresh apart =
    (all-with_pair (λ p. p.0 ≢ r.0) q.0 q.1 ps (λ e. apart.0 (sym e)) fresh.0, fresh_more q ps rs fresh.1 apart.1)

placed_behind_ascends : (ps qs : List (ℕ × ℤ)) → Ascends 0 ps → Fresh ps qs → Apart qs
    → Ascends 0 (placed_behind ps qs)
placed_behind_ascends ps [] h fresh apart = h
placed_behind_ascends ps (q ∷ qs) h fresh apart =
    placed_behind_ascends (with_pair q.0 q.1 ps) qs (ascends-with_pair 0 q.0 q.1 ps (omega arith) fresh.0 h)
    (fresh_more q ps qs fresh.1 apart.0) apart.1

pub placed_ascends : (qs : List (ℕ × ℤ)) → Apart qs → Ascends 0 (placed qs)
placed_ascends qs apart = placed_behind_ascends [] qs tt (fresh_none qs) apart

pub placed_behind_all : (P : ℕ × ℤ → Type 0) (ps qs : List (ℕ × ℤ)) → AllByRecursion P ps → AllByRecursion P qs
    → AllByRecursion P (placed_behind ps qs)
placed_behind_all P ps [] h k = h
placed_behind_all P ps (q ∷ qs) h k =
    placed_behind_all P (with_pair q.0 q.1 ps) qs (all-with_pair P q.0 q.1 ps k.0 h) k.1

pub placed_all : (P : ℕ × ℤ → Type 0) (qs : List (ℕ × ℤ)) → AllByRecursion P qs → AllByRecursion P (placed qs)
placed_all P qs h = placed_behind_all P [] qs tt h

weight_at-placed_behind : (ps qs : List (ℕ × ℤ)) (i : ℕ)
    → weight_at (placed_behind ps qs) i ≡ weight_at ps i +ℤ weight_at qs i
weight_at-placed_behind ps [] i = omega (arith, linear)
weight_at-placed_behind ps (q ∷ qs) i =
    omega (arith, linear, weight_at-placed_behind (with_pair q.0 q.1 ps) qs i, weight_at-with_pair q.0 q.1 ps i)

-- the order of pairs doesn't matter to what a player gets
pub weight_at-placed : (qs : List (ℕ × ℤ)) (i : ℕ) → weight_at (placed qs) i ≡ weight_at qs i
weight_at-placed qs i = omega (arith, linear, weight_at-placed_behind [] qs i)

pub length-placed_behind : (ps qs : List (ℕ × ℤ)) → length (placed_behind ps qs) ≡ length ps + length qs
length-placed_behind ps [] = omega arith
length-placed_behind ps (q ∷ qs) =
    omega (arith, length-placed_behind (with_pair q.0 q.1 ps) qs, length-with_pair q.0 q.1 ps)

pub length-placed : (qs : List (ℕ × ℤ)) → length (placed qs) ≡ length qs
length-placed qs = omega (arith, length-placed_behind [] qs)
