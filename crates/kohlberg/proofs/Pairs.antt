-- One more pair of a list.
use Rattle.std.proofs.Common.{◌≡◌, ℕ, ◌+◌, ◌*◌, ◌^◌, ◌<◌, ◌≤◌, cond, List, ◌∷◌}
use Rattle.std.proofs.Common.{length, drop, get_or}
use Rattle.std.proofs.Common.{add-one, ℤ, pos, ◌+ℤ◌, unsigned_abs, to_z, of_z, ap, arith, nat_eq}
use Rattle.std.proofs.Math.Seq.{drop-cons}
use Rattle.std.proofs.lemmas.Int.{ints}
use Rattle.definitions.specs.Certificates.{number_at}
use mir.Syntax.{w128}
use Rattle.definitions.proofs.Casts.{cast_kept}

pub drop-more : {X : Type 0} (xs : List X) (j : ℕ) (d : X) → j < length xs
    → drop j xs ≡ get_or xs j d ∷ drop (j + 1) xs
drop-more xs j d lt = rw add-one (drop-cons xs j d lt)

pub number_at-more : (xs : List (ℕ × ℤ)) (i j : ℕ) (d : ℕ × ℤ) → j < length xs
    → number_at (drop j xs) i
    ≡ cond (nat_eq (get_or xs j d).0 i) (get_or xs j d).1 (pos 0) +ℤ number_at (drop (j + 1) xs) i
number_at-more xs i j d lt = ap (λ (ps : List (ℕ × ℤ)). number_at ps i) (drop-more xs j d lt)

pub added : (s v n w r t : ℤ) (j : ℕ) → unsigned_abs s ≤ j * 2 ^ 63 → j < 65536 → unsigned_abs v < 2 ^ 63
    → s +ℤ n ≡ t → n ≡ w +ℤ r → v ≡ w
    → (to_z w128 (of_z w128 (s +ℤ v)) +ℤ r ≡ t) × (unsigned_abs (to_z w128 (of_z w128 (s +ℤ v))) ≤ (j + 1) * 2 ^ 63)
added s v n w r t j low few small sum split same =
    let kept = cast_kept w128 (s +ℤ v) (omega (arith, ints)) in
    (omega (arith, ints), omega (arith, ints))
