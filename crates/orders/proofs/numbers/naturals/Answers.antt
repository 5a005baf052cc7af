use Rattle.std.proofs.Common.{◌≡◌, ◌<◌, ◌^◌, ◌+◌, ◌++◌, ◌∷◌, [], ℕ, ℤ, List}
use Rattle.std.proofs.Common.{length, get_or, map}
use Rattle.std.proofs.Common.{take, pos, unsigned_abs, to_z, of_z, refl, ◌∙◌, arith}
use Rattle.std.specs.List.{All}
use Rattle.std.proofs.lemmas.Int.{ints}
use Rattle.std.proofs.lemmas.List.{map_push, take_all, take_more}
use Rattle.std.proofs.lemmas.List.Elements.{All-push}
use mir.Syntax.{w64}
use Rattle.orders.specs.Numbers.{IsNumber}
use Rattle.orders.proofs.numbers.naturals.Goals as goal

-- the cast of a number keeps it
kept : (z : ℤ) → IsNumber z
    → (pos (unsigned_abs (to_z w64 (of_z w64 z))) ≡ z) × (unsigned_abs (to_z w64 (of_z w64 z)) < 2 ^ 40)
kept z h = (omega (arith, ints, h.0, h.1), omega (arith, ints, h.0, h.1))

one_more : (zs : List ℤ) (i : ℕ) (ks : List ℕ) → i < length zs → All IsNumber zs → map pos ks ≡ take i zs
    → All (λ c. c < 2 ^ 40) ks →
    let n = unsigned_abs (to_z w64 (of_z w64 (get_or zs i (pos 0)))) in
    (map pos (ks ++ n ∷ []) ≡ take (i + 1) zs) × All (λ c. c < 2 ^ 40) (ks ++ n ∷ [])
one_more zs i ks h numbers same small =
    let z = get_or zs i (pos 0) in
    let n = unsigned_abs (to_z w64 (of_z w64 z)) in
    let cast = kept z (numbers i (pos 0) h) in (
      rw (map_push pos ks n, take_more zs i (pos 0) h, same, cast.0) refl,
      All-push (λ c. c < 2 ^ 40) ks n small cast.1,
    )

pub loop-z-init : goal.loop-z-init
loop-z-init c = rw c.new-kept.ensures.items (refl, λ k d h. absurd (omega (arith, h)))

pub loop-z-preserved : goal.loop-z-preserved
loop-z-preserved c =
    rw (c.in_ok-push.ensures {u = tt}).items
    (one_more c.args.numbers.now c.loop-z.z-index c.loop-z.kept.items c.loop-z-test.true c.requires
    c.loop-z.invariant.0 c.loop-z.invariant.1)

pub returns : goal.returns
returns c =
    (c.loop-z.invariant.0 ∙ take_all c.loop-z.z-index c.args.numbers.now c.loop-z-test.false, c.loop-z.invariant.1)
