use Rattle.std.proofs.Common.{◌≡◌, ◌+◌, ◌*◌, ◌^◌, ◌<◌, ◌≤◌, ℕ, suc, ℤ, ◌+ℤ◌}
use Rattle.std.proofs.Common.{unsigned_abs, FitsSigned, to_z, of_z, arith}
use Rattle.std.proofs.lemmas.Int.{ints, fits_signed_from_abs}
use Rattle.std.proofs.Math.Pow.{pow-lt}
use mir.Syntax.{w64}
use Rattle.definitions.specs.Sums.{sum_below}
use Rattle.definitions.specs.Coalitions.{singleton}
use Rattle.nested_programs.proofs.found.singles.Goals as goal
use Rattle.definitions.proofs.Casts.{cast_kept}

more_small : (a b : ℤ) (i : ℕ) → unsigned_abs a ≤ i * 2 ^ 46 → unsigned_abs b < 2 ^ 46
    → unsigned_abs (a +ℤ b) ≤ (i + 1) * 2 ^ 46
more_small a b i ha hb = omega (arith, ints)

more_fits : (a b : ℤ) (i : ℕ) → unsigned_abs a ≤ i * 2 ^ 46 → i < 16 → unsigned_abs b < 2 ^ 46
    → FitsSigned w64 (a +ℤ to_z w64 (of_z w64 b))
more_fits a b i ha lt hb =
    rw (cast_kept w64 b (omega arith)) (fits_signed_from_abs w64 (a +ℤ b) (omega (arith, ints)))

kept_more : (a b : ℤ) (i : ℕ) → unsigned_abs a ≤ i * 2 ^ 46 → i < 16 → unsigned_abs b < 2 ^ 46
    → to_z w64 (of_z w64 (a +ℤ to_z w64 (of_z w64 b))) ≡ a +ℤ b
kept_more a b i ha lt hb = rw (cast_kept w64 b (omega arith)) (cast_kept w64 (a +ℤ b) (omega (arith, ints)))

next_sum : (f : ℕ → ℤ) (i : ℕ) (a b c : ℤ) → c ≡ a +ℤ b → a ≡ sum_below i f → b ≡ f i → c ≡ sum_below (i + 1) f
next_sum f i a b c e is here =
    let next : suc i ≡ i + 1 = omega arith in
    cc

pub worth-sum-requires : goal.worth-sum-requires
worth-sum-requires g c =
    let game = g.W.Worth.game c.args.game.now in
    let count = c.players-i-end.ensures.count in
    let below : c.loop-i.i < game.players = omega arith in
    rw c.single.ensures (pow-lt below)

pub overflow_add-sum : goal.overflow_add-sum
overflow_add-sum g c =
    let game = g.W.Worth.game c.args.game.now in
    let count = c.players-i-end.ensures.count in
    let few = c.requires in
    let below : c.loop-i.i < game.players = omega arith in
    let small = c.players-i-end.ensures.laws.small (singleton c.loop-i.i) (pow-lt below) in
    more_fits _ c.worth-sum.result c.loop-i.i c.loop-i.invariant.small (omega arith)
    (rw (c.worth-sum.ensures, c.single.ensures) small)

pub loop-i-preserved : goal.loop-i-preserved
loop-i-preserved g c =
    let game = g.W.Worth.game c.args.game.now in
    let count = c.players-i-end.ensures.count in
    let few = c.requires in
    let below : c.loop-i.i < game.players = omega arith in
    let is : c.worth-sum.result ≡ game.worth (singleton c.loop-i.i) = rw c.single.ensures at c.worth-sum.ensures in
    let small : unsigned_abs c.worth-sum.result < 2 ^ 46 =
    rw is (c.players-i-end.ensures.laws.small (singleton c.loop-i.i) (pow-lt below)) in
    let e =
    kept_more (to_z w64 c.loop-i.sum-bits) c.worth-sum.result c.loop-i.i c.loop-i.invariant.small
    (omega arith) small in
    record {
      is =
          next_sum (λ i. game.worth (singleton i)) c.loop-i.i (to_z w64 c.loop-i.sum-bits) c.worth-sum.result _ e
          c.loop-i.invariant.is is;
      small =
          rw e (more_small (to_z w64 c.loop-i.sum-bits) c.worth-sum.result c.loop-i.i c.loop-i.invariant.small small);
    }

pub returns : goal.returns
returns g c =
    let game = g.W.Worth.game c.args.game.now in
    let count = c.players-i-end.ensures.count in
    let full : c.loop-i.i ≡ game.players = omega arith in
    cc (c.loop-i.invariant.is)
