use Rattle.std.proofs.Common.{◌≡◌, ℕ, ◌*◌, ◌+◌, ◌<◌, ◌≤◌, ◌/◌, ◌%◌, ◌^◌, slice_index}
use Rattle.std.proofs.Common.{length, ap₂, ◌∙◌, arith}
use Rattle.std.proofs.lemmas.List.{length-set}
use Rattle.matrices.specs.Rows.{entries_of}
use Rattle.big_assignment.specs.Markets.{offered}
use Rattle.big_assignment.proofs.Arrays.{put_set, put_below}
use Rattle.big_assignment.proofs.market_game.MarketGame.table.Goals as goal

pub loop-place-preserved : goal.loop-place-preserved
loop-place-preserved c =
    let xs = c.loop-place.table in
    let k = c.loop-place.place in
    let v = c.offer_within.result in
    let inv = c.loop-place.invariant in
    let put = put_set xs k v (omega arith) in (
      length-set xs k v ∙ inv.0,
      put_below
          (λ m w. w ≡ offered (entries_of c.args.self.now) (length c.args.self.now) c.args.s (m / 33) (m % 33))
          (slice_index xs) _ k v put inv.1 c.offer_within.ensures.value,
      put_below (λ m w. w < 2 ^ 40) (slice_index xs) _ k v put inv.2 c.offer_within.ensures.small,
    )

place_row : (i j : ℕ) → j ≤ 32 → (33 * i + j) / 33 ≡ i
place_row i j h = omega arith

place_column : (i j : ℕ) → j ≤ 32 → (33 * i + j) % 33 ≡ j
place_column i j h = omega arith

pub returns-clause-offers : goal.returns-clause-offers
returns-clause-offers c = λ i j row column.
    c.loop-place.invariant.1 (33 * i + j) (omega arith)
    ∙ ap₂ (offered (entries_of c.args.self.now) (length c.args.self.now) c.args.s) (place_row i j column)
    (place_column i j column)

pub returns-clause-small : goal.returns-clause-small
returns-clause-small c = λ i j row column. c.loop-place.invariant.2 (33 * i + j) (omega arith)
