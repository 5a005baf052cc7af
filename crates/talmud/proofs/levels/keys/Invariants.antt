use Rattle.std.proofs.Common.{◌≡◌, ◌-◌, length}
use Rattle.orders.specs.Ordered.{place}
use Rattle.talmud.specs.Levels.{with_keys, key_of}
use Rattle.talmud.specs.Division.{is_gain}
use Rattle.talmud.proofs.levels.keys.Given as goal

abbrev pub invariant-loop-j : goal.invariant-loop-j
invariant-loop-j l =
    l.pairs.items ≡ with_keys (key_of (length l.claims.numbers) (place l.claims) (is_gain l.side)) l.i (l.j - l.i)
