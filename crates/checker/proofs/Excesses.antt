-- The excess of a player alone.
use Rattle.std.proofs.Common.{◌≡◌, ℕ, ◌<◌, ◌-ℤ◌, ◌*ℤ◌, length, ap, arith}
use Rattle.definitions.proofs.Members.{sum_over-singleton}
use Rattle.definitions.specs.Coalitions.{singleton}
use Rattle.definitions.specs.Games.{Game, Allocation, share, excess}

pub excess-singleton : (g : Game) (x : Allocation) (i : ℕ) → length x.shares ≡ g.players → i < g.players
    → excess g x (singleton i) ≡ x.den *ℤ g.worth (singleton i) -ℤ share x i
excess-singleton g x i e lt =
    ap (λ z. x.den *ℤ g.worth (singleton i) -ℤ z) (sum_over-singleton (length x.shares) i (share x) (omega arith))
