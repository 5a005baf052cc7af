use Rattle.std.proofs.Common.{◌≡◌, drop}
use Rattle.std.specs.List.{list_all}
use Rattle.kohlberg.specs.Form.{is_small}
use Rattle.kohlberg.proofs.levels.bound_weights_small.Given as goal

abbrev pub invariant-loop-w : goal.invariant-loop-w
invariant-loop-w l = list_all (λ p. is_small p.1) (drop l.w-index l.bounds) ≡ list_all (λ p. is_small p.1) l.bounds
