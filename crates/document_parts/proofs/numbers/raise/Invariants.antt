use Rattle.std.proofs.Common.{◌≡◌, ◌++◌, ◌*ℤ◌, pos, map, take, drop, true}
use Rattle.std.specs.List.{list_all}
use Rattle.document_parts.specs.ScaledNumbers.{is_small}
use Rattle.document_parts.proofs.numbers.raise.Given as goal

abbrev pub invariant-loop-i : goal.invariant-loop-i
invariant-loop-i l = record {
  items : l.numbers.items
      ≡ map (λ z. z *ℤ pos l.fn.factor) (take l.i l.fn.numbers.items) ++ drop l.i l.fn.numbers.items;
  small : list_all (λ z. is_small (z *ℤ pos l.fn.factor)) (take l.i l.fn.numbers.items) ≡ true;
}
