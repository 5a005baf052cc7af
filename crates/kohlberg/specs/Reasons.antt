-- The numbers of reasons, in the order in which conditions are tested.
use Rattle.std.specs.Prelude.{ℕ}
use Rattle.kohlberg.specs.declared.verdicts.Reason.{Reason}
use Rattle.kohlberg.specs.declared.verdicts.Reason.TheVariants.{NotEfficient, NotIndividual, WrongExcess}
use Rattle.kohlberg.specs.declared.verdicts.Reason.TheVariants.{WeightSign, Unbalanced, BoundNotTight, OutsideAbove}
use Rattle.kohlberg.specs.declared.verdicts.Reason.TheVariants.{NotAll}

-- the number of a reason
abbrev pub reason_number : Reason → ℕ
reason_number NotEfficient = 1
reason_number (NotIndividual i) = 2
reason_number (WrongExcess j s) = 3
reason_number (WeightSign j place) = 4
reason_number (Unbalanced j i) = 5
reason_number (BoundNotTight j i) = 6
reason_number (OutsideAbove j e) = 7
reason_number (NotAll i) = 8
