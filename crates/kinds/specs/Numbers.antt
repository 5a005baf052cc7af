-- The numbers of the refusals. They are tested in this order, except Quota, which is tested after Estate.
use Rattle.std.specs.Prelude.{ℕ}
use Rattle.kinds.specs.declared.refusal.Refusal.{Refusal}
use Rattle.kinds.specs.declared.refusal.Refusal.TheVariants.{TooLong, NotJson, Shape, Players, Number}
use Rattle.kinds.specs.declared.refusal.Refusal.TheVariants.{Names, Coalition, Estate, Matrix, Proposal}
use Rattle.kinds.specs.declared.refusal.Refusal.TheVariants.{TooFine, Certificate, Quota}

-- the number of a refusal
abbrev pub refusal_number : Refusal → ℕ
refusal_number TooLong = 1
refusal_number NotJson = 2
refusal_number Shape = 3
refusal_number Players = 4
refusal_number Number = 5
refusal_number Names = 6
refusal_number Coalition = 7
refusal_number Estate = 8
refusal_number Matrix = 9
refusal_number Proposal = 10
refusal_number TooFine = 11
refusal_number Certificate = 12
refusal_number Quota = 13
