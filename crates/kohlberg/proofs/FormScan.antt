-- The form of all levels is the form of those that are left behind those in front.
use Rattle.std.proofs.Common.{◌≡◌, ℕ, ◌+◌, ◌<◌, List, [], ◌∷◌, ◌++◌, length, take}
use Rattle.std.proofs.Common.{drop, get_or, add-one}
use Rattle.std.proofs.Math.Seq.{take-suc}
use Rattle.definitions.specs.Certificates.{Level, LevelsForm}

pub record SameForm (n : ℕ) (levels : List Level) (i : ℕ) : Type 0 where
  pub whole : LevelsForm n (take i levels) (drop i levels) → LevelsForm n [] levels
  pub rest : LevelsForm n [] levels → LevelsForm n (take i levels) (drop i levels)

pub take-more : {X : Type 0} (xs : List X) (j : ℕ) (d : X) → j < length xs
    → take (j + 1) xs ≡ take j xs ++ get_or xs j d ∷ []
take-more xs j d lt = rw add-one (take-suc xs j d lt)
