-- What a choice by a test gave says of the test: if it is something, the test passed.
use Rattle.std.proofs.Common.{◌≡◌, Bool, true, false, Option, Some, None, if◌then◌else◌, refl, sym}
use Rattle.std.proofs.Common.{ap, subst}
use Rattle.std.specs.Prelude.{⊤}

abbrev or_else : {A : Type 0} → A → Option A → A
or_else d None = d
or_else d (Some a) = a

abbrev IsSomething : {A : Type 0} → Option A → Type 0
IsSomething None = ⊥
IsSomething (Some a) = ⊤

pub passed_if : {A : Type 0} (b : Bool) (x y : A) → Some y ≡ (if b then Some x else None) → (b ≡ true) × (y ≡ x)
passed_if true x y e = (refl, ap (or_else x) e)
passed_if false x y e = absurd (subst IsSomething e tt)

pub failed_if : {A : Type 0} (b : Bool) (x : A) → None ≡ (if b then Some x else None) → b ≡ false
failed_if true x e = absurd (subst IsSomething (sym e) tt)
failed_if false x e = refl
