-- What tests of the players' numbers tell.
use Rattle.std.proofs.Common.{◌≡◌, ℕ, zero, suc, ◌+◌, ◌≤◌, eqb, Bool, false, List}
use Rattle.std.proofs.Common.{[], ◌∷◌, map}
use Rattle.std.proofs.Common.{fold, pos, unsigned_abs, refl, sym, ◌∙◌, arith}
use Rattle.std.proofs.lemmas.Bool.{false≢true}

pub not_zero : (l : ℕ) (b : Bool) → b ≡ eqb l 0 → b ≡ false → 1 ≤ l
not_zero zero b e f = absurd (false≢true (sym f ∙ e))
not_zero (suc l) b e f = omega arith

-- the sizes of numbers from 0 add to their sum
pub same_sum : (a : ℕ) (ns : List ℕ) → fold (λ s z. s + unsigned_abs z) a (map pos ns) ≡ fold ◌+◌ a ns
same_sum a [] = refl
same_sum a (n ∷ ns) = same_sum (a + n) ns
