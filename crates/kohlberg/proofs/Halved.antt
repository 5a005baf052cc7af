-- What halving finds.
use Rattle.std.proofs.Common.{◌≡◌, ℕ, ℤ, true, List, length, pos, Result, Ok, Err, is_ok, nat_eq, IsTrue, sym}
use Rattle.std.specs.List.{list_any}
use Rattle.std.specs.List.Sorted.{IsSearchInRange, IsBinarySearchResult}
use Rattle.std.specs.Ordering.{nat_cmp}
use Rattle.std.proofs.lemmas.Bool.{false≢true}
use Rattle.std.proofs.lemmas.Cmp.{ranked}
use Rattle.std.proofs.lemmas.List.Folds.{list_any_at}
use Rattle.definitions.proofs.Cases.{nat_eq-equal}

-- what a binary search by key finds stands in the pairs
pub found_at : (ps : List (ℕ × ℤ)) (s : ℕ) (r : Result ℕ ℕ) → IsSearchInRange r (length ps)
    → IsBinarySearchResult (λ p. nat_cmp p.0 s) ps r → is_ok r ≡ true → IsTrue (list_any (λ c. nat_eq c.0 s) ps)
found_at ps s (Ok at) in_range equal found =
    list_any_at (λ c. nat_eq c.0 s) ps at (0, pos 0) in_range
    (nat_eq-equal _ s (ranked _ s _ (sym (equal (0, pos 0)))))
found_at ps s (Err at) in_range parted found = absurd (false≢true found)
