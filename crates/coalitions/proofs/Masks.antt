-- What the iterator over all masks gives: the k-th mask is k, and 2 ^ n come.
use Rattle.std.proofs.Common.{◌≡◌, ℕ, ◌^◌, ◌<◌, List, length, Option, Some, None, ap}
use Rattle.std.proofs.Common.{arith}
use Rattle.std.proofs.iter.runs.Sources.{from_front, as_is}
use Rattle.std.proofs.lemmas.Iterator.{YieldsList}
use Rattle.std.proofs.lemmas.Iterator.Consumers.{YieldsList-from_first, YieldsList-turn, YieldsList-end}
use Rattle.std.proofs.lemmas.List.FromFn.{length-range_with_len, get_or-range_with_len}
use Rattle.std.specs.Iterator.{YieldsFirst, Yields}
use Rattle.std.specs.Iterator.Runs.{YieldsInOrder}
use Rattle.coalitions.specs.Masks.{all_masks}

-- a call of the iterator, which is seen as the list of masks that are left
abbrev pub Steps : List ℕ → Option ℕ → List ℕ → Type 0
Steps = YieldsFirst (λ rest. rest)

pub masks_run : YieldsInOrder Steps (λ rest. rest)
masks_run p s =
    as_is p p.from (from_front Steps (λ x. x) (λ rest. rest) (λ s t h. ap length h.0) (λ s x t h. h) p s)

gives_all : (n : ℕ) (s : List ℕ) → s ≡ all_masks n → YieldsList Steps (λ x. x) s (all_masks n)
gives_all n s h = YieldsList-from_first (λ x. x) (λ rest. rest) (all_masks n) h

-- in a loop that has had the masks xs, the next one
pub all_masks-turn : (n : ℕ) (s xs t : List ℕ) → s ≡ all_masks n → Yields Steps s xs t
    → (r : Option ℕ) (u : List ℕ) (x : ℕ) → r ≡ Some x → Steps t r u → (x ≡ length xs) × (x < 2 ^ n)
all_masks-turn n s xs t h y r u x is step =
    let turn = YieldsList-turn (gives_all n s h) xs t y r u x is step in
    let count = length-range_with_len 0 (2 ^ n) in
    let item = get_or-range_with_len 0 (2 ^ n) (length xs) x (omega arith) in
    (omega arith, omega arith)

-- and at its end
pub all_masks-end : (n : ℕ) (s xs t : List ℕ) → s ≡ all_masks n → Yields Steps s xs t → (r : Option ℕ) (u : List ℕ)
    → r ≡ None → Steps t r u → length xs ≡ 2 ^ n
all_masks-end n s xs t h y r u is step =
    let end = YieldsList-end (gives_all n s h) xs t y r u is step in
    omega (arith, length-range_with_len 0 (2 ^ n))
