-- How many coalitions levels have, and how many columns these make.
use Rattle.std.proofs.Common.{◌≡◌, ℕ, suc, ◌+◌, ◌*◌, ◌<◌, ◌≤◌, List, [], ◌∷◌}
use Rattle.std.proofs.Common.{length, map, drop, get_or, ℤ, refl, ap, ◌∙◌, arith, length-append}
use Rattle.std.specs.List.{AllByRecursion}
use Rattle.definitions.specs.Games.{Game}
use Rattle.definitions.specs.Certificates.{Level}
use Rattle.kohlberg.proofs.Pairs.{drop-more}
use Rattle.separation.specs.Stage.{earlier_of}
use Rattle.separation.specs.Making.{earlier_columns}

pairs_length : (k : ℕ) (cs : List (ℕ × ℤ)) → length {A = ℕ × ℕ} (map (λ c. (c.0, k)) cs) ≡ length cs
pairs_length k [] = refl
pairs_length k (c ∷ cs) = ap suc (pairs_length k cs)

earlier_shift : (a b : ℕ) (levels : List Level) → length (earlier_of a levels) ≡ length (earlier_of b levels)
earlier_shift a b [] = refl
earlier_shift a b (l ∷ levels) =
    let ih = earlier_shift (a + 1) (b + 1) levels in
    let x = length-append (map (λ c. (c.0, a)) l.coalitions) (earlier_of (a + 1) levels) in
    let y = length-append (map (λ c. (c.0, b)) l.coalitions) (earlier_of (b + 1) levels) in
    let u = pairs_length a l.coalitions in
    let v = pairs_length b l.coalitions in
    omega arith

pub earlier_step : (k : ℕ) (l : Level) (levels : List Level)
    → length (earlier_of k (l ∷ levels)) ≡ length l.coalitions + length (earlier_of 0 levels)
earlier_step k l levels =
    let x = length-append (map (λ c. (c.0, k)) l.coalitions) (earlier_of (k + 1) levels) in
    let u = pairs_length k l.coalitions in
    let s = earlier_shift (k + 1) 0 levels in
    omega arith

-- at most 65536 a level
pub earlier_few : (k : ℕ) (levels : List Level) → AllByRecursion (λ l. length l.coalitions ≤ 65536) levels
    → length (earlier_of k levels) ≤ 65536 * length levels
earlier_few k [] h = omega arith
earlier_few k (l ∷ levels) h =
    let ih = earlier_few 0 levels h.1 in
    omega (arith, earlier_step k l levels)

pub one_level_more : (levels : List Level) (k total : ℕ) (d : Level) → k < length levels
    → total + length (earlier_of 0 (drop k levels)) ≡ length (earlier_of 0 levels)
    → total + length (get_or levels k d).coalitions + length (earlier_of 0 (drop (k + 1) levels))
    ≡ length (earlier_of 0 levels)
one_level_more levels k total d lt h =
    let e = ap (λ ls. length (earlier_of 0 ls)) (drop-more levels k d lt) in
    omega (arith, earlier_step 0 (get_or levels k d) (drop (k + 1) levels))

-- two columns for each coalition
pub columns_length : (g : Game) (cs : List (ℕ × ℕ)) → length (earlier_columns g cs) ≡ 2 * length cs
columns_length g [] = refl
columns_length g (c ∷ cs) = let h = columns_length g cs in omega (arith, h)

pub level_length : (g : Game) (k : ℕ) (cs : List (ℕ × ℤ))
    → length (earlier_columns g (map (λ c. (c.0, k)) cs)) ≡ 2 * length cs
level_length g k cs =
    let u = pairs_length k cs in
    columns_length g (map (λ c. (c.0, k)) cs) ∙ ap (λ (t : ℕ). 2 * t) u
