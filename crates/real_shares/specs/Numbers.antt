-- Numbers that are added and compared, as the real numbers are: the laws of a linearly ordered abelian group with a
-- unit above zero, and lists of numbers from the greatest.
--
--   Numbers C              a zero, a unit, sums, negatives and a test of the order on the set C
--   AtMost, Less, Equal    the order; two numbers are equal if each is at most the other
--   IsOrderedGroup         the laws of a linearly ordered abelian group with a unit above zero
--   multiple, times        a number times a natural number, times an integer
--   total_below            f 0 + .. + f (n - 1)
--   total_over             the sum of the members' numbers
--   placed, sorted_by      a list of numbers from the greatest
--   IsLesserBy             at the first place where the two lists differ, the first list has the lesser number
--   ComesBeforeBy          the two have one length, and the first is lesser
use Rattle.std.specs.Prelude.{◌≡◌, ◌⊎◌, ℕ, zero, suc, Bool, IsTrue, List, [], ◌∷◌}
use Rattle.std.specs.Prelude.{length, ℤ, pos, negsuc}
use Rattle.std.specs.Prelude.{if◌then◌else◌}
use Rattle.definitions.specs.Coalitions.{has_player}

-- ---- numbers

-- a zero, a unit, sums, negatives, and a test whether a number is at most another
pub record Numbers (C : Type 0) : Type 0 where
  pub zero : C
  pub unit : C
  pub plus : C → C → C
  pub minus : C → C
  pub at_most : C → C → Bool

abbrev pub AtMost : {C : Type 0} → Numbers C → C → C → Type 0
AtMost N a b = IsTrue (N.at_most a b)

abbrev pub Less : {C : Type 0} → Numbers C → C → C → Type 0
Less N a b = ¬ AtMost N b a

-- each is at most the other
abbrev pub Equal : {C : Type 0} → Numbers C → C → C → Type 0
Equal N a b = AtMost N a b × AtMost N b a

pub record IsOrderedGroup {C : Type 0} (N : Numbers C) : Type 0 where
  pub linear : (a b : C) → AtMost N a b ⊎ AtMost N b a
  pub transitive : (a b c : C) → AtMost N a b → AtMost N b c → AtMost N a c
  pub shifts : (a b c : C) → AtMost N a b → AtMost N (N.plus a c) (N.plus b c)
  pub commutes : (a b : C) → Equal N (N.plus a b) (N.plus b a)
  pub associates : (a b c : C) → Equal N (N.plus (N.plus a b) c) (N.plus a (N.plus b c))
  pub neutral : (a : C) → Equal N (N.plus a N.zero) a
  pub inverse : (a : C) → Equal N (N.plus a (N.minus a)) N.zero
  pub positive : Less N N.zero N.unit

-- a number times a natural number
abbrev pub multiple : {C : Type 0} → Numbers C → ℕ → C → C
multiple N zero a = N.zero
multiple N (suc k) a = N.plus (multiple N k a) a

-- a number times an integer
abbrev pub times : {C : Type 0} → Numbers C → ℤ → C → C
times N (pos k) a = multiple N k a
times N (negsuc k) a = N.minus (multiple N (suc k) a)

abbrev pub total_below : {C : Type 0} → Numbers C → ℕ → (ℕ → C) → C
total_below N zero f = N.zero
total_below N (suc n) f = N.plus (total_below N n f) (f n)

abbrev pub total_over : {C : Type 0} → Numbers C → ℕ → (ℕ → C) → ℕ → C
total_over N n a s = total_below N n (λ i. if has_player s i then a i else N.zero)

-- ---- lists from the greatest

-- the list with a number put before the first number that is less, or at the end if there is none
abbrev pub placed : {C : Type 0} → Numbers C → C → List C → List C
placed N a [] = a ∷ []
placed N a (b ∷ l) = if N.at_most a b then b ∷ placed N a l else a ∷ (b ∷ l)

-- the same numbers, each as often, from the greatest
abbrev pub sorted_by : {C : Type 0} → Numbers C → List C → List C
sorted_by N [] = []
sorted_by N (a ∷ l) = placed N a (sorted_by N l)

abbrev pub IsLesserBy : {C : Type 0} → Numbers C → List C → List C → Type 0
IsLesserBy N [] k = ⊥
IsLesserBy N (a ∷ l) [] = ⊥
IsLesserBy N (a ∷ l) (b ∷ k) = Less N a b ⊎ (Equal N a b × IsLesserBy N l k)

-- the first list comes before the second in the lexicographic order
abbrev pub ComesBeforeBy : {C : Type 0} → Numbers C → List C → List C → Type 0
ComesBeforeBy N l k = (length l ≡ length k) × IsLesserBy N l k
