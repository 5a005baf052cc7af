-- The first column above its value is the one that enters.
use Rattle.std.proofs.Common.{◌≡◌, ℕ, ◌+◌, Bool, true, false, IsTrue, List, length, ℤ}
use Rattle.std.proofs.Common.{pos, ◌*ℤ◌, ◌≤ℤ◌, ◌<ℤ◌, refl, arith, Option, Some, None, MatchOption}
use Rattle.std.proofs.lemmas.Bool.{false≢true}
use Rattle.std.specs.Option.{is_some}
use Rattle.definitions.proofs.Ring.{linear}
use Rattle.definitions.specs.Sums.{sum_below}
use Rattle.definitions.specs.Programs.{Bounds, value_of}
use Rattle.definitions.specs.declared.Measure.{Measure}
use Rattle.simplex.specs.Entering.{IsEntering, IsImprovingColumn}
use Rattle.simplex.specs.Program.{price, priced}
use Rattle.separation.specs.Kept.{column_at, entry_at, cost_at, kept_program}
use Rattle.separation.specs.Values.{multiplier_at, column_value, counted, Improves, IsFirst}
use Rattle.separation.specs.declared.column.Column.{Column}

-- the value of what stands under a number
abbrev value_at : Measure → List ℤ → ℕ → Option Column → ℤ
value_at measure num n o = sum_below (length num) (λ r. multiplier_at num r *ℤ entry_at measure n o r)

not_above : (a b : ℤ) → ¬ (b <ℤ a) → a ≤ℤ b
not_above a b h = grind (arith, linear)

bounded_unless_it_improves : (measure : Measure) (num : List ℤ) (den : ℤ) (n : ℕ) (w : Bool) (o : Option Column)
    → ¬ Improves measure num den n w o → IsTrue (is_some o)
    → (den *ℤ counted w (cost_at o)) ≤ℤ value_at measure num n o
bounded_unless_it_improves measure num den n w None h is = absurd (false≢true is)
bounded_unless_it_improves measure num den n w (Some c) h is =
    not_above (den *ℤ counted w c.cost) (column_value measure num n c) h

improving_is_above : (measure : Measure) (num : List ℤ) (den : ℤ) (n : ℕ) (w : Bool) (o : Option Column)
    → Improves measure num den n w o → value_at measure num n o <ℤ (den *ℤ counted w (cost_at o))
improving_is_above measure num den n w None h = absurd h
improving_is_above measure num den n w (Some c) h = h

improving_is_a_column : (measure : Measure) (num : List ℤ) (den : ℤ) (n : ℕ) (w : Bool) (o : Option Column)
    → Improves measure num den n w o → IsTrue (is_some o)
improving_is_a_column measure num den n w None h = absurd h
improving_is_a_column measure num den n w (Some c) h = refl

price_is : (measure : Measure) (n levels : ℕ) (columns : List (Option Column)) (w : Bool) (id : ℕ)
    → counted w (cost_at (column_at columns id)) ≡ price (kept_program measure n levels columns) w id
price_is measure n levels columns true id = refl
price_is measure n levels columns false id = refl

module _ (measure : Measure) (n levels : ℕ) (columns : List (Option Column)) (num : List ℤ) (den : ℤ) (w : Bool)
    (len : length num ≡ n + levels) where
  bounded_at : (id : ℕ) → ¬ Improves measure num den n w (column_at columns id)
      → IsTrue (is_some (column_at columns id))
      → (den *ℤ price (kept_program measure n levels columns) w id)
      ≤ℤ value_of (priced (kept_program measure n levels columns) w) num
      (λ r. entry_at measure n (column_at columns id) r)
  bounded_at id h is =
      rw len at (rw (price_is measure n levels columns w id) at
      (bounded_unless_it_improves measure num den n w (column_at columns id) h is))

  above_at : (id : ℕ) → Improves measure num den n w (column_at columns id)
      → value_of (priced (kept_program measure n levels columns) w) num
      (λ r. entry_at measure n (column_at columns id) r)
      <ℤ (den *ℤ price (kept_program measure n levels columns) w id)
  above_at id h =
      rw len at
      (rw (price_is measure n levels columns w id) at
      (improving_is_above measure num den n w (column_at columns id) h))

  pub entered : (found : Option ℕ) → pos 1 ≤ℤ den
      → MatchOption found ((id : ℕ) → ¬ Improves measure num den n w (column_at columns id))
      (IsFirst measure num den n w columns)
      → MatchOption found (Bounds (priced (kept_program measure n levels columns) w) num den)
      (λ id. IsEntering (priced (kept_program measure n levels columns) w) num den id)
  entered None positive h = (positive, λ id is. bounded_at id (h id) is)
  entered (Some id) positive h = record {
    is_column = improving_is_a_column measure num den n w (column_at columns id) h.improves;
    above = above_at id h.improves;
    least = λ j lt is. bounded_at j (h.least j lt) is;
  }

  pub risen : (found : Option ℕ) → pos 1 ≤ℤ den
      → MatchOption found ((id : ℕ) → ¬ Improves measure num den n w (column_at columns id))
      (λ id. Improves measure num den n w (column_at columns id))
      → MatchOption found (Bounds (priced (kept_program measure n levels columns) w) num den)
      (λ id. IsImprovingColumn (priced (kept_program measure n levels columns) w) num den id)
  risen None positive h = (positive, λ id is. bounded_at id (h id) is)
  risen (Some id) positive h = record {
    is_column = improving_is_a_column measure num den n w (column_at columns id) h;
    above = above_at id h;
  }
