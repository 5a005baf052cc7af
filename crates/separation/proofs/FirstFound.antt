-- The first column that improves, in front or else among the coalitions'.
use Rattle.std.proofs.Common.{◌≡◌, ℕ, ◌+◌, ◌-◌, ◌<◌, ◌^◌, List, length, ap, ◌∙◌, inl, inr, arith, Option, None}
use Rattle.std.specs.Option.{ForSome}
use Rattle.definitions.specs.Games.{Game}
use Rattle.definitions.proofs.Cases.{below_or_above}
use Rattle.worth_core.specs.declared.worth.Worth.{Ghosts}
use Rattle.separation.specs.Kept.{column_at}
use Rattle.separation.specs.Fronts.{front_columns, lazy_columns}
use Rattle.separation.specs.Scanned.{game_of, ImprovesIn, ColumnImproves, IsFirstColumn, NoneInFront, column_of}
use Rattle.separation.specs.Scanned.{NoneBelow, NoneImproves, IsFirstImproving, IsSomeImproving}
use Rattle.separation.specs.declared.column.Column.{Column}
use Rattle.separation.specs.declared.front.Front.{Front}
use Rattle.separation.specs.declared.scan.Scan.{Scan}
use Rattle.separation.proofs.LazyColumns.{length-lazy, lazy-front, lazy-marked, lazy-past}

-- a level row that is there has a multiplier
pub level_within : (n rows len : ℕ) (o : Option Column) → len ≡ n + rows
    → ForSome o (λ c. ForSome c.level (λ l. l < rows)) → ForSome o (λ c. ForSome c.level (λ l. n + l < len))
level_within n rows len o e h c is l has = let lt : l < rows = h c is l has in omega arith

module _ {X : Type 0} {W : Ghosts X} (x : Scan X W) where
  abbrev g : Game
  g = game_of x

  abbrev front : Option Front
  front = x.program.now.front

  abbrev marks : Option (List ℕ)
  marks = x.program.now.marks

  abbrev first : ℕ
  first = x.program.now.first

  first_is : first ≡ length (front_columns g front)
  first_is = x.program.now.first_is

  powers : 2 ^ x.program.now.players ≡ 2 ^ g.players
  powers = ap (λ (t : ℕ). 2 ^ t) x.program.now.count

  under : (s : ℕ) → s < 2 ^ x.program.now.players → column_at (lazy_columns g front marks) (first + s) ≡ column_of x s
  under s lt =
      let d : first + s - length (front_columns g front) ≡ s = omega (arith, first_is) in
      lazy-marked g front marks (first + s) (omega (arith, first_is)) (omega (arith, first_is, powers))
      ∙ ap (column_of x) d

  none_improves : ImprovesIn x None → ⊥
  none_improves h = h

  -- no column improves in front, and none of the first so many coalitions'
  none_below : NoneInFront x → (m : ℕ) → NoneBelow x m → (j : ℕ) → j < first + m → ¬ ColumnImproves x j
  none_below none m rest j lt up = elim (below_or_above j first) [
    | inl less ↦ none j less (rw (lazy-front g front marks j (omega (arith, first_is))) at up)
    | inr le ↦ elim (below_or_above (j - first) (2 ^ x.program.now.players)) [
      | inl inside ↦
          let e : first + (j - first) ≡ j = omega arith in
          rest (j - first) (omega arith) inside (rw (under (j - first) inside) at (rw (← e) at up))
      | inr past ↦ none_improves (rw (lazy-past g front marks j (omega (arith, first_is, powers))) at up)
    ]
  ]

  pub found_marked : (s : ℕ) → NoneInFront x → IsFirstImproving x s → IsFirstColumn x (first + s)
  found_marked s none h = record {
    place = omega (arith, first_is, powers, length-lazy g front marks, h.below);
    improves = rw (under s h.below) h.improves;
    least = λ j less. none_below none s (λ t before inside. h.least t before) j less;
  }

  pub none_found : NoneInFront x → NoneImproves x → (id : ℕ) → ¬ ColumnImproves x id
  none_found none rest id = none_below none (id + 1) (λ s lt inside. rest s inside) id (omega arith)

  pub some_improves : (s : ℕ) → IsSomeImproving x s → ColumnImproves x (first + s)
  some_improves s h = rw (under s h.below) h.improves
