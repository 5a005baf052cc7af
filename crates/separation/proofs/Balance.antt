-- The columns of the coalitions, each under its mask, are the balanced program.
use Rattle.std.proofs.Common.{◌≡◌, ℕ, ◌*◌, ◌%◌, ◌<◌, ◌≤◌, ◌^◌, Bool, true, false}
use Rattle.std.proofs.Common.{◌&&◌, refl, ap, ◌∙◌, inl, inr, arith, nat_lt}
use Rattle.std.proofs.lemmas.Nat.{one_shl}
use Rattle.std.proofs.lemmas.Bool.Decides.{nat_tests}
use Rattle.definitions.specs.Games.{Game, IsGame}
use Rattle.definitions.specs.Programs.{Program}
use Rattle.definitions.specs.declared.Measure.TheVariants.{Plain}
use Rattle.separation.specs.Balanced.{balanced_program}
use Rattle.separation.specs.Kept.{column_at, kept_program, AreSmall}
use Rattle.separation.specs.Same.{IsSame}
use Rattle.separation.specs.Making.{listed, balanced_column}
use Rattle.separation.proofs.Slots.{SameAt, same_program, small_columns, length-listed}
use Rattle.separation.proofs.Slots.{listed_at, past_at, for_none, member_entry}
use Rattle.definitions.proofs.Cases.{and_false, below_or_above}

-- the number of coalitions of at most 16 players
pub masks_of : (n : ℕ) → n ≤ 16 → 1 * 2 ^ n % 2 ^ 64 ≡ 2 ^ n
masks_of n few = one_shl n 64 (omega arith)

module _ (g : Game) (game : IsGame g) where
  abbrev q : Program
  q = balanced_program g

  inside_at : (s : ℕ) → s < 2 ^ g.players → SameAt Plain g.players 0 q s (balanced_column g s)
  inside_at s lt = by_test (nat_lt 0 s) refl
    where
      within : nat_lt s (2 ^ g.players) ≡ true
      within = grind (arith, nat_tests)

      by_test : (b : Bool) → nat_lt 0 s ≡ b → SameAt Plain g.players 0 q s (balanced_column g s)
      by_test true e = rw e (record {
        is_column = rw e within;
        entry = λ r h. member_entry Plain g.players s r h;
        cost = refl;
        small = game.small s lt;
        level = for_none (λ l. l < 0);
      })
      by_test false e = rw e (ap (λ (b : Bool). b && nat_lt s (2 ^ g.players)) e)

  past : (s : ℕ) → 2 ^ g.players ≤ s → q.is_column s ≡ false
  past s le =
      let t : nat_lt s (2 ^ g.players) ≡ false = grind (arith, nat_tests) in
      ap (λ (b : Bool). nat_lt 0 s && b) t ∙ and_false (nat_lt 0 s)

  at_number : (id : ℕ) → SameAt Plain g.players 0 q id (column_at (listed (2 ^ g.players) (balanced_column g)) id)
  at_number id = elim (below_or_above id (2 ^ g.players)) [
    | inl lt ↦ rw (listed_at (2 ^ g.players) id (balanced_column g) lt)
        (inside_at id lt)
    | inr le ↦ rw (past_at (listed (2 ^ g.players) (balanced_column g)) id
        (let x = length-listed (2 ^ g.players) (balanced_column g) in omega (arith, x, le))) (past id le)
  ]

  pub balanced_of : IsSame (kept_program Plain g.players 0 (listed (2 ^ g.players) (balanced_column g)))
      (balanced_program g)
  balanced_of =
      same_program Plain g.players 0 (listed (2 ^ g.players) (balanced_column g)) q (omega arith) (λ r lt. refl)
      at_number

  pub balanced_small : AreSmall 0 (listed (2 ^ g.players) (balanced_column g))
  balanced_small = small_columns Plain g.players 0 (listed (2 ^ g.players) (balanced_column g)) q at_number
