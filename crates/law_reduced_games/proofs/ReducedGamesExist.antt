-- The reduced game exists, and is one.
use Rattle.std.proofs.Common.{◌≡◌, ◌⊎◌, ℕ, ◌^◌, ◌<◌, ◌≤◌, nat_eq, ℤ, pos, refl, sym, ap, subst, ◌∙◌, inl, inr, arith}
use Rattle.std.proofs.lemmas.Bool.{false≢true}
use Rattle.definitions.proofs.Cases.{same_or_other, nat_eq-equal, from_nat_eq}
use Rattle.definitions.proofs.Masks.{proper_or_all}
use Rattle.definitions.proofs.Scans.{IsGreatest-unique}
use Rattle.definitions.specs.Sums.{IsGreatest}
use Rattle.definitions.specs.Coalitions.{grand_coalition}
use Rattle.definitions.specs.Games.{Game, Allocation}
use Rattle.theorems.proofs.Transfers.{some_greatest}
use Rattle.law_reduced_games.specs.ReducedGames.{AreSome, staying, worth_left, IsReducedGame, ReducedGamesExist}
use Rattle.law_reduced_games.specs.ReducedGames.{ReducedGameIsOne}
use Rattle.law_reduced_games.proofs.Staying.{staying_old, old_numbers, old_within, some_stay}

module _ (m : ℕ) (who : ℕ → ℕ) (g : Game) (x : Allocation) (a : AreSome g.players m who) where
  abbrev n : ℕ
  n = g.players

  abbrev left : ℕ → ℤ
  left s = worth_left m who g x s

  most_left : (t : ℕ) → t < 2 ^ m → (w : ℤ) × IsGreatest (λ s. (s < 2 ^ n) × (staying m who s ≡ t)) left w
  most_left t within =
      elim (some_greatest (λ s. nat_eq (staying m who s) t) left (2 ^ n)) [
        | inl none ↦ absurd
            (false≢true
            (sym (none (old_numbers n m who t) (old_within n m who t))
            ∙ nat_eq-equal (staying m who (old_numbers n m who t)) t (staying_old n m who t a within)))
        | inr found ↦ (
          found.0,
          (
            (
              found.1.0.0,
              (found.1.0.1.0, from_nat_eq (staying m who found.1.0.0) t found.1.0.1.1),
              found.1.0.2,
            ),
            λ s p. found.1.1 s (p.0, nat_eq-equal (staying m who s) t p.1),
          ),
        )
      ]

  -- a worth for each coalition
  some_worth : (t : ℕ) → (w : ℤ) × (t ≡ 0 → w ≡ pos 0) × (t ≡ grand_coalition m → w ≡ left (grand_coalition n))
      × (0 < t → t < grand_coalition m → IsGreatest (λ s. (s < 2 ^ n) × (staying m who s ≡ t)) left w)
  some_worth t = elim (same_or_other t 0) [
    | inl none ↦ (
      pos 0,
      λ e. refl,
      λ e. absurd (let some = some_stay m a.some in omega (arith, none, e, some)),
      λ some less. absurd (omega (arith, some, none)),
    )
    | inr other ↦ elim (same_or_other t (grand_coalition m)) [
      | inl all ↦ (
        left (grand_coalition n),
        λ e. absurd (other e),
        λ e. refl,
        λ some less. absurd (omega (arith, less, all)),
      )
      | inr proper ↦ elim (below_or_past t (grand_coalition m)) [
        | inl less ↦
            (let top = most_left t (omega (arith, less)) in
            (top.0, λ e. absurd (other e), λ e. absurd (proper e), λ some less. top.1))
        | inr past ↦
            (pos 0, λ e. absurd (other e), λ e. absurd (proper e), λ some less. absurd (omega (arith, less, past)))
      ]
    ]
  ]
    where
      below_or_past : (t k : ℕ) → (t < k) ⊎ (k ≤ t)
      below_or_past t k = grind arith

  pub is_reduced : (h : Game) × IsReducedGame m who g x h
  is_reduced = (
    record { players = m; worth = λ t. (some_worth t).0 },
    record {
      players = refl;
      nobody = (some_worth 0).1 refl;
      all = (some_worth (grand_coalition m)).2 refl;
      some = λ t. (some_worth t).3;
    },
  )

pub reduced_games_exist : ReducedGamesExist
reduced_games_exist m who g x a = is_reduced m who g x a

pub reduced_game_is_one : ReducedGameIsOne
reduced_game_is_one m who g h k x r q = (
  r.players ∙ sym q.players,
  λ t within. elim (same_or_other t 0) [
    | inl none ↦ ap h.worth none ∙ r.nobody ∙ sym (ap k.worth none ∙ q.nobody)
    | inr other ↦ elim (proper_or_all m t (subst (λ c. t < 2 ^ c) r.players within)) [
      | inr all ↦ ap h.worth all ∙ r.all ∙ sym (ap k.worth all ∙ q.all)
      | inl less ↦
          IsGreatest-unique (λ s. (s < 2 ^ g.players) × (staying m who s ≡ t)) (worth_left m who g x) (h.worth t)
          (k.worth t) (r.some t (omega (arith, other)) less) (q.some t (omega (arith, other)) less)
    ]
  ],
)
