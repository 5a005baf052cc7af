-- A core point gives nobody less than its worth alone. So if there is one, the nucleolus and the prenucleolus lie in
-- the core; and shares that give somebody less come after a core point.
use Rattle.std.proofs.Common.{◌≡◌, ◌⊎◌, ℕ, zero, suc, ◌<◌, Bool, true, false, cond, List, length, sym, ap, ◌∙◌, inl}
use Rattle.std.proofs.Common.{inr, arith}
use Rattle.definitions.proofs.Cases.{less_or_last}
use Rattle.definitions.proofs.Masks.{singleton-within}
use Rattle.definitions.proofs.Members.{has_player-singleton, has_player-singleton_other}
use Rattle.definitions.specs.Coalitions.{has_player, singleton}
use Rattle.definitions.specs.declared.Family.{Family}
use Rattle.definitions.specs.declared.Family.TheVariants.{Imputations, Preimputations}
use Rattle.real_shares.specs.Numbers.{Numbers, IsOrderedGroup, AtMost, Equal, total_below}
use Rattle.real_shares.specs.Shares.{number_of, amount_of}
use Rattle.real_shares.proofs.Orders.{decided}
use Rattle.real_shares.proofs.Multiples.{chain, equal_path, plus-equal, neutral_left, total_below-zero, through}
use Rattle.law_real_worths.specs.Games.{NumberGame, InFamilyIn, IsNucleolusIn, InCoreIn}
use Rattle.law_real_worths.proofs.CoreFirst.{amount_at, core_first, nucleolus_in_core, only_proper}

module _ {C : Type 0} (N : Numbers C) (L : IsOrderedGroup N) where
  one_number : (v : ℕ → C) (i l : ℕ) (b : Bool) → has_player (singleton i) l ≡ b
      → Equal N (cond (has_player (singleton i) l) (v l) N.zero) (cond b (v l) N.zero)
  one_number v i l b e =
      equal_path N L (cond (has_player (singleton i) l) (v l) N.zero) (cond b (v l) N.zero)
      (ap (λ (c : Bool). cond c (v l) N.zero) e)

  -- what one player alone gets
  pub alone_gets : (v : ℕ → C) (i n : ℕ) → i < n
      → Equal N (total_below N n (λ l. cond (has_player (singleton i) l) (v l) N.zero)) (v i)
  alone_gets v i zero lt = absurd (omega arith)
  alone_gets v i (suc n) lt = elim (less_or_last i n lt) [
    | inl less ↦
        chain N L
        (plus-equal N L (alone_gets v i n less)
        (one_number v i n false (has_player-singleton_other i n (λ e. omega (arith, less, e)))))
        (L.neutral (v i))
    | inr same ↦
        chain N L
        (plus-equal N L
        (total_below-zero N L n (λ l. cond (has_player (singleton i) l) (v l) N.zero)
        (λ l less. one_number v i l false (has_player-singleton_other i l (λ e. omega (arith, less, e, same)))))
        (chain N L (one_number v i n true (ap (has_player (singleton i)) (sym same) ∙ has_player-singleton i))
        (equal_path N L (v n) (v i) (ap v (sym same)))))
        (neutral_left N L (v i))
  ]

module _ {C : Type 0} (N : Numbers C) (L : IsOrderedGroup N) (g : NumberGame C) where
  pub amount_alone : (y : List C) (i : ℕ) → length y ≡ g.players → i < g.players
      → Equal N (amount_of N y (singleton i)) (number_of N y i)
  amount_alone y i e lt =
      chain N L (amount_at N L g y (singleton i) e) (alone_gets N L (number_of N y) i g.players lt)

  pub core_imputation : (z : List C) → InCoreIn N g z → InFamilyIn N Imputations g z
  core_imputation z core = (
    core.0,
    core.1,
    λ i lt. through N L (core.2 (singleton i) (singleton-within g.players i lt)) (amount_alone z i core.0 lt).0,
  )

  core_family : (family : Family) (z : List C) → InCoreIn N g z → InFamilyIn N family g z
  core_family Imputations z core = core_imputation z core
  core_family Preimputations z core = (core.0, core.1)

  pub in_core : (family : Family) (y z : List C) → IsNucleolusIn N family g y → InCoreIn N g z → InCoreIn N g y
  in_core family y z is core = nucleolus_in_core N L g family y z is (core_family family z core) core

  -- nobody gets less than alone, or somebody does
  all_or_some : (y : List C) (n : ℕ)
      → ((i : ℕ) → i < n → AtMost N (g.worth (singleton i)) (number_of N y i))
      ⊎ ((i : ℕ) × (i < n) × (¬ AtMost N (g.worth (singleton i)) (number_of N y i)))
  all_or_some y zero = inl (λ i lt. absurd (omega arith))
  all_or_some y (suc n) = elim (all_or_some y n) [
    | inr some ↦ inr (some.0, omega (arith, some.1), some.2)
    | inl all ↦ elim (decided (N.at_most (g.worth (singleton n)) (number_of N y n))) [
      | inr less ↦ inr (n, omega arith, less)
      | inl low ↦ inl (λ i lt. elim (less_or_last i n lt) [
        | inl earlier ↦ all i earlier
        | inr last ↦ rw last low
      ])
    ]
  ]

  pub both_one : (y z : List C) → InCoreIn N g z
      → (IsNucleolusIn N Preimputations g y → IsNucleolusIn N Imputations g y)
      × (IsNucleolusIn N Imputations g y → IsNucleolusIn N Preimputations g y)
  both_one y z core = (
    λ is. (
      core_imputation y (in_core Preimputations y z is core),
      λ w member differs. is.1 w (member.0, member.1) differs,
    ),
    λ is.
        let here = in_core Imputations y z is core in (
          (here.0, here.1),
          λ w member differs. elim (all_or_some w g.players) [
            | inl rational ↦ is.1 w (member.0, member.1, rational) differs
            | inr some ↦
                let i = some.0 in
                let blocked : (¬ AtMost N (g.worth (singleton i)) (amount_of N w (singleton i))) = λ le. some.2
                (through N L le (amount_alone w i member.0 some.1).0) in
                let p =
                only_proper N L g w y (singleton i) here member.1 (singleton-within g.players i some.1) blocked in
                core_first N L g w y (singleton i) here p.0 p.1 blocked
          ],
        ),
  )
