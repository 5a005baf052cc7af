-- Without a level only the vector of all players is fixed. So everything is fixed only if there is one player, who
-- gets the worth of all.
use Rattle.std.proofs.Common.{◌≡◌, ℕ, ◌<◌, ◌≤◌, Bool, cond, List, [], ◌∷◌, ℤ}
use Rattle.std.proofs.Common.{pos, ◌+ℤ◌}
use Rattle.std.proofs.Common.{◌*ℤ◌, ◌≤ℤ◌, refl, sym, ap, ◌∙◌, inl, inr, arith}
use Rattle.std.specs.List.{AllByRecursion}
use Rattle.std.proofs.lemmas.Bool.{false≢true}
use Rattle.definitions.proofs.Ring.{linear, one-mulℤ}
use Rattle.definitions.proofs.Members.{has_player-singleton, has_player-singleton_other}
use Rattle.definitions.proofs.Members.{has_player-grand_coalition, sum_over-grand_coalition}
use Rattle.definitions.specs.Coalitions.{has_player, singleton, grand_coalition, sum_over, weight_at}
use Rattle.definitions.specs.Games.{Game, Allocation, share, IsAllocation, IsEfficient}
use Rattle.definitions.specs.Games.{IsIndividuallyRational, InFamily}
use Rattle.definitions.specs.Certificates.{IsFixedVector, InSpan, IsAllFixed, Certifies}
use Rattle.definitions.specs.declared.Family.{Family}
use Rattle.definitions.specs.declared.Measure.{Measure}
use Rattle.definitions.specs.declared.Family.TheVariants.{Imputations, Preimputations}
use Rattle.definitions.specs.declared.Mode.TheVariants.{Span}

fixed_everyone : (n s : ℕ) → IsFixedVector n [] s → s ≡ grand_coalition n
fixed_everyone n s (inl e) = e
fixed_everyone n s (inr (inl e)) = absurd (false≢true e)
fixed_everyone n s (inr (inr (i, lt, e, b))) = absurd (false≢true b)

holds_both : (n s : ℕ) → 2 ≤ n → IsFixedVector n [] s → has_player s 0 ≡ has_player s 1
holds_both n s two fixed =
    rw (fixed_everyone n s fixed) (has_player-grand_coalition n 0 (omega (arith, two))
    ∙ sym (has_player-grand_coalition n 1 (omega (arith, two))))

same_weight : (n : ℕ) (ps : List (ℕ × ℤ)) → 2 ≤ n → AllByRecursion (λ p. IsFixedVector n [] p.0) ps
    → weight_at ps 0 ≡ weight_at ps 1
same_weight n [] two fixed = refl
same_weight n (p ∷ ps) two fixed =
    omega (
      arith,
      linear,
      ap (λ (b : Bool). cond b p.1 (pos 0)) (holds_both n p.0 two fixed.0),
      same_weight n ps two fixed.1,
    )

first_apart : (n : ℕ) → 2 ≤ n → InSpan n (IsFixedVector n []) (singleton 0) → ⊥
first_apart n two (m, ne, ps, fixed, sums) =
    let first : weight_at ps 0 ≡ m =
    sums 0 (omega (arith, two)) ∙ ap (λ (b : Bool). cond b m (pos 0)) (has_player-singleton 0) in
    let second : weight_at ps 1 ≡ pos 0 =
    sums 1 (omega (arith, two))
    ∙ ap (λ (b : Bool). cond b m (pos 0)) (has_player-singleton_other 0 1 (omega arith)) in
    ne (sym first ∙ same_weight n ps two fixed ∙ second)

pub one_player : (n : ℕ) → 1 ≤ n → IsAllFixed Span n [] → n ≡ 1
one_player n some all = grind (arith, few)
  where
    few : 2 ≤ n → ⊥
    few two = first_apart n two (all 0 (omega (arith, some)))

-- ---- the shares of one player

abbrev pub whole_share : Game → Allocation
whole_share g = record { shares = g.worth (grand_coalition g.players) ∷ []; den = pos 1 }

module _ (g : Game) (one : g.players ≡ 1) where
  allocates : IsAllocation g (whole_share g)
  allocates = (sym one, omega (arith, linear))

  efficient : IsEfficient g (whole_share g)
  efficient =
      ap (λ (n : ℕ). sum_over 1 (share (whole_share g)) (grand_coalition n)) one
      ∙ sum_over-grand_coalition 1 (share (whole_share g)) ∙ one_part (g.worth (grand_coalition g.players))
    where
      one_part : (w : ℤ) → pos 0 +ℤ w ≡ pos 1 *ℤ w
      one_part w = omega (arith, linear, one-mulℤ w)

  only_first : (i : ℕ) → i < g.players → i ≡ 0
  only_first i lt = omega arith

  rational : IsIndividuallyRational g (whole_share g)
  rational i lt =
      rw (only_first i lt) (at_least_alone (g.worth (singleton 0)) (g.worth (grand_coalition g.players))
      (sym (ap (λ (n : ℕ). g.worth (grand_coalition n)) one)))
    where
      at_least_alone : (a w : ℤ) → a ≡ w → (pos 1 *ℤ a) ≤ℤ w
      at_least_alone a w e = omega (arith, linear, e, one-mulℤ a)

  in_family : (family : Family) → InFamily family g (whole_share g)
  in_family Imputations = (allocates, efficient, rational)
  in_family Preimputations = (allocates, efficient)

pub one_certified : (family : Family) (measure : Measure) (g : Game) → 1 ≤ g.players → IsAllFixed Span g.players []
    → Certifies Span family measure g (whole_share g) []
one_certified family measure g some all = (in_family g (one_player g.players some all) family, all)
