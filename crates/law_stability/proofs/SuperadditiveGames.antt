-- Convex games are superadditive, by the worths of a union and of the common members; and a player alone is a coalition
-- that joins another one.
use Rattle.std.proofs.Common.{◌≡◌, ◌≢◌, ℕ, ◌+◌, ◌^◌, Bool, true, false, ◌||◌, ◌&&◌, refl, sym, ap, ◌∙◌}
use Rattle.std.proofs.Common.{inl, inr, arith}
use Rattle.std.proofs.Math.Pow.{pow_pos}
use Rattle.std.proofs.lemmas.Bool.{false≢true}
use Rattle.definitions.proofs.Cases.{same_or_other, or_false}
use Rattle.definitions.proofs.Masks.{singleton-within}
use Rattle.definitions.proofs.Members.{has_player-empty, has_player-singleton, has_player-singleton_other}
use Rattle.definitions.proofs.Parts.{has_player-more_same, has_player-more_other, more-lt}
use Rattle.definitions.proofs.Ring.{linear}
use Rattle.definitions.specs.Coalitions.{has_player, singleton}
use Rattle.law_answers.proofs.RenumberedCoalitions.{same_below}
use Rattle.law_stability.proofs.Supermodular.{supermodular}
use Rattle.law_stability.proofs.Unions.{union, common, union-has, common-has, union-within, common-within}
use Rattle.law_stability.specs.Superadditive.{ConvexIsSuperadditive, SuperadditiveIsZeroMonotonic}

pub convex_is_superadditive : ConvexIsSuperadditive
convex_is_superadditive g nobody convex s t u h =
    let n = g.players in
    let both = supermodular g convex s t h.first h.second in
    let all : union n s t ≡ u = same_below n (union n s t) u (union-within n s t) h.all
    (λ i lt. union-has n s t i lt ∙ sym (h.members i lt)) in
    let none : common n s t ≡ 0 = same_below n (common n s t) 0 (common-within n s t) (pow_pos n)
    (λ i lt. common-has n s t i lt ∙ not_both (has_player s i) (has_player t i) (h.apart i lt)
    ∙ sym (has_player-empty i)) in
    omega (arith, linear, both, nobody, ap g.worth all, ap g.worth none)
  where
    not_both : (b c : Bool) → (b ≡ true → c ≡ false) → (b && c) ≡ false
    not_both true c h = h refl
    not_both false c h = refl

pub superadditive_is_zero_monotonic : SuperadditiveIsZeroMonotonic
superadditive_is_zero_monotonic g super s i lt hi out = super s (singleton i) (s + singleton i) record {
  first = lt;
  second = singleton-within g.players i hi;
  all = more-lt g.players s i lt hi out;
  apart = λ k h inside. has_player-singleton_other i k
      (λ same. false≢true (sym out ∙ ap (has_player s) (sym same) ∙ inside));
  members = λ k h. elim (same_or_other k i) [
    | inl same ↦ itself k same
    | inr ne ↦ another k ne
  ];
}
  where
    itself : (k : ℕ) → k ≡ i → has_player (s + 2 ^ i) k ≡ (has_player s k || has_player (singleton i) k)
    itself k e = rw (e, has_player-more_same s i out, out, has_player-singleton i) refl

    another : (k : ℕ) → k ≢ i → has_player (s + 2 ^ i) k ≡ (has_player s k || has_player (singleton i) k)
    another k ne = has_player-more_other s i k out ne
        ∙ sym (ap (λ (b : Bool). has_player s k || b) (has_player-singleton_other i k ne) ∙ or_false (has_player s k))
