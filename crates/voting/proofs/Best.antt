-- The set of greatest sum among the sets of a kind, and of those with the same the one with the least mask.
--
-- The coalitions of one weight are worth the same, so the one that is paid least has the greatest excess. With one
-- player more, a set lacks that player, or is one of before with it. The better of two best sets is the best of both
-- kinds (`IsBest-better`). Adding the player to all sets of a kind keeps the best one (`IsBest-joined`). No order of
-- the players matters, and losing coalitions need no case of their own.
use Rattle.std.proofs.Common.{◌≡◌, ◌⊎◌, ℕ, ◌+◌, ◌^◌, ◌<◌, ◌≤◌, Bool, true, false}
use Rattle.std.proofs.Common.{◌&&◌, ◌||◌, nat_lt, ℤ, ◌+ℤ◌, ◌≤ℤ◌}
use Rattle.std.proofs.Common.{◌<ℤ◌, int_lt, Option, None, Some, refl, sym, ap, ◌∙◌, inl}
use Rattle.std.proofs.Common.{inr, arith}
use Rattle.std.proofs.lemmas.Bool.Decides.{nat_tests}
use Rattle.std.proofs.lemmas.Int.{ints}
use Rattle.std.specs.Ordering.{int_eq}
use Rattle.definitions.proofs.Cases.{from_not_nat_lt}
use Rattle.definitions.proofs.Ring.{linear}
use Rattle.voting.specs.declared.candidate.Candidate.{Candidate}
use Rattle.voting.specs.Candidates.{is_behind, better, joined, raised, IsBestOf, IsBest}

-- what is of either kind
pub record IsUnion (P Q R : ℕ → Type 0) : Type 0 where
  pub cases : (s : ℕ) → R s → P s ⊎ Q s
  pub left : (s : ℕ) → P s → R s
  pub right : (s : ℕ) → Q s → R s

-- c has a greater sum than d, or the same and no greater mask
abbrev Precedes : Candidate → Candidate → Type 0
Precedes c d = (d.sum <ℤ c.sum) ⊎ ((d.sum ≡ c.sum) × (c.coalition ≤ d.coalition))

behind_cases : (m k : ℤ) (a b : ℕ) → (t : Bool) → (int_lt m k || (int_eq m k && nat_lt b a)) ≡ t
    → ((t ≡ true) × ((m <ℤ k) ⊎ ((m ≡ k) × (b ≤ a)))) ⊎ ((t ≡ false) × ((k <ℤ m) ⊎ ((k ≡ m) × (a ≤ b))))
behind_cases m k a b = by_sums (int_lt m k) refl
  where
    lesser : (e : m ≡ k) → (c : Bool) → nat_lt b a ≡ c → (t : Bool) → c ≡ t
        → ((t ≡ true) × ((m <ℤ k) ⊎ ((m ≡ k) × (b ≤ a)))) ⊎ ((t ≡ false) × ((k <ℤ m) ⊎ ((k ≡ m) × (a ≤ b))))
    lesser e true h t f = inl (sym f, inr (e, at_most_from_nat_lt b a h))
      where
        at_most_from_nat_lt : (b a : ℕ) → nat_lt b a ≡ true → b ≤ a
        at_most_from_nat_lt b a h = grind (arith, nat_tests)
    lesser e false h t f = inr (sym f, inr (sym e, from_not_nat_lt b a h))

    level : (c : Bool) → int_lt m k ≡ false → int_eq m k ≡ c → (t : Bool) → (c && nat_lt b a) ≡ t
        → ((t ≡ true) × ((m <ℤ k) ⊎ ((m ≡ k) × (b ≤ a)))) ⊎ ((t ≡ false) × ((k <ℤ m) ⊎ ((k ≡ m) × (a ≤ b))))
    level c h e t f = grind (arith, ints)

    by_sums : (c : Bool) → int_lt m k ≡ c → (t : Bool) → (c || (int_eq m k && nat_lt b a)) ≡ t
        → ((t ≡ true) × ((m <ℤ k) ⊎ ((m ≡ k) × (b ≤ a)))) ⊎ ((t ≡ false) × ((k <ℤ m) ⊎ ((k ≡ m) × (a ≤ b))))
    by_sums c h t f = grind (arith, ints)

-- ---- the better of two

precedes : (P Q R : ℕ → Type 0) (v : ℕ → ℤ) (c d : Candidate) → IsBestOf P v c → IsBestOf Q v d
    → ((s : ℕ) → R s → P s ⊎ Q s) → ((s : ℕ) → P s → R s) → Precedes c d → IsBestOf R v c
precedes P Q R v c d hc hd cases left p = record {
  of_kind = left c.coalition hc.of_kind;
  value = hc.value;
  greatest = λ t r. elim (cases t r) [ inl q ↦ hc.greatest t q | inr q ↦ at_most t (hd.greatest t q) p ];
  least =
      λ t r lt. elim (cases t r)
      [ inl q ↦ hc.least t q lt | inr q ↦ less_than_sum t lt (hd.greatest t q) (hd.least t q) p ];
}
  where
    at_most : (t : ℕ) → v t ≤ℤ d.sum → Precedes c d → v t ≤ℤ c.sum
    at_most t le (inl less) = omega (arith, linear)
    at_most t le (inr same) = omega (arith, linear)

    less_than_sum : (t : ℕ) → t < c.coalition → v t ≤ℤ d.sum → (t < d.coalition → v t <ℤ d.sum) → Precedes c d
        → v t <ℤ c.sum
    less_than_sum t lt le less (inl far) = omega (arith, linear)
    less_than_sum t lt le less (inr same) = omega (arith, linear, less (omega arith))

pub IsBest-better : (P Q R : ℕ → Type 0) (v : ℕ → ℤ) (x y : Option Candidate) → IsBest P v x → IsBest Q v y
    → IsUnion P Q R → IsBest R v (better x y)
IsBest-better P Q R v None None hx hy u = λ s r. elim (u.cases s r) [ inl p ↦ hx s p | inr q ↦ hy s q ]
IsBest-better P Q R v None (Some d) hx hy u = record {
  of_kind = u.right d.coalition hy.of_kind;
  value = hy.value;
  greatest = λ t r. elim (u.cases t r) [ inl p ↦ absurd (hx t p) | inr q ↦ hy.greatest t q ];
  least = λ t r lt. elim (u.cases t r) [ inl p ↦ absurd (hx t p) | inr q ↦ hy.least t q lt ];
}
IsBest-better P Q R v (Some c) None hx hy u = record {
  of_kind = u.left c.coalition hx.of_kind;
  value = hx.value;
  greatest = λ t r. elim (u.cases t r) [ inl p ↦ hx.greatest t p | inr q ↦ absurd (hy t q) ];
  least = λ t r lt. elim (u.cases t r) [ inl p ↦ hx.least t p lt | inr q ↦ absurd (hy t q) ];
}
IsBest-better P Q R v (Some c) (Some d) hx hy u =
    elim (behind_cases c.sum d.sum c.coalition d.coalition (is_behind c d) refl) [
      | inl (e, h) ↦ rw e
          (precedes Q P R v d c hy hx (λ s r. elim (u.cases s r) [ inl p ↦ inr p | inr q ↦ inl q ]) u.right h)
      | inr (e, h) ↦ rw e (precedes P Q R v c d hx hy u.cases u.left h)
    ]

-- ---- one player more, and another number

-- each set of the kind with player i, whose number is w
pub IsBest-joined : (Q : ℕ → Type 0) (v : ℕ → ℤ) (i : ℕ) (w : ℤ) (y : Option Candidate) → IsBest Q v y
    → ((t : ℕ) → Q t → v (t + 2 ^ i) ≡ v t +ℤ w) → IsBest (λ s. (t : ℕ) × Q t × (s ≡ t + 2 ^ i)) v (joined y i w)
IsBest-joined Q v i w None hy more = λ s r. hy r.0 r.1
IsBest-joined Q v i w (Some c) hy more = record {
  of_kind = (c.coalition, hy.of_kind, refl);
  value = sym (more c.coalition hy.of_kind ∙ ap (λ (z : ℤ). z +ℤ w) (sym hy.value));
  greatest = λ s r. at_most_joined s r.0 r.2 (more r.0 r.1) (hy.greatest r.0 r.1);
  least = λ s r lt. less_than_joined s r.0 r.2 (more r.0 r.1) (hy.least r.0 r.1 (lower s r.0 r.2 lt));
}
  where
    at_most_joined : (s t : ℕ) → s ≡ t + 2 ^ i → v (t + 2 ^ i) ≡ v t +ℤ w → v t ≤ℤ c.sum → v s ≤ℤ (c.sum +ℤ w)
    at_most_joined s t same e le = rw (ap v same, e) (omega (arith, linear))

    lower : (s t : ℕ) → s ≡ t + 2 ^ i → s < c.coalition + 2 ^ i → t < c.coalition
    lower s t same lt = omega arith

    less_than_joined : (s t : ℕ) → s ≡ t + 2 ^ i → v (t + 2 ^ i) ≡ v t +ℤ w → v t <ℤ c.sum → v s <ℤ (c.sum +ℤ w)
    less_than_joined s t same e le = rw (ap v same, e) (omega (arith, linear))

-- every set of the kind has so much more
pub IsBest-raised : (P : ℕ → Type 0) (v u : ℕ → ℤ) (k : ℤ) (x : Option Candidate) → IsBest P v x
    → ((s : ℕ) → P s → u s ≡ v s +ℤ k) → IsBest P u (raised x k)
IsBest-raised P v u k None hx more = hx
IsBest-raised P v u k (Some c) hx more = record {
  of_kind = hx.of_kind;
  value = sym (more c.coalition hx.of_kind ∙ ap (λ (z : ℤ). z +ℤ k) (sym hx.value));
  greatest = λ t p. omega (arith, linear, hx.greatest t p, more t p);
  least = λ t p lt. omega (arith, linear, hx.least t p lt, more t p);
}

-- the same kind in other words
pub IsBest-same : (P R : ℕ → Type 0) (v : ℕ → ℤ) (x : Option Candidate) → ((s : ℕ) → R s → P s)
    → ((s : ℕ) → P s → R s) → IsBest P v x → IsBest R v x
IsBest-same P R v None back on hx = λ s r. hx s (back s r)
IsBest-same P R v (Some c) back on hx = record {
  of_kind = on c.coalition hx.of_kind;
  value = hx.value;
  greatest = λ t r. hx.greatest t (back t r);
  least = λ t r lt. hx.least t (back t r) lt;
}
