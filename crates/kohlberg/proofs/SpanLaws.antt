-- Spans of spans, and a span with one coalition more.
use Rattle.std.proofs.Common.{◌≡◌, ◌≢◌, ◌⊎◌, ℕ, ◌<◌, Bool, true, false, cond, nat_eq}
use Rattle.std.proofs.Common.{List, [], ◌∷◌, ◌++◌, ℤ, pos}
use Rattle.std.proofs.Common.{◌+ℤ◌, ◌*ℤ◌, refl, sym, ap, subst, ◌∙◌, arith, inl, inr}
use Rattle.std.proofs.Common.{append_assoc, if◌then◌else◌}
use Rattle.std.specs.List.{AllByRecursion, list_any}
use Rattle.std.proofs.lemmas.Bool.{false≢true}
use Rattle.std.proofs.lemmas.Bool.Decides.{nat_tests}
use Rattle.definitions.specs.Coalitions.{has_player, weight_at}
use Rattle.definitions.specs.Certificates.{InSpan}
use Rattle.definitions.proofs.Ring.{ring_laws, unit_laws, linear}
use Rattle.spans.specs.Span.{IsKept}
use Rattle.spans.proofs.Grown.{kept_still, kept_last}
use Rattle.kohlberg.specs.Extends.{Extends}
use Rattle.definitions.proofs.Members.{weight_at-append}
use Rattle.definitions.proofs.Alls.{all_join, all_weaken}
use Rattle.fractions.proofs.Ratios.{product_apart}
use Rattle.definitions.proofs.Cases.{or_cases, or_left, or_right}
use Rattle.definitions.proofs.ScaledPairs.{scaled_pairs, weight_at-scaled, all_scaled}
use lib.IntN.{+ℤ_idr}

-- ---- what is spanned by what is spanned

record Multiple (n : ℕ) (Q : ℕ → Type 0) (ps : List (ℕ × ℤ)) : Type 0 where
  factor : ℤ
  apart : factor ≢ pos 0
  pairs : List (ℕ × ℤ)
  all : AllByRecursion (λ p. Q p.0) pairs
  sum : (i : ℕ) → i < n → weight_at pairs i ≡ factor *ℤ weight_at ps i

sum_all : (w m f u v x t : ℤ) → u ≡ (w *ℤ f) *ℤ m → v ≡ m *ℤ x → x ≡ f *ℤ t → u +ℤ v ≡ (m *ℤ f) *ℤ (w +ℤ t)
sum_all w m f u v x t e g h = simp (e, g, h, ring_laws) (omega (arith, linear))

sum_rest : (w m f u v x t : ℤ) → u ≡ (w *ℤ f) *ℤ pos 0 → v ≡ m *ℤ x → x ≡ f *ℤ t → u +ℤ v ≡ (m *ℤ f) *ℤ (pos 0 +ℤ t)
sum_rest w m f u v x t e g h = simp (e, g, h, ring_laws, unit_laws) (omega (arith, linear))

sum_step : (b : Bool) (w m f u v x t : ℤ) → u ≡ (w *ℤ f) *ℤ cond b m (pos 0) → v ≡ m *ℤ x → x ≡ f *ℤ t
    → u +ℤ v ≡ (m *ℤ f) *ℤ (cond b w (pos 0) +ℤ t)
sum_step true w m f u v x t e g h = sum_all w m f u v x t e g h
sum_step false w m f u v x t e g h = sum_rest w m f u v x t e g h

one_apart : pos 1 ≢ pos 0
one_apart e = cc

more_multiple : (n : ℕ) (Q : ℕ → Type 0) (p : ℕ × ℤ) (ps : List (ℕ × ℤ)) → InSpan n Q p.0 → Multiple n Q ps
    → Multiple n Q (p ∷ ps)
more_multiple n Q p ps (m, nz, rs, all, sum) k = record {
  factor = m *ℤ k.factor;
  apart = product_apart m k.factor nz k.apart;
  pairs = scaled_pairs (p.1 *ℤ k.factor) rs ++ scaled_pairs m k.pairs;
  all =
      all_join (λ q. Q q.0) (scaled_pairs (p.1 *ℤ k.factor) rs) (scaled_pairs m k.pairs)
      (all_scaled Q (p.1 *ℤ k.factor) rs all) (all_scaled Q m k.pairs k.all);
  sum = λ i lt. weight_at-append (scaled_pairs (p.1 *ℤ k.factor) rs) (scaled_pairs m k.pairs) i
      ∙ sum_step (has_player p.0 i) p.1 m k.factor _ _ (weight_at k.pairs i) (weight_at ps i)
      (weight_at-scaled (p.1 *ℤ k.factor) rs i ∙ ap (λ (z : ℤ). (p.1 *ℤ k.factor) *ℤ z) (sum i lt))
      (weight_at-scaled m k.pairs i) (k.sum i lt);
}

multiple : (n : ℕ) (Q : ℕ → Type 0) (ps : List (ℕ × ℤ)) → AllByRecursion (λ p. InSpan n Q p.0) ps → Multiple n Q ps
multiple n Q [] h =
    record { factor = pos 1; apart = one_apart; pairs = []; all = tt; sum = λ i lt. sym one_times_zero }
  where
    one_times_zero : pos 1 *ℤ pos 0 ≡ pos 0
    one_times_zero = simp unit_laws
multiple n Q (p ∷ ps) h = more_multiple n Q p ps h.0 (multiple n Q ps h.1)

times_test : (b : Bool) (f m : ℤ) → f *ℤ cond b m (pos 0) ≡ cond b (f *ℤ m) (pos 0)
times_test true f m = refl
times_test false f m = simp unit_laws

pub span_trans : (n : ℕ) (P Q : ℕ → Type 0) (s : ℕ) → ((t : ℕ) → P t → InSpan n Q t) → InSpan n P s → InSpan n Q s
span_trans n P Q s h (m, nz, ps, all, sum) =
    let k = multiple n Q ps (all_weaken (λ (p : ℕ × ℤ). P p.0) (λ p. InSpan n Q p.0) ps (λ p q. h p.0 q) all) in (
      k.factor *ℤ m,
      product_apart k.factor m k.apart nz,
      k.pairs,
      k.all,
      λ i lt. k.sum i lt ∙ ap (λ (z : ℤ). k.factor *ℤ z) (sum i lt) ∙ times_test (has_player s i) k.factor m,
    )

pub span_of_one : (n : ℕ) (P : ℕ → Type 0) (s : ℕ) → P s → InSpan n P s
span_of_one n P s h =
    (pos 1, one_apart, (s, pos 1) ∷ [], (h, tt), λ i lt. +ℤ_idr (if has_player s i then pos 1 else pos 0))

pub span_mono : (n : ℕ) (P Q : ℕ → Type 0) (s : ℕ) → ((t : ℕ) → P t → Q t) → InSpan n P s → InSpan n Q s
span_mono n P Q s h (m, nz, ps, all, sum) =
    (m, nz, ps, all_weaken (λ (p : ℕ × ℤ). P p.0) (λ p. Q p.0) ps (λ p q. h p.0 q) all, sum)

-- ---- extensions

pub same_number : (a b : ℕ) → nat_eq a b ≡ true → b ≡ a
same_number a b e = grind (arith, nat_tests)

kept_cases : (ks : List ℕ) (s t : ℕ) → IsKept (ks ++ s ∷ []) t → IsKept ks t ⊎ (t ≡ s)
kept_cases [] s t h =
    elim (or_cases (nat_eq s t) false h) [ inl e ↦ inr (same_number s t e) | inr e ↦ absurd (false≢true e) ]
kept_cases (u ∷ us) s t h = elim (or_cases (nat_eq u t) (list_any (λ v. nat_eq v t) (us ++ s ∷ [])) h) [
  | inl e ↦ inl (or_left (nat_eq u t) _ e)
  | inr rest ↦ elim (kept_cases us s t rest) [ inl k ↦ inl (or_right (nat_eq u t) _ k) | inr e ↦ inr e ]
]

pub Extends-same : (n : ℕ) (old new : List ℕ) (A C : ℕ → Type 0) → Extends n old new A → ((t : ℕ) → C t → A t)
    → ((t : ℕ) → A t → C t) → Extends n old new C
Extends-same n old new A C h to from = record {
  more = h.more;
  longer = h.longer;
  still = h.still;
  added = λ t q. h.added t (to t q);
  only = λ t q. elim (h.only t q) [ inl o ↦ inl o | inr a ↦ inr (from t a) ];
}

append_none : (xs : List ℕ) → xs ++ [] ≡ xs
append_none [] = refl
append_none (x ∷ xs) = ap (λ ys. x ∷ ys) (append_none xs)

pub Extends-none : (n : ℕ) (old : List ℕ) (A : ℕ → Type 0) → ((t : ℕ) → A t → ⊥) → Extends n old old A
Extends-none n old A h = record {
  more = [];
  longer = sym (append_none old);
  still = λ t k. k;
  added = λ t k. absurd (h t k);
  only = λ t k. inl k;
}

pub Extends-add : (n : ℕ) (old new : List ℕ) (s : ℕ)
    → (InSpan n (IsKept old) s × (new ≡ old)) ⊎ ((¬ InSpan n (IsKept old) s) × (new ≡ old ++ s ∷ []))
    → Extends n old new (λ t. t ≡ s)
Extends-add n old new s (inl (inside, same)) = record {
  more = [];
  longer = same ∙ sym (append_none old);
  still = λ t k. subst (λ (l : List ℕ). InSpan n (IsKept l) t) (sym same) k;
  added = λ t e. subst (λ (u : ℕ). InSpan n (IsKept new) u) (sym e)
      (subst (λ (l : List ℕ). InSpan n (IsKept l) s) (sym same) inside);
  only = λ t k. inl (subst (λ (l : List ℕ). IsKept l t) same k);
}
Extends-add n old new s (inr (out, grown)) = record {
  more = s ∷ [];
  longer = grown;
  still = λ t k. subst (λ (l : List ℕ). InSpan n (IsKept l) t) (sym grown)
      (span_mono n (IsKept old) (IsKept (old ++ s ∷ [])) t (λ u q. kept_still old s u q) k);
  added = λ t e. subst (λ (u : ℕ). InSpan n (IsKept new) u) (sym e)
      (subst (λ (l : List ℕ). InSpan n (IsKept l) s) (sym grown)
      (span_of_one n (IsKept (old ++ s ∷ [])) s (kept_last old s)));
  only = λ t k. kept_cases old s t (subst (λ (l : List ℕ). IsKept l t) grown k);
}

pub Extends-more : (n : ℕ) (old mid new : List ℕ) (A B C : ℕ → Type 0) → Extends n old mid A → Extends n mid new B
    → ((t : ℕ) → C t → A t ⊎ B t) → ((t : ℕ) → A t → C t) → ((t : ℕ) → B t → C t) → Extends n old new C
Extends-more n old mid new A B C h k parts left right = record {
  more = h.more ++ k.more;
  longer = k.longer ∙ ap (λ (l : List ℕ). l ++ k.more) h.longer ∙ append_assoc old h.more k.more;
  still = λ t q. k.still t (h.still t q);
  added = λ t q. elim (parts t q) [ inl a ↦ k.still t (h.added t a) | inr b ↦ k.added t b ];
  only = λ t q. elim (k.only t q) [
    | inl m ↦ elim (h.only t m) [ inl o ↦ inl o | inr a ↦ inr (left t a) ]
    | inr b ↦ inr (right t b)
  ];
}
