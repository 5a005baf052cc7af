-- The place of a slash in a text, and the parts around it.
use Rattle.std.proofs.Common.{◌≡◌, ◌≢◌, ◌⊎◌, inl, inr, ℕ, zero, suc, ◌+◌, ◌<◌}
use Rattle.std.proofs.Common.{◌≤◌, Bool, true, false}
use Rattle.std.proofs.Common.{cond, not, eqb, ltb, List, [], ◌∷◌, ◌++◌, length, get_or}
use Rattle.std.proofs.Common.{take, drop, sym}
use Rattle.std.proofs.Common.{refl, ap, subst, ◌∙◌, arith, add-one, length-append}
use Rattle.std.specs.List.{list_all, prefix_len}
use Rattle.std.specs.Char.{is_ascii_digit}
use Rattle.std.proofs.lemmas.Bool.{and_parts, false≢true, lt-ltb, le-ltb}
use Rattle.std.proofs.lemmas.Bool.Decides.{nat_tests}
use Rattle.std.proofs.lemmas.List.{take_all, take-append-drop}
use Rattle.std.proofs.lemmas.List.Sums.{prefix_len-le-length, prefix_len_passes, prefix_len_stops}
use Rattle.std.proofs.Math.Seq.{take-append_seam, drop-cons}
use Rattle.fractions.specs.FractionTexts.{before_slash, has_slash, numerator_text, denominator_text}

a_slash : (c : ℕ) → not (eqb c 47) ≡ false → c ≡ 47
a_slash c h = grind (arith, nat_tests)

at_slash : (c : ℕ) → c ≡ 47 → not (eqb c 47) ≡ false
at_slash c h = grind (arith, nat_tests)

-- ---- the scan for it

pub slash_further : (s : List ℕ) (i : ℕ) → i ≤ before_slash s → i < length s → get_or s i 0 ≢ 47
    → i + 1 ≤ before_slash s
slash_further s i h lt ne = elim (either i (before_slash s) h) [
  | inl more ↦ more
  | inr e ↦ absurd
      (ne
      (subst (λ (k : ℕ). get_or s k 0 ≡ 47) (sym e)
      (a_slash (get_or s (before_slash s) 0)
      (prefix_len_stops (λ c. not (eqb c 47)) s 0 (subst (λ (k : ℕ). k < length s) e lt)))))
]
  where
    either : (i k : ℕ) → i ≤ k → (i + 1 ≤ k) ⊎ (i ≡ k)
    either zero zero h = inr refl
    either zero (suc k) h = inl (omega arith)
    either (suc i) zero h = absurd (omega arith)
    either (suc i) (suc k) h = elim (either i k (omega arith)) [
      | inl p ↦ inl (omega arith)
      | inr e ↦ inr (ap suc e)
    ]

not_before : (s : List ℕ) (i : ℕ) → get_or s i 0 ≡ 47 → before_slash s ≤ i
not_before s i e = elim (Rattle.std.proofs.lemmas.Bool.cases_lt i (before_slash s)) [
  | inl lt ↦ absurd
      (false≢true (sym (at_slash (get_or s i 0) e) ∙ prefix_len_passes (λ c. not (eqb c 47)) s i 0 lt))
  | inr le ↦ le
]

pub slash_here : (s : List ℕ) (i : ℕ) → i ≤ before_slash s → get_or s i 0 ≡ 47 → i ≡ before_slash s
slash_here s i h e = let le = not_before s i e in omega arith

pub slash_nowhere : (s : List ℕ) (i : ℕ) → i ≤ before_slash s → length s ≤ i → i ≡ before_slash s
slash_nowhere s i h le = let most = prefix_len-le-length (λ c. not (eqb c 47)) s in omega arith

-- ---- around it

digit_no_slash : (c : ℕ) → is_ascii_digit c ≡ true → not (eqb c 47) ≡ true
digit_no_slash c h = grind (arith, nat_tests)

prefix_len-passed : (p : ℕ → Bool) (c : ℕ) (cs : List ℕ) (n : ℕ) → p c ≡ true → prefix_len p cs ≡ n
    → prefix_len p (c ∷ cs) ≡ suc n
prefix_len-passed p c cs n h e =
    ap (λ (b : Bool). cond b (1 + prefix_len p cs) 0) h ∙ ap (λ (k : ℕ). 1 + k) e ∙ omega arith

stop : (p : ℕ → Bool) (c : ℕ) (cs : List ℕ) → p c ≡ false → prefix_len p (c ∷ cs) ≡ 0
stop p c cs h = ap (λ (b : Bool). cond b (1 + prefix_len p cs) 0) h

pub before_slash-digits : (s : List ℕ) → list_all is_ascii_digit s ≡ true → before_slash s ≡ length s
before_slash-digits [] h = refl
before_slash-digits (c ∷ cs) h =
    let p = and_parts _ _ h in
    prefix_len-passed (λ c. not (eqb c 47)) c cs (length cs) (digit_no_slash c p.0) (before_slash-digits cs p.1)

pub before_slash-append : (s t : List ℕ) → list_all is_ascii_digit s ≡ true → before_slash (s ++ 47 ∷ t) ≡ length s
before_slash-append [] t h = stop (λ c. not (eqb c 47)) 47 t refl
before_slash-append (c ∷ cs) t h =
    let p = and_parts _ _ h in
    prefix_len-passed (λ c. not (eqb c 47)) c (cs ++ 47 ∷ t) (length cs) (digit_no_slash c p.0)
    (before_slash-append cs t p.1)

-- digits alone
pub alone_has_slash : (s : List ℕ) → list_all is_ascii_digit s ≡ true → has_slash s ≡ false
alone_has_slash s h = le-ltb (before_slash s) (length s) (omega (arith, before_slash-digits s h))

pub alone_numerator : (s : List ℕ) → list_all is_ascii_digit s ≡ true → numerator_text s ≡ s
alone_numerator s h = take_all (before_slash s) s (omega (arith, before_slash-digits s h))

-- digits around a slash
pub around_has_slash : (s t : List ℕ) → list_all is_ascii_digit s ≡ true → has_slash (s ++ 47 ∷ t) ≡ true
around_has_slash s t h =
    lt-ltb (before_slash (s ++ 47 ∷ t)) (length (s ++ 47 ∷ t))
    (omega (arith, before_slash-append s t h, length-append s (47 ∷ t)))

pub around_numerator : (s t : List ℕ) → list_all is_ascii_digit s ≡ true → numerator_text (s ++ 47 ∷ t) ≡ s
around_numerator s t h =
    ap (λ (k : ℕ). take k (s ++ 47 ∷ t)) (before_slash-append s t h) ∙ take-append_seam s (47 ∷ t)

behind : (s : List ℕ) (c : ℕ) (t : List ℕ) → drop (suc (length s)) (s ++ c ∷ t) ≡ t
behind [] c t = refl
behind (x ∷ xs) c t = behind xs c t

pub around_denominator : (s t : List ℕ) → list_all is_ascii_digit s ≡ true → denominator_text (s ++ 47 ∷ t) ≡ t
around_denominator s t h =
    ap (λ (k : ℕ). drop (k + 1) (s ++ 47 ∷ t)) (before_slash-append s t h)
    ∙ ap (λ (k : ℕ). drop k (s ++ 47 ∷ t)) (add-one (length s)) ∙ behind s 47 t

-- a text is what stands around its slash
pub joined_alone : (s : List ℕ) → has_slash s ≡ false → numerator_text s ≡ s
joined_alone s h = take_all (before_slash s) s (least (before_slash s) (length s) h)
  where
    least : (m n : ℕ) → ltb m n ≡ false → n ≤ m
    least m n h = grind (arith, nat_tests)

pub joined_around : (s : List ℕ) → has_slash s ≡ true → numerator_text s ++ 47 ∷ denominator_text s ≡ s
joined_around s h =
    let k = before_slash s in
    let lt = less k (length s) h in
    let here : get_or s k 0 ≡ 47 = a_slash (get_or s k 0) (prefix_len_stops (λ c. not (eqb c 47)) s 0 lt) in
    ap (λ (c : ℕ). take k s ++ c ∷ drop (k + 1) s) (sym here)
    ∙ ap (λ (t : List ℕ). take k s ++ t) (sym (rest s k lt)) ∙ take-append-drop k s
  where
    less : (m n : ℕ) → ltb m n ≡ true → m < n
    less m n h = grind (arith, nat_tests)

    rest : (s : List ℕ) (k : ℕ) → k < length s → drop k s ≡ get_or s k 0 ∷ drop (k + 1) s
    rest s k lt = rw (add-one, drop-cons s k 0)
