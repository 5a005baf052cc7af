-- What the loops that extend a span know, and what the span of levels is.
use Rattle.std.proofs.Common.{◌≡◌, ◌⊎◌, ℕ, zero, suc, ◌+◌, ◌<◌, ◌≤◌, Bool, true}
use Rattle.std.proofs.Common.{false, ◌&&◌, ◌||◌}
use Rattle.std.proofs.Common.{nat_eq, List, [], ◌∷◌, ◌++◌, length, take, get_or, ℤ, pos}
use Rattle.std.proofs.Common.{int_le}
use Rattle.std.proofs.Common.{refl, sym, ap, subst, ◌∙◌, arith, inl, inr}
use Rattle.std.specs.List.{AllByRecursion, list_any}
use Rattle.std.proofs.lemmas.Bool.{false≢true}
use Rattle.std.proofs.lemmas.List.Folds.{list_any_more, list_any-append}
use Rattle.definitions.specs.Coalitions.{singleton, grand_coalition}
use Rattle.definitions.specs.Certificates.{Level, LevelForm, InSpan, IsFixedVector, is_listed, has_bound}
use Rattle.spans.specs.Span.{IsKept}
use Rattle.kohlberg.specs.Extends.{Extends, IsPaired, IsBoundVector, IsLevelVector, SpansFixed, IsOf}
use Rattle.kohlberg.proofs.SpanLaws.{span_trans, span_of_one, span_mono, Extends-same}
use Rattle.kohlberg.proofs.SpanLaws.{Extends-none, Extends-add, Extends-more, same_number}
use Rattle.definitions.proofs.Cases.{nat_eq-same, and_parts, and_both, or_cases, or_left, or_right}
use Rattle.definitions.proofs.Alls.{all_at}
use Rattle.definitions.proofs.Masks.{proper-within}

abbrev pub Grows : ℕ → List ℕ → List ℕ → ℕ → Type 0
Grows n old new s =
    (InSpan n (IsKept old) s × (new ≡ old)) ⊎ ((¬ InSpan n (IsKept old) s) × (new ≡ old ++ s ∷ []))

pub take_all : {X : Type 0} (xs : List X) (i : ℕ) → length xs ≤ i → take i xs ≡ xs
take_all [] zero le = refl
take_all [] (suc i) le = refl
take_all (x ∷ xs) zero le = absurd (omega arith)
take_all (x ∷ xs) (suc i) le = ap (λ ys. x ∷ ys) (take_all xs i (omega arith))

-- the coalitions and players of a level in its form are of the players
pub level_within : (n : ℕ) (front : List Level) (l : Level) → LevelForm n front l → IsOf n l
level_within n front l h = record { coalitions = proper-within n l.coalitions h.proper; bounds = h.players }

-- ---- pairs

pub pairs_more : (n : ℕ) (old mid new : List ℕ) (ps : List (ℕ × ℤ)) (i : ℕ) (d : ℕ × ℤ) → i < length ps
    → Extends n old mid (IsPaired (take i ps)) → Grows n mid new (get_or ps i d).0
    → Extends n old new (IsPaired (take (i + 1) ps))
pairs_more n old mid new ps i d lt h grows =
    let s = (get_or ps i d).0 in
    let more = λ (t : ℕ). list_any_more (λ (c : ℕ × ℤ). nat_eq c.0 t) ps i d lt in
    Extends-more n old mid new (IsPaired (take i ps)) (λ t. t ≡ s) (IsPaired (take (i + 1) ps)) h
    (Extends-add n mid new s grows)
    (λ t q. elim (or_cases (list_any (λ (c : ℕ × ℤ). nat_eq c.0 t) (take i ps)) (nat_eq s t) (sym (more t) ∙ q))
    [ inl a ↦ inl a | inr e ↦ inr (same_number s t e) ])
    (λ t q. more t ∙ or_left (list_any (λ (c : ℕ × ℤ). nat_eq c.0 t) (take i ps)) (nat_eq s t) q)
    (λ t e. more t
    ∙ or_right (list_any (λ (c : ℕ × ℤ). nat_eq c.0 t) (take i ps)) (nat_eq s t)
    (ap (nat_eq s) e ∙ nat_eq-same s))

-- ---- bounds

abbrev bound_test : ℕ → ℕ × ℤ → Bool
bound_test i b = nat_eq b.0 i && int_le (pos 1) b.1

pub bounds_more : (n : ℕ) (old mid new : List ℕ) (ps : List (ℕ × ℤ)) (i : ℕ) (d : ℕ × ℤ) → i < length ps
    → (get_or ps i d).0 < n → int_le (pos 1) (get_or ps i d).1 ≡ true
    → Extends n old mid (IsBoundVector n (take i ps)) → Grows n mid new (singleton (get_or ps i d).0)
    → Extends n old new (IsBoundVector n (take (i + 1) ps))
bounds_more n old mid new ps i d lt within weighty h grows =
    let p = get_or ps i d in
    let more = λ (j : ℕ). list_any_more (bound_test j) ps i d lt in
    Extends-more n old mid new (IsBoundVector n (take i ps)) (λ t. t ≡ singleton p.0)
    (IsBoundVector n (take (i + 1) ps)) h (Extends-add n mid new (singleton p.0) grows)
    (λ t (j, lj, e, q). elim (or_cases (list_any (bound_test j) (take i ps)) (bound_test j p) (sym (more j) ∙ q)) [
      | inl a ↦ inl (j, lj, e, a)
      | inr k ↦ inr (e ∙ ap singleton (same_number p.0 j (and_parts (nat_eq p.0 j) (int_le (pos 1) p.1) k).0))
    ])
    (λ t (j, lj, e, q). (j, lj, e, more j ∙ or_left (list_any (bound_test j) (take i ps)) (bound_test j p) q))
    (λ t e. (
      p.0,
      within,
      e,
      more p.0
          ∙ or_right (list_any (bound_test p.0) (take i ps)) (bound_test p.0 p)
          (and_both (nat_eq p.0 p.0) (int_le (pos 1) p.1) (nat_eq-same p.0) weighty),
    ))

pub bounds_skip : (n : ℕ) (old mid : List ℕ) (ps : List (ℕ × ℤ)) (i : ℕ) (d : ℕ × ℤ) → i < length ps
    → int_le (pos 1) (get_or ps i d).1 ≡ false → Extends n old mid (IsBoundVector n (take i ps))
    → Extends n old mid (IsBoundVector n (take (i + 1) ps))
bounds_skip n old mid ps i d lt light h =
    let p = get_or ps i d in
    let more = λ (j : ℕ). list_any_more (bound_test j) ps i d lt in
    Extends-same n old mid (IsBoundVector n (take i ps)) (IsBoundVector n (take (i + 1) ps)) h
    (λ t (j, lj, e, q). elim (or_cases (list_any (bound_test j) (take i ps)) (bound_test j p) (sym (more j) ∙ q)) [
      | inl a ↦ (j, lj, e, a)
      | inr k ↦ absurd (false≢true (sym light ∙ (and_parts (nat_eq p.0 j) (int_le (pos 1) p.1) k).1))
    ])
    (λ t (j, lj, e, q). (j, lj, e, more j ∙ or_left (list_any (bound_test j) (take i ps)) (bound_test j p) q))

-- ---- levels

pub levels_start : (n : ℕ) (old : List ℕ) (levels : List Level)
    → Extends n old old (IsLevelVector n (take 0 levels))
levels_start n old levels = Extends-none n old (IsLevelVector n (take 0 levels)) (λ t h. no_level_vector t h)
  where
    no_level_vector : (t : ℕ) → IsLevelVector n (take 0 levels) t → ⊥
    no_level_vector t (inl h) = false≢true h
    no_level_vector t (inr h) = false≢true h.3

pub levels_more : (n : ℕ) (old mid next new : List ℕ) (levels : List Level) (i : ℕ) (d : Level) → i < length levels
    → Extends n old mid (IsLevelVector n (take i levels))
    → Extends n mid next (IsPaired (get_or levels i d).coalitions)
    → Extends n next new (IsBoundVector n (get_or levels i d).bounds)
    → Extends n old new (IsLevelVector n (take (i + 1) levels))
levels_more n old mid next new levels i d lt h paired bound =
    let l = get_or levels i d in
    let A = IsLevelVector n (take i levels) in
    let lists = λ (t : ℕ). list_any_more (λ (l : Level). list_any (λ c. nat_eq c.0 t) l.coalitions) levels i d lt in
    let bounds = λ (j : ℕ). list_any_more
    (λ (l : Level). list_any (λ b. nat_eq b.0 j && int_le (pos 1) b.1) l.bounds) levels i d lt in
    let half : Extends n old next (λ t. A t ⊎ IsPaired l.coalitions t) =
    Extends-more n old mid next A (IsPaired l.coalitions) (λ t. A t ⊎ IsPaired l.coalitions t) h paired
    (λ t q. q) (λ t q. inl q) (λ t q. inr q) in
    let parts : (t : ℕ) → IsLevelVector n (take (i + 1) levels) t
    → (A t ⊎ IsPaired l.coalitions t) ⊎ IsBoundVector n l.bounds t = λ t q. elim q [
      | inl listed ↦ elim
          (or_cases (is_listed (take i levels) t) (list_any (λ c. nat_eq c.0 t) l.coalitions)
          (sym (lists t) ∙ listed)) [ inl a ↦ inl (inl (inl a)) | inr b ↦ inl (inr b) ]
      | inr b ↦ elim
          (or_cases (has_bound (take i levels) b.0) (list_any (λ c. nat_eq c.0 b.0 && int_le (pos 1) c.1) l.bounds)
          (sym (bounds b.0) ∙ b.3))
          [ inl a ↦ inl (inl (inr (b.0, b.1, b.2, a))) | inr k ↦ inr (b.0, b.1, b.2, k) ]
    ] in
    let left : (t : ℕ) → A t ⊎ IsPaired l.coalitions t → IsLevelVector n (take (i + 1) levels) t = λ t q. elim q [
      | inl a ↦ elim a [
        | inl listed ↦ inl
            (lists t ∙ or_left (is_listed (take i levels) t) (list_any (λ c. nat_eq c.0 t) l.coalitions) listed)
        | inr b ↦ inr (
          b.0,
          b.1,
          b.2,
          bounds b.0
              ∙ or_left (has_bound (take i levels) b.0)
              (list_any (λ c. nat_eq c.0 b.0 && int_le (pos 1) c.1) l.bounds) b.3,
        )
      ]
      | inr p ↦ inl (lists t ∙ or_right (is_listed (take i levels) t) (list_any (λ c. nat_eq c.0 t) l.coalitions) p)
    ] in
    let right : (t : ℕ) → IsBoundVector n l.bounds t → IsLevelVector n (take (i + 1) levels) t = λ t b.
    inr (
      b.0,
      b.1,
      b.2,
      bounds b.0
          ∙ or_right (has_bound (take i levels) b.0)
          (list_any (λ c. nat_eq c.0 b.0 && int_le (pos 1) c.1) l.bounds) b.3,
    ) in
    Extends-more n old next new (λ t. A t ⊎ IsPaired l.coalitions t) (IsBoundVector n l.bounds)
    (IsLevelVector n (take (i + 1) levels)) half bound parts left right

-- no levels: the span of all players alone
pub SpansFixed-start : (n : ℕ) → SpansFixed n (grand_coalition n ∷ []) []
SpansFixed-start n = record {
  inside = λ s q. span_mono n (IsKept (grand_coalition n ∷ [])) (IsFixedVector n []) s only q;
  outside = λ s q. span_mono n (IsFixedVector n []) (IsKept (grand_coalition n ∷ [])) s all q;
}
  where
    only : (t : ℕ) → IsKept (grand_coalition n ∷ []) t → IsFixedVector n [] t
    only t q =
        elim (or_cases (nat_eq (grand_coalition n) t) false q)
        [ inl e ↦ inl (same_number (grand_coalition n) t e) | inr e ↦ absurd (false≢true e) ]

    all : (t : ℕ) → IsFixedVector n [] t → IsKept (grand_coalition n ∷ []) t
    all t (inl e) =
        or_left (nat_eq (grand_coalition n) t) false
        (ap (nat_eq (grand_coalition n)) e ∙ nat_eq-same (grand_coalition n))
    all t (inr (inl listed)) = absurd (false≢true listed)
    all t (inr (inr b)) = absurd (false≢true b.3)

-- more levels: what they fix is added
pub SpansFixed-more : (n : ℕ) (old new : List ℕ) (front more : List Level) → SpansFixed n old front
    → Extends n old new (IsLevelVector n more) → SpansFixed n new (front ++ more)
SpansFixed-more n old new front more h k = record {
  inside = λ s q. span_trans n (IsKept new) (IsFixedVector n (front ++ more)) s only q;
  outside = λ s q. span_trans n (IsFixedVector n (front ++ more)) (IsKept new) s all q;
}
  where
    lists : (t : ℕ) → is_listed (front ++ more) t ≡ (is_listed front t || is_listed more t)
    lists t = list_any-append (λ (l : Level). list_any (λ c. nat_eq c.0 t) l.coalitions) front more

    bounds : (j : ℕ) → has_bound (front ++ more) j ≡ (has_bound front j || has_bound more j)
    bounds j =
        list_any-append (λ (l : Level). list_any (λ b. nat_eq b.0 j && int_le (pos 1) b.1) l.bounds) front more

    wider : (t : ℕ) → IsFixedVector n front t → IsFixedVector n (front ++ more) t
    wider t (inl e) = inl e
    wider t (inr (inl listed)) = inr (inl (lists t ∙ or_left (is_listed front t) (is_listed more t) listed))
    wider t (inr (inr b)) =
        inr (inr (b.0, b.1, b.2, bounds b.0 ∙ or_left (has_bound front b.0) (has_bound more b.0) b.3))

    added : (t : ℕ) → IsLevelVector n more t → IsFixedVector n (front ++ more) t
    added t (inl listed) = inr (inl (lists t ∙ or_right (is_listed front t) (is_listed more t) listed))
    added t (inr b) =
        inr (inr (b.0, b.1, b.2, bounds b.0 ∙ or_right (has_bound front b.0) (has_bound more b.0) b.3))

    only : (t : ℕ) → IsKept new t → InSpan n (IsFixedVector n (front ++ more)) t
    only t q = elim (k.only t q) [
      | inl o ↦ span_mono n (IsFixedVector n front) (IsFixedVector n (front ++ more)) t wider
          (h.inside t (span_of_one n (IsKept old) t o))
      | inr a ↦ span_of_one n (IsFixedVector n (front ++ more)) t (added t a)
    ]

    before : (t : ℕ) → IsFixedVector n front t → InSpan n (IsKept new) t
    before t q = k.still t (h.outside t (span_of_one n (IsFixedVector n front) t q))

    all : (t : ℕ) → IsFixedVector n (front ++ more) t → InSpan n (IsKept new) t
    all t (inl e) = before t (inl e)
    all t (inr (inl listed)) =
        elim (or_cases (is_listed front t) (is_listed more t) (sym (lists t) ∙ listed))
        [ inl a ↦ before t (inr (inl a)) | inr b ↦ k.added t (inl b) ]
    all t (inr (inr b)) =
        elim (or_cases (has_bound front b.0) (has_bound more b.0) (sym (bounds b.0) ∙ b.3))
        [ inl a ↦ before t (inr (inr (b.0, b.1, b.2, a))) | inr m ↦ k.added t (inr (b.0, b.1, b.2, m)) ]

pub levels_end : (n : ℕ) (old kept : List ℕ) (levels : List Level) (i : ℕ) → length levels ≤ i
    → Extends n old kept (IsLevelVector n (take i levels)) → Extends n old kept (IsLevelVector n levels)
levels_end n old kept levels i le h =
    subst (λ (ls : List Level). Extends n old kept (IsLevelVector n ls)) (take_all levels i le) h

pub pairs_step : (n m : ℕ) (old mid new : List ℕ) (ps : List (ℕ × ℤ)) (i : ℕ) (p : ℕ × ℤ) → m ≡ n → i < length ps
    → p ≡ get_or ps i p → Extends n old mid (IsPaired (take i ps)) → Grows m mid new p.0
    → Extends n old new (IsPaired (take (i + 1) ps))
pairs_step n m old mid new ps i p e lt is h grows =
    pairs_more n old mid new ps i p lt h
    (subst (λ (k : ℕ). Grows k mid new (get_or ps i p).0) e (subst (λ (q : ℕ × ℤ). Grows m mid new q.0) is grows))

pub bounds_step : (n m : ℕ) (old mid new : List ℕ) (ps : List (ℕ × ℤ)) (i : ℕ) (d : ℕ × ℤ) (s : ℕ) → m ≡ n
    → i < length ps → AllByRecursion (λ b. b.0 < n) ps → int_le (pos 1) (get_or ps i d).1 ≡ true
    → s ≡ singleton (get_or ps i d).0 → Extends n old mid (IsBoundVector n (take i ps)) → Grows m mid new s
    → Extends n old new (IsBoundVector n (take (i + 1) ps))
bounds_step n m old mid new ps i d s e lt within weighty is h grows =
    bounds_more n old mid new ps i d lt (all_at (λ b. b.0 < n) ps i d lt within) weighty h
    (subst (λ (k : ℕ). Grows k mid new (singleton (get_or ps i d).0)) e
    (subst (λ (t : ℕ). Grows m mid new t) is grows))

pub same_players : (n m : ℕ) (mid new : List ℕ) (A : ℕ → Type 0) → m ≡ n → Extends m mid new A → Extends n mid new A
same_players n m mid new A e h = subst (λ (k : ℕ). Extends k mid new A) e h
