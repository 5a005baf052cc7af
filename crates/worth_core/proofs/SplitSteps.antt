-- The greatest sums over the sets of seen players of a kind, with one more player seen.
--
-- There are four kinds of sets of seen players: by whether a set holds some seen player of f, and whether it lacks one.
-- One more player stays out of each set or joins it, so the greatest sum of each kind follows from at most four others
-- (`AreSplitSums-free`, `AreSplitSums-other`). A set with the new player is a set without it, and that player
-- (SeenSets.antt).
use Rattle.std.proofs.Common.{◌≡◌, ◌⊎◌, ℕ, ◌+◌, ◌^◌, ◌<◌, Bool, true, false, not}
use Rattle.std.proofs.Common.{◌&&◌}
use Rattle.std.proofs.Common.{◌||◌, ℤ, pos, ◌+ℤ◌, ◌≤ℤ◌, Option, None, Some, MatchOption, refl}
use Rattle.std.proofs.Common.{sym}
use Rattle.std.proofs.Common.{ap, subst, ◌∙◌, inl, inr, arith, if◌then◌else◌}
use Rattle.std.proofs.lemmas.Bool.{false≢true}
use Rattle.std.proofs.lemmas.Int.{ints}
use Rattle.std.proofs.Math.Pow.{pow_pos}
use Rattle.definitions.proofs.Members.{has_player-empty, sum_below-zero}
use Rattle.definitions.proofs.Parts.{sum_over-more}
use Rattle.definitions.specs.Coalitions.{has_player, sum_over}
use Rattle.definitions.specs.Sums.{IsGreatest}
use Rattle.worth_core.specs.SplitKinds.{holds_some, lacks_some, IsSeenSet, IsGreatestSum, Sums}
use Rattle.worth_core.specs.SplitKinds.{AreSplitSums, greater_sum, longer_sum}
use Rattle.worth_core.proofs.SeenSets.{IsSeenSet-without, IsSeenSet-with, IsSeenSet-cases, IsSeenSet-lacks}
use Rattle.definitions.proofs.Cases.{int_max-cases, or_cases, or_true, or_false, and_false}
use Rattle.definitions.proofs.Splits.{some_below-none}

-- ---- greatest numbers over sets of any kind

-- the greatest number, and none where nothing is of the kind
abbrev IsGreatestOf : (ℕ → Type 0) → (ℕ → ℤ) → Option ℤ → Type 0
IsGreatestOf P v x = MatchOption x ((s : ℕ) → ¬ P s) (λ m. IsGreatest P v m)

-- what is of either kind
abbrev IsUnion : (ℕ → Type 0) → (ℕ → Type 0) → (ℕ → Type 0) → Type 0
IsUnion P Q R = ((s : ℕ) → R s → P s ⊎ Q s) × ((s : ℕ) → P s → R s) × ((s : ℕ) → Q s → R s)

joined : (P Q R : ℕ → Type 0) (v : ℕ → ℤ) (x y : Option ℤ) → IsGreatestOf P v x → IsGreatestOf Q v y → IsUnion P Q R
    → IsGreatestOf R v (greater_sum x y)
joined P Q R v None None hx hy u = λ s r. elim (u.0 s r) [ inl p ↦ hx s p | inr q ↦ hy s q ]
joined P Q R v None (Some k) hx hy u =
    ((hy.0.0, u.2 hy.0.0 hy.0.1, hy.0.2), λ s r. elim (u.0 s r) [ inl p ↦ absurd (hx s p) | inr q ↦ hy.1 s q ])
joined P Q R v (Some m) None hx hy u =
    ((hx.0.0, u.1 hx.0.0 hx.0.1, hx.0.2), λ s r. elim (u.0 s r) [ inl p ↦ hx.1 s p | inr q ↦ absurd (hy s q) ])
joined P Q R v (Some m) (Some k) hx hy u = elim (int_max-cases m k) [
  | inl (e, le) ↦ rw e (
    (hx.0.0, u.1 hx.0.0 hx.0.1, hx.0.2),
    λ s r. elim (u.0 s r) [ inl p ↦ hx.1 s p | inr q ↦ omega (arith, ints, hy.1 s q, le) ],
  )
  | inr (e, le) ↦ rw e (
    (hy.0.0, u.2 hy.0.0 hy.0.1, hy.0.2),
    λ s r. elim (u.0 s r) [ inl p ↦ omega (arith, ints, hx.1 s p, le) | inr q ↦ hy.1 s q ],
  )
]

-- each set of the kind Q with the player of place value p, whose number is w
with_player : (Q : ℕ → Type 0) (v : ℕ → ℤ) (p : ℕ) (w : ℤ) (y : Option ℤ) → IsGreatestOf Q v y
    → ((t : ℕ) → Q t → v (t + p) ≡ v t +ℤ w) → IsGreatestOf (λ s. (t : ℕ) × Q t × (s ≡ t + p)) v (longer_sum y w)
with_player Q v p w None hy more = λ s r. hy r.0 r.1
with_player Q v p w (Some m) hy more = (
  (hy.0.0 + p, (hy.0.0, hy.0.1, refl), sym (more hy.0.0 hy.0.1 ∙ ap (λ (z : ℤ). z +ℤ w) (sym hy.0.2))),
  λ s r. bounded s r.0 r.2 (more r.0 r.1) (hy.1 r.0 r.1),
)
  where
    bounded : (s t : ℕ) → s ≡ t + p → v (t + p) ≡ v t +ℤ w → v t ≤ℤ m → v s ≤ℤ (m +ℤ w)
    bounded s t e same le = rw (ap v e, same) (omega (arith, ints))

-- ---- kinds of sets, as tests of two answers

abbrev Test : Type 0
Test = Bool → Bool → Bool

-- one more player seen, where the two sums are those over the sets that are of the kind without the player, and with it
one_more : (n i : ℕ) (a : ℕ → ℤ) (f seen : ℕ) (test : Test) (x y : Option ℤ) → i < n → has_player seen i ≡ false
    → IsGreatestSum n a f seen (λ h l. test h (l || has_player f i)) x
    → IsGreatestSum n a f seen (λ h l. test (h || has_player f i) l) y
    → IsGreatestSum n a f (seen + 2 ^ i) test (greater_sum x (longer_sum y (a i)))
one_more n i a f seen test x y lt new hx hy =
    let before = λ (t : ℕ). IsSeenSet n f seen (λ h l. test (h || has_player f i) l) t in
    let grown = λ (s : ℕ). (t : ℕ) × before t × (s ≡ t + 2 ^ i) in
    joined (IsSeenSet n f seen (λ h l. test h (l || has_player f i))) grown (IsSeenSet n f (seen + 2 ^ i) test)
    (sum_over n a) x (longer_sum y (a i)) hx
    (with_player before (sum_over n a) (2 ^ i) (a i) y hy
    (λ t q. sum_over-more n t i a lt (IsSeenSet-lacks n f seen i (λ h l. test (h || has_player f i) l) t new q)))
    (λ s. IsSeenSet-cases n f seen i test s lt new, λ s. IsSeenSet-without n f seen i test s lt new, back)
  where
    back : (s : ℕ) → ((t : ℕ) × IsSeenSet n f seen (λ h l. test (h || has_player f i) l) t × (s ≡ t + 2 ^ i))
        → IsSeenSet n f (seen + 2 ^ i) test s
    back s (t, k, e) =
        subst (λ (m : ℕ). IsSeenSet n f (seen + 2 ^ i) test m) (sym e) (IsSeenSet-with n f seen i test t lt new k)

-- the same, where it is known whether the player is one of f
one_more_of : (n i : ℕ) (a : ℕ → ℤ) (f seen : ℕ) (b : Bool) (w : ℤ) (test : Test) (x y : Option ℤ) → i < n
    → has_player seen i ≡ false → has_player f i ≡ b → a i ≡ w
    → IsGreatestSum n a f seen (λ h l. test h (l || b)) x → IsGreatestSum n a f seen (λ h l. test (h || b) l) y
    → IsGreatestSum n a f (seen + 2 ^ i) test (greater_sum x (longer_sum y w))
one_more_of n i a f seen b w test x y lt new is number =
    let at_w =
    subst
    (λ (z : ℤ). IsGreatestSum n a f seen (λ h l. test h (l || has_player f i)) x
    → IsGreatestSum n a f seen (λ h l. test (h || has_player f i) l) y
    → IsGreatestSum n a f (seen + 2 ^ i) test (greater_sum x (longer_sum y z))) number
    (one_more n i a f seen test x y lt new) in
    subst
    (λ (c : Bool). IsGreatestSum n a f seen (λ h l. test h (l || c)) x
    → IsGreatestSum n a f seen (λ h l. test (h || c) l) y
    → IsGreatestSum n a f (seen + 2 ^ i) test (greater_sum x (longer_sum y w))) is at_w

-- a test that passes where one of two does
both_kinds : (n : ℕ) (a : ℕ → ℤ) (f seen : ℕ) (p q r : Test) (x y : Option ℤ)
    → ((h l : Bool) → r h l ≡ (p h l || q h l)) → IsGreatestSum n a f seen p x → IsGreatestSum n a f seen q y
    → IsGreatestSum n a f seen r (greater_sum x y)
both_kinds n a f seen p q r x y same hx hy =
    joined (IsSeenSet n f seen p) (IsSeenSet n f seen q) (IsSeenSet n f seen r) (sum_over n a) x y hx hy (
      λ s k. elim (or_cases _ _ (sym (same (holds_some n f s) (lacks_some n f seen s)) ∙ k.2))
          [ inl one ↦ inl (k.0, k.1, one) | inr other ↦ inr (k.0, k.1, other) ],
      λ s k. (
        k.0,
        k.1,
        same (holds_some n f s) (lacks_some n f seen s)
            ∙ ap (λ (b : Bool). b || q (holds_some n f s) (lacks_some n f seen s)) k.2,
      ),
      λ s k. (
        k.0,
        k.1,
        same (holds_some n f s) (lacks_some n f seen s)
            ∙ ap (λ (b : Bool). p (holds_some n f s) (lacks_some n f seen s) || b) k.2
            ∙ or_true (p (holds_some n f s) (lacks_some n f seen s)),
      ),
    )

-- a test that passes at the same answers
same_kind : (n : ℕ) (a : ℕ → ℤ) (f seen : ℕ) (p r : Test) (x : Option ℤ) → ((h l : Bool) → r h l ≡ p h l)
    → IsGreatestSum n a f seen p x → IsGreatestSum n a f seen r x
same_kind n a f seen p r None same hx =
    λ s k. hx s (k.0, k.1, sym (same (holds_some n f s) (lacks_some n f seen s)) ∙ k.2)
same_kind n a f seen p r (Some m) same hx = (
  (hx.0.0, (hx.0.1.0, hx.0.1.1, same (holds_some n f hx.0.0) (lacks_some n f seen hx.0.0) ∙ hx.0.1.2), hx.0.2),
  λ s k. hx.1 s (k.0, k.1, sym (same (holds_some n f s) (lacks_some n f seen s)) ∙ k.2),
)

-- a test that never passes
no_kind : (n : ℕ) (a : ℕ → ℤ) (f seen : ℕ) (p : Test) → ((h l : Bool) → p h l ≡ false)
    → IsGreatestSum n a f seen p None
no_kind n a f seen p never = λ s k. false≢true (sym (never (holds_some n f s) (lacks_some n f seen s)) ∙ k.2)

holds_one : (h l : Bool) → (h && (l || true)) ≡ ((h && not l) || (h && l))
holds_one = elim [ true ↦ elim [ true ↦ refl | false ↦ refl ] | false ↦ λ l. refl ]

-- ---- the steps

-- nobody is seen: the empty set alone
pub AreSplitSums-new : (n : ℕ) (a : ℕ → ℤ) (f : ℕ)
    → AreSplitSums n a f 0
    (record { neither = Some (pos 0); holding = None; lacking = None; both = None; count = 0 })
AreSplitSums-new n a f = record {
  neither = (
    (
      0,
      (pow_pos n, λ i h. h, rw (holds_nobody 0 (λ i. has_player-empty i), lacks_nobody 0) refl),
      sym (no_sum 0 (λ i. has_player-empty i)),
    ),
    λ s k. rw (no_sum s (nobody (λ h l. not h && not l) s k)) le_zero,
  );
  holding = λ s k. false≢true (sym (holds_none (λ h l. h && not l) s k (λ l. refl)) ∙ k.2);
  lacking = λ s k. false≢true (sym (lacks_none s) ∙ k.2);
  both = λ s k. false≢true (sym (holds_none (λ h l. h && l) s k (λ l. refl)) ∙ k.2);
}
  where
    nobody : (test : Test) (s : ℕ) → IsSeenSet n f 0 test s → (i : ℕ) → has_player s i ≡ false
    nobody test s k i = IsSeenSet-lacks n f 0 i test s (has_player-empty i) k

    holds_nobody : (s : ℕ) → ((i : ℕ) → has_player s i ≡ false) → holds_some n f s ≡ false
    holds_nobody s h =
        some_below-none n (λ i. has_player f i && has_player s i) (λ i lt. rw (h i) (and_false (has_player f i)))

    lacks_nobody : (s : ℕ) → lacks_some n f 0 s ≡ false
    lacks_nobody s =
        some_below-none n (λ i. (has_player f i && has_player 0 i) && not (has_player s i))
        (λ i lt. rw (has_player-empty i, and_false (has_player f i)) refl)

    holds_none : (test : Test) (s : ℕ) → IsSeenSet n f 0 test s → ((l : Bool) → test false l ≡ false)
        → test (holds_some n f s) (lacks_some n f 0 s) ≡ false
    holds_none test s k never = rw (holds_nobody s (nobody test s k)) (never (lacks_some n f 0 s))

    lacks_none : (s : ℕ) → (not (holds_some n f s) && lacks_some n f 0 s) ≡ false
    lacks_none s = rw (lacks_nobody s) (and_false (not (holds_some n f s)))

    no_sum : (s : ℕ) → ((i : ℕ) → has_player s i ≡ false) → sum_over n a s ≡ pos 0
    no_sum s h = sum_below-zero n (λ i. if has_player s i then a i else pos 0) (λ i lt. rw (h i) refl)

    le_zero : pos 0 ≤ℤ pos 0
    le_zero = omega (arith, ints)

-- a player of f
pub AreSplitSums-free : (n i : ℕ) (a : ℕ → ℤ) (f seen : ℕ) (w : ℤ) (before after : Sums) → i < n
    → has_player seen i ≡ false → has_player f i ≡ true → a i ≡ w → AreSplitSums n a f seen before
    → after.neither ≡ None → after.holding ≡ longer_sum (greater_sum before.neither before.holding) w
    → after.lacking ≡ greater_sum before.neither before.lacking
    → after.both
    ≡ greater_sum (greater_sum before.holding before.both) (longer_sum (greater_sum before.lacking before.both) w)
    → AreSplitSums n a f (seen + 2 ^ i) after
AreSplitSums-free n i a f seen w before after lt new is number h neither holding lacking both = record {
  neither = rw neither
      (one_more_of n i a f seen true w (λ h l. not h && not l) None None lt new is number
      (no_kind n a f seen _ never_lacks) (no_kind n a f seen _ never_holds));
  holding = rw holding (
      one_more_of n i a f seen true w (λ h l. h && not l) None (greater_sum before.neither before.holding) lt new is
      number (no_kind n a f seen _ never_all)
      (both_kinds n a f seen (λ h l. not h && not l) (λ h l. h && not l) (λ h l. (h || true) && not l)
      before.neither before.holding lacks_none h.neither h.holding)
      );
  lacking = rw lacking (
      subst (λ (x : Option ℤ). IsGreatestSum n a f (seen + 2 ^ i) (λ h l. not h && l) x)
      (greater_sum-none (greater_sum before.neither before.lacking)) (
      one_more_of n i a f seen true w (λ h l. not h && l) (greater_sum before.neither before.lacking) None lt new is
      number
      (both_kinds n a f seen (λ h l. not h && not l) (λ h l. not h && l) (λ h l. not h && (l || true))
      before.neither before.lacking holds_none h.neither h.lacking)
      (no_kind n a f seen _ never_lacking))
      );
  both = rw both (
      one_more_of n i a f seen true w (λ h l. h && l) (greater_sum before.holding before.both)
      (greater_sum before.lacking before.both) lt new is number
      (both_kinds n a f seen (λ h l. h && not l) (λ h l. h && l) (λ h l. h && (l || true)) before.holding
      before.both holds_one h.holding h.both)
      (both_kinds n a f seen (λ h l. not h && l) (λ h l. h && l) (λ h l. (h || true) && l) before.lacking
      before.both lacks_one h.lacking h.both)
      );
}
  where
    never_lacks : (h l : Bool) → (not h && not (l || true)) ≡ false
    never_lacks = elim [ true ↦ λ l. refl | false ↦ elim [ true ↦ refl | false ↦ refl ] ]

    never_holds : (h l : Bool) → (not (h || true) && not l) ≡ false
    never_holds = elim [ true ↦ λ l. refl | false ↦ λ l. refl ]

    never_all : (h l : Bool) → (h && not (l || true)) ≡ false
    never_all = elim [ true ↦ elim [ true ↦ refl | false ↦ refl ] | false ↦ λ l. refl ]

    never_lacking : (h l : Bool) → (not (h || true) && l) ≡ false
    never_lacking = elim [ true ↦ λ l. refl | false ↦ λ l. refl ]

    greater_sum-none : (x : Option ℤ) → greater_sum x None ≡ x
    greater_sum-none None = refl
    greater_sum-none (Some m) = refl

    holds_none : (h l : Bool) → (not h && (l || true)) ≡ ((not h && not l) || (not h && l))
    holds_none = elim [ true ↦ λ l. refl | false ↦ elim [ true ↦ refl | false ↦ refl ] ]

    lacks_none : (h l : Bool) → ((h || true) && not l) ≡ ((not h && not l) || (h && not l))
    lacks_none = elim [ true ↦ λ l. refl | false ↦ elim [ true ↦ refl | false ↦ refl ] ]

    lacks_one : (h l : Bool) → ((h || true) && l) ≡ ((not h && l) || (h && l))
    lacks_one = elim [ true ↦ λ l. refl | false ↦ elim [ true ↦ refl | false ↦ refl ] ]

-- a player outside f
pub AreSplitSums-other : (n i : ℕ) (a : ℕ → ℤ) (f seen : ℕ) (w : ℤ) (before after : Sums) → i < n
    → has_player seen i ≡ false → has_player f i ≡ false → a i ≡ w → AreSplitSums n a f seen before
    → after.neither ≡ greater_sum before.neither (longer_sum before.neither w)
    → after.holding ≡ greater_sum before.holding (longer_sum before.holding w)
    → after.lacking ≡ greater_sum before.lacking (longer_sum before.lacking w)
    → after.both ≡ greater_sum before.both (longer_sum before.both w)
    → AreSplitSums n a f (seen + 2 ^ i) after
AreSplitSums-other n i a f seen w before after lt new is number h neither holding lacking both = record {
  neither = rw neither (each (λ h l. not h && not l) before.neither h.neither);
  holding = rw holding (each (λ h l. h && not l) before.holding h.holding);
  lacking = rw lacking (each (λ h l. not h && l) before.lacking h.lacking);
  both = rw both (each (λ h l. h && l) before.both h.both);
}
  where
    each : (test : Test) (x : Option ℤ) → IsGreatestSum n a f seen test x
        → IsGreatestSum n a f (seen + 2 ^ i) test (greater_sum x (longer_sum x w))
    each test x hx =
        one_more_of n i a f seen false w test x x lt new is number
        (same_kind n a f seen test (λ h l. test h (l || false)) x (λ h l. ap (test h) (or_false l)) hx)
        (same_kind n a f seen test (λ h l. test (h || false) l) x (λ h l. ap (λ (b : Bool). test b l) (or_false h))
        hx)

-- what splits f where some of f isn't seen yet
pub IsGreatestSum-others_free : (n : ℕ) (a : ℕ → ℤ) (f seen : ℕ) (sums : Sums) → AreSplitSums n a f seen sums
    → IsGreatestSum n a f seen (λ holds lacks. holds && (lacks || true)) (greater_sum sums.holding sums.both)
IsGreatestSum-others_free n a f seen sums h =
    both_kinds n a f seen (λ h l. h && not l) (λ h l. h && l) (λ h l. h && (l || true)) sums.holding sums.both
    holds_one h.holding h.both
