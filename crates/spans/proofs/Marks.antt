-- Marks of coalitions, word by word and bit by bit.
--
-- All coalitions that a span holds lose their mark at once. The weight of a coalition at a place is the sum of two
-- numbers from tables, of the first eight players and of the others (EightSums.antt). One pass is for the sum of all
-- places, then one for each place (`sifted_first`, `sifted_more`): a coalition stays marked if it has a weight at some
-- place that isn't fixed.
use Rattle.std.proofs.Common.{◌≡◌, ◌≢◌, ℕ, zero, suc, replicate, ◌+◌, ◌-◌, ◌*◌}
use Rattle.std.proofs.Common.{◌/◌, ◌%◌, ◌^◌, ◌<◌, ◌≤◌, Bool}
use Rattle.std.proofs.Common.{true, false, not, ◌&&◌, nat_eq, List, length}
use Rattle.std.proofs.Common.{set, get_or, min}
use Rattle.std.proofs.Common.{get_or-set_same, get_or-set_other, ℤ, pos, slice_index_or}
use Rattle.std.proofs.Common.{IsTrue, bit_and, refl, sym, ap, subst, ◌∙◌, arith, inl, inr}
use Rattle.std.proofs.lemmas.Bool.{false≢true}
use Rattle.std.proofs.lemmas.Bool.Decides.{nat_tests}
use Rattle.std.proofs.lemmas.List.{get_or_past}
use Rattle.std.proofs.lemmas.Nat.Bits.{bit_at-zero}
use Rattle.std.proofs.lemmas.Nat.Bits.{bit_at_and, bit_at_not, bit_at-lt}
use Rattle.std.specs.Bool.{Decides}
use Rattle.std.proofs.Math.Nat.{pow-le-pow_right}
use Rattle.std.specs.Int.{bit_at, bit_not}
use mir.Syntax.{w64}
use Rattle.definitions.specs.Coalitions.{has_player, grand_coalition}
use Rattle.definitions.specs.Certificates.{InSpan}
use Rattle.determinants.specs.Basis.{dot}
use Rattle.determinants.specs.Matrix.{entry_at}
use Rattle.spans.specs.Span.{vector, flag, IsKept, IsSpan}
use Rattle.spans.specs.Outside.{is_marked, IsProperWord, HasNoWeight}
use Rattle.spans.proofs.Inside.{inside_from_zeros, zero_from_inside}
use Rattle.definitions.proofs.Cases.{last_or_less_of, below_or_above, same_or_other}
use Rattle.definitions.proofs.Cases.{nat_eq-other, nat_eq-equal, and_parts, and_both, from_not}
use Rattle.definitions.proofs.Members.{has_player-grand_coalition}
use Rattle.definitions.proofs.Parts.{has_player-past}
use Rattle.std.proofs.lemmas.Nat.{pow_pos}

-- ---- words

-- v has the bits of w that u doesn't have
abbrev pub IsWithout : ℕ → ℕ → ℕ → Type 0
IsWithout w u v = (j : ℕ) → j < 64 → has_player v j ≡ (has_player w j && not (has_player u j))

-- one more word is done
pub words_more : (P : ℕ → ℕ → Type 0) (ws : List ℕ) (p v : ℕ) → p < length ws → P p v
    → ((q : ℕ) → q < p → P q (slice_index_or ws q 0)) → (q : ℕ) → q < p + 1 → P q (slice_index_or (set ws p v) q 0)
words_more P ws p v len here h q lt = elim (last_or_less_of q p lt) [
  | inl same ↦ subst (λ (t : ℕ). P t (get_or (set ws p v) t 0)) (sym same)
      (subst (P p) (sym (get_or-set_same ws p v 0 len)) here)
  | inr less ↦ let ne : q ≢ p = omega arith in subst (P q) (sym (get_or-set_other ws p q v 0 ne)) (h q less)
]

pub words_rest : (ws olds : List ℕ) (p v : ℕ) → ((q : ℕ) → p ≤ q → slice_index_or ws q 0 ≡ slice_index_or olds q 0)
    → (q : ℕ) → p + 1 ≤ q → slice_index_or (set ws p v) q 0 ≡ slice_index_or olds q 0
words_rest ws olds p v h q le =
    let ne : q ≢ p = omega arith in
    get_or-set_other ws p q v 0 ne ∙ h q (omega arith)

place_of : (s : ℕ) → 64 * (s / 64) + s % 64 ≡ s
place_of s = omega arith

-- ---- one bit

pub without_bits : (a b j : ℕ) → b < 2 ^ 64 → j < 64
    → has_player (bit_and a (bit_not w64 b)) j ≡ (has_player a j && not (has_player b j))
without_bits a b j fits lt =
    let m = bit_at_and a (bit_not w64 b) j in
    let n = bit_at_not w64 b j fits lt in
    pick (bit_at (bit_and a (bit_not w64 b)) j) (bit_at a j) (bit_at b j) (bit_at-lt a j) (bit_at-lt b j)
    (m ∙ ap (λ (t : ℕ). min (bit_at a j) t) n)
  where
    pick : (r x y : ℕ) → x < 2 → y < 2 → r ≡ min x (1 - y) → nat_eq r 1 ≡ (nat_eq x 1 && not (nat_eq y 1))
    pick r x y hx hy e = grind (arith, nat_tests)

-- nothing is marked past the last word
past : (ws : List ℕ) (s : ℕ) → length ws ≡ 1024 → 2 ^ 16 ≤ s → is_marked ws s ≡ false
past ws s len le =
    let z = bit_at-zero (s % 64) in
    let none : slice_index_or ws (s / 64) 0 ≡ 0 = get_or_past ws (s / 64) 0 (omega (arith, len, le)) in
    ap (λ (w : ℕ). has_player w (s % 64)) none ∙ (grind (arith, nat_tests, z))

-- ---- all but the empty one and that of all

pub all_decides : (count j : ℕ) → Decides (has_player (grand_coalition count) j) (j < count)
all_decides count j = elim (below_or_above j count) [
  | inl lt ↦ (λ e. lt, λ q. has_player-grand_coalition count j lt)
  | inr le ↦
      let below : grand_coalition count < 2 ^ count = (let p = pow_pos count in omega (arith, p)) in (
        λ e. absurd (false≢true (sym (has_player-past count (grand_coalition count) j below le) ∙ e)),
        λ q. absurd (omega (arith, q, le)),
      )
]

-- the first `count` bits are those of the coalitions before that of all
pub later_word : (n p count word j : ℕ) → 0 < p → (j < count → 64 * p + j < grand_coalition n)
    → (64 * p + j < grand_coalition n → j < count) → has_player word j ≡ has_player (grand_coalition count) j
    → Decides (has_player word j) ((0 < 64 * p + j) × (64 * p + j < grand_coalition n))
later_word n p count word j some up down is =
    let d = all_decides count j in
    (λ e. (omega (arith, some), up (d.0 (sym is ∙ e))), λ q. is ∙ d.1 (down q.1))

pub first_word : (n p count word j : ℕ) → p ≡ 0 → (j < count → 64 * p + j < grand_coalition n)
    → (64 * p + j < grand_coalition n → j < count)
    → has_player word j ≡ (not (nat_eq j 0) && has_player (grand_coalition count) j)
    → Decides (has_player word j) ((0 < 64 * p + j) × (64 * p + j < grand_coalition n))
first_word n p count word j first up down is =
    let d = all_decides count j in (
      λ e.
          let q = and_parts (not (nat_eq j 0)) (has_player (grand_coalition count) j) (sym is ∙ e) in
          (some (from_not (nat_eq j 0) q.0), up (d.0 q.1)),
      λ q. is
          ∙ and_both (not (nat_eq j 0)) (has_player (grand_coalition count) j)
          (ap not (nat_eq-other j 0 (let h = q.0 in omega (arith, h, first)))) (d.1 (down q.1)),
    )
  where
    some : nat_eq j 0 ≡ false → 0 < 64 * p + j
    some e = elim (same_or_other j 0) [
      | inl same ↦ absurd (false≢true (sym e ∙ nat_eq-equal j 0 same))
      | inr other ↦ omega (arith, other)
    ]

-- words that are done, seen as marks
pub marks_proper : (n : ℕ) (words : List ℕ) → n ≤ 16 → length words ≡ 1024
    → ((p : ℕ) → p < 1024 → IsProperWord n p (slice_index_or words p 0)) → (s : ℕ)
    → Decides (is_marked words s) ((0 < s) × (s < grand_coalition n))
marks_proper n words few len h s = elim (below_or_above s (2 ^ 16)) [
  | inl lt ↦ subst (λ (t : ℕ). Decides (is_marked words s) ((0 < t) × (t < grand_coalition n))) (place_of s)
      (h (s / 64) (omega (arith, lt)) (s % 64) (omega arith))
  | inr le ↦
      let few_coalitions = pow-le-pow_right {n = 2} (omega arith) {i = n} {j = 16} few in (
        λ e. absurd (false≢true (sym (past words s len le) ∙ e)),
        λ q. absurd (omega (arith, q.1, le, few_coalitions)),
      )
]

-- ---- what a span holds

-- of the coalitions of a word, what stays after the first k places: each has no weight at those of them that aren't
-- fixed, and each without a weight at all places is there
pub record IsSifted (n : ℕ) (fixed : List Bool) (entries : List ℤ) (k s : ℕ) (word left : Bool) : Type 0 where
  pub none : IsTrue left → IsTrue word × HasNoWeight n fixed entries k s
  pub stays : IsTrue word → HasNoWeight n fixed entries n s → IsTrue left

-- the pass of all places together
pub sifted_first : (n : ℕ) (fixed : List Bool) (entries : List ℤ) (s : ℕ) (word left : Bool) (z : ℤ)
    → Decides left (IsTrue word × (z ≡ pos 0)) → (HasNoWeight n fixed entries n s → z ≡ pos 0)
    → IsSifted n fixed entries 0 s word left
sifted_first n fixed entries s word left z decides is_zero = record {
  none = λ e. ((decides.0 e).0, λ j lt free. absurd (omega arith));
  stays = λ e h. decides.1 (e, is_zero h);
}

-- one more place, which isn't fixed
pub sifted_more : (n : ℕ) (fixed : List Bool) (entries : List ℤ) (k s : ℕ) (word left next : Bool) (z : ℤ)
    → k < n → IsSifted n fixed entries k s word left → Decides next (IsTrue left × (z ≡ pos 0))
    → z ≡ dot n (entry_at 16 entries k) (vector s) → flag fixed k ≡ false
    → IsSifted n fixed entries (k + 1) s word next
sifted_more n fixed entries k s word left next z below old new is off = record {
  none = λ e.
      let p = new.0 e in
      let q = old.none p.0 in (
        q.0,
        λ j lt free. elim (last_or_less_of j k lt) [
          | inl same ↦ ap (λ (t : ℕ). dot n (entry_at 16 entries t) (vector s)) same ∙ sym is ∙ p.1
          | inr less ↦ q.1 j less free
        ],
      );
  stays = λ e h. new.1 (old.stays e h, is ∙ h k below off);
}

-- one more place, which is fixed
pub sifted_fixed : (n : ℕ) (fixed : List Bool) (entries : List ℤ) (k s : ℕ) (word left : Bool)
    → IsSifted n fixed entries k s word left → flag fixed k ≡ true → IsSifted n fixed entries (k + 1) s word left
sifted_fixed n fixed entries k s word left old on = record {
  none = λ e.
      let q = old.none e in (
        q.0,
        λ j lt free. elim (last_or_less_of j k lt)
            [ inl same ↦ absurd (false≢true (sym free ∙ ap (flag fixed) same ∙ on)) | inr less ↦ q.1 j less free ],
      );
  stays = old.stays;
}

pub sifted_all : (n : ℕ) (fixed : List Bool) (entries : List ℤ) (k s : ℕ) (word left : Bool) → k ≡ n
    → IsSifted n fixed entries k s word left → Decides left (IsTrue word × HasNoWeight n fixed entries n s)
sifted_all n fixed entries k s word left end h = (
  λ e. let q = h.none e in (q.0, λ j lt free. q.1 j (omega arith) free),
  λ q. h.stays q.0 q.1,
)

-- all places
pub silent_inside : (n : ℕ) (ks : List ℕ) (fixed : List Bool) (entries : List ℤ) (den : ℤ) (k s : ℕ)
    (word left : Bool) → IsSpan n ks fixed entries den → s < 2 ^ n → k ≡ n
    → Decides left (IsTrue word × HasNoWeight n fixed entries k s)
    → Decides left (IsTrue word × InSpan n (IsKept ks) s)
silent_inside n ks fixed entries den k s word left h lt end old = (
  λ e.
      let q = old.0 e in
      (q.0, inside_from_zeros n ks fixed entries den s h lt (λ j less off. q.1 j (omega (arith, end, less)) off)),
  λ q. old.1
      (q.0, λ j less off. zero_from_inside n ks fixed entries den s h lt q.1 j (omega (arith, end, less)) off),
)

-- what is taken out
pub cleared : (old held new : Bool) (A : Type 0) → new ≡ (old && not held) → Decides held (IsTrue old × A)
    → Decides new (IsTrue old × (A → ⊥))
cleared true true new A e d = (λ q. absurd (false≢true (sym e ∙ q)), λ q. absurd (q.1 (d.0 refl).1))
cleared true false new A e d = (λ q. (refl, λ a. false≢true (d.1 (refl, a))), λ q. e)
cleared false held new A e d = (λ q. absurd (false≢true (sym e ∙ q)), λ q. absurd (false≢true q.0))

-- ---- no marks

pub zeros_at : (n m : ℕ) → ◌≡◌ {A = ℕ} (slice_index_or (replicate n 0) m 0) 0
zeros_at zero m = refl
zeros_at (suc n) zero = refl
zeros_at (suc n) (suc m) = zeros_at n m

pub below_all : (n s : ℕ) → n ≤ 16 → s < 2 ^ n → s < 2 ^ 16
below_all n s few lt = let le = pow-le-pow_right {n = 2} (omega arith) {i = n} {j = 16} few in omega (arith, lt, le)

pub marks_without : (olds others news : List ℕ)
    → ((p : ℕ) → p < 1024
    → IsWithout (slice_index_or olds p 0) (slice_index_or others p 0) (slice_index_or news p 0)) → (s : ℕ)
    → s < 2 ^ 16 → is_marked news s ≡ (is_marked olds s && not (is_marked others s))
marks_without olds others news h s lt = h (s / 64) (omega arith) (s % 64) (omega arith)

pub cleared_marks : (olds held news : List ℕ) (n : ℕ) (A : ℕ → Type 0) → length olds ≡ 1024 → length news ≡ 1024
    → ((s : ℕ) → IsTrue (is_marked olds s) → s < 2 ^ n)
    → ((s : ℕ) → s < 2 ^ 16 → is_marked news s ≡ (is_marked olds s && not (is_marked held s)))
    → ((s : ℕ) → s < 2 ^ n → Decides (is_marked held s) (IsTrue (is_marked olds s) × A s)) → (s : ℕ)
    → Decides (is_marked news s) (IsTrue (is_marked olds s) × (A s → ⊥))
cleared_marks olds held news n A long longer within taken tests s = elim (below_or_above s (2 ^ 16)) [
  | inl lt ↦ pick lt (is_marked olds s) refl
  | inr le ↦ (
    λ e. absurd (false≢true (sym (past news s longer le) ∙ e)),
    λ q. absurd (false≢true (sym (past olds s long le) ∙ q.0)),
  )
]
  where
    pick : s < 2 ^ 16 → (b : Bool) → is_marked olds s ≡ b
        → Decides (is_marked news s) (IsTrue (is_marked olds s) × (A s → ⊥))
    pick lt true on =
        cleared (is_marked olds s) (is_marked held s) (is_marked news s) (A s) (taken s lt) (tests s (within s on))
    pick lt false off = (
      λ e. absurd (false≢true (sym (taken s lt ∙ ap (λ (b : Bool). b && not (is_marked held s)) off) ∙ e)),
      λ q. absurd (false≢true (sym off ∙ q.0)),
    )
