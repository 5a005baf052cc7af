-- A search for the best column that improves, number by number.
--
-- Any column that improves may enter, and the least is a bad choice: on games whose players are numbered by their
-- strength it took very many steps. So a search asks the columns in front first, then goes round in blocks of 256
-- coalitions, from the block in which it found the last one. Of the first block that has any, it takes the one whose
-- cost is most above its value. No answer rests on that choice, but `IsMost` says it, since only time would show a bad
-- one.
use Rattle.std.proofs.Common.{◌≡◌, ◌↔◌, ◌⊎◌, inl, inr, ℕ, ◌+◌, ◌<◌, ◌≤◌, ℤ}
use Rattle.std.proofs.Common.{◌+ℤ◌, ◌≤ℤ◌, ◌<ℤ◌, int_lt, Bool, true, false}
use Rattle.std.proofs.lemmas.Int.{ints}
use Rattle.std.proofs.Common.{Option, Some, None, MatchOption, refl, arith}
use Rattle.definitions.proofs.Cases.{last_or_less_of, below_or_above}
use Rattle.definitions.proofs.Ring.{linear}
use Rattle.separation.specs.Values.{IsMost, IsHighest}

-- ---- by what each has

-- the number picked, and what it has
abbrev pub IsPicked : (ℕ → Type 0) → (ℕ → ℤ) → ℕ → ℕ → ℕ → ℕ × ℤ → Type 0
IsPicked R G a s count b = IsMost R G a s count b.0 × (b.1 ≡ G b.0)

module _ (R : ℕ → Type 0) (G : ℕ → ℤ) (a s count : ℕ) where
  -- one more number is passed over
  most_passed : (t : ℕ) → (R s → ⊥) → IsMost R G a s count t → IsMost R G a (s + 1) count t
  most_passed t here h = record {
    below = h.below;
    improves = h.improves;
    most = λ j low lt within r. elim (last_or_less_of j s lt) [
      | inl same ↦ absurd (here (rw same at r))
      | inr less ↦ h.most j low less within r
    ];
  }

  pub passed_over : (o : Option (ℕ × ℤ)) → (R s → ⊥)
      → MatchOption o ((j : ℕ) → a ≤ j → j < s → j < count → R j → ⊥) (IsPicked R G a s count)
      → MatchOption o ((j : ℕ) → a ≤ j → j < s + 1 → j < count → R j → ⊥) (IsPicked R G a (s + 1) count)
  passed_over None here h = λ j low lt within. elim (last_or_less_of j s lt) [
    | inl same ↦ rw same here
    | inr less ↦ h j low less within
  ]
  passed_over (Some b) here h = (most_passed b.0 here h.0, h.1)

  -- the first that improves, one that has more, and one that has no more
  first_picked : s < count → R s → ((j : ℕ) → a ≤ j → j < s → j < count → R j → ⊥) → IsMost R G a (s + 1) count s
  first_picked within improves none = record {
    below = within;
    improves = improves;
    most = λ j low lt below r. elim (last_or_less_of j s lt) [
      | inl same ↦ rw same (omega (arith, linear))
      | inr less ↦ absurd (none j low less below r)
    ];
  }

  more_picked : (t : ℕ) → s < count → R s → G t <ℤ G s → IsMost R G a s count t → IsMost R G a (s + 1) count s
  more_picked t within improves more h = record {
    below = within;
    improves = improves;
    most = λ j low lt below r. elim (last_or_less_of j s lt) [
      | inl same ↦ rw same (omega (arith, linear))
      | inr less ↦ let older = h.most j low less below r in omega (arith, linear)
    ];
  }

  kept_picked : (t : ℕ) → G s ≤ℤ G t → IsMost R G a s count t → IsMost R G a (s + 1) count t
  kept_picked t less h = record {
    below = h.below;
    improves = h.improves;
    most = λ j low lt below r. elim (last_or_less_of j s lt) [
      | inl same ↦ rw same less
      | inr before ↦ h.most j low before below r
    ];
  }

  pub picked_more : (o : Option (ℕ × ℤ)) (r : ℕ × ℤ) (z : ℤ) → s < count → R s → z ≡ G s
      → MatchOption o (r ≡ (s, z)) (λ b. (b.1 <ℤ z → r ≡ (s, z)) × (z ≤ℤ b.1 → r ≡ b))
      → MatchOption o ((j : ℕ) → a ≤ j → j < s → j < count → R j → ⊥) (IsPicked R G a s count)
      → IsPicked R G a (s + 1) count r
  picked_more None r z within improves has e h = rw e (first_picked within improves h, has)
  picked_more (Some b) r z within improves has e h = elim (less_or_more b.1 z) [
    | inl more ↦ rw (e.0 more)
        (more_picked b.0 within improves (above b.1 z (G b.0) (G s) h.1 has more) h.0, has)
    | inr less ↦ rw (e.1 less)
        (kept_picked b.0 (at_most b.1 z (G b.0) (G s) h.1 has less) h.0, h.1)
  ]
    where
      less_or_more : (x y : ℤ) → (x <ℤ y) ⊎ (y ≤ℤ x)
      less_or_more x y =
          let step : (t : Bool) → int_lt x y ≡ t → (x <ℤ y) ⊎ (y ≤ℤ x) = elim [
            | true ↦ λ e. inl (omega (arith, ints))
            | false ↦ λ e. inr (omega (arith, ints))
          ] in
          step (int_lt x y) refl

      above : (x y u v : ℤ) → x ≡ u → y ≡ v → x <ℤ y → u <ℤ v
      above x y u v e f h = omega (arith, linear)

      at_most : (x y u v : ℤ) → x ≡ u → y ≡ v → y ≤ℤ x → v ≤ℤ u
      at_most x y u v e f h = omega (arith, linear)

-- ---- by height

module _ (R : ℕ → Type 0) (G : ℕ → ℤ) (a s count : ℕ) (base height : ℤ) (picked : ℕ) where
  pub highest_more : (z : ℤ) → s < count → ((base <ℤ z) ↔ R s) → z ≡ base +ℤ G s → height <ℤ z
      → IsHighest R G a s count base height picked → IsHighest R G a (s + 1) count base z s
  highest_more z within improves has more h =
      let low = h.low in
      record {
        low = omega (arith, linear);
        none = λ e. absurd (omega (arith, linear));
        found = λ up. (within, improves.0 up, has);
        most = λ j lower lt below r. elim (last_or_less_of j s lt) [
          | inl same ↦ rw same (omega (arith, linear, has))
          | inr before ↦ let older = h.most j lower before below r in omega (arith, linear)
        ];
      }

  pub highest_passed : ¬ R s → IsHighest R G a s count base height picked
      → IsHighest R G a (s + 1) count base height picked
  highest_passed here h = record {
    low = h.low;
    none = λ e j low lt within. elim (last_or_less_of j s lt) [
      | inl same ↦ rw same here
      | inr before ↦ h.none e j low before within
    ];
    found = h.found;
    most = λ j low lt within r. elim (last_or_less_of j s lt) [
      | inl same ↦ absurd (here (rw same at r))
      | inr before ↦ h.most j low before within r
    ];
  }

  pub highest_kept : (z : ℤ) → (R s → base <ℤ z) → z ≡ base +ℤ G s → z ≤ℤ height
      → IsHighest R G a s count base height picked → IsHighest R G a (s + 1) count base height picked
  highest_kept z improves has less h = record {
    low = h.low;
    none = λ e j low lt within. elim (last_or_less_of j s lt) [
      | inl same ↦ λ r. let up = improves (rw same at r) in absurd (omega (arith, linear))
      | inr before ↦ h.none e j low before within
    ];
    found = h.found;
    most = λ j low lt within r. elim (last_or_less_of j s lt) [
      | inl same ↦ rw same (omega (arith, linear))
      | inr before ↦ h.most j low before within r
    ];
  }

  -- a stretch past the count
  pub highest_past : (t : ℕ) → (s ≡ t) ⊎ (count ≤ s) → IsHighest R G a s count base height picked
      → IsHighest R G a t count base height picked
  highest_past t end h = record {
    low = h.low;
    none = λ e j low lt within. h.none e j low (earlier j lt within) within;
    found = h.found;
    most = λ j low lt within r. h.most j low (earlier j lt within) within r;
  }
    where
      earlier : (j : ℕ) → j < t → j < count → j < s
      earlier j lt within = elim end [
        | inl same ↦ rw same lt
        | inr le ↦ omega arith
      ]

  -- a stretch of which none that improves is higher
  pub highest_skipped : (t : ℕ) → ((j : ℕ) → s ≤ j → j < t → j < count → R j → base <ℤ height)
      → ((j : ℕ) → s ≤ j → j < t → j < count → (base +ℤ G j) ≤ℤ height)
      → IsHighest R G a s count base height picked → IsHighest R G a t count base height picked
  highest_skipped t above no_higher h = record {
    low = h.low;
    none = λ e j low lt within. elim (below_or_above j s) [
      | inl before ↦ h.none e j low before within
      | inr past ↦ λ r. let up = above j past lt within r in absurd (omega (arith, linear))
    ];
    found = h.found;
    most = λ j low lt within r. elim (below_or_above j s) [
      | inl before ↦ h.most j low before within r
      | inr past ↦ no_higher j past lt within
    ];
  }

  -- where the height is above the base, the one that is picked has most
  pub highest_is_most : base <ℤ height → IsHighest R G a s count base height picked → IsMost R G a s count picked
  highest_is_most up h = record {
    below = (h.found up).0;
    improves = (h.found up).1;
    most = λ j low lt within r.
        let less = h.most j low lt within r in
        let has = (h.found up).2 in
        omega (arith, linear);
  }
