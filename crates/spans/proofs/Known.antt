-- What was found for blocks, and what is found for one more.
use Rattle.std.proofs.Common.{◌≡◌, ◌≢◌, ◌∙◌, ℕ, ◌+◌, ◌-◌, ◌<◌, List, [], length}
use Rattle.std.proofs.Common.{length-set, set, replicate, get_or-set_same, get_or-set_other, slice_index_or, ℤ}
use Rattle.std.proofs.Common.{inl, inr, refl, sym, ap, subst, arith, pos, ◌-ℤ◌}
use Rattle.std.specs.Bool.{Decides}
use Rattle.definitions.proofs.Cases.{same_or_other}
use Rattle.spans.specs.Outside.{is_marked}
use Rattle.spans.specs.Places.{AreSilentPlaces, AreKnown}
use Rattle.spans.proofs.Marks.{zeros_at}

-- the marks are the places where z stands
abbrev pub AreAt : List ℤ → List ℕ → ℤ → Type 0
AreAt numbers places z = (i : ℕ) → i < 256 → Decides (is_marked places i) (slice_index_or numbers i (pos 0) ≡ z)

-- nothing is found at first
pub nothing_known : (low high : List ℤ) (found : List (List ℕ)) → length found ≡ 64
    → AreKnown low high (replicate 64 0) found
nothing_known low high found room = record {
  count = refl;
  room = room;
  within = λ slot. let none = zeros_at 64 slot in omega (arith, none);
  silent = λ slot some. let none = zeros_at 64 slot in absurd (omega (arith, none, some));
}

-- one more block has its places
pub known_more : (low high : List ℤ) (latest : List ℕ) (found : List (List ℕ)) (slot block : ℕ)
    (places : List ℕ) → slot < 64 → block < 256 → AreKnown low high latest found
    → AreSilentPlaces low high block places
    → AreKnown low high (set latest slot (block + 1)) (set found slot places)
known_more low high latest found slot block places within below old here = record {
  count = length-set latest slot (block + 1) ∙ old.count;
  room = length-set found slot places ∙ old.room;
  within = λ t. elim (same_or_other t slot) [
    | inl same ↦ let e = ap latest_now same ∙ latest_here in omega (arith, e, below)
    | inr other ↦ let e = latest_still t other in let le = old.within t in omega (arith, e, le)
  ];
  silent = silent_now;
}
  where
    latest_now : ℕ → ℕ
    latest_now t = slice_index_or (set latest slot (block + 1)) t 0

    found_now : ℕ → List ℕ
    found_now t = slice_index_or (set found slot places) t []

    latest_here : latest_now slot ≡ block + 1
    latest_here = get_or-set_same latest slot (block + 1) 0 (subst (λ (k : ℕ). slot < k) (sym old.count) within)

    latest_still : (t : ℕ) → t ≢ slot → latest_now t ≡ slice_index_or latest t 0
    latest_still t other = get_or-set_other latest slot t (block + 1) 0 other

    silent_here : AreSilentPlaces low high (latest_now slot - 1) (found_now slot)
    silent_here =
        let is : block ≡ latest_now slot - 1 = (let e = latest_here in omega (arith, e)) in
        subst (λ (b : ℕ). AreSilentPlaces low high b (found_now slot)) is
        (subst (AreSilentPlaces low high block)
        (sym (get_or-set_same found slot places [] (subst (λ (k : ℕ). slot < k) (sym old.room) within))) here)

    silent_now : (t : ℕ) → 0 < latest_now t → AreSilentPlaces low high (latest_now t - 1) (found_now t)
    silent_now t some = elim (same_or_other t slot) [
      | inl same ↦ subst (λ (u : ℕ). AreSilentPlaces low high (latest_now u - 1) (found_now u)) (sym same) silent_here
      | inr other ↦
          let e = latest_still t other in
          subst (λ (p : ℕ). AreSilentPlaces low high (p - 1) (found_now t)) (sym e)
          (subst (AreSilentPlaces low high (slice_index_or latest t 0 - 1))
          (sym (get_or-set_other found slot t places [] other))
          (old.silent t (subst (λ (p : ℕ). 0 < p) e some)))
    ]

-- blocks with the same number have their coalitions at the same places
pub same_places : (low high : List ℤ) (a b : ℕ) (places : List ℕ)
    → slice_index_or high b (pos 0) ≡ slice_index_or high a (pos 0) → AreSilentPlaces low high a places
    → AreSilentPlaces low high b places
same_places low high a b places e h = subst (λ (z : ℤ). AreAt low places (pos 0 -ℤ z)) (sym e) h
