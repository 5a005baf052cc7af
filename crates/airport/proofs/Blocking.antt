-- A scan over the players from the least cost keeps the players who pay, and the chosen coalition among those of
-- the players seen.
--
-- A coalition of the players seen now lacks the new player, or is one of before with it (`IsWithin-cases`). With the
-- new player, its cost is that player's (`greatest_cost-last`). If the player doesn't pay, leaving it out costs no more
-- and pays no less. If it pays, it joins the payers, who then are the only new candidate: they pay most, and the cost
-- is the same for all coalitions with that player.
--
-- A payment is minus a share. Among the coalitions of seen players the payers pay most together, and of those that
-- pay as much they are the least.
use Rattle.std.proofs.Common.{◌≡◌, ◌⊎◌, ℕ, ◌+◌, ◌^◌, ◌<◌, ◌≤◌, false, ℤ, pos}
use Rattle.std.proofs.Common.{◌+ℤ◌, ◌-ℤ◌, ◌<ℤ◌, ◌≤ℤ◌}
use Rattle.std.proofs.Common.{Option, Some, None, MatchOption, refl, ap, ◌∙◌, inl, inr, arith}
use Rattle.std.proofs.Math.Pow.{pow_pos}
use Rattle.std.proofs.lemmas.Int.{by_lt_z}
use Rattle.definitions.proofs.Ring.{linear}
use Rattle.definitions.specs.Coalitions.{has_player}
use Rattle.definitions.specs.Games.{Game, Allocation, excess, Blocks, IsChosenBlocker}
use Rattle.airport.proofs.Within.{IsWithin, IsWithin-cases, IsWithin-with, IsWithin-without, IsWithin-nobody}

-- payers pay most, and best is the chosen one, with the excess most, among the coalitions of the players seen
pub record IsScanned (n seen : ℕ) (pay e : ℕ → ℤ) (payers : ℕ) (best : Option ℕ) (most : ℤ) : Type 0 where
  pub within : IsWithin n seen payers
  pub top : (s : ℕ) → IsWithin n seen s → pay s ≤ℤ pay payers
  pub least : (s : ℕ) → IsWithin n seen s → pay s ≡ pay payers → payers ≤ s
  pub all : (s : ℕ) → IsWithin n seen s → e s ≤ℤ most
  pub found : MatchOption best (most ≡ pos 0)
      (λ b. (b < 2 ^ n) × (b ≤ payers) × (e b ≡ most) × (pos 0 <ℤ most)
      × ((s : ℕ) → IsWithin n seen s → e s ≡ most → b ≤ s))

-- player p pays w, and charges a coalition that it joins c, at least as much as what each had to pay before
pub record IsNextPlayer (n seen p : ℕ) (pay e : ℕ → ℤ) (w c : ℤ) : Type 0 where
  pub player : p < n
  pub new : has_player seen p ≡ false
  pub pays : (t : ℕ) → IsWithin n seen t → pay (t + 2 ^ p) ≡ pay t +ℤ w
  pub exceeds : (t : ℕ) → IsWithin n seen t → e (t + 2 ^ p) ≡ (pay t +ℤ w) -ℤ c
  pub cheaper : (t : ℕ) → IsWithin n seen t → (pay t -ℤ c) ≤ℤ e t

pub IsScanned-start : (n : ℕ) (pay e : ℕ → ℤ) → e 0 ≡ pos 0 → IsScanned n 0 pay e 0 None (pos 0)
IsScanned-start n pay e empty = record {
  within = (pow_pos n, λ i h. h);
  top = λ s h. omega (arith, linear, ap pay (IsWithin-nobody n s h));
  least = λ s h same. omega arith;
  all = λ s h. omega (arith, linear, ap e (IsWithin-nobody n s h), empty);
  found = refl;
}

-- ---- a player who doesn't pay

module _ (n seen p : ℕ) (pay e : ℕ → ℤ) (w c : ℤ) (next : IsNextPlayer n seen p pay e w c) where
  cases : (s : ℕ) → IsWithin n (seen + 2 ^ p) s
      → IsWithin n seen s ⊎ ((t : ℕ) × IsWithin n seen t × (s ≡ t + 2 ^ p))
  cases s h = IsWithin-cases n seen p s next.player next.new h

  pays-more : (s t : ℕ) → IsWithin n seen t → s ≡ t + 2 ^ p → pay s ≡ pay t +ℤ w
  pays-more s t h is = ap pay is ∙ next.pays t h

  exceeds-more : (s t : ℕ) → IsWithin n seen t → s ≡ t + 2 ^ p → e s ≡ (pay t +ℤ w) -ℤ c
  exceeds-more s t h is = ap e is ∙ next.exceeds t h

  ties_kept : (b : ℕ) (most : ℤ) → w ≤ℤ pos 0 → ((s : ℕ) → IsWithin n seen s → e s ≤ℤ most)
      → ((s : ℕ) → IsWithin n seen s → e s ≡ most → b ≤ s) → (s : ℕ) → IsWithin n (seen + 2 ^ p) s → e s ≡ most
      → b ≤ s
  ties_kept b most free all ties s h same = elim (cases s h) [
    | inl old ↦ ties s old same
    | inr (t, within, is) ↦
        let equal : e t ≡ most =
        omega (arith, linear, exceeds-more s t within is, next.cheaper t within, all t within) in
        let least = ties t within equal in
        omega (arith, least)
  ]

  found_kept : (payers : ℕ) (best : Option ℕ) (most : ℤ) → w ≤ℤ pos 0 → IsScanned n seen pay e payers best most
      → MatchOption best (most ≡ pos 0)
      (λ b. (b < 2 ^ n) × (b ≤ payers) × (e b ≡ most) × (pos 0 <ℤ most)
      × ((s : ℕ) → IsWithin n (seen + 2 ^ p) s → e s ≡ most → b ≤ s))
  found_kept payers None most free h = h.found
  found_kept payers (Some b) most free h =
      (h.found.0, h.found.1, h.found.2, h.found.3, ties_kept b most free h.all h.found.4)

  pub IsScanned-without : (payers : ℕ) (best : Option ℕ) (most : ℤ) → IsScanned n seen pay e payers best most
      → w ≤ℤ pos 0 → IsScanned n (seen + 2 ^ p) pay e payers best most
  IsScanned-without payers best most h free = record {
    within = IsWithin-without n seen p payers next.player next.new h.within;
    top = λ s k. elim (cases s k) [
      | inl old ↦ h.top s old
      | inr (t, within, is) ↦ omega (arith, linear, pays-more s t within is, h.top t within)
    ];
    least = λ s k same. elim (cases s k) [
      | inl old ↦ h.least s old same
      | inr (t, within, is) ↦
          let equal : pay t ≡ pay payers = omega (arith, linear, pays-more s t within is, h.top t within) in
          let low = h.least t within equal in
          omega (arith, low)
    ];
    all = λ s k. elim (cases s k) [
      | inl old ↦ h.all s old
      | inr (t, within, is) ↦ omega
          (arith, linear, exceeds-more s t within is, next.cheaper t within, h.all t within)
    ];
    found = found_kept payers best most free h;
  }

  -- ---- a player who pays joins the payers

  with_top : (payers : ℕ) (best : Option ℕ) (most : ℤ) → IsScanned n seen pay e payers best most → pos 0 <ℤ w
      → (s : ℕ) → IsWithin n (seen + 2 ^ p) s → pay s ≤ℤ pay (payers + 2 ^ p)
  with_top payers best most h gt s k = elim (cases s k) [
    | inl old ↦ omega (arith, linear, h.top s old, next.pays payers h.within)
    | inr (t, within, is) ↦ omega
        (arith, linear, pays-more s t within is, h.top t within, next.pays payers h.within)
  ]

  with_least : (payers : ℕ) (best : Option ℕ) (most : ℤ) → IsScanned n seen pay e payers best most → pos 0 <ℤ w
      → (s : ℕ) → IsWithin n (seen + 2 ^ p) s → pay s ≡ pay (payers + 2 ^ p) → payers + 2 ^ p ≤ s
  with_least payers best most h gt s k same = elim (cases s k) [
    | inl old ↦ absurd (omega (arith, linear, h.top s old, next.pays payers h.within))
    | inr (t, within, is) ↦
        let equal : pay t ≡ pay payers =
        omega (arith, linear, pays-more s t within is, next.pays payers h.within) in
        let low = h.least t within equal in
        omega (arith, low)
  ]

  -- among the new coalitions the payers have the greatest excess, and are the least with it
  new_low : (payers : ℕ) (best : Option ℕ) (most : ℤ) → IsScanned n seen pay e payers best most → (s t : ℕ)
      → IsWithin n seen t → s ≡ t + 2 ^ p → e s ≤ℤ e (payers + 2 ^ p)
  new_low payers best most h s t within is =
      omega (arith, linear, exceeds-more s t within is, h.top t within, next.exceeds payers h.within)

  new_least : (payers : ℕ) (best : Option ℕ) (most : ℤ) → IsScanned n seen pay e payers best most → (s t : ℕ)
      → IsWithin n seen t → s ≡ t + 2 ^ p → e s ≡ e (payers + 2 ^ p) → payers + 2 ^ p ≤ s
  new_least payers best most h s t within is same =
      let equal : pay t ≡ pay payers =
      omega (arith, linear, exceeds-more s t within is, next.exceeds payers h.within) in
      let low = h.least t within equal in
      omega (arith, low)

  not_negative : (payers : ℕ) (best : Option ℕ) (most : ℤ) → IsScanned n seen pay e payers best most → pos 0 ≤ℤ most
  not_negative payers None most h = omega (arith, linear, h.found)
  not_negative payers (Some b) most h = omega (arith, linear, h.found.3)

  taken : (payers : ℕ) (best : Option ℕ) (most : ℤ) → IsScanned n seen pay e payers best most → pos 0 <ℤ w
      → most <ℤ e (payers + 2 ^ p)
      → IsScanned n (seen + 2 ^ p) pay e (payers + 2 ^ p) (Some (payers + 2 ^ p)) (e (payers + 2 ^ p))
  taken payers best most h gt better =
      let joined = IsWithin-with n seen p payers next.player next.new h.within in
      let positive = not_negative payers best most h in
      record {
        within = joined;
        top = with_top payers best most h gt;
        least = with_least payers best most h gt;
        all = λ s k. elim (cases s k) [
          | inl old ↦ omega (arith, linear, h.all s old)
          | inr (t, within, is) ↦ new_low payers best most h s t within is
        ];
        found = (
          joined.0,
          omega arith,
          refl,
          omega (arith, linear, positive),
          λ s k same. elim (cases s k) [
            | inl old ↦ absurd (omega (arith, linear, h.all s old))
            | inr (t, within, is) ↦ new_least payers best most h s t within is same
          ],
        );
      }

  passed_found : (payers : ℕ) (best : Option ℕ) (most : ℤ) → IsScanned n seen pay e payers best most
      → e (payers + 2 ^ p) ≤ℤ most
      → MatchOption best (most ≡ pos 0)
      (λ b. (b < 2 ^ n) × (b ≤ payers + 2 ^ p) × (e b ≡ most) × (pos 0 <ℤ most)
      × ((s : ℕ) → IsWithin n (seen + 2 ^ p) s → e s ≡ most → b ≤ s))
  passed_found payers None most h low = h.found
  passed_found payers (Some b) most h low = (
    h.found.0,
    omega (arith, h.found.1),
    h.found.2,
    h.found.3,
    λ s k same. elim (cases s k) [
      | inl old ↦ h.found.4 s old same
      | inr (t, within, is) ↦
          let equal : e s ≡ e (payers + 2 ^ p) =
          omega (arith, linear, new_low payers (Some b) most h s t within is) in
          let least = new_least payers (Some b) most h s t within is equal in
          omega (arith, least, h.found.1)
    ],
  )

  passed : (payers : ℕ) (best : Option ℕ) (most : ℤ) → IsScanned n seen pay e payers best most → pos 0 <ℤ w
      → e (payers + 2 ^ p) ≤ℤ most → IsScanned n (seen + 2 ^ p) pay e (payers + 2 ^ p) best most
  passed payers best most h gt low = record {
    within = IsWithin-with n seen p payers next.player next.new h.within;
    top = with_top payers best most h gt;
    least = with_least payers best most h gt;
    all = λ s k. elim (cases s k) [
      | inl old ↦ h.all s old
      | inr (t, within, is) ↦ omega (arith, linear, new_low payers best most h s t within is)
    ];
    found = passed_found payers best most h low;
  }

  -- the payers with the new one, and the better of them and the best so far
  pub IsScanned-with : (payers joined : ℕ) (best better : Option ℕ) (most here more : ℤ)
      → IsScanned n seen pay e payers best most → pos 0 <ℤ w → joined ≡ payers + 2 ^ p → here ≡ e joined
      → (most <ℤ here → (better ≡ Some joined) × (more ≡ here)) → (here ≤ℤ most → (better ≡ best) × (more ≡ most))
      → IsScanned n (seen + 2 ^ p) pay e joined better more
  IsScanned-with payers joined best better most here more h gt place same greater not_greater =
      let value : here ≡ e (payers + 2 ^ p) = same ∙ ap e place in
      by_lt_z most here
      (λ lt.
      let step = greater lt in
      rw (step.0, step.1, value, place) (taken payers best most h gt (omega (arith, linear))))
      (λ le.
      let step = not_greater le in
      rw (step.0, step.1, place) (passed payers best most h gt (omega (arith, linear))))

-- at the end of the scan
pub blocker-from_scan : (g : Game) (x : Allocation) (seen payers : ℕ) (pay : ℕ → ℤ) (best : Option ℕ) (most : ℤ)
    → IsScanned g.players seen pay (excess g x) payers best most
    → ((s : ℕ) → s < 2 ^ g.players → IsWithin g.players seen s)
    → MatchOption best ((s : ℕ) → s < 2 ^ g.players → ¬ Blocks g x s) (IsChosenBlocker g x)
blocker-from_scan g x seen payers pay None most h every =
    λ s k blocks. omega (arith, linear, h.all s (every s k), h.found)
blocker-from_scan g x seen payers pay (Some b) most h every = record {
  within = h.found.0;
  blocks = omega (arith, linear, h.found.2, h.found.3);
  greatest = λ t k. omega (arith, linear, h.all t (every t k), h.found.2);
  least = λ t k. less t k (h.all t (every t (omega (arith, h.found.0))))
      (h.found.4 t (every t (omega (arith, h.found.0))));
}
  where
    less : (t : ℕ) → t < b → excess g x t ≤ℤ most → (excess g x t ≡ most → b ≤ t) → excess g x t <ℤ excess g x b
    less t k le tie =
        by_lt_z (excess g x t) most (λ lt. omega (arith, linear, lt, h.found.2))
        (λ ge.
        let equal : excess g x t ≡ most = omega (arith, linear) in
        let low = tie equal in absurd (omega (arith, low)))
