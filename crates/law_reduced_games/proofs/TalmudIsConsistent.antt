-- The Talmud rule is consistent (Aumann and Maschler 1985). Each two who stay still divide what they get together as
-- the contested garment, and only the rule's shares do; they are the rule's over any denominator.
use Rattle.std.proofs.Common.{◌≡◌, ℕ, ◌<◌, Bool, true, false, cond, List, length, ℤ, pos, ◌+ℤ◌, ◌-ℤ◌, ◌*ℤ◌, ◌<ℤ◌, ◌≤ℤ◌}
use Rattle.std.proofs.Common.{int_lt, slice_index, refl, sym, ap, ◌∙◌, inl, inr, arith}
use Rattle.std.specs.Int.{int_min}
use Rattle.std.proofs.lemmas.Int.{ints, by_lt_z}
use lib.IntN.{*ℤ_comm}
use Rattle.definitions.proofs.Ring.{linear, mul-leℤ, mul-subℤ, mul-oneℤ, one-mulℤ, mul-cancelℤ, mul-le_cancelℤ}
use Rattle.definitions.proofs.Cases.{true_or_false, int_min-left, int_min-right}
use Rattle.definitions.proofs.Members.{sum_below-same, sum_over-grand_coalition}
use Rattle.definitions.proofs.Parts.{sum_below-le}
use Rattle.definitions.proofs.Splits.{some_below-true, some_below-false}
use Rattle.definitions.specs.Sums.{sum_below}
use Rattle.definitions.specs.Coalitions.{grand_coalition, sum_over, some_below}
use Rattle.definitions.specs.Games.{Allocation, share, amount}
use Rattle.talmud.specs.Rule.{cut, is_little, part, IsTalmud}
use Rattle.talmud.proofs.Worths.{cut-low}
use Rattle.law_answers.specs.TalmudRule.{IsGarment, claimed, IsConsistent}
use Rattle.law_answers.proofs.EachTwoAreAGarment.{two_are_a_garment, nobody_more}
use Rattle.law_answers.proofs.NoOtherIsConsistent.{no_other}
use Rattle.law_answers.proofs.TalmudSharesExist.{talmud_exists}
use Rattle.law_reduced_games.specs.ReducedGames.{AreSome, staying, staying_shares}
use Rattle.law_reduced_games.specs.EstatesLeft.{IsEstateLeft, TalmudIsConsistent}
use Rattle.law_reduced_games.proofs.Staying.{staying_all, staying_length, staying_share, staying_amount}
use Rattle.theorems.proofs.Products.{products}

-- ---- shares of the rule over another denominator

min_scaled : (d a b : ℤ) → pos 0 ≤ℤ d → int_min (d *ℤ a) (d *ℤ b) ≡ d *ℤ int_min a b
min_scaled d a b low =
    by_lt_z a b
    (λ lt. (let le = mul-leℤ d a b low (omega (arith, linear, lt)) in
    int_min-left (d *ℤ a) (d *ℤ b) le ∙ ap (◌*ℤ◌ d) (sym (int_min-left a b (omega (arith, linear, lt))))))
    (λ ge. int_min-right (d *ℤ a) (d *ℤ b) (mul-leℤ d b a low ge)
    ∙ ap (◌*ℤ◌ d) (sym (int_min-right a b ge)))

module _ (left : ℕ) (claims : List ℕ) (w y : Allocation) (h : IsTalmud left claims w)
    (players : length y.shares ≡ length claims) (one : y.den ≡ pos 1)
    (all : sum_below (length claims) (share y) ≡ y.den *ℤ pos left)
    (same : (i : ℕ) → i < length claims → share w i *ℤ y.den ≡ share y i *ℤ w.den) where
  abbrev bound : ℤ
  bound = h.parts.0

  abbrev cut_of : ℕ → ℤ
  cut_of i = pos (cut left claims i)

  abbrev part_of : ℕ → ℤ
  part_of i = part left claims y i

  positive : pos 0 <ℤ w.den
  positive = omega (arith, linear, h.positive)

  low : pos 0 ≤ℤ w.den
  low = omega (arith, linear, h.positive)

  -- the part by w is that by y, times the denominator
  part_scaled : (i : ℕ) → i < length claims → part left claims w i ≡ w.den *ℤ part_of i
  part_scaled i lt = by_kind (is_little left claims)
    where
      share_scaled : share w i ≡ w.den *ℤ share y i
      share_scaled =
          sym (mul-oneℤ (share w i)) ∙ ap (◌*ℤ◌ (share w i)) (sym one) ∙ same i lt ∙ *ℤ_comm (share y i) w.den

      by_kind : (b : Bool) → cond b (share w i) (w.den *ℤ cut_of i -ℤ share w i)
          ≡ w.den *ℤ cond b (share y i) (y.den *ℤ cut_of i -ℤ share y i)
      by_kind true = share_scaled
      by_kind false =
          omega (
            arith,
            linear,
            share_scaled,
            mul-subℤ w.den (y.den *ℤ cut_of i) (share y i),
            ap (λ z. w.den *ℤ (z *ℤ cut_of i)) one,
            ap (◌*ℤ◌ w.den) (one-mulℤ (cut_of i)),
          )

  -- twice the part, times the denominator, is the lesser of the cut claim times the denominator and twice the bound
  twice : (i : ℕ) → i < length claims
      → w.den *ℤ (part_of i +ℤ part_of i) ≡ int_min (w.den *ℤ cut_of i) (bound +ℤ bound)
  twice i lt =
      (let p = part_scaled i lt in omega (products, p))
      ∙ h.parts.2 i lt

  abbrev Bounded : ℤ → Type 0
  Bounded t = (i : ℕ) → i < length claims → part_of i +ℤ part_of i ≡ int_min (y.den *ℤ cut_of i) (t +ℤ t)

  cut_whole : (i : ℕ) → y.den *ℤ cut_of i ≡ cut_of i
  cut_whole i = ap (λ z. z *ℤ cut_of i) one ∙ one-mulℤ (cut_of i)

  -- where the bound is below half of some cut claim, that part is the bound
  bound_met : (k : ℕ) → k < length claims → (bound +ℤ bound) <ℤ (w.den *ℤ cut_of k)
      → (pos 0 ≤ℤ part_of k) × Bounded (part_of k)
  bound_met k lt less =
      let t = part_of k in
      let here = twice k lt ∙ int_min-right (w.den *ℤ cut_of k) (bound +ℤ bound) (omega (arith, linear, less)) in
      let some : pos 0 ≤ℤ (t +ℤ t) =
      mul-le_cancelℤ w.den (pos 0) (t +ℤ t) positive (omega (products, here, h.parts.1)) in (
        omega (arith, linear, some),
        λ i h.
            let e =
            twice i h ∙ ap (int_min (w.den *ℤ cut_of i)) (sym here) ∙ min_scaled w.den (cut_of i) (t +ℤ t) low in
            mul-cancelℤ w.den (part_of i +ℤ part_of i) (int_min (cut_of i) (t +ℤ t)) positive e
            ∙ ap (λ z. int_min z (t +ℤ t)) (sym (cut_whole i)),
      )

  -- otherwise each part is half of the cut claim, and any great bound will do
  bound_free : ((i : ℕ) → i < length claims → (w.den *ℤ cut_of i) ≤ℤ (bound +ℤ bound)) → Bounded (pos left)
  bound_free each i lt =
      let e = twice i lt ∙ int_min-left (w.den *ℤ cut_of i) (bound +ℤ bound) (each i lt) in
      mul-cancelℤ w.den (part_of i +ℤ part_of i) (cut_of i) positive e
      ∙ sym (ap (λ z. int_min z (pos left +ℤ pos left)) (cut_whole i)
      ∙ int_min-left (cut_of i) (pos left +ℤ pos left) (small (cut_of i) (cut-low left claims i)))
    where
      small : (z : ℤ) → z ≤ℤ pos left → z ≤ℤ (pos left +ℤ pos left)
      small z le = omega (arith, ints)

  abbrev is_met : ℕ → Bool
  is_met i = int_lt (bound +ℤ bound) (w.den *ℤ cut_of i)

  some_bound : (t : ℤ) × (pos 0 ≤ℤ t) × Bounded t
  some_bound = elim (true_or_false (some_below (length claims) is_met)) [
    | inl some ↦
        let found = some_below-true (length claims) is_met some in
        let met = bound_met found.0 found.1 (omega (arith, linear, found.2)) in
        (part_of found.0, met.0, met.1)
    | inr none ↦ (
      pos left,
      omega (arith, linear),
      bound_free
          (λ i lt. (let e = some_below-false (length claims) is_met none i lt in omega (arith, linear, e))),
    )
  ]

  pub is_talmud : IsTalmud left claims y
  is_talmud = record {
    players = players;
    positive = omega (arith, linear, one);
    all = all;
    parts = some_bound;
  }

-- ---- those who stay

module _ (m : ℕ) (who : ℕ → ℕ) (estate left : ℕ) (claims left_claims : List ℕ) (x : Allocation)
    (a : AreSome (length claims) m who) (e : IsEstateLeft m who estate claims x left left_claims)
    (h : IsTalmud estate claims x) where
  abbrev y : Allocation
  y = staying_shares m who x

  -- who stays, among those who claim what is left
  stays : (k : ℕ) → k < length left_claims → k < m
  stays k lt = omega (arith, e.players)

  -- each still claims what it claimed
  claim_is : (k : ℕ) → k < m → claimed left_claims y k ≡ claimed claims x (who k)
  claim_is k lt = one-mulℤ (pos (slice_index left_claims k)) ∙ e.same k lt

  left_is : pos left ≡ sum_below m (λ k. share x (who k))
  left_is =
      let n = length claims in
      let got : amount x (grand_coalition n) ≡ x.den *ℤ pos estate =
      ap (λ c. sum_over c (share x) (grand_coalition n)) h.players ∙ sum_over-grand_coalition n (share x) ∙ h.all in
      let kept : amount y (staying m who (grand_coalition n)) ≡ sum_below m (λ k. share x (who k)) =
      ap (amount y) (staying_all n m who a) ∙ staying_amount m who x (grand_coalition m)
      ∙ sum_over-grand_coalition m (λ k. share x (who k)) in
      omega (arith, linear, e.paid, got, kept)

  all_left : sum_below (length left_claims) (share y) ≡ pos 1 *ℤ pos left
  all_left =
      ap (λ c. sum_below c (share y)) e.players
      ∙ sum_below-same m (share y) (λ k. share x (who k)) (λ k lt. staying_share m who x k lt)
      ∙ sym left_is ∙ sym (one-mulℤ (pos left))

  pub consistent_left : IsConsistent left left_claims y
  consistent_left = record {
    players = staying_length m who x ∙ sym e.players;
    positive = omega (arith, linear);
    all = all_left;
    each_two = λ k l hk hl ne.
        let sk = stays k hk in
        let sl = stays l hl in
        garment_same (claimed claims x (who k)) (claimed claims x (who l)) (share x (who k)) (share x (who l))
        (claimed left_claims y k) (claimed left_claims y l) (share y k) (share y l) (claim_is k sk) (claim_is l sl)
        (staying_share m who x k sk) (staying_share m who x l sl)
        (two_are_a_garment estate claims x h (who k) (who l) (a.players k sk) (a.players l sl)
        (λ same. ne (a.once k l sk sl same)));
  }
    where
      garment_same : (c d f g p q u v : ℤ) → p ≡ c → q ≡ d → u ≡ f → v ≡ g → IsGarment c d f g → IsGarment p q u v
      garment_same c d f g p q u v e1 e2 e3 e4 is = rw (e1, e2, e3, e4) is

  -- the claims cover what is left
  covered : pos left ≤ℤ sum_below (length left_claims) (λ k. pos (slice_index left_claims k))
  covered =
      let le = sum_below-le m (λ k. share x (who k)) (λ k. pos (slice_index left_claims k))
      (λ k lt. (omega (arith, linear, (nobody_more estate claims x h (who k) (a.players k lt)).1, e.same k lt))) in
      omega (products, left_is, le, ap (λ c. sum_below c (λ k. pos (slice_index left_claims k))) e.players)

  pub talmud_left : IsTalmud left left_claims y
  talmud_left =
      let w = talmud_exists left left_claims covered in
      is_talmud left left_claims w.0 y w.1 (staying_length m who x ∙ sym e.players) refl all_left
      (no_other left left_claims w.0 y w.1 consistent_left)

pub talmud_is_consistent : TalmudIsConsistent
talmud_is_consistent m who estate left claims left_claims x a e h =
    talmud_left m who estate left claims left_claims x a e h
