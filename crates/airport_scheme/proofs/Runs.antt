-- The run of the scheme: what holds of the payments so far.
--
-- The loop finds the least term of what is left (`IsBest`). Rates never fall. A block of b players multiplies the
-- denominator by at most 2^b.
use Rattle.std.proofs.Common.{◌≡◌, ◌⊎◌, ℕ, zero, suc, ◌+◌, ◌-◌, ◌*◌, ◌^◌, ◌<◌}
use Rattle.std.proofs.Common.{◌≤◌, Bool, true, false, cond, nat_lt}
use Rattle.std.proofs.Common.{List, [], ◌++◌, length, get_or, replicate, take, drop, ℤ, pos}
use Rattle.std.proofs.Common.{◌+ℤ◌, ◌-ℤ◌, ◌*ℤ◌}
use Rattle.std.proofs.Common.{neg_ℤ, ◌≤ℤ◌, ◌<ℤ◌, unsigned_abs, refl, ap, ◌∙◌, inl, inr}
use Rattle.std.proofs.Common.{arith}
use Rattle.std.specs.List.{All}
use Rattle.std.proofs.lemmas.Int.{ints, unsigned_abs-mul}
use Rattle.std.proofs.lemmas.List.{get_or_append_left, get_or-append-add, get_or-replicate}
use Rattle.std.proofs.lemmas.List.{take-append-le, take_all, length-append, length-replicate}
use Rattle.std.proofs.lemmas.List.{length-set, get_or-set_same, get_or-set_other}
use Rattle.std.proofs.lemmas.List.Elements.{All-from_get_or, All-set}
use Rattle.std.proofs.Math.ListN.{set}
use Rattle.definitions.specs.Coalitions.{singleton, grand_coalition}
use Rattle.orders.specs.Orders.{IsOrder}
use Rattle.std.proofs.lemmas.Nat.{pow-add}
use Rattle.std.proofs.Math.Nat.{mul-le-mul, pow-suc, mul_comm}
use Rattle.std.proofs.Math.Pow.{pow_mono}
use lib.IntN.{*ℤ_comm}
use Rattle.definitions.proofs.Ring.{ring_laws, linear, linear, mul-leℤ, mul-le_cancelℤ, mul-nonnegativeℤ}
use Rattle.definitions.specs.Sums.{sum_below}
use Rattle.airport_scheme.specs.Scheme.{size_of, IsTerm, IsLeastTerm, IsGrown, pay_at, IsPayment}
use Rattle.kohlberg.specs.Pairs.{with_pair}
use Rattle.airport_scheme.specs.Levels.{with_others}
use Rattle.airport_scheme.proofs.Steps.{sum-block, sum-scaled, IsPart, IsNext}
use Rattle.airport_scheme.proofs.Steps.{IsPart-start, IsPart-next, IsScheme-whole}
use Rattle.definitions.proofs.Cases.{less_or_last_of, next_or_last, nat_lt-less, nat_lt-past}

-- ---- the least term

-- from a term that is less than another one, at most as much as all that the other is
less_passes : (r m s k t j : ℤ) → pos 1 ≤ℤ m → pos 1 ≤ℤ k → pos 0 ≤ℤ j → (r *ℤ k) ≤ℤ (s *ℤ m) → (j *ℤ s) ≤ℤ (k *ℤ t)
    → (j *ℤ r) ≤ℤ (m *ℤ t)
less_passes r m s k t j one_m one_k low h e =
    let a = simp ring_laws at (mul-leℤ j (r *ℤ k) (s *ℤ m) low h) in
    let b = simp ring_laws at (mul-leℤ m (j *ℤ s) (k *ℤ t) (omega (arith, linear)) e) in
    mul-le_cancelℤ k (j *ℤ r) (m *ℤ t) (omega (arith, linear)) (simp ring_laws (omega (arith, linear)))

-- the best of the terms from place i up to place l, and of the last place
pub record IsBest (n : ℕ) (c : ℕ → ℕ) (den paid : ℤ) (i l best : ℕ) (m r : ℤ) : Type 0 where
  pub term : IsTerm n c den paid i best m r
  pub least : (j : ℕ) → i ≤ j → j < n → (j < l) ⊎ (j + 1 ≡ n)
      → (pos (size_of n i j) *ℤ r) ≤ℤ (m *ℤ (den *ℤ pos (c j) -ℤ paid))

size-low : (n i l : ℕ) → i ≤ l → l < n → 1 ≤ size_of n i l
size-low n i l le lt =
    let step : (b : Bool) → 1 ≤ cond b (l + 2 - i) (l + 1 - i) =
    elim [ true ↦ omega arith | false ↦ omega arith ] in
    step (nat_lt (l + 1) n)

own : (n : ℕ) (c : ℕ → ℕ) (den paid : ℤ) (i l : ℕ) (m r : ℤ) → IsTerm n c den paid i l m r
    → (pos (size_of n i l) *ℤ r) ≤ℤ (m *ℤ (den *ℤ pos (c l) -ℤ paid))
own n c den paid i l m r t =
    let a = ap (λ (z : ℤ). z *ℤ r) t.size in
    let b = ap (λ (z : ℤ). m *ℤ z) t.rate in
    omega (arith, linear)

pub IsBest-start : (n : ℕ) (c : ℕ → ℕ) (den paid : ℤ) (i last : ℕ) (m r : ℤ) → last + 1 ≡ n
    → IsTerm n c den paid i last m r → IsBest n c den paid i i last m r
IsBest-start n c den paid i last m r e t = record {
  term = t;
  least = λ j low lt here. at j low (place j low here);
}
  where
    place : (j : ℕ) → i ≤ j → (j < i) ⊎ (j + 1 ≡ n) → j ≡ last
    place j low (inl h) = absurd (omega arith)
    place j low (inr h) = omega arith

    at : (j : ℕ) → i ≤ j → j ≡ last → (pos (size_of n i j) *ℤ r) ≤ℤ (m *ℤ (den *ℤ pos (c j) -ℤ paid))
    at j low same = rw same (own n c den paid i last m r t)

last_place : (j l n : ℕ) → (j < l + 1) ⊎ (j + 1 ≡ n) → ((j < l) ⊎ (j + 1 ≡ n)) ⊎ (j ≡ l)
last_place j l n (inr h) = inl (inr h)
last_place j l n (inl h) = elim (less_or_last_of j l h) [ inl a ↦ inl (inl a) | inr a ↦ inr a ]

pub IsBest-kept : (n : ℕ) (c : ℕ → ℕ) (den paid : ℤ) (i l best : ℕ) (m r k s : ℤ) → IsBest n c den paid i l best m r
    → IsTerm n c den paid i l k s → (r *ℤ k) ≤ℤ (s *ℤ m) → IsBest n c den paid i (l + 1) best m r
IsBest-kept n c den paid i l best m r k s b t le = record {
  term = b.term;
  least = λ j low lt here. elim (last_place j l n here) [
    | inl old ↦ b.least j low lt old
    | inr same ↦ rw same
        (let x = ap (λ (z : ℤ). r *ℤ z) t.size in
        let y = ap (λ (z : ℤ). z *ℤ m) t.rate in
        omega (arith, linear, *ℤ_comm (pos (size_of n i l)) r, *ℤ_comm m (den *ℤ pos (c l) -ℤ paid)))
  ];
}

pub IsBest-better : (n : ℕ) (c : ℕ → ℕ) (den paid : ℤ) (i l best : ℕ) (m r k s : ℤ)
    → IsBest n c den paid i l best m r → IsTerm n c den paid i l k s → (s *ℤ m) <ℤ (r *ℤ k)
    → IsBest n c den paid i (l + 1) l k s
IsBest-better n c den paid i l best m r k s b t lt_terms = record {
  term = t;
  least = λ j low lt here. elim (last_place j l n here) [
    | inl old ↦ less_passes s k r m (den *ℤ pos (c j) -ℤ paid) (pos (size_of n i j)) one_k one_m
        (omega (arith, ints)) (omega (arith, linear)) (b.least j low lt old)
    | inr same ↦ rw same (own n c den paid i l k s t)
  ];
}
  where
    one_k : pos 1 ≤ℤ k
    one_k = let a = size-low n i l t.from t.within in omega (arith, ints)

    one_m : pos 1 ≤ℤ m
    one_m = let a = size-low n i best b.term.from b.term.within in omega (arith, ints)

pub IsLeastTerm-whole : (n : ℕ) (c : ℕ → ℕ) (den paid : ℤ) (i l best : ℕ) (m r : ℤ) → n ≤ l + 1
    → IsBest n c den paid i l best m r → IsLeastTerm n c den paid i best m r
IsLeastTerm-whole n c den paid i l best m r e b =
    record { term = b.term; least = λ j low lt. b.least j low lt (place j lt) }
  where
    place : (j : ℕ) → j < n → (j < l) ⊎ (j + 1 ≡ n)
    place j lt = grind arith

-- ---- the run

pub record IsRun (n : ℕ) (c : ℕ → ℕ) (pay : List ℤ) (den paid : ℤ) (done : ℕ) : Type 0 where
  pub long : length pay ≡ done
  pub within : done ≤ n
  pub sum : paid ≡ sum_below done (pay_at pay)
  pub common : den ≤ℤ pos (2 ^ 63)
  pub power : done < n → den ≤ℤ pos (2 ^ done)
  pub rate : ℤ
  pub small : rate <ℤ pos (2 ^ 104)
  pub part : IsPart n c (pay_at pay) den done rate

pub IsRun-start : (n : ℕ) (c : ℕ → ℕ) → 1 ≤ n → IsRun n c [] (pos 1) (pos 0) 0
IsRun-start n c some = record {
  long = refl;
  within = omega arith;
  sum = refl;
  common = omega (arith, ints);
  power = λ lt. omega (arith, ints);
  rate = pos 0;
  small = omega (arith, ints);
  part = IsPart-start n c (pay_at []) some;
}

-- each payment is small
pub run_small : (n : ℕ) (c : ℕ → ℕ) (pay : List ℤ) (den paid : ℤ) (done : ℕ) → IsRun n c pay den paid done
    → All (λ z. unsigned_abs z < 2 ^ 104) pay
run_small n c pay den paid done r =
    All-from_get_or (λ z. unsigned_abs z < 2 ^ 104) pay (pos 0)
    (λ k lt. between (pay_at pay k) r.rate (r.part.least k (rw (← r.long) lt)) (r.part.up k (rw (← r.long) lt))
    r.small)
  where
    between : (z rate : ℤ) → pos 0 ≤ℤ z → z ≤ℤ rate → rate <ℤ pos (2 ^ 104) → unsigned_abs z < 2 ^ 104
    between z rate low high small = omega (arith, ints)

scaled_cost : (den : ℤ) (c : ℕ) → pos 1 ≤ℤ den → den ≤ℤ pos (2 ^ 63) → c < 2 ^ 40 → (den *ℤ pos c) <ℤ pos (2 ^ 104)
scaled_cost den c low high small =
    let a : unsigned_abs den ≤ 2 ^ 63 = omega (arith, ints) in
    let b : unsigned_abs (pos c) ≤ 2 ^ 40 = omega (arith, ints) in
    small_from (den *ℤ pos c) (omega (arith, unsigned_abs-mul den (pos c), mul-le-mul a b))
  where
    small_from : (z : ℤ) → unsigned_abs z ≤ 2 ^ 63 * 2 ^ 40 → z <ℤ pos (2 ^ 104)
    small_from z h = omega (arith, ints)

-- what was paid is at least 0, and small
pub paid_low : (n : ℕ) (c : ℕ → ℕ) (pay : List ℤ) (den paid : ℤ) (done : ℕ) → IsRun n c pay den paid done
    → pos 0 ≤ℤ paid
paid_low n c pay den paid done r = rw r.sum (sum_low done (omega arith))
  where
    sum_low : (k : ℕ) → k ≤ done → pos 0 ≤ℤ sum_below k (pay_at pay)
    sum_low zero le = omega (arith, ints)
    sum_low (suc k) le =
        let ih = sum_low k (omega arith) in let p = r.part.least k (omega arith) in omega (arith, linear)

pub paid_small : (n : ℕ) (c : ℕ → ℕ) (pay : List ℤ) (den paid : ℤ) (done : ℕ) → ((l : ℕ) → l < n → c l < 2 ^ 40)
    → done < n → IsRun n c pay den paid done → paid <ℤ pos (2 ^ 104)
paid_small n c pay den paid done costs lt r =
    let b = n - done - 1 in
    let e : suc (done + b) ≡ n = omega arith in
    let end = r.part.end b e in
    let low = mul-nonnegativeℤ (pos (suc b)) r.rate (omega (arith, ints)) r.part.bottom in
    let cost = scaled_cost den (c (done + b)) r.part.positive r.common (costs (done + b) (omega arith)) in
    omega (arith, linear)

-- ---- the denominator

power_more : (b : ℕ) → b + 1 ≤ 2 ^ b
power_more zero = omega arith
power_more (suc b) =
    let p : 2 ^ suc b ≡ 2 * 2 ^ b = pow-suc 2 b ∙ mul_comm (2 ^ b) 2 in
    let ih = power_more b in
    omega arith

size_power : (d i b k : ℕ) → d ≤ 2 ^ i → k ≤ 2 ^ b → d * k ≤ 2 ^ (i + b)
size_power d i b k h e = rw (pow-add 2 i b) (mul-le-mul h e)

natural : (z : ℤ) → pos 1 ≤ℤ z → (d : ℕ) × (z ≡ pos d)
natural z one = (unsigned_abs z, omega (arith, ints))

product_power : (den m : ℤ) (i b k : ℕ) → pos 1 ≤ℤ den → den ≤ℤ pos (2 ^ i) → m ≡ pos k → k ≤ 2 ^ b
    → (den *ℤ m) ≤ℤ pos (2 ^ (i + b))
product_power den m i b k one le e h =
    let d = natural den one in
    let most : pos d.0 ≤ℤ pos (2 ^ i) = rw (← d.1) le in
    let du : d.0 ≤ 2 ^ i = omega (arith, ints) in
    rw (d.1, e) (omega (arith, ints, size_power d.0 i b k du h))

-- ---- a step of the run

pub next_of : (n : ℕ) (c : ℕ → ℕ) (pay : ℕ → ℤ) (den paid : ℤ) (i b : ℕ) (m r : ℤ) → paid ≡ sum_below i pay
    → IsLeastTerm n c den paid i (i + b) m r → IsNext n c pay den i b m r
next_of n c pay den paid i b m r sum least =
    let t = least.term in
    let within = t.within in
    record {
      within = omega arith;
      rate = t.rate ∙ ap (λ (z : ℤ). den *ℤ pos (c (i + b)) -ℤ z) sum;
      size =
          elim (next_or_last (i + b) n within) [
            | inl lt ↦ inl (lt, t.size ∙ ap pos (inner_size b lt))
            | inr e ↦ inr (e, t.size ∙ ap pos (outer_size b e))
          ];
      inner = λ d lt. let h = least.least (i + d) (omega arith) (omega arith) in rw (inner_size d lt, sum) at h;
      outer = λ d e. let h = least.least (i + d) (omega arith) (omega arith) in rw (outer_size d e, sum) at h;
    }
  where
    inner_size : (d : ℕ) → suc (i + d) < n → size_of n i (i + d) ≡ d + 2
    inner_size d lt = rw (nat_lt-less (i + d + 1) n (omega arith)) (omega arith)

    outer_size : (d : ℕ) → suc (i + d) ≡ n → size_of n i (i + d) ≡ suc d
    outer_size d e = rw (nat_lt-past (i + d + 1) n (omega arith)) (omega arith)

pub IsPayment-whole : (n : ℕ) (c : ℕ → ℕ) (pay : List ℤ) (den paid : ℤ) (done : ℕ) → n ≤ done
    → IsRun n c pay den paid done → IsPayment n c pay den
IsPayment-whole n c pay den paid done le r =
    let all : done ≡ n = omega arith in
    record {
      long = r.long ∙ all;
      common = r.common;
      small = run_small n c pay den paid done r;
      scheme =
          IsScheme-whole n c (pay_at pay) den r.rate
          (rw all at r.part);
    }

run_next_at : (n : ℕ) (c : ℕ → ℕ) (pay more : List ℤ) (den paid : ℤ) (done b : ℕ) (m r : ℤ) → n ≤ 64
    → ((l : ℕ) → l < n → c l < 2 ^ 40) → done < n → IsRun n c pay den paid done
    → IsLeastTerm n c den paid done (done + b) m r → IsGrown pay m r (suc b) more
    → IsRun n c more (den *ℤ m) (paid *ℤ m +ℤ r *ℤ pos (suc b)) (done + suc b)
run_next_at n c pay more den paid done b m r most costs lt run least grown = record {
  long = omega arith;
  within = omega arith;
  sum = sum_of;
  common = common_of next.size;
  power = λ h. power_of h next.size;
  rate = r;
  small =
      (let cost = scaled_cost den (c (done + b)) run.part.positive run.common (costs (done + b) least.term.within) in
      omega (arith, linear, paid_low n c pay den paid done run));
  part = IsPart-next n c (pay_at pay) den done b run.rate m r (pay_at more) run.part next before block;
}
  where
    next : IsNext n c (pay_at pay) den done b m r
    next = next_of n c (pay_at pay) den paid done b m r run.sum least

    before : (j : ℕ) → j < done → pay_at more j ≡ m *ℤ pay_at pay j
    before j h = grown.before j (rw run.long h) ∙ *ℤ_comm (pay_at pay j) m

    block : (d : ℕ) → d < suc b → pay_at more (done + d) ≡ r
    block d h = rw run.long at (grown.block d h)

    sum_of : paid *ℤ m +ℤ r *ℤ pos (suc b) ≡ sum_below (done + suc b) (pay_at more)
    sum_of =
        let whole = sum-block done (pay_at more) r (suc b) block in
        let first = sum-scaled done (pay_at pay) (pay_at more) m before done (omega arith) in
        omega (arith, linear, ap (λ (z : ℤ). m *ℤ z) run.sum, *ℤ_comm paid m, *ℤ_comm r (pos (suc b)))

    widen : (z : ℤ) (i : ℕ) → i ≤ 63 → z ≤ℤ pos (2 ^ i) → z ≤ℤ pos (2 ^ 63)
    widen z i le h = let p : 2 ^ i ≤ 2 ^ 63 = pow_mono le in omega (arith, ints)

    common_of : ((suc (done + b) < n) × (m ≡ pos (b + 2))) ⊎ ((suc (done + b) ≡ n) × (m ≡ pos (suc b)))
        → (den *ℤ m) ≤ℤ pos (2 ^ 63)
    common_of (inl h) =
        widen (den *ℤ m) (done + suc b) (omega arith)
        (product_power den m done (suc b) (b + 2) run.part.positive (run.power lt) h.1
        (omega (arith, power_more (suc b))))
    common_of (inr h) =
        widen (den *ℤ m) (done + b) (omega arith)
        (product_power den m done b (suc b) run.part.positive (run.power lt) h.1
        (omega (arith, power_more b)))

    power_of : done + suc b < n
        → ((suc (done + b) < n) × (m ≡ pos (b + 2))) ⊎ ((suc (done + b) ≡ n) × (m ≡ pos (suc b)))
        → (den *ℤ m) ≤ℤ pos (2 ^ (done + suc b))
    power_of h (inl e) =
        product_power den m done (suc b) (b + 2) run.part.positive (run.power lt) e.1
        (omega (arith, power_more (suc b)))
    power_of h (inr e) = absurd (omega arith)

pub IsRun-next : (n : ℕ) (c : ℕ → ℕ) (pay more : List ℤ) (den paid : ℤ) (done last : ℕ) (m r : ℤ) → n ≤ 64
    → ((l : ℕ) → l < n → c l < 2 ^ 40) → done < n → IsRun n c pay den paid done
    → IsLeastTerm n c den paid done last m r → IsGrown pay m r (last + 1 - done) more
    → IsRun n c more (den *ℤ m) (paid *ℤ m +ℤ r *ℤ pos (last + 1 - done)) (last + 1)
IsRun-next n c pay more den paid done last m r most costs lt run least grown = at (last - done) (omega arith)
  where
    at : (b : ℕ) → last ≡ done + b → IsRun n c more (den *ℤ m) (paid *ℤ m +ℤ r *ℤ pos (last + 1 - done)) (last + 1)
    at b e =
        let f : last + 1 - done ≡ suc b = omega arith in
        let g : last + 1 ≡ done + suc b = omega arith in
        rw (f, g)
        (run_next_at n c pay more den paid done b m r most costs lt run
        (rw e at least)
        (rw f at grown))

-- ---- the lists that the code makes

pub grown_from : (old scaled new : List ℤ) (m r : ℤ) (count d : ℕ) → length scaled ≡ length old
    → ((k : ℕ) → k < length old → get_or scaled k (pos 0) ≡ get_or old k (pos 0) *ℤ m)
    → new ≡ scaled ++ replicate d r → d ≡ count → IsGrown old m r count new
grown_from old scaled new m r count d long each e same = record {
  long = rw e (omega (arith, length-append scaled (replicate d r), length-replicate d r));
  before = λ k lt. rw e (get_or_append_left scaled (replicate d r) (pos 0) k (rw long lt) ∙ each k lt);
  block = λ k lt. rw e
      (rw (← long)
      (get_or-append-add scaled (replicate d r) k (pos 0) ∙ get_or-replicate d k r (pos 0) (omega arith)));
}

-- the share of the player at place k is set
pub by_player_next : (n : ℕ) (cost at : ℕ → ℕ) (pay : ℕ → ℤ) (num : List ℤ) (k : ℕ) (v : ℤ) → IsOrder n cost at
    → k < n → v ≡ neg_ℤ (pay k) → unsigned_abs (pay k) < 2 ^ 104 → length num ≡ n
    → ((j : ℕ) → j < k → get_or num (at j) (pos 0) ≡ neg_ℤ (pay j)) → All (λ z. unsigned_abs z < 2 ^ 110) num
    → (length (set num (at k) v) ≡ n)
    × ((j : ℕ) → j < k + 1 → get_or (set num (at k) v) (at j) (pos 0) ≡ neg_ℤ (pay j))
    × All (λ z. unsigned_abs z < 2 ^ 110) (set num (at k) v)
by_player_next n cost at pay num k v o lt e small long each all = (
  length-set num (at k) v ∙ long,
  (λ j h. elim (less_or_last_of j k h) [
    | inl less ↦ get_or-set_other num (at k) (at j) v (pos 0) (λ same. o.apart j k less lt same) ∙ each j less
    | inr same ↦ rw same (get_or-set_same num (at k) v (pos 0) (rw long (o.below k lt)) ∙ e)
  ]),
  All-set (λ z. unsigned_abs z < 2 ^ 110) num (at k) v (rw e (negated (pay k) small)) all,
)
  where
    negated : (z : ℤ) → unsigned_abs z < 2 ^ 104 → unsigned_abs (neg_ℤ z) < 2 ^ 110
    negated z h = omega (arith, ints)

pub with_others_more : (n : ℕ) (at : ℕ → ℕ) (ps : List (ℕ × ℤ)) (i j : ℕ) → i ≤ j
    → with_others n at ps i (j + 1 - i)
    ≡ with_pair (grand_coalition n - singleton (at j)) (pos 1) (with_others n at ps i (j - i))
with_others_more n at ps i j le =
    let e : j + 1 - i ≡ suc (j - i) = omega arith in
    let f : i + (j - i) ≡ j = omega arith in
    ap (with_others n at ps i) e
    ∙ ap (λ (h : ℕ). with_pair (grand_coalition n - singleton (at h)) (pos 1) (with_others n at ps i (j - i))) f

-- a slice of a whole vector, written back
pub written_back : (s items : List ℤ) (len : ℕ) → len ≡ length s → take len (s ++ drop (length s) items) ≡ s
written_back s items len e =
    let le : len ≤ length s = omega arith in
    take-append-le len s (drop (length s) items) le ∙ take_all len s (omega arith)
