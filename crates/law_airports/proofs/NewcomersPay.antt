-- If others join, nobody pays more.
--
-- Suppose the player at place k is the first to pay more than before. In front of it, from a place on where payments
-- pass what the player before it paid, the larger game has paid no less than the smaller. So up to the last place that
-- paid as k did, more would be paid than the cost there allows.
use Rattle.std.proofs.Common.{◌≡◌, ◌⊎◌, ℕ, zero, suc, ◌+◌, ◌-◌, ◌<◌, ◌≤◌}
use Rattle.std.proofs.Common.{ℤ, pos, ◌+ℤ◌, ◌*ℤ◌, ◌<ℤ◌, ◌≤ℤ◌, ap, inl, inr, arith, add-zero}
use Rattle.std.proofs.lemmas.Int.{by_lt_z}
use Rattle.definitions.proofs.Cases.{next_or_last, less_or_last}
use Rattle.definitions.proofs.Ring.{linear, mul-leℤ, mul-ltℤ, suc-mulℤ}
use Rattle.definitions.specs.Sums.{sum_below}
use Rattle.airport_scheme.specs.Scheme.{IsScheme}
use Rattle.theorems.proofs.Products.{products}

-- ---- sums from a place on

at_least : (a : ℕ → ℤ) (b m : ℕ) (v : ℤ) → ((r : ℕ) → b ≤ r → r < b + m → v ≤ℤ a r)
    → (sum_below b a +ℤ pos m *ℤ v) ≤ℤ sum_below (b + m) a
at_least a b zero v h = rw (add-zero b) (omega (products))
at_least a b (suc m) v h =
    let ih = at_least a b m v (λ r ge lt. h r ge (omega (arith, lt))) in
    let last = h (b + m) (omega arith) (omega arith) in
    let next : b + suc m ≡ suc (b + m) = omega arith in
    omega (arith, linear, ih, last, suc-mulℤ m v, ap (λ (k : ℕ). sum_below k a) next)

at_most : (a : ℕ → ℤ) (b m : ℕ) (v : ℤ) → ((r : ℕ) → b ≤ r → r < b + m → a r ≤ℤ v)
    → sum_below (b + m) a ≤ℤ (sum_below b a +ℤ pos m *ℤ v)
at_most a b zero v h = rw (add-zero b) (omega (products))
at_most a b (suc m) v h =
    let ih = at_most a b m v (λ r ge lt. h r ge (omega (arith, lt))) in
    let last = h (b + m) (omega arith) (omega arith) in
    let next : b + suc m ≡ suc (b + m) = omega arith in
    omega (arith, linear, ih, last, suc-mulℤ m v, ap (λ (k : ℕ). sum_below k a) next)

-- where numbers pass v
passes : (a : ℕ → ℤ) (v : ℤ) (b m : ℕ) → a b ≤ℤ v → v <ℤ a (b + m)
    → (q : ℕ) × (b ≤ q) × (q < b + m) × (a q ≤ℤ v) × (v <ℤ a (suc q))
passes a v b zero le lt =
    let here : b + 0 ≡ b = omega arith in
    absurd (omega (arith, linear, le, lt, ap a here))
passes a v b (suc m) le lt =
    by_lt_z v (a (b + m))
    (λ more. let ih = passes a v b m le more in (ih.0, ih.1, omega (arith, ih.2), ih.3, ih.4))
    (λ less. let next : b + suc m ≡ suc (b + m) = omega arith in
    (b + m, omega arith, omega arith, less, omega (arith, linear, lt, ap a next)))

-- ---- the payments of fewer and of more, over one denominator

module _ (n : ℕ) (c : ℕ → ℕ) (pay : ℕ → ℤ) (d : ℤ) (h : IsScheme n c pay d) (m : ℕ) (b : ℕ → ℕ) (more : ℕ → ℤ)
    (k : IsScheme m b more d) (rising : (i j : ℕ) → i < j → j < m → b i ≤ b j) (to : ℕ → ℕ)
    (inside : (j : ℕ) → j < n → to j < m) (climbs : (i j : ℕ) → i < j → j < n → to i < to j)
    (costs : (j : ℕ) → j < n → b (to j) ≡ c j) where
  not_less : (i j : ℕ) → i ≤ j → j < m → more i ≤ℤ more j
  not_less i j le lt = elim (less_or_last i j (omega (arith, le))) [
    | inl less ↦ k.rises i j less lt
    | inr same ↦ omega (arith, linear, ap more same)
  ]

  not_dearer : (i j : ℕ) → i ≤ j → j < m → b i ≤ b j
  not_dearer i j le lt = elim (less_or_last i j (omega (arith, le))) [
    | inl less ↦ rising i j less lt
    | inr same ↦ omega (arith, ap b same)
  ]

  -- the last place that pays no more than place j
  ends : (j f l : ℕ) → suc (l + f) ≡ n → pay l ≤ℤ pay j
      → (t : ℕ) × (l ≤ t) × (t < n) × (pay t ≤ℤ pay j) × ((suc t ≡ n) ⊎ ((suc t < n) × (pay j <ℤ pay (suc t))))
  ends j zero l e le = (l, omega arith, omega (arith, e), le, inl (omega (arith, e)))
  ends j (suc f) l e le =
      by_lt_z (pay j) (pay (suc l))
      (λ up. (l, omega arith, omega (arith, e), le, inr (omega (arith, e), up)))
      (λ same. let ih = ends j f (suc l) (omega (arith, e)) same in (ih.0, omega (arith, ih.1), ih.2, ih.3, ih.4))

  spread : (j f : ℕ) → j + f < n → to j + f ≤ to (j + f)
  spread j zero lt =
      let here : j + 0 ≡ j = omega arith in
      omega (arith, ap to here)
  spread j (suc f) lt =
      let next : j + suc f ≡ suc (j + f) = omega arith in
      let step = climbs (j + f) (suc (j + f)) (omega arith) (omega (arith, lt)) in
      omega (arith, spread j f (omega (arith, lt)), step, ap to next)

  -- if no less is paid up to a place in front, place j can't pay more
  too_much : (j a : ℕ) → j < n → a ≤ to j → sum_below j pay ≤ℤ sum_below a more → pay j <ℤ more (to j) → ⊥
  too_much j a lt before paid up =
      let end = ends j (n - suc j) j (omega (arith, lt)) (omega (arith, linear)) in
      let t = end.0 in
      let f = t - j in
      let there : j + f ≡ t = omega (arith, end.1) in
      let far = spread j f (omega (arith, there, end.2)) in
      let within = inside t end.2 in
      let from = to t - f in
      let low : to j ≤ from = omega (arith, far, ap to there) in
      let all : from + suc f ≡ suc (to t) = omega (arith, far, ap to there) in
      let gap : a + (from - a) ≡ from = omega (arith, before, low) in
      let front = at_least more a (from - a) (pos 0) (λ r ge less. k.least r (omega (arith, less, gap, all, within))) in
      let rest = at_least more from (suc f) (more (to j))
      (λ r ge less. not_less (to j) r (omega (arith, low, ge)) (omega (arith, less, all, within))) in
      let own = at_most pay j (suc f) (pay j) (λ r ge less. lower r t end.2 (omega (arith, less, there)) end.3) in
      let more_each = mul-ltℤ (pos (suc f)) (pay j) (more (to j)) (omega (arith, linear)) up in
      let last = not_less (to j) (to t) (omega (arith, far, ap to there)) within in
      let some = h.least j lt in
      let whole : j + suc f ≡ suc t = omega (arith, there) in
      let sums : sum_below (suc t) pay <ℤ sum_below (suc (to t)) more =
      omega (
        products,
        paid,
        front,
        rest,
        own,
        more_each,
        ap (λ (s : ℕ). sum_below s more) gap,
        ap (λ (s : ℕ). sum_below s more) all,
        ap (λ (s : ℕ). sum_below s pay) whole,
      ) in
      let cost = ap (λ (s : ℕ). d *ℤ pos s) (costs t end.2) in
      elim end.4 [
        | inl over ↦
            let own_all = h.all t over in
            let ends_own = ap (λ (s : ℕ). sum_below s pay) over in
            elim (next_or_last (to t) m within) [
              | inl next ↦
                  let room = k.under (to t) next in
                  omega (arith, linear, sums, cost, own_all, ends_own, room, last, up, some)
              | inr done ↦
                  let other = k.all (to t) done in
                  omega (arith, linear, sums, cost, own_all, ends_own, other, ap (λ (s : ℕ). sum_below s more) done)
            ]
        | inr (next, rises) ↦
            let tight = h.tight t next (omega (arith, linear, end.3, rises)) in
            let after = climbs t (suc t) (omega arith) next in
            let room = k.under (to t) (omega (arith, after, inside (suc t) next)) in
            omega (arith, linear, sums, cost, tight, room, last, up, end.3)
      ]
    where
      lower : (r t : ℕ) → t < n → r < suc t → pay t ≤ℤ pay j → pay r ≤ℤ pay j
      lower r t within le top = elim (less_or_last r t le) [
        | inl less ↦ let up = h.rises r t less within in omega (arith, linear, up, top)
        | inr same ↦ omega (arith, linear, ap pay same, top)
      ]

  pub no_more : (j : ℕ) → j < n → more (to j) ≤ℤ pay j
  no_more zero lt =
      by_lt_z (pay 0) (more (to 0)) (λ up. absurd (too_much 0 0 lt (omega arith) (omega (arith, linear)) up)) (λ le. le)
  no_more (suc j) lt =
      by_lt_z (pay (suc j)) (more (to (suc j)))
      (λ up.
      let rises = h.rises j (suc j) (omega arith) lt in
      let step = climbs j (suc j) (omega arith) lt in
      let there : to j + (to (suc j) - to j) ≡ to (suc j) = omega (arith, step) in
      let q = passes more (pay j) (to j) (to (suc j) - to j) (no_more j (omega (arith, lt)))
      (omega (arith, linear, rises, up, ap more there)) in
      let within = inside (suc j) lt in
      let tight = k.tight q.0 (omega (arith, q.2, there, within)) (omega (arith, linear, q.3, q.4)) in
      let dear = not_dearer (to j) q.0 q.1 (omega (arith, q.2, there, within)) in
      let cost = costs j (omega (arith, lt)) in
      let scaled = mul-leℤ d (pos (c j)) (pos (b q.0)) (omega (arith, linear, h.positive))
      (omega (arith, linear, dear, cost)) in
      let room = h.under j lt in
      let paid : sum_below (suc j) pay ≤ℤ sum_below (suc q.0) more =
      omega (arith, linear, tight, scaled, room, q.3) in
      absurd (too_much (suc j) (suc q.0) lt (omega (arith, q.2, there)) paid up))
      (λ le. le)
