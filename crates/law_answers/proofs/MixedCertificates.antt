-- Each condition of a certificate is an equation or a comparison, linear in worths, shares and excesses, or doesn't
-- look at them. So what holds of two games, with weights of at least 0, holds of their sum. Which coalitions are
-- outside depends on the lists alone.
use Rattle.std.proofs.Common.{◌≡◌, ℕ, suc, ◌<◌, List, [], ◌∷◌, ◌++◌, length, ℤ, pos, ◌+ℤ◌, ◌*ℤ◌}
use Rattle.std.proofs.Common.{◌≤ℤ◌, IsTrue, refl, sym, ap, ap₂, subst, ◌∙◌, arith}
use Rattle.std.specs.List.{AllByRecursion}
use Rattle.std.proofs.lemmas.List.FromFn.{get_or-map-range_with_len, length-map-range_with_len}
use Rattle.definitions.proofs.Alls.{all_weaken, all_both, all_with}
use Rattle.definitions.proofs.Families.{allocation_of}
use Rattle.definitions.proofs.Measured.{weight, measured-weight}
use Rattle.definitions.proofs.Ring.{linear, ring_laws, add-mulℤ, mul-leℤ, mul-nonnegativeℤ}
use Rattle.definitions.proofs.Ring.{mul_exchangeℤ}
use Rattle.definitions.proofs.SumsOver.{sum_over-same, sum_over-add, sum_over-times, amount-at}
use Rattle.definitions.specs.Coalitions.{singleton, grand_coalition}
use Rattle.definitions.specs.Games.{Game, Allocation, share, amount, excess, measured_excess, IsAllocation, InFamily}
use Rattle.definitions.specs.Measures.{measured_den}
use Rattle.definitions.specs.Certificates.{Level, LevelForm, LevelsForm, HasForm, is_listed, IsTight, HasExcess}
use Rattle.definitions.specs.Certificates.{HasAtMostExcess, BoundWeighs, LevelHolds, LevelsHold, Certifies}
use Rattle.definitions.specs.declared.Family.{Family}
use Rattle.definitions.specs.declared.Family.TheVariants.{Imputations, Preimputations}
use Rattle.definitions.specs.declared.Measure.{Measure}
use Rattle.definitions.specs.declared.Measure.TheVariants.{Plain, PerHead}
use Rattle.definitions.specs.declared.Mode.{Mode}
use Rattle.fractions.proofs.Ratios.{product_positive}
use Rattle.theorems.proofs.Products.{products}
use Rattle.theorems.proofs.ScaledLevels.{Alike, Alike-turned, joined, listed_alike, outside_alike, fixed_alike}
use Rattle.theorems.proofs.ScaledLevels.{weighs_alike}
use Rattle.theorems.proofs.Soundness.{IsNucleolus-from_certificate}
use Rattle.law_answers.specs.Mixtures.{mixed_game, mixed_shares, mixed_level, mixed_levels, IsLikeLevel, AreLikeLevels}
use Rattle.law_answers.specs.Mixtures.{CertificatesCarry, AllBetweenAreNucleoli}

above : (z : ℤ) → pos 1 ≤ℤ z → pos 0 ≤ℤ z
above z h = omega (arith, linear, h)

-- ---- products

-- what a coalition is worth between, over both denominators
worths : (a b p q v w : ℤ) → (p *ℤ q) *ℤ (a *ℤ v +ℤ b *ℤ w) ≡ (a *ℤ q) *ℤ (p *ℤ v) +ℤ (b *ℤ p) *ℤ (q *ℤ w)
worths a b p q v w = simp ring_laws

left_sides : (a b p q d e m k : ℤ)
    → ((a *ℤ q) *ℤ m +ℤ (b *ℤ p) *ℤ k) *ℤ (d *ℤ e)
    ≡ ((a *ℤ q) *ℤ e) *ℤ (m *ℤ d) +ℤ ((b *ℤ p) *ℤ d) *ℤ (k *ℤ e)
left_sides a b p q d e m k =
    add-mulℤ ((a *ℤ q) *ℤ m) ((b *ℤ p) *ℤ k) (d *ℤ e)
    ∙ ap₂ ◌+ℤ◌ (first ((a *ℤ q)) m d e) (mul_exchangeℤ (b *ℤ p) k d e)
  where
    first : (c m d e : ℤ) → (c *ℤ m) *ℤ (d *ℤ e) ≡ (c *ℤ e) *ℤ (m *ℤ d)
    first c m d e = simp ring_laws

right_sides : (measure : Measure) (a b p q d e m k : ℤ)
    → ((a *ℤ e) *ℤ m +ℤ (b *ℤ d) *ℤ k) *ℤ measured_den measure (p *ℤ q)
    ≡ ((a *ℤ q) *ℤ e) *ℤ (m *ℤ measured_den measure p) +ℤ ((b *ℤ p) *ℤ d) *ℤ (k *ℤ measured_den measure q)
right_sides Plain a b p q d e m k =
    add-mulℤ ((a *ℤ e) *ℤ m) ((b *ℤ d) *ℤ k) (p *ℤ q) ∙ ap₂ ◌+ℤ◌ (first a e m p q) (second b d k p q)
  where
    first : (a e m p q : ℤ) → ((a *ℤ e) *ℤ m) *ℤ (p *ℤ q) ≡ ((a *ℤ q) *ℤ e) *ℤ (m *ℤ p)
    first a e m p q = simp ring_laws

    second : (b d k p q : ℤ) → ((b *ℤ d) *ℤ k) *ℤ (p *ℤ q) ≡ ((b *ℤ p) *ℤ d) *ℤ (k *ℤ q)
    second b d k p q = simp ring_laws
right_sides PerHead a b p q d e m k =
    add-mulℤ ((a *ℤ e) *ℤ m) ((b *ℤ d) *ℤ k) (pos 720720 *ℤ (p *ℤ q))
    ∙ ap₂ ◌+ℤ◌ (first (pos 720720) a e m p q) (second (pos 720720) b d k p q)
  where
    first : (c a e m p q : ℤ) → ((a *ℤ e) *ℤ m) *ℤ (c *ℤ (p *ℤ q)) ≡ ((a *ℤ q) *ℤ e) *ℤ (m *ℤ (c *ℤ p))
    first c a e m p q = simp ring_laws

    second : (c b d k p q : ℤ) → ((b *ℤ d) *ℤ k) *ℤ (c *ℤ (p *ℤ q)) ≡ ((b *ℤ p) *ℤ d) *ℤ (k *ℤ (c *ℤ q))
    second c b d k p q = simp ring_laws

module _ (n : ℕ) (v w : ℕ → ℤ) (x y : Allocation) (a b : ℤ) (a_low : pos 0 ≤ℤ a) (b_low : pos 0 ≤ℤ b)
    (hx : (length x.shares ≡ n) × (pos 1 ≤ℤ x.den)) (hy : (length y.shares ≡ n) × (pos 1 ≤ℤ y.den)) where
  abbrev g : Game
  g = record { players = n; worth = v }

  abbrev h : Game
  h = record { players = n; worth = w }

  abbrev between : Game
  between = mixed_game a b g h

  abbrev z : Allocation
  z = mixed_shares a b x y

  -- ---- shares, amounts, excesses

  abbrev given : ℕ → ℤ
  given i = (a *ℤ y.den) *ℤ share x i +ℤ (b *ℤ x.den) *ℤ share y i

  first_low : pos 0 ≤ℤ (a *ℤ y.den)
  first_low = mul-nonnegativeℤ a y.den a_low (above y.den hy.1)

  second_low : pos 0 ≤ℤ (b *ℤ x.den)
  second_low = mul-nonnegativeℤ b x.den b_low (above x.den hx.1)

  allocation : IsAllocation between z
  allocation = (length-map-range_with_len given 0 (length x.shares) ∙ hx.0, product_positive x.den y.den hx.1 hy.1)

  share-z : (i : ℕ) → i < n → share z i ≡ given i
  share-z i lt =
      let few = hx.0 in
      get_or-map-range_with_len given 0 (length x.shares) i i (pos 0) (omega (arith, few, lt)) (omega arith)

  amount-z : (s : ℕ) → amount z s ≡ (a *ℤ y.den) *ℤ amount x s +ℤ (b *ℤ x.den) *ℤ amount y s
  amount-z s =
      amount-at between z s allocation
      ∙ sum_over-same n (share z) given s share-z
      ∙ sum_over-add n (λ i. (a *ℤ y.den) *ℤ share x i) (λ i. (b *ℤ x.den) *ℤ share y i) s
      ∙ ap₂ ◌+ℤ◌
      (sum_over-times n (share x) (a *ℤ y.den) s ∙ ap (◌*ℤ◌ (a *ℤ y.den)) (sym (amount-at g x s hx)))
      (sum_over-times n (share y) (b *ℤ x.den) s ∙ ap (◌*ℤ◌ (b *ℤ x.den)) (sym (amount-at h y s hy)))

  excess-z : (s : ℕ)
      → excess between z s ≡ (a *ℤ y.den) *ℤ excess g x s +ℤ (b *ℤ x.den) *ℤ excess h y s
  excess-z s = omega (products, worths a b x.den y.den (v s) (w s), amount-z s)

  measured-z : (measure : Measure) (s : ℕ)
      → measured_excess measure between z s
      ≡ (a *ℤ y.den) *ℤ measured_excess measure g x s +ℤ (b *ℤ x.den) *ℤ measured_excess measure h y s
  measured-z measure s =
      let t = weight measure s in
      measured-weight measure s (excess between z s)
      ∙ ap (◌*ℤ◌ t) (excess-z s)
      ∙ turned t (a *ℤ y.den) (b *ℤ x.den) (excess g x s) (excess h y s)
      ∙ sym (ap₂ (λ (p q : ℤ). (a *ℤ y.den) *ℤ p +ℤ (b *ℤ x.den) *ℤ q)
      (measured-weight measure s (excess g x s)) (measured-weight measure s (excess h y s)))
    where
      turned : (t p q e f : ℤ) → t *ℤ (p *ℤ e +ℤ q *ℤ f) ≡ p *ℤ (t *ℤ e) +ℤ q *ℤ (t *ℤ f)
      turned t p q e f = simp ring_laws

  in_family : (family : Family) → InFamily family g x → InFamily family h y → InFamily family between z
  in_family Imputations f k = (allocation, efficient f.1 k.1, λ i lt. rational i lt (f.2 i lt) (k.2 i lt))
    where
      efficient : amount x (grand_coalition n) ≡ x.den *ℤ v (grand_coalition n)
          → amount y (grand_coalition n) ≡ y.den *ℤ w (grand_coalition n)
          → amount z (grand_coalition n)
          ≡ (x.den *ℤ y.den) *ℤ (a *ℤ v (grand_coalition n) +ℤ b *ℤ w (grand_coalition n))
      efficient e f =
          amount-z (grand_coalition n)
          ∙ ap₂ (λ (p q : ℤ). (a *ℤ y.den) *ℤ p +ℤ (b *ℤ x.den) *ℤ q) e f
          ∙ sym (worths a b x.den y.den (v (grand_coalition n)) (w (grand_coalition n)))

      rational : (i : ℕ) → i < n → (x.den *ℤ v (singleton i)) ≤ℤ share x i
          → (y.den *ℤ w (singleton i)) ≤ℤ share y i
          → ((x.den *ℤ y.den) *ℤ (a *ℤ v (singleton i) +ℤ b *ℤ w (singleton i))) ≤ℤ share z i
      rational i lt e f =
          let one = mul-leℤ (a *ℤ y.den) (x.den *ℤ v (singleton i)) (share x i) first_low e in
          let other = mul-leℤ (b *ℤ x.den) (y.den *ℤ w (singleton i)) (share y i) second_low f in
          omega (arith, linear, one, other, share-z i lt, worths a b x.den y.den (v (singleton i)) (w (singleton i)))
  in_family Preimputations f k = (
    allocation,
    amount-z (grand_coalition n)
        ∙ ap₂ (λ (p q : ℤ). (a *ℤ y.den) *ℤ p +ℤ (b *ℤ x.den) *ℤ q) f.1 k.1
        ∙ sym (worths a b x.den y.den (v (grand_coalition n)) (w (grand_coalition n))),
  )

  tight : (family : Family) (c : ℕ × ℤ) → c.0 < n → IsTight family g x c → IsTight family h y c
      → IsTight family between z c
  tight family c lt e f = (
    share-z c.0 lt
        ∙ ap₂ (λ (p q : ℤ). (a *ℤ y.den) *ℤ p +ℤ (b *ℤ x.den) *ℤ q) e.0 f.0
        ∙ sym (worths a b x.den y.den (v (singleton c.0)) (w (singleton c.0))),
    e.1,
  )

  -- ---- one level

  module _ (measure : Measure) (l m : Level) (l_den : pos 1 ≤ℤ l.excess_den) (m_den : pos 1 ≤ℤ m.excess_den) where
    abbrev k : Level
    k = mixed_level a b l m

    left : (s : ℕ)
        → measured_excess measure between z s *ℤ (l.excess_den *ℤ m.excess_den)
        ≡ ((a *ℤ y.den) *ℤ m.excess_den) *ℤ (measured_excess measure g x s *ℤ l.excess_den)
        +ℤ ((b *ℤ x.den) *ℤ l.excess_den) *ℤ (measured_excess measure h y s *ℤ m.excess_den)
    left s =
        ap (λ (e : ℤ). e *ℤ (l.excess_den *ℤ m.excess_den)) (measured-z measure s)
        ∙ left_sides a b x.den y.den l.excess_den m.excess_den (measured_excess measure g x s)
        (measured_excess measure h y s)

    right : k.excess_num *ℤ measured_den measure (x.den *ℤ y.den)
        ≡ ((a *ℤ y.den) *ℤ m.excess_den) *ℤ (l.excess_num *ℤ measured_den measure x.den)
        +ℤ ((b *ℤ x.den) *ℤ l.excess_den) *ℤ (m.excess_num *ℤ measured_den measure y.den)
    right = right_sides measure a b x.den y.den l.excess_den m.excess_den l.excess_num m.excess_num

    has : (s : ℕ) → HasExcess measure g x l s → HasExcess measure h y m s → HasExcess measure between z k s
    has s e f =
        left s
        ∙ ap₂
        (λ (p q : ℤ). ((a *ℤ y.den) *ℤ m.excess_den) *ℤ p +ℤ ((b *ℤ x.den) *ℤ l.excess_den) *ℤ q) e f
        ∙ sym right

    has_at_most : (s : ℕ) → HasAtMostExcess measure g x l s → HasAtMostExcess measure h y m s
        → HasAtMostExcess measure between z k s
    has_at_most s e f =
        let one = mul-leℤ ((a *ℤ y.den) *ℤ m.excess_den) (measured_excess measure g x s *ℤ l.excess_den)
        (l.excess_num *ℤ measured_den measure x.den)
        (mul-nonnegativeℤ (a *ℤ y.den) m.excess_den first_low (above m.excess_den m_den)) e in
        let other = mul-leℤ ((b *ℤ x.den) *ℤ l.excess_den) (measured_excess measure h y s *ℤ m.excess_den)
        (m.excess_num *ℤ measured_den measure y.den)
        (mul-nonnegativeℤ (b *ℤ x.den) l.excess_den second_low (above l.excess_den l_den)) f in
        omega (arith, linear, one, other, left s, right)

    -- behind fronts with the same lists
    module _ (mode : Mode) (family : Family) (like : IsLikeLevel l m) (p q r : List Level) (hp : Alike p r)
        (hq : Alike q r) where
      holds : LevelForm n p l → LevelHolds mode family measure g x p l → LevelHolds mode family measure h y q m
          → LevelHolds mode family measure between z r k
      holds form e f = record {
        excesses =
            all_with (λ c. HasExcess measure g x l c.0) (λ c. HasExcess measure h y m c.0)
            (λ c. HasExcess measure between z k c.0) l.coalitions (λ c. has c.0) e.excesses
            (subst (AllByRecursion (λ c. HasExcess measure h y m c.0)) like.coalitions f.excesses);
        weights = e.weights;
        bound_weights =
            all_weaken (BoundWeighs p) (BoundWeighs r) l.bounds (weighs_alike p r hp) e.bound_weights;
        balanced = e.balanced;
        tight =
            all_with (λ c. IsTight family g x c × IsTight family h y c) (λ c. c.0 < n) (IsTight family between z)
            l.bounds (λ c both lt. tight family c lt both.0 both.1)
            (all_both (IsTight family g x) (IsTight family h y) l.bounds e.tight
            (subst (AllByRecursion (IsTight family h y)) like.bounds f.tight))
            form.players;
        outside = λ s lt out. has_at_most s
            (e.outside s lt (outside_alike mode n r p (Alike-turned p r hp) s out))
            (f.outside s lt (outside_alike mode n r q (Alike-turned q r hq) s out));
      }

      formed : LevelForm n p l → LevelForm n r k
      formed form = record {
        fraction = product_positive l.excess_den m.excess_den l_den m_den;
        some = form.some;
        few = form.few;
        few_earlier = form.few_earlier;
        proper = form.proper;
        listed =
            all_weaken (λ c. IsTrue (is_listed p c.0)) (λ c. IsTrue (is_listed r c.0)) l.earlier
            (λ c. subst IsTrue (listed_alike p r hp c.0)) form.listed;
        players = form.players;
        ascend = form.ascend;
        earlier_ascend = form.earlier_ascend;
        bounds_ascend = form.bounds_ascend;
        small = form.small;
        total_small = form.total_small;
      }

  -- ---- all levels

  module _ (mode : Mode) (family : Family) (measure : Measure) where
    carried : (p q r ls ms : List Level) → Alike p r → Alike q r → AreLikeLevels ls ms → LevelsForm n p ls
        → LevelsForm n q ms → LevelsHold mode family measure g x p ls → LevelsHold mode family measure h y q ms
        → LevelsForm n r (mixed_levels a b ls ms)
        × LevelsHold mode family measure between z r (mixed_levels a b ls ms)
    carried p q r [] [] hp hq like fl fm e f = (tt, fixed_alike mode n p r hp e)
    carried p q r [] (m ∷ ms) hp hq like fl fm e f = absurd like
    carried p q r (l ∷ ls) [] hp hq like fl fm e f = absurd like
    carried p q r (l ∷ ls) (m ∷ ms) hp hq like fl fm e f =
        let dl = fl.0.fraction in
        let dm = fm.0.fraction in
        let k = mixed_level a b l m in
        let rest = carried (p ++ l ∷ []) (q ++ m ∷ []) (r ++ k ∷ []) ls ms (joined p r l k hp refl refl)
        (joined q r m k hq (sym like.0.coalitions) (sym like.0.bounds)) like.1 fl.1 fm.1 e.1 f.1 in (
          (formed measure l m dl dm mode family like.0 p q r hp hq fl.0, rest.0),
          (holds measure l m dl dm mode family like.0 p q r hp hq fl.0 e.0 f.0, rest.1),
        )

  same_length : (ls ms : List Level) → AreLikeLevels ls ms → length (mixed_levels a b ls ms) ≡ length ls
  same_length [] [] like = refl
  same_length [] (m ∷ ms) like = absurd like
  same_length (l ∷ ls) [] like = absurd like
  same_length (l ∷ ls) (m ∷ ms) like = ap suc (same_length ls ms like.1)

-- ---- both games

pub certificates_carry : CertificatesCarry
certificates_carry mode family measure g h x y ls ms a b same a_low b_low like form other e f =
    let n = g.players in
    let k : Game = record { players = n; worth = h.worth } in
    let formed : HasForm mode n ms = subst (λ (i : ℕ). HasForm mode i ms) (sym same) other in
    let here : Certifies mode family measure k y ms =
    subst (λ (i : ℕ). Certifies mode family measure (record { players = i; worth = h.worth }) y ms) (sym same) f in
    let hx = allocation_of family g x e.0 in
    let hy = allocation_of family k y here.0 in
    let all = carried n g.worth h.worth x y a b a_low b_low hx hy mode family measure [] [] [] ls ms tt tt like
    form.each formed.each e.1 here.1 in (
      record {
        players = form.players;
        few =
            (let count = same_length n g.worth h.worth x y a b a_low b_low hx hy ls ms like in
            let few = form.few in
            omega (arith, count, few));
        each = all.0;
      },
      (in_family n g.worth h.worth x y a b a_low b_low hx hy family e.0 here.0, all.1),
    )

pub all_between : AllBetweenAreNucleoli
all_between mode family measure g h x y ls ms a b within same a_low b_low like form other e f =
    let between = certificates_carry mode family measure g h x y ls ms a b same a_low b_low like form other e f in
    IsNucleolus-from_certificate mode family measure (mixed_game a b g h) (mixed_shares a b x y)
    (mixed_levels a b ls ms) within between.0 between.1
