-- What follows from Sobolev's axioms: a rule's shares add to the worth of all, and players whom some renumbering
-- exchanges that leaves the game as it is get the same (Peleg and Sudhölter).
use Rattle.std.proofs.Common.{◌≡◌, ℕ, ◌<◌, length, ℤ, pos, ◌+ℤ◌, ◌-ℤ◌, ◌*ℤ◌, ◌≤ℤ◌, refl, sym, ap, subst, ◌∙◌, arith}
use Rattle.std.proofs.lemmas.Int.{ints}
use Rattle.std.proofs.lemmas.List.{length-map}
use Rattle.std.proofs.lemmas.List.FromFn.{get_or-map-range_with_len}
use mathlib.Core.Path.{fun_ext}
use Rattle.definitions.proofs.Ring.{linear, add-mulℤ, mul-cancelℤ, mul-oneℤ, mul_assocℤ}
use lib.IntN.{*ℤ_comm}
use Rattle.definitions.proofs.Members.{sum_over-singleton}
use Rattle.definitions.proofs.SumsOver.{sum_over-zero, sum_over-empty}
use Rattle.definitions.specs.Coalitions.{grand_coalition, sum_over}
use Rattle.definitions.specs.Games.{Game, Allocation, share, amount, IsEfficient}
use Rattle.definitions.specs.Scales.{times}
use Rattle.theorems.proofs.Scaled.{share_times}
use Rattle.law_answers.specs.StrategicEquivalence.{equivalent_game, equivalent_shares}
use Rattle.law_answers.specs.Renumbering.{IsRenumbering, renumbered_game, renumbered_shares}
use Rattle.law_answers.proofs.RenumberingChangesNothing.{renumbered_share}
use Rattle.law_reduced_games.specs.ReducedGames.{AreSome, staying_shares, worth_left, IsReducedGame}
use Rattle.law_reduced_games.specs.SobolevsTheorem.{IsPlayable, KeepTheirOrder, MeetsSobolevsAxioms}
use Rattle.law_reduced_games.proofs.Staying.{staying_share, staying_amount, staying_all}
use Rattle.theorems.proofs.Products.{products, sorted_products}

-- ---- games and shares

-- games with the same worths are the same
pub same_game : (n : ℕ) (v u : ℕ → ℤ) → ((s : ℕ) → v s ≡ u s)
    → (let a : Game = record { players = n; worth = v } in a) ≡ (let b : Game = record { players = n; worth = u } in b)
same_game n v u same = ap (λ (w : ℕ → ℤ). (let a : Game = record { players = n; worth = w } in a)) (fun_ext same)

pub equivalent_share : (k : ℤ) (b : ℕ → ℤ) (x : Allocation) (i : ℕ) → i < length x.shares
    → share (equivalent_shares k b x) i ≡ k *ℤ share x i +ℤ x.den *ℤ b i
equivalent_share k b x i lt =
    get_or-map-range_with_len (λ i. share (times k x) i +ℤ x.den *ℤ b i) 0 (length (times k x).shares) i i (pos 0)
    (let long = length-map x.shares (λ a. k *ℤ a) in omega (arith, lt, long)) (omega arith)
    ∙ ap (λ z. z +ℤ x.den *ℤ b i) (share_times k x i)

-- of one player, with worth 0
abbrev nothing_for_one : Game
nothing_for_one = record { players = 1; worth = λ s. pos 0 }

-- and with this worth
abbrev for_one : ℤ → Game
for_one v = equivalent_game (pos 1) (λ i. v) nothing_for_one

proper_nothing : IsPlayable nothing_for_one
proper_nothing = (omega arith, refl)

proper_for_one : (v : ℤ) → IsPlayable (for_one v)
proper_for_one v = (
  omega arith,
  (let none = sum_over-empty 1 (λ i. v) in omega (products, none)),
)

module _ (rule : Game → Allocation) (a : MeetsSobolevsAxioms rule) where
  den_of : (g : Game) → IsPlayable g → pos 0 ≤ℤ ((rule g).den -ℤ pos 1)
  den_of g p = (let one = (a.single g p).1 in omega (arith, linear, one))

  -- the share in the equivalent game
  pub share_equivalent : (k : ℤ) (b : ℕ → ℤ) (g : Game) (i : ℕ) → pos 1 ≤ℤ k → IsPlayable g → i < g.players
      → share (rule (equivalent_game k b g)) i *ℤ (rule g).den
      ≡ (k *ℤ share (rule g) i +ℤ (rule g).den *ℤ b i) *ℤ (rule (equivalent_game k b g)).den
  share_equivalent k b g i one p lt =
      a.covariant k b g one p i lt
      ∙ ap (λ z. z *ℤ (rule (equivalent_game k b g)).den)
      (equivalent_share k b (rule g) i (let long = (a.single g p).0 in omega (arith, lt, long)))

  -- one player of worth 0 gets nothing, since twice its share is its share
  nothing_alone : share (rule nothing_for_one) 0 ≡ pos 0
  nothing_alone =
      let x = rule nothing_for_one in
      let b : ℕ → ℤ = λ i. pos 0 in
      let same : equivalent_game (pos 2) b nothing_for_one ≡ nothing_for_one =
      same_game 1 (λ s. pos 2 *ℤ pos 0 +ℤ sum_over 1 b s) (λ s. pos 0)
      (λ s. (let none = sum_over-zero 1 s in omega (products, none))) in
      let twice = subst (λ g. share (rule g) 0 *ℤ x.den ≡ (pos 2 *ℤ share x 0 +ℤ x.den *ℤ pos 0) *ℤ (rule g).den) same
      (share_equivalent (pos 2) b nothing_for_one 0 (omega (arith, linear)) proper_nothing (omega arith)) in
      half x.den (share x 0) (den_of nothing_for_one proper_nothing) twice
    where
      half : (d z : ℤ) → pos 0 ≤ℤ (d -ℤ pos 1) → z *ℤ d ≡ (pos 2 *ℤ z +ℤ d *ℤ pos 0) *ℤ d → z ≡ pos 0
      half d z one e =
          let two : pos 2 *ℤ z ≡ z +ℤ z = omega (arith, ints) in
          let whole : pos 2 *ℤ z +ℤ d *ℤ pos 0 ≡ z +ℤ z = omega (products, two) in
          mul-cancelℤ d z (pos 0) (omega (arith, linear, one))
          (omega (sorted_products, e ∙ ap (λ u. u *ℤ d) whole ∙ add-mulℤ z z d))

  -- and of any worth, that
  worth_alone : (v : ℤ) → share (rule (for_one v)) 0 ≡ (rule (for_one v)).den *ℤ v
  worth_alone v =
      let x = rule nothing_for_one in
      let y = rule (for_one v) in
      let e =
      share_equivalent (pos 1) (λ i. v) nothing_for_one 0 (omega (arith, linear)) proper_nothing (omega arith) in
      shaped x.den y.den (share x 0) (share y 0) v (den_of nothing_for_one proper_nothing) nothing_alone e
    where
      shaped : (d q z y v : ℤ) → pos 0 ≤ℤ (d -ℤ pos 1) → z ≡ pos 0 → y *ℤ d ≡ (pos 1 *ℤ z +ℤ d *ℤ v) *ℤ q
          → y ≡ q *ℤ v
      shaped d q z y v one none e =
          let inner : pos 1 *ℤ z +ℤ d *ℤ v ≡ d *ℤ v = omega (products, none) in
          mul-cancelℤ d y (q *ℤ v) (omega (arith, linear, one))
          (*ℤ_comm d y ∙ e ∙ ap (λ u. u *ℤ q) inner ∙ mul_assocℤ d v q ∙ ap (◌*ℤ◌ d) (*ℤ_comm v q))

  -- the reduced game of one who stays: so it gets what the others leave
  pub efficient_rule : (g : Game) → IsPlayable g → IsEfficient g (rule g)
  efficient_rule g p =
      let x = rule g in
      let all = grand_coalition g.players in
      let v = worth_left 1 (λ k. 0) g x all in
      let one : sum_over 1 (λ i. v) 1 ≡ v = sum_over-singleton 1 0 (λ i. v) (omega arith) in
      let some : AreSome g.players 1 (λ k. 0) =
      record { some = omega arith; players = λ k lt. p.0; once = λ k l hk hl e. omega (arith, hk, hl) } in
      let reduced : IsReducedGame 1 (λ k. 0) g x (for_one v) = record {
        players = refl;
        nobody = (proper_for_one v).1;
        all = omega (products, one);
        some = λ t low high. absurd (omega (arith, low, high));
      } in
      let in_order : KeepTheirOrder 1 (λ k. 0) = λ k l less lt. absurd (omega arith) in
      let same = a.reduced 1 (λ k. 0) g (for_one v) p some in_order reduced 0 (omega arith) in
      let y = rule (for_one v) in
      let got : share x 0 ≡ v = shaped y.den (share x 0) v (den_of (for_one v) (proper_for_one v))
      (sym (worth_alone v) ∙ sym (mul-oneℤ (share y 0)) ∙ same
      ∙ ap (λ z. z *ℤ y.den) (staying_share 1 (λ k. 0) x 0 (omega arith))) in
      let kept = ap (amount (staying_shares 1 (λ k. 0) x)) (staying_all g.players 1 (λ k. 0) some)
      ∙ staying_amount 1 (λ k. 0) x 1 ∙ sum_over-singleton 1 0 (λ k. share x 0) (omega arith) in
      omega (arith, linear, got, kept)
    where
      shaped : (d z v : ℤ) → pos 0 ≤ℤ (d -ℤ pos 1) → d *ℤ v ≡ z *ℤ d → z ≡ v
      shaped d z v one e = mul-cancelℤ d z v (omega (arith, linear, one)) (*ℤ_comm d z ∙ sym e)

  -- who is renumbered, where the game stays the same, has the share of the other
  pub same_share : (g : Game) (to back : ℕ → ℕ) (i : ℕ) → IsPlayable g → IsRenumbering g.players to back
      → renumbered_game back g ≡ g → i < g.players → share (rule g) (to i) ≡ share (rule g) i
  same_share g to back i p r same lt =
      let x = rule g in
      let e = subst (λ h. share (rule h) i *ℤ x.den ≡ share (renumbered_shares to x) i *ℤ (rule h).den) same
      (a.anonymous to back g p r i lt) in
      let f = renumbered_share to x i (let long = (a.single g p).0 in omega (arith, lt, long)) in
      mul-cancelℤ x.den (share x (to i)) (share x i) (let d = den_of g p in omega (arith, linear, d))
      (omega (sorted_products, e, ap (λ z. z *ℤ x.den) f))
