-- The prekernel and the core have the reduced game property (Peleg 1986).
use Rattle.std.proofs.Common.{◌≡◌, ℕ, ◌^◌, ◌<◌, Bool, true, ◌&&◌, not, ℤ, ◌≤ℤ◌, refl, sym, ap, subst, ◌∙◌, inl, inr}
use Rattle.std.proofs.Common.{arith}
use Rattle.definitions.proofs.Ring.{linear}
use Rattle.definitions.specs.Coalitions.{has_player}
use Rattle.definitions.specs.Games.{Game, Allocation, excess, InCore}
use Rattle.definitions.specs.Prekernel.{holds_without, IsSurplus, InPrekernel}
use Rattle.theorems.proofs.Moves.{proper_of}
use Rattle.law_reduced_games.specs.ReducedGames.{AreSome, staying, staying_shares, IsReducedGame, PrekernelReduces}
use Rattle.law_reduced_games.specs.ReducedGames.{CoreReduces}
use Rattle.law_reduced_games.proofs.Staying.{staying_within, staying_has}
use Rattle.law_reduced_games.proofs.Excesses.{on, greatest_excess, some_excess, allocation_staying, efficient_staying}

-- ---- the prekernel

holds_same : (m : ℕ) (who : ℕ → ℕ) (s k l : ℕ) → k < m → l < m
    → holds_without k l (staying m who s) ≡ holds_without (who k) (who l) s
holds_same m who s k l hk hl =
    ap (λ (b : Bool). b && not (has_player (staying m who s) l)) (staying_has m who s k hk)
    ∙ ap (λ (b : Bool). has_player s (who k) && not b) (staying_has m who s l hl)

surplus_reduces : (m : ℕ) (who : ℕ → ℕ) (g h : Game) (x : Allocation) (k l : ℕ) (w : ℤ) → AreSome g.players m who
    → IsReducedGame m who g x h → k < m → l < m → IsSurplus g x (who k) (who l) w
    → IsSurplus (on m h) (staying_shares m who x) k l w
surplus_reduces m who g h x k l w a r hk hl top =
    let s = top.0.0 in
    let holds = holds_same m who s k l hk hl ∙ top.0.1.1 in
    let within = staying_within m who s in
    let proper = proper_of m k l (staying m who s) hl within holds in
    let low = (greatest_excess m who g h x a r (staying m who s) (omega (arith, proper)) (omega (arith, proper))).1 s
    (top.0.1.0, refl) in
    let high = at_most (staying m who s) within holds in
    ((staying m who s, (within, holds), omega (arith, linear, top.0.2, low, high)), λ t p. at_most t p.0 p.1)
  where
    at_most : (t : ℕ) → t < 2 ^ m → holds_without k l t ≡ true
        → excess h (staying_shares m who x) t ≤ℤ w
    at_most t within holds =
        let proper = proper_of m k l t hl within holds in
        let best = (greatest_excess m who g h x a r t (omega (arith, proper)) (omega (arith, proper))).0 in
        let there = sym (holds_same m who best.0 k l hk hl) ∙ ap (holds_without k l) best.1.1 ∙ holds in
        omega (arith, linear, best.2, top.1 best.0 (best.1.0, there))

pub prekernel_reduces : PrekernelReduces
prekernel_reduces m who g h x a r p =
    subst (λ c. InPrekernel (on c h) (staying_shares m who x)) (sym r.players) (
      allocation_staying m who g h x a r,
      efficient_staying m who g h x a r p.1,
      λ k l hk hl ne.
          let b = p.2 (who k) (who l) (a.players k hk) (a.players l hl) (λ e. ne (a.once k l hk hl e)) in (
            b.0,
            surplus_reduces m who g h x k l b.0 a r hk hl b.1,
            surplus_reduces m who g h x l k b.0 a r hl hk b.2,
          ),
    )

-- ---- the core

pub core_reduces : CoreReduces
core_reduces m who g h x a r c =
    subst (λ k. InCore (on k h) (staying_shares m who x)) (sym r.players) (
      allocation_staying m who g h x a r,
      efficient_staying m who g h x a r c.1,
      λ t within blocks. elim (some_excess m who g h x a r c.1 t within) [
        | inl none ↦ omega (arith, linear, none, blocks)
        | inr found ↦ c.2 found.0 found.1 (omega (arith, linear, found.3, blocks))
      ],
    )
