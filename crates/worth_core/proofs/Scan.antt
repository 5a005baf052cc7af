-- What a scan over the masks in ascending order knows of the masks behind it.
--
-- The scan keeps the greatest excess so far, and the first mask that has it. A mask takes its place only if its own
-- excess is greater (`IsBestBelow-next`). So at the end the kept mask is the least one of the greatest positive excess.
-- If none was kept, no coalition blocks (`blocker-from_scan`). What the members get is kept from mask to mask: the
-- first player who isn't there joins, and those before it leave (Amounts.antt).
use Rattle.std.proofs.Common.{◌≡◌, ℕ, ◌+◌, ◌^◌, ◌<◌, ℤ, pos, ◌-ℤ◌, ◌*ℤ◌, ◌<ℤ◌}
use Rattle.std.proofs.Common.{◌≤ℤ◌, ◌-◌, unsigned_abs, Option}
use Rattle.std.proofs.Common.{Some, None, MatchOption, arith, refl, sym, ap, ◌∙◌, inl, inr}
use Rattle.std.proofs.Common.{subst, to_z, of_z}
use mir.Syntax.{w64, w128}
use Rattle.std.proofs.lemmas.Int.{ints, by_lt_z}
use Rattle.definitions.specs.Games.{Game, Allocation, amount, excess, IsGame, Blocks, IsChosenBlocker}
use Rattle.definitions.proofs.Cases.{less_or_last_of}
use Rattle.definitions.proofs.Casts.{cast_kept}
use Rattle.definitions.proofs.SumsOver.{amount-empty}

-- best is the chosen one among the masks below m, and most its excess, 0 where there is none
pub record IsBestBelow (g : Game) (x : Allocation) (m : ℕ) (best : Option ℕ) (most : ℤ) : Type 0 where
  pub some : MatchOption best (most ≡ pos 0)
      (λ b. (b < m) × (most ≡ excess g x b) × (pos 0 <ℤ most) × ((t : ℕ) → t < b → excess g x t <ℤ most))
  pub all : (t : ℕ) → t < m → excess g x t ≤ℤ most

-- no mask is behind the scan yet
pub IsBestBelow-none : (g : Game) (x : Allocation) (best : Option ℕ) (most : ℤ) → best ≡ None → most ≡ pos 0
    → IsBestBelow g x 0 best most
IsBestBelow-none g x best most none zero =
    rw (none, zero) (record { some = refl; all = λ t k. absurd (omega arith) })

all_next : (g : Game) (x : Allocation) (m : ℕ) (most : ℤ) → ((t : ℕ) → t < m → excess g x t ≤ℤ most)
    → excess g x m ≤ℤ most → (t : ℕ) → t < m + 1 → excess g x t ≤ℤ most
all_next g x m most h here t k =
    elim (less_or_last_of t m k)
    [ inl less ↦ h t less | inr same ↦ subst (λ (u : ℕ). excess g x u ≤ℤ most) (sym same) here ]

kept : (g : Game) (x : Allocation) (m : ℕ) (best : Option ℕ) (most : ℤ) → IsBestBelow g x m best most
    → excess g x m ≤ℤ most → IsBestBelow g x (m + 1) best most
kept g x m None most h le = record { some = h.some; all = all_next g x m most h.all le }
kept g x m (Some b) most h le = record {
  some = (omega (arith, h.some.0), h.some.1, h.some.2, h.some.3);
  all = all_next g x m most h.all le;
}

not_negative : (g : Game) (x : Allocation) (m : ℕ) (best : Option ℕ) (most : ℤ) → IsBestBelow g x m best most
    → pos 0 ≤ℤ most
not_negative g x m None most h = omega (arith, ints, h.some)
not_negative g x m (Some b) most h = omega (arith, ints, h.some.2)

better : (g : Game) (x : Allocation) (m : ℕ) (best : Option ℕ) (most e : ℤ) → IsBestBelow g x m best most
    → e ≡ excess g x m → most <ℤ e → IsBestBelow g x (m + 1) (Some m) e
better g x m best most e h same gt =
    let positive = not_negative g x m best most h in
    let below : (t : ℕ) → t < m → excess g x t <ℤ e = λ t k. omega (arith, ints, h.all t k) in
    record {
      some = (omega arith, same, omega (arith, ints), below);
      all = all_next g x m e (λ t k. omega (arith, ints, below t k)) (omega (arith, ints));
    }

-- one step of the scan, which comes to the mask s, by what it keeps in either case
pub IsBestBelow-next : (g : Game) (x : Allocation) (m s : ℕ) (best next : Option ℕ) (most e more : ℤ)
    → IsBestBelow g x m best most → s ≡ m → e ≡ excess g x s
    → (most <ℤ e → (next ≡ Some s) × (more ≡ e)) → (e ≤ℤ most → (next ≡ best) × (more ≡ most))
    → IsBestBelow g x (m + 1) next more
IsBestBelow-next g x m s best next most e more h place same greater not_greater =
    let here : e ≡ excess g x m = same ∙ ap (excess g x) place in
    by_lt_z most e
    (λ lt. let step = greater lt in rw (step.0, step.1, place) (better g x m best most e h here lt))
    (λ le. let step = not_greater le in rw (step.0, step.1) (kept g x m best most h (omega (arith, ints))))

-- at the end of the scan
pub blocker-from_scan : (g : Game) (x : Allocation) (best : Option ℕ) (most : ℤ)
    → IsBestBelow g x (2 ^ g.players) best most
    → MatchOption best ((s : ℕ) → s < 2 ^ g.players → ¬ Blocks g x s) (IsChosenBlocker g x)
blocker-from_scan g x None most h = λ s k blocks. omega (arith, ints, h.all s k, h.some)
blocker-from_scan g x (Some b) most h = record {
  within = h.some.0;
  blocks = omega (arith, ints, h.some.1, h.some.2);
  greatest = λ t k. omega (arith, ints, h.all t k, h.some.1);
  least = λ t k. omega (arith, ints, h.some.3 t k, h.some.1);
}

-- what a call of `excess_from` answers, where the worth was passed through 64 bits and what the members get through
-- 128
pub excess_is : (g : Game) (x : Allocation) (s : ℕ) (w p r : ℤ) → IsGame g → s < 2 ^ g.players → w ≡ g.worth s
    → p ≡ amount x s
    → unsigned_abs p < 2 ^ 117 → r ≡ x.den *ℤ to_z w64 (of_z w64 w) -ℤ to_z w128 (of_z w128 p) → r ≡ excess g x s
excess_is g x s w p r game within same paid small h =
    let few = game.small s within in
    let worth_kept = cast_kept w64 w (rw same (omega arith)) in
    let paid_kept = cast_kept w128 p (omega arith) in
    h ∙ ap (λ v. x.den *ℤ v -ℤ to_z w128 (of_z w128 p)) (worth_kept ∙ same)
    ∙ ap (λ v. x.den *ℤ g.worth s -ℤ v) (paid_kept ∙ paid)

-- what the members of the mask before the first one get, and of the one before each next
pub paid_first : (x : Allocation) → pos 0 ≡ amount x (0 - 1)
paid_first x = sym (amount-empty x)

pub paid_here : (x : Allocation) (m s : ℕ) (paid : ℤ) → s ≡ m → paid ≡ amount x (m - 1) → paid ≡ amount x (s - 1)
paid_here x m s paid place h = h ∙ ap (λ (k : ℕ). amount x (k - 1)) (sym place)

pub paid_next : (x : Allocation) (m s : ℕ) (paid : ℤ) → s ≡ m → paid ≡ amount x s → paid ≡ amount x (m + 1 - 1)
paid_next x m s paid place h = let e : s ≡ m + 1 - 1 = omega arith in h ∙ ap (amount x) e
