-- Costs are worths of which none is negative.
use Rattle.std.proofs.Common.{◌≡◌, ℕ, ℤ, pos, negsuc, List, [], ◌∷◌, map, Bool, true, false, ◌&&◌, nat_le}
use Rattle.std.proofs.Common.{Option, Some, None, is_some, option_map, if◌then◌else◌, refl, sym, ap, ap₂, ◌∙◌}
use Rattle.std.specs.Prelude.{unwrap_or}
use Rattle.std.specs.List.{list_all}
use Rattle.std.proofs.lemmas.Bool.{and_left, and_right}
use Rattle.serde_json.specs.Data.{Data}
use Rattle.worth_core.specs.LeastDenominators.{numerator_over}
use Rattle.json_trees.specs.Fractions.{fraction_of}
use Rattle.document_parts.specs.ScaledNumbers.{is_small, if_small, number_or_zero}
use Rattle.document_parts.specs.Sizes.{is_small_cost, if_integer, is_cost}
use Rattle.document_parts.specs.Signs.{is_from_zero}
use Rattle.document_parts.specs.Numbers.{are_worths, are_costs, AreWorths}
use Rattle.document_parts.proofs.CommonScales.{least}
use Rattle.document_parts.proofs.Raising.{is_worth}

-- a small number is a cost where it isn't negative
small_cost : (z : ℤ) (b : Bool) → is_small z ≡ b
    → if_integer is_small_cost (if b then Some z else None)
    ≡ (is_some (if b then Some z else None) && is_from_zero (unwrap_or (if b then Some z else None) (pos 0)))
small_cost (pos n) true e = e
small_cost (negsuc n) true e = refl
small_cost z false e = refl

cost_by : (o : Option ℤ)
    → if_integer is_small_cost (if_small o) ≡ (is_some (if_small o) && is_from_zero (unwrap_or (if_small o) (pos 0)))
cost_by None = refl
cost_by (Some z) = small_cost z (is_small z) refl

both : (a b c d : Bool) → ((a && b) && (c && d)) ≡ ((a && c) && (b && d))
both false b c d = refl
both true false c d = sym (and_right c false refl)
both true true c d = refl

costs_are : (k : ℕ) (ds : List Data)
    → list_all (is_cost k) ds ≡ (list_all (is_worth k) ds && list_all is_from_zero (map (number_or_zero k) ds))
costs_are k [] = refl
costs_are k (d ∷ ds) =
    ap₂ (λ a b. a && b) (cost_by (option_map (numerator_over (pos k)) (fraction_of d))) (costs_are k ds)
    ∙ both (is_worth k d) (is_from_zero (number_or_zero k d)) (list_all (is_worth k) ds)
    (list_all is_from_zero (map (number_or_zero k) ds))

three : (a b c : Bool) → (a && (b && c)) ≡ ((a && b) && c)
three true b c = refl
three false b c = refl

are_costs_by : (ds : List Data)
    → are_costs ds ≡ (are_worths ds && list_all is_from_zero (map (number_or_zero (least ds)) ds))
are_costs_by ds =
    ap (λ b. nat_le (least ds) 65536 && b) (costs_are (least ds) ds)
    ∙ three (nat_le (least ds) 65536) (list_all (is_worth (least ds)) ds)
    (list_all is_from_zero (map (number_or_zero (least ds)) ds))

pub no_worths : (ds : List Data) → are_worths ds ≡ false → are_costs ds ≡ false
no_worths ds e =
    are_costs_by ds ∙ and_left (are_worths ds) (list_all is_from_zero (map (number_or_zero (least ds)) ds)) e

-- of numbers that are read
pub costs_by : (ds : List Data) (k : ℕ) (zs : List ℤ) → AreWorths ds k zs → are_costs ds ≡ list_all is_from_zero zs
costs_by ds k zs read =
    are_costs_by ds
    ∙ ap₂ (λ a b. a && b) read.worths
    (ap (λ n. list_all is_from_zero (map (number_or_zero n) ds)) (sym read.scale)
    ∙ ap (list_all is_from_zero) (sym read.numbers))
