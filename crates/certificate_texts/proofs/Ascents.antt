-- Masks of coalitions that are listed by ascending numbers.
use Rattle.std.proofs.Common.{◌≡◌, ℕ, zero, suc, ◌+◌, ◌-◌, ◌^◌, ◌<◌, ◌≤◌, List}
use Rattle.std.proofs.Common.{◌∷◌, length, get_or, Option}
use Rattle.std.proofs.Common.{None, option_map, option_and_then, sym, ap, ◌∙◌, arith}
use Rattle.std.proofs.Math.Nat.{pow-le-pow_right, two-pow-succ}
use Rattle.serde_json.specs.View.{view}
use Rattle.serde_json.specs.declared.value.Value.{Value}
use Rattle.certificate_texts.specs.Levels.{number_above, numbers_above, mask_by_numbers}
use Rattle.json_trees.proofs.Values.{rest, rest_step}

-- ---- one number more

abbrev pub summed : ℕ → Option (List ℕ) → Option ℕ
summed s o = option_map (λ ks. s + mask_by_numbers ks) o

module _ (n : ℕ) (whole : Option ℕ) (vs : List Value) (i s low : ℕ) (v : Value) (h : i < length vs)
    (at : v ≡ get_or vs i v) (goes : whole ≡ summed s (numbers_above low n (rest vs i))) where
  turn : whole
      ≡ summed s
      (option_and_then (λ k. option_map (λ ks. k ∷ ks) (numbers_above k n (rest vs (i + 1))))
      (number_above low n (view v)))
  turn = goes ∙ ap (λ ds. summed s (numbers_above low n ds)) (rest_step vs i v h at)

  pub no_number : None ≡ number_above low n (view v) → None ≡ whole
  no_number e =
      sym
      (turn
      ∙ ap
      (λ o. summed s (option_and_then (λ k. option_map (λ ks. k ∷ ks) (numbers_above k n (rest vs (i + 1)))) o))
      (sym e))

-- ---- a bit above all that are there

doubled : (k : ℕ) → 0 < k → 2 ^ k ≡ 2 ^ (k - 1) + 2 ^ (k - 1)
doubled zero h = absurd (omega arith)
doubled (suc k) h = let e : suc k - 1 ≡ k = omega arith in rw e (two-pow-succ k)

pub bit_above : (s low k : ℕ) → low < k → s < 2 ^ low → s + 2 ^ (k - 1) < 2 ^ k
bit_above s low k h small =
    let below : 2 ^ low ≤ 2 ^ (k - 1) = pow-le-pow_right (omega arith) (omega arith) in
    let whole = doubled k (omega arith) in
    omega arith
