-- A line without its newline.
use Rattle.std.proofs.Common.{◌≡◌, ◌==◌, ℕ, ◌+◌, ◌-◌, ◌<◌, true, cond, List, []}
use Rattle.std.proofs.Common.{◌∷◌, ◌++◌, length}
use Rattle.std.proofs.Common.{take, slice_index, nat_lt, ap, ◌∙◌, arith, length-append}
use Rattle.std.proofs.Math.Seq.{take-append_seam, get_or-append_seam}
use Rattle.std.proofs.lemmas.Bool.Decides.{nat_tests}
use Rattle.json_texts.specs.Newlines.{without_newline}
use Rattle.definitions.proofs.Cases.{and_both}

positive_test : (n : ℕ) → 0 < n → nat_lt 0 n ≡ true
positive_test n h = grind (arith, nat_tests)

equal_test : (m n : ℕ) → m ≡ n → (m == n) ≡ true
equal_test m n e = grind (arith, nat_tests)

without_last : (bytes s : List ℕ) → length bytes ≡ length s + 1 → slice_index bytes (length s) ≡ 10
    → take (length s) bytes ≡ s → without_newline bytes ≡ s
without_last bytes s count last front =
    let at : length bytes - 1 ≡ length s = omega arith in
    let test =
    and_both _ _ (positive_test (length bytes) (omega arith))
    (equal_test (slice_index bytes (length bytes - 1)) 10 (ap (slice_index bytes) at ∙ last)) in
    ap (λ b. cond b (take (length bytes - 1) bytes) bytes) test ∙ ap (λ k. take k bytes) at ∙ front

pub without_added : (s : List ℕ) → without_newline (s ++ 10 ∷ []) ≡ s
without_added s =
    without_last (s ++ 10 ∷ []) s (length-append s (10 ∷ [])) (get_or-append_seam s 10 [] 0)
    (take-append_seam s (10 ∷ []))
