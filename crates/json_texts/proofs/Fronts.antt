-- What follows the number at the front of a text is an end of the text.
use Rattle.std.proofs.Common.{◌≡◌, ℕ, ◌+◌, ◌-◌, min, Bool, true, false, cond, ◌||◌}
use Rattle.std.proofs.Common.{◌==◌, List, ◌++◌, length, take}
use Rattle.std.proofs.Common.{drop, Option, Some, None, option_and_then, refl, sym, ap, ◌∙◌, arith}
use Rattle.std.proofs.lemmas.List.{drop-drop, drop_min, length-drop, take-append-drop}
use Rattle.std.specs.Prelude.{⊤}
use Rattle.std.specs.List.{prefix_len}
use Rattle.std.specs.Char.{is_ascii_digit}
use Rattle.json.specs.Word.{head, after_digits, after_minus, after_sign}
use Rattle.json.specs.Word.{after_fraction, after_exponent, after_number}

abbrev pub EndOf : List ℕ → List ℕ → Type 0
EndOf t r = (k : ℕ) × (r ≡ drop k t)

abbrev pub Leaves : List ℕ → Option (List ℕ) → Type 0
Leaves t None = ⊤
Leaves t (Some r) = EndOf t r

further : (t u : List ℕ) (o : Option (List ℕ)) → EndOf t u → Leaves u o → Leaves t o
further t u None e h = tt
further t u (Some r) e h = (e.0 + h.0, h.1 ∙ ap (drop h.0) e.1 ∙ drop-drop h.0 e.0 t)

either : (t : List ℕ) (b : Bool) (x y : Option (List ℕ)) → Leaves t x → Leaves t y → Leaves t (cond b x y)
either t true x y p q = p
either t false x y p q = q

optional : (t : List ℕ) (b : Bool) → EndOf t (cond b (drop 1 t) t)
optional t true = (1, refl)
optional t false = (0, refl)

digits : (t : List ℕ) → Leaves t (after_digits t)
digits t = either t (prefix_len is_ascii_digit t == 0) None _ tt (prefix_len is_ascii_digit t, refl)

then : (t : List ℕ) (f : List ℕ → Option (List ℕ)) → ((u : List ℕ) → Leaves u (f u)) → (o : Option (List ℕ))
    → Leaves t o → Leaves t (option_and_then f o)
then t f g None h = tt
then t f g (Some r) h = further t r (f r) h (g r)

fraction : (t : List ℕ) → Leaves t (after_fraction t)
fraction t = either t (head t == 46) _ (Some t) (further t (drop 1 t) _ (1, refl) (digits (drop 1 t))) (0, refl)

exponent : (t : List ℕ) → Leaves t (after_exponent t)
exponent t =
    let u = drop 1 t in
    either t ((head t == 101) || (head t == 69)) _ (Some t)
    (further t u _ (1, refl) (further u (after_sign u) _ (optional u _) (digits (after_sign u)))) (0, refl)

pub Leaves-after_number : (t : List ℕ) → Leaves t (after_number t)
unfolding after_number
Leaves-after_number t =
    let u = after_minus t in
    then t after_exponent exponent _
    (then t after_fraction fraction _
    (further t u _ (optional t _) (either u (head u == 48) (Some (drop 1 u)) _ (1, refl) (digits u))))

pub front_and_rest : (t r : List ℕ) → EndOf t r → take (length t - length r) t ++ r ≡ t
front_and_rest t r e =
    let n : length t - length r ≡ min e.0 (length t) = omega (arith, ap length e.1, length-drop e.0 t) in
    ap (λ x. take (length t - length r) t ++ x) (e.1 ∙ sym (drop_min e.0 t) ∙ ap (λ k. drop k t) (sym n))
    ∙ take-append-drop _ t
