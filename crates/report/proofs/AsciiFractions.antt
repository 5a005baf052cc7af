-- The text of a fraction of 128 bits is ASCII.
use Rattle.std.proofs.Common.{◌≡◌, ℕ, suc, ◌^◌, Bool, true, false, cond, ◌&&◌, List}
use Rattle.std.proofs.Common.{[], ◌∷◌}
use Rattle.std.proofs.Common.{Some, None, ℤ, pos, negsuc, refl, subst, arith}
use Rattle.std.specs.Fmt.{signed_decimal}
use Rattle.std.specs.Ordering.{int_eq}
use Rattle.std.specs.Str.{IsAscii}
use Rattle.std.proofs.lemmas.Fmt.{IsAscii-decimal_wide}
use Rattle.std.proofs.lemmas.Str.{IsAscii-append}
use Rattle.std.proofs.lemmas.Str.Ascii.{IsAscii-nil, IsAscii-cons}
use Rattle.fractions.specs.Fraction.{Fraction}
use Rattle.fractions.specs.FractionTexts.{is_i128, is_fraction_text, text_fraction, parsed, fraction_text}
use Rattle.definitions.proofs.Cases.{from_nat_lt}

signed_ascii : (z : ℤ) → is_i128 z ≡ true → IsAscii (signed_decimal z)
signed_ascii (pos n) h = let small = from_nat_lt n (2 ^ 127) h in IsAscii-decimal_wide n (omega arith)
signed_ascii (negsuc n) h =
    let small = from_nat_lt n (2 ^ 127) h in
    IsAscii-cons 45 _ (omega arith) (IsAscii-decimal_wide (suc n) (omega arith))

denominator_ascii : (d : ℤ) (b : Bool) → is_i128 d ≡ true → IsAscii (cond b [] (47 ∷ signed_decimal d))
denominator_ascii d true h = IsAscii-nil
denominator_ascii d false h = IsAscii-cons 47 _ (omega arith) (signed_ascii d h)

read_numbers_fit : (a b c : Bool) (f g : Fraction) → b ≡ is_i128 f.num → c ≡ is_i128 f.den
    → cond (a && b && c) (Some f) None ≡ Some g → (is_i128 g.num ≡ true) × (is_i128 g.den ≡ true)
read_numbers_fit true true true f g num den e =
    let same : f ≡ g = cc in
    (subst (λ h. is_i128 h.num ≡ true) same (cc), subst (λ h. is_i128 h.den ≡ true) same (cc))
read_numbers_fit true true false f g num den e = absurd (cc)
read_numbers_fit true false c f g num den e = absurd (cc)
read_numbers_fit false b c f g num den e = absurd (cc)

-- both numbers of a fraction that was read have a form of 128 bits
pub numbers_fit : (s : List ℕ) (f : Fraction) → parsed s ≡ Some f → (is_i128 f.num ≡ true) × (is_i128 f.den ≡ true)
numbers_fit s f e =
    read_numbers_fit (is_fraction_text s) (is_i128 (text_fraction s).num) (is_i128 (text_fraction s).den)
    (text_fraction s) f refl
    refl e

pub fraction_text_ascii : (s : List ℕ) (f : Fraction) → parsed s ≡ Some f → IsAscii (fraction_text f)
fraction_text_ascii s f e =
    let small = numbers_fit s f e in
    IsAscii-append _ _ (signed_ascii f.num small.0) (denominator_ascii f.den (int_eq f.den (pos 1)) small.1)
