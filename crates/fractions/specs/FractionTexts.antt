-- Texts of fractions: an optional minus, digits, and for a denominator above 1 a slash and digits. Each fraction
-- has one text.
--
--   is_numeral s                       decimal digits without a leading zero, except 0 itself
--   before_slash, has_slash            how many bytes stand in front of a slash; whether there is one
--   numerator_text, denominator_text   what stands in front of the slash, and behind it
--   numerator, denominator             the numbers of these; 1 if there is no slash
--   has_denominator                    no slash, or a numeral above 1 behind it
--   is_unsigned_fraction               a text without a sign, in lowest terms
--   has_minus, without_minus           a minus stands first; what is behind it
--   is_signed_fraction                 a sign and an unsigned text; -0 is none
--   is_fraction_text s                 the grammar of a fraction's text
--   signed_fraction                    the fraction that a text without its minus writes
--   text_fraction s                    the fraction that such a text writes
--   is_i128                            a number that has a form of 128 bits
--   parsed s                           that fraction, if s is such a text and both numbers have a form of 128 bits
--   fraction_text f                    the text of a fraction
use Rattle.std.specs.Prelude.{◌==◌, ◌+◌, ◌^◌, ℕ, ℤ, pos, negsuc, neg_ℤ, List, []}
use Rattle.std.specs.Prelude.{◌∷◌, ◌++◌, length, take, drop}
use Rattle.std.specs.Prelude.{slice_index, Bool, not, ◌&&◌, ◌||◌, Option, Some, None, nat_lt, if◌then◌else◌}
use Rattle.std.specs.Ordering.{int_eq}
use Rattle.std.specs.List.{list_all, prefix_len}
use Rattle.std.specs.Char.{is_ascii_digit}
use Rattle.std.specs.Str.Parse.{digits_value}
use Rattle.std.specs.Fmt.{signed_decimal}
use Rattle.fractions.specs.Divisors.{gcd}
use Rattle.fractions.specs.Fraction.{Fraction}

abbrev pub is_numeral : List ℕ → Bool
is_numeral s = nat_lt 0 (length s) && list_all is_ascii_digit s && ((length s == 1) || not (slice_index s 0 == 48))

-- the number of bytes in front of a slash
abbrev pub before_slash : List ℕ → ℕ
before_slash s = prefix_len (λ c. not (c == 47)) s

abbrev pub has_slash : List ℕ → Bool
has_slash s = nat_lt (before_slash s) (length s)

-- what stands in front of the slash, and behind it
abbrev pub numerator_text : List ℕ → List ℕ
numerator_text s = take (before_slash s) s

abbrev pub denominator_text : List ℕ → List ℕ
denominator_text s = drop (before_slash s + 1) s

abbrev pub numerator : List ℕ → ℕ
numerator s = digits_value 10 (numerator_text s)

abbrev pub denominator : List ℕ → ℕ
denominator s = if has_slash s then digits_value 10 (denominator_text s) else 1

abbrev pub has_denominator : List ℕ → Bool
has_denominator s = not (has_slash s) || (is_numeral (denominator_text s) && nat_lt 1 (denominator s))

-- a numeral, and perhaps a slash and a numeral above 1 that has no divisor in common with it
abbrev pub is_unsigned_fraction : List ℕ → Bool
is_unsigned_fraction s =
    is_numeral (numerator_text s) && has_denominator s && (gcd (numerator s) (denominator s) == 1)

abbrev pub has_minus : List ℕ → Bool
has_minus s = slice_index s 0 == 45

abbrev pub without_minus : List ℕ → List ℕ
without_minus s = if has_minus s then drop 1 s else s

abbrev pub is_signed_fraction : Bool → List ℕ → Bool
is_signed_fraction minus s = is_unsigned_fraction s && not (minus && (numerator s == 0))

abbrev pub is_fraction_text : List ℕ → Bool
is_fraction_text s = is_signed_fraction (has_minus s) (without_minus s)

abbrev pub signed_fraction : Bool → List ℕ → Fraction
signed_fraction minus s = record {
  num = (if minus then neg_ℤ (pos (numerator s)) else pos (numerator s));
  den = pos (denominator s);
}

abbrev pub text_fraction : List ℕ → Fraction
text_fraction s = signed_fraction (has_minus s) (without_minus s)

abbrev pub is_i128 : ℤ → Bool
is_i128 (pos n) = nat_lt n (2 ^ 127)
is_i128 (negsuc n) = nat_lt n (2 ^ 127)

-- the fraction of a text whose numbers have a form of 128 bits
abbrev pub parsed : List ℕ → Option Fraction
parsed s =
    if is_fraction_text s && is_i128 (text_fraction s).num && is_i128 (text_fraction s).den
    then Some (text_fraction s) else None

abbrev pub fraction_text : Fraction → List ℕ
fraction_text f = signed_decimal f.num ++ (if int_eq f.den (pos 1) then [] else 47 ∷ signed_decimal f.den)
