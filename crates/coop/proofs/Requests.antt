-- What words ask for: the parts of a generated game are told from its words, and other words are those of no command.
--
-- A word gives back its command by its length and its first letter. A number is told from its digits, since the text of
-- a fraction is read back.
use Rattle.std.proofs.Common.{◌≡◌, ◌≢◌, ◌^◌, ◌<◌, ℕ, zero, suc, pos, List, []}
use Rattle.std.proofs.Common.{◌∷◌, length, nat_eq}
use Rattle.std.proofs.Common.{slice_index, if◌then◌else◌, unsigned_abs, None, Some, refl, sym, ap, ◌∙◌, subst}
use Rattle.std.proofs.Common.{arith}
use Rattle.std.proofs.lemmas.Int.{ints}
use Rattle.std.proofs.lemmas.Option.{none-some, same_Some}
use Rattle.fractions.specs.Fraction.{Fraction}
use Rattle.fractions.specs.FractionTexts.{parsed}
use Rattle.fractions.proofs.Divisors.{gcd_of_one}
use Rattle.fractions.proofs.WrittenFractions.{read_back}
use Rattle.game_text.specs.declared.command.Command.{Command}
use Rattle.game_text.specs.declared.command.Command.TheVariants as command
use Rattle.kinds.specs.declared.kind.Kind.{Kind}
use Rattle.kinds.specs.declared.kind.Kind.TheVariants.{Table, Airport, Bankruptcy, Tree, Assignment}
use Rattle.coop_gen.specs.Generated.{HasKindSize}
use Rattle.report.specs.Words.{kind_word}
use Rattle.coop.specs.Words.{word_of, number_text, IsNoCommand, IsRequest, IsFit}
use Rattle.coop.specs.declared.words.Request.{Request}
use Rattle.coop.specs.declared.words.Request.TheVariants.{Read, Generate}

-- ---- words by their places

abbrev word_at : ℕ → List (List ℕ) → List ℕ
word_at k [] = []
word_at zero (word ∷ words) = word
word_at (suc k) (word ∷ words) = word_at k words

-- ---- commands

-- the command of a word, by its length, and for two of one length by the first letter
command_in : List ℕ → Command
command_in w =
    if nat_eq (length w) 9 then command.Nucleolus
    else (if nat_eq (length w) 12 then command.Prenucleolus
    else (if nat_eq (length w) 5 then command.Check
    else (if nat_eq (length w) 8 then command.Matching else of_letter (length w) (slice_index w 0))))
  where
    of_letter : ℕ → ℕ → Command
    of_letter n letter =
        if nat_eq n 7 then (if nat_eq letter 112 then command.Propose else command.Shapley)
        else (if nat_eq n 4 then (if nat_eq letter 99 then command.Core else command.Bird)
        else (if nat_eq letter 99 then command.Convex else command.Kernel))

command_read : (given : Command) → command_in (word_of given) ≡ given
unfolding command_in
command_read command.Nucleolus = refl
command_read command.Prenucleolus = refl
command_read command.Propose = refl
command_read command.Core = refl
command_read command.Check = refl
command_read command.Shapley = refl
command_read command.Bird = refl
command_read command.Convex = refl
command_read command.Kernel = refl
command_read command.Matching = refl

pub one_command : (a b : Command) → word_of a ∷ [] ≡ word_of b ∷ [] → a ≡ b
one_command a b e =
    sym (command_read a) ∙ ap (λ (words : List (List ℕ)). command_in (word_at 0 words)) e ∙ command_read b

-- ---- kinds

-- the kind of a word, by its length, and for two of one length by the first letter
kind_in : List ℕ → Kind
kind_in w =
    if nat_eq (length w) 5 then Table
    else (if nat_eq (length w) 7 then Airport
    else (if nat_eq (length w) 4 then Tree
    else (if nat_eq (slice_index w 0) 98 then Bankruptcy else Assignment)))

kind_read : (kind : Kind) → kind_in (kind_word kind) ≡ kind
unfolding kind_in
kind_read Table = refl
kind_read Airport = refl
kind_read Bankruptcy = refl
kind_read Tree = refl
kind_read Assignment = refl

pub one_kind : (k l : Kind) → kind_word k ≡ kind_word l → k ≡ l
one_kind k l e = sym (kind_read k) ∙ ap kind_in e ∙ kind_read l

-- ---- numbers

abbrev whole : ℕ → Fraction
whole n = record { num = pos n; den = pos 1 }

pub number_read : (n : ℕ) → n < 2 ^ 32 → parsed (number_text n) ≡ Some (whole n)
number_read n h =
    read_back (whole n) (record { positive = omega arith; lowest = gcd_of_one n })
    (omega (arith, ints, h), omega arith)

pub one_number : (m n : ℕ) → m < 2 ^ 32 → n < 2 ^ 32 → number_text m ≡ number_text n → m ≡ n
one_number m n h k e =
    ap (λ (f : Fraction). unsigned_abs f.num)
    (same_Some _ _ (sym (number_read m h) ∙ ap parsed e ∙ number_read n k))

-- a word that is no fraction's is no number's
pub no_number : (word : List ℕ) → None ≡ parsed word → (n : ℕ) → n < 2 ^ 32 → number_text n ≢ word
no_number word none n h e = none-some _ (none ∙ sym (ap parsed e) ∙ number_read n h)

-- a number's word is read as that number
pub read_as_whole : (word : List ℕ) (f : Fraction) → Some f ≡ parsed word → (n : ℕ) → n < 2 ^ 32
    → number_text n ≡ word → f ≡ whole n
read_as_whole word f read n h e = same_Some _ _ (read ∙ sym (ap parsed e) ∙ number_read n h)

-- ---- other words

few_fit : (kind : Kind) (n : ℕ) → HasKindSize kind n → n < 2 ^ 32
few_fit Table n h = omega (arith, h.1)
few_fit Airport n h = omega (arith, h.1)
few_fit Bankruptcy n h = omega (arith, h.1)
few_fit Tree n h = omega (arith, h.1)
few_fit Assignment n h = omega (arith, h.1)

seed_fits : (seed : ℕ) → seed < 2 ^ 31 → seed < 2 ^ 32
seed_fits seed h = omega (arith, h)

module _ (first second third fourth : List ℕ) where
  four_are_not_one : (command : Command) → ¬ (first ∷ second ∷ third ∷ fourth ∷ [] ≡ word_of command ∷ [])
  four_are_not_one command e = absurd (omega (arith, ap (λ (l : List (List ℕ)). length l) e))

  -- the kind has no games of so many players, or the seed is too great
  pub size_is_none : (kind : Kind) (n seed : ℕ) → second ≡ kind_word kind → third ≡ number_text n
      → fourth ≡ number_text seed → n < 2 ^ 32 → seed < 2 ^ 32 → ¬ (HasKindSize kind n × (seed < 2 ^ 31))
      → IsNoCommand (first ∷ second ∷ third ∷ fourth ∷ [])
  size_is_none kind n seed second_is third_is fourth_is small few misfit = record {
    reads = four_are_not_one;
    makes = λ kind' n' seed' g.
        let kinds : kind' ≡ kind = one_kind kind' kind (sym (ap (word_at 1) g.said) ∙ second_is) in
        let numbers : n' ≡ n =
        one_number n' n (few_fit kind' n' g.size) small (sym (ap (word_at 2) g.said) ∙ third_is) in
        let seeds : seed' ≡ seed =
        one_number seed' seed (seed_fits seed' g.small) few (sym (ap (word_at 3) g.said) ∙ fourth_is) in
        misfit (
          subst (λ (k : Kind). HasKindSize k n) kinds (subst (λ (m : ℕ). HasKindSize kind' m) numbers g.size),
          subst (λ (m : ℕ). m < 2 ^ 31) seeds g.small,
        );
  }

-- what words ask for can be answered
pub is_fit : (words : List (List ℕ)) (r : Request) → IsRequest words r → IsFit r
is_fit words (Read command) h = tt
is_fit words (Generate kind n seed) h = (h.size, h.small)
