-- Numbers that are read one after another.
use Rattle.std.proofs.Common.{◌≡◌, ℕ, zero, suc, ◌+◌, ◌*◌, ◌/◌, ◌<◌, ◌≤◌, ℤ, pos, ◌*ℤ◌, unsigned_abs, nat_le}
use Rattle.std.proofs.Common.{List, [], ◌∷◌, ◌++◌, length, get_or, take, drop, map, Bool, true, false, ◌&&◌}
use Rattle.std.proofs.Common.{Option, Some, None, is_some, option_map, option_and_then, if◌then◌else◌}
use Rattle.std.proofs.Common.{refl, sym, ap, ap₂, ◌∙◌, subst, arith}
use Rattle.std.specs.Prelude.{unwrap_or, ⊤}
use Rattle.std.specs.List.{list_all}
use Prim.Native.Nat.{◌∣◌}
use Rattle.std.proofs.lemmas.Bool.{false≢true, and_parts, and_from, and_left, and_right, leb-true, le-leb}
use Rattle.std.proofs.lemmas.List.{take_more, take_all, take-append-drop, map-append, length-map, get_or-map}
use Rattle.std.proofs.lemmas.List.Folds.{list_all-append}
use Rattle.std.proofs.lemmas.Nat.Gcd.{dvd_refl, le_of_dvd}
use Rattle.std.proofs.Common.{Bor}
use Rattle.serde_json.specs.Data.{Data}
use Rattle.serde_json.specs.View.{view}
use Rattle.serde_json.specs.declared.value.Value.{Value}
use Rattle.fractions.specs.Divisors.{gcd}
use Rattle.fractions.specs.Fraction.{Fraction}
use Rattle.fractions.proofs.Divisors.{times_quotient}
use Rattle.worth_core.specs.LeastDenominators.{numerator_over}
use Rattle.json_trees.specs.Fractions.{fraction_of}
use Rattle.document_parts.specs.CommonMultiples.{lcm}
use Rattle.document_parts.specs.ScaledNumbers.{is_small, if_small, number_or_zero}
use Rattle.document_parts.specs.Numbers.{seen, with_fraction, are_worths, AreWorths}
use Rattle.document_parts.proofs.CommonScales.{den, least, den_positive, least_positive, lcm_is}
use Rattle.document_parts.proofs.CommonScales.{least_append, least_more}
use Rattle.document_parts.proofs.Raising.{is_worth, worths_raised, numbers_raised, worths_before, worths_small}

-- ---- worths with more numbers behind them

factor_positive : (k c : ℕ) → 0 < k * c → 0 < c
factor_positive k zero p = omega (arith, p)
factor_positive k (suc c) p = omega arith

front_worths : (ds es : List Data) → are_worths (ds ++ es) ≡ true → are_worths ds ≡ true
front_worths ds es h =
    let k = least ds in
    let c = least es / gcd k (least es) in
    let whole : least (ds ++ es) ≡ k * c = least_append ds es in
    let m = lcm_is k (least es) (least_positive ds) (least_positive es) in
    let p =
    and_parts (nat_le (least (ds ++ es)) 65536) (list_all (is_worth (least (ds ++ es))) (ds ++ es)) h in
    let few = leb-true (least (ds ++ es)) 65536 p.0 in
    let le : k ≤ k * c = le_of_dvd m.positive m.left in
    let all = subst (λ n. list_all (is_worth n) (ds ++ es) ≡ true) whole p.1 in
    let front =
    (and_parts (list_all (is_worth (k * c)) ds) (list_all (is_worth (k * c)) es)
    (sym (list_all-append (is_worth (k * c)) ds es) ∙ all)).0 in
    and_from (nat_le k 65536) (list_all (is_worth k) ds) (le-leb k 65536 (omega (arith, few, whole, le)))
    (worths_before k c ds (dvd_refl k) (factor_positive k c m.positive) front)

not_true : (b : Bool) → (b ≡ true → ⊥) → b ≡ false
not_true true h = absurd (h refl)
not_true false h = refl

-- what is too large or too fine stays so
pub bad_front : (ds : List Data) (i : ℕ) → are_worths (take i ds) ≡ false → are_worths ds ≡ false
bad_front ds i e =
    not_true (are_worths ds) (λ h. false≢true
    (sym e
    ∙ front_worths (take i ds) (drop i ds) (ap are_worths (take-append-drop i ds) ∙ h)))

-- ---- one more number

-- the numbers zs are those of ds, times their scale k
pub record IsRead (ds : List Data) (k : ℕ) (zs : List ℤ) : Type 0 where
  pub scale : k ≡ least ds
  pub few : k ≤ 65536
  pub worths : list_all (is_worth k) ds ≡ true
  pub numbers : zs ≡ map (number_or_zero k) ds

abbrev IsNothing : Option (ℕ × ℤ) → Type 0
IsNothing None = ⊤
IsNothing (Some p) = ⊥

abbrev den_of : Option Fraction → ℕ
den_of o = unsigned_abs (unwrap_or o (record { num = pos 0; den = pos 1 })).den

-- the number is over the scale m
abbrev over : ℕ → Option Fraction → Option ℤ
over m o = if_small (option_map (numerator_over (pos m)) o)

no_pair : (m : ℕ) (o : Option ℤ) → IsNothing (option_map (λ z. (m, z)) o) → is_some o ≡ false
no_pair m None h = refl
no_pair m (Some z) h = absurd h

stopped_by : (b : Bool) (m : ℕ) (f : ℕ → Option ℤ)
    → IsNothing (option_and_then (λ n. option_map (λ z. (n, z)) (f n)) (if b then Some m else None))
    → (b && is_some (f m)) ≡ false
stopped_by true m f h = no_pair m (f m) h
stopped_by false m f h = refl

stopped : (k : ℕ) (o : Option Fraction) → IsNothing (option_and_then (with_fraction k) o)
    → (nat_le (lcm k (den_of o)) 65536 && is_some (over (lcm k (den_of o)) o)) ≡ false
stopped k None h = and_right (nat_le (lcm k 1) 65536) false refl
stopped k (Some f) h =
    stopped_by (nat_le (lcm k (unsigned_abs f.den)) 65536) (lcm k (unsigned_abs f.den))
    (λ m. if_small (Some (numerator_over (pos m) f))) h

record IsNext (k m : ℕ) (z : ℤ) (o : Option Fraction) : Type 0 where
  scale : m ≡ lcm k (den_of o)
  few : m ≤ 65536
  number : over m o ≡ Some z

abbrev AreNext : ℕ → Option Fraction → Option (ℕ × ℤ) → Type 0
AreNext k o None = ⊤
AreNext k o (Some p) = IsNext k p.0 p.1 o

next_number : (k m : ℕ) (f : Fraction) (o : Option ℤ) → m ≡ lcm k (unsigned_abs f.den) → m ≤ 65536
    → if_small (Some (numerator_over (pos m) f)) ≡ o → AreNext k (Some f) (option_map (λ z. (m, z)) o)
next_number k m f None e h n = tt
next_number k m f (Some z) e h n = record { scale = e; few = h; number = n }

next_by : (k m : ℕ) (f : Fraction) (b : Bool) → m ≡ lcm k (unsigned_abs f.den) → nat_le m 65536 ≡ b
    → AreNext k (Some f)
    (option_and_then (λ n. option_map (λ z. (n, z)) (if_small (Some (numerator_over (pos n) f))))
    (if b then Some m else None))
next_by k m f true e h = next_number k m f (if_small (Some (numerator_over (pos m) f))) e (leb-true m 65536 h) refl
next_by k m f false e h = tt

nexts : (k : ℕ) (o : Option Fraction) → AreNext k o (option_and_then (with_fraction k) o)
nexts k None = tt
nexts k (Some f) = next_by k (lcm k (unsigned_abs f.den)) f (nat_le (lcm k (unsigned_abs f.den)) 65536) refl refl

one_bad : (a l w : Bool) → (a && w) ≡ false → (a && (l && (w && true))) ≡ false
one_bad false l w h = refl
one_bad true false w h = refl
one_bad true true w h = ap (λ b. b && true) h

-- a number that stops reading
pub stops : (ds : List Data) (d : Data) (k : ℕ) (zs : List ℤ) → IsRead ds k zs
    → None ≡ option_and_then (with_fraction k) (fraction_of d) → are_worths (ds ++ d ∷ []) ≡ false
stops ds d k zs read e =
    let m = lcm k (den d) in
    let whole : least (ds ++ d ∷ []) ≡ m = least_more ds d ∙ ap (λ n. lcm n (den d)) (sym read.scale) in
    let bad = stopped k (fraction_of d) (subst IsNothing e tt) in
    ap (λ n. nat_le n 65536 && list_all (is_worth n) (ds ++ d ∷ [])) whole
    ∙ ap (λ b. nat_le m 65536 && b) (list_all-append (is_worth m) ds (d ∷ []))
    ∙ one_bad (nat_le m 65536) (list_all (is_worth m) ds) (is_worth m d) bad

module _ (ds : List Data) (d : Data) (k m : ℕ) (z : ℤ) (zs : List ℤ) (read : IsRead ds k zs)
    (e : Some (m, z) ≡ option_and_then (with_fraction k) (fraction_of d)) where
  next : IsNext k m z (fraction_of d)
  next = subst (AreNext k (fraction_of d)) (sym e) (nexts k (fraction_of d))

  whole : least (ds ++ d ∷ []) ≡ m
  whole = least_more ds d ∙ ap (λ n. lcm n (den d)) (sym read.scale) ∙ sym next.scale

  positive : 0 < k
  positive = subst (λ (n : ℕ). 0 < n) (sym read.scale) (least_positive ds)

  -- the scale grows by a factor
  factor : k * (m / k) ≡ m
  factor =
      times_quotient m k
      (subst (λ n. k ∣ n) (sym next.scale) (lcm_is k (den d) positive (den_positive d)).left)

  divides : least ds ∣ k
  divides = subst (λ n. n ∣ k) read.scale (dvd_refl k)

  worths_then : list_all (is_worth m) ds ≡ list_all (λ y. is_small (y *ℤ pos (m / k))) zs
  worths_then =
      ap (λ n. list_all (is_worth n) ds) (sym factor) ∙ worths_raised k (m / k) ds divides read.worths
      ∙ ap (list_all (λ y. is_small (y *ℤ pos (m / k)))) (sym read.numbers)

  -- a number in front is too large over the new scale
  pub stops_in_front : list_all (λ y. is_small (y *ℤ pos (m / k))) zs ≡ false → are_worths (ds ++ d ∷ []) ≡ false
  stops_in_front h =
      ap (λ n. nat_le n 65536 && list_all (is_worth n) (ds ++ d ∷ [])) whole
      ∙ and_right (nat_le m 65536) (list_all (is_worth m) (ds ++ d ∷ []))
      (list_all-append (is_worth m) ds (d ∷ []) ∙ and_left (list_all (is_worth m) ds) (is_worth m d && true)
      (worths_then ∙ h))

  pub goes_on : list_all (λ y. is_small (y *ℤ pos (m / k))) zs ≡ true
      → IsRead (ds ++ d ∷ []) m (map (λ y. y *ℤ pos (m / k)) zs ++ z ∷ [])
  goes_on h =
      let small = subst (λ l. list_all (λ y. is_small (y *ℤ pos (m / k))) l ≡ true) read.numbers h in
      let front : map (λ y. y *ℤ pos (m / k)) zs ≡ map (number_or_zero m) ds =
      ap (map (λ y. y *ℤ pos (m / k))) read.numbers
      ∙ sym (numbers_raised k (m / k) ds divides read.worths small)
      ∙ ap (λ n. map (number_or_zero n) ds) factor in
      let last : z ≡ number_or_zero m d = ap (λ o. unwrap_or o (pos 0)) (sym next.number) in
      record {
        scale = sym whole;
        few = next.few;
        worths =
            list_all-append (is_worth m) ds (d ∷ [])
            ∙ and_from (list_all (is_worth m) ds) (is_worth m d && true) (worths_then ∙ h)
            (and_from (is_worth m d) true (ap is_some next.number) refl);
        numbers =
            ap₂ (λ (l : List ℤ) (y : ℤ). l ++ y ∷ []) front last
            ∙ sym (map-append (number_or_zero m) ds (d ∷ []));
      }

-- ---- all

pub small_read : (ds : List Data) (k : ℕ) (zs : List ℤ) → IsRead ds k zs → list_all is_small zs ≡ true
small_read ds k zs read = ap (list_all is_small) read.numbers ∙ worths_small k ds read.worths

pub positive_read : (ds : List Data) (k : ℕ) (zs : List ℤ) → IsRead ds k zs → 0 < k
positive_read ds k zs read = subst (λ (n : ℕ). 0 < n) (sym read.scale) (least_positive ds)

pub all_read : (ds : List Data) (i k : ℕ) (zs : List ℤ) → length ds ≤ i → IsRead (take i ds) k zs
    → AreWorths ds k zs
all_read ds i k zs h front =
    let read : IsRead ds k zs = subst (λ l. IsRead l k zs) (take_all i ds h) front in
    record {
      worths =
          ap (λ n. nat_le n 65536 && list_all (is_worth n) ds) (sym read.scale)
          ∙ and_from (nat_le k 65536) (list_all (is_worth k) ds) (le-leb k 65536 read.few) read.worths;
      scale = read.scale;
      numbers = read.numbers;
    }

pub seen_more : (vs : List (Bor Value)) (i : ℕ) (v : Bor Value) → i < length vs → v ≡ get_or vs i v
    → take (i + 1) (seen vs) ≡ take i (seen vs) ++ view v.now ∷ []
seen_more vs i v h at =
    let d = view v.now in
    let long = length-map vs (λ (w : Bor Value). view w.now) in
    take_more (seen vs) i d (omega (arith, long, h))
    ∙ ap (λ e. take i (seen vs) ++ e ∷ [])
    (get_or-map (λ (w : Bor Value). view w.now) vs i v d h ∙ ap (λ (w : Bor Value). view w.now) (sym at))

pub bad_value : (vs : List (Bor Value)) (i : ℕ) (v : Bor Value) → i < length vs → v ≡ get_or vs i v
    → are_worths (take i (seen vs) ++ view v.now ∷ []) ≡ false → are_worths (seen vs) ≡ false
bad_value vs i v h at e = bad_front (seen vs) (i + 1) (ap are_worths (seen_more vs i v h at) ∙ e)

pub all_seen : (vs : List (Bor Value)) (i k : ℕ) (zs : List ℤ) → length vs ≤ i → IsRead (take i (seen vs)) k zs
    → AreWorths (seen vs) k zs
all_seen vs i k zs h front =
    let long = length-map vs (λ (w : Bor Value). view w.now) in all_read (seen vs) i k zs (omega (arith, long, h)) front
