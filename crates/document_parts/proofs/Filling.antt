-- A sparse table, filled pair by pair.
use Rattle.std.proofs.Common.{◌≡◌, ℕ, zero, suc, ◌+◌, ◌-◌, ◌<◌, ◌≤◌, ◌^◌, List, []}
use Rattle.std.proofs.Common.{◌∷◌, ◌++◌, length, take, drop}
use Rattle.std.proofs.Common.{get_or, set, map, Bool, true, false, not, nat_eq, ◌&&◌, ◌||◌}
use Rattle.std.proofs.Common.{if◌then◌else◌, ℤ, pos}
use Rattle.std.proofs.Common.{Option, Some, None, is_some, refl, sym, ap, ap₂, ◌∙◌, subst}
use Rattle.std.proofs.Common.{arith, inl, inr}
use Rattle.std.specs.Prelude.{unwrap_or}
use Rattle.std.specs.List.{list_any, range_with_len}
use Rattle.std.proofs.lemmas.Bool.{true≢false, eq-eqb, ne_eqb, cases_eq}
use Rattle.std.proofs.lemmas.List.{take_more, take-append-drop, map-append, take_all}
use Rattle.std.proofs.lemmas.List.{get_or-set_same, get_or-set_other, length-set, length-drop}
use Rattle.std.proofs.lemmas.List.{length-map, get_or-map}
use Rattle.std.proofs.lemmas.List.Folds.{list_any-append}
use Rattle.std.proofs.lemmas.Nat.{pow_pos}
use Rattle.serde_json.specs.View.{view}
use Rattle.serde_json.specs.declared.value.Value.{Value}
use Rattle.json_trees.specs.Trees.{pair_members}
use Rattle.json_trees.proofs.Values.{map_views}
use Rattle.document_parts.specs.Members.{mask_of, is_mask, are_coalitions}
use Rattle.document_parts.specs.Numbers.{number_of_mask}
use Rattle.document_parts.specs.Slots.{HasNumbers}
use Rattle.definitions.proofs.Cases.{and_false}

-- a mask and its number
abbrev pub Slot : Type 0
Slot = Option ℕ × ℤ

-- masks and numbers side by side
abbrev pub slots : List (Option ℕ) → List ℤ → List Slot
slots [] zs = []
slots (m ∷ ms) [] = []
slots (m ∷ ms) (z ∷ zs) = (m, z) ∷ slots ms zs

abbrev pub masks : List Slot → List (Option ℕ)
masks ps = map (λ p. p.0) ps

-- the number of the first slot with this mask
abbrev pub found : ℕ → List Slot → Option ℤ
found s [] = None
found s (p ∷ ps) = if is_mask s p.0 then Some p.1 else found s ps

number_step : (b : Bool) (x y other : ℤ) (o : Option ℤ) → y ≡ unwrap_or o other
    → (if b then x else y) ≡ unwrap_or (if b then Some x else o) other
number_step true x y other o e = refl
number_step false x y other o e = e

pub number_found : (ms : List (Option ℕ)) (zs : List ℤ) (other : ℤ) (s : ℕ)
    → number_of_mask ms zs other s ≡ unwrap_or (found s (slots ms zs)) other
number_found [] zs other s = refl
number_found (m ∷ ms) [] other s = refl
number_found (m ∷ ms) (z ∷ zs) other s =
    number_step (is_mask s m) z _ other _ (number_found ms zs other s)

pub masks_are : (ms : List (Option ℕ)) (zs : List ℤ) → length ms ≤ length zs → masks (slots ms zs) ≡ ms
masks_are [] zs h = refl
masks_are (m ∷ ms) [] h = absurd (omega (arith, h))
masks_are (m ∷ ms) (z ∷ zs) h = ap (λ l. m ∷ l) (masks_are ms zs (omega (arith, h)))

slots_long : (ms : List (Option ℕ)) (zs : List ℤ) → length ms ≤ length zs → length (slots ms zs) ≡ length ms
slots_long [] zs h = refl
slots_long (m ∷ ms) [] h = absurd (omega (arith, h))
slots_long (m ∷ ms) (z ∷ zs) h = ap suc (slots_long ms zs (omega (arith, h)))

slot_at : (ms : List (Option ℕ)) (zs : List ℤ) (i : ℕ) (m : Option ℕ) (z : ℤ) → length ms ≤ length zs
    → i < length ms → m ≡ get_or ms i m → z ≡ get_or zs i (pos 0) → (m, z) ≡ get_or (slots ms zs) i (m, z)
slot_at [] zs i m z h lt e f = absurd (omega (arith, lt))
slot_at (a ∷ ms) [] i m z h lt e f = absurd (omega (arith, h))
slot_at (a ∷ ms) (y ∷ zs) zero m z h lt e f = ap₂ {C = Slot} (λ o w. (o, w)) e f
slot_at (a ∷ ms) (y ∷ zs) (suc i) m z h lt e f =
    slot_at ms zs i m z (omega (arith, h)) (omega (arith, lt)) e f

-- ---- one more slot

abbrev first_of_two : Option ℤ → Option ℤ → Option ℤ
first_of_two None p = p
first_of_two (Some z) p = Some z

found_step : (b : Bool) (z : ℤ) (o r t : Option ℤ) → o ≡ first_of_two r t
    → (if b then Some z else o) ≡ first_of_two (if b then Some z else r) t
found_step true z o r t e = refl
found_step false z o r t e = e

pub found_more : (s : ℕ) (ps : List Slot) (p : Slot)
    → found s (ps ++ p ∷ []) ≡ first_of_two (found s ps) (if is_mask s p.0 then Some p.1 else None)
found_more s [] p = refl
found_more s (q ∷ ps) p = found_step (is_mask s q.0) q.1 _ _ _ (found_more s ps p)

any_step : (b : Bool) (z : ℤ) (a : Bool) (o : Option ℤ) → a ≡ is_some o
    → (b || a) ≡ is_some (if b then Some z else o)
any_step true z a o e = refl
any_step false z a o e = e

any_found : (s : ℕ) (ps : List Slot) → list_any (is_mask s) (masks ps) ≡ is_some (found s ps)
any_found s [] = refl
any_found s (p ∷ ps) = any_step (is_mask s p.0) p.1 _ _ (any_found s ps)

same_mask : (s t : ℕ) → nat_eq s t ≡ nat_eq t s
same_mask s t = elim (cases_eq s t) [
  | inl e ↦ eq-eqb s t e ∙ sym (eq-eqb t s (sym e))
  | inr e ↦ ne_eqb s t e ∙ sym (ne_eqb t s (λ f. e (sym f)))
]

mixed : (a e d b : Bool) → (not (a || (e || false)) && (d && not b)) ≡ ((not a && d) && not (e || b))
mixed true e d b = refl
mixed false true true b = refl
mixed false true false b = refl
mixed false false true b = refl
mixed false false false b = refl

-- whether the masks in front and one more are coalitions, none twice
abbrev fresh : List (Option ℕ) → Option ℕ → Bool
fresh os None = false
fresh os (Some s) = not (list_any (is_mask s) os)

last_alone : (o : Option ℕ) → are_coalitions (o ∷ []) ≡ (true && fresh [] o)
last_alone None = refl
last_alone (Some s) = refl

pub coalitions_more : (os : List (Option ℕ)) (o : Option ℕ)
    → are_coalitions (os ++ o ∷ []) ≡ (are_coalitions os && fresh os o)
coalitions_more [] o = last_alone o
coalitions_more (None ∷ os) None = refl
coalitions_more (None ∷ os) (Some s) = refl
coalitions_more (Some t ∷ os) None =
    ap (λ b. not (list_any (is_mask t) (os ++ None ∷ [])) && b)
    (coalitions_more os None ∙ and_false (are_coalitions os))
    ∙ and_false (not (list_any (is_mask t) (os ++ None ∷ [])))
    ∙ sym (and_false (not (list_any (is_mask t) os) && are_coalitions os))
coalitions_more (Some t ∷ os) (Some s) =
    ap₂ (λ a b. not a && b)
    (list_any-append (is_mask t) os (Some s ∷ [])
    ∙ ap (λ e. list_any (is_mask t) os || (e || false)) (same_mask t s)) (coalitions_more os (Some s))
    ∙ mixed (list_any (is_mask t) os) (nat_eq s t) (are_coalitions os) (list_any (is_mask s) os)

any_front : (s : ℕ) (os ps : List (Option ℕ)) → list_any (is_mask s) os ≡ true
    → list_any (is_mask s) (os ++ ps) ≡ true
any_front s os ps h = list_any-append (is_mask s) os ps ∙ ap (λ a. a || list_any (is_mask s) ps) h

front_step : (a d b e : Bool) → (a ≡ true → b ≡ true) → (d ≡ false → e ≡ false) → (not a && d) ≡ false
    → (not b && e) ≡ false
front_step true d b e f g h = ap (λ c. not c && e) (f refl)
front_step false true b e f g h = absurd (true≢false h)
front_step false false b e f g h = ap (λ c. not b && c) (g refl) ∙ and_false (not b)

coalitions_front : (os ps : List (Option ℕ)) → are_coalitions os ≡ false → are_coalitions (os ++ ps) ≡ false
coalitions_front [] ps h = absurd (true≢false h)
coalitions_front (None ∷ os) ps h = refl
coalitions_front (Some s ∷ os) ps h =
    front_step (list_any (is_mask s) os) (are_coalitions os) _ _ (any_front s os ps) (coalitions_front os ps) h

-- ---- the loop

-- the table has the numbers of the first i slots, whose masks are those of coalitions
pub record IsFilled (n : ℕ) (ps : List Slot) (i : ℕ) (table : List (Option ℤ)) : Type 0 where
  pub size : length table ≡ 2 ^ n
  pub numbers : (s : ℕ) → s < 2 ^ n → get_or table s None ≡ found s (take i ps)
  pub good : are_coalitions (masks (take i ps)) ≡ true

module _ (n : ℕ) (ps : List Slot) where
  slots_more : (i : ℕ) (p : Slot) → i < length ps → p ≡ get_or ps i p → take (i + 1) ps ≡ take i ps ++ p ∷ []
  slots_more i p h at = take_more ps i p h ∙ ap (λ q. take i ps ++ q ∷ []) (sym at)

  masks_more : (i : ℕ) (p : Slot) → i < length ps → p ≡ get_or ps i p
      → masks (take (i + 1) ps) ≡ masks (take i ps) ++ p.0 ∷ []
  masks_more i p h at = ap masks (slots_more i p h at) ∙ map-append (λ q. q.0) (take i ps) (p ∷ [])

  module _ (i : ℕ) (p : Slot) (h : i < length ps) (at : p ≡ get_or ps i p) (table : List (Option ℤ))
      (filled : IsFilled n ps i table) where
    spoilt : fresh (masks (take i ps)) p.0 ≡ false → are_coalitions (masks ps) ≡ false
    spoilt bad =
        let front : are_coalitions (masks (take (i + 1) ps)) ≡ false =
        ap are_coalitions (masks_more i p h at) ∙ coalitions_more (masks (take i ps)) p.0
        ∙ ap₂ (λ a b. a && b) filled.good bad in
        ap are_coalitions
        (ap masks (sym (take-append-drop (i + 1) ps))
        ∙ map-append (λ q. q.0) (take (i + 1) ps) (drop (i + 1) ps))
        ∙ coalitions_front (masks (take (i + 1) ps)) (masks (drop (i + 1) ps)) front

    pub no_mask : None ≡ p.0 → are_coalitions (masks ps) ≡ false
    no_mask e = spoilt (ap (fresh (masks (take i ps))) (sym e))

    any_at : (m : ℕ) → m < 2 ^ n → list_any (is_mask m) (masks (take i ps)) ≡ is_some (get_or table m None)
    any_at m within = any_found m (take i ps) ∙ ap is_some (sym (filled.numbers m within))

    pub taken : (m : ℕ) → Some m ≡ p.0 → m < 2 ^ n → is_some (get_or table m None) ≡ true
        → are_coalitions (masks ps) ≡ false
    taken m e within there =
        spoilt (ap (fresh (masks (take i ps))) (sym e) ∙ ap not (any_at m within ∙ there))

    pub IsFilled-more : (m : ℕ) → Some m ≡ p.0 → m < 2 ^ n → is_some (get_or table m None) ≡ false
        → IsFilled n ps (i + 1) (set table m (Some p.1))
    IsFilled-more m e within free =
        let none : get_or table m None ≡ None = none_from (get_or table m None) free in
        let more = λ (s : ℕ). ap (found s) (slots_more i p h at) ∙ found_more s (take i ps) p in
        record {
          size = length-set table m (Some p.1) ∙ filled.size;
          numbers = λ s below. elim (cases_eq s m) [
            | inl same ↦
                subst (λ t. get_or (set table m (Some p.1)) t None ≡ found t (take (i + 1) ps)) (sym same)
                (get_or-set_same table m (Some p.1) None (omega (arith, filled.size))
                ∙ sym
                (more m
                ∙ ap₂ (λ a b. first_of_two a (if b then Some p.1 else None))
                (sym (filled.numbers m within) ∙ none) (ap (is_mask m) (sym e) ∙ eq-eqb m m refl)))
            | inr other ↦
                get_or-set_other table m s (Some p.1) None other ∙ filled.numbers s below
                ∙ sym
                (more s
                ∙ ap (λ b. first_of_two (found s (take i ps)) (if b then Some p.1 else None))
                (ap (is_mask s) (sym e) ∙ ne_eqb s m other) ∙ keeps (found s (take i ps)))
          ];
          good =
              ap are_coalitions (masks_more i p h at) ∙ coalitions_more (masks (take i ps)) p.0
              ∙ ap₂ (λ a b. a && b) filled.good
              (ap (fresh (masks (take i ps))) (sym e) ∙ ap not (any_at m within ∙ free));
        }
      where
        none_from : (o : Option ℤ) → is_some o ≡ false → o ≡ None
        none_from None k = refl
        none_from (Some z) k = absurd (true≢false k)

        keeps : (o : Option ℤ) → first_of_two o None ≡ o
        keeps None = refl
        keeps (Some z) = refl

  IsFilled-over : (i : ℕ) (table : List (Option ℤ)) → length ps ≤ i → IsFilled n ps i table
      → (are_coalitions (masks ps) ≡ true) × ((s : ℕ) → s < 2 ^ n → get_or table s None ≡ found s ps)
  IsFilled-over i table h filled =
      let all = take_all i ps h in (
        ap (λ l. are_coalitions (masks l)) (sym all) ∙ filled.good,
        λ s below. filled.numbers s below ∙ ap (found s) all,
      )

-- ---- from slots to numbers

map_range : (f : ℕ → ℤ) (other : ℤ) (table : List (Option ℤ)) (k : ℕ)
    → ((s : ℕ) → s < length table → unwrap_or (get_or table s None) other ≡ f (k + s))
    → map (λ o. unwrap_or o other) table ≡ map f (range_with_len k (length table))
map_range f other [] k h = refl
map_range f other (o ∷ table) k h =
    let same : k + 0 ≡ k = omega arith in
    let first : unwrap_or o other ≡ f k = h 0 (omega arith) ∙ ap f same in
    let rest = map_range f other table (k + 1) (λ s below. h (suc s) (omega arith) ∙ ap f (shift k s)) in
    ap₂ (λ (a : ℤ) (l : List ℤ). a ∷ l) first rest
  where
    shift : (k s : ℕ) → k + suc s ≡ k + 1 + s
    shift k s = omega arith

pub numbers_are : (f : ℕ → ℤ) (other : ℤ) (table : List (Option ℤ)) (m : ℕ) → length table ≡ m + 1
    → ((s : ℕ) → s < m + 1 → unwrap_or (get_or table s None) other ≡ f s)
    → map (λ o. unwrap_or o other) (drop 1 table) ≡ map f (range_with_len 1 m)
numbers_are f other [] m size h = absurd (omega arith)
numbers_are f other (o ∷ table) m size h =
    let long : length table ≡ m = omega arith in
    map_range f other table 1 (λ s below. h (suc s) (omega arith) ∙ ap f (flip s))
    ∙ ap (λ k. map f (range_with_len 1 k)) long
  where
    flip : (s : ℕ) → suc s ≡ 1 + s
    flip s = omega arith

pub whole_tail : (xs : List (Option ℤ)) → take (length xs - 1) (drop 1 xs) ≡ drop 1 xs
whole_tail xs = take_all (length xs - 1) (drop 1 xs) (omega (arith, length-drop 1 xs))

pub HasNumbers-over : (n : ℕ) (ms : List (Option ℕ)) (zs : List ℤ) (i : ℕ) (table : List (Option ℤ))
    → length ms ≤ length zs → length ms ≤ i → IsFilled n (slots ms zs) i table → HasNumbers n ms zs table
HasNumbers-over n ms zs i table each h filled =
    let long = slots_long ms zs each in
    let all = IsFilled-over n (slots ms zs) i table (omega (arith, long, h)) filled in
    let some = pow_pos n in
    let size : length table ≡ 2 ^ n - 1 + 1 = omega (arith, filled.size) in
    record {
      good = ap are_coalitions (sym (masks_are ms zs each)) ∙ all.0;
      size = filled.size;
      listed =
          λ other. numbers_are (number_of_mask ms zs other) other table (2 ^ n - 1) size
          (λ s below. ap (λ o. unwrap_or o other) (all.1 s (omega arith)) ∙ sym (number_found ms zs other s));
    }

-- ---- the pairs

-- the mask of each pair
abbrev pub masks_of : ℕ → List (List ℕ) → List Value → List (Option ℕ)
masks_of n names vs = map (λ pair. mask_of n names (pair_members pair)) (map view vs)

-- one pair, and the number beside it
module _ (n : ℕ) (names : List (List ℕ)) (vs : List Value) (zs : List ℤ) (each : length vs ≤ length zs) (i : ℕ)
    (v : Value) (z : ℤ) (lt : i < length vs) (at : v ≡ get_or vs i v) (beside : z ≡ get_or zs i (pos 0))
    (table : List (Option ℤ)) (filled : IsFilled n (slots (masks_of n names vs) zs) i table) where
  abbrev ms : List (Option ℕ)
  ms = masks_of n names vs

  abbrev mask : Option ℕ
  mask = mask_of n names (pair_members (view v))

  long : length ms ≡ length vs
  long = length-map (map view vs) (λ pair. mask_of n names (pair_members pair)) ∙ length-map vs view

  fits : length ms ≤ length zs
  fits = omega (arith, long, each)

  below : i < length (slots ms zs)
  below = omega (arith, slots_long ms zs fits, long, lt)

  mask_at : mask ≡ get_or ms i mask
  mask_at =
      ap (λ w. mask_of n names (pair_members (view w))) at
      ∙ sym (get_or-map (λ w. mask_of n names (pair_members (view w))) vs i v mask lt)
      ∙ ap (λ l. get_or l i mask) (sym (map_views (λ pair. mask_of n names (pair_members pair)) vs))

  slot : (mask, z) ≡ get_or (slots ms zs) i (mask, z)
  slot = slot_at ms zs i mask z fits (omega (arith, long, lt)) mask_at beside

  pub pair_without_mask : None ≡ mask → are_coalitions ms ≡ false
  pair_without_mask e =
      ap are_coalitions (sym (masks_are ms zs fits))
      ∙ no_mask n (slots ms zs) i (mask, z) below slot table filled e

  pub pair_again : (m : ℕ) → Some m ≡ mask → m < 2 ^ n → is_some (get_or table m None) ≡ true
      → are_coalitions ms ≡ false
  pair_again m e within there =
      ap are_coalitions (sym (masks_are ms zs fits))
      ∙ taken n (slots ms zs) i (mask, z) below slot table filled m e within there

  pub pair_more : (m : ℕ) → Some m ≡ mask → m < 2 ^ n → is_some (get_or table m None) ≡ false
      → IsFilled n (slots ms zs) (i + 1) (set table m (Some z))
  pair_more m e within free =
      IsFilled-more n (slots ms zs) i (mask, z) below slot table filled m e within free

pub pairs_over : (n : ℕ) (names : List (List ℕ)) (vs : List Value) (zs : List ℤ) (i : ℕ) (table : List (Option ℤ))
    → length vs ≤ length zs → length vs ≤ i → IsFilled n (slots (masks_of n names vs) zs) i table
    → HasNumbers n (masks_of n names vs) zs table
pairs_over n names vs zs i table each h filled =
    let long : length (masks_of n names vs) ≡ length vs =
    length-map (map view vs) (λ pair. mask_of n names (pair_members pair)) ∙ length-map vs view in
    HasNumbers-over n (masks_of n names vs) zs i table (omega (arith, long, each)) (omega (arith, long, h)) filled
