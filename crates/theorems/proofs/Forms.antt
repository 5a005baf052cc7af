-- The form of a small certificate in mode players, or of at most 16 players, from a test that computes.
use Rattle.std.proofs.Common.{◌≡◌, ◌⊎◌, ℕ, ◌+◌, ◌^◌, ◌≤◌, Bool, true, ◌&&◌, nat_lt, nat_le, List, [], ◌∷◌, ◌++◌}
use Rattle.std.proofs.Common.{length, ℤ, pos, int_le, unsigned_abs, arith}
use Rattle.std.specs.List.{AllByRecursion, list_all}
use Rattle.std.proofs.lemmas.Bool.{and_parts, ltb-true, leb-true}
use Rattle.std.proofs.lemmas.Int.{ints}
use Rattle.definitions.specs.Coalitions.{grand_coalition}
use Rattle.definitions.specs.Certificates.{Level, is_listed, Ascends, LevelForm, LevelsForm, HasForm}
use Rattle.definitions.specs.declared.Mode.{Mode}
use Rattle.definitions.specs.declared.Mode.TheVariants.{Players}

pub all_from : {X : Type 0} (test : X → Bool) (P : X → Type 0) → ((x : X) → test x ≡ true → P x) → (xs : List X)
    → list_all test xs ≡ true → AllByRecursion P xs
all_from test P each [] h = tt
all_from test P each (x ∷ xs) h =
    let parts = and_parts (test x) (list_all test xs) h in
    (each x parts.0, all_from test P each xs parts.1)

abbrev pub ascends : ℕ → List (ℕ × ℤ) → Bool
ascends low [] = true
ascends low (p ∷ ps) = nat_le low p.0 && ascends (p.0 + 1) ps

ascends_from : (low : ℕ) (ps : List (ℕ × ℤ)) → ascends low ps ≡ true → Ascends low ps
ascends_from low [] h = tt
ascends_from low (p ∷ ps) h =
    let parts = and_parts (nat_le low p.0) (ascends (p.0 + 1) ps) h in
    (leb-true low p.0 parts.0, ascends_from (p.0 + 1) ps parts.1)

abbrev pub has_sizes : Level → Bool
has_sizes l =
    int_le (pos 1) l.excess_den
    && (nat_le 1 (length l.coalitions) && (nat_le (length l.coalitions) 65536 && nat_le (length l.earlier) 65536))

abbrev pub has_keys : ℕ → List Level → Level → Bool
has_keys n front l =
    list_all (λ c. nat_lt 0 c.0 && nat_lt c.0 (grand_coalition n)) l.coalitions
    && (list_all (λ c. is_listed front c.0) l.earlier && list_all (λ b. nat_lt b.0 n) l.bounds)

abbrev pub has_order : Level → Bool
has_order l = ascends 0 l.coalitions && (ascends 0 l.earlier && ascends 0 l.bounds)

abbrev pub is_small : ℤ → Bool
is_small z = nat_lt (unsigned_abs z) (2 ^ 63)

abbrev pub has_weights : Level → Bool
has_weights l = list_all (λ p. is_small p.1) (l.coalitions ++ l.earlier ++ l.bounds) && is_small l.total

abbrev pub level_form : ℕ → List Level → Level → Bool
level_form n front l = has_sizes l && (has_keys n front l && (has_order l && has_weights l))

level_from : (n : ℕ) (front : List Level) (l : Level) → level_form n front l ≡ true → LevelForm n front l
level_from n front l h =
    let whole = and_parts (has_sizes l) (has_keys n front l && (has_order l && has_weights l)) h in
    let rest = and_parts (has_keys n front l) (has_order l && has_weights l) whole.1 in
    let last = and_parts (has_order l) (has_weights l) rest.1 in
    let sizes = and_parts (int_le (pos 1) l.excess_den) _ whole.0 in
    let some = and_parts (nat_le 1 (length l.coalitions)) _ sizes.1 in
    let few = and_parts (nat_le (length l.coalitions) 65536) (nat_le (length l.earlier) 65536) some.1 in
    let keys = and_parts (list_all (λ c. nat_lt 0 c.0 && nat_lt c.0 (grand_coalition n)) l.coalitions) _ rest.0 in
    let others =
    and_parts (list_all (λ c. is_listed front c.0) l.earlier) (list_all (λ b. nat_lt b.0 n) l.bounds) keys.1 in
    let order = and_parts (ascends 0 l.coalitions) (ascends 0 l.earlier && ascends 0 l.bounds) last.0 in
    let orders = and_parts (ascends 0 l.earlier) (ascends 0 l.bounds) order.1 in
    let weights =
    and_parts (list_all (λ p. is_small p.1) (l.coalitions ++ l.earlier ++ l.bounds)) (is_small l.total) last.1 in
    record {
      fraction = grind (arith, ints, sizes.0);
      some = leb-true _ _ some.0;
      few = leb-true _ _ few.0;
      few_earlier = leb-true _ _ few.1;
      proper = all_from _ _ (λ c e. let both = and_parts (nat_lt 0 c.0) (nat_lt c.0 (grand_coalition n)) e in
          (ltb-true _ _ both.0, ltb-true _ _ both.1)) l.coalitions keys.0;
      listed = all_from _ _ (λ c e. e) l.earlier others.0;
      players = all_from _ _ (λ b e. ltb-true _ _ e) l.bounds others.1;
      ascend = ascends_from 0 l.coalitions order.0;
      earlier_ascend = ascends_from 0 l.earlier orders.0;
      bounds_ascend = ascends_from 0 l.bounds orders.1;
      small = all_from _ _ (λ p e. ltb-true _ _ e) (l.coalitions ++ l.earlier ++ l.bounds) weights.0;
      total_small = ltb-true _ _ weights.1;
    }

abbrev pub levels_form : ℕ → List Level → List Level → Bool
levels_form n front [] = true
levels_form n front (l ∷ levels) = level_form n front l && levels_form n (front ++ l ∷ []) levels

levels_from : (n : ℕ) (front levels : List Level) → levels_form n front levels ≡ true → LevelsForm n front levels
levels_from n front [] h = tt
levels_from n front (l ∷ levels) h =
    let parts = and_parts (level_form n front l) (levels_form n (front ++ l ∷ []) levels) h in
    (level_from n front l parts.0, levels_from n (front ++ l ∷ []) levels parts.1)

-- fewer levels than there are players, each with its form
abbrev pub has_form : ℕ → List Level → Bool
has_form n levels = nat_le (length levels + 1) n && levels_form n [] levels

pub HasForm-from_test : (mode : Mode) (n : ℕ) (levels : List Level) → (mode ≡ Players) ⊎ (n ≤ 16)
    → has_form n levels ≡ true → HasForm mode n levels
HasForm-from_test mode n levels players h =
    let parts = and_parts (nat_le (length levels + 1) n) (levels_form n [] levels) h in
    record { players = players; few = leb-true _ _ parts.0; each = levels_from n [] levels parts.1 }
