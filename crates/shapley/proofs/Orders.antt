-- The sum over all orders of what a player adds is a sum over the coalitions in front of it.
--
-- An order of n players is one of the others with the last player put into some place. So the total is a sum over the
-- coalitions s without the player: what it adds to s, times the number of orders in which exactly s is before it, |s|!
-- (n - 1 - |s|)! (`orders_are_subsets`). No step needs that an order has no player twice. EachOnce.antt has that.
use Rattle.std.proofs.Common.{◌≡◌, ℕ, zero, suc, ◌+◌, ◌-◌, ◌*◌, ◌^◌, ◌<◌, ◌≤◌}
use Rattle.std.proofs.Common.{Bool, true, false, cond}
use Rattle.std.proofs.Common.{List, [], ◌∷◌, ◌++◌, length, map, ℤ, pos, ◌+ℤ◌, ◌-ℤ◌}
use Rattle.std.proofs.Common.{◌*ℤ◌, refl, sym}
use Rattle.std.proofs.Common.{ap, ◌∙◌, inl, inr, arith, nat_eq, if◌then◌else◌}
use Rattle.std.specs.List.{flat_map, AllByRecursion}
use Rattle.std.proofs.lemmas.List.{length-map}
use Rattle.definitions.proofs.Cases.{less_or_last, nat_eq-same, nat_eq-other, nat_eq-less, suc-less_one}
use Rattle.definitions.proofs.Alls.{all_weaken, all_join}
use Rattle.definitions.proofs.Ring.{linear, mul-addℤ, zero-mulℤ, one-mulℤ, mul_assocℤ, suc-mulℤ}
use Rattle.definitions.proofs.Members.{sum_below-same}
use Rattle.definitions.proofs.Halves.{has_player-last, has_player-upper, has_player-lower, size_below}
use Rattle.definitions.proofs.Halves.{size_below-zero, size_below-most, size_below-less}
use Rattle.definitions.proofs.Halves.{size_below-without, size_below-with, sum_below-halves}
use Rattle.definitions.specs.Sums.{sum_below}
use Rattle.definitions.specs.Coalitions.{has_player}
use Rattle.definitions.specs.Games.{Game}
use Rattle.definitions.specs.Shapley.{insertions, orders, marginal_worth, total_over, shapley_total, factorial}
use Rattle.shapley.specs.Subsets.{subset_term, subset_total}

-- ---- sums over lists

abbrev pub total : {X : Type 0} → (X → ℤ) → List X → ℤ
total f [] = pos 0
total f (x ∷ xs) = f x +ℤ total f xs

total-append : {X : Type 0} (f : X → ℤ) (xs ys : List X) → total f (xs ++ ys) ≡ total f xs +ℤ total f ys
total-append f [] ys = omega (arith, linear)
total-append f (x ∷ xs) ys = omega (arith, linear, total-append f xs ys)

total-map : {X Y : Type 0} (f : Y → ℤ) (g : X → Y) (xs : List X) → total f (map g xs) ≡ total (λ x. f (g x)) xs
total-map f g [] = refl
total-map f g (x ∷ xs) = ap (λ z. f (g x) +ℤ z) (total-map f g xs)

total-flat_map : {X Y : Type 0} (f : Y → ℤ) (g : X → List Y) (xs : List X)
    → total f (flat_map g xs) ≡ total (λ x. total f (g x)) xs
total-flat_map f g [] = refl
total-flat_map f g (x ∷ xs) =
    total-append f (g x) (flat_map g xs) ∙ ap (λ z. total f (g x) +ℤ z) (total-flat_map f g xs)

total-same : {X : Type 0} (f g : X → ℤ) (xs : List X) → AllByRecursion (λ x. f x ≡ g x) xs → total f xs ≡ total g xs
total-same f g [] h = refl
total-same f g (x ∷ xs) h = let e = total-same f g xs h.1 in cc

total-same_all : {X : Type 0} (f g : X → ℤ) (xs : List X) → ((x : X) → f x ≡ g x) → total f xs ≡ total g xs
total-same_all f g [] h = refl
total-same_all f g (x ∷ xs) h = let e = total-same_all f g xs h in let d = h x in cc

total-constant : {X : Type 0} (c : ℤ) (xs : List X) → total (λ x. c) xs ≡ pos (length xs) *ℤ c
total-constant c [] = sym (zero-mulℤ c)
total-constant c (x ∷ xs) = omega (arith, linear, total-constant c xs, suc-mulℤ (length xs) c)

total-add : {X : Type 0} (f g : X → ℤ) (xs : List X) → total (λ x. f x +ℤ g x) xs ≡ total f xs +ℤ total g xs
total-add f g [] = refl
total-add f g (x ∷ xs) = omega (arith, linear, total-add f g xs)

-- ---- insertions

pub length-insertions : (x : ℕ) (ys : List ℕ) → length (insertions x ys) ≡ suc (length ys)
length-insertions x [] = refl
length-insertions x (y ∷ ys) = ap suc (length-map (insertions x ys) (λ zs. y ∷ zs) ∙ length-insertions x ys)

pub All-map : {X Y : Type 0} (P : Y → Type 0) (f : X → Y) (xs : List X) → AllByRecursion (λ x. P (f x)) xs
    → AllByRecursion P (map f xs)
All-map P f [] h = tt
All-map P f (x ∷ xs) h = (h.0, All-map P f xs h.1)

pub insertions-length : (x : ℕ) (ys : List ℕ) → AllByRecursion (λ zs. length zs ≡ suc (length ys)) (insertions x ys)
insertions-length x [] = (refl, tt)
insertions-length x (y ∷ ys) = (
  refl,
  All-map (λ zs. length zs ≡ suc (suc (length ys))) (λ zs. y ∷ zs) (insertions x ys)
      (all_weaken (λ zs. length zs ≡ suc (length ys)) (λ zs. length (y ∷ zs) ≡ suc (suc (length ys)))
      (insertions x ys) (λ zs e. ap suc e) (insertions-length x ys)),
)

-- ---- a number for each count in front, count behind, and mask in front

abbrev Number : Type 0
Number = ℕ → ℕ → ℕ → ℤ

-- the number where p stands in front too
abbrev behind : ℕ → Number → Number
behind p h j r c = h (suc j) r (c + 2 ^ p)

-- the number at player i
abbrev at_player : Number → ℕ → List ℕ → ℤ
at_player h i [] = pos 0
at_player h i (p ∷ ps) = if nat_eq p i then h 0 (length ps) 0 else at_player (behind p h) i ps

-- the sum of the numbers at each place of the list, its end too
abbrev at_places : Number → List ℕ → ℤ
at_places h [] = h 0 0 0
at_places h (p ∷ ps) = h 0 (suc (length ps)) 0 +ℤ at_places (behind p h) ps

-- the numbers that come of putting n at each place in front, and at each place behind
abbrev with_one : ℕ → Number → Number
with_one n h j r c = pos (suc j) *ℤ h (suc j) r (c + 2 ^ n) +ℤ pos (suc r) *ℤ h j (suc r) c

same_either : (b : Bool) (x y z w : ℤ) → x ≡ y → z ≡ w → cond b x z ≡ cond b y w
same_either true x y z w d f = d
same_either false x y z w d f = f

at_player-same : (h k : Number) (i : ℕ) (ps : List ℕ) → ((j r c : ℕ) → h j r c ≡ k j r c)
    → at_player h i ps ≡ at_player k i ps
at_player-same h k i [] e = refl
at_player-same h k i (p ∷ ps) e =
    same_either (nat_eq p i) (h 0 (length ps) 0) (k 0 (length ps) 0) (at_player (behind p h) i ps)
    (at_player (behind p k) i ps) (e 0 (length ps) 0)
    (at_player-same (behind p h) (behind p k) i ps (λ j r c. e (suc j) r (c + 2 ^ p)))

at_player-add : (h k : Number) (i : ℕ) (ps : List ℕ)
    → at_player h i ps +ℤ at_player k i ps ≡ at_player (λ j r c. h j r c +ℤ k j r c) i ps
at_player-add h k i [] = refl
at_player-add h k i (p ∷ ps) =
    grind (arith, at_player-add (behind p h) (behind p k) i ps)

at_places-same : (h k : Number) (ps : List ℕ) → ((j r c : ℕ) → h j r c ≡ k j r c) → at_places h ps ≡ at_places k ps
at_places-same h k [] e = e 0 0 0
at_places-same h k (p ∷ ps) e =
    let a = e 0 (suc (length ps)) 0 in
    let b = at_places-same (behind p h) (behind p k) ps (λ j r c. e (suc j) r (c + 2 ^ p)) in
    cc

at_places-add : (h k : Number) (ps : List ℕ)
    → at_places h ps +ℤ at_places k ps ≡ at_places (λ j r c. h j r c +ℤ k j r c) ps
at_places-add h k [] = refl
at_places-add h k (p ∷ ps) = omega (arith, linear, at_places-add (behind p h) (behind p k) ps)

-- one of p and n stands in front of the other, or both of the place
swap_two : (p n : ℕ) (h : Number) (j r c : ℕ)
    → behind p (behind n h) j r c +ℤ with_one n (behind p h) j r c ≡ behind p (with_one n h) j r c
swap_two p n h j r c =
    let moved : c + 2 ^ n + 2 ^ p ≡ c + 2 ^ p + 2 ^ n = omega arith in
    rw moved (omega (arith, linear, suc-mulℤ (suc j) (h (suc (suc j)) r (c + 2 ^ p + 2 ^ n))))

-- each way to put n into the list has one more in it
count_behind : (h : Number) (n : ℕ) (ps : List ℕ)
    → total (λ zs. h 0 (length zs) 0) (insertions n ps) ≡ pos (suc (length ps)) *ℤ h 0 (suc (length ps)) 0
count_behind h n ps =
    total-same (λ zs. h 0 (length zs) 0) (λ zs. h 0 (suc (length ps)) 0) (insertions n ps)
    (all_weaken (λ zs. length zs ≡ suc (length ps)) (λ zs. h 0 (length zs) 0 ≡ h 0 (suc (length ps)) 0)
    (insertions n ps) (λ zs e. ap (λ (k : ℕ). h 0 k 0) e) (insertions-length n ps))
    ∙ total-constant (h 0 (suc (length ps)) 0) (insertions n ps)
    ∙ ap (λ (k : ℕ). pos k *ℤ h 0 (suc (length ps)) 0) (length-insertions n ps)

-- ---- another player put into an order

insert_other : (n i : ℕ) (h : Number) (ps : List ℕ) → nat_eq n i ≡ false
    → total (at_player h i) (insertions n ps) ≡ at_player (with_one n h) i ps
insert_other n i h [] ne = rw ne refl
insert_other n i h (p ∷ ps) ne =
    rw (ne, total-map (at_player h i) (λ zs. p ∷ zs) (insertions n ps))
    (insert_either (nat_eq p i) (insert_other n i (behind p h) ps ne))
  where
    there : total (at_player (behind p h) i) (insertions n ps) ≡ at_player (with_one n (behind p h)) i ps
        → at_player (behind p (behind n h)) i ps +ℤ total (at_player (behind p h) i) (insertions n ps)
        ≡ at_player (behind p (with_one n h)) i ps
    there ih =
        ap (λ z. at_player (behind p (behind n h)) i ps +ℤ z) ih
        ∙ at_player-add (behind p (behind n h)) (with_one n (behind p h)) i ps
        ∙ at_player-same (λ j r c. behind p (behind n h) j r c +ℤ with_one n (behind p h) j r c)
        (behind p (with_one n h)) i ps (swap_two p n h)

    insert_either : (b : Bool)
        → total (at_player (behind p h) i) (insertions n ps) ≡ at_player (with_one n (behind p h)) i ps
        → cond b (h 1 (length ps) (0 + 2 ^ n)) (at_player (behind p (behind n h)) i ps)
        +ℤ total (λ zs. cond b (h 0 (length zs) 0) (at_player (behind p h) i zs)) (insertions n ps)
        ≡ cond b (with_one n h 0 (length ps) 0) (at_player (behind p (with_one n h)) i ps)
    insert_either true ih = omega (arith, linear, count_behind h n ps, one-mulℤ (h 1 (length ps) (0 + 2 ^ n)))
    insert_either false ih = there ih

-- ---- the player itself put into an order of others

abbrev Others : ℕ → List ℕ → Type 0
Others i ps = AllByRecursion (λ p. nat_eq p i ≡ false) ps

insert_self : (i : ℕ) (h : Number) (ps : List ℕ) → Others i ps
    → total (at_player h i) (insertions i ps) ≡ at_places h ps
insert_self i h [] o = rw (nat_eq-same i) (omega (arith, linear))
insert_self i h (p ∷ ps) o =
    let ih = insert_self i (behind p h) ps o.1 in
    rw (nat_eq-same i, total-map (at_player h i) (λ zs. p ∷ zs) (insertions i ps), o.0)
    (ap (λ z. h 0 (suc (length ps)) 0 +ℤ z) ih)

-- ---- another player, where each place counts

insert_places : (n : ℕ) (h : Number) (ps : List ℕ)
    → total (at_places h) (insertions n ps) ≡ at_places (with_one n h) ps
insert_places n h [] = omega (arith, linear, one-mulℤ (h 1 0 (0 + 2 ^ n)), one-mulℤ (h 0 1 0))
insert_places n h (p ∷ ps) =
    rw (total-map (at_places h) (λ zs. p ∷ zs) (insertions n ps)) (with_first (insert_places n (behind p h) ps))
  where
    there : total (at_places (behind p h)) (insertions n ps) ≡ at_places (with_one n (behind p h)) ps
        → at_places (behind p (behind n h)) ps +ℤ total (at_places (behind p h)) (insertions n ps)
        ≡ at_places (behind p (with_one n h)) ps
    there ih =
        ap (λ z. at_places (behind p (behind n h)) ps +ℤ z) ih
        ∙ at_places-add (behind p (behind n h)) (with_one n (behind p h)) ps
        ∙ at_places-same (λ j r c. behind p (behind n h) j r c +ℤ with_one n (behind p h) j r c)
        (behind p (with_one n h)) ps (swap_two p n h)

    with_first : total (at_places (behind p h)) (insertions n ps) ≡ at_places (with_one n (behind p h)) ps
        → h 0 (suc (suc (length ps))) 0
        +ℤ (h 1 (suc (length ps)) (0 + 2 ^ n) +ℤ at_places (behind p (behind n h)) ps)
        +ℤ total (λ zs. h 0 (suc (length zs)) 0 +ℤ at_places (behind p h) zs) (insertions n ps)
        ≡ with_one n h 0 (suc (length ps)) 0 +ℤ at_places (behind p (with_one n h)) ps
    with_first ih =
        omega (
          arith,
          linear,
          there ih,
          total-add (λ zs. h 0 (suc (length zs)) 0) (at_places (behind p h)) (insertions n ps),
          count_behind (λ j r c. h j (suc r) c) n ps,
          suc-mulℤ (suc (length ps)) (h 0 (suc (suc (length ps))) 0),
          one-mulℤ (h 1 (suc (length ps)) (0 + 2 ^ n)),
        )

-- ---- those behind

-- how many players below n are no members of s
abbrev pub lacks : ℕ → ℕ → ℕ
lacks n s = n - size_below n s

pub size-lacks : (n s : ℕ) → size_below n s + lacks n s ≡ n
size-lacks n s = let most = size_below-most n s in omega arith

pub lacks-some : (n s i : ℕ) → i < n → has_player s i ≡ false → 1 ≤ lacks n s
lacks-some n s i h e = let less = size_below-less n i s h e in omega arith

pub lacks-without : (n s : ℕ) → s < 2 ^ n → lacks (suc n) s ≡ suc (lacks n s)
lacks-without n s lt =
    let same = size_below-without n s lt in
    let most = size_below-most n s in
    omega arith

pub lacks-with : (n s : ℕ) → s < 2 ^ n → lacks (suc n) (2 ^ n + s) ≡ lacks n s
lacks-with n s lt =
    let more = size_below-with n s lt in
    let most = size_below-most n s in
    omega arith

-- ---- the totals

abbrev weight : ℕ → ℕ → ℤ
weight j r = pos (factorial j * factorial r)

-- the weights of the coalitions with n and without it
weigh : (n : ℕ) (h : Number) (j r s : ℕ)
    → weight j r *ℤ with_one n h j r s
    ≡ weight j (suc r) *ℤ h j (suc r) s +ℤ weight (suc j) r *ℤ h (suc j) r (2 ^ n + s)
weigh n h j r s =
    let moved : s + 2 ^ n ≡ 2 ^ n + s = omega arith in
    rw moved (weigh_numbers (factorial j) (factorial r) j r (h (suc j) r (2 ^ n + s)) (h j (suc r) s))
  where
    weigh_numbers : (a b j r : ℕ) (x y : ℤ)
        → pos (a * b) *ℤ (pos (suc j) *ℤ x +ℤ pos (suc r) *ℤ y)
        ≡ pos (a * (suc r * b)) *ℤ y +ℤ pos (suc j * a * b) *ℤ x
    weigh_numbers a b j r x y =
        let one : a * (suc r * b) ≡ a * b * suc r = omega arith in
        let two : suc j * a * b ≡ a * b * suc j = omega arith in
        let f : pos (a * b * suc r) *ℤ y ≡ pos (a * b) *ℤ (pos (suc r) *ℤ y) =
        mul_assocℤ (pos (a * b)) (pos (suc r)) y in
        let g : pos (a * b * suc j) *ℤ x ≡ pos (a * b) *ℤ (pos (suc j) *ℤ x) =
        mul_assocℤ (pos (a * b)) (pos (suc j)) x in
        rw (one, two) (omega (arith, linear, mul-addℤ (pos (a * b)) (pos (suc j) *ℤ x) (pos (suc r) *ℤ y)))

abbrev term : Number → ℕ → ℕ → ℕ → ℤ
term h j r s = weight j r *ℤ h j r s

term-at : (h : Number) (j k r q s : ℕ) → j ≡ k → r ≡ q → term h j r s ≡ term h k q s
term-at h j k r q s e f = ap (λ (a : ℕ). term h a r s) e ∙ ap (λ (a : ℕ). term h k a s) f

abbrev place_term : Number → ℕ → ℕ → ℤ
place_term h n s = term h (size_below n s) (lacks n s) s

place_step : (h : Number) (n s : ℕ) → s < 2 ^ n
    → place_term (with_one n h) n s ≡ place_term h (suc n) s +ℤ place_term h (suc n) (2 ^ n + s)
place_step h n s lt =
    let a = term-at h _ _ _ _ s (size_below-without n s lt) (lacks-without n s lt) in
    let b = term-at h _ _ _ _ (2 ^ n + s) (size_below-with n s lt) (lacks-with n s lt) in
    let c = weigh n h (size_below n s) (lacks n s) s in
    omega (arith, linear)

places_total : (n : ℕ) (h : Number) → total (at_places h) (orders n) ≡ sum_below (2 ^ n) (place_term h n)
places_total zero h =
    let none = size_below-zero 0 in
    omega (arith, linear, term-at h (size_below 0 0) 0 (lacks 0 0) 0 0 none (omega arith), one-mulℤ (h 0 0 0))
places_total (suc n) h =
    total-flat_map (at_places h) (insertions n) (orders n)
    ∙ total-same_all (λ o. total (at_places h) (insertions n o)) (at_places (with_one n h)) (orders n)
    (insert_places n h)
    ∙ places_total n (with_one n h)
    ∙ sum_below-same (2 ^ n) (place_term (with_one n h) n)
    (λ s. place_term h (suc n) s +ℤ place_term h (suc n) (2 ^ n + s)) (place_step h n)
    ∙ sym (sum_below-halves n (place_term h (suc n)))

-- ---- the members of orders are below n

pub All-flat_map : {X Y : Type 0} (P : Y → Type 0) (f : X → List Y) (xs : List X)
    → AllByRecursion (λ x. AllByRecursion P (f x)) xs → AllByRecursion P (flat_map f xs)
All-flat_map P f [] h = tt
All-flat_map P f (x ∷ xs) h = all_join P (f x) (flat_map f xs) h.0 (All-flat_map P f xs h.1)

pub All-insertions : (P : ℕ → Type 0) (x : ℕ) (ys : List ℕ) → P x → AllByRecursion P ys
    → AllByRecursion (AllByRecursion P) (insertions x ys)
All-insertions P x [] h k = ((h, tt), tt)
All-insertions P x (y ∷ ys) h k = (
  (h, k),
  All-map (AllByRecursion P) (λ zs. y ∷ zs) (insertions x ys)
      (all_weaken (AllByRecursion P) (λ zs. AllByRecursion P (y ∷ zs)) (insertions x ys) (λ zs all. (k.0, all))
      (All-insertions P x ys h k.1)),
)

pub orders-below : (n : ℕ) → AllByRecursion (λ o. AllByRecursion (λ p. p < n) o) (orders n)
orders-below zero = (tt, tt)
orders-below (suc n) =
    All-flat_map (AllByRecursion (λ p. p < suc n)) (insertions n) (orders n)
    (all_weaken (AllByRecursion (λ p. p < n))
    (λ o. AllByRecursion (AllByRecursion (λ p. p < suc n)) (insertions n o)) (orders n)
    (λ o all. All-insertions (λ p. p < suc n) n o (omega arith)
    (all_weaken (λ p. p < n) (λ p. p < suc n) o (λ p lt. omega arith) all)) (orders-below n))

-- ---- the total at a player

abbrev player_term : Number → ℕ → ℕ → ℕ → ℤ
player_term h n i s = if has_player s i then pos 0 else term h (size_below n s) (lacks n s - 1) s

last_step : (h : Number) (n s : ℕ) → s < 2 ^ n
    → place_term h n s ≡ player_term h (suc n) n s +ℤ player_term h (suc n) n (2 ^ n + s)
last_step h n s lt =
    let a =
    term-at h (size_below (suc n) s) (size_below n s) (lacks (suc n) s - 1) (lacks n s) s
    (size_below-without n s lt) (ap (λ (r : ℕ). r - 1) (lacks-without n s lt) ∙ suc-less_one (lacks n s)) in
    one_of_two (has_player s n) (has_player (2 ^ n + s) n) _ _ _ (has_player-last n s lt) (has_player-upper n s lt) a
  where
    one_of_two : (b c : Bool) (x y z : ℤ) → b ≡ false → c ≡ true → y ≡ x → x ≡ cond b (pos 0) y +ℤ cond c (pos 0) z
    one_of_two b c x y z e f k = rw (e, f) (omega (arith, linear))

player_step : (h : Number) (n i s : ℕ) → i < n → s < 2 ^ n
    → player_term (with_one n h) n i s ≡ player_term h (suc n) i s +ℤ player_term h (suc n) i (2 ^ n + s)
player_step h n i s below lt =
    let a =
    term-at h (size_below (suc n) s) (size_below n s) (lacks (suc n) s - 1) (lacks n s) s
    (size_below-without n s lt) (ap (λ (r : ℕ). r - 1) (lacks-without n s lt) ∙ suc-less_one (lacks n s)) in
    let b =
    term-at h (size_below (suc n) (2 ^ n + s)) (suc (size_below n s)) (lacks (suc n) (2 ^ n + s) - 1)
    (lacks n s - 1) (2 ^ n + s) (size_below-with n s lt) (ap (λ (r : ℕ). r - 1) (lacks-with n s lt)) in
    either_alike (has_player s i) (has_player (2 ^ n + s) i) _ _ _ _ _ (has_player-lower n s i below) a b
    (λ e. here (lacks n s) (lacks-some n s i below e))
  where
    here : (r : ℕ) → 1 ≤ r
        → term (with_one n h) (size_below n s) (r - 1) s
        ≡ term h (size_below n s) r s +ℤ term h (suc (size_below n s)) (r - 1) (2 ^ n + s)
    here zero some = absurd (omega arith)
    here (suc r) some =
        let a = term-at (with_one n h) (size_below n s) (size_below n s) (suc r - 1) r s refl (suc-less_one r) in
        let b =
        term-at h (suc (size_below n s)) (suc (size_below n s)) (suc r - 1) r (2 ^ n + s) refl (suc-less_one r) in
        let c = weigh n h (size_below n s) r s in
        omega (arith, linear)

    either_alike : (b c : Bool) (x y z u w : ℤ) → c ≡ b → y ≡ u → z ≡ w → (b ≡ false → x ≡ u +ℤ w)
        → cond b (pos 0) x ≡ cond b (pos 0) y +ℤ cond c (pos 0) z
    either_alike b c x y z u w e f g k = grind (arith, linear)

pub player_total : (n i : ℕ) (h : Number) → i < n
    → total (at_player h i) (orders n) ≡ sum_below (2 ^ n) (player_term h n i)
player_total zero i h lt = absurd (omega arith)
player_total (suc n) i h lt = elim (less_or_last i n lt) [
  | inl less ↦
      total-flat_map (at_player h i) (insertions n) (orders n)
      ∙ total-same_all (λ o. total (at_player h i) (insertions n o)) (at_player (with_one n h) i) (orders n)
      (λ o. insert_other n i h o (nat_eq-other n i (λ same. omega arith)))
      ∙ player_total n i (with_one n h) less
      ∙ sum_below-same (2 ^ n) (player_term (with_one n h) n i)
      (λ s. player_term h (suc n) i s +ℤ player_term h (suc n) i (2 ^ n + s)) (λ s k. player_step h n i s less k)
      ∙ sym (sum_below-halves n (player_term h (suc n) i))
  | inr same ↦ rw same (itself n h)
]
  where
    itself : (n : ℕ) (h : Number)
        → total (at_player h n) (orders (suc n)) ≡ sum_below (2 ^ suc n) (player_term h (suc n) n)
    itself n h =
        total-flat_map (at_player h n) (insertions n) (orders n)
        ∙ total-same (λ o. total (at_player h n) (insertions n o)) (at_places h) (orders n)
        (all_weaken (AllByRecursion (λ p. p < n)) (λ o. total (at_player h n) (insertions n o) ≡ at_places h o)
        (orders n)
        (λ o all. insert_self n h o
        (all_weaken (λ p. p < n) (λ p. nat_eq p n ≡ false) o (λ p k. nat_eq-less p n k) all))
        (orders-below n))
        ∙ places_total n h
        ∙ sum_below-same (2 ^ n) (place_term h n)
        (λ s. player_term h (suc n) n s +ℤ player_term h (suc n) n (2 ^ n + s)) (last_step h n)
        ∙ sym (sum_below-halves n (player_term h (suc n) n))

-- ---- marginal worths

abbrev marginal : (ℕ → ℤ) → ℕ → ℕ → Number
marginal v i b j r c = v (b + c + 2 ^ i) -ℤ v (b + c)

marginal-at : (v : ℕ → ℤ) (i b : ℕ) (o : List ℕ) → marginal_worth v i b o ≡ at_player (marginal v i b) i o
marginal-at v i b [] = refl
marginal-at v i b (p ∷ ps) =
    same_either (nat_eq p i) _ _ _ _ (here b)
    (marginal-at v i (b + 2 ^ p) ps
    ∙ at_player-same (marginal v i (b + 2 ^ p)) (behind p (marginal v i b)) i ps (λ j r c. there c))
  where
    here : (b : ℕ) → v (b + 2 ^ i) -ℤ v b ≡ v (b + 0 + 2 ^ i) -ℤ v (b + 0)
    here b = let e : b ≡ b + 0 = omega arith in ap (λ (k : ℕ). v (k + 2 ^ i) -ℤ v k) e

    there : (c : ℕ) → marginal v i (b + 2 ^ p) 0 0 c ≡ behind p (marginal v i b) 0 0 c
    there c = let e : b + 2 ^ p + c ≡ b + (c + 2 ^ p) = omega arith in ap (λ (k : ℕ). v (k + 2 ^ i) -ℤ v k) e

total_over-is : (v : ℕ → ℤ) (i : ℕ) (os : List (List ℕ))
    → total_over v i os ≡ total (at_player (marginal v i 0) i) os
total_over-is v i [] = refl
total_over-is v i (o ∷ os) = let a = marginal-at v i 0 o in let b = total_over-is v i os in cc

term-is : (v : ℕ → ℤ) (n i s : ℕ) → player_term (marginal v i 0) n i s ≡ subset_term v n i s
term-is v n i s =
    let all = size-lacks n s in
    let rest : lacks n s - 1 ≡ n - 1 - size_below n s = omega arith in
    let none : 0 + s ≡ s = omega arith in
    rw (rest, none) refl

-- the sum over all orders is the sum over the coalitions without the player
pub orders_are_subsets : (g : Game) (i : ℕ) → i < g.players → shapley_total g i ≡ subset_total g.worth g.players i
orders_are_subsets g i h =
    total_over-is g.worth i (orders g.players)
    ∙ player_total g.players i (marginal g.worth i 0) h
    ∙ sum_below-same (2 ^ g.players) (player_term (marginal g.worth i 0) g.players i)
    (subset_term g.worth g.players i) (λ s k. term-is g.worth g.players i s)
