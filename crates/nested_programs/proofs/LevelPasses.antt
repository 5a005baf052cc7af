-- The passes that make a level from weights, step by step.
use Rattle.std.proofs.Common.{◌≡◌, ◌≢◌, ℕ, suc, ◌+◌, ◌*◌, ◌<◌, true, false, List}
use Rattle.std.proofs.Common.{[], ◌∷◌, ◌++◌, length, map, take, drop, get_or, ℤ, pos}
use Rattle.std.proofs.Common.{refl, sym, ap, ◌∙◌, arith}
use Rattle.std.specs.Ordering.{int_eq}
use Rattle.std.proofs.lemmas.Bool.Decides.{Decides-int_eq}
use Rattle.std.proofs.lemmas.List.{append_assoc, append-nil, length-take-le, map-append, take_more}
use Rattle.definitions.specs.Certificates.{Level}
use Rattle.kohlberg.specs.Pairs.{with_pair, placed_behind}
use Rattle.kohlberg.proofs.Pairs.{drop-more}
use Rattle.separation.specs.Stage.{earlier_of}
use Rattle.separation.proofs.Counts.{earlier_step}
use Rattle.nested_programs.specs.Numbers.{net, kept, earlier_pairs, level_pairs}
use Rattle.definitions.proofs.Cases.{not_true}

pub earlier_next : (levels : List Level) (k id : ℕ) (d : Level) → k < length levels
    → id + 2 * length (earlier_of 0 (drop k levels)) ≡ 2 + 2 * length (earlier_of 0 levels)
    → id + 2 * length (get_or levels k d).coalitions + 2 * length (earlier_of 0 (drop (k + 1) levels))
    ≡ 2 + 2 * length (earlier_of 0 levels)
earlier_next levels k id d lt h =
    let e = ap (λ ls. length (earlier_of 0 ls)) (drop-more levels k d lt) in
    omega (arith, earlier_step 0 (get_or levels k d) (drop (k + 1) levels))

-- ---- coalitions of the levels in front

placed_append : (ps qs rs : List (ℕ × ℤ)) → placed_behind ps (qs ++ rs) ≡ placed_behind (placed_behind ps qs) rs
placed_append ps [] rs = refl
placed_append ps (q ∷ qs) rs = placed_append (with_pair q.0 q.1 ps) qs rs

-- the pairs of the levels are those of the first, and then the others
pairs_split : (ws : List (ℕ × ℤ)) (id k : ℕ) (cs : List (ℕ × ℤ)) (rest : List (ℕ × ℕ))
    → earlier_pairs ws id (map (λ c. (c.0, k)) cs ++ rest)
    ≡ level_pairs ws id cs ++ earlier_pairs ws (id + 2 * length cs) rest
pairs_split ws id k [] rest = let e : id + 2 * 0 ≡ id = omega arith in rw e refl
pairs_split ws id k (c ∷ cs) rest =
    let next : id + 2 + 2 * length cs ≡ id + 2 * suc (length cs) = omega arith in
    let two =
    append_assoc (kept c.0 (net ws id (id + 1))) (level_pairs ws (id + 2) cs)
    (earlier_pairs ws (id + 2 * suc (length cs)) rest) in
    cc (pairs_split ws (id + 2) k cs rest)

-- the pairs of one coalition more
level_more : (ws : List (ℕ × ℤ)) (id : ℕ) (cs : List (ℕ × ℤ)) (k : ℕ) (d : ℕ × ℤ) → k < length cs
    → level_pairs ws id (take (k + 1) cs)
    ≡ level_pairs ws id (take k cs) ++ kept (get_or cs k d).0 (net ws (id + 2 * k) (id + 2 * k + 1))
level_more ws id cs k d lt =
    let c : ℕ × ℤ = get_or cs k d in
    let count = length-take-le k cs (omega arith) in
    ap (level_pairs ws id) (take_more cs k d lt)
    ∙ ap (earlier_pairs ws id) (map-append (λ e. (e.0, 0)) (take k cs) (c ∷ []))
    ∙ pairs_split ws id 0 (take k cs) ((c.0, 0) ∷ [])
    ∙ ap (λ us. level_pairs ws id (take k cs) ++ us)
    (cc (append-nil (kept c.0 (net ws (id + 2 * length (take k cs)) (id + 2 * length (take k cs) + 1)))))

level_step : (ws ps qs : List (ℕ × ℤ)) (id : ℕ) (cs us : List (ℕ × ℤ)) (k : ℕ) (d : ℕ × ℤ) → k < length cs
    → qs ≡ placed_behind ps (level_pairs ws id (take k cs))
    → kept (get_or cs k d).0 (net ws (id + 2 * k) (id + 2 * k + 1)) ≡ us
    → placed_behind qs us ≡ placed_behind ps (level_pairs ws id (take (k + 1) cs))
level_step ws ps qs id cs us k d lt h e =
    cc (placed_append ps (level_pairs ws id (take k cs)) us, level_more ws id cs k d lt)

pub level_put : (ws ps qs : List (ℕ × ℤ)) (id : ℕ) (cs : List (ℕ × ℤ)) (k : ℕ) (d : ℕ × ℤ) (z : ℤ) → k < length cs
    → z ≡ net ws (id + 2 * k) (id + 2 * k + 1) → z ≢ pos 0
    → qs ≡ placed_behind ps (level_pairs ws id (take k cs))
    → with_pair (get_or cs k d).0 z qs ≡ placed_behind ps (level_pairs ws id (take (k + 1) cs))
level_put ws ps qs id cs k d z lt e some h =
    let key = (get_or cs k d).0 in
    let none : int_eq z (pos 0) ≡ false =
    not_true (int_eq z (pos 0)) (λ t. some ((Decides-int_eq z (pos 0)).0 t)) in
    let one : kept key z ≡ (key, z) ∷ [] = rw none refl in
    level_step ws ps qs id cs ((key, z) ∷ []) k d lt h (ap (kept key) (sym e) ∙ one)

pub level_skip : (ws ps qs : List (ℕ × ℤ)) (id : ℕ) (cs : List (ℕ × ℤ)) (k : ℕ) (d : ℕ × ℤ) (z : ℤ)
    → k < length cs → z ≡ net ws (id + 2 * k) (id + 2 * k + 1) → z ≡ pos 0
    → qs ≡ placed_behind ps (level_pairs ws id (take k cs))
    → qs ≡ placed_behind ps (level_pairs ws id (take (k + 1) cs))
level_skip ws ps qs id cs k d z lt e none h =
    let zero : int_eq z (pos 0) ≡ true = (Decides-int_eq z (pos 0)).1 none in
    let nothing : kept (get_or cs k d).0 z ≡ [] = rw zero refl in
    level_step ws ps qs id cs [] k d lt h (ap (kept (get_or cs k d).0) (sym e) ∙ nothing)

pairs_shift : (ws : List (ℕ × ℤ)) (id a b : ℕ) (levels : List Level)
    → earlier_pairs ws id (earlier_of a levels) ≡ earlier_pairs ws id (earlier_of b levels)
pairs_shift ws id a b [] = refl
pairs_shift ws id a b (l ∷ levels) =
    let two = pairs_shift ws (id + 2 * length l.coalitions) (a + 1) (b + 1) levels in
    let three = pairs_split ws id a l.coalitions (earlier_of (a + 1) levels) in
    cc (pairs_split ws id b l.coalitions (earlier_of (b + 1) levels))

pub earlier_put : (ws ps qs : List (ℕ × ℤ)) (id : ℕ) (levels : List Level) (goal : List (ℕ × ℤ)) (k : ℕ) (d : Level)
    → k < length levels → placed_behind ps (earlier_pairs ws id (earlier_of 0 (drop k levels))) ≡ goal
    → qs ≡ placed_behind ps (level_pairs ws id (get_or levels k d).coalitions)
    → placed_behind qs
    (earlier_pairs ws (id + 2 * length (get_or levels k d).coalitions) (earlier_of 0 (drop (k + 1) levels)))
    ≡ goal
earlier_put ws ps qs id levels goal k d lt h e =
    let l = get_or levels k d in
    let rest = drop (k + 1) levels in
    let next = id + 2 * length l.coalitions in
    let two = placed_append ps (level_pairs ws id l.coalitions) (earlier_pairs ws next (earlier_of 1 rest)) in
    let three = pairs_split ws id 0 l.coalitions (earlier_of 1 rest) in
    cc (pairs_shift ws next 0 1 rest, drop-more levels k d lt)
