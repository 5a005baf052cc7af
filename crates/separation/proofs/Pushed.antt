-- Lists of columns that loops make, push by push.
use Rattle.std.proofs.Common.{◌≡◌, ℕ, ◌+◌, ◌<◌, List, [], ◌∷◌, ◌++◌, length, map}
use Rattle.std.proofs.Common.{zero, suc, take, drop, get_or, Result, Ok, Err, inl, inr}
use Rattle.std.proofs.Common.{refl, sym, ap, ◌∙◌, arith, append_assoc, ℤ, Option, Some}
use Rattle.std.proofs.lemmas.List.{take_more, length-take-le, append-nil, take-append-drop}
use Rattle.std.proofs.Math.Seq.{take-append_seam}
use Rattle.std.specs.Result.{OnErr}
use Rattle.definitions.proofs.Cases.{less_or_last_of}
use Rattle.kohlberg.proofs.Pairs.{drop-more}
use Rattle.definitions.specs.Games.{Game}
use Rattle.definitions.specs.Certificates.{Level}
use Rattle.separation.specs.Stage.{earlier_of}
use Rattle.separation.specs.Making.{listed, plain, minus, earlier_columns, AddsSome}
use Rattle.separation.specs.declared.column.Column.{Column}

pub earlier_columns-append : (g : Game) (cs ds : List (ℕ × ℕ))
    → earlier_columns g (cs ++ ds) ≡ earlier_columns g cs ++ earlier_columns g ds
earlier_columns-append g [] ds = refl
earlier_columns-append g (c ∷ cs) ds =
    ap (λ (t : List (Option Column)). Some (plain g c.0 (Some c.1)) ∷ (Some (minus g c.0 (Some c.1)) ∷ t))
    (earlier_columns-append g cs ds)

map-append : {X Y : Type 0} (f : X → Y) (xs ys : List X) → map f (xs ++ ys) ≡ map f xs ++ map f ys
map-append f [] ys = refl
map-append f (x ∷ xs) ys = ap (λ t. f x ∷ t) (map-append f xs ys)

-- both columns of one more coalition of a level
pub level-push : (g : Game) (k i : ℕ) (pairs : List (ℕ × ℤ)) (p : ℕ × ℤ) (xs ys zs : List (Option Column))
    → i < length pairs → p ≡ get_or pairs i p
    → ys ≡ xs ++ earlier_columns g (map (λ c. (c.0, k)) (take i pairs))
    → zs ≡ (ys ++ Some (plain g p.0 (Some k)) ∷ []) ++ Some (minus g p.0 (Some k)) ∷ []
    → zs ≡ xs ++ earlier_columns g (map (λ c. (c.0, k)) (take (i + 1) pairs))
level-push g k i pairs p xs ys zs lt is h e =
    let f : ℕ × ℤ → ℕ × ℕ = λ c. (c.0, k) in
    let one : take (i + 1) pairs ≡ take i pairs ++ p ∷ [] = cc (take_more pairs i p lt) in
    let more : map f (take (i + 1) pairs) ≡ map f (take i pairs) ++ f p ∷ [] =
    ap (map f) one ∙ map-append f (take i pairs) (p ∷ []) in
    let two = append_assoc xs (earlier_columns g (map f (take i pairs))) (earlier_columns g (f p ∷ [])) in
    let three = append_assoc ys (Some (plain g p.0 (Some k)) ∷ []) (Some (minus g p.0 (Some k)) ∷ []) in
    cc (earlier_columns-append g (map f (take i pairs)) (f p ∷ []))

earlier_of-append : (k j : ℕ) (levels : List Level) (l : Level) → j ≡ k + length levels
    → earlier_of k (levels ++ l ∷ []) ≡ earlier_of k levels ++ map (λ c. (c.0, j)) l.coalitions
earlier_of-append k j [] l e =
    let same : j ≡ k = omega (arith, e) in
    append-nil (map (λ c. (c.0, k)) l.coalitions) ∙ ap (λ (t : ℕ). map (λ c. (c.0, t)) l.coalitions) (sym same)
earlier_of-append k j (m ∷ levels) l e =
    let next : j ≡ (k + 1) + length levels = omega (arith, e) in
    let two =
    append_assoc (map (λ c. (c.0, k)) m.coalitions) (earlier_of (k + 1) levels) (map (λ c. (c.0, j)) l.coalitions) in
    cc (earlier_of-append (k + 1) j levels l next)

-- the columns of one more level
pub levels-push : (g : Game) (k : ℕ) (levels : List Level) (l : Level) (xs ys zs : List (Option Column))
    → k < length levels → l ≡ get_or levels k l
    → ys ≡ xs ++ earlier_columns g (earlier_of 0 (take k levels))
    → zs ≡ ys ++ earlier_columns g (map (λ c. (c.0, k)) l.coalitions)
    → zs ≡ xs ++ earlier_columns g (earlier_of 0 (take (k + 1) levels))
levels-push g k levels l xs ys zs lt is h e =
    let ds : List (ℕ × ℕ) = map (λ c. (c.0, k)) l.coalitions in
    let long : k ≡ 0 + length (take k levels) = let t = length-take-le k levels (omega arith) in omega (arith, t) in
    let more : take (k + 1) levels ≡ take k levels ++ l ∷ [] = cc (take_more levels k l lt) in
    let two = append_assoc xs (earlier_columns g (earlier_of 0 (take k levels))) (earlier_columns g ds) in
    cc (earlier_columns-append g (earlier_of 0 (take k levels)) ds, earlier_of-append 0 k (take k levels) l long)

-- ---- after want of memory

pub on_err : {T E P : Type 0} (r : Result T E) → P → OnErr r P
on_err (Ok x) p = tt
on_err (Err e) p = p

pub adds_some : (xs these rest more zs : List (Option Column)) → more ≡ these ++ rest → zs ≡ xs ++ these
    → AddsSome xs more zs
adds_some xs these rest more zs split e = (
  length these,
  cc (take-append_seam these rest),
)

level_split : (g : Game) (k i : ℕ) (pairs : List (ℕ × ℤ))
    → earlier_columns g (map (λ c. (c.0, k)) pairs)
    ≡ earlier_columns g (map (λ c. (c.0, k)) (take i pairs)) ++ earlier_columns g (map (λ c. (c.0, k)) (drop i pairs))
level_split g k i pairs =
    let f : ℕ × ℤ → ℕ × ℕ = λ c. (c.0, k) in
    let two = earlier_columns-append g (map f (take i pairs)) (map f (drop i pairs)) in
    cc (take-append-drop i pairs, map-append f (take i pairs) (drop i pairs))

-- both columns of the first coalitions of a level
pub level_part : (g : Game) (k i : ℕ) (pairs : List (ℕ × ℤ)) (xs ys : List (Option Column))
    → ys ≡ xs ++ earlier_columns g (map (λ c. (c.0, k)) (take i pairs))
    → AddsSome xs (earlier_columns g (map (λ c. (c.0, k)) pairs)) ys
level_part g k i pairs xs ys h = adds_some xs _ _ _ ys (level_split g k i pairs) h

-- and one column of the next
pub level_half : (g : Game) (k i : ℕ) (pairs : List (ℕ × ℤ)) (p : ℕ × ℤ) (xs ys zs : List (Option Column))
    → i < length pairs → p ≡ get_or pairs i p
    → ys ≡ xs ++ earlier_columns g (map (λ c. (c.0, k)) (take i pairs))
    → zs ≡ ys ++ Some (plain g p.0 (Some k)) ∷ []
    → AddsSome xs (earlier_columns g (map (λ c. (c.0, k)) pairs)) zs
level_half g k i pairs p xs ys zs lt is h e =
    let f : ℕ × ℤ → ℕ × ℕ = λ c. (c.0, k) in
    let here = earlier_columns g (map f (take i pairs)) in
    let one : List (Option Column) = Some (plain g p.0 (Some k)) ∷ [] in
    let rest : List (Option Column) =
    Some (minus g p.0 (Some k)) ∷ earlier_columns g (map f (drop (i + 1) pairs)) in
    let next : drop i pairs ≡ p ∷ drop (i + 1) pairs = cc (drop-more pairs i p lt) in
    adds_some xs (here ++ one) rest _ zs (cc (level_split g k i pairs, append_assoc here one rest))
    (cc (append_assoc xs here one))

earlier_of-split : (k n : ℕ) (levels : List Level)
    → (ds : List (ℕ × ℕ)) × (earlier_of k levels ≡ earlier_of k (take n levels) ++ ds)
earlier_of-split k zero levels = (earlier_of k levels, refl)
earlier_of-split k (suc n) [] = ([], refl)
earlier_of-split k (suc n) (l ∷ levels) =
    let (ds, e) = earlier_of-split (k + 1) n levels in
    let here : List (ℕ × ℕ) = map (λ c. (c.0, k)) l.coalitions in (
      ds,
      cc (append_assoc here (earlier_of (k + 1) (take n levels)) ds),
    )

-- the columns of the first levels, and some of the next
pub levels_part : (g : Game) (k : ℕ) (levels : List Level) (l : Level) (xs ys zs : List (Option Column))
    → k < length levels → l ≡ get_or levels k l
    → ys ≡ xs ++ earlier_columns g (earlier_of 0 (take k levels))
    → AddsSome ys (earlier_columns g (map (λ c. (c.0, k)) l.coalitions)) zs
    → AddsSome xs (earlier_columns g (earlier_of 0 levels)) zs
levels_part g k levels l xs ys zs lt is h (j, e) =
    let (ds, split) = earlier_of-split 0 (k + 1) levels in
    let before = earlier_columns g (earlier_of 0 (take k levels)) in
    let here = earlier_columns g (map (λ c. (c.0, k)) l.coalitions) in
    let behind = earlier_columns g ds in
    adds_some xs (before ++ take j here) (drop j here ++ behind) _ zs
    (let two = levels-push g k levels l [] before (before ++ here) lt is refl refl in
    let three = earlier_columns-append g (earlier_of 0 (take (k + 1) levels)) ds in
    let four = append_assoc (before ++ take j here) (drop j here) behind in
    cc (take-append-drop j here, append_assoc before (take j here) (drop j here)))
    (cc (append_assoc xs before (take j here)))

listed-split : (n i : ℕ) (f : ℕ → Option Column) → i < n + 1
    → (rest : List (Option Column)) × (listed n f ≡ listed i f ++ rest)
listed-split zero i f lt =
    let none : i ≡ 0 = omega (arith, lt) in
    ([], ap (λ (t : ℕ). listed t f) (sym none) ∙ sym (append-nil (listed i f)))
listed-split (suc n) i f lt = elim (less_or_last_of i (n + 1) (omega (arith, lt))) [
  | inl less ↦
      let (rest, e) = listed-split n i f less in (
        rest ++ f n ∷ [],
        cc (append_assoc (listed i f) rest (f n ∷ [])),
      )
  | inr same ↦ let last : suc n ≡ i = omega (arith, same) in
      ([], ap (λ (t : ℕ). listed t f) last ∙ sym (append-nil (listed i f)))
]

-- the first of a sequence
pub listed_part : (n i : ℕ) (f : ℕ → Option Column) (xs ys : List (Option Column)) → i < n → ys ≡ xs ++ listed i f
    → AddsSome xs (listed n f) ys
listed_part n i f xs ys lt h =
    let (rest, split) = listed-split n i f (omega (arith, lt)) in adds_some xs (listed i f) rest _ ys split h
