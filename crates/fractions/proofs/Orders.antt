-- The order of two fractions by whole parts and remainders.
--
-- `compare` needs no product: the whole parts decide, or the remainders turned upside down (`order_of_sizes`). The two
-- denominators shrink.
use Rattle.std.proofs.Common.{◌≡◌, ◌⊎◌, inl, inr, ℕ, zero, suc, ◌+◌, ◌*◌, ◌/◌}
use Rattle.std.proofs.Common.{◌%◌, ◌<◌, ◌≤◌, arith, refl, sym, ap}
use Rattle.std.proofs.Common.{subst, subst₂, ◌∙◌, Ordering, Less, Equal, Greater, nat_cmp, mod-lt, div-add-mod'}
use Rattle.std.proofs.Common.{mul-lt-mul_of_pos_right, mul-le-mul_right, mul-le-mul_left}

shift : (k x y : ℕ) → nat_cmp (k + x) (k + y) ≡ nat_cmp x y
shift k x y = grind arith

pub less_is : (x y : ℕ) → x < y → Less ≡ nat_cmp x y
less_is x y h = grind arith

pub greater_is : (x y : ℕ) → y < x → Greater ≡ nat_cmp x y
greater_is x y h = grind arith

-- the rests' order, where the whole parts agree
pub rests_order : (a b c d : ℕ) → a / b ≡ c / d → nat_cmp ((a % b) * d) ((c % d) * b) ≡ nat_cmp (a * d) (c * b)
rests_order a b c d e =
    sym (shift ((a / b) * b * d) ((a % b) * d) ((c % d) * b))
    ∙ subst₂ (λ (x y : ℕ). nat_cmp ((a / b) * b * d + (a % b) * d) ((a / b) * b * d + (c % d) * b) ≡ nat_cmp x y)
    (whole a b d) (part (a / b) c b d e) refl
  where
    whole : (a b d : ℕ) → (a / b) * b * d + (a % b) * d ≡ a * d
    whole a b d = let h = div-add-mod' a b in omega (arith, ap (λ (t : ℕ). t * d) h)

    part : (q c b d : ℕ) → q ≡ c / d → q * b * d + (c % d) * b ≡ c * b
    part q c b d e = let h = div-add-mod' c d in rw e (omega (arith, ap (λ (t : ℕ). t * b) h))

lower : (a b q : ℕ) → 0 < b → a / b < q → a < q * b
lower a b q p h = let m = mod-lt a p in let e = div-add-mod' a b in omega (arith, mul-le-mul_right b h)

upper : (c d : ℕ) → (c / d) * d ≤ c
upper c d = let e = div-add-mod' c d in omega arith

pub whole_less : (a b c d : ℕ) → 0 < b → 0 < d → a / b < c / d → a * d < c * b
whole_less a b c d p q h =
    let x = mul-lt-mul_of_pos_right (lower a b (c / d) p h) q in
    let y = mul-le-mul_right b (upper c d) in
    omega arith

nat_cmp-same : (x y s t : ℕ) → x ≡ s → y ≡ t → nat_cmp s t ≡ nat_cmp x y
nat_cmp-same x y s t e f = rw (e, f)

pub next_order : (a b c d : ℕ) → a / b ≡ c / d → nat_cmp (d * (a % b)) (b * (c % d)) ≡ nat_cmp (a * d) (c * b)
next_order a b c d e =
    nat_cmp-same ((a % b) * d) ((c % d) * b) (d * (a % b)) (b * (c % d)) (Rattle.std.proofs.Common.mul_comm (a % b) d)
    (Rattle.std.proofs.Common.mul_comm (c % d) b) ∙ rests_order a b c d e

-- a rest of 0
pub zero_left : (r s b d : ℕ) → 0 < b → r ≡ 0 → nat_cmp r s ≡ nat_cmp (r * d) (s * b)
zero_left r s b d p e = rw e (go s)
  where
    go : (s : ℕ) → nat_cmp 0 s ≡ nat_cmp (0 * d) (s * b)
    go zero = grind arith
    go (suc s) = sym (less_is 0 (suc s) (omega arith)) ∙ less_is (0 * d) (suc s * b) (omega arith)

pub zero_right : (r s b d : ℕ) → 0 < d → s ≡ 0 → nat_cmp r s ≡ nat_cmp (r * d) (s * b)
zero_right r s b d p e = rw e (go r)
  where
    go : (r : ℕ) → nat_cmp r 0 ≡ nat_cmp (r * d) (0 * b)
    go zero = grind arith
    go (suc r) = sym (greater_is (suc r) 0 (omega arith)) ∙ greater_is (suc r * d) (0 * b) (omega arith)
