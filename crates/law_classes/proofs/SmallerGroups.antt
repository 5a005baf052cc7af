-- Estates of which all claimants but one, or but two, are worth the same: the claims, cut to the estate, rise as it
-- does; and if it rises, any two of them cover it.
use Rattle.std.proofs.Common.{◌≡◌, ◌≢◌, ℕ, ◌+◌, ◌-◌, ◌^◌, ◌<◌, List, length, get_or, ℤ, pos, ◌+ℤ◌, ◌-ℤ◌, ◌<ℤ◌, ◌≤ℤ◌}
use Rattle.std.proofs.Common.{false, refl, sym, ap, subst, ◌∙◌, arith}
use Rattle.std.specs.Int.{int_max}
use Rattle.std.proofs.Math.Pow.{pow_pos}
use Rattle.std.proofs.lemmas.Int.{ints, clamps, by_lt_z}
use Rattle.definitions.proofs.Masks.{singleton-within}
use Rattle.definitions.proofs.Members.{sum_over-singleton, has_player-singleton_other}
use Rattle.definitions.proofs.Parts.{more-lt, sum_over-more}
use Rattle.definitions.proofs.Ring.{linear}
use Rattle.definitions.specs.Classes.{bankruptcy_worth}
use Rattle.definitions.specs.Coalitions.{has_player, singleton, grand_coalition, sum_over}

-- what a claim leaves of an estate, and at most the estate of a claim
abbrev pub above : ℤ → ℤ → ℤ
above estate claim = int_max (pos 0) (estate -ℤ claim)

abbrev pub cut_to : ℤ → ℤ → ℤ
cut_to estate claim = estate -ℤ above estate claim

above-positive : (e c : ℤ) → pos 0 <ℤ above e c → above e c ≡ e -ℤ c
above-positive e c some = omega (arith, ints, clamps)

above-least : (e c : ℤ) → (pos 0 ≤ℤ above e c) × ((e -ℤ c) ≤ℤ above e c)
above-least e c = (omega (arith, ints, clamps), omega (arith, ints, clamps))

above-most : (e c : ℤ) → pos 0 ≤ℤ e → pos 0 ≤ℤ c → above e c ≤ℤ e
above-most e c e0 c0 = omega (arith, ints, clamps)

-- where one and one leave what they left, and both what both left, and the whole is more
covers : (e m a b p q : ℤ) → pos 0 ≤ℤ e → pos 0 ≤ℤ a → pos 0 ≤ℤ b → e <ℤ m → above e a ≡ above m p
    → above e b ≡ above m q → above e (a +ℤ b) ≡ above m (p +ℤ q) → e ≤ℤ (cut_to e a +ℤ cut_to e b)
covers e m a b p q e0 a0 b0 lt one two both =
    by_lt_z (cut_to e a +ℤ cut_to e b) e (λ less. absurd (clash less)) (λ le. le)
  where
    clash : (cut_to e a +ℤ cut_to e b) <ℤ e → ⊥
    clash less =
        let ua = above-positive e a (omega (arith, linear, less, above-most e b e0 b0)) in
        let ub = above-positive e b (omega (arith, linear, less, above-most e a e0 a0)) in
        let up = above-positive m p (omega (arith, linear, less, one, above-most e b e0 b0)) in
        let uq = above-positive m q (omega (arith, linear, less, two, above-most e a e0 a0)) in
        let at_least = (above-least e (a +ℤ b)).1 in
        let uab = above-positive e (a +ℤ b) (omega (arith, linear, less, ua, ub, at_least)) in
        let upq = above-positive m (p +ℤ q) (omega (arith, linear, less, ua, ub, at_least, both)) in
        omega (arith, linear, ua, ub, up, uq, uab, upq, one, two, both, lt)

abbrev claim_of : List ℕ → ℕ → ℤ
claim_of claims k = pos (get_or claims k 0)

-- the worth of all but some
worth_but : (estate : ℕ) (claims : List ℕ) (n s : ℕ) → length claims ≡ n → s < 2 ^ n
    → bankruptcy_worth estate claims (grand_coalition n - s) ≡ above (pos estate) (sum_over n (claim_of claims) s)
worth_but estate claims n s players lt =
    subst
    (λ (m : ℕ). bankruptcy_worth estate claims (grand_coalition m - s)
    ≡ above (pos estate) (sum_over m (claim_of claims) s)) players
    (ap (λ (t : ℕ). above (pos estate) (sum_over (length claims) (claim_of claims) t)) twice)
  where
    twice : grand_coalition (length claims) - (grand_coalition (length claims) - s) ≡ s
    twice = let here : s < 2 ^ length claims = rw players lt in omega (arith, here)

module _ (estate more : ℕ) (claims others : List ℕ) (players : length others ≡ length claims)
    (same : (s : ℕ) → s < grand_coalition (length claims)
    → bankruptcy_worth estate claims s ≡ bankruptcy_worth more others s) where
  but_some : (s : ℕ) → 0 < s → s < 2 ^ length claims
      → above (pos estate) (sum_over (length claims) (claim_of claims) s)
      ≡ above (pos more) (sum_over (length claims) (claim_of others) s)
  but_some s some lt =
      let proper : grand_coalition (length claims) - s < grand_coalition (length claims) = omega (arith, some, lt) in
      sym (worth_but estate claims (length claims) s refl lt)
      ∙ same (grand_coalition (length claims) - s) proper
      ∙ worth_but more others (length claims) s players lt

  pub one_leaves : (k : ℕ) → k < length claims
      → above (pos estate) (pos (get_or claims k 0)) ≡ above (pos more) (pos (get_or others k 0))
  one_leaves k lt =
      let some : 0 < singleton k = pow_pos k in
      ap (above (pos estate)) (sym (sum_over-singleton (length claims) k (claim_of claims) lt))
      ∙ but_some (singleton k) some (singleton-within (length claims) k lt)
      ∙ ap (above (pos more)) (sum_over-singleton (length claims) k (claim_of others) lt)

  two_leave : (k l : ℕ) → k < length claims → l < length claims → k ≢ l
      → above (pos estate) (pos (get_or claims k 0) +ℤ pos (get_or claims l 0))
      ≡ above (pos more) (pos (get_or others k 0) +ℤ pos (get_or others l 0))
  two_leave k l hk hl ne =
      let lacks = has_player-singleton_other k l (λ e. ne (sym e)) in
      let s = singleton k + 2 ^ l in
      let some : 0 < s = (let one = pow_pos k in omega (arith, one)) in
      let lt = more-lt (length claims) (singleton k) l (singleton-within (length claims) k hk) hl lacks in
      ap (above (pos estate)) (sym (both claims lacks))
      ∙ but_some s some lt
      ∙ ap (above (pos more)) (both others lacks)
    where
      both : (cs : List ℕ) → has_player (singleton k) l ≡ false
          → sum_over (length claims) (claim_of cs) (singleton k + 2 ^ l)
          ≡ pos (get_or cs k 0) +ℤ pos (get_or cs l 0)
      both cs lacks =
          sum_over-more (length claims) (singleton k) l (claim_of cs) hl lacks
          ∙ ap (λ (z : ℤ). z +ℤ claim_of cs l) (sum_over-singleton (length claims) k (claim_of cs) hk)

  pub two_cover : estate < more → (k l : ℕ) → k < length claims → l < length claims → k ≢ l
      → pos estate
      ≤ℤ (cut_to (pos estate) (pos (get_or claims k 0)) +ℤ cut_to (pos estate) (pos (get_or claims l 0)))
  two_cover less k l hk hl ne =
      covers (pos estate) (pos more) (pos (get_or claims k 0)) (pos (get_or claims l 0)) (pos (get_or others k 0))
      (pos (get_or others l 0)) (omega (arith, linear)) (omega (arith, linear)) (omega (arith, linear))
      (omega (arith, linear, less)) (one_leaves k hk) (one_leaves l hl) (two_leave k l hk hl ne)
