use Rattle.std.proofs.Common.{◌≡◌, ℕ, ◌+◌, ◌^◌, ◌<◌, ◌≤◌, min, List, [], ◌∷◌}
use Rattle.std.proofs.Common.{◌++◌, length, get_or, map}
use Rattle.std.proofs.Common.{take, ℤ, pos, ◌<ℤ◌, unsigned_abs, to_z, of_z, ap, sym, ◌∙◌}
use Rattle.std.proofs.Common.{arith}
use Rattle.std.proofs.lemmas.Int.{ints}
use Rattle.std.proofs.lemmas.List.{map_push, take_all, take_more}
use mir.Syntax.{w64}
use Rattle.talmud.proofs.cut_claims.cuts.Goals as goal

-- the cast of a claim, or of the estate, keeps it
kept : (z : ℤ) (n : ℕ) → z ≡ pos n → z <ℤ pos (2 ^ 40) → unsigned_abs (to_z w64 (of_z w64 z)) ≡ n
kept z n same small = omega (arith, ints)

-- one claim more is cut
one_more : (claims cuts : List ℕ) (estate i least : ℕ) (claim e : ℤ) → i < length claims
    → cuts ≡ map (λ c. min c estate) (take i claims)
    → claim ≡ pos (get_or claims i 0) → claim <ℤ pos (2 ^ 40) → e ≡ pos estate → e <ℤ pos (2 ^ 40)
    → least ≡ min (unsigned_abs (to_z w64 (of_z w64 claim))) (unsigned_abs (to_z w64 (of_z w64 e)))
    → cuts ++ least ∷ [] ≡ map (λ c. min c estate) (take (i + 1) claims)
one_more claims cuts estate i least claim e lt before is_claim claim_small is_estate estate_small is_least =
    let x = get_or claims i 0 in
    let cut : least ≡ min x estate =
    rw (kept claim x is_claim claim_small, kept e estate is_estate estate_small) at is_least in
    ap (λ (cs : List ℕ). cs ++ least ∷ []) before
    ∙ ap (λ (k : ℕ). map (λ c. min c estate) (take i claims) ++ k ∷ []) cut
    ∙ sym (map_push (λ c. min c estate) (take i claims) x)
    ∙ sym (ap (map (λ c. min c estate)) (take_more claims i 0 lt))

pub loop-i-init : goal.loop-i-init
loop-i-init c = c.new-cuts.ensures.items

pub loop-i-preserved : goal.loop-i-preserved
loop-i-preserved c =
    let claims = c.args.game.now.claims in
    let lt : c.loop-i.i < length claims = omega arith in
    let pushed = (c.in_ok-push.ensures {u = tt}).items in
    let more =
    one_more claims c.loop-i.cuts.items c.args.game.now.estate c.loop-i.i c.min.result c.claim-claim.result
    c.estate-estate.result lt c.loop-i.invariant c.claim-claim.ensures.value c.claim-claim.ensures.small
    c.estate-estate.ensures.value c.estate-estate.ensures.small c.min.ensures in
    pushed ∙ more

pub returns-clause-cuts : goal.returns-clause-cuts
returns-clause-cuts c =
    let claims = c.args.game.now.claims in
    let end : length claims ≤ c.loop-i.i = omega arith in
    c.loop-i.invariant ∙ ap (map (λ c'. min c' c.args.game.now.estate)) (take_all c.loop-i.i claims end)
