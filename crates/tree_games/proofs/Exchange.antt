-- A plan is turned round so that a waiting point comes first: the path that leads to the point runs the other way,
-- and the pair that leads from the connected points to that path is left out.
--
-- Take any plan, and a waiting point whose link to a connected point costs least. A path of the plan leads from the
-- connected points to that point. It is run through the other way, and the link that led from the connected points onto
-- it is left out (`turned`). What is left is a plan that begins with the point, and the link left out costs no less
-- than the least one (`exchange`). So step by step no plan costs less than Prim's.
use Rattle.std.proofs.Common.{◌≡◌, ◌≢◌, ◌⊎◌, ℕ, ◌+◌, ◌≤◌, Bool, true, false, not}
use Rattle.std.proofs.Common.{◌&&◌, ◌||◌, nat_eq, List}
use Rattle.std.proofs.Common.{[], ◌∷◌, ◌++◌, refl, sym, ap, subst, ◌∙◌, inl, inr}
use Rattle.std.proofs.Common.{arith}
use Rattle.std.proofs.lemmas.Bool.{false≢true}
use Rattle.definitions.proofs.Cases.{same_or_other, nat_eq-same, nat_eq-other, from_nat_eq, or_other}
use Rattle.definitions.proofs.Cases.{and_right, and_false, or_right, or_left, not_true}
use Rattle.definitions.specs.Classes.{Matrix, joined, removed, IsAttachment, IsSymmetric}
use Rattle.definitions.specs.Classes.{IsLeastCost, is_source, is_point_of, entry, plan_cost}
use Rattle.tree_games.specs.Steps.{IsPrimFrom}
use Rattle.tree_games.proofs.Attachments.{Within, Same, removed-same, attachment-more, plan_cost-append}

-- each pair leads on from the point before it, from f to t, through points of the first set, and what isn't passed
-- is left
abbrev IsChain : ℕ → (ℕ → Bool) → List (ℕ × ℕ) → ℕ → (ℕ → Bool) → Type 0
IsChain f w [] t l = (f ≡ t) × ((j : ℕ) → w j ≡ l j)
IsChain f w (q ∷ path) t l = (q.0 ≡ f) × (w q.1 ≡ true) × IsChain q.1 (removed w q.1) path t l

chain-left : (f : ℕ) (w : ℕ → Bool) (path : List (ℕ × ℕ)) (t : ℕ) (l : ℕ → Bool) → IsChain f w path t l → Within l w
chain-left f w [] t l h j e = h.1 j ∙ e
chain-left f w (q ∷ path) t l h j e =
    and_right (not (nat_eq j q.1)) (w j) (chain-left q.1 (removed w q.1) path t l h.2 j e)

-- one more point that waits is left
chain-joined : (f : ℕ) (w v : ℕ → Bool) (path : List (ℕ × ℕ)) (t : ℕ) (l : ℕ → Bool) (a : ℕ) → w a ≡ false
    → Same v (joined w a) → IsChain f w path t l → IsChain f v path t (joined l a)
chain-joined f w v [] t l a out same h = (h.0, λ j. same j ∙ ap (λ x. nat_eq j a || x) (h.1 j))
chain-joined f w v (q ∷ path) t l a out same h = (
  h.0,
  same q.1 ∙ or_right (nat_eq q.1 a) (w q.1) h.1,
  chain-joined q.1 (removed w q.1) (removed v q.1) path t l a (rw out (and_false (not (nat_eq a q.1)))) onward h.2,
)
  where
    apart : q.1 ≢ a
    apart e = absurd (false≢true (sym out ∙ ap w (sym e) ∙ h.1))

    onward : Same (removed v q.1) (joined (removed w q.1) a)
    onward j = elim (same_or_other j a) [
      | inl here ↦ rw (here, nat_eq-other a q.1 (λ e. apart (sym e)), nat_eq-same a, same a, nat_eq-same a) refl
      | inr there ↦ rw (nat_eq-other j a there, same j, nat_eq-other j a there) refl
    ]

chain-snoc : (f : ℕ) (w : ℕ → Bool) (path : List (ℕ × ℕ)) (t : ℕ) (l : ℕ → Bool) (a : ℕ) → l a ≡ true
    → IsChain f w path t l → IsChain f w (path ++ (t, a) ∷ []) a (removed l a)
chain-snoc f w [] t l a e h = (sym h.0, h.1 a ∙ e, (refl, removed-same w l a h.1))
chain-snoc f w (q ∷ path) t l a e h = (h.0, h.1, chain-snoc q.1 (removed w q.1) path t l a e h.2)

-- what is connected, and what was passed
abbrev passed : (ℕ → Bool) → (ℕ → Bool) → (ℕ → Bool) → ℕ → Bool
passed c w l j = c j || (w j && not (l j))

passed-joined : (c w l : ℕ → Bool) (p : ℕ) → Within (passed c w l) (passed (joined c p) (removed w p) l)
passed-joined c w l p j = λ e. grind arith

chain-attaches : (f : ℕ) (c w : ℕ → Bool) (path : List (ℕ × ℕ)) (t : ℕ) (l : ℕ → Bool) (rest : List (ℕ × ℕ))
    → c f ≡ true → IsChain f w path t l → IsAttachment (passed c w l) l rest → IsAttachment c w (path ++ rest)
chain-attaches f c w [] t l rest e h a =
    attachment-more (passed c w l) c l w rest (λ j k. grind (arith, h.1 j)) (λ j. sym (h.1 j)) a
chain-attaches f c w (q ∷ path) t l rest e h a = (
  ap c h.0 ∙ e,
  h.1,
  chain-attaches q.1 (joined c q.1) (removed w q.1) path t l rest (rw (nat_eq-same q.1) refl) h.2
      (attachment-more (passed c w l) (passed (joined c q.1) (removed w q.1) l) l l rest (passed-joined c w l q.1)
      (λ j. refl) a),
)

record Turned (matrix : Matrix) (c w : ℕ → Bool) (p : ℕ) (cost : ℕ) : Type 0 where
  begin : ℕ
  end : ℕ
  path : List (ℕ × ℕ)
  rest : List (ℕ × ℕ)
  left : ℕ → Bool
  begins : c begin ≡ true
  ends : w end ≡ true
  chain : IsChain p (removed w p) path end left
  attaches : IsAttachment (passed c w left) left rest
  costs : entry matrix begin end + plan_cost matrix path + plan_cost matrix rest ≡ cost

-- the point is the first that is attached
turned_here : (matrix : Matrix) (c w : ℕ → Bool) (p b : ℕ) (plan : List (ℕ × ℕ)) → c b ≡ true → w p ≡ true
    → IsAttachment (joined c p) (removed w p) plan → Turned matrix c w p (entry matrix b p + plan_cost matrix plan)
turned_here matrix c w p b plan cb wp a = record {
  begin = b;
  end = p;
  path = [];
  rest = plan;
  left = removed w p;
  begins = cb;
  ends = wp;
  chain = (refl, λ j. refl);
  attaches =
      attachment-more (joined c p) (passed c w (removed w p)) (removed w p) (removed w p) plan
      (λ j e. grind (arith, from_nat_eq j p)) (λ j. refl) a;
  costs = omega arith;
}

-- another point a is attached first, to b
turned_later : (matrix : Matrix) → IsSymmetric matrix → (c w : ℕ → Bool) (p b a : ℕ) (plan : List (ℕ × ℕ))
    → c b ≡ true → w a ≡ true → a ≢ p → Turned matrix (joined c a) (removed w a) p (plan_cost matrix plan)
    → Turned matrix c w p (entry matrix b a + plan_cost matrix plan)
turned_later matrix symmetric c w p b a plan cb wa ne r = elim (same_or_other r.begin a) [
  | inl here ↦ record {
    begin = b;
    end = a;
    path = r.path ++ (r.end, a) ∷ [];
    rest = r.rest;
    left = removed (joined r.left a) a;
    begins = cb;
    ends = wa;
    chain = chain-snoc p (removed w p) r.path r.end (joined r.left a) a (rw (nat_eq-same a) refl) chain;
    attaches =
        attachment-more (passed (joined c a) (removed w a) r.left) (passed c w (removed (joined r.left a) a)) r.left
        (removed (joined r.left a) a) r.rest
        (λ j e. grind (arith, from_nat_eq j a)) back r.attaches;
    costs =
        let swapped = symmetric r.end a in
        let from = ap (λ (k : ℕ). entry matrix k r.end) here in
        omega (arith, plan_cost-append matrix r.path ((r.end, a) ∷ []));
  }
  | inr there ↦ record {
    begin = r.begin;
    end = r.end;
    path = r.path;
    rest = (b, a) ∷ r.rest;
    left = joined r.left a;
    begins = or_other (nat_eq r.begin a) (c r.begin) (nat_eq-other r.begin a there) r.begins;
    ends = and_right (not (nat_eq r.end a)) (w r.end) r.ends;
    chain = chain;
    attaches = (
      or_left (c b) (w b && not (joined r.left a b)) cb,
      rw (nat_eq-same a) refl,
      attachment-more (passed (joined c a) (removed w a) r.left) (joined (passed c w (joined r.left a)) a) r.left
          (removed (joined r.left a) a) r.rest (λ j e. grind arith) back
          r.attaches,
    );
    costs = omega arith;
  }
]
  where
    out : removed (removed w a) p a ≡ false
    out = rw (nat_eq-other a p ne, nat_eq-same a) refl

    left_out : r.left a ≡ false
    left_out =
        not_true (r.left a)
        (λ e. false≢true (sym out ∙ chain-left p (removed (removed w a) p) r.path r.end r.left r.chain a e))

    waits : Same (removed w p) (joined (removed (removed w a) p) a)
    waits j = elim (same_or_other j a) [
      | inl here ↦ rw (here, nat_eq-other a p ne, nat_eq-same a, wa) refl
      | inr there ↦ rw (nat_eq-other j a there) refl
    ]

    chain : IsChain p (removed w p) r.path r.end (joined r.left a)
    chain = chain-joined p (removed (removed w a) p) (removed w p) r.path r.end r.left a out waits r.chain

    back : Same r.left (removed (joined r.left a) a)
    back j = elim (same_or_other j a) [
      | inl here ↦ rw (here, nat_eq-same a, left_out) refl
      | inr there ↦ rw (nat_eq-other j a there) refl
    ]

turned_plan : (matrix : Matrix) → IsSymmetric matrix → (c w : ℕ → Bool) (p : ℕ) (plan : List (ℕ × ℕ)) → w p ≡ true
    → IsAttachment c w plan → Turned matrix c w p (plan_cost matrix plan)
turned_plan matrix symmetric c w p [] e a = absurd (false≢true (sym (a p) ∙ e))
turned_plan matrix symmetric c w p (q ∷ plan) e a =
    cases (same_or_other q.1 p)
    (λ ne. turned_plan matrix symmetric (joined c q.1) (removed w q.1) p plan (still ne) a.2)
  where
    still : q.1 ≢ p → removed w q.1 p ≡ true
    still ne = rw (nat_eq-other p q.1 (λ k. ne (sym k))) e

    cases : (q.1 ≡ p) ⊎ (q.1 ≢ p)
        → (q.1 ≢ p → Turned matrix (joined c q.1) (removed w q.1) p (plan_cost matrix plan))
        → Turned matrix c w p (entry matrix q.0 q.1 + plan_cost matrix plan)
    cases (inl here) ih =
        subst
        (λ (k : ℕ). IsAttachment (joined c k) (removed w k) plan
        → Turned matrix c w p (entry matrix q.0 k + plan_cost matrix plan)) (sym here)
        (turned_here matrix c w p q.0 plan a.0 e) a.2
    cases (inr there) ih = turned_later matrix symmetric c w p q.0 q.1 plan a.0 a.1 there (ih there)

-- a plan that begins with a waiting point costs no more, where no pair that leads on costs less than the point
pub exchange : (matrix : Matrix) → IsSymmetric matrix → (c w : ℕ → Bool) (p least : ℕ) (plan : List (ℕ × ℕ))
    → w p ≡ true → ((b t : ℕ) → c b ≡ true → w t ≡ true → least ≤ entry matrix b t) → IsAttachment c w plan
    → (q : List (ℕ × ℕ)) × IsAttachment (joined c p) (removed w p) q
    × (least + plan_cost matrix q ≤ plan_cost matrix plan)
exchange matrix symmetric c w p least plan e low a =
    let r = turned_plan matrix symmetric c w p plan e a in
    let joins = plan_cost-append matrix r.path r.rest in
    let le = low r.begin r.end r.begins r.ends in (
      r.path ++ r.rest,
      chain-attaches p (joined c p) (removed w p) r.path r.end r.left r.rest (rw (nat_eq-same p) refl) r.chain
          (attachment-more (passed c w r.left) (passed (joined c p) (removed w p) r.left) r.left r.left r.rest
          (passed-joined c w r.left p) (λ j. refl) r.attaches),
      omega arith,
    )

pub prim-attaches : (matrix : Matrix) (c w : ℕ → Bool) (plan : List (ℕ × ℕ)) → IsPrimFrom matrix c w plan
    → IsAttachment c w plan
prim-attaches matrix c w [] h = h
prim-attaches matrix c w (p ∷ plan) h = (h.0, h.1, prim-attaches matrix (joined c p.1) (removed w p.1) plan h.3)

pub prim-least : (matrix : Matrix) → IsSymmetric matrix → (c w : ℕ → Bool) (plan other : List (ℕ × ℕ))
    → IsPrimFrom matrix c w plan → IsAttachment c w other → plan_cost matrix plan ≤ plan_cost matrix other
prim-least matrix symmetric c w [] other h a = omega arith
prim-least matrix symmetric c w (p ∷ plan) other h a =
    let better = exchange matrix symmetric c w p.1 (entry matrix p.0 p.1) other h.1 h.2 a in
    let ih = prim-least matrix symmetric (joined c p.1) (removed w p.1) plan better.0 h.3 better.1 in
    omega arith

pub prim_least : (matrix : Matrix) (s : ℕ) (plan : List (ℕ × ℕ)) → IsSymmetric matrix
    → IsPrimFrom matrix is_source (is_point_of s) plan → IsLeastCost matrix s (plan_cost matrix plan)
prim_least matrix s plan symmetric h = record {
  reached = (plan, prim-attaches matrix is_source (is_point_of s) plan h, refl);
  least = λ other a. prim-least matrix symmetric is_source (is_point_of s) plan other h a;
}
