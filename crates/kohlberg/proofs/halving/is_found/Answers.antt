use Rattle.std.proofs.Common.{rules, ℕ, ℤ, IsTrue, nat_eq, sym, subst, ◌∙◌}
use Rattle.std.specs.List.{list_any}
use Rattle.std.proofs.lemmas.List.Sorted.{answers_always}
use Rattle.kohlberg.proofs.Halved.{found_at}
use Rattle.kohlberg.proofs.halving.is_found.Goals as goal

-- the closure gives a pair's mask
pub returns : goal.returns
returns c =
    let facts = c.binary_search_by_key.ensures in
    let by_mask =
    facts.position (λ (p : ℕ × ℤ). p.0) (answers_always _ _ _ (λ f a r g called. search rules)) in
    λ found. subst (λ (s : ℕ). IsTrue (list_any (λ p. nat_eq p.0 s) c.args.pairs.now)) c.s.view_is
    (found_at c.args.pairs.now c.s.inside.0 _ facts.bound by_mask (sym c.is_ok.ensures.value ∙ found))
