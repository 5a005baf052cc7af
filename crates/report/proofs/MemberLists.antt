-- Members that are put one after another.
use Rattle.std.proofs.Common.{◌≡◌, ℕ, List, Result, Ok, Err, IfOk, ap, ◌∙◌}
use Rattle.serde_json.specs.Data.{Data, object, Members, put}

-- a member is put on members that are known, and its value is known
pub put_on : (k : List ℕ) (e : Data) {d : Data} {ms : Members} {ns : Members} {ps : Members} → ms ≡ put k d ns
    → d ≡ e → ns ≡ ps → ms ≡ put k e ps
put_on k e is value rest = is ∙ (λ i. put k (value i) (rest i))

-- the last member is put on members that are known, where memory suffices
pub last_on : {M : Type 0} {E : Type 0} (f : M → Members) (k : List ℕ) (e : Data) {d : Data} {ns : Members}
    {ps : Members} (r : Result M E) → IfOk r (λ m. f m ≡ put k d ns) → d ≡ e → ns ≡ ps
    → IfOk r (λ m. object (f m) ≡ object (put k e ps))
last_on f k e (Ok m) is value rest = ap object (put_on k e is value rest)
last_on f k e (Err x) is value rest = tt
