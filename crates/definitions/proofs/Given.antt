-- An answer that may be missing only if a fact fails is there when the fact holds.
use Rattle.std.proofs.Common.{Option, Some, None, MatchOption, IsSome, Result, Ok, Err, MatchResult, IsOk}
use Rattle.std.proofs.Common.{refl}

pub is_some : {X : Type 0} (A : Type 0) (P : X → Type 0) (o : Option X) → MatchOption o (A → ⊥) P → A → IsSome o
is_some A P None h a = absurd (h a)
is_some A P (Some y) h a = refl

pub is_ok : {X E : Type 0} (A : Type 0) (P : X → Type 0) (r : Result X E) → MatchResult r P (λ e. A → ⊥) → A
    → IsOk r
is_ok A P (Ok y) h a = refl
is_ok A P (Err e) h a = absurd (h a)
