use Rattle.std.proofs.Common.{◌≡◌, drop}
use Rattle.std.specs.List.{list_any}
use Rattle.std.specs.Str.{bytes_eq}
use Rattle.json_trees.proofs.looking.is_one_of.Given as goal

abbrev pub invariant-loop-word : goal.invariant-loop-word
invariant-loop-word l =
    list_any (λ w. bytes_eq l.text w.now) l.words ≡ list_any (λ w. bytes_eq l.text w.now) (drop l.word-index l.words)
