use Rattle.std.proofs.Common.{◌≡◌, [], map}
use Rattle.serde_json.specs.View.{view}
use Rattle.json_trees.proofs.Values.{rest}
use Rattle.json_trees.proofs.Readings.{joined}
use Rattle.json_trees.proofs.reader.read_all.Given as goal

abbrev pub invariant-loop-tree : goal.invariant-loop-tree
invariant-loop-tree g l =
    joined (g.R.Reader.form l.reader) (g.R.Reader.described l.reader) [] (map view l.trees)
    ≡ joined (g.R.Reader.form l.reader) (g.R.Reader.described l.reader) l.found.items (rest l.trees l.tree-index)
