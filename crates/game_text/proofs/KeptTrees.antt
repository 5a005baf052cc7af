-- The tree that a document keeps is exact, and written in no more bytes than were read.
use Rattle.std.proofs.Common.{◌≡◌, ℕ, ◌≤◌, codes, List, length, take, Bool, true, false}
use Rattle.std.proofs.Common.{◌&&◌, if◌then◌else◌}
use Rattle.std.proofs.Common.{Option, Some, None, Result, Ok, Err, MatchResult, IfOk, nat_le}
use Rattle.std.proofs.Common.{refl, sym, ap, subst, arith}
use Rattle.std.specs.Prelude.{unwrap_or}
use Rattle.std.proofs.lemmas.Bool.{false≢true, and_parts}
use Rattle.std.proofs.lemmas.List.{length-take}
use Rattle.serde_json.specs.Data.{Data, null}
use Rattle.serde_json.specs.Find.{get}
use Rattle.serde_json.specs.Read.{read}
use Rattle.serde_json.specs.View.{view}
use Rattle.json_texts.specs.Exact.{IsOrdered}
use Rattle.json_texts.proofs.Back.{exact_from, read_ordered}
use Rattle.json_texts.proofs.Lighter.{no_longer}
use Rattle.json_texts.proofs.Parts.{member_keeps}
use Rattle.json_trees.specs.Keys.{has_only_keys}
use Rattle.json_trees.specs.Trees.{passes}
use Rattle.json_texts.specs.Newlines.{without_newline}
use Rattle.document_parts.specs.Scales.{scale_of}
use Rattle.game_text.specs.Classes.{class_of, has_players, has_numbers, has_numbers_as, own_test}
use Rattle.game_text.specs.Shape.{document_keys, is_game_shaped, has_needed, is_shaped}
use Rattle.game_text.specs.Documents.{game_tree}
use Rattle.game_text.specs.Refusals.{has_needed_numbers}
use Rattle.game_text.specs.Readings.{IsTreeReading, IsTreeFault}
use Rattle.game_text.specs.Kept.{IsKept}
use Rattle.game_text.specs.declared.command.Command.{Command}
use Rattle.game_text.specs.declared.document.Document.{Document}
use Rattle.game_text.specs.declared.document.TextFault.{TextFault}
use Rattle.game_text.proofs.Laws.{laws_of}
use Rattle.game_text.proofs.PlainTrees.{IsPlain}
use Rattle.game_text.proofs.Passed.{Passes, passed_tests}

there : (test : Data → Bool) (o : Option Data) → passes test o ≡ true → o ≡ Some (unwrap_or o null)
there test None h = absurd (false≢true h)
there test (Some d) h = refl

pub passes_there : (test : Data → Bool) (o : Option Data) → passes test o ≡ true → test (unwrap_or o null) ≡ true
passes_there test None h = absurd (false≢true h)
passes_there test (Some d) h = h

has_game : (command : Command) (tree : Data) → is_shaped command tree ≡ true
    → passes is_game_shaped (get (codes "game") tree) ≡ true
has_game command tree h =
    let a =
    and_parts (has_only_keys document_keys tree && passes is_game_shaped (get (codes "game") tree))
    (has_needed command tree) h in
    (and_parts (has_only_keys document_keys tree) (passes is_game_shaped (get (codes "game") tree)) a.0).1

cut_is_shorter : (b : Bool) (n : ℕ) (bytes : List ℕ) → length (if b then take n bytes else bytes) ≤ length bytes
cut_is_shorter true n bytes = let long = length-take n bytes in omega (arith, long)
cut_is_shorter false n bytes = omega arith

without_newline_is_shorter : (bytes : List ℕ) → length (without_newline bytes) ≤ length bytes
without_newline_is_shorter bytes = cut_is_shorter _ _ bytes

-- the tree of a game of any class holds no float and is nested at most 4 deep
plain_game : (game : Data) → IsOrdered game → is_game_shaped game ≡ true → has_players game ≡ true
    → has_numbers game ≡ true → (own_test game).1 ≡ true → IsPlain 4 game
plain_game game o h n w m =
    (laws_of (class_of game)).plain (scale_of game) game o refl h n
    (and_parts (nat_le (scale_of game) 65536) (has_numbers_as (scale_of game) (class_of game) game) w).1 m

kept_game : (command : Command) (bytes : List ℕ) (tree : Data) → read (without_newline bytes) ≡ Some tree
    → Passes command tree → IsKept bytes (game_tree tree)
kept_game command bytes tree read p =
    let found = has_game command tree p.shaped in
    let ordered = (read_ordered (without_newline bytes) tree read).0 in
    let part =
    member_keeps (codes "game") (game_tree tree) tree ordered
    (there is_game_shaped (get (codes "game") tree) found) in
    let numbers = (and_parts (has_numbers (game_tree tree)) (has_needed_numbers command tree) p.numbers).0 in
    let plain =
    plain_game (game_tree tree) part.ordered (passes_there is_game_shaped (get (codes "game") tree) found)
    p.players numbers p.own in
    let light = no_longer (without_newline bytes) tree read in
    let cut = without_newline_is_shorter bytes in
    record {
      exact = exact_from (game_tree tree) part.ordered plain.whole;
      whole = plain.whole;
      integers = plain.integers;
      shallow = omega (arith, plain.shallow);
      shorter = omega (arith, part.shorter, light, cut);
    }

pub kept_tree : (command : Command) (bytes : List ℕ) (tree : Data) → read (without_newline bytes) ≡ Some tree
    → (r : Result Document TextFault) → MatchResult r (IsTreeReading command tree) (IsTreeFault command tree)
    → IfOk r (λ d. IsKept bytes (view d.tree))
kept_tree command bytes tree read (Ok d) m =
    let same : view d.tree ≡ game_tree tree = ap (λ c. c.tree) m.says in
    subst (IsKept bytes) (sym same) (kept_game command bytes tree read (passed_tests command tree m.passed))
kept_tree command bytes tree read (Err e) m = tt
