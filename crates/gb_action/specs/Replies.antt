-- When the answer of an action is right.
use Rattle.std.specs.Prelude.{◌≡◌, ◌≢◌, ℕ, true, false, List, [], map, None, Some, Result, Ok, Err, IsOk}
use Rattle.std.specs.List.{list_all}
use Rattle.std.specs.FinMap.Entries.{find, is_sorted}
use Rattle.gb_core.specs.Lists.{byte_order}
use Rattle.gb_action.specs.Files.{Trees, tree_at}
use Rattle.gb_action.specs.Changes.{AreChanges}
use Rattle.gb_action.specs.Outputs.{written_at, exists_at, left_at, is_named, names_only}
use Rattle.gb_action.specs.Meanings.{Making, Printing}
use Rattle.gb_action.specs.declared.change.Change.{Change}
use Rattle.gb_action.specs.declared.reply.Written.{Written}
use Rattle.gb_action.specs.declared.reply.Reply.{Reply}
use Rattle.gb_action.specs.declared.reply.ActionFault.{ActionFault}
use Rattle.gb_action.specs.declared.reply.ActionFault.TheVariants.{ActionFailed}
use Rattle.gb_action.specs.declared.request.Request.{Request}

-- what is to be made for a request
abbrev pub made_for : Making → Request → Result (List Written) (List ℕ)
made_for makes request = makes request.args request.values request.files

-- The request describes how its trees differ from these old ones: the properties are the same, each has the
-- changes of its list, and one without a list is unchanged.
pub record DescribesChangesFrom (old : Trees) (request : Request) : Type 0 where
  pub ordered : list_all (λ tree. is_sorted byte_order tree.1) old ≡ true
  pub same_names : map (λ tree. tree.0) old ≡ map (λ tree. tree.0) request.files
  pub same_others : (name : List ℕ) → find byte_order name request.changes.lists ≡ None
      → find byte_order name old ≡ find byte_order name request.files
  pub reported : (name : List ℕ) (list : List Change) → find byte_order name request.changes.lists ≡ Some list
      → AreChanges (tree_at old name) (tree_at request.files name) list

-- The request's arguments and values made these files of old trees: the request describes the changes from
-- those trees, and its outputs have what was made.
pub record FollowsOn (makes : Making) (request : Request) (old : Trees) : Type 0 where
  pub shows : DescribesChangesFrom old request
  pub before : List Written
  pub was_made : makes request.args request.values old ≡ Ok before
  pub exists : (output path : List ℕ) → exists_at request.outputs output path ≡ written_at before output path

-- Over what was made of old trees, the reply leaves what is made of the new ones, and it names only paths
-- at which the two differ.
pub record CarriesOver (makes : Making) (request : Request) (reply : Reply) : Type 0 where
  pub carried : (old : Trees) → FollowsOn makes request old → (after : List Written)
      → made_for makes request ≡ Ok after
      → (output path : List ℕ) → left_at reply request.outputs output path ≡ written_at after output path
  pub frugal : (old : Trees) → FollowsOn makes request old → (after : List Written)
      → made_for makes request ≡ Ok after
      → (output path : List ℕ) → is_named reply output path ≡ true
      → exists_at request.outputs output path ≢ written_at after output path

-- The answer is right: a reply that makes what is to be made and prints what is to be printed, or the
-- expected failure. Running out of memory is not covered.
pub record Answers (makes : Making) (prints : Printing) (request : Request)
    (answer : Result Reply ActionFault) : Type 0 where
  pub succeeds : (reply : Reply) → answer ≡ Ok reply → IsOk (made_for makes request)
  pub removes_nothing : (reply : Reply) → answer ≡ Ok reply → request.changes.incremental ≡ false
      → reply.removes ≡ []
  pub in_full : (reply : Reply) → answer ≡ Ok reply → request.changes.incremental ≡ false
      → made_for makes request ≡ Ok reply.writes
  pub by_changes : (reply : Reply) → answer ≡ Ok reply → request.changes.incremental ≡ true
      → CarriesOver makes request reply
  pub declared : (reply : Reply) → answer ≡ Ok reply → names_only request.outputs reply ≡ true
  pub prints_lines : (reply : Reply) → answer ≡ Ok reply
      → reply.lines ≡ prints request.args request.values request.files request.changes.lists
  pub failed : (text : List ℕ) → answer ≡ Err (ActionFailed text) → made_for makes request ≡ Err text
