-- Theorems that follow from the definitions.
use Rattle.std.specs.Prelude.{◌≡◌, ◌↔◌, ℕ, false, List, Ok, Contains}
use Rattle.std.specs.Option.{option_or}
use Rattle.gb_action.specs.Files.{Tree}
use Rattle.gb_action.specs.Changes.{changes_between, IsChange}
use Rattle.gb_action.specs.Meanings.{Making, Printing}
use Rattle.gb_action.specs.Outputs.{written_at, exists_at, left_at}
use Rattle.gb_action.specs.Replies.{Answers, made_for}
use Rattle.gb_action.specs.declared.change.Change.{Change}
use Rattle.gb_action.specs.declared.output_files.OutputFiles.{OutputFiles}
use Rattle.gb_action.specs.declared.reply.Written.{Written}
use Rattle.gb_action.specs.declared.reply.Reply.{Reply}
use Rattle.gb_action.specs.declared.request.Request.{Request}

-- over any old files, a full reply leaves what is made where something is made, and elsewhere what was there
abbrev pub FullRepliesPutOver : Type 0
FullRepliesPutOver =
    (makes : Making) (prints : Printing) (request : Request) (reply : Reply) (made : List Written)
    → Answers makes prints request (Ok reply) → request.changes.incremental ≡ false
    → made_for makes request ≡ Ok made
    → (old : List OutputFiles) (output path : List ℕ)
    → left_at reply old output path ≡ option_or (written_at made output path) (exists_at old output path)

-- the changes between two trees are each change of the tree, and no other
abbrev pub ChangesAreExact : Type 0
ChangesAreExact =
    (old new : Tree) (change : Change) → Contains (changes_between old new) change ↔ IsChange old new change
