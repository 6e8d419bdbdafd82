-- Nodes by their numbers, and the colours of their outcomes.
use Rattle.std.specs.Prelude.{ℕ, ◌+◌, Bool, true, false, not, List, [], ◌∷◌, ◌++◌, codes, decimal}
use Rattle.std.specs.Prelude.{slice_get, string_bytes, unwrap_or}
use Rattle.std.specs.List.{list_any}
use Rattle.std.specs.Option.{option_map}
use Rattle.gb_picture.specs.declared.graph.Node.{Node}
use Rattle.gb_picture.specs.declared.graph.Tint.{Tint}
use Rattle.gb_picture.specs.declared.graph.Tint.TheVariants as tints

-- a line of text
abbrev pub line : List ℕ → List ℕ
line text = text ++ 10 ∷ []

-- the text for each, in order, with its number
abbrev pub numbered : {T : Type 0} → (ℕ → T → List ℕ) → ℕ → List T → List ℕ
numbered write number [] = []
numbered write number (one ∷ more) = write number one ++ numbered write (number + 1) more

-- the name of the node with a number; empty if there is none
abbrev pub name_at : List Node → ℕ → List ℕ
name_at nodes number = unwrap_or (option_map (λ node. string_bytes node.name) (slice_get nodes number)) []

-- the id of a node
abbrev pub id : ℕ → List ℕ
id number = codes "t" ++ decimal number

-- ---- Outcomes

-- the colour of an outcome, by the name that CSS, DOT and Mermaid have for it
abbrev pub colour_of : Tint → List ℕ
colour_of tints.Plain = []
colour_of tints.Runs = codes "orange"
colour_of tints.Open = codes "khaki"
colour_of tints.Done = codes "palegreen"
colour_of tints.Idle = codes "lightgray"

abbrev pub is_plain : Tint → Bool
is_plain tints.Plain = true
is_plain other = false

-- the outcome of some node is shown
abbrev pub is_tinted : List Node → Bool
is_tinted nodes = list_any (λ node. not (is_plain node.tint)) nodes
