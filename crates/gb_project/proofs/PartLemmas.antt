-- A row of nodes in its parts.
use Rattle.std.specs.Prelude.{ℕ, ◌+◌, ◌<◌, ◌≡◌, All, List, ◌++◌, length, map}
use Rattle.std.specs.List.{flat_map}
use Rattle.std.specs.Option.{option_to_list}
use Rattle.std.proofs.Common.{sym, ap, subst, ◌∙◌, arith}
use Rattle.std.proofs.Math.Seq.{drop-append_seam, take-append_seam}
use Rattle.std.proofs.lemmas.List.{length-append, length-map, map-append}
use Rattle.std.proofs.lemmas.List.Elements.{All-drop, All-take}
use Rattle.gb_provider.specs.declared.expression.Expression.{Expression}
use Rattle.gb_provider.specs.declared.expression.Node.{Node}
use Rattle.gb_registry.specs.Projects.{Path}
use Rattle.gb_registry.specs.Source.{Source}
use Rattle.gb_registry.specs.Tables.{Tables}
use Rattle.gb_script.specs.Tree.{Tree}
use Rattle.gb_script.specs.declared.script.Condition.{Condition}
use Rattle.gb_declare.specs.Joined.{Joined, Made, Named}
use Rattle.gb_declare.specs.Whole.{trees_of}
use Rattle.gb_project.specs.Parts.{AreAllFor, AreAllWithin, AreCounted, row_of}
use Rattle.gb_project.specs.Rows.{AreFor, AreWithin}
use Rattle.gb_project.specs.declared.parts.Parts.{Parts}
use Rattle.gb_project.proofs.RowValueLemmas.{back_for, prefix_for}

-- ---- Lengths

long : (ps qs : List Node) (xs ys : List Tree) → length ps ≡ length xs → length qs ≡ length ys → length (ps ++ qs) ≡ length (xs ++ ys)
long ps qs xs ys first second = length-append ps qs ∙ ap (λ n. n + length qs) first ∙ ap (λ n. length xs + n) second ∙ sym (length-append xs ys)

-- ---- Nodes of a table

module _ {X : Type 0} (P : X → Type 0) (xs ys : List X) (both : All P (xs ++ ys)) where
  pub prefix_all : All P xs
  prefix_all = subst (All P) (take-append_seam xs ys) (All-take P (length xs) (xs ++ ys) both)

  pub back_all : All P ys
  back_all = subst (All P) (drop-append_seam xs ys) (All-drop P (length xs) (xs ++ ys) both)

pub parts_within : {M F Z : Type 0} (nodes : List (Expression M F Z)) (parts : Parts) → AreWithin nodes (row_of parts) → AreAllWithin nodes parts
parts_within nodes parts within =
    let e = parts.enabled.now in
    let o = parts.only_if.now in
    let u = parts.up_to_date_when.now in
    let v = parts.values.now in
    let r = parts.roots.now in
    let w = parts.outputs.now in
    let a = parts.arguments.now in
    let P = λ (node : Node). node.number < length nodes in
    let first5 = prefix_all P (e ++ (o ++ u) ++ v ++ r ++ w) a within in
    let first4 = prefix_all P (e ++ (o ++ u) ++ v ++ r) w first5 in
    let first3 = prefix_all P (e ++ (o ++ u) ++ v) r first4 in
    let first2 = prefix_all P (e ++ (o ++ u)) v first3 in
    let conditions = back_all P e (o ++ u) first2 in
    record {
      enabled = prefix_all P e (o ++ u) first2;
      only_if = prefix_all P o u conditions;
      up_to_date_when = back_all P o u conditions;
      values = back_all P (e ++ (o ++ u)) v first3;
      roots = back_all P (e ++ (o ++ u) ++ v) r first4;
      outputs = back_all P (e ++ (o ++ u) ++ v ++ r) w first5;
      arguments = back_all P (e ++ (o ++ u) ++ v ++ r ++ w) a within;
    }

-- ---- Nodes for the expressions of a task

pub parts_for : {M F Z S A : Type 0} (tables : Tables M F Z S A) (source : Source) (number : ℕ → ℕ) (project : Path) (task : Joined) (parts : Parts) → AreCounted task parts
    → AreFor tables source number project (row_of parts) (trees_of task) → AreAllFor tables source number project task parts
parts_for tables source number project task parts counted are =
    let e = parts.enabled.now in
    let o = parts.only_if.now in
    let u = parts.up_to_date_when.now in
    let v = parts.values.now in
    let r = parts.roots.now in
    let w = parts.outputs.now in
    let a = parts.arguments.now in
    let E = option_to_list task.enabled in
    let O = map (λ (one : Condition). one.value) task.only_if in
    let U = map (λ (one : Condition). one.value) task.up_to_date_when in
    let C = map (λ (one : Condition). one.value) (task.only_if ++ task.up_to_date_when) in
    let V = map (λ (value : Named Tree). value.1) task.values in
    let R = flat_map (λ files. files.1.from) task.files in
    let W = map (λ (output : Named Made). output.1.1) task.outputs in
    let A = flat_map (λ call. call.arguments) task.actions in
    let same : C ≡ O ++ U = map-append (λ (one : Condition). one.value) task.only_if task.up_to_date_when in
    let lo : length o ≡ length O = counted.only_if ∙ sym (length-map task.only_if (λ (one : Condition). one.value)) in
    let lu : length u ≡ length U = counted.up_to_date_when ∙ sym (length-map task.up_to_date_when (λ (one : Condition). one.value)) in
    let lc : length (o ++ u) ≡ length C = long o u O U lo lu ∙ sym (ap length same) in
    let lv : length v ≡ length V = counted.values ∙ sym (length-map task.values (λ (value : Named Tree). value.1)) in
    let lw : length w ≡ length W = counted.outputs ∙ sym (length-map task.outputs (λ (output : Named Made). output.1.1)) in
    let l2 = long e (o ++ u) E C counted.enabled lc in
    let l3 = long (e ++ (o ++ u)) v (E ++ C) V l2 lv in
    let l4 = long (e ++ (o ++ u) ++ v) r (E ++ C ++ V) R l3 counted.roots in
    let l5 = long (e ++ (o ++ u) ++ v ++ r) w (E ++ C ++ V ++ R) W l4 lw in
    let first5 = prefix_for tables source number project (e ++ (o ++ u) ++ v ++ r ++ w) a (E ++ C ++ V ++ R ++ W) A l5 are in
    let first4 = prefix_for tables source number project (e ++ (o ++ u) ++ v ++ r) w (E ++ C ++ V ++ R) W l4 first5 in
    let first3 = prefix_for tables source number project (e ++ (o ++ u) ++ v) r (E ++ C ++ V) R l3 first4 in
    let first2 = prefix_for tables source number project (e ++ (o ++ u)) v (E ++ C) V l2 first3 in
    let conditions = subst (AreFor tables source number project (o ++ u)) same (back_for tables source number project e (o ++ u) E C counted.enabled first2) in
    record {
      enabled = prefix_for tables source number project e (o ++ u) E C counted.enabled first2;
      only_if = prefix_for tables source number project o u O U lo conditions;
      up_to_date_when = back_for tables source number project o u O U lo conditions;
      values = back_for tables source number project (e ++ (o ++ u)) v (E ++ C) V l2 first3;
      roots = back_for tables source number project (e ++ (o ++ u) ++ v) r (E ++ C ++ V) R l3 first4;
      outputs = back_for tables source number project (e ++ (o ++ u) ++ v ++ r) w (E ++ C ++ V ++ R) W l4 first5;
      arguments = back_for tables source number project (e ++ (o ++ u) ++ v ++ r ++ w) a (E ++ C ++ V ++ R ++ W) A l5 are;
    }

-- ---- The rest of a row

pub left_counted : {X Y : Type 0} (these others row : List X) (xs ys all : List Y) → these ++ others ≡ row → length these ≡ length xs → length row ≡ length all → all ≡ xs ++ ys → length others ≡ length ys
left_counted these others row xs ys all cut counted count is =
    let whole : length these + length others ≡ length xs + length ys =
    sym (length-append these others) ∙ ap length cut ∙ count ∙ ap length is ∙ length-append xs ys in
    omega (arith, whole, counted)
