-- What statements add to tasks, one statement after another.
use Rattle.std.proofs.Common.{◌≡◌, ℕ, ◌+◌, ◌<◌, Bool, true, false, cond, List, [], ◌++◌, length, get_or, drop, refl, sym, ap, ◌∙◌, append_assoc, Option, Some, None, unwrap_or}
use Rattle.std.proofs.lemmas.List.{append-nil}
use Rattle.std.proofs.lemmas.Map.Text.{is_eq-slice_cmp}
use Rattle.std.specs.Borrow.{Bor}
use Rattle.std.specs.BTreeMap.{get, is_at}
use Rattle.std.specs.Cmp.Lexicographic.{bytes_decides}
use Rattle.std.specs.Global.{Global}
use Rattle.std.specs.List.{flat_map}
use Rattle.std.specs.Prelude.{bytes_eq}
use Rattle.std.specs.declared.vec.Vec.{Vec}
use Rattle.gb_core.specs.Lists.{byte_order}
use Rattle.gb_registry.proofs.Firsts.{left_from}
use Rattle.gb_registry.specs.Said.{added_clauses}
use Rattle.gb_script.specs.declared.script.Clause.{Clause}
use Rattle.gb_script.specs.declared.script.Statement.{Statement}
use Rattle.gb_declare.specs.Borrowed.{now_of}
use Rattle.gb_project.specs.Blocks.{Blocks, clauses_in, clauses_under}

pub or_nothing : (o : Option (Vec (Bor Clause) Global)) (v : Vec (Bor Clause) Global) → v.items ≡ [] → now_of (unwrap_or o v).items ≡ clauses_in o
or_nothing None v e = ap now_of e
or_nothing (Some x) v e = refl

-- clauses are appended to those of a name
module _ (before taken after : Blocks) (name key : List ℕ) (clauses : Vec (Bor Clause) Global) (is : key ≡ name)
    (takes : (q : List ℕ) → get byte_order taken q ≡ cond (is_at (byte_order name) q) None (get byte_order before q))
    (puts : (q : List ℕ) → get byte_order after q ≡ cond (is_at (byte_order key) q) (Some clauses) (get byte_order taken q))
    (added : List Clause) (longer : now_of clauses.items ≡ clauses_under before name ++ added) where
  pub block_added : (other : List ℕ) → clauses_under after other ≡ clauses_under before other ++ cond (bytes_eq name other) added []
  block_added other =
      ap clauses_in (puts other ∙ ap (λ k. cond (is_at (byte_order k) other) (Some clauses) (get byte_order taken other)) is ∙ ap (cond (is_at (byte_order name) other) (Some clauses)) (takes other))
      ∙ ap (λ b. clauses_in (cond b (Some clauses) (cond b None (get byte_order before other)))) (is_eq-slice_cmp name other)
      ∙ by (bytes_eq name other) refl
    where
      by : (b : Bool) → bytes_eq name other ≡ b → clauses_in (cond b (Some clauses) (cond b None (get byte_order before other))) ≡ clauses_under before other ++ cond b added []
      by true e = longer ∙ ap (λ n. clauses_under before n ++ added) ((bytes_decides name other).0 e)
      by false e = sym (append-nil (clauses_under before other))

-- one statement more
pub blocks_on : (ss : List Statement) (i : ℕ) (s : Statement) → i < length ss → s ≡ get_or ss i s → (name : List ℕ) (old new whole : List Clause) → new ≡ old ++ added_clauses name s
    → old ++ flat_map (added_clauses name) (drop i ss) ≡ whole → new ++ flat_map (added_clauses name) (drop (i + 1) ss) ≡ whole
blocks_on ss i s below is name old new whole is_new before =
    ap (λ n. n ++ flat_map (added_clauses name) (drop (i + 1) ss)) is_new
    ∙ append_assoc old (added_clauses name s) (flat_map (added_clauses name) (drop (i + 1) ss))
    ∙ sym (ap (λ d. old ++ flat_map (added_clauses name) d) (left_from ss i s below is)) ∙ before
