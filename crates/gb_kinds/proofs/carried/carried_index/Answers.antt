use Rattle.std.proofs.Common.{◌≡◌, ◌||◌, ◌&&◌, ℕ, List, ap, subst, ◌∙◌, unwrap_or, [], bytes_eq, IsTrue}
use Rattle.std.specs.BTreeSet.{contains}
use Rattle.std.specs.FinMap.Entries.{find, is_sorted}
use Rattle.std.specs.List.{list_all, list_any}
use Rattle.bstr.specs.Text.{lines_of}
use Rattle.gb_core.specs.Place.{is_rel_path}
use Rattle.gb_core.specs.Lists.{byte_order}
use Rattle.gb_action.specs.Files.{Tree, file_at, tree_at}
use Rattle.gb_action.specs.Outputs.{files_of, exists_at}
use Rattle.gb_action.specs.Shapes.{source, target}
use Rattle.gb_action.specs.declared.change.Change.{Change}
use Rattle.gb_kinds.specs.ByFile.{source_changes}
use Rattle.gb_kinds.specs.Carried.{is_line_of, IsCarried}
use Rattle.gb_kinds.specs.Remade.{existing}
use Rattle.gb_kinds.specs.Words.{index_files}
use Rattle.gb_kinds.proofs.CarriedFound.{is_found, same_entry}
use Rattle.gb_kinds.proofs.RemadeLaw.{existed_at}
use Rattle.gb_kinds.proofs.carried.carried_index.Goals as goal

pub returns : goal.returns
returns c =
    let request = c.args.request.now in
    let old = existing request.outputs in
    let output_is = c.in_ok-output.ensures in
    let changed = c.in_ok-changed.changed in
    let gone = contains byte_order changed.lines in
    let new = index_files changed.index in
    let index = index_files c.in_ok-made.made in
    let existed : c.existing.result.now ≡ old = c.existing.ensures.files ∙ ap (λ name. unwrap_or (files_of request.outputs name) []) output_is in
    let changes_are : c.changes_of.result.now ≡ source_changes request.changes.lists = c.changes_of.ensures ∙ ap (λ name. unwrap_or (find byte_order name request.changes.lists) []) c.in_ok-name.ensures in
    let files_are : c.files_of.result.now ≡ tree_at request.files source = c.files_of.ensures.files ∙ ap (tree_at request.files) c.in_ok-name.ensures in
    subst (λ (changes : List Change). IsCarried old changes (tree_at request.files source) (contains byte_order c.add_reported.new.words) index) changes_are
    (is_found old c.changes_of.result.now (tree_at request.files source) index new gone (contains byte_order c.add_reported.new.words) (contains byte_order changed.words)
    (subst (λ name. IsTrue (is_sorted byte_order (unwrap_or (files_of request.outputs name) []))) output_is c.existing.ensures.ordered)
    c.in_ok-changed.ensures.lines c.in_ok-changed.ensures.words c.in_ok-changed.ensures.entries
    (subst (λ (files : Tree). (word : List ℕ) → contains byte_order c.add_reported.new.words word ≡ (contains byte_order changed.words word || list_any (λ (f : List ℕ × List ℕ). bytes_eq f.0 word && list_any gone (lines_of f.1)) files)) existed c.in_ok-add_reported.ensures)
    c.in_ok-changed.ensures.paths
    c.in_ok-made.ensures.ordered
    (λ word at. same_entry
    (is_line_of (unwrap_or (exists_at request.outputs target word) []) gone (unwrap_or (file_at new word) []))
    (is_line_of (unwrap_or (file_at old word) []) gone (unwrap_or (file_at new word) []))
    (λ line. ap (λ o. is_line_of (unwrap_or o []) gone (unwrap_or (file_at new word) []) line) (existed_at request.outputs target word))
    (file_at index word) (c.in_ok-made.ensures.entries word at))
    c.in_ok-made.ensures.others
    (subst (λ name. IsTrue (is_sorted byte_order (tree_at request.files name))) c.in_ok-name.ensures c.files_of.ensures.ordered)
    (subst (λ (files : Tree). IsTrue (list_all (λ (file : List ℕ × List ℕ). is_rel_path file.0) files)) files_are c.meet_paths.ensures))
