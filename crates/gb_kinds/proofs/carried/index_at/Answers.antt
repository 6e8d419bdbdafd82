use Rattle.std.proofs.Common.{◌≡◌, ◌∷◌, [], List, ℕ, Option, None, true, false, refl, ap, subst, ◌∙◌, unwrap_or}
use Rattle.std.specs.BTreeSet.{contains}
use Rattle.std.specs.List.{list_any}
use Rattle.std.specs.List.Sorted.{IsStrictlySortedBy}
use Rattle.std.specs.Ordering.{eq_by_cmp}
use Rattle.gb_core.specs.Lists.{byte_order}
use Rattle.gb_action.specs.Files.{file_at}
use Rattle.gb_action.specs.Outputs.{exists_at}
use Rattle.gb_action.specs.Shapes.{target}
use Rattle.gb_kinds.specs.Carried.{file_of_lines, is_line_of, IsEntry}
use Rattle.gb_kinds.specs.Words.{index_files}
use Rattle.gb_kinds.proofs.Carrying.{entries_later, has_line, left_later, others_later, within_later}
use Rattle.gb_kinds.proofs.WordFiles.{rest_of}
use Rattle.gb_kinds.proofs.carried.index_at.Goals as goal

pub loop-word-preserved : goal.loop-word-preserved
loop-word-preserved c =
    let request = c.args.request.now in
    let word = c.in-Some.word.now in
    let rest = c.next.new.self in
    let has = contains byte_order c.args.words.now in
    let gone = contains byte_order c.args.gone.now in
    let Is = λ (w : List ℕ) (entry : Option (List ℕ)). IsEntry (is_line_of (unwrap_or (exists_at request.outputs target w) []) gone (unwrap_or (file_at (index_files c.args.new.now) w) [])) entry in
    let lines = c.in_ok-lines.lines in
    let next : c.loop-word.word-iterator ≡ word ∷ rest = c.in-Some.ensures.steps in
    let distinct = subst (IsStrictlySortedBy byte_order) next c.loop-word.invariant.distinct in
    let before = index_files c.loop-word.index in
    let after = index_files c.add_entry.new.index in
    let within : (q : List ℕ) → list_any (eq_by_cmp byte_order q) (word ∷ rest) ≡ true → has q ≡ true = λ q e. c.loop-word.invariant.within q (ap (list_any (eq_by_cmp byte_order q)) next ∙ e) in
    let entries : (q : List ℕ) → has q ≡ true → list_any (eq_by_cmp byte_order q) (word ∷ rest) ≡ false → Is q (file_at before q) = λ q e out. c.loop-word.invariant.entries q e (ap (list_any (eq_by_cmp byte_order q)) next ∙ out) in
    let left : (q : List ℕ) → list_any (eq_by_cmp byte_order q) (word ∷ rest) ≡ true → file_at before q ≡ None = λ q e. c.loop-word.invariant.left q (ap (list_any (eq_by_cmp byte_order q)) next ∙ e) in
    let others = c.loop-word.invariant.others in
    let is : Is word (file_of_lines lines.keys) = record {
      lines = lines.keys;
      in_order = c.in_ok-add_entry.ensures.in_order;
      exactly = λ line.
          has_line lines line
          ∙ c.in_ok-lines.ensures line
          ∙ ap (λ existed. is_line_of existed gone c.reported_at.result.now line) (c.existed_at-existed.ensures ∙ ap (λ name. unwrap_or (exists_at request.outputs name word) []) c.in_ok-output.ensures)
          ∙ ap (λ reported. is_line_of (unwrap_or (exists_at request.outputs target word) []) gone reported line) c.reported_at.ensures;
      joined = refl;
    } in
    record {
      ordered = c.in_ok-add_entry.ensures.ordered;
      distinct = rest_of word rest distinct;
      within = within_later Is has word rest distinct before after lines.keys c.in_ok-add_entry.ensures.entries is within entries left others;
      entries = entries_later Is has word rest distinct before after lines.keys c.in_ok-add_entry.ensures.entries is within entries left others;
      left = left_later Is has word rest distinct before after lines.keys c.in_ok-add_entry.ensures.entries is within entries left others;
      others = others_later Is has word rest distinct before after lines.keys c.in_ok-add_entry.ensures.entries is within entries left others;
    }
