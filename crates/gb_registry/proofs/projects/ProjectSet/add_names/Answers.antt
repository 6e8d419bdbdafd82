use Rattle.std.proofs.Common.{◌≡◌, lit<, [], ◌∷◌, ◌++◌, append_assoc, length, drop, sym, ap, ◌∙◌}
use Rattle.std.proofs.Math.Seq.{drop-length}
use Rattle.std.proofs.lemmas.Iterator.Splits.{YieldsList-from_str_split}
use Rattle.std.proofs.lemmas.Iterator.Consumers.{YieldsList-at, YieldsList-turn, YieldsList-end}
use Rattle.std.proofs.lemmas.List.{length_push}
use Rattle.std.specs.List.{slice_split}
use Rattle.std.specs.Prelude.{string_bytes, ◌==◌}
use Rattle.gb_registry.specs.Projects.{lineage_from, lineage_of_names, path_faults, paths_faults, with_path, with_paths}
use Rattle.gb_registry.proofs.Firsts.{first_among, reported_on}
use Rattle.gb_registry.proofs.Lineages.{path_good, after_good, lineage_faults, lineage_paths, lineage_left}
use Rattle.gb_registry.proofs.projects.ProjectSet.add_names.Goals as goal

pub add-requires : goal.add-requires
add-requires c =
    let names = c.args.names.now in
    let parts = slice_split (λ b. b == 58) names in
    let name = c.in-Some.name.now in
    let prefix = string_bytes c.loop-name.prefix in
    let i = length c.loop-name.yielded in
    let turn = YieldsList-turn (YieldsList-at c.into_iter-name-iterator.ensures.into_iter_gives (YieldsList-from_str_split 58 names (lit< tt) c.split-name-items.ensures.text c.split-name-items.ensures.has_more c.split-name-items.ensures.pattern)) c.loop-name.yielded _ c.loop-name.yielded_by _ _ c.in-Some.name c.in-Some.is c.next.ensures.steps in
    let path : c.as_str.result.now ≡ prefix ++ 58 ∷ name =
    c.as_str.ensures.value ∙ c.in_ok-push_str.ensures.bytes ∙ ap (λ b. b ++ name) (c.in_ok-push.ensures.bytes ∙ ap (λ e. prefix ++ e) (c.in_ok-push.ensures.ascii (lit< tt))) ∙ append_assoc prefix (58 ∷ []) name in
    path_good prefix (string_bytes c.push_str.new.self) c.as_str.result.now parts i (length (c.loop-name.yielded ++ c.in-Some.name ∷ [])) name turn.0 turn.1 path
    (sym c.as_str.ensures.value) (length_push c.loop-name.yielded c.in-Some.name) c.loop-name.invariant.good

pub loop-name-preserved : goal.loop-name-preserved
loop-name-preserved c =
    let names = c.args.names.now in
    let parts = slice_split (λ b. b == 58) names in
    let name = c.in-Some.name.now in
    let prefix = string_bytes c.loop-name.prefix in
    let prefix' = string_bytes c.push_str.new.self in
    let i = length c.loop-name.yielded in
    let n = length (c.loop-name.yielded ++ c.in-Some.name ∷ []) in
    let turn = YieldsList-turn (YieldsList-at c.into_iter-name-iterator.ensures.into_iter_gives (YieldsList-from_str_split 58 names (lit< tt) c.split-name-items.ensures.text c.split-name-items.ensures.has_more c.split-name-items.ensures.pattern)) c.loop-name.yielded _ c.loop-name.yielded_by _ _ c.in-Some.name c.in-Some.is c.next.ensures.steps in
    let path : c.as_str.result.now ≡ prefix ++ 58 ∷ name =
    c.as_str.ensures.value ∙ c.in_ok-push_str.ensures.bytes ∙ ap (λ b. b ++ name) (c.in_ok-push.ensures.bytes ∙ ap (λ e. prefix ++ e) (c.in_ok-push.ensures.ascii (lit< tt))) ∙ append_assoc prefix (58 ∷ []) name in
    let next = length_push c.loop-name.yielded c.in-Some.name in
    let prefix_is = sym c.as_str.ensures.value in
    let text = c.as_str.result.now in
    let there = c.loop-name.self in
    record {
      good = after_good prefix prefix' text parts i n name turn.0 turn.1 path prefix_is next c.loop-name.invariant.good;
      paths = c.loop-name.invariant.paths ∙ lineage_paths prefix prefix' text parts i n name turn.0 turn.1 path prefix_is next there c.add.new.self c.in_ok-add.ensures.ok;
      faults = c.loop-name.invariant.faults ∙ lineage_left prefix prefix' text parts i n name turn.0 turn.1 path prefix_is next there c.add.new.self c.in_ok-add.ensures.ok c.in_ok-add.ensures.faults;
    }

pub returns-in_err-add-clause-faults : goal.returns-in_err-add-clause-faults
returns-in_err-add-clause-faults c =
    let names = c.args.names.now in
    let parts = slice_split (λ b. b == 58) names in
    let name = c.in-Some.name.now in
    let prefix = string_bytes c.loop-name.prefix in
    let prefix' = string_bytes c.push_str.new.self in
    let i = length c.loop-name.yielded in
    let n = length (c.loop-name.yielded ++ c.in-Some.name ∷ []) in
    let turn = YieldsList-turn (YieldsList-at c.into_iter-name-iterator.ensures.into_iter_gives (YieldsList-from_str_split 58 names (lit< tt) c.split-name-items.ensures.text c.split-name-items.ensures.has_more c.split-name-items.ensures.pattern)) c.loop-name.yielded _ c.loop-name.yielded_by _ _ c.in-Some.name c.in-Some.is c.next.ensures.steps in
    let path : c.as_str.result.now ≡ prefix ++ 58 ∷ name =
    c.as_str.ensures.value ∙ c.in_ok-push_str.ensures.bytes ∙ ap (λ b. b ++ name) (c.in_ok-push.ensures.bytes ∙ ap (λ e. prefix ++ e) (c.in_ok-push.ensures.ascii (lit< tt))) ∙ append_assoc prefix (58 ∷ []) name in
    let next = length_push c.loop-name.yielded c.in-Some.name in
    let prefix_is = sym c.as_str.ensures.value in
    let text = c.as_str.result.now in
    let there = c.loop-name.self in
    let whole = c.loop-name.invariant.faults ∙ lineage_faults prefix prefix' text parts i n name turn.0 turn.1 path prefix_is next there in
    reported_on (paths_faults c.args.self.now (lineage_of_names names)) _ c.in_err-add.field-0.0 c.from_residual-in_err-add.ensures.1
    (first_among (path_faults there text) (paths_faults (with_path there text) (lineage_from prefix' (drop n parts))) _ c.in_err-add.field-0.0 whole c.in_err-add.ensures.faults)

pub returns-clause-ok : goal.returns-clause-ok
returns-clause-ok c =
    let names = c.args.names.now in
    let parts = slice_split (λ b. b == 58) names in
    let prefix = string_bytes c.loop-name.prefix in
    let end = YieldsList-end (YieldsList-at c.into_iter-name-iterator.ensures.into_iter_gives (YieldsList-from_str_split 58 names (lit< tt) c.split-name-items.ensures.text c.split-name-items.ensures.has_more c.split-name-items.ensures.pattern)) c.loop-name.yielded _ c.loop-name.yielded_by _ _ c.in-None.is c.next.ensures.steps in
    sym (c.loop-name.invariant.paths ∙ ap (λ k. with_paths c.loop-name.self (lineage_from prefix (drop k parts))) end.1 ∙ ap (λ ps. with_paths c.loop-name.self (lineage_from prefix ps)) (drop-length parts))

pub returns-clause-faults : goal.returns-clause-faults
returns-clause-faults c =
    let names = c.args.names.now in
    let parts = slice_split (λ b. b == 58) names in
    let prefix = string_bytes c.loop-name.prefix in
    let end = YieldsList-end (YieldsList-at c.into_iter-name-iterator.ensures.into_iter_gives (YieldsList-from_str_split 58 names (lit< tt) c.split-name-items.ensures.text c.split-name-items.ensures.has_more c.split-name-items.ensures.pattern)) c.loop-name.yielded _ c.loop-name.yielded_by _ _ c.in-None.is c.next.ensures.steps in
    c.loop-name.invariant.faults ∙ ap (λ k. paths_faults c.loop-name.self (lineage_from prefix (drop k parts))) end.1 ∙ ap (λ ps. paths_faults c.loop-name.self (lineage_from prefix ps)) (drop-length parts)
