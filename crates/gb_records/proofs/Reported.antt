-- Texts, places and readings of records are as builds require.
use Rattle.std.proofs.Common.{◌≡◌, true, not, cond, None, refl, sym, ap, ◌∙◌}
use Rattle.gb_folder.specs.Files.{Files, file_at, files_where, is_own}
use Rattle.gb_folder.proofs.Changes.{file_at-files_where}
use Rattle.gb_plan.specs.Task.{Path}
use Rattle.gb_history.specs.Places.{record_place}
use Rattle.gb_history.proofs.OneText.{one_text}
use Rattle.gb_history.proofs.Places.{separate, none_beneath, IsUtf8-path}
use Rattle.gb_records.specs.Laws.{TextsAreRecords, HoldsElsewhere, HoldsForMemory}
use Rattle.gb_records.proofs.Calls.{text_said}

pub texts_are_records : TextsAreRecords
texts_are_records = record {
  one = λ path one other bytes a b. one_text path one other bytes a.utf8 a.held b.held a.text b.text;
  short = λ path run bytes a. a.short;
  back = λ path run good held short. text_said path run (IsUtf8-path path good) held short;
  own = λ path. refl;
  separate = separate;
  none_beneath = none_beneath;
}

own_place : (path : Path) → is_own (record_place path) ≡ true
own_place path = refl

pub holds_elsewhere : HoldsElsewhere
holds_elsewhere old new memory differs existed = record {
  in_order = existed.in_order;
  of_tasks = existed.of_tasks;
  records = λ path good. rw (same path) (existed.records path good);
}
  where
    found : (files : Files) (path : Path) → file_at (files_where (λ place. not (not (is_own place))) files) (record_place path) ≡ file_at files (record_place path)
    found files path = file_at-files_where files (λ place. not (not (is_own place))) (record_place path) ∙ ap (λ b. cond (not (not b)) (file_at files (record_place path)) None) (own_place path)

    same : (path : Path) → file_at new (record_place path) ≡ file_at old (record_place path)
    same path = sym (found new path) ∙ ap (λ files. file_at files (record_place path)) differs ∙ found old path

pub holds_for_memory : HoldsForMemory
holds_for_memory kinds folder memory sound made existed = record {
  is_folder = sound;
  in_order = existed.in_order;
  of_tasks = existed.of_tasks;
  records = existed.records;
  made = made;
}
