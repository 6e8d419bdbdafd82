-- Why the outputs of a task cannot be read: they have an unsupported entry, or they have grown.
use Rattle.std.specs.Prelude.{ℕ, ◌≡◌, ◌⊎◌, ◌++◌, ◌||◌, Bool, true, false, List, [], ◌∷◌, map, if◌then◌else◌, Some, Result, Ok, Err, IfOk, IfErr}
use Rattle.std.specs.List.{AllByRecursion, filter, flat_map, list_any}
use Rattle.std.proofs.Common.{refl, sym, ap, subst, ◌∙◌, inl, inr, cond}
use Rattle.gb_core.specs.Lists.{first_of}
use Rattle.gb_folder.specs.Files.{Contents, Files, Place, is_empty, is_special_under, is_own, places_under}
use Rattle.gb_semantics.specs.Tree.{listing_faults, reported_of_tree}
use Rattle.gb_semantics.proofs.Common.{none_some, some_same}
use Rattle.gb_plan.proofs.Tests.{not_false}
use Rattle.gb_plan.specs.Task.{output_places}
use Rattle.gb_plan.specs.declared.task.Output.{Output}
use Rattle.gb_plan.specs.declared.task.TaskDeclaration.{TaskDeclaration as Task}
use Rattle.gb_report.specs.declared.fault.Fault.{Fault}
use Rattle.gb_report.specs.declared.fault.Fault.TheVariants as faults
use Rattle.gb_run.proofs.Placed.{none_after}
use Rattle.gb_tree.specs.Tree.{Entries, entries_from, special_roots, output_entries, output_faults, output_listing_faults, too_large, too_many}
use Rattle.gb_tree.specs.declared.fault.TreeFault.{TreeFault}
use Rattle.gb_tree.specs.declared.fault.TreeFault.TheVariants as trees
use Rattle.gb_tree.proofs.Holding.{all_append}
use Rattle.gb_label.specs.Reading.{CannotRead, print_faults}
use Rattle.gb_label.specs.Deciding.{IsGrown}

abbrev Grown : TreeFault → Type 0
Grown fault = IsGrown (reported_of_tree fault)

reported : (fs : List TreeFault) → AllByRecursion Grown fs → AllByRecursion IsGrown (map reported_of_tree fs)
reported [] all = tt
reported (f ∷ fs) all = (all.0, reported fs all.1)

large : (files : Files) (entries : Entries) → AllByRecursion Grown (too_large files entries)
large files entries = each (filter _ entries)
  where
    each : (es : Entries) → AllByRecursion Grown (map (λ entry. trees.TooLarge entry.1) es)
    each [] = tt
    each (e ∷ es) = (inl (e.1, refl), each es)

many : (name : List ℕ) (entries : Entries) → AllByRecursion Grown (too_many name entries)
many name entries = by _
  where
    by : (b : Bool) → AllByRecursion Grown (if b then trees.TooManyFiles name ∷ [] else [])
    by true = (inr (name, refl), tt)
    by false = tt

-- the faults of reading an output without an unsupported entry
one : (folder : Contents) (output : Output) → is_special_under folder output.place ≡ false → AllByRecursion IsGrown (print_faults folder output)
one folder output none =
    reported (output_faults output.name output.place folder)
    (all_append Grown (output_listing_faults output.name output.place folder) _ (listing (is_own output.place)) (large folder.files _))
  where
    special : special_roots folder (output.place ∷ []) ≡ []
    special = ap (λ b. map trees.BadFileName (cond b (output.place ∷ []) [])) none

    listing : (own : Bool) → AllByRecursion Grown (if own then [] else special_roots folder (output.place ∷ []) ++ too_many output.name (entries_from output.place (places_under folder.files output.place)))
    listing true = tt
    listing false = all_append Grown (special_roots folder (output.place ∷ [])) _ (subst (AllByRecursion Grown) (sym special) tt) (many output.name _)

-- the first output has no unsupported entry, nor have the others
pub special_parts : (folder : Contents) (output : Output) (outputs : List Output)
    → map reported_of_tree (special_roots folder (map (λ (o : Output). o.place) (output ∷ outputs))) ≡ []
    → (is_special_under folder output.place ≡ false) × (map reported_of_tree (special_roots folder (map (λ (o : Output). o.place) outputs)) ≡ [])
special_parts folder output outputs none = by (is_special_under folder output.place) refl none
  where
    places : List Place
    places = map (λ (o : Output). o.place) outputs

    by : (b : Bool) → is_special_under folder output.place ≡ b
        → map reported_of_tree (map trees.BadFileName (cond b (output.place ∷ filter (is_special_under folder) places) (filter (is_special_under folder) places))) ≡ []
        → (is_special_under folder output.place ≡ false) × (map reported_of_tree (special_roots folder places) ≡ [])
    by true is e = not_false (sym (ap is_empty e))
    by false is e = (is, e)

all : (folder : Contents) (outputs : List Output) → map reported_of_tree (special_roots folder (map (λ (o : Output). o.place) outputs)) ≡ []
    → AllByRecursion IsGrown (flat_map (print_faults folder) outputs)
all folder [] none = tt
all folder (output ∷ outputs) none =
    let p = special_parts folder output outputs none in
    all_append IsGrown (print_faults folder output) _ (one folder output p.0) (all folder outputs p.1)

abbrev special_reported : Contents → List Output → List Fault
special_reported folder outputs = map reported_of_tree (special_roots folder (map (λ output. output.place) outputs))

-- the first of grown ones and of others
split : (fs gs : List Fault) (fault : Fault) → AllByRecursion IsGrown fs → first_of (fs ++ gs) ≡ Some fault → IsGrown fault ⊎ (first_of gs ≡ Some fault)
split [] gs fault grown first = inr first
split (f ∷ fs) gs fault grown first = inl (subst IsGrown (some_same first) grown.0)

module _ (folder : Contents) (output : Output) (outputs : List Output) where
  -- the faults of listing outputs, by whether the first has an unsupported entry
  special_if : (b : Bool) → is_special_under folder output.place ≡ b
      → special_reported folder (output ∷ outputs) ≡ cond b (faults.BadFileName output.place ∷ special_reported folder outputs) (special_reported folder outputs)
  special_if b is = ap (λ c. map reported_of_tree (map trees.BadFileName (cond c (output.place ∷ others) others))) is ∙ by_test b
    where
      others : List Place
      others = filter (is_special_under folder) (map (λ (o : Output). o.place) outputs)

      by_test : (c : Bool) → map reported_of_tree (map trees.BadFileName (cond c (output.place ∷ others) others))
          ≡ cond c (faults.BadFileName output.place ∷ special_reported folder outputs) (special_reported folder outputs)
      by_test true = refl
      by_test false = refl

  -- an unsupported entry at an output that is not the tool's own is the first fault of reading it
  first_if : (rest : List Fault) → is_own output.place ≡ false → is_special_under folder output.place ≡ true
      → first_of (print_faults folder output ++ rest) ≡ Some (faults.BadFileName output.place)
  first_if rest own special =
      ap (λ b. first_of (map reported_of_tree ((if b then [] else (special_roots folder (output.place ∷ []) ++ many_of)) ++ large_of) ++ rest)) own
      ∙ ap (λ b. first_of (map reported_of_tree ((map trees.BadFileName (cond b (output.place ∷ []) []) ++ many_of) ++ large_of) ++ rest)) special
    where
      many_of : List TreeFault
      many_of = too_many output.name (entries_from output.place (places_under folder.files output.place))

      large_of : List TreeFault
      large_of = too_large folder.files (output_entries folder.files output.place)

-- none is the tool's own
abbrev pub Foreign : List Output → Type 0
Foreign outputs = list_any (λ output. is_own output.place) outputs ≡ false

separate : (a b : Bool) → (a || b) ≡ false → (a ≡ false) × (b ≡ false)
separate true b e = not_false e
separate false b e = (refl, e)

-- the fault of reading outputs is that they have grown, or the first fault of listing them
first_reported : (folder : Contents) (outputs : List Output) (fault : Fault) → Foreign outputs → first_of (flat_map (print_faults folder) outputs) ≡ Some fault
    → IsGrown fault ⊎ (first_of (special_reported folder outputs) ≡ Some fault)
first_reported folder [] fault own first = none_some first
first_reported folder (output ∷ outputs) fault own first =
    by (first_reported folder outputs fault (separate (is_own output.place) _ own).1) (is_special_under folder output.place) refl
  where
    by : (first_of (flat_map (print_faults folder) outputs) ≡ Some fault → IsGrown fault ⊎ (first_of (special_reported folder outputs) ≡ Some fault))
        → (b : Bool) → is_special_under folder output.place ≡ b → IsGrown fault ⊎ (first_of (special_reported folder (output ∷ outputs)) ≡ Some fault)
    by next true special =
        inr (ap first_of (special_if folder output outputs true special) ∙ sym (first_if folder output outputs (flat_map (print_faults folder) outputs) (separate (is_own output.place) _ own).0 special) ∙ first)
    by next false none = elim (split (print_faults folder output) (flat_map (print_faults folder) outputs) fault (one folder output none) first) [
      | inl grown ↦ inl grown
      | inr later ↦ elim (next later) [
        | inl grown ↦ inl grown
        | inr special ↦ inr (ap first_of (special_if folder output outputs false none) ∙ special)
      ]
    ]

-- outputs that can be read can be listed
pub none_reported : (folder : Contents) (outputs : List Output) → Foreign outputs → flat_map (print_faults folder) outputs ≡ [] → special_reported folder outputs ≡ []
none_reported folder [] own none = refl
none_reported folder (output ∷ outputs) own none =
    by (none_reported folder outputs (separate (is_own output.place) _ own).1 (none_after (print_faults folder output) (flat_map (print_faults folder) outputs) none))
    (is_special_under folder output.place) refl
  where
    by : special_reported folder outputs ≡ [] → (b : Bool) → is_special_under folder output.place ≡ b → special_reported folder (output ∷ outputs) ≡ []
    by next true special =
        none_some (ap first_of (sym none) ∙ first_if folder output outputs (flat_map (print_faults folder) outputs) (separate (is_own output.place) _ own).0 special)
    by next false fine = special_if folder output outputs false fine ∙ next

-- Why outputs are not read: they have grown, or the fault of listing them.
abbrev pub CannotPrint : Task → Contents → ℕ → ℕ → Fault → Type 0
CannotPrint task folder before after fault =
    (IsGrown fault × (is_empty (flat_map (print_faults folder) task.outputs) ≡ false))
    ⊎ CannotRead before after (listing_faults task folder) fault

some_first : (hindrances : List Fault) (fault : Fault) → first_of hindrances ≡ Some fault → is_empty hindrances ≡ false
some_first [] fault first = none_some first
some_first (f ∷ fs) fault first = refl

pub cannot_print : (task : Task) (folder : Contents) (before after : ℕ) (fault : Fault) → Foreign task.outputs
    → CannotRead before after (flat_map (print_faults folder) task.outputs) fault → CannotPrint task folder before after fault
cannot_print task folder before after fault own (inl machine) = inr (inl machine)
cannot_print task folder before after fault own (inr first) = elim (first_reported folder task.outputs fault own first) [
  | inl grown ↦ inl (grown, some_first (flat_map (print_faults folder) task.outputs) fault first)
  | inr special ↦ inr (inr special)
]

-- if they were listed before, they have grown
pub cannot_print_listed : (task : Task) (folder : Contents) (before after : ℕ) (fault : Fault) → listing_faults task folder ≡ []
    → CannotRead before after (flat_map (print_faults folder) task.outputs) fault → CannotPrint task folder before after fault
cannot_print_listed task folder before after fault none (inl machine) = inr (inl machine)
cannot_print_listed task folder before after fault none (inr first) =
    inl (first_is (flat_map (print_faults folder) task.outputs) fault (all folder task.outputs none) first, some_first (flat_map (print_faults folder) task.outputs) fault first)
  where
    first_is : (fs : List Fault) (fault : Fault) → AllByRecursion IsGrown fs → first_of fs ≡ Some fault → IsGrown fault
    first_is [] fault grown is = none_some is
    first_is (f ∷ fs) fault grown is = subst IsGrown (some_same is) grown.0

abbrev is_large : Fault → Bool
is_large (faults.TooLarge place) = true
is_large (faults.TooManyFiles name) = true
is_large other = false

large_if : (fault : Fault) → IsGrown fault → is_large fault ≡ true
large_if fault (inl at) = ap is_large at.1
large_if fault (inr of) = ap is_large of.1

-- a fault of listing is no growth
listing_is_not : (task : Task) (folder : Contents) (before after : ℕ) (fault : Fault) → CannotRead before after (listing_faults task folder) fault
    → is_large fault ≡ false
listing_is_not task folder before after fault (inl (inl memory)) = ap is_large memory
listing_is_not task folder before after fault (inl (inr device)) = ap is_large device.1
listing_is_not task folder before after fault (inr first) = special (filter (is_special_under folder) (output_places task)) first
  where
    special : (places : List Place) → first_of (map reported_of_tree (map trees.BadFileName places)) ≡ Some fault → is_large fault ≡ false
    special [] first = none_some first
    special (place ∷ places) first = ap is_large (sym (some_same first))

-- a fault of growth is one of the outputs
pub has_grown : (task : Task) (folder : Contents) (before after : ℕ) (fault : Fault) → IsGrown fault → CannotPrint task folder before after fault
    → is_empty (flat_map (print_faults folder) task.outputs) ≡ false
has_grown task folder before after fault grown (inl has) = has.1
has_grown task folder before after fault grown (inr read) =
    not_false (sym (large_if fault grown) ∙ listing_is_not task folder before after fault read)

-- any other is a fault of listing them
pub cannot_read : (task : Task) (folder : Contents) (before after : ℕ) (fault : Fault) → (¬ IsGrown fault) → CannotPrint task folder before after fault
    → CannotRead before after (listing_faults task folder) fault
cannot_read task folder before after fault other (inl has) = absurd (other has.0)
cannot_read task folder before after fault other (inr read) = read

pub ok_as : {T E : Type 0} {P Q : T → Type 0} (r : Result T E) → IfOk r P → ((x : T) → P x → Q x) → IfOk r Q
ok_as (Ok x) held as_well = as_well x held
ok_as (Err e) held as_well = tt

pub err_as : {T E : Type 0} {P Q : E → Type 0} (r : Result T E) → IfErr r P → ((e : E) → P e → Q e) → IfErr r Q
err_as (Ok x) held as_well = tt
err_as (Err e) held as_well = as_well e held
