use Rattle.std.proofs.Common.{Bool, IfOk, Ok, Result, subst, take, ◌<◌, ◌++◌, [], false, append_assoc, get_or, length, ◌≡◌, ◌⊎◌, ℕ, List, true, cond, map, IfErr, Some, refl, sym, ap, ◌∙◌, inl, inr, drop, ◌∷◌, ◌+◌}
use Rattle.std.proofs.lemmas.Result.{err_from_is_err_and}
use Rattle.std.proofs.lemmas.List.{take_all}
use Rattle.std.specs.Global.{Global}
use Rattle.std.specs.declared.vec.Vec.{Vec}
use Rattle.gb_folder.specs.Calls.{Call}
use Rattle.gb_folder.specs.Calls.{Device}
use Rattle.gb_folder.specs.Device.{Leads}
use Rattle.gb_folder.specs.Each.{Each}
use Rattle.gb_folder.proofs.EachOf.{EachLed, each_more, each_short}
use Rattle.std.proofs.lemmas.Bool.{and_from, and_parts}
use Rattle.std.proofs.lemmas.List.Folds.{list_all-append}
use Rattle.std.proofs.lemmas.List.Sums.{list_all-from_AllPass}
use Rattle.std.specs.List.{filter, list_all}
use Rattle.gb_folder.proofs.Asked.{requests_then}
use Rattle.gb_core.specs.Place.{is_under}
use Rattle.gb_core.specs.Lists.{first_of}
use Rattle.gb_folder.specs.Files.{Contents, is_special_under, places_under}
use Rattle.gb_plan.specs.declared.task.Output.{Output}
use Rattle.gb_report.specs.declared.fault.Fault.{Fault}
use Rattle.gb_report.specs.declared.fault.Fault.TheVariants as faults
use Rattle.gb_tree.specs.declared.fault.TreeFault.TheVariants as trees
use Rattle.gb_folder.specs.Faults.{IsOfMachine}
use Rattle.gb_folder.proofs.Machine.{at_err, machine_before}
use Rattle.gb_folder.proofs.Loops.{any_here, step_here}
use Rattle.gb_semantics.specs.Tree.{reported_of_tree}
use Rattle.gb_run.specs.Work.{ending}
use Rattle.gb_run.proofs.Listed.{listing_failed, listing_lost, listing_more}
use Rattle.gb_run.specs.Emptying.{Listing, is_at_output, special_faults, places_at}
use Rattle.gb_run.proofs.emptying.listed_outputs.Goals as goal

-- the faults at an output and at others, by whether there is an unsupported entry at it
special_by : (output : Output) (outputs : List Output) (folder : Contents) (is : Bool) → is_special_under folder output.place ≡ is
    → special_faults (output ∷ outputs) folder ≡ cond is (faults.BadFileName output.place ∷ special_faults outputs folder) (special_faults outputs folder)
special_by output outputs folder is same =
    ap (λ b. map reported_of_tree (map trees.BadFileName (cond b (output.place ∷ filter (is_special_under folder) (map (λ (o : Output). o.place) outputs)) (filter (is_special_under folder) (map (λ (o : Output). o.place) outputs))))) same
    ∙ by_test is
  where
    by_test : (b : Bool) → map reported_of_tree (map trees.BadFileName (cond b (output.place ∷ filter (is_special_under folder) (map (λ (o : Output). o.place) outputs)) (filter (is_special_under folder) (map (λ (o : Output). o.place) outputs))))
        ≡ cond b (faults.BadFileName output.place ∷ special_faults outputs folder) (special_faults outputs folder)
    by_test true = refl
    by_test false = refl

pub returns-in_err-listed-clause-special : goal.returns-in_err-listed-clause-special
returns-in_err-listed-clause-special g c = λ faithful.
    let before = c.listed_at.ensures.reads.requests.back faithful in
    let p = err_from_is_err_and c.from_residual.result c.from_residual.ensures.1 in
    let old = g.F.Folder.device.contents c.args.folder.now in
    let outputs = c.args.outputs.now in
    let IsFault : Fault → Type 0 = λ fault. IsOfMachine (g.F.Folder.device.failures c.args.folder.now) (g.F.Folder.device.failures c.listed_at.new.folder) fault
    ⊎ (first_of (special_faults outputs old) ≡ Some fault) in
    at_err (λ r. IfErr r IsFault) c.from_residual.result p.0 c.in_err-listed.field-0.0 p.1 p.2 (elim (c.in_err-listed.ensures.special faithful) [
      | inl machine ↦ inl (machine_before _ _ _ _ c.loop-output.invariant.requests.count c.listed_at.ensures.reads.requests.count machine)
      | inr special ↦ inr (
          ap first_of (sym (c.loop-output.invariant.special before)
          ∙ step_here (λ os. special_faults os old) outputs c.loop-output.output-index c.output-item.result c.loop-output-test.true c.output-item.is
          ∙ special_by c.output-item.result (drop (c.loop-output.output-index + 1) outputs) old true (ap (λ folder. is_special_under folder c.output-item.result.place) (sym (c.loop-output.invariant.same before)) ∙ special.0))
          ∙ ap Some (sym special.1))
    ])

-- what is under an output is at the outputs
at_outputs : (outputs : List Output) (i : ℕ) (output : Output) → i < length outputs → output ≡ get_or outputs i output → (places : List (List ℕ))
    → list_all (λ at. is_under at output.place) places ≡ true → list_all (is_at_output outputs) places ≡ true
at_outputs outputs i output within is [] all = refl
at_outputs outputs i output within is (place ∷ places) all =
    let parts = and_parts (is_under place output.place) (list_all (λ at. is_under at output.place) places) all in
    and_from _ _ (any_here (λ (o : Output). is_under place o.place) outputs i output within is parts.0) (at_outputs outputs i output within is places parts.1)

pub loop-output-preserved : goal.loop-output-preserved
loop-output-preserved g c =
    let F = g.F.Folder in
    let outputs = c.args.outputs.now in
    let old = F.device.contents c.args.folder.now in
    let i = c.loop-output.output-index in
    let output = c.output-item.result in
    let so_far = c.loop-output.invariant in
    let items : c.append.new.self.items ≡ c.loop-output.places.items ++ c.in_ok-listed.listed.items = c.in_ok-append.ensures.items in
    let under : list_all (is_at_output outputs) c.in_ok-listed.listed.items ≡ true =
    at_outputs outputs i output c.loop-output-test.true c.output-item.is _ (list_all-from_AllPass (λ at. is_under at output.place) c.in_ok-listed.listed.items c.in_ok-listed.ensures.under) in
    record {
      led =
          subst (λ (places : List (List ℕ)). EachLed Listing F.device (take (i + 1) outputs) c.args.folder.now places (Ok tt) c.listed_at.new.folder) (sym items)
          (each_more Listing F.device outputs i output c.loop-output-test.true c.output-item.is _ _ _ c.loop-output.places.items c.in_ok-listed.listed.items so_far.led
          (listing_more F.device output _ _ c.in_ok-listed.listed c.in_ok-listed.ensures.call));
      requests = requests_then so_far.requests c.listed_at.ensures.reads.requests;
      under =
          ap (list_all (is_at_output outputs)) items ∙ list_all-append (is_at_output outputs) c.loop-output.places.items c.in_ok-listed.listed.items
          ∙ and_from _ _ so_far.under under;
      back = λ faithful. so_far.back (c.listed_at.ensures.reads.requests.back faithful);
      same = λ faithful. c.listed_at.ensures.reads.same faithful ∙ so_far.same (c.listed_at.ensures.reads.requests.back faithful);
      listed = λ faithful.
          let here : c.in_ok-listed.listed.items ≡ places_under old.files output.place = c.in_ok-listed.ensures.listed faithful ∙ ap (λ (folder : Contents). places_under folder.files output.place) (so_far.same (c.listed_at.ensures.reads.requests.back faithful)) in
          let rest = places_at (drop (i + 1) outputs) old.files in
          ap (λ (found : List (List ℕ)). found ++ rest) (items ∙ ap (λ (more : List (List ℕ)). c.loop-output.places.items ++ more) here)
          ∙ append_assoc c.loop-output.places.items (places_under old.files output.place) rest
          ∙ ap (λ (more : List (List ℕ)). c.loop-output.places.items ++ more) (sym (step_here (λ os. places_at os old.files) outputs i output c.loop-output-test.true c.output-item.is))
          ∙ so_far.listed (c.listed_at.ensures.reads.requests.back faithful);
      special = λ faithful.
          let none : is_special_under old output.place ≡ false = ap (λ folder. is_special_under folder output.place) (sym (so_far.same (c.listed_at.ensures.reads.requests.back faithful))) ∙ c.in_ok-listed.ensures.none_special faithful in
          sym (special_by output (drop (i + 1) outputs) old false none)
          ∙ sym (step_here (λ os. special_faults os old) outputs i output c.loop-output-test.true c.output-item.is)
          ∙ so_far.special (c.listed_at.ensures.reads.requests.back faithful);
    }

abbrev ListedBy : {F : Type 0} → Device F → List Output → F → Result (Vec (List ℕ) Global) Fault → F → Type 0
ListedBy device outputs old result new =
    (calls : List Call) × (places : List (List ℕ)) × Leads device old calls new × Each Listing outputs calls places (ending result)
    × IfOk result (λ found. found.items ≡ places)

pub returns-in_err-listed-clause-calls : goal.returns-in_err-listed-clause-calls
returns-in_err-listed-clause-calls g c =
    let F = g.F.Folder in
    let outputs = c.args.outputs.now in
    let p = err_from_is_err_and c.from_residual.result c.from_residual.ensures.1 in
    let led = each_short Listing F.device outputs c.loop-output.output-index c.output-item.result c.loop-output-test.true c.output-item.is _ _ _ c.loop-output.places.items [] c.in_err-listed.field-0.0
    c.loop-output.invariant.led (listing_failed F.device c.output-item.result _ _ c.in_err-listed.field-0.0 c.in_err-listed.ensures.call) in
    at_err (λ r. ListedBy F.device outputs c.args.folder.now r c.listed_at.new.folder) c.from_residual.result p.0 c.in_err-listed.field-0.0 p.1 p.2
    (led.0, c.loop-output.places.items ++ [], led.1, led.2, tt)

pub returns-in_err-append-clause-calls : goal.returns-in_err-append-clause-calls
returns-in_err-append-clause-calls g c =
    let F = g.F.Folder in
    let outputs = c.args.outputs.now in
    let p = err_from_is_err_and c.from_residual-in_err-append.result c.from_residual-in_err-append.ensures.1 in
    let led = each_short Listing F.device outputs c.loop-output.output-index c.output-item.result c.loop-output-test.true c.output-item.is _ _ _ c.loop-output.places.items [] faults.OutOfMemory
    c.loop-output.invariant.led (listing_lost F.device c.output-item.result _ _ c.in_ok-listed.listed c.in_ok-listed.ensures.call) in
    at_err (λ r. ListedBy F.device outputs c.args.folder.now r c.listed_at.new.folder) c.from_residual-in_err-append.result p.0 faults.OutOfMemory p.1 p.2
    (led.0, c.loop-output.places.items ++ [], led.1, led.2, tt)

pub returns-clause-calls : goal.returns-clause-calls
returns-clause-calls g c =
    let F = g.F.Folder in
    let led = subst (λ (outputs : List Output). EachLed Listing F.device outputs c.args.folder.now c.loop-output.places.items (Ok tt) c.loop-output.folder)
    (take_all c.loop-output.output-index c.args.outputs.now c.loop-output-test.false) c.loop-output.invariant.led in
    (led.0, c.loop-output.places.items, led.1, led.2, refl)
