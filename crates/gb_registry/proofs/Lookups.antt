-- Tasks that do not exist.
use Rattle.std.proofs.Common.{◌≡◌, inr, Bool, true, false, List, ℕ, [], ◌∷◌, Some, sym, ap, ◌∙◌}
use Rattle.std.specs.Prelude.{if◌then◌else◌}
use Rattle.gb_report.specs.declared.fault.Fault.TheVariants as faults
use Rattle.gb_core.specs.Lists.{first_of}
use Rattle.gb_core.specs.Name.{is_name}
use Rattle.gb_registry.specs.Faults.{IsFirstFault}
use Rattle.gb_registry.specs.References.{Names}
use Rattle.gb_registry.specs.Select.{name_word_faults, none_faults, tasks_named}

pub no_project : (known there : Bool) (text reported : List ℕ) → known ≡ false → reported ≡ text
    → IsFirstFault (if known then (if there then [] else faults.TaskNotFound text ∷ []) else faults.UnknownProject text ∷ []) (faults.UnknownProject reported)
no_project true there text reported none same = absurd (cc)
no_project false there text reported none same = inr (ap (λ t. Some (faults.UnknownProject t)) (sym same))

pub no_task : (known there : Bool) (text reported : List ℕ) → known ≡ true → there ≡ false → reported ≡ text
    → IsFirstFault (if known then (if there then [] else faults.TaskNotFound text ∷ []) else faults.UnknownProject text ∷ []) (faults.TaskNotFound reported)
no_task false there text reported is_known none same = absurd (cc)
no_task true true text reported is_known none same = absurd (cc)
no_task true false text reported is_known none same = inr (ap (λ t. Some (faults.TaskNotFound t)) (sym same))

pub no_such_name : (names : Names) (word reported : List ℕ) → is_name word ≡ true → tasks_named names word ≡ [] → reported ≡ word
    → IsFirstFault (name_word_faults names word) (faults.TaskNotFound reported)
no_such_name names word reported good none same =
    inr (ap first_of (ap (λ b. if b then none_faults word (tasks_named names word) else faults.BadName word ∷ []) good ∙ ap (none_faults word) none)
    ∙ ap (λ t. Some (faults.TaskNotFound t)) (sym same))
