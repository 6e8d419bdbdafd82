-- The answer of the program.
use Rattle.std.specs.Prelude.{ℕ, ◌≡◌, ◌⊎◌, List, [], Result, Ok, Err}
use Rattle.std.specs.Result.{result_map_both}
use Rattle.gb_folder.specs.Calls.{Requests, no_change, Device}
use Rattle.gb_folder.specs.Files.{Tearing}
use Rattle.gb_build.specs.Invoking.{IsInvocation, KeepsPromise}
use Rattle.gb_semantics.specs.Edits.{Shown}
use Rattle.gb_semantics.specs.declared.events.Invocation.{Invocation}
use Rattle.gb_registry.specs.Tables.{Tables}
use Rattle.gb_report.specs.declared.fault.Fault.{Fault}
use Rattle.gb_report.specs.declared.report.Report.{Report}
use Rattle.gb_arguments.specs.Faults.{IsFirstFault}
use Rattle.gb_arguments.specs.Words.{IsAsked, words_faults}

-- the arguments of a command line, or why they cannot be read
abbrev pub Given : Type 0
Given = Result (List (List ℕ)) Fault

-- these arguments, each as its bytes
abbrev pub given_of : {V : Type 0} → (V → List (List ℕ)) → Result V Fault → Given
given_of bytes words = result_map_both bytes (λ fault. fault) words

-- the arguments have no fault, and request this
abbrev pub AskFor : Given → Invocation → Type 0
AskFor (Ok words) invocation = (words_faults words ≡ []) × IsAsked words invocation
AskFor (Err fault) invocation = ⊥

-- the arguments are refused for this: they cannot be read, or it is the first fault of them, or 3 (no memory)
abbrev pub AreRefused : Given → Fault → Type 0
AreRefused (Ok words) fault = IsFirstFault (words_faults words) fault
AreRefused (Err unread) fault = fault ≡ unread

-- the arguments are refused, and nothing changed
abbrev pub IsRefused : Given → Shown → Result Report Fault → Shown → Type 0
IsRefused given old answer new =
    (fault : Fault) × AreRefused given fault × (answer ≡ Err fault) × (new.contents ≡ old.contents)

-- Over any folder: the arguments are refused, and no change is requested; or they request an invocation, and
-- its calls and its answer are as they may be.
abbrev pub DoesFor : {F M N Z S A : Type 0} → Device F
    → Tables M N Z S A → Given → Result Report Fault → F → F → Type 0
DoesFor device tables given answer old new =
    ((fault : Fault) × AreRefused given fault × (answer ≡ Err fault)
    × Requests device no_change old new)
    ⊎ ((asked : Invocation) × AskFor given asked
    × IsInvocation device tables asked answer old new)

module _ {M F Z S A : Type 0} (tables : Tables M F Z S A) (may_leave : Tearing) where
  -- where contents are known: the arguments are refused, or they request an invocation, with this answer
  abbrev pub Answers : Given → Shown → Result Report Fault → Shown → Type 0
  Answers given old answer new =
      IsRefused given old answer new
      ⊎ ((asked : Invocation) × AskFor given asked × KeepsPromise tables may_leave asked old answer new)
