-- The named files, processed one after another.
use Rattle.std.proofs.Common.{ℕ, ◌≡◌, ◌<◌, ◌+◌, ◌++◌, ◌||◌, Bool, true, false, not, List, [], ◌∷◌, Option, Result, Ok, Err, length, get_or, take, refl, sym, ap, ◌∙◌, append-nil, subst, inl, inr}
use Rattle.std.specs.Prelude.{◌⊎◌, string_bytes}
use Rattle.std.specs.Global.{Global}
use Rattle.std.specs.declared.string.String.{String}
use Rattle.gb_core.specs.Place.{is_place}
use Rattle.gb_folder.specs.Calls.{Call, Reads, Writes, Device}
use Rattle.gb_folder.specs.Device.{IsCalled, Leads}
use Rattle.gb_folder.specs.Each.{Each, Ended}
use Rattle.gb_folder.specs.Files.{is_empty}
use Rattle.gb_folder.specs.Semantics.{Answer}
use Rattle.gb_folder.specs.declared.folder.FolderFault.{FolderFault}
use Rattle.gb_folder.proofs.EachOf.{each_more, each_short}
use Rattle.gb_folder.proofs.Leading.{leads_on, leads_once}
use Rattle.gb_printer.specs.Printing.{Prints}
use Rattle.gb_printer.proofs.Printed.{prints_more, prints_nothing}
use Rattle.gb_report.specs.declared.fault.Fault.{Fault}
use Rattle.gb_report.specs.declared.fault.Fault.TheVariants as faults
use Rattle.gb_script.specs.declared.fault.ScriptFault.TheVariants as scripts
use Rattle.gb_ask_command.specs.Fmt.{Formats, FormatsAt, IsText, IsTreated, Replaces, Shows, Treats, TreatsText, answer_at, is_input, is_settings, mode_as, named_after}
use Rattle.gb_ask_command.specs.declared.arguments.Mode.{Mode}

-- ---- whether something was printed

or_nothing : (a : Bool) → a ≡ (a || false)
or_nothing true = refl
or_nothing false = refl

or_something : (a b : Bool) → (a || true) ≡ ((a || true) || b)
or_something true b = refl
or_something false b = refl

any_more : (a b c : Bool) (some more : List ℕ) → b ≡ (a || not (is_empty some)) → c ≡ (b || not (is_empty more)) → c ≡ (a || not (is_empty (some ++ more)))
any_more a b c [] more first then = then ∙ ap (λ (v : Bool). v || not (is_empty more)) (first ∙ sym (or_nothing a))
any_more a b c (x ∷ some) more first then =
    then ∙ ap (λ (v : Bool). v || not (is_empty more)) first ∙ sym (or_something a (not (is_empty more)))

-- ---- file after file

module _ {F W X : Type 0} (device : Device F) (contents : W → Option (List ℕ)) (whole : W → Bool) (One : X → List Call → List ℕ → Ended Fault → Type 0) where
  -- each was processed by these calls, and this output was printed for them
  abbrev pub AllDone : List X → F → W → Bool → Ended Fault → F → W → Bool → Type 0
  AllDone xs old page any result new page' any' =
      (calls : List Call) × (made : List ℕ) × Leads device old calls new × Each One xs calls made result
      × Prints contents whole made page page' × (any' ≡ (any || not (is_empty made)))

  abbrev pub OneDone : X → F → W → Bool → Ended Fault → F → W → Bool → Type 0
  OneDone x old page any result new page' any' =
      (calls : List Call) × (made : List ℕ) × Leads device old calls new × One x calls made result
      × Prints contents whole made page page' × (any' ≡ (any || not (is_empty made)))

  pub all_none : (folder : F) (page : W) (any : Bool) → AllDone [] folder page any (Ok tt) folder page any
  all_none folder page any =
      ([], [], refl, (refl, refl, refl), prints_nothing contents whole page, or_nothing any)

  module _ (xs : List X) (i : ℕ) (x : X) (within : i < length xs) (is : x ≡ get_or xs i x) (old mid new : F) (p q r : W) (a b c : Bool) where
    pub all_more : AllDone (take i xs) old p a (Ok tt) mid q b → OneDone x mid q b (Ok tt) new r c → AllDone (take (i + 1) xs) old p a (Ok tt) new r c
    all_more first one =
        let led = each_more One device xs i x within is old mid new first.1 one.1 (first.0, first.2, first.3) (one.0, one.2, one.3) in
        (led.0, first.1 ++ one.1, led.1, led.2, prints_more contents whole first.1 one.1 p q r first.4 one.4, any_more a b c first.1 one.1 first.5 one.5)

    pub all_short : (fault : Fault) → AllDone (take i xs) old p a (Ok tt) mid q b → OneDone x mid q b (Err fault) new r c → AllDone xs old p a (Err fault) new r c
    all_short fault first one =
        let led = each_short One device xs i x within is old mid new first.1 one.1 fault (first.0, first.2, first.3) (one.0, one.2, one.3) in
        (led.0, first.1 ++ one.1, led.1, led.2, prints_more contents whole first.1 one.1 p q r first.4 one.4, any_more a b c first.1 one.1 first.5 one.5)

-- ---- one file

-- memory ran out for a formatted text
pub formats_none : (place text : List ℕ) → FormatsAt place text (Err faults.OutOfMemory)
formats_none place text = (Err scripts.OutOfMemory, no_memory (is_settings place), refl)
  where
    no_memory : (settings : Bool) → Formats settings text (Err scripts.OutOfMemory)
    no_memory true = inr (inl refl)
    no_memory false = inr (inl refl)

module _ {F : Type 0} (device : Device F) where
  abbrev pub TextDone : Mode → Bool → List ℕ → List ℕ → F → Result (List ℕ) Fault → F → Type 0
  TextDone mode headed place text old printed new =
      (calls : List Call) × Leads device old calls new × TreatsText mode headed place text calls printed

  abbrev pub Shown : Mode → Bool → List ℕ → List ℕ → List ℕ → F → Result (List ℕ) Fault → F → Type 0
  Shown mode headed place text out old printed new =
      (calls : List Call) × Leads device old calls new
      × (((calls ≡ []) × (printed ≡ Err faults.OutOfMemory)) ⊎ Shows mode headed place text out calls printed)

  abbrev pub Got : List ℕ → List ℕ → F → Result (List ℕ) Fault → F → Type 0
  Got input place old text new = (calls : List Call) × Leads device old calls new × IsText input place calls text

  abbrev pub FileDone : Mode → Bool → List ℕ → List ℕ → F → Result (List ℕ) Fault → F → Type 0
  FileDone mode headed input place old printed new =
      (calls : List Call) × Leads device old calls new × Treats mode headed input place calls printed

  module _ (mode : Mode) (headed : Bool) (place : List ℕ) where
    -- it cannot be formatted
    pub text_fails : (text : List ℕ) (folder : F) (fault : Fault) → FormatsAt place text (Err fault) → TextDone mode headed place text folder (Err fault) folder
    text_fails text folder fault is = ([], refl, (Err fault, is, (refl, refl)))

    pub text_done : (text out : List ℕ) (old new : F) (printed : Result (List ℕ) Fault) → FormatsAt place text (Ok out) → Shown (mode_as (is_input place) mode) headed place text out old printed new → TextDone mode headed place text old printed new
    text_done text out old new printed is (calls, led, inl none) = (calls, led, (Err faults.OutOfMemory, formats_none place text, none))
    text_done text out old new printed is (calls, led, inr does) = (calls, led, (Ok out, is, does))

    -- it has no text
    pub file_fails : (input : List ℕ) (old new : F) (fault : Fault) → Got input place old (Err fault) new → FileDone mode headed input place old (Err fault) new
    file_fails input old new fault got =
        (got.0, got.1, (Err fault, got.0, [], sym (append-nil got.0), got.2, (refl, refl)))

    pub file_done : (input text : List ℕ) (old mid new : F) (printed : Result (List ℕ) Fault) → Got input place old (Ok text) mid → TextDone mode headed place text mid printed new → FileDone mode headed input place old printed new
    file_done input text old mid new printed got done =
        (got.0 ++ done.0, leads_on device old mid new got.0 done.0 got.1 done.1, (Ok text, got.0, done.0, refl, got.2, done.2))

    -- the name is no place's name
    pub name_fails : (input : List ℕ) (folder : F) (fault : Fault) → IsText input place [] (Err fault) → FileDone mode headed input place folder (Err fault) folder
    name_fails input folder fault is = file_fails input folder folder fault ([], refl, is)

-- ---- one call

module _ {F : Type 0} (device : Device F) (place : List ℕ) (old new : F) where
  -- the read returned, or memory ran out before it
  abbrev pub ReadDone : Result (List ℕ) Fault → Type 0
  ReadDone text =
      ((text ≡ Err faults.OutOfMemory) × (new ≡ old))
      ⊎ ((answer : Result (List ℕ) FolderFault) × IsCalled device old (Reads place 1048576 answer) new
      × (text ≡ answer_at place answer))

  pub read_done : (input : List ℕ) (text : Result (List ℕ) Fault) → is_input place ≡ false → ReadDone text → Got device input place old text new
  read_done input text file (inl none) = ([], none.1, inr (inr (inr (refl, none.0))))
  read_done input text file (inr (answer, called, is)) =
      (Reads place 1048576 answer ∷ [], leads_once device old new (Reads place 1048576 answer) called, inr (inl (answer, file, refl, is)))

  pub write_done : (at bytes out : List ℕ) (answer : Answer) (printed : Result (List ℕ) Fault) → at ≡ place → bytes ≡ out → IsCalled device old (Writes place bytes 1048576 answer) new → printed ≡ named_after at answer
      → (calls : List Call) × Leads device old calls new × (((calls ≡ []) × (printed ≡ Err faults.OutOfMemory)) ⊎ Replaces false place out calls printed)
  write_done at bytes out answer printed same is called named = (
    Writes place out 1048576 answer ∷ [],
    leads_once device old new (Writes place out 1048576 answer) (subst (λ (b : List ℕ). IsCalled device old (Writes place b 1048576 answer) new) is called),
    inr (answer, refl, named ∙ ap (λ (p : List ℕ). named_after p answer) same),
  )

-- a name that is no place's
pub name_is : (input name : List ℕ) (fault : Fault) → (fault ≡ faults.OutOfMemory) ⊎ ((is_place name ≡ false) × (fault ≡ faults.BadPlace name)) → IsText input name [] (Err fault)
name_is input name fault (inl is) = inr (inr (inr (refl, ap Err is)))
name_is input name fault (inr is) = inr (inr (inl (is.0, refl, ap Err is.1)))

module _ {F W : Type 0} (device : Device F) (contents : W → Option (List ℕ)) (whole : W → Bool) (mode : Mode) (headed : Bool) (input : List ℕ) (name : String Global) where
  pub one_fails : (old new : F) (page : W) (any : Bool) (fault : Fault) → FileDone device mode headed input (string_bytes name) old (Err fault) new → OneDone device contents whole (IsTreated mode headed input) name old page any (Err fault) new page any
  one_fails old new page any fault done =
      (done.0, [], done.1, (Err fault, done.2, refl, refl), prints_nothing contents whole page, or_nothing any)

  pub one_done : (text : List ℕ) (old new : F) (page page' : W) (any any' : Bool) → FileDone device mode headed input (string_bytes name) old (Ok text) new → Prints contents whole text page page' → any' ≡ (any || not (is_empty text)) → OneDone device contents whole (IsTreated mode headed input) name old page any (Ok tt) new page' any'
  one_done text old new page page' any any' done prints noted =
      (done.0, text, done.1, (Ok text, done.2, refl, refl), prints, noted)
