-- Parts done one after another.
use Rattle.std.specs.Prelude.{ℕ, ◌≡◌, ◌<◌, ◌+◌, ◌++◌, List, [], ◌∷◌, Ok, Err, length, get_or, take, drop, map}
use Rattle.std.proofs.Common.{refl, sym, ap, subst, ◌∙◌, inl, inr, append_assoc}
use Rattle.std.proofs.lemmas.List.{take-append-drop, take_more, map-append}
use Rattle.gb_folder.specs.Calls.{Call}
use Rattle.gb_report.specs.declared.fault.Fault.{Fault}
use Rattle.gb_report.specs.declared.fault.Fault.TheVariants as faults
use Rattle.gb_plan.specs.Task.{Text}
use Rattle.gb_folder.proofs.Loops.{step_here}
use Rattle.gb_run.proofs.Endings.{with_none}
use Rattle.gb_folder.specs.Calls.{Device}
use Rattle.gb_folder.specs.Device.{Leads}
use Rattle.gb_run.specs.Doing.{Does, Ending}
use Rattle.gb_run.specs.Work.{DoesParts, OrPrints, Part}
use Rattle.gb_run.specs.Worked.{part_held}
use Rattle.gb_run.specs.declared.work.Part.{Part as HeldPart}
use Rattle.gb_folder.proofs.Leading.{leads_on}

module _ (part : Part) (calls : List Call) where
  pub part_short : (fault : Fault) → Does part.steps calls (Err fault) → DoesParts (part ∷ []) calls [] (Err fault)
  part_short fault does = (calls, [], Err fault, sym (with_none calls), does, (refl, refl, refl))

  pub part_mute : Does part.steps calls (Ok tt) → DoesParts (part ∷ []) calls [] (Err faults.OutOfMemory)
  part_mute does = (calls, [], Ok tt, sym (with_none calls), does, inl (refl, refl, refl))

  pub part_full : Does part.steps calls (Ok tt) → DoesParts (part ∷ []) calls part.lines (Ok tt)
  part_full does = (calls, [], Ok tt, sym (with_none calls), does, inr ([], sym (with_none part.lines), (refl, refl, refl)))

parts_then : (prefix following : List Part) (done last : List Call) (some more : List Text) (result : Ending) → DoesParts prefix done some (Ok tt) → DoesParts following last more result
    → DoesParts (prefix ++ following) (done ++ last) (some ++ more) result
parts_then [] following done last some more result first next =
    subst (λ (cs : List Call). DoesParts following (cs ++ last) (some ++ more) result) (sym first.0) (subst (λ (ls : List Text). DoesParts following last (ls ++ more) result) (sym first.1) next)
parts_then (part ∷ prefix) following done last some more result first next = (
  first.0,
  first.1 ++ last,
  first.2,
  ap (λ (cs : List Call). cs ++ last) first.3 ∙ append_assoc first.0 first.1 last,
  first.4,
  on first.2 first.5 (λ rest h. parts_then prefix following first.1 last rest more result h next),
)
  where
    on : (t : Ending) → OrPrints t part.lines (λ rest. DoesParts prefix first.1 rest (Ok tt)) first.1 some (Ok tt)
        → ((rest : List Text) → DoesParts prefix first.1 rest (Ok tt) → DoesParts (prefix ++ following) (first.1 ++ last) (rest ++ more) result)
        → OrPrints t part.lines (λ rest. DoesParts (prefix ++ following) (first.1 ++ last) rest result) (first.1 ++ last) (some ++ more) result
    on (Ok d) (inl memory) goes = absurd (let e = memory.2 in (cc))
    on (Ok d) (inr printed) goes = inr (printed.0 ++ more, ap (λ (ls : List Text). ls ++ more) printed.1 ∙ append_assoc part.lines printed.0 more, goes printed.0 printed.2)
    on (Err fault) ended goes = absurd (let e = ended.2 in (cc))

parts_until : (part : Part) (later : List Part) (calls : List Call) (lines : List Text) (fault : Fault) → DoesParts (part ∷ []) calls lines (Err fault) → DoesParts (part ∷ later) calls lines (Err fault)
parts_until part later calls lines fault does = (does.0, does.1, does.2, does.3, does.4, on does.2 does.5)
  where
    on : (t : Ending) → OrPrints t part.lines (λ rest. DoesParts [] does.1 rest (Err fault)) does.1 lines (Err fault) → OrPrints t part.lines (λ rest. DoesParts later does.1 rest (Err fault)) does.1 lines (Err fault)
    on (Ok d) (inl memory) = inl memory
    on (Ok d) (inr printed) = absurd (let e = printed.2.2 in (cc))
    on (Err other) ended = ended

module _ {F : Type 0} (device : Device F) where
  abbrev pub PartsLed : List HeldPart → F → List Text → Ending → F → List Text → Type 0
  PartsLed parts old said result new now =
      (calls : List Call) × (printed : List Text) × Leads device old calls new × DoesParts (map part_held parts) calls printed result × (now ≡ said ++ printed)

  led_then : (prefix following : List HeldPart) (old mid new : F) (said between now : List Text) (result : Ending) → PartsLed prefix old said (Ok tt) mid between → PartsLed following mid between result new now
      → PartsLed (prefix ++ following) old said result new now
  led_then prefix following old mid new said between now result first more = (
    first.0 ++ more.0,
    first.1 ++ more.1,
    leads_on device old mid new first.0 more.0 first.2 more.2,
    subst (λ (ps : List Part). DoesParts ps (first.0 ++ more.0) (first.1 ++ more.1) result) (sym (map-append part_held prefix following))
        (parts_then (map part_held prefix) (map part_held following) first.0 more.0 first.1 more.1 result first.3 more.3),
    more.4 ∙ ap (λ (ls : List Text). ls ++ more.1) first.4 ∙ append_assoc said first.1 more.1,
  )

  module _ (parts : List HeldPart) (i : ℕ) (part : HeldPart) (within : i < length parts) (is : part ≡ get_or parts i part) (old mid new : F) (said between now : List Text) where
    pub parts_more : PartsLed (take i parts) old said (Ok tt) mid between → PartsLed (part ∷ []) mid between (Ok tt) new now → PartsLed (take (i + 1) parts) old said (Ok tt) new now
    parts_more first one =
        subst (λ (ps : List HeldPart). PartsLed ps old said (Ok tt) new now) (ap (λ (p : HeldPart). take i parts ++ p ∷ []) is ∙ sym (take_more parts i part within))
        (led_then (take i parts) (part ∷ []) old mid new said between now (Ok tt) first one)

    pub parts_short : (fault : Fault) → PartsLed (take i parts) old said (Ok tt) mid between → PartsLed (part ∷ []) mid between (Err fault) new now → PartsLed parts old said (Err fault) new now
    parts_short fault first one =
        subst (λ (ps : List HeldPart). PartsLed ps old said (Err fault) new now) (sym (sym (take-append-drop i parts) ∙ step_here (λ (rest : List HeldPart). take i parts ++ rest) parts i part within is))
        (led_then (take i parts) (part ∷ drop (i + 1) parts) old mid new said between now (Err fault) first
        (one.0, one.1, one.2, parts_until (part_held part) (map part_held (drop (i + 1) parts)) one.0 one.1 fault one.3, one.4))
