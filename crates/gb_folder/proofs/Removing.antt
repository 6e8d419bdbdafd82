-- Removals, one after another, and where they are cut short.
use Rattle.std.proofs.Common.{◌≡◌, ◌≢◌, ◌<◌, ◌+◌, inl, inr, ℕ, List, [], ◌∷◌, ◌++◌, Option, None, fold, take, drop, length, get_or, refl, sym, ap, subst, ◌∙◌}
use Rattle.std.proofs.lemmas.List.{take-append-drop, take_more}
use Rattle.gb_folder.specs.Files.{Place, Bytes, Contents, Files, SameTearing, Tearing, without, IsTorn}
use Rattle.gb_folder.specs.declared.folder.FolderFault.{FolderFault}
use Rattle.gb_folder.specs.declared.folder.FolderFault.TheVariants as folders
use Rattle.gb_report.specs.declared.fault.Fault.{Fault}
use Rattle.gb_report.specs.declared.fault.Fault.TheVariants as faults
use Rattle.gb_folder.specs.Changes.{IsCutShort, IsHindered, without_all}
use Rattle.gb_folder.specs.Faults.{reported_at}
use Rattle.gb_folder.proofs.Loops.{step_here}

-- the place of a device fault is the one at which it occurred
pub reported_place : (place at : Place) (fault : FolderFault) → reported_at place fault ≡ faults.Device at → place ≡ at
reported_place place at folders.OutOfMemory e = absurd (cc)
reported_place place at folders.Device e = cc
reported_place place at folders.Missing e = absurd (cc)
reported_place place at folders.Blocked e = absurd (cc)
reported_place place at folders.TooLarge e = absurd (cc)
reported_place place at folders.BadFileName e = absurd (cc)

-- a removal that is reported as a fault
pub hindered_by : (may_leave : Tearing) (place : Place) (next : Option Bytes) (old new : Contents) (fault : FolderFault) → fault ≢ folders.Missing → fault ≢ folders.Blocked → fault ≢ folders.TooLarge → fault ≢ folders.BadFileName
    → (fault ≢ folders.Device → new ≡ old) → (fault ≡ folders.Device → IsTorn may_leave place next old new) → IsHindered may_leave place next old (reported_at place fault) new
hindered_by may_leave place next old new folders.OutOfMemory a b d e same torn = inl (refl, same (λ h. cc))
hindered_by may_leave place next old new folders.Device a b d e same torn = inr (refl, torn refl)
hindered_by may_leave place next old new folders.Missing a b d e same torn = absurd (a refl)
hindered_by may_leave place next old new folders.Blocked a b d e same torn = absurd (b refl)
hindered_by may_leave place next old new folders.TooLarge a b d e same torn = absurd (d refl)
hindered_by may_leave place next old new folders.BadFileName a b d e same torn = absurd (e refl)

-- what may be left of a later folder may be left of an earlier one
pub hindered_before : (first second : Tearing) (place : Place) (next : Option Bytes) (old new : Contents) (fault : Fault) → SameTearing first second → IsHindered second place next old fault new → IsHindered first place next old fault new
hindered_before first second place next old new fault same (inl memory) = inl memory
hindered_before first second place next old new fault same (inr torn) = inr (torn.0, (torn.1.0, (same place _ next torn.1.0).0 torn.1.1, torn.1.2))

fold_append : (files : Files) (gone more : List Place) → fold without files (gone ++ more) ≡ fold without (fold without files gone) more
fold_append files [] more = refl
fold_append files (place ∷ gone) more = fold_append (without files place) gone more

-- one place more
pub without_more : (old now new : Contents) (places : List Place) (i : ℕ) (place : Place) → i < length places → place ≡ get_or places i place
    → now ≡ without_all old (take i places) → new ≡ without_all now (place ∷ []) → new ≡ without_all old (take (i + 1) places)
without_more old now new places i place within is before after =
    after ∙ ap (λ folder. without_all folder (place ∷ [])) before
    ∙ ap (λ files. record old { files = files }) (sym (fold_append old.files (take i places) (place ∷ [])))
    ∙ ap (λ p. without_all old (take i places ++ p ∷ [])) is
    ∙ ap (without_all old) (sym (take_more places i place within))

-- the removal of all was cut short at this place
pub cut_at : (first second : Tearing) (old now new : Contents) (places : List Place) (i : ℕ) (place : Place) (fault : Fault) → i < length places → place ≡ get_or places i place
    → SameTearing first second → now ≡ without_all old (take i places) → IsHindered second place None now fault new → IsCutShort first places old fault new
cut_at first second old now new places i place fault within is same before hindered =
    record {
      gone = take i places;
      place = place;
      left = drop (i + 1) places;
      all = sym (take-append-drop i places) ∙ step_here (λ rest. take i places ++ rest) places i place within is;
      hindered = hindered_before first second place None (without_all old (take i places)) new fault same (subst (λ folder. IsHindered second place None folder fault new) before hindered);
    }
