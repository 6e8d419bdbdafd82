-- Whether a folder on a disk answered as supposed contents would have.
use Rattle.std.specs.Prelude.{ℕ, ◌≡◌, ◌+◌, ◌&&◌, List, [], ◌∷◌, Bool, true, false, IsTrue, get_or}
use Rattle.std.specs.Prelude.{if◌then◌else◌, length, not, refl, ⊤}
use Rattle.std.specs.List.{list_all}
use Rattle.std.specs.FinMap.Entries.{is_sorted}
use Rattle.gb_core.specs.Lists.{byte_order}
use Rattle.gb_folder.specs.Calls.{Call}
use Rattle.gb_folder.specs.Files.{Contents, IsFolder, are_placed, is_blocked}
use Rattle.gb_folder.specs.Semantics.{Answers}
use Rattle.gb_disk.specs.Supposed.{Supposed, leaves_of}
use Rattle.gb_disk.specs.declared.call_log.CallLog.{CallLog}

-- no file is at an ancestor folder of another, and each is at a valid place
abbrev pub is_sound : Contents → Bool
is_sound contents =
    is_sorted byte_order contents.files
    && list_all (λ file. not (is_blocked contents.files file.0)) contents.files && are_placed contents.files

-- no file
abbrev pub nothing : Contents
nothing = record { files = []; special = [] }

-- the contents if a folder can have them, else none
abbrev pub sound_or_nothing : Contents → Contents
sound_or_nothing contents = if is_sound contents then contents else nothing

-- the contents before the call of this number, counted from 0
abbrev pub contents_at : Supposed → ℕ → Contents
contents_at supposed number = sound_or_nothing (get_or supposed.states number nothing)

-- Each of these calls, the first of which has this number, was answered by the contents before it, and left
-- those after it.
abbrev pub AreAnswered : Supposed → ℕ → List Call → Type 0
AreAnswered supposed number [] = ⊤
AreAnswered supposed number (call ∷ calls) =
    Answers (leaves_of supposed) (contents_at supposed number) call (contents_at supposed (number + 1))
    × AreAnswered supposed (number + 1) calls

-- the contents after the calls so far
abbrev pub shown : CallLog → Contents
shown log = contents_at log.supposed (length log.calls)

-- each call so far was answered by the supposed contents
abbrev pub IsAnswered : CallLog → Type 0
IsAnswered log = AreAnswered log.supposed 0 log.calls

-- ---- That a folder can have them

both : (a b : Bool) → a && b ≡ true → (a ≡ true) × (b ≡ true)
both true b is = (refl, is)
both false b is = absurd (let e = is in (cc))

folder_if : (contents : Contents) (sound : Bool) → is_sound contents ≡ sound
    → IsFolder (if sound then contents else nothing).files
folder_if contents true is =
    let parts = both _ _ (both _ _ is).0 in
    record { in_order = parts.0; none_blocked = parts.1 }
folder_if contents false is = record { in_order = refl; none_blocked = refl }

placed_if : (contents : Contents) (sound : Bool) → is_sound contents ≡ sound
    → IsTrue (are_placed (if sound then contents else nothing).files)
placed_if contents true is = (both _ _ is).1
placed_if contents false is = refl

pub shown_folder : (log : CallLog) → IsFolder (shown log).files
shown_folder log =
    let contents = get_or log.supposed.states (length log.calls) nothing in
    folder_if contents (is_sound contents) refl

pub shown_placed : (log : CallLog) → IsTrue (are_placed (shown log).files)
shown_placed log =
    let contents = get_or log.supposed.states (length log.calls) nothing in
    placed_if contents (is_sound contents) refl
