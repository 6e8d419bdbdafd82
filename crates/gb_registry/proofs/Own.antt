-- The statements of scripts, project by project.
use Rattle.std.proofs.Common.{◌≡◌, ℕ, ◌+◌, ◌<◌, Bool, true, false, cond, List, [], ◌∷◌, ◌++◌, length, get_or, drop, map, filter, refl, ap, ◌∙◌}
use Rattle.std.specs.Prelude.{bytes_eq}
use Rattle.std.proofs.lemmas.List.{map-append}
use Rattle.std.proofs.lemmas.List.Elements.{filter-append}
use Rattle.gb_script.specs.declared.script.Statement.{Statement}
use Rattle.gb_registry.specs.declared.checking.Scripted.{Scripted}
use Rattle.gb_registry.specs.Projects.{Path}
use Rattle.gb_registry.specs.Said.{Said, said_by, script_of}
use Rattle.gb_registry.specs.SoFar.{said_in}
use Rattle.gb_registry.proofs.Firsts.{left_from}

pub script_of-append : (before after : List Said) (project : Path) → script_of (before ++ after) project ≡ script_of before project ++ script_of after project
script_of-append before after project =
    ap (map (λ s. s.statement)) (filter-append (λ s. bytes_eq s.project project) before after)
    ∙ map-append (λ s. s.statement) (filter (λ s. bytes_eq s.project project) before) (filter (λ s. bytes_eq s.project project) after)

-- the statements of a script are those of its project alone
pub own_script : (project other : Path) (b : Bool) → bytes_eq project other ≡ b → (script : List Statement) → script_of (said_by (project, script)) other ≡ cond b script []
own_script project other true is [] = refl
own_script project other false is [] = refl
own_script project other true is (statement ∷ script) =
    ap (λ b. map (λ s. s.statement) (cond b (record { project = project; statement = statement } ∷ filter (λ s. bytes_eq s.project other) (said_by (project, script))) (filter (λ s. bytes_eq s.project other) (said_by (project, script))))) is
    ∙ ap (λ l. statement ∷ l) (own_script project other true is script)
own_script project other false is (statement ∷ script) =
    ap (λ b. map (λ s. s.statement) (cond b (record { project = project; statement = statement } ∷ filter (λ s. bytes_eq s.project other) (said_by (project, script))) (filter (λ s. bytes_eq s.project other) (said_by (project, script))))) is
    ∙ own_script project other false is script

-- the next script, and then those after it
pub script_next : (scripts : List Scripted) (i : ℕ) (scripted : Scripted) (project : Path) (b : Bool) → i < length scripts → scripted ≡ get_or scripts i scripted
    → bytes_eq scripted.project project ≡ b
    → script_of (said_in (drop i scripts)) project ≡ cond b scripted.script [] ++ script_of (said_in (drop (i + 1) scripts)) project
script_next scripts i scripted project b within is own =
    ap (λ left. script_of (said_in left) project) (left_from scripts i scripted within is)
    ∙ script_of-append (said_by (scripted.project, scripted.script)) (said_in (drop (i + 1) scripts)) project
    ∙ ap (λ l. l ++ script_of (said_in (drop (i + 1) scripts)) project) (own_script scripted.project project b own scripted.script)
