-- Scripts with their projects.
use Rattle.std.proofs.Common.{◌≡◌, ℕ, zero, suc, ◌+◌, ◌<◌, List, [], ◌∷◌, ◌++◌, append_assoc, length, get_or, drop, refl, sym, ap, ◌∙◌, arith, Option}
use Rattle.std.specs.Prelude.{zip}
use Rattle.std.specs.List.{flat_map}
use Rattle.std.proofs.lemmas.List.{map-append}
use Rattle.std.proofs.lemmas.List.Concat.{flat_map-append}
use Rattle.gb_script.specs.declared.script.Statement.{Statement}
use Rattle.gb_registry.specs.declared.checking.Scripted.{Scripted}
use Rattle.gb_registry.specs.Configure.{missing_tasks, script_missing, statement_missing}
use Rattle.gb_registry.specs.Projects.{Path, folder_of, with_folders}
use Rattle.gb_registry.specs.References.{Names}
use Rattle.gb_registry.specs.Said.{said_by}
use Rattle.gb_registry.specs.SoFar.{scripts_in}

-- a project with its folder, and those after it
pub folder_at : (projects : List Path) (i : ℕ) (place : Path × Option (List ℕ)) → i < length projects → place ≡ get_or (with_folders projects) i place
    → (place.1 ≡ folder_of place.0) × (drop i projects ≡ place.0 ∷ drop (i + 1) projects)
folder_at [] i place within is = absurd (omega (arith, within))
folder_at (path ∷ projects) zero place within is = (ap (λ p. p.1) is ∙ ap (λ p. folder_of p.0) (sym is), ap (λ p. p.0 ∷ projects) (sym is))
folder_at (path ∷ projects) (suc i) place within is =
    let rest = folder_at projects i place (omega (arith, within)) is in
    let next : suc (i + 1) ≡ suc i + 1 = omega arith in
    (rest.0, rest.1 ∙ ap (λ n. place.0 ∷ drop n (path ∷ projects)) next)

pub none_left : {X : Type 0} (xs : List X) → length xs ≡ 0 → xs ≡ []
none_left [] e = refl
none_left (x ∷ xs) e = absurd (omega (arith, e))

pub zip_none : {X Y : Type 0} (xs : List X) → zip xs (let none : List Y = [] in none) ≡ []
zip_none [] = refl
zip_none (x ∷ xs) = refl

-- one script more has its project
pub placed_more : (made made' : List Scripted) (one : Scripted) (project : Path) (script : List Statement) (others : List (Path × List Statement)) (whole : List (Path × List Statement))
    → made' ≡ made ++ one ∷ [] → one.project ≡ project → one.script ≡ script → whole ≡ scripts_in made ++ (project, script) ∷ others → whole ≡ scripts_in made' ++ others
placed_more made made' one project script others whole added same_project same_script before =
    before
    ∙ ap (λ p. scripts_in made ++ (p, script) ∷ others) (sym same_project)
    ∙ ap (λ s. scripts_in made ++ (one.project, s) ∷ others) (sym same_script)
    ∙ sym (append_assoc (scripts_in made) ((one.project, one.script) ∷ []) others)
    ∙ ap (λ l. l ++ others) (sym (map-append (λ scripted. (scripted.project, scripted.script)) made (one ∷ [])))
    ∙ ap (λ m. scripts_in m ++ others) (sym added)

-- the missing tasks that scripts name, statement by statement
pub said_missing : (names : Names) (project : Path) (script : List Statement) → flat_map (missing_tasks names) (said_by (project, script)) ≡ flat_map (statement_missing names project) script
said_missing names project [] = refl
said_missing names project (statement ∷ script) = ap (λ l. statement_missing names project statement ++ l) (said_missing names project script)

pub all_missing : (names : Names) (scripts : List (Path × List Statement)) → flat_map (missing_tasks names) (flat_map said_by scripts) ≡ flat_map (script_missing names) scripts
all_missing names [] = refl
all_missing names (script ∷ scripts) =
    flat_map-append (missing_tasks names) (said_by script) (flat_map said_by scripts)
    ∙ ap (λ l. l ++ flat_map (missing_tasks names) (flat_map said_by scripts)) (said_missing names script.0 script.1)
    ∙ ap (λ l. script_missing names script ++ l) (all_missing names scripts)
