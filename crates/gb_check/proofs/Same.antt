-- Findings for a folder are findings for one with the same contents.
use Rattle.std.proofs.Common.{◌≡◌, List, [], ◌∷◌, ap, subst}
use Rattle.std.specs.Prelude.{MatchOption, Option, None, Some, find}
use Rattle.gb_folder.specs.Files.{Contents, Files}
use Rattle.gb_plan.specs.Graph.{Registry}
use Rattle.gb_registry.specs.Projects.{Path}
use Rattle.gb_registry.specs.References.{Names}
use Rattle.gb_registry.specs.Tables.{Tables}
use Rattle.gb_script.specs.declared.script.Statement.{Statement}
use Rattle.gb_check.specs.All.{AreFaults, AreFindings}
use Rattle.gb_check.specs.DefaultWords.{AreDefaultsFound, defaults_line, is_root}
use Rattle.gb_check.specs.Marks.{Lines}
use Rattle.gb_check.specs.Sites.{AreLinesAt, AreSites, script_of_project}
use Rattle.gb_check.specs.Warnings.{AreWarnings, bare_roots, declared_in}
use Rattle.gb_check.specs.declared.clause_lines.ClauseMark.{ClauseMark}
use Rattle.gb_check.specs.declared.findings.Finding.{Finding}
use Rattle.gb_check.specs.declared.findings.Findings.{Findings}
use Rattle.gb_check.specs.declared.findings.Spot.{Spot}
use Rattle.gb_check.specs.declared.findings.Spot.TheVariants as spots
use Rattle.gb_check.specs.declared.sites.Site.{Site}

-- `earlier`: what is known of them follows from what is `known` of a later state.
module _ (earlier known : Type 0) (back : known → earlier) (old new : Files) (same : known → new ≡ old) where
  lines_of_same : (script : Path) (lines : List Lines) → (earlier → AreLinesAt new (script_of_project script) lines) → known → AreLinesAt old (script_of_project script) lines
  lines_of_same script lines at later = subst (λ (files : Files). AreLinesAt files (script_of_project script) lines) (same later) (at (back later))

  pub sites_of_same : {M F Z S A : Type 0} (tables : Tables M F Z S A) (names : Names) (scripts : List (Path × List Statement)) (sites : List Site) (marks : List ClauseMark)
      → AreSites tables names earlier new scripts sites marks → AreSites tables names known old scripts sites marks
  sites_of_same tables names [] sites marks are = are
  sites_of_same tables names (script ∷ scripts) sites marks (lines, others, words, at, rest, is, of) =
      (lines, others, words, lines_of_same script.0 lines at, sites_of_same tables names scripts others words rest, is, of)

  abbrev IsIn : Type 0 → Files → Spot → Option (Path × List Statement) → Type 0
  IsIn sure files spot root = MatchOption root (spot ≡ spots.Unknown) (λ script.
      (lines : List Lines) × (sure → AreLinesAt files (script_of_project script.0) lines) × (spot ≡ spots.Line (script_of_project script.0) (defaults_line 1 script.1 lines)))

  spot_of_same : (spot : Spot) (root : Option (Path × List Statement)) → IsIn earlier new spot root → IsIn known old spot root
  spot_of_same spot None is = is
  spot_of_same spot (Some script) (lines, at, is) = (lines, lines_of_same script.0 lines at, is)

  words_of_same : (scripts : List (Path × List Statement)) (registry : Registry) (found : List Finding) → AreDefaultsFound earlier new scripts registry found → AreDefaultsFound known old scripts registry found
  words_of_same scripts registry found (spot, at, is) = (spot, λ some. spot_of_same spot (find is_root scripts) (at some), is)

  pub faults_of_same : (sites : List Site) (marks : List ClauseMark) (registry : Registry) (scripts : List (Path × List Statement)) (found : List Finding)
      → AreFaults earlier new sites marks registry scripts found → AreFaults known old sites marks registry scripts found
  faults_of_same sites marks registry scripts found are = record {
    in_words = are.in_words;
    of_words = words_of_same scripts registry are.in_words are.of_words;
    in_tasks = are.in_tasks;
    of_tasks = are.of_tasks;
    both = are.both;
    silent = are.silent;
  }

module _ (earlier known : Type 0) (back : known → earlier) (old new : Contents) (same : known → new ≡ old) where
  same_files : known → new.files ≡ old.files
  same_files later = ap (λ (contents : Contents). contents.files) (same later)

  pub warnings_of_same : (sites : List Site) (scripts : List (Path × List Statement)) (registry : Registry) (found : List Finding)
      → AreWarnings earlier sites scripts new registry found → AreWarnings known sites scripts old registry found
  warnings_of_same sites scripts registry found are = record {
    bare = are.bare;
    are_bare = λ later. subst (λ (contents : Contents). are.bare ≡ bare_roots sites contents (declared_in registry)) (same later) (are.are_bare (back later));
    found_is = are.found_is;
  }

  pub found_of_same : {M F Z S A : Type 0} (tables : Tables M F Z S A) (names : Names) (registry : Registry) (scripts : List (Path × List Statement)) (findings : Findings)
      → AreFindings tables names earlier new registry scripts findings → AreFindings tables names known old registry scripts findings
  found_of_same tables names registry scripts findings are = record {
    sites = are.sites;
    marks = are.marks;
    are_sites = sites_of_same earlier known back old.files new.files same_files tables names scripts are.sites are.marks are.are_sites;
    faults = faults_of_same earlier known back old.files new.files same_files are.sites are.marks registry scripts findings.faults.items are.faults;
    warnings = warnings_of_same are.sites scripts registry findings.warnings.items are.warnings;
  }
