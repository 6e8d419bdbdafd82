-- All findings: faults and warnings.
use Rattle.std.specs.Prelude.{◌≡◌, List, [], ◌++◌}
use Rattle.gb_folder.specs.Files.{Contents, Files}
use Rattle.gb_plan.specs.Graph.{Registry}
use Rattle.gb_plan.specs.Task.{Path}
use Rattle.gb_registry.specs.References.{Names}
use Rattle.gb_registry.specs.Tables.{Tables}
use Rattle.gb_script.specs.declared.script.Statement.{Statement}
use Rattle.gb_check.specs.DefaultWords.{AreDefaultsFound}
use Rattle.gb_check.specs.Found.{IsFound, IsSilent}
use Rattle.gb_check.specs.Sites.{AreSites}
use Rattle.gb_check.specs.Warnings.{AreWarnings}
use Rattle.gb_check.specs.declared.findings.Finding.{Finding}
use Rattle.gb_check.specs.declared.findings.Findings.{Findings}
use Rattle.gb_check.specs.declared.clause_lines.ClauseMark.{ClauseMark}
use Rattle.gb_check.specs.declared.sites.Site.{Site}

-- The faults of a registry whose tasks these scripts register: first those of the words of `defaultTasks`,
-- then those of tasks or of their plan.
pub record AreFaults (known : Type 0) (files : Files) (sites : List Site) (marks : List ClauseMark)
    (registry : Registry) (scripts : List (Path × List Statement)) (found : List Finding) : Type 0 where
  pub in_words : List Finding
  pub of_words : AreDefaultsFound known files scripts registry in_words
  pub in_tasks : List Finding
  pub of_tasks : IsFound sites marks registry in_tasks
  pub both : found ≡ in_words ++ in_tasks
  -- If none is found, only lack of memory, words that are given, or a plan (60 to 63) cause a refusal.
  pub silent : found ≡ [] → IsSilent registry

-- The findings for a registry whose tasks these scripts register, with the lines in which they do.
pub record AreFindings {M F Z S A : Type 0} (tables : Tables M F Z S A) (names : Names) (known : Type 0)
    (contents : Contents) (registry : Registry) (scripts : List (Path × List Statement)) (findings : Findings)
    : Type 0 where
  pub sites : List Site
  pub marks : List ClauseMark
  pub are_sites : AreSites tables names known contents.files scripts sites marks
  pub faults : AreFaults known contents.files sites marks registry scripts findings.faults.items
  pub warnings : AreWarnings known sites scripts contents registry findings.warnings.items
