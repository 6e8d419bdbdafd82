-- The words that the notation gives a meaning to.
use Rattle.std.specs.Prelude.{ℕ, Bool, List, [], ◌∷◌, Option, Some, None, is_some, codes, if◌then◌else◌}
use Rattle.std.specs.Str.{bytes_eq}
use Rattle.gb_script.specs.declared.keywords.SourceWord.{SourceWord}
use Rattle.gb_script.specs.declared.keywords.SourceWord.TheVariants as sources
use Rattle.gb_script.specs.declared.keywords.StepWord.{StepWord}
use Rattle.gb_script.specs.declared.keywords.StepWord.TheVariants as steps
use Rattle.gb_script.specs.declared.keywords.ClauseWord.{ClauseWord}
use Rattle.gb_script.specs.declared.keywords.ClauseWord.TheVariants as clauses
use Rattle.gb_script.specs.declared.keywords.OrderWord.TheVariants as orders
use Rattle.gb_script.specs.declared.keywords.RunWord.TheVariants as runs
use Rattle.gb_script.specs.declared.keywords.StatementWord.{StatementWord}
use Rattle.gb_script.specs.declared.keywords.StatementWord.TheVariants as statements
use Rattle.gb_script.specs.declared.keywords.PropertyWord.TheVariants as properties

-- words, each with its meaning
abbrev pub Meanings : Type 0 → Type 0
Meanings K = List (List ℕ × K)

-- the meaning of the word among these
abbrev pub meaning_in : {K : Type 0} → Meanings K → List ℕ → Option K
meaning_in [] w = None
meaning_in (x ∷ xs) w = if bytes_eq w x.0 then Some x.1 else meaning_in xs w

-- the words that are a source of their own or begin one
abbrev pub source_words : Meanings SourceWord
source_words =
    (codes "true", sources.True)
    ∷ (codes "false", sources.False)
    ∷ (codes "dir", sources.Dir)
    ∷ (codes "file", sources.File)
    ∷ (codes "buildDir", sources.BuildDir)
    ∷ (codes "gradleProperty", sources.GradleProperty)
    ∷ (codes "task", sources.Task)
    ∷ []

-- no property has such a name
abbrev pub is_reserved : List ℕ → Bool
is_reserved w = is_some (meaning_in source_words w)

-- the words that begin a step
abbrev pub step_words : Meanings StepWord
step_words =
    (codes "map", steps.Map)
    ∷ (codes "flatMap", steps.FlatMap)
    ∷ (codes "zip", steps.Zip)
    ∷ (codes "orElse", steps.OrElse)
    ∷ []

-- the words that begin a clause
abbrev pub clause_words : Meanings ClauseWord
clause_words =
    (codes "input", clauses.Input)
    ∷ (codes "inputFiles", clauses.InputFiles)
    ∷ (codes "outputFile", clauses.OutputFile)
    ∷ (codes "outputDir", clauses.OutputDir)
    ∷ (codes "dependsOn", clauses.Order orders.DependsOn)
    ∷ (codes "mustRunAfter", clauses.Order orders.MustRunAfter)
    ∷ (codes "finalizedBy", clauses.Order orders.FinalizedBy)
    ∷ (codes "doFirst", clauses.Run runs.DoFirst)
    ∷ (codes "doLast", clauses.Run runs.DoLast)
    ∷ (codes "onlyIf", clauses.Run runs.OnlyIf)
    ∷ (codes "upToDateWhen", clauses.Run runs.UpToDateWhen)
    ∷ (codes "enabled", clauses.Run runs.Enabled)
    ∷ []

-- the words that begin a statement
abbrev pub statement_words : Meanings StatementWord
statement_words =
    (codes "defaultTasks", statements.DefaultTasks)
    ∷ (codes "property", statements.Property properties.Declare)
    ∷ (codes "set", statements.Property properties.Set)
    ∷ (codes "convention", statements.Property properties.Convention)
    ∷ (codes "unset", statements.Property properties.Unset)
    ∷ (codes "disallowChanges", statements.Property properties.DisallowChanges)
    ∷ (codes "register", statements.Register)
    ∷ (codes "named", statements.Named)
    ∷ []
