-- Which scripts and settings are well-formed: names are names, properties have names that are not reserved,
-- and rows that must not be empty have at least one element.
use Rattle.std.specs.Prelude.{◌≡◌, ℕ, false, IsTrue, List, [], ◌∷◌, Option, None, Some}
use Rattle.std.specs.List.{AllByRecursion}
use Rattle.gb_core.specs.Name.{is_name}
use Rattle.gb_script.specs.declared.function.Function.{Function}
use Rattle.gb_script.specs.Tree.{Tree, Chain, Root, TextOf, FlagOf, ListOf, PropertyOf, DirOf, FileOf}
use Rattle.gb_script.specs.Tree.{TheBuildDir, GradlePropertyOf, TaskOf, Link, MapBy, FlatMapBy, ZipBy, Else}
use Rattle.gb_script.specs.Tree.{Trees, NoTree, AndTree, Links, NoLink, AndLink}
use Rattle.gb_script.specs.declared.script.Call.{Call}
use Rattle.gb_script.specs.declared.script.Assignment.{Assignment}
use Rattle.gb_script.specs.declared.script.Condition.{Condition}
use Rattle.gb_script.specs.declared.script.InputFiles.{InputFiles}
use Rattle.gb_script.specs.declared.script.Clause.{Clause}
use Rattle.gb_script.specs.declared.script.Clause.TheVariants as clauses
use Rattle.gb_script.specs.declared.script.Registration.{Registration}
use Rattle.gb_script.specs.declared.script.Configuration.{Configuration}
use Rattle.gb_script.specs.declared.script.Statement.{Statement}
use Rattle.gb_script.specs.declared.script.Statement.TheVariants as statements
use Rattle.gb_script.specs.Words.{is_reserved}

abbrev pub IsName : List ℕ → Type 0
IsName w = IsTrue (is_name w)

-- a name that is not reserved
abbrev pub IsProperty : List ℕ → Type 0
IsProperty w = IsName w × (is_reserved w ≡ false)

-- at least one
abbrev pub AreSome : {A : Type 0} → List A → Type 0
AreSome [] = ⊥
AreSome (x ∷ xs) = Unit {0}

abbrev pub IsFunction : Function → Type 0
IsFunction f = IsName f.name

abbrev mutual
  pub IsTree : Tree → Type 0
  IsTree (Chain root links) = IsRoot root × AreLinks links

  pub IsRoot : Root → Type 0
  IsRoot (TextOf t) = Unit {0}
  IsRoot (FlagOf b) = Unit {0}
  IsRoot (ListOf trees) = AreTrees trees
  IsRoot (PropertyOf w) = IsProperty w
  IsRoot (DirOf t) = Unit {0}
  IsRoot (FileOf t) = Unit {0}
  IsRoot TheBuildDir = Unit {0}
  IsRoot (GradlePropertyOf t) = Unit {0}
  IsRoot (TaskOf t) = Unit {0}

  pub AreTrees : Trees → Type 0
  AreTrees NoTree = Unit {0}
  AreTrees (AndTree tree trees) = IsTree tree × AreTrees trees

  pub AreLinks : Links → Type 0
  AreLinks NoLink = Unit {0}
  AreLinks (AndLink link links) = IsLink link × AreLinks links

  pub IsLink : Link → Type 0
  IsLink (MapBy f) = IsFunction f
  IsLink (FlatMapBy f) = IsFunction f
  IsLink (ZipBy tree f) = IsTree tree × IsFunction f
  IsLink (Else tree) = IsTree tree

-- all are trees, and there is at least one
abbrev pub AreValues : List Tree → Type 0
AreValues [] = ⊥
AreValues (tree ∷ trees) = IsTree tree × AllByRecursion IsTree trees

pub record IsCall (c : Call) : Type 0 where
  pub name : IsName c.name
  pub arguments : AllByRecursion IsTree c.arguments

pub record IsAssignment (a : Assignment) : Type 0 where
  pub name : IsName a.name
  pub value : IsTree a.value

pub record IsCondition (c : Condition) : Type 0 where
  pub value : IsTree c.value
  pub test : IsFunction c.test

pub record IsInputFiles (i : InputFiles) : Type 0 where
  pub name : IsName i.name
  pub from : AreValues i.from

abbrev pub IsClause : Clause → Type 0
IsClause (clauses.Input a) = IsAssignment a
IsClause (clauses.InputFiles i) = IsInputFiles i
IsClause (clauses.OutputFile a) = IsAssignment a
IsClause (clauses.OutputDir a) = IsAssignment a
IsClause (clauses.DependsOn ts) = AreSome ts
IsClause (clauses.MustRunAfter ts) = AreSome ts
IsClause (clauses.FinalizedBy ts) = AreSome ts
IsClause (clauses.DoFirst c) = IsCall c
IsClause (clauses.DoLast c) = IsCall c
IsClause (clauses.OnlyIf c) = IsCondition c
IsClause (clauses.UpToDateWhen c) = IsCondition c
IsClause (clauses.Enabled tree) = IsTree tree

abbrev pub IsBlock : List Clause → Type 0
IsBlock block = AllByRecursion IsClause block

abbrev pub IsAction : Option Call → Type 0
IsAction None = Unit {0}
IsAction (Some c) = IsCall c

pub record IsRegistration (r : Registration) : Type 0 where
  pub name : IsName r.name
  pub action : IsAction r.action
  pub block : IsBlock r.block

pub record IsConfiguration (c : Configuration) : Type 0 where
  pub name : IsName c.name
  pub block : IsBlock c.block

-- a property gets a value
pub record IsPropertyAssignment (a : Assignment) : Type 0 where
  pub name : IsProperty a.name
  pub value : IsTree a.value

abbrev pub IsStatement : Statement → Type 0
IsStatement (statements.DefaultTasks ts) = AreSome ts
IsStatement (statements.Property w) = IsProperty w
IsStatement (statements.Set a) = IsPropertyAssignment a
IsStatement (statements.Convention a) = IsPropertyAssignment a
IsStatement (statements.Unset w) = IsProperty w
IsStatement (statements.DisallowChanges w) = IsProperty w
IsStatement (statements.Register r) = IsRegistration r
IsStatement (statements.Named c) = IsConfiguration c

abbrev pub IsScript : List Statement → Type 0
IsScript script = AllByRecursion IsStatement script

abbrev pub IsSettings : List (List (List ℕ)) → Type 0
IsSettings includes = AllByRecursion AreSome includes
