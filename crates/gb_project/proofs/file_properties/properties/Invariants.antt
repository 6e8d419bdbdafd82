use Rattle.gb_registry.specs.Said.{Registered}
use Rattle.gb_registry.specs.Source.{Source}
use Rattle.gb_registry.specs.Tables.{tables_of}
use Rattle.gb_project.specs.Over.{IsOver, known_names}
use Rattle.gb_declare.specs.Whole.{spots, whole}
use Rattle.gb_project.proofs.WalkLemmas.{IsWalked}
use Rattle.std.proofs.Common.{◌≡◌, ℕ, length, map}
use Rattle.std.specs.List.{flat_map}
use Rattle.gb_declare.specs.Borrowed.{named_in}
use Rattle.gb_declare.specs.Joined.{Named}
use Rattle.gb_declare.specs.Realised.{files_under}
use Rattle.gb_script.specs.declared.script.InputFiles.{InputFiles}
use Rattle.gb_project.specs.Parts.{HavePatterns}
use Rattle.gb_project.specs.Rows.{AreFor, AreWithin, HaveValues, IsAt}
use Rattle.gb_project.proofs.file_properties.properties.Given as goal

abbrev pub invariant-loop-name : goal.invariant-loop-name
invariant-loop-name g l = record {
  kept : l.providers ≡ l.initial.providers;
  within : AreWithin l.initial.providers.nodes l.rest;
  count : length l.rest ≡ length (flat_map (λ (property : Named InputFiles). property.1.from) (map (λ e. (e.0, e.1.now)) l.name-iterator));
  patterns : HavePatterns (map (λ e. (e.0, e.1.now)) l.name-iterator);
  given : HaveValues g.T.Transforms.meanings l.initial.providers.nodes l.rest → HaveValues g.T.Transforms.meanings l.initial.providers.nodes l.row;
  reported : (source : Source) (number : ℕ → ℕ)
      → IsOver (tables_of g.T.Transforms.meanings g.A.Actions.meanings l.context.tables.now) source (known_names l.context.projects.now l.context.tasks.now) l.context.faults.now l.initial.providers.nodes number
      → (at : Registered) → IsAt l.path at
      → AreFor (tables_of g.T.Transforms.meanings g.A.Actions.meanings l.context.tables.now) source number at.project l.row (flat_map (λ property. property.1.from) (named_in l.files))
      → AreFor (tables_of g.T.Transforms.meanings g.A.Actions.meanings l.context.tables.now) source number at.project l.rest (flat_map (λ (property : Named InputFiles). property.1.from) (map (λ e. (e.0, e.1.now)) l.name-iterator))
      × IsWalked (files_under (tables_of g.T.Transforms.meanings g.A.Actions.meanings l.context.tables.now) source at (spots (tables_of g.T.Transforms.meanings g.A.Actions.meanings l.context.tables.now) source) (whole (tables_of g.T.Transforms.meanings g.A.Actions.meanings l.context.tables.now) source)) (named_in l.files) (l.found.items) (map (λ e. (e.0, e.1.now)) l.name-iterator);
}
