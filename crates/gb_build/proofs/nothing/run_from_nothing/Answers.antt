use Rattle.std.proofs.Common.{[], refl, subst}
use Rattle.gb_folder.specs.Files.{Contents, Files}
use Rattle.gb_history.specs.Places.{record_place}
use Rattle.gb_build.specs.Registering.{setting_of}
use Rattle.gb_semantics.specs.Every.{PromiseHolds}
use Rattle.gb_semantics.specs.Events.{Setting}
use Rattle.gb_semantics.specs.Assumed.{leaves_nothing}
use Rattle.gb_semantics.specs.Headline.{HoldsMemory, TornWritesAreDetected}
use Rattle.gb_records.specs.Said.{IsText}
use Rattle.gb_registry.specs.Tables.{tables_of}
use Rattle.gb_build.proofs.nothing.run_from_nothing.Goals as goal

abbrev held : Files → Contents
held files = record { files = files; special = [] }

none_exist : (setting : Setting) → HoldsMemory setting (held []) []
none_exist setting =
    record { is_folder = record { in_order = refl; none_blocked = refl }; in_order = refl; of_tasks = tt; records = λ path is_path. tt; made = tt }

none_torn : TornWritesAreDetected IsText record_place leaves_nothing
none_torn path old new left is_path of_tool torn = absurd torn

pub returns : goal.returns
returns g c =
    let kinds = c.some_kinds_agree.ensures c.args.tables.now.actions c.names_are_unique.ensures in
    let setting : Setting = setting_of (tables_of g.T.Transforms.meanings g.A.Actions.meanings c.args.tables.now) kinds.0 leaves_nothing in (
      kinds.0,
      kinds.1,
      none_exist setting,
      subst (λ (files : Files). PromiseHolds setting (record { contents = held files; failures = 0 }) c.args.events.now c.in_ok-answers.answers.items
          (record { contents = held c.run_events.new.folder.files; failures = 0 })) c.new-folder.ensures
          (c.in_ok-answers.ensures.promise tt kinds.0 (record { agrees = kinds.1; tears = none_torn })),
    )
