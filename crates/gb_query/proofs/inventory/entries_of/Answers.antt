use Rattle.std.proofs.Common.{subst, ◌∙◌}
use Rattle.gb_folder.specs.Files.{Contents}
use Rattle.gb_folder.proofs.Asked.{requests_then}
use Rattle.gb_records.proofs.Calls.{read_more}
use Rattle.gb_query.specs.Inventory.{IsEntryOf}
use Rattle.gb_query.proofs.inventory.entries_of.Goals as goal

pub loop-place-preserved : goal.loop-place-preserved
loop-place-preserved g c =
    let F = g.F.Folder in
    let registered = c.args.registered.now in
    let place = c.place-item.result in
    let entry = c.in_ok-entry_of.field-0 in
    let back = c.entry_of.ensures.reads.requests.back in
    record {
      requests = requests_then c.loop-place.invariant.requests c.entry_of.ensures.reads.requests;
      back = λ known. c.loop-place.invariant.back (back known);
      same = λ faithful. c.entry_of.ensures.reads.same faithful ∙ c.loop-place.invariant.same (back faithful);
      entries = λ faithful.
          read_more (IsEntryOf (F.device.contents c.args.folder.now).files registered) c.args.places.now c.loop-place.place-index place c.loop-place.entries.items _ entry
          c.loop-place-test.true
          c.place-item.is
          (c.loop-place.invariant.entries (back faithful))
          (subst (λ (folder : Contents). IsEntryOf folder.files registered place entry) (c.loop-place.invariant.same (back faithful)) (c.in_ok-entry_of.ensures.entry faithful))
          c.in_ok-push.ensures.items;
    }
