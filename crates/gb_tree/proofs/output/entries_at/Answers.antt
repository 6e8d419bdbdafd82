use Rattle.std.proofs.Common.{cond, [], inl, sym, ap, ◌∙◌}
use Rattle.gb_folder.specs.Files.{places_under}
use Rattle.gb_tree.specs.Tree.{entries_from, listing_faults}
use Rattle.gb_tree.proofs.output.entries_at.Goals as goal

pub returns-then-is_own-clause-listed : goal.returns-then-is_own-clause-listed
returns-then-is_own-clause-listed g c = inl (sym c.is_own.ensures ∙ c.if-is_own.true, c.new.ensures.items)

pub returns-then-is_own-clause-entries : goal.returns-then-is_own-clause-entries
returns-then-is_own-clause-entries g c = λ faithful.
    let old = g.F.Folder.device.contents c.args.folder.now in
    let place = c.args.place.now in
    c.new.ensures.items ∙ sym (ap (λ b. cond b [] (entries_from place (places_under old.files place))) (sym c.is_own.ensures ∙ c.if-is_own.true))

pub returns-then-is_own-clause-fit : goal.returns-then-is_own-clause-fit
returns-then-is_own-clause-fit g c = λ faithful.
    let old = g.F.Folder.device.contents c.args.folder.now in
    ap (λ b. cond b [] (listing_faults c.args.name.now c.args.place.now old)) (sym c.is_own.ensures ∙ c.if-is_own.true)
