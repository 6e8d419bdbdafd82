use Rattle.std.proofs.Common.{◌≡◌, [], ◌∷◌, ◌++◌, is_some, true≢false, refl, sym, ap, ◌∙◌, string_bytes, bytes_eq}
use Rattle.std.specs.String.{string_eq}
use Rattle.std.specs.FinMap.Entries.{find}
use Rattle.std.specs.Map.{lookup}
use Rattle.indexmap.proofs.CallerLemmas.{insert_entry-new}
use Rattle.gb_core.specs.Lists.{byte_order}
use Rattle.gb_table.proofs.Tables.{is_none, no_memory, ok_is_no_fault, named, found-by, named-append}
use Rattle.gb_table.proofs.table.NamedTable.add_under.Given.{Over}
use Rattle.gb_table.proofs.table.NamedTable.add_under.Goals as goal
use Rattle.gb_table.proofs.table.NamedTable.add_under.Goals.{After-contains_key}

-- the test returns whether the name is taken
is_taken : (g : Over) (c : After-contains_key g) → is_some (find byte_order c.args.name.now c.args.self.now) ≡ c.contains_key.result
is_taken g c =
    found-by string_bytes c.args.name.now c.args.name.now c.self.inside.entries.entries c.args.self.now c.self.view_is refl ∙ sym c.contains_key.ensures

pub returns-then-contains_key-clause-taken : goal.returns-then-contains_key-clause-taken
returns-then-contains_key-clause-taken g c =
    (λ _. is_taken g (goal.at.returns-then-contains_key-clause-taken g c).After-contains_key ∙ c.if-contains_key.true, λ _. refl)

pub returns-in_err-key-clause-taken : goal.returns-in_err-key-clause-taken
returns-in_err-key-clause-taken g c =
    no_memory c.from_residual.result c.from_residual.ensures.1
    (λ some. true≢false (sym some ∙ is_taken g (goal.at.returns-in_err-key-clause-taken g c).After-contains_key ∙ c.if-contains_key.false))

pub returns-in_err-insert-clause-taken : goal.returns-in_err-insert-clause-taken
returns-in_err-insert-clause-taken g c =
    no_memory c.from_residual-in_err-insert.result c.from_residual-in_err-insert.ensures.1
    (λ some. true≢false (sym some ∙ is_taken g (goal.at.returns-in_err-insert-clause-taken g c).After-contains_key ∙ c.if-contains_key.false))

pub returns-clause-ok : goal.returns-clause-ok
returns-clause-ok g c =
    let es = c.self.inside.entries.entries in
    let key = c.in_ok-key.key in
    let is : string_bytes key ≡ c.args.name.now = c.in_ok-key.ensures.ok in
    let new = ap (λ n. lookup (λ k. bytes_eq n (string_bytes k)) es) is ∙ is_none _ (sym c.contains_key.ensures ∙ c.if-contains_key.false) in
    ap (named string_bytes) (c.in_ok-insert.ensures.entries ∙ insert_entry-new string_eq c.self.inside.entries key c.args.stored new)
    ∙ named-append string_bytes es ((key, c.args.stored) ∷ [])
    ∙ ap (λ n. named string_bytes es ++ (n, c.args.stored) ∷ []) is
    ∙ ap (λ table. table ++ (c.args.name.now, c.args.stored) ∷ []) c.self.view_is

pub returns-clause-absent : goal.returns-clause-absent
returns-clause-absent g c = is_none _ (is_taken g (goal.at.returns-clause-absent g c).After-contains_key ∙ c.if-contains_key.false)

pub returns-clause-taken : goal.returns-clause-taken
returns-clause-taken g c =
    (λ is. absurd (ok_is_no_fault _ is), λ some. absurd (true≢false (sym some ∙ is_taken g (goal.at.returns-clause-taken g c).After-contains_key ∙ c.if-contains_key.false)))
