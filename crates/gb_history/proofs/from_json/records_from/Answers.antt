use Rattle.std.proofs.Common.{◌≡◌, ℕ, List, [], ◌∷◌, ◌++◌, ◌+◌, suc, take, ap, ap₂, sym, subst, true, ◌∙◌, arith, add-one}
use Rattle.std.specs.List.{AllByRecursion}
use Rattle.std.specs.BTreeMap.{insert_entry}
use Rattle.std.specs.FinMap.Entries.{is_sorted}
use Rattle.serde_json.specs.View.{view}
use Rattle.gb_core.specs.Lists.{byte_order}
use Rattle.gb_history.specs.Record.{Record}
use Rattle.gb_history.specs.Text.{held_json, FitsEdition, IsHeldIn}
use Rattle.gb_history.specs.declared.fault.RecordFault.TheVariants.{OutOfMemory}
use Rattle.gb_history.proofs.Lists.{err_passes, next}
use Rattle.gb_history.proofs.Rising.{all_inserted, insert_after, is_sorted-take}
use Rattle.gb_history.proofs.from_json.records_from.Goals as goal

-- one more one, above all before it
one_more : (before after xs : List (List ℕ × Record)) (i : ℕ) (got x : List ℕ × Record) → is_sorted byte_order xs ≡ true → before ≡ take i xs
    → after ≡ insert_entry byte_order before got.0 got.1 → got ≡ x → take (suc i) xs ≡ take i xs ++ x ∷ [] → after ≡ take (i + 1) xs
one_more before after xs i got x sorted so_far put here more =
    let rise : is_sorted byte_order (take i xs ++ x ∷ []) ≡ true = subst (λ l. is_sorted byte_order l ≡ true) more (is_sorted-take (suc i) xs sorted) in
    rw add-one (put ∙ ap₂ (λ (b : List (List ℕ × Record)) (e : List ℕ × Record). insert_entry byte_order b e.0 e.1) so_far here
    ∙ insert_after (take i xs) x rise ∙ sym more)

pub loop-item-preserved : goal.loop-item-preserved
loop-item-preserved c = record {
  read = λ xs all sorted e.
      let f = held_json c.args.edition in
      let n = next view f (IsHeldIn c.args.edition) c.args.items.now xs c.loop-item.item-index c.item-item.result e all (omega arith) in
      let here : view c.item-item.result ≡ f n.value = ap view c.item-item.is ∙ n.is in
      one_more _ _ xs _ _ n.value sorted (c.loop-item.invariant.read xs all sorted e) c.in_ok-put.ensures.put (c.in_ok-one.ensures.read n.value n.holds here) n.more;
  fits = subst (AllByRecursion _) (sym c.in_ok-put.ensures.put)
      (all_inserted (λ run. AllByRecursion (FitsEdition c.args.edition) run.actions) _ _ _ c.loop-item.invariant.fits c.in_ok-one.ensures.fits);
}

pub returns-in_err-one-clause-read : goal.returns-in_err-one-clause-read
returns-in_err-one-clause-read c xs all sorted e =
    let f = held_json c.args.edition in
    let n = next view f (IsHeldIn c.args.edition) c.args.items.now xs c.loop-item.item-index c.item-item.result e all (omega arith) in
    let here : view c.item-item.result ≡ f n.value = ap view c.item-item.is ∙ n.is in
    let reported : c.in_err-one.field-0.0 ≡ OutOfMemory = c.in_err-one.ensures.read n.value n.holds here in
    err_passes c.from_residual.result (λ got. got ≡ xs) (λ x. x ≡ OutOfMemory) (rw reported at c.from_residual.ensures.1)
