-- Functions whose names are taken once.
use Rattle.std.proofs.Common.{◌≡◌, ◌≢◌, ℕ, Bool, true, false, true≢false, ◌||◌, List, [], ◌∷◌, Result, Ok, Err, None, is_some, refl, sym, ap, ◌∙◌, bytes_eq, IfErr}
use Rattle.std.specs.Result.{IsErrOf}
use Rattle.std.specs.Option.{IsSome}
use Rattle.std.specs.List.{list_any}
use Rattle.std.specs.Cmp.Lexicographic.{bytes_decides}
use Rattle.std.specs.FinMap.Entries.{find}
use Rattle.gb_core.proofs.Found.{find-other}
use Rattle.gb_core.specs.Lists.{byte_order}
use Rattle.gb_provider.specs.Table.{Table}
use Rattle.gb_provider.specs.declared.fault.TableFault.{TableFault}
use Rattle.gb_provider.specs.declared.fault.TableFault.TheVariants.{OutOfMemory, DuplicateTransform}
use Rattle.gb_kinds.specs.FunctionNames.{numbers}

neither : (a b : Bool) → (a || b) ≡ false → (a ≡ false) × (b ≡ false)
neither true b e = absurd (true≢false e)
neither false b e = (refl, e)

module _ {M F Z S : Type 0} (mapped : M → ℕ) (chosen : F → ℕ) (zipped : Z → ℕ) (tested : S → ℕ) where
  -- a name that is none of the entries' is not found
  absent : (name : List ℕ) (table : Table M F Z S) → list_any (λ e. bytes_eq e.0 name) (numbers table mapped chosen zipped tested) ≡ false → find byte_order name table ≡ None
  absent name [] h = refl
  absent name (entry ∷ table) h =
      let both = neither (bytes_eq entry.0 name) _ h in
      let other : entry.0 ≢ name = λ is. true≢false (sym ((bytes_decides entry.0 name).1 is) ∙ both.0) in
      find-other name entry table other ∙ absent name table both.1

  -- so only lack of memory keeps a function from being added under it
  pub only_memory : {X : Type 0} (read name : List ℕ) (table : Table M F Z S) (answer : Result X TableFault) → list_any (λ e. bytes_eq e.0 name) (numbers table mapped chosen zipped tested) ≡ false → read ≡ name
      → (IsErrOf answer DuplicateTransform → IsSome (find byte_order read table)) → IfErr answer (λ fault. fault ≡ OutOfMemory)
  only_memory read name table (Ok x) other is duplicate = tt
  only_memory read name table (Err OutOfMemory) other is duplicate = refl
  only_memory read name table (Err DuplicateTransform) other is duplicate =
      absurd (true≢false (sym (duplicate refl) ∙ ap (λ n. is_some (find byte_order n table)) is ∙ ap is_some (absent name table other)))
