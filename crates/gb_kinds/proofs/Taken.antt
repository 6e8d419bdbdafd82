-- Names that are taken once.
use Rattle.std.proofs.Common.{◌≡◌, ◌≢◌, ℕ, Bool, true, false, true≢false, ◌||◌, List, [], ◌∷◌, map, Result, Ok, Err, None, is_some, refl, sym, ap, ◌∙◌, bytes_eq, IfErr}
use Rattle.std.specs.Result.{IsErrOf}
use Rattle.std.specs.Option.{IsSome}
use Rattle.std.specs.List.{list_any}
use Rattle.std.specs.Cmp.Lexicographic.{bytes_decides}
use Rattle.std.specs.FinMap.Entries.{find}
use Rattle.gb_core.specs.Lists.{byte_order}
use Rattle.gb_action.specs.declared.table.TableFault.{TableFault}
use Rattle.gb_action.specs.declared.table.TableFault.TheVariants.{OutOfMemory, DuplicateAction}
use Rattle.gb_core.proofs.Found.{find-other}

neither : (a b : Bool) → (a || b) ≡ false → (a ≡ false) × (b ≡ false)
neither true b e = absurd (true≢false e)
neither false b e = (refl, e)

-- a name that is none of the entries' is not found
absent : {S : Type 0} (f : List ℕ × S → List ℕ × ℕ × ℕ) (q : List ℕ) (entries : List (List ℕ × S)) → ((e : List ℕ × S) → (f e).0 ≡ e.0)
    → list_any (λ e. bytes_eq e.0 q) (map f entries) ≡ false → find byte_order q entries ≡ None
absent f q [] names h = refl
absent f q (entry ∷ entries) names h =
    let both = neither (bytes_eq (f entry).0 q) _ h in
    let other : entry.0 ≢ q = λ is. true≢false (sym ((bytes_decides (f entry).0 q).1 (names entry ∙ is)) ∙ both.0) in
    find-other q entry entries other ∙ absent f q entries names both.1

pub only_memory : {X S : Type 0} (f : List ℕ × S → List ℕ × ℕ × ℕ) (name q : List ℕ) (entries : List (List ℕ × S)) (r : Result X TableFault) → ((e : List ℕ × S) → (f e).0 ≡ e.0)
    → list_any (λ e. bytes_eq e.0 q) (map f entries) ≡ false → name ≡ q → (IsErrOf r DuplicateAction → IsSome (find byte_order name entries)) → IfErr r (λ fault. fault ≡ OutOfMemory)
only_memory f name q entries (Ok x) names other is duplicate = tt
only_memory f name q entries (Err OutOfMemory) names other is duplicate = refl
only_memory f name q entries (Err DuplicateAction) names other is duplicate =
    absurd (true≢false (sym (duplicate refl) ∙ ap (λ n. is_some (find byte_order n entries)) is ∙ ap is_some (absent f q entries names other)))
