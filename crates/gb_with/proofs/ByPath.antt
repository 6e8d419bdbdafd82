-- Files by their paths, as they are read one after another.
use Rattle.std.proofs.Common.{◌≡◌, ℕ, Bool, true, false, cond, ◌&&◌, List, [], ◌∷◌, map, Option, Some, None, refl, ap, sym, ◌∙◌, bytes_eq}
use Rattle.std.proofs.lemmas.Map.Text.{is_eq-slice_cmp}
use Rattle.std.specs.BTreeMap.{is_at}
use Rattle.std.specs.FinMap.Entries.{below_all, is_sorted}
use Rattle.std.specs.List.{AllByRecursion}
use Rattle.std.specs.List.Sorted.{IsStrictlySortedBy}
use Rattle.std.specs.Map.{lookup}
use Rattle.std.specs.Option.{option_or}
use Rattle.std.specs.Ordering.{eq_by_cmp, is_lt}
use Rattle.std.specs.declared.cmp.Ordering.TheVariants.{Less}
use Rattle.gb_core.specs.Lists.{byte_order}
use Rattle.gb_action.specs.Files.{Tree, file_at}
use Rattle.gb_action.specs.Outputs.{written_at}
use Rattle.gb_action.specs.Shapes.{target}
use Rattle.gb_kinds.specs.Remade.{as_made}

-- ---- Maps as trees

pub found : (q : List ℕ) (es : Tree) → file_at es q ≡ lookup (is_at (byte_order q)) es
found q [] = refl
found q (e ∷ es) = ap (cond (eq_by_cmp byte_order q e.0) (Some e.1)) (found q es)

both : (a b : Bool) → a ≡ true → b ≡ true → (a && b) ≡ true
both true b p q = q
both false b p q = p

pub ordered : (es : Tree) → IsStrictlySortedBy byte_order (map (λ (e : List ℕ × List ℕ). e.0) es) → is_sorted byte_order es ≡ true
unfolding IsStrictlySortedBy
ordered [] h = refl
ordered (e ∷ es) h = both _ _ (below es h.0) (ordered es h.1)
  where
    below : (fs : Tree) → AllByRecursion (λ (y : List ℕ). byte_order e.0 y ≡ Less) (map (λ (f : List ℕ × List ℕ). f.0) fs) → below_all byte_order e.0 fs ≡ true
    below [] g = refl
    below (f ∷ fs) g = both _ _ (ap is_lt g.0) (below fs g.1)

-- ---- One more file

-- a file over the files before it, and under the files after it
over : (later : Option (List ℕ)) (is_here : Bool) (bytes : List ℕ) (before : Option (List ℕ))
    → option_or later (cond is_here (Some bytes) before) ≡ option_or (option_or later (cond is_here (Some bytes) None)) before
over None true bytes before = refl
over None false bytes before = refl
over (Some x) is_here bytes before = refl

-- files that were inserted into a map one after another, the first of them and others
pub put_one : (before after : Tree) (path bytes : List ℕ) (others : Tree) (q : List ℕ)
    → lookup (is_at (byte_order q)) after ≡ cond (is_at (byte_order path) q) (Some bytes) (lookup (is_at (byte_order q)) before)
    → option_or (written_at (as_made others) target q) (file_at after q) ≡ option_or (written_at (as_made ((path, bytes) ∷ others)) target q) (file_at before q)
put_one before after path bytes others q puts =
    ap (option_or (written_at (as_made others) target q))
    (found q after ∙ puts ∙ ap (cond (is_at (byte_order path) q) (Some bytes)) (sym (found q before)) ∙ ap (λ b. cond b (Some bytes) (file_at before q)) (is_eq-slice_cmp path q))
    ∙ over (written_at (as_made others) target q) (bytes_eq path q) bytes (file_at before q)
