-- Memories after one change and another.
use Rattle.std.specs.Prelude.{◌≡◌, Bool, true, false, not, cond, Option, Some, None, bytes_eq}
use Rattle.std.specs.FinMap.Entries.{find-put, find-where_key, is_sorted, is_sorted-put, is_sorted-where_key, same_entries}
use Rattle.std.proofs.Common.{refl, sym, ap, ◌∙◌}
use Rattle.std.proofs.lemmas.Map.Text.{is_eq-slice_cmp}
use Rattle.gb_core.specs.Lists.{byte_order}
use Rattle.gb_semantics.specs.Memory.{Entry, Memory, forget, recalled, remember}
use Rattle.gb_semantics.proofs.Lemmas.Files.{T_of, of_T, tied_same, total}
use Rattle.gb_plan.specs.Task.{Path}

pub recalled-forget : (memory : Memory) (path other : Path) → recalled (forget memory path) other ≡ cond (not (bytes_eq other path)) (recalled memory other) None
recalled-forget memory path other =
    find-where_key byte_order (λ p. not (bytes_eq p path)) other (λ x t. ap (λ p. not (bytes_eq p path)) (sym (tied_same other x t))) memory

pub recalled-remember : (memory : Memory) (path : Path) (entry : Entry) (other : Path) → recalled (remember memory path entry) other ≡ cond (bytes_eq other path) (Some entry) (recalled memory other)
recalled-remember memory path entry other =
    find-put byte_order total other path entry memory ∙ ap (λ b. cond b (Some entry) (recalled memory other)) (is_eq-slice_cmp other path)

sorted-forget : (memory : Memory) (path : Path) → is_sorted byte_order memory ≡ true → is_sorted byte_order (forget memory path) ≡ true
sorted-forget memory path sorted = of_T _ (is_sorted-where_key byte_order (λ p. not (bytes_eq p path)) memory (T_of _ sorted))

sorted-remember : (memory : Memory) (path : Path) (entry : Entry) → is_sorted byte_order memory ≡ true → is_sorted byte_order (remember memory path entry) ≡ true
sorted-remember memory path entry sorted = of_T _ (is_sorted-put byte_order total path entry memory (T_of _ sorted))

same_memory : (one other : Memory) → is_sorted byte_order one ≡ true → is_sorted byte_order other ≡ true → ((path : Path) → recalled one path ≡ recalled other path) → one ≡ other
same_memory one other first second is = same_entries byte_order total tied_same one other (T_of _ first) (T_of _ second) is

-- what is remembered again need not be forgotten before
pub remember-forget : (memory : Memory) (path : Path) (entry : Entry) → is_sorted byte_order memory ≡ true → remember (forget memory path) path entry ≡ remember memory path entry
remember-forget memory path entry sorted =
    same_memory _ _ (sorted-remember (forget memory path) path entry (sorted-forget memory path sorted)) (sorted-remember memory path entry sorted)
    (λ other. recalled-remember (forget memory path) path entry other
    ∙ ap (cond (bytes_eq other path) (Some entry)) (recalled-forget memory path other)
    ∙ by (bytes_eq other path) (recalled memory other)
    ∙ sym (recalled-remember memory path entry other))
  where
    by : (b : Bool) (o : Option Entry) → cond b (Some entry) (cond (not b) o None) ≡ cond b (Some entry) o
    by true o = refl
    by false o = refl

-- what is forgotten is forgotten
pub forget-forget : (memory : Memory) (path : Path) → is_sorted byte_order memory ≡ true → forget (forget memory path) path ≡ forget memory path
forget-forget memory path sorted =
    same_memory _ _ (sorted-forget (forget memory path) path (sorted-forget memory path sorted)) (sorted-forget memory path sorted)
    (λ other. recalled-forget (forget memory path) path other
    ∙ ap (λ (o : Option Entry). cond (not (bytes_eq other path)) o None) (recalled-forget memory path other)
    ∙ by (not (bytes_eq other path)) (recalled memory other)
    ∙ sym (recalled-forget memory path other))
  where
    by : (b : Bool) (o : Option Entry) → cond b (cond b o None) None ≡ cond b o None
    by true o = refl
    by false o = refl
