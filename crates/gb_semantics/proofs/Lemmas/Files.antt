-- What file maps return after files are added and removed.
use Rattle.std.specs.Prelude.{◌≡◌, Bool, true, false, cond, T, [], ◌∷◌, Option, Some, None}
use Rattle.std.specs.Ordering.{is_lt, is_eq, eq_by_cmp}
use Rattle.std.specs.declared.cmp.Ordering.{Ordering}
use Rattle.std.specs.declared.cmp.Ordering.TheVariants.{Less, Equal, Greater}
use Rattle.std.specs.Cmp.{IsTotalOrder}
use Rattle.std.specs.Cmp.Lexicographic.{nat_list_cmp_total}
use Rattle.std.specs.FinMap.{nat_cmp-IsAntisymmetric, slice_cmp-IsAntisymmetric}
use Rattle.std.specs.FinMap.Entries.{is_sorted, below_all, find-put, find-where_key, is_sorted-put, is_sorted-where_key, same_entries}
use Rattle.std.proofs.Common.{refl, sym, ap, ◌∙◌}
use mathlib.Core.Bool.{true≢false}
use Rattle.gb_folder.specs.Files.{Place, Bytes, Files, file_at, with_file, files_where}
use Rattle.gb_core.specs.Lists.{byte_order}
pub use Rattle.gb_core.proofs.TaskPaths.{left_of, right_of}
use Rattle.gb_semantics.specs.Made.{put_over}

pub total : IsTotalOrder byte_order
total = nat_list_cmp_total

-- places that compare as equal are one place
pub tied_same : (p q : Place) → byte_order p q ≡ Equal → p ≡ q
tied_same = slice_cmp-IsAntisymmetric nat_cmp-IsAntisymmetric

equal_of : (r : Ordering) → is_eq r ≡ true → r ≡ Equal
equal_of Less e = absurd (true≢false (sym e))
equal_of Equal e = refl
equal_of Greater e = absurd (true≢false (sym e))

pub same_place : (p q : Place) → eq_by_cmp byte_order p q ≡ true → p ≡ q
same_place p q e = tied_same p q (equal_of (byte_order p q) e)

abbrev pub or_else : Option Bytes → Option Bytes → Option Bytes
or_else (Some b) other = Some b
or_else None other = other

pub T_of : (b : Bool) → b ≡ true → T b
T_of true e = tt
T_of false e = absurd (true≢false (sym e))

pub of_T : (b : Bool) → T b → b ≡ true
of_T true t = refl
of_T false t = absurd t

-- the files that pass a test
pub at-where : (test : Place → Bool) (files : Files) (q : Place) → file_at (files_where test files) q ≡ cond (test q) (file_at files q) None
at-where test files q = find-where_key byte_order test q (λ x e. ap test (sym (tied_same q x e))) files

pub at-with : (files : Files) (p : Place) (b : Bytes) (q : Place) → file_at (with_file files p b) q ≡ cond (eq_by_cmp byte_order q p) (Some b) (file_at files q)
at-with files p b q = find-put byte_order total q p b files

not_tied : (r : Ordering) → is_lt r ≡ true → is_eq r ≡ false
not_tied Less e = refl
not_tied Equal e = absurd (true≢false (sym e))
not_tied Greater e = refl

-- no file is at a place below all of the list
pub none_below : (p : Place) (files : Files) → below_all byte_order p files ≡ true → file_at files p ≡ None
none_below p [] h = refl
none_below p (f ∷ files) h =
    ap (λ b. cond b (Some f.1) (file_at files p)) (not_tied (byte_order p f.0) (left_of (is_lt (byte_order p f.0)) (below_all byte_order p files) h))
    ∙ none_below p files (right_of (is_lt (byte_order p f.0)) (below_all byte_order p files) h)

later : (eq : Bool) (b : Bytes) (rest old : Option Bytes) → (eq ≡ true → rest ≡ None) → or_else rest (cond eq (Some b) old) ≡ or_else (cond eq (Some b) rest) old
later true b rest old h = ap (λ r. or_else r (Some b)) (h refl)
later false b rest old h = refl

-- files of a map added to another hide its files at the same places
pub at-put_over : (held files : Files) (q : Place) → is_sorted byte_order files ≡ true → file_at (put_over held files) q ≡ or_else (file_at files q) (file_at held q)
at-put_over held [] q h = refl
at-put_over held (f ∷ files) q h =
    at-put_over (with_file held f.0 f.1) files q (right_of (below_all byte_order f.0 files) (is_sorted byte_order files) h)
    ∙ ap (or_else (file_at files q)) (at-with held f.0 f.1 q)
    ∙ later (eq_by_cmp byte_order q f.0) f.1 (file_at files q) (file_at held q)
    (λ e. ap (file_at files) (same_place q f.0 e) ∙ none_below f.0 files (left_of (below_all byte_order f.0 files) (is_sorted byte_order files) h))

pub sorted-with : (files : Files) (p : Place) (b : Bytes) → is_sorted byte_order files ≡ true → is_sorted byte_order (with_file files p b) ≡ true
sorted-with files p b h = of_T _ (is_sorted-put byte_order total p b files (T_of _ h))

pub sorted-where : (test : Place → Bool) (files : Files) → is_sorted byte_order files ≡ true → is_sorted byte_order (files_where test files) ≡ true
sorted-where test files h = of_T _ (is_sorted-where_key byte_order test files (T_of _ h))

pub sorted-put_over : (held files : Files) → is_sorted byte_order held ≡ true → is_sorted byte_order (put_over held files) ≡ true
sorted-put_over held [] h = h
sorted-put_over held (f ∷ files) h = sorted-put_over (with_file held f.0 f.1) files (sorted-with held f.0 f.1 h)

-- maps in order that return the same are equal
pub same_files : (a b : Files) → is_sorted byte_order a ≡ true → is_sorted byte_order b ≡ true → ((q : Place) → file_at a q ≡ file_at b q) → a ≡ b
same_files a b g h is = same_entries byte_order total tied_same a b (T_of _ g) (T_of _ h) is
