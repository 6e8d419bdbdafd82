-- What files that are written one after another put at a path.
use Rattle.std.proofs.Common.{◌≡◌, ◌≢◌, ℕ, Bool, true, false, true≢false, ◌&&◌, T, cond, if◌then◌else◌, List, [], ◌∷◌, ◌++◌, Option, Some, None, refl, sym, ap, subst, ◌∙◌, bytes_eq, IsTrue}
use Rattle.std.specs.Option.{option_or, option_map}
use Rattle.std.specs.Ordering.{is_lt, is_eq}
use Rattle.std.specs.Cmp.Lexicographic.{bytes_decides}
use Rattle.std.specs.declared.cmp.Ordering.{Ordering}
use Rattle.std.specs.declared.cmp.Ordering.TheVariants.{Less, Equal, Greater}
use Rattle.std.specs.FinMap.Entries.{below_all, is_sorted}
use Rattle.gb_core.specs.Lists.{byte_order}
use Rattle.gb_action.specs.Files.{Tree, file_at}
use Rattle.gb_action.specs.Outputs.{written_at}
use Rattle.gb_action.specs.Shapes.{target}
use Rattle.gb_action.specs.declared.reply.Written.{Written}
use Rattle.gb_core.proofs.Found.{find-same, find-other}
use Rattle.gb_kinds.specs.ByFile.{by_file}

pub or_none : {X : Type 0} (o : Option X) → option_or o None ≡ o
or_none None = refl
or_none (Some x) = refl

pub or_same : {X : Type 0} (o : Option X) → option_or o o ≡ o
or_same None = refl
or_same (Some x) = refl

or_later : {X : Type 0} (a b c : Option X) → option_or (option_or a b) c ≡ option_or a (option_or b c)
or_later None b c = refl
or_later (Some x) b c = refl

pub written_at-append : (xs ys : List Written) (output path : List ℕ) → written_at (xs ++ ys) output path ≡ option_or (written_at ys output path) (written_at xs output path)
written_at-append [] ys output path = sym (or_none (written_at ys output path))
written_at-append (x ∷ xs) ys output path =
    ap (λ w. option_or w (if bytes_eq x.output output && bytes_eq x.path path then Some x.bytes else None)) (written_at-append xs ys output path)
    ∙ or_later (written_at ys output path) (written_at xs output path) _

pub first : (a b : Bool) → T (a && b) → T a
first true b p = tt
first false b p = absurd p

pub second : (a b : Bool) → T (a && b) → T b
second true b p = p
second false b p = absurd p

not_equal : (o : Ordering) → T (is_lt o) → is_eq o ≡ false
not_equal Less p = refl
not_equal Equal p = absurd p
not_equal Greater p = absurd p

-- a path below all paths of a tree has no file
pub below : (path : List ℕ) (files : Tree) → T (below_all byte_order path files) → file_at files path ≡ None
below path [] h = refl
below path (file ∷ files) h =
    ap (λ b. cond b (Some file.1) (file_at files path)) (not_equal (byte_order path file.0) (first _ _ h)) ∙ below path files (second (is_lt (byte_order path file.0)) _ h)

module _ (edit : List ℕ → List ℕ) (output path : List ℕ) where
  -- the result for each file is at its path, in the output that kinds write
  pub written_at-by_file : (files : Tree) → IsTrue (is_sorted byte_order files) → written_at (by_file edit files) output path ≡ (if bytes_eq target output then option_map edit (file_at files path) else None)
  written_at-by_file files ordered = go files (subst T (sym (true_is _ ordered)) tt)
    where
      true_is : (b : Bool) → IsTrue b → b ≡ true
      true_is b h = h

      here : (t : Bool) (m : Option (List ℕ)) (bytes : List ℕ) → m ≡ None → option_or (if t then option_map edit m else None) (if t && true then Some (edit bytes) else None) ≡ (if t then Some (edit bytes) else None)
      here true m bytes is = ap (λ o. option_or (option_map edit o) (Some (edit bytes))) is
      here false m bytes is = refl

      there : (t : Bool) (o : Option (List ℕ)) (bytes : List ℕ) → option_or (if t then o else None) (if t && false then Some bytes else None) ≡ (if t then o else None)
      there true o bytes = or_none o
      there false o bytes = refl

      go : (files : Tree) → T (is_sorted byte_order files) → written_at (by_file edit files) output path ≡ (if bytes_eq target output then option_map edit (file_at files path) else None)
      go [] h = by (bytes_eq target output)
        where
          by : (t : Bool) → written_at [] output path ≡ (if t then option_map edit (file_at [] path) else None)
          by true = refl
          by false = refl
      go (file ∷ files) h =
          ap (λ w. option_or w (if bytes_eq target output && bytes_eq file.0 path then Some (edit file.1) else None)) (go files (second (below_all byte_order file.0 files) _ h))
          ∙ by (bytes_eq file.0 path) refl
        where
          by : (b : Bool) → bytes_eq file.0 path ≡ b
              → option_or (if bytes_eq target output then option_map edit (file_at files path) else None) (if bytes_eq target output && bytes_eq file.0 path then Some (edit file.1) else None)
              ≡ (if bytes_eq target output then option_map edit (file_at (file ∷ files) path) else None)
          by true e =
              let is : file.0 ≡ path = (bytes_decides file.0 path).0 e in
              let absent : file_at files path ≡ None = subst (λ q. file_at files q ≡ None) is (below file.0 files (first (below_all byte_order file.0 files) _ h)) in
              ap (λ b. option_or (if bytes_eq target output then option_map edit (file_at files path) else None) (if bytes_eq target output && b then Some (edit file.1) else None)) e
              ∙ here (bytes_eq target output) (file_at files path) file.1 absent
              ∙ ap (λ o. if bytes_eq target output then option_map edit o else None) (sym (find-same path file files is))
          by false e =
              let other : file.0 ≢ path = λ is. true≢false (sym ((bytes_decides file.0 path).1 is) ∙ e) in
              ap (λ b. option_or (if bytes_eq target output then option_map edit (file_at files path) else None) (if bytes_eq target output && b then Some (edit file.1) else None)) e
              ∙ there (bytes_eq target output) (option_map edit (file_at files path)) (edit file.1)
              ∙ ap (λ o. if bytes_eq target output then option_map edit o else None) (sym (find-other path file files other))
