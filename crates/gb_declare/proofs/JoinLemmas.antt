-- The combined clauses, one clause after another.
use Rattle.std.proofs.Common.{◌≡◌, ℕ, suc, ◌+◌, ◌<◌, List, [], ◌∷◌, length, get_or, drop, map, fold, reverse, ◌++◌, append_assoc, Option, None, Some, add-one, refl, sym, ap, ◌∙◌}
use Rattle.std.proofs.Math.Seq.{drop-cons}
use Rattle.std.proofs.lemmas.List.{reverse-append}
use Rattle.gb_script.specs.declared.script.Call.{Call}
use Rattle.gb_script.specs.declared.script.Clause.{Clause}
use Rattle.gb_script.specs.declared.script.Clause.TheVariants as clauses
use Rattle.std.specs.Prelude.{filter_map}
use Rattle.std.specs.Borrow.{Bor}
use Rattle.std.specs.BTreeMap.{BTreeMap, insert_entry}
use Rattle.std.specs.declared.cmp.Ordering.TheVariants.{Less, Equal, Greater}
use Rattle.std.specs.FinMap.Entries.{put, by_order}
use Rattle.std.specs.Ordering.{match_ordering}
use Rattle.gb_core.specs.Lists.{byte_order}
use Rattle.gb_declare.specs.Borrowed.{now_of}
use Rattle.gb_declare.specs.Joined.{Named, first_in, last_in, with_action}

-- a thing is stored under its name, under any view of the things
pub put_viewed : {X Y : Type 0} (view : X → Y) (name : List ℕ) (x : X) (es : List (Named X))
    → map (λ e. (e.0, view e.1)) (insert_entry byte_order es name x) ≡ put byte_order name (view x) (map (λ e. (e.0, view e.1)) es)
put_viewed view name x [] = refl
put_viewed view name x (e ∷ es) =
    elim (byte_order name e.0) as (λ o.
    map (λ e. (e.0, view e.1)) (match_ordering o ((name, x) ∷ e ∷ es) ((e.0, x) ∷ es) (e ∷ insert_entry byte_order es name x))
    ≡ by_order o ((name, view x) ∷ (e.0, view e.1) ∷ map (λ e. (e.0, view e.1)) es)
    ((e.0, view x) ∷ map (λ e. (e.0, view e.1)) es)
    ((e.0, view e.1) ∷ put byte_order name (view x) (map (λ e. (e.0, view e.1)) es))) [
      | Less ↦ refl
      | Equal ↦ refl
      | Greater ↦ ap (λ rest. (e.0, view e.1) ∷ rest) (put_viewed view name x es)
    ]

-- the entries stored over these, one after another
abbrev pub put_all : {Y : Type 0} → List (Named Y) → List (Named Y) → List (Named Y)
put_all there entries = fold (λ there entry. put byte_order entry.0 entry.1 there) there entries

chosen : {C Y : Type 0} (pick : C → Option Y) (clause : C) (rest : List C) (y : Y) → pick clause ≡ Some y → filter_map pick (clause ∷ rest) ≡ y ∷ filter_map pick rest
chosen pick clause rest y e = rw e refl

skipped : {C Y : Type 0} (pick : C → Option Y) (clause : C) (rest : List C) → pick clause ≡ None → filter_map pick (clause ∷ rest) ≡ filter_map pick rest
skipped pick clause rest e = rw e refl

module _ {C Y : Type 0} (pick : C → Option (Named Y)) (clauses : List (Bor C)) (i : ℕ) (clause : Bor C) (within : i < length clauses) (is : clause ≡ get_or clauses i clause) (old whole : List (Named Y)) (before : put_all old (filter_map pick (now_of (drop i clauses))) ≡ whole) where
  next : now_of (drop i clauses) ≡ clause.now ∷ now_of (drop (i + 1) clauses)
  next = rw add-one (ap now_of (drop-cons clauses i clause within ∙ ap (λ c. c ∷ drop (suc i) clauses) (sym is)))

  -- the clause stores an entry
  pub taken : (entry : Named Y) (new : List (Named Y)) → Some entry ≡ pick clause.now → new ≡ put byte_order entry.0 entry.1 old
      → put_all new (filter_map pick (now_of (drop (i + 1) clauses))) ≡ whole
  taken entry new some is_new =
      ap (λ there. put_all there (filter_map pick (now_of (drop (i + 1) clauses)))) is_new
      ∙ sym (ap (put_all old) (ap (filter_map pick) next ∙ chosen pick clause.now (now_of (drop (i + 1) clauses)) entry (sym some))) ∙ before

  -- it stores none
  pub passed : (new : List (Named Y)) → None ≡ pick clause.now → new ≡ old
      → put_all new (filter_map pick (now_of (drop (i + 1) clauses))) ≡ whole
  passed new none is_new =
      ap (λ there. put_all there (filter_map pick (now_of (drop (i + 1) clauses)))) is_new
      ∙ sym (ap (put_all old) (ap (filter_map pick) next ∙ skipped pick clause.now (now_of (drop (i + 1) clauses)) (sym none))) ∙ before

-- one more thing in a map of things, under any view
pub put_in : {X Y : Type 0} (view : X → Y) (held new after : BTreeMap (List ℕ) X) (name : List ℕ) (x : X) → after ≡ new → new.entries ≡ insert_entry byte_order held.entries name x
    → map (λ e. (e.0, view e.1)) after.entries ≡ put byte_order name (view x) (map (λ e. (e.0, view e.1)) held.entries)
put_in {X} view held new after name x same is =
    ap (λ (m : BTreeMap (List ℕ) X). map (λ e. (e.0, view e.1)) m.entries) same
    ∙ ap (λ (es : List (List ℕ × X)). map (λ e. (e.0, view e.1)) es) is ∙ put_viewed view name x held.entries

-- ---- Actions

-- these actions, with those of the clauses around them
abbrev pub round : List Clause → List Call → List Call
round clauses actions = reverse (filter_map first_in clauses) ++ actions ++ filter_map last_in clauses

put_first : {X : Type 0} (x : X) (firsts actions lasts : List X) → reverse (x ∷ firsts) ++ actions ++ lasts ≡ reverse firsts ++ (x ∷ actions) ++ lasts
put_first x firsts actions lasts = ap (λ f. f ++ actions ++ lasts) (reverse-append (x ∷ []) firsts) ∙ simp append_assoc

put_last : {X : Type 0} (x : X) (firsts actions lasts : List X) → firsts ++ actions ++ (x ∷ lasts) ≡ firsts ++ (actions ++ x ∷ []) ++ lasts
put_last x firsts actions lasts = simp append_assoc

one_more : (clause : Clause) (rest : List Clause) (actions : List Call) → round rest (with_action clause actions) ≡ round (clause ∷ rest) actions
one_more (clauses.DoFirst call) rest actions = sym (put_first call (filter_map first_in rest) actions (filter_map last_in rest))
one_more (clauses.DoLast call) rest actions = sym (put_last call (reverse (filter_map first_in rest)) actions (filter_map last_in rest))
one_more (clauses.Input a) rest actions = refl
one_more (clauses.InputFiles a) rest actions = refl
one_more (clauses.OutputFile a) rest actions = refl
one_more (clauses.OutputDir a) rest actions = refl
one_more (clauses.DependsOn a) rest actions = refl
one_more (clauses.MustRunAfter a) rest actions = refl
one_more (clauses.FinalizedBy a) rest actions = refl
one_more (clauses.OnlyIf a) rest actions = refl
one_more (clauses.UpToDateWhen a) rest actions = refl
one_more (clauses.Enabled a) rest actions = refl

-- the clauses that are left at an index
pub left_at : {C : Type 0} (clauses : List (Bor C)) (i : ℕ) (clause : Bor C) → i < length clauses → clause ≡ get_or clauses i clause
    → now_of (drop i clauses) ≡ clause.now ∷ now_of (drop (i + 1) clauses)
left_at clauses i clause within is = rw add-one (ap now_of (drop-cons clauses i clause within ∙ ap (λ c. c ∷ drop (suc i) clauses) (sym is)))

-- one more clause has been read
pub acted : (clauses : List (Bor Clause)) (i : ℕ) (clause : Bor Clause) → i < length clauses → clause ≡ get_or clauses i clause → (old new whole : List Call)
    → round (now_of (drop i clauses)) old ≡ whole → new ≡ with_action clause.now old → round (now_of (drop (i + 1) clauses)) new ≡ whole
acted clauses i clause within is old new whole before is_new =
    ap (round (now_of (drop (i + 1) clauses))) is_new ∙ one_more clause.now (now_of (drop (i + 1) clauses)) old
    ∙ sym (ap (λ cs. round cs old) (left_at clauses i clause within is)) ∙ before
