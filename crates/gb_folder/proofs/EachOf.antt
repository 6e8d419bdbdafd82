-- Items processed one after another: these items and then those, one item more, and a stop at an item.
use Rattle.std.specs.Prelude.{ℕ, ◌≡◌, ◌<◌, ◌+◌, ◌++◌, List, [], ◌∷◌, Ok, Err, length, get_or, take, drop}
use Rattle.std.proofs.Common.{refl, sym, ap, subst, ◌∙◌, append_assoc}
use Rattle.std.proofs.lemmas.List.{append-nil, at_drop_more, take-append-drop, take_more}
use Rattle.gb_folder.specs.Calls.{Call}
use Rattle.gb_folder.specs.Calls.{Device}
use Rattle.gb_folder.specs.Device.{Leads}
use Rattle.gb_folder.specs.Each.{Each, Ended, OrStops}
use Rattle.gb_folder.proofs.Leading.{leads_on}

-- what is left from an index on begins with the item at it
split_at : {X : Type 0} (xs : List X) (i : ℕ) (x : X) → i < length xs → x ≡ get_or xs i x → xs ≡ take i xs ++ x ∷ drop (i + 1) xs
split_at xs i x within is =
    sym (take-append-drop i xs)
    ∙ (at_drop_more (λ (rest : List _). take i xs ++ rest) xs i x within ∙ ap (λ y. take i xs ++ y ∷ drop (i + 1) xs) (sym is))

module _ {E X Y : Type 0} (One : X → List Call → List Y → Ended E → Type 0) where
  pub each_then : (prefix following : List X) (done last : List Call) (some more : List Y) (result : Ended E) → Each One prefix done some (Ok tt) → Each One following last more result → Each One (prefix ++ following) (done ++ last) (some ++ more) result
  each_then [] following done last some more result first next =
      subst (λ (cs : List Call). Each One following (cs ++ last) (some ++ more) result) (sym first.0) (subst (λ (ys : List Y). Each One following last (ys ++ more) result) (sym first.1) next)
  each_then (x ∷ prefix) following done last some more result first next = (
    first.0,
    first.1 ++ last,
    first.2,
    first.3 ++ more,
    first.4,
    ap (λ (cs : List Call). cs ++ last) first.5 ∙ append_assoc first.0 first.1 last,
    ap (λ (ys : List Y). ys ++ more) first.6 ∙ append_assoc first.2 first.3 more,
    first.7,
    on first.4 first.8 (λ h. each_then prefix following first.1 last first.3 more result h next),
  )
    where
      on : (t : Ended E) → OrStops t (Each One prefix first.1 first.3 (Ok tt)) first.1 first.3 (Ok tt) → (Each One prefix first.1 first.3 (Ok tt) → Each One (prefix ++ following) (first.1 ++ last) (first.3 ++ more) result)
          → OrStops t (Each One (prefix ++ following) (first.1 ++ last) (first.3 ++ more) result) (first.1 ++ last) (first.3 ++ more) result
      on (Ok d) h goes = goes h
      on (Err fault) h goes = absurd (let e = h.2 in (cc))

  module _ {F : Type 0} (device : Device F) where
    abbrev pub EachLed : List X → F → List Y → Ended E → F → Type 0
    EachLed xs old made result new = (calls : List Call) × Leads device old calls new × Each One xs calls made result

    abbrev pub OneLed : X → F → List Y → Ended E → F → Type 0
    OneLed x old made result new = (calls : List Call) × Leads device old calls new × One x calls made result

    pub each_none : (folder : F) → EachLed [] folder [] (Ok tt) folder
    each_none folder = ([], refl, (refl, refl, refl))

    module _ (xs : List X) (i : ℕ) (x : X) (within : i < length xs) (is : x ≡ get_or xs i x) (old mid new : F) (some more : List Y) where
      pub each_more : EachLed (take i xs) old some (Ok tt) mid → OneLed x mid more (Ok tt) new → EachLed (take (i + 1) xs) old (some ++ more) (Ok tt) new
      each_more first one =
          subst (λ (ys : List X). EachLed ys old (some ++ more) (Ok tt) new) (ap (λ (y : X). take i xs ++ y ∷ []) is ∙ sym (take_more xs i x within)) (
            first.0 ++ one.0,
            leads_on device old mid new first.0 one.0 first.1 one.1,
            each_then (take i xs) (x ∷ []) first.0 one.0 some more (Ok tt) first.2
                (one.0, [], more, [], Ok tt, sym (append-nil one.0), sym (append-nil more), one.2, (refl, refl, refl)),
          )

      pub each_short : (fault : E) → EachLed (take i xs) old some (Ok tt) mid → OneLed x mid more (Err fault) new → EachLed xs old (some ++ more) (Err fault) new
      each_short fault first one =
          subst (λ (ys : List X). EachLed ys old (some ++ more) (Err fault) new) (sym (split_at xs i x within is)) (
            first.0 ++ one.0,
            leads_on device old mid new first.0 one.0 first.1 one.1,
            each_then (take i xs) (x ∷ drop (i + 1) xs) first.0 one.0 some more (Err fault) first.2
                (one.0, [], more, [], Err fault, sym (append-nil one.0), sym (append-nil more), one.2, (refl, refl, refl)),
          )
