-- Calls that were made before a process was stopped, the first ones of those that it would have made: what
-- holds of all of them, from the last state back to the first.
use Rattle.std.specs.Prelude.{◌≡◌, ◌++◌, List, [], ◌∷◌, ⊤}
use Rattle.std.specs.List.{AllByRecursion}
use Rattle.std.proofs.Common.{refl, sym, ap, subst, ◌∙◌, inl, inr, append_assoc}
use Rattle.std.proofs.lemmas.List.{append-nil, append_cancel_left}
use Rattle.gb_folder.specs.Calls.{Call, IsPermitted, IsReachedBy, Permit, Requests, none, then, Device}
use Rattle.gb_logged.specs.Logged.{LogsCalls}
use Rattle.gb_answers.proofs.Kept.{IsWithin, one_grows, within_before}
use Rattle.gb_folder.specs.Device.{Leads}

-- ---- All calls but the last

-- this holds, if calls follow
abbrev pub IfFollowed : List Call → Type 0 → Type 0
IfFollowed [] A = ⊤
IfFollowed (next ∷ calls) A = A

-- this holds of all calls but the last
abbrev pub AllButLast : (Call → Type 0) → List Call → Type 0
AllButLast P [] = ⊤
AllButLast P (call ∷ calls) = IfFollowed calls (P call) × AllButLast P calls

followed : (A : Type 0) (calls : List Call) → A → IfFollowed calls A
followed A [] holds = tt
followed A (next ∷ calls) holds = holds

pub all_but_last : (P : Call → Type 0) (calls : List Call) → AllByRecursion P calls → AllButLast P calls
all_but_last P [] all = tt
all_but_last P (call ∷ calls) all = (followed (P call) calls all.0, all_but_last P calls all.1)

pub front_last : (P : Call → Type 0) (front last : List Call) → AllByRecursion P front → AllButLast P last → AllButLast P (front ++ last)
front_last P [] last all but = but
front_last P (call ∷ front) last all but = (followed (P call) (front ++ last) all.0, front_last P front last all.1 but)

-- ---- Calls that were made

none_left : (P : Call → Type 0) (before later : List Call) → [] ≡ before ++ later → AllByRecursion P later
none_left P before [] is = tt
none_left P [] (call ∷ later) is = absurd (let e = is in (cc))
none_left P (first ∷ before) (call ∷ later) is = absurd (let e = is in (cc))

module _ {F : Type 0} (device : Device F) (log : F → List Call) (keeps : LogsCalls device.allowed log)
    (P : Call → Type 0) (made unmade : List Call) where
  abbrev Within : F → Type 0
  Within state = IsWithin device log keeps made state

  -- The state is on the way to the last one, and this holds of all calls that were made from there on. If the
  -- process was stopped before, there are none.
  pub record HoldsFrom (state : F) : Type 0 where
    pub way : IsWithin device log keeps (made ++ unmade) state
    pub each : (later : List Call) → made ≡ log state ++ later → AllByRecursion P later

  pub at_last : (last : F) → log last ≡ made ++ unmade → HoldsFrom last
  at_last last cut = record {
    way = record { later = []; is = sym cut ∙ sym (append-nil (log last)) };
    each = λ later is.
        none_left P unmade later
        (append_cancel_left made [] (unmade ++ later) (append-nil made ∙ is ∙ ap (λ (calls : List Call). calls ++ later) cut ∙ append_assoc made unmade later));
  }

  pub from_first : (first : F) → log first ≡ [] → HoldsFrom first → AllByRecursion P made
  from_first first begins holds = holds.each made (sym (ap (λ (calls : List Call). calls ++ made) begins))

  -- one call before
  pub one_back : (old : F) (call : Call) (new : F) → device.allowed old call new → (Within new → P call) → HoldsFrom new → HoldsFrom old
  one_back old call new is here holds = record {
    way = within_before device log keeps (made ++ unmade) old new (one_grows device log keeps (λ (c : Call). c ≡ c) old call new is refl) holds.way;
    each = λ later made_is. elim (keeps.kept old call new is) [
      | inl more ↦ next later more made_is
      | inr lost ↦ holds.each later (made_is ∙ sym (ap (λ (calls : List Call). calls ++ later) lost.0))
    ];
  }
    where
      next : (later : List Call) → log new ≡ log old ++ call ∷ [] → made ≡ log old ++ later → AllByRecursion P later
      next [] more made_is = tt
      next (first ∷ later) more made_is =
          let both : first ∷ (later ++ unmade) ≡ call ∷ holds.way.later =
          append_cancel_left (log old) (first ∷ (later ++ unmade)) (call ∷ holds.way.later)
          (sym (append_assoc (log old) (first ∷ later) unmade) ∙ sym (ap (λ (calls : List Call). calls ++ unmade) made_is) ∙ holds.way.is
          ∙ ap (λ (calls : List Call). calls ++ holds.way.later) more ∙ append_assoc (log old) (call ∷ []) holds.way.later) in
          let same : call ≡ first = (let e = both in (cc)) in
          let from : made ≡ log new ++ later =
          made_is ∙ sym (ap (λ (c : Call). log old ++ c ∷ later) same) ∙ sym (append_assoc (log old) (call ∷ []) later) ∙ sym (ap (λ (calls : List Call). calls ++ later) more) in
          (subst P same (here (record { later = later; is = from })), holds.each later from)

  -- Calls before, that were answered: it is enough if it holds of the last one where that was made.
  pub calls_back : (old : F) (calls : List Call) (new : F) → Leads device old calls new → AllButLast P calls → (Within new → AllByRecursion P calls)
      → HoldsFrom new → HoldsFrom old
  calls_back old [] new led but all holds = subst (λ (f : F). HoldsFrom f) led holds
  calls_back old (call ∷ calls) new led but all holds =
      one_back old call led.0 led.1.allowed (λ within. first calls led.2 but.0 all within) (calls_back led.0 calls new led.2 but.1 (λ within. (all within).1) holds)
    where
      first : (rest : List Call) → Leads device led.0 rest new → IfFollowed rest (P call) → (Within new → P call × AllByRecursion P rest) → Within led.0 → P call
      first [] ends but_last every within = (every (subst (λ (f : F). Within f) (sym ends) within)).0
      first (next ∷ rest) ends but_last every within = but_last

  leads_back : (permit : Permit) → ((call : Call) → IsPermitted permit call → P call) → (old : F) {new : F} → IsReachedBy device permit old new → HoldsFrom new → HoldsFrom old
  leads_back permit each old none holds = holds
  leads_back permit each old (then {mid = mid} call new led permitted is) holds =
      leads_back permit each old led (one_back mid call new is.allowed (λ within. each call permitted) holds)

  -- requests before
  pub requests_back : (permit : Permit) → ((call : Call) → IsPermitted permit call → P call) → (old new : F) → Requests device permit old new → HoldsFrom new → HoldsFrom old
  requests_back permit each old new requests holds = leads_back permit each old (requests.calls none) holds
