-- What sequences of calls request of a folder: lemmas for callers of folders.
use Rattle.std.proofs.Common.{◌≡◌, ℕ, Bool, true, List, Option, Some, None, refl, sym, ◌∙◌, arith, subst}
use Rattle.gb_folder.specs.Calls.{Call, Lists, Reads, ReadsPart, Writes, Removes, Permit, IsPermitted, IsReachedBy, none, then, Requests, Device, OnlyReads, no_change, put_at, taken_at, takes_at, changes_at}
use Rattle.gb_folder.specs.Device.{IsCalled}
use Rattle.gb_folder.proofs.Changes.{SameTearing-same, SameTearing-chain}

-- ---- one call

pub put_permitted : (place bytes : List ℕ) → put_at place bytes place (Some bytes)
unfolding put_at
put_permitted place bytes = (refl, refl)

pub taking_permitted : (place : List ℕ) → taken_at place place None
unfolding taken_at
taking_permitted place = (refl, refl)

pub one_call : {F : Type 0} {device : Device F} {permit : Permit} {old new : F} (call : Call) → IsPermitted permit call → IsCalled device old call new
    → Requests device permit old new
one_call call permitted is = record { count = is.count; tearing = is.tearing; back = is.back; calls = λ led. then call _ led permitted is }

-- one that changes nothing
pub one_read : {F : Type 0} {device : Device F} {old new : F} (call : Call) → IsPermitted no_change call → (device.faithful new → device.contents new ≡ device.contents old)
    → IsCalled device old call new → OnlyReads device old new
one_read call permitted same is = record { requests = one_call call permitted is; same = same }

-- ---- no call

pub requests_nothing : {F : Type 0} {device : Device F} {permit : Permit} (folder : F)
    → Requests device permit folder folder
requests_nothing folder = record { count = omega arith; tearing = SameTearing-same _; back = λ known. known; calls = λ led. led }

-- ---- these calls and then those

pub requests_then : {F : Type 0} {device : Device F} {permit : Permit} {old mid new : F}
    → Requests device permit old mid → Requests device permit mid new → Requests device permit old new
requests_then first second = record {
  count = omega (arith, first.count, second.count);
  tearing = SameTearing-chain _ _ _ first.tearing second.tearing;
  back = λ known. first.back (second.back known);
  calls = λ led. second.calls (first.calls led);
}

-- ---- calls that only read

pub reads_nothing : {F : Type 0} {device : Device F} (folder : F) → OnlyReads device folder folder
reads_nothing folder = record { requests = requests_nothing folder; same = λ known. refl }

pub reads_then : {F : Type 0} {device : Device F} {old mid new : F} → OnlyReads device old mid → OnlyReads device mid new → OnlyReads device old new
reads_then first second = record {
  requests = requests_then first.requests second.requests;
  same = λ known. second.same known ∙ first.same (second.requests.back known);
}

-- ---- what permits more

permitted_more : {some more : Permit} → ((place : List ℕ) (next : Option (List ℕ)) → some place next → more place next) → (call : Call)
    → IsPermitted some call → IsPermitted more call
permitted_more wider (Lists root answer) is = tt
permitted_more wider (Reads place limit answer) is = tt
permitted_more wider (ReadsPart place at len answer) is = tt
permitted_more wider (Writes place bytes limit answer) is = wider place (Some bytes) is
permitted_more wider (Removes place answer) is = wider place None is

module _ {F : Type 0} {device : Device F} where
  leads_more : {some more : Permit} {old new : F} → ((place : List ℕ) (next : Option (List ℕ)) → some place next → more place next)
      → IsReachedBy device some old new → IsReachedBy device more old new
  leads_more wider none = none
  leads_more wider (then call new led permitted is) = then call new (leads_more wider led) (permitted_more wider call permitted) is

  leads_on : {permit : Permit} {old mid new : F} → IsReachedBy device permit old mid → IsReachedBy device permit mid new → IsReachedBy device permit old new
  leads_on first none = first
  leads_on first (then call new led permitted is) = then call new (leads_on first led) permitted is

pub requests_more : {F : Type 0} {device : Device F} {some more : Permit} {old new : F}
    → ((place : List ℕ) (next : Option (List ℕ)) → some place next → more place next)
    → Requests device some old new → Requests device more old new
requests_more wider some = record { count = some.count; tearing = some.tearing; back = some.back; calls = λ led. leads_on led (leads_more wider (some.calls none)) }

-- calls that request no change fit any permission
pub requests_reading : {F : Type 0} {device : Device F} {permit : Permit} {old new : F}
    → Requests device no_change old new → Requests device permit old new
unfolding no_change
requests_reading reads = requests_more (λ place next none. absurd none) reads

-- one write, or one removal, where it is permitted
pub requests_put : {F : Type 0} {device : Device F} {permit : Permit} {old new : F}
    (place bytes : List ℕ) → permit place (Some bytes)
    → Requests device (put_at place bytes) old new → Requests device permit old new
unfolding put_at
requests_put {permit = permit} place bytes may puts =
    requests_more (λ at next is. subst (λ (n : Option (List ℕ)). permit at n) (sym is.1) (subst (λ (p : List ℕ). permit p (Some bytes)) (sym is.0) may)) puts

pub requests_taken : {F : Type 0} {device : Device F} {permit : Permit} {old new : F}
    (place : List ℕ) → permit place None
    → Requests device (taken_at place) old new → Requests device permit old new
unfolding taken_at
requests_taken {permit = permit} place may takes =
    requests_more (λ at next is. subst (λ (n : Option (List ℕ)). permit at n) (sym is.1) (subst (λ (p : List ℕ). permit p None) (sym is.0) may)) takes

-- the calls themselves
pub led : {F : Type 0} {device : Device F} {permit : Permit} {old new : F}
    → Requests device permit old new → IsReachedBy device permit old new
led requests = requests.calls none

-- ---- changes where a test holds

pub taking_is_change : (test : List ℕ → Bool) (place : List ℕ) (next : Option (List ℕ)) → takes_at test place next → changes_at test place next
unfolding takes_at changes_at
taking_is_change test place next takes = takes.0

pub change_at : (test : List ℕ → Bool) (place : List ℕ) (next : Option (List ℕ)) → test place ≡ true → changes_at test place next
unfolding changes_at
change_at test place next holds = holds

pub take_at : (test : List ℕ → Bool) (place : List ℕ) → test place ≡ true → takes_at test place None
unfolding takes_at
take_at test place holds = (holds, refl)

pub changes_more : (some more : List ℕ → Bool) → ((place : List ℕ) → some place ≡ true → more place ≡ true)
    → (place : List ℕ) (next : Option (List ℕ)) → changes_at some place next → changes_at more place next
unfolding changes_at
changes_more some more wider place next holds = wider place holds

pub takes_more : (some more : List ℕ → Bool) → ((place : List ℕ) → some place ≡ true → more place ≡ true)
    → (place : List ℕ) (next : Option (List ℕ)) → takes_at some place next → takes_at more place next
unfolding takes_at
takes_more some more wider place next takes = (wider place takes.0, takes.1)

pub requests_where : {F : Type 0} {device : Device F} {old new : F} (some more : List ℕ → Bool)
    → ((place : List ℕ) → some place ≡ true → more place ≡ true)
    → Requests device (changes_at some) old new → Requests device (changes_at more) old new
requests_where some more wider changes = requests_more (changes_more some more wider) changes

pub takes_where : {F : Type 0} {device : Device F} {old new : F} (some more : List ℕ → Bool)
    → ((place : List ℕ) → some place ≡ true → more place ≡ true)
    → Requests device (takes_at some) old new → Requests device (takes_at more) old new
takes_where some more wider takes = requests_more (takes_more some more wider) takes
