-- Listeners are notified one after another, and of one thing after another.
use Rattle.std.proofs.Common.{◌≡◌, ◌<◌, ◌+◌, ℕ, Bool, true, false, ◌&&◌, List, [], ◌∷◌, ◌++◌, length, take, drop, get_or, ap, sym, subst, ◌∙◌, inl, inr, arith, refl, append-nil}
use Rattle.std.specs.List.{AllZip}
use Rattle.std.proofs.lemmas.Bool.{cases_Bool, false≢true}
use Rattle.std.proofs.lemmas.List.{length-append, take_more, take_more_set, drop-set-lt, drop_more}
use Rattle.std.proofs.Math.ListN.{set}
use Rattle.std.proofs.lemmas.List.Elements.{AllZip-push}
use Rattle.gb_report.specs.declared.report.Heard.{Heard}
use Rattle.gb_semantics.specs.Headline.{Ear, HearsAll, HearsSome, counted}
use Rattle.gb_exec.specs.Notifying.{AllReported, Refuses}
use Rattle.gb_exec.proofs.Counts.{counted_none}
use Rattle.gb_exec.proofs.ByNumber.{both_true}

-- a pair more is a pair at the end
unpush : {X : Type 0} (R : X → X → Type 0) (xs ys : List X) (x y : X) → length xs ≡ length ys → AllZip R (xs ++ x ∷ []) (ys ++ y ∷ []) → AllZip R xs ys × R x y
unpush R [] [] x y same h = (tt, h.0)
unpush R [] (v ∷ ys) x y same h = absurd (omega (arith, same))
unpush R (u ∷ xs) [] x y same h = absurd (omega (arith, same))
unpush R (u ∷ xs) (v ∷ ys) x y same h = let rest = unpush R xs ys x y (omega (arith, same)) h.1 in ((h.0, rest.0), rest.1)

zip_long : {X : Type 0} (R : X → X → Type 0) (xs ys : List X) → AllZip R xs ys → length xs ≡ length ys
zip_long R [] [] h = refl
zip_long R [] (y ∷ ys) h = absurd h
zip_long R (x ∷ xs) [] h = absurd h
zip_long R (x ∷ xs) (y ∷ ys) h = let rest = zip_long R xs ys h.1 in omega (arith, rest)

both_of : (a b : Bool) → (a && b) ≡ true → (a ≡ true) × (b ≡ true)
both_of true b e = (refl, e)
both_of false b e = absurd (false≢true e)

-- ---- One listener more

-- a listener that refuses has not got the notification
refused_not_heard : (reported : Heard) (old new : Ear) → Refuses old new → HearsAll (reported ∷ []) old new → ⊥
refused_not_heard reported old new refuses heard =
    let longer = ap (λ (ear : Ear). length ear.0) (sym refuses ∙ heard) in
    let one = length-append old.0 (reported ∷ []) in
    omega (arith, longer, one)

one_reported : (reported : Heard) (r : Bool) (old new : Ear) → (r ≡ true → HearsAll (reported ∷ []) old new) → (r ≡ false → Refuses old new) → HearsSome (reported ∷ []) old new
one_reported reported r old new heard refused = elim (cases_Bool r) [
  | inl is ↦ (true ∷ [], refl, heard is ∙ ap (λ n. (old.0 ++ reported ∷ [], n)) (sym (counted_none old.1)))
  | inr is ↦ (false ∷ [], refl, refused is ∙ ap (λ xs. (xs, counted old.1 1)) (sym (append-nil old.0)))
]

pub one_more : (reported : Heard) (all r : Bool) (olds news : List Ear) (old new : Ear) → AllReported (reported ∷ []) all olds news
    → (r ≡ true → HearsAll (reported ∷ []) old new) → (r ≡ false → Refuses old new)
    → AllReported (reported ∷ []) (all && r) (olds ++ old ∷ []) (news ++ new ∷ [])
one_more reported all r olds news old new before heard refused = record {
  each = AllZip-push (HearsSome (reported ∷ [])) olds news old new before.each (one_reported reported r old new heard refused);
  whole = (
    λ h. let is = both_of all r h in AllZip-push (HearsAll (reported ∷ [])) olds news old new (before.whole.0 is.0) (heard is.1),
    λ h.
        let parts = unpush (HearsAll (reported ∷ [])) olds news old new (zip_long (HearsSome (reported ∷ [])) olds news before.each) h in
        both_true all r (before.whole.1 parts.0) (elim (cases_Bool r) [ inl is ↦ is | inr is_not ↦ absurd (refused_not_heard reported old new (refused is_not) parts.1) ]),
  );
}

pub none_yet : (reported : Heard) → AllReported (reported ∷ []) true [] []
none_yet reported = record { each = tt; whole = (λ _. tt, λ _. refl) }

-- the listener at an index, where those before it were notified
pub step : (reported : Heard) (all r : Bool) (olds news : List Ear) (at : ℕ) (old new : Ear) → at < length news → length olds ≡ length news → get_or news at old ≡ old
    → AllReported (reported ∷ []) all (take at olds) (take at news) → drop at news ≡ drop at olds
    → (r ≡ true → HearsAll (reported ∷ []) old new) → (r ≡ false → Refuses old new)
    → AllReported (reported ∷ []) (all && r) (take (at + 1) olds) (take (at + 1) (set news at new)) × (drop (at + 1) (set news at new) ≡ drop (at + 1) olds)
step reported all r olds news at old new less same here before rest heard refused =
    let parts : old ∷ drop (at + 1) news ≡ get_or olds at old ∷ drop (at + 1) olds =
    sym (drop_more news at old less ∙ ap (λ e. e ∷ drop (at + 1) news) here) ∙ rest ∙ drop_more olds at old (omega (arith, less, same)) in
    let first : get_or olds at old ≡ old = sym (ap (λ es. get_or es 0 old) parts) in (
      subst (λ es. AllReported (reported ∷ []) (all && r) es (take (at + 1) (set news at new)))
          (sym (take_more olds at old (omega (arith, less, same)) ∙ ap (λ e. take at olds ++ e ∷ []) first))
          (subst (AllReported (reported ∷ []) (all && r) (take at olds ++ old ∷ [])) (sym (take_more_set news at new less))
          (one_more reported all r (take at olds) (take at news) old new before heard refused)),
      drop-set-lt (at + 1) news at new (omega arith) ∙ ap (drop 1) parts,
    )
