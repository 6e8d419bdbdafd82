-- Texts printed one after another.
use Rattle.std.proofs.Common.{◌≡◌, ◌++◌, ℕ, Bool, true, false, List, [], refl, sym, ap, ◌∙◌, append_assoc, append-nil, subst}
use Rattle.std.specs.Prelude.{Option}
use Rattle.std.specs.Io.KnownBytes.{Appends, Keeps}
use Rattle.std.proofs.KnownBytes.{Appends-kept, Appends-nil, Appends-trans}
use Rattle.gb_printer.specs.Printing.{Prints}

differ : false ≡ true → ⊥
differ e = cc

module _ {P : Type 0} (contents : P → Option (List ℕ)) (whole : P → Bool) where
  -- an empty text prints nothing
  pub prints_nothing : (p : P) → Prints contents whole [] p p
  prints_nothing p = record {
    done = [];
    left = [];
    begins = refl;
    appends = Appends-nil (contents p);
    all = λ e. (e, refl);
    no_more = λ _. refl;
  }

  -- nothing is printed of a text that is given up
  pub prints_none : (text : List ℕ) (old new : P) → Keeps (contents old) (contents new) → whole new ≡ false → Prints contents whole text old new
  prints_none text old new kept broken = record {
    done = [];
    left = text;
    begins = refl;
    appends = Appends-kept (contents old) (contents old) (contents new) [] (Appends-nil (contents old)) kept;
    all = λ h. absurd (differ (sym broken ∙ h));
    no_more = λ _. refl;
  }

  -- buffered text is flushed, or cannot be
  pub prints_flushed : (text : List ℕ) (old mid new : P) → Prints contents whole text old mid → Keeps (contents mid) (contents new) → (whole new ≡ true → whole mid ≡ true) → Prints contents whole text old new
  prints_flushed text old mid new a kept whole_before = record {
    done = a.done;
    left = a.left;
    begins = a.begins;
    appends = Appends-kept (contents old) (contents mid) (contents new) a.done a.appends kept;
    all = λ h. a.all (whole_before h);
    no_more = a.no_more;
  }

  -- a beginning of the first text, and nothing of the second
  stopped : (first later d l e r : List ℕ) → first ≡ d ++ l → e ≡ [] → first ++ later ≡ (d ++ e) ++ (l ++ later)
  stopped first later d l e r is none =
      ap (λ (t : List ℕ). t ++ later) is ∙ append_assoc d l later
      ∙ ap (λ (t : List ℕ). t ++ (l ++ later)) (sym (append-nil d) ∙ ap (λ (t : List ℕ). d ++ t) (sym none))

  -- the first text, and a beginning of the second
  went_on : (first later d l e r : List ℕ) → first ≡ d ++ l → l ≡ [] → later ≡ e ++ r → first ++ later ≡ (d ++ e) ++ r
  went_on first later d l e r is none then =
      ap (λ (t : List ℕ). t ++ later) (is ∙ ap (λ (t : List ℕ). d ++ t) none ∙ append-nil d)
      ∙ ap (λ (t : List ℕ). d ++ t) then ∙ sym (append_assoc d e r)

  -- a text and then another are both, one after the other
  pub prints_more : (first later : List ℕ) (old mid new : P) → Prints contents whole first old mid → Prints contents whole later mid new → Prints contents whole (first ++ later) old new
  prints_more first later old mid new a b =
      let both = Appends-trans (contents old) (contents mid) (contents new) a.done b.done a.appends b.appends in
      elim (whole mid) as (λ (v : Bool). whole mid ≡ v → Prints contents whole (first ++ later) old new) [
        | true ↦ λ e. record {
          done = a.done ++ b.done;
          left = b.left;
          begins = went_on first later a.done a.left b.done b.left a.begins (a.all e).1 b.begins;
          appends = both;
          all = λ h. ((a.all e).0, (b.all h).1);
          no_more = λ h. absurd (differ (sym h ∙ (a.all e).0));
        }
        | false ↦ λ e. record {
          done = a.done ++ b.done;
          left = a.left ++ later;
          begins = stopped first later a.done a.left b.done b.left a.begins (b.no_more e);
          appends = both;
          all = λ h. absurd (differ (sym e ∙ (b.all h).0));
          no_more = λ h. ap (λ (t : List ℕ). t ++ b.done) (a.no_more h) ∙ b.no_more e;
        }
      ] refl

  -- if everything that was given is printed, all of the text is
  pub all_printed : (text : List ℕ) (old new : P) → Prints contents whole text old new → whole new ≡ true → Appends (contents old) (contents new) text
  all_printed text old new a e =
      subst (λ (t : List ℕ). Appends (contents old) (contents new) t)
      (sym (a.begins ∙ ap (λ (t : List ℕ). a.done ++ t) (a.all e).1 ∙ append-nil a.done)) a.appends
