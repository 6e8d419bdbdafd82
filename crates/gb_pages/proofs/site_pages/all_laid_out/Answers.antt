use Rattle.std.proofs.Common.{◌≡◌, ◌++◌, ℕ, List, [], ◌∷◌, Option, None, Some, Result, Ok, Err, unwrap_or}
use Rattle.std.proofs.Common.{append_assoc, refl, sym, ap, ◌∙◌}
use Rattle.std.specs.Option.{option_copied}
use Rattle.gb_action.specs.Files.{Tree}
use Rattle.gb_with.specs.Renamed.{following, onto}
use Rattle.gb_pages.specs.Layouts.{all_laid_out, laid_out_between}
use Rattle.gb_pages.proofs.site_pages.all_laid_out.Goals as goal

taken : (made : Tree) (new : List ℕ × List ℕ) (rest : Result Tree (List ℕ))
    → following (made ++ new ∷ []) rest ≡ following made (onto (Ok new) rest)
taken made new (Err text) = refl
taken made new (Ok files) = ap Ok (append_assoc made (new ∷ []) files)

step : (at layout : List ℕ) (texts : Tree) (before : Option (List ℕ)) (file : List ℕ × List ℕ) (others : Tree)
    (new : List ℕ × List ℕ) (made more rest : Tree) (all : Result Tree (List ℕ)) → rest ≡ file ∷ others
    → laid_out_between at layout texts before file.0 file.1 others ≡ Ok new → more ≡ made ++ new ∷ []
    → following made (all_laid_out at layout texts before rest) ≡ all
    → following more (all_laid_out at layout texts (Some file.0) others) ≡ all
step at layout texts before file others new made more rest all split one pushed held =
    ap (λ m. following m (all_laid_out at layout texts (Some file.0) others)) pushed
    ∙ taken made new (all_laid_out at layout texts (Some file.0) others)
    ∙ ap (λ o. following made (onto o (all_laid_out at layout texts (Some file.0) others))) (sym one)
    ∙ sym (ap (λ r. following made (all_laid_out at layout texts before r)) split)
    ∙ held

pub loop-path-preserved : goal.loop-path-preserved
loop-path-preserved c =
    let read = unwrap_or (option_copied c.args.texts) [] in
    step c.args.at.now c.args.layout.now read (option_copied c.loop-path.before) c.in-Some.field-0-0.now
    c.in-Some.others.now c.in_ok-file.file c.loop-path.made.items c.push.new.self.items c.loop-path.rest.now
    (all_laid_out c.args.at.now c.args.layout.now read None c.args.files.now)
    c.in-Some.ensures.cases.0 c.in_ok-file.ensures c.in_ok-push.ensures.items c.loop-path.invariant
