use Rattle.std.proofs.Common.{Err, Ok, subst, ◌∙◌, inl, inr}
use Rattle.gb_core.specs.Place.{is_place}
use Rattle.gb_folder.specs.Files.{Contents}
use Rattle.gb_script.specs.Script.{HasMeaning}
use Rattle.gb_folder.proofs.Machine.{machine_before}
use Rattle.gb_build.proofs.RowLemmas.{first_fault, long_more, parsed_more, passes_at, text_more}
use Rattle.gb_build.proofs.SaidLemmas.{handed}
use Rattle.gb_build.specs.Scripts.{script_place}
use Rattle.gb_build.specs.Texts.{TextMeans}
use Rattle.gb_folder.proofs.Asked.{requests_nothing, requests_then}
use Rattle.gb_build.proofs.Parsed.{all_parsed_longer, parsed_longer}
use Rattle.gb_build.proofs.each_script.read_scripts.Goals as goal

pub read_script_of-requires : goal.read_script_of-requires
read_script_of-requires g c = record {
  place = passes_at is_place c.args.projects.now c.loop-project.project-index c.project-item.result c.loop-project-test.true c.project-item.is c.requires.places;
}

pub loop-project-preserved : goal.loop-project-preserved
loop-project-preserved g c =
    let F = g.F.Folder in
    let project = c.project-item.result in
    record {
      requests = requests_then c.loop-project.invariant.requests c.read_script_of.ensures.reads.requests;
      back = λ known. c.loop-project.invariant.back (c.read_script_of.ensures.reads.requests.back known);
      same = λ faithful. c.read_script_of.ensures.reads.same faithful ∙ c.loop-project.invariant.same (c.read_script_of.ensures.reads.requests.back faithful);
      one_each = long_more c.loop-project.scripts.items _ c.in_ok-read_script_of.field-0 c.loop-project.project-index c.in_ok-push.ensures.items c.loop-project.invariant.one_each;
      parsed =
          parsed_more c.args.projects.now c.loop-project.project-index project c.loop-project.scripts.items _ c.in_ok-read_script_of.field-0
          c.loop-project-test.true c.project-item.is
          (all_parsed_longer (requests_nothing c.args.folder.now) c.read_script_of.ensures.reads.requests _ c.loop-project.scripts.items c.loop-project.invariant.parsed)
          (parsed_longer HasMeaning c.loop-project.invariant.requests (requests_nothing c.read_script_of.new.folder) (script_place project.1) c.in_ok-read_script_of.field-0 c.in_ok-read_script_of.ensures.parsed)
          c.in_ok-push.ensures.items;
      texts = λ faithful.
          text_more (F.device.contents c.args.folder.now).files c.args.projects.now c.loop-project.project-index project c.loop-project.scripts.items _ c.in_ok-read_script_of.field-0
          c.loop-project-test.true c.project-item.is (c.loop-project.invariant.texts (c.read_script_of.ensures.reads.requests.back faithful))
          (subst (λ (folder : Contents). TextMeans HasMeaning folder.files (script_place project.1) (Ok c.in_ok-read_script_of.field-0)) (c.loop-project.invariant.same (c.read_script_of.ensures.reads.requests.back faithful)) (c.in_ok-read_script_of.ensures.said faithful))
          c.in_ok-push.ensures.items;
    }

pub returns-in_err-read_script_of-clause-said : goal.returns-in_err-read_script_of-clause-said
returns-in_err-read_script_of-clause-said g c = λ faithful.
    let F = g.F.Folder in
    let project = c.project-item.result in
    let fault = c.in_err-read_script_of.field-0.0 in
    handed _ _ c.from_residual.result fault c.from_residual.ensures.1
    (elim (c.in_err-read_script_of.ensures.said faithful) [
      | inl machine ↦ inl (machine_before _ _ _ fault c.loop-project.invariant.requests.count c.read_script_of.ensures.reads.requests.count machine)
      | inr bad ↦ inr (first_fault (F.device.contents c.args.folder.now).files c.args.projects.now c.loop-project.project-index project c.loop-project.scripts.items fault
          c.loop-project-test.true c.project-item.is (c.loop-project.invariant.texts (c.read_script_of.ensures.reads.requests.back faithful))
          (subst (λ (folder : Contents). TextMeans HasMeaning folder.files (script_place project.1) (Err fault)) (c.loop-project.invariant.same (c.read_script_of.ensures.reads.requests.back faithful)) bad))
    ])
