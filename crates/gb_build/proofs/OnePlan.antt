-- The scripts of a folder and what is requested of them determine one plan.
use Rattle.std.specs.Prelude.{◌≡◌, Result, Ok}
use Rattle.std.proofs.Common.{sym, ap, subst, ◌∙◌}
use Rattle.gb_declare.specs.Registered.{registry_said}
use Rattle.gb_folder.specs.Files.{Tearing}
use Rattle.gb_semantics.specs.Kinds.{Kinds}
use Rattle.gb_semantics.specs.Pinned.{HaveOnePlan}
use Rattle.gb_plan.specs.Graph.{IsPlan, Registry, Request}
use Rattle.gb_plan.specs.Refusal.{request_of}
use Rattle.gb_plan.proofs.Same.{plans_are_one}
use Rattle.gb_registry.specs.Source.{Source}
use Rattle.gb_registry.specs.Tables.{Tables}
use Rattle.gb_report.specs.declared.fault.Fault.{Fault}
use Rattle.gb_build.specs.Registering.{setting_of}
use Rattle.gb_build.proofs.OneLemmas.{folders_one}

same_source : (one other : Source) → ◌≡◌ {A = Result Source Fault} (Ok one) (Ok other) → one ≡ other
same_source one other same = let e = same in (cc)

same_request : (one other : Request) → ◌≡◌ {A = Result Request Fault} (Ok one) (Ok other) → one ≡ other
same_request one other same = let e = same in (cc)

module _ {M F Z S A : Type 0} (tables : Tables M F Z S A) (kinds : Kinds) (may_leave : Tearing) where
  pub one_plan : HaveOnePlan (setting_of tables kinds may_leave)
  one_plan folder invocation one other first second =
      let source = same_source first.scripts.0 second.scripts.0 (folders_one tables folder.files invocation.properties (Ok first.scripts.0) (Ok second.scripts.0) first.scripts.1 second.scripts.1) in
      let registry : first.registry ≡ second.registry = first.scripts.2 ∙ (ap (registry_said tables) source ∙ sym second.scripts.2) in
      let request = same_request first.request second.request (sym first.asked ∙ (ap (λ (r : Registry). request_of r invocation.requested invocation.excluded) registry ∙ second.asked)) in
      plans_are_one second.request one other (subst (λ (r : Request). IsPlan r one) request first.planned) second.planned
