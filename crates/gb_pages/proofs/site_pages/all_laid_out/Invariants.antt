use Rattle.std.proofs.Common.{◌≡◌, [], None, length, unwrap_or}
use Rattle.std.specs.Option.{option_copied}
use Rattle.gb_with.specs.Renamed.{following}
use Rattle.gb_pages.specs.Layouts.{all_laid_out}
use Rattle.gb_pages.proofs.site_pages.all_laid_out.Given as goal

abbrev pub invariant-loop-path : goal.invariant-loop-path
invariant-loop-path l =
    following l.made.items
    (all_laid_out l.at l.layout (unwrap_or (option_copied l.texts) []) (option_copied l.before) l.rest)
    ≡ all_laid_out l.at l.layout (unwrap_or (option_copied l.texts) []) None l.files

abbrev pub decreases-loop-path : goal.decreases-loop-path
decreases-loop-path l = length l.rest
