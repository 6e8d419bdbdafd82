use Rattle.std.proofs.Common.{sym, ◌∙◌}
use Rattle.gb_check.proofs.Silence.{silence}
use Rattle.gb_check.proofs.find.find_faults.Goals as goal

pub returns-clause-faults : goal.returns-clause-faults
returns-clause-faults g c =
    let words = c.in_ok-found.ensures.found in
    let in_words = c.in_ok-found.found.items in
    let in_tasks = c.in_ok-of_tasks.of_tasks.items in
    record {
      in_words = in_words;
      of_words = words;
      in_tasks = in_tasks;
      of_tasks = c.in_ok-of_tasks.ensures.found;
      both = c.in_ok-append.ensures.items;
      silent = λ none. silence c.args.sites.now c.args.marks.now (g.Ts.Tasks.registry c.args.tasks.now) in_words in_tasks words.0 words.2 c.in_ok-of_tasks.ensures.found (sym c.in_ok-append.ensures.items ∙ none);
    }
