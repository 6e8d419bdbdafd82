use Rattle.std.proofs.Common.{◌≡◌, ◌<◌, [], ℕ, Vec, Contains, length, map, get_or, sym, ap, subst, ◌∙◌, arith}
use Rattle.std.proofs.lemmas.List.{length-map}
use Rattle.std.proofs.lemmas.Result.{IfOk-weaker}
use Rattle.std.specs.Global.{Global}
use Rattle.gb_plan.specs.Graph.{Request, IsFirstWord}
use Rattle.gb_graph.specs.Order.{rows, row}
use Rattle.gb_graph.specs.Queue.{paths_in}
use Rattle.gb_graph.specs.Ranked.{numbers_in}
use Rattle.gb_graph.specs.Reach.{Reaches, IsFirstStart}
use Rattle.gb_graph.specs.Words.{AreDone, brought_rows}
use Rattle.gb_graph.proofs.Firsts.{table_known, starts_known, first_word}
use Rattle.gb_graph.proofs.worded.first_words.Goals as goal

pub first_starts-requires : goal.first_starts-requires
first_starts-requires c =
    let tasks = c.args.tasks.now in
    let m = c.in_ok-numbers.numbers in
    let table : rows c.as_slice.result.now ≡ brought_rows m tasks = ap rows c.as_slice.ensures.value ∙ c.in_ok-table.ensures in
    let starts : rows c.as_slice-2.result.now ≡ map (numbers_in m) c.args.lists.now = ap rows c.as_slice-2.ensures.value ∙ c.in_ok-starts.ensures in
    let long = ap length table in
    let same : length (brought_rows m tasks) ≡ length tasks = length-map tasks _ in
    let wide : length (rows c.as_slice.result.now) ≡ length c.as_slice.result.now = length-map c.as_slice.result.now (λ v. v.items) in
    record {
      tasks = λ task before h. let lt = (table_known tasks m c.in_ok-numbers.ensures task before (subst (λ t. Contains (row t task) before) table h)).1 in omega (arith, lt, long, same);
      known = λ index task h. let lt = starts_known tasks m c.in_ok-numbers.ensures c.args.lists.now index task (subst (λ t. Contains (row t index) task) starts h) in omega (arith, lt, long, same, wide);
    }

pub returns : goal.returns
returns c =
    let tasks = c.args.tasks.now in
    let lists = c.args.lists.now in
    let m = c.in_ok-numbers.numbers in
    let table : rows c.as_slice.result.now ≡ brought_rows m tasks = ap rows c.as_slice.ensures.value ∙ c.in_ok-table.ensures in
    let starts : rows c.as_slice-2.result.now ≡ map (numbers_in m) lists = ap rows c.as_slice-2.ensures.value ∙ c.in_ok-starts.ensures in
    let long = ap length table in
    let same : length (brought_rows m tasks) ≡ length tasks = length-map tasks _ in
    let wide : length (rows c.as_slice.result.now) ≡ length c.as_slice.result.now = length-map c.as_slice.result.now (λ v. v.items) in
    let long_starts = ap length starts in
    let same_starts : length (map (numbers_in m) lists) ≡ length lists = length-map lists (numbers_in m) in
    let wide_starts : length (rows c.as_slice-2.result.now) ≡ length c.as_slice-2.result.now = length-map c.as_slice-2.result.now (λ v. v.items) in
    record {
      each = IfOk-weaker c.first_starts.result (λ (v : Vec ℕ Global). length v.items ≡ length c.as_slice.result.now) (λ (v : Vec ℕ Global). length v.items ≡ length tasks) (λ v h. omega (arith, h, long, same, wide)) c.first_starts.ensures.each;
      first = IfOk-weaker c.first_starts.result
          (λ (v : Vec ℕ Global). (index task : ℕ) → index < length c.as_slice-2.result.now → Reaches (rows c.as_slice.result.now) (row (rows c.as_slice-2.result.now) index) task
          → IsFirstStart (rows c.as_slice.result.now) (rows c.as_slice-2.result.now) task (get_or v.items task 0))
          (λ (v : Vec ℕ Global). (request : Request) → AreDone request tasks lists → (k : ℕ) → k < length tasks → IsFirstWord request (get_or (paths_in tasks) k []) (get_or v.items k 0))
          (λ v h request done k lt. first_word tasks m c.in_ok-numbers.ensures request lists done v.items
          (λ index task low r.
          subst (λ t. IsFirstStart t (map (numbers_in m) lists) task (get_or v.items task 0)) table
          (subst (λ s. IsFirstStart (rows c.as_slice.result.now) s task (get_or v.items task 0)) starts
          (h index task (omega (arith, low, long_starts, same_starts, wide_starts))
          (subst (λ t. Reaches t (row (rows c.as_slice-2.result.now) index) task) (sym table) (subst (λ s. Reaches (brought_rows m tasks) (row s index) task) (sym starts) r)))))
          k lt)
          c.first_starts.ensures.first;
    }
