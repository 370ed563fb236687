-- What a drill counts, over all its answers.
use Rattle.std.specs.Prelude.{cond, fold}
use Rattle.std.proofs.Common.{◌≡◌, ℕ, ◌+◌, Bool, true, false, List, [], ◌∷◌, length, ap, ◌∙◌, refl, arith}
use Rattle.load_gen.specs.Drill.{drill_script}
use Rattle.book.specs.Standing.{BookValue, StandsFor}
use Rattle.journal.specs.declared.entry.Entry.{Entry}
use Rattle.report.specs.declared.counts.Counts.{Counts}
use Rattle.report.specs.declared.line.Line.{Line}
use Rattle.sim.specs.declared.sim.Sim.{Sim}
use Rattle.sim.specs.Play.{Answer}
use Rattle.sim.specs.Standing.{StandsAt}
use Rattle.sim.specs.State.{SimState}
use Rattle.splinter.specs.Drilling.{CountsDrill, counted, one_if, tells_commit, tells_conflict, tells_push}
use Rattle.splinter.specs.Playing.{TellsPlay}

-- one more, as a sum
one-more : (so : Bool) (count : ℕ) → one_if so count ≡ count + cond so 1 0
one-more true count = refl
one-more false count = omega arith

abbrev pub heard : Counts → Answer → Counts
heard counts answer = counted counts answer.1

-- how many answers are so, and this many before them
abbrev count_from : (Line → Bool) → ℕ → List Answer → ℕ
count_from so count answers = fold (λ (sum : ℕ) (answer : Answer). sum + cond (so answer.1) 1 0) count answers

-- counts with these three numbers
abbrev with_numbers : Counts → ℕ → ℕ → ℕ → Counts
with_numbers before committed conflict pushed =
    record before { committed = committed; conflict = conflict; pushed = pushed }

-- the counts behind those that were there
abbrev counts_behind : Counts → List Answer → Counts
counts_behind before answers =
    with_numbers before (count_from tells_commit before.committed answers) (count_from tells_conflict before.conflict answers)
    (count_from tells_push before.pushed answers)

counts-heard : (before : Counts) (answers : List Answer) → fold heard before answers ≡ counts_behind before answers
counts-heard before [] = refl
counts-heard before (answer ∷ answers) =
    let rest : fold heard before (answer ∷ answers) ≡ counts_behind (heard before answer) answers = counts-heard (heard before answer) answers in
    let committed : count_from tells_commit (one_if (tells_commit answer.1) before.committed) answers ≡ count_from tells_commit before.committed (answer ∷ answers) =
    ap (λ (count : ℕ). count_from tells_commit count answers) (one-more (tells_commit answer.1) before.committed) in
    let conflict : count_from tells_conflict (one_if (tells_conflict answer.1) before.conflict) answers ≡ count_from tells_conflict before.conflict (answer ∷ answers) =
    ap (λ (count : ℕ). count_from tells_conflict count answers) (one-more (tells_conflict answer.1) before.conflict) in
    let pushed : count_from tells_push (one_if (tells_push answer.1) before.pushed) answers ≡ count_from tells_push before.pushed (answer ∷ answers) =
    ap (λ (count : ℕ). count_from tells_push count answers) (one-more (tells_push answer.1) before.pushed) in
    let more : counts_behind (heard before answer) answers ≡ counts_behind before (answer ∷ answers) =
    λ i. with_numbers before (committed i) (conflict i) (pushed i) in
    rest ∙ more

-- nothing is counted yet of a drill with so many calls
abbrev pub none_counted : ℕ → Counts
none_counted calls = record { calls = calls; committed = 0; conflict = 0; pushed = 0; journal = 0 }

pub drill-counted : (count seed : ℕ) (last : Sim) (book : BookValue) (end : Counts) (entries : ℕ) → TellsPlay heard (drill_script count seed) last (none_counted count) end
    → ((state : SimState) → StandsAt last state → StandsFor book state.journal)
    → ((journal : List Entry) → StandsFor book journal → entries ≡ length journal) → CountsDrill count seed (record end { journal = entries })
drill-counted count seed last book end entries told stands sized =
    let with_journal : Counts → ℕ → Counts = λ counts journal. record counts { journal = journal } in record {
      answers = told.answers;
      journal = told.state.journal;
      play = told.play;
      counts_are = ap (λ (size : ℕ). with_journal end size) (sized told.state.journal (stands told.state told.at))
          ∙ ap (λ (counts : Counts). with_journal counts (length told.state.journal)) (told.heard ∙ counts-heard (none_counted count) told.answers);
    }
