-- The text of a whole play, over a sound book.
use Rattle.std.specs.Prelude.{fold, map}
use Rattle.std.proofs.Common.{◌≡◌, ℕ, true, List, [], ◌++◌, ◌∷◌, ap, sym, refl, ◌∙◌, subst, append_assoc, append-nil}
use Rattle.std.proofs.lemmas.List.Sums.{fold-append}
use Rattle.book.proofs.Soundness.{sound-legal}
use Rattle.book.proofs.Verdicts.{legal-killed-are-spent}
use Rattle.journal.specs.declared.entry.Entry.{Entry}
use Rattle.journal.specs.Legal.{Legal}
use Rattle.book.specs.Standing.{BookValue, IsSound, StandsFor}
use Rattle.report.specs.Lines.{answer_text}
use Rattle.report.specs.Entries.{journal_text}
use Rattle.sched_text.specs.declared.script.Script.{Script}
use Rattle.sim.specs.declared.sim.Sim.{Sim}
use Rattle.sim.specs.Play.{Answer, Plays, in_drain, opened}
use Rattle.sim.specs.Standing.{StandsAt}
use Rattle.sim.specs.State.{SimState}
use Rattle.sim.proofs.Conflicts.{plays-moved}
use Rattle.sim.proofs.Judging.{judged-once}
use Rattle.sim.proofs.Playing.{one-play}
use Rattle.splinter.specs.Playing.{TellsBody, TellsDrain, TellsPlay}
use Rattle.splinter.specs.Running.{IsPlayOf, answers_text}
use Rattle.splinter.proofs.Granting.{drains-grants, follows-grants}

-- a book under audit with a script's grants is sound with them
audited : (script : Script) (book : BookValue) (journal : List Entry) → StandsFor book journal → book.grants ≡ script.head.rights
    → book.audit ≡ true → IsSound script.head.rights book.limit true journal
audited script book journal stands grants audit =
    subst (λ granted. IsSound granted book.limit true journal) grants
    (subst (λ test. IsSound book.grants book.limit test journal) audit stands.sound)

pub play-of : {Listener : Type 0} (hear : Listener → Answer → Listener) (script : Script) (between last : Sim) (before middle end : Listener)
    → TellsBody hear (opened script.head) between script.events before middle
    → ((state : SimState) → StandsAt between state → TellsDrain hear state last middle end)
    → TellsPlay hear script last before end
play-of {Listener = Listener} hear script between last before middle end body drain =
    let drained = drain body.state body.at in
    let state : SimState = drained.state in
    let granted : state.grants ≡ script.head.rights = drains-grants drained.drains ∙ follows-grants body.follows in
    let now = audited script last.book state.journal drained.at.book (drained.at.grants ∙ granted) drained.at.audit in
    let legal : Legal script.head.rights state.journal = sound-legal now in
    let answers : List Answer = body.answers ++ map in_drain drained.lines in
    let plays : Plays script answers state.journal = record {
      body = body.answers;
      drained = drained.lines;
      between = body.state;
      after = state;
      follows = body.follows;
      drains = drained.drains;
      answers_are = refl;
      journal_is = refl;
    } in
    record {
      answers = answers;
      state = state;
      at = drained.at;
      play = record {
        plays = plays;
        alone = λ others another other. one-play judged-once script others answers another state.journal other plays;
        legal = legal;
        in_order = now.in_order;
        within = now.within;
        conflicts = plays-moved script answers state.journal plays;
        killed = legal-killed-are-spent script.head.rights state.journal legal;
      };
      heard = drained.heard ∙ ap (λ (listener : Listener). fold hear listener (map in_drain drained.lines)) body.heard
          ∙ sym (fold-append hear before body.answers (map in_drain drained.lines));
    }

-- a text that heard answers has their lines
abbrev pub with_line : List ℕ → Answer → List ℕ
with_line text answer = text ++ answer_text answer.0 answer.1

lines-heard : (text : List ℕ) (answers : List Answer) → fold with_line text answers ≡ text ++ answers_text answers
lines-heard text [] = sym (append-nil text)
lines-heard text (answer ∷ answers) =
    lines-heard (with_line text answer) answers ∙ append_assoc text (answer_text answer.0 answer.1) (answers_text answers)

-- the answers of a play that was heard, and then the journal of its book
pub text-of : (script : Script) (last : Sim) (book : BookValue) (entries : List Entry) (end text : List ℕ) → TellsPlay with_line script last [] end
    → ((state : SimState) → StandsAt last state → StandsFor book state.journal) → StandsFor book entries → text ≡ end ++ journal_text entries → IsPlayOf script text
text-of script last book entries end text told stands shown text_is =
    let state : SimState = told.state in
    let entries_are : entries ≡ state.journal = sym shown.is ∙ (stands state told.at).is in
    record {
      answers = told.answers;
      journal = state.journal;
      play = told.play;
      text_is = text_is ∙ ap (λ (those : List Entry). end ++ journal_text those) entries_are
          ∙ ap (λ (front : List ℕ). front ++ journal_text state.journal) (told.heard ∙ lines-heard [] told.answers);
    }
