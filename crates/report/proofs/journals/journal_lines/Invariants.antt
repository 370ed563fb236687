-- The lines written so far and those of the entries that are left are those of the journal, and the
-- extensions of the entries so far have been counted.
use Rattle.std.proofs.Common.{◌≡◌, ◌++◌, take, drop}
use Rattle.report.specs.Entries.{journal_after, journal_text}
use Rattle.report.specs.Numbering.{CountsTexts}
use Rattle.report.proofs.journals.journal_lines.Given as goal

abbrev pub invariant-loop-n : goal.invariant-loop-n
invariant-loop-n l = record {
  written : l.text ++ journal_after (take l.n l.entries) (drop l.n l.entries) ≡ l.initial.text ++ journal_text l.fn.entries;
  counted : CountsTexts l.installed (take l.n l.entries);
}
