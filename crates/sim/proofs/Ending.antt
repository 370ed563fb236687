-- A call that has ended: what is told of it, and what the book then stands for.
use Rattle.std.proofs.Common.{◌≡◌, ◌≢◌, ◌⊎◌, ℕ, false, List, inl, inr, ap, ◌∙◌, subst}
use Rattle.sp_base.specs.declared.calls.Call.{Call}
use Rattle.sp_base.specs.declared.outcomes.Outcome.{Outcome}
use Rattle.sp_base.specs.declared.reads.ReadItem.{ReadItem}
use Rattle.sp_base.specs.declared.writes.Write.{Write}
use Rattle.journal.specs.declared.entry.Entry.{Entry}
use Rattle.book.specs.declared.answers.Commit.{Commit}
use Rattle.book.specs.declared.answers.Commit.TheVariants as commit
use Rattle.book.specs.Standing.{BookValue, StandsFor}
use Rattle.journal.specs.declared.entry.Home.{Home}
use Rattle.book.specs.Verdict.{after_commit, entry_at, verdict}
use Rattle.report.specs.declared.line.Line.TheVariants as line
use Rattle.report.specs.declared.line.Said.{Said}
use Rattle.sim.specs.Play.{commit_said, of_call}

-- the verdict on a run with the parts of the call that has ended
pub judged : (home : Home) (limit : ℕ) (journal : List Entry) (mine call : Call) (own reads : List ReadItem) (outcome : Outcome) (writes : List Write) (given : Commit)
    → mine ≡ call → own ≡ reads → given ≢ commit.Memory
    → (given ≡ commit.Memory) ⊎ (given ≡ verdict limit journal mine (entry_at home mine outcome writes own) outcome own)
    → given ≡ verdict limit journal call (entry_at home call outcome writes reads) outcome reads
judged home limit journal mine call own reads outcome writes given called read some (inl memory) = absurd (some memory)
judged home limit journal mine call own reads outcome writes given called read some (inr is) =
    is ∙ ap (λ (c : Call). verdict limit journal c (entry_at home c outcome writes own) outcome own) called
    ∙ ap (λ (r : List ReadItem). verdict limit journal call (entry_at home call outcome writes r) outcome r) read

pub end-said : (mine call : Call) (given judgement : Commit) (what : Said) → mine ≡ call → given ≡ judgement → what ≡ commit_said given
    → line.Of mine.caller mine.number what false ≡ of_call call (commit_said judgement)
end-said mine call given judgement what called is said =
    ap (λ (c : Call). of_call c what) called ∙ ap (λ (s : Said). of_call call s) (said ∙ ap commit_said is)

pub end-book : (home : Home) (after : BookValue) (journal : List Entry) (mine call : Call) (own reads : List ReadItem) (outcome : Outcome) (writes : List Write) (given judgement : Commit)
    → mine ≡ call → own ≡ reads → given ≡ judgement
    → StandsFor after (after_commit given journal (entry_at home mine outcome writes own))
    → StandsFor after (after_commit judgement journal (entry_at home call outcome writes reads))
end-book home after journal mine call own reads outcome writes given judgement called read is stands =
    subst (StandsFor after)
    (ap (λ (g : Commit). after_commit g journal (entry_at home mine outcome writes own)) is
    ∙ ap (λ (c : Call). after_commit judgement journal (entry_at home c outcome writes own)) called
    ∙ ap (λ (r : List ReadItem). after_commit judgement journal (entry_at home call outcome writes r)) read) stands
