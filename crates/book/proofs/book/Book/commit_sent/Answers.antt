-- A run that its client sent may join each journal for which the book stands.
use Rattle.book.proofs.Joining.{sent-joins}
use Rattle.book.proofs.book.Book.commit_sent.Goals as goal

pub judge-requires : goal.judge-requires
judge-requires c =
    let sent = c.args.sent in
    rw c.away.ensures.ended (record {
      joins = λ journal stands.
          sent-joins _ _ journal sent.call sent.outcome sent.writes sent.reads
          c.requires.arguments c.requires.reply c.requires.values sent.few c.away.ensures.few (c.requires.ran journal stands);
    })
