-- The law is proved for every journal.
use Rattle.journal.proofs.Versions.{valued-record, value_at-prefix}
use Rattle.journal.proofs.laws.versions_keep_their_values.Goals as goal

pub returns : goal.returns
returns c = record {
  stays = value_at-prefix;
  stands = λ journal place. (valued-record journal place).value;
  by_now = λ journal place. (valued-record journal place).by_now;
}
