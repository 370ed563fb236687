-- The law is proved by the tree of the program.
use Rattle.gen_law.proofs.Programs.{code-means-the-same}
use Rattle.gen_law.proofs.laws.code_means_the_same.Goals as goal

pub returns : goal.returns
returns c = code-means-the-same
