-- The weight of a read list: the bytes of its reads, as frames spell them.
use Rattle.std.specs.Prelude.{ℕ, List, length, sum_by}
use Rattle.sp_base.specs.Spelling as spelling
use Rattle.sp_base.specs.declared.reads.ReadItem.{ReadItem}

abbrev pub weight_of_read : ReadItem → ℕ
weight_of_read read = length (spelling.read read)

abbrev pub weight_of : List ReadItem → ℕ
weight_of reads = sum_by weight_of_read reads
