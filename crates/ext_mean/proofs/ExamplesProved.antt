-- The small programs mean what is said of them, computed step by step.
use Rattle.std.proofs.Common.{◌∙◌}
use Rattle.ext_mean.specs.Examples.{Examples}
use Rattle.ext_mean.proofs.Equations.{equations}
use Rattle.ext_mean.proofs.ItemEquations.{item_equations}
use Rattle.ext_mean.proofs.LawsProved.{mean-ended}

pub examples : Examples
examples = record {
  divides_by_zero = mean-ended _ _ _ _ ∙ simp equations;
  reads_past_the_end = mean-ended _ _ _ _ ∙ simp equations;
  reads_the_last_byte = mean-ended _ _ _ _ ∙ simp equations;
  empty_key_is_size = mean-ended _ _ _ _ ∙ simp equations;
  foreign_table_is_denied = mean-ended _ _ _ _ ∙ simp equations;
  read_table_is_not_written = mean-ended _ _ _ _ ∙ simp equations;
  odd_keys_are_width = mean-ended _ _ _ _ ∙ simp equations;
  every_pair_is_read = mean-ended _ _ _ _ ∙ simp equations;
  spent_at_the_test = mean-ended _ _ _ _ ∙ simp equations;
  three_units_suffice = mean-ended _ _ _ _ ∙ simp equations;
  counts_to_three = mean-ended _ _ _ _ ∙ simp equations;
  spent_in_an_expression = mean-ended _ _ _ _ ∙ simp equations;
  pays_for_its_bytes = mean-ended _ _ _ _ ∙ simp equations;
  sees_its_write = mean-ended _ _ _ _ ∙ simp equations;
  sees_its_deletion = mean-ended _ _ _ _ ∙ simp equations;
  wants_the_record = mean-ended _ _ _ _ ∙ simp equations;
  goes_on_with_the_record = mean-ended _ _ _ _ ∙ simp equations;
  goes_on_without_it = mean-ended _ _ _ _ ∙ simp equations;
  and_leaves_out = mean-ended _ _ _ _ ∙ simp equations;
  or_leaves_out = mean-ended _ _ _ _ ∙ simp equations;
  and_goes_on = mean-ended _ _ _ _ ∙ simp equations;
  calls_a_function = mean-ended _ _ _ _ ∙ simp equations;
  wraps_around = mean-ended _ _ _ _ ∙ simp equations;
  writes_little_endian = mean-ended _ _ _ _ ∙ simp equations;
  stops_at_an_absent_pair = mean-ended _ _ _ _ ∙ simp equations;
  last_change_at_the_first_place = mean-ended _ _ _ _ ∙ simp equations;
  copies_bytes = mean-ended _ _ _ _ ∙ simp equations;
  no_byte_is_range = mean-ended _ _ _ _ ∙ simp equations;
  sums_do_not_wrap = mean-ended _ _ _ _ ∙ simp equations;
  reads_little_endian = mean-ended _ _ _ _ ∙ simp equations;
  blocks_have_their_variables = mean-ended _ _ _ _ ∙ simp equations;
  returns_out_of_a_loop = mean-ended _ _ _ _ ∙ simp equations;
  numbers_its_items = simp item_equations;
}
