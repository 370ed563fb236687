use Rattle.std.proofs.Common.{ap, ◌∙◌}
use Rattle.gen_code.specs.declared.op.Op.TheVariants as op
use Rattle.gen_code.specs.Codes.{ExpressionCode, expression_code, value_ops}
use Rattle.gen_compile.proofs.CodeForms.{value-Byte, value-Word, value-Sub, value-Alloc}
use Rattle.gen_compile.proofs.KeptPlaces.{and-written, or-written}
use Rattle.gen_compile.proofs.ValueSteps.{two-operands, three-operands}
use Rattle.gen_compile.proofs.values.+value.Goals as goal

pub write_and-returns : goal.write_and-returns
write_and-returns t c =
    and-written (value_ops c.args.left.now) (value_ops c.args.right.now) c.args.scope.now c.args.ops.now
    c.write_value.new.ops c.push.new.self c.write_value-2.new.ops c.push_two.new.ops c.push-2.new.self c.set.new.self c.push-3.new.self
    c.len-kept.result c.in_ok-place_behind.field-0 c.in_ok-at_false.at_false
    c.in_ok-write_value.ensures c.len-kept.ensures c.in_ok-push.ensures.ok c.in_ok-write_value-2.ensures c.in_ok-push_two.ensures
    c.in_ok-place_behind.ensures.value c.in_ok-push-2.ensures.ok c.in_ok-at_false.ensures.value c.set.ensures c.in_ok-push-3.ensures.ok

pub write_or-returns : goal.write_or-returns
write_or-returns t c =
    or-written (value_ops c.args.left.now) (value_ops c.args.right.now) c.args.scope.now c.args.ops.now
    c.write_value.new.ops c.push.new.self c.push-2.new.self c.push-3.new.self c.write_value-2.new.ops c.push_two.new.ops c.set.new.self
    c.in_ok-place_behind.field-0 c.len-kept.result c.in_ok-end.end
    c.in_ok-write_value.ensures c.in_ok-place_behind.ensures.value c.in_ok-push.ensures.ok c.in_ok-push-2.ensures.ok c.len-kept.ensures
    c.in_ok-push-3.ensures.ok c.in_ok-write_value-2.ensures c.in_ok-push_two.ensures c.in_ok-end.ensures.value c.set.ensures

pub write_value-returns-in_ok-write_two-in-Byte : goal.write_value-returns-in_ok-write_two-in-Byte
write_value-returns-in_ok-write_two-in-Byte t c =
    two-operands (expression_code c.args.expression.now) c.in-Byte.bytes c.in-Byte.place c.get-in-Byte.result.now c.get-in-Byte-2.result.now op.Byte
    c.args.scope.now c.args.ops.now c.write_two.new.ops
    (ap (λ (x : ExpressionCode). x.ops) (ap expression_code c.in-Byte.is ∙ value-Byte c.in-Byte.bytes c.in-Byte.place))
    c.get-in-Byte.ensures c.get-in-Byte-2.ensures c.in_ok-write_two-in-Byte.ensures

pub write_value-returns-in_ok-write_two-in-Word : goal.write_value-returns-in_ok-write_two-in-Word
write_value-returns-in_ok-write_two-in-Word t c =
    two-operands (expression_code c.args.expression.now) c.in-Word.bytes c.in-Word.place c.get-in-Word.result.now c.get-in-Word-2.result.now op.Word
    c.args.scope.now c.args.ops.now c.write_two-in-Word.new.ops
    (ap (λ (x : ExpressionCode). x.ops) (ap expression_code c.in-Word.is ∙ value-Word c.in-Word.bytes c.in-Word.place))
    c.get-in-Word.ensures c.get-in-Word-2.ensures c.in_ok-write_two-in-Word.ensures

pub write_value-returns-in_ok-write_three-in-Sub : goal.write_value-returns-in_ok-write_three-in-Sub
write_value-returns-in_ok-write_three-in-Sub t c =
    three-operands (expression_code c.args.expression.now) c.in-Sub.bytes c.in-Sub.from c.in-Sub.count
    c.get-in-Sub.result.now c.get-in-Sub-2.result.now c.get-in-Sub-3.result.now op.Sub
    c.args.scope.now c.args.ops.now c.write_three.new.ops
    (ap (λ (x : ExpressionCode). x.ops) (ap expression_code c.in-Sub.is ∙ value-Sub c.in-Sub.bytes c.in-Sub.from c.in-Sub.count))
    c.get-in-Sub.ensures c.get-in-Sub-2.ensures c.get-in-Sub-3.ensures c.in_ok-write_three-in-Sub.ensures

pub write_value-returns-in_ok-write_three-in-Alloc : goal.write_value-returns-in_ok-write_three-in-Alloc
write_value-returns-in_ok-write_three-in-Alloc t c =
    three-operands (expression_code c.args.expression.now) c.in-Alloc.table c.in-Alloc.key c.in-Alloc.size
    c.get-in-Alloc.result.now c.get-in-Alloc-2.result.now c.get-in-Alloc-3.result.now op.Alloc
    c.args.scope.now c.args.ops.now c.write_three-in-Alloc.new.ops
    (ap (λ (x : ExpressionCode). x.ops) (ap expression_code c.in-Alloc.is ∙ value-Alloc c.in-Alloc.table c.in-Alloc.key c.in-Alloc.size))
    c.get-in-Alloc.ensures c.get-in-Alloc-2.ensures c.get-in-Alloc-3.ensures c.in_ok-write_three-in-Alloc.ensures
