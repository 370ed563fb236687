-- A block shows its statements, and an empty one no `else`.
use Rattle.std.proofs.Common.{◌≡◌, ◌∷◌, [], ◌∙◌, sym, ap, map, drop, arith, true}
use Rattle.std.specs.List.{flat_map}
use Rattle.std.proofs.lemmas.Grind.{common_steps}
use Rattle.std.proofs.lemmas.List.{at_drop_all}
use Rattle.ext_mean.specs.declared.token.Word.TheVariants as word
use Rattle.ext_mean.specs.declared.token.Token.TheVariants as token
use Rattle.ext_mean.specs.Canonical.{sentence_shown, block_shown, else_shown, braced}
use Rattle.ext_mean.proofs.CanonicalForms.{block-items}
use Rattle.ext_print.proofs.Blocks.{else-none, else-some}
use Rattle.ext_print.proofs.shown_statements.+shown_block.Goals as goal

pub show_block-returns : goal.show_block-returns
show_block-returns t c =
    let items = c.as_slice-statement-items.result.now in
    let whole : block_shown c.args.block.now ≡ map sentence_shown items =
    block-items c.args.block.now ∙ ap (λ xs. map sentence_shown xs) (sym c.as_slice-statement-items.ensures) in
    let done : flat_map (λ one. one) (map sentence_shown (drop c.loop-statement.statement-index items)) ≡ [] =
    at_drop_all (λ xs. flat_map (λ one. one) (map sentence_shown xs)) items c.loop-statement.statement-index c.loop-statement-test.false in
    rw whole (grind (arith, common_steps))

pub show_else-returns-then-is_empty : goal.show_else-returns-then-is_empty
show_else-returns-then-is_empty t c =
    let none : else_shown (block_shown c.args.block.now) ≡ [] =
    else-none c.args.block.now (c.is_empty.ensures.0 c.if-is_empty.true) in
    rw none (grind (arith, common_steps))

pub show_else-returns : goal.show_else-returns
show_else-returns t c =
    let some : else_shown (block_shown c.args.block.now) ≡ token.Word word.Else ∷ braced (block_shown c.args.block.now) =
    else-some c.args.block.now (λ e. let full : c.is_empty.result ≡ true = c.is_empty.ensures.1 e in cc) in
    rw some (grind (arith, common_steps))
