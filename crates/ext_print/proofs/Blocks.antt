-- The `else` of a block: nothing where the block is empty.
use Rattle.std.proofs.Common.{◌≡◌, ◌∙◌, ap, refl, sym, subst, List, [], ◌∷◌, map}
use Rattle.ext_mean.specs.declared.statement.Statement.{Statement}
use Rattle.ext_mean.specs.declared.statement.Block.{Block}
use Rattle.ext_mean.specs.declared.token.Word.TheVariants as word
use Rattle.ext_mean.specs.declared.token.Token.{Token}
use Rattle.ext_mean.specs.declared.token.Token.TheVariants as token
use Rattle.ext_mean.specs.Canonical.{sentence_shown, block_shown, else_shown, braced}
use Rattle.ext_mean.proofs.CanonicalForms.{block-items}

pub else-none : (block : Block) → block.items ≡ [] → else_shown (block_shown block) ≡ []
else-none block e = ap else_shown (block-items block ∙ ap (map sentence_shown) e)

else-by_items : (items : List Statement) (shown : List (List Token)) → shown ≡ map sentence_shown items → (items ≡ [] → ⊥) → else_shown shown ≡ token.Word word.Else ∷ braced shown
else-by_items [] shown e full = absurd (full refl)
else-by_items (first ∷ rest) shown e full =
    subst (λ s. else_shown s ≡ token.Word word.Else ∷ braced s) (sym e) refl

pub else-some : (block : Block) → (block.items ≡ [] → ⊥) → else_shown (block_shown block) ≡ token.Word word.Else ∷ braced (block_shown block)
else-some block full = else-by_items block.items (block_shown block) (block-items block) full

pub ruleset else_cases = (else-none, else-some)
