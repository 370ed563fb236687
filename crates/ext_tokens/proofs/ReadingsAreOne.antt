-- What was scanned is all that a reading has.
use Rattle.std.proofs.Common.{◌≡◌, ℕ, ◌≤◌, ◌<◌, List, [], ◌∷◌, ◌++◌, ◌⊎◌, length, sym, ap, ◌∙◌, inl, inr, arith, append-nil, length-append}
use Rattle.std.proofs.lemmas.Bool.{cases_lt}
use Rattle.ext_mean.specs.declared.codes.SyntaxCode.{SyntaxCode}
use Rattle.ext_mean.specs.declared.token.Placed.{Placed}
use Rattle.ext_mean.specs.Tokens.{Tokens, tokens_of}
use Rattle.ext_mean.specs.Bounds.{IsTooLong, IsTooDeep}
use Rattle.ext_mean.specs.SyntaxFaults.{line_behind}
use Rattle.ext_tokens.specs.declared.scan.End.{End}
use Rattle.ext_tokens.specs.declared.scan.End.TheVariants as end
use Rattle.ext_tokens.specs.Scanning.{IsFaulty, IsEnd, IsScanned}
use Rattle.ext_tokens.specs.Scanning as scanning
use Rattle.ext_tokens.specs.Laws.{IsFront, HasNoFirst, only_gap, no_token, bad_comment, NoTokenFollows, PassesFault, EndsAreOne}
use Rattle.ext_tokens.proofs.Readings.{tokens-one, none-behind-gap, none-behind-fault, none-behind-comment}

none-first : (text behind : List ℕ) (line : ℕ) (others : List Placed) → HasNoFirst text → Tokens text line others behind → others ≡ []
none-first text behind line others (only_gap is) other = none-behind-gap text behind line others is other
none-first text behind line others (no_token byte more gap whole before none) other =
    none-behind-fault text more gap behind byte line others whole before none other
none-first text behind line others (bad_comment byte more words gap whole breaks) other =
    none-behind-comment text more words gap behind byte line others whole breaks other

-- a reading that is not longer is a front
shorter-front : (text rest behind : List ℕ) (line : ℕ) (placed others : List Placed) → Tokens text line placed rest → Tokens text line others behind
    → length others ≤ length placed → IsFront others placed
shorter-front text rest behind line placed others is other fewer =
    let more = tokens-one text behind rest line others placed other is fewer in
    (more.0, more.1)

-- where no token follows, a longer reading has none more
longer-front : (text rest behind : List ℕ) (line : ℕ) (placed others : List Placed) → Tokens text line placed rest → HasNoFirst rest
    → Tokens text line others behind → length placed ≤ length others → IsFront others placed
longer-front text rest behind line placed others is none other fewer =
    let more = tokens-one text rest behind line placed others is other fewer in
    let empty : more.0 ≡ [] = none-first rest behind (line_behind line placed) more.0 none more.2 in
    ([], sym (append-nil others ∙ more.1 ∙ ap (λ x. placed ++ x) empty ∙ append-nil placed))

pub none-follows : NoTokenFollows
none-follows text rest behind line placed others is none other =
    elim (cases_lt (length placed) (length others)) [
      | inl fewer ↦ longer-front text rest behind line placed others is none other (omega arith)
      | inr more ↦ shorter-front text rest behind line placed others is other more
    ]

-- a reading that is longer begins with the faulty token too
passes : (text rest behind : List ℕ) (placed others : List Placed) (next : Placed) → Tokens text 1 (placed ++ next ∷ []) rest
    → Tokens text 1 others behind → length placed < length others → IsTooLong next.token ⊎ IsTooDeep (tokens_of placed) next.token
    → PassesFault text placed others
passes text rest behind placed others next is other longer why =
    let size : length (placed ++ next ∷ []) ≤ length others = omega (arith, length-append placed (next ∷ [])) in
    let more = tokens-one text rest behind 1 (placed ++ next ∷ []) others is other size in
    (next, rest, is, why, (more.0, more.1))

faulty-end : (text rest behind : List ℕ) (placed others : List Placed) (line : ℕ) (which : SyntaxCode) → Tokens text 1 placed rest
    → IsFaulty text placed rest line which → Tokens text 1 others behind → length placed < length others
    → IsFront others placed ⊎ PassesFault text placed others
faulty-end text rest behind placed others line which is (scanning.no_token byte more gap whole before none line-is) other longer =
    inl (longer-front text rest behind 1 placed others is (no_token byte more gap whole before none) other (omega arith))
faulty-end text rest behind placed others line which is (scanning.bad_comment byte more words gap whole breaks line-is) other longer =
    inl (longer-front text rest behind 1 placed others is (bad_comment byte more words gap whole breaks) other (omega arith))
faulty-end text rest behind placed others line which is (scanning.long next after whole over line-is) other longer =
    inr (passes text after behind placed others next whole other longer (inl over))
faulty-end text rest behind placed others line which is (scanning.deep next after whole short deep line-is) other longer =
    inr (passes text after behind placed others next whole other longer (inr deep))

longer-end : (text rest behind : List ℕ) (placed others : List Placed) (last : End) → Tokens text 1 placed rest
    → IsEnd text placed rest last → Tokens text 1 others behind → length placed < length others
    → IsFront others placed ⊎ PassesFault text placed others
longer-end text rest behind placed others (end.Text line) is ends other longer =
    inl (longer-front text rest behind 1 placed others is (only_gap ends.0) other (omega arith))
longer-end text rest behind placed others (end.Fault line which) is ends other longer =
    faulty-end text rest behind placed others line which is ends other longer

pub ends-one : EndsAreOne
ends-one text behind scanned others is other =
    elim (cases_lt (length scanned.tokens.items) (length others)) [
      | inl longer ↦ longer-end text is.rest behind scanned.tokens.items others scanned.end is.tokens is.end other longer
      | inr more ↦ inl (shorter-front text is.rest behind 1 scanned.tokens.items others is.tokens other more)
    ]
