-- What `clap` makes of words of which none begins with a dash.
use Rattle.std.specs.Prelude.{Bool, drop, is_some, ◌==◌, ◌||◌, fold}
use Rattle.std.proofs.Common.{◌≡◌, ℕ, true, false, List, [], ◌∷◌, Some, None, codes, refl, sym, ap, ap₂, subst, ◌∙◌}
use Rattle.std.specs.List.{AllByRecursion, list_any}
use Rattle.std.specs.Str.{bytes_eq}
use Rattle.std.proofs.lemmas.Slice.Eq.{bytes_eq-Decides}
use Rattle.clap.specs.Lexer.{strip_byte}
use Rattle.clap.specs.Kinds.{Kinds, or_else}
use Rattle.clap.specs.Faults.{check_fault, defaults_fault, entered_fault, fault_of, level_fault, settle_fault, step_fault, turn_fault, walk_fault, word_fault}
use Rattle.clap.specs.Simple.{Shape, built, entered, names_of, rows_at, subcommand_of}
use Rattle.clap.specs.Walk.{Held, Names, Row, Rule, Step, Text, Walk, after_step, arg_by_index, finished, first_of, idle, nothing_held, settled, subcommand_met, to_positional, value, walk_from, walked, word_met}
use Rattle.clap.specs.declared.error.kind.ErrorKind.{ErrorKind}
use Rattle.clap.specs.declared.error.kind.ErrorKind.TheVariants.{InvalidSubcommand, MissingRequiredArgument, MissingSubcommand, UnknownArgument}
use Rattle.clap.specs.declared.builder.value_parser.Reading.TheVariants as reading
use Rattle.clap.specs.declared.parser.matches.ValueSource.TheVariants.{CommandLine}
use Rattle.clap.proofs.FaultLemmas.{stopped_fault}
use Rattle.clap.proofs.WalkLemmas.{walk_stopped}
use Rattle.words.specs.Grammar.{command_of, command_with, is_refused}
use Rattle.words.specs.Parser.{splinter_app}

-- ---- one word

-- clap takes the word as it stands
pub record IsPlain (word : Text) : Type 0 where
  pub no_dash : strip_byte 45 word ≡ None
  pub not_dashes : bytes_eq word (45 ∷ 45 ∷ []) ≡ false

no-dash : (first : ℕ) (more : Text) (test other : Bool) → (first == 45) ≡ test → (test || other) ≡ false → IsPlain (first ∷ more)
no-dash first more true other is none = absurd cc
no-dash first more false other is none = record { no_dash = rw is refl; not_dashes = rw is refl }

pub plain-word : (word : Text) → is_refused word ≡ false → IsPlain word
plain-word [] none = record { no_dash = refl; not_dashes = refl }
plain-word (first ∷ more) none = no-dash first more (first == 45) _ refl none

-- between two words, with this much held, at this positional
abbrev walk_at : Held → ℕ → Walk
walk_at h position = record { held = h; waiting = idle; position = position; is_trailing = false; stopped = None }

-- a plain word goes to a positional
plain-met : (c : List Rule) (names : Names) (position : ℕ) (word : Text) (h : Held) → IsPlain word → subcommand_met names idle word ≡ None
    → word_met c names false idle position word h ≡ (h, value)
plain-met c names position word h plain none =
    let dash : strip_byte 45 word ≡ None = plain.no_dash in
    let dashes : bytes_eq word (45 ∷ 45 ∷ []) ≡ false = plain.not_dashes in
    rw (none, dashes, dash, dash) refl

plain-fault : (s : Shape) (names : Names) (word : Text) (h : Held) → IsPlain word → subcommand_met names idle word ≡ None
    → word_fault s names false idle word h ≡ []
plain-fault s names word h plain none =
    let dash : strip_byte 45 word ≡ None = plain.no_dash in
    let dashes : bytes_eq word (45 ∷ 45 ∷ []) ≡ false = plain.not_dashes in
    rw (none, dashes, dash, dash) refl

turn-plain : (s : Shape) (names : Names) (h : Held) (position : ℕ) (word : Text) → IsPlain word → subcommand_met names idle word ≡ None
    → turn_fault s names (walk_at h position) word ≡ step_fault s position h value
turn-plain s names h position word plain none =
    ap₂ (λ (faults : Kinds) (met : Held × Step). or_else faults (step_fault s position met.0 met.1))
    (plain-fault s names word h plain none) (plain-met s.rules names position word h plain none)

walked-plain : (c : List Rule) (names : Names) (h : Held) (position : ℕ) (word : Text) → IsPlain word → subcommand_met names idle word ≡ None
    → walked c names (walk_at h position) word ≡ to_positional c (arg_by_index c position) word (walk_at h position) h
unfolding walked
walked-plain c names h position word plain none =
    ap (λ (met : Held × Step). after_step c word (walk_at h position) met.0 met.1) (plain-met c names position word h plain none)

-- a word behind the last positional of a command
extra-word : (s : Shape) (h : Held) (position : ℕ) (word : Text) (more : List Text) → IsPlain word → arg_by_index s.rules position ≡ None → s.is_leaf ≡ true
    → walk_fault s [] (walk_at h position) (word ∷ more) ≡ UnknownArgument ∷ []
unfolding walk_fault
extra-word s h position word more plain none leaf =
    let stray : step_fault s position h value ≡ UnknownArgument ∷ [] = rw (none, leaf) refl in
    let turn : turn_fault s [] (walk_at h position) word ≡ UnknownArgument ∷ [] = turn-plain s [] h position word plain refl ∙ stray in
    ap (λ (faults : Kinds). or_else faults (walk_fault s [] (walked s.rules [] (walk_at h position) word) more)) turn

-- ---- the name of a command

abbrev top : Shape
top = (built splinter_app).top

abbrev commands : Names
commands = names_of (built splinter_app)

abbrev start : Walk
start = walk_from nothing_held

or_else-nil : (kinds : Kinds) → or_else kinds [] ≡ kinds
or_else-nil [] = refl
or_else-nil (kind ∷ kinds) = refl

-- the kinds of a whole line, by where its walk ended and the kinds of the walk
abbrev line_fault : Walk → Kinds → Kinds
line_fault w passed =
    or_else passed (or_else (entered_fault (built splinter_app) w.stopped)
    (or_else (settle_fault top.rules top.args_override_self w.held)
    (or_else (defaults_fault (settled top.rules w.held).rows top.rules)
    (check_fault top (finished top.rules w.held) (is_some (entered (built splinter_app) w.stopped))))))

-- the name of a command leaves the other words to it
record IsNamed (name : Text) : Type 0 where
  stops : walked top.rules commands start name ≡ record start { stopped = Some (name, []) }
  passes : turn_fault top commands start name ≡ []
  enters : (rest : List Text) → is_some (entered (built splinter_app) (Some (name, rest))) ≡ true

named-walk : (name : Text) (rest : List Text) → IsNamed name
    → ◌≡◌ {A = Walk} (fold (walked top.rules commands) start (name ∷ rest)) (record start { stopped = Some (name, rest) })
named-walk name rest named =
    ap (λ (w : Walk). fold (walked top.rules commands) w rest) named.stops ∙ sym (walk_stopped top.rules commands start name [] rest)

named-passes : (name : Text) (rest : List Text) → IsNamed name → walk_fault top commands start (name ∷ rest) ≡ []
unfolding walk_fault
named-passes name rest named =
    ap₂ (λ (faults : Kinds) (w : Walk). or_else faults (walk_fault top commands w rest)) named.passes named.stops
    ∙ stopped_fault top commands start (name, []) rest

named-fault : (name : Text) (rest : List Text) → IsNamed name → fault_of splinter_app (name ∷ rest) ≡ entered_fault (built splinter_app) (Some (name, rest))
unfolding defaults_fault
named-fault name rest named =
    let enters = named.enters rest in
    ap₂ line_fault (named-walk name rest named) (named-passes name rest named)
    ∙ rw enters (or_else-nil (entered_fault (built splinter_app) (Some (name, rest))))

named-rows : (name : Text) (rest : List Text) → IsNamed name → subcommand_of splinter_app (name ∷ rest) ≡ entered (built splinter_app) (Some (name, rest))
named-rows name rest named = ap (λ (w : Walk). entered (built splinter_app) w.stopped) (named-walk name rest named)

check-named : IsNamed (codes "check")
unfolding walked
check-named = record { stops = refl; passes = refl; enters = λ rest. refl }

run-named : IsNamed (codes "run")
unfolding walked
run-named = record { stops = refl; passes = refl; enters = λ rest. refl }

drill-named : IsNamed (codes "drill")
unfolding walked
drill-named = record { stops = refl; passes = refl; enters = λ rest. refl }

-- ---- the words behind it

-- the commands, as they are built
abbrev leaf_of : List Shape → Shape
leaf_of [] = top
leaf_of (s ∷ subs) = s

abbrev check_leaf : Shape
check_leaf = leaf_of (built splinter_app).subs

abbrev run_leaf : Shape
run_leaf = leaf_of (drop 1 (built splinter_app).subs)

abbrev drill_leaf : Shape
drill_leaf = leaf_of (drop 2 (built splinter_app).subs)

-- the kinds of a command's own words, by where their walk ended and the kinds of the walk
abbrev leaf_fault : Shape → Walk → Kinds → Kinds
leaf_fault s w passed =
    or_else passed (or_else (settle_fault s.rules s.args_override_self w.held)
    (or_else (defaults_fault (settled s.rules w.held).rows s.rules) (check_fault s (finished s.rules w.held) false)))

-- a walk that fails
leaf-fails : (s : Shape) (words : List Text) (kind : ErrorKind) (kinds : Kinds) → walk_fault s [] start words ≡ kind ∷ kinds
    → level_fault s [] nothing_held words false [] ≡ kind ∷ kinds
leaf-fails s words kind kinds fails = ap (λ (passed : Kinds). leaf_fault s (fold (walked s.rules []) start words) passed) fails

-- what is held behind one number, and behind two
abbrev count_held : Text → Held
count_held count = record { rows = []; pending = Some (codes "count", count ∷ []); skip = 0 }

abbrev count_row : Text → Row
count_row count = record { id = codes "count"; values = count ∷ []; count = None; source = Some CommandLine; reading = reading.AsWritten }

abbrev seed_held : Text → Text → Held
seed_held count seed = record { rows = count_row count ∷ []; pending = Some (codes "seed", seed ∷ []); skip = 0 }

first-walked : (count : Text) → IsPlain count → walked drill_leaf.rules [] start count ≡ walk_at (count_held count) 2
first-walked count plain = walked-plain drill_leaf.rules [] nothing_held 1 count plain refl

first-passes : (count : Text) → IsPlain count → turn_fault drill_leaf [] start count ≡ []
first-passes count plain = turn-plain drill_leaf [] nothing_held 1 count plain refl

second-walked : (count seed : Text) → IsPlain seed → walked drill_leaf.rules [] (walk_at (count_held count) 2) seed ≡ walk_at (seed_held count seed) 3
second-walked count seed plain = walked-plain drill_leaf.rules [] (count_held count) 2 seed plain refl

second-passes : (count seed : Text) → IsPlain seed → turn_fault drill_leaf [] (walk_at (count_held count) 2) seed ≡ []
second-passes count seed plain = turn-plain drill_leaf [] (count_held count) 2 seed plain refl

both-walked : (count seed : Text) (rest : List Text) → IsPlain count → IsPlain seed
    → fold (walked drill_leaf.rules []) start (count ∷ seed ∷ rest) ≡ fold (walked drill_leaf.rules []) (walk_at (seed_held count seed) 3) rest
both-walked count seed rest plain also =
    ap (λ (w : Walk). fold (walked drill_leaf.rules []) (walked drill_leaf.rules [] w seed) rest) (first-walked count plain)
    ∙ ap (λ (w : Walk). fold (walked drill_leaf.rules []) w rest) (second-walked count seed also)

both-pass : (count seed : Text) (rest : List Text) → IsPlain count → IsPlain seed
    → walk_fault drill_leaf [] start (count ∷ seed ∷ rest) ≡ walk_fault drill_leaf [] (walk_at (seed_held count seed) 3) rest
unfolding walk_fault
both-pass count seed rest plain also =
    ap₂ (λ (faults : Kinds) (w : Walk). or_else faults (or_else (turn_fault drill_leaf [] w seed) (walk_fault drill_leaf [] (walked drill_leaf.rules [] w seed) rest)))
    (first-passes count plain) (first-walked count plain)
    ∙ ap₂ (λ (faults : Kinds) (w : Walk). or_else faults (walk_fault drill_leaf [] w rest)) (second-passes count seed also) (second-walked count seed also)

no-number : level_fault drill_leaf [] nothing_held [] false [] ≡ MissingRequiredArgument ∷ []
unfolding walk_fault defaults_fault
no-number = refl

one-number : (count : Text) → IsPlain count → level_fault drill_leaf [] nothing_held (count ∷ []) false [] ≡ MissingRequiredArgument ∷ []
unfolding walk_fault defaults_fault
one-number count plain =
    ap₂ (λ (w : Walk) (faults : Kinds). leaf_fault drill_leaf w (or_else faults [])) (first-walked count plain) (first-passes count plain)

two-numbers : (count seed : Text) → IsPlain count → IsPlain seed → level_fault drill_leaf [] nothing_held (count ∷ seed ∷ []) false [] ≡ []
unfolding walk_fault defaults_fault
two-numbers count seed plain also =
    ap₂ (λ (w : Walk) (passed : Kinds). leaf_fault drill_leaf w passed) (both-walked count seed [] plain also) (both-pass count seed [] plain also)

two-rows : (count seed : Text) → IsPlain count → IsPlain seed
    → rows_at drill_leaf (count ∷ seed ∷ []) ≡ (codes "drill", finished drill_leaf.rules (seed_held count seed))
two-rows count seed plain also =
    ap (λ (w : Walk). (codes "drill", finished drill_leaf.rules w.held)) (both-walked count seed [] plain also)

three-words : (count seed word : Text) (more : List Text) → IsPlain count → IsPlain seed → IsPlain word
    → level_fault drill_leaf [] nothing_held (count ∷ seed ∷ word ∷ more) false [] ≡ UnknownArgument ∷ []
three-words count seed word more plain also last =
    leaf-fails drill_leaf (count ∷ seed ∷ word ∷ more) UnknownArgument []
    (both-pass count seed (word ∷ more) plain also ∙ extra-word drill_leaf (seed_held count seed) 3 word more last refl refl)

-- ---- a whole line

-- Where clap takes the words, they have a subcommand's name and arguments that name their command. Where
-- it does not, they name no command.
pub data Reads (words : List Text) : Type 0 where
  takes : (name : Text) (rows : List Row) → fault_of splinter_app words ≡ [] → subcommand_of splinter_app words ≡ Some (name, rows)
      → command_with name (first_of (codes "count") rows) (first_of (codes "seed") rows) ≡ command_of words → Reads words
  refuses : (kind : ErrorKind) (kinds : Kinds) → fault_of splinter_app words ≡ kind ∷ kinds → command_of words ≡ None → Reads words

-- each word is plain
abbrev pub ArePlain : List Text → Type 0
ArePlain words = AllByRecursion IsPlain words

-- a command that is not `drill` has no arguments
not-alone : (name word : Text) (more : List Text) → bytes_eq name (codes "drill") ≡ false → command_of (name ∷ word ∷ more) ≡ None
not-alone name word [] other = refl
not-alone name word (seed ∷ []) other = rw other refl
not-alone name word (seed ∷ next ∷ more) other = refl

check-reads : (rest : List Text) → ArePlain rest → Reads (codes "check" ∷ rest)
unfolding walk_fault defaults_fault
check-reads [] plain = takes (codes "check") [] (named-fault (codes "check") [] check-named) (named-rows (codes "check") [] check-named) refl
check-reads (word ∷ more) plain =
    refuses UnknownArgument []
    (named-fault (codes "check") (word ∷ more) check-named
    ∙ leaf-fails check_leaf (word ∷ more) UnknownArgument [] (extra-word check_leaf nothing_held 1 word more plain.0 refl refl))
    (not-alone (codes "check") word more refl)

run-reads : (rest : List Text) → ArePlain rest → Reads (codes "run" ∷ rest)
unfolding walk_fault defaults_fault
run-reads [] plain = takes (codes "run") [] (named-fault (codes "run") [] run-named) (named-rows (codes "run") [] run-named) refl
run-reads (word ∷ more) plain =
    refuses UnknownArgument []
    (named-fault (codes "run") (word ∷ more) run-named
    ∙ leaf-fails run_leaf (word ∷ more) UnknownArgument [] (extra-word run_leaf nothing_held 1 word more plain.0 refl refl))
    (not-alone (codes "run") word more refl)

drill-reads : (rest : List Text) → ArePlain rest → Reads (codes "drill" ∷ rest)
drill-reads [] plain = refuses MissingRequiredArgument [] (named-fault (codes "drill") [] drill-named ∙ no-number) refl
drill-reads (count ∷ []) plain =
    refuses MissingRequiredArgument [] (named-fault (codes "drill") (count ∷ []) drill-named ∙ one-number count plain.0) refl
drill-reads (count ∷ seed ∷ []) plain =
    takes (codes "drill") (finished drill_leaf.rules (seed_held count seed))
    (named-fault (codes "drill") (count ∷ seed ∷ []) drill-named ∙ two-numbers count seed plain.0 plain.1.0)
    (named-rows (codes "drill") (count ∷ seed ∷ []) drill-named ∙ ap Some (two-rows count seed plain.0 plain.1.0)) refl
drill-reads (count ∷ seed ∷ word ∷ more) plain =
    refuses UnknownArgument []
    (named-fault (codes "drill") (count ∷ seed ∷ word ∷ more) drill-named ∙ three-words count seed word more plain.0 plain.1.0 plain.1.1.0) refl

-- a name that no command has
other-passes : (name : Text) → IsPlain name → bytes_eq (codes "check") name ≡ false → bytes_eq (codes "run") name ≡ false → bytes_eq (codes "drill") name ≡ false
    → turn_fault top commands start name ≡ UnknownArgument ∷ InvalidSubcommand ∷ []
other-passes name plain check run drill =
    let none : subcommand_met commands idle name ≡ None = rw (check, run, drill) refl in
    turn-plain top commands nothing_held 1 name plain none

other-fault : (name : Text) (rest : List Text) → IsPlain name → bytes_eq (codes "check") name ≡ false → bytes_eq (codes "run") name ≡ false
    → bytes_eq (codes "drill") name ≡ false → fault_of splinter_app (name ∷ rest) ≡ UnknownArgument ∷ InvalidSubcommand ∷ []
unfolding walk_fault
other-fault name rest plain check run drill =
    ap (λ (faults : Kinds). line_fault (fold (walked top.rules commands) start (name ∷ rest))
    (or_else faults (walk_fault top commands (walked top.rules commands start name) rest))) (other-passes name plain check run drill)

-- texts are equal in either order
swapped : (xs ys : List ℕ) (test : Bool) → bytes_eq xs ys ≡ test → bytes_eq ys xs ≡ test
swapped xs ys true is = (bytes_eq-Decides ys xs).1 (sym ((bytes_eq-Decides xs ys).0 is))
swapped xs ys false is = apart (bytes_eq ys xs) refl
  where
    apart : (test : Bool) → bytes_eq ys xs ≡ test → test ≡ false
    apart true same = let both : bytes_eq xs ys ≡ true = (bytes_eq-Decides xs ys).1 (sym ((bytes_eq-Decides ys xs).0 same)) in absurd cc
    apart false same = refl

no-command : (name : Text) (rest : List Text) → bytes_eq name (codes "check") ≡ false → bytes_eq name (codes "run") ≡ false
    → bytes_eq name (codes "drill") ≡ false → command_of (name ∷ rest) ≡ None
no-command name [] check run drill = rw (check, run) refl
no-command name (word ∷ more) check run drill = not-alone name word more drill

-- by the test of each name
by-tests : (name : Text) (rest : List Text) (check run drill : Bool) → IsPlain name → ArePlain rest → bytes_eq (codes "check") name ≡ check
    → bytes_eq (codes "run") name ≡ run → bytes_eq (codes "drill") name ≡ drill → Reads (name ∷ rest)
by-tests name rest true run drill plain others is also last =
    subst (λ (name : Text). Reads (name ∷ rest)) ((bytes_eq-Decides (codes "check") name).0 is) (check-reads rest others)
by-tests name rest false true drill plain others is also last =
    subst (λ (name : Text). Reads (name ∷ rest)) ((bytes_eq-Decides (codes "run") name).0 also) (run-reads rest others)
by-tests name rest false false true plain others is also last =
    subst (λ (name : Text). Reads (name ∷ rest)) ((bytes_eq-Decides (codes "drill") name).0 last) (drill-reads rest others)
by-tests name rest false false false plain others is also last =
    refuses UnknownArgument (InvalidSubcommand ∷ []) (other-fault name rest plain is also last)
    (no-command name rest (swapped (codes "check") name false is) (swapped (codes "run") name false also) (swapped (codes "drill") name false last))

plain-reads : (words : List Text) → ArePlain words → Reads words
unfolding walk_fault defaults_fault
plain-reads [] plain = refuses MissingSubcommand [] refl refl
plain-reads (name ∷ rest) plain = by-tests name rest _ _ _ plain.0 plain.1 refl refl refl

each-plain : (word : Text) (words : List Text) (test : Bool) → is_refused word ≡ test → (test || list_any is_refused words) ≡ false
    → (list_any is_refused words ≡ false → ArePlain words) → ArePlain (word ∷ words)
each-plain word words true is none rest = absurd cc
each-plain word words false is none rest = (plain-word word is, rest none)

are-plain : (words : List Text) → list_any is_refused words ≡ false → ArePlain words
are-plain [] none = tt
are-plain (word ∷ words) none = each-plain word words (is_refused word) refl none (λ no. are-plain words no)

pub reads : (words : List Text) → list_any is_refused words ≡ false → Reads words
reads words none = plain-reads words (are-plain words none)
