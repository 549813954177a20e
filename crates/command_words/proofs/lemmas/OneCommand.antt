-- Words ask for one command at most.
use Rattle.std.proofs.Common.{◌≡◌, ◌≢◌, ◌≤◌, ℕ, List, [], ◌∷◌, get_or, refl, sym, ap, subst, ◌∙◌, arith}
use Rattle.std.proofs.Math.Bridge.{le_prop}
use Rattle.std.specs.Prelude.{codes, Option, Some, None, if◌then◌else◌}
use Rattle.std.specs.Str.{bytes_eq}
use Rattle.std.proofs.lemmas.Option.{same_Some}
use Rattle.lcc_base.specs.declared.order.Order.{Order}
use Rattle.lcc_base.specs.declared.order.Order.TheVariants.{Big, Little}
use Rattle.command_words.specs.declared.ceval_options.CevalOptions.{CevalOptions}
use Rattle.command_words.specs.declared.run_options.RunOptions.{RunOptions}
use Rattle.command_words.specs.declared.words.Command.{Command}
use Rattle.command_words.specs.declared.words.Command.TheVariants.{Cover, Tables, Simrun, Rcc, Ceval}
use Rattle.command_words.specs.OptionWords.{value_of}
use Rattle.command_words.specs.NumberWords.{GivesNumber}
use Rattle.command_words.specs.RunWords.{IsTarget, GivesTarget, GivesRun}
use Rattle.command_words.specs.CevalWords.{IsOrder, GivesOrder, GivesCeval}
use Rattle.command_words.specs.Commands.{AreWordsOf, words_of}

-- ---- first words

pub data Tool : Type 0 where
  Covers : Tool
  Tabulates : Tool
  Runs : Tool
  Compiles : Tool
  Evaluates : Tool

abbrev second : List (List ℕ) → Option Tool
second [] = None
second (w ∷ ws) = if bytes_eq w (codes "cover") then Some Covers else Some Tabulates

-- the tool that words name
abbrev named : List (List ℕ) → Option Tool
named [] = None
named (w ∷ ws) =
    if bytes_eq w (codes "lburg") then second ws
    else if bytes_eq w (codes "simrun") then Some Runs
    else if bytes_eq w (codes "rcc") then Some Compiles
    else if bytes_eq w (codes "ceval") then Some Evaluates
    else None

abbrev tool_of : Command → Tool
tool_of Cover = Covers
tool_of Tables = Tabulates
tool_of (Simrun o) = Runs
tool_of Rcc = Compiles
tool_of (Ceval o) = Evaluates

named_so : (c : Command) (words : List (List ℕ)) → AreWordsOf c words → named words ≡ Some (tool_of c)
named_so Cover words is = ap named is.parts
named_so Tables words is = ap named is.parts
named_so (Simrun o) words is = ap named is.parts
named_so Rcc words is = ap named is.parts
named_so (Ceval o) words is = ap named is.parts

-- ---- the options of a run

-- words that differ at a place are two
differ : (v w : List ℕ) (place : ℕ) → get_or v place 0 ≢ get_or w place 0 → v ≢ w
differ v w place apart e = apart (ap (λ (word : List ℕ). get_or word place 0) e)

one_target : (text : List ℕ) (o p : Order) → IsTarget text o → IsTarget text p → o ≡ p
one_target text Big Big is also = refl
one_target text Little Little is also = refl
one_target text Big Little is also = absurd (differ (codes "mipseb") (codes "mipsel") 5 (λ e. omega arith) (sym is ∙ also))
one_target text Little Big is also = absurd (differ (codes "mipseb") (codes "mipsel") 5 (λ e. omega arith) (sym also ∙ is))

target_once : (text : Option (List ℕ)) (o p : Order) → GivesTarget text o → GivesTarget text p → o ≡ p
target_once (Some text) o p is also = one_target text o p is also
target_once None o p none also = absurd none

number_once : (least most default : ℕ) (text : Option (List ℕ)) (n m : ℕ) → GivesNumber least most default text n → GivesNumber least most default text m → n ≡ m
number_once least most default (Some text) n m is also = is.value ∙ sym also.value
number_once least most default None n m is also = is ∙ sym also

abbrev options : (order : Order) (steps stack : ℕ) → 1 ≤ steps → 4096 ≤ stack → stack ≤ 16777216 → RunOptions
options order steps stack some least most = record { order = order; steps = steps; stack = stack; some = some; least = least; most = most }

-- what is known of options is one fact
known_once : (a : Order) (s t : ℕ) (h : 1 ≤ s) (low : 4096 ≤ t) (high : t ≤ 16777216) (k : 1 ≤ s) (least : 4096 ≤ t) (most : t ≤ 16777216) → options a s t h low high ≡ options a s t k least most
known_once a s t h low high k least most =
    ap (λ (x : 1 ≤ s). options a s t x low high) (le_prop h k)
    ∙ ap (λ (x : 4096 ≤ t). options a s t k x high) (le_prop low least)
    ∙ ap (λ (x : t ≤ 16777216). options a s t k least x) (le_prop high most)

same_options : (o p : RunOptions) → o.order ≡ p.order → o.steps ≡ p.steps → o.stack ≡ p.stack → o ≡ p
same_options o p order steps stack =
    let Stack : ℕ → Type 0 = λ t. (k : 1 ≤ o.steps) (least : 4096 ≤ t) (most : t ≤ 16777216) → o ≡ options o.order o.steps t k least most in
    let Steps : ℕ → Type 0 = λ s. (k : 1 ≤ s) (least : 4096 ≤ p.stack) (most : p.stack ≤ 16777216) → o ≡ options o.order s p.stack k least most in
    let Ordered : Order → Type 0 = λ a. (k : 1 ≤ p.steps) (least : 4096 ≤ p.stack) (most : p.stack ≤ 16777216) → o ≡ options a p.steps p.stack k least most in
    let one : Stack o.stack = known_once o.order o.steps o.stack o.some o.least o.most in
    subst Ordered order (subst Steps steps (subst Stack stack one)) p.some p.least p.most

-- a run's options
one_run : (o p : RunOptions) (text : List ℕ → Option (List ℕ)) → GivesRun o text → GivesRun p text → o ≡ p
one_run o p text is also =
    same_options o p
    (target_once (text (codes "target")) o.order p.order is.target also.target)
    (number_once 1 4294967295 10000000 (text (codes "steps")) o.steps p.steps is.steps also.steps)
    (number_once 4096 16777216 1048576 (text (codes "stack")) o.stack p.stack is.stack also.stack)

-- ---- the options of an evaluation

one_order : (text : List ℕ) (o p : Order) → IsOrder text o → IsOrder text p → o ≡ p
one_order text Big Big is also = refl
one_order text Little Little is also = refl
one_order text Big Little is also = absurd (differ (codes "big") (codes "little") 0 (λ e. omega arith) (sym is ∙ also))
one_order text Little Big is also = absurd (differ (codes "big") (codes "little") 0 (λ e. omega arith) (sym also ∙ is))

order_once : (text : Option (List ℕ)) (o p : Order) → GivesOrder text o → GivesOrder text p → o ≡ p
order_once (Some text) o p is also = one_order text o p is also
order_once None o p none also = absurd none

abbrev evaluation : (order : Order) (turns : ℕ) → 1 ≤ turns → CevalOptions
evaluation order turns some = record { order = order; turns = turns; some = some }

same_evaluation : (o p : CevalOptions) → o.order ≡ p.order → o.turns ≡ p.turns → o ≡ p
same_evaluation o p order turns =
    let Turns : ℕ → Type 0 = λ n. (k : 1 ≤ n) → o ≡ evaluation o.order n k in
    let Ordered : Order → Type 0 = λ a. (k : 1 ≤ p.turns) → o ≡ evaluation a p.turns k in
    let one : Turns o.turns = λ k. ap (λ (x : 1 ≤ o.turns). evaluation o.order o.turns x) (le_prop o.some k) in
    subst Ordered order (subst Turns turns one) p.some

-- an evaluation's options
one_evaluation : (o p : CevalOptions) (text : List ℕ → Option (List ℕ)) → GivesCeval o text → GivesCeval p text → o ≡ p
one_evaluation o p text is also =
    same_evaluation o p
    (order_once (text (codes "order")) o.order p.order is.order also.order)
    (number_once 1 4294967295 10000000 (text (codes "turns")) o.turns p.turns is.turns also.turns)

-- ---- one command

-- the words behind the first one are the same
same_rest : (first : List ℕ) (words rest last : List (List ℕ)) → words ≡ first ∷ rest → words ≡ first ∷ last → rest ≡ last
same_rest first words rest last is also = cc

same_command : (c d : Command) (words : List (List ℕ)) → AreWordsOf c words → AreWordsOf d words → tool_of c ≡ tool_of d → c ≡ d
same_command Cover Cover words is also same = refl
same_command Tables Tables words is also same = refl
same_command Rcc Rcc words is also same = refl
same_command (Simrun o) (Simrun p) words is also same =
    let rest = same_rest (codes "simrun") words is.rest also.rest is.parts also.parts in
    ap Simrun (one_run o p (value_of (words_of (Simrun o)).options also.rest) (subst (λ l. GivesRun o (value_of (words_of (Simrun o)).options l)) rest is.gives) also.gives)
same_command (Ceval o) (Ceval p) words is also same =
    let rest = same_rest (codes "ceval") words is.rest also.rest is.parts also.parts in
    ap Ceval (one_evaluation o p (value_of (words_of (Ceval o)).options also.rest) (subst (λ l. GivesCeval o (value_of (words_of (Ceval o)).options l)) rest is.gives) also.gives)
same_command c d words is also same = absurd cc

pub one_command : (c d : Command) (words : List (List ℕ)) → AreWordsOf c words → AreWordsOf d words → c ≡ d
one_command c d words is also =
    same_command c d words is also (same_Some (tool_of c) (tool_of d) (sym (named_so c words is) ∙ named_so d words also))
