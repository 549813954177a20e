-- What a description keeps of the lines that it means.
use Rattle.std.proofs.Common.{◌≡◌, ℕ, ◌≤◌, zero, suc, ◌⊎◌, List, [], ◌∷◌, length, map, Some, refl, sym, ap, subst, ◌∙◌, inl, inr, arith}
use Rattle.std.specs.Prelude.{slice_get, option_map}
use Rattle.std.proofs.lemmas.List.{length-map}
use Rattle.std.proofs.lemmas.Option.{none-some, same_Some, slice_get-map}
use Rattle.lcc_text.specs.Decimal.{value_of}
use Rattle.lburg_lines.specs.NamedTree.{MNamed, Alone, Over, Both, names_in}
use Rattle.lburg_lines.specs.Grammar.{MRule, MLine, MNumbered}
use Rattle.lburg_lines.specs.Sections.{TokenLine}
use Rattle.lburg_faults.specs.Terminals.{Among, declared_in, names_of, numbers_of}
use Rattle.lburg_faults.specs.Uses.{root_of, operands_of}
use Rattle.lburg_faults.specs.Written.{AreWritten, terminals_in}
use Rattle.lburg_model.specs.declared.rule.Rule.{Rule}
use Rattle.lburg_model.specs.declared.terminal.Terminal.{Terminal}
use Rattle.lburg_model.specs.Pattern.{MPattern, PHole, PLeaf, POne, PTwo, pattern_nodes}
use Rattle.lburg_model.specs.Description.{MDescription, FitsIn, HasArity, AreDistinct, terminal_names, terminal_numbers}
use Rattle.lburg_grammar.specs.DescriptionText.{IsNamed, PatternMeans, RuleMeans, RulesMean, StartMeans, Means, named_number, declared_number}
use Rattle.lburg_grammar.proofs.FaultTrees.{IsPart}
use Rattle.lburg_grammar.proofs.FaultTerminals.{same_terminals}

-- ---- terminals

names_there : (ts : List Terminal) → map (λ t. t.name) ts ≡ map (λ (p : List ℕ × ℕ). p.0) (map named_number ts)
names_there [] = refl
names_there (t ∷ ts) = ap (λ us. t.name ∷ us) (names_there ts)

names_here : (ts : List MNumbered) → names_of ts ≡ map (λ (p : List ℕ × ℕ). p.0) (map declared_number ts)
names_here [] = refl
names_here (t ∷ ts) = ap (λ us. t.0 ∷ us) (names_here ts)

numbers_there : (ts : List Terminal) → map (λ t. t.number) ts ≡ map (λ (p : List ℕ × ℕ). p.1) (map named_number ts)
numbers_there [] = refl
numbers_there (t ∷ ts) = ap (λ us. t.number ∷ us) (numbers_there ts)

numbers_here : (ts : List MNumbered) → numbers_of ts ≡ map (λ (p : List ℕ × ℕ). p.1) (map declared_number ts)
numbers_here [] = refl
numbers_here (t ∷ ts) = ap (λ us. value_of t.1 ∷ us) (numbers_here ts)

pub names_are : (d : MDescription) (lines : List TokenLine) (ws : List MLine) → AreWritten lines ws → Means ws d → terminal_names d ≡ names_of (declared_in lines)
names_are d lines ws p m =
    names_there d.terminals ∙ ap (map (λ (x : List ℕ × ℕ). x.0)) m.terminals ∙ sym (names_here (terminals_in ws)) ∙ ap names_of (sym (same_terminals lines ws p))

pub numbers_are : (d : MDescription) (lines : List TokenLine) (ws : List MLine) → AreWritten lines ws → Means ws d → terminal_numbers d ≡ numbers_of (declared_in lines)
numbers_are d lines ws p m =
    numbers_there d.terminals ∙ ap (map (λ (x : List ℕ × ℕ). x.1)) m.terminals ∙ sym (numbers_here (terminals_in ws)) ∙ ap numbers_of (sym (same_terminals lines ws p))

pub as_many : (d : MDescription) (lines : List TokenLine) (ws : List MLine) → AreWritten lines ws → Means ws d → length (declared_in lines) ≡ length d.terminals
as_many d lines ws p m =
    let n = ap length (names_are d lines ws p m) in
    let a = length-map d.terminals (λ (t : Terminal). t.name) in
    let b = length-map (declared_in lines) (λ (t : MNumbered). t.0) in
    omega arith

-- the terminal of a place
record TerminalOf (d : MDescription) (op : ℕ) (name : List ℕ) : Type 0 where
  pub place : ℕ
  pub is : op ≡ suc place
  pub terminal : Terminal
  pub there : slice_get d.terminals place ≡ Some terminal
  pub name_is : terminal.name ≡ name

terminal_of : (d : MDescription) (op : ℕ) (name : List ℕ) → IsNamed d op name → TerminalOf d op name
terminal_of d zero name is = absurd (none-some is.0 is.1)
terminal_of d (suc place) name is = record { place = place; is = refl; terminal = is.0; there = is.1; name_is = is.2 }

name_there : (d : MDescription) (op : ℕ) (name : List ℕ) (t : TerminalOf d op name) → slice_get (terminal_names d) t.place ≡ Some name
name_there d op name t = slice_get-map (λ (x : Terminal). x.name) d.terminals t.place ∙ ap (option_map (λ (x : Terminal). x.name)) t.there ∙ ap (λ (n : List ℕ). Some n) t.name_is

pub named_among : (d : MDescription) (op : ℕ) (name : List ℕ) → IsNamed d op name → Among name (terminal_names d)
named_among d op name is = let t = terminal_of d op name is in (t.place, name_there d op name t)

-- a name has one operator
one_operator : (d : MDescription) (op other : ℕ) (name : List ℕ) → AreDistinct (terminal_names d) → IsNamed d op name → IsNamed d other name → op ≡ other
one_operator d op other name once a b =
    let t = terminal_of d op name a in
    let u = terminal_of d other name b in
    t.is ∙ ap suc (once t.place u.place name (name_there d op name t) (name_there d other name u)) ∙ sym u.is

one_arity : (d : MDescription) (op m n : ℕ) → HasArity d op m → HasArity d op n → m ≡ n
one_arity d op m n a b =
    let e : a.0 ≡ b.0 = same_Some a.0 b.0 (sym a.1 ∙ b.1) in
    same_Some m n (sym a.2 ∙ ap (λ (t : Terminal). t.arity) e ∙ b.2)

-- the name's operator has so many operands
abbrev pub NameHas : MDescription → List ℕ → ℕ → Type 0
NameHas d name n = (op : ℕ) × IsNamed d op name × HasArity d op n

pub same_arity : (d : MDescription) (name : List ℕ) (m n : ℕ) → AreDistinct (terminal_names d) → NameHas d name m → NameHas d name n → m ≡ n
same_arity d name m n once a b =
    let P : ℕ → Type 0 = λ op. HasArity d op m in
    one_arity d b.0 m n (subst P (one_operator d a.0 b.0 name once a.1 b.1) a.2) b.2

-- ---- parts of trees

pub record PartMeans (d : MDescription) (part : MNamed) : Type 0 where
  pub pattern : MPattern
  pub means : PatternMeans d part pattern
  pub fits : FitsIn d pattern

this_part : (d : MDescription) (tree part : MNamed) (p : MPattern) → PatternMeans d tree p → FitsIn d p → tree ≡ part → PartMeans d part
this_part d tree part p m f e = let P : MNamed → Type 0 = λ t. PatternMeans d t p in record { pattern = p; means = subst P e m; fits = f }

pub part_means : (d : MDescription) (tree part : MNamed) (p : MPattern) → PatternMeans d tree p → FitsIn d p → IsPart tree part → PartMeans d part
part_means d (Alone n) part p m f e = this_part d (Alone n) part p m f e
part_means d (Over n a) part (PHole h) m f e = absurd m
part_means d (Over n a) part (PLeaf op) m f e = absurd m
part_means d (Over n a) part (PTwo op p q) m f e = absurd m
part_means d (Over n a) part (POne op p) m f (inl e) = this_part d (Over n a) part (POne op p) m f e
part_means d (Over n a) part (POne op p) m f (inr e) = part_means d a part p m.1 f.1 e
part_means d (Both n a b) part (PHole h) m f e = absurd m
part_means d (Both n a b) part (PLeaf op) m f e = absurd m
part_means d (Both n a b) part (POne op p) m f e = absurd m
part_means d (Both n a b) part (PTwo op p q) m f (inl e) = this_part d (Both n a b) part (PTwo op p q) m f e
part_means d (Both n a b) part (PTwo op p q) m f (inr (inl e)) = part_means d a part p m.1.0 f.1.0 e
part_means d (Both n a b) part (PTwo op p q) m f (inr (inr e)) = part_means d b part q m.1.1 f.1.1 e

pub as_many_nodes : (d : MDescription) (tree : MNamed) (p : MPattern) → PatternMeans d tree p → pattern_nodes p ≡ names_in tree
as_many_nodes d (Alone n) (PHole h) m = refl
as_many_nodes d (Alone n) (PLeaf op) m = refl
as_many_nodes d (Alone n) (POne op p) m = absurd m
as_many_nodes d (Alone n) (PTwo op p q) m = absurd m
as_many_nodes d (Over n a) (PHole h) m = absurd m
as_many_nodes d (Over n a) (PLeaf op) m = absurd m
as_many_nodes d (Over n a) (PTwo op p q) m = absurd m
as_many_nodes d (Over n a) (POne op p) m = let k = as_many_nodes d a p m.1 in omega arith
as_many_nodes d (Both n a b) (PHole h) m = absurd m
as_many_nodes d (Both n a b) (PLeaf op) m = absurd m
as_many_nodes d (Both n a b) (POne op p) m = absurd m
as_many_nodes d (Both n a b) (PTwo op p q) m = let k = as_many_nodes d a p m.1.0 in let l = as_many_nodes d b q m.1.1 in omega arith

-- the name of a part is a nonterminal's, or that of a terminal with so many operands
pub root_means : (d : MDescription) (part : MNamed) (p : MPattern) → PatternMeans d part p → FitsIn d p → (Among (root_of part) d.nonterminals × (operands_of part ≡ 0)) ⊎ NameHas d (root_of part) (operands_of part)
root_means d (Alone n) (PHole h) m f = inl ((h, m), refl)
root_means d (Alone n) (PLeaf op) m f = inr (op, m, f)
root_means d (Alone n) (POne op p) m f = absurd m
root_means d (Alone n) (PTwo op p q) m f = absurd m
root_means d (Over n a) (PHole h) m f = absurd m
root_means d (Over n a) (PLeaf op) m f = absurd m
root_means d (Over n a) (PTwo op p q) m f = absurd m
root_means d (Over n a) (POne op p) m f = inr (op, m.0, f.0)
root_means d (Both n a b) (PHole h) m f = absurd m
root_means d (Both n a b) (PLeaf op) m f = absurd m
root_means d (Both n a b) (POne op p) m f = absurd m
root_means d (Both n a b) (PTwo op p q) m f = inr (op, m.0, f.0)

-- ---- rules and the start symbol

pub rule_means : (d : MDescription) (ss : List MRule) (rs : List Rule) (i : ℕ) (s : MRule) → RulesMean d ss rs → slice_get ss i ≡ Some s → (r : Rule) × (slice_get rs i ≡ Some r) × RuleMeans d s r
rule_means d [] rs i s m g = absurd (none-some s g)
rule_means d (x ∷ ss) [] i s m g = absurd m
rule_means d (x ∷ ss) (r ∷ rs) zero s m g = let P : MRule → Type 0 = λ y. RuleMeans d y r in (r, refl, subst P (same_Some x s g) m.0)
rule_means d (x ∷ ss) (r ∷ rs) (suc i) s m g = rule_means d ss rs i s m.1 g

pub means_rule : (d : MDescription) (ss : List MRule) (rs : List Rule) (i : ℕ) (r : Rule) → RulesMean d ss rs → slice_get rs i ≡ Some r → (j : ℕ) × (s : MRule) × (slice_get ss j ≡ Some s) × RuleMeans d s r
means_rule d ss [] i r m g = absurd (none-some r g)
means_rule d [] (y ∷ rs) i r m g = absurd m
means_rule d (x ∷ ss) (y ∷ rs) zero r m g = let P : Rule → Type 0 = λ z. RuleMeans d x z in (zero, x, refl, subst P (same_Some y r g) m.0)
means_rule d (x ∷ ss) (y ∷ rs) (suc i) r m g = let k = means_rule d ss rs i r m.1 g in (suc k.0, k.1, k.2, k.3)

pub as_many_rules : (d : MDescription) (ss : List MRule) (rs : List Rule) → RulesMean d ss rs → length ss ≡ length rs
as_many_rules d [] [] m = refl
as_many_rules d [] (r ∷ rs) m = absurd m
as_many_rules d (s ∷ ss) [] m = absurd m
as_many_rules d (s ∷ ss) (r ∷ rs) m = ap suc (as_many_rules d ss rs m.1)

pub start_means : (d : MDescription) (names : List (List ℕ)) (i : ℕ) (name : List ℕ) → StartMeans d names → slice_get names i ≡ Some name → slice_get d.nonterminals d.start ≡ Some name
start_means d [] i name m g = absurd (none-some name g)
start_means d (x ∷ []) zero name m g = m ∙ g
start_means d (x ∷ []) (suc i) name m g = absurd (none-some name g)
start_means d (x ∷ y ∷ names) i name m g = absurd m

pub one_start : (d : MDescription) (names : List (List ℕ)) → StartMeans d names → 2 ≤ length names → ⊥
one_start d [] m n = omega arith
one_start d (x ∷ []) m n = omega arith
one_start d (x ∷ y ∷ names) m n = m
