-- The labels of statements, by their parts', and the places of labels.
use Rattle.std.specs.Prelude.{◌≡◌, ℕ, suc, ◌+◌, ◌==◌, Bool, true, false, Option, Some, None, MatchOption, List, [], ◌∷◌, ◌++◌, length, if◌then◌else◌}
use Rattle.std.proofs.Common.{◌⊎◌, inl, inr, refl, sym, ap, ◌∙◌, subst, append_assoc, append-nil, arith}
use Rattle.std.proofs.lemmas.Bool.{true≢false}
use Rattle.std.proofs.lemmas.Bool.Decides.{nat_tests}
use Rattle.std.specs.Global.{Box}
use Rattle.c_types.specs.CType.{CType}
use Rattle.c_meaning.specs.declared.core_stmt.CoreCase.{CoreCase}
use Rattle.c_meaning.specs.declared.core_stmt.CoreForHead.{CoreForHead}
use Rattle.c_meaning.specs.declared.core_stmt.CoreStmt.{CoreStmt}
use Rattle.c_meaning.specs.declared.core_stmt.CoreStmt.TheVariants as stmt
use Rattle.c_meaning.specs.declared.filled_place.FilledPlace.{FilledPlace}
use Rattle.c_meaning.specs.CoreTrees.{CoreOf}
use Rattle.c_meaning.specs.Units.{labels, all_labels}
use Rattle.lowered_statements.specs.Functions.{place_in}
use Rattle.statement_steps.specs.Numbering.{all_labels_of, first_among, labels_of, trees_of}
use Rattle.statement_steps.proofs.lemmas.Trees.{is_block, is_break, is_continue, is_do, is_expression, is_for, is_goto, is_if, is_initialise, is_label, is_nothing, is_return, is_switch, is_while}

-- ---- statements

all_are : (known : ℕ → CType) (ss : List CoreStmt) → all_labels (trees_of known ss) ≡ all_labels_of known ss
all_are known [] = refl
all_are known (s ∷ ss) = ap (λ ls. labels_of known s ++ ls) (all_are known ss)

pub block_has : (known : ℕ → CType) (first locals : ℕ) (ss : List CoreStmt) → all_labels_of known ss ≡ labels_of known (stmt.Block first locals ss)
block_has known first locals ss = sym (ap labels (is_block known first locals ss) ∙ all_are known ss)

pub if_has : (known : ℕ → CType) (e : Box (CoreOf ℕ)) (s u : Box CoreStmt) → labels_of known s.value ++ labels_of known u.value ≡ labels_of known (stmt.If e s u)
if_has known e s u = sym (ap labels (is_if known e s u))

pub while_has : (known : ℕ → CType) (e : CoreOf ℕ) (s : Box CoreStmt) → labels_of known s.value ≡ labels_of known (stmt.While e s)
while_has known e s = sym (ap labels (is_while known e s))

pub do_has : (known : ℕ → CType) (s : Box CoreStmt) (e : CoreOf ℕ) → labels_of known s.value ≡ labels_of known (stmt.Do s e)
do_has known s e = sym (ap labels (is_do known s e))

pub for_has : (known : ℕ → CType) (h : Box CoreForHead) (s : Box CoreStmt) → labels_of known s.value ≡ labels_of known (stmt.For h s)
for_has known h s = sym (ap labels (is_for known h s))

pub switch_has : (known : ℕ → CType) (e : Box (CoreOf ℕ)) (cases : List CoreCase) (default : Option ℕ) (s : Box CoreStmt) → labels_of known s.value ≡ labels_of known (stmt.Switch e cases default s)
switch_has known e cases default s = sym (ap labels (is_switch known e cases default s))

pub label_has : (known : ℕ → CType) (n : ℕ) (s : Box CoreStmt) → n ∷ labels_of known s.value ≡ labels_of known (stmt.Label n s)
label_has known n s = sym (ap labels (is_label known n s))

abbrev pub IsWithout : CoreStmt → Type 0
IsWithout s =
    (s ≡ stmt.Nothing)
    ⊎ (((e : CoreOf ℕ) × (s ≡ stmt.Expression e))
    ⊎ (((local : ℕ) × (zero : Bool) × (ps : List FilledPlace) × (s ≡ stmt.Initialise local zero ps))
    ⊎ (((n : ℕ) × (s ≡ stmt.Goto n)) ⊎ ((s ≡ stmt.Break) ⊎ ((s ≡ stmt.Continue) ⊎ ((e : Option (CoreOf ℕ)) × (s ≡ stmt.Return e)))))))

pub without_labels : (known : ℕ → CType) (s : CoreStmt) → IsWithout s → labels_of known s ≡ []
without_labels known s (inl e) = ap (labels_of known) e ∙ ap labels (is_nothing known)
without_labels known s (inr (inl w)) = ap (labels_of known) w.1 ∙ ap labels (is_expression known w.0)
without_labels known s (inr (inr (inl w))) = ap (labels_of known) w.3 ∙ ap labels (is_initialise known w.0 w.1 w.2)
without_labels known s (inr (inr (inr (inl w)))) = ap (labels_of known) w.1 ∙ ap labels (is_goto known w.0)
without_labels known s (inr (inr (inr (inr (inl e))))) = ap (labels_of known) e ∙ ap labels (is_break known)
without_labels known s (inr (inr (inr (inr (inr (inl e)))))) = ap (labels_of known) e ∙ ap labels (is_continue known)
without_labels known s (inr (inr (inr (inr (inr (inr w)))))) = ap (labels_of known) w.1 ∙ ap labels (is_return known w.0)

abbrev pub IsOver : CoreStmt → Box CoreStmt → Type 0
IsOver s body =
    ((x : CoreOf ℕ) × (s ≡ stmt.While x body))
    ⊎ (((x : CoreOf ℕ) × (s ≡ stmt.Do body x))
    ⊎ (((x : Box CoreForHead) × (s ≡ stmt.For x body)) ⊎ ((x : Box (CoreOf ℕ)) × (cases : List CoreCase) × (default : Option ℕ) × (s ≡ stmt.Switch x cases default body))))

pub body_has : (known : ℕ → CType) (s : CoreStmt) (body : Box CoreStmt) → IsOver s body → labels_of known body.value ≡ labels_of known s
body_has known s body (inl w) = while_has known w.0 body ∙ ap (labels_of known) (sym w.1)
body_has known s body (inr (inl w)) = do_has known body w.0 ∙ ap (labels_of known) (sym w.1)
body_has known s body (inr (inr (inl w))) = for_has known w.0 body ∙ ap (labels_of known) (sym w.1)
body_has known s body (inr (inr (inr w))) = switch_has known w.0 w.1 w.2 body ∙ ap (labels_of known) (sym w.3)

-- ---- labels that are added

pub none_added : (old more : List ℕ) → more ≡ [] → old ≡ old ++ more
none_added old more e = sym (append-nil old) ∙ ap (λ ls. old ++ ls) (sym e)

pub added_as : (new old more other : List ℕ) → new ≡ old ++ more → more ≡ other → new ≡ old ++ other
added_as new old more other e d = e ∙ ap (λ ls. old ++ ls) d

pub added_both : (new mid old one two both : List ℕ) → mid ≡ old ++ one → new ≡ mid ++ two → one ++ two ≡ both → new ≡ old ++ both
added_both new mid old one two both e d h = d ∙ ap (λ ls. ls ++ two) e ∙ append_assoc old one two ∙ ap (λ ls. old ++ ls) h

-- ---- places

same_test : (m n : ℕ) → (m == n) ≡ (n == m)
same_test m n = grind (arith, nat_tests)

place_step : (b c : Bool) (from : ℕ) (later : Option ℕ) (q len : ℕ) → b ≡ c → MatchOption later (q ≡ len) (λ p. p ≡ suc from + q)
    → MatchOption (if b then Some from else later) ((if c then 0 else suc q) ≡ suc len) (λ p. p ≡ from + (if c then 0 else suc q))
place_step true true from later q len e h = omega arith
place_step true false from later q len e h = absurd (true≢false e)
place_step false true from later q len e h = absurd (true≢false (sym e))
place_step false false from None q len e h = ap suc h
place_step false false from (Some p) q len e h = omega (arith, h)

places_are : (from : ℕ) (ls : List ℕ) (n : ℕ) → MatchOption (first_among from ls n) (place_in n ls ≡ length ls) (λ p. p ≡ from + place_in n ls)
places_are from [] n = refl
places_are from (m ∷ ms) n = place_step (m == n) (n == m) from (first_among (suc from) ms n) (place_in n ms) (length ms) (same_test m n) (places_are (suc from) ms n)

pub place_found : (ls all : List ℕ) (o : Option ℕ) (n p : ℕ) → ls ≡ all → o ≡ first_among 0 ls n → Some p ≡ o → p ≡ place_in n all
place_found ls all o n p same is e =
    let h : p ≡ 0 + place_in n ls = subst (λ (x : Option ℕ). MatchOption x (place_in n ls ≡ length ls) (λ q. q ≡ 0 + place_in n ls)) (sym (e ∙ is)) (places_are 0 ls n) in
    let d : p ≡ place_in n ls = omega (arith, h) in
    d ∙ ap (place_in n) same

pub no_place : (ls all : List ℕ) (o : Option ℕ) (n : ℕ) → ls ≡ all → o ≡ first_among 0 ls n → None ≡ o → length ls ≡ place_in n all
no_place ls all o n same is e =
    let h : place_in n ls ≡ length ls = subst (λ (x : Option ℕ). MatchOption x (place_in n ls ≡ length ls) (λ q. q ≡ 0 + place_in n ls)) (sym (e ∙ is)) (places_are 0 ls n) in
    sym h ∙ ap (place_in n) same
