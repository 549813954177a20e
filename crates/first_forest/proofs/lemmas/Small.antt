-- The roots of a program have no more nodes than its text has bytes, and at most three for each node of the program.
-- ---- as many tokens as nodes
use Rattle.std.specs.Prelude.{◌≡◌, ℕ, ◌+◌, ◌*◌, ◌≤◌, List, [], ◌∷◌, ◌++◌, length, sum_by, flat_map, codes}
use Rattle.std.proofs.Common.{ap, ◌∙◌, arith, inl, inr, length-append}
use Rattle.std.proofs.lemmas.List.Sums.{sum_by-cons}
use Rattle.first_form.specs.Expression.{MExpression, Constant, Negated, Combined, Enclosed}
use Rattle.first_form.specs.FirstProgram.{MProgram}
use Rattle.first_form.specs.Tokens.{Token, IsToken, Begins, AreTokens}
use Rattle.first_form.specs.Grammar.{sign_of, tokens_then}
use Rattle.first_form.specs.FirstForm.{IsFirst, statements_then, result_tokens, program_tokens}
use Rattle.op_forest.specs.declared.op.Op.TheVariants as op
use Rattle.op_forest.specs.Nodes.{Node, One, nodes}
use Rattle.first_forest.specs.FirstForest.{int_head, putchar_node, expression_node, print_roots, return_root, roots_of}
use Rattle.first_forest.specs.Size.{expression_nodes, statement_nodes, program_nodes}

expression_tokens : (e : MExpression) (rest : List Token) → nodes (expression_node e) + length rest ≤ length (tokens_then e rest)
expression_tokens (Constant n) rest = omega arith
expression_tokens (Negated e) rest = let h = expression_tokens e rest in omega (arith, h)
expression_tokens (Combined o a b) rest =
    let h = expression_tokens a (sign_of o ∷ tokens_then b rest) in
    let k = expression_tokens b rest in
    omega (arith, h, k)
expression_tokens (Enclosed e) rest = let h = expression_tokens e (codes ")" ∷ rest) in omega (arith, h)

-- the nodes of a statement that prints, before further roots
print_nodes : (e : MExpression) (rest : List Node) → sum_by nodes (print_roots e ++ rest) ≡ nodes (expression_node e) + 3 + sum_by nodes rest
print_nodes e rest =
    let argument = sum_by-cons nodes (One (int_head op.Arg) (expression_node e)) (One (int_head op.Call) putchar_node ∷ rest) in
    let call = sum_by-cons nodes (One (int_head op.Call) putchar_node) rest in
    omega (arith, argument, call)

-- those of the statement that returns
return_nodes : (r : MExpression) → sum_by nodes (return_root r ∷ []) ≡ nodes (expression_node r) + 1
return_nodes r = let n = sum_by-cons nodes (return_root r) [] in omega (arith, n)

statement_tokens : (es : List MExpression) (r : MExpression) → sum_by nodes (flat_map print_roots es ++ return_root r ∷ []) ≤ length (statements_then es (result_tokens r))
statement_tokens [] r =
    let h = expression_tokens r (codes ";" ∷ (codes "}" ∷ [])) in
    let n = return_nodes r in
    omega (arith, h, n)
statement_tokens (e ∷ es) r =
    let h = expression_tokens e (codes ")" ∷ (codes ";" ∷ statements_then es (result_tokens r))) in
    let k = statement_tokens es r in
    let n = print_nodes e (flat_map print_roots es ++ return_root r ∷ []) in
    omega (arith, h, k, n)

program_token_count : (p : MProgram) → sum_by nodes (roots_of p) ≤ length (program_tokens p)
program_token_count p = let h = statement_tokens p.prints p.result in omega (arith, h)

-- ---- each token has a byte

token_long : (t : Token) → IsToken t → 1 ≤ length t
token_long [] (inl (inl p)) = p.some
token_long [] (inl (inr p)) = absurd (let f = p.first in cc)
token_long [] (inr p) = absurd cc
token_long (b ∷ t) p = omega arith

begins_long : (bytes t rest : List ℕ) → Begins bytes t rest → 1 + length rest ≤ length bytes
begins_long bytes t rest b =
    let whole : length bytes ≡ length b.gap + length b.behind = ap length b.parts ∙ length-append b.gap b.behind in
    let next : length b.behind ≡ length t + length rest = ap length b.next.parts ∙ length-append t rest in
    let some = token_long t b.next.token in
    omega (arith, whole, next, some)

tokens_long : (ts : List Token) (bytes : List ℕ) → AreTokens ts bytes → length ts ≤ length bytes
tokens_long [] bytes h = omega arith
tokens_long (t ∷ ts) bytes h =
    let one = begins_long bytes t h.0 h.1 in
    let more = tokens_long ts h.0 h.2 in
    omega (arith, one, more)

pub small : (text : List ℕ) (p : MProgram) → IsFirst text p → sum_by nodes (roots_of p) ≤ length text
small text p h =
    let count = program_token_count p in
    let long = tokens_long (program_tokens p) text h.spelled in
    omega (arith, count, long)

-- ---- three nodes for each node of the program

expression_few : (e : MExpression) → nodes (expression_node e) ≤ expression_nodes e
expression_few (Constant n) = omega arith
expression_few (Negated e) = let h = expression_few e in omega (arith, h)
expression_few (Combined o a b) = let h = expression_few a in let k = expression_few b in omega (arith, h, k)
expression_few (Enclosed e) = let h = expression_few e in omega (arith, h)

statements_few : (es : List MExpression) (r : MExpression) → sum_by nodes (flat_map print_roots es ++ return_root r ∷ []) ≤ 3 * (sum_by statement_nodes es + statement_nodes r)
statements_few [] r = let h = expression_few r in let n = return_nodes r in omega (arith, h, n)
statements_few (e ∷ es) r =
    let h = expression_few e in
    let k = statements_few es r in
    let n = print_nodes e (flat_map print_roots es ++ return_root r ∷ []) in
    let m = sum_by-cons statement_nodes e es in
    omega (arith, h, k, n, m)

pub few : (p : MProgram) → sum_by nodes (roots_of p) ≤ 3 * program_nodes p
few p = let h = statements_few p.prints p.result in omega (arith, h)
