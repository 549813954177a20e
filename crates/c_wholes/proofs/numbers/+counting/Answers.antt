use Rattle.std.proofs.Common.{◌≡◌, ◌+◌, List, arith, drop, map, subst, sym}
use Rattle.std.proofs.lemmas.List.{drop_all}
use Rattle.std.proofs.lemmas.Option.{IfSome_then}
use Rattle.c_meaning.specs.declared.core_stmt.CoreStmt.{CoreStmt}
use Rattle.c_meaning.specs.StmtTrees.{stmt_of, stmts_of}
use Rattle.c_wholes.specs.Numbering.{AreCounted, IsCounted, PlacesHaveWords}
use Rattle.c_wholes.proofs.NumberTrees.{block_counted, initialise_counted, more_counted, none_counted, onward}
use Rattle.c_wholes.proofs.numbers.+counting.Goals as goal

pub count_statements-loop-s-init : goal.count_statements-loop-s-init
count_statements-loop-s-init t c = λ end' h. h

pub count_statements-loop-s-preserved : goal.count_statements-loop-s-preserved
count_statements-loop-s-preserved t c =
    let l = c.loop-s in
    λ end' h. l.invariant end'
    (onward c.args.list.now l.s-index c.s-item.result c.loop-s-test.true c.s-item.is (λ (ss : List CoreStmt). AreCounted l.left end' (stmts_of (map stmt_of ss)))
    (more_counted l.left c.in_ok-left.left end' (stmt_of c.s-item.result) (stmts_of (map stmt_of (drop (l.s-index + 1) c.args.list.now))) c.in_ok-left.ensures h))

pub count_statements-returns : goal.count_statements-returns
count_statements-returns t c =
    let l = c.loop-s in
    l.invariant l.left (subst (λ (ss : List CoreStmt). AreCounted l.left l.left (stmts_of (map stmt_of ss))) (sym (drop_all l.s-index c.args.list.now c.loop-s-test.false)) (none_counted l.left))

pub count_statement-returns-in-Initialise : goal.count_statement-returns-in-Initialise
count_statement-returns-in-Initialise t c =
    let b = c.in-Initialise in
    let less : c.in_ok-left.left + 1 ≡ c.args.most = let e = c.in_ok-left.ensures in omega (arith, e) in
    subst (λ s. IsCounted c.args.most c.in_ok-left.left (stmt_of s)) (sym b.is) (initialise_counted c.args.most c.in_ok-left.left less b.local b.zero b.places (subst PlacesHaveWords c.as_slice.ensures c.read_places.ensures))

pub count_statement-returns-in-Block : goal.count_statement-returns-in-Block
count_statement-returns-in-Block t c =
    let b = c.in-Block in
    let less : c.in_ok-left.left + 1 ≡ c.args.most = let e = c.in_ok-left.ensures in omega (arith, e) in
    IfSome_then c.count_statements.result c.count_statements.ensures
    (λ end' h. subst (λ s. IsCounted c.args.most end' (stmt_of s)) (sym b.is) (block_counted c.args.most c.in_ok-left.left less end' b.first b.locals b.statements (subst (λ (ss : List CoreStmt). AreCounted c.in_ok-left.left end' (stmts_of (map stmt_of ss))) c.as_slice-in-Block.ensures h)))
