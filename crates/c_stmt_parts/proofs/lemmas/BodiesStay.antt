-- What stays of a function's body when a table grows.
use Rattle.std.proofs.Common.{◌≡◌, ℕ, ◌<◌, List, [], ◌∷◌, length, refl, ap}
use Rattle.c_types.specs.CType.{CType}
use Rattle.c_types.specs.Table.{Table, Extends}
use Rattle.c_meaning.specs.declared.core_stmt.CoreStmt.{CoreStmt}
use Rattle.c_meaning.specs.Declarations.{Declares as DeclaresTrees, Defined, Linked}
use Rattle.c_meaning.specs.StmtTrees.{stmt_of}
use Rattle.c_units.specs.Bodies.{Body as BodyTrees}
use Rattle.c_check_decl.specs.declared.declares.Declares.{Declares}
use Rattle.c_check_decl.specs.Declares.{AreDeclaredIn}
use Rattle.c_check_decl.proofs.lemmas.DeclaresStay.{declares_later, declares_stay}
use Rattle.c_check_decl.proofs.lemmas.StmtsStay.{stmt_later, stmt_stays}
use Rattle.c_stmt_parts.specs.declared.around.Within.{Within}
use Rattle.c_stmt_parts.specs.declared.body.Body.{Body}
use Rattle.c_stmt_parts.specs.BodiesSeen.{IsBodyIn, body_in, within_in}
use Rattle.c_stmt_parts.specs.StatementsIn.{AreStmtsBelow, IsCodeIn, code_in, stmts_in}

abbrev parts : Body → List CType → List Defined → List Linked → BodyTrees
parts b ls os ns = record { marks = b.marks; cases = b.cases; default = b.default; lost = b.lost; locals = ls; objects = os; linked = ns }

same_parts : (x : Body) {l m : List CType} {o p : List Defined} {n k : List Linked} → l ≡ m → o ≡ p → n ≡ k → parts x l o n ≡ parts x m p k
same_parts x a b c = rw (a, b, c) refl

-- what it has of declarations
abbrev declared : Body → Declares
declared x = record { objects = x.objects; locals = x.locals; fills = []; linked = x.linked }

declared_within : (n : ℕ) (x : Body) → IsBodyIn n x → AreDeclaredIn n (declared x)
declared_within n x i = record { objects = i.objects; locals = i.locals; fills = tt; linked = i.linked }

-- ---- what it has is seen the same over the later table

pub body_stays : (a b : Table) → Extends a b → (x : Body) → IsBodyIn (length a.forms) x → body_in b x ≡ body_in a x
body_stays a b h x i =
    let e = declares_stay a b h (declared x) (declared_within (length a.forms) x i) in
    same_parts x (ap (λ (d : DeclaresTrees). d.locals) e) (ap (λ (d : DeclaresTrees). d.objects) e) (ap (λ (d : DeclaresTrees). d.linked) e)

pub within_stays : (a b : Table) → Extends a b → (w : Within) → w.result < length a.forms → within_in b w ≡ within_in a w
within_stays a b h w l = ap (λ (t : CType). record { result = t; labels = w.labels }) (h.types_stay w.result l)

pub code_stays : (a b : Table) → Extends a b → (p : Body × CoreStmt) → IsCodeIn (length a.forms) p → code_in b p ≡ code_in a p
code_stays a b h p i = rw (body_stays a b h p.0 i.0, stmt_stays a b h (stmt_of p.1) i.1) refl

pub statements_stay : (a b : Table) → Extends a b → (ss : List CoreStmt) → AreStmtsBelow (length a.forms) ss → stmts_in b ss ≡ stmts_in a ss
statements_stay a b h [] i = refl
statements_stay a b h (s ∷ ss) i = rw (stmt_stays a b h (stmt_of s) i.0, statements_stay a b h ss i.1) refl

-- ---- its types stay below the end of the table

pub body_later : (a b : Table) → Extends a b → (x : Body) → IsBodyIn (length a.forms) x → IsBodyIn (length b.forms) x
body_later a b h x i =
    let j = declares_later a b h (declared x) (declared_within (length a.forms) x i) in
    record { locals = j.locals; objects = j.objects; linked = j.linked }

pub code_later : (a b : Table) → Extends a b → (p : Body × CoreStmt) → IsCodeIn (length a.forms) p → IsCodeIn (length b.forms) p
code_later a b h p i = (body_later a b h p.0 i.0, stmt_later a b h (stmt_of p.1) i.1)

pub statements_later : (a b : Table) → Extends a b → (ss : List CoreStmt) → AreStmtsBelow (length a.forms) ss → AreStmtsBelow (length b.forms) ss
statements_later a b h [] i = tt
statements_later a b h (s ∷ ss) i = (stmt_later a b h (stmt_of s) i.0, statements_later a b h ss i.1)
