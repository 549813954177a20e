-- Readers up to each limit are exact.
use Rattle.std.proofs.Common.{◌≡◌, ◌≤◌, ℕ, zero, suc, Bool, None, List, [], ◌∷◌, refl, sym, subst, ap, ◌∙◌, arith}
use Rattle.c_ast.specs.Lexemes.{Lexeme, Placed}
use Rattle.c_ast.specs.Marks.{Mark}
use Rattle.c_ast.specs.Trees.{ExprTree, Name, Integer, Character, Text, Enclosed, Index, Call, Member, Postfix, Prefix, SizeofExpr, SizeofType, Cast, Binary, Conditional, Assign, Comma, MemberTree, Members, DeclaratorTree, Declarator}
use Rattle.c_ast.specs.ExprMarks as marks
use Rattle.c_ast.specs.Levels.{Parts, FitsMember}
use Rattle.c_ast.specs.Heights.{height, declarator_height, member_height}
use Rattle.c_ast.specs.Reach.{goes_on, goes_on_whole}
use Rattle.c_readings.specs.Reading.{State, Read}
use Rattle.c_readings.specs.Readers.{Readers, readers, no_readers, above}
use Rattle.c_readings.specs.Exact.{Exact, AreExact, FitsAt, FitsFree, nothing_more, where_left}
use Rattle.c_readings.proofs.Types.{types_exact, parameter_exact, member_above_exact}
use Rattle.c_readings.proofs.Declarators.{declarator_above_exact, declarator_above_no_longer}
use Rattle.c_readings.proofs.Expressions.{piece_above_exact, whole_above_exact}

-- ---- no tree is of height 0

height_some : (e : ExprTree) → 1 ≤ height e
height_some (Name l n) = omega arith
height_some (Integer l v k) = omega arith
height_some (Character l v) = omega arith
height_some (Text l bs) = omega arith
height_some (Enclosed l e) = omega arith
height_some (Index l a i) = omega arith
height_some (Call l f es) = omega arith
height_some (Member l op a n) = omega arith
height_some (Postfix l op a) = omega arith
height_some (Prefix l op a) = omega arith
height_some (SizeofExpr l a) = omega arith
height_some (SizeofType l t) = omega arith
height_some (Cast l t a) = omega arith
height_some (Binary l op a b) = omega arith
height_some (Conditional l a b c) = omega arith
height_some (Assign l op a b) = omega arith
height_some (Comma l es) = omega arith

declarator_height_some : (d : DeclaratorTree) → 1 ≤ declarator_height d
declarator_height_some (Declarator l ps c ss) = omega arith

member_height_some : (m : MemberTree) → 1 ≤ member_height m
member_height_some (Members l s fs) = omega arith

none_left : {A : Type 0} (ts : List Placed) → where_left {A = A} ts None ≡ None
none_left [] = refl
none_left (t ∷ ts) = refl

-- what reads nothing is exact where each tree is higher than the limit
pub nothing_exact : {A : Type 0} (spelled : A → List Mark → List Mark) (Fits : A → Type 0) (goes_on : A → Lexeme → Bool) (high : A → ℕ) (least : ℕ) (read : State → Read A) → ((x : A) → 1 ≤ high x) → ((s : State) → read s ≡ None) → Exact spelled Fits goes_on high 0 least read
nothing_exact spelled Fits goes_on high least read some none = record {
  piece = λ s x t h. let e = none s in absurd cc;
  found = λ s x r f l g h. let k = some x in absurd (omega arith);
}

none_exact : AreExact no_readers
none_exact = record {
  piece = λ level h k. nothing_exact marks.expr (FitsAt level) (goes_on level) height 1 (no_readers.piece level) height_some (λ s. refl);
  whole = nothing_exact marks.expr Parts goes_on_whole height 1 no_readers.whole height_some (λ s. refl);
  declarator = λ free outer. nothing_exact (marks.declarator free outer) (FitsFree free) nothing_more declarator_height 0 (λ s. where_left s.rest None) declarator_height_some (λ s. none_left s.rest);
  no_longer = λ free outer s x t h. absurd cc;
  member = nothing_exact marks.member FitsMember nothing_more member_height 1 no_readers.member member_height_some (λ s. refl);
}

-- ---- one node more

above_exact : (R : Readers) → AreExact R → AreExact (above R)
above_exact R e = record {
  piece = λ level h k. piece_above_exact R e (types_exact R e).type_name level h k;
  whole = whole_above_exact R e (types_exact R e).type_name;
  declarator = λ free outer. declarator_above_exact R e (parameter_exact R e) free outer;
  no_longer = declarator_above_no_longer R e (parameter_exact R e);
  member = member_above_exact R e;
}

pub no_limit : readers zero ≡ no_readers
unfolding readers
no_limit = refl

pub one_more : (n : ℕ) → readers (suc n) ≡ above (readers n)
unfolding readers
one_more n = refl

pub exact : (n : ℕ) → AreExact (readers n)
exact zero = subst AreExact (sym no_limit) none_exact
exact (suc n) = subst AreExact (sym (one_more n)) (above_exact (readers n) (exact n))

pub limit : (n : ℕ) → (readers n).limit ≡ n
limit zero = ap (λ (R : Readers). R.limit) no_limit
limit (suc n) = ap (λ (R : Readers). R.limit) (one_more n) ∙ ap suc (limit n)
