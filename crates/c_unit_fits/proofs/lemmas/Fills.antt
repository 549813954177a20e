-- What local objects begin with are statements that initialise, without labels and blocks.
use Rattle.std.proofs.Common.{◌≡◌, ℕ, List, [], ◌∷◌, ◌++◌, refl, ap, subst, ◌∙◌, add-zero, zero-add}
use Rattle.std.specs.Prelude.{Option, Some, None, ◌||◌}
use Rattle.c_ast.specs.Trees.{DeclarationTree, InitTree, InitialiserTree}
use Rattle.c_types.specs.CType.{CType}
use Rattle.c_meaning.specs.BlockLocals.{all_declared_in, all_are_next}
use Rattle.c_meaning.specs.Declarations.{Declares, Naming, alone_declares, declares, fills_of, is_static, is_typedef, linked_declares, local, nothing, object, one_object, or_zero}
use Rattle.c_meaning.specs.DeclaringRelation.{TypesDeclaration, TypesInit, TypesInits}
use Rattle.c_meaning.specs.Initialising.{Filled}
use Rattle.c_meaning.specs.Declaring.{type_filled, with_type, with_type_here}
use Rattle.c_meaning.specs.Linkage.{is_linked, local_count}
use Rattle.c_meaning.specs.State.{State, place_here}
use Rattle.c_meaning.specs.StmtTrees.{StmtOf, Initialise, StmtsOf}
use Rattle.c_meaning.specs.TypeRows.{Specified}
use Rattle.c_meaning.specs.Types.{is_function}
use Rattle.c_meaning.specs.Units.{all_labels}
use Rattle.c_units.specs.Bodies.{stmts_behind}
use Rattle.c_units.specs.BodiesRelation.{TypesDeclarations}
use Rattle.c_fits.proofs.lemmas.Values.{chosen_by}

abbrev pub IsFill : StmtOf CType → Type 0
IsFill (Initialise place zero places) = Unit {0}
IsFill s = ⊥

abbrev pub AreFills : List (StmtOf CType) → Type 0
AreFills [] = Unit {0}
AreFills (s ∷ ss) = IsFill s × AreFills ss

-- ---- behind them statements stay as they are

pub fills_label : (fs : List (StmtOf CType)) (ss : StmtsOf CType) → AreFills fs → all_labels (stmts_behind fs ss) ≡ all_labels ss
fills_label [] ss h = refl
fills_label (Initialise place zero places ∷ fs) ss h = fills_label fs ss h.1
fills_label (f ∷ fs) ss h = absurd h.0

pub fills_declared : (fs : List (StmtOf CType)) (ss : StmtsOf CType) → AreFills fs → all_declared_in (stmts_behind fs ss) ≡ all_declared_in ss
fills_declared [] ss h = refl
fills_declared (Initialise place zero places ∷ fs) ss h = zero-add (all_declared_in (stmts_behind fs ss)) ∙ fills_declared fs ss h.1
fills_declared (f ∷ fs) ss h = absurd h.0

pub fills_next : (n : ℕ) (fs : List (StmtOf CType)) (ss : StmtsOf CType) → AreFills fs → all_are_next n (stmts_behind fs ss) ≡ all_are_next n ss
fills_next n [] ss h = refl
fills_next n (Initialise place zero places ∷ fs) ss h = ap (λ k. all_are_next k (stmts_behind fs ss)) (add-zero n) ∙ fills_next n fs ss h.1
fills_next n (f ∷ fs) ss h = absurd h.0

-- ---- those of declarations

fills_join : (fs gs : List (StmtOf CType)) → AreFills fs → AreFills gs → AreFills (fs ++ gs)
fills_join [] gs h k = k
fills_join (f ∷ fs) gs h k = (h.0, fills_join fs gs h.1 k)

local_fills : (place : ℕ) (of : CType) (i : Option InitialiserTree) (f : Option Filled) → AreFills (fills_of place of i f)
local_fills place of i None = tt
local_fills place of i (Some f) = (tt, tt)

declares_fill : (s : State) (line place : ℕ) (of : CType) (n : Naming) (i : Option InitialiserTree) (f : Option Filled) → AreFills (declares s line place of n i f).fills
declares_fill s line place of n i f =
    chosen_by (λ (d : Declares). AreFills d.fills) (is_linked n.linkage) (linked_declares s line of n f) (alone_declares s line place n i f) (λ e. tt)
    (λ e. chosen_by (λ (d : Declares). AreFills d.fills) (is_typedef n.class || is_function n.of) nothing _ (λ e. tt)
    (λ e. chosen_by (λ (d : Declares). AreFills d.fills) (is_static n.class) (one_object (object (or_zero (place_here s n.name)) line n f)) (local place n.of i f) (λ e. tt)
    (λ e. local_fills place n.of i f)))

init_fills : (s : State) (line : ℕ) (b : Specified) (i : InitTree) (u : State) (x : Declares) → TypesInit s line b i u x → AreFills x.fills
init_fills s line b i u x h = subst (λ (x : Declares). AreFills x.fills) h.3.3.1.1 (declares_fill h.3.0 line (local_count s) h.1.of (with_type h.1 (type_filled (with_type_here h.0 h.1).of h.3.1)) i.initialiser h.3.1)

inits_fill : (s : State) (line : ℕ) (b : Specified) (is : List InitTree) (u : State) (x : Declares) → TypesInits s line b is u x → AreFills x.fills
inits_fill s line b [] u x h = subst (λ (x : Declares). AreFills x.fills) h.1 tt
inits_fill s line b (i ∷ is) u x h =
    subst (λ (x : Declares). AreFills x.fills) h.3.3.1 (fills_join h.1.fills h.3.1.fills (init_fills s line b i h.0 h.1 h.2) (inits_fill h.0 line b is h.3.0 h.3.1 h.3.2))

declaration_fills : (s : State) (d : DeclarationTree) (u : State) (x : Declares) → TypesDeclaration s d u x → AreFills x.fills
declaration_fills s d u x h = subst (λ (x : Declares). AreFills x.fills) h.3.3.1.1 (inits_fill h.0 d.line h.1 d.declarators h.3.0 h.3.1 h.3.2)

pub declarations_fill : (s : State) (ds : List DeclarationTree) (u : State) (x : Declares) → TypesDeclarations s ds u x → AreFills x.fills
declarations_fill s [] u x h = subst (λ (x : Declares). AreFills x.fills) h.1 tt
declarations_fill s (d ∷ ds) u x h =
    subst (λ (x : Declares). AreFills x.fills) h.3.3.1 (fills_join h.1.fills h.3.1.fills (declaration_fills s d h.0 h.1 h.2) (declarations_fill h.0 ds h.3.0 h.3.1 h.3.2))
