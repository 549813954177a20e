-- The heads with the numbers of the rules' operators have these operators, and do what their rows say.
use Rattle.std.specs.Prelude.{◌≡◌, List, [], ◌∷◌, refl}
use Rattle.std.proofs.Common.{ap, ◌∙◌, arith}
use Rattle.op_forest.specs.declared.op.Op.{Op}
use Rattle.op_forest.specs.declared.op.Op.TheVariants.{Cnst, Addrg, Arg, Call, Ret, Neg, Add, Sub, Mul}
use Rattle.op_forest.specs.declared.suffix.Suffix.{Suffix}
use Rattle.op_forest.specs.declared.suffix.Suffix.TheVariants.{I, P}
use Rattle.op_forest.specs.Nodes.{Head}
use Rattle.op_forest.specs.NumberedOperators.{HasNumber}
use Rattle.op_forest.proofs.lemmas.NumberedOperators.{is_numbered}
use Rattle.forests.specs.Words.{Word}
use Rattle.forests.specs.Objects.{Object}
use Rattle.forests.specs.Worlds.{Point}
use Rattle.forests.specs.Actions.{Action, Meaningless, effect_of}
use Rattle.forests.specs.Addresses.{Environment}
use Rattle.forests.specs.Rows.{leaf_row, unary_row, binary_row, acts}
use Rattle.forests.specs.Bodies.{Setting, does}
use Rattle.frame_rules.specs.Rows.{cnsti, addrgp, argi, calli, reti, negi, addi, subi, muli}

pub is_cnsti : (h : Head) → HasNumber h cnsti Cnst I
is_cnsti h = is_numbered h cnsti Cnst I (λ e. omega (arith, e)) refl

pub is_addrgp : (h : Head) → HasNumber h addrgp Addrg P
is_addrgp h = is_numbered h addrgp Addrg P (λ e. omega (arith, e)) refl

pub is_argi : (h : Head) → HasNumber h argi Arg I
is_argi h = is_numbered h argi Arg I (λ e. omega (arith, e)) refl

pub is_calli : (h : Head) → HasNumber h calli Call I
is_calli h = is_numbered h calli Call I (λ e. omega (arith, e)) refl

pub is_reti : (h : Head) → HasNumber h reti Ret I
is_reti h = is_numbered h reti Ret I (λ e. omega (arith, e)) refl

pub is_negi : (h : Head) → HasNumber h negi Neg I
is_negi h = is_numbered h negi Neg I (λ e. omega (arith, e)) refl

pub is_addi : (h : Head) → HasNumber h addi Add I
is_addi h = is_numbered h addi Add I (λ e. omega (arith, e)) refl

pub is_subi : (h : Head) → HasNumber h subi Sub I
is_subi h = is_numbered h subi Sub I (λ e. omega (arith, e)) refl

pub is_muli : (h : Head) → HasNumber h muli Mul I
is_muli h = is_numbered h muli Mul I (λ e. omega (arith, e)) refl

-- what the row of an operator says, whichever a head has
abbrev pub row : Environment → Head → Op → Suffix → List Word → List Object → Action
row e h o x [] objects = leaf_row e h objects o x
row e h o x (a ∷ []) objects = unary_row e h objects o x a
row e h o x (a ∷ b ∷ []) objects = binary_row e h objects o x a b
row e h o x (a ∷ b ∷ c ∷ ws) objects = Meaningless

own_row : (e : Environment) (h : Head) (ws : List Word) (objects : List Object) → acts e h ws objects ≡ row e h h.operator.op h.operator.suffix ws objects
own_row e h [] objects = refl
own_row e h (a ∷ []) objects = refl
own_row e h (a ∷ b ∷ []) objects = refl
own_row e h (a ∷ b ∷ c ∷ ws) objects = refl

-- a head does what its operator's row says
pub does_as : (s : Setting) (h : Head) (o : Op) (x : Suffix) (ws : List Word) (p : Point) → (h.operator.op ≡ o) × (h.operator.suffix ≡ x) → does s h ws p ≡ effect_of s.call (row s.environment h o x ws p.world.objects) p
does_as s h o x ws p e =
    ap (λ a. effect_of s.call a p)
    (own_row s.environment h ws p.world.objects
    ∙ ap (λ q. row s.environment h q h.operator.suffix ws p.world.objects) e.0
    ∙ ap (λ y. row s.environment h o y ws p.world.objects) e.1)
