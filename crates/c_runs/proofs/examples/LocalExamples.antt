-- Locals that are objects of their types' sizes, where a call's body starts; and some that aren't.
use Rattle.std.specs.Prelude.{◌≡◌, ℕ, codes, true, None, List, [], ◌∷◌}
use Rattle.std.proofs.Common.{refl, arith}
use Rattle.lcc_base.specs.declared.order.Order.TheVariants.{Little}
use Rattle.lcc_base.specs.Traces.{Closed}
use Rattle.objects.specs.declared.value.ObjectName.{ObjectName}
use Rattle.objects.specs.declared.value.Value.{Value}
use Rattle.objects.specs.declared.value.Value.TheVariants.{Number, Pointer}
use Rattle.objects.specs.Bytes.{unknown_byte}
use Rattle.c_types.specs.CType.{CType}
use Rattle.c_types.specs.Layout.{Tag}
use Rattle.c_meaning.specs.Units.{FunctionTree}
use Rattle.c_runs.specs.Worlds.{World, left_behind}
use Rattle.c_runs.specs.Calls.{Argument, Call, fits, with_locals}
use Rattle.c_runs.specs.Run.{empty_world, main_arguments}
use Rattle.c_runs.specs.Samples.{int, char, array, of_types, pair, pair_tag, defined, unit}
use Rattle.c_runs.specs.Soundness.{Outline, IsSoundByte, AreLocalsOf}
use Rattle.c_runs.specs.Locals.{body_start, IfOpen, AreCopies, IsPassedCall}

abbrev tags : List Tag
tags = pair_tag ∷ []

-- int n; struct s x; and the copy of a structure that is passed
abbrev locals : List CType
locals = int ∷ pair ∷ pair ∷ []

abbrev caller : World
caller = with_locals tags locals (empty_world [])

all_there : AreLocalsOf tags locals caller
all_there = ((refl, (refl, refl)), ((refl, (refl, refl)), ((refl, (refl, refl)), tt)))

-- an object for a char isn't one for an int; one is missing; and none lives when the call is over
too_small : AreLocalsOf tags (int ∷ []) (with_locals tags (char ∷ []) (empty_world [])) → ⊥
too_small h = let e = h.0.1.0 in omega (arith, e)

one_missing : AreLocalsOf tags (int ∷ char ∷ []) (with_locals tags (int ∷ []) (empty_world [])) → ⊥
one_missing h = h.1

abbrev over : World
over = record { storage = (left_behind Closed (empty_world []) caller).storage; locals = caller.locals; input = []; trace = [] }

past_their_lifetimes : AreLocalsOf tags locals over → ⊥
past_their_lifetimes h = let e = h.0.1.1 in absurd (let never : ⊥ = cc in never)

-- ---- int f(struct s p, char c) { int n; }

abbrev passing : FunctionTree
passing = defined (codes "f") (of_types int (pair ∷ char ∷ [])) 2 (pair ∷ char ∷ int ∷ []) []

abbrev name_at : ℕ → ℕ → ObjectName
name_at n size = record { place = n; made = n; size = size }

abbrev given : CType → Value → Argument
given of v = record { value = v; of = of; line = 1 }

-- the caller's third local is the copy; the others are new
abbrev with_copy : List Argument
with_copy = given pair (Pointer (name_at 2 8) 0) ∷ given char (Number 300) ∷ []

are_copies : AreCopies tags (record { made = 0; size = 4 } ∷ record { made = 1; size = 8 } ∷ record { made = 2; size = 8 } ∷ []) with_copy
are_copies = ((λ e. (refl, (refl, refl))), ((λ e. absurd (let never : ⊥ = cc in never)), tt))

entered_with_it : IfOpen (body_start (unit [] [] []) Little passing 0 with_copy 0 caller) (AreLocalsOf tags passing.locals)
entered_with_it = ((refl, (refl, refl)), ((refl, (refl, refl)), ((refl, (refl, refl)), tt)))

-- a call that passes its world's only object, and fits
abbrev one_copy : World
one_copy = with_locals tags (pair ∷ []) (empty_world [])

abbrev passing_it : Call
passing_it = record { function = 0; arguments = given pair (Pointer (name_at 0 8) 0) ∷ given int (Number 3) ∷ []; of = int; result = None; line = 1; world = one_copy }

abbrev taking_it : FunctionTree
taking_it = defined (codes "g") (of_types int (pair ∷ int ∷ [])) 2 (pair ∷ int ∷ []) []

is_passed : IsPassedCall (unit [] [] []) passing_it
is_passed =
    let b : IsSoundByte 1 unknown_byte = (omega arith, omega arith) in
    record {
      world = record {
        own = omega arith;
        others = record { made = 0; size = 8 } ∷ [];
        live = refl;
        objects = ((omega arith, (b, (b, (b, (b, (b, (b, (b, (b, tt))))))))), tt);
        locals = ((omega arith, omega arith), tt);
        input = tt;
        trace = tt;
      };
      values = ((omega arith, omega arith), (omega arith, tt));
      copies = ((λ e. (refl, (refl, refl))), ((λ e. absurd (let never : ⊥ = cc in never)), tt));
      result = λ e. absurd (let never : ⊥ = cc in never);
    }

it_fits : fits taking_it passing_it ≡ true
it_fits = refl

-- an int isn't a copy of a structure
entered_with_an_int : IfOpen (body_start (unit [] [] []) Little passing 0 (given pair (Pointer (name_at 0 4) 0) ∷ given char (Number 300) ∷ []) 0 caller) (AreLocalsOf tags passing.locals) → ⊥
entered_with_an_int h = let e = h.0.1.0 in omega (arith, e)

-- No checked function has an array as a parameter: it would get the four bytes of a scalar.
abbrev of_array : FunctionTree
of_array = defined (codes "f") (of_types int (array char 3 ∷ [])) 1 (array char 3 ∷ []) []

array_as_parameter : IfOpen (body_start (unit [] [] []) Little of_array 0 (given (array char 3) (Number 0) ∷ []) 0 caller) (AreLocalsOf tags of_array.locals) → ⊥
array_as_parameter h = let e = h.0.1.0 in omega (arith, e)

-- main's own arguments are no structures
pub of_main : (lives : List Outline) (place : Value) → AreCopies tags lives (main_arguments place)
of_main lives place = ((λ e. absurd (let never : ⊥ = cc in never)), ((λ e. absurd (let never : ⊥ = cc in never)), tt))
