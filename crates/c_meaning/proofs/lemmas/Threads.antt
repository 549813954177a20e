-- Outcomes one behind another, against the rows that say what is typed and the nodes in postorder.
use Rattle.std.proofs.Common.{◌≡◌, ℕ, List, [], ◌∷◌, ◌++◌, refl, ap, ◌∙◌}
use Rattle.std.specs.Prelude.{Option, Some, None}
use Rattle.c_meaning.specs.State.{State}
use Rattle.c_meaning.specs.Nodes.{Node}
use Rattle.c_meaning.specs.Constraints.{Fault, fault_at}
use Rattle.c_meaning.specs.Typing.{Outcome, Fine, Bad, then_do, unless, at}
use Rattle.c_meaning.specs.TypingRelation.{Is, Then}
use Rattle.c_meaning.specs.Postorder.{Place, place, visit, or_else, first_fault}
use Rattle.c_meaning.specs.DeclaringNodes.{AnyPlace, any_fault, first_any, parts, see}
use Rattle.c_meaning.specs.Laws.{IsTyping, IsFirst, IsFirstOf, IsDecided, fault_of}

-- ---- rows

-- the part that the rows type, and what stands behind it
then_to : {T U : Type 0} (o : Outcome T) (next : State → T → Outcome U) (s : State) (x : T) (r : Outcome U) → o ≡ Fine s x → next s x ≡ r → then_do o next ≡ r
then_to o next s x r h k = rw h k

pub then_typing : {T U : Type 0} {o : Outcome T} {next : State → T → Outcome U} {types : State → T → Type 0} {later : State → T → State → U → Type 0} → IsTyping o types → ((s : State) (x : T) → IsTyping (next s x) (later s x)) → IsTyping (then_do o next) (Then types later)
then_typing {o} {next} {types} {later} h k u y = (λ w. then_to o next w.0 w.1 (Fine u y) ((h w.0 w.1).0 w.2) ((k w.0 w.1 u y).0 w.3), back o h)
  where
    back : (p : Outcome _) → IsTyping p types → then_do p next ≡ Fine u y → Then types later u y
    back (Fine s x) g w = (s, x, (g s x).1 refl, (k s x u y).1 w)
    back (Bad f) g w = absurd cc

pub is_typing : {T : Type 0} {s : State} {x : T} → IsTyping (Fine s x) (Is s x)
is_typing u y = (λ w. rw (w.0, w.1) refl, λ w. (cc, cc))

-- `at`, by the fault of its node
pub at_typing : {T : Type 0} {f : Option Fault} {s : State} {x : T} → IsTyping (unless f s x) (λ u y. (f ≡ None) × Is s x u y)
at_typing {f = Some f} u y = (λ w. absurd cc, λ w. absurd cc)
at_typing {f = None} u y = (λ w. rw (w.1.0, w.1.1) refl, λ w. (refl, (cc, cc)))

-- ---- nodes

or_else_assoc : (f g h : Option Fault) → or_else f (or_else g h) ≡ or_else (or_else f g) h
or_else_assoc (Some x) g h = refl
or_else_assoc None g h = refl

-- the first fault of what stands before, else of what stands behind
first_append : (xs ys : List Place) → first_fault (xs ++ ys) ≡ or_else (first_fault xs) (first_fault ys)
first_append [] ys = refl
first_append (p ∷ ps) ys = ap (or_else (fault_at p.state p.line p.node)) (first_append ps ys) ∙ or_else_assoc (fault_at p.state p.line p.node) (first_fault ps) (first_fault ys)

pub visit_first : {T U : Type 0} (o : Outcome T) (next : State → T → Outcome U) (places : List Place) (later : State → T → List Place) → IsFirst o places → ((s : State) (x : T) → IsFirst (next s x) (later s x)) → IsFirst (then_do o next) (visit places o later)
visit_first (Fine s x) next places later h k = first_append places (later s x) ∙ rw h (k s x)
visit_first (Bad f) next places later h k = first_append places [] ∙ rw h refl

-- with no node behind a part
pub last_first : {T U : Type 0} (o : Outcome T) (next : State → T → Outcome U) (places : List Place) → IsFirst o places → ((s : State) (x : T) → IsFirst (next s x) []) → IsFirst (then_do o next) places
last_first (Fine s x) next places h k = h ∙ k s x
last_first (Bad f) next places h k = h

pub at_first : {T : Type 0} (s : State) (line : ℕ) (n : Node) (t : State) (x : T) → IsFirst (at s line n t x) (place s line n)
at_first s line n t x = of_fault (fault_at s line n)
  where
    of_fault : (f : Option Fault) → or_else f None ≡ fault_of (unless f t x)
    of_fault (Some f) = refl
    of_fault None = refl

-- ---- nodes of initialisers and declarations

any_append : (xs ys : List AnyPlace) → first_any (xs ++ ys) ≡ or_else (first_any xs) (first_any ys)
any_append [] ys = refl
any_append (p ∷ ps) ys = ap (or_else (any_fault p)) (any_append ps ys) ∙ or_else_assoc (any_fault p) (first_any ps) (first_any ys)

pub see_first : {T U : Type 0} (o : Outcome T) (next : State → T → Outcome U) (places : List AnyPlace) (later : State → T → List AnyPlace) → IsFirstOf o places → ((s : State) (x : T) → IsFirstOf (next s x) (later s x)) → IsFirstOf (then_do o next) (see places o later)
see_first (Fine s x) next places later h k = any_append places (later s x) ∙ rw h (k s x)
see_first (Bad f) next places later h k = any_append places [] ∙ rw h refl

first_of_parts : (ps : List Place) → first_any (parts ps) ≡ first_fault ps
first_of_parts [] = refl
first_of_parts (p ∷ ps) = ap (or_else (fault_at p.state p.line p.node)) (first_of_parts ps)

-- of a part that is an expression, specifiers or a declarator
pub part_first : {T : Type 0} (o : Outcome T) (places : List Place) → IsFirst o places → IsFirstOf o (parts places)
part_first o places h = first_of_parts places ∙ h

pub node_first : {T : Type 0} (f : Option Fault) (s : State) (x : T) → or_else f None ≡ fault_of (unless f s x)
node_first (Some f) s x = refl
node_first None s x = refl

-- ---- both

-- an outcome that is what the rows say, and its fault
pub is_decided : {T : Type 0} (o : Outcome T) (types : State → T → Type 0) (fault : Option Fault) → IsTyping o types → fault ≡ fault_of o → IsDecided types fault
is_decided (Fine s x) types fault h k =
    record {
      some = λ w. (s, x, (h s x).1 refl);
      one = λ u v y z a b. let p = (h u y).0 a in let q = (h v z).0 b in (cc, cc);
      none = λ f w u y a. absurd cc;
    }
is_decided (Bad f) types fault h k =
    record {
      some = λ w. absurd cc;
      one = λ u v y z a b. let p = (h u y).0 a in absurd cc;
      none = λ g w u y a. let p = (h u y).0 a in absurd cc;
    }
