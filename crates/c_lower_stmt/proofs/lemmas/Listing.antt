-- Statements in order, places that are filled in turn, and locals that get their first values.
use Rattle.std.specs.Prelude.{◌≡◌, ℕ, ◌+◌, ◌<◌, Bool, Some, List, [], length, map, drop, get_or, slice_get}
use Rattle.std.proofs.Common.{refl, sym, ap, ◌∙◌, option_map}
use Rattle.std.proofs.lemmas.Option.{slice_get-map}
use Rattle.c_types.specs.CType.{CType}
use Rattle.c_meaning.specs.declared.core_stmt.CoreStmt.{CoreStmt}
use Rattle.c_meaning.specs.declared.filled_place.FilledPlace.{FilledPlace}
use Rattle.c_meaning.specs.StmtTrees.{FilledOf, filled_of, place_seen}
use Rattle.c_runs.specs.Places.{size_of}
use Rattle.c_rows_agree.specs.Typed.{Typed}
use Rattle.lowered_forms.specs.Lows.{Low}
use Rattle.lowered_forms.specs.Places.{local_place}
use Rattle.lowered_statements.specs.Bodies.{Body}
use Rattle.lowered_statements.specs.Functions.{Function, Exits}
use Rattle.lowered_statements.specs.Initialisers.{all_filled, filled, initialised, initialised_as, initialised_at, zeroed_whole}
use Rattle.lowered_statements.specs.Statements.{StmtTrees, low_all, low_s}
use Rattle.lowering_steps.specs.declared.state.State.{State}
use Rattle.lowering_steps.specs.States.{Shows}
use Rattle.statement_steps.specs.declared.progress.Progress.{Progress}
use Rattle.statement_steps.specs.Numbering.{tree_of, trees_of}
use Rattle.statement_steps.specs.Progresses.{ShowsBody, Goes, Does}
use Rattle.statement_steps.proofs.lemmas.Going.{shows_as, body_as}
use Rattle.statement_steps.proofs.lemmas.Lists.{left_is}

-- ---- statements

-- these are left
pub record AllLeft (f : Function) (y : Exits) (all : StmtTrees) (b : Body) (left : StmtTrees) (q : Progress) : Type 0 where
  pub body : Body
  pub shows : ShowsBody q body
  pub is : low_all f y left body ≡ low_all f y all b

abbrev pub DoesLeft : Function → Exits → StmtTrees → Progress → StmtTrees → Progress → Type 0
DoesLeft f y all p left q = (b : Body) → ShowsBody p b → AllLeft f y all b left q

pub all_begins : (f : Function) (y : Exits) (all : StmtTrees) (p : Progress) → DoesLeft f y all p all p
all_begins f y all p = λ b h. record { body = b; shows = h; is = refl }

pub all_goes_on : (f : Function) (y : Exits) (known : ℕ → CType) (all : StmtTrees) (list : List CoreStmt) (i : ℕ) (s : CoreStmt) (p q r : Progress)
    → i < length list → s ≡ get_or list i s → DoesLeft f y all p (trees_of known (drop i list)) q → Does (λ b. low_s f y (tree_of known s) b) q r
    → DoesLeft f y all p (trees_of known (drop (i + 1) list)) r
all_goes_on f y known all list i s p q r lt is h d = λ b k.
    let a = h b k in
    record {
      body = low_s f y (tree_of known s) a.body;
      shows = d.is a.body a.shows;
      is = ap (λ xs. low_all f y (trees_of known xs) a.body) (sym (left_is list i s lt is)) ∙ a.is;
    }

pub all_ends : (f : Function) (y : Exits) (known : ℕ → CType) (all : StmtTrees) (left : List CoreStmt) (p q : Progress) → left ≡ [] → DoesLeft f y all p (trees_of known left) q → Does (λ b. low_all f y all b) p q
all_ends f y known all left p q none h = record {
  is = λ b k. let a = h b k in body_as q a.body (low_all f y all b) (sym (ap (λ xs. low_all f y (trees_of known xs) a.body) none) ∙ a.is) a.shows;
}

-- ---- places

abbrev pub places_in : (ℕ → CType) → List FilledPlace → List (FilledOf CType)
places_in known ps = map (place_seen known) (map filled_of ps)

pub record FilledLeft (f : Function) (base : Typed) (all : List (FilledOf CType)) (l : Low) (left : List (FilledOf CType)) (t : State) : Type 0 where
  pub low : Low
  pub shows : Shows t low
  pub is : all_filled f base left low ≡ all_filled f base all l

abbrev pub FillsLeft : Function → Typed → List (FilledOf CType) → State → List (FilledOf CType) → State → Type 0
FillsLeft f base all s left t = (l : Low) → Shows s l → FilledLeft f base all l left t

pub fills_begin : (f : Function) (base : Typed) (all : List (FilledOf CType)) (s : State) → FillsLeft f base all s all s
fills_begin f base all s = λ l h. record { low = l; shows = h; is = refl }

pub fills_go_on : (f : Function) (base : Typed) (known : ℕ → CType) (all : List (FilledOf CType)) (list : List FilledPlace) (i : ℕ) (x : FilledPlace) (s t u : State)
    → i < length list → x ≡ get_or list i x → FillsLeft f base all s (places_in known (drop i list)) t → Goes (λ l. filled f base (place_seen known (filled_of x)) l) t u
    → FillsLeft f base all s (places_in known (drop (i + 1) list)) u
fills_go_on f base known all list i x s t u lt is h d = λ l k.
    let a = h l k in
    record {
      low = filled f base (place_seen known (filled_of x)) a.low;
      shows = d.is a.low a.shows;
      is = ap (λ xs. all_filled f base (places_in known xs) a.low) (sym (left_is list i x lt is)) ∙ a.is;
    }

pub fills_end : (f : Function) (base : Typed) (known : ℕ → CType) (all : List (FilledOf CType)) (left : List FilledPlace) (s t : State) → left ≡ [] → FillsLeft f base all s (places_in known left) t
    → Goes (λ l. all_filled f base all l) s t
fills_end f base known all left s t none h = record {
  is = λ l k. let a = h l k in shows_as t a.low (all_filled f base all l) (sym (ap (λ xs. all_filled f base (places_in known xs) a.low) none) ∙ a.is) a.shows;
}

-- ---- a local that gets its first value

pub initialises : (f : Function) (known : ℕ → CType) (list : List ℕ) (n id : ℕ) (clears : Bool) (base : Typed) (size : ℕ) (ps : List (FilledOf CType)) (s t u : State)
    → f.locals ≡ map known list → slice_get list n ≡ Some id → base ≡ local_place f.context n (known id) → size ≡ size_of f.context.unit.tags (known id)
    → Goes (λ l. zeroed_whole clears base size l) s t → Goes (λ l. all_filled f base ps l) t u → Goes (λ l. initialised f n clears ps l) s u
initialises f known list n id clears base size ps s t u locals found base_is size_is clear fill =
    let there : slice_get f.locals n ≡ Some (known id) = ap (λ xs. slice_get xs n) locals ∙ slice_get-map known list n ∙ ap (option_map known) found in
    record {
      is = λ l h.
          shows_as u (initialised_at f base size clears ps l) (initialised f n clears ps l)
          ((λ i. initialised_at f (base_is i) (size_is i) clears ps l) ∙ sym (ap (λ o. initialised_as f n o clears ps l) there))
          (fill.is (zeroed_whole clears base size l) (clear.is l h));
    }
