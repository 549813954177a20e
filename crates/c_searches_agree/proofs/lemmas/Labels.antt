-- The labels of a switch: those of its tables stand in the body, and C's choice is one of them.
use Rattle.std.specs.Prelude.{ℕ, zero, suc, ◌+◌, ◌%◌, ◌^◌, ◌==◌, Bool, true, false, IfSome, Option, Some, List, [], ◌∷◌, map, if◌then◌else◌}
use Rattle.std.specs.List.{AllByRecursion}
use Rattle.std.proofs.Common.{sym, subst}
use Rattle.c_meaning.specs.declared.core_stmt.CoreCase.{CoreCase}
use Rattle.c_runs.specs.Statements.{chosen}
use Rattle.switch_tables.specs.declared.table.Table.{Table}
use Rattle.switch_tables.specs.Cases.{label_of}
use Rattle.switch_tables.specs.Cuts.{range_to, cut, joined}
use Rattle.switch_tables.specs.Laws.{IsTable}
use Rattle.switch_tables.specs.Order.{rising}
use Rattle.switch_tables.specs.Tables.{first_number, last_number, labels_from, table_of, tables_of}
use Rattle.switch_tables.proofs.lemmas.Cutting.{joined_cut}
use Rattle.switch_tables.proofs.lemmas.Leading.{all_front, all_back}
use Rattle.switch_tables.proofs.lemmas.Sorting.{rising_all}
use Rattle.lowered_statements.specs.Functions.{Function, placed_case, placed_cases}
use Rattle.lowered_statements.specs.Searches.{Choice}
use Rattle.lowered_labels.specs.Used.{IsOwn}
use Rattle.c_tests_agree.specs.Tested.{Label}
use Rattle.c_stmt_agreement.specs.Comings.{Activation}
use Rattle.c_searches_agree.specs.Jumps.{JumpLeads}
use Rattle.c_searches_agree.proofs.lemmas.Searching.{IsGood}

-- ---- what the default and each case's label have, each label of the tables has

module _ (P : ℕ → Type 0) where
  label_has : (cases : List CoreCase) (default n : ℕ) → AllByRecursion (λ c. P c.label) cases → P default → P (label_of cases default n)
  label_has [] default n h d = d
  label_has (c ∷ cs) default n h d = by (c.number == n) (label_has cs default n h.1 d)
    where
      by : (q : Bool) → P (label_of cs default n) → P (if q then c.label else label_of cs default n)
      by true rest = h.0
      by false rest = rest

  labels_have : (cases : List CoreCase) (default n k : ℕ) → AllByRecursion (λ c. P c.label) cases → P default → AllByRecursion P (labels_from cases default n k)
  labels_have cases default n zero h d = tt
  labels_have cases default n (suc k) h d = (label_has cases default n h d, labels_have cases default ((n + 1) % 2 ^ 32) k h d)

  groups_have : (default : ℕ) (gs : List (List CoreCase)) → AllByRecursion (λ c. P c.label) (joined gs) → P default → AllByRecursion (λ t. AllByRecursion P t.labels) (map (table_of default) gs)
  groups_have default [] h d = tt
  groups_have default (g ∷ gs) h d = (
    labels_have g default (first_number g) (range_to g (last_number g)) (all_front (λ c. P c.label) g (joined gs) h) d,
    groups_have default gs (all_back (λ c. P c.label) g (joined gs) h) d,
  )

  pub tables_have : (signed : Bool) (cases : List CoreCase) (default : ℕ) → AllByRecursion (λ c. P c.label) cases → P default → AllByRecursion (λ t. AllByRecursion P t.labels) (tables_of signed default cases)
  tables_have signed cases default h d =
      let sorted = rising signed cases in
      groups_have default (cut sorted) (subst (AllByRecursion (λ c. P c.label)) (sym (joined_cut sorted)) (rising_all (λ c. P c.label) signed cases h)) d

-- ---- cases at the places of their labels

pub placed_have : (f : Function) (P : CoreCase → Type 0) (cases : List CoreCase) → AllByRecursion (λ c. P (placed_case f c)) cases → AllByRecursion P (placed_cases f cases)
placed_have f P [] h = tt
placed_have f P (c ∷ cs) h = (h.0, placed_have f P cs h.1)

-- what follows of each
pub each_follows : (P Q : CoreCase → Type 0) → ((c : CoreCase) → P c → Q c) → (cases : List CoreCase) → AllByRecursion P cases → AllByRecursion Q cases
each_follows P Q go [] h = tt
each_follows P Q go (c ∷ cs) h = (go c h.0, each_follows P Q go cs h.1)

-- ---- C's choice

pub chosen_is_own : (f : Function) (cases : List CoreCase) (default : Option ℕ) (n : ℕ) → AllByRecursion (λ c. IsOwn f c.label) cases → IfSome default (IsOwn f) → IfSome (chosen cases default n) (IsOwn f)
chosen_is_own f [] default n h d = d
chosen_is_own f (c ∷ cs) default n h d = by (c.number == n) (chosen_is_own f cs default n h.1 d)
  where
    by : (q : Bool) → IfSome (chosen cs default n) (IsOwn f) → IfSome (if q then Some c.label else chosen cs default n) (IsOwn f)
    by true rest = h.0
    by false rest = rest

-- ---- what is asked of the tables

pub are_good : (p : Activation) (f : Function) (x : Choice) → ((t : Table) → IsTable x.signed t → JumpLeads p f x t) → (ts : List Table) → AllByRecursion (IsTable x.signed) ts → AllByRecursion (λ t. AllByRecursion (λ l. Label p.scene l) t.labels) ts
    → AllByRecursion (IsGood p f x) ts
are_good p f x leads [] whole labels = tt
are_good p f x leads (t ∷ ts) whole labels = (record { whole = whole.0; labels = labels.0; leads = leads t whole.0 }, are_good p f x leads ts whole.1 labels.1)
