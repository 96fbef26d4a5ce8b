-- Where changes stand, for the contracts of the steps of doing them. A map is seen as the value at each key.
use Rattle.std.specs.Prelude.{Bool, Err, List, None, Ok, Option, Result, Some, [], false, if◌then◌else◌, true, unwrap_or, ℕ}
use Rattle.std.specs.Prelude.{◌&&◌, ◌+◌, ◌==◌, ◌∷◌, ◌≡◌}
use Rattle.std.specs.{Option.option_or, Ordering.eq_by_cmp, declared.cmp.Ordering.Ordering}
use Rattle.cif_feed.specs.declared.{changes.RefusedLine.RefusedLine, feed_fault.FeedFault.FeedFault, update.Outcome.Outcome}
use Rattle.cif_feed.specs.declared.changes.Unfit.TheVariants as unfit
use Rattle.cif_feed.specs.declared.feed_fault.FeedFault.TheVariants.{NotThere, AlreadyThere, OutOfSequence}
use Rattle.cif_feed.specs.{Waived.first_refused, declared.changes.Waived.Waived}
use Rattle.cif_feed.specs.Changes.{ChangeParts, is_changed, is_there}

-- two keys are the same by what stands for them
abbrev pub same_by : {K N : Type 0} → (N → N → Ordering) → (K → N) → K → K → Bool
same_by cmp rank a b = eq_by_cmp cmp (rank a) (rank b)

-- a map of what stands for keys, as the value at each key
abbrev pub at_keys : {K N X : Type 0} → (K → N) → (N → Option X) → K → Option X
at_keys rank values key = values (rank key)

-- the position of the last change of a key, where the first change has this one
abbrev pub last_from : {K I : Type 0} → (K → K → Bool) → ℕ → List (ChangeParts K I) → K → Option ℕ
last_from same at [] key = None
last_from same at (c ∷ changes) key = option_or (last_from same (at + 1) changes key) (if same c.key key then Some at else None)

-- of each key, the position of its last change
pub record AreLast {K I : Type 0} (same : K → K → Bool) (changes : List (ChangeParts K I)) (last : K → Option ℕ) : Type 0 where
  pub are : (key : K) → last key ≡ last_from same 0 changes key

-- it is this position
abbrev pub is_position : Option ℕ → ℕ → Bool
is_position None at = false
is_position (Some position) at = position == at

-- of the keys that are changed, it says whether there are records
pub record SaysThere {K I : Type 0} (same : K → K → Bool) (records : List (K × I)) (changes : List (ChangeParts K I))
    (there : K → Option Bool) : Type 0 where
  pub says : (key : K) → is_changed same changes key ≡ true → unwrap_or (there key) false ≡ is_there same records key

-- of the keys that are changed, it says whether there are records, and of no other
pub record SaysAlone {K I : Type 0} (same : K → K → Bool) (records : List (K × I)) (changes : List (ChangeParts K I))
    (there : K → Option Bool) : Type 0 where
  pub says : (key : K) → unwrap_or (there key) false ≡ (is_changed same changes key && is_there same records key)

-- the number of the last of these lines, or this one, if there are none
abbrev pub last_line : ℕ → List RefusedLine → ℕ
last_line previous [] = previous
last_line previous (r ∷ refused) = last_line r.line refused

-- what is answered of lines that may not be done: they are waived, or it is the first that isn't
abbrev pub IsDone : Waived → List RefusedLine → Result Outcome FeedFault → Type 0
IsDone how lines (Ok done) = (done.waived.items ≡ lines) × (first_refused how lines ≡ None)
IsDone how lines (Err (OutOfSequence line)) = first_refused how lines ≡ Some (record { line = line; why = unfit.OutOfSequence })
IsDone how lines (Err (NotThere line)) = first_refused how lines ≡ Some (record { line = line; why = unfit.NotThere })
IsDone how lines (Err (AlreadyThere line)) = first_refused how lines ≡ Some (record { line = line; why = unfit.AlreadyThere })
IsDone how lines (Err fault) = ⊥
