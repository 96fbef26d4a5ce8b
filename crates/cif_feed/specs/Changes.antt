-- What the lines of an update do, one after another, to records of one kind. `same` is a test that tells whether two keys are the same.
use Rattle.std.specs.Prelude.{All, Bool, IsTrue, List, None, Option, Some, [], filter, if◌then◌else◌, map, not, option_to_list, ℕ, ◌++◌}
use Rattle.std.specs.{List.list_any, Prelude.◌↔◌, Prelude.◌∷◌, Prelude.◌≡◌, Prelude.◌≢◌}
use Rattle.cif_feed.specs.declared.{changes.Action.Action, changes.RecordChange.RecordChange, changes.RefusedLine.RefusedLine}
use Rattle.cif_feed.specs.declared.{changes.Unfit.TheVariants.AlreadyThere, changes.Unfit.TheVariants.NotThere, changes.Unfit.Unfit}
use Rattle.cif_feed.specs.declared.{mark.Transaction.Transaction}
use Rattle.cif_feed.specs.declared.changes.Action.TheVariants.{New, Revised, Deleted}
use Rattle.cif_feed.specs.declared.mark.Transaction.TheVariants as transaction

-- the test tells whether two keys are the same
abbrev pub TellsSame : {K : Type 0} → (K → K → Bool) → Type 0
TellsSame {K} same = (a b : K) → IsTrue (same a b) ↔ (a ≡ b)

-- A change: the number of its line, its transaction, the key that it is of, and the record that it puts. A deletion puts none. A line that
-- gives a record another key is two changes: it deletes the one, and puts the other.
pub record ChangeParts (K I : Type 0) : Type 0 where
  pub line : ℕ
  pub transaction : Transaction
  pub key : K
  pub puts : Option I

-- what is done: its transaction, its key, and the record that it puts
abbrev pub transaction_of : {K R : Type 0} → Action K R → Transaction
transaction_of (New r) = transaction.New
transaction_of (Revised r) = transaction.Revised
transaction_of (Deleted k) = transaction.Deleted

abbrev pub key_of : {K R : Type 0} → (R → K) → Action K R → K
key_of key (New r) = key r
key_of key (Revised r) = key r
key_of key (Deleted k) = k

abbrev pub put_of : {K R : Type 0} → Action K R → Option R
put_of (New r) = Some r
put_of (Revised r) = Some r
put_of (Deleted k) = None

-- what a line of an update does, as a change of the key of its record
abbrev pub parts_of : {K R : Type 0} → (R → K) → RecordChange K R → ChangeParts K R
parts_of key c = record {
  line = c.line;
  transaction = transaction_of c.action;
  key = key_of key c.action;
  puts = put_of c.action;
}

abbrev pub changes_of : {K R : Type 0} → (R → K) → List (RecordChange K R) → List (ChangeParts K R)
changes_of key changes = map (parts_of key) changes

-- records with their keys
abbrev pub with_keys : {K R : Type 0} → (R → K) → List R → List (K × R)
with_keys key records = map (λ r. (key r, r)) records

-- the change may be done, by whether there are records of its key
abbrev pub may_be_applied : Transaction → Bool → Bool
may_be_applied transaction.New there = not there
may_be_applied transaction.Revised there = there
may_be_applied transaction.Deleted there = there

-- the records of a key, in their order
abbrev pub of_key : {K I : Type 0} → (K → K → Bool) → List (K × I) → K → List (K × I)
of_key same records key = filter (λ r. same r.0 key) records

-- the others, in their order
abbrev pub without_key : {K I : Type 0} → (K → K → Bool) → List (K × I) → K → List (K × I)
without_key same records key = filter (λ r. not (same r.0 key)) records

-- whether there are records of a key
abbrev pub is_there : {K I : Type 0} → (K → K → Bool) → List (K × I) → K → Bool
is_there same records key = list_any (λ r. same r.0 key) records

-- a record with its key, if there is one
abbrev pub keyed_record : {K I : Type 0} → K → Option I → List (K × I)
keyed_record key None = []
keyed_record key (Some item) = (key, item) ∷ []

-- after a change: the records of its key are taken out, and what it puts comes last
abbrev pub after_change : {K I : Type 0} → (K → K → Bool) → List (K × I) → ChangeParts K I → List (K × I)
after_change same records c = without_key same records c.key ++ keyed_record c.key c.puts

-- after changes, one after another
abbrev pub after_all : {K I : Type 0} → (K → K → Bool) → List (K × I) → List (ChangeParts K I) → List (K × I)
after_all same records [] = records
after_all same records (c ∷ changes) = after_all same (after_change same records c) changes

-- The last word on a key: what the last change of this key puts, or nothing, if that is a deletion; what was there before, if no change
-- is of this key.
abbrev pub last_word : {K I : Type 0} → (K → K → Bool) → List (K × I) → List (ChangeParts K I) → K → List (K × I)
last_word same before [] key = before
last_word same before (c ∷ changes) key = last_word same (if same c.key key then keyed_record c.key c.puts else before) changes key

-- whether one of the changes is of this key
abbrev pub is_changed : {K I : Type 0} → (K → K → Bool) → List (ChangeParts K I) → K → Bool
is_changed same changes key = list_any (λ c. same key c.key) changes

-- the records whose key has no change, in their order
abbrev pub untouched : {K I : Type 0} → (K → K → Bool) → List (K × I) → List (ChangeParts K I) → List (K × I)
untouched same records changes = filter (λ r. not (is_changed same changes r.0)) records

-- what the changes put that are the last of their key, in their order
abbrev pub put_last : {K I : Type 0} → (K → K → Bool) → List (ChangeParts K I) → List (K × I)
put_last same [] = []
put_last same (c ∷ changes) = (if is_changed same changes c.key then [] else keyed_record c.key c.puts) ++ put_last same changes

-- why a change may not be done, by whether there are records of its key
abbrev pub why_unfit : Bool → Unfit
why_unfit there = if there then AlreadyThere else NotThere

-- a change is refused, by whether there are records of its key
abbrev pub refusal : {K I : Type 0} → Bool → ChangeParts K I → List RefusedLine
refusal there c = if may_be_applied c.transaction there then [] else record { line = c.line; why = why_unfit there } ∷ []

-- the changes that may not be done, each after those before it, in their order
abbrev pub refusals : {K I : Type 0} → (K → K → Bool) → List (K × I) → List (ChangeParts K I) → List RefusedLine
refusals same records [] = []
refusals same records (c ∷ changes) = refusal (is_there same records c.key) c ++ refusals same (after_change same records c) changes

-- The new records are the old ones after these changes. Tests that tell whether two keys are the same agree.
pub record AreAfter {K R : Type 0} (key : R → K) (old : List R) (changes : List (RecordChange K R)) (new : List R) : Type 0 where
  pub same : K → K → Bool
  pub tells : TellsSame same
  pub after : with_keys key new ≡ after_all same (with_keys key old) (changes_of key changes)

-- The items are the records of a key, in their order. A test tells which these are.
pub record AreOfKey {K R : Type 0} (key : R → K) (records : List R) (k : K) (items : List R) : Type 0 where
  pub test : R → Bool
  pub tells : (r : R) → IsTrue (test r) ↔ (key r ≡ k)
  pub are : items ≡ filter test records

-- What the new records have of a key: what the last change of this key puts, or nothing, if that is a deletion; and what the old ones
-- have, if no change is of this key.
pub record HaveLastWord {K R : Type 0} (key : R → K) (old : List R) (changes : List (RecordChange K R)) (new : List R) (k : K)
    : Type 0 where
  pub last : (before after : List (RecordChange K R)) (c : RecordChange K R) → changes ≡ before ++ c ∷ after → key_of key c.action ≡ k
      → All (λ d. key_of key d.action ≢ k) after → AreOfKey key new k (option_to_list (put_of c.action))
  pub kept : All (λ c. key_of key c.action ≢ k) changes → (items : List R) → AreOfKey key old k items → AreOfKey key new k items

-- these are the changes that may not be done, each after those before it
pub record AreRefused {K R : Type 0} (key : R → K) (old : List R) (changes : List (RecordChange K R)) (refused : List RefusedLine)
    : Type 0 where
  pub same : K → K → Bool
  pub tells : TellsSame same
  pub are : refused ≡ refusals same (with_keys key old) (changes_of key changes)
