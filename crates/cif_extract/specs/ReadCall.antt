-- What a call that reads a source comes to.
use Rattle.std.specs.Prelude.{◌≡◌, ◌⊎◌, ⊤, ℕ, Bool, true, false, List, [], Option, Some, IfErr, IfOk, IfSome, Result, Ok, Err}
use Rattle.std.specs.Bool.{MatchBool}
use Rattle.cif_columns.specs.Source.{HasFailedToRead, HasReadOn, Unread, reader_of, source_ended, source_failed, unread_of}
use Rattle.cif_columns.specs.declared.source.Source.{Source}

-- what a call that reads may come to
pub record ReadCall (A F : Type 0) : Type 1 where
  -- the answers to these bytes
  pub IsAnswer : List ℕ → A → Type 0
  -- the answers after which nothing is left
  pub IsWhole : A → Type 0
  -- why these bytes have none, where `after` is left of them then
  pub IsFault : List ℕ → Unread → F → Type 0
  -- the faults, for any source
  pub MayFail : F → Type 0
  -- whether a fault says that the source failed
  pub is_read : F → Bool

-- one that answers at the end alone: its answers, its faults, and those for any source
abbrev pub reading : {A F : Type 0} → (F → Bool) → (List ℕ → A → Type 0) → (List ℕ → Unread → F → Type 0) → (F → Type 0) → ReadCall A F
reading is_read IsAnswer IsFault MayFail = record {
  IsAnswer = IsAnswer;
  IsWhole = λ answer. ⊤;
  IsFault = IsFault;
  MayFail = MayFail;
  is_read = is_read;
}

-- What a call owes its source: it fails to read exactly where its fault says so, and answers only for a source that hadn't failed.
abbrev pub IsOwed : {R A F : Type 0} → (R → Option ℕ) → (F → Bool) → Source R → Source R → Result A F → Type 0
IsOwed errors is_read old new (Ok answer) = (source_failed old ≡ false) × HasReadOn errors old new
IsOwed errors is_read old new (Err fault) = MatchBool (is_read fault) (HasFailedToRead errors old new) (HasReadOn errors old new)

-- the source reported its end, and nothing is left of what the reader had
abbrev pub IsReadWhole : {R : Type 0} → (R → Option (List ℕ)) → Source R → Source R → Type 0
IsReadWhole remaining old new =
    (source_ended new ≡ true) × IfSome (remaining (reader_of old)) (λ bytes. remaining (reader_of new) ≡ Some [])

-- What is promised of a call that reads: its source before, and after, and its result.
pub record IsResultOf {R A F : Type 0} (remaining : R → Option (List ℕ)) (errors : R → Option ℕ) (may : ReadCall A F) (old new : Source R)
    (result : Result A F) : Type 0 where
  -- where the bytes of the reader are known, they have this answer, or none for this fault
  pub ok : IfSome (remaining (reader_of old)) (λ bytes. IfOk result (may.IsAnswer bytes))
  pub fault : IfSome (remaining (reader_of old)) (λ bytes. IfErr result (may.IsFault bytes (unread_of remaining new)))
  -- for any source no other fault comes
  pub answers : IfErr result may.MayFail
  pub source : IsOwed errors may.is_read old new result
  pub end : IfOk result (λ answer. may.IsWhole answer → IsReadWhole remaining old new)

-- What is promised of a call that reads a left source and then a right one: the left one can't be read, and the right one is as it was;
-- or the right one can't be read either; or both are, and the call makes this of them.
abbrev pub IsResultOfBoth : {R A B F : Type 0} → (R → Option (List ℕ)) → (R → Option ℕ) → ReadCall A F →
    (A → A → Result B F → Type 0) → Source R → Source R → Source R → Source R → Result B F → Type 0
IsResultOfBoth {R} {A} {B} {F} remaining errors may IsMade left left_new right right_new result =
    ((fault : F) × (result ≡ Err fault) × IsResultOf remaining errors may left left_new (Err fault) × (right_new ≡ right))
    ⊎ ((x : A) × IsResultOf remaining errors may left left_new (Ok x)
    × (((fault : F) × (result ≡ Err fault) × IsResultOf remaining errors may right right_new (Err fault))
    ⊎ ((y : A) × IsResultOf remaining errors may right right_new (Ok y) × IsMade x y result)))
