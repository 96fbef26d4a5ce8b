-- Two extracts, narrowed to what is asked for of both, or why they aren't.
use Rattle.cif_canon.proofs.Names.{Asked, Bool, Err, Extract, ExtractParts, Fault, IsErrAnd, IsNarrowed, IsNarrowingFault, IsOfReadNarrowed}
use Rattle.cif_canon.proofs.Names.{IsOfReading, IsResultOfBoth, List, Ok, Option, Result, Source, at-fault, extract_parts, inl, inr}
use Rattle.cif_canon.proofs.Names.{reading_extract, subst, sym, ℕ, ⊎_elim, ◌≡◌}
use Rattle.cif_columns.specs.declared.line_reader.TheConstants.{MAX_LINES}
use Rattle.cif_canon.proofs.Normalising.{narrows-not, reads-narrowed}
use Rattle.cif_canon.specs.Pair.{IsNarrowedPair, IsPairRefusal, asked_of_both}

module _ (asked : Asked) (common : Bool) (left right : Extract) (wanted : Asked)
    (is : wanted ≡ asked_of_both common asked (extract_parts left) (extract_parts right)) where
  pair-refused : (f : Fault) → IsPairRefusal wanted (extract_parts left) (extract_parts right) f →
      (result : Result (Extract × Extract) Fault) → IsErrAnd result (λ e. e ≡ f) → IsNarrowedPair asked common left right result
  pair-refused f h result handed =
      subst (IsNarrowedPair asked common left right) (sym (at-fault result f handed))
      (subst (λ (w : Asked). IsPairRefusal w (extract_parts left) (extract_parts right) f) is h)

  pub left-refused : (f : Fault) → IsNarrowingFault wanted left.header f → (result : Result (Extract × Extract) Fault) →
      IsErrAnd result (λ e. e ≡ f) → IsNarrowedPair asked common left right result
  left-refused f h = pair-refused f (inl h)

  pub right-refused : (x : ExtractParts) → IsNarrowed wanted (extract_parts left) x → (f : Fault) → IsNarrowingFault wanted right.header f →
      (result : Result (Extract × Extract) Fault) → IsErrAnd result (λ e. e ≡ f) → IsNarrowedPair asked common left right result
  right-refused x narrowed f h = pair-refused f (inr (x, narrowed, h))

  pub both-narrowed : (x y : Extract) → IsNarrowed wanted (extract_parts left) (extract_parts x) →
      IsNarrowed wanted (extract_parts right) (extract_parts y) → IsNarrowedPair asked common left right (Ok (x, y))
  both-narrowed x y m n = record {
    left = subst (λ (w : Asked). IsNarrowed w (extract_parts left) (extract_parts x)) is m;
    right = subst (λ (w : Asked). IsNarrowed w (extract_parts right) (extract_parts y)) is n;
  }

-- a fault of reading two extracts is one of reading one, or of narrowing it
pub pair-may : {R : Type 0} (remaining : R → Option (List ℕ)) (errors : R → Option ℕ) (asked : Asked) (common : Bool)
    (left left_new right right_new : Source R) (f : Fault) →
    IsResultOfBoth remaining errors (reading_extract MAX_LINES) (IsNarrowedPair asked common) left left_new right right_new (Err f) →
    IsOfReadNarrowed MAX_LINES f
pair-may remaining errors asked common left left_new right right_new f = ⊎_elim
    (λ l. unread l.0 l.1 l.2.answers)
    (λ l. ⊎_elim (λ r. unread r.0 r.1 r.2.answers) (λ r. ⊎_elim
    (λ h. (narrows-not MAX_LINES (asked_of_both common asked (extract_parts l.0) (extract_parts r.0)) l.0 f h).answers)
    (λ h. (narrows-not MAX_LINES (asked_of_both common asked (extract_parts l.0) (extract_parts r.0)) r.0 f h.2).answers) r.2) l.2)
  where
    unread : (e : Fault) → ◌≡◌ {A = Result (Extract × Extract) Fault} (Err f) (Err e) → IsOfReading MAX_LINES e →
        IsOfReadNarrowed MAX_LINES f
    unread e is h = let same : f ≡ e = cc in subst (IsOfReadNarrowed MAX_LINES) (sym same) ((reads-narrowed MAX_LINES asked e).answers h)
