-- Why a line is refused first.
use Rattle.cif_extract.proofs.Names.{AreLinesToFailure, AreLinesToFault, AreWholeContentsAndRest, HasLineReason, IfSome, IsCutBeforeRefusal}
use Rattle.cif_extract.proofs.Names.{IsFirstRefusal, IsLine, IsReadFault, IsReading, IsRefusedLine, IsSomeAnd, LineFault, List, None}
use Rattle.cif_extract.proofs.Names.{NoneRefused, Option, Refusal, Some, Source, Unread, [], ap, append_assoc, arith, below_more}
use Rattle.cif_extract.proofs.Names.{contents_given, contents_of, false, first_of, get_or, get_or-append_seam, get_or_append_left, inl}
use Rattle.cif_extract.proofs.Names.{is_printable, kind_in, known_so, left, length, length-append, list_all, nat_eq, nat_lt, nat_tests}
use Rattle.cif_extract.proofs.Names.{ne_eqb, of_line_fault, order_refusal, place_behind, printable_fact, record_refusal, refl, refusal_of}
use Rattle.cif_extract.proofs.Names.{subst, sym, take, take-append-le, take-append_seam, true, with_rest, ℕ, ◌++◌, ◌+◌, ◌<◌, ◌∙◌, ◌∷◌, ◌≡◌}
pub use Rattle.std.proofs.lemmas.Bool.{false_from_ne_true as not_true}
use Rattle.std.specs.Option.{option_or}
use Rattle.cif_columns.{proofs.PrintableBytes.printable_true, specs.declared.line_reader.LineReader.LineReader}
use Rattle.cif_columns.specs.declared.refusal.LineFault.TheVariants as line_fault
use Rattle.cif_columns.specs.declared.refusal.Refusal.TheVariants as refusal
use Rattle.cif_records.proofs.Judging.{none-some}

pub or_none : {A : Type 0} (o : Option A) → option_or o None ≡ o
or_none None = refl
or_none (Some x) = refl

module _ (max : ℕ) where
  -- a line that isn't one too many is refused for the order or its fields alone
  pub line_refusal : (before : List (List ℕ)) (line : List ℕ) → IsLine line → length before < max →
      refusal_of max before line ≡ first_of (order_refusal (place_behind before) (kind_in line) ∷ record_refusal line ∷ [])
  unfolding refusal_of
  line_refusal before line h room =
      let few : nat_lt (length before) max ≡ true = grind (arith, nat_tests) in
      let wide : nat_eq (length line) 80 ≡ true = (let w = h.width in grind (arith, nat_tests)) in
      rw (few, wide, printable_true line h.printable)

  -- the reason why a content is no line is its first reason
  line_reason : (before : List (List ℕ)) (content : List ℕ) (number : ℕ) (why : Refusal) → number ≡ length before + 1 →
      HasLineReason max number content why → refusal_of max before content ≡ Some why
  unfolding refusal_of
  line_reason before content number refusal.TooManyLines is h =
      let full : nat_lt (length before) max ≡ false = grind (arith, nat_tests) in rw full
  line_reason before content number refusal.BadLength is h =
      let room = h.0 in
      let few : nat_lt (length before) max ≡ true = grind (arith, nat_tests) in
      rw (few, ne_eqb (length content) 80 h.1)
  line_reason before content number refusal.BadByte is h =
      let room = h.0 in
      let width = h.1 in
      let few : nat_lt (length before) max ≡ true = grind (arith, nat_tests) in
      let wide : nat_eq (length content) 80 ≡ true = grind (arith, nat_tests) in
      rw (few, wide, not_true (list_all is_printable content) (λ all. h.2 (printable_fact content all)))
  line_reason before content number _ is h = absurd h

  -- one content more that isn't refused
  pub none_refused-more : (lines : List (List ℕ)) (line : List ℕ) → NoneRefused max lines →
      refusal_of max lines line ≡ None → NoneRefused max (lines ++ line ∷ [])
  none_refused-more lines line none fine = record { fine = λ k below. at k (omega (arith, length-append lines (line ∷ []))) }
    where
      at : (k : ℕ) → k < length lines + 1 → refusal_of max (take k (lines ++ line ∷ [])) (get_or (lines ++ line ∷ []) k []) ≡ None
      at = below_more (λ k. refusal_of max (take k (lines ++ line ∷ [])) (get_or (lines ++ line ∷ []) k []) ≡ None) (length lines)
          (λ k h. rw (take-append-le k lines (line ∷ []) (omega arith), get_or_append_left lines (line ∷ []) [] k h) (none.fine k h))
          (rw (take-append_seam lines (line ∷ []), get_or-append_seam lines line [] []) fine)

  pub none_refused-none : NoneRefused max []
  none_refused-none = record { fine = λ k below. absurd (omega arith) }

  -- where none of the contents is refused, no line is the first that is
  pub fine-refused : (contents : List (List ℕ)) (number : ℕ) (why : Refusal) → NoneRefused max contents →
      IsRefusedLine max contents number why → ⊥
  fine-refused contents number why none r =
      let fine = subst (NoneRefused max) r.parts none in
      let long = length-append r.before (r.content ∷ r.after) in
      let here : refusal_of max (take (length r.before) (r.before ++ r.content ∷ r.after))
      (get_or (r.before ++ r.content ∷ r.after) (length r.before) []) ≡ None =
      fine.fine (length r.before) (let z : length r.before < length (r.before ++ r.content ∷ r.after) = omega (arith, long) in z) in
      none-some _ why
      (ap (λ b. refusal_of max b r.content) (sym (take-append_seam r.before (r.content ∷ r.after)))
      ∙ ap (refusal_of max (take (length r.before) (r.before ++ r.content ∷ r.after)))
      (sym (get_or-append_seam r.before r.content r.after []))
      ∙ here) r.reason

  -- where a reading stops, and why
  module _ (start : Option (List ℕ)) (ls : List (List ℕ)) (fine : NoneRefused max ls) where
    -- at a fault of the lines
    pub at_fault : (after : Unread) (fault : LineFault) → IfSome start (λ bytes. AreLinesToFault max bytes after ls fault) →
        IfSome start (λ bytes. IsReadFault max bytes after (of_line_fault fault))
    at_fault after (line_fault.Refused number why) h = known_so start _ _ (λ bytes r. (
      inl (record {
        before = ls;
        content = r.0.content;
        after = r.0.others;
        parts = r.0.contents;
        fine = fine;
        numbered = r.0.next;
        reason = line_reason ls r.0.content number why r.0.next r.0.reason;
      }),
      r.1,
    )) h
    at_fault after line_fault.Read h = known_so start _ _ (λ bytes r. at bytes after.bytes r) h
      where
        at : (bytes : List ℕ) (after : Option (List ℕ)) → IsSomeAnd after (λ unread. AreLinesToFailure max bytes unread ls) →
            IsSomeAnd after (IsCutBeforeRefusal max bytes)
        at bytes None r = absurd r
        at bytes (Some unread) r = record { lines = ls; given = r; fine = fine }

    -- at a line that is refused
    pub at_line : {R : Type 0} (remaining : R → Option (List ℕ)) (reader : LineReader) (source : Source R) (line : List ℕ) (number : ℕ)
        (why : Refusal)
        → IsReading remaining start max reader source (ls ++ line ∷ []) → number ≡ length ls + 1 → refusal_of max ls line ≡ Some why
        → IfSome start (λ bytes. IsFirstRefusal max bytes number why)
    at_line remaining reader source line number why so_far is reason =
        with_rest (λ bytes rest. AreWholeContentsAndRest IsLine bytes (ls ++ line ∷ []) rest) start (left remaining reader source) _
        so_far.known
        (λ bytes rest e known. inl (record {
          before = ls;
          content = line;
          after = contents_of rest;
          parts = contents_given bytes (ls ++ line ∷ []) rest known ∙ append_assoc ls (line ∷ []) (contents_of rest);
          fine = fine;
          numbered = is;
          reason = reason;
        }))
