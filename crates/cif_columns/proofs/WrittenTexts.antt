-- Texts that are written one after another.
use Rattle.cif_columns.proofs.Names.{Appends-nil, Appends-trans, Err, HasFailed, HasWritten, IsErr, List, Ok, OneError, Option, Result}
use Rattle.cif_columns.proofs.Names.{Sink, Writes, [], ap, append_assoc, false, false≢true, refl, sink_failed, subst, sym, writer_of, ℕ}
use Rattle.cif_columns.proofs.Names.{◌++◌, ◌∙◌, ◌≡◌}

module _ {W : Type 0} (contents : W → Option (List ℕ)) (errors : W → Option ℕ) where
  -- nothing is written
  pub written_nothing : (s : Sink W) → sink_failed s ≡ false → HasWritten contents errors [] s s
  written_nothing s going = record { fresh = going; going = going; bytes = Appends-nil (contents (writer_of s)); no_error = refl }

  -- one text and then another
  pub written_both : (a b : List ℕ) (s t u : Sink W) → HasWritten contents errors a s t → HasWritten contents errors b t u
      → HasWritten contents errors (a ++ b) s u
  written_both a b s t u p q = record {
    fresh = p.fresh;
    going = q.going;
    bytes = Appends-trans _ _ _ a b p.bytes q.bytes;
    no_error = q.no_error ∙ p.no_error;
  }

  -- a failure in the first of two texts
  pub failed_first : (a b : List ℕ) (s t : Sink W) → HasFailed contents errors a s t → HasFailed contents errors (a ++ b) s t
  failed_first a b s t h =
      let f = h.prefix in
      record {
        failed = h.failed;
        prefix = (f.0, f.1 ++ b, ap (λ l. l ++ b) f.2 ∙ append_assoc f.0 f.1 b, f.3);
        erred = h.erred;
        untouched = h.untouched;
      }

  -- a failure in the second
  pub failed_second : (a b : List ℕ) (s t u : Sink W) → HasWritten contents errors a s t → HasFailed contents errors b t u
      → HasFailed contents errors (a ++ b) s u
  failed_second a b s t u p h =
      let f = h.prefix in
      record {
        failed = h.failed;
        prefix = (a ++ f.0, f.1, ap (λ l. a ++ l) f.2 ∙ sym (append_assoc a f.0 f.1), Appends-trans _ _ _ a f.0 p.bytes f.3);
        erred = λ fresh. subst (λ n. OneError n (errors (writer_of u))) p.no_error (h.erred p.going);
        untouched = λ stopped. absurd (false≢true (sym p.fresh ∙ stopped));
      }

  -- a text that has been written, and what the writing of another answers
  pub writes_on : {A E : Type 0} (a b : List ℕ) (s t u : Sink W) (result : Result A E) → HasWritten contents errors a s t
      → Writes contents errors b t u result → Writes contents errors (a ++ b) s u result
  writes_on a b s t u (Ok done) p h = written_both a b s t u p h
  writes_on a b s t u (Err fault) p h = failed_second a b s t u p h

  -- an answer that hands a failure on
  pub writes_err : {A E : Type 0} (text : List ℕ) (s t : Sink W) (result : Result A E) → IsErr result
      → HasFailed contents errors text s t → Writes contents errors text s t result
  writes_err text s t (Ok done) e h = absurd (false≢true e)
  writes_err text s t (Err fault) e h = h
