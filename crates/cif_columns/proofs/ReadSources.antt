-- Calls that read, one after another.
use Rattle.cif_columns.proofs.Names.{Err, HasFailedToRead, HasReadOn, LineFault, LineReads, OneError, Option, Read, Refused, Source}
use Rattle.cif_columns.proofs.Names.{reader_of, refl, subst, ℕ, ◌∙◌}

module _ {R : Type 0} (errors : R → Option ℕ) where
  -- nothing is read
  pub read_nothing : (s : Source R) → HasReadOn errors s s
  read_nothing s = record { going = refl; no_error = refl; untouched = λ stopped. refl }

  -- two calls that went on
  pub read_on_both : (s t u : Source R) → HasReadOn errors s t → HasReadOn errors t u → HasReadOn errors s u
  read_on_both s t u p q = record {
    going = q.going ∙ p.going;
    no_error = q.no_error ∙ p.no_error;
    untouched = λ stopped. q.untouched (p.going ∙ stopped) ∙ p.untouched stopped;
  }

  -- a call that went on, and one that failed
  pub failed_after : (s t u : Source R) → HasReadOn errors s t → HasFailedToRead errors t u → HasFailedToRead errors s u
  failed_after s t u p h = record {
    failed = h.failed;
    erred = λ fresh. subst (λ n. OneError n (errors (reader_of u))) p.no_error (h.erred (p.going ∙ fresh));
    untouched = λ stopped. h.untouched (p.going ∙ stopped) ∙ p.untouched stopped;
  }

  -- a call that went on, and one that answered a fault of the lines, which is handed on
  pub line_reads_on : (A B : Type 0) (s t u : Source R) (fault : LineFault) → HasReadOn errors s t
      → LineReads {A = A} errors t u (Err fault) → LineReads {A = B} errors s u (Err fault)
  line_reads_on A B s t u (Refused number why) p h = read_on_both s t u p h
  line_reads_on A B s t u Read p h = failed_after s t u p h
