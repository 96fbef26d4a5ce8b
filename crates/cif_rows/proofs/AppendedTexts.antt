-- Texts that are appended one after another to a sink, which keeps its failure.
use Rattle.cif_rows.proofs.Names.{Appends-nil, Bool, Err, HasFailed, IsAppended, List, Ok, Option, Result, Sink, Writes, [], ap, append-nil}
use Rattle.cif_rows.proofs.Names.{failed_first, failed_second, false, false≢true, flat_map, flat_map-append, get_or, inl, inr, length, refl}
use Rattle.cif_rows.proofs.Names.{sink_failed, subst, sym, take, take_all, take_more, true, writer_of, written_both, written_nothing, ℕ}
use Rattle.cif_rows.proofs.Names.{◌++◌, ◌+◌, ◌<◌, ◌∙◌, ◌∷◌, ◌≡◌, ◌≤◌}

module _ {W : Type 0} (contents : W → Option (List ℕ)) (errors : W → Option ℕ) where
  -- by a call that answers whether it was
  pub appended : {A E : Type 0} (text : List ℕ) (s t : Sink W) (result : Result A E) → Writes contents errors text s t result →
      IsAppended contents errors text s t
  appended text s t (Ok done) h = inl h
  appended text s t (Err fault) h = inr h

  -- the text is this one
  pub text-is : (a b : List ℕ) (s t : Sink W) → a ≡ b → IsAppended contents errors a s t → IsAppended contents errors b s t
  text-is a b s t is h = subst (λ l. IsAppended contents errors l s t) is h

  nothing-where : (s : Sink W) (failed : Bool) → sink_failed s ≡ failed → IsAppended contents errors [] s s
  nothing-where s false going = inl (written_nothing contents errors s going)
  nothing-where s true failed = inr (record {
    failed = failed;
    prefix = ([], [], refl, Appends-nil (contents (writer_of s)));
    erred = λ going. absurd (false≢true (sym going ∙ failed));
    untouched = λ stopped. refl;
  })

  pub nothing : (s : Sink W) → IsAppended contents errors [] s s
  nothing s = nothing-where s (sink_failed s) refl

  -- one text and then another
  pub both : (a b : List ℕ) (s t u : Sink W) → IsAppended contents errors a s t → IsAppended contents errors b t u →
      IsAppended contents errors (a ++ b) s u
  both a b s t u (inl p) (inl q) = inl (written_both contents errors a b s t u p q)
  both a b s t u (inl p) (inr q) = inr (failed_second contents errors a b s t u p q)
  both a b s t u (inr p) (inl q) = absurd (false≢true (sym q.fresh ∙ p.failed))
  both a b s t u (inr p) (inr q) =
      inr (subst (λ v. HasFailed contents errors (a ++ b) s v) (sym (q.untouched p.failed)) (failed_first contents errors a b s t p))

-- the texts of items, one after another: of one more, of those so far, and of all
module _ {A W : Type 0} (contents : W → Option (List ℕ)) (errors : W → Option ℕ) (text : A → List ℕ) where
  pub behind : (done : List A) (item : A) (s t u : Sink W) → IsAppended contents errors (flat_map text done) s t →
      IsAppended contents errors (text item) t u → IsAppended contents errors (flat_map text (done ++ (item ∷ []))) s u
  behind done item s t u so_far h =
      text-is contents errors (flat_map text done ++ text item) (flat_map text (done ++ (item ∷ []))) s u
      (sym (flat_map-append text done (item ∷ []) ∙ ap (λ (l : List ℕ). flat_map text done ++ l) (append-nil (text item))))
      (both contents errors (flat_map text done) (text item) s t u so_far h)

  module _ (items : List A) (n : ℕ) (s t : Sink W) (so_far : IsAppended contents errors (flat_map text (take n items)) s t) where
    pub one-more : (item : A) (u : Sink W) → n < length items → item ≡ get_or items n item →
        IsAppended contents errors (text item) t u → IsAppended contents errors (flat_map text (take (n + 1) items)) s u
    one-more item u below is h =
        subst (λ l. IsAppended contents errors (flat_map text l) s u)
        (ap (λ i. take n items ++ (i ∷ [])) is ∙ sym (take_more items n item below)) (behind (take n items) item s t u so_far h)

    pub all-items : length items ≤ n → IsAppended contents errors (flat_map text items) s t
    all-items over = subst (λ l. IsAppended contents errors (flat_map text l) s t) (take_all n items over) so_far
