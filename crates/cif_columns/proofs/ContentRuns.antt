-- The contents that a `ContentReader` has given so far, and how that ends.
use Rattle.cif_columns.proofs.Names.{ComesFirst, Content, ContentReader, IfSome, IsNextOf, IsSomeAnd, List, Ok, Option, Some, Source, []}
use Rattle.cif_columns.proofs.Names.{arith, content, length, length-append, most_of, reader_of, subst, sym, ℕ, ◌++◌, ◌∙◌, ◌∷◌, ◌≡◌, ◌≤◌}
use Rattle.cif_columns.proofs.GivenLinesLaws.{all_given, known_none, with_answer}
use Rattle.cif_columns.specs.ContentReader.{given, held, left, limit}
use Rattle.cif_columns.specs.declared.ahead.NextContent.TheVariants.{End}

-- These are the contents that the reader has given so far, of at most max. Of the bytes at the start, where they are known, K says that
-- they are these contents and what is left.
pub record HasGiven (K : List ℕ → List (List ℕ) → List ℕ → Type 0) {R : Type 0} (remaining : R → Option (List ℕ))
    (start : Option (List ℕ)) (most max : ℕ) (reader : ContentReader) (source : Source R) (contents : List (List ℕ)) : Type 0 where
  pub same_most : most_of reader ≡ most
  pub same_limit : limit reader ≡ max
  pub counted : given reader ≡ length contents
  pub known : IfSome start (λ bytes. IsSomeAnd (left remaining reader source) (K bytes contents))

module _ (K : List ℕ → List (List ℕ) → List ℕ → Type 0) {R : Type 0} (remaining : R → Option (List ℕ)) where
  pub given_none : ((bytes : List ℕ) → K bytes [] bytes) → (most max : ℕ) (reader : ContentReader) (source : Source R)
      → most_of reader ≡ most → limit reader ≡ max → given reader ≡ 0 → held reader ≡ []
      → HasGiven K remaining (remaining (reader_of source)) most max reader source []
  given_none none most max reader source same_most same_limit zero empty = record {
    same_most = same_most;
    same_limit = same_limit;
    counted = zero;
    known = known_none (λ bytes rest. K bytes [] rest) none (remaining (reader_of source)) (held reader) empty;
  }

  module _ (errors : R → Option ℕ) (start : Option (List ℕ)) (most max : ℕ) (reader : ContentReader) (source : Source R)
      (cs : List (List ℕ)) (so_far : HasGiven K remaining start most max reader source cs) where
    pub given_within : length cs ≤ max
    given_within = omega (arith, so_far.counted, so_far.same_limit, reader.counted)

    -- of the reader's limits and count
    pub at_limits : (P : ℕ → ℕ → ℕ → Type 0) → P (most_of reader) (limit reader) (given reader) → P most max (length cs)
    at_limits P h = subst (λ k. P k max (length cs)) so_far.same_most
        (subst (λ m. P (most_of reader) m (length cs)) so_far.same_limit
        (subst (λ n. P (most_of reader) (limit reader) n) so_far.counted h))

    -- from what a call says of what is left
    pub given_so : (Next Q : List ℕ → Type 0) → IfSome (left remaining reader source) Next
        → ((bytes rest : List ℕ) → K bytes cs rest → Next rest → Q bytes) → IfSome start Q
    given_so Next Q next f = with_answer (λ bytes rest. K bytes cs rest) start (left remaining reader source) Next Q so_far.known next f

    module _ (reader' : ContentReader) (source' : Source R) where
      -- a content more
      pub given_more : IsNextOf remaining errors reader source (Ok Content) reader' source'
          → ((bytes rest after : List ℕ) → K bytes cs rest → ComesFirst most rest (content reader') after
          → K bytes (cs ++ content reader' ∷ []) after)
          → HasGiven K remaining start most max reader' source' (cs ++ content reader' ∷ [])
      given_more next step = record {
        same_most = next.most_now ∙ so_far.same_most;
        same_limit = next.limit_now ∙ so_far.same_limit;
        counted = omega (arith, next.holds.1, so_far.counted, length-append cs (content reader' ∷ []));
        known = given_so _ _ next.answer (λ bytes rest known answer.
            let (after, is, first) = answer in
            subst (λ r. IsSomeAnd r (K bytes (cs ++ content reader' ∷ []))) (sym is)
            (step bytes rest after known (subst (λ n. ComesFirst n rest (content reader') after) so_far.same_most first)));
      }

      -- the end of the input
      pub given_all : IsNextOf remaining errors reader source (Ok End) reader' source'
          → IfSome start (λ bytes. K bytes cs []) × IfSome start (λ bytes. remaining (reader_of source') ≡ Some [])
      given_all next = (
        given_so _ _ next.answer (λ bytes rest known answer. subst (K bytes cs) answer.0 known),
        given_so _ _ next.answer (λ bytes rest known answer. all_given (held reader') (remaining (reader_of source')) answer.1),
      )
