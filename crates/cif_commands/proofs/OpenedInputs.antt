-- Inputs that are opened one after another.
use Rattle.std.proofs.lemmas.List.{map-append}
use Rattle.cif_columns.proofs.Names.{take_more}
use Rattle.cif_commands.proofs.Names.{List, Option, Source, Text, [], ap, get_or, length, map, subst, sym, take, ℕ, ◌++◌}
use Rattle.cif_commands.proofs.Names.{◌+◌, ◌<◌, ◌∙◌, ◌∷◌, ◌≡◌}
use Rattle.cif_commands.specs.Input.{AreFeedInputs, AreJobInputs, AreOpened, AreUpdateInputs, IsOpened, given_by}

-- one more is opened
pub opened-more : {R : Type 0} (remaining : R → Option (List ℕ)) (given : Text → Option (List ℕ)) (names : List Text)
    (sources : List (Source R)) (name : Text) (source : Source R) → AreOpened remaining given names sources
    → IsOpened remaining given name source → AreOpened remaining given (names ++ name ∷ []) (sources ++ source ∷ [])
opened-more remaining given [] [] name source all one = (one, tt)
opened-more remaining given (n ∷ names) (s ∷ sources) name source all one =
    (all.0, opened-more remaining given names sources name source all.1 one)
opened-more remaining given [] (s ∷ sources) name source all one = absurd all
opened-more remaining given (n ∷ names) [] name source all one = absurd all

-- the next of the names is opened
pub opened-next : {S R : Type 0} (bytes : S → Text) (remaining : R → Option (List ℕ)) (given : Text → Option (List ℕ)) (names : List S)
    (i : ℕ) (item d : S) (sources next : List (Source R)) (word : Text) (source : Source R) → i < length names → item ≡ get_or names i d
    → word ≡ bytes item → next ≡ sources ++ source ∷ [] → AreOpened remaining given (map bytes (take i names)) sources
    → IsOpened remaining given word source → AreOpened remaining given (map bytes (take (i + 1) names)) next
opened-next bytes remaining given names i item d sources next word source below is word_is next_is all one =
    let more = ap (map bytes) (take_more names i d below ∙ ap (λ n. take i names ++ (n ∷ [])) (sym is))
    ∙ map-append bytes (take i names) (item ∷ []) in
    subst (λ ns. AreOpened remaining given ns next) (sym more)
    (subst (λ ss. AreOpened remaining given (map bytes (take i names) ++ (bytes item ∷ [])) ss) (sym next_is)
    (opened-more remaining given (map bytes (take i names)) sources (bytes item) source all
    (subst (λ n. IsOpened remaining given n source) word_is one)))

-- ---- inputs of the same files

module _ {F R : Type 0} (of_standard : F → Option (List ℕ)) (of_file : F → Text → Option (List ℕ)) (remaining : R → Option (List ℕ))
    (files own : F) (same : files ≡ own) (names : List Text) where
  pub job-inputs-of : (l r left right : Source R) → left ≡ l → right ≡ r
      → AreJobInputs remaining (given_by (of_standard files) (of_file files)) names l r
      → AreJobInputs remaining (given_by (of_standard own) (of_file own)) names left right
  job-inputs-of l r left right left_is right_is are =
      subst (λ f. AreJobInputs remaining (given_by (of_standard f) (of_file f)) names left right) same
      (subst (λ s. AreJobInputs remaining (given_by (of_standard files) (of_file files)) names left s) (sym right_is)
      (subst (λ s. AreJobInputs remaining (given_by (of_standard files) (of_file files)) names s r) (sym left_is) are))

  pub feed-inputs-of : (holidays : Option (Source R)) (s source : Source R) → source ≡ s
      → AreFeedInputs remaining (given_by (of_standard files) (of_file files)) names holidays s
      → AreFeedInputs remaining (given_by (of_standard own) (of_file own)) names holidays source
  feed-inputs-of holidays s source source_is are =
      subst (λ f. AreFeedInputs remaining (given_by (of_standard f) (of_file f)) names holidays source) same
      (subst (λ t. AreFeedInputs remaining (given_by (of_standard files) (of_file files)) names holidays t) (sym source_is) are)

  pub update-inputs-of : (f full : Source R) (us updates : List (Source R)) → full ≡ f → updates ≡ us
      → AreUpdateInputs remaining (given_by (of_standard files) (of_file files)) names f us
      → AreUpdateInputs remaining (given_by (of_standard own) (of_file own)) names full updates
  update-inputs-of f full us updates full_is updates_are are =
      subst (λ v. AreUpdateInputs remaining (given_by (of_standard v) (of_file v)) names full updates) same
      (subst (λ vs. AreUpdateInputs remaining (given_by (of_standard files) (of_file files)) names full vs) (sym updates_are)
      (subst (λ v. AreUpdateInputs remaining (given_by (of_standard files) (of_file files)) names v us) (sym full_is) are))
