-- The rows of associations, and of what is explained, have all fields; and those of records have all columns.
use Rattle.cif_views.proofs.Names.{List, [], ap, append-nil, append_assoc, columns, drop, drop-drop, refl, sym, take, take-add, ℕ, ◌++◌}
use Rattle.cif_views.{proofs.Names.◌+◌, proofs.Names.◌∙◌, proofs.Names.◌∷◌, proofs.Names.◌≡◌, specs.AllFields.TablesHaveColumns}
use Rattle.cif_views.proofs.Names.{AssocBody, AssocKey, BodyLines, None, Option, Some, Terms, codes, day_names, explained_association_row, explained_train_row}
use Rattle.cif_views.proofs.Names.{false, map, said_of_association, said_of_train, start_fields, train_names}
use Rattle.cif_canon.specs.Rows.{association_names, no_association}
use Rattle.cif_rows.specs.Row.{Field}
use Rattle.cif_views.specs.AllFields.{CallsHaveAll, DayRowsHaveAll, ExplainedRowsHaveAll, TrainRowsHaveAll, table_with}
use Rattle.cif_views.specs.{Explanation.explanation_names, declared.marks.Mark.Mark}

-- pieces of so many columns, one behind another, and then the rest
module _ (line : List ℕ) where
  abbrev pieces : ℕ → List ℕ → List ℕ → List ℕ
  pieces from [] rest = rest
  pieces from (w ∷ widths) rest = take w (drop from line) ++ pieces (from + w) widths rest

  abbrev total : List ℕ → ℕ
  total [] = 0
  total (w ∷ widths) = w + total widths

  whole : (from : ℕ) (widths rest : List ℕ) → pieces from widths rest ≡ take (total widths) (drop from line) ++ rest
  whole from [] rest = refl
  whole from (w ∷ widths) rest =
      ap (λ (l : List ℕ). take w (drop from line) ++ l)
      (whole (from + w) widths rest ∙ ap (λ (l : List ℕ). take (total widths) l ++ rest) (sym (drop-drop w from line)))
      ∙ sym (append_assoc (take w (drop from line)) (take (total widths) (drop w (drop from line))) rest)
      ∙ ap (λ (l : List ℕ). l ++ rest) (sym (take-add w (total widths) (drop from line)))

  all-of : (from : ℕ) (widths : List ℕ) → pieces from widths [] ≡ take (total widths) (drop from line)
  all-of from widths = whole from widths [] ∙ append-nil (take (total widths) (drop from line))

  of-origin : pieces 2 (7 ∷ 1 ∷ 5 ∷ 4 ∷ 3 ∷ 3 ∷ []) (pieces 29 (12 ∷ []) (pieces 25 (2 ∷ 2 ∷ []) (pieces 41 (2 ∷ []) [])))
      ≡ columns 3 25 line ++ (columns 30 41 line ++ (columns 26 29 line ++ columns 42 43 line))
  of-origin =
      whole 2 (7 ∷ 1 ∷ 5 ∷ 4 ∷ 3 ∷ 3 ∷ []) _
      ∙ ap (λ (l : List ℕ). columns 3 25 line ++ l)
      (whole 29 (12 ∷ []) _
      ∙ ap (λ (l : List ℕ). columns 30 41 line ++ l)
      (whole 25 (2 ∷ 2 ∷ []) _ ∙ ap (λ (l : List ℕ). columns 26 29 line ++ l) (all-of 41 (2 ∷ []))))

  pub all-columns : TablesHaveColumns line
  all-columns = record {
    header = all-of 2 (20 ∷ 6 ∷ 4 ∷ 7 ∷ 7 ∷ 1 ∷ 1 ∷ []);
    tiploc = all-of 2 (7 ∷ 2 ∷ 6 ∷ 1 ∷ 26 ∷ 5 ∷ 4 ∷ 3 ∷ 16 ∷ []);
    association = all-of 3 (6 ∷ 6 ∷ 6 ∷ 6 ∷ 7 ∷ 2 ∷ 1 ∷ 7 ∷ 1 ∷ 1 ∷ 1 ∷ 1 ∷ []);
    dates = all-of 3 (6 ∷ 6 ∷ 6 ∷ 7 ∷ []);
    details = all-of 29 (1 ∷ 2 ∷ 4 ∷ 4 ∷ 1 ∷ 8 ∷ 1 ∷ 3 ∷ 4 ∷ 3 ∷ 6 ∷ 1 ∷ 1 ∷ 1 ∷ 1 ∷ 4 ∷ 4 ∷ []);
    extra = all-of 2 (4 ∷ 5 ∷ 2 ∷ 1 ∷ 8 ∷ 1 ∷ []);
    change = all-of 2 (7 ∷ 1 ∷ 2 ∷ 4 ∷ 4 ∷ 1 ∷ 8 ∷ 1 ∷ 3 ∷ 4 ∷ 3 ∷ 6 ∷ 1 ∷ 1 ∷ 1 ∷ 1 ∷ 4 ∷ 4 ∷ 4 ∷ 5 ∷ 8 ∷ []);
    origin = λ e. rw e of-origin;
    stop = λ e. rw e (all-of 2 (7 ∷ 1 ∷ 5 ∷ 5 ∷ 5 ∷ 4 ∷ 4 ∷ 3 ∷ 3 ∷ 3 ∷ 12 ∷ 2 ∷ 2 ∷ 2 ∷ []));
    terminus = λ e. rw e (all-of 2 (7 ∷ 1 ∷ 5 ∷ 4 ∷ 3 ∷ 3 ∷ 12 ∷ []));
  }

-- ---- names

abbrev name_of : Field → List ℕ
name_of f = f.name

association-names : (key : AssocKey) (body : Option AssocBody) → map name_of (said_of_association key body) ≡ association_names
association-names key (Some body) = refl
association-names key None = refl

train-names : (d : ℕ) (m : Mark) (uid : List ℕ) (r : Terms BodyLines) (body : Option BodyLines) →
    map name_of (start_fields d m (codes "BS") r ++ (said_of_train uid body ++ no_association)) ≡ explanation_names
train-names d m uid r (Some body) = refl
train-names d m uid r None = refl

pub explained-names : ExplainedRowsHaveAll
unfolding explained_association_row explained_train_row
explained-names = record {
  association = λ d e. ap (λ (ns : List (List ℕ)). take 17 explanation_names ++ ns) (association-names e.key e.terms.body);
  train = λ d e. train-names d e.mark e.key e.terms e.terms.body;
}

pub day-names : DayRowsHaveAll
day-names = record {
  association = λ d e. refl;
  no_call = λ d e. refl;
  train = λ d e. refl;
  call = λ d e call is. ap (λ (ns : List (List ℕ)). day_names (table_with false) ++ ns) is;
}

pub train-rows : TrainRowsHaveAll
train-rows = record {
  schedule = λ uid r. refl;
  call = λ uid r call is. ap (λ (ns : List (List ℕ)). train_names (table_with false) ++ ns) is;
}

pub call-names : CallsHaveAll
call-names = record { origin = λ o. (refl, refl); stop = λ s. (refl, refl); terminus = λ t. (refl, refl) }
