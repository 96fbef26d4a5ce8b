-- Whole lines at the front of bytes: their contents come first.
use Rattle.cif_columns.proofs.Names.{Bool, EndsLine, List, StandsFirst, [], ap, append-nil, append_assoc, append_cancel_right, arith, cond}
use Rattle.cif_columns.proofs.Names.{false, is_line_feed, length, length-append, lines, lines_of_parts, map, nil_from_length, onto_first}
use Rattle.cif_columns.proofs.Names.{refl, slice_split, strip_carriage_return, sym, true, ℕ, ◌++◌, ◌∙◌, ◌∷◌, ◌≡◌}
use mathlib.Core.Logic.{inl, inr, ⊎_elim, ◌⊎◌}

-- bytes have a part
pub parts_some : (p : ℕ → Bool) (bytes : List ℕ) → (first : List ℕ) × (others : List (List ℕ)) × (slice_split p bytes ≡ first ∷ others)
parts_some p [] = ([], [], refl)
parts_some p (x ∷ xs) = at (p x) (parts_some p xs)
  where
    at : (b : Bool) → (first : List ℕ) × (others : List (List ℕ)) × (slice_split p xs ≡ first ∷ others)
        → (first : List ℕ) × (others : List (List ℕ)) × (cond b ([] ∷ slice_split p xs) (onto_first x (slice_split p xs)) ≡ first ∷ others)
    at true h = ([], slice_split p xs, refl)
    at false h = (x ∷ h.0, h.1, ap (onto_first x) h.2)

-- a line feed splits its bytes
pub split_at_feed : (front more : List ℕ)
    → slice_split is_line_feed (front ++ 10 ∷ more) ≡ slice_split is_line_feed front ++ slice_split is_line_feed more
split_at_feed [] more = refl
split_at_feed (x ∷ xs) more = at (is_line_feed x) (split_at_feed xs more) (parts_some is_line_feed xs)
  where
    at : (b : Bool) → slice_split is_line_feed (xs ++ 10 ∷ more) ≡ slice_split is_line_feed xs ++ slice_split is_line_feed more
        → (first : List ℕ) × (others : List (List ℕ)) × (slice_split is_line_feed xs ≡ first ∷ others)
        → cond b ([] ∷ slice_split is_line_feed (xs ++ 10 ∷ more)) (onto_first x (slice_split is_line_feed (xs ++ 10 ∷ more)))
        ≡ cond b ([] ∷ slice_split is_line_feed xs) (onto_first x (slice_split is_line_feed xs)) ++ slice_split is_line_feed more
    at true more_split some = ap (λ l. [] ∷ l) more_split
    at false more_split some =
        ap (onto_first x) (more_split ∙ ap (λ l. l ++ slice_split is_line_feed more) some.2)
        ∙ ap (λ l. onto_first x l ++ slice_split is_line_feed more) (sym some.2)

-- all parts but the last end at a line feed
pub lines_of_parts-append : (parts : List (List ℕ)) (last : List ℕ) (others : List (List ℕ))
    → lines_of_parts (parts ++ last ∷ others) ≡ map strip_carriage_return parts ++ lines_of_parts (last ∷ others)
lines_of_parts-append [] last others = refl
lines_of_parts-append (x ∷ []) last others = refl
lines_of_parts-append (x ∷ y ∷ parts) last others = ap (λ l. strip_carriage_return x ∷ l) (lines_of_parts-append (y ∷ parts) last others)

pub lines_to_feed : (front more : List ℕ)
    → lines (front ++ 10 ∷ more) ≡ map strip_carriage_return (slice_split is_line_feed front) ++ lines more
lines_to_feed front more =
    let (last, others, is) = parts_some is_line_feed more in
    ap lines_of_parts (split_at_feed front more ∙ ap (λ l. slice_split is_line_feed front ++ l) is)
    ∙ lines_of_parts-append (slice_split is_line_feed front) last others
    ∙ ap (λ l. map strip_carriage_return (slice_split is_line_feed front) ++ lines_of_parts l) (sym is)

-- the contents of bytes that end with a line feed come before those of what follows
pub lines_after_feed : (front more : List ℕ) → lines ((front ++ 10 ∷ []) ++ more) ≡ lines (front ++ 10 ∷ []) ++ lines more
lines_after_feed front more =
    ap lines (append_assoc front (10 ∷ []) more) ∙ lines_to_feed front more
    ∙ ap (λ l. l ++ lines more) (sym (lines_to_feed front [] ∙ append-nil _))

pub lines_whole : (whole more : List ℕ) → (whole ≡ []) ⊎ EndsLine whole more → lines (whole ++ more) ≡ lines whole ++ lines more
lines_whole whole more = ⊎_elim
    (λ none. ap (λ l. lines (l ++ more)) none ∙ ap (λ l. lines l ++ lines more) (sym none))
    (⊎_elim
    (λ fed. ap (λ l. lines (l ++ more)) fed.1 ∙ lines_after_feed fed.0 more ∙ ap (λ l. lines l ++ lines more) (sym fed.1))
    (λ none. ap (λ l. lines (whole ++ l)) none ∙ ap lines (append-nil whole) ∙ sym (append-nil (lines whole))
    ∙ ap (λ l. lines whole ++ lines l) (sym none)))

-- a line that stands first is a piece of the bytes, whose last line doesn't go on
pub piece_of : (bytes line rest : List ℕ) → StandsFirst bytes line rest → (piece : List ℕ) × (bytes ≡ piece ++ rest) × EndsLine piece rest
piece_of bytes line rest = ⊎_elim
    (λ fed. (line ++ 10 ∷ [], fed ∙ sym (append_assoc line (10 ∷ []) rest), inl (line, refl)))
    (⊎_elim
    (λ returned. (
      line ++ 13 ∷ 10 ∷ [],
      returned ∙ sym (append_assoc line (13 ∷ 10 ∷ []) rest),
      inl (line ++ 13 ∷ [], sym (append_assoc line (13 ∷ []) (10 ∷ []))),
    ))
    (λ alone. (line, alone.0 ∙ sym (append-nil line) ∙ ap (λ l. line ++ l) (sym alone.1), inr alone.1)))

-- a piece after whole lines
pub ends_after : (whole piece rest : List ℕ) → EndsLine piece rest → EndsLine (whole ++ piece) rest
ends_after whole piece rest = ⊎_elim
    (λ fed. inl (whole ++ fed.0, ap (λ l. whole ++ l) fed.1 ∙ sym (append_assoc whole fed.0 (10 ∷ []))))
    (λ none. inr none)

-- whole lines before some bytes are whole before a prefix of them, which isn't empty or all
pub ends_before : (whole front more : List ℕ) → (whole ≡ []) ⊎ EndsLine whole (front ++ more) → (whole ≡ []) ⊎ EndsLine whole front
ends_before whole front more = ⊎_elim
    (λ none. inl none)
    (⊎_elim
    (λ fed. inr (inl fed))
    (λ none. inr (inr (nil_from_length front (omega (arith, ap length none, length-append front more))))))

-- the one line of a piece
pub lines_piece : (piece rest line : List ℕ) → EndsLine piece rest → lines (piece ++ rest) ≡ line ∷ lines rest → lines piece ≡ line ∷ []
lines_piece piece rest line ended is = append_cancel_right (lines piece) (line ∷ []) (lines rest)
    (sym (lines_whole piece rest (inr ended)) ∙ is)
