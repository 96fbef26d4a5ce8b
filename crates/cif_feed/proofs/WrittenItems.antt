-- Texts that are written one after another.
use Rattle.cif_feed.proofs.Names.{Association, HasFailed, HasWritten, Header, List, Option, PreparedRecord, PublishedExtract}
use Rattle.cif_feed.proofs.Names.{PublishedParts, Schedule, Sink, Tiploc, [], ap, append-nil, ap₂, association_on, drop, extract_text}
use Rattle.cif_feed.proofs.Names.{failed_first, failed_second, flat_map, flat_map-append, flat_map-map, get_or, head_text, header_table}
use Rattle.cif_feed.proofs.Names.{length, line_of_association, line_of_tiploc, lines_text, map, map-map, plain_line, plain_lines_of}
use Rattle.cif_feed.proofs.Names.{prepared_association_text, prepared_parts, prepared_schedule_text, published_association_line}
use Rattle.cif_feed.proofs.Names.{published_association_text, published_schedule_lines, published_schedule_text, published_text}
use Rattle.cif_feed.proofs.Names.{records_text, refl, schedule_on, subst, sym, take, take-append-drop, take_all, take_more, tiploc_text}
use Rattle.cif_feed.proofs.Names.{trailer_text, ℕ, ◌++◌, ◌+◌, ◌<◌, ◌∙◌, ◌∷◌, ◌≡◌, ◌≤◌}
use Rattle.cif_records.specs.Trailer.{trailer_table}

-- ---- one text more

module _ {A W : Type 0} (contents : W → Option (List ℕ)) (errors : W → Option ℕ) (text : A → List ℕ) (items : List A) (s : Sink W) where
  abbrev so_far : ℕ → List ℕ
  so_far n = flat_map text (take n items)

  module _ (n : ℕ) (t : Sink W) (item : A) (below : n < length items) (is : item ≡ get_or items n item)
      (written : HasWritten contents errors (flat_map text (take n items)) s t) where
    next_text : so_far (n + 1) ≡ so_far n ++ text item
    next_text =
        ap (flat_map text) (take_more items n item below ∙ ap (λ (y : A). take n items ++ y ∷ []) (sym is))
        ∙ flat_map-append text (take n items) (item ∷ []) ∙ ap (λ (l : List ℕ). so_far n ++ l) (append-nil (text item))

    whole : so_far (n + 1) ++ flat_map text (drop (n + 1) items) ≡ flat_map text items
    whole = sym (flat_map-append text (take (n + 1) items) (drop (n + 1) items)) ∙ ap (flat_map text) (take-append-drop (n + 1) items)

    pub one-failed : (u : Sink W) → HasFailed contents errors (text item) t u → HasFailed contents errors (flat_map text items) s u
    one-failed u h =
        subst (λ (l : List ℕ). HasFailed contents errors l s u) whole
        (failed_first contents errors (so_far (n + 1)) (flat_map text (drop (n + 1) items)) s u
        (subst (λ (l : List ℕ). HasFailed contents errors l s u) (sym next_text)
        (failed_second contents errors (so_far n) (text item) s t u written h)))

  pub all-written : (n : ℕ) (t : Sink W) → length items ≤ n → HasWritten contents errors (flat_map text (take n items)) s t
      → HasWritten contents errors (flat_map text items) s t
  all-written n t over h = subst (λ (l : List A). HasWritten contents errors (flat_map text l) s t) (take_all n items over) h

-- ---- texts of lines

lines-append : (a b : List (List ℕ)) → lines_text (a ++ b) ≡ lines_text a ++ lines_text b
lines-append a b = flat_map-append (λ (line : List ℕ). line ++ 10 ∷ []) a b

-- the text of one line a record
lines-map : {A : Type 0} (line : A → List ℕ) (xs : List A) → lines_text (map line xs) ≡ flat_map (λ x. line x ++ 10 ∷ []) xs
lines-map line [] = refl
lines-map line (x ∷ xs) = ap (λ l. (line x ++ 10 ∷ []) ++ l) (lines-map line xs)

lines-flat : {A : Type 0} (lines : A → List (List ℕ)) (xs : List A) → lines_text (flat_map lines xs)
    ≡ flat_map (λ x. lines_text (lines x)) xs
lines-flat lines [] = refl
lines-flat lines (x ∷ xs) = lines-append (lines x) (flat_map lines xs) ∙ ap (λ l. lines_text (lines x) ++ l) (lines-flat lines xs)

-- the texts of a header, of locations, of records and of the trailer are the text of their lines
texts-whole : {A S : Type 0} (header : Header) (tiplocs : List Tiploc) (line : A → List ℕ) (xs : List A) (lines : S → List (List ℕ))
    (ss : List S)
    → records_text header tiplocs (flat_map (λ a. line a ++ 10 ∷ []) xs) (flat_map (λ s. lines_text (lines s)) ss)
    ≡ lines_text (plain_line (header_table header) ∷ (map line_of_tiploc tiplocs
    ++ (map line xs ++ (flat_map lines ss ++ (plain_line trailer_table ∷ [])))))
texts-whole header tiplocs line xs lines ss =
    let last = plain_line trailer_table ∷ [] in
    let schedules = flat_map lines ss in
    let associations = map line xs in
    sym (ap (λ l. head_text header ++ l)
    (lines-append (map line_of_tiploc tiplocs) (associations ++ (schedules ++ last))
    ∙ ap (λ l. l ++ lines_text (associations ++ (schedules ++ last))) (lines-map line_of_tiploc tiplocs)
    ∙ ap (λ l. flat_map tiploc_text tiplocs ++ l)
    (lines-append associations (schedules ++ last)
    ∙ ap (λ l. l ++ lines_text (schedules ++ last)) (lines-map line xs) ∙ ap (λ l. flat_map (λ a. line a ++ 10 ∷ []) xs ++ l)
    (lines-append schedules last
    ∙ ap (λ l. l ++ lines_text last) (lines-flat lines ss)
    ∙ ap (λ l. flat_map (λ s. lines_text (lines s)) ss ++ l) (append-nil trailer_text)))))

-- ---- the text of a published extract

pub published-whole : (p : PublishedParts) → records_text p.header p.tiplocs (flat_map published_association_text p.associations)
    (flat_map published_schedule_text p.schedules) ≡ published_text p
published-whole p = texts-whole p.header p.tiplocs published_association_line p.associations published_schedule_lines p.schedules

-- ---- the text of a prepared extract

pub prepared-whole : (x : PublishedExtract) (xs : List (PreparedRecord Association ℕ)) (ss : List (PreparedRecord Schedule ℕ))
    → records_text x.header x.tiplocs.items (flat_map prepared_association_text xs) (flat_map prepared_schedule_text ss)
    ≡ extract_text (prepared_parts x xs ss)
prepared-whole x xs ss =
    texts-whole x.header x.tiplocs.items (λ p. line_of_association (association_on p)) xs (λ p. plain_lines_of (schedule_on p)) ss
    ∙ ap₂ (λ (associations schedules : List (List ℕ)). lines_text (plain_line (header_table x.header)
    ∷ (map line_of_tiploc x.tiplocs.items ++ (associations ++ (schedules ++ (plain_line trailer_table ∷ []))))))
    (sym (map-map line_of_association association_on xs)) (sym (flat_map-map plain_lines_of schedule_on ss))
