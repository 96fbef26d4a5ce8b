-- The prepared records of one published record more, and of all where the same days stop them.
use Rattle.cif_feed.proofs.Names.{AreAdded, AreParts, ArePartsOf, ArePrepared, AssocBody, AssocKey, Association, BodyLines, Contains}
use Rattle.cif_feed.proofs.Names.{HolidayCode, Holidays, IsHolidayOf, IsStopAmong, List, None, Option, Part, PreparedRecord, PublishedTerms}
use Rattle.cif_feed.proofs.Names.{Schedule, Some, Terms, [], ap, append-nil, append_assoc, arith, association_entries, association_entry}
use Rattle.cif_feed.proofs.Names.{association_on, association_terms, ended, get_or, holidays_of, inl, inr, length, map, map-append, map-map}
use Rattle.cif_feed.proofs.Names.{part_entry, prepared_last, records_on, refl, schedule_entries, schedule_entry, schedule_on}
use Rattle.cif_feed.proofs.Names.{schedule_terms, subst, sym, take, take_more, ℕ, ⊎_elim, ◌++◌, ◌+◌, ◌<◌, ◌↔◌, ◌∙◌, ◌∷◌, ◌≡◌, ◌⊎◌}
use Rattle.cif_feed.proofs.PartLists.{parts-same}

-- the prepared records as those of an extract
pub prepared-associations : (xs : List (PreparedRecord Association ℕ))
    → records_on {K = AssocKey} {B = AssocBody} (λ (a : Association). a.key) association_terms xs
    ≡ association_entries (map association_on xs)
prepared-associations xs = sym (map-map association_entry association_on xs)

pub prepared-schedules : (xs : List (PreparedRecord Schedule ℕ))
    → records_on {K = List ℕ} {B = BodyLines} (λ (s : Schedule). s.uid) schedule_terms xs ≡ schedule_entries (map schedule_on xs)
prepared-schedules xs = sym (map-map schedule_entry schedule_on xs)

-- those that are added to them
pub added-as : {E K B : Type 0} (key : E → K) (terms : E → Terms B) (entries : List (PreparedRecord E ℕ) → List (K × Terms B))
    → ((l : List (PreparedRecord E ℕ)) → records_on key terms l ≡ entries l) → (Stops : ℕ → Type 0) (k : K) (r : Terms B)
    (old new : List (PreparedRecord E ℕ)) → AreAdded Stops k r (records_on key terms old) (records_on key terms new)
    → AreAdded Stops k r (entries old) (entries new)
added-as key terms entries same Stops k r old new added =
    subst (AreAdded Stops k r (entries old)) (same new) (subst (λ l. AreAdded Stops k r l (records_on key terms new)) (same old) added)

-- days that stop where others do leave the same
pub prepared-same : {K B : Type 0} (S T : K → Option HolidayCode → ℕ → Type 0)
    → ((k : K) (code : Option HolidayCode) (d : ℕ) → S k code d ↔ T k code d) → (window_last : ℕ) (entries : List (K × PublishedTerms B))
    (prepared : List (K × Terms B)) → ArePrepared S window_last entries prepared → ArePrepared T window_last entries prepared
prepared-same S T same window_last [] prepared are = are
prepared-same S T same window_last (e ∷ entries) prepared (parts, others, own, joined, rest) = (
  parts,
  others,
  parts-same (S e.0 e.1.code) (T e.0 e.1.code) (ended (prepared_last window_last e.1) e.1.terms) (same e.0 e.1.code) parts own,
  joined,
  prepared-same S T same window_last entries others rest,
)

-- the parts of one record more
prepared-push : {K B : Type 0} (Stops : K → Option HolidayCode → ℕ → Type 0) (window_last : ℕ) (entries : List (K × PublishedTerms B))
    (prepared : List (K × Terms B)) (e : K × PublishedTerms B) (parts : List Part) → ArePrepared Stops window_last entries prepared
    → ArePartsOf (Stops e.0 e.1.code) window_last e.1 parts
    → ArePrepared Stops window_last (entries ++ e ∷ []) (prepared ++ map (part_entry e.0 e.1.terms) parts)
prepared-push {K} {B} Stops window_last [] prepared e parts none are = (
  parts,
  [],
  are,
  ap (λ (l : List (K × Terms B)). l ++ map (part_entry e.0 e.1.terms) parts) none ∙ sym (append-nil (map (part_entry e.0 e.1.terms) parts)),
  refl,
)
prepared-push {K} {B} Stops window_last (x ∷ entries) prepared e parts (own, others, are_own, joined, rest) are = (
  own,
  others ++ map (part_entry e.0 e.1.terms) parts,
  are_own,
  ap (λ (l : List (K × Terms B)). l ++ map (part_entry e.0 e.1.terms) parts) joined
      ∙ append_assoc (map (part_entry x.0 x.1.terms) own) others (map (part_entry e.0 e.1.terms) parts),
  prepared-push Stops window_last entries others e parts rest are,
)

-- a holiday of a code is one of its days
pub holiday-days : (h : Holidays) (code : Option HolidayCode) (d : ℕ) → Contains (holidays_of h code) d ↔ IsHolidayOf h code d
holiday-days h None d = (λ has. absurd (let below : has.0 < 0 = has.1 in omega arith), λ none. absurd none)
holiday-days h (Some code) d = (λ has. has, λ is. is)

-- what a record was cut into, at its holidays and at the days of its key, comes behind the others
pub added-more : {A K B : Type 0} (f : A → K × PublishedTerms B) (h : Holidays) (days : K → List ℕ) (window_last : ℕ) (xs : List A) (i : ℕ)
    (x : A) (prepared now : List (K × Terms B)) (last : ℕ) (holidays dates : List ℕ) → i < length xs → x ≡ get_or xs i x
    → last ≡ prepared_last window_last (f x).1 → holidays ≡ holidays_of h (f x).1.code → dates ≡ days (f x).0
    → AreAdded (λ d. Contains holidays d ⊎ Contains dates d) (f x).0 (ended last (f x).1.terms) prepared now
    → ArePrepared (IsStopAmong h days) window_last (map f (take i xs)) prepared
    → ArePrepared (IsStopAmong h days) window_last (map f (take (i + 1) xs)) now
added-more {A} {K} {B} f h days window_last xs i x prepared now last holidays dates below at ends of_code of_key (own, are, is) so_far =
    let e : K × PublishedTerms B = f x in
    let r : Terms B = ended (prepared_last window_last e.1) e.1.terms in
    let cut : AreParts (λ d. Contains (holidays_of h e.1.code) d ⊎ Contains (days e.0) d) r own =
    subst (λ (n : ℕ). AreParts (λ d. Contains (holidays_of h e.1.code) d ⊎ Contains (days e.0) d) (ended n e.1.terms) own) ends
    (subst (λ (l : List ℕ). AreParts (λ d. Contains l d ⊎ Contains (days e.0) d) (ended last e.1.terms) own) of_code
    (subst (λ (l : List ℕ). AreParts (λ d. Contains holidays d ⊎ Contains l d) (ended last e.1.terms) own) of_key are)) in
    let parts : ArePartsOf (IsStopAmong h days e.0 e.1.code) window_last e.1 own =
    parts-same (λ d. Contains (holidays_of h e.1.code) d ⊎ Contains (days e.0) d) (IsStopAmong h days e.0 e.1.code) r (λ d. (
      λ stop. ⊎_elim (λ day. inl ((holiday-days h e.1.code d).0 day)) (λ day. inr day) stop,
      λ stop. ⊎_elim (λ day. inl ((holiday-days h e.1.code d).1 day)) (λ day. inr day) stop,
    )) own cut in
    let one : map f (take (i + 1) xs) ≡ map f (take i xs) ++ f x ∷ [] =
    ap (map f) (take_more xs i x below ∙ ap (λ (y : A). take i xs ++ y ∷ []) (sym at)) ∙ map-append f (take i xs) (x ∷ []) in
    subst (λ (l : List (K × PublishedTerms B)). ArePrepared (IsStopAmong h days) window_last l now) (sym one)
    (subst (λ (l : List (K × Terms B)). ArePrepared (IsStopAmong h days) window_last (map f (take i xs) ++ f x ∷ []) l) (sym is)
    (prepared-push (IsStopAmong h days) window_last (map f (take i xs)) prepared (f x) own so_far parts))
