-- A line of a feed spells one record at most, of the kind that it names, and there is no reason to refuse a line that spells one.
use Rattle.cif_feed.proofs.Names.{AllFit, AllStandIn, AreLayouts, AssocBody, AssocKey, Association, Basic, BasicTerms, Bool, Detail, Feed}
use Rattle.cif_feed.proofs.Names.{FieldValue, Full, HolidayCode, HolidayCodes, IsClosedAt, IsDay, IsDeletion, IsLine, Kind, List, None}
use Rattle.cif_feed.proofs.Names.{Option, Record, Refusal, Row, Some, SpellsAssociationBy, SpellsBasicBy, SpellsInFeed, SpellsTiplocBy}
use Rattle.cif_feed.proofs.Names.{StandsIn, StandsInYymmdd, Stp, Ta, Td, Ti, Tiploc, Transaction, [], ap, association_refusal_by}
use Rattle.cif_feed.proofs.Names.{association_rows, association_rows_by, association_table, basic_back, basic_front_by, basic_refusal_by}
use Rattle.cif_feed.proofs.Names.{basic_rows, basic_table, cancels_in_feed, code_of, code_value, codes, columns, cond, dates_fine}
use Rattle.cif_feed.proofs.Names.{dates_refusal, days_of-stands, deleted_association_rows, deleted_basic_rows, deletes, detail_rows}
use Rattle.cif_feed.proofs.Names.{end_value, false, feed_layouts, feed_refusal_as, has_body, indicator_of, is_open, is_some, kind_in}
use Rattle.cif_feed.proofs.Names.{kind_of, kind_read_as, length, letter_cancels, letter_of, lit<, not, one_date_value, one_exactly}
use Rattle.cif_feed.proofs.Names.{one_weekdays, open_dates_refusal, or-true, printable_fact, put_association_rows, put_basic_front}
use Rattle.cif_feed.proofs.Names.{put_basic_rows, record_table, refl, spare, stp_in-letter, subst, sym, terms_of, transaction_at}
use Rattle.cif_feed.proofs.Names.{transaction_letter, true, weekdays, yymmdd_in-stands, ℕ, ◌++◌, ◌||◌, ◌∙◌, ◌∷◌, ◌≡◌, ◌≤◌}
use Rattle.cif_columns.{proofs.DayDigits.is_day-yymmdd, specs.Stp.letter}
use Rattle.cif_columns.proofs.StoodValues as stood
use Rattle.cif_records.proofs.Associations as associations
use Rattle.cif_records.proofs.Basics as basics
use Rattle.cif_records.proofs.Headers as headers
use Rattle.cif_records.{proofs.Identities.only_kind, proofs.Rows.◌&◌, specs.Kind.identity}
use Rattle.cif_records.proofs.Records as records
use Rattle.cif_records.proofs.Tiplocs as tiplocs
use Rattle.cif_records.specs.Checks.{are, date_refusal, letter_refusal}
use Rattle.cif_records.specs.declared.record.Record.TheVariants as of
use Rattle.cif_extract.specs.Layouts.{cancels}
use Rattle.cif_feed.specs.declared.feed_line.Feed.TheVariants.{Update}
use Rattle.cif_feed.specs.declared.mark.Transaction.TheVariants.{Deleted, New, Revised}

-- ---- values

none_there : {A : Type 0} (o : Option A) → is_some o ≡ false → o ≡ None
none_there None e = refl
none_there (Some x) e = cc

-- the dates that stand there aren't refused, where the last may be open
fine_dates : (open_end : Bool) (first last : List ℕ) (m n : ℕ) → are last (codes "999999") ≡ open_end → StandsInYymmdd first m
    → StandsIn last (end_value open_end n) → m ≤ n → open_dates_refusal first last ≡ None
fine_dates true first last m n e s t in_order = rw (e, yymmdd_in-stands first m s)
fine_dates false first last m n e s t in_order =
    ap (λ b. cond b (date_refusal first) (dates_refusal first last)) e ∙ dates_fine first last m n s t in_order

-- nor is the column of a holiday code
fine_code : (code : Option HolidayCode) (cs : List ℕ) → StandsIn cs (code_value code) → (are cs (codes " ") || is_some code) ≡ true
fine_code None cs s = rw s refl
fine_code (Some code) cs s = or-true (are cs (codes " "))

-- the day of an end
end_day : (open_end : Bool) (cs : List ℕ) (last : ℕ) → StandsIn cs (end_value open_end last) → IsClosedAt open_end last → IsDay last
end_day true cs last s closed = subst IsDay (sym (closed refl)) (lit< tt)
end_day false cs last s closed = is_day-yymmdd cs last s

-- one day is an end
one_end : (open_end : Bool) (cs : List ℕ) (a b : ℕ) → StandsIn cs (end_value open_end a) → IsClosedAt open_end a
    → StandsIn cs (end_value open_end b) → IsClosedAt open_end b → a ≡ b
one_end true cs a b s p t q = p refl ∙ sym (q refl)
one_end false cs a b s p t q = one_date_value cs a b s t

-- ---- rows

-- what a feed's columns say fits those of this profile
fits_association : (t : List ℕ) (k : AssocKey) (f n : ℕ) (l d : FieldValue) (days : List Bool) (stp : Stp) (b : Option AssocBody)
    → AllFit (association_rows_by t k f l d stp b) → IsDay n → length days ≡ 7 → AllFit (association_rows k f n days stp b)
fits_association t k f n l d days stp b fit day seven =
    fit.0 & (refl, printable_fact (codes "N") refl) & fit.1.1.0 & fit.1.1.1.0 & fit.1.1.1.1.0 & (refl, day) & (refl, seven)
    & fit.1.1.1.1.1.1.1

fits_basic : (t uid : List ℕ) (f n : ℕ) (l d h : FieldValue) (days : List Bool) (stp : Stp) (b : Option Detail)
    → AllFit (basic_front_by t uid f l d h ++ (detail_rows b ++ basic_back stp)) → IsDay n → length days ≡ 7
    → AllFit (basic_rows uid f n days stp b)
fits_basic t uid f n l d h days stp b fit day seven =
    fit.0 & (refl, printable_fact (codes "N") refl) & fit.1.1.0 & fit.1.1.1.0 & (refl, day) & (refl, seven)
    & (refl, printable_fact (codes " ") refl) & fit.1.1.1.1.1.1.1

-- their widths
end_width : (open_end : Bool) (last : ℕ) → stood.has_width 6 (end_value open_end last) ≡ true
end_width true last = refl
end_width false last = refl

code_width : (code : Option HolidayCode) → stood.has_width 1 (code_value code) ≡ true
code_width None = refl
code_width (Some code) = refl

association_widths : (t : List ℕ) (k : AssocKey) (f n : ℕ) (days : List Bool) (stp : Stp) (open_end : Bool) (b : Option AssocBody)
    → stood.have_widths (association_rows_by t k f (end_value open_end n) (weekdays days) stp b) ≡ true
association_widths t k f n days stp open_end None = rw (end_width open_end n) refl
association_widths t k f n days stp open_end (Some b) = rw (end_width open_end n) refl

basic_widths : (t : Transaction) (open_end : Bool) (code : Option HolidayCode) (terms : BasicTerms) (d : Option Detail)
    → stood.have_widths (put_basic_rows t open_end code terms d) ≡ true
basic_widths t open_end code terms None = rw (end_width open_end terms.last, code_width code) refl
basic_widths t open_end code terms (Some d) = rw (end_width open_end terms.last, code_width code) refl

-- ---- by the transaction

-- what a line of these letters owes, by the records that it spells
record Owes {R : Type 0} (line letters : List ℕ) (refusal : Option Refusal) (ends : Bool) (last : R → ℕ) (table : R → List Row)
    (Spells : R → Type 0) : Type 0 where
  named : (r : R) → Spells r → columns 1 2 line ≡ letters
  fine : (r : R) → Spells r → refusal ≡ None
  one : (r q : R) → Spells r → Spells q → r ≡ q
  fits : IsLine line → (r : R) → Spells r → AllFit (table r)
  closed : (r : R) → Spells r → IsClosedAt ends (last r)

owes_nothing : {R : Type 0} (line letters : List ℕ) (refusal : Option Refusal) (ends : Bool) (last : R → ℕ) (table : R → List Row)
    → Owes line letters refusal ends last table (λ r. ⊥)
owes_nothing line letters refusal ends last table = record {
  named = λ r p. absurd p;
  fine = λ r p. absurd p;
  one = λ r q p s. absurd p;
  fits = λ is_line r p. absurd p;
  closed = λ r p. absurd p;
}

module _ (line : List ℕ) where
  letter_fine : (stp : Stp) → columns 80 80 line ≡ letter stp ∷ [] → letter_refusal line ≡ None
  letter_fine stp s = rw (s, stp_in-letter stp)

  abbrev OwesAssociation : Option Refusal → Bool → (Association → Type 0) → Type 0
  OwesAssociation refusal ends = Owes line (codes "AA") refusal ends (λ (a : Association). a.last) association_table

  -- an AA that puts
  module _ (t : Transaction) where
    abbrev IsPut : Association → Type 0
    IsPut a = AllStandIn line (put_association_rows t (is_open 22 line) a) × IsClosedAt (is_open 22 line) a.last

    abbrev put_parts : (a : Association) → IsPut a → associations.Parts line (transaction_letter t ∷ []) a.key a.first
        (end_value (is_open 22 line) a.last) (weekdays a.days) a.letter a.body
    put_parts a p = associations.parts_by line (transaction_letter t ∷ []) a.key a.first (end_value (is_open 22 line) a.last)
        (weekdays a.days) a.letter a.body p.0

    put_fine : (a : Association) → IsPut a → association_refusal_by (Some New) line ≡ None
    put_fine a p =
        let s = put_parts a p in
        let dates = fine_dates (is_open 22 line) (columns 16 21 line) (columns 22 27 line) a.first a.last refl s.first s.last a.in_order in
        rw (dates, days_of-stands _ _ s.days, letter_fine a.letter s.letter)

    put_one : (a b : Association) → IsPut a → IsPut b → a ≡ b
    put_one a b p q =
        let s = put_parts a p in
        let u = put_parts b q in
        associations.one_association_by line (transaction_letter t ∷ []) a b (end_value (is_open 22 line) a.last)
        (end_value (is_open 22 line) b.last) (weekdays a.days) (weekdays b.days) s u
        (one_end (is_open 22 line) (columns 22 27 line) a.last b.last s.last p.1 u.last q.1) (one_weekdays _ _ _ s.days u.days)

    put_fits : IsLine line → (a : Association) → IsPut a → AllFit (association_table a)
    put_fits is_line a p =
        let s = put_parts a p in
        let fit = stood.fit line is_line (put_association_rows t (is_open 22 line) a) refl
        (association_widths (transaction_letter t ∷ []) a.key a.first a.last a.days a.letter (is_open 22 line) a.body) p.0 in
        fits_association (transaction_letter t ∷ []) a.key a.first a.last (end_value (is_open 22 line) a.last) (weekdays a.days) a.days
        a.letter a.body fit (end_day (is_open 22 line) (columns 22 27 line) a.last s.last p.1) s.days.week

    put_owes : OwesAssociation (association_refusal_by (Some New) line) (is_open 22 line) IsPut
    put_owes = record { named = λ a p. p.0.0; fine = put_fine; one = put_one; fits = put_fits; closed = λ a p. p.1 }

  -- one that deletes
  abbrev IsCut : Association → Type 0
  IsCut a = AllStandIn line (deleted_association_rows a.key a.first (letter_of line)) × IsDeletion a.last a.days a.letter

  cut_bare : (a : Association) → IsCut a → a.body ≡ None
  cut_bare a p = none_there a.body (a.bodied ∙ ap has_body p.1.letter)

  abbrev cut_parts : (a : Association) → IsCut a → associations.Parts line (codes "D") a.key a.first spare spare (letter_of line) None
  cut_parts a p = associations.parts_by line (codes "D") a.key a.first spare spare (letter_of line) None p.0

  cut_one : (a b : Association) → IsCut a → IsCut b → a ≡ b
  cut_one a b p q =
      let s = cut_parts a p in
      let u = cut_parts b q in
      associations.same_association a b (associations.one_key line a.key b.key s.key u.key) (one_date_value _ _ _ s.first u.first)
      (p.1.last ∙ sym q.1.last) (p.1.days ∙ sym q.1.days) (p.1.letter ∙ sym q.1.letter) (cut_bare a p ∙ sym (cut_bare b q))

  cut_fits : IsLine line → (a : Association) → IsCut a → AllFit (association_table a)
  cut_fits is_line a p =
      let fit = stood.fit line is_line (deleted_association_rows a.key a.first (letter_of line)) refl refl p.0 in
      subst (λ b. AllFit (association_rows a.key a.first a.last a.days a.letter b)) (sym (cut_bare a p))
      (fits_association (codes "D") a.key a.first a.last spare spare a.days a.letter None fit (subst IsDay (sym p.1.last) (lit< tt))
      (ap length p.1.days))

  cut_fine : (a : Association) → IsCut a → association_refusal_by (Some Deleted) line ≡ None
  cut_fine a p =
      let s = cut_parts a p in
      rw (yymmdd_in-stands (columns 16 21 line) a.first s.first, letter_fine (letter_of line) s.letter)

  -- any AA
  association_owes : (t : Option Transaction)
      → OwesAssociation (association_refusal_by t line) (is_open 22 line) (SpellsAssociationBy t line)
  association_owes None = owes_nothing line (codes "AA") _ _ _ _
  association_owes (Some New) = put_owes New
  association_owes (Some Revised) = put_owes Revised
  association_owes (Some Deleted) =
      record { named = λ a p. p.0.0; fine = cut_fine; one = cut_one; fits = cut_fits; closed = λ a p ends. p.1.last }

  pub association_closed : (t : Option Transaction) (a : Association) → SpellsAssociationBy t line a → IsClosedAt (is_open 22 line) a.last
  association_closed t = (association_owes t).closed

  module _ (allowed : HolidayCodes) where
    abbrev OwesBasic : Option Refusal → Bool → (Basic → Type 0) → Type 0
    OwesBasic refusal ends = Owes line (codes "BS") refusal ends (λ (b : Basic). b.last) basic_table

    -- a BS that puts
    module _ (t : Transaction) where
      abbrev IsBasicPut : Basic → Type 0
      IsBasicPut b = AllStandIn line (put_basic_rows t (is_open 16 line) (code_of allowed line) (terms_of b) b.detail)
          × IsClosedAt (is_open 16 line) b.last

      abbrev front : Basic → List Row
      front b = put_basic_front t (is_open 16 line) (code_of allowed line) (terms_of b)

      abbrev basic_parts : (b : Basic) → IsBasicPut b → basics.Parts line (front b) b.detail b.letter
      basic_parts b p = basics.parts_by line (front b) b.detail b.letter p.0

      basic_put_fine : (b : Basic) → IsBasicPut b → basic_refusal_by allowed (Some New) line ≡ None
      basic_put_fine b p =
          let s = basic_parts b p in
          let dates = fine_dates (is_open 16 line) (columns 10 15 line) (columns 16 21 line) b.first b.last refl s.front.1.1.1.0
          s.front.1.1.1.1.0 b.in_order in
          rw (
            dates,
            days_of-stands _ _ s.front.1.1.1.1.1.0,
            fine_code (code_of allowed line) (columns 29 29 line) s.front.1.1.1.1.1.1.0,
            letter_fine b.letter s.back.1.0,
          )

      basic_put_one : (a b : Basic) → IsBasicPut a → IsBasicPut b → a ≡ b
      basic_put_one a b p q =
          let s = basic_parts a p in
          let u = basic_parts b q in
          basics.one_basic_by line (transaction_letter t ∷ []) a b (end_value (is_open 16 line) a.last) (end_value (is_open 16 line) b.last)
          (weekdays a.days) (weekdays b.days) (code_value (code_of allowed line)) s u
          (one_end (is_open 16 line) (columns 16 21 line) a.last b.last s.front.1.1.1.1.0 p.1 u.front.1.1.1.1.0 q.1)
          (one_weekdays _ _ _ s.front.1.1.1.1.1.0 u.front.1.1.1.1.1.0)

      basic_put_fits : IsLine line → (b : Basic) → IsBasicPut b → AllFit (basic_table b)
      basic_put_fits is_line b p =
          let s = basic_parts b p in
          let fit = stood.fit line is_line (put_basic_rows t (is_open 16 line) (code_of allowed line) (terms_of b) b.detail) refl
          (basic_widths t (is_open 16 line) (code_of allowed line) (terms_of b) b.detail) p.0 in
          fits_basic (transaction_letter t ∷ []) b.uid b.first b.last (end_value (is_open 16 line) b.last) (weekdays b.days)
          (code_value (code_of allowed line)) b.days b.letter b.detail fit
          (end_day (is_open 16 line) (columns 16 21 line) b.last s.front.1.1.1.1.0 p.1) s.front.1.1.1.1.1.0.week

      basic_put_owes : OwesBasic (basic_refusal_by allowed (Some New) line) (is_open 16 line) IsBasicPut
      basic_put_owes = record {
        named = λ b p. p.0.0;
        fine = basic_put_fine;
        one = basic_put_one;
        fits = basic_put_fits;
        closed = λ b p. p.1;
      }

    -- one that deletes
    abbrev IsBasicCut : Basic → Type 0
    IsBasicCut b = AllStandIn line (deleted_basic_rows b.uid b.first (letter_of line)) × IsDeletion b.last b.days b.letter

    basic_bare : (b : Basic) → IsBasicCut b → b.detail ≡ None
    basic_bare b p = basics.no_detail_there b (ap has_body p.1.letter)

    abbrev basic_cut_parts : (b : Basic) → IsBasicCut b
        → basics.Parts line (basic_front_by (codes "D") b.uid b.first spare spare spare) None (letter_of line)
    basic_cut_parts b p = basics.parts_by line (basic_front_by (codes "D") b.uid b.first spare spare spare) None (letter_of line) p.0

    basic_cut_fine : (b : Basic) → IsBasicCut b → basic_refusal_by allowed (Some Deleted) line ≡ None
    basic_cut_fine b p =
        let s = basic_cut_parts b p in
        rw (yymmdd_in-stands (columns 10 15 line) b.first s.front.1.1.1.0, letter_fine (letter_of line) s.back.1.0)

    basic_cut_one : (a b : Basic) → IsBasicCut a → IsBasicCut b → a ≡ b
    basic_cut_one a b p q =
        let s = basic_cut_parts a p in
        let u = basic_cut_parts b q in
        basics.same_basic a b (one_exactly _ _ _ s.front.1.1.0 u.front.1.1.0) (one_date_value _ _ _ s.front.1.1.1.0 u.front.1.1.1.0)
        (p.1.last ∙ sym q.1.last) (p.1.days ∙ sym q.1.days) (p.1.letter ∙ sym q.1.letter) (basic_bare a p ∙ sym (basic_bare b q))

    basic_cut_fits : IsLine line → (b : Basic) → IsBasicCut b → AllFit (basic_table b)
    basic_cut_fits is_line b p =
        let fit = stood.fit line is_line (deleted_basic_rows b.uid b.first (letter_of line)) refl refl p.0 in
        subst (λ d. AllFit (basic_rows b.uid b.first b.last b.days b.letter d)) (sym (basic_bare b p))
        (fits_basic (codes "D") b.uid b.first b.last spare spare spare b.days b.letter None fit (subst IsDay (sym p.1.last) (lit< tt))
        (ap length p.1.days))

    -- any BS
    basic_owes : (t : Option Transaction) → OwesBasic (basic_refusal_by allowed t line) (is_open 16 line) (SpellsBasicBy allowed t line)
    basic_owes None = owes_nothing line (codes "BS") _ _ _ _
    basic_owes (Some New) = basic_put_owes New
    basic_owes (Some Revised) = basic_put_owes Revised
    basic_owes (Some Deleted) = record {
      named = λ b p. p.0.0;
      fine = basic_cut_fine;
      one = basic_cut_one;
      fits = basic_cut_fits;
      closed = λ b p ends. p.1.last;
    }

    basic_cancels : (t : Option Transaction) (b : Basic) → SpellsBasicBy allowed t line b
        → (deletes t || cancels line) ≡ not (has_body b.letter)
    basic_cancels None b p = absurd p
    basic_cancels (Some New) b p = letter_cancels line b.letter (basic_parts New b p).back.1.0
    basic_cancels (Some Revised) b p = letter_cancels line b.letter (basic_parts Revised b p).back.1.0
    basic_cancels (Some Deleted) b p = ap (λ stp. not (has_body stp)) (sym p.1.letter)

    pub basic_closed : (t : Option Transaction) (b : Basic) → SpellsBasicBy allowed t line b → IsClosedAt (is_open 16 line) b.last
    basic_closed t = (basic_owes t).closed

-- ---- any line

-- no record is a TA or a TD
own_kind : (feed : Feed) (r : Record) → kind_read_as feed (Some (kind_of r)) ≡ Some (kind_of r)
own_kind Full r = refl
own_kind Update (of.Header h) = refl
own_kind Update _ = refl

module _ (feed : Feed) (allowed : HolidayCodes) (line : List ℕ) where
  abbrev Spells : Record → Type 0
  Spells = SpellsInFeed feed allowed line

  -- a line of another kind than TI, TA and TD names it
  named : (r : Record) → columns 1 2 line ≡ identity (kind_of r) → kind_read_as feed (kind_in line) ≡ Some (kind_of r)
  named r letters = ap (kind_read_as feed) (only_kind (columns 1 2 line) (kind_of r) letters) ∙ own_kind feed r

  tiploc_named : (f : Feed) (k : Option Kind) (t : Tiploc) → kind_in line ≡ k → SpellsTiplocBy f k line t → kind_read_as f k ≡ Some Ti
  tiploc_named Update (Some Ta) t is p = refl
  tiploc_named Update (Some Td) t is p = refl
  tiploc_named f k t is p = ap (kind_read_as f) (sym is ∙ only_kind (columns 1 2 line) Ti p.0) ∙ own_kind f (of.Tiploc t)

  pub kind_there : (r : Record) → Spells r → kind_read_as feed (kind_in line) ≡ Some (kind_of r)
  kind_there (of.Header h) s = named (of.Header h) s.0
  kind_there (of.Tiploc t) s = tiploc_named feed (kind_in line) t refl s
  kind_there (of.Association a) s = named (of.Association a) ((association_owes line (transaction_at feed line)).named a s)
  kind_there (of.Basic b) s = named (of.Basic b) ((basic_owes line allowed (transaction_at feed line)).named b s)
  kind_there r s = named r s.0

  pub cancels_there : (b : Basic) → Spells (of.Basic b) → cancels_in_feed feed line ≡ not (has_body b.letter)
  cancels_there b s = basic_cancels line allowed (transaction_at feed line) b s

  tiploc_one : (f : Feed) (k : Option Kind) (t u : Tiploc) → SpellsTiplocBy f k line t → SpellsTiplocBy f k line u → t ≡ u
  tiploc_one Update (Some Ta) t u p q = tiplocs.same_tiploc t u (p ∙ sym q)
  tiploc_one Update (Some Td) t u p q = tiplocs.same_tiploc t u (p ∙ sym q)
  tiploc_one f k t u p q = tiplocs.one_tiploc line t u p q

  pub one : (r q : Record) → Spells r → Spells q → r ≡ q
  one r q m n =
      let both : ◌≡◌ {A = Option Kind} (Some (kind_of r)) (Some (kind_of q)) = sym (kind_there r m) ∙ kind_there q n in
      let same : kind_of r ≡ kind_of q = cc in
      at r q same m n
    where
      at : (r q : Record) → kind_of r ≡ kind_of q → Spells r → Spells q → r ≡ q
      at (of.Header h) (of.Header k) e m n = ap of.Header (headers.one_header line (indicator_of feed) h k m n)
      at (of.Tiploc t) (of.Tiploc u) e m n = ap of.Tiploc (tiploc_one feed (kind_in line) t u m n)
      at (of.Association a) (of.Association b) e m n = ap of.Association ((association_owes line (transaction_at feed line)).one a b m n)
      at (of.Basic a) (of.Basic b) e m n = ap of.Basic ((basic_owes line allowed (transaction_at feed line)).one a b m n)
      at (of.Header h) _ e m n = absurd (cc)
      at (of.Tiploc t) _ e m n = absurd (cc)
      at (of.Association a) _ e m n = absurd (cc)
      at (of.Basic b) _ e m n = absurd (cc)
      at _ (of.Header h) e m n = absurd (cc)
      at _ (of.Tiploc t) e m n = absurd (cc)
      at _ (of.Association a) e m n = absurd (cc)
      at _ (of.Basic b) e m n = absurd (cc)
      at r q e m n = records.one_record line r q m n

  pub fits : IsLine line → (r : Record) → Spells r → AllFit (record_table r)
  fits is_line (of.Header h) s = headers.fits h
  fits is_line (of.Tiploc t) s = tiplocs.fits t
  fits is_line (of.Association a) s = (association_owes line (transaction_at feed line)).fits is_line a s
  fits is_line (of.Basic b) s = (basic_owes line allowed (transaction_at feed line)).fits is_line b s
  fits is_line r s = records.fit line is_line r s

-- there is no reason to refuse it
pub fine : (feed : Feed) (allowed : HolidayCodes) (line : List ℕ) (r : Record) → SpellsInFeed feed allowed line r
    → feed_refusal_as feed allowed (kind_in line) line ≡ None
fine feed allowed line r s = at feed r (kind_in line) refl s
  where
    own : (f : Feed) (k : Option Kind) (r : Record) → kind_in line ≡ k → columns 1 2 line ≡ identity (kind_of r)
        → feed_refusal_as f allowed (Some (kind_of r)) line ≡ None → feed_refusal_as f allowed k line ≡ None
    own f k r is letters fine =
        ap (λ o. feed_refusal_as f allowed o line) (sym is ∙ only_kind (columns 1 2 line) (kind_of r) letters) ∙ fine

    tiploc : (f : Feed) (k : Option Kind) (t : Tiploc) → kind_in line ≡ k → SpellsTiplocBy f k line t
        → feed_refusal_as f allowed k line ≡ None
    tiploc Update (Some Ta) t is p = refl
    tiploc Update (Some Td) t is p = refl
    tiploc Update k t is p = own Update k (of.Tiploc t) is p.0 (tiplocs.no_refusal line t p)
    tiploc Full k t is p = own Full k (of.Tiploc t) is p.0 (tiplocs.no_refusal line t p)

    at : (f : Feed) (r : Record) (k : Option Kind) → kind_in line ≡ k → SpellsInFeed f allowed line r
        → feed_refusal_as f allowed k line ≡ None
    at f (of.Header h) k is s = own f k (of.Header h) is s.0 (headers.no_refusal line (indicator_of f) h s)
    at f (of.Tiploc t) k is s = tiploc f k t is (subst (λ o. SpellsTiplocBy f o line t) is s)
    at f (of.Association a) k is s =
        let owes = association_owes line (transaction_at f line) in own f k (of.Association a) is (owes.named a s) (owes.fine a s)
    at f (of.Basic b) k is s =
        let owes = basic_owes line allowed (transaction_at f line) in own f k (of.Basic b) is (owes.named b s) (owes.fine b s)
    at Full r k is s = own Full k r is s.0 (records.no_refusal_as line r s)
    at Update r k is s = own Update k r is s.0 (records.no_refusal_as line r s)

-- so these are layouts
pub feed_are : (feed : Feed) (allowed : HolidayCodes) → AreLayouts (feed_layouts feed allowed)
feed_are feed allowed = record {
  kind = kind_there feed allowed;
  cancels = cancels_there feed allowed;
  fine = fine feed allowed;
  one = one feed allowed;
  fits = fits feed allowed;
}
