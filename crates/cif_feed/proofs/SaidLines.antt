-- The records of a kind, and its lines, one by one, with the records that they spell, the changes that they say, and their marks.
use Rattle.cif_feed.proofs.Names.{All, All-filter, All-head, All-tail, AllFit, AllStandIn, AreExtract, ArePairs, AreSchedule, AreSchedules}
use Rattle.cif_feed.proofs.Names.{AreTriples, Association, AssociationKey, Basic, BodyLines, Bool, Detail, Each, Err, Extra, ExtractParts}
use Rattle.cif_feed.proofs.Names.{Feed, FeedExtract, FeedFault, FeedParts, FitsColumns, Full, HasMarks, HaveBody, Header, HolidayCodes}
use Rattle.cif_feed.proofs.Names.{IfOk, Inside, IsAssociationChange, IsClosed, IsFeedContent, IsLine, IsScheduleChange, IsTrue, Kind, List}
use Rattle.cif_feed.proofs.Names.{MarkParts, None, Ok, Option, PublishedAssociation, PublishedSchedule, Record, RecordChange, Result}
use Rattle.cif_feed.proofs.Names.{SayFeed, SayTiplocs, SaysAssociation, SaysSchedule, Schedule, ScheduleKey, Some, SpellAllBy}
use Rattle.cif_feed.proofs.Names.{SpellExtractBy, SpellFeed, SpellUpdate, SpellsAssociationBy, SpellsBasicBy, SpellsInFeed, Ta, Td, Ti}
use Rattle.cif_feed.proofs.Names.{Tiploc, TiplocMark, Transaction, UpdateParts, [], all_codes, and-false, ap, append-nil, association_mark}
use Rattle.cif_feed.proofs.Names.{basic_back, code_of, cond, deleted_basic_rows, detail_in-stands, detail_of, detail_rows, detail_table}
use Rattle.cif_feed.proofs.Names.{enumerate_from, extra_records, false, feed_layouts, feed_parts, filter, filter_agree, filter_passes}
use Rattle.cif_feed.proofs.Names.{fits-append, fits-front, flat_map, flat_map-append, further_inside, is_association, is_basic, is_note}
use Rattle.cif_feed.proofs.Names.{is_of_tiploc, is_open, is_record_line, kind_in, kind_of, kind_read_as, last_of_association}
use Rattle.cif_feed.proofs.Names.{last_of_schedule, length-map, letter_of, lines_of, map, not, one_if, option_map, plain_line}
use Rattle.cif_feed.proofs.Names.{published_association_rows, published_basic_rows, put_association_rows, put_basic_rows, record_lines}
use Rattle.cif_feed.proofs.Names.{records_before_trailer, refl, row, schedule_mark, spare, spelled-fits-by, stands-plain_line, subst, sym}
use Rattle.cif_feed.proofs.Names.{terms_of, tiploc_changes, tiploc_changes_of, tiploc_mark, transaction_at, true, ℕ, ⊎_elim, ◌&&◌, ◌++◌}
use Rattle.cif_feed.proofs.Names.{◌∙◌, ◌∷◌, ◌≡◌}
use Rattle.cif_records.specs.declared.record.Record.TheVariants as of
use Rattle.cif_extract.specs.Grammar.{HasTerms}
use Rattle.cif_feed.{proofs.ChangeLaws.filter-filter, proofs.FeedSteps.named_line, specs.declared.feed_line.Feed.TheVariants.Update}
use Rattle.cif_feed.proofs.FeedLines.{association_closed, basic_closed, feed_are, kind_there}
use Rattle.cif_feed.proofs.ListSteps.{enumerate_filter, pairs-append, pairs-length, pairs-mapped, triples-said}
use Rattle.cif_feed.specs.{FeedLine.column, Marks.record_mark, Marks.unless_deleted, Transaction.transaction_in}
use Rattle.cif_feed.specs.declared.mark.Transaction.TheVariants.{Deleted, New, Revised}

abbrev pub tiploc_of : Record → List Tiploc
tiploc_of (of.Tiploc t) = t ∷ []
tiploc_of r = []

abbrev pub association_of : Record → List Association
association_of (of.Association a) = a ∷ []
association_of r = []

abbrev pub basic_of : Record → List Basic
basic_of (of.Basic b) = b ∷ []
basic_of r = []

module _ {A : Type 0} (f : Record → List A) (quiet : (r : Record) → Inside r → f r ≡ []) where
  -- what says nothing of the records behind a BS
  quiet_all : (rs : List Record) → Each Inside rs → flat_map f rs ≡ []
  quiet_all [] inside = refl
  quiet_all (r ∷ rs) inside = ap (λ l. l ++ flat_map f rs) (quiet r inside.0) ∙ quiet_all rs inside.1

  -- of a schedule there is its BS alone
  own_basic : (own : List Record) (s : Schedule) (are : AreSchedule own s) → flat_map f own ≡ f (of.Basic are.basic)
  own_basic own s are =
      ap (flat_map f) are.parts
      ∙ ap (λ l. f (of.Basic are.basic) ++ l) (quiet_all (extra_records are.extra ++ are.journey)
      (further_inside are.basic.detail are.extra are.journey s.body are.body))
      ∙ append-nil (f (of.Basic are.basic))

-- ---- the records of an extract

no_tiplocs : (r : Record) → Inside r → tiploc_of r ≡ []
no_tiplocs (of.Tiploc t) inside = absurd inside
no_tiplocs _ inside = refl

no_associations : (r : Record) → Inside r → association_of r ≡ []
no_associations (of.Association a) inside = absurd inside
no_associations _ inside = refl

no_basics : (r : Record) → Inside r → basic_of r ≡ []
no_basics (of.Basic b) inside = absurd inside
no_basics _ inside = refl

-- groups have the basics of their schedules, and nothing else of these
groups_none : {A : Type 0} (f : Record → List A) → ((r : Record) → Inside r → f r ≡ []) → ((b : Basic) → f (of.Basic b) ≡ [])
    → (groups : List Record) (ss : List Schedule) → AreSchedules groups ss → flat_map f groups ≡ []
groups_none f quiet none groups [] are = ap (flat_map f) are
groups_none f quiet none groups (s ∷ ss) are =
    let (own, others, parts, one, more) = are in
    ap (flat_map f) parts ∙ flat_map-append f own others
    ∙ ap (λ l. l ++ flat_map f others) (own_basic f quiet own s one ∙ none one.basic) ∙ groups_none f quiet none others ss more

-- the BS of a schedule stands alone
pub first_basic : (groups own others : List Record) (s : Schedule) → groups ≡ own ++ others → (one : AreSchedule own s)
    → flat_map basic_of groups ≡ one.basic ∷ flat_map basic_of others
first_basic groups own others s parts one =
    ap (flat_map basic_of) parts ∙ flat_map-append basic_of own others
    ∙ ap (λ l. l ++ flat_map basic_of others) (own_basic basic_of no_basics own s one)

all_one : {B : Type 0} (f : Record → List B) (g : B → Record) → ((b : B) → f (g b) ≡ b ∷ []) → (bs : List B) → flat_map f (map g bs) ≡ bs
all_one f g one [] = refl
all_one f g one (b ∷ bs) = ap (λ l. l ++ flat_map f (map g bs)) (one b) ∙ ap (λ l. b ∷ l) (all_one f g one bs)

none_of : {A B : Type 0} (f : Record → List B) (g : A → Record) → ((a : A) → f (g a) ≡ []) → (xs : List A) → flat_map f (map g xs) ≡ []
none_of f g none [] = refl
none_of f g none (x ∷ xs) = ap (λ l. l ++ flat_map f (map g xs)) (none x) ∙ none_of f g none xs

-- the records of an extract, by parts
module _ {B : Type 0} (f : Record → List B) (header : (x : Header) → f (of.Header x) ≡ []) (trailer : f of.Trailer ≡ [])
    (rs : List Record) (x : ExtractParts) (are : AreExtract rs x) where
  by_parts : flat_map f rs
      ≡ flat_map f (map of.Tiploc x.tiplocs) ++ (flat_map f (map of.Association x.associations) ++ flat_map f are.schedules)
  by_parts =
      let rest = map of.Tiploc x.tiplocs ++ (map of.Association x.associations ++ are.schedules) in
      ap (flat_map f) are.parts ∙ flat_map-append f (records_before_trailer x are.schedules) (of.Trailer ∷ [])
      ∙ ap (λ l. flat_map f (records_before_trailer x are.schedules) ++ (l ++ [])) trailer
      ∙ append-nil (flat_map f (records_before_trailer x are.schedules)) ∙ ap (λ l. l ++ flat_map f rest) (header x.header)
      ∙ flat_map-append f (map of.Tiploc x.tiplocs) (map of.Association x.associations ++ are.schedules)
      ∙ ap (λ l. flat_map f (map of.Tiploc x.tiplocs) ++ l) (flat_map-append f (map of.Association x.associations) are.schedules)

pub records_tiplocs : (rs : List Record) (e : ExtractParts) → AreExtract rs e → flat_map tiploc_of rs ≡ e.tiplocs
records_tiplocs rs e are =
    by_parts tiploc_of (λ x. refl) refl rs e are
    ∙ ap (λ l. l ++ (flat_map tiploc_of (map of.Association e.associations) ++ flat_map tiploc_of are.schedules))
    (all_one tiploc_of of.Tiploc (λ t. refl) e.tiplocs)
    ∙ ap (λ l. e.tiplocs ++ (l ++ flat_map tiploc_of are.schedules)) (none_of tiploc_of of.Association (λ a. refl) e.associations)
    ∙ ap (λ l. e.tiplocs ++ l) (groups_none tiploc_of no_tiplocs (λ b. refl) are.schedules e.schedules are.are_schedules)
    ∙ append-nil e.tiplocs

pub records_associations : (rs : List Record) (e : ExtractParts) → AreExtract rs e → flat_map association_of rs ≡ e.associations
records_associations rs e are =
    by_parts association_of (λ x. refl) refl rs e are
    ∙ ap (λ l. l ++ (flat_map association_of (map of.Association e.associations) ++ flat_map association_of are.schedules))
    (none_of association_of of.Tiploc (λ t. refl) e.tiplocs)
    ∙ ap (λ l. l ++ flat_map association_of are.schedules) (all_one association_of of.Association (λ a. refl) e.associations)
    ∙ ap (λ l. e.associations ++ l) (groups_none association_of no_associations (λ b. refl) are.schedules e.schedules are.are_schedules)
    ∙ append-nil e.associations

pub records_basics : (rs : List Record) (e : ExtractParts) (are : AreExtract rs e) → flat_map basic_of rs ≡ flat_map basic_of are.schedules
records_basics rs e are =
    by_parts basic_of (λ x. refl) refl rs e are
    ∙ ap (λ l. l ++ (flat_map basic_of (map of.Association e.associations) ++ flat_map basic_of are.schedules))
    (none_of basic_of of.Tiploc (λ t. refl) e.tiplocs)
    ∙ ap (λ l. l ++ flat_map basic_of are.schedules) (none_of basic_of of.Association (λ a. refl) e.associations)

-- ---- the lines of a kind

-- a test of kinds that doesn't tell TI, TA and TD apart
pub record IsTest (is : Option Kind → Bool) : Type 0 where
  pub none : is None ≡ false
  pub ta : is (Some Ta) ≡ is (Some Ti)
  pub td : is (Some Td) ≡ is (Some Ti)

-- a line passes where the record passes that it spells in a feed
pub feed_agrees : (feed : Feed) (allowed : HolidayCodes) (is : Option Kind → Bool) → IsTest is → (c : List ℕ) (r : Record)
    → SpellsInFeed feed allowed c r → is (kind_in c) ≡ is (Some (kind_of r))
feed_agrees feed allowed is test c r s = kept feed (kind_in c) ∙ ap is (kind_there feed allowed c r s)
  where
    kept : (f : Feed) (k : Option Kind) → is k ≡ is (kind_read_as f k)
    kept Full k = refl
    kept Update (Some Ta) = test.ta
    kept Update (Some Td) = test.td
    kept Update _ = refl

-- a line spells a location, an association, a basic schedule
module _ (Spells : List ℕ → Record → Type 0) where
  abbrev pub SpellsTiploc : ℕ × List ℕ → Tiploc → Type 0
  SpellsTiploc line t = Spells line.1 (of.Tiploc t)

  abbrev pub SpellsAssociation : ℕ × List ℕ → Association → Type 0
  SpellsAssociation line a = Spells line.1 (of.Association a)

  abbrev pub SpellsBasic : ℕ × List ℕ → Basic → Type 0
  SpellsBasic line b = Spells line.1 (of.Basic b)

module _ (Spells : List ℕ → Record → Type 0)
    (agrees : (is : Option Kind → Bool) → IsTest is → (c : List ℕ) (r : Record) → Spells c r → is (kind_in c) ≡ is (Some (kind_of r))) where
  module _ {A : Type 0} (is : Option Kind → Bool) (test : IsTest is) (f : Record → List A) (Q : ℕ × List ℕ → A → Type 0)
      (own : (r : Record) (line : ℕ × List ℕ) → Spells line.1 r → ArePairs Q (one_if (is (Some (kind_of r))) line) (f r)) where
    abbrev of_kind : ℕ × List ℕ → Bool
    of_kind line = is (kind_in line.1)

    all_lines : (ns : List (ℕ × List ℕ)) (rs : List Record) → SpellAllBy Spells (map (λ (n : ℕ × List ℕ). n.1) ns) rs
        → ArePairs Q (filter of_kind ns) (flat_map f rs)
    all_lines [] [] spell = tt
    all_lines (n ∷ ns) (r ∷ rs) spell =
        subst (λ b. ArePairs Q (cond b (n ∷ filter of_kind ns) (filter of_kind ns)) (flat_map f (r ∷ rs)))
        (sym (agrees is test n.1 r spell.0)) (at (is (Some (kind_of r))) (own r n spell.0) (all_lines ns rs spell.1))
      where
        at : (b : Bool) → ArePairs Q (one_if b n) (f r) → ArePairs Q (filter of_kind ns) (flat_map f rs)
            → ArePairs Q (cond b (n ∷ filter of_kind ns) (filter of_kind ns)) (flat_map f (r ∷ rs))
        at true p more = pairs-append Q (n ∷ []) (f r) (filter of_kind ns) (flat_map f rs) p more
        at false p more = pairs-append Q [] (f r) (filter of_kind ns) (flat_map f rs) p more
    all_lines _ _ spell = absurd spell

    -- a line of such a kind is no comment and no note
    kinds_speak : (n : ℕ × List ℕ) → (is_record_line n.1 && is (kind_in n.1)) ≡ is (kind_in n.1)
    kinds_speak n = at (kind_in n.1) refl
      where
        at : (k : Option Kind) → kind_in n.1 ≡ k → (is_record_line n.1 && is k) ≡ is k
        at None e = ap (λ b. is_record_line n.1 && b) test.none ∙ and-false (is_record_line n.1) ∙ sym test.none
        at (Some k) e =
            let (no_comment, no_note) = named_line n.1 k e in
            ap (λ b. (not b && not (is_note n.1)) && is (Some k)) no_comment ∙ ap (λ b. not b && is (Some k)) no_note

    lines_spelled : (cs : List (List ℕ)) (rs : List Record) → SpellAllBy Spells (record_lines cs) rs
        → ArePairs Q (lines_of is cs) (flat_map f rs)
    lines_spelled cs rs s =
        subst (λ ls. ArePairs Q ls (flat_map f rs))
        (filter-filter of_kind (λ (n : ℕ × List ℕ). is_record_line n.1) (enumerate_from 1 cs)
        ∙ filter_agree _ of_kind kinds_speak (enumerate_from 1 cs))
        (all_lines (filter (λ (n : ℕ × List ℕ). is_record_line n.1) (enumerate_from 1 cs)) rs
        (subst (λ l. SpellAllBy Spells l rs) (sym (enumerate_filter is_record_line 1 cs)) s))

  -- ---- those of locations, associations and basic schedules

  tiploc : (r : Record) (line : ℕ × List ℕ) → Spells line.1 r
      → ArePairs (SpellsTiploc Spells) (one_if (is_of_tiploc (Some (kind_of r))) line) (tiploc_of r)
  tiploc (of.Tiploc t) line s = (s, tt)
  tiploc _ line s = tt

  association : (r : Record) (line : ℕ × List ℕ) → Spells line.1 r
      → ArePairs (SpellsAssociation Spells) (one_if (is_association (Some (kind_of r))) line) (association_of r)
  association (of.Association a) line s = (s, tt)
  association _ line s = tt

  basic : (r : Record) (line : ℕ × List ℕ) → Spells line.1 r
      → ArePairs (SpellsBasic Spells) (one_if (is_basic (Some (kind_of r))) line) (basic_of r)
  basic (of.Basic b) line s = (s, tt)
  basic _ line s = tt

  module _ (cs : List (List ℕ)) (x : ExtractParts) (s : SpellExtractBy Spells (record_lines cs) x) where
    pub tiplocs_spelled : ArePairs (SpellsTiploc Spells) (lines_of is_of_tiploc cs) x.tiplocs
    tiplocs_spelled =
        subst (ArePairs (SpellsTiploc Spells) (lines_of is_of_tiploc cs)) (records_tiplocs s.records x s.are)
        (lines_spelled is_of_tiploc (record { none = refl; ta = refl; td = refl }) tiploc_of (SpellsTiploc Spells) tiploc cs s.records
        s.spelled)

    pub associations_spelled : ArePairs (SpellsAssociation Spells) (lines_of is_association cs) x.associations
    associations_spelled =
        subst (ArePairs (SpellsAssociation Spells) (lines_of is_association cs)) (records_associations s.records x s.are)
        (lines_spelled is_association (record { none = refl; ta = refl; td = refl }) association_of (SpellsAssociation Spells) association
        cs s.records s.spelled)

    pub basics_spelled : ArePairs (SpellsBasic Spells) (lines_of is_basic cs) (flat_map basic_of s.are.schedules)
    basics_spelled =
        subst (ArePairs (SpellsBasic Spells) (lines_of is_basic cs)) (records_basics s.records x s.are)
        (lines_spelled is_basic (record { none = refl; ta = refl; td = refl }) basic_of (SpellsBasic Spells) basic cs s.records s.spelled)

-- ---- contents that are no comments are lines

lines_are : (cs : List (List ℕ)) → All IsFeedContent cs → All IsLine (record_lines cs)
lines_are cs are = λ k d below.
    is_line _ (All-filter is_record_line IsFeedContent cs are k d below) (filter_passes is_record_line cs k d below)
  where
    is_line : (c : List ℕ) → IsFeedContent c → is_record_line c ≡ true → IsLine c
    is_line c is says =
        ⊎_elim (λ l. l) (λ comment. let no : false ≡ true = ap (λ b. not b && not (is_note c)) (sym comment) ∙ says in cc) is

-- ---- schedules, by their BS

-- a line that spells the BS of a schedule, of which what the lines behind it say isn't asked
pub record IsScheduleLine (Spells : List ℕ → Record → Type 0) (line : ℕ × List ℕ) (s : Schedule) : Type 0 where
  pub basic : Basic
  pub spells : Spells line.1 (of.Basic basic)
  pub terms : HasTerms basic s
  pub detail : AllFit (detail_rows basic.detail) → basic.detail ≡ option_map detail_of s.body

-- ---- the schedules of their BS

-- a detail that fits its columns is that of the body
detail_there : (d : Option Detail) (x : Option Extra) (journey : List Record) (body : Option BodyLines) → HaveBody d x journey body
    → AllFit (detail_rows d) → d ≡ option_map detail_of body
detail_there (Some d) x journey (Some b) has fits =
    let alone = fits-append (detail_rows (Some d)) (row 79 80 spare ∷ []) fits (tt, tt) in
    let stands = stands-plain_line (detail_table d) refl (tt, alone) in
    ap Some (sym (ap detail_of has.1 ∙ detail_in-stands (plain_line (detail_table d)) d stands))
detail_there None x journey None has fits = refl
detail_there _ x journey _ has fits = absurd has

module _ (Spells : List ℕ → Record → Type 0) where
  abbrev Basics : ℕ × List ℕ → Basic → Type 0
  Basics = SpellsBasic Spells

  abbrev Schedules : ℕ × List ℕ → Schedule → Type 0
  Schedules = IsScheduleLine Spells

  take_line : (ls : List (ℕ × List ℕ)) (b : Basic) (rest : List Basic) (s : Schedule) (ss : List Schedule)
      → HasTerms b s → (AllFit (detail_rows b.detail) → b.detail ≡ option_map detail_of s.body) → ArePairs Basics ls (b ∷ rest)
      → ((ls : List (ℕ × List ℕ)) → ArePairs Basics ls rest → ArePairs Schedules ls ss) → ArePairs Schedules ls (s ∷ ss)
  take_line (l ∷ ls) b rest s ss terms detail p more = (record { basic = b; spells = p.0; terms = terms; detail = detail }, more ls p.1)
  take_line [] b rest s ss terms detail p more = absurd p

  schedule_lines : (ls : List (ℕ × List ℕ)) (groups : List Record) (ss : List Schedule)
      → AreSchedules groups ss → ArePairs Basics ls (flat_map basic_of groups) → ArePairs Schedules ls ss
  schedule_lines ls groups [] none p = at ls (subst (λ g. ArePairs Basics ls (flat_map basic_of g)) none p)
    where
      at : (ls : List (ℕ × List ℕ)) → ArePairs Basics ls [] → ArePairs Schedules ls []
      at [] p = tt
      at (l ∷ ls) p = absurd p
  schedule_lines ls groups (s ∷ ss) all p =
      let (own, others, parts, one, more) = all in
      take_line ls one.basic (flat_map basic_of others) s ss one.terms
      (detail_there one.basic.detail one.extra one.journey s.body one.body)
      (subst (ArePairs Basics ls) (first_basic groups own others s parts one) p)
      (λ ls. schedule_lines ls others ss more)

  pub schedules_spelled : ((is : Option Kind → Bool) → IsTest is → (c : List ℕ) (r : Record) → Spells c r
      → is (kind_in c) ≡ is (Some (kind_of r)))
      → (cs : List (List ℕ)) (x : ExtractParts) → SpellExtractBy Spells (record_lines cs) x
      → ArePairs Schedules (lines_of is_basic cs) x.schedules
  schedules_spelled agrees cs x s =
      schedule_lines (lines_of is_basic cs) s.are.schedules x.schedules s.are.are_schedules (basics_spelled Spells agrees cs x s)

-- ---- what it says

module _ (line : ℕ × List ℕ) (b : Basic) (s : Schedule) (terms : HasTerms b s)
    (detail : b.detail ≡ option_map detail_of s.body) (change : RecordChange ScheduleKey PublishedSchedule) where
  put_schedule_stands : (t : Transaction) (p : PublishedSchedule) → p.schedule ≡ s → p.open_end ≡ is_open 16 line.1
      → p.code ≡ code_of all_codes line.1
      → AllStandIn line.1 (put_basic_rows t (is_open 16 line.1) (code_of all_codes line.1) (terms_of b) b.detail)
      → AllStandIn line.1 (published_basic_rows t p)
  put_schedule_stands t p same ends code stands =
      let all : put_basic_rows t (is_open 16 line.1) (code_of all_codes line.1) (terms_of b) b.detail ≡ published_basic_rows t p = cc in
      subst (AllStandIn line.1) all stands

  deletion_stands : AllStandIn line.1 (deleted_basic_rows b.uid b.first (letter_of line.1))
      → AllStandIn line.1 (deleted_basic_rows s.uid s.first (letter_of line.1))
  deletion_stands stands =
      subst (λ v. AllStandIn line.1 (deleted_basic_rows v s.first (letter_of line.1))) terms.uid
      (subst (λ v. AllStandIn line.1 (deleted_basic_rows b.uid v (letter_of line.1))) terms.first stands)

  schedule_said_by : (t : Option Transaction) → SpellsBasicBy all_codes t line.1 b
      → IsScheduleChange s (record_mark t (is_open 16 line.1) (code_of all_codes line.1) line) change
      → SaysSchedule line change
  schedule_said_by None spells is = absurd spells
  schedule_said_by (Some New) spells is =
      subst (SaysSchedule line) (sym is.change)
      (record { number = refl; stands = put_schedule_stands New is.published is.is.of_profile is.is.open_end is.is.code spells.0 })
  schedule_said_by (Some Revised) spells is =
      subst (SaysSchedule line) (sym is.change)
      (record { number = refl; stands = put_schedule_stands Revised is.published is.is.of_profile is.is.open_end is.is.code spells.0 })
  schedule_said_by (Some Deleted) spells is =
      subst (SaysSchedule line) (sym is.change) (record { number = refl; stands = deletion_stands spells.0 })

-- lines that spell records, as lines
abbrev LineSpells : List ℕ → Record → Type 0
LineSpells line r = IsLine line × SpellsInFeed Update all_codes line r

spell-lines : (lines : List (List ℕ)) (rs : List Record) → All IsLine lines → SpellAllBy (SpellsInFeed Update all_codes) lines rs
    → SpellAllBy LineSpells lines rs
spell-lines [] [] are spell = tt
spell-lines (l ∷ lines) (r ∷ rs) are spell =
    ((All-head IsLine l lines are, spell.0), spell-lines lines rs (All-tail IsLine l lines are) spell.1)
spell-lines _ _ are spell = absurd spell

-- a detail that a line says fits
detail_fits : (line : List ℕ) (b : Basic) → LineSpells line (of.Basic b) → AllFit (detail_rows b.detail)
detail_fits line b (is, spells) =
    let whole = (feed_are Update all_codes).fits line is (of.Basic b) spells in
    fits-front (detail_rows b.detail) (basic_back b.letter) whole.1.1.1.1.1.1.1

pub schedules_said : (cs : List (List ℕ)) (u : UpdateParts) → SpellUpdate cs u → ArePairs SaysSchedule (lines_of is_basic cs) u.schedules
schedules_said cs u s =
    let x = s.lines in
    let says = s.spelled.says in
    let e = says.extract in
    triples-said (IsScheduleLine LineSpells) (schedule_mark all_codes) IsScheduleChange SaysSchedule
    (λ line s change q is. schedule_said_by line q.basic s q.terms (q.detail (detail_fits line.1 q.basic q.spells)) change
    (transaction_at Update line.1) q.spells.1 is) (lines_of is_basic cs) x.extract.schedules u.schedules
    (schedules_spelled LineSpells (λ is test c r spells. feed_agrees Update all_codes is test c r spells.1) cs x.extract (record {
      records = e.records;
      spelled = spell-lines (record_lines cs) e.records (lines_are cs s.spelled.are_contents) e.spelled;
      are = e.are;
    }))
    (subst (λ ms. AreTriples IsScheduleChange x.extract.schedules ms u.schedules) (ap (λ (m : MarkParts). m.schedules) says.marks)
    s.says.schedules)

-- ---- locations and associations

-- ---- locations

abbrev mark_there : ℕ × List ℕ → TiplocMark
mark_there line = tiploc_mark (kind_in line.1) line

all_tiplocs : (ls : List (ℕ × List ℕ)) (ts : List Tiploc) → ArePairs (SpellsTiploc (SpellsInFeed Update all_codes)) ls ts
    → SayTiplocs ls (tiploc_changes ts (map mark_there ls))
all_tiplocs [] [] p = refl
all_tiplocs (l ∷ ls) (t ∷ ts) p = (
  tiploc_changes_of (mark_there l) t,
  tiploc_changes ts (map mark_there ls),
  refl,
  record { tiploc = t; spells = p.0; are = refl },
  all_tiplocs ls ts p.1,
)
all_tiplocs _ _ p = absurd p

pub tiplocs_said : (cs : List (List ℕ)) (u : UpdateParts) → SpellUpdate cs u → SayTiplocs (lines_of is_of_tiploc cs) u.tiplocs
tiplocs_said cs u s =
    let x = s.lines in
    let says = s.spelled.says in
    subst (SayTiplocs (lines_of is_of_tiploc cs)) (sym s.says.tiplocs)
    (subst (λ ms. SayTiplocs (lines_of is_of_tiploc cs) (tiploc_changes x.extract.tiplocs ms))
    (sym (ap (λ (m : MarkParts). m.tiplocs) says.marks))
    (all_tiplocs (lines_of is_of_tiploc cs) x.extract.tiplocs
    (tiplocs_spelled (SpellsInFeed Update all_codes) (feed_agrees Update all_codes) cs x.extract says.extract)))

-- ---- associations

module _ (line : ℕ × List ℕ) (a : Association) (change : RecordChange AssociationKey PublishedAssociation) where
  put_stands : (t : Transaction) (p : PublishedAssociation) → p.association ≡ a → p.open_end ≡ is_open 22 line.1
      → AllStandIn line.1 (put_association_rows t (is_open 22 line.1) a) → AllStandIn line.1 (published_association_rows t p)
  put_stands t p same ends stands =
      let all : put_association_rows t (is_open 22 line.1) a ≡ published_association_rows t p = cc in subst (AllStandIn line.1) all stands

  said_by : (t : Option Transaction) → SpellsAssociationBy t line.1 a
      → IsAssociationChange a (record_mark t (is_open 22 line.1) None line) change → SaysAssociation line change
  said_by None s is = absurd s
  said_by (Some New) s is =
      subst (SaysAssociation line) (sym is.change)
      (record { number = refl; stands = put_stands New is.published is.is.of_profile is.is.open_end s.0 })
  said_by (Some Revised) s is =
      subst (SaysAssociation line) (sym is.change)
      (record { number = refl; stands = put_stands Revised is.published is.is.of_profile is.is.open_end s.0 })
  said_by (Some Deleted) s is = subst (SaysAssociation line) (sym is.change) (record { number = refl; stands = s.0 })

pub associations_said : (cs : List (List ℕ)) (u : UpdateParts) → SpellUpdate cs u
    → ArePairs SaysAssociation (lines_of is_association cs) u.associations
associations_said cs u s =
    let x = s.lines in
    let says = s.spelled.says in
    triples-said (SpellsAssociation (SpellsInFeed Update all_codes)) association_mark IsAssociationChange SaysAssociation
    (λ line a change spells is. said_by line a change (transaction_at Update line.1) spells is) (lines_of is_association cs)
    x.extract.associations u.associations
    (associations_spelled (SpellsInFeed Update all_codes) (feed_agrees Update all_codes) cs x.extract says.extract)
    (subst (λ ms. AreTriples IsAssociationChange x.extract.associations ms u.associations)
    (ap (λ (m : MarkParts). m.associations) says.marks) s.says.associations)

-- ---- the marks of the records

-- an end that is read as open is
read_open : (t : Option Transaction) (open_end : Bool) → IsTrue (unless_deleted t false open_end) → IsTrue open_end
read_open (Some Deleted) open_end is = cc
read_open _ open_end is = is

module _ (feed : Feed) (allowed : HolidayCodes) (cs : List (List ℕ)) where
  pub have_marks : (x : FeedParts) → SayFeed feed allowed cs x → HasMarks x
  have_marks x s =
      let Spells = SpellsInFeed feed allowed in
      let e = x.extract in
      let tiplocs = tiplocs_spelled Spells (feed_agrees feed allowed) cs e s.extract in
      subst (λ (m : MarkParts). HasMarks (record { extract = e; marks = m })) (sym s.marks) (record {
        tiplocs = length-map (lines_of is_of_tiploc cs) _ ∙ pairs-length (SpellsTiploc Spells) (lines_of is_of_tiploc cs) e.tiplocs tiplocs;
        associations = pairs-mapped (SpellsAssociation Spells) association_mark (IsClosed last_of_association)
            (λ line a spells ends. association_closed line.1 (transaction_at feed line.1) a spells
            (read_open (transaction_in (column 3 line.1)) (is_open 22 line.1) ends)) (lines_of is_association cs) e.associations
            (associations_spelled Spells (feed_agrees feed allowed) cs e s.extract);
        schedules = pairs-mapped (IsScheduleLine Spells) (schedule_mark allowed) (IsClosed last_of_schedule)
            (λ line s is ends. sym is.terms.last ∙ basic_closed line.1 allowed (transaction_at feed line.1) is.basic is.spells
            (read_open (transaction_in (column 3 line.1)) (is_open 16 line.1) ends))
            (lines_of is_basic cs) e.schedules (schedules_spelled Spells (feed_agrees feed allowed) cs e s.extract);
      })

  pub marked_result : (result : Result FeedExtract FeedFault) → IfOk result (λ x. SayFeed feed allowed cs (feed_parts x))
      → IfOk result (λ x. HasMarks (feed_parts x))
  marked_result (Ok x) says = have_marks (feed_parts x) says
  marked_result (Err f) says = tt

-- what a feed says fits the columns of lines
pub feed_fits : (feed : Feed) (allowed : HolidayCodes) (cs : List (List ℕ)) (x : FeedParts) → SpellFeed feed allowed cs x
    → FitsColumns x.extract
feed_fits feed allowed cs x s =
    spelled-fits-by (feed_layouts feed allowed) (feed_are feed allowed) (record_lines cs) x.extract (lines_are cs s.are_contents)
    s.says.extract
