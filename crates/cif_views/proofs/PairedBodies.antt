-- Where a pair of schedules has no row, their bodies are the same; and so it is with associations.
use Rattle.cif_views.proofs.Names.{AllFit, AllStandIn, AssocBody, AssocKey, At, BodyLines, BodyParts, Bool, Bx, Call, Column, Detail, Each}
use Rattle.cif_views.proofs.Names.{Extra, IsBody, IsLine, IsTrue, JourneyKind, KeepSomeBody, Left, List, Lo, None, Option, P, Permanent}
use Rattle.cif_views.proofs.Names.{RecordFits, Row, Some, SpellsRecord, StandsIn, Turn, [], and_parts, ap, ap₂, arith}
use Rattle.cif_views.proofs.Names.{association_columns, association_differences, association_head, association_plain, basic_back}
use Rattle.cif_views.proofs.Names.{basic_columns, basic_rows, body_records, bytes_decides, call_record, category_fields}
use Rattle.cif_views.proofs.Names.{changed, codes, columns, cond, count_of_calls, detail_fields, detail_of, detail_rows, detail_table}
use Rattle.cif_views.proofs.Names.{differing_rows, drop, each_back, each_front, extra_columns, extra_fields, extra_identity, extra_in}
use Rattle.cif_views.proofs.Names.{extra_records, false, false≢true, further-fit, further-lines, get_or, in_record, is_call}
use Rattle.cif_views.proofs.Names.{is_extra, journey_differences, journey_kind, journey_records, kind_in, kind_of_line}
use Rattle.cif_views.proofs.Names.{length, line-plain_line, map, one_text_value, own_columns, parts_in, row_of_counts, rows_of_journeys}
use Rattle.cif_views.proofs.Names.{plain_line, record_table, refl, replicate, row, row_values, rows_of_place, rows_of_places, same_places, schedule_differences}
use Rattle.cif_views.proofs.Names.{schedule_head, schedule_plain, stands-front, stands-plain_line, subst, sym, take, true, values_in}
use Rattle.cif_views.proofs.Names.{type_fields, without_extra, ℕ, ◌++◌, ◌+◌, ◌<◌, ◌∙◌, ◌∷◌, ◌≡◌}
use Rattle.cif_columns.specs.Field.{text}
use Rattle.cif_records.proofs.Details.{one_detail}
use Rattle.cif_records.proofs.Records as records
use Rattle.cif_records.specs.Association as aa
use Rattle.cif_records.specs.declared.{origin.Origin.Origin, record.Record.Record, terminus.Terminus.Terminus}
use Rattle.cif_records.specs.declared.record.Record.TheVariants as of
use Rattle.cif_extract.proofs.{Bodies.first_line, PlainTexts.lines_of}
use Rattle.cif_views.proofs.RowNames.{Value, cell_of, trimmed}
use Rattle.cif_views.proofs.DifferingCells.{AllSame, all-covered, all-moved, are_covered, both-none, covered, is_there, same-cells}
use Rattle.cif_views.{proofs.DifferingCells.same-cells_in, proofs.DifferingFields.same-kind}
use Rattle.cif_views.{proofs.PairedJourneys.journeys-by-lines, specs.DifferenceTable.journey_of}
use Rattle.cif_views.specs.declared.columns.JourneyKind.TheVariants as kinds_of

-- the records of a journey
abbrev pub IsPlace : Record → Type 0
IsPlace (of.Origin r) = Unit {0}
IsPlace (of.Stop r) = Unit {0}
IsPlace (of.Change r) = Unit {0}
IsPlace (of.Terminus r) = Unit {0}
IsPlace _ = ⊥

abbrev pub ArePlaces : List Record → Type 0
ArePlaces [] = Unit {0}
ArePlaces (r ∷ rs) = IsPlace r × ArePlaces rs

-- ---- one place of two journeys

module _ (head : List Value) (call : ℕ) (l m : List ℕ) (left : IsLine l) (right : IsLine m)
    (place : columns 1 10 l ≡ columns 1 10 m) (none : rows_of_place head call (kind_of_line l) l m ≡ []) where
  -- where the cells of all fields that a line of a kind has cover a record of the kind, what the other line spells this one does
  by-cells : (kind : JourneyKind) (r : Record) → kind_of_line m ≡ kind →
      IsTrue (are_covered 10 kind (own_columns kind) (record_table r)) → AllSame l m (record_table r)
  by-cells kind r is covered =
      all-covered l m 10 kind place left right (own_columns kind) (record_table r) covered
      (subst (λ k. map cell_of (values_in k (own_columns k) l) ≡ map cell_of (values_in k (own_columns k) m))
      (sym (same-kind l m place) ∙ is) (same-cells_in _ (kind_of_line l) l m (own_columns (kind_of_line l)) none))

  same-place : (r : Record) → IsPlace r → SpellsRecord m r → AllSame l m (record_table r)
  same-place (of.Origin r) is h = by-cells kinds_of.Origin (of.Origin r) (ap journey_kind (records.kind_there m (of.Origin r) h)) refl
  same-place (of.Stop r) is h = by-cells kinds_of.Stop (of.Stop r) (ap journey_kind (records.kind_there m (of.Stop r) h)) refl
  same-place (of.Change r) is h = by-cells kinds_of.Change (of.Change r) (ap journey_kind (records.kind_there m (of.Change r) h)) refl
  same-place (of.Terminus r) is h = by-cells kinds_of.Terminus (of.Terminus r) (ap journey_kind (records.kind_there m (of.Terminus r) h))
      refl
  same-place _ is h = absurd is

-- ---- two journeys

module _ (head : List Value) where
  same-journeys : (call : ℕ) (rs qs : List Record) → ArePlaces qs → Each RecordFits rs →
      Each RecordFits qs → IsTrue (same_places (lines_of rs) (lines_of qs)) →
      rows_of_places head call (lines_of rs) (lines_of qs) ≡ [] → lines_of rs ≡ lines_of qs
  same-journeys call [] [] are one other places none = refl
  same-journeys call [] (q ∷ qs) are one other places none = absurd (false≢true places)
  same-journeys call (r ∷ rs) [] are one other places none = absurd (false≢true places)
  same-journeys call (r ∷ rs) (q ∷ qs) are one other places none =
      let l = plain_line (record_table r) in
      let m = plain_line (record_table q) in
      let (first, later) = and_parts _ _ places in
      let place = (bytes_decides (columns 1 10 l) (columns 1 10 m)).0 first in
      let next = cond (is_call (kind_of_line l)) (call + 1) call in
      let (here, behind) = both-none (rows_of_place head call (kind_of_line l) l m)
      (rows_of_places head next (lines_of rs) (lines_of qs)) none in
      let left = records.line r one.0 in
      let right = records.line q other.0 in
      let spelled = records.spells q other.0 in
      let same = records.one_record l r q (records.spells r one.0)
      (all-moved l m (record_table q) (same-place head call l m left right place here q are.0 spelled) spelled) in
      ap₂ (λ (line : List ℕ) (lines : List (List ℕ)). line ∷ lines) (ap (λ (p : Record). plain_line (record_table p)) same)
      (same-journeys next rs qs are.1 one.1 other.1 later behind)

-- the records of a journey are places
are-behind : (calls : List Call) (t : Terminus) → ArePlaces (map call_record calls ++ (of.Terminus t ∷ []))
are-behind [] t = (tt, tt)
are-behind (At s ∷ calls) t = (tt, are-behind calls t)
are-behind (Turn r ∷ calls) t = (tt, are-behind calls t)

pub are-places : (o : Origin) (calls : List Call) (t : Terminus) → ArePlaces (journey_records o calls t)
are-places o calls t = (tt, are-behind calls t)

-- ---- two bodies

-- two journeys without a row have the same places
told-places : {R : Type 0} (same : Bool) (rows : List R) (row : R) → cond same rows (row ∷ []) ≡ [] → IsTrue same × (rows ≡ [])
told-places true rows row none = (refl, none)
told-places false rows row none = absurd (let long = ap length none in omega (arith, long))

-- ---- the BX of a schedule

-- the line of a BX, or one of spaces
abbrev pub extra_line : Option Extra → List ℕ
extra_line None = replicate 80 32
extra_line (Some e) = plain_line (record_table (of.Extra e))

is-extra : (line : List ℕ) → kind_in line ≡ Some Bx → is_extra line ≡ true
is-extra line is = rw is refl

is-origin : (line : List ℕ) → kind_in line ≡ Some Lo → is_extra line ≡ false
is-origin line is = rw is refl

-- what the lines behind a BS are: a BX or none, and a journey
pub record AreFurther (lines : List (List ℕ)) (extra : Option Extra) (journey : List (List ℕ)) : Type 0 where
  pub extra_is : extra_in lines ≡ extra_line extra
  pub journey_is : without_extra lines ≡ journey

pub are-further : (extra : Option Extra) (o : Origin) (rs : List Record) →
    Each RecordFits (extra_records extra ++ (of.Origin o ∷ rs)) →
    AreFurther (lines_of (extra_records extra ++ (of.Origin o ∷ rs))) extra (lines_of (of.Origin o ∷ rs))
are-further None o rs fits =
    let line = plain_line (record_table (of.Origin o)) in
    let no = is-origin line (records.kind_there line (of.Origin o) (records.spells (of.Origin o) fits.0)) in
    record { extra_is = ap (λ b. cond b line (replicate 80 32)) no; journey_is = ap (λ b. cond b (lines_of rs) (line ∷ lines_of rs)) no }
are-further (Some e) o rs fits =
    let line = plain_line (record_table (of.Extra e)) in
    let yes = is-extra line (records.kind_there line (of.Extra e) (records.spells (of.Extra e) fits.0)) in
    record {
      extra_is = ap (λ b. cond b line (replicate 80 32)) yes;
      journey_is = ap (λ b. cond b (lines_of (of.Origin o ∷ rs)) (line ∷ lines_of (of.Origin o ∷ rs))) yes;
    }

-- what a schedule's table shows of its BX
abbrev first_cell : List (List ℕ) → List ℕ
first_cell cells = get_or cells 0 []

abbrev identity_of_extra : List ℕ → List ℕ
identity_of_extra line = trimmed (columns 1 2 line)

abbrev extra_cells : List ℕ → List (List ℕ)
extra_cells line = map cell_of (row_values extra_fields line)

-- one BX and none are shown as two
shown-extra : (e : Extra) → AllFit (record_table (of.Extra e)) →
    identity_of_extra (extra_line (Some e)) ≡ identity_of_extra (extra_line None) → ⊥
shown-extra e fits same =
    let long : 2 ≡ 0 = ap length (sym (ap trimmed (records.spells (of.Extra e) fits).0) ∙ same) in
    absurd (omega (arith, long))

pub same-extra : (x y : Option Extra) → Each RecordFits (extra_records x) →
    Each RecordFits (extra_records y) →
    identity_of_extra (extra_line x) ≡ identity_of_extra (extra_line y) → extra_cells (extra_line x) ≡ extra_cells (extra_line y) → x ≡ y
same-extra None None one other identity same = refl
same-extra None (Some f) one other identity same = absurd (shown-extra f other.0 (sym identity))
same-extra (Some e) None one other identity same = absurd (shown-extra e one.0 identity)
same-extra (Some e) (Some f) one other identity same =
    let l = plain_line (record_table (of.Extra e)) in
    let m = plain_line (record_table (of.Extra f)) in
    let all = all-covered l m 0 kinds_of.Other refl (records.line (of.Extra e) one.0) (records.line (of.Extra f) other.0)
    extra_columns
    (record_table (of.Extra f)) refl (ap₂ (λ (c : List ℕ) (cells : List (List ℕ)). c ∷ cells) identity same) in
    let spelled = records.spells (of.Extra f) other.0 in
    let record_is = records.one_record l (of.Extra e) (of.Extra f) (records.spells (of.Extra e) one.0)
    (all-moved l m (record_table (of.Extra f)) all spelled) in
    ap extra_of record_is
  where
    extra_of : Record → Option Extra
    extra_of (of.Extra r) = Some r
    extra_of _ = None

-- ---- the detail of a schedule

-- a schedule's line that stands for its record
abbrev pub basic_line : List ℕ × Permanent BodyLines → List Row
basic_line e = basic_rows e.0 e.1.first e.1.last e.1.days P (Some (detail_of e.1.body))

-- it fits its columns, and has a body
pub record FitsLines (e : List ℕ × Permanent BodyLines) : Type 0 where
  pub basic : AllFit (basic_line e)
  pub body : IsBody e.1.body

-- the lines behind its BS, of a BX or none and a journey
abbrev pub behind_extra : Option Extra → List (List ℕ) → List (List ℕ)
behind_extra None lines = lines
behind_extra (Some e) lines = plain_line (record_table (of.Extra e)) ∷ lines

further-is : (x : Option Extra) (rs : List Record) → lines_of (extra_records x ++ rs) ≡ behind_extra x (lines_of rs)
further-is None rs = refl
further-is (Some e) rs = refl

module _ (e : List ℕ × Permanent BodyLines) (fits : FitsLines e) where
  abbrev it : BodyParts
  it = parts_in e.1.body

  abbrev pub journey_in_body : List Record
  journey_in_body = journey_records it.origin it.calls it.terminus

  is-line : IsLine (plain_line (basic_line e))
  is-line = line-plain_line (basic_line e) refl fits.basic

  detail-stands : AllStandIn (plain_line (basic_line e)) (detail_rows (Some (detail_of e.1.body)))
  detail-stands =
      stands-front (plain_line (basic_line e)) (detail_rows (Some (detail_of e.1.body))) (basic_back P)
      (stands-plain_line (basic_line e) refl fits.basic).1.1.1.1.1.1.1

  further-fits : Each RecordFits (body_records it)
  further-fits = further-fit (Some e.1.body) fits.body

  pub extra-fits : Each RecordFits (extra_records it.extra)
  extra-fits = each_front RecordFits (extra_records it.extra) journey_in_body further-fits

  pub journey-fits : Each RecordFits journey_in_body
  journey-fits = each_back RecordFits (extra_records it.extra) journey_in_body further-fits

  pub further-of : drop 1 e.1.body ≡ behind_extra it.extra (lines_of journey_in_body)
  further-of = further-lines (Some e.1.body) fits.body ∙ further-is it.extra journey_in_body

  pub are-further_of : AreFurther (drop 1 e.1.body) it.extra (lines_of journey_in_body)
  are-further_of =
      subst (λ lines. AreFurther lines it.extra (lines_of journey_in_body)) (sym (further-lines (Some e.1.body) fits.body))
      (are-further it.extra it.origin (map call_record it.calls ++ (of.Terminus it.terminus ∷ [])) further-fits)

-- bodies are equal where their details are, and their further lines
same-lines : (a b : BodyLines) → KeepSomeBody a → KeepSomeBody b → detail_of a ≡ detail_of b → drop 1 a ≡ drop 1 b → a ≡ b
same-lines a b one other detail further =
    by-first a (first_line a one).0 ∙ (λ i. first i ∷ further i) ∙ sym (by-first b (first_line b other).0)
  where
    first : get_or a 0 [] ≡ get_or b 0 []
    first = (first_line a one).1 ∙ ap (λ (d : Detail). plain_line (detail_table d)) detail ∙ sym (first_line b other).1

    by-first : (lines : BodyLines) → 2 < length lines → lines ≡ get_or lines 0 [] ∷ drop 1 lines
    by-first [] some = absurd (omega (arith, some))
    by-first (line ∷ lines) some = refl

module _ (e g : List ℕ × Permanent BodyLines) (one : FitsLines e) (other : FitsLines g) where
  same-detail : map cell_of (row_values detail_fields (plain_line (basic_line e)))
      ≡ map cell_of (row_values detail_fields (plain_line (basic_line g))) → detail_of e.1.body ≡ detail_of g.1.body
  same-detail same =
      let l = plain_line (basic_line e) in
      let m = plain_line (basic_line g) in
      let all = all-covered l m 0 kinds_of.Other refl (is-line e one) (is-line g other) (drop 4 basic_columns)
      (detail_rows (Some (detail_of g.1.body))) refl same in
      one_detail l (detail_of e.1.body) (detail_of g.1.body) (detail-stands e one)
      (all-moved l m (detail_rows (Some (detail_of g.1.body))) all (detail-stands g other))

  -- where a pair has no row, the bodies are the same
  pub same-body : schedule_differences (record { side = Left; it = schedule_plain e }, Some (schedule_plain g)) ≡ [] → e.1.body ≡ g.1.body
  same-body none =
      let p = parts_in e.1.body in
      let q = parts_in g.1.body in
      let s = schedule_plain e in
      let t = schedule_plain g in
      let head = schedule_head changed s.basic in
      let x = extra_in s.further in
      let y = extra_in t.further in
      let start = in_record head (codes "BS") in
      let behind = in_record head (codes "BX") in
      let details = differing_rows start detail_fields s.basic t.basic in
      let identities = differing_rows start extra_identity x y in
      let extras = differing_rows behind extra_fields x y in
      let journeys = journey_differences head (journey_of s) (journey_of t) in
      let (no_detail, later) = both-none details (identities ++ (extras ++ journeys)) none in
      let (no_identity, last) = both-none identities (extras ++ journeys) later in
      let (no_extra, no_journey) = both-none extras journeys last in
      let a = are-further_of e one in
      let b = are-further_of g other in
      let detail_is = same-detail (same-cells start s.basic t.basic detail_fields no_detail) in
      let extra_is = same-extra p.extra q.extra (extra-fits e one) (extra-fits g other)
      (ap identity_of_extra (sym a.extra_is) ∙ ap first_cell (same-cells start x y extra_identity no_identity)
      ∙ ap identity_of_extra b.extra_is)
      (ap extra_cells (sym a.extra_is) ∙ same-cells behind x y extra_fields no_extra ∙ ap extra_cells b.extra_is) in
      let rs = journey_in_body e one in
      let qs = journey_in_body g other in
      let by_lines : rows_of_journeys head (lines_of rs) (lines_of qs) ≡ [] =
      ap₂ (rows_of_journeys head) (sym a.journey_is) (sym b.journey_is)
      ∙ journeys-by-lines head (without_extra s.further) (without_extra t.further) ∙ no_journey in
      let (places, rows) = told-places (same_places (lines_of rs) (lines_of qs)) (rows_of_places head 1 (lines_of rs) (lines_of qs))
      (row_of_counts head (count_of_calls (lines_of rs)) (count_of_calls (lines_of qs))) by_lines in
      let lines = same-journeys head 1 rs qs (are-places q.origin q.calls q.terminus) (journey-fits e one) (journey-fits g other)
      places rows in
      same-lines e.1.body g.1.body one.body.keep other.body.keep detail_is
      (further-of e one ∙ (λ i. behind_extra (extra_is i) (lines i)) ∙ sym (further-of g other))

-- ---- two associations

abbrev pub association_line : AssocKey × Permanent AssocBody → List Row
association_line e = aa.association_rows e.0 e.1.first e.1.last e.1.days P (Some e.1.body)

-- the fields that a pair is compared by
abbrev compared : List Column
compared = take 2 (drop 5 association_columns) ++ drop 10 association_columns

same_values-association : (p q : AssocBody) → p.category ≡ q.category → p.date_indicator ≡ q.date_indicator → p.diagram ≡ q.diagram →
    p.kind ≡ q.kind → p ≡ q
same_values-association p q a b c d =
    let values : ◌≡◌ {A = List ℕ × List ℕ × List ℕ × List ℕ} (p.category, p.date_indicator, p.diagram, p.kind)
    (q.category, q.date_indicator, q.diagram, q.kind) = cc in
    ap (λ (v : List ℕ × List ℕ × List ℕ × List ℕ).
    let it : AssocBody = record { category = v.0; date_indicator = v.1; diagram = v.2; kind = v.3 } in it) values

module _ (e g : AssocKey × Permanent AssocBody) (one : AllFit (association_line e)) (other : AllFit (association_line g)) where
  -- where a pair has no row, the bodies are the same
  pub same-association :
      association_differences (record { side = Left; it = association_plain e }, Some (association_plain g)) ≡ [] → e.1.body ≡ g.1.body
  same-association none =
      let p = e.1.body in
      let q = g.1.body in
      let l = plain_line (association_line e) in
      let m = plain_line (association_line g) in
      let left = line-plain_line (association_line e) refl one in
      let right = line-plain_line (association_line g) refl other in
      let a = (stands-plain_line (association_line e) refl one).1.1.1.1.1.1.1 in
      let b = (stands-plain_line (association_line g) refl other).1.1.1.1.1.1.1 in
      let same = same-cells (in_record (association_head changed l) (codes "AA")) l m (category_fields ++ type_fields) none in
      let there : (from to : ℕ) → IsTrue (is_there kinds_of.Other compared from to) → columns from to l ≡ columns from to m =
      λ from to is. covered l m 0 kinds_of.Other refl left right from to compared is same in
      let both : (from to : ℕ) (v w : List ℕ) → columns from to l ≡ columns from to m → StandsIn (columns from to l) (text v) →
      StandsIn (columns from to m) (text w) → v ≡ w =
      λ from to v w same h k. one_text_value (columns from to l) v w h (subst (λ c. StandsIn c (text w)) (sym same) k) in
      same_values-association p q
      (both 35 36 p.category q.category (there 35 36 refl) a.0 b.0)
      (both 37 37 p.date_indicator q.date_indicator (there 37 37 refl) a.1.0 b.1.0)
      (both 47 47 p.diagram q.diagram (there 47 47 refl) a.1.1.1.1.1.0 b.1.1.1.1.1.0)
      (both 48 48 p.kind q.kind (there 48 48 refl) a.1.1.1.1.1.1.0 b.1.1.1.1.1.1.0)
