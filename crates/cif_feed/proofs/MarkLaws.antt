-- The marks with that of a line that spells a record are those with its line: what is counted by the mark is counted by the columns.
use Rattle.cif_feed.proofs.Names.{Aa, Association, Basic, Bool, Bs, Err, Feed, Full, Hd, HolidayCode, HolidayCodes, IsOwn, IsRecordTaken}
use Rattle.cif_feed.proofs.Names.{Kind, List, MarkParts, None, Ok, Option, Progress, Record, Result, Some, SpellsAssociationBy}
use Rattle.cif_feed.proofs.Names.{SpellsBasicBy, SpellsInFeed, StandsIn, Ta, TakeFault, Td, Ti, Transaction, [], and-false, ap, append-nil}
use Rattle.cif_feed.proofs.Names.{code_of, code_value, columns, false, false≢true, feed_refusal_as, is_basic, is_deleted, is_new, is_open}
use Rattle.cif_feed.proofs.Names.{is_revised, is_some, is_trailer, kind_in, kind_of, kind_read_as, not, plus_if, refl, slice_index, subst}
use Rattle.cif_feed.proofs.Names.{sym, transaction_at, true, with_line, ℕ, ◌&&◌, ◌++◌, ◌==◌, ◌∙◌, ◌∷◌, ◌≡◌}
use Rattle.std.{proofs.Math.Bool.and-true, specs.Result.IsErrAnd}
use Rattle.cif_records.specs.declared.record.Kind.TheVariants.{Zz}
use Rattle.cif_records.specs.declared.record.Record.TheVariants as of
use Rattle.cif_feed.proofs.{FeedLines.fine, FeedLines.kind_there, FeedSteps.read_back, FeedSteps.read_transaction}
use Rattle.cif_feed.specs.{FeedLine.column, Marks.record_mark, Transaction.transaction_in}
use Rattle.cif_feed.specs.Steps.Marks.{is_schedule_mark, is_trailer_mark, mark_of, own_mark, with_mark, with_record}
use Rattle.cif_feed.specs.declared.{feed_line.Feed.TheVariants.Update, mark.RecordMark.RecordMark, mark.TiplocMark.TiplocMark}
use Rattle.cif_feed.specs.declared.mark.UpdateCounts.{UpdateCounts}
use Rattle.cif_feed.specs.declared.holidays.HolidayCode.TheVariants.{X, E, G}
use Rattle.cif_feed.specs.declared.mark.LineMark.TheVariants as mark
use Rattle.cif_feed.specs.declared.mark.Transaction.TheVariants.{Deleted, New, Revised}

-- a code that stands there counts
coded : (code : Option HolidayCode) (cs : List ℕ) → StandsIn cs (code_value code) → is_some code ≡ not (slice_index cs 0 == 32)
coded None cs s = rw s refl
coded (Some X) cs s = rw s refl
coded (Some E) cs s = rw s refl
coded (Some G) cs s = rw s refl

-- A kind of which no list is kept is none of those. (A search where a line's record is known takes a second for each.)
abbrev is_listed : Kind → Bool
is_listed Ti = true
is_listed Aa = true
is_listed Bs = true
is_listed _ = false

apart : (k j : Kind) → is_listed k ≡ false → is_listed j ≡ true → k ≡ j → ⊥
apart k j none listed is = false≢true (sym none ∙ ap is_listed is ∙ listed)

association-apart : Aa ≡ Ti → ⊥
association-apart e = cc

schedule-apart : Bs ≡ Ti → ⊥
schedule-apart e = cc

module _ (allowed : HolidayCodes) (number : ℕ) (c : List ℕ) (m : MarkParts) where
  abbrev line : ℕ × List ℕ
  line = (number, c)

  abbrev IsMarked : Option Kind → Type 0
  IsMarked kind = with_mark m (mark_of allowed kind line) ≡ with_line m allowed kind line

  -- ---- an AA, and a BS

  abbrev counted : Option Transaction → Bool → Bool → UpdateCounts
  counted t open_end code = record {
    put = plus_if m.counts.put (is_new t);
    revised = plus_if m.counts.revised (is_revised t);
    taken_out = plus_if m.counts.taken_out (is_deleted t);
    open_ends = plus_if m.counts.open_ends (open_end && not (is_deleted t));
    holiday_codes = plus_if m.counts.holiday_codes (code && not (is_deleted t));
  }

  counted_by : (t : Transaction) (open_end : Bool) (code : Option HolidayCode) (some : Bool)
      → ((t ≡ Deleted → ⊥) → is_some code ≡ some)
      → with_record m.counts (record_mark (Some t) open_end code line) ≡ counted (Some t) open_end some
  counted_by New open_end code some is = rw (and-true open_end, and-true some, is (λ e. cc)) refl
  counted_by Revised open_end code some is = rw (and-true open_end, and-true some, is (λ e. cc)) refl
  counted_by Deleted open_end code some is = rw (and-false open_end, and-false some) refl

  with_lists : List TiplocMark → List RecordMark → List RecordMark → UpdateCounts → MarkParts
  with_lists ts rs ss all = record m { tiplocs = ts; associations = rs; schedules = ss; counts = all }

  same_lists : (ts us : List TiplocMark) (ps qs rs ss : List RecordMark) (all others : UpdateCounts) → ts ≡ us → ps ≡ qs → rs ≡ ss
      → all ≡ others → with_lists ts ps rs all ≡ with_lists us qs ss others
  same_lists ts us ps qs rs ss all others t p r o = rw (t, p, r, o) refl

  association : (t : Transaction) → transaction_in (column 3 c) ≡ Some t → IsMarked (Some Aa)
  unfolding with_lists
  association t is =
      let open_end = is_open 22 c in
      subst (λ o. with_mark m (mark.Association (record_mark o open_end None line))
      ≡ with_lists (m.tiplocs ++ []) (m.associations ++ record_mark o open_end None line ∷ []) (m.schedules ++ [])
      (counted o open_end false)) (sym is)
      (same_lists _ _ _ _ _ _ _ _ (sym (append-nil m.tiplocs)) refl (sym (append-nil m.schedules))
      (counted_by t open_end None false (λ put. refl)))

  schedule : (t : Transaction) → transaction_in (column 3 c) ≡ Some t
      → ((t ≡ Deleted → ⊥) → StandsIn (columns 29 29 c) (code_value (code_of allowed c))) → IsMarked (Some Bs)
  unfolding with_lists
  schedule t is stands =
      let open_end = is_open 16 c in
      let code = code_of allowed c in
      let some = not (column 29 c == 32) in
      subst (λ o. with_mark m (mark.Schedule (record_mark o open_end code line))
      ≡ with_lists (m.tiplocs ++ []) (m.associations ++ []) (m.schedules ++ record_mark o open_end code line ∷ [])
      (counted o open_end some)) (sym is)
      (same_lists _ _ _ _ _ _ _ _ (sym (append-nil m.tiplocs)) (sym (append-nil m.associations)) refl
      (counted_by t open_end code some (λ put. coded code (columns 29 29 c) (stands put))))

  -- ---- a line of another kind

  other : (k : Kind) → (k ≡ Aa → ⊥) → (k ≡ Bs → ⊥) → IsMarked (Some k)
  other Aa a b = absurd (a refl)
  other Bs a b = absurd (b refl)
  other Ti a b = rw (append-nil m.associations, append-nil m.schedules) refl
  other Ta a b = rw (append-nil m.associations, append-nil m.schedules) refl
  other Td a b = rw (append-nil m.associations, append-nil m.schedules) refl
  other _ a b = rw (append-nil m.tiplocs, append-nil m.associations, append-nil m.schedules) refl

  -- ---- any line

  tiploc : (f : Feed) (k : Option Kind) → kind_read_as f k ≡ Some Ti → IsMarked k
  tiploc Full k is = subst IsMarked (sym is) (other Ti (λ e. cc) (λ e. cc))
  tiploc Update (Some Ta) is = other Ta (λ e. cc) (λ e. cc)
  tiploc Update (Some Td) is = other Td (λ e. cc) (λ e. cc)
  tiploc Update k is = subst IsMarked (sym is) (other Ti (λ e. cc) (λ e. cc))

  module _ (feed : Feed) where
    association_named : (a : Association) (t : Option Transaction) → transaction_at feed c ≡ t → SpellsAssociationBy t c a
        → IsMarked (Some Aa)
    association_named a None is s = absurd s
    association_named a (Some t) is s = association t (read_transaction feed c t is)

    basic_named : (b : Basic) (t : Option Transaction) → transaction_at feed c ≡ t → SpellsBasicBy allowed t c b → IsMarked (Some Bs)
    basic_named b None is s = absurd s
    basic_named b (Some New) is s = schedule New (read_transaction feed c New is) (λ put. s.0.1.1.1.1.1.1.0)
    basic_named b (Some Revised) is s = schedule Revised (read_transaction feed c Revised is) (λ put. s.0.1.1.1.1.1.1.0)
    basic_named b (Some Deleted) is s = schedule Deleted (read_transaction feed c Deleted is) (λ put. absurd (put refl))

    pub marked : (r : Record) → SpellsInFeed feed allowed c r → IsMarked (kind_in c)
    marked r s = at r s (kind_there feed allowed c r s)
      where
        by : (k : Kind) → (k ≡ Ti → ⊥) → kind_read_as feed (kind_in c) ≡ Some k → IsMarked (Some k) → IsMarked (kind_in c)
        by k other_kind is here = subst IsMarked (sym (read_back feed (kind_in c) k other_kind is)) here

        at : (r : Record) → SpellsInFeed feed allowed c r → kind_read_as feed (kind_in c) ≡ Some (kind_of r) → IsMarked (kind_in c)
        at (of.Tiploc t) s is = tiploc feed (kind_in c) is
        at (of.Association a) s is = by Aa association-apart is (association_named a (transaction_at feed c) refl s)
        at (of.Basic b) s is = by Bs schedule-apart is (basic_named b (transaction_at feed c) refl s)
        at r s is = by (kind_of r) (apart (kind_of r) Ti refl refl) is
            (other (kind_of r) (apart (kind_of r) Aa refl refl) (apart (kind_of r) Bs refl refl))

-- ---- what `?` hands on

pub passed_on : {T : Type 0} (P : Result T TakeFault → Type 0) (fault : TakeFault) (r : Result T TakeFault) → IsErrAnd r (λ e. e ≡ fault)
    → P (Err fault) → P r
passed_on P fault (Ok x) h p = absurd h
passed_on P fault (Err e) h p = subst (λ f. P (Err f)) (sym h) p

-- ---- what a mark tells of its kind

pub schedule_there : (allowed : HolidayCodes) (kind : Option Kind) (line : ℕ × List ℕ)
    → is_schedule_mark (mark_of allowed kind line) ≡ is_basic kind
schedule_there allowed (Some Bs) l = refl
schedule_there allowed _ l = refl

pub trailer_there : (allowed : HolidayCodes) (kind : Option Kind) (line : ℕ × List ℕ)
    → is_trailer_mark (mark_of allowed kind line) ≡ is_trailer kind
trailer_there allowed (Some Zz) l = refl
trailer_there allowed _ l = refl

-- a line that is as in an extract of this profile
pub own_marked : (feed : Feed) (allowed : HolidayCodes) (number : ℕ) (c : List ℕ) (before after : Progress) (kind : Kind)
    → kind_in c ≡ Some kind → IsOwn (Some kind) feed → IsRecordTaken feed allowed c before (Ok tt) after
    → own_mark kind ≡ mark_of allowed (kind_in c) (number, c)
own_marked feed allowed number c before after kind is own taken =
    let (r, spells, keepable, is_step) = taken.1 in
    let none = ap (λ k. feed_refusal_as feed allowed k c) (sym is) ∙ fine feed allowed c r spells in
    at feed kind own none ∙ ap (λ k. mark_of allowed k (number, c)) (sym is)
  where
    at : (f : Feed) (k : Kind) → IsOwn (Some k) f → feed_refusal_as f allowed (Some k) c ≡ None
        → own_mark k ≡ mark_of allowed (Some k) (number, c)
    at Full Ta own none = absurd (cc)
    at Full Td own none = absurd (cc)
    at Full Hd own none = absurd own
    at Full Ti own none = absurd own
    at Full Aa own none = absurd own
    at Full Bs own none = absurd own
    at Full _ own none = refl
    at Update Hd own none = absurd own
    at Update Ti own none = absurd own
    at Update Ta own none = absurd own
    at Update Td own none = absurd own
    at Update Aa own none = absurd own
    at Update Bs own none = absurd own
    at Update _ own none = refl
