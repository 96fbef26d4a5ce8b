-- What the lines so far have come to, line by line.
use Rattle.cif_extract.proofs.Names.{All, All-append, All-cons, All-nil, AreAllLines, AreExtract, AreLinesToFault, Basic, Bool}
use Rattle.cif_extract.proofs.Names.{BytesSpellWithin, Detail, Err, Extract, ExtractParts, Fault, HasRead, HasReadAt, HasReadOn, HasTaken}
use Rattle.cif_extract.proofs.Names.{IfErr, IfOk, IfSome, IsDecided, IsFirstRefusal, IsLine, IsNextFault, IsNoTrailer, IsReadFault}
use Rattle.cif_extract.proofs.Names.{IsReadWhole, IsResultOf, IsTaken, IsTakenAs, IsTakenBehind, IsWhole, Kind, Layouts, LineFault}
use Rattle.cif_extract.proofs.Names.{LineReads, List, None, NoneRefused, Ok, Option, Place, Progress, Record, Refusal, Result, Some, Source}
use Rattle.cif_extract.proofs.Names.{SpellAllBy, SpellExtract, TakeFault, Zz, [], ap, arith, cond, extract_parts, failed_after, false}
use Rattle.cif_extract.proofs.Names.{fault_at_line, first_of, has_body, inr, is_some, known_so, length, may_stand, no_progress}
use Rattle.cif_extract.proofs.Names.{of_line_fault, order_refusal, own_layouts, read_on_both, reader_of, reading_extract, refl, refusal_at}
use Rattle.cif_extract.proofs.Names.{refusal_behind, refusal_of, source_failed, step, subst, sym, true, true≢false, unless, unread_of, ℕ}
use Rattle.cif_extract.proofs.Names.{◌++◌, ◌+◌, ◌<◌, ◌∙◌, ◌∷◌, ◌≡◌, ◌≢◌, ◌≤◌}
use Rattle.cif_columns.specs.declared.line.Line.{Line}
use Rattle.cif_columns.specs.declared.refusal.LineFault.TheVariants as line_fault
use Rattle.cif_columns.specs.declared.refusal.Refusal.TheVariants as refusal
use Rattle.cif_records.proofs.Records.{kind_of as record_kind}
use Rattle.cif_records.specs.declared.record.Record.TheVariants as of
use Rattle.cif_extract.proofs.{FirstRefusals.at_fault, FirstRefusals.none_refused-more, FirstRefusals.none_refused-none}
use Rattle.cif_extract.proofs.{JourneySteps.has_read_more, LayoutLaws.AreLayouts, LayoutLaws.own_are, Places.place_more, Places.place_past}
use Rattle.cif_extract.proofs.{Places.refused_at, ReadCalls.answers, ReadCalls.of_any, ReadCalls.refuses}
use Rattle.cif_extract.specs.Steps.Reading.{begun}
use Rattle.cif_extract.specs.declared.fault.Fault.TheVariants as fault
use Rattle.cif_extract.specs.declared.place.Place.TheVariants as at
use Rattle.cif_extract.specs.declared.reading.TakeFault.TheVariants as untaken

-- the lines so far came to this, and none of them is refused
pub record HasCome (max : ℕ) (lines : List (List ℕ)) (p : Progress) : Type 0 where
  pub taken : HasTaken own_layouts lines p
  pub fine : NoneRefused max lines

-- before the first line
pub taken_none : (layouts : Layouts) → HasTaken layouts [] no_progress
taken_none layouts = record {
  records = [];
  spelled = tt;
  read = record { none = refl; tiplocs = refl; associations = refl; schedules = refl };
  place = refl;
  no_trailer = λ going. All-nil (IsNoTrailer layouts);
}

pub come_none : (max : ℕ) → HasCome max [] no_progress
come_none max = record { taken = taken_none own_layouts; fine = none_refused-none max }

-- the place after a BS
place_begun : (p : Progress) (b : Basic) (d : Option Detail) (e : is_some d ≡ has_body b.letter) →
    cond (has_body b.letter) at.Basic at.Cancelled ≡ (begun p b d e).place
place_begun p b None e = ap (λ runs. cond runs at.Basic at.Cancelled) (sym e)
place_begun p b (Some d) e = ap (λ runs. cond runs at.Basic at.Cancelled) (sym e)

-- the place after a record is the step's
pub place_step : (p : Progress) (r : Record) → place_past p.place r ≡ (step p r).place
place_step p (of.Basic x) = place_begun p x x.detail x.bodied
place_step p _ = refl

-- what isn't refused for its place may stand there
allowed : (place : Place) (kind : Kind) (why : Option Refusal) →
    first_of (order_refusal place (Some kind) ∷ why ∷ []) ≡ None → may_stand place kind ≡ true
allowed place kind why e = at (may_stand place kind) e
  where
    at : (b : Bool) → first_of (unless b refusal.OutOfOrder ∷ why ∷ []) ≡ None → b ≡ true
    at true e = refl
    at false e = cc

-- only the trailer leads to the end
not_ended : (p : Progress) (r : Record) → (record_kind r ≡ Zz → ⊥) → may_stand p.place (record_kind r) ≡ true → (p.place ≡ at.Ended → ⊥)
not_ended p r h may e = let no : false ≡ true = ap (λ place. may_stand place (record_kind r)) (sym e) ∙ may in cc

ends_by_trailer : (p : Progress) (r : Record) → ((step p r).place ≡ at.Ended → ⊥) → record_kind r ≡ Zz → ⊥
ends_by_trailer p of.Trailer h e = h refl
ends_by_trailer p _ h e = cc

module _ (layouts : Layouts) (laws : AreLayouts layouts) where
  spell_more : (lines : List (List ℕ)) (records : List Record) (line : List ℕ) (r : Record) → SpellAllBy layouts.spells lines records →
      layouts.spells line r → SpellAllBy layouts.spells (lines ++ (line ∷ [])) (records ++ (r ∷ []))
  spell_more [] [] line r all one = (one, tt)
  spell_more [] (x ∷ records) line r all one = absurd all
  spell_more (l ∷ lines) [] line r all one = absurd all
  spell_more (l ∷ lines) (x ∷ records) line r all one = (all.0, spell_more lines records line r all.1 one)

  -- one line more
  module _ (lines : List (List ℕ)) (line : List ℕ) (before : Progress) (so_far : HasTaken layouts lines before) where
    -- why it is refused behind these
    pub refused_behind : refusal_behind layouts lines line ≡ refusal_at layouts before.place line
    refused_behind = ap (λ place. refusal_at layouts place line) so_far.place

    pub taken_more : (after : Progress) →
        IsTakenAs (refusal_at layouts before.place line) (layouts.spells line) before (Ok tt) after →
        HasTaken layouts (lines ++ (line ∷ [])) after
    taken_more after taken =
        let (none, one) = taken in
        let (r, spells, keepable, is) = one in
        let kind = laws.kind line r spells in
        let may = allowed before.place (record_kind r) (layouts.refusal line)
        (ap (λ k. first_of (order_refusal before.place k ∷ layouts.refusal line ∷ [])) (sym kind) ∙ none) in
        subst (HasTaken layouts (lines ++ (line ∷ []))) (sym is)
        (record {
          records = so_far.records ++ (r ∷ []);
          spelled = spell_more lines so_far.records line r so_far.spelled spells;
          read = has_read_more so_far.records before r keepable so_far.read may;
          place = place_more layouts laws lines line r before.place so_far.place spells ∙ place_step before r;
          no_trailer = λ going.
              let other = ends_by_trailer before r going in
              All-append (IsNoTrailer layouts) lines (line ∷ []) (so_far.no_trailer (not_ended before r other may))
              (All-cons (IsNoTrailer layouts) line []
              (λ e. other (let same : Some (record_kind r) ≡ Some Zz = sym kind ∙ e in cc)) (All-nil (IsNoTrailer layouts)));
        })

    -- whatever comes of it
    pub taken_behind : (result : Result Unit TakeFault) (after : Progress)
        → IsTakenAs (refusal_at layouts before.place line) (layouts.spells line) before result after
        → IsTakenBehind layouts lines line result after
    taken_behind (Ok taken) after is = (refused_behind ∙ is.0, taken_more after is)
    taken_behind (Err (untaken.Refused why)) after is = refused_behind ∙ is
    taken_behind (Err untaken.Memory) after is = tt

module _ (max : ℕ) (lines : List (List ℕ)) (line : List ℕ) (is_line : IsLine line) (room : length lines < max) (before : Progress)
    (so_far : HasCome max lines before) where
  -- why a line is refused here
  pub refused_here : refusal_of max lines line ≡ refusal_at own_layouts before.place line
  refused_here = refused_at max lines line before.place is_line room so_far.taken.place

  pub come_more : (after : Progress) → IsTaken (refusal_at own_layouts before.place line) line before (Ok tt) after →
      HasCome max (lines ++ (line ∷ [])) after
  come_more after is = record {
    taken = taken_more own_layouts own_are lines line before so_far.taken after is;
    fine = none_refused-more max lines line so_far.fine (refused_here ∙ is.0);
  }

module _ (records : List Record) (p : Progress) (read : HasRead records p) where
  whole : p.place ≡ at.Ended → IsWhole records p
  whole ended = subst (λ place. HasReadAt place records p) ended read

  -- one without a header isn't whole
  pub unfinished : (p.place ≡ at.Ended → p.header ≡ None) → p.place ≢ at.Ended
  unfinished none ended =
      let there = (whole ended).is_header in
      let without = none ended in
      cc

-- lines that are all of an input, and spell an extract
all_lines_spell : (max : ℕ) (bytes : List ℕ) (lines : List (List ℕ)) → AreAllLines max bytes lines → (x : ExtractParts) →
    SpellExtract lines x → BytesSpellWithin max bytes x
all_lines_spell max bytes lines all x spelled =
    subst (λ ls. All IsLine ls → length ls ≤ max → SpellExtract ls x → BytesSpellWithin max bytes x) all.contents
    (λ are_lines within s. record { spell = record { are_lines = are_lines; spelled = s }; within = within })
    all.are_lines all.within spelled

-- the reason for which a line that isn't taken is refused
pub refused_reason : (refusal : Option Refusal) (line : List ℕ) (before after : Progress) (s : TakeFault) (why : Refusal) →
    IsTaken refusal line before (Err s) after → s ≡ untaken.Refused why → refusal ≡ Some why
refused_reason refusal line before after (untaken.Refused x) why taken e = taken ∙ (let same : x ≡ why = cc in ap Some same)
refused_reason refusal line before after untaken.Memory why taken e = cc

-- ---- what a reading comes to

module _ {R : Type 0} (remaining : R → Option (List ℕ)) (errors : R → Option ℕ) (max : ℕ) (old new : Source R) where
  abbrev Comes : Result Extract Fault → Type 0
  Comes = IsResultOf remaining errors (reading_extract max) old new

  -- memory runs out
  pub comes-memory : HasReadOn errors old new → Comes (Err fault.Memory)
  comes-memory = refuses remaining errors old new (reading_extract max) fault.Memory (of_any _ _ (λ bytes. tt)) tt

  -- a line isn't taken
  pub comes-untaken : (number : ℕ) (s : TakeFault) → 1 ≤ number → number ≤ max → HasReadOn errors old new →
      ((why : Refusal) → s ≡ untaken.Refused why → IfSome (remaining (reader_of old))
      (λ bytes. IsFirstRefusal max bytes number why × IsDecided max bytes (unread_of remaining new) number)) →
      Comes (Err (fault_at_line number s))
  comes-untaken number (untaken.Refused why) first within read_on h =
      refuses remaining errors old new (reading_extract max) (fault.Refused number why) (h why refl) (first, omega arith) read_on
  comes-untaken number untaken.Memory first within read_on h = comes-memory read_on

  module _ (ls : List (List ℕ)) (fine : NoneRefused max ls) where
    -- the next line can't be read
    pub comes-line_fault : (between : Source R) → HasReadOn errors old between → (count : ℕ) → count ≤ max → (l : LineFault) →
        IfSome (remaining (reader_of old)) (λ bytes. AreLinesToFault max bytes (unread_of remaining new) ls l) → IsNextFault count l →
        LineReads {A = Option Line} errors between new (Err l) → Comes (Err (of_line_fault l))
    comes-line_fault between read_on count within (line_fault.Refused number why) given next reads =
        let l = line_fault.Refused number why in
        let is = next.0 in
        refuses remaining errors old new (reading_extract max) (of_line_fault l)
        (at_fault max (remaining (reader_of old)) ls fine (unread_of remaining new) l given)
        (omega (arith, is), omega (arith, is)) (read_on_both errors old between new read_on reads)
    comes-line_fault between read_on count within line_fault.Read given next reads =
        refuses remaining errors old new (reading_extract max) fault.Read
        (at_fault max (remaining (reader_of old)) ls fine (unread_of remaining new) line_fault.Read given) tt
        (failed_after errors old between new read_on reads)

    -- there is none
    pub comes-end : IfSome (remaining (reader_of old)) (λ bytes. AreAllLines max bytes ls) → IsReadWhole remaining old new →
        source_failed old ≡ false → HasReadOn errors old new → (number : ℕ) → number ≡ length ls → number ≤ max →
        (p : Progress) (taken : HasTaken own_layouts ls p) (result : Result Extract Fault) →
        IfOk result (λ extract. AreExtract taken.records (extract_parts extract)) →
        IfErr result (λ f. f ≡ fault.Refused (number + 1) refusal.Truncated) → IfErr result (λ _. p.place ≢ at.Ended) → Comes result
    comes-end all read fresh read_on number is within p taken (Ok extract) are truncated going =
        answers remaining errors old new (reading_extract max) extract
        (known_so _ _ _ (λ bytes a. all_lines_spell max bytes ls a (extract_parts extract)
        (record { records = taken.records; spelled = taken.spelled; are = are })) all) fresh read_on read
    comes-end all read fresh read_on number is within p taken (Err f) are truncated going =
        rw truncated
        (refuses remaining errors old new (reading_extract max) (fault.Refused (number + 1) refusal.Truncated)
        (known_so (remaining (reader_of old)) (λ bytes. AreAllLines max bytes ls)
        (λ bytes. IsReadFault max bytes (unread_of remaining new) (fault.Refused (number + 1) refusal.Truncated)) (λ bytes a. (
          inr (record {
            fine = rw a.contents fine;
            no_trailer = rw a.contents (taken.no_trailer going);
            numbered = ap (λ n. n + 1) is ∙ ap (λ c. length c + 1) (sym a.contents);
            reason = refl;
          }),
          λ not. absurd (true≢false (sym read.0 ∙ not)),
        )) all)
        (omega arith, omega arith) read_on)
