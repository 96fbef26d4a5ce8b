-- What the judged contents so far have come to, and how their judging ends.
use Rattle.cif_feed.proofs.Names.{All, All-contains, All-head, All-map, All-tail, AreAll, AreJudgedAndRest, Bool, BytesSpellWithin}
use Rattle.cif_feed.proofs.Names.{Contains, ContentReader, Err, ExtractParts, HasGiven, HasJudged, HasReadOn, HaveReasons, IfErr, IfOk}
use Rattle.cif_feed.proofs.Names.{IfSome, IsFinished, IsInOrder, IsJudgedAs, IsJudgedFault, IsJudgedWhole, IsLine, IsLineNumber, IsNextOf}
use Rattle.cif_feed.proofs.Names.{IsOutOfPlace, IsReadAsJudged, IsReadWhole, IsRefusedLine, IsResultOf, IsSomeAnd, IsTruncated, LineFault}
use Rattle.cif_feed.proofs.Names.{List, MatchResult, None, NoneHasReason, Ok, Option, Reasons, Refusal, ReportReasons, Result, Some}
use Rattle.cif_feed.proofs.Names.{SomeHasReason, Source, SpellExtract, Unread, [], answers, ap, arith, cond, contents_of, extract_parts}
use Rattle.cif_feed.proofs.Names.{failed_after, false, first_of, get_or, get_or_default, given_failed, given_too_many, is_printable}
use Rattle.cif_feed.proofs.Names.{judged_all, judging, kind_in, known_so, length, length-append, line_of, lines_of_parts, list_all}
use Rattle.cif_feed.proofs.Names.{list_any, nat_eq, nat_lt, nat_tests, of_any, one_spelled, order_refusal, own_reason, place_behind}
use Rattle.cif_feed.proofs.Names.{read_on_both, reader_of, reasons_of, record_refusal, refl, refusal_of, refuses, source_ended}
use Rattle.cif_feed.proofs.Names.{source_failed, spelled-refused, strip_carriage_return, stripped_long, subst, sym, take, true, true≢false}
use Rattle.cif_feed.proofs.Names.{unless, unread_of, ℕ, ⊎_elim, ◌++◌, ◌+◌, ◌<◌, ◌||◌, ◌∙◌, ◌∷◌, ◌≡◌, ◌≢◌, ◌≤◌, ◌⊎◌}
use Rattle.cif_columns.specs.JudgedContents.{IsGiven, MayGoOn, has_overlong, is_overlong, judged_contents, parts_of}
use Rattle.cif_columns.specs.declared.refusal.LineFault.TheVariants as line_fault
use Rattle.cif_columns.specs.declared.refusal.Refusal.TheVariants as refusal
use Rattle.cif_extract.{proofs.OrderLaws.spelled_fine, specs.Fault.of_line_fault, specs.declared.fault.Fault.Fault}
use Rattle.cif_extract.specs.declared.fault.Fault.TheVariants as fault
use Rattle.cif_feed.proofs.ReportedReasons.{judged_line, own_none, own_of_line, reasons_of_more, refused_number, report_nothing}
use Rattle.cif_feed.specs.declared.{judged.Judged.Judged, judged.Judging.Judging, judged.Order.Order}
use Rattle.cif_feed.specs.declared.judged.Judged.TheVariants as judged

-- ---- contents that spell an extract

-- what isn't refused behind others has no reason by itself
own_of_fine : (max : ℕ) (before : List (List ℕ)) (c : List ℕ) → refusal_of max before c ≡ None → own_reason c ≡ None
unfolding refusal_of own_reason
own_of_fine max before c is =
    at (nat_lt (length before) max) (nat_eq (length c) 80) (list_all is_printable c) (order_refusal (place_behind before) (kind_in c)) is
  where
    at : (f w p : Bool) (o : Option Refusal)
        → first_of (unless f refusal.TooManyLines ∷ unless w refusal.BadLength ∷ unless p refusal.BadByte ∷ o ∷ record_refusal c ∷ [])
        ≡ None
        → first_of (unless w refusal.BadLength ∷ unless p refusal.BadByte ∷ record_refusal c ∷ []) ≡ None
    at true true true None is = is
    at _ _ _ _ is = absurd (cc)

overlong_no : (part : List ℕ) → length part < 10000 → is_overlong part ≡ false
overlong_no part short = grind (arith, nat_tests)

-- no line is overlong
lines_short : (parts : List (List ℕ)) → All IsLine (lines_of_parts parts) → list_any is_overlong parts ≡ false
lines_short [] all = refl
lines_short (x ∷ []) all = at (nat_eq (length x) 0) refl all
  where
    at : (b : Bool) → b ≡ nat_eq (length x) 0 → All IsLine (cond b [] (x ∷ [])) → (is_overlong x || false) ≡ false
    at true e all =
        let short : length x < 10000 = grind (arith, nat_tests) in
        ap (λ b. b || false) (overlong_no x short)
    at false e all =
        let wide = (All-head IsLine x [] all).width in
        ap (λ b. b || false) (overlong_no x (omega (arith, wide)))
lines_short (x ∷ y ∷ parts) all =
    let wide = (All-head IsLine (strip_carriage_return x) (lines_of_parts (y ∷ parts)) all).width in
    let short : length x < 10000 = omega (arith, wide, stripped_long x) in
    ap (λ b. b || list_any is_overlong (y ∷ parts)) (overlong_no x short)
    ∙ lines_short (y ∷ parts) (All-tail IsLine (strip_carriage_return x) (lines_of_parts (y ∷ parts)) all)

lines_not_overlong : (bytes : List ℕ) → All IsLine (contents_of bytes) → has_overlong bytes ≡ false
unfolding has_overlong
lines_not_overlong bytes all = lines_short (parts_of bytes) all

module _ (max : ℕ) (bytes : List ℕ) (x : ExtractParts) (spells : BytesSpellWithin max bytes x) where
  all_judged : judged_contents bytes ≡ contents_of bytes
  all_judged = judged_all bytes (lines_not_overlong bytes spells.spell.are_lines)

  -- no line of what spells an extract has a reason
  none_of_spelled : NoneHasReason (contents_of bytes)
  none_of_spelled =
      let fine = spelled_fine max (contents_of bytes) x spells.within spells.spell.are_lines spells.spell.spelled in
      λ k d below. own_at k d below (own_of_fine max (take k (contents_of bytes)) (get_or (contents_of bytes) k []) (fine.fine k below))
    where
      own_at : (k : ℕ) (d : List ℕ) → k < length (contents_of bytes) → own_reason (get_or (contents_of bytes) k []) ≡ None
          → own_reason (get_or (contents_of bytes) k d) ≡ None
      own_at k d below is = ap own_reason (get_or_default (contents_of bytes) k d [] below) ∙ is

  none_is : (contents : List (List ℕ)) → NoneHasReason contents → (why : Refusal) → Contains (reasons_of contents) (Some why) → ⊥
  none_is contents none why there =
      let all = All-map (λ (r : Option Refusal). r ≡ None) own_reason contents none in
      let is : Some why ≡ None = All-contains (λ (r : Option Refusal). r ≡ None) (reasons_of contents) (Some why) all there in
      absurd (cc)

  pub judged_as : (after : Unread) (result : Result Judged Fault) → IfOk result (IsJudgedAs max bytes after)
      → IfErr result (IsJudgedFault max bytes after) → IsReadAsJudged x result
  judged_as after (Ok (judged.Extract extract)) ok err = one_spelled bytes (extract_parts extract) x ok.spell.spell spells.spell
  judged_as after (Ok (judged.Reasons reported)) ok err =
      absurd (none_is (judged_contents bytes) (rw all_judged none_of_spelled) ok.why ok.some)
  judged_as after (Err (fault.Refused line refusal.TooManyLines)) ok err =
      absurd (omega (arith, err.over, ap length all_judged, spells.within))
  judged_as after (Err (fault.Refused line why)) ok err = absurd (spelled-refused max bytes x spells line why err.first)
  judged_as after (Err fault.Read) ok err = tt
  judged_as after (Err fault.Memory) ok err = tt
  judged_as after (Err _) ok err = absurd err

-- ---- a line more

-- a line without a reason
pub line_judged : (max : ℕ) (cs : List (List ℕ)) (c line : List ℕ) (old : Judging) (order : Order) (result : Result (Unit {0}) Fault)
    → Ok line ≡ line_of c → record_refusal line ≡ None → HasJudged max cs old
    → (own_reason line ≡ None → IfOk result (λ done. IsInOrder max (cs ++ line ∷ []) order))
    → IfOk result (λ done. HasJudged max (cs ++ c ∷ []) (record old { order = order }))
line_judged max cs c line old order result is none judged so = at result (so own_line)
  where
    own_line : own_reason line ≡ None
    own_line =
        let found = judged_line c line is in
        ap own_reason (sym found.0) ∙ own_of_line c found.1 ∙ ap record_refusal found.0 ∙ none

    at : (r : Result (Unit {0}) Fault) → IfOk r (λ done. IsInOrder max (cs ++ line ∷ []) order)
        → IfOk r (λ done. HasJudged max (cs ++ c ∷ []) (record old { order = order }))
    at (Err f) h = tt
    at (Ok done) h =
        let same = (judged_line c line is).0 in
        let own : own_reason c ≡ None = ap own_reason same ∙ own_line in
        record {
          reported = subst (λ l. ReportReasons l old.reasons) (sym (reasons_of_more cs c None own))
              (report_nothing (reasons_of cs) old.reasons judged.reported);
          order = subst (λ l. IsInOrder max (cs ++ l ∷ []) order) (sym same) h;
        }

-- ---- how the judging ends

pub as_out_of_place : (max : ℕ) (bytes : List ℕ) (after : Unread) (line : ℕ) (why : Refusal) → why ≢ refusal.TooManyLines
    → IsOutOfPlace max bytes after line why → IsJudgedFault max bytes after (fault.Refused line why)
as_out_of_place max bytes after line refusal.TooManyLines other is = absurd (other refl)
as_out_of_place max bytes after line _ other is = is

-- at the end of the input
module _ (max : ℕ) (cs : List (List ℕ)) (within : length cs ≤ max) (after : Unread) (ended : after.ended ≡ true) where
  reported_whole : (bytes : List ℕ) → IsJudgedWhole max bytes after
  reported_whole bytes = λ not. absurd (true≢false (sym ended ∙ not))

  all_as : (bytes : List ℕ) → AreAll bytes cs → (result : Result Judged Fault) → IsFinished max cs result
      → MatchResult result (IsJudgedAs max bytes after) (IsJudgedFault max bytes after)
  all_as bytes all (Ok (judged.Reasons reported)) is = record {
    within = omega (arith, ap length all.judged_are, within);
    why = is.0.0;
    some = subst (λ l. Contains (reasons_of l) (Some is.0.0)) (sym all.judged_are) is.0.1;
    tell = subst (λ l. ReportReasons (reasons_of l) reported) (sym all.judged_are) is.1;
    whole = reported_whole bytes;
  }
  all_as bytes all (Ok (judged.Extract x)) is = record {
    none = subst NoneHasReason (sym all.judged_are) is.0;
    spell = record {
      spell = record {
        are_lines = subst (λ l. All IsLine l) (sym all.contents_are) (λ k d below. own_none _ (is.0 k d below));
        spelled = subst (λ l. SpellExtract l (extract_parts x)) (sym all.contents_are) is.1;
      };
      within = omega (arith, ap length all.contents_are, within);
    };
  }
  all_as bytes all (Err (fault.Refused line why)) is = as_out_of_place max bytes after line why is.2 (record {
    none = subst NoneHasReason (sym all.judged_are) is.0;
    first = subst (λ l. IsRefusedLine max l line why ⊎ IsTruncated max l line why) (sym all.contents_are) is.1;
    ended = ended;
  })
  all_as bytes all (Err _) is = absurd is

  -- what comes of it
  finished_may : (line : ℕ) (why : Refusal) → IsRefusedLine max cs line why ⊎ IsTruncated max cs line why → IsLineNumber max line
  finished_may line why = ⊎_elim
      (λ r. let here = refused_number max cs line why r in (here.0, omega (arith, here.1, within)))
      (λ (t : IsTruncated max cs line why). (omega (arith, t.numbered), omega (arith, t.numbered, within)))

module _ {R : Type 0} (remaining : R → Option (List ℕ)) (errors : R → Option ℕ) (max : ℕ) (old new : Source R) where
  abbrev Comes : Result Judged Fault → Type 0
  Comes = IsResultOf remaining errors (judging max (unread_of remaining new)) old new

  module _ (cs : List (List ℕ)) (within : length cs ≤ max) (read_on : HasReadOn errors old new) where
    pub comes-finished : IfSome (remaining (reader_of old)) (λ bytes. AreAll bytes cs) → IsReadWhole remaining old new
        → source_failed old ≡ false → (result : Result Judged Fault) → IsFinished max cs result → Comes result
    comes-finished all read fresh (Ok judged) is =
        answers remaining errors old new (judging max (unread_of remaining new)) judged
        (known_so (remaining (reader_of old)) (λ bytes. AreAll bytes cs)
        (λ bytes. IsJudgedAs max bytes (unread_of remaining new) judged)
        (λ bytes a. all_as max cs within (unread_of remaining new) read.0 bytes a (Ok judged) is) all) fresh read_on read
    comes-finished all read fresh (Err (fault.Refused line why)) is =
        refuses remaining errors old new (judging max (unread_of remaining new)) (fault.Refused line why)
        (known_so (remaining (reader_of old)) (λ bytes. AreAll bytes cs)
        (λ bytes. IsJudgedFault max bytes (unread_of remaining new) (fault.Refused line why))
        (λ bytes a. all_as max cs within (unread_of remaining new) read.0 bytes a (Err (fault.Refused line why)) is) all)
        (finished_may max cs within (unread_of remaining new) read.0 line why is.1) read_on
    comes-finished all read fresh (Err _) is = absurd is

  -- memory runs out
  pub comes-memory : HasReadOn errors old new → (f : Fault) → f ≡ fault.Memory → Comes (Err f)
  comes-memory read_on f is =
      rw is (refuses remaining errors old new (judging max (unread_of remaining new)) fault.Memory (of_any _ _ (λ bytes. tt)) tt read_on)

-- at a line that is overlong
pub overlong_ok : (max : ℕ) (cs : List (List ℕ)) (long : List ℕ) → length cs < max → (start after : Option (List ℕ)) (ended : Bool)
    → IfSome start (λ bytes. judged_contents bytes ≡ cs ++ long ∷ [])
    → IfSome start (λ bytes. IsSomeAnd after (IsGiven (λ before. has_overlong before ≡ true) bytes))
    → (reported : Reasons) → SomeHasReason (cs ++ long ∷ []) → ReportReasons (reasons_of (cs ++ long ∷ [])) reported
    → IfSome start (λ bytes. HaveReasons max bytes (record { bytes = after; ended = ended }) reported)
overlong_ok max cs long room None after ended is gave reported some tell = tt
overlong_ok max cs long room (Some bytes) after ended is gave reported some tell = record {
  within = omega (arith, ap length is, length-append cs (long ∷ []), room);
  why = some.0;
  some = subst (λ l. Contains (reasons_of l) (Some some.0)) (sym is) some.1;
  tell = subst (λ l. ReportReasons (reasons_of l) reported) (sym is) tell;
  whole = λ not. at after gave;
}
  where
    at : (a : Option (List ℕ)) → IsSomeAnd a (IsGiven (λ before. has_overlong before ≡ true) bytes)
        → IsSomeAnd a (IsGiven (λ before. ¬ MayGoOn max before) bytes)
    at None g = g
    at (Some unread) g = record { before = g.before; parts = g.parts; fact = λ goes. true≢false (sym g.fact ∙ goes.none_overlong) }

-- where a line is one too many
pub too_many_fault : (max : ℕ) (start after : Option (List ℕ)) (ended : Bool) (number : ℕ) → number ≡ max + 1
    → IfSome start (λ bytes. max < length (judged_contents bytes))
    → IfSome start (λ bytes. ended ≡ false → IsSomeAnd after (IsGiven (λ before. max < length (contents_of before)) bytes))
    → IfSome start (λ bytes. IsJudgedFault max bytes (record { bytes = after; ended = ended }) (fault.Refused number refusal.TooManyLines))
too_many_fault max None after ended number is over gave = tt
too_many_fault max (Some bytes) after ended number is over gave = record { over = over; numbered = is; whole = λ not. at after (gave not) }
  where
    at : (a : Option (List ℕ)) → IsSomeAnd a (IsGiven (λ before. max < length (contents_of before)) bytes)
        → IsSomeAnd a (IsGiven (λ before. ¬ MayGoOn max before) bytes)
    at None g = g
    at (Some unread) g = record { before = g.before; parts = g.parts; fact = λ goes. omega (arith, g.fact, goes.within) }

-- at a fault of the lines
pub comes-line_fault : {R : Type 0} (remaining : R → Option (List ℕ)) (errors : R → Option ℕ) (max : ℕ) (reader : ContentReader)
    (old between : Source R) (cs : List (List ℕ))
    → HasGiven AreJudgedAndRest remaining (remaining (reader_of old)) 10000 max reader between cs
    → HasReadOn errors old between → (reader' : ContentReader) (new : Source R) (l : LineFault)
    → IsNextOf remaining errors reader between (Err l) reader' new
    → IsResultOf remaining errors (judging max (unread_of remaining new)) old new (Err (of_line_fault l))
comes-line_fault remaining errors max reader old between cs so_far read_on reader' new (line_fault.Refused number why) next =
    let start = remaining (reader_of old) in
    let (numbered, same, over, gave) = given_too_many remaining errors start max reader between cs so_far reader' new number why next in
    refuses remaining errors old new (judging max (unread_of remaining new)) (fault.Refused number why)
    (subst (λ (w : Refusal). IfSome start (λ bytes. IsJudgedFault max bytes (unread_of remaining new) (fault.Refused number w)))
    (sym same) (too_many_fault max start (remaining (reader_of new)) (source_ended new) number numbered over gave))
    (omega (arith, numbered), omega (arith, numbered)) (read_on_both errors old between new read_on next.device)
comes-line_fault remaining errors max reader old between cs so_far read_on reader' new line_fault.Read next =
    refuses remaining errors old new (judging max (unread_of remaining new)) fault.Read
    (given_failed remaining errors (remaining (reader_of old)) max reader between cs so_far reader' new next) tt
    (failed_after errors old between new read_on next.device)
