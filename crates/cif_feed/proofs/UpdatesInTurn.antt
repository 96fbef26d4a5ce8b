-- An update that was read is done, or a line of it is refused; and updates are done one after another.
use Rattle.cif_feed.proofs.Names.{AlreadyThere, AreAfter, AreRefused, AreRefusedLines, BytesSpellPublished, BytesSpellUpdate, Err}
use Rattle.cif_feed.proofs.Names.{FeedFault, FitsColumns, HandsOn, Header, IfOk, IsDone, IsFailure, IsLineRefused, IsUpdateFault}
use Rattle.cif_feed.proofs.Names.{IsUpdateOf, IsUpdated, IsUpdatedBy, List, Makes, MatchResult, MayBeDone, NotThere, Ok}
use Rattle.cif_feed.proofs.Names.{PublishedAssociation, PublishedParts, PublishedSchedule, RecordChange, RefusedLine, Refuses, Result, Some}
use Rattle.cif_feed.proofs.Names.{Tiploc, Unread, UpdateParts, [], all_codes, ap, append-nil, append_assoc, append_cancel_left, changes_of}
use Rattle.cif_feed.proofs.Names.{cond, contents_of, false, inr, last_line, length, of_profile, published_lines, published_text}
use Rattle.cif_feed.proofs.Names.{reading_update, refl, refused_header, reported_once, same_values, subst, sym}
use Rattle.cif_feed.{proofs.Names.None, specs.Waived.first_refused, specs.declared.changes.Waived.Waived}
use Rattle.cif_feed.proofs.Names.{update_parts, updating, with_keys, ℕ, ⊎_elim, ◌++◌, ◌==◌, ◌↔◌, ◌∙◌, ◌∷◌, ◌≡◌, ◌≤◌}
use Rattle.cif_feed.proofs.{ChangeLaws.after_all-alike, ChangeLaws.refusals-alike, ChangeLaws.same_alike, FittingUpdates.updated_fits}
use Rattle.cif_feed.proofs.PublishedTexts.{may_any, published-lines, published-spells, said_fits}
use Rattle.cif_feed.proofs.SpelledFeeds.{one_published, one_update, spelled_first, update_blames_none}
use Rattle.cif_feed.specs.UpdatesInTurn.{AreUpdatesDone, IsOneRefused, IsRefused, IsRefusedFor, IsWritten}
use Rattle.cif_feed.specs.declared.{feed_fault.FeedFault.TheVariants.OutOfSequence, update.Outcome.Outcome, update.Update.Update}
use Rattle.cif_feed.specs.declared.feed_line.Feed.TheVariants as feed

-- ---- lines that are reported once

pub last-append : (p : ℕ) (xs ys : List RefusedLine) → last_line p (xs ++ ys) ≡ last_line (last_line p xs) ys
last-append p [] ys = refl
last-append p (x ∷ xs) ys = last-append x.line xs ys

pub reported-append : (p : ℕ) (xs ys : List RefusedLine) →
    reported_once p (xs ++ ys) ≡ reported_once p xs ++ reported_once (last_line p xs) ys
reported-append p [] ys = refl
reported-append p (x ∷ xs) ys =
    ap (λ l. cond (x.line == p) [] (x ∷ []) ++ l) (reported-append x.line xs ys)
    ∙ sym (append_assoc (cond (x.line == p) [] (x ∷ [])) (reported_once x.line xs) (reported_once (last_line x.line xs) ys))

-- one line more
pub reported-more : (p : ℕ) (xs : List RefusedLine) (x : RefusedLine)
    → reported_once p (xs ++ x ∷ []) ≡ reported_once p xs ++ cond (x.line == last_line p xs) [] (x ∷ [])
reported-more p xs x =
    reported-append p xs (x ∷ []) ∙ ap (λ l. reported_once p xs ++ l) (append-nil (cond (x.line == last_line p xs) [] (x ∷ [])))

pub last-more : (p : ℕ) (xs : List RefusedLine) (x : RefusedLine) → last_line p (xs ++ x ∷ []) ≡ x.line
last-more p xs x = last-append p xs (x ∷ [])

-- of three lists
pub reported-three : (xs ys zs : List RefusedLine) → reported_once 0 xs ++ (reported_once (last_line 0 xs) ys
    ++ reported_once (last_line (last_line 0 xs) ys) zs) ≡ reported_once 0 (xs ++ (ys ++ zs))
reported-three xs ys zs = sym (reported-append 0 xs (ys ++ zs) ∙ ap (λ l. reported_once 0 xs ++ l) (reported-append (last_line 0 xs) ys zs))

-- ---- one update

-- there is one list of lines that may not be done
one_refused : {K R : Type 0} (key : R → K) (old : List R) (changes : List (RecordChange K R)) (p q : List RefusedLine)
    → AreRefused key old changes p → AreRefused key old changes q → p ≡ q
one_refused key old changes p q a b =
    a.are ∙ refusals-alike a.same b.same (same_alike a.same b.same a.tells b.tells) (with_keys key old) (changes_of key changes) ∙ sym b.are

pub one_list : (u : UpdateParts) (old : PublishedParts) (p q : List RefusedLine) → AreRefusedLines u old p → AreRefusedLines u old q → p ≡ q
one_list u old p q a b =
    a.are
    ∙ ap (λ l. refused_header u old ++ reported_once 0 (l ++ (a.associations ++ a.schedules)))
    (one_refused _ old.tiplocs u.tiplocs a.tiplocs b.tiplocs a.of_tiplocs b.of_tiplocs)
    ∙ ap (λ l. refused_header u old ++ reported_once 0 (b.tiplocs ++ (l ++ a.schedules)))
    (one_refused _ old.associations u.associations a.associations b.associations a.of_associations b.of_associations)
    ∙ ap (λ l. refused_header u old ++ reported_once 0 (b.tiplocs ++ (b.associations ++ l)))
    (one_refused _ old.schedules u.schedules a.schedules b.schedules a.of_schedules b.of_schedules) ∙ sym b.are

module _ (how : Waived) (max : ℕ) (old new : PublishedParts) where
  pub reads-updating : (f : FeedFault) → HandsOn (reading_update max) (updating how old new max) f
  reads-updating (OutOfSequence line) = record { fault = λ bytes after h. absurd h; answers = λ h. tt; same = refl }
  reads-updating (NotThere line) = record { fault = λ bytes after h. absurd h; answers = λ h. tt; same = refl }
  reads-updating (AlreadyThere line) = record { fault = λ bytes after h. absurd h; answers = λ h. tt; same = refl }
  reads-updating _ = record { fault = λ bytes after h. h; answers = λ h. h; same = refl }

  line_refused : (u : Update) (waived : List RefusedLine) → AreRefusedLines (update_parts u) old waived → (line : RefusedLine)
      → first_refused how waived ≡ Some line → (bytes : List ℕ) → IsUpdateOf max bytes u
      → IsLineRefused how old max bytes line
  line_refused u waived refused line is bytes h = record {
    update = update_parts u;
    spelled = h.spelled;
    lines = waived;
    refused = refused;
    first = is;
  }

  -- an update that was read is done, or a line of it is refused
  pub updates : (u : Update) (waived : List RefusedLine) → IsUpdated (update_parts u) old new
      → AreRefusedLines (update_parts u) old waived → (result : Result Outcome FeedFault) → IsDone how waived result
      → IfOk result (λ done. (done.counts ≡ u.counts) × (done.passed ≡ u.passed))
      → MatchResult result (Makes (reading_update max) (updating how old new max) u)
      (Refuses (reading_update max) (updating how old new max) u)
  updates u waived updated refused (Ok done) is said = record {
    answer = λ bytes h. record {
      done = record {
        update = update_parts u;
        spelled = h.spelled;
        updated = updated;
        refused = subst (AreRefusedLines (update_parts u) old) (sym is.0) refused;
        all_waived = ap (first_refused how) is.0 ∙ is.1;
      };
      counts = said.0 ∙ h.counts;
      passed = said.1 ∙ h.passed;
    };
    whole = λ whole. tt;
  }
  updates u waived updated refused (Err (OutOfSequence line)) is said = record {
    fault = λ bytes after. line_refused u waived refused _ is bytes;
    answers = tt;
    other = refl;
  }
  updates u waived updated refused (Err (NotThere line)) is said = record {
    fault = λ bytes after. line_refused u waived refused _ is bytes;
    answers = tt;
    other = refl;
  }
  updates u waived updated refused (Err (AlreadyThere line)) is said = record {
    fault = λ bytes after. line_refused u waived refused _ is bytes;
    answers = tt;
    other = refl;
  }
  updates u waived updated refused (Err _) is said = absurd is

-- an update that may be done isn't refused
module _ (how : Waived) (max : ℕ) (old : PublishedParts) (bytes : List ℕ) (after : Unread) (u : UpdateParts)
    (s : BytesSpellUpdate max bytes u) (may : MayBeDone how old u) where
  refused_no : (line : RefusedLine) → IsLineRefused how old max bytes line → ⊥
  refused_no line h =
      let same = one_update (contents_of bytes) h.update u h.spelled.spell s.spell in
      let none : first_refused how h.lines ≡ None = may h.lines (subst (λ w. AreRefusedLines w old h.lines) same h.refused) in
      let some : first_refused how h.lines ≡ Some line = h.first in
      cc

  pub updated_blames_none : (f : FeedFault) → IsUpdateFault how old max bytes after f → IsFailure f
  updated_blames_none (OutOfSequence line) h = absurd (refused_no _ h)
  updated_blames_none (NotThere line) h = absurd (refused_no _ h)
  updated_blames_none (AlreadyThere line) h = absurd (refused_no _ h)
  updated_blames_none f h = update_blames_none max bytes after u s f h

-- ---- one after another

-- ---- what is done

-- changes leave one list
one_after : {K R : Type 0} (key : R → K) (old : List R) (cs : List (RecordChange K R)) (p q : List R) → AreAfter key old cs p
    → AreAfter key old cs q → p ≡ q
one_after {K} {R} key old cs p q a b =
    same_values (λ (r : R). (key r, r)) (λ x y e. ap (λ (v : K × R). v.1) e) p q
    (a.after ∙ after_all-alike a.same b.same (same_alike a.same b.same a.tells b.tells) (with_keys key old) (changes_of key cs)
    ∙ sym b.after)

one_updated : (u : UpdateParts) (old p q : PublishedParts) → IsUpdated u old p → IsUpdated u old q → p ≡ q
one_updated u old p q a b =
    ap (λ (v : Header). record p { header = v }) (a.header ∙ sym b.header)
    ∙ ap (λ (v : List Tiploc). record p { header = q.header; tiplocs = v })
    (one_after _ old.tiplocs u.tiplocs p.tiplocs q.tiplocs a.tiplocs b.tiplocs)
    ∙ ap (λ (v : List PublishedAssociation). record q { associations = v; schedules = p.schedules })
    (one_after _ old.associations u.associations p.associations q.associations a.associations b.associations)
    ∙ ap (λ (v : List PublishedSchedule). record q { schedules = v })
    (one_after _ old.schedules u.schedules p.schedules q.schedules a.schedules b.schedules)

module _ (how : Waived) (max : ℕ) where
  record AreSame (p q : PublishedParts) (v w : List RefusedLine) : Type 0 where
    parts : p ≡ q
    lines : v ≡ w

  -- an update is done in one way
  one_by : (old : PublishedParts) (bytes : List ℕ) (p q : PublishedParts) (v w : List RefusedLine) → IsUpdatedBy how old max bytes p v
      → IsUpdatedBy how old max bytes q w → AreSame p q v w
  one_by old bytes p q v w a b =
      let same = one_update (contents_of bytes) b.update a.update b.spelled.spell a.spelled.spell in
      record {
        parts = one_updated a.update old p q a.updated (subst (λ u. IsUpdated u old q) same b.updated);
        lines = one_list a.update old v w a.refused (subst (λ u. AreRefusedLines u old w) same b.refused);
      }

  -- and so are several
  one_done : (old : PublishedParts) (us : List (List ℕ)) (p q : PublishedParts) (v w : List RefusedLine)
      → AreUpdatesDone how max old us p v → AreUpdatesDone how max old us q w → AreSame p q v w
  one_done old [] p q v w a b = record { parts = a.0 ∙ sym b.0; lines = a.1 ∙ sym b.1 }
  one_done old (u ∷ us) p q v w a b =
      let (mid, first, others, one, more, all) = a in
      let (mid₂, first₂, others₂, one₂, more₂, all₂) = b in
      let same = one_by old u mid mid₂ first first₂ one one₂ in
      let rest = one_done mid us p q others others₂ more (subst (λ m. AreUpdatesDone how max m us q others₂) (sym same.parts) more₂) in
      record { parts = rest.parts; lines = all ∙ ap (λ l. l ++ others) same.lines ∙ ap (λ l. first₂ ++ l) rest.lines ∙ sym all₂ }

  -- what fits stays such
  done_fits : (old : PublishedParts) (us : List (List ℕ)) (new : PublishedParts) (w : List RefusedLine)
      → AreUpdatesDone how max old us new w → FitsColumns (of_profile old) → FitsColumns (of_profile new)
  done_fits old [] new w done fits = subst (λ p. FitsColumns (of_profile p)) (sym done.0) fits
  done_fits old (u ∷ us) new w done fits =
      let (mid, first, others, one, more, all) = done in
      done_fits mid us new others more (updated_fits max u one.update old mid one.spelled one.updated fits)

  -- ---- one list of updates after another

  record AreDoneInTurn (old : PublishedParts) (us vs : List (List ℕ)) (new : PublishedParts) (w : List RefusedLine) : Type 0 where
    mid : PublishedParts
    first : List RefusedLine
    later : List RefusedLine
    one : AreUpdatesDone how max old us mid first
    other : AreUpdatesDone how max mid vs new later
    all : w ≡ first ++ later

  parted : (old : PublishedParts) (us vs : List (List ℕ)) (new : PublishedParts) (w : List RefusedLine)
      → AreUpdatesDone how max old (us ++ vs) new w → AreDoneInTurn old us vs new w
  parted old [] vs new w done = record { mid = old; first = []; later = w; one = (refl, refl); other = done; all = refl }
  parted old (u ∷ us) vs new w done =
      let (next, first, others, one, more, all) = done in
      let rest = parted next us vs new others more in
      record {
        mid = rest.mid;
        first = first ++ rest.first;
        later = rest.later;
        one = (next, first, rest.first, one, rest.one, refl);
        other = rest.other;
        all = all ∙ ap (λ l. first ++ l) rest.all ∙ sym (append_assoc first rest.first rest.later);
      }

  joined : (old : PublishedParts) (us vs : List (List ℕ)) (mid new : PublishedParts) (v w : List RefusedLine)
      → AreUpdatesDone how max old us mid v → AreUpdatesDone how max mid vs new w
      → AreUpdatesDone how max old (us ++ vs) new (v ++ w)
  joined old [] vs mid new v w one other =
      subst (λ l. AreUpdatesDone how max old vs new (l ++ w)) (sym one.1) (subst
      (λ p. AreUpdatesDone how max p vs new w) one.0 other)
  joined old (u ∷ us) vs mid new v w one other =
      let (next, first, others, done, more, all) = one in (
        next,
        first,
        others ++ w,
        done,
        joined next us vs mid new others w more other,
        ap (λ l. l ++ w) all ∙ append_assoc first others w,
      )

  -- ---- refusals

  -- an update that is done isn't refused
  not_both : (old : PublishedParts) (u : List ℕ) (new : PublishedParts) (w : List RefusedLine) (fault : FeedFault)
      → IsUpdatedBy how old max u new w → IsRefusedFor how max old u fault → ⊥
  not_both old u new w fault done refused = ⊎_elim
      (λ first. let s = done.spelled in
      spelled_first feed.Update all_codes max (contents_of u) s.spell.lines s.within fault s.spell.spelled first)
      (λ some. by some.0 some.1)
      refused
    where
      by : (line : RefusedLine) → IsLineRefused how old max u line → ⊥
      by line r =
          let same = one_update (contents_of u) r.update done.update r.spelled.spell done.spelled.spell in
          let lines : r.lines ≡ w =
          one_list done.update old r.lines w (subst (λ x. AreRefusedLines x old r.lines) same r.refused) done.refused in
          let none : first_refused how r.lines ≡ None = ap (first_refused how) lines ∙ done.all_waived in
          let some : first_refused how r.lines ≡ Some line = r.first in
          cc

  -- behind updates that are done it is one of the others
  refused_later : (old : PublishedParts) (us vs : List (List ℕ)) (mid : PublishedParts) (w : List RefusedLine) (fault : FeedFault)
      → AreUpdatesDone how max old us mid w → IsOneRefused how max old (us ++ vs) fault ↔ IsOneRefused how max mid vs fault
  refused_later old [] vs mid w fault done = (
    subst (λ p. IsOneRefused how max p vs fault) (sym done.0),
    subst (λ p. IsOneRefused how max p vs fault) done.0,
  )
  refused_later old (u ∷ us) vs mid w fault done =
      let (next, first, others, one, more, all) = done in
      let later = refused_later next us vs mid others fault more in (
        λ refused. ⊎_elim
            (λ here. absurd (not_both old u next first fault one here))
            (λ some. later.0 (subst (λ p. IsOneRefused how max p (us ++ vs) fault)
            (one_by old u some.0 next some.1 first some.2 one).parts some.3))
            refused,
        λ refused. inr (next, first, one, later.1 refused),
      )

  -- ---- as bytes

  module _ (full : List ℕ) (us : List (List ℕ)) (between : List ℕ) (waived : List RefusedLine)
      (written : IsWritten how max full us between waived) (within : length (contents_of between) ≤ max) where
    fits : FitsColumns (of_profile written.new)
    fits =
        done_fits written.old us written.new waived written.done (said_fits all_codes (contents_of full) written.old written.spelled.spell)

    -- what the first run leaves is what the second reads
    pub read_again : BytesSpellPublished all_codes max between written.new
    read_again =
        let p = written.new in
        let lines : contents_of between ≡ published_lines p =
        ap contents_of written.text ∙ published-lines all_codes p fits (may_any p.schedules) in
        subst (λ b. BytesSpellPublished all_codes max b p) (sym written.text)
        (published-spells all_codes p fits (may_any p.schedules) max (subst (λ (l : List (List ℕ)). length l ≤ max) lines within))

    same_read : (p : PublishedParts) → BytesSpellPublished all_codes max between p → p ≡ written.new
    same_read p s = one_published all_codes (contents_of between) p written.new s.spell read_again.spell

    same_start : (p : PublishedParts) → BytesSpellPublished all_codes max full p → p ≡ written.old
    same_start p s = one_published all_codes (contents_of full) p written.old s.spell written.spelled.spell

    pub in_turn : (vs : List (List ℕ)) (out : List ℕ) (later : List RefusedLine)
        → IsWritten how max full (us ++ vs) out (waived ++ later) ↔ IsWritten how max between vs out later
    in_turn vs out later = (
      λ all.
          let two = parted all.old us vs all.new (waived ++ later) all.done in
          let one = one_done written.old us two.mid written.new two.first waived
          (subst (λ p. AreUpdatesDone how max p us two.mid two.first) (same_start all.old all.spelled) two.one) written.done in
          let rest : two.later ≡ later = append_cancel_left waived two.later later (ap (λ l. l ++ two.later) (sym one.lines)
          ∙ sym two.all) in
          record {
            old = written.new;
            spelled = read_again;
            new = all.new;
            done = subst (λ l. AreUpdatesDone how max written.new vs all.new l) rest
                (subst (λ p. AreUpdatesDone how max p vs all.new two.later) one.parts two.other);
            text = all.text;
          },
      λ second. record {
        old = written.old;
        spelled = written.spelled;
        new = second.new;
        done = joined written.old us vs written.new second.new waived later written.done
            (subst (λ p. AreUpdatesDone how max p vs second.new later) (same_read second.old second.spelled) second.done);
        text = second.text;
      },
    )

    pub refused_in_turn : (vs : List (List ℕ)) (fault : FeedFault)
        → IsRefused how max full (us ++ vs) fault ↔ IsRefused how max between vs fault
    refused_in_turn vs fault =
        let later = refused_later written.old us vs written.new waived fault written.done in (
          λ all. record {
            old = written.new;
            spelled = read_again;
            refused = later.0 (subst (λ p. IsOneRefused how max p (us ++ vs) fault) (same_start all.old all.spelled) all.refused);
          },
          λ second. record {
            old = written.old;
            spelled = written.spelled;
            refused = later.1 (subst (λ p. IsOneRefused how max p vs fault) (same_read second.old second.spelled) second.refused);
          },
        )

  -- one text is written at most
  pub one_written : (full : List ℕ) (us : List (List ℕ)) (b c : List ℕ) (v w : List RefusedLine) → IsWritten how max full us b v
      → IsWritten how max full us c w → (b ≡ c) × (v ≡ w)
  one_written full us b c v w p q =
      let start = one_published all_codes (contents_of full) q.old p.old q.spelled.spell p.spelled.spell in
      let same = one_done p.old us p.new q.new v w p.done (subst (λ x. AreUpdatesDone how max x us q.new w) start q.done) in
      (p.text ∙ ap published_text same.parts ∙ sym q.text, same.lines)

  -- and none, if one is refused
  none_written : (old : PublishedParts) (us : List (List ℕ)) (new : PublishedParts) (w : List RefusedLine) (fault : FeedFault)
      → AreUpdatesDone how max old us new w → IsOneRefused how max old us fault → ⊥
  none_written old [] new w fault done refused = refused
  none_written old (u ∷ us) new w fault done refused =
      let (next, first, others, one, more, all) = done in ⊎_elim
      (λ here. not_both old u next first fault one here)
      (λ some. none_written next us new others fault more (subst (λ p. IsOneRefused how max p us fault)
      (one_by old u some.0 next some.1 first some.2 one).parts some.3))
      refused

  pub not_refused : (full : List ℕ) (us : List (List ℕ)) (b : List ℕ) (w : List RefusedLine) (fault : FeedFault)
      → IsWritten how max full us b w → IsRefused how max full us fault → ⊥
  not_refused full us b w fault p q =
      let start = one_published all_codes (contents_of full) q.old p.old q.spelled.spell p.spelled.spell in
      none_written p.old us p.new w fault p.done (subst (λ x. IsOneRefused how max x us fault) start q.refused)
