-- What a full extract and updates leave is what their last lines say, and so say the canonical bytes of what is prepared of it.
use Rattle.std.proofs.Common.{Bool, List, [], ap, append-nil, length, subst, sym, ℕ, ◌++◌, ◌∙◌, ◌∷◌, ◌≡◌, ◌≤◌}
use Rattle.std.proofs.lemmas.List.{map-append}
use Rattle.std.specs.List.{flat_map}
use Rattle.cif_canon.specs.{Asked.window_asked, declared.asked.Asked.Asked}
use Rattle.cif_columns.specs.Contents.{contents_of}
use Rattle.cif_extract.specs.Texts.{FitsColumns}
use Rattle.cif_feed.proofs.ChangeLaws.{after_all-alike, after_all-append, have_last_word, same_alike}
use Rattle.cif_feed.proofs.{FittingUpdates.updated_fits, SpelledFeeds.one_published, WiderCodes.wider_published}
use Rattle.cif_feed.proofs.PublishedTexts.{may_any, published-lines, published-spells, said_fits}
use Rattle.cif_feed.specs.Changes.{AreAfter, after_all, changes_of, parts_of, with_keys}
use Rattle.cif_feed.specs.{HolidayCode.all_codes, OfProfile.of_profile, PublishedParts.PublishedParts, PublishedParts.SpellPublished}
use Rattle.cif_feed.specs.{RecordKeys.tiploc_key, UpdateParts.UpdateParts, Updated.IsUpdated, Updated.published_association_key}
use Rattle.cif_feed.specs.{Updated.published_schedule_key, UpdatesInTurn.AreUpdatesDone, WrittenPrepared.codes_named}
use Rattle.cif_feed.specs.declared.{changes.RecordChange.RecordChange, changes.RefusedLine.RefusedLine, changes.Waived.Waived}
use Rattle.cif_feed.specs.declared.holidays.Holidays.{Holidays}
use Rattle.cif_weeks.specs.declared.form.Form.{Form}
use Rattle.cif_laws.proofs.CanonicalFeeds.{made-says}
use Rattle.cif_laws.specs.FeedChains.{HaveLastWords, IsChain, SaysWhatChainSays, SpellUpdates}
use Rattle.cif_laws.specs.{Feeds.SaysWhatFeedSays, PublishedFeed.PublishedFeed}

-- ---- changes after changes

module _ {K R : Type 0} (key : R → K) where
  chained : (old mid new : List R) (us vs : List (RecordChange K R)) → AreAfter key old us mid → AreAfter key mid vs new
      → AreAfter key old (us ++ vs) new
  chained old mid new us vs a b = record {
    same = a.same;
    tells = a.tells;
    after = b.after
        ∙ after_all-alike b.same a.same (same_alike b.same a.same b.tells a.tells) (with_keys key mid) (changes_of key vs)
        ∙ ap (λ rs. after_all a.same rs (changes_of key vs)) a.after
        ∙ sym (after_all-append a.same (with_keys key old) (changes_of key us) (changes_of key vs))
        ∙ ap (after_all a.same (with_keys key old)) (sym (map-append (parts_of key) us vs));
  }

  alone : (old new : List R) (us : List (RecordChange K R)) → AreAfter key old us new → AreAfter key old (us ++ []) new
  alone old new us a = subst (λ l. AreAfter key old l new) (sym (append-nil us)) a

-- ---- updates in turn

-- what all updates do to the records of an extract
record AreAllAfter (old : PublishedParts) (us : List UpdateParts) (new : PublishedParts) : Type 0 where
  pub tiplocs : AreAfter tiploc_key old.tiplocs (flat_map (λ (u : UpdateParts). u.tiplocs) us) new.tiplocs
  pub associations : AreAfter published_association_key old.associations (flat_map (λ (u : UpdateParts). u.associations) us)
      new.associations
  pub schedules : AreAfter published_schedule_key old.schedules (flat_map (λ (u : UpdateParts). u.schedules) us) new.schedules

one-after : (u : UpdateParts) (old new : PublishedParts) → IsUpdated u old new → AreAllAfter old (u ∷ []) new
one-after u old new is = record {
  tiplocs = alone tiploc_key old.tiplocs new.tiplocs u.tiplocs is.tiplocs;
  associations = alone published_association_key old.associations new.associations u.associations is.associations;
  schedules = alone published_schedule_key old.schedules new.schedules u.schedules is.schedules;
}

more-after : (u : UpdateParts) (us : List UpdateParts) (old mid new : PublishedParts) → IsUpdated u old mid → AreAllAfter mid us new
    → AreAllAfter old (u ∷ us) new
more-after u us old mid new is more = record {
  tiplocs = chained tiploc_key old.tiplocs mid.tiplocs new.tiplocs u.tiplocs (flat_map (λ (v : UpdateParts). v.tiplocs) us)
      is.tiplocs more.tiplocs;
  associations = chained published_association_key old.associations mid.associations new.associations u.associations
      (flat_map (λ (v : UpdateParts). v.associations) us) is.associations more.associations;
  schedules = chained published_schedule_key old.schedules mid.schedules new.schedules u.schedules
      (flat_map (λ (v : UpdateParts). v.schedules) us) is.schedules more.schedules;
}

-- the updates, all that they do, and that what they leave fits the columns of lines
record AreDone (max : ℕ) (old : PublishedParts) (bytes : List (List ℕ)) (new : PublishedParts) : Type 0 where
  pub updates : List UpdateParts
  pub spelled : SpellUpdates max bytes updates
  pub after : AreAllAfter old updates new
  pub fits : FitsColumns (of_profile old) → FitsColumns (of_profile new)

module _ (how : Waived) (max : ℕ) where
  all-done : (old : PublishedParts) (first : List ℕ) (others : List (List ℕ)) (new : PublishedParts) (waived : List RefusedLine)
      → AreUpdatesDone how max old (first ∷ others) new waived → AreDone max old (first ∷ others) new
  all-done old first [] new waived (mid, now, later, done, rest, all) =
      let is : new ≡ mid = rest.0 in
      record {
        updates = done.update ∷ [];
        spelled = (done.spelled, tt);
        after = subst (λ p. AreAllAfter old (done.update ∷ []) p) (sym is) (one-after done.update old mid done.updated);
        fits = λ fits. subst (λ p. FitsColumns (of_profile p)) (sym is)
            (updated_fits max first done.update old mid done.spelled done.updated fits);
      }
  all-done old first (second ∷ others) new waived (mid, now, later, done, rest, all) =
      let more = all-done mid second others new later rest in record {
        updates = done.update ∷ more.updates;
        spelled = (done.spelled, more.spelled);
        after = more-after done.update more.updates old mid new done.updated more.after;
        fits = λ fits. more.fits (updated_fits max first done.update old mid done.spelled done.updated fits);
      }

last-words : (old new : PublishedParts) (us : List UpdateParts) → AreAllAfter old us new → HaveLastWords old us new
last-words old new us a = record {
  tiplocs = λ k. have_last_word tiploc_key old.tiplocs (flat_map (λ (u : UpdateParts). u.tiplocs) us) new.tiplocs a.tiplocs k;
  associations = λ k. have_last_word published_association_key old.associations (flat_map (λ (u : UpdateParts). u.associations) us)
      new.associations a.associations k;
  schedules = λ k. have_last_word published_schedule_key old.schedules (flat_map (λ (u : UpdateParts). u.schedules) us) new.schedules
      a.schedules k;
}

-- ---- the chain

module _ (how : Waived) (max limit : ℕ) (h : Holidays) (drops : Bool) (form : Form) (asked : Asked) (full first : List ℕ)
    (others : List (List ℕ)) (canonical : List ℕ) (chain : IsChain how max limit h drops form asked full first others canonical) where
  abbrev new : PublishedParts
  new = chain.written.new

  done : AreDone max chain.written.old (first ∷ others) new
  done = all-done how max chain.written.old first others new chain.waived chain.written.done

  fits : FitsColumns (of_profile new)
  fits = done.fits (said_fits all_codes (contents_of full) chain.written.old chain.written.spelled.spell)

  -- what is prepared is what the updates leave
  same : chain.is_prepared.published ≡ new
  same =
      let text = chain.written.text in
      let lines = ap contents_of text ∙ published-lines all_codes new fits (may_any new.schedules) in
      let within = subst (λ (ls : List (List ℕ)). length ls ≤ limit) lines chain.is_prepared.spelled.within in
      one_published all_codes (contents_of chain.published) chain.is_prepared.published new
      (wider_published (codes_named h) (contents_of chain.published) chain.is_prepared.published chain.is_prepared.spelled.spell)
      (subst (λ t. SpellPublished all_codes (contents_of t) new) (sym text)
      (published-spells all_codes new fits (may_any new.schedules) limit within).spell)

  pub chain-says : SaysWhatChainSays h drops asked chain
  chain-says = record {
    updates = done.updates;
    spelled = done.spelled;
    left = last-words chain.written.old new done.updates done.after;
    says = subst (λ (p : PublishedParts). SaysWhatFeedSays (window_asked asked p.header) chain.normal.canonical.made
        (record { extract = p; holidays = h; drops_clashes = drops })) same
        (made-says chain.is_prepared form asked canonical chain.normal);
  }
