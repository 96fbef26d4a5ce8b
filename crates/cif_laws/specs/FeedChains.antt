-- What a full extract and updates leave, over the whole chain.
use Rattle.std.specs.List.{flat_map}
use Rattle.std.specs.Prelude.{Bool, List, [], ℕ, ⊤, ◌∷◌, ◌⊎◌}
use Rattle.cif_canon.specs.{Asked.window_asked, NormalForm.IsNormalFormOf, declared.asked.Asked.Asked}
use Rattle.cif_feed.specs.{Changes.HaveLastWord, PublishedParts.PublishedParts, RecordKeys.tiploc_key}
use Rattle.cif_feed.specs.{UpdateParts.AssociationKey, UpdateParts.BytesSpellUpdate, UpdateParts.ScheduleKey, UpdateParts.UpdateParts}
use Rattle.cif_feed.specs.{Updated.published_association_key, Updated.published_schedule_key, UpdatesInTurn.IsRefused, UpdatesInTurn.IsWritten}
use Rattle.cif_feed.specs.{WrittenPrepared.IsPreparedText, declared.changes.RefusedLine.RefusedLine, declared.changes.Waived.Waived}
use Rattle.cif_feed.specs.declared.{dropped.Dropped.Dropped, feed_fault.FeedFault.FeedFault, holidays.Holidays.Holidays}
use Rattle.cif_weeks.specs.declared.form.Form.{Form}
use Rattle.cif_laws.specs.{Feeds.SaysWhatFeedSays, PublishedFeed.PublishedFeed}

-- these updates are what the bytes spell, each in its place
abbrev pub SpellUpdates : ℕ → List (List ℕ) → List UpdateParts → Type 0
SpellUpdates max [] [] = ⊤
SpellUpdates max (bytes ∷ others) (u ∷ updates) = BytesSpellUpdate max bytes u × SpellUpdates max others updates
SpellUpdates max _ _ = ⊥

-- A full extract and updates have an outcome: this is written, with these lines waived; or an update is refused, for this.
abbrev pub HasOutcome : Waived → ℕ → List ℕ → List (List ℕ) → Type 0
HasOutcome how max full updates =
    ((written : List ℕ) × (waived : List RefusedLine) × IsWritten how max full updates written waived)
    ⊎ ((fault : FeedFault) × IsRefused how max full updates fault)

-- Of each key the new records are what the last line of all these updates puts that names it, or nothing, if that line deletes it; and if no
-- line names the key, what the old extract has of it.
pub record HaveLastWords (old : PublishedParts) (updates : List UpdateParts) (new : PublishedParts) : Type 0 where
  pub tiplocs : (k : List ℕ) → HaveLastWord tiploc_key old.tiplocs (flat_map (λ (u : UpdateParts). u.tiplocs) updates) new.tiplocs k
  pub associations : (k : AssociationKey) → HaveLastWord published_association_key old.associations
      (flat_map (λ (u : UpdateParts). u.associations) updates) new.associations k
  pub schedules : (k : ScheduleKey) → HaveLastWord published_schedule_key old.schedules
      (flat_map (λ (u : UpdateParts). u.schedules) updates) new.schedules k

-- The chain from published files to canonical bytes: a full extract and updates are written as one published extract, which is prepared with
-- holidays, and of that these are the canonical bytes.
pub record IsChain (how : Waived) (max limit : ℕ) (h : Holidays) (drops : Bool) (form : Form) (asked : Asked) (full first : List ℕ)
    (others : List (List ℕ)) (canonical : List ℕ) : Type 0 where
  pub published : List ℕ
  pub waived : List RefusedLine
  pub written : IsWritten how max full (first ∷ others) published waived
  pub prepared : List ℕ
  pub dropped : Dropped
  pub is_prepared : IsPreparedText h drops limit published prepared dropped
  pub normal : IsNormalFormOf form asked prepared canonical

-- What the canonical bytes say: on each date of the window that is asked for, what the records say that the updates leave, by the holidays.
-- These records are the last words of all lines.
pub record SaysWhatChainSays (h : Holidays) (drops : Bool) (asked : Asked) {how : Waived} {max limit : ℕ} {form : Form}
    {full first : List ℕ} {others : List (List ℕ)} {canonical : List ℕ}
    (chain : IsChain how max limit h drops form asked full first others canonical) : Type 0 where
  pub updates : List UpdateParts
  pub spelled : SpellUpdates max (first ∷ others) updates
  pub left : HaveLastWords chain.written.old updates chain.written.new
  pub says : SaysWhatFeedSays (window_asked asked chain.written.new.header) chain.normal.canonical.made
      (record { extract = chain.written.new; holidays = h; drops_clashes = drops })
