-- What comes of a published extract and of updates, one after another, as bytes.
use Rattle.std.specs.Prelude.{◌≡◌, ◌⊎◌, ℕ, List, [], ◌∷◌, ◌++◌}
use Rattle.cif_columns.specs.Contents.{contents_of}
use Rattle.cif_feed.specs.{FeedRefusal.IsFirstOfFeed, HolidayCode.all_codes}
use Rattle.cif_feed.specs.PublishedParts.{BytesSpellPublished, PublishedParts, published_text}
use Rattle.cif_feed.specs.Updated.{IsLineRefused, IsUpdatedBy, refused_fault}
use Rattle.cif_feed.specs.declared.{changes.RefusedLine.RefusedLine, changes.Waived.Waived, feed_fault.FeedFault.FeedFault, feed_line.Feed.TheVariants.Update}

-- The updates that these bytes spell are done to a published extract, one after another. The lines that are waived are those of the one
-- update after those of the other.
abbrev pub AreUpdatesDone : Waived → ℕ → PublishedParts → List (List ℕ) → PublishedParts → List RefusedLine → Type 0
AreUpdatesDone how max old [] new waived = (new ≡ old) × (waived ≡ [])
AreUpdatesDone how max old (update ∷ updates) new waived = (mid : PublishedParts) × (first others : List RefusedLine)
    × IsUpdatedBy how old max update mid first × AreUpdatesDone how max mid updates new others × (waived ≡ first ++ others)

-- A published extract and updates are accepted, of at most max contents each, and this is written: the text of what the updates leave.
pub record IsWritten (how : Waived) (max : ℕ) (full : List ℕ) (updates : List (List ℕ)) (written : List ℕ) (waived : List RefusedLine)
    : Type 0 where
  pub old : PublishedParts
  pub spelled : BytesSpellPublished all_codes max full old
  pub new : PublishedParts
  pub done : AreUpdatesDone how max old updates new waived
  pub text : written ≡ published_text new

-- Why an update isn't done to a published extract: for the first refusal of its bytes, or for the first line that may not be done and isn't
-- waived.
abbrev pub IsRefusedFor : Waived → ℕ → PublishedParts → List ℕ → FeedFault → Type 0
IsRefusedFor how max old update fault = IsFirstOfFeed Update all_codes max (contents_of update) fault
    ⊎ ((line : RefusedLine) × IsLineRefused how old max update line × (fault ≡ refused_fault line))

-- One of the updates isn't done, for this, and those before it are.
abbrev pub IsOneRefused : Waived → ℕ → PublishedParts → List (List ℕ) → FeedFault → Type 0
IsOneRefused how max old [] fault = ⊥
IsOneRefused how max old (update ∷ updates) fault = IsRefusedFor how max old update fault
    ⊎ ((mid : PublishedParts) × (waived : List RefusedLine) × IsUpdatedBy how old max update mid waived
    × IsOneRefused how max mid updates fault)

-- A published extract is accepted, and of the updates one is refused for this.
pub record IsRefused (how : Waived) (max : ℕ) (full : List ℕ) (updates : List (List ℕ)) (fault : FeedFault) : Type 0 where
  pub old : PublishedParts
  pub spelled : BytesSpellPublished all_codes max full old
  pub refused : IsOneRefused how max old updates fault
