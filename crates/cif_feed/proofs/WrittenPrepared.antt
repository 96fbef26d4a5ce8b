-- A prepared extract that was written, or why it wasn't.
use Rattle.cif_feed.proofs.Names.{Bool, BytesSpellPublished, Dropped, E, Err, Extract, ExtractParts, FeedFault, FeedWrites, Full, G}
use Rattle.cif_feed.proofs.Names.{HandsOn, HolidayCode, HolidayCodes, Holidays, IfSome, IsDeviceOrMemory, IsPrepareFault, IsPreparedAs}
use Rattle.cif_feed.proofs.Names.{IsPreparedText, IsPublishedOf, IsResultOf, IsTrue, List, Makes, MatchResult, Names, Ok, Option, Prepares}
use Rattle.cif_feed.proofs.Names.{PublishedExtract, PublishedParts, Refuses, Result, Sink, Some, Source, Unread, WritesPrepared, X, [], ap}
use Rattle.cif_feed.proofs.Names.{codes_named, contents_of, extract_text, has_code, known_so, of_any, preparing, published_parts}
use Rattle.cif_feed.proofs.Names.{reading_published, refl, subst, text-spells, ℕ, ◌↔◌, ◌∙◌, ◌≡◌}
use Rattle.cif_extract.specs.declared.fault.Fault.TheVariants as fault
use Rattle.cif_feed.proofs.{ChangeLaws.bools, PreparedFits.prepared_fits, PublishedTexts.said_fits, SpelledFeeds.blames_none}

-- these are the codes that the holidays name
codes_are : (h : Holidays) (allowed : HolidayCodes) → ((code : HolidayCode) → IsTrue (has_code allowed code) ↔ Names h code)
    → allowed ≡ codes_named h
codes_are h a are =
    ap (λ (b : Bool). record a { bank = b }) (bools a.bank h.bank.is_named (are X).0 (are X).1)
    ∙ ap (λ (b : Bool). record a { bank = h.bank.is_named; edinburgh = b }) (bools a.edinburgh h.edinburgh.is_named (are E).0 (are E).1)
    ∙ ap (λ (b : Bool). record (codes_named h) { glasgow = b }) (bools a.glasgow h.glasgow.is_named (are G).0 (are G).1)

-- ---- of known bytes

module _ (h : Holidays) (drops : Bool) (max : ℕ) where
  prepared_text : (bytes : List ℕ) (p : PublishedParts) (x : ExtractParts) (dropped : Dropped)
      → BytesSpellPublished (codes_named h) max bytes p → IsPreparedAs h drops p x dropped
      → IsPreparedText h drops max bytes (extract_text x) dropped
  prepared_text bytes p x dropped spelled is = record {
    published = p;
    spelled = spelled;
    prepared = x;
    is = is;
    text_is = refl;
    spells = text-spells x (prepared_fits h drops p x (said_fits (codes_named h) (contents_of bytes) p spelled.spell) is.prepared);
  }

  module _ {W : Type 0} (contents : W → Option (List ℕ)) (errors : W → Option ℕ) (old new : Sink W) (start : Option (List ℕ))
      (p : PublishedExtract) (read : IfSome start (λ bytes. IsPublishedOf (codes_named h) max bytes p)) where
    known_text : (x : ExtractParts) (dropped : Dropped) → IsPreparedAs h drops (published_parts p) x dropped → (Q : List ℕ → Type 0)
        → ((bytes : List ℕ) → IsPreparedText h drops max bytes (extract_text x) dropped → Q bytes) → IfSome start Q
    known_text x dropped is Q so = known_so start (λ bytes. IsPublishedOf (codes_named h) max bytes p) Q
        (λ bytes r. so bytes (prepared_text bytes (published_parts p) x dropped r.spelled is)) read

    -- what was read was prepared
    pub read_prepared : (result : Result Dropped FeedFault) → WritesPrepared contents errors h drops (published_parts p) old new result
        → (text : List ℕ) × FeedWrites contents errors text old new result
        × IfSome start (λ bytes. Prepares h drops max bytes text result)
    read_prepared (Ok dropped) w = (extract_text w.0, w.2, known_text w.0 dropped w.1 _ (λ bytes is. is))
    read_prepared (Err (Extract fault.Write)) w = (extract_text w.0, w.3, known_text w.0 w.1 w.2 _ (λ bytes is. (w.1, is)))
    read_prepared (Err (Extract fault.Memory)) w = ([], w, of_any start _ (λ bytes. tt))
    read_prepared (Err _) w = absurd w

  -- and so it has its answer, or none since a device failed or memory ran out
  pub prepares : {W : Type 0} (contents : W → Option (List ℕ)) (errors : W → Option ℕ) (old new : Sink W) (x : PublishedExtract)
      (result : Result Dropped FeedFault) → WritesPrepared contents errors h drops (published_parts x) old new result
      → MatchResult result (Makes (reading_published (codes_named h) max) (preparing h max (Some x)) x)
      (Refuses (reading_published (codes_named h) max) (preparing h max (Some x)) x)
  prepares contents errors old new x (Ok dropped) w = record { answer = λ bytes is. is; whole = λ whole. tt }
  prepares contents errors old new x (Err (Extract fault.Write)) w = record { fault = λ bytes after is. tt; answers = tt; other = refl }
  prepares contents errors old new x (Err (Extract fault.Memory)) w = record { fault = λ bytes after is. tt; answers = tt; other = refl }
  prepares contents errors old new x (Err _) w = absurd w

module _ (h : Holidays) (max : ℕ) where
  -- the codes that may stand are those that the holidays name
  pub reads-named : {R : Type 0} (remaining : R → Option (List ℕ)) (errors : R → Option ℕ) (old new : Source R)
      (allowed : HolidayCodes) (result : Result PublishedExtract FeedFault)
      → ((code : HolidayCode) → IsTrue (has_code allowed code) ↔ Names h code)
      → IsResultOf remaining errors (reading_published allowed max) old new result
      → IsResultOf remaining errors (reading_published (codes_named h) max) old new result
  reads-named remaining errors old new allowed result are =
      subst (λ (a : HolidayCodes). IsResultOf remaining errors (reading_published a max) old new result) (codes_are h allowed are)

  pub reads-preparing : (kept : Option PublishedExtract) (f : FeedFault)
      → HandsOn (reading_published (codes_named h) max) (preparing h max kept) f
  reads-preparing kept (Extract fault.Write) = record { fault = λ bytes after is. tt; answers = λ is. tt; same = refl }
  reads-preparing kept _ = record { fault = λ bytes after is. is; answers = λ is. is; same = refl }

  -- what is spelled isn't blamed
  pub prepared_blames_none : (bytes : List ℕ) (after : Unread) (p : PublishedParts) → BytesSpellPublished (codes_named h) max bytes p
      → (f : FeedFault) → IsPrepareFault h max bytes after f → IsDeviceOrMemory f
  prepared_blames_none bytes after p s (Extract fault.Write) is = tt
  prepared_blames_none bytes after p s f is =
      blames_none Full (codes_named h) max bytes s.spell.lines (record { spell = s.spell.spelled; within = s.within }) after f is
